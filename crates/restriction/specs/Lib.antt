-- What `set_first` returns and leaves (Outcome). Private has how it goes over the entries.
pub mod Outcome
pub mod Private
