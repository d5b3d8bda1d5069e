-- What the functions of `growth` make of the tables.
pub mod Growth
