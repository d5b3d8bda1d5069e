-- What `next_move` returns (Next), and what holds of it, over a whole game too (NextRight). Private has how the rows that fit are found.
pub mod Next
pub mod NextRight
pub mod Private
