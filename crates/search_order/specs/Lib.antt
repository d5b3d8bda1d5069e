-- The sorted places of lent rows. Private has the order as a relation.
pub mod Order
pub mod Private
