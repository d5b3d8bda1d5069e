-- Worked names; lists of names; the meaning by position is the meaning by name; closing keeps the meaning; the clauses of a gate list have the
-- circuit's.
pub mod ByHand
pub mod NameLaws
pub mod PlaceLaws
pub mod Positions
pub mod Negation
pub mod CauseLaws
pub mod Closing
pub mod ClosingRight
pub mod GateHolds
pub mod GateLaws
pub mod CircuitRight
