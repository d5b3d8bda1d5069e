-- The laws of the definitions in `specs/`: the stable partition, the order that it makes, the rows' places, and rows between two others.
pub mod PartitionLaws
pub mod OrderLaws
pub mod PlaceLaws
pub mod BetweenLaws
