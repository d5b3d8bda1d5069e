-- The loops' steps (ScanLaws), and what the definitions of Groups have to do with the rows (PartLaws).
pub mod ScanLaws
pub mod PartLaws
