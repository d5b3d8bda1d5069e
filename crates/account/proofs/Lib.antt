-- What holds of every account.
pub mod ListLaws
pub mod LineLaws
pub mod RoomLaws
pub mod AccountLaws
pub mod AccountRight
