pub mod Laws
pub mod HouseRule
