-- The laws behind the contract: any preferences serve, the search's causes and outcome make the judge's; the theorem that an accepted claim is
-- the verdict; and the contract from what the search returned.
pub mod Preferences
pub mod Causes
pub mod Outcome
pub mod Verdict
pub mod Contract
