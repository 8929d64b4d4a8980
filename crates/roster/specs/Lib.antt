pub mod Listings
pub mod Targets
pub mod Rosters
pub mod Places
pub mod Refusals
pub mod Additions
pub mod Judgements
pub mod Volumes
