mod Adding
mod Columns
pub mod Decoding
mod Figures
mod Geometry
mod Kind
mod Passes
mod Rosters
pub mod Showing
mod Small
pub mod Stepping
pub mod Telling
mod Walking
pub mod Ruling
