mod Behind
pub mod Laid
mod Listing
pub mod Prices
mod ReadEdits
mod Working
mod Writing
