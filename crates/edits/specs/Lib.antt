pub mod Applying
pub mod Replacing
pub mod Swaps
