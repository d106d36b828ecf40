pub mod Calls
pub mod Drivings
pub mod Meanings
pub mod Theorems
