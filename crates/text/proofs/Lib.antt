pub mod Cuts
pub mod Lists
pub mod Numerals
pub mod Rises
