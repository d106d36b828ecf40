pub mod Lawful
pub mod Perform
pub mod Prices
