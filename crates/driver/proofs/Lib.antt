pub mod Slips
pub mod Steps
pub mod Undone
pub mod Well
