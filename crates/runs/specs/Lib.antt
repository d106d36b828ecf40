pub mod Faults
pub mod Moves
pub mod Views
