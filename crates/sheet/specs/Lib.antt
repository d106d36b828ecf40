pub mod Faults
pub mod Masks
pub mod Rows
pub mod Sheets
pub mod Verdicts
