pub mod Fields
pub mod Readers
