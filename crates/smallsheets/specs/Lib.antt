pub mod Rows
pub mod Small
pub mod Table
