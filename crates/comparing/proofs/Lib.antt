pub mod Factorials
pub mod Pushed
