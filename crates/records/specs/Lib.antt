pub mod Lines
pub mod Reading
pub mod Records
pub mod Tabs
pub mod Words
