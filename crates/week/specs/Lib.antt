pub mod Editing
pub mod Laying
pub mod Output
