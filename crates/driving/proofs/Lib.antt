pub mod Bad
pub mod Done
pub mod Good
pub mod Laid
