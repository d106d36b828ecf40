pub mod Faults
pub mod Joining
pub mod Loading
pub mod Stages
pub mod Tasks
pub mod Weeks
