pub mod Faults
pub mod Keeping
pub mod LampRigs
pub mod Lamps
pub mod Words
