pub mod Commas
pub mod Described
pub mod Gathers
pub mod Placed
pub mod Progress
pub mod ReadSoFar
pub mod RoundTrip
pub mod Turns
