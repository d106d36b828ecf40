pub mod DoesWeek
pub mod Week
