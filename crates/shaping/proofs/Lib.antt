pub mod CheckLaws
pub mod GroupLaws
pub mod LoosenLaws
pub mod Outlines
pub mod RangeLaws
