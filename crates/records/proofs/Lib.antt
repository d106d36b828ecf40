pub mod FirstField
pub mod NextLine
pub mod SameText
pub mod Spelling
