pub mod Effects
pub mod Laid
pub mod Lowest
pub mod MaskLaws
pub mod PartSpans
pub mod RowLaws
pub mod SheetRules
