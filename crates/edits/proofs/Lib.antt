pub mod Applied
pub mod Asked
pub mod KeptPairs
pub mod PutIn
pub mod ReplaceAnswers
pub mod SwapLaws
pub mod SwapLists
pub mod SwapSheets
