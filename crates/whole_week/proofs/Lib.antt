pub mod Answering
pub mod Asking
pub mod Edited
pub mod Promising
pub mod Saving
pub mod Working
