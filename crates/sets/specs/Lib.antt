pub mod Contents
pub mod Member
pub mod Sets
