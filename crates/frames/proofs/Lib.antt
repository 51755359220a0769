pub mod Clear
pub mod Whole
