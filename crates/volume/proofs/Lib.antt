pub mod Calls
pub mod Zeros
