pub mod Demanded
pub mod Lasting
pub mod Figure
