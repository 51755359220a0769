pub mod Scan
pub mod Judge
