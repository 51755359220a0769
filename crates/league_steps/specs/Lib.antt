-- The steps of a report.
pub mod Steps
