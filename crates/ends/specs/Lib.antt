-- The two ends of a bake.
pub mod Ends
pub mod EndsLaws
