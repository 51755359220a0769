-- The samples of a triangle, and the cell that each falls into.
pub mod Samples
pub mod CastLaws
pub mod WholeOrder
pub mod FallsLaws
pub mod CountLaws
pub mod SamplesLaws
