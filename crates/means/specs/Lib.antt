-- The 3×3×3 mean: what it is, what the inner loops give, what the box holds.
pub mod Box
pub mod Sums
pub mod BoxLaws
