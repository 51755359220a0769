-- The hits of a ray along a list of triangles: in which order they stand, and what follows.
pub mod Hits
pub mod Merge
pub mod Order
pub mod BeforeLaws
pub mod MergeLaws
pub mod PairedLaws
pub mod HitLaws
