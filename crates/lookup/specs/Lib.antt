-- Lookups: the light and the coefficients at a position, and one voxel's sixteen numbers.
pub mod Place
pub mod Lookup
pub mod PlaceLaws
pub mod LookupLaws
pub mod LookedLaws
pub mod LookupFigures
pub mod BlendLaws
