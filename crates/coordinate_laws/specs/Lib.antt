-- The coordinates of positions and samples in an accepted grid are finite.
pub mod Coordinates
pub mod LookupCoordinates
pub mod SampleCoordinates
