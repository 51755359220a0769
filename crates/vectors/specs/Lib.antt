-- Vectors of three floats, a vector out of a list, and the rays that start from a point.
pub mod Vectors
pub mod Places
pub mod Rays
