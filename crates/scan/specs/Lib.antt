-- The two scans over a scene's triangles: what they are, and what follows.
pub mod Nearest
pub mod Transmittance
pub mod FirstHit
pub mod OpaqueLaws
