-- Spherical harmonics of four coefficients: projection, irradiance, evaluation and the brightness floor.
pub mod Harmonics
pub mod HarmonicsLaws
