-- The biases of a bake, a normal's basis and hemisphere directions, and the light that a surface gives back.
pub mod Biases
pub mod Hemisphere
pub mod Light
pub mod Lamps
pub mod LightLaws
