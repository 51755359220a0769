-- How large the light is that a sun pass writes, and the numbers of its rays.
pub mod BeforeBounds
pub mod BlurBounds
pub mod LightBounds
pub mod RayBounds
pub mod SolidFigures
