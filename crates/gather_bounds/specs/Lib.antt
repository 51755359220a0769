-- How large what gather writes can be, and that the departure of its rays' test never shows.
pub mod Each
pub mod LightBounds
pub mod SceneBounds
pub mod GatherBounds
pub mod RayBounds
