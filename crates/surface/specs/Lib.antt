-- A surface that a ray has met, its rays, and the light that it sends back.
pub mod Surface
pub mod Extra
pub mod SurfaceLaws
