-- Where a ray meets one triangle; what that means; the triangle at a place of a lent list; and what a search may pass over.
pub mod Meet
pub mod Places
pub mod Missed
pub mod Halves
pub mod Laws
