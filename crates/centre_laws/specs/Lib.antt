-- At a voxel's computed centre the coordinate less one half lies within 1 of the voxel's index, so that where it comes out whole the lookup returns the voxel's value.
pub mod Rounding
pub mod Near
pub mod CentreSteps
pub mod WithinOne
pub mod WithinOneLaws
