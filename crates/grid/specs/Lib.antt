-- A grid of voxels: its axes, its corners, the index of a voxel and where its centre lies.
pub mod Grid
pub mod GridLaws
