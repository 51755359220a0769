-- The sun pass: what each voxel sees of the sun, before and after the blur.
pub mod Sun
pub mod SunLaws
pub mod Good
