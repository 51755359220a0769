-- Gather: a voxel's sixteen numbers and the rays that they take, from one fold over its 64 directions.
pub mod Gather
pub mod Cost
pub mod GatherLaws
pub mod BaseLaws
