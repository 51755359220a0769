-- A camera frame: the lookups at each of a list of positions.
pub mod Frames
pub mod Passes
pub mod FramesLaws
pub mod FramedLaws
pub mod FrameRefusals
pub mod FramesFigures
