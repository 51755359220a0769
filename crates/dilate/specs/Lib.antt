-- The active mask: what it is, what it means, and how dilating along the axes gives it.
pub mod Active
pub mod ByAxes
pub mod ByBlocks
pub mod ActiveLaws
pub mod ByAxesLaws
pub mod RunLaws
pub mod BlockLaws
