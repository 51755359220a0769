pub mod AcceptedLaws
pub mod DepthLaws
pub mod FoundLaws
pub mod HeldLaws
pub mod TestLaws
pub mod TreeLaws
pub mod TreesLaws
