-- The scan over the triangles whose own padded box is not passed over; the walk through a box tree; that for an accepted tree the two are one.
pub mod Boxed
pub mod Turned
pub mod Walk
pub mod SwapLaws
pub mod BoxedLaws
pub mod BoxedHitLaws
pub mod FoldLaws
pub mod Spans
pub mod CountLaws
pub mod UnderLaws
pub mod ListedLaws
pub mod Collect
pub mod Kept
pub mod BoxedFigures
pub mod CollectLaws
