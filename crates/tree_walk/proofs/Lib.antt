-- One step of the walk, as the code reads its numbers; a span of the order; the points in the tree's order; what was collected.
pub mod Steps
pub mod Going
pub mod Turning
pub mod Came
pub mod WalkLaws
pub mod CollectLaws
