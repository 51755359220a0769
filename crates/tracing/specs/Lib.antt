-- What a ray's scans ask where the scene comes with a box tree, and that without one its lists are not read.
pub mod Through
pub mod UnreadLaws
