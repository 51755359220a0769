-- The head of a volume file and its table of contents: which are good, where the bodies then stand, and what the writer writes.
pub mod Contents
pub mod Laid
pub mod ContentsLaws
