-- Masks in words: a bit a voxel, and how that stands to an entry a voxel.
pub mod Words
pub mod ByWords
pub mod BitLaws
pub mod WordsLaws
pub mod NextLaws
pub mod EightLaws
