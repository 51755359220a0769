-- The public calls of the two blurs.
pub mod Blurs
pub mod BlursLaws
pub mod BlurredAtLaws
