pub mod Answers
pub mod BlendLaws
