pub mod KindLaw
pub mod Step
pub mod Head
pub mod ContentsLaws
