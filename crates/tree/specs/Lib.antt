-- When a box tree is accepted; the test that the code makes; that the two are one, and what follows; trees that are accepted and trees that are not.
pub mod Tree
pub mod Test
pub mod SumLaws
pub mod MarkLaws
pub mod Trees
pub mod TreeFigures
pub mod TestLaws
