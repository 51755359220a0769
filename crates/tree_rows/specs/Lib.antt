-- A box tree in rows, for a loop: what the rows hold and what a scan by them may count on, how a tree is laid out in them, and that an accepted tree's rows are so.
pub mod Rows
pub mod Layout
pub mod LayoutLaws
