-- One step of writing a tree's rows, as the code reads its numbers.
pub mod Steps
pub mod LayoutLaws
pub mod RowsLaws
