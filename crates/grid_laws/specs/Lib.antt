-- What passes the rows, as bounds; what the numbers of an accepted grid are, and how large.
pub mod RowBounds
pub mod EdgeLaws
pub mod GridBounds
