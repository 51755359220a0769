-- What the rows of a call refuse, as the code asks them.
pub mod Judged
