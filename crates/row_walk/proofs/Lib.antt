-- One turn of the loop over the rows.
pub mod Turns
