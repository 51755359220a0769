-- The public call that fills the occupied and the active mask.
pub mod Masks
pub mod MasksLaws
