-- A list of 1.0 in which the active voxels are written one by one, and how a call answers.
mod Lit
mod Answered
