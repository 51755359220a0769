-- Directions: the recorded table, the call that hands it out, the rule that it keeps at every entry, and the set that a voxel uses.
pub mod Table
pub mod Sets
pub mod Filled
pub mod Rule
pub mod Triples
pub mod RuleLaws
pub mod FilledLaws
