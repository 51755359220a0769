-- The occupied mask: what it is, how it is marked, what it means.
pub mod Occupied
pub mod Marking
pub mod OccupiedLaws
