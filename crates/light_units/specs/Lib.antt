-- A light counted in units of 2^-24: how many it has, and which lights are counted.
pub mod Units
pub mod UnitsLaws
