pub mod Bare
pub mod Carried
pub mod Contents
pub mod Holds
pub mod Walks
