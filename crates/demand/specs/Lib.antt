-- The bake of document 01's module 7, and what is demanded of it when it is spread over calls.
pub mod Bake
pub mod Calls
pub mod Lasting
