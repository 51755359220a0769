-- The bytes of a volume file as the writer writes it, and what reading them gives.
pub mod FileBytes
