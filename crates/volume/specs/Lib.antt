-- The public calls over a volume file: what each answers and leaves, and what follows of them.
pub mod Volume
pub mod VolumeLaws
