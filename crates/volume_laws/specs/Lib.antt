-- What is written is read back, every bit, and a file of kinds 1 to 5 that is read is written back, every byte; masks that are read have no unused bit set.
-- Each call refuses by its own rows, and document 01's file of 166 bytes is accepted. A reader of any axis limit answers 12 above it.
pub mod Written
pub mod Kept
pub mod RoundTrip
pub mod InWords
pub mod Smallest
pub mod VolumeRefusals
pub mod AnyLimit
