-- A volume file: the one judge of its bytes, and what a file that it accepts holds.
pub mod VolumeFile
pub mod VolumeFileLaws
