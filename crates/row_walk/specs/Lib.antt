-- Going through the rows of a tree comes to the scan of the scene.
pub mod RowLaws
