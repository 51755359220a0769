-- A box of a tree: out of a list, around a triangle, inside another, passed over by a ray; and what passing over and lying inside mean.
pub mod Boxes
pub mod BoxLaws
