-- How large numbers grow: |x| ≤ n·2^k through each operation, a vector's length, and a normalised vector's components; and what is not finite stays so.
pub mod Bounds
pub mod BoundsLaws
pub mod VectorLaws
pub mod WildLaws
pub mod NormalLaws
pub mod LengthLaws
