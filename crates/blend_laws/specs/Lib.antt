-- What rounding leaves of a blend: it grows with each of its values, stays within the power of two that holds them, and lies between them up to a small part. So does what a lookup finds, in either mode.
pub mod Signed
pub mod RoundLaws
pub mod RoundErrors
pub mod SignedLaws
pub mod Blendable
pub mod WeightLaws
pub mod PartLaws
pub mod BlendOrder
pub mod BlendWithin
pub mod BlendSigns
pub mod BlendedLaws
pub mod Nearness
pub mod BlendSpread
pub mod BlendedSpread
pub mod BetweenTwo
pub mod FractionLaws
pub mod FoundBetween
