-- The public calls over rays: their refusals, their answers, and what both mean.
pub mod Rays
pub mod RaysLaws
pub mod Good
