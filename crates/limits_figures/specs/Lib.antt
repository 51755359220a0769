-- The rows of the table of refusals at their limits, and what those of a triangle, a light and an ambient mean.
pub mod LimitsFigures
pub mod RowLaws
