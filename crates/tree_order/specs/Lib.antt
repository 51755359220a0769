-- The builder's order of a scene's present triangles: what it is, that it holds each of them once, and that a run put in order along an axis ascends there,
-- equal keys in the order before.
pub mod Order
pub mod Ranks
pub mod SortLaws
pub mod HalveLaws
pub mod PresentLaws
pub mod OrderLaws
pub mod RankLaws
pub mod AxisLaws
pub mod OrderFigures
