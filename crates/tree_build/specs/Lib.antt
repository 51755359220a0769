-- The builder's tree: what it holds, what its steps leave, what the public call answers, and that the tree which it makes is accepted (`build_accepted`).
pub mod Built
pub mod Build
pub mod RunLaws
pub mod JoinLaws
pub mod BuiltLaws
pub mod EachBoxLaws
pub mod PointLaws
pub mod BuiltAccepted
pub mod WriteLaws
pub mod GrownLaws
pub mod OneTreeLaws
pub mod BuildLaws
pub mod BuildFigures
