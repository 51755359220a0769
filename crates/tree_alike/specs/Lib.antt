-- Two accepted trees of one scene give the same bits, of rays, sun and bake: no definition reads a tree's lists, but for the row that asks whether it is accepted.
pub mod SunUnread
pub mod GatherUnread
pub mod BakeUnread
pub mod RefusalsAlike
pub mod TreesRays
pub mod TreesBake
