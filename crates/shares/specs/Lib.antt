-- A bake that is spread over machines or threads, over any bake: what a share is, how shares are joined, and that joined they are the unbroken bake.
pub mod Shares
pub mod LaidBelow
pub mod SharesLaws
