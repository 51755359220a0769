-- The public call that joins shares of a bake.
pub mod Join
pub mod JoinLaws
