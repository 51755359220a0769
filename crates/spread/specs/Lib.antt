-- A bake that is spread over calls, over any bake: what one call and a run of calls do, what the unbroken bake is, and what is demanded of them.
pub mod Spread
pub mod Demand
pub mod Refusing
pub mod Bare
pub mod Carried
