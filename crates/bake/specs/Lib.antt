-- The public bake: what a call comes to, what is demanded of successive calls and of calls on one desk or another, that its contract leaves one answer, which
-- wrong bakes it shuts out, that its rays' test never departs, and that results of calls do what is demanded.
pub mod Baked
pub mod Results
pub mod Restarts
pub mod BakedLaws
pub mod ShutOut
pub mod GoesOn
pub mod Undeparted
pub mod ResultsLaws
pub mod RestartsLaws
