-- The numbers accepted: for each row of document 01's table what it is given for, and what its passing means.
pub mod Limits
pub mod LimitsLaws
