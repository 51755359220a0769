-- What a bake is handed, and which of it is refused.
pub mod Intake
pub mod IntakeLaws
pub mod Three
