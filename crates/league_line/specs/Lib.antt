-- The lines of the league report as text.
pub mod Text
pub mod TextLaws
