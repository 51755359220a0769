-- When a triangle is met: exactly when every test is passed.
pub mod MeetLaws
