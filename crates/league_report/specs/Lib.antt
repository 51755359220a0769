-- The league report: what a file adds to it, and the whole of it.
pub mod FileLights
pub mod Report
pub mod FileLightsLaws
pub mod ReportLaws
pub mod ReportFigures
