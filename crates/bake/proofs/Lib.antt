-- How the parts of a call come together.
mod Parts
