-- How the walk's loop goes.
mod Loop
