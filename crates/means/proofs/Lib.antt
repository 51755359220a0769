-- What more than one function's proof uses.
mod Abreast
mod Lanes
mod Places
