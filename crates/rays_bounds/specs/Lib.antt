-- How large the numbers of a ray's test are, and where its departure shows.
pub mod TestBounds
pub mod Departure
