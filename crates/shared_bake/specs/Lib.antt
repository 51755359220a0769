-- A bake spread over machines or threads, said of results of public calls, and shown.
pub mod SharedBake
