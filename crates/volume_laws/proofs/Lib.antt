pub mod AnyLimit
