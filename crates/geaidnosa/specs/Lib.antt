-- What C reads where a public call answers an enum or a part of a list.
pub mod Exports
pub mod ExportsLaws
