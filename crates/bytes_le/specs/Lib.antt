-- Little-endian numbers in a list of bytes: what they are, and what their reading and writing undo.
pub mod Bytes
pub mod BytesLaws
pub mod RoundTrip
