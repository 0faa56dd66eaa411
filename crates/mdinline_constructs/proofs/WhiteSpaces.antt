-- White space at the end of a line: what it is by its bytes, and what its events keep.
pub mod Bytes
pub mod Calls
pub mod Classes
pub mod Cuts
