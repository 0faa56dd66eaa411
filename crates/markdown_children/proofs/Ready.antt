-- Lists whose chains can be read, and the places of a document.
pub mod Decided
pub mod Example
pub mod Reached
pub mod Tests
