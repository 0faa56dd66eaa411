-- Laws about the machines of the tests.
pub mod Starved
pub mod Looping
pub mod Replacing
pub mod Marks
pub mod Behind
pub mod Over
