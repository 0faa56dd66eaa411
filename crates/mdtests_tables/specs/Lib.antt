-- tests
pub mod Behind
pub mod Starved
pub mod Laws
pub mod Looping
pub mod Replacing
pub mod Marks
pub mod Over
