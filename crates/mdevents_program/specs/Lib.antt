-- program
pub mod Program
-- arguments
pub mod Arguments
pub mod Choices
pub mod ArgumentsInner
-- printing
pub mod Printed
pub mod Digits
