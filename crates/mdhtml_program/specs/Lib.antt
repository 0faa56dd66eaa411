-- program
pub mod Program
-- arguments
pub mod Arguments
