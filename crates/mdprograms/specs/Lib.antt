-- arguments
pub mod Numbers
-- input: what a program may read
pub mod Input
-- output
pub mod Output
-- failure
pub mod Failure
