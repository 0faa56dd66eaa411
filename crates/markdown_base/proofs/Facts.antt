-- Facts of lists, numbers, truth values and kinds of events that no proof of std states, for every crate.
pub mod Bools
pub mod Kinds
pub mod Lists
pub mod Numbers
