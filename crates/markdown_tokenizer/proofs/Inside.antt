-- The fields of a tokenizer, call by call.
pub mod AtPlaces
pub mod Changes
pub mod Choices
pub mod Fields
pub mod GoingOn
pub mod Known
pub mod Made
pub mod Over
pub mod Spans
pub mod Steps
pub mod Unwinding
