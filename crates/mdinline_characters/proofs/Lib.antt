mod Prelude
-- characters
pub mod Orders
pub mod Parts
pub mod Searches
pub mod Tables
-- names: of character references are found by their beginnings
pub mod Fronts
pub mod Names
