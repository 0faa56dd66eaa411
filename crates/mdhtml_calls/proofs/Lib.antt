-- laws
pub mod Ahead
pub mod Apart
pub mod Brief
pub mod Counted
pub mod Distinct
pub mod LinksShort
pub mod NotesShort
pub mod OwnShort
pub mod OtherOptions
pub mod Referred
pub mod Written
