-- Parts of a child, and the edits that put them in their place.
pub mod AtPlaces
pub mod Edits
pub mod InShape
pub mod Kept
pub mod Placed
pub mod Rewritten
pub mod Staying
pub mod Tabled
pub mod Tight
pub mod Once
pub mod Weaves
pub mod Written
pub mod Untorn
pub mod TextGaps
pub mod GoingOn
pub mod Example
