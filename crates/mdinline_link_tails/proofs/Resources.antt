-- Resources, as a machine reads them.
pub mod Built
pub mod Cuts
pub mod Destinations
pub mod Enclosed
pub mod Ends
pub mod Examples
pub mod Gaps
pub mod Lines
pub mod Marks
pub mod Raw
pub mod Readings
pub mod Steps
pub mod StringsRead
pub mod Titles
pub mod Touched
pub mod WholeTitles
