-- Full references, as a machine reads them.
pub mod Built
pub mod Counts
pub mod Cuts
pub mod Examples
pub mod Known
pub mod LabelEvents
pub mod Labels
pub mod Readings
pub mod Sizes
pub mod Steps
pub mod Tested
pub mod WholeLabels
