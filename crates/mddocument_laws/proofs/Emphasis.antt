-- Emphasis: each span comes from a pair of delimiter runs, and each pair makes one.
mod ApartExamples
pub mod BlocksPlain
pub mod ChosenSpans
mod DocumentExamples
pub mod DocumentSpans
mod Examples
pub mod LinkSpans
pub mod Markers
pub mod PairOrder
pub mod PartSpans
pub mod RunSpans
pub mod RunsApart
pub mod Tildes
