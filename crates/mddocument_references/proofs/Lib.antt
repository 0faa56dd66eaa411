-- labels: sets of labels that define the same
pub mod Alike
