-- Looks as functions of bytes, and a test that they end.
pub mod Deep
pub mod Folds
pub mod Known
pub mod Left
pub mod Quiet
pub mod Scans
pub mod Stretches
pub mod Tests
