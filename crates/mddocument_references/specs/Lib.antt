-- references
pub mod References
-- reading
pub mod Reading
