-- places
pub mod Places
-- spans
pub mod Spans
