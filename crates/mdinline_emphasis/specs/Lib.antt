-- neighbours: what pairs leave between them; that they keep each run where it stands
pub mod Beside
-- classes
pub mod Classes
-- pairs
pub mod Costs
pub mod Emphasis
pub mod InTurn
-- edits
pub mod LawStatements
pub mod Places
pub mod RunEdits
-- runs
pub mod Runs
-- pairs
pub mod Searches
pub mod Struck
-- classes
pub mod Unicode
