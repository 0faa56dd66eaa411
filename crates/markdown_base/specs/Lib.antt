-- characters
pub mod CharTexts
pub mod Classes
-- events
pub mod EventNames
pub mod Events
-- virtual text: seats, tabs, line endings; the part of a tab between two places
pub mod LineEndings
-- lines
pub mod Lines
-- events
pub mod OpenNames
-- places
pub mod Places
-- options
pub mod Presets
-- messages
pub mod Shown
-- slices
pub mod Slices
pub mod SlicesInner
-- states
pub mod StateNames
pub mod States
-- constants
pub mod Texts
-- virtual text
pub mod Virtual
-- events
pub mod VoidNames
