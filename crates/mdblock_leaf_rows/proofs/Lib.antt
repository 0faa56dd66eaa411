-- The proof of each law is in a folder of its own.
-- quiet looks
pub mod Dashes
-- laws
pub mod NoRefusals
-- quiet looks
mod QuietLooks
-- HTML blocks
pub mod TagNames
