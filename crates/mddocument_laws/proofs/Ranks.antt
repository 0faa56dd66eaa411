-- The ranks of headings among the leaf blocks of a text, and that their events tell them.
pub mod Blocks
pub mod Signs
pub mod Texts
pub mod Told
pub mod Underlines
