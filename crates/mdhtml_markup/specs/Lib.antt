-- addresses
pub mod Addresses
-- text
pub mod Escapes
-- laws
pub mod Examples
-- content models: which elements may stand in which
pub mod Flow
-- laws
pub mod Laws
-- pieces: HTML as tags, texts and line feeds, and their bytes
pub mod Pieces
-- safe HTML
pub mod SafeChecks
-- safe HTML
pub mod SafeHtml
-- pieces
pub mod SafePieces
-- text
pub mod ShownText
-- raw HTML
pub mod TagFilter
