-- character references
pub mod Reference
pub mod ReferenceRows
-- email autolinks
pub mod Email
pub mod EmailRows
-- hard breaks
pub mod HardBreak
pub mod HardBreakRows
pub mod WhiteSpace
-- raw HTML
pub mod HtmlText
pub mod HtmlTextRows
-- kinds of HTML
pub mod HtmlMarked
pub mod HtmlMarkedRows
pub mod HtmlTag
pub mod HtmlTagRows
-- remembered code
pub mod LinedCode
pub mod RememberedCode
-- strings: what is read in them
pub mod StringItems
