mod Prelude
-- character references
pub mod References
-- email autolinks
pub mod Emails
-- hard breaks
pub mod HardBreaks
pub mod WhiteSpaces
-- raw HTML
pub mod HtmlTexts
-- kinds of HTML
pub mod HtmlMarks
pub mod HtmlTags
-- remembered code
pub mod RememberedCode
-- strings
pub mod StringItems
