-- The look behind a less-than sign finds the kind of HTML.
pub mod Attributes
pub mod HtmlKinds
pub mod HtmlLooks
pub mod HtmlNumbers
pub mod HtmlOpenings
pub mod HtmlTagLooks
pub mod TagNumbers
