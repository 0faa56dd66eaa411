-- plain machines
pub mod Back
pub mod Deep
pub mod Lines
pub mod Peek
pub mod Save
-- knowing machines
pub mod Words
-- refusing machines
pub mod Fail
pub mod Messages
pub mod Wrap
-- laws
pub mod Costs
pub mod Unfit
-- lawful tables: each machine's table passes its test
pub mod Laws
-- definition: what each machine reads of a document, without states; innermost spans
pub mod Innermost
pub mod LineEvents
pub mod ParagraphEvents
pub mod ReadAs
pub mod Spans
-- looks: over the rest; a thematic break is seen
pub mod WholeLooks
