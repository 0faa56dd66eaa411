-- The innermost spans of documents with containers tile them.
pub mod Blocks
pub mod Chains
pub mod Cuts
pub mod FlowLined
pub mod Lined
pub mod Moved
pub mod Texts
