mod Prelude
-- readiness
pub mod Ready
-- order of chains: chains of a ready list follow one another
pub mod ChainOrder
-- lists with children: by their edits; such a list stays balanced and ready
pub mod Parts
-- reading chains: piece by piece, chain after chain; `AsFunction`: what `children_of` says
pub mod ChildReads
-- examples: the definitions on small lists, computed
pub mod Examples
