-- Children are read, chain by chain.
pub mod AsFunction
pub mod ChainReads
pub mod Pieces
pub mod Reading
pub mod SoFar
