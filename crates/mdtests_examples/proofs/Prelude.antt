-- What the proofs of this crate cite from below them: words of std, of the crates below and of specs.
pub use Rattle.std.proofs.Common.{refl}
pub use Rattle.markdown.specs.Virtual.{point}
