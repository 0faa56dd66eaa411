-- What is kept of a document, if anything is.
use Rattle.std.proofs.Common.{Option, Some, None, IsSomeAnd}

-- what follows of the value that is there
pub also : {T : Type 0} (o : Option T) (P Q : T → Type 0) → ((x : T) → P x → Q x) → IsSomeAnd o P → IsSomeAnd o Q
also None P Q f is = is
also (Some x) P Q f is = f x is
