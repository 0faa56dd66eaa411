-- What a result says at one variant.
use Rattle.markdown_edits.proofs.Prelude.{◌≡◌, true, false, Result, Ok, Err, OnErr, OnOk, is_err}

-- what holds anyway holds if there is an error
pub OnErr_from : {T E : Type 0} (r : Result T E) (P : Type 0) → P → OnErr r P
OnErr_from (Ok x) P p = tt
OnErr_from (Err e) P p = p

-- what is said of a value, if there is no error
pub OnOk-holds : {T E : Type 0} (r : Result T E) (P : Type 0) → is_err r ≡ false → OnOk r P → P
OnOk-holds (Ok x) P e p = p
OnOk-holds (Err y) P e p = cc

-- and of an error, if there is one
pub OnErr-holds : {T E : Type 0} (r : Result T E) (P : Type 0) → is_err r ≡ true → OnErr r P → P
OnErr-holds (Ok x) P e p = cc
OnErr-holds (Err y) P e p = p
