use Rattle.mddocument_editing.proofs.Prelude.{◌≡◌, ℕ, List, inl, inr, sym, ◌∙◌, cases_Bool, IsUtf8-from_is_utf8, is_utf8-from_IsUtf8, IsUtf8, MatchResult, Result, Ok, Err, is_utf8}
use Rattle.std.specs.Result.{is_ok}
use Rattle.mddocument_editing.proofs.positions.is_utf8.Goals as goal

told : {T E : Type 0} (P : T → Type 0) (Q : E → Type 0) (bs : List ℕ) (r : Result T E) → MatchResult r (λ s. P s × IsUtf8 bs) (λ e. ¬ (IsUtf8 bs) × Q e) → is_ok r ≡ is_utf8 bs
told P Q bs (Ok s) h = sym (is_utf8-from_IsUtf8 bs h.1)
told P Q bs (Err e) h = elim (cases_Bool (is_utf8 bs)) [ inl text ↦ absurd (h.0 (IsUtf8-from_is_utf8 bs text)) | inr is ↦ sym is ]

pub returns : goal.returns
returns c = c.is_ok.ensures.value ∙ told _ _ c.args.bytes.now c.from_utf8.result c.from_utf8.ensures.cases
