-- The rows behind the opening backtick string, for the code.
use Rattle.mdinline_constructs.proofs.Prelude.{[], Bool, Option, Some, ap, cond, false, refl, ℕ, ◌==◌, ◌∙◌, ◌∷◌, ◌≡◌, CodeTextSequence, Nok, Retry, RawTextBetween, TokenizerValue, sight_of, class_of, exit, picked, row, step_of, when, is_hopeless, remembered_open_rows, tick-classed, TextByte, backtick, is_tick, text_byte}
use Rattle.mdinline_constructs.proofs.HtmlMarks.Picked.{known-by}
use Rattle.mdinline_constructs.proofs.HtmlTexts.Picked.{stepped}

-- no backtick waits
pub no-tick : {M R D : Type 0} (t : TokenizerValue M R D) (b : ℕ) → (sight_of t).current ≡ Some b → (b == 96) ≡ false → is_tick (class_of text_byte (sight_of t).current) ≡ false
no-tick t b is other = ap (λ o. is_tick (class_of text_byte o)) is ∙ tick-classed b ∙ other

-- so there is a test
open-ended : {R D : Type 0} (before : Option TextByte) (w : TextByte) → is_tick (Some w) ≡ false
    → remembered_open_rows {R = R} {D = D} before (Some w) ≡ when is_hopeless (row [] Nok) (row (exit CodeTextSequence ∷ []) (Retry RawTextBetween))
open-ended before backtick h = absurd (cc)
open-ended before _ h = refl

-- and the step is as the test says
pub open-stepped : {M R D : Type 0} (t : TokenizerValue M R D) (b : ℕ) → (sight_of t).current ≡ Some b → (b == 96) ≡ false → (v : Bool) → is_hopeless t.given (sight_of t) t.configuration ≡ v
    → stepped t (remembered_open_rows (class_of text_byte (sight_of t).previous) (class_of text_byte (sight_of t).current))
    ≡ step_of (cond v (picked (row [] Nok) t.given (sight_of t) t.configuration) (picked (row (exit CodeTextSequence ∷ []) (Retry RawTextBetween)) t.given (sight_of t) t.configuration)) (sight_of t) t.configuration
open-stepped t b is other v hopeless =
    ap (λ o. stepped t (remembered_open_rows (class_of text_byte (sight_of t).previous) (class_of text_byte o))) is
    ∙ ap (stepped t) (open-ended (class_of text_byte (sight_of t).previous) (text_byte b) (tick-classed b ∙ other))
    ∙ known-by t is_hopeless (row [] Nok) (row (exit CodeTextSequence ∷ []) (Retry RawTextBetween)) v hopeless
