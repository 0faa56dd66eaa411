-- The rows of states of raw HTML that a byte picks, for their code.
use Rattle.mdinline_constructs.proofs.Prelude.{◌≡◌, ℕ, ◌==◌, Bool, false, cond, Some, sym, ap, ◌∙◌, subst, State, Step, TokenizerValue, sight_of, DoesAll, Rows, when, picked, step_of, class_of, passes, text_byte, html_rows, sees}
use Rattle.mdinline_constructs.proofs.HtmlTexts.Rows.{other-rows}

-- what does one step does another that is equal
pub does-by : {M R D : Type 0} {s q : Step R D} {t t' : TokenizerValue M R D} {a : State} → s ≡ q → DoesAll q t t' a → DoesAll s t t' a
does-by {s} {q} {t} {t'} {a} e h = subst (λ s. DoesAll s t t' a) (sym e) h

module _ {M R D : Type 0} (t : TokenizerValue M R D) where
  -- the step of rows
  abbrev pub stepped : Rows R D → Step R D
  stepped rows = step_of (picked rows t.given (sight_of t) t.configuration) (sight_of t) t.configuration

  module _ (b : ℕ) (is : (sight_of t).current ≡ Some b) where
    -- at a byte that is no line feed
    pub seen : (ending others : Rows R D) → (b == 10) ≡ false
        → stepped (html_rows ending others (class_of text_byte (sight_of t).previous) (class_of text_byte (sight_of t).current)) ≡ stepped others
    seen ending others plain =
        ap (λ o. stepped (html_rows ending others (class_of text_byte (sight_of t).previous) (class_of text_byte o))) is
        ∙ ap stepped (other-rows ending others (class_of text_byte (sight_of t).previous) b plain)

    -- by a test that it passes, or that it fails
    pub tested-by : (test : ℕ → Bool) (x y : Rows R D) (v : Bool) → test b ≡ v → stepped (when (sees test) x y) ≡ step_of (cond v (picked x t.given (sight_of t) t.configuration) (picked y t.given (sight_of t) t.configuration)) (sight_of t) t.configuration
    tested-by test x y v h =
        ap (λ o. step_of (cond (passes test o) (picked x t.given (sight_of t) t.configuration) (picked y t.given (sight_of t) t.configuration)) (sight_of t) t.configuration) is
        ∙ ap (λ c. step_of (cond c (picked x t.given (sight_of t) t.configuration) (picked y t.given (sight_of t) t.configuration)) (sight_of t) t.configuration) h
