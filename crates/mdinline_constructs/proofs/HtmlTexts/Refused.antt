-- Where a state of raw HTML refuses what waits, for its code: a byte that no test passes, or the end.
use Rattle.mdinline_constructs.proofs.Prelude.{◌≡◌, ℕ, ◌==◌, Bool, false, cond, Option, Some, None, refl, ap, ◌∙◌, TokenizerValue, sight_of, Rows, class_of, passes, by-class, TextByte, text_byte, html_rows, no_html, sees, when, picked, step_of}
use Rattle.mdinline_constructs.proofs.HtmlTexts.Picked.{stepped}
use Rattle.mdinline_constructs.proofs.HtmlTexts.Rows.{other-rows}

module _ {M R D : Type 0} (t : TokenizerValue M R D) where
  refused-at : (ending others : Rows R D) (before : Option TextByte) (o : Option ℕ) → passes (λ b. b == 10) o ≡ false → stepped t others ≡ stepped t no_html
      → stepped t (html_rows ending others before (class_of text_byte o)) ≡ stepped t no_html
  refused-at ending others before None plain h = refl
  refused-at ending others before (Some b) plain h = ap (stepped t) (other-rows ending others before b plain) ∙ h

  -- at no line feed
  pub refused-plain : (ending others : Rows R D) → passes (λ b. b == 10) (sight_of t).current ≡ false → stepped t others ≡ stepped t no_html
      → stepped t (html_rows ending others (class_of text_byte (sight_of t).previous) (class_of text_byte (sight_of t).current)) ≡ stepped t no_html
  refused-plain ending others plain h = refused-at ending others (class_of text_byte (sight_of t).previous) (sight_of t).current plain h

  any-refused-at : (others : Rows R D) (before : Option TextByte) (o : Option ℕ) → stepped t others ≡ stepped t no_html → stepped t (html_rows no_html others before (class_of text_byte o)) ≡ stepped t no_html
  any-refused-at others before None h = refl
  any-refused-at others before (Some b) h =
      by-class (λ w. stepped t (html_rows no_html others before (Some w)) ≡ stepped t no_html) b
      (λ e. refl) (λ e. h) (λ e. h) (λ e. h) (λ e. h) (λ e. h) (λ e. h) (λ n e. h) (λ e. h) (λ e. h) (λ e. h) (λ o e. h) (λ o e. h) (λ o n e. h)

  -- at any byte, where a line feed is refused, too
  pub refused-any : (others : Rows R D) → stepped t others ≡ stepped t no_html
      → stepped t (html_rows no_html others (class_of text_byte (sight_of t).previous) (class_of text_byte (sight_of t).current)) ≡ stepped t no_html
  refused-any others h = any-refused-at others (class_of text_byte (sight_of t).previous) (sight_of t).current h

  -- by a test that fails
  pub test-fails : (test : ℕ → Bool) (x y : Rows R D) → passes test (sight_of t).current ≡ false → stepped t (when (sees test) x y) ≡ stepped t y
  test-fails test x y h = ap (λ c. step_of (cond c (picked x t.given (sight_of t) t.configuration) (picked y t.given (sight_of t) t.configuration)) (sight_of t) t.configuration) h
