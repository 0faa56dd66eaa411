-- What the code of states of raw HTML between marks cites: rows that tests pick, and the end at `>`.
use Rattle.mdinline_constructs.proofs.Prelude.{◌≡◌, ℕ, ◌==◌, ◌&&◌, Bool, true, false, cond, Option, Some, None, refl, sym, ap, ◌∙◌, and_parts, eqb-true, Configuration, TokenizerValue, Sight, sight_of, Given, Next, HtmlTextMarkClose, [], ◌∷◌, Rows, row, write, consume, when, picked, step_of, class_of, is_greater_than, passes, by-class, TextByte, text_byte, size_b_grows, look_rows, inside_rows, in_mark, mark_ends, mark_line_ends, html_ends}
use Rattle.mdinline_constructs.proofs.HtmlTexts.Picked.{stepped}

-- behind an opening mark, at any byte but a line feed
pub look-others : {R D : Type 0} (ending others : Rows R D) (before : Option TextByte) (b : ℕ) → (b == 10) ≡ false → look_rows ending others before (Some (text_byte b)) ≡ others
look-others ending others before b h =
    by-class (λ w. look_rows ending others before (Some w) ≡ others) b
    (λ e. absurd (let no : true ≡ false = sym e ∙ h in cc)) (λ e. refl) (λ e. refl) (λ e. refl) (λ e. refl) (λ e. refl) (λ e. refl) (λ n e. refl) (λ e. refl) (λ e. refl) (λ e. refl) (λ o e. refl) (λ o e. refl) (λ o n e. refl)

-- so for the code
pub look-seen : {M R D : Type 0} (t : TokenizerValue M R D) (b : ℕ) → (sight_of t).current ≡ Some b → (ending others : Rows R D) → (b == 10) ≡ false
    → stepped t (look_rows ending others (class_of text_byte (sight_of t).previous) (class_of text_byte (sight_of t).current)) ≡ stepped t others
look-seen t b is ending others plain =
    ap (λ o. stepped t (look_rows ending others (class_of text_byte (sight_of t).previous) (class_of text_byte o))) is
    ∙ ap (stepped t) (look-others ending others (class_of text_byte (sight_of t).previous) b plain)

-- by a test of what is seen and known
pub known-by : {M R D : Type 0} (t : TokenizerValue M R D) (test : Given → Sight → Configuration R D → Bool) (x y : Rows R D) (v : Bool) → test t.given (sight_of t) t.configuration ≡ v
    → stepped t (when test x y) ≡ step_of (cond v (picked x t.given (sight_of t) t.configuration) (picked y t.given (sight_of t) t.configuration)) (sight_of t) t.configuration
known-by t test x y v h = ap (λ c. step_of (cond c (picked x t.given (sight_of t) t.configuration) (picked y t.given (sight_of t) t.configuration)) (sight_of t) t.configuration) h

-- behind an opening mark, at such a byte: the mark ends, one of its bytes is read, or neither
module _ {M R D : Type 0} (t : TokenizerValue M R D) (b : ℕ) (is : (sight_of t).current ≡ Some b) (others : Rows R D) (plain : (b == 10) ≡ false) where
  abbrev marks : Rows R D
  marks = when in_mark (row (write size_b_grows ∷ consume ∷ []) (Next HtmlTextMarkClose)) others

  abbrev here : (v : Bool) → Rows R D → Type 0
  here v rows =
      mark_ends t.given (sight_of t) t.configuration ≡ v
      → stepped t (inside_rows others (class_of text_byte (sight_of t).previous) (class_of text_byte (sight_of t).current)) ≡ stepped t rows

  pub inside-ends : here true html_ends
  inside-ends h = look-seen t b is mark_line_ends (when mark_ends html_ends marks) plain ∙ known-by t mark_ends html_ends marks true h

  inside-goes-on : here false marks
  inside-goes-on h = look-seen t b is mark_line_ends (when mark_ends html_ends marks) plain ∙ known-by t mark_ends html_ends marks false h

  pub inside-marks : in_mark t.given (sight_of t) t.configuration ≡ true → here false (row (write size_b_grows ∷ consume ∷ []) (Next HtmlTextMarkClose))
  inside-marks i h = inside-goes-on h ∙ known-by t in_mark (row (write size_b_grows ∷ consume ∷ []) (Next HtmlTextMarkClose)) others true i

  pub inside-others : in_mark t.given (sight_of t) t.configuration ≡ false → here false others
  inside-others i h = inside-goes-on h ∙ known-by t in_mark (row (write size_b_grows ∷ consume ∷ []) (Next HtmlTextMarkClose)) others false i

-- a mark ends at `>`
pub ends-at : (o : Option ℕ) (enough : Bool) → (passes is_greater_than o && enough) ≡ true → o ≡ Some 62
ends-at None enough h = absurd (cc)
ends-at (Some b) enough h = ap Some (eqb-true b 62 (and_parts (is_greater_than b) enough h).0)
