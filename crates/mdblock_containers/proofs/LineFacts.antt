-- Lemmas on a line of a document: its text, its line ending, and where they are.
use Rattle.std.proofs.Common.{◌≡◌, ℕ, zero, suc, ◌+◌, ◌-◌, Bool, true, false, cond, List, [], ◌∷◌, ◌++◌, length, take, drop, refl, sym, ap, ◌∙◌, subst, arith, eqb-true}
use Rattle.std.specs.Prelude.{◌==◌, ◌&&◌, not, filter, slice_index}
use Rattle.std.specs.List.{prefix_len}
use Rattle.std.proofs.lemmas.Bool.{false≢true}
use Rattle.std.proofs.lemmas.List.{append-nil, drop-drop, get_or-drop}
use Rattle.std.proofs.Math.Bool.{and-false}
use Rattle.markdown_base.specs.declared.event.Point.{Point}
use Rattle.markdown_base.specs.Places.{follows_cr, shown}
use Rattle.markdown_base.specs.Virtual.{Seat, begins_with_lf, virtual_from}
use Rattle.mdconstructs_machines.specs.LineEvents.{ending_of, is_line_ending, line_text}
use Rattle.mdblock_lines.specs.Lines.{ending_seats, ending_size, is_in_line, is_no_ending, line_at, text_seats}
use Rattle.mdblock_containers.specs.Stretches.{IsOutside}
use Rattle.mdblock_containers.proofs.DocumentRows.{filter_front, ending_is_none}

-- ---- text and line ending

pub line_text_at : (t line index : ℕ) (bs : List ℕ) → line_text (line_at t line index bs) ≡ text_seats t line index bs
line_text_at t line index bs =
    let seats = virtual_from t line 1 index bs in
    let size = ending_size (drop (prefix_len is_in_line bs) bs) in
    let text = text_seats t line index bs in
    let column = 1 + length text in
    let at = index + prefix_len is_in_line bs in
    filter_front seats (ending_seats line column at size) ∙ ap (λ (l : List Seat). text ++ l) (ending_is_none line column at size) ∙ append-nil text

pub ending_front : (xs ys : List Seat) → filter is_line_ending (take (prefix_len is_no_ending xs) xs ++ ys) ≡ filter is_line_ending ys
ending_front [] ys = refl
ending_front (x ∷ xs) ys = by (is_line_ending x) refl (ending_front xs ys)
  where
    by : (b : Bool) → is_line_ending x ≡ b → filter is_line_ending (take (prefix_len is_no_ending xs) xs ++ ys) ≡ filter is_line_ending ys
        → filter is_line_ending (take (cond (not b) (1 + prefix_len is_no_ending xs) 0) (x ∷ xs) ++ ys) ≡ filter is_line_ending ys
    by true e h = refl
    by false e h =
        let on : 1 + prefix_len is_no_ending xs ≡ suc (prefix_len is_no_ending xs) = omega arith in
        (λ k. filter is_line_ending (take (on k) (x ∷ xs) ++ ys)) ∙ ap (λ b. cond b (x ∷ filter is_line_ending (take (prefix_len is_no_ending xs) xs ++ ys)) (filter is_line_ending (take (prefix_len is_no_ending xs) xs ++ ys))) e ∙ h

pub ending_is_all : (line column index size : ℕ) → filter is_line_ending (ending_seats line column index size) ≡ ending_seats line column index size
ending_is_all line column index zero = refl
ending_is_all line column index (suc k) = refl

pub ending_of_at : (t line index : ℕ) (bs : List ℕ) → ending_of (line_at t line index bs) ≡ ending_seats line (1 + length (text_seats t line index bs)) (index + prefix_len is_in_line bs) (ending_size (drop (prefix_len is_in_line bs) bs))
ending_of_at t line index bs =
    let size = ending_size (drop (prefix_len is_in_line bs) bs) in
    let column = 1 + length (text_seats t line index bs) in
    let at = index + prefix_len is_in_line bs in
    ending_front (virtual_from t line 1 index bs) (ending_seats line column at size) ∙ ending_is_all line column at size

-- ---- places that are shown at themselves

module _ (bytes : List ℕ) where
  pub outside_shown : (p : Point) (i : ℕ) → IsOutside bytes i → p.index ≡ i → shown bytes p ≡ p
  outside_shown p i h e =
      let here : ((slice_index bytes p.index == 10) && follows_cr bytes p.index) ≡ false = subst (IsOutside bytes) (sym e) h in
      λ k. cond (here k) (record { line = p.line; column = p.column; index = p.index - 1; vs = p.vs }) p

  pub outside_zero : IsOutside bytes 0
  outside_zero = and-false (slice_index bytes 0 == 10)

  -- what comes at an index
  pub byte_at : (i : ℕ) (bs : List ℕ) → drop i bytes ≡ bs → slice_index bytes i ≡ slice_index bs 0
  byte_at i bs e = let start : i ≡ i + 0 = omega arith in ap (λ k. slice_index bytes k) start ∙ sym (get_or-drop i bytes 0 0) ∙ ap (λ (l : List ℕ). slice_index l 0) e

  pub rest_at : (i b : ℕ) (bs : List ℕ) → drop i bytes ≡ b ∷ bs → drop (suc i) bytes ≡ bs
  rest_at i b bs e = let on : suc i ≡ i + 1 = omega arith in ap (λ k. drop k bytes) on ∙ sym (drop-drop 1 i bytes) ∙ ap (drop 1) e

  pub lf_first_byte : (bs : List ℕ) (b : Bool) → begins_with_lf bs ≡ b → (slice_index bs 0 == 10) ≡ b
  lf_first_byte [] b e = e
  lf_first_byte (x ∷ xs) b e = e

  pub lf_no_cr : (bs : List ℕ) → begins_with_lf bs ≡ true → (slice_index bs 0 == 13) ≡ false
  lf_no_cr [] e = absurd (false≢true e)
  lf_no_cr (x ∷ xs) e = ap (λ k. k == 13) (eqb-true x 10 e)

  -- behind a line ending, or where there is none
  pub outside_next : (end next : ℕ) → next ≡ end + ending_size (drop end bytes) → IsOutside bytes end → IsOutside bytes next
  outside_next end next e h = by (drop end bytes) refl (e)
    where
      one : (b : ℕ) (bs : List ℕ) → drop end bytes ≡ b ∷ bs → (cr : Bool) → (b == 13) ≡ cr → (lf : Bool) → begins_with_lf bs ≡ lf → next ≡ end + cond (cr && lf) 2 1 → IsOutside bytes next
      one b bs d true ecr true elf n =
          let two : suc (suc end) ≡ next = omega (arith, n) in
          let none : follows_cr bytes (suc (suc end)) ≡ false = ap (λ k. k == 13) (byte_at (suc end) bs (rest_at end b bs d)) ∙ lf_no_cr bs elf in
          subst (IsOutside bytes) two (ap (λ v. (slice_index bytes (suc (suc end)) == 10) && v) none ∙ and-false (slice_index bytes (suc (suc end)) == 10))
      one b bs d true ecr false elf n =
          let two : suc end ≡ next = omega (arith, n) in
          let none : (slice_index bytes (suc end) == 10) ≡ false = ap (λ k. k == 10) (byte_at (suc end) bs (rest_at end b bs d)) ∙ lf_first_byte bs false elf in
          subst (IsOutside bytes) two (ap (λ v. v && follows_cr bytes (suc end)) none)
      one b bs d false ecr lf elf n =
          let two : suc end ≡ next = omega (arith, n) in
          let none : follows_cr bytes (suc end) ≡ false = ap (λ k. k == 13) (byte_at end (b ∷ bs) d) ∙ ecr in
          subst (IsOutside bytes) two (ap (λ v. (slice_index bytes (suc end) == 10) && v) none ∙ and-false (slice_index bytes (suc end) == 10))

      by : (bs : List ℕ) → drop end bytes ≡ bs → next ≡ end + ending_size bs → IsOutside bytes next
      by [] d n = let same : end ≡ next = omega (arith, n) in subst (IsOutside bytes) same h
      by (b ∷ bs) d n = one b bs d (b == 13) refl (begins_with_lf bs) refl n

  -- the byte before the end of a front passes
  pub last_passes : (i : ℕ) (bs : List ℕ) (m : ℕ) → drop i bytes ≡ bs → prefix_len is_in_line bs ≡ suc m → (slice_index bytes (i + m) == 13) ≡ false
  last_passes i [] m d e = absurd (omega (arith, e))
  last_passes i (b ∷ bs) m d e = by (b == 10) (b == 13) refl e (λ k f. last_passes (suc i) bs k (rest_at i b bs d) f)
    where
      by : (x y : Bool) → (b == 13) ≡ y → cond (not x && not y) (1 + prefix_len is_in_line bs) 0 ≡ suc m → ((k : ℕ) → prefix_len is_in_line bs ≡ suc k → (slice_index bytes (suc i + k) == 13) ≡ false) → (slice_index bytes (i + m) == 13) ≡ false
      by true y q n h = absurd (omega (arith, n))
      by false true q n h = absurd (omega (arith, n))
      by false false q n h = deep m (omega (arith, n))
        where
          deep : (k : ℕ) → prefix_len is_in_line bs ≡ k → (slice_index bytes (i + k) == 13) ≡ false
          deep zero f = let at : i + zero ≡ i = omega arith in ap (λ j. slice_index bytes j == 13) at ∙ ap (λ j. j == 13) (byte_at i (b ∷ bs) d) ∙ q
          deep (suc k) f = let at : i + suc k ≡ suc i + k = omega arith in ap (λ j. slice_index bytes j == 13) at ∙ h k f

  -- the end of a line's text
  pub outside_end : (start end : ℕ) → end ≡ start + prefix_len is_in_line (drop start bytes) → IsOutside bytes start → IsOutside bytes end
  outside_end start end e h = by (prefix_len is_in_line (drop start bytes)) refl e
    where
      by : (n : ℕ) → prefix_len is_in_line (drop start bytes) ≡ n → end ≡ start + n → IsOutside bytes end
      by zero d f = let same : start ≡ end = omega (arith, f) in subst (IsOutside bytes) same h
      by (suc m) d f =
          let same : suc (start + m) ≡ end = omega (arith, f) in
          let none : follows_cr bytes (suc (start + m)) ≡ false = last_passes start (drop start bytes) m refl d in
          subst (IsOutside bytes) same (ap (λ v. (slice_index bytes (suc (start + m)) == 10) && v) none ∙ and-false (slice_index bytes (suc (start + m)) == 10))
