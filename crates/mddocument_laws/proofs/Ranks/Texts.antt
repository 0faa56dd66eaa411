-- The leaf blocks of each text of a document are ranked: its number signs stand side by side, as a gap is only where a line begins.
use Rattle.mddocument_laws.proofs.Prelude.{◌≡◌, ℕ, zero, suc, ◌+◌, ◌⊎◌, Bool, true, false, cond, List, [], ◌∷◌, length, Some, inl, inr, sym, ap, ◌∙◌, arith, same_Some, AllByRecursion, list_any, slice_get, slice_index, Point, shown, Seat, virtual, Given, IsText, Text, is_line_ending, lines_in, Course, course-every, text-course, AcrossGap, leaf_blocks, ◌==◌}
use Rattle.mdblock_containers.specs.Letters.{letter, lettered_from, with_letters}
use Rattle.mddocument_laws.proofs.Ranks.Blocks.{IsRanked, both, of-blocks}
use Rattle.mddocument_laws.proofs.Ranks.Signs.{Laid, laid-lines, laid-virtual, shown-at}
use Rattle.mddocument_laws.proofs.Ranks.Underlines.{IsByte, bytes-lines, bytes-virtual}

module _ (t : ℕ) (bytes : List ℕ) where
  -- a number sign is one of the document, and ends behind itself
  abbrev IsSigned : Seat → Type 0
  IsSigned s = s.byte ≡ 35 → (slice_index bytes s.point.index ≡ 35) × (s.end.index ≡ suc s.point.index)

  each-signed : (ss : List Seat) → Laid bytes ss → AllByRecursion IsSigned ss
  each-signed [] h = tt
  each-signed (s ∷ ss) h = ((λ e. let r = h.0 e in (r.0, r.1)), each-signed ss h.1)

  -- the next number sign stands where one ends
  next-sign : (p : Point) (s r : Seat) (rs : List Seat) → Course AcrossGap t bytes p (s ∷ r ∷ rs) → IsSigned r → s.byte ≡ 35 → r.byte ≡ 35 → r.point.index ≡ s.end.index
  next-sign p s r rs c h e k =
      let plain : is_line_ending s ≡ false = ap (λ b. b == 10) e in
      let column = c.1.seat.in_line plain in
      let at : (shown bytes r.point).index ≡ r.point.index = shown-at bytes r.point (h k).0 in
      elim c.2.1.meets.in_line [
        | inl same ↦ sym at ∙ sym (ap (λ (q : Point). q.index) same)
        | inr gap ↦ absurd (let first = gap.0 in omega (arith, column, first))
      ]

  laid-course : (p : Point) (ss : List Seat) → Course AcrossGap t bytes p ss → AllByRecursion IsSigned ss → Laid bytes ss
  laid-course p [] c h = tt
  laid-course p (s ∷ []) c h = ((λ e. let r = h.0 e in (r.0, r.1, tt)), tt)
  laid-course p (s ∷ r ∷ rs) c h = ((λ e. let one = h.0 e in (one.0, one.1, next-sign p s r rs c h.1.0 e)), laid-course s.end (r ∷ rs) c.2 h.1)

-- where a letter is shown is no other byte
get-lettered : (n : ℕ) (at bs : List ℕ) (i mark : ℕ) → (mark ≡ letter → ⊥) → slice_get (lettered_from n at bs) i ≡ Some mark → slice_get bs i ≡ Some mark
get-lettered n at [] i mark other h = h
get-lettered n at (b ∷ bs) zero mark other h = by (list_any (λ i. i == n) at) h
  where
    by : (x : Bool) → Some (cond x letter b) ≡ Some mark → Some b ≡ Some mark
    by true e = absurd (other (sym (same_Some letter mark e)))
    by false e = e
get-lettered n at (b ∷ bs) (suc i) mark other h = get-lettered (suc n) at bs i mark other h

pub same-marks : (at bytes : List ℕ) (i mark : ℕ) → (mark ≡ 61) ⊎ (mark ≡ 45) → slice_get (with_letters at bytes) i ≡ Some mark → slice_get bytes i ≡ Some mark
same-marks at bytes i mark is h = get-lettered 0 at bytes i mark other h
  where
    other : mark ≡ letter → ⊥
    other e = let a : mark ≡ 97 = e in elim is [ inl equals ↦ absurd (omega (arith, a, equals)) | inr dash ↦ absurd (omega (arith, a, dash)) ]

-- The leaf blocks of a text
pub text-ranked : (g : Given) (given : List ℕ) (same : (i mark : ℕ) → (mark ≡ 61) ⊎ (mark ≡ 45) → slice_get g.bytes i ≡ Some mark → slice_get given i ≡ Some mark) (text : Text) → IsText g text
    → AllByRecursion (IsRanked g.bytes given same g.options.constructs) (leaf_blocks g.options.constructs (lines_in text.seats))
text-ranked g given same text is =
    let bytes = g.bytes in
    let on = g.options.constructs in
    let p = shown bytes text.start in
    let course = text-course g text is in
    let start : (k : ℕ) → slice_index bytes (0 + k) ≡ slice_index bytes k = λ k. let z : 0 + k ≡ k = omega arith in ap (slice_index bytes) z in
    let signed = course-every AcrossGap g.tab bytes (IsSigned g.tab bytes) (each-signed g.tab bytes (virtual g.tab bytes) (laid-virtual bytes g.tab 1 1 0 bytes is.document.tab.0 start)) p text.seats course in
    let laid = laid-lines bytes text.seats (laid-course g.tab bytes p text.seats course signed) in
    let written = bytes-lines bytes text.seats (course-every AcrossGap g.tab bytes (IsByte bytes) (bytes-virtual bytes g.tab 1 1 0 bytes start) p text.seats course) in
    of-blocks bytes given same on (length (lines_in text.seats)) (lines_in text.seats) (both bytes given same on (lines_in text.seats) laid written)
