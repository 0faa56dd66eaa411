-- What was read between a `[` and a `]`: the bytes that it stands for agree with those behind the `[`, up to the `]` or to a line ending.
use Rattle.mddocument_editing.proofs.Prelude.{◌≡◌, ◌⊎◌, ℕ, zero, suc, ◌+◌, ◌-◌, ◌<◌, ◌≤◌, ◌&&◌, Bool, true, false, cond, List, [], ◌∷◌, ◌++◌, drop, take, inl, inr, map, refl, sym, ap, ◌∙◌, subst, arith, append_assoc, false≢true, drop-drop, drop-take, take-take, AllByRecursion, between, flat_map, slice_index, every-back, every-front, Event, Point, follows_cr, shown, Seat, begins_with_lf, end_after, in_tab, line_feed, other_byte, tab_width, virtual_from, IsWritten, dark-shown, is_dark, LinedFor, Course, course-on, course-place, course-upto, AcrossGap, bytes_before, spanned_bytes, is_line_ending, OneLine, is_in_brackets, may_stand}
use Rattle.std.proofs.Common.{◌==◌, ◌||◌, get_or-drop}
use Rattle.std.proofs.lemmas.Slice.{between_is}
use Rattle.markdown_tokenizer.proofs.Inside.Known.{not-before-index}
use Rattle.mdconstructs_machines.specs.Innermost.{span_over, stretch_bytes}
use Rattle.mddocument_editing.specs.InBrackets.{ends_line}
use Rattle.mddocument_editing.proofs.MayStand.{brackets-at, drop-index, may-behind, may-over}

-- ---- line endings

module _ (bytes : List ℕ) where
  -- a virtual line ending is one of the document, and ends one byte behind itself
  abbrev pub IsFed : Seat → Type 0
  IsFed s = is_line_ending s ≡ true → (ends_line (slice_index bytes s.point.index) ≡ true) × (s.end.index ≡ suc s.point.index)

  fed-tab : (byte n line column index vs : ℕ) (rest : List Seat) → (byte == 10) ≡ false → AllByRecursion IsFed rest → AllByRecursion IsFed (in_tab byte n line column index vs ++ rest)
  fed-tab byte zero line column index vs rest other h = h
  fed-tab byte (suc n) line column index vs rest other h = ((λ e. absurd (false≢true (sym other ∙ e))), fed-tab 32 n line (suc column) index (suc vs) rest refl h)

  pub fed-virtual : (t line column index : ℕ) (bs : List ℕ) → ((k : ℕ) → slice_index bytes (index + k) ≡ slice_index bs k) → AllByRecursion IsFed (virtual_from t line column index bs)
  fed-virtual t line column index [] at = tt
  fed-virtual t line column index (b ∷ bs) at =
      let more : (k : ℕ) → slice_index bytes (suc index + k) ≡ slice_index bs k = λ k. let z : suc index + k ≡ index + suc k = omega arith in ap (slice_index bytes) z ∙ at (suc k) in
      let here : slice_index bytes index ≡ b = let z : index ≡ index + 0 = omega arith in ap (slice_index bytes) z ∙ at 0 in
      by here (λ l c. fed-virtual t l c (suc index) bs more) (b == 10) (b == 13) (begins_with_lf bs) (b == 9) refl refl
    where
      feed : slice_index bytes index ≡ b → ends_line b ≡ true → IsFed (line_feed line column index)
      feed here ends e = (ap ends_line here ∙ ends, refl)

      by : slice_index bytes index ≡ b → ((l c : ℕ) → AllByRecursion IsFed (virtual_from t l c (suc index) bs)) → (p q r w : Bool) → (b == 10) ≡ p → (b == 13) ≡ q
          → AllByRecursion IsFed
          (cond p (line_feed line column index ∷ virtual_from t (suc line) 1 (suc index) bs)
          (cond q (cond r (virtual_from t line column (suc index) bs) (line_feed line column index ∷ virtual_from t (suc line) 1 (suc index) bs))
          (cond w (in_tab 9 (tab_width t column) line column index 0 ++ virtual_from t line (column + tab_width t column) (suc index) bs)
          (other_byte b line column index ∷ virtual_from t line (suc column) (suc index) bs))))
      by here rest true q r w lf cr = (feed here (ap (λ x. x || (b == 13)) lf), rest (suc line) 1)
      by here rest false true true w lf cr = rest line column
      by here rest false true false w lf cr = (feed here (λ i. lf i || cr i), rest (suc line) 1)
      by here rest false false r true lf cr = fed-tab 9 (tab_width t column) line column index 0 (virtual_from t line (column + tab_width t column) (suc index) bs) refl (rest line (column + tab_width t column))
      by here rest false false r false lf cr = ((λ e. absurd (false≢true (sym lf ∙ e))), rest line (suc column))

  -- where it is shown a line ends, too
  pub record EndsAt (from to : ℕ) : Type 0 where
    pub at : ℕ
    pub order : from ≤ at
    pub within : at < to
    pub ends : ends_line (slice_index bytes at) ≡ true

  pub shown-ends : (s : Seat) (from : ℕ) → IsFed s → is_line_ending s ≡ true → from ≤ (shown bytes s.point).index → EndsAt from s.end.index
  shown-ends s from fed is order = by (slice_index bytes s.point.index == 10) s.point.index refl order
    where
      ended : ends_line (slice_index bytes s.point.index) ≡ true
      ended = (fed is).0

      next : s.end.index ≡ suc s.point.index
      next = (fed is).1

      by : (x : Bool) (i : ℕ) → s.point.index ≡ i → from ≤ (cond (x && follows_cr bytes i) (record { line = s.point.line; column = s.point.column; index = i - 1; vs = s.point.vs }) s.point).index → EndsAt from s.end.index
      by false i e le = record { at = s.point.index; order = le; within = omega (arith, next); ends = ended }
      by true zero e le = record { at = s.point.index; order = le; within = omega (arith, next); ends = ended }
      by true (suc j) e le = cr (slice_index bytes j == 13) refl le
        where
          cr : (x : Bool) → (slice_index bytes j == 13) ≡ x → from ≤ (cond x (record { line = s.point.line; column = s.point.column; index = suc j - 1; vs = s.point.vs }) s.point).index → EndsAt from s.end.index
          cr false d le = record { at = s.point.index; order = le; within = omega (arith, next); ends = ended }
          cr true d le = record { at = j; order = omega (arith, le); within = omega (arith, next, e); ends = grind (arith, d) }

-- ---- virtual bytes of a text

module _ (t : ℕ) (bytes : List ℕ) where
  abbrev Follows : Point → List Seat → Type 0
  Follows = Course AcrossGap t bytes

  -- the first of virtual bytes, if there is one, is shown at a place
  abbrev pub FirstShown : Point → List Seat → Type 0
  FirstShown p [] = Unit {0}
  FirstShown p (s ∷ ss) = shown bytes s.point ≡ p

  -- behind a virtual byte that is no line ending comes the next at once
  pub next-shown : (p : Point) (s : Seat) (l : List Seat) → is_line_ending s ≡ false → Follows p (s ∷ l) → FirstShown s.end l
  next-shown p s [] other course = tt
  next-shown p s (r ∷ rs) other course = elim course.2.1.meets.in_line [
    | inl same ↦ sym same
    | inr gap ↦ absurd (let far = course.1.seat.in_line other in omega (arith, far, gap.0))
  ]

  -- Behind virtual bytes of one line comes the next at once, or a line ends among the bytes that they stand for
  line-ends : (p : Point) (s : Seat) (ss l : List Seat) → OneLine (s ∷ ss) → AllByRecursion (IsFed bytes) (s ∷ ss) → Follows p (s ∷ (ss ++ l)) → FirstShown (end_after s.end ss) l ⊎ EndsAt bytes p.index (end_after s.end ss).index
  line-ends p s [] l one fed course = by (is_line_ending s) refl
    where
      by : (x : Bool) → is_line_ending s ≡ x → FirstShown s.end l ⊎ EndsAt bytes p.index s.end.index
      by true e = inr (shown-ends bytes s p.index fed.0 e (not-before-index (shown bytes s.point).index (shown bytes s.point).vs p.index p.vs course.1.later))
      by false e = inl (next-shown p s l e course)
  line-ends p s (r ∷ rs) l one fed course = elim (line-ends s.end r rs l one.1 fed.1 course.2) [
    | inl next ↦ inl next
    | inr ends ↦ inr (
        let here = not-before-index (shown bytes s.point).index (shown bytes s.point).vs p.index p.vs course.1.later in
        let onward = not-before-index s.end.index s.end.vs (shown bytes s.point).index (shown bytes s.point).vs course.1.seat.onward in
        record { at = ends.at; order = omega (arith, here, onward, ends.order); within = ends.within; ends = ends.ends })
  ]

  -- the bytes between two places, of those in front of a third
  abbrev between_places : (last : ℕ) → Point × Point → List ℕ
  between_places last places = between places.0.index places.1.index (take last bytes)

  stood-for : (i j k : ℕ) → i ≤ j → j ≤ k → between i j (take k bytes) ≡ take (j - i) (drop i bytes)
  stood-for i j k le within =
      let all : j ≡ i + (j - i) = omega (arith, le) in
      between_is (take k bytes) i j ∙ ap (drop i) (take-take j k bytes within) ∙ ap (λ n. drop i (take n bytes)) all ∙ drop-take i (j - i) bytes

  -- Stretches of one line each, from a place on, behind which a `]` stands: what they stand for may stand there
  stands : (stretches : List (Seat × List Seat)) (p : Point) (c : Seat) (rest : List Seat) (tail : List ℕ) → let last = (shown bytes c.point).index in
      AllByRecursion (λ (stretch : Seat × List Seat). OneLine (stretch_bytes stretch)) stretches → AllByRecursion (IsFed bytes) (flat_map stretch_bytes stretches) → Follows p (flat_map stretch_bytes stretches ++ c ∷ rest)
      → FirstShown p (flat_map stretch_bytes stretches ++ c ∷ rest) → drop last bytes ≡ 93 ∷ tail
      → may_stand (flat_map (between_places last) (map (span_over bytes) stretches)) (drop p.index bytes) ≡ true
  stands [] p c rest tail lines fed course first end = ap (may_stand []) (ap (λ (q : Point). drop q.index bytes) (sym first) ∙ end)
  stands ((s, ss) ∷ more) p c rest tail lines fed course first end =
      let others = flat_map stretch_bytes more in
      let behind = others ++ c ∷ rest in
      let q = end_after s.end ss in
      let k = (shown bytes c.point).index in
      let apart : Follows p ((s ∷ ss) ++ behind) = subst (Follows p) (append_assoc (s ∷ ss) others (c ∷ rest)) course in
      let here = every-front (IsFed bytes) (s ∷ ss) others fed in
      let rests = every-back (IsFed bytes) (s ∷ ss) others fed in
      let onward : Follows q behind = course-on AcrossGap t bytes p (s ∷ ss) behind apart in
      let up = not-before-index q.index q.vs p.index p.vs (course-upto AcrossGap t bytes p (s ∷ ss) behind apart) in
      let last = course-on AcrossGap t bytes q others (c ∷ rest) onward in
      let one = not-before-index (end_after q others).index (end_after q others).vs q.index q.vs (course-upto AcrossGap t bytes q others (c ∷ rest) onward) in
      let two = not-before-index (shown bytes c.point).index (shown bytes c.point).vs (end_after q others).index (end_after q others).vs last.1.later in
      let label = flat_map (between_places k) (map (span_over bytes) more) in
      let from : (shown bytes s.point).index ≡ p.index = ap (λ (x : Point). x.index) first in
      let to : (shown bytes q).index ≡ q.index = ap (λ (x : Point). x.index) (course-place AcrossGap t bytes q behind onward).is_shown in
      let stretch : between_places k (span_over bytes (s, ss)) ≡ take (q.index - p.index) (drop p.index bytes) =
      (λ i. between (from i) (to i) (take k bytes)) ∙ stood-for p.index q.index k up (omega (arith, one, two)) in
      let whole : q.index ≡ p.index + (q.index - p.index) = omega (arith, up) in
      ap (λ l. may_stand (l ++ label) (drop p.index bytes)) stretch
      ∙ elim (line-ends p s ss behind lines.0 here apart) [
        | inl next ↦
            let there = stands more q c rest tail lines.1 rests onward next end in
            may-behind label (drop p.index bytes) (q.index - p.index) (ap (may_stand label) (drop-drop (q.index - p.index) p.index bytes ∙ ap (λ n. drop n bytes) (sym whole)) ∙ there)
        | inr e ↦
            let at : p.index + (e.at - p.index) ≡ e.at = (let le = e.order in omega (arith, le)) in
            let less : e.at - p.index < q.index - p.index = (let le = e.order in let lt = e.within in omega (arith, le, lt)) in
            may-over label (drop p.index bytes) (q.index - p.index) (e.at - p.index) less (ap ends_line (get_or-drop p.index bytes (e.at - p.index) 0 ∙ ap (slice_index bytes) at) ∙ e.ends)
      ]

  -- What was read between a `[` and a `]` may stand behind that `[`
  pub label-stands : (p : Point) (opening c : Seat) (inside rest : List Seat) (es : List Event) → opening.byte ≡ 91 → c.byte ≡ 93 → Follows p (opening ∷ (inside ++ c ∷ rest)) → IsWritten bytes opening → IsWritten bytes c
      → AllByRecursion (IsFed bytes) inside → LinedFor es bytes inside → is_in_brackets (spanned_bytes (bytes_before bytes (c ∷ rest)) es) bytes ≡ true
  label-stands p opening c inside rest es opens closes course w v fed lined =
      let dark : is_dark opening.byte ≡ true = ap is_dark opens in
      let shut : is_dark c.byte ≡ true = ap is_dark closes in
      let other : is_line_ending opening ≡ false = ap (λ b. b == 10) opens in
      let front = drop-index bytes opening.point.index 91 ((w dark).0 ∙ opens) (omega arith) in
      let next : opening.point.index + 1 ≡ suc opening.point.index = omega arith in
      let behind : opening.end.index ≡ suc opening.point.index = ap (λ (q : Point). q.index) (w dark).1 ∙ next in
      let place : (shown bytes c.point).index ≡ c.point.index = ap (λ (q : Point). q.index) (dark-shown bytes c v shut) in
      let end : drop (shown bytes c.point).index bytes ≡ 93 ∷ drop (suc c.point.index) bytes = ap (λ n. drop n bytes) place ∙ drop-index bytes c.point.index 93 ((v shut).0 ∙ closes) (omega arith) in
      let account = lined.account in
      let are = account.are_all in
      let label = spanned_bytes (bytes_before bytes (c ∷ rest)) es in
      let may : may_stand label (drop opening.end.index bytes) ≡ true =
      ap (λ spans. may_stand (flat_map (between_places (shown bytes c.point).index) spans) (drop opening.end.index bytes)) account.are_innermost
      ∙ stands account.stretches opening.end c rest (drop (suc c.point.index) bytes) lined.lines (subst (AllByRecursion (IsFed bytes)) (sym are) fed) (subst (λ l. Follows opening.end (l ++ c ∷ rest)) (sym are) course.2)
      (subst (λ l. FirstShown opening.end (l ++ c ∷ rest)) (sym are) (next-shown p opening (inside ++ c ∷ rest) other course)) end
      in
      brackets-at label bytes opening.point.index (drop (suc opening.point.index) bytes) front (ap (λ n. may_stand label (drop n bytes)) (sym behind) ∙ may)
