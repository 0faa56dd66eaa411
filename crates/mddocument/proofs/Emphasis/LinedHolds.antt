-- Where innermost spans account for virtual bytes of a text, each in one line, void spans hold these bytes alone.
use Rattle.mddocument.proofs.Prelude.{◌≡◌, ℕ, true, List, [], ◌∷◌, ◌++◌, None, append_assoc, map, refl, sym, ap, ◌∙◌, subst, inl, inr, AllByRecursion, flat_map, every-back, every-front, Event, Enter, Exit, Kind, Data, Point, is_void, is_line_ending, shown, Seat, end_after, innermost_spans, span_over, stretch_bytes, OneLine, AcrossGap, Course, course-on, IsWhole, AreTight}
use Rattle.std.proofs.lemmas.Bool.{cases_Bool}
use Rattle.mddocument.proofs.Innermost.Lined.{InLine, LinedFor}
use Rattle.mdblock_leaf_blocks.proofs.Marks.MarkHolds.{HoldEach, Holds, holds-pair}

-- a list with no line ending but at its end is in one line
pub one-whole : (l : List Seat) → OneLine l → IsWhole l
one-whole [] h = tt
one-whole (s ∷ []) h = elim (cases_Bool (is_line_ending s)) [
  | inl ends ↦ inr (ends, refl)
  | inr on ↦ inl (on, tt)
]
one-whole (s ∷ r ∷ rs) h = inl (h.0, one-whole (r ∷ rs) h.1)

module _ (t : ℕ) (bytes : List ℕ) (In : Seat → Type 0) where
  -- an enter and an exit over a stretch in one line
  stretch-holds : (e f : Event) (s : Seat) (ss : List Seat) → OneLine (s ∷ ss) → e.point ≡ shown bytes s.point → f.point ≡ shown bytes (end_after s.end ss) → (p : Point) (rest : List Seat)
      → Course AcrossGap t bytes p ((s ∷ ss) ++ rest) → AllByRecursion In (s ∷ ss) → Holds t bytes In e.point f.point
  stretch-holds e f s ss line from to p rest course inside =
      let pair = holds-pair t bytes In None Data s ss (one-whole (s ∷ ss) line) p rest course inside in
      subst (λ x. Holds t bytes In x f.point) (sym from) (subst (Holds t bytes In (shown bytes s.point)) (sym to) (pair.0 refl refl))

  -- stretches of some innermost spans, each in one line, from a place on
  abbrev HoldFrom : List Event → Type 0
  HoldFrom es =
      (stretches : List (Seat × List Seat)) (p : Point) (rest : List Seat) → innermost_spans es ≡ map (span_over bytes) stretches → AllByRecursion InLine stretches
      → Course AcrossGap t bytes p (flat_map stretch_bytes stretches ++ rest) → AllByRecursion In (flat_map stretch_bytes stretches) → HoldEach t bytes In es

  spanned-holds : (e f : Event) (es : List Event) → HoldFrom (f ∷ es) → (stretches : List (Seat × List Seat)) (p : Point) (rest : List Seat) → (e.point, f.point) ∷ innermost_spans (f ∷ es) ≡ map (span_over bytes) stretches
      → AllByRecursion InLine stretches → Course AcrossGap t bytes p (flat_map stretch_bytes stretches ++ rest) → AllByRecursion In (flat_map stretch_bytes stretches) → HoldEach t bytes In (e ∷ f ∷ es)
  spanned-holds e f es more [] p rest same lines course inside = absurd (cc)
  spanned-holds e f es more ((s, ss) ∷ stretches) p rest same lines course inside =
      let l = s ∷ ss in
      let behind = flat_map stretch_bytes stretches in
      let pair : (e.point, f.point) ≡ span_over bytes (s, ss) = cc in
      let others : innermost_spans (f ∷ es) ≡ map (span_over bytes) stretches = cc in
      let whole = subst (Course AcrossGap t bytes p) (append_assoc l behind rest) course in
      let holds = stretch-holds e f s ss lines.0 (ap (λ (x : Point × Point). x.0) pair) (ap (λ (x : Point × Point). x.1) pair) p (behind ++ rest) whole (every-front In l behind inside) in
      ((λ enters void. holds), more stretches (end_after p l) rest others lines.1 (course-on AcrossGap t bytes p l (behind ++ rest) whole) (every-back In l behind inside))

  one-more : (k l : Kind) (e f : Event) (es : List Event) → e.kind ≡ k → f.kind ≡ l → (e.kind ≡ Enter → is_void e.name ≡ true → f.kind ≡ Exit) → HoldFrom (f ∷ es) → HoldFrom (e ∷ f ∷ es)
  one-more Exit l e f es first second tight more stretches p rest are lines course inside =
      let here : innermost_spans (e ∷ f ∷ es) ≡ innermost_spans (f ∷ es) = rw first refl in
      ((λ enters void. absurd (let no : Exit ≡ Enter = sym first ∙ enters in cc)), more stretches p rest (sym here ∙ are) lines course inside)
  one-more Enter Enter e f es first second tight more stretches p rest are lines course inside =
      let here : innermost_spans (e ∷ f ∷ es) ≡ innermost_spans (f ∷ es) = rw (first, second) refl in
      ((λ enters void. absurd (let no : Enter ≡ Exit = sym second ∙ tight enters void in cc)), more stretches p rest (sym here ∙ are) lines course inside)
  one-more Enter Exit e f es first second tight more stretches p rest are lines course inside =
      let here : innermost_spans (e ∷ f ∷ es) ≡ (e.point, f.point) ∷ innermost_spans (f ∷ es) = rw (first, second) refl in
      spanned-holds e f es more stretches p rest (sym here ∙ are) lines course inside

  each-holds : (es : List Event) → AreTight es → HoldFrom es
  each-holds [] tight stretches p rest are lines course inside = tt
  each-holds (e ∷ []) tight stretches p rest are lines course inside = ((λ enters void. absurd (tight.0 enters void)), tt)
  each-holds (e ∷ f ∷ es) tight stretches p rest are lines course inside =
      one-more e.kind f.kind e f es refl refl (λ enters void. (tight.0 enters void).0) (each-holds (f ∷ es) tight.1) stretches p rest are lines course inside

  pub lined-holds : (es : List Event) (seats : List Seat) (p : Point) (rest : List Seat) → LinedFor es bytes seats → AreTight es → Course AcrossGap t bytes p (seats ++ rest) → AllByRecursion In seats → HoldEach t bytes In es
  lined-holds es seats p rest h tight course inside =
      each-holds es tight h.account.stretches p rest h.account.are_innermost h.lines (subst (λ l. Course AcrossGap t bytes p (l ++ rest)) (sym h.account.are_all) course) (subst (AllByRecursion In) (sym h.account.are_all) inside)
