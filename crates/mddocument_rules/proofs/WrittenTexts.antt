-- What virtual bytes of a text are written as, however innermost spans cut them, each in one line: what events account for them gives the same bytes, also by
-- the front of the document up to what is left of the text.
use Rattle.mddocument_rules.proofs.Prelude.{◌≡◌, ◌∙◌, ℕ, false, not, cond, List, [], ◌∷◌, ◌++◌, append-nil, append_assoc, ap, arith, drop, flat_map, inl, inr, map, refl, subst, sym, take, AllByRecursion, between, ◌&&◌, Event, Enter, Exit, Kind, Point, Seat, end_after, is_enter, same_name}
use Rattle.std.proofs.lemmas.Grind.{flat_map-append}
use Rattle.std.proofs.lemmas.List.{take-take}
use Rattle.std.proofs.lemmas.Slice.{between_is}
use Rattle.std.specs.List.{slice_range}
use Rattle.std.specs.Prelude.{◌≤◌}
use Rattle.markdown_base.specs.declared.event.Name.TheVariants.{BlockQuoteMarker}
use Rattle.markdown_base.specs.Places.{shown}
use Rattle.markdown_tokenizer.proofs.Inside.Known.{not-before-index}
use Rattle.mdconstructs_machines.specs.Innermost.{ended_next, innermost_spans, span_over, stretch_bytes}
use Rattle.mdblock_leaf_blocks.proofs.Marks.Courses.{Course, course-on, course-place, course-upto}
use Rattle.mdblock_leaf_blocks.specs.ChunksJoin.{AcrossGap}
use Rattle.mdinline_machine.specs.Brackets.{bytes_before, spanned_bytes}
use Rattle.mdinline_text_machine.proofs.DeepSpans.Atoms.{OneLine}
use Rattle.mddocument.proofs.Innermost.Lined.{InLine, LinedFor}
use Rattle.mddocument_link_targets.specs.declared.strings.Reading.TheVariants.{AsWritten}
use Rattle.mddocument_link_targets.specs.Strings.{as_written, given, given_at}
use Rattle.mddocument_rules.proofs.WrittenSpans.{slice-both}

-- ---- events without markers of block quotes are written as their innermost spans are
abbrev pub IsUnmarked : Event → Type 0
IsUnmarked e = same_name e.name BlockQuoteMarker ≡ false

abbrev pub AreUnmarked : List Event → Type 0
AreUnmarked es = AllByRecursion IsUnmarked es

module _ (bytes : List ℕ) where
  -- the bytes between two places
  abbrev pub of_span : Point × Point → List ℕ
  of_span places = between places.0.index places.1.index bytes

  between-slice : (i j : ℕ) → slice_range bytes i j ≡ between i j bytes
  between-slice i j = refl

  first-span : (e f : Event) (es : List Event) → IsUnmarked e → given_at bytes AsWritten e (f ∷ es) ≡ flat_map of_span (cond (is_enter e.kind) (ended_next e (f ∷ es)) [])
  first-span e f es plain = by e.kind f.kind
    where
      by : (k l : Kind) → cond (is_enter k && not (is_enter l)) (given bytes AsWritten e.name e.point.index f.point.index) [] ≡ flat_map of_span (cond (is_enter k) (cond (is_enter l) [] ((e.point, f.point) ∷ [])) [])
      by Enter Enter = refl
      by Enter Exit = ap (λ b. cond b [] (slice_range bytes e.point.index f.point.index)) plain ∙ sym (append-nil (of_span (e.point, f.point)))
      by Exit l = refl

  last-span : (k : Kind) (e : Event) → flat_map of_span (cond (is_enter k) (ended_next e []) [] ++ []) ≡ []
  last-span Enter e = refl
  last-span Exit e = refl

  pub written-spans : (es : List Event) → AreUnmarked es → as_written bytes es ≡ spanned_bytes bytes es
  written-spans [] h = refl
  written-spans (e ∷ []) h = sym (last-span e.kind e)
  written-spans (e ∷ f ∷ es) h =
      (λ i. first-span e f es h.0 i ++ written-spans (f ∷ es) h.1 i) ∙ sym (flat_map-append of_span (cond (is_enter e.kind) (ended_next e (f ∷ es)) []) (innermost_spans (f ∷ es)))

  -- ---- virtual bytes with their course
  -- what is written for one
  abbrev pub of_seat : Seat → List ℕ
  of_seat s = slice_range bytes (shown bytes s.point).index (shown bytes s.end).index

  module _ (t : ℕ) where
    abbrev pub Follows : Point → List Seat → Type 0
    Follows = Course AcrossGap t bytes

    -- a stretch of one line is written as its virtual bytes are
    pub stretch-written : (p : Point) (s : Seat) (ss more : List Seat) → OneLine (s ∷ ss) → Follows p (s ∷ (ss ++ more))
        → slice_range bytes (shown bytes s.point).index (shown bytes (end_after s.end ss)).index ≡ flat_map of_seat (s ∷ ss)
    stretch-written p s [] more one course = sym (append-nil (of_seat s))
    stretch-written p s (r ∷ rs) more one course =
        let behind = (r ∷ rs) ++ more in
        let next : s.end ≡ shown bytes r.point = elim course.2.1.meets.in_line [ inl same ↦ same | inr gap ↦ absurd (let far = course.1.seat.in_line one.0 in omega (arith, far, gap.0)) ] in
        let here : (shown bytes s.end).index ≡ s.end.index = ap (λ (q : Point). q.index) (course-place AcrossGap t bytes s.end behind course.2).is_shown in
        let there : (shown bytes (end_after r.end rs)).index ≡ (end_after r.end rs).index = ap (λ (q : Point). q.index) (course-place AcrossGap t bytes (end_after r.end rs) more (course-on AcrossGap t bytes s.end (r ∷ rs) more course.2)).is_shown in
        let first = not-before-index s.end.index s.end.vs (shown bytes s.point).index (shown bytes s.point).vs course.1.seat.onward in
        let last = not-before-index (end_after r.end rs).index (end_after r.end rs).vs s.end.index s.end.vs (course-upto AcrossGap t bytes s.end (r ∷ rs) more course.2) in
        let begins : (shown bytes s.end).index ≡ (shown bytes r.point).index = here ∙ ap (λ (q : Point). q.index) next in
        slice-both bytes (shown bytes s.point).index (shown bytes s.end).index (shown bytes (end_after r.end rs)).index (omega (arith, here, first)) (omega (arith, here, there, last))
        ∙ ap (λ l. of_seat s ++ l) (ap (λ n. slice_range bytes n (shown bytes (end_after r.end rs)).index) begins ∙ stretch-written s.end r rs more one.1 course.2)

    stretches-written : (stretches : List (Seat × List Seat)) (p : Point) (more : List Seat) → AllByRecursion InLine stretches → Follows p (flat_map stretch_bytes stretches ++ more)
        → flat_map of_span (map (span_over bytes) stretches) ≡ flat_map of_seat (flat_map stretch_bytes stretches)
    stretches-written [] p more lines course = refl
    stretches-written ((s, ss) ∷ others) p more lines course =
        let rest = flat_map stretch_bytes others in
        let apart : Follows p ((s ∷ ss) ++ (rest ++ more)) = subst (Follows p) (append_assoc (s ∷ ss) rest more) course in
        (λ i. stretch-written p s ss (rest ++ more) lines.0 apart i ++ stretches-written others (end_after s.end ss) more lines.1 (course-on AcrossGap t bytes p (s ∷ ss) (rest ++ more) apart) i)
        ∙ sym (flat_map-append of_seat (s ∷ ss) rest)

    -- So what accounts for virtual bytes, line by line, gives what is written for these
    pub lined-written : (p : Point) (seats more : List Seat) (es : List Event) → Follows p (seats ++ more) → LinedFor es bytes seats → spanned_bytes bytes es ≡ flat_map of_seat seats
    lined-written p seats more es course h =
        ap (flat_map of_span) h.account.are_innermost
        ∙ stretches-written h.account.stretches p more h.lines (subst (λ l. Follows p (l ++ more)) (sym h.account.are_all) course)
        ∙ ap (flat_map of_seat) h.account.are_all

    -- ---- the front of the document
    -- an innermost span ends before a byte of the document
    abbrev pub EndsBy : ℕ → Point × Point → Type 0
    EndsBy k places = places.1.index ≤ k

    stretches-end : (stretches : List (Seat × List Seat)) (p : Point) (c : Seat) (rest : List Seat) → Follows p (flat_map stretch_bytes stretches ++ c ∷ rest) → AllByRecursion (EndsBy (shown bytes c.point).index) (map (span_over bytes) stretches)
    stretches-end [] p c rest course = tt
    stretches-end ((s, ss) ∷ others) p c rest course =
        let more = flat_map stretch_bytes others in
        let q = end_after s.end ss in
        let apart : Follows p ((s ∷ ss) ++ (more ++ c ∷ rest)) = subst (Follows p) (append_assoc (s ∷ ss) more (c ∷ rest)) course in
        let onward : Follows q (more ++ c ∷ rest) = course-on AcrossGap t bytes p (s ∷ ss) (more ++ c ∷ rest) apart in
        let last = course-on AcrossGap t bytes q more (c ∷ rest) onward in
        let one = not-before-index (end_after q more).index (end_after q more).vs q.index q.vs (course-upto AcrossGap t bytes q more (c ∷ rest) onward) in
        let two = not-before-index (shown bytes c.point).index (shown bytes c.point).vs (end_after q more).index (end_after q more).vs last.1.later in
        let to : (shown bytes q).index ≡ q.index = ap (λ (x : Point). x.index) (course-place AcrossGap t bytes q (more ++ c ∷ rest) onward).is_shown in
        (omega (arith, one, two, to), stretches-end others q c rest onward)

    pub lined-end : (p : Point) (seats : List Seat) (c : Seat) (rest : List Seat) (es : List Event) → Follows p (seats ++ c ∷ rest) → LinedFor es bytes seats → AllByRecursion (EndsBy (shown bytes c.point).index) (innermost_spans es)
    lined-end p seats c rest es course h =
        subst (AllByRecursion (EndsBy (shown bytes c.point).index)) (sym h.account.are_innermost)
        (stretches-end h.account.stretches p c rest (subst (λ l. Follows p (l ++ c ∷ rest)) (sym h.account.are_all) course))

    between-front : (k i j : ℕ) → j ≤ k → between i j (take k bytes) ≡ between i j bytes
    between-front k i j less = between_is (take k bytes) i j ∙ ap (drop i) (take-take j k bytes less) ∙ sym (between_is bytes i j)

    front-spans : (k : ℕ) (spans : List (Point × Point)) → AllByRecursion (EndsBy k) spans → flat_map (λ (places : Point × Point). between places.0.index places.1.index (take k bytes)) spans ≡ flat_map of_span spans
    front-spans k [] h = refl
    front-spans k (places ∷ spans) h = (λ i. between-front k places.0.index places.1.index h.0 i ++ front-spans k spans h.1 i)

    -- before the bytes that are left they stand for the same
    pub front-same : (es : List Event) (rest : List Seat) → ((c : Seat) (more : List Seat) → rest ≡ c ∷ more → AllByRecursion (EndsBy (shown bytes c.point).index) (innermost_spans es)) → spanned_bytes (bytes_before bytes rest) es ≡ spanned_bytes bytes es
    front-same es [] h = refl
    front-same es (c ∷ more) h = front-spans (shown bytes c.point).index (innermost_spans es) (h c more refl)
