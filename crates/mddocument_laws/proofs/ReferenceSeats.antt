-- The events of a character reference of a text are its spans in a line of the document, side by side; and there the document has the reference too.
use Rattle.mddocument_laws.proofs.Prelude.{◌≡◌, ℕ, zero, suc, ◌+◌, ◌-◌, ◌≤◌, List, [], ◌∷◌, ◌++◌, Bool, true, false, cond, drop, inl, inr, Some, length, length-drop, refl, sym, ap, ◌∙◌, subst, take, arith, false≢true, length-map, length-take-le, length-prefix_len, same_Some, AllByRecursion, between, prefix_len, is_some, Event, Enter, Exit, Name, Point, is_void, same_name, shown, Seat, end_after, point, later, unlinked_event, Course, course-place, AcrossGap, leaf, span, Found, Kind, decimal, hexadecimal, is_value, mark_events, marks, named, reference, reference_at, BeginsWithReference, mark_spans, reference_span, span_in_line}
use Rattle.std.proofs.lemmas.List.Sums.{prefix_len-le-length}
use Rattle.markdown_base.specs.declared.event.Name.TheVariants as name
use Rattle.mdinline_links.proofs.RunOrder.{later-later, later-none}
use Rattle.mdinline_characters.specs.CharacterReferences.{character_references}
use Rattle.mdinline_characters.specs.References.{characters_of}
use Rattle.mdinline_text_machine.proofs.Autolinks.Calls.{byte-within}
use Rattle.mdinline_text_machine.specs.Parts.{bytes_of}
use Rattle.mddocument_laws.proofs.Named.{Named, and, leafed, spanned}
use Rattle.mddocument.proofs.ReferenceBytes.{IsWritten, dark-shown, front-reference, is_dark, next-dark, reference-there, text-agrees}
use Rattle.mddocument_laws.proofs.ReferenceKinds.{references-are-written}
use Rattle.mddocument_laws.proofs.ReferenceSpans.{AreWhole, Begins, Closes, Goes, GoesOn, behind, outside}

-- ---- virtual bytes side by side

module _ (bytes : List ℕ) where
  -- from a place on, and shown where they are
  abbrev pub Row : Point → List Seat → Type 0
  Row p [] = Unit {0}
  Row p (s ∷ ss) = (shown bytes s.point ≡ p) × (shown bytes s.end ≡ later 1 p) × Row (later 1 p) ss

  row-take : (p : Point) (n : ℕ) (seats : List Seat) → Row p seats → Row p (take n seats)
  row-take p zero seats h = tt
  row-take p (suc n) [] h = tt
  row-take p (suc n) (s ∷ ss) h = (h.0, h.1, row-take (later 1 p) n ss h.2)

  row-drop : (p : Point) (n : ℕ) (seats : List Seat) → Row p seats → Row (later n p) (drop n seats)
  row-drop p zero seats h = subst (λ q. Row q seats) (sym (later-none p)) h
  row-drop p (suc n) [] h = tt
  row-drop p (suc n) (s ∷ ss) h =
      let one : 1 + n ≡ suc n = omega arith in
      subst (λ q. Row q (drop n ss)) (later-later n 1 p ∙ ap (λ k. later k p) one) (row-drop (later 1 p) n ss h.2)

  row-end : (p : Point) (s : Seat) (ss : List Seat) → Row p (s ∷ ss) → shown bytes (end_after s.end ss) ≡ later (length (s ∷ ss)) p
  row-end p s [] h = h.1
  row-end p s (r ∷ rs) h =
      let one : 1 + length (r ∷ rs) ≡ length (s ∷ r ∷ rs) = omega arith in
      row-end (later 1 p) r rs h.2 ∙ later-later (length (r ∷ rs)) 1 p ∙ ap (λ k. later k p) one

  -- a span over them
  span-row : (n : Name) (p : Point) (m : ℕ) (seats : List Seat) (events : List Event) → Row p seats → length seats ≡ suc m → span bytes n seats events ≡ span_in_line n p (suc m) events
  span-row n p m [] events h long = absurd (omega (arith, long))
  span-row n p m (s ∷ ss) events h long =
      let end : shown bytes (end_after s.end ss) ≡ later (suc m) p = row-end p s ss h ∙ ap (λ k. later k p) long in
      λ i. unlinked_event Enter n (h.0 i) ∷ (events ++ unlinked_event Exit n (end i) ∷ [])

  leaf-at : (n : Name) (p : Point) (a m : ℕ) (seats : List Seat) → Row p seats → a + suc m ≤ length seats → leaf bytes n (take (suc m) (drop a seats)) ≡ span_in_line n (later a p) (suc m) []
  leaf-at n p a m seats h within =
      let left = length-drop a seats in
      let some : suc m ≤ length (drop a seats) = omega (arith, left, within) in
      span-row n (later a p) m (take (suc m) (drop a seats)) [] (row-take (later a p) (suc m) (drop a seats) (row-drop p a seats h)) (length-take-le (suc m) (drop a seats) some)

  mark-row : (kind : Kind) (p : Point) (seats : List Seat) → Row p seats → marks kind ≤ length seats → mark_events bytes kind seats ≡ mark_spans kind p
  mark-row named p seats h within = leaf-at name.CharacterReferenceMarker p 0 0 seats h (omega (arith, within)) ∙ ap (λ q. span_in_line name.CharacterReferenceMarker q 1 []) (later-none p)
  mark-row decimal p seats h within =
      let first = leaf-at name.CharacterReferenceMarker p 0 0 seats h (omega (arith, within)) ∙ ap (λ q. span_in_line name.CharacterReferenceMarker q 1 []) (later-none p) in
      let second = leaf-at name.CharacterReferenceMarkerNumeric p 1 0 seats h (omega (arith, within)) in
      λ i. first i ++ second i
  mark-row hexadecimal p seats h within =
      let first = leaf-at name.CharacterReferenceMarker p 0 0 seats h (omega (arith, within)) ∙ ap (λ q. span_in_line name.CharacterReferenceMarker q 1 []) (later-none p) in
      let second = leaf-at name.CharacterReferenceMarkerNumeric p 1 0 seats h (omega (arith, within)) in
      let third = leaf-at name.CharacterReferenceMarkerHexadecimal p 2 0 seats h (omega (arith, within)) in
      λ i. first i ++ (second i ++ third i)

  -- the events of a reference over them
  reference-row : (kind : Kind) (m : ℕ) (p : Point) (seats : List Seat) → Row p seats → length seats ≡ marks kind + suc m + 1 → (reference kind (suc m)).events bytes seats ≡ reference_span kind (suc m) p
  reference-row kind m p seats h long =
      let before = marks kind in
      let size : before + suc m - before ≡ suc m = omega arith in
      let left = length-drop (before + suc m) seats in
      let one : length (drop (before + suc m) seats) ≡ suc 0 = omega (arith, left, long) in
      let all : suc (before + suc m) ≡ before + suc m + 1 = omega arith in
      let front = mark-row kind p seats h (omega (arith, long)) in
      let value = ap (λ k. leaf bytes name.CharacterReferenceValue (take k (drop before seats))) size ∙ leaf-at name.CharacterReferenceValue p before m seats h (omega (arith, long)) in
      let semi = span-row name.CharacterReferenceMarkerSemi (later (before + suc m) p) 0 (drop (before + suc m) seats) [] (row-drop p (before + suc m) seats h) one in
      let events = mark_spans kind p ++ (span_in_line name.CharacterReferenceValue (later before p) (suc m) [] ++ span_in_line name.CharacterReferenceMarkerSemi (later (before + suc m) p) 1 []) in
      (λ i. span bytes name.CharacterReference seats (front i ++ (value i ++ semi i)))
      ∙ span-row name.CharacterReference p (before + suc m) seats events h (long ∙ sym all)
      ∙ ap (λ k. span_in_line name.CharacterReference p k events) all

-- ---- dark bytes of a text

first-dark : (b : ℕ) (bs : List ℕ) (m : ℕ) → suc m ≤ prefix_len is_dark (b ∷ bs) → (is_dark b ≡ true) × (m ≤ prefix_len is_dark bs)
first-dark b bs m = by (is_dark b) refl
  where
    by : (x : Bool) → is_dark b ≡ x → suc m ≤ cond x (1 + prefix_len is_dark bs) 0 → (is_dark b ≡ true) × (m ≤ prefix_len is_dark bs)
    by true e h = (e, omega (arith, h))
    by false e h = absurd (omega (arith, h))

module _ (t : ℕ) (bytes : List ℕ) where
  none-row : (m : ℕ) (p : Point) → Row bytes p (take m [])
  none-row zero p = tt
  none-row (suc m) p = tt

  -- they stand side by side
  text-row : (m : ℕ) (p : Point) (s : Seat) (ss : List Seat) → Course AcrossGap t bytes p (s ∷ ss) → AllByRecursion (IsWritten bytes) (s ∷ ss) → m ≤ prefix_len is_dark (bytes_of (s ∷ ss)) → Row bytes s.point (take m (s ∷ ss))
  text-row zero p s ss c w few = tt
  text-row (suc m) p s [] c w few =
      let dark = (first-dark s.byte [] m few).0 in
      (dark-shown bytes s w.0 dark, (course-place AcrossGap t bytes s.end [] c.2).is_shown ∙ (w.0 dark).1, none-row m (later 1 s.point))
  text-row (suc zero) p s (r ∷ rs) c w few =
      let dark = (first-dark s.byte (bytes_of (r ∷ rs)) 0 few).0 in
      (dark-shown bytes s w.0 dark, (course-place AcrossGap t bytes s.end (r ∷ rs) c.2).is_shown ∙ (w.0 dark).1, tt)
  text-row (suc (suc m)) p s (r ∷ rs) c w few =
      let here = first-dark s.byte (bytes_of (r ∷ rs)) (suc m) few in
      let next = first-dark r.byte (bytes_of rs) m here.1 in
      let more = text-row (suc m) s.end r rs c.2 w.1 here.1 in (
        dark-shown bytes s w.0 here.0,
        (course-place AcrossGap t bytes s.end (r ∷ rs) c.2).is_shown ∙ (w.0 here.0).1,
        subst (λ q. Row bytes q (take (suc m) (r ∷ rs))) (next-dark bytes t p s r rs c w.1.0 here.0 next.0 ∙ (w.0 here.0).1) more,
      )

-- ---- the kind of a reference, and how many bytes its value has

abbrev some_seat : Seat
some_seat = record { byte = 0; point = point 1 1 0 0; end = point 1 1 0 0 }

abbrev some_seats : List Seat
some_seats = some_seat ∷ some_seat ∷ some_seat ∷ []

-- the events that are found have other names
abbrev NoneNamed : Name → List Seat → Found → Type 0
NoneNamed n seats f = Named (λ x. same_name x n ≡ false) (f.events [] seats)

no-number : (n : ℕ) (seats : List Seat) → NoneNamed name.CharacterReferenceMarkerNumeric seats (reference named n)
no-number n seats =
    spanned [] name.CharacterReference seats refl
    (and (leafed [] name.CharacterReferenceMarker (take 1 seats) refl)
    (and (leafed [] name.CharacterReferenceValue (between 1 (1 + n) seats) refl) (leafed [] name.CharacterReferenceMarkerSemi (drop (1 + n) seats) refl)))

no-hexadecimal : (n : ℕ) (seats : List Seat) → NoneNamed name.CharacterReferenceMarkerHexadecimal seats (reference decimal n)
no-hexadecimal n seats =
    spanned [] name.CharacterReference seats refl
    (and (and (leafed [] name.CharacterReferenceMarker (take 1 seats) refl) (leafed [] name.CharacterReferenceMarkerNumeric (between 1 2 seats) refl))
    (and (leafed [] name.CharacterReferenceValue (between 2 (2 + n) seats) refl) (leafed [] name.CharacterReferenceMarkerSemi (drop (2 + n) seats) refl)))

not-decimal : (n c : ℕ) → reference named n ≡ reference decimal c → ⊥
not-decimal n c same = let all = subst (NoneNamed name.CharacterReferenceMarkerNumeric some_seats) same (no-number n some_seats) in false≢true (sym all.all.1.1.1.0)

not-hexadecimal : (n c : ℕ) → reference named n ≡ reference hexadecimal c → ⊥
not-hexadecimal n c same = let all = subst (NoneNamed name.CharacterReferenceMarkerNumeric some_seats) same (no-number n some_seats) in false≢true (sym all.all.1.1.1.0)

other-base : (n c : ℕ) → reference decimal n ≡ reference hexadecimal c → ⊥
other-base n c same = let all = subst (NoneNamed name.CharacterReferenceMarkerHexadecimal some_seats) same (no-hexadecimal n some_seats) in false≢true (sym all.all.1.1.1.1.1.0)

pub same-kind : (a b : Kind) (n c : ℕ) → reference a n ≡ reference b c → a ≡ b
same-kind named named n c h = refl
same-kind named decimal n c h = absurd (not-decimal n c h)
same-kind named hexadecimal n c h = absurd (not-hexadecimal n c h)
same-kind decimal named n c h = absurd (not-decimal c n (sym h))
same-kind decimal decimal n c h = refl
same-kind decimal hexadecimal n c h = absurd (other-base n c h)
same-kind hexadecimal named n c h = absurd (not-hexadecimal c n (sym h))
same-kind hexadecimal decimal n c h = absurd (other-base c n (sym h))
same-kind hexadecimal hexadecimal n c h = refl

pub same-count : (a b : Kind) (n c : ℕ) → reference a n ≡ reference b c → n ≡ c
same-count a b n c h =
    let sizes : marks a + n + 1 ≡ marks b + c + 1 = ap (λ (f : Found). f.size) h in
    let kinds : marks a ≡ marks b = ap marks (same-kind a b n c h) in
    omega (arith, sizes, kinds)

no-name : is_some (characters_of []) ≡ false
unfolding characters_of character_references
no-name = refl

-- no value is empty
value-some : (kind : Kind) (n : ℕ) (bs : List ℕ) → is_value kind (take n bs) ≡ true → (m : ℕ) × (n ≡ suc m)
value-some kind (suc m) bs h = (m, refl)
value-some named zero bs h = absurd (false≢true (sym no-name ∙ h))
value-some decimal zero bs h = absurd (false≢true h)
value-some hexadecimal zero bs h = absurd (false≢true h)

-- ---- a reference of a text

-- an event and those behind it are the spans of a reference that the bytes have there
pub record IsSpanOf (bytes : List ℕ) (e : Event) (ys : List Event) : Type 0 where
  pub begins : BeginsWithReference (drop e.point.index bytes)
  pub are : e ∷ ys ≡ reference_span begins.kind begins.count e.point

module _ (bytes : List ℕ) where
  -- in a reference, each event behind another one
  abbrev Chained : Event → List Event → Type 0
  Chained last [] = Unit {0}
  Chained last (y ∷ ys) = GoesOn (IsSpanOf bytes) last y × Chained y ys

  chained-go : (last : Event) (ys : List Event) → Chained last ys → Goes (IsSpanOf bytes) (behind last ys) ys outside
  chained-go last [] h = refl
  chained-go last (y ∷ ys) h = (behind y ys, (refl, h.0, refl), chained-go y ys h.1)

  abbrev first : Point → Event
  first p = unlinked_event Enter name.CharacterReference p

  abbrev others : Kind → ℕ → Point → List Event
  others kind n p =
      (mark_spans kind p ++ (span_in_line name.CharacterReferenceValue (later (marks kind) p) n [] ++ span_in_line name.CharacterReferenceMarkerSemi (later (marks kind + n) p) 1 []))
      ++ unlinked_event Exit name.CharacterReference (later (marks kind + n + 1) p) ∷ []

  -- names of spans in a reference, with nothing in them
  abbrev IsOfPart : Name → Type 0
  IsOfPart m = (same_name m name.Data ≡ false) × (same_name m name.CharacterReference ≡ false) × (is_void m ≡ true)

  -- such a span goes on where an event stands, and so does what comes behind the span
  void-span : {Rest : Type 0} (last : Event) (m : Name) (q : Point) (size : ℕ) → IsOfPart m → last.point ≡ q → Rest
      → GoesOn (IsSpanOf bytes) last (unlinked_event Enter m q) × (GoesOn (IsSpanOf bytes) (unlinked_event Enter m q) (unlinked_event Exit m (later size q)) × Rest)
  void-span last m q size is at rest = (
    record { own = record { unlinked = refl; no_data = is.0 }; no_enter = is.1; seam = inr at },
    (record { own = record { unlinked = refl; no_data = is.0 }; no_enter = refl; seam = inl (refl, is.2) }, rest),
  )

  last-exit : (last : Event) (q : Point) → last.point ≡ q → Chained last (unlinked_event Exit name.CharacterReference q ∷ [])
  last-exit last q at = (record { own = record { unlinked = refl; no_data = refl }; no_enter = refl; seam = inr at }, tt)

  -- the value and `;`, behind the markers
  value-chained : (last : Event) (n m : ℕ) (p : Point) → last.point ≡ later m p
      → Chained last ((span_in_line name.CharacterReferenceValue (later m p) n [] ++ span_in_line name.CharacterReferenceMarkerSemi (later (m + n) p) 1 []) ++ unlinked_event Exit name.CharacterReference (later (m + n + 1) p) ∷ [])
  value-chained last n m p at =
      void-span last name.CharacterReferenceValue (later m p) n (refl, refl, refl) at
      (void-span _ name.CharacterReferenceMarkerSemi (later (m + n) p) 1 (refl, refl, refl) (later-later n m p) (last-exit _ (later (m + n + 1) p) (later-later 1 (m + n) p)))

  others-chained : (kind : Kind) (n : ℕ) (p : Point) → Chained (first p) (others kind n p)
  others-chained named n p = void-span _ name.CharacterReferenceMarker p 1 (refl, refl, refl) refl (value-chained _ n 1 p refl)
  others-chained decimal n p =
      void-span _ name.CharacterReferenceMarker p 1 (refl, refl, refl) refl
      (void-span _ name.CharacterReferenceMarkerNumeric (later 1 p) 1 (refl, refl, refl) refl (value-chained _ n 2 p (later-later 1 1 p)))
  others-chained hexadecimal n p =
      void-span _ name.CharacterReferenceMarker p 1 (refl, refl, refl) refl
      (void-span _ name.CharacterReferenceMarkerNumeric (later 1 p) 1 (refl, refl, refl) refl
      (void-span _ name.CharacterReferenceMarkerHexadecimal (later 2 p) 1 (refl, refl, refl) (later-later 1 1 p) (value-chained _ n 3 p (later-later 1 2 p))))

  others-close : (kind : Kind) (n : ℕ) (p : Point) → Closes 1 (others kind n p)
  others-close named n p = (omega arith, (omega arith, (omega arith, (omega arith, (omega arith, (omega arith, refl))))))
  others-close decimal n p = (omega arith, (omega arith, (omega arith, (omega arith, (omega arith, (omega arith, (omega arith, (omega arith, refl))))))))
  others-close hexadecimal n p = (omega arith, (omega arith, (omega arith, (omega arith, (omega arith, (omega arith, (omega arith, (omega arith, (omega arith, (omega arith, refl))))))))))

  span-whole : (p : Point) (b : BeginsWithReference (drop p.index bytes)) → AreWhole (IsSpanOf bytes) (reference_span b.kind b.count p)
  span-whole p b =
      let ys = others b.kind b.count p in
      let is : Begins (IsSpanOf bytes) (first p) ys = record { is = record { begins = b; are = refl }; own = record { unlinked = refl; no_data = refl }; enter = refl; closes = others-close b.kind b.count p } in
      (behind (first p) ys, inr (ys, is, refl), chained-go (first p) ys (others-chained b.kind b.count p))

  -- where a text has a reference, so has the document, and the events of it are whole
  module _ (t : ℕ) where
    pub reference-whole : (p : Point) (s : Seat) (ss : List Seat) → Course AcrossGap t bytes p (s ∷ ss) → AllByRecursion (IsWritten bytes) (s ∷ ss) → (kind : Kind) (n : ℕ) → reference_at (bytes_of (s ∷ ss)) ≡ Some (reference kind n)
        → AreWhole (IsSpanOf bytes) ((reference kind n).events bytes (take (marks kind + n + 1) (s ∷ ss)))
    reference-whole p s ss c w kind n found =
        let text = bytes_of (s ∷ ss) in
        let some = ap is_some found in
        let front = take (prefix_len is_dark text) text in
        let dark = front-reference text some ∙ found in
        let written = references-are-written front (ap is_some dark) in
        let size = same-count written.kind kind written.count n (same_Some (reference written.kind written.count) (reference kind n) (sym written.is ∙ dark)) in
        let kinds = same-kind written.kind kind written.count n (same_Some (reference written.kind written.count) (reference kind n) (sym written.is ∙ dark)) in
        let before : marks written.kind ≡ marks kind = ap marks kinds in
        let last = byte-within _ front (marks written.kind + written.count) written.ends in
        let long = length-prefix_len is_dark text in
        let few : marks kind + n + 1 ≤ prefix_len is_dark text = omega (arith, size, before, last, long) in
        let row = text-row t bytes (marks kind + n + 1) p s ss c w few in
        let there = reference-there text (drop s.point.index bytes) (text-agrees bytes t p s ss c w) some ∙ found in
        let b = references-are-written (drop s.point.index bytes) (ap is_some there) in
        let same = same_Some (reference b.kind b.count) (reference kind n) (sym b.is ∙ there) in
        let value = value-some b.kind b.count _ b.value in
        let suc_is : n ≡ suc value.0 = sym (same-count b.kind kind b.count n same) ∙ value.1 in
        let wide = prefix_len-le-length is_dark text in
        let bytes_long = length-map (s ∷ ss) (λ (x : Seat). x.byte) in
        let enough : marks kind + n + 1 ≤ length (s ∷ ss) = omega (arith, few, wide, bytes_long) in
        let all : length (take (marks kind + n + 1) (s ∷ ss)) ≡ marks kind + suc value.0 + 1 = length-take-le (marks kind + n + 1) (s ∷ ss) enough ∙ ap (λ k. marks kind + k + 1) suc_is in
        let kind_is = same-kind b.kind kind b.count n same in
        let back : reference_span b.kind b.count s.point ≡ reference_span kind (suc value.0) s.point = λ i. reference_span (kind_is i) (value.1 i) s.point in
        let are : (reference kind n).events bytes (take (marks kind + n + 1) (s ∷ ss)) ≡ reference_span b.kind b.count s.point =
        ap (λ k. (reference kind k).events bytes (take (marks kind + n + 1) (s ∷ ss))) suc_is
        ∙ reference-row bytes kind value.0 s.point (take (marks kind + n + 1) (s ∷ ss)) row all
        ∙ sym back in
        subst (AreWhole (IsSpanOf bytes)) (sym are) (span-whole s.point b)
