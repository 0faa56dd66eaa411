-- Marks, cut into segments: chains of chunks that pass a filter, which adjoin, and marks that are kept.
use Rattle.mddocument.proofs.Prelude.{◌≡◌, ℕ, List, [], ◌∷◌, ◌++◌, Bool, true, false, Option, Some, None, map, refl, ◌⊎◌, sym, ◌∙◌, flat_map-append, append-nil, AllByRecursion, flat_map, every-append, Content, Event, Enter, Exit, Seat, end_after, lets_through, HaveNoLinks, event, IsSingle, IsWhole, Mark, chunk_span, span_marks, read_marks}
use Rattle.markdown_base.specs.declared.event.Content.TheVariants as content
use Rattle.markdown_base.specs.declared.event.Name.{Name}
use Rattle.markdown_base.specs.declared.event.Name.TheVariants as name

-- A segment of marks: marks that are kept, with the virtual bytes that they are over; or a chain of a content, by the virtual bytes of its chunks
pub data Segment : Type 0 where
  kept : List Mark → List Seat → Segment
  chain : Content → List (List Seat) → Segment

-- a mark without a chunk, or with one that stands alone and does not pass the filter
abbrev pub IsOther : (wanted : Option Content) → Content → Type 0
IsOther wanted c = lets_through wanted c ≡ false

-- leaf blocks have chunks of texts and of strings
abbrev pub IsTextual : Content → Type 0
IsTextual c = (c ≡ content.Text) ⊎ (c ≡ content.String)

abbrev pub IsKept : (wanted : Option Content) → Mark → Type 0
IsKept wanted mark = IsSingle (IsOther wanted) mark

-- events without links begin no chunk
pub kept-events : (wanted : Option Content) (es : List Event) → HaveNoLinks es → AllByRecursion (IsKept wanted) (map (λ (e : Event). (e, None)) es)
kept-events wanted [] h = tt
kept-events wanted (e ∷ es) h = (h.0, kept-events wanted es h.1)

-- there is a byte
abbrev pub HasByte : List Seat → Type 0
HasByte [] = ⊥
HasByte (s ∷ ss) = Unit {0}

abbrev pub IsGood : (wanted : Option Content) → Segment → Type 0
IsGood wanted (kept marks seats) = AllByRecursion (IsKept wanted) marks
IsGood wanted (chain c chunks) = (lets_through wanted c ≡ true) × IsTextual c × AllByRecursion HasByte chunks × AllByRecursion IsWhole chunks

-- the virtual bytes of chunks, one behind another
abbrev pub in_line : List (List Seat) → List Seat
in_line chunks = flat_map (λ (c : List Seat). c) chunks

abbrev pub seats_of : Segment → List Seat
seats_of (kept marks seats) = seats
seats_of (chain c chunks) = in_line chunks

-- the marks of a segment with the events of its chain
abbrev pub deep_of : (bytes : List ℕ) → (Option Content → List Seat → List Event) → Segment → List Mark
deep_of bytes reads (kept marks seats) = marks
deep_of bytes reads (chain c chunks) = read_marks (reads (Some c)) bytes (in_line chunks)

module _ (of : Content) (bytes : List ℕ) where
  -- the marks of a chain
  abbrev pub chain_marks : (has_previous : Bool) → List (List Seat) → List Mark
  chain_marks has_previous [] = []
  chain_marks has_previous (c ∷ []) = chunk_span bytes (Some (record { content = of; has_previous = has_previous; has_next = false })) name.Data c []
  chain_marks has_previous (c ∷ d ∷ cs) = chunk_span bytes (Some (record { content = of; has_previous = has_previous; has_next = true })) name.Data c [] ++ chain_marks true (d ∷ cs)

-- the marks of a segment with its chunks
abbrev pub flat_of : (bytes : List ℕ) → Segment → List Mark
flat_of bytes (kept marks seats) = marks
flat_of bytes (chain c chunks) = chain_marks c bytes false chunks

module _ (wanted : Option Content) (bytes : List ℕ) where
  module _ (reads : Option Content → List Seat → List Event) where
    -- Marks with chunks and marks with what they are read as are those of the same segments over virtual bytes
    pub record AreSegments (flat deep : List Mark) (seats : List Seat) : Type 0 where
      pub segments : List Segment
      pub flat_is : flat ≡ flat_map (flat_of bytes) segments
      pub deep_is : deep ≡ flat_map (deep_of bytes reads) segments
      pub seats_is : seats ≡ flat_map seats_of segments
      pub good : AllByRecursion (IsGood wanted) segments

    pub no-segments : AreSegments [] [] []
    no-segments = record { segments = []; flat_is = refl; deep_is = refl; seats_is = refl; good = tt }

    pub segments-both : {f g d e : List Mark} {a b : List Seat} → AreSegments f d a → AreSegments g e b → AreSegments (f ++ g) (d ++ e) (a ++ b)
    segments-both h k = record {
      segments = h.segments ++ k.segments;
      flat_is = (λ i. h.flat_is i ++ k.flat_is i) ∙ sym (flat_map-append (flat_of bytes) h.segments k.segments);
      deep_is = (λ i. h.deep_is i ++ k.deep_is i) ∙ sym (flat_map-append (deep_of bytes reads) h.segments k.segments);
      seats_is = (λ i. h.seats_is i ++ k.seats_is i) ∙ sym (flat_map-append seats_of h.segments k.segments);
      good = every-append (IsGood wanted) h.segments k.segments h.good k.good;
    }

    pub segments-kept : (marks : List Mark) (seats : List Seat) → AllByRecursion (IsKept wanted) marks → AreSegments marks marks seats
    segments-kept marks seats h = record { segments = kept marks seats ∷ []; flat_is = sym (append-nil marks); deep_is = sym (append-nil marks); seats_is = sym (append-nil seats); good = (h, tt) }

    pub segments-chain : (c : Content) → lets_through wanted c ≡ true → IsTextual c → (chunks : List (List Seat)) → AllByRecursion HasByte chunks → AllByRecursion IsWhole chunks
        → AreSegments (chain_marks c bytes false chunks) (read_marks (reads (Some c)) bytes (in_line chunks)) (in_line chunks)
    segments-chain c lets textual chunks h whole = record {
      segments = chain c chunks ∷ [];
      flat_is = sym (append-nil (chain_marks c bytes false chunks));
      deep_is = sym (append-nil (read_marks (reads (Some c)) bytes (in_line chunks)));
      seats_is = sym (append-nil (in_line chunks));
      good = ((lets, textual, h, whole), tt);
    }

    -- a span around segments
    pub segments-around : (n : Name) (seats : List Seat) {f d : List Mark} → AreSegments f d seats → AreSegments (span_marks bytes n seats f) (span_marks bytes n seats d) seats
    segments-around n [] h = h
    segments-around n (s ∷ ss) h =
        segments-both (segments-kept ((event bytes Enter n s.point, None) ∷ []) [] (refl, tt))
        (over-more (segments-both h (segments-kept ((event bytes Exit n (end_after s.end ss), None) ∷ []) [] (refl, tt))))
      where
        over-more : {f d : List Mark} → AreSegments f d ((s ∷ ss) ++ []) → AreSegments f d (s ∷ ss)
        over-more h = record { segments = h.segments; flat_is = h.flat_is; deep_is = h.deep_is; seats_is = sym (append-nil (s ∷ ss)) ∙ h.seats_is; good = h.good }
