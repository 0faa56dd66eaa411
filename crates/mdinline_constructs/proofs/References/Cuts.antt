-- The events of a character reference: they can be cut into atoms, as none goes over a line ending; and what spans keep holds of them.
use Rattle.mdinline_constructs.proofs.Prelude.{◌≡◌, ◌∙◌, ℕ, ◌+◌, ◌-◌, ◌++◌, List, [], ◌∷◌, false, take, drop, refl, sym, ap, subst, arith, take-add, drop-drop, drop-take, take-take, between, prefix_len, Seat, Event, CharacterReference, CharacterReferenceMarker, CharacterReferenceMarkerNumeric, CharacterReferenceMarkerHexadecimal, CharacterReferenceMarkerSemi, CharacterReferenceValue, is_ampersand, bytes_of, OfOption, when-there, OneLine, IsCut, cut-append, cut-leaf, ItemCut, NoEnding, one-taken, plain-line, run-plain, three-cut, IsBuilt, IsKeptBySpans, Kind, named, decimal, hexadecimal, is_number_sign, is_value_byte, is_x, mark_events, marks, body_at, number_at, reference, reference_at, value_at}
use Rattle.mdconstructs_machines.specs.Spans.{leaf}
use Rattle.mdinline_constructs.proofs.References.Bytes.{either-there, reference-holds, value-holds}

module _ (bytes : List ℕ) where
  -- the markers before a value
  marks-cut : (kind : Kind) (l : List Seat) → IsCut bytes (mark_events bytes kind l) (take (marks kind) l)
  marks-cut named l = cut-leaf bytes CharacterReferenceMarker (take 1 l) (one-taken l)
  marks-cut decimal l =
      subst (IsCut bytes (mark_events bytes decimal l)) (sym (take-add 1 1 l))
      (cut-append bytes (cut-leaf bytes CharacterReferenceMarker (take 1 l) (one-taken l)) (cut-leaf bytes CharacterReferenceMarkerNumeric (take 1 (drop 1 l)) (one-taken (drop 1 l))))
  marks-cut hexadecimal l =
      let two : take 2 (drop 1 l) ≡ take 1 (drop 1 l) ++ take 1 (drop 2 l) = take-add 1 1 (drop 1 l) ∙ ap (λ m. take 1 (drop 1 l) ++ take 1 m) (drop-drop 1 1 l) in
      subst (IsCut bytes (mark_events bytes hexadecimal l)) (sym (take-add 1 2 l ∙ ap (λ m. take 1 l ++ m) two))
      (cut-append bytes (cut-leaf bytes CharacterReferenceMarker (take 1 l) (one-taken l))
      (cut-append bytes (cut-leaf bytes CharacterReferenceMarkerNumeric (take 1 (drop 1 l)) (one-taken (drop 1 l))) (cut-leaf bytes CharacterReferenceMarkerHexadecimal (take 1 (drop 2 l)) (one-taken (drop 2 l)))))

  -- a reference whose value has no line ending
  kind-cut : (kind : Kind) (n : ℕ) (seats : List Seat) → NoEnding (take n (drop (marks kind) seats)) → ItemCut bytes seats (reference kind n)
  kind-cut kind n seats plain =
      let m = marks kind in
      let l = take (m + n + 1) seats in
      let size : m + n - m ≡ n = omega arith in
      let long : m + n + 1 ≡ m + (n + 1) = omega arith in
      let middle_is : between m (m + n) l ≡ take n (drop m seats) =
      (λ x. take (size x) (drop m (take (long x) seats))) ∙ ap (take n) (drop-take m (n + 1) seats) ∙ take-take n (n + 1) (drop m seats) (omega arith) in
      let last_is : drop (m + n) l ≡ take 1 (drop (m + n) seats) = drop-take (m + n) 1 seats in
      three-cut bytes CharacterReference m n l (marks-cut kind l)
      (cut-leaf bytes CharacterReferenceValue (between m (m + n) l) (plain-line (between m (m + n) l) (subst NoEnding (sym middle_is) plain)))
      (cut-leaf bytes CharacterReferenceMarkerSemi (drop (m + n) l) (subst OneLine (sym last_is) (one-taken (drop (m + n) seats))))

  value-cut : (kind : Kind) (seats rest : List Seat) → drop (marks kind) seats ≡ rest → is_value_byte kind 10 ≡ false → OfOption (ItemCut bytes seats) (value_at kind (bytes_of rest))
  value-cut kind seats rest is fails =
      let n = prefix_len (is_value_byte kind) (bytes_of rest) in
      value-holds (ItemCut bytes seats) kind (bytes_of rest)
      (kind-cut kind n seats (subst (λ l. NoEnding (take n l)) (sym is) (run-plain (is_value_byte kind) fails rest)))

  number-cut : (s h : Seat) (l : List Seat) → OfOption (ItemCut bytes (s ∷ h ∷ l)) (number_at (bytes_of l))
  number-cut s h [] = value-cut decimal (s ∷ h ∷ []) [] refl refl
  number-cut s h (y ∷ ys) =
      either-there (ItemCut bytes (s ∷ h ∷ y ∷ ys)) (is_x y.byte) (value_at hexadecimal (bytes_of ys)) (value_at decimal (bytes_of (y ∷ ys))) (value-cut hexadecimal (s ∷ h ∷ y ∷ ys) ys refl refl)
      (value-cut decimal (s ∷ h ∷ y ∷ ys) (y ∷ ys) refl refl)

  body-cut : (s : Seat) (l : List Seat) → OfOption (ItemCut bytes (s ∷ l)) (body_at (bytes_of l))
  body-cut s [] = value-cut named (s ∷ []) [] refl refl
  body-cut s (h ∷ hs) =
      either-there (ItemCut bytes (s ∷ h ∷ hs)) (is_number_sign h.byte) (number_at (bytes_of hs)) (value_at named (bytes_of (h ∷ hs))) (number-cut s h hs)
      (value-cut named (s ∷ h ∷ hs) (h ∷ hs) refl refl)

  pub reference-cut : (seats : List Seat) → OfOption (ItemCut bytes seats) (reference_at (bytes_of seats))
  reference-cut [] = tt
  reference-cut (s ∷ ss) = when-there (ItemCut bytes (s ∷ ss)) (is_ampersand s.byte) (body_at (bytes_of ss)) (body-cut s ss)

-- what spans keep
module _ (bytes : List ℕ) (P : List Event → Type 0) (kept : IsKeptBySpans bytes P) where
  marks-built : (kind : Kind) (seats : List Seat) → P (mark_events bytes kind seats)
  marks-built named seats = kept.alone CharacterReferenceMarker (take 1 seats)
  marks-built decimal seats =
      kept.both (leaf bytes CharacterReferenceMarker (take 1 seats)) (leaf bytes CharacterReferenceMarkerNumeric (between 1 2 seats)) (kept.alone CharacterReferenceMarker (take 1 seats))
      (kept.alone CharacterReferenceMarkerNumeric (between 1 2 seats))
  marks-built hexadecimal seats =
      kept.both (leaf bytes CharacterReferenceMarker (take 1 seats)) (leaf bytes CharacterReferenceMarkerNumeric (between 1 2 seats) ++ leaf bytes CharacterReferenceMarkerHexadecimal (between 2 3 seats))
      (kept.alone CharacterReferenceMarker (take 1 seats))
      (kept.both (leaf bytes CharacterReferenceMarkerNumeric (between 1 2 seats)) (leaf bytes CharacterReferenceMarkerHexadecimal (between 2 3 seats)) (kept.alone CharacterReferenceMarkerNumeric (between 1 2 seats))
      (kept.alone CharacterReferenceMarkerHexadecimal (between 2 3 seats)))

  pub reference-built : (text : List ℕ) → OfOption (IsBuilt bytes P kept) (reference_at text)
  reference-built text =
      reference-holds (IsBuilt bytes P kept)
      (λ kind n seats.
      let value = between (marks kind) (marks kind + n) seats in
      let last = drop (marks kind + n) seats in
      kept.around CharacterReference seats _ refl
      (kept.both (mark_events bytes kind seats) (leaf bytes CharacterReferenceValue value ++ leaf bytes CharacterReferenceMarkerSemi last) (marks-built kind seats)
      (kept.both (leaf bytes CharacterReferenceValue value) (leaf bytes CharacterReferenceMarkerSemi last) (kept.alone CharacterReferenceValue value) (kept.alone CharacterReferenceMarkerSemi last))))
      text
