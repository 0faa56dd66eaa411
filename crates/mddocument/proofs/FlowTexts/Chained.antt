-- A list whose marks are cut into segments has the chains of these.
use Rattle.mddocument.proofs.Prelude.{◌≡◌, ℕ, suc, ◌+◌, List, [], ◌∷◌, ◌++◌, false, Option, Some, None, length, drop, refl, sym, ap, ◌∙◌, subst, arith, filter, slice_get, AllByRecursion, range_with_len, drop-drop, Content, Event, Seat, get-dropped, begins, first-linked, mark_at, Mark, linked_from}
use Rattle.mddocument.proofs.FlowTexts.Segments.{IsKept}

-- two events for each chunk
abbrev pub two_for : List (List Seat) → ℕ
two_for [] = 0
two_for (c ∷ cs) = 2 + two_for cs

-- the indices of a chain's chunks
abbrev pub indices : ℕ → List (List Seat) → List ℕ
indices i [] = []
indices i (c ∷ cs) = i ∷ indices (i + 2) cs

-- the events from an index on are those of marks
abbrev pub IsAt : List Event → ℕ → List Mark → Type 0
IsAt events i marks = drop i events ≡ linked_from i marks

module _ (events : List Event) where
  -- the first of them, and the others
  pub first-at : (i : ℕ) (m : Mark) (marks : List Mark) → IsAt events i (m ∷ marks) → slice_get events i ≡ Some (mark_at i m)
  first-at i m marks at =
      let same : i + 0 ≡ i = omega arith in
      ap (slice_get events) (sym same) ∙ sym (get-dropped i events 0) ∙ ap (λ (l : List Event). slice_get l 0) (at ∙ first-linked i m marks)

  pub next-at : (i : ℕ) (m : Mark) (marks : List Mark) → IsAt events i (m ∷ marks) → IsAt events (i + 1) marks
  next-at i m marks at =
      let same : i + 1 ≡ 1 + i = omega arith in
      sym (drop-drop 1 i events) ∙ ap (drop 1) (at ∙ first-linked i m marks)

  pub kept-at : (i : ℕ) (marks rest : List Mark) → IsAt events i (marks ++ rest) → IsAt events (i + length marks) rest
  kept-at i [] rest at = let same : i ≡ i + 0 = omega arith in subst (λ j. IsAt events j rest) same at
  kept-at i (m ∷ marks) rest at =
      let same : i + 1 + length marks ≡ i + length (m ∷ marks) = omega arith in
      subst (λ j. IsAt events j rest) same (kept-at (i + 1) marks rest (next-at i m (marks ++ rest) at))

-- chunks that pass a filter
module _ (wanted : Option Content) (events : List Event) where
  -- an event without a link begins no such chain, nor does one that begins a chunk that does not pass
  no-start : (i : ℕ) (m : Mark) → slice_get events i ≡ Some (mark_at i m) → IsKept wanted m → begins wanted events i ≡ false
  no-start i (e, None) is h = rw (is, h) refl
  no-start i (e, Some chunk) is h = rw (is, h.0) refl

  -- the first chunks of chains that pass among the events from an index on
  abbrev pub starts_in : (i n : ℕ) → List ℕ
  starts_in i n = filter (begins wanted events) (range_with_len i n)

  pub kept-starts : (i : ℕ) (marks rest : List Mark) → AllByRecursion (IsKept wanted) marks → IsAt events i (marks ++ rest) → starts_in i (length (marks ++ rest)) ≡ starts_in (i + length marks) (length rest)
  kept-starts i [] rest h at = let same : i ≡ i + 0 = omega arith in ap (λ j. starts_in j (length rest)) same
  kept-starts i (m ∷ marks) rest h at =
      let same : i + 1 + length marks ≡ i + length (m ∷ marks) = omega arith in
      let none = no-start i m (first-at events i m (marks ++ rest) at) h.0 in
      let one : starts_in i (suc (length (marks ++ rest))) ≡ starts_in (i + 1) (length (marks ++ rest)) = rw none refl in
      one ∙ kept-starts (i + 1) marks rest h.1 (next-at events i m (marks ++ rest) at) ∙ ap (λ j. starts_in j (length rest)) same
