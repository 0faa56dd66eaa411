-- The chunks of one chain, whose marks stand in a list from an index on: where they are, and the virtual bytes that they are over.
use Rattle.mddocument.proofs.Prelude.{◌≡◌, ℕ, zero, suc, ◌+◌, ◌<◌, ◌≤◌, List, [], ◌∷◌, ◌++◌, Bool, true, false, Option, Some, None, append_assoc, length, refl, ap, ◌∙◌, subst, arith, slice_get_within, filter, slice_get, AllByRecursion, flat_map, Content, Event, Enter, Exit, Point, Seat, end_after, virtual, begins, chain_from, content_at, lets_through, place_at, IsChain, Given, AcrossGap, Course, course-on, line-splits, IsWhole, event, chunk_seats, origin, chain-from, place-shown, range-of, place-at-event, mark_at, Mark}
use Rattle.markdown_base.specs.declared.event.Name.TheVariants as name
use Rattle.markdown_base.specs.Places.{in_range}
use Rattle.mddocument.proofs.FlowTexts.Chained.{two_for, indices, IsAt, first-at, next-at, starts_in}
use Rattle.mddocument.proofs.FlowTexts.Segments.{HasByte, chain_marks, in_line}

-- whether a chunk comes behind
abbrev has_more : List (List Seat) → Bool
has_more [] = false
has_more (c ∷ cs) = true

module _ (of : Content) (g : Given) (events : List Event) where
  -- the events of the chunk at an index, before others of its chain
  abbrev enter_of : (i : ℕ) (p more : Bool) → Seat → Event
  enter_of i p more s = mark_at i (event g.bytes Enter name.Data s.point, Some (record { content = of; has_previous = p; has_next = more }))

  abbrev exit_of : Seat → List Seat → Event
  exit_of s ss = event g.bytes Exit name.Data (end_after s.end ss)

  -- A chunk is at an index, and the others of its chain behind it
  record ChunkAt (i : ℕ) (p : Bool) (s : Seat) (ss : List Seat) (cs : List (List Seat)) (rest : List Mark) : Type 0 where
    enter : slice_get events i ≡ Some (enter_of i p (has_more cs) s)
    exit : slice_get events (i + 1) ≡ Some (exit_of s ss)
    next : IsAt events (i + 2) (chain_marks of g.bytes true cs ++ rest)
    long : length (chain_marks of g.bytes p ((s ∷ ss) ∷ cs) ++ rest) ≡ suc (suc (length (chain_marks of g.bytes true cs ++ rest)))

  -- two marks in front, and the others
  two-at : (i : ℕ) (m n : Mark) (marks : List Mark) → IsAt events i (m ∷ n ∷ marks)
      → (slice_get events i ≡ Some (mark_at i m)) × (slice_get events (i + 1) ≡ Some (mark_at (i + 1) n)) × IsAt events (i + 2) marks
  two-at i m n marks at =
      let two : i + 1 + 1 ≡ i + 2 = omega arith in
      let then = next-at events i m (n ∷ marks) at in
      (first-at events i m (n ∷ marks) at, first-at events (i + 1) n marks then, subst (λ j. IsAt events j marks) two (next-at events (i + 1) n marks then))

  abbrev enter_mark : (p more : Bool) → Seat → Mark
  enter_mark p more s = (event g.bytes Enter name.Data s.point, Some (record { content = of; has_previous = p; has_next = more }))

  chunk-at : (i : ℕ) (p : Bool) (s : Seat) (ss : List Seat) (cs : List (List Seat)) (rest : List Mark) → IsAt events i (chain_marks of g.bytes p ((s ∷ ss) ∷ cs) ++ rest) → ChunkAt i p s ss cs rest
  chunk-at i p s ss [] rest at = let c = two-at i (enter_mark p false s) (exit_of s ss, None) rest at in record { enter = c.0; exit = c.1; next = c.2; long = refl }
  chunk-at i p s ss (d ∷ cs) rest at =
      let c = two-at i (enter_mark p true s) (exit_of s ss, None) (chain_marks of g.bytes true (d ∷ cs) ++ rest) at in record { enter = c.0; exit = c.1; next = c.2; long = refl }

  -- the first chunk begins the chain, and no other does
  later-starts : (wanted : Option Content) → lets_through wanted of ≡ true → (i : ℕ) (cs : List (List Seat)) (rest : List Mark) → AllByRecursion HasByte cs → IsAt events i (chain_marks of g.bytes true cs ++ rest)
      → starts_in wanted events i (length (chain_marks of g.bytes true cs ++ rest)) ≡ starts_in wanted events (i + two_for cs) (length rest)
  later-starts wanted lets i [] rest h at = let same : i ≡ i + 0 = omega arith in ap (λ j. starts_in wanted events j (length rest)) same
  later-starts wanted lets i ([] ∷ cs) rest h at = absurd h.0
  later-starts wanted lets i ((s ∷ ss) ∷ cs) rest h at =
      let c = chunk-at i true s ss cs rest at in
      let n = length (chain_marks of g.bytes true cs ++ rest) in
      let one : begins wanted events i ≡ false = rw (c.enter, lets) refl in
      let two : begins wanted events (i + 1) ≡ false = rw (c.exit) refl in
      let behind : i + 1 + 1 ≡ i + 2 = omega arith in
      let same : i + 2 + two_for cs ≡ i + two_for ((s ∷ ss) ∷ cs) = omega arith in
      let both : starts_in wanted events i (suc (suc n)) ≡ starts_in wanted events (i + 1 + 1) n = rw (one, two) refl in
      ap (starts_in wanted events i) c.long ∙ both ∙ ap (λ j. starts_in wanted events j n) behind ∙ later-starts wanted lets (i + 2) cs rest h.1 c.next ∙ ap (λ j. starts_in wanted events j (length rest)) same

  pub chain-starts : (wanted : Option Content) → lets_through wanted of ≡ true → (i : ℕ) (c : List Seat) (cs : List (List Seat)) (rest : List Mark) → AllByRecursion HasByte (c ∷ cs) → IsAt events i (chain_marks of g.bytes false (c ∷ cs) ++ rest)
      → starts_in wanted events i (length (chain_marks of g.bytes false (c ∷ cs) ++ rest)) ≡ i ∷ starts_in wanted events (i + two_for (c ∷ cs)) (length rest)
  chain-starts wanted lets i [] cs rest h at = absurd h.0
  chain-starts wanted lets i (s ∷ ss) cs rest h at =
      let c = chunk-at i false s ss cs rest at in
      let n = length (chain_marks of g.bytes true cs ++ rest) in
      let one : begins wanted events i ≡ true = rw (c.enter, lets) refl in
      let two : begins wanted events (i + 1) ≡ false = rw (c.exit) refl in
      let behind : i + 1 + 1 ≡ i + 2 = omega arith in
      let same : i + 2 + two_for cs ≡ i + two_for ((s ∷ ss) ∷ cs) = omega arith in
      let both : starts_in wanted events i (suc (suc n)) ≡ i ∷ starts_in wanted events (i + 1 + 1) n = rw (one, two) refl in
      ap (starts_in wanted events i) c.long ∙ both ∙ ap (λ l. i ∷ l) (ap (λ j. starts_in wanted events j n) behind ∙ later-starts wanted lets (i + 2) cs rest h.1 c.next ∙ ap (λ j. starts_in wanted events j (length rest)) same)

  -- the links lead from each chunk to the next
  pub chain-is : (fuel i : ℕ) (p : Bool) (c : List Seat) (cs : List (List Seat)) (rest : List Mark) → length (c ∷ cs) ≤ fuel → AllByRecursion HasByte (c ∷ cs) → IsAt events i (chain_marks of g.bytes p (c ∷ cs) ++ rest)
      → chain_from fuel events i ≡ indices i (c ∷ cs)
  chain-is zero i p c cs rest l h at = absurd (omega (arith, l))
  chain-is (suc fuel) i p [] cs rest l h at = absurd h.0
  chain-is (suc fuel) i p (s ∷ ss) [] rest l h at = let c = chunk-at i p s ss [] rest at in rw (c.enter) refl
  chain-is (suc fuel) i p (s ∷ ss) (d ∷ cs) rest l h at =
      let c = chunk-at i p s ss (d ∷ cs) rest at in
      let one : chain_from (suc fuel) events i ≡ i ∷ chain_from fuel events (i + 2) = rw (c.enter) refl in
      one ∙ ap (λ l. i ∷ l) (chain-is fuel (i + 2) true d cs rest (omega (arith, l)) h.1 c.next)

  -- the first chunk has the content
  pub chain-content : (i : ℕ) (p : Bool) (c : List Seat) (cs : List (List Seat)) (rest : List Mark) → AllByRecursion HasByte (c ∷ cs) → IsAt events i (chain_marks of g.bytes p (c ∷ cs) ++ rest) → content_at events i ≡ Some of
  chain-content i p [] cs rest h at = absurd h.0
  chain-content i p (s ∷ ss) cs rest h at = let c = chunk-at i p s ss cs rest at in rw (c.enter) refl

  -- the list goes on behind the chain
  pub chain-next : (i : ℕ) (p : Bool) (cs : List (List Seat)) (rest : List Mark) → AllByRecursion HasByte cs → IsAt events i (chain_marks of g.bytes p cs ++ rest) → IsAt events (i + two_for cs) rest
  chain-next i p [] rest h at = let same : i ≡ i + 0 = omega arith in subst (λ j. IsAt events j rest) same at
  chain-next i p ([] ∷ cs) rest h at = absurd h.0
  chain-next i p ((s ∷ ss) ∷ cs) rest h at =
      let same : i + 2 + two_for cs ≡ i + two_for ((s ∷ ss) ∷ cs) = omega arith in
      subst (λ j. IsAt events j rest) same (chain-next (i + 2) true cs rest h.1 (chunk-at i p s ss cs rest at).next)

  -- and all of it is in the list
  pub chain-room : (i : ℕ) (p : Bool) (cs : List (List Seat)) (rest : List Mark) → AllByRecursion HasByte cs → IsAt events i (chain_marks of g.bytes p cs ++ rest) → i ≤ length events → i + two_for cs ≤ length events
  chain-room i p [] rest h at l = omega (arith, l)
  chain-room i p ([] ∷ cs) rest h at l = absurd h.0
  chain-room i p ((s ∷ ss) ∷ cs) rest h at l =
      let c = chunk-at i p s ss cs rest at in
      let within = slice_get_within events (i + 1) (exit_of s ss) c.exit in
      let more = chain-room (i + 2) true cs rest h.1 c.next (omega (arith, within)) in
      omega (arith, more)

  module _ (some : 0 < g.tab) where
    -- the virtual bytes of a chunk are those that it was made of
    one-chunk : (i : ℕ) (p : Bool) (s : Seat) (ss : List Seat) (cs : List (List Seat)) (rest : List Mark) → ChunkAt i p s ss cs rest → (pre more : List Seat) → virtual g.tab g.bytes ≡ pre ++ ((s ∷ ss) ++ more) → chunk_seats g events i ≡ s ∷ ss
    one-chunk i p s ss cs rest c pre more whole =
        let t = s ∷ ss in
        let q = end_after (origin g.tab g.bytes some) pre in
        let run : IsChain g.tab g.bytes q (t ++ more) = chain-from g.tab g.bytes some pre (t ++ more) whole in
        let from : place_at events i ≡ q = place-at-event events i (enter_of i p (has_more cs) s) c.enter ∙ run.1.shown_is in
        let to : place_at events (i + 1) ≡ end_after q t = place-at-event events (i + 1) (exit_of s ss) c.exit ∙ place-shown g.tab g.bytes q t more run in
        (λ j. filter (in_range (from j) (to j)) (virtual g.tab g.bytes)) ∙ range-of g.tab g.bytes some pre t more whole

    -- those of each are next to each other in the document, as they are of one line
    pub chain-seats-are : (i : ℕ) (p : Bool) (cs : List (List Seat)) (rest : List Mark) → AllByRecursion HasByte cs → AllByRecursion IsWhole cs → IsAt events i (chain_marks of g.bytes p cs ++ rest)
        → (o : Point) (more : List Seat) → Course AcrossGap g.tab g.bytes o (in_line cs ++ more) → flat_map (chunk_seats g events) (indices i cs) ≡ in_line cs
    chain-seats-are i p [] rest h w at o more course = refl
    chain-seats-are i p ([] ∷ cs) rest h w at o more course = absurd h.0
    chain-seats-are i p ((s ∷ ss) ∷ cs) rest h w at o more course =
        let t = s ∷ ss in
        let c = chunk-at i p s ss cs rest at in
        let here : Course AcrossGap g.tab g.bytes o (t ++ (in_line cs ++ more)) = subst (Course AcrossGap g.tab g.bytes o) (append_assoc t (in_line cs) more) course in
        let then = course-on AcrossGap g.tab g.bytes o t (in_line cs ++ more) here in
        let (after, splits) = line-splits g.tab g.bytes some o s ss (in_line cs ++ more) w.0 here in
        (λ j. one-chunk i p s ss cs rest c here.1.seat.front after splits j ++ chain-seats-are (i + 2) true cs rest h.1 w.1 c.next (end_after s.end ss) more then j)
