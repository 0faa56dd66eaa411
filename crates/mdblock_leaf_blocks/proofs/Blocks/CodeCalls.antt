-- The calls that read indented code, line by line.
use Rattle.mdblock_leaf_blocks.proofs.Prelude.{List, None, Option, Some, [], ap, arith, cond, false, inl, inr, lt-ltb, min, refl, suc, true, ℕ, ◌++◌, ◌+◌, ◌-◌, ◌<◌, ◌==◌, ◌^◌, ◌∙◌, ◌∷◌, ◌≡◌, ◌⊎◌, Seat, CodeFlowChunk, CodeIndented, LineEnding, SpaceOrTab, Point, Name, Next, Retry, CodeIndentedAfter, CodeIndentedAtBreak, CodeIndentedFurtherAfter, CodeIndentedFurtherBegin, CodeIndentedFurtherStart, CodeIndentedInside, CodeIndentedStart, FlowBlankLineAfter, Configuration, Local, Sight, Given, Text, Check, FlowByte, blank, flow_byte, is_blank, line_feed, flow, count_becomes, count_grows, counts_to_four, CodeIndentedLineAfter, IsReadAs, KeepsEdits, Mark, leaf_marks, is_white, Rows, choose, consume, enter, exit, named, picked, row, when, write}
use Rattle.mdblock_leaf_blocks.proofs.Looks.ByteClasses.{blank-is, feed-is}
use Rattle.mdblock_leaf_blocks.proofs.Lines.{Fails, IsAt, IsWhite, Reads, Runs, comes, counted, edits_kept, goes, is_in_line, line-runs, row-stays, row-takes-on, rows_of, seen, white-is-blank, white-runs}

-- so many columns of the indentation were read
pub record Counted (columns : ℕ) (before after : Local Unit Unit) : Type 0 where
  pub keeps : KeepsEdits before after
  pub count_is : after.tokenize_state.space_or_tab_size ≡ columns

-- white space that a chunk begins with, and the others of its bytes
pub white_runs : Runs CodeIndentedFurtherAfter is_white
white_runs = white-runs CodeIndentedFurtherAfter (λ b. refl)

pub inside_runs : Runs CodeIndentedInside is_in_line
inside_runs = line-runs CodeIndentedInside (row (choose Check (Next CodeIndentedLineAfter) (Next CodeIndentedAfter) ∷ []) (Retry CodeIndentedFurtherStart)) (λ b c. refl)

module _ (g : Given) (t : Text) where
  abbrev pub IsRead : Configuration Unit Unit → Name → (line rest : List Seat) → List Mark → Name → Type 0
  IsRead = Reads g t edits_kept

  abbrev pub feeds : Seat → List Mark
  feeds e = leaf_marks g.bytes LineEnding (e ∷ [])

  module _ (k : Configuration Unit Unit) (p : Point) where
    abbrev sees : Name → List Seat → Sight
    sees name l = seen g t KeepsEdits k name p l

    -- a line begins with white space: the first one, whose kind is known, and a further one
    pub begins : (s : Seat) (rest : List Seat) → k.local.tokenize_state.token_1 ≡ CodeIndented → IsWhite s → IsAt t k p (s ∷ rest)
        → IsReadAs g t (Counted 1) k FlowBlankLineAfter (s ∷ []) rest (comes g t CodeIndented s ++ comes g t SpaceOrTab s) (Retry CodeIndentedStart)
    begins s rest kind is at =
        row-takes-on g t (Counted 1) k FlowBlankLineAfter p s rest blank (enter CodeIndented ∷ enter SpaceOrTab ∷ write (count_becomes 1) ∷ consume ∷ []) CodeIndentedStart at (white-is-blank s.byte is) (rw kind refl) tt refl
        (record { keeps = record { edits = refl; resolvers = refl }; count_is = refl })

    pub further-white : (s : Seat) (rest : List Seat) → IsWhite s → IsAt t k p (s ∷ rest) → IsReadAs g t (Counted 1) k CodeIndentedFurtherBegin (s ∷ []) rest (comes g t SpaceOrTab s) (Retry CodeIndentedStart)
    further-white s rest is at =
        row-takes-on g t (Counted 1) k CodeIndentedFurtherBegin p s rest blank (enter SpaceOrTab ∷ write (count_becomes 1) ∷ consume ∷ []) CodeIndentedStart at (white-is-blank s.byte is) refl tt refl
        (record { keeps = record { edits = refl; resolvers = refl }; count_is = refl })

    -- white space goes g t on for four columns at most
    pub start-on : (s : Seat) (rest : List Seat) (j : ℕ) → IsWhite s → k.local.tokenize_state.space_or_tab_size ≡ j → j < 4 → IsAt t k p (s ∷ rest)
        → IsReadAs g t (Counted (suc j)) k CodeIndentedStart (s ∷ []) rest [] (Retry CodeIndentedStart)
    start-on s rest j is count less at =
        let grown : min (j + 1) (2 ^ 64 - 1) ≡ suc j = omega (arith, less) in
        row-takes-on g t (Counted (suc j)) k CodeIndentedStart p s rest blank (write count_grows ∷ consume ∷ []) CodeIndentedStart at (white-is-blank s.byte is) (rw (count, lt-ltb j 4 less) refl) tt refl
        (record { keeps = record { edits = refl; resolvers = refl }; count_is = ap (λ c. min (c + 1) (2 ^ 64 - 1)) count ∙ grown })

    abbrev on_to_four : Rows Unit Unit
    on_to_four = when counts_to_four (row (write count_grows ∷ consume ∷ []) (Next CodeIndentedStart)) (row (exit SpaceOrTab ∷ []) (Retry CodeIndentedAtBreak))

    pub start-ends : (rest : List Seat) → (k.local.tokenize_state.space_or_tab_size ≡ 4) ⊎ Fails is_white rest → IsAt t k p rest → IsRead k CodeIndentedStart [] rest (goes g t SpaceOrTab p) CodeIndentedAtBreak
    start-ends [] h at = row-stays g t KeepsEdits k CodeIndentedStart p [] None (exit SpaceOrTab ∷ []) (Retry CodeIndentedAtBreak) at refl refl tt refl refl (edits_kept.same k.local)
    start-ends (s ∷ ss) (inr none) at =
        row-stays g t KeepsEdits k CodeIndentedStart p (s ∷ ss) (Some (flow_byte s.byte)) (exit SpaceOrTab ∷ []) (Retry CodeIndentedAtBreak) at refl
        (ap (λ b. picked (cond b on_to_four (row (exit SpaceOrTab ∷ []) (Retry CodeIndentedAtBreak))) g (sees CodeIndentedStart (s ∷ ss)) (counted k)) (blank-is s.byte ∙ none)) tt refl refl (edits_kept.same k.local)
    start-ends (s ∷ ss) (inl four) at =
        row-stays g t KeepsEdits k CodeIndentedStart p (s ∷ ss) (Some (flow_byte s.byte)) (exit SpaceOrTab ∷ []) (Retry CodeIndentedAtBreak) at refl
        (elim (is_blank (flow_byte s.byte)) as (λ b. picked (cond b on_to_four (row (exit SpaceOrTab ∷ []) (Retry CodeIndentedAtBreak))) g (sees CodeIndentedStart (s ∷ ss)) (counted k) ≡ record { acts = exit SpaceOrTab ∷ []; answer = Retry CodeIndentedAtBreak }) [
          | true ↦ rw four refl
          | false ↦ refl
        ]) tt refl refl (edits_kept.same k.local)

    -- behind it a chunk begins
    pub chunk-begins : (s : Seat) (rest : List Seat) → (s.byte == 10) ≡ false → IsAt t k p (s ∷ rest) → IsRead k CodeIndentedAtBreak [] (s ∷ rest) (comes g t CodeFlowChunk s) CodeIndentedFurtherAfter
    chunk-begins s rest in_line at =
        row-stays g t KeepsEdits k CodeIndentedAtBreak p (s ∷ rest) (Some (flow_byte s.byte)) (enter CodeFlowChunk ∷ []) (Retry CodeIndentedFurtherAfter) at refl
        (ap (λ b. picked (cond b (row (enter LineEnding ∷ consume ∷ exit LineEnding ∷ []) (Next CodeIndentedFurtherBegin)) (row (enter CodeFlowChunk ∷ []) (Retry CodeIndentedFurtherAfter))) g (sees CodeIndentedAtBreak (s ∷ rest)) (counted k)) (feed-is s.byte ∙ in_line))
        tt refl refl (edits_kept.same k.local)

    abbrev chunk_ends : Rows Unit Unit
    chunk_ends = row (exit CodeFlowChunk ∷ enter LineEnding ∷ consume ∷ exit LineEnding ∷ []) (Next CodeIndentedFurtherBegin)

    pub chunk-other : (s : Seat) (rest : List Seat) → (s.byte == 10) ≡ false → is_white s.byte ≡ false → IsAt t k p (s ∷ rest) → IsRead k CodeIndentedFurtherAfter (s ∷ []) rest [] CodeIndentedInside
    chunk-other s rest in_line dark at =
        let on : Rows Unit Unit = row (consume ∷ []) (Next CodeIndentedInside) in
        let over : Rows Unit Unit = row (consume ∷ []) (Next CodeIndentedFurtherAfter) in
        row-takes-on g t KeepsEdits k CodeIndentedFurtherAfter p s rest (flow_byte s.byte) (consume ∷ []) CodeIndentedInside at refl
        (ap (λ b. picked (cond b chunk_ends (cond (is_blank (flow_byte s.byte)) over on)) g (sees CodeIndentedFurtherAfter (s ∷ rest)) (counted k)) (feed-is s.byte ∙ in_line)
        ∙ ap (λ b. picked (cond b over on) g (sees CodeIndentedFurtherAfter (s ∷ rest)) (counted k)) (blank-is s.byte ∙ dark))
        tt refl (edits_kept.same k.local)

    -- the line ending of a line of code, without a chunk, and behind one
    pub feed-read : (name : Name) → ((b : Option FlowByte) → rows_of (named flow.states name) b (Some line_feed) ≡ row (enter LineEnding ∷ consume ∷ exit LineEnding ∷ []) (Next CodeIndentedFurtherBegin)) → (e : Seat) (rest : List Seat)
        → e.byte ≡ 10 → IsAt t k p (e ∷ rest) → IsRead k name (e ∷ []) rest (feeds e) CodeIndentedFurtherBegin
    feed-read name is e rest feed at =
        row-takes-on g t KeepsEdits k name p e rest line_feed (enter LineEnding ∷ consume ∷ exit LineEnding ∷ []) CodeIndentedFurtherBegin at (ap flow_byte feed) (ap (λ r. picked r g (sees name (e ∷ rest)) (counted k)) (is _)) tt refl (edits_kept.same k.local)

    pub chunk-feed : (name : Name) → ((b : Option FlowByte) → rows_of (named flow.states name) b (Some line_feed) ≡ row (exit CodeFlowChunk ∷ enter LineEnding ∷ consume ∷ exit LineEnding ∷ []) (Next CodeIndentedFurtherBegin)) → (e : Seat) (rest : List Seat)
        → e.byte ≡ 10 → IsAt t k p (e ∷ rest) → IsRead k name (e ∷ []) rest (goes g t CodeFlowChunk p ++ feeds e) CodeIndentedFurtherBegin
    chunk-feed name is e rest feed at =
        row-takes-on g t KeepsEdits k name p e rest line_feed (exit CodeFlowChunk ∷ enter LineEnding ∷ consume ∷ exit LineEnding ∷ []) CodeIndentedFurtherBegin at (ap flow_byte feed) (ap (λ r. picked r g (sees name (e ∷ rest)) (counted k)) (is _)) tt refl (edits_kept.same k.local)
