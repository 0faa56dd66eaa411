-- A block that is read as one span, and the line ending behind it.
use Rattle.mdblock_leaf_blocks.proofs.Prelude.{◌≡◌, ℕ, zero, suc, ◌+◌, List, [], ◌∷◌, ◌++◌, Bool, true, false, ◌⊎◌, inl, inr, length, map, take, drop, refl, sym, ap, ◌∙◌, subst, append_assoc, append-nil, drop-drop, map-append, drop-append_seam, EventName, LineEnding, Name, Retry, FlowAfter, Seat, Configuration, Given, Text, all_of, ending_of, AreLines, IsBlockRead, IsLine, last_ending, Line, Mark, block_span, body, last_end, leaf_marks, span_marks, as_it_is}
use Rattle.mdblock_leaf_blocks.proofs.Whole.LineBreaks.{Ended, behind-told}
use Rattle.mdblock_leaf_blocks.proofs.Lines.Lines.{EndsWithIt, EndsWithout, all-of-split, body-with-ending, cut-line, line-ending-is, lines-taken}
use Rattle.mdblock_leaf_blocks.proofs.Whole.Told.{IsTold, then-told, told-read}

-- the last of the lines that are taken ends, before those that are left
pub cut-ended : (line : Line) (more : List Line) → EndsWithIt line ⊎ EndsWithout line more → Ended (ending_of line) more
cut-ended line more (inl with) = inl (record { seat = with.ending; is = with.is; feed = with.feed })
cut-ended line more (inr without) = inr (without.is, without.last)

whole-ended : (line : Line) (more : List Line) → IsLine line → Ended (ending_of line) more
whole-ended line more h = inl (record { seat = h.ending; is = line-ending-is line h; feed = h.ends })

pub last-ended : (n : ℕ) (line : Line) (more : List Line) → AreLines (line ∷ more) → Ended (last_ending (take (suc n) (line ∷ more))) (drop (suc n) (line ∷ more))
last-ended zero line [] are = cut-ended line [] (cut-line line [] are).ends
last-ended (suc n) line [] are = cut-ended line [] (cut-line line [] are).ends
last-ended zero line (next ∷ more) are = whole-ended line (next ∷ more) are.0
last-ended (suc n) line (next ∷ more) are = last-ended n next more are.1

-- the last line ending of lines as marks
pub last-end-is : (bytes : List ℕ) (lines : List Line) → last_end bytes lines ≡ leaf_marks bytes LineEnding (last_ending lines)
last-end-is bytes [] = refl
last-end-is bytes (line ∷ []) = refl
last-end-is bytes (line ∷ next ∷ lines) = last-end-is bytes (next ∷ lines)

-- what is left behind some of what is left
pub left-behind : (t : Text) (p : ℕ) (xs ys : List Seat) → drop p t.seats ≡ xs ++ ys → drop (p + length xs) t.seats ≡ ys
left-behind t p xs ys at = sym (drop-drop (length xs) p t.seats) ∙ ap (drop (length xs)) at ∙ drop-append_seam xs ys

module _ (g : Given) (t : Text) (k : Configuration Unit Unit) (from : Name) (n : ℕ) (line : Line) (more : List Line) (name : EventName) (inside : List Mark)
    (are : AreLines (line ∷ more)) (at : drop k.position t.seats ≡ all_of (line ∷ more)) where
  abbrev ours : List Line
  ours = take (suc n) (line ∷ more)

  abbrev rest : List Line
  rest = drop (suc n) (line ∷ more)

  -- A block up to its last line ending
  pub closed-told : IsBlockRead g t k from ours rest name false inside → IsTold g t k (Retry from) (map as_it_is (block_span g.bytes name false ours inside)) rest
  closed-told h =
      let ending = last_ending ours in
      let all : all_of (line ∷ more) ≡ body ours ++ (ending ++ all_of rest) =
      sym (all-of-split (suc n) (line ∷ more)) ∙ ap (λ l. l ++ all_of rest) (sym (body-with-ending ours (lines-taken (suc n) (line ∷ more) are))) ∙ append_assoc (body ours) ending (all_of rest) in
      let there = ap (λ p. drop p t.seats) h.position ∙ left-behind t k.position (body ours) (ending ++ all_of rest) (at ∙ all) in
      let marks = span_marks g.bytes name (body ours) inside in
      let same : map as_it_is marks ++ map as_it_is (leaf_marks g.bytes LineEnding ending) ≡ map as_it_is (block_span g.bytes name false ours inside) =
      sym (map-append as_it_is marks (leaf_marks g.bytes LineEnding ending)) ∙ ap (λ l. map as_it_is (marks ++ l)) (sym (last-end-is g.bytes ours)) in
      subst (λ told. IsTold g t k (Retry from) told rest) same
      (then-told g t k h.after (Retry from) (Retry FlowAfter) (map as_it_is marks) _ rest (told-read g t k from (body ours) (ending ++ all_of rest) marks (Retry FlowAfter) h)
      (behind-told g t h.after ending rest (last-ended n line more are) there h.waiting))

  -- or one that is open, up to the end of the text
  pub open-told : rest ≡ [] → IsBlockRead g t k from ours rest name true inside → IsTold g t k (Retry from) (map as_it_is (block_span g.bytes name true ours inside)) rest
  open-told none h =
      let marks = span_marks g.bytes name (all_of ours) inside in
      let there = ap (λ p. drop p t.seats) h.position ∙ left-behind t k.position (all_of ours) (all_of rest) (at ∙ sym (all-of-split (suc n) (line ∷ more))) in
      subst (λ told. IsTold g t k (Retry from) told rest) (append-nil (map as_it_is marks))
      (then-told g t k h.after (Retry from) (Retry FlowAfter) (map as_it_is marks) [] rest (told-read g t k from (all_of ours) (all_of rest) marks (Retry FlowAfter) h)
      (behind-told g t h.after [] rest (inr (refl, none)) there h.waiting))

  pub block-told : (is_open : Bool) → (is_open ≡ true → rest ≡ []) → IsBlockRead g t k from ours rest name is_open inside → IsTold g t k (Retry from) (map as_it_is (block_span g.bytes name is_open ours inside)) rest
  block-told false none h = closed-told h
  block-told true none h = open-told (none refl) h
