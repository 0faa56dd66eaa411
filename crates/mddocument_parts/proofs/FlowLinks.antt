-- Links of the events of leaf blocks lead inside them.
use Rattle.mddocument_parts.proofs.Prelude.{◌≡◌, refl, ℕ, suc, ◌+◌, ◌-◌, ◌<◌, ◌≤◌, List, [], ◌∷◌, ◌++◌, Bool, true, false, cond, length, length-append, subst, sym, arith, None, Some, AllByRecursion, Constructs, Line, Mark, Chunk, chunk_span, flow_events, leaf_blocks, leaf_blocks_marks, line_text, linked-length, linked_from, lines_in, text_marks, Seat}
use Rattle.std.proofs.lemmas.List.Elements.{All-from_recursion}
use Rattle.std.specs.Prelude.{All, IfSome}
use Rattle.markdown_base.specs.declared.event.Content.TheVariants as content
use Rattle.markdown_base.specs.declared.event.Name.TheVariants as name
use Rattle.markdown_base.specs.Events.{EachEnd, EndsBelow}
use Rattle.mddocument.proofs.FlowTexts.Segments.{HasByte}
use Rattle.mdblock_leaf_blocks.proofs.Marks.FullBlocks.{StartsText}
use Rattle.mdblock_leaf_blocks.proofs.Marks.LeafSpans.{leaf-blocks-keep}
use Rattle.mdblock_leaf_blocks.proofs.Marks.MarkSpans.{IsKeptBySpans}
use Rattle.mddocument_parts.proofs.Events.{full-lines, in-blocks}
use Rattle.mddocument_parts.proofs.Links.{LinkBack, back-more, blocks-link-back}
use Rattle.mddocument_parts.proofs.WithoutContainers.OneChild.{IsFresh}
use Rattle.mddocument_parts.proofs.WithoutContainers.Whole.{fresh-kept}

-- a chunk that has a next one has two marks behind it at least
abbrev LinkAhead : List Mark → Type 0
LinkAhead [] = Unit {0}
LinkAhead ((e, None) ∷ marks) = LinkAhead marks
LinkAhead ((e, Some chunk) ∷ marks) = (chunk.has_next ≡ true → 2 ≤ length marks) × LinkAhead marks

ahead-both : (xs ys : List Mark) → LinkAhead xs → LinkAhead ys → LinkAhead (xs ++ ys)
ahead-both [] ys h k = k
ahead-both ((e, None) ∷ xs) ys h k = ahead-both xs ys h k
ahead-both ((e, Some chunk) ∷ xs) ys h k = ((λ next. let few = h.0 next in let size = length-append xs ys in omega (arith, few, size)), ahead-both xs ys h.1 k)

module _ (bytes : List ℕ) where
  abbrev chunk_of : (previous next : Bool) → Chunk
  chunk_of previous next = record { content = content.Text; has_previous = previous; has_next = next }

  alone-ahead : (previous : Bool) (seats : List Seat) → LinkAhead (chunk_span bytes (Some (chunk_of previous false)) name.Data seats [])
  alone-ahead previous [] = tt
  alone-ahead previous (s ∷ ss) = ((λ next. absurd (let no : false ≡ true = next in cc)), tt)

  -- a line of text has a chunk
  some-text : (previous : Bool) (line : Line) (lines : List Line) → StartsText line → 1 ≤ length (text_marks bytes previous (line ∷ lines))
  some-text previous [] lines h = absurd h
  some-text previous (s ∷ ss) [] h = by (line_text (s ∷ ss)) (filled s ss h)
    where
      filled : (s : Seat) (ss : List Seat) → StartsText (s ∷ ss) → 1 ≤ length (line_text (s ∷ ss))
      filled s ss h = rw h (omega arith)

      by : (seats : List Seat) → 1 ≤ length seats → 1 ≤ length (chunk_span bytes (Some (chunk_of previous false)) name.Data seats [])
      by [] l = absurd (omega (arith, l))
      by (s ∷ ss) l = omega arith
  some-text previous (s ∷ ss) (next ∷ lines) h = omega arith

  texts-ahead : (previous : Bool) (lines : List Line) → AllByRecursion StartsText lines → LinkAhead (text_marks bytes previous lines)
  texts-ahead previous [] h = tt
  texts-ahead previous (line ∷ []) h = alone-ahead previous (line_text line)
  texts-ahead previous ([] ∷ next ∷ lines) h = absurd h.0
  texts-ahead previous ((s ∷ ss) ∷ next ∷ lines) h = ((λ _. let some = some-text true next lines h.1.0 in omega (arith, some)), texts-ahead true (next ∷ lines) h.1)

  ahead-kept : IsKeptBySpans bytes (λ marks seats. LinkAhead marks)
  ahead-kept = record {
    none = tt;
    both = λ {xs} {ys} {a} {b} h k. ahead-both xs ys h k;
    leaf = λ n s ss w. tt;
    datum = λ c s ss w. ((λ next. absurd (let no : false ≡ true = next in cc)), tt);
    text = λ lines starts w. texts-ahead false lines starts;
    around = λ n s ss inside other h. ahead-both inside _ h tt;
  }

ends-inside : (total i : ℕ) (marks : List Mark) → i + length marks ≤ total → LinkBack i marks → LinkAhead marks → AllByRecursion IsFresh marks → AllByRecursion (EndsBelow total) (linked_from i marks)
ends-inside total i [] l back ahead fresh = tt
ends-inside total i ((e, None) ∷ marks) l back ahead fresh =
    (subst (λ o. IfSome o (EachEnd (λ k. k < total))) (sym fresh.0) tt, ends-inside total (i + 1) marks (omega (arith, l)) (back-more (suc i) (i + 1) marks (omega arith) back) ahead fresh.1)
ends-inside total i ((e, Some chunk) ∷ marks) l back ahead fresh =
    ((previous chunk.has_previous back.0, next chunk.has_next ahead.0), ends-inside total (i + 1) marks (omega (arith, l)) (back-more (suc i) (i + 1) marks (omega arith) back.1) ahead.1 fresh.1)
  where
    previous : (b : Bool) → (b ≡ true → 2 ≤ i) → IfSome (cond b (Some (i - 2)) None) (λ k. k < total)
    previous true h = let few = h refl in omega (arith, few, l)
    previous false h = tt

    next : (b : Bool) → (b ≡ true → 2 ≤ length marks) → IfSome (cond b (Some (i + 2)) None) (λ k. k < total)
    next true h = let few = h refl in omega (arith, few, l)
    next false h = tt

pub flow-inside : (on : Constructs) (bytes : List ℕ) (seats : List Seat) → All (EndsBelow (length (flow_events on bytes seats))) (flow_events on bytes seats)
flow-inside on bytes seats =
    let marks = leaf_blocks_marks bytes (leaf_blocks on (lines_in seats)) in
    let size = linked-length 0 marks in
    let back = (blocks-link-back bytes (leaf_blocks on (lines_in seats)) (in-blocks HasByte on (lines_in seats) (full-lines seats))).links in
    let ahead = leaf-blocks-keep on bytes (λ marks seats. LinkAhead marks) (ahead-kept bytes) seats in
    let fresh = leaf-blocks-keep on bytes (λ marks seats. AllByRecursion IsFresh marks) (fresh-kept bytes) seats in
    All-from_recursion (EndsBelow (length (flow_events on bytes seats))) (flow_events on bytes seats) (ends-inside (length (linked_from 0 marks)) 0 marks (omega (arith, size)) back ahead fresh)
