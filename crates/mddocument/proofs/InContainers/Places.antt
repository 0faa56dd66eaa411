-- The events of leaf blocks stand where their virtual bytes are shown, or end.
use Rattle.mddocument.proofs.Prelude.{false, ℕ, ◌+◌, List, [], ◌∷◌, ◌++◌, None, Some, Option, sym, subst, AllByRecursion, map-append, every-append, every-back, every-front, Constructs, Event, Exit, Point, shown, Seat, end_after, event, lines_in, leaf_blocks, IsKeptBySpans, bare, Chunk, Mark, alone, chunk_span, flow_events, leaf_blocks_marks, linked_from, span_marks}
use Rattle.markdown_base.specs.declared.event.Name.{Name}
use Rattle.markdown_base.specs.declared.event.Name.TheVariants as name
use Rattle.mdblock_leaf_blocks.proofs.Marks.LeafSpans.{leaf-blocks-keep}
use Rattle.mdblock_leaf_blocks.proofs.Marks.MarkSpans.{text-by-chunks}

module _ (At : Point → Type 0) (bytes : List ℕ) where
  -- where a virtual byte is shown, and where its end is
  abbrev pub EndsAt : Seat → Type 0
  EndsAt s = At (shown bytes s.point) × At (shown bytes s.end)

  abbrev pub AllAt : List Event → Type 0
  AllAt es = AllByRecursion (λ (e : Event). At e.point) es

  pub last-end : (s : Seat) (ss : List Seat) → AllByRecursion EndsAt (s ∷ ss) → At (shown bytes (end_after s.end ss))
  last-end s [] h = h.0.1
  last-end s (r ∷ rs) h = last-end r rs h.1

  -- marks over virtual bytes
  abbrev Marked : List Mark → List Seat → Type 0
  Marked marks seats = AllByRecursion EndsAt seats → AllAt (bare marks)

  marked-both : (xs ys : List Mark) (a b : List Seat) → Marked xs a → Marked ys b → Marked (xs ++ ys) (a ++ b)
  marked-both xs ys a b f g h =
      subst AllAt (sym (map-append (λ (m : Mark). m.0) xs ys)) (every-append (λ (e : Event). At e.point) (bare xs) (bare ys) (f (every-front EndsAt a b h)) (g (every-back EndsAt a b h)))

  marked-pair : (chunk : Option Chunk) (n : Name) (s : Seat) (ss : List Seat) → Marked (chunk_span bytes chunk n (s ∷ ss) []) (s ∷ ss)
  marked-pair chunk n s ss h = (h.0.0, (last-end s ss h, tt))

  marked-around : (n : Name) (s : Seat) (ss : List Seat) (inside : List Mark) → Marked inside (s ∷ ss) → Marked (span_marks bytes n (s ∷ ss) inside) (s ∷ ss)
  marked-around n s ss inside f h =
      let exit : Mark = (event bytes Exit n (end_after s.end ss), None) in
      (h.0.0, subst AllAt (sym (map-append (λ (m : Mark). m.0) inside (exit ∷ []))) (every-append (λ (e : Event). At e.point) (bare inside) (exit.0 ∷ []) (f h) (last-end s ss h, tt)))

  kept : IsKeptBySpans bytes Marked
  kept = record {
    none = λ h. tt;
    both = λ {xs} {ys} {a} {b} f g. marked-both xs ys a b f g;
    leaf = λ n s ss w. marked-pair None n s ss;
    datum = λ c s ss w. marked-pair (alone c) name.Data s ss;
    text = λ lines starts w. text-by-chunks bytes Marked (λ h. tt) marked-both (λ chunk n s ss w. marked-pair chunk n s ss) false lines w;
    around = λ n s ss inside other f. marked-around n s ss inside f;
  }

  -- links change no places
  linked-at : (i : ℕ) (marks : List Mark) → AllAt (bare marks) → AllAt (linked_from i marks)
  linked-at i [] h = tt
  linked-at i ((e, None) ∷ marks) h = (h.0, linked-at (i + 1) marks h.1)
  linked-at i ((e, Some chunk) ∷ marks) h = (h.0, linked-at (i + 1) marks h.1)

  pub flow-at : (on : Constructs) (seats : List Seat) → AllByRecursion EndsAt seats → AllAt (flow_events on bytes seats)
  flow-at on seats h = linked-at 0 (leaf_blocks_marks bytes (leaf_blocks on (lines_in seats))) (leaf-blocks-keep on bytes Marked kept seats h)
