-- The chunks of leaf blocks join: each that has a next one stands directly before it. In a text there may be a gap between their places.
use Rattle.mdblock_leaf_blocks.proofs.Prelude.{◌≡◌, inl, inr, ℕ, ◌+◌, List, [], sym, ap, ◌∙◌, subst, arith, Some, append-nil, slice_get, Event, Point, point, shown, virtual, next_of, previous_of, lines_in, Given, AcrossGap, AtOnce, BlocksJoin, BlocksMeet, ChunksMeet, IsDirectlyBehind, leaf_blocks, Mark, Seat, leaf_blocks_marks, linked_from, flow_events}
use Rattle.markdown_edits.specs.Links.{content_at}
use Rattle.mdblock_leaf_blocks.proofs.Marks.Courses.{Course, text-course, whole-track}
use Rattle.mdblock_leaf_blocks.proofs.Marks.LeafSpans.{leaf-blocks-keep}
use Rattle.mdblock_leaf_blocks.proofs.Marks.MarkRuns.{Runs, RunsOver, each-begins, next-found, nothing, previous-found, runs-kept}

module _ (Meets : (exit behind : Point) → Type 0) (marks : List Mark) (h : Runs Meets marks nothing) where
  abbrev es : List Event
  es = linked_from 0 marks

  directly : (k d : ℕ) → next_of es k ≡ Some d → IsDirectlyBehind Meets es k d
  directly k d is =
      let (at, next) = next-found Meets 0 marks nothing h k d is in
      let there : d ≡ k + 2 = omega (arith, at) in
      record {
        exit = next.exit;
        behind = next.behind;
        is = there;
        exit_at = next.exit_at;
        behind_at = ap (slice_get es) there ∙ next.behind_at;
        place = next.place;
        content = ap (content_at es) there ∙ next.content;
      }

  forward : (k d : ℕ) → next_of es k ≡ Some d → previous_of es d ≡ Some k
  forward k d is =
      let (at, next) = next-found Meets 0 marks nothing h k d is in
      let there : d ≡ k + 2 = omega (arith, at) in
      let same : 0 + k ≡ k = omega arith in
      ap (previous_of es) there ∙ next.back ∙ ap Some same

  backward : (k d : ℕ) → previous_of es d ≡ Some k → next_of es k ≡ Some d
  backward k d is =
      let (at, found) = previous-found Meets 0 marks nothing h d k is in
      elim found [
        | inl before ↦ absurd before
        | inr next ↦
            let step = next.1 in
            let first : next.0 ≡ k = omega (arith, at, step) in
            let last : 0 + d ≡ d = omega arith in
            ap (next_of es) (sym first) ∙ next.2 ∙ ap Some last
      ]

  pub runs-join : ChunksMeet Meets es
  runs-join = record { each = each-begins Meets 0 marks nothing h; next = directly; both_ways = λ k d. (forward k d, backward k d) }

-- those of virtual bytes that have a course
course-meets : (Meets : (exit behind : Point) → Type 0) (g : Given) (p : Point) (seats : List Seat) → Course Meets g.tab g.bytes p seats → ChunksMeet Meets (flow_events g.options.constructs g.bytes seats)
course-meets Meets g p seats course =
    let marks = leaf_blocks_marks g.bytes (leaf_blocks g.options.constructs (lines_in seats)) in
    let runs = leaf-blocks-keep g.options.constructs g.bytes (RunsOver Meets g.tab g.bytes) (runs-kept Meets g.tab g.bytes) seats in
    runs-join Meets marks (runs p [] (subst (Course Meets g.tab g.bytes p) (sym (append-nil seats)) course))

pub blocks-join : BlocksJoin
blocks-join g is = course-meets AtOnce g (point 1 1 0 0) (virtual g.tab g.bytes) (whole-track g.tab g.bytes is.tab.0)

pub blocks-meet : BlocksMeet
blocks-meet g text is = course-meets AcrossGap g (shown g.bytes text.start) text.seats (text-course g text is)
