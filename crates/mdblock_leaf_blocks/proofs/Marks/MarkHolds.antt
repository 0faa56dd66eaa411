-- Void spans of leaf blocks are each in one line, so they hold bytes of the text alone: none goes over a gap.
use Rattle.mdblock_leaf_blocks.proofs.Prelude.{◌≡◌, ℕ, ◌+◌, List, [], ◌∷◌, ◌++◌, true, false, not, Option, Some, None, inl, inr, append_assoc, append-nil, sym, ◌∙◌, subst, arith, Contains, recursion_from_All, All-contains_itself, AllByRecursion, and_parts, every-front, every-back, map-append, Event, Enter, Exit, Point, is_void, shown, stands_before, Seat, end_after, virtual, lines_in, event, Given, Text, IsText, AcrossGap, Chunk, Mark, alone, chunk_span, leaf_blocks, leaf_blocks_marks, linked_from, flow_events, in_range, not-true}
use Rattle.markdown_base.specs.declared.event.Name.{Name}
use Rattle.markdown_base.specs.declared.event.Name.TheVariants as name
use Rattle.mdblock_leaf_blocks.proofs.Lines.WholeLines.{IsWhole}
use Rattle.mdblock_leaf_blocks.proofs.Marks.Courses.{Course, Place, course-on, course-place, text-course}
use Rattle.mdblock_leaf_blocks.proofs.Marks.LeafSpans.{leaf-blocks-keep}
use Rattle.mdblock_leaf_blocks.proofs.Marks.MarkAccounts.{bare}
use Rattle.mdblock_leaf_blocks.proofs.Marks.MarkSpans.{IsKeptBySpans, text-by-chunks}

-- a document, and which of its virtual bytes are meant
module _ (t : ℕ) (bytes : List ℕ) (In : Seat → Type 0) where
  -- all virtual bytes between two places are
  abbrev pub Holds : Point → Point → Type 0
  Holds from to = (v : Seat) → Contains (virtual t bytes) v → in_range from to v ≡ true → In v

  -- the next event ends a span of such bytes
  abbrev pub HoldsFirst : Point → List Event → Type 0
  HoldsFirst from [] = ⊥
  HoldsFirst from (f ∷ fs) = Holds from f.point

  -- each void span holds only such bytes
  abbrev pub HoldEach : List Event → Type 0
  HoldEach [] = Unit {0}
  HoldEach (e ∷ es) = (e.kind ≡ Enter → is_void e.name ≡ true → HoldsFirst e.point es) × HoldEach es

  pub first-both : (p : Point) (xs ys : List Event) → HoldsFirst p xs → HoldsFirst p (xs ++ ys)
  first-both p [] ys h = absurd h
  first-both p (x ∷ xs) ys h = h

  pub hold-both : (xs ys : List Event) → HoldEach xs → HoldEach ys → HoldEach (xs ++ ys)
  hold-both [] ys h k = k
  hold-both (x ∷ xs) ys h k = ((λ enters void. first-both x.point xs ys (h.0 enters void)), hold-both xs ys h.1 k)

  -- virtual bytes of one line have no gap between them
  pub line-holds : (p : Point) (s : Seat) (ss rest : List Seat) → IsWhole (s ∷ ss) → Course AcrossGap t bytes p (s ∷ (ss ++ rest)) → AllByRecursion In (s ∷ ss)
      → (v : Seat) → Contains (virtual t bytes) v → stands_before v.point (shown bytes s.point) ≡ false → stands_before v.point (end_after s.end ss) ≡ true → In v
  line-holds p s [] rest w course inside v among from to = elim (course.1.seat.first v among from) [
    | inl same ↦ subst In (sym same) inside.0
    | inr later ↦ absurd (let no : true ≡ false = sym to ∙ later in cc)
  ]
  line-holds p s (r ∷ ss) rest (inr end) course inside v among from to = absurd (let none : r ∷ ss ≡ [] = end.1 in cc)
  line-holds p s (r ∷ ss) rest (inl on) course inside v among from to = elim (course.1.seat.first v among from) [
    | inl same ↦ subst In (sym same) inside.0
    | inr later ↦ elim course.2.1.meets.in_line [
      | inl there ↦ line-holds s.end r ss rest on.1 course.2 inside.1 v among (subst (λ q. stands_before v.point q ≡ false) there later) to
      | inr gap ↦ absurd (let far = course.1.seat.in_line on.0 in omega (arith, far, gap.0))
    ]
  ]

  -- marks over virtual bytes, wherever these are
  abbrev pub HoldsOver : List Mark → List Seat → Type 0
  HoldsOver marks seats = (p : Point) (rest : List Seat) → Course AcrossGap t bytes p (seats ++ rest) → AllByRecursion In seats → HoldEach (bare marks)

  holds-over : (xs ys : List Mark) (a b : List Seat) → HoldsOver xs a → HoldsOver ys b → HoldsOver (xs ++ ys) (a ++ b)
  holds-over xs ys a b h k p rest course inside =
      let whole = subst (Course AcrossGap t bytes p) (append_assoc a b rest) course in
      subst HoldEach (sym (map-append (λ (m : Mark). m.0) xs ys))
      (hold-both (bare xs) (bare ys) (h p (b ++ rest) whole (every-front In a b inside)) (k (end_after p a) rest (course-on AcrossGap t bytes p a (b ++ rest) whole) (every-back In a b inside)))

  pub holds-pair : (chunk : Option Chunk) (n : Name) (s : Seat) (ss : List Seat) → IsWhole (s ∷ ss) → HoldsOver (chunk_span bytes chunk n (s ∷ ss) []) (s ∷ ss)
  holds-pair chunk n s ss w p rest course inside =
      let q = end_after s.end ss in
      let there : Place t bytes q = course-place AcrossGap t bytes q rest (course-on AcrossGap t bytes p (s ∷ ss) rest course) in
      let holds : Holds (shown bytes s.point) (shown bytes q) = λ v among between.
      let parts = and_parts (not (stands_before v.point (shown bytes s.point))) (stands_before v.point (shown bytes q)) between in
      line-holds p s ss rest w course inside v among (not-true (stands_before v.point (shown bytes s.point)) parts.0) (subst (λ r. stands_before v.point r ≡ true) there.is_shown parts.1) in
      ((λ enters void. holds), ((λ enters void. absurd (let no : Exit ≡ Enter = enters in cc)), tt))

  holds-around : (n : Name) (s : Seat) (ss : List Seat) (inside : List Mark) → is_void n ≡ false → HoldsOver inside (s ∷ ss) → HoldsOver (chunk_span bytes None n (s ∷ ss) inside) (s ∷ ss)
  holds-around n s ss inside other h p rest course among =
      let f : Mark = (event bytes Exit n (end_after s.end ss), None) in (
        (λ enters void. absurd (let no : true ≡ false = sym void ∙ other in cc)),
        subst HoldEach (sym (map-append (λ (m : Mark). m.0) inside (f ∷ [])))
            (hold-both (bare inside) (f.0 ∷ []) (h p rest course among) ((λ enters void. absurd (let no : Exit ≡ Enter = enters in cc)), tt)),
      )

  holds-kept : IsKeptBySpans bytes HoldsOver
  holds-kept = record {
    none = λ p rest course inside. tt;
    both = λ {xs} {ys} {a} {b} h k. holds-over xs ys a b h k;
    leaf = λ n s ss w. holds-pair None n s ss w;
    datum = λ c s ss w. holds-pair (alone c) name.Data s ss w;
    text = λ lines h w. text-by-chunks bytes HoldsOver (λ p rest course inside. tt) holds-over holds-pair false lines w;
    around = holds-around;
  }

  -- links change none of this
  first-linked-holds : (p : Point) (i : ℕ) (marks : List Mark) → HoldsFirst p (bare marks) → HoldsFirst p (linked_from i marks)
  first-linked-holds p i [] h = h
  first-linked-holds p i ((e, None) ∷ marks) h = h
  first-linked-holds p i ((e, Some chunk) ∷ marks) h = h

  hold-linked : (i : ℕ) (marks : List Mark) → HoldEach (bare marks) → HoldEach (linked_from i marks)
  hold-linked i [] h = tt
  hold-linked i ((e, None) ∷ marks) h = ((λ enters void. first-linked-holds e.point (i + 1) marks (h.0 enters void)), hold-linked (i + 1) marks h.1)
  hold-linked i ((e, Some chunk) ∷ marks) h = ((λ enters void. first-linked-holds e.point (i + 1) marks (h.0 enters void)), hold-linked (i + 1) marks h.1)

-- So it is with the void spans of a text's leaf blocks
pub blocks-hold : (g : Given) (text : Text) → IsText g text → HoldEach g.tab g.bytes (Contains text.seats) (flow_events g.options.constructs g.bytes text.seats)
blocks-hold g text is =
    let In = Contains text.seats in
    let marks = leaf_blocks_marks g.bytes (leaf_blocks g.options.constructs (lines_in text.seats)) in
    let p = shown g.bytes text.start in
    let holds = leaf-blocks-keep g.options.constructs g.bytes (HoldsOver g.tab g.bytes In) (holds-kept g.tab g.bytes In) text.seats in
    hold-linked g.tab g.bytes In 0 marks
    (holds p [] (subst (Course AcrossGap g.tab g.bytes p) (sym (append-nil text.seats)) (text-course g text is)) (recursion_from_All In text.seats (All-contains_itself text.seats)))
