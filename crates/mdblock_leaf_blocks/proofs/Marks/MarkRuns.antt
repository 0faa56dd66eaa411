-- Runs of chunks among marks: a chunk that has a next one is followed by its exit and by that one.
use Rattle.mdblock_leaf_blocks.proofs.Prelude.{◌≡◌, ◌⊎◌, inl, inr, ℕ, zero, suc, ◌+◌, ◌-◌, List, [], ◌∷◌, ◌++◌, Bool, true, false, cond, Some, None, append_assoc, refl, sym, ap, ◌∙◌, subst, arith, slice_get, option_and_then, AllByRecursion, Content, Event, Enter, Exit, Point, is_void, shown, Seat, end_after, IsLinkedEnter, next_of, previous_of, line_text, event, Line, Chunk, Mark, body, chunk_span, linked_from, text_marks, cond_some}
use Rattle.markdown_base.specs.declared.event.Content.TheVariants as content
use Rattle.markdown_base.specs.declared.event.Name.TheVariants as name
use Rattle.markdown_edits.specs.Links.{content_at}
use Rattle.mdblock_leaf_blocks.proofs.Marks.FullBlocks.{StartsText}
use Rattle.mdblock_leaf_blocks.proofs.Marks.Courses.{Course, course-on, course-place}
use Rattle.mdblock_leaf_blocks.proofs.Marks.MarkSpans.{IsKeptBySpans}

-- what has to come: nothing, the exit of a chunk, or the next chunk at a place
pub data Due : Type 0 where
  nothing : Due
  an_exit : Content → Due
  a_chunk : Content → Point → Due

abbrev BeginsChunk : Event → Type 0
BeginsChunk e = (e.kind ≡ Enter) × (is_void e.name ≡ true)

abbrev next_due : Chunk → Due
next_due k = cond k.has_next (an_exit k.content) nothing

-- how the place of a chunk's exit meets that of the next chunk
module _ (Meets : (exit behind : Point) → Type 0) where
  abbrev pub Runs : List Mark → Due → Type 0
  Runs [] nothing = Unit {0}
  Runs ((e, None) ∷ ms) nothing = (e.link ≡ None) × Runs ms nothing
  Runs ((e, None) ∷ ms) (an_exit c) = (e.link ≡ None) × Runs ms (a_chunk c e.point)
  Runs ((e, Some k) ∷ ms) nothing = (k.has_previous ≡ false) × BeginsChunk e × Runs ms (next_due k)
  Runs ((e, Some k) ∷ ms) (a_chunk c p) = (k.has_previous ≡ true) × (k.content ≡ c) × (Meets p e.point) × BeginsChunk e × Runs ms (next_due k)
  Runs _ _ = ⊥

  runs-both : (xs ys : List Mark) (d : Due) → Runs xs d → Runs ys nothing → Runs (xs ++ ys) d
  runs-both [] ys nothing h k = k
  runs-both ((e, None) ∷ xs) ys nothing h k = (h.0, runs-both xs ys nothing h.1 k)
  runs-both ((e, None) ∷ xs) ys (an_exit c) h k = (h.0, runs-both xs ys (a_chunk c e.point) h.1 k)
  runs-both ((e, Some m) ∷ xs) ys nothing h k = (h.0, h.1, runs-both xs ys (next_due m) h.2 k)
  runs-both ((e, Some m) ∷ xs) ys (a_chunk c p) h k = (h.0, h.1, h.2, h.3, runs-both xs ys (next_due m) h.4 k)
  runs-both xs ys d h k = absurd h

  module _ (t : ℕ) (bytes : List ℕ) where
    -- lines of text
    abbrev line_due : Bool → Point → Due
    line_due has p = cond has (a_chunk content.Text p) nothing

    one-line : (has has_next : Bool) (s : Seat) (ss : List Seat) (p : Point) (ms : List Mark) → Meets p (shown bytes s.point) → Runs ms (line_due has_next (shown bytes (end_after s.end ss)))
        → Runs ((event bytes Enter name.Data s.point, Some (record { content = content.Text; has_previous = has; has_next = has_next })) ∷ (event bytes Exit name.Data (end_after s.end ss), None) ∷ ms) (line_due has p)
    one-line false false s ss p ms at h = (refl, (refl, refl), (refl, h))
    one-line false true s ss p ms at h = (refl, (refl, refl), (refl, h))
    one-line true false s ss p ms at h = (refl, refl, at, (refl, refl), (refl, h))
    one-line true true s ss p ms at h = (refl, refl, at, (refl, refl), (refl, h))

    runs-lines : (has : Bool) (line : Line) (lines : List Line) (p : Point) (rest : List Seat) → AllByRecursion StartsText (line ∷ lines) → Course Meets t bytes p (body (line ∷ lines) ++ rest) → Runs (text_marks bytes has (line ∷ lines)) (line_due has p)
    runs-lines has [] lines p rest h course = absurd h.0
    runs-lines has (s ∷ ss) [] p rest h course =
        let is : line_text (s ∷ ss) ≡ s ∷ line_text ss = (let first = h.0 in rw first refl) in
        let chunk : Chunk = record { content = content.Text; has_previous = has; has_next = false } in
        let there = subst (λ l. Course Meets t bytes p (l ++ rest)) is course in
        subst (λ l. Runs (chunk_span bytes (Some chunk) name.Data l []) (line_due has p)) (sym is) (one-line has false s (line_text ss) p [] there.1.meets tt)
    runs-lines has (s ∷ ss) (next ∷ lines) p rest h course =
        let q = end_after s.end ss in
        let whole = subst (Course Meets t bytes p) (append_assoc (s ∷ ss) (body (next ∷ lines)) rest) course in
        let there = course-on Meets t bytes p (s ∷ ss) (body (next ∷ lines) ++ rest) whole in
        let place = course-place Meets t bytes q (body (next ∷ lines) ++ rest) there in
        one-line has true s ss p (text_marks bytes true (next ∷ lines)) whole.1.meets
        (subst (λ r. Runs (text_marks bytes true (next ∷ lines)) (a_chunk content.Text r)) (sym place.is_shown) (runs-lines true next lines q rest h.1 there))

    -- marks over virtual bytes, wherever these are
    abbrev pub RunsOver : List Mark → List Seat → Type 0
    RunsOver marks seats = (p : Point) (rest : List Seat) → Course Meets t bytes p (seats ++ rest) → Runs marks nothing

    runs-text : (lines : List Line) → AllByRecursion StartsText lines → RunsOver (text_marks bytes false lines) (body lines)
    runs-text [] h p rest course = tt
    runs-text (line ∷ lines) h p rest course = runs-lines false line lines p rest h course

    runs-over : (xs ys : List Mark) (a b : List Seat) → RunsOver xs a → RunsOver ys b → RunsOver (xs ++ ys) (a ++ b)
    runs-over xs ys a b h k p rest course =
        let whole = subst (Course Meets t bytes p) (append_assoc a b rest) course in
        runs-both xs ys nothing (h p (b ++ rest) whole) (k (end_after p a) rest (course-on Meets t bytes p a (b ++ rest) whole))

    pub runs-kept : IsKeptBySpans bytes RunsOver
    runs-kept = record {
      none = λ p rest course. tt;
      both = λ {xs} {ys} {a} {b} h k. runs-over xs ys a b h k;
      leaf = λ n s ss w p rest course. (refl, (refl, tt));
      datum = λ c s ss w p rest course. (refl, (refl, refl), (refl, tt));
      text = λ lines h w. runs-text lines h;
      around = λ n s ss inside void h p rest course. (refl, runs-both inside ((event bytes Exit n (end_after s.end ss), None) ∷ []) nothing (h p rest course) (refl, tt));
    }

  -- ---- by indices

  pub each-begins : (i : ℕ) (marks : List Mark) (d : Due) → Runs marks d → AllByRecursion (λ (e : Event). (e.link ≡ None) ⊎ IsLinkedEnter e) (linked_from i marks)
  each-begins i [] d h = tt
  each-begins i ((e, None) ∷ ms) nothing h = (inl h.0, each-begins (i + 1) ms nothing h.1)
  each-begins i ((e, None) ∷ ms) (an_exit c) h = (inl h.0, each-begins (i + 1) ms (a_chunk c e.point) h.1)
  each-begins i ((e, None) ∷ ms) (a_chunk c p) h = absurd h
  each-begins i ((e, Some k) ∷ ms) nothing h = (inr (record { enter = h.1.0; void = h.1.1; linked = refl }), each-begins (i + 1) ms (next_due k) h.2)
  each-begins i ((e, Some k) ∷ ms) (an_exit c) h = absurd h
  each-begins i ((e, Some k) ∷ ms) (a_chunk c p) h = (inr (record { enter = h.3.0; void = h.3.1; linked = refl }), each-begins (i + 1) ms (next_due k) h.4)

  pub alone-unlinked : (e : Event) (ms : List Mark) (d : Due) → Runs ((e, None) ∷ ms) d → e.link ≡ None
  alone-unlinked e ms nothing h = h.0
  alone-unlinked e ms (an_exit c) h = h.0
  alone-unlinked e ms (a_chunk c p) h = absurd h

  behind-alone : (e : Event) (ms : List Mark) (d : Due) → Runs ((e, None) ∷ ms) d → (f : Due) × Runs ms f
  behind-alone e ms nothing h = (nothing, h.1)
  behind-alone e ms (an_exit c) h = (a_chunk c e.point, h.1)
  behind-alone e ms (a_chunk c p) h = absurd h

  behind-chunk : (e : Event) (k : Chunk) (ms : List Mark) (d : Due) → Runs ((e, Some k) ∷ ms) d → Runs ms (next_due k)
  behind-chunk e k ms nothing h = h.2
  behind-chunk e k ms (an_exit c) h = absurd h
  behind-chunk e k ms (a_chunk c p) h = h.4

  -- what comes behind the chunk at k, in a list whose first event has the index i
  pub record IsNext (es : List Event) (i k : ℕ) : Type 0 where
    pub exit : Event
    pub behind : Event
    pub exit_at : slice_get es (k + 1) ≡ Some exit
    pub behind_at : slice_get es (k + 2) ≡ Some behind
    pub place : Meets exit.point behind.point
    pub content : content_at es (k + 2) ≡ content_at es k
    pub back : previous_of es (k + 2) ≡ Some (i + k)

  next-later : (x : Event) (es : List Event) (i k : ℕ) → IsNext es (i + 1) k → IsNext (x ∷ es) i (suc k)
  next-later x es i k h =
      let one : suc k + 1 ≡ suc (k + 1) = omega arith in
      let two : suc k + 2 ≡ suc (k + 2) = omega arith in
      let same : i + 1 + k ≡ i + suc k = omega arith in
      record {
        exit = h.exit;
        behind = h.behind;
        exit_at = ap (slice_get (x ∷ es)) one ∙ h.exit_at;
        behind_at = ap (slice_get (x ∷ es)) two ∙ h.behind_at;
        place = h.place;
        content = ap (content_at (x ∷ es)) two ∙ h.content;
        back = ap (previous_of (x ∷ es)) two ∙ h.back ∙ ap Some same;
      }

  -- the chunk at the front
  next-first : (i : ℕ) (e : Event) (k : Chunk) (ms : List Mark) → Runs ms (an_exit k.content) → IsNext (linked_from i ((e, Some k) ∷ ms)) i 0
  next-first i e k [] h = absurd h
  next-first i e k ((x, Some m) ∷ ms) h = absurd h
  next-first i e k ((x, None) ∷ (f, Some m) ∷ ms) h =
      let previous = h.1.0 in
      let same : i + 1 + 1 - 2 ≡ i + 0 = omega arith in
      record {
        exit = x;
        behind = _;
        exit_at = refl;
        behind_at = refl;
        place = h.1.2;
        content = ap Some h.1.1;
        back = ap (λ b. cond b (Some (i + 1 + 1 - 2)) None) previous ∙ ap Some same;
      }
  next-first i e k ((x, None) ∷ ms) h = absurd h.1

  pub next-found : (i : ℕ) (marks : List Mark) (d : Due) → Runs marks d → (k n : ℕ) → next_of (linked_from i marks) k ≡ Some n → (n ≡ i + k + 2) × IsNext (linked_from i marks) i k
  next-found i [] d h k n is = absurd (cc)
  next-found i ((e, None) ∷ ms) d h zero n is = absurd (let none = alone-unlinked e ms d h in let no : None ≡ Some n = ap (option_and_then (λ l. l.next)) (sym none) ∙ is in cc)
  next-found i ((e, None) ∷ ms) d h (suc k) n is =
      let (f, rest) = behind-alone e ms d h in
      let (at, next) = next-found (i + 1) ms f rest k n is in
      (omega (arith, at), next-later e (linked_from (i + 1) ms) i k next)
  next-found i ((e, Some c) ∷ ms) d h zero n is =
      let (has, at) = cond_some c.has_next (i + 2) n is in
      let rest = subst (λ b. Runs ms (cond b (an_exit c.content) nothing)) has (behind-chunk e c ms d h) in
      (omega (arith, at), next-first i e c ms rest)
  next-found i ((e, Some c) ∷ ms) d h (suc k) n is =
      let (at, next) = next-found (i + 1) ms (next_due c) (behind-chunk e c ms d h) k n is in
      (omega (arith, at), next-later _ (linked_from (i + 1) ms) i k next)

  -- a chunk that has a previous one was due before these marks, or is the next one of a chunk among them
  abbrev IsBefore : Due → ℕ → Type 0
  IsBefore nothing j = ⊥
  IsBefore (an_exit c) j = j ≡ 1
  IsBefore (a_chunk c p) j = j ≡ 0

  abbrev IsNextOf : List Event → ℕ → ℕ → Type 0
  IsNextOf es i j = (k : ℕ) × (j ≡ k + 2) × (next_of es k ≡ Some (i + j))

  later-of : (x : Event) (es : List Event) (i j : ℕ) → IsNextOf es (i + 1) j → IsNextOf (x ∷ es) i (suc j)
  later-of x es i j h = let at = h.1 in let same : i + 1 + j ≡ i + suc j = omega arith in (suc h.0, omega (arith, at), h.2 ∙ ap Some same)

  first-of : (i j : ℕ) (e : Event) (k : Chunk) (ms : List Mark) (b : Bool) → k.has_next ≡ b → IsBefore (cond b (an_exit k.content) nothing) j → IsNextOf (linked_from i ((e, Some k) ∷ ms)) i (suc j)
  first-of i j e k ms true has before = let there : i + 2 ≡ i + suc j = omega (arith, before) in (0, omega (arith, before), ap (λ b. cond b (Some (i + 2)) None) has ∙ ap Some there)
  first-of i j e k ms false has before = absurd before

  pub previous-found : (i : ℕ) (marks : List Mark) (d : Due) → Runs marks d → (j p : ℕ) → previous_of (linked_from i marks) j ≡ Some p → (p ≡ i + j - 2) × (IsBefore d j ⊎ IsNextOf (linked_from i marks) i j)
  previous-found i [] d h j p is = absurd (cc)
  previous-found i ((e, None) ∷ ms) d h zero p is = absurd (let none = alone-unlinked e ms d h in let no : None ≡ Some p = ap (option_and_then (λ l. l.previous)) (sym none) ∙ is in cc)
  previous-found i ((e, None) ∷ ms) nothing h (suc j) p is =
      let (at, found) = previous-found (i + 1) ms nothing h.1 j p is in
      (omega (arith, at), elim found [ inl before ↦ absurd before | inr next ↦ inr (later-of e (linked_from (i + 1) ms) i j next) ])
  previous-found i ((e, None) ∷ ms) (an_exit c) h (suc j) p is =
      let (at, found) = previous-found (i + 1) ms (a_chunk c e.point) h.1 j p is in
      (omega (arith, at), elim found [ inl before ↦ inl (ap suc before) | inr next ↦ inr (later-of e (linked_from (i + 1) ms) i j next) ])
  previous-found i ((e, None) ∷ ms) (a_chunk c q) h (suc j) p is = absurd h
  previous-found i ((e, Some k) ∷ ms) nothing h zero p is = absurd (let no : None ≡ Some p = ap (λ b. cond b (Some (i - 2)) None) (sym h.0) ∙ is in cc)
  previous-found i ((e, Some k) ∷ ms) (an_exit c) h zero p is = absurd h
  previous-found i ((e, Some k) ∷ ms) (a_chunk c q) h zero p is = let (has, at) = cond_some k.has_previous (i - 2) p is in (omega (arith, at), inl refl)
  previous-found i ((e, Some k) ∷ ms) d h (suc j) p is =
      let (at, found) = previous-found (i + 1) ms (next_due k) (behind-chunk e k ms d h) j p is in
      (omega (arith, at), elim found [ inl before ↦ inr (first-of i j e k ms k.has_next refl before) | inr next ↦ inr (later-of _ (linked_from (i + 1) ms) i j next) ])
