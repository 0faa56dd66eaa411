-- A walk over the outermost spans of a text, along which links and images are made: what holds of spans and of what is made of them holds of all parts.
use Rattle.mddocument_laws.proofs.Prelude.{◌≡◌, ◌==◌, ℕ, true, false, cond, List, [], ◌∷◌, ◌++◌, cond_both, AllByRecursion, every-append, Event, LabelEnd, LabelMarker, Run, SoFar, Waiting, added, all_parts, as_data, ended, events, failed, is_bracket, is_tail, made, opened, outermost_spans, part_of, runs_of_parts, taken}
use Rattle.mdinline_links.specs.Linked.{Part, is_named, linked_from, linked_parts, run, text_before, text_behind}

-- ---- parts, by what is told of the events between runs, and of runs
module _ (Text : List Event → Type 0) (Fine : Run → Type 0) where
  abbrev pub IsPart : Part → Type 0
  IsPart (run r) = Fine r
  IsPart (events es) = Text es

  abbrev pub AreParts : List Part → Type 0
  AreParts ps = AllByRecursion IsPart ps

  pub runs-of : (ps : List Part) → AreParts ps → AllByRecursion Fine (runs_of_parts ps)
  runs-of [] h = tt
  runs-of (run r ∷ ps) h = (h.0, runs-of ps h.1)
  runs-of (events es ∷ ps) h = runs-of ps h.1

  module _ (nothing : Text []) (together : (xs ys : List Event) → Text xs → Text ys → Text (xs ++ ys)) where
    pub before-is : (since : List Event) (ps : List Part) (index : ℕ) → Text since → AreParts ps → Text (text_before since ps index)
    before-is since [] index b h = nothing
    before-is since (run r ∷ ps) index b h = cond_both (r.index == index) since (text_before [] ps index) Text (λ e. b) (λ e. before-is [] ps index nothing h.1)
    before-is since (events es ∷ ps) index b h = before-is (since ++ es) ps index (together since es b h.0) h.1

    pub behind-is : (since : List Event) (ps : List Part) → Text since → AreParts ps → Text (text_behind since ps)
    behind-is since [] b h = b
    behind-is since (run r ∷ ps) b h = behind-is [] ps nothing h.1
    behind-is since (events es ∷ ps) b h = behind-is (since ++ es) ps (together since es b h.0) h.1

-- what holds of the parts before brackets that wait for an end, of brackets as data and of the parts behind, holds of all
pub every-part : (P : Part → Type 0) (Waits : Waiting → Type 0) → ((w : Waiting) → Waits w → AllByRecursion P w.before) → ((es : List Event) → P (events (as_data es)))
    → (ws : List Waiting) (ps : List Part) → AllByRecursion Waits ws → AllByRecursion P ps → AllByRecursion P (all_parts ws ps)
every-part P Waits before datum [] ps h g = g
every-part P Waits before datum (w ∷ ws) ps h g =
    every-part P Waits before datum ws (w.before ++ events (as_data w.opener) ∷ ps) h.1 (every-append P w.before (events (as_data w.opener) ∷ ps) (before w h.0) (datum w.opener, g))

-- ---- the walk
-- What it asks: of lists of events; of links and images, by their brackets, ends and tails; and of spans, with the runs that are left before these spans
pub record IsWalk (Text Opener Close Tail Span : List Event → Type 0) (Fine : Run → Type 0) (Left : List (List Event) → List Run → Type 0) : Type 0 where
  pub data_of_it : (es : List Event) → Text (as_data es)
  pub no_tail : Tail []
  pub alone : (close tail : List Event) → Close close → Tail tail → Text (close ++ tail)
  pub is_made : (opener : List Event) (ps : List Part) (close tail : List Event) → Opener opener → AreParts Text Fine ps → Close close → Tail tail → Text (made opener ps close tail)
  pub opens : (span : List Event) → Span span → is_bracket span ≡ true → Opener span
  pub closes : (span : List Event) → Span span → is_named LabelEnd span ≡ true → Close span
  pub follows : (span : List Event) → Span span → is_tail span ≡ true → Tail span
  pub is_part : (span : List Event) (spans : List (List Event)) (rs : List Run) → Span span → is_bracket span ≡ false → Left (span ∷ spans) rs → IsPart Text Fine (part_of span rs).0 × Left spans (part_of span rs).1
  pub goes_on : (span : List Event) (spans : List (List Event)) (rs : List Run) → Left (span ∷ spans) rs → Left spans rs

module _ {Text Opener Close Tail Span : List Event → Type 0} {Fine : Run → Type 0} {Left : List (List Event) → List Run → Type 0} (walk : IsWalk Text Opener Close Tail Span Fine Left) where
  abbrev Is : Part → Type 0
  Is p = IsPart Text Fine p

  record IsWaiting (w : Waiting) : Type 0 where
    opener : Opener w.opener
    before : AllByRecursion Is w.before

  -- what a fold over spans has so far, before these spans
  record IsSoFar (spans : List (List Event)) (z : SoFar) : Type 0 where
    waits : AllByRecursion IsWaiting z.waiting
    behind : AllByRecursion Is z.behind
    left : Left spans z.runs

  is-added : (span : List Event) (spans : List (List Event)) (z : SoFar) → Span span → is_bracket span ≡ false → IsSoFar (span ∷ spans) z → IsSoFar spans (added span z)
  is-added span spans z s o h =
      let p = walk.is_part span spans z.runs s o h.left in
      record { waits = h.waits; behind = every-append Is z.behind ((part_of span z.runs).0 ∷ []) h.behind (p.0, tt); left = p.1 }

  is-failed : (span : List Event) (spans : List (List Event)) (ws : List Waiting) (z : SoFar) → AllByRecursion IsWaiting ws → IsSoFar (span ∷ spans) z → IsSoFar spans (failed span ws z)
  is-failed span spans [] z a h = record {
    waits = h.waits;
    behind = every-append Is z.behind (events (as_data span) ∷ []) h.behind (walk.data_of_it span, tt);
    left = walk.goes_on span spans z.runs h.left;
  }
  is-failed span spans (w ∷ ws) z a h = record {
    waits = a.1;
    behind =
        every-append Is w.before (events (as_data w.opener) ∷ (z.behind ++ events (as_data span) ∷ [])) a.0.before
        (walk.data_of_it w.opener, every-append Is z.behind (events (as_data span) ∷ []) h.behind (walk.data_of_it span, tt));
    left = walk.goes_on span spans z.runs h.left;
  }

  is-ended : (span tail : List Event) (spans : List (List Event)) (ws : List Waiting) (z : SoFar) → Close span → Tail tail → AllByRecursion IsWaiting ws → IsSoFar spans z → IsSoFar spans (ended span tail ws z)
  is-ended span tail spans [] z c l a h = record { waits = h.waits; behind = every-append Is z.behind (events (span ++ tail) ∷ []) h.behind (walk.alone span tail c l, tt); left = h.left }
  is-ended span tail spans (w ∷ ws) z c l a h = record {
    waits = a.1;
    behind = every-append Is w.before (events (made w.opener z.behind span tail) ∷ []) a.0.before (walk.is_made w.opener z.behind span tail a.0.opener h.behind c l, tt);
    left = h.left;
  }

  is-taken : (span : List Event) (spans : List (List Event)) (z : SoFar) → Span span → IsSoFar (span ∷ spans) z → IsSoFar spans (taken span z)
  is-taken span spans z s h =
      cond_both (is_bracket span) (opened span z) (cond (is_named LabelMarker span) (failed span z.waiting z) (added span z)) (IsSoFar spans)
      (λ e. record { waits = (record { opener = walk.opens span s e; before = h.behind }, h.waits); behind = tt; left = walk.goes_on span spans z.runs h.left })
      (λ other. cond_both (is_named LabelMarker span) (failed span z.waiting z) (added span z) (IsSoFar spans) (λ e. is-failed span spans z.waiting z h.waits h) (λ e. is-added span spans z s other h))

  -- no more runs are left before the spans behind one
  without : (span : List Event) (spans : List (List Event)) (z : SoFar) → IsSoFar (span ∷ spans) z → IsSoFar spans z
  without span spans z h = record { waits = h.waits; behind = h.behind; left = walk.goes_on span spans z.runs h.left }

  is-linked : (spans : List (List Event)) (z : SoFar) → AllByRecursion Span spans → IsSoFar spans z → IsSoFar [] (linked_from z spans)
  is-linked [] z ss h = h
  is-linked (span ∷ []) z ss h =
      cond_both (is_named LabelEnd span) (ended span [] z.waiting z) (taken span z) (IsSoFar []) (λ e. is-ended span [] [] z.waiting z (walk.closes span ss.0 e) walk.no_tail h.waits (without span [] z h))
      (λ e. is-taken span [] z ss.0 h)
  is-linked (span ∷ next ∷ spans) z ss h =
      cond_both (is_named LabelEnd span) (cond (is_tail next) (linked_from (ended span next z.waiting z) spans) (linked_from (ended span [] z.waiting z) (next ∷ spans))) (linked_from (taken span z) (next ∷ spans)) (IsSoFar [])
      (λ e. cond_both (is_tail next) (linked_from (ended span next z.waiting z) spans) (linked_from (ended span [] z.waiting z) (next ∷ spans)) (IsSoFar [])
      (λ t. is-linked spans (ended span next z.waiting z) ss.1.1
      (is-ended span next spans z.waiting z (walk.closes span ss.0 e) (walk.follows next ss.1.0 t) h.waits (without next spans z (without span (next ∷ spans) z h))))
      (λ t. is-linked (next ∷ spans) (ended span [] z.waiting z) ss.1 (is-ended span [] (next ∷ spans) z.waiting z (walk.closes span ss.0 e) walk.no_tail h.waits (without span (next ∷ spans) z h))))
      (λ e. is-linked (next ∷ spans) (taken span z) ss.1 (is-taken span (next ∷ spans) z ss.0 h))

  -- The parts of a text, by its outermost spans and its runs
  pub parts-are : (rs : List Run) (es : List Event) → AllByRecursion Span (outermost_spans es) → Left (outermost_spans es) rs → AreParts Text Fine (linked_parts rs es)
  parts-are rs es spans left =
      let start : SoFar = record { waiting = []; behind = []; runs = rs } in
      let z = linked_from start (outermost_spans es) in
      let is = is-linked (outermost_spans es) start spans (record { waits = tt; behind = tt; left = left }) in
      every-part Is IsWaiting (λ w h. h.before) walk.data_of_it z.waiting z.behind is.waits is.behind
