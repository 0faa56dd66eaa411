-- Events that account for lines of a text are written as a text that ends in white space, since the last line has a line ending. So space may be added behind them.
use Rattle.mddocument_rules.proofs.Prelude.{◌≡◌, ◌∙◌, ℕ, Bool, true, cond, not, List, [], ◌∷◌, ◌++◌, append-nil, append_assoc, ap, every-back, every-front, flat_map, map, refl, subst, sym, AllByRecursion, ◌&&◌, Enter, Event, Exit, Kind, Point, Seat, end_after, is_enter}
use Rattle.std.specs.List.{slice_range}
use Rattle.mdconstructs_machines.specs.Innermost.{innermost_spans, span_over, stretch_bytes}
use Rattle.mdblock_leaf_blocks.proofs.Marks.Courses.{course-on}
use Rattle.mdblock_leaf_blocks.specs.ChunksJoin.{AcrossGap}
use Rattle.mdinline_labels.specs.Labels.{is_label_white}
use Rattle.mdinline_text_machine.proofs.DeepSpans.Atoms.{EndsLine}
use Rattle.mddocument.proofs.Innermost.Lined.{InLine}
use Rattle.mddocument_link_targets.specs.declared.strings.Reading.TheVariants.{AsWritten}
use Rattle.mddocument_link_targets.specs.Strings.{given}
use Rattle.mddocument_rules.proofs.AddedSpace.{IsSpaced, told, white_behind}
use Rattle.mddocument_rules.proofs.AlikeTexts.{AreWhite}
use Rattle.mddocument_rules.proofs.Reworked.{enter-gives}
use Rattle.mddocument_rules.proofs.VirtualBytes.{IfFeed}
use Rattle.mddocument_rules.proofs.WrittenTexts.{AreUnmarked, Follows, IsUnmarked, of_seat, stretch-written}
use Rattle.mddocument_rules.specs.SegmentLaws.{BeginsWithAnEnter, Segment, new_events, old_events, one}

-- ---- events as segments, one by one
abbrev pub ones : List Event → List Segment
ones [] = []
ones (e ∷ es) = one e ∷ ones es

pub old-ones : (xs : List Event) (s : List Segment) → old_events (ones xs ++ s) ≡ xs ++ old_events s
old-ones [] s = refl
old-ones (x ∷ xs) s = ap (λ l. x ∷ l) (old-ones xs s)

pub new-ones : (xs : List Event) (s : List Segment) → new_events (ones xs ++ s) ≡ xs ++ new_events s
new-ones [] s = refl
new-ones (x ∷ xs) s = ap (λ l. x ∷ l) (new-ones xs s)

-- ---- texts
white-behind-both : (a : Bool) (xs ys : List ℕ) → white_behind a (xs ++ ys) ≡ white_behind (white_behind a xs) ys
white-behind-both a [] ys = refl
white-behind-both a (x ∷ xs) ys = white-behind-both (is_label_white x) xs ys

white-is-behind : (a : Bool) (c : ℕ) (cs : List ℕ) → AreWhite (c ∷ cs) → white_behind a (c ∷ cs) ≡ true
white-is-behind a c [] w = w.0
white-is-behind a c (d ∷ cs) w = white-is-behind (is_label_white c) d cs w.1

module _ (bytes : List ℕ) where
  -- whether what is written ends in white space behind events, by what comes behind them
  abbrev pub behind_events : Bool → List Event → (behind : List Event) → Bool
  behind_events a [] behind = a
  behind_events a (e ∷ es) behind = behind_events (white_behind a (told bytes e (es ++ behind))) es behind

  -- the last event gives the same before added events as without them
  abbrev pub LastSame : List Event → List Segment → Type 0
  LastSame [] s = Unit {0}
  LastSame (e ∷ []) s = told bytes e (new_events s) ≡ told bytes e (old_events s)
  LastSame (e ∷ f ∷ es) s = LastSame (f ∷ es) s

  pub spaced-ones : (xs : List Event) (s : List Segment) (a : Bool) → LastSame xs s → IsSpaced bytes (behind_events a xs (new_events s)) s → IsSpaced bytes a (ones xs ++ s)
  spaced-ones [] s a h k = k
  spaced-ones (e ∷ []) s a h k = (h, k)
  spaced-ones (e ∷ f ∷ es) s a h k = (refl, spaced-ones (f ∷ es) s (white_behind a (told bytes e (f ∷ (es ++ new_events s)))) h k)

  -- all events alone
  pub spaced-alone : (xs : List Event) (a : Bool) → IsSpaced bytes a (ones xs)
  spaced-alone [] a = tt
  spaced-alone (e ∷ []) a = (refl, tt)
  spaced-alone (e ∷ f ∷ es) a = (refl, spaced-alone (f ∷ es) (white_behind a (told bytes e (f ∷ es))))

  -- ---- stretches, of which the last ends with a line ending
  -- if there are none, white space is before them
  abbrev EndsWhite : Bool → List (Seat × List Seat) → Type 0
  EndsWhite a [] = a ≡ true
  EndsWhite a (st ∷ []) = EndsLine (stretch_bytes st)
  EndsWhite a (st ∷ next ∷ others) = EndsWhite a (next ∷ others)

  ends-back : (xs : List Seat) (s : Seat) (ss : List Seat) → EndsLine (xs ++ s ∷ ss) → EndsLine (s ∷ ss)
  ends-back [] s ss h = h
  ends-back (x ∷ []) s ss h = h
  ends-back (x ∷ y ∷ xs) s ss h = ends-back (y ∷ xs) s ss h

  ends-white : (a : Bool) (st : Seat × List Seat) (others : List (Seat × List Seat)) → EndsLine (flat_map stretch_bytes (st ∷ others)) → EndsWhite a (st ∷ others)
  ends-white a st [] h = subst EndsLine (append-nil (stretch_bytes st)) h
  ends-white a st (next ∷ others) h = ends-white a next others (ends-back (stretch_bytes st) next.0 (next.1 ++ flat_map stretch_bytes others) h)

  ends-other : (a b : Bool) (st : Seat × List Seat) (others : List (Seat × List Seat)) → EndsWhite a (st ∷ others) → EndsWhite b (st ∷ others)
  ends-other a b st [] h = h
  ends-other a b st (next ∷ others) h = ends-other a b next others h

  seats-white : (a : Bool) (s : Seat) (ss : List Seat) → EndsLine (s ∷ ss) → AllByRecursion (IfFeed bytes) (s ∷ ss) → white_behind a (flat_map (of_seat bytes) (s ∷ ss)) ≡ true
  seats-white a s [] h f =
      let feed = f.0 h in
      ap (white_behind a) (append-nil (of_seat bytes s) ∙ feed.are) ∙ white-is-behind a feed.first feed.others feed.white
  seats-white a s (r ∷ rs) h f = white-behind-both a (of_seat bytes s) (flat_map (of_seat bytes) (r ∷ rs)) ∙ seats-white (white_behind a (of_seat bytes s)) r rs h f.1

  enter-told : (e : Event) (behind : List Event) → BeginsWithAnEnter behind → told bytes e behind ≡ []
  enter-told e behind h = ap (told bytes e) (sym (append-nil behind)) ∙ enter-gives bytes e behind [] h

  module _ (t : ℕ) (behind : List Event) (begins : BeginsWithAnEnter behind) where
    abbrev Whites : List Event → Type 0
    Whites xs =
        (a : Bool) (stretches : List (Seat × List Seat)) (p : Point) (more : List Seat) → innermost_spans xs ≡ map (span_over bytes) stretches → AllByRecursion InLine stretches → Follows bytes t p (flat_map stretch_bytes stretches ++ more)
        → AllByRecursion (IfFeed bytes) (flat_map stretch_bytes stretches) → EndsWhite a stretches → behind_events a xs behind ≡ true

    one-span : (e f : Event) (es : List Event) → IsUnmarked e → e.kind ≡ Enter → f.kind ≡ Exit → Whites (f ∷ es) → (a : Bool) (stretches : List (Seat × List Seat)) (p : Point) (more : List Seat) → (e.point, f.point) ∷ innermost_spans (f ∷ es) ≡ map (span_over bytes) stretches
        → AllByRecursion InLine stretches → Follows bytes t p (flat_map stretch_bytes stretches ++ more) → AllByRecursion (IfFeed bytes) (flat_map stretch_bytes stretches) → EndsWhite a stretches
        → behind_events a (e ∷ f ∷ es) behind ≡ true
    one-span e f es plain enters exits rest a [] p more is lines course feeds ends = absurd (cc)
    one-span e f es plain enters exits rest a ((s, ss) ∷ others) p more is lines course feeds ends =
        let pair : (e.point, f.point) ≡ span_over bytes (s, ss) = cc in
        let others_are : innermost_spans (f ∷ es) ≡ map (span_over bytes) others = cc in
        let seats = flat_map stretch_bytes others in
        let whole : Follows bytes t p ((s ∷ ss) ++ (seats ++ more)) = subst (Follows bytes t p) (append_assoc (s ∷ ss) seats more) course in
        let said : told bytes e (f ∷ (es ++ behind)) ≡ flat_map (of_seat bytes) (s ∷ ss) =
        (λ i. cond (is_enter (enters i) && not (is_enter (exits i))) (given bytes AsWritten e.name e.point.index f.point.index) [])
        ∙ (λ i. cond (plain i) [] (slice_range bytes (pair i).0.index (pair i).1.index))
        ∙ stretch-written bytes t p s ss (seats ++ more) lines.0 whole in
        rest (white_behind a (told bytes e (f ∷ (es ++ behind)))) others (end_after p (s ∷ ss)) more others_are lines.1 (course-on AcrossGap t bytes p (s ∷ ss) (seats ++ more) whole) (every-back (IfFeed bytes) (s ∷ ss) seats feeds)
        (last others said ends)
      where
        last : (others : List (Seat × List Seat)) → told bytes e (f ∷ (es ++ behind)) ≡ flat_map (of_seat bytes) (s ∷ ss) → EndsWhite a ((s, ss) ∷ others) → EndsWhite (white_behind a (told bytes e (f ∷ (es ++ behind)))) others
        last [] said ends = ap (white_behind a) said ∙ seats-white a s ss ends (every-front (IfFeed bytes) (s ∷ ss) (flat_map stretch_bytes others) feeds)
        last (next ∷ others) said ends = ends-other a (white_behind a (told bytes e (f ∷ (es ++ behind)))) next others ends

    run-white : (xs : List Event) → AreUnmarked xs → Whites xs
    run-white [] plain a [] p more is lines course feeds ends = ends
    run-white [] plain a (st ∷ stretches) p more is lines course feeds ends = absurd (cc)
    run-white (e ∷ []) plain a stretches p more is lines course feeds ends = ap (white_behind a) (enter-told e behind begins) ∙ by e.kind stretches is ends
      where
        by : (k : Kind) (stretches : List (Seat × List Seat)) → cond (is_enter k) [] [] ++ [] ≡ map (span_over bytes) stretches → EndsWhite a stretches → a ≡ true
        by k [] is ends = ends
        by Enter (st ∷ stretches) is ends = absurd (cc)
        by Exit (st ∷ stretches) is ends = absurd (cc)
    run-white (e ∷ f ∷ es) plain a stretches p more is lines course feeds ends = by e.kind f.kind refl refl (run-white (f ∷ es) plain.1)
      where
        by : (k l : Kind) → e.kind ≡ k → f.kind ≡ l → Whites (f ∷ es) → behind_events a (e ∷ f ∷ es) behind ≡ true
        by Exit l first second rest =
            let none : told bytes e (f ∷ (es ++ behind)) ≡ [] = (λ i. cond (is_enter (first i) && not (is_enter f.kind)) (given bytes AsWritten e.name e.point.index f.point.index) []) in
            let here : innermost_spans (e ∷ f ∷ es) ≡ innermost_spans (f ∷ es) = rw first refl in
            ap (λ x. behind_events (white_behind a x) (f ∷ es) behind) none ∙ rest a stretches p more (sym here ∙ is) lines course feeds ends
        by Enter Enter first second rest =
            let none : told bytes e (f ∷ (es ++ behind)) ≡ [] = (λ i. cond (is_enter (first i) && not (is_enter (second i))) (given bytes AsWritten e.name e.point.index f.point.index) []) in
            let here : innermost_spans (e ∷ f ∷ es) ≡ innermost_spans (f ∷ es) = rw (first, second) refl in
            ap (λ x. behind_events (white_behind a x) (f ∷ es) behind) none ∙ rest a stretches p more (sym here ∙ is) lines course feeds ends
        by Enter Exit first second rest =
            let here : innermost_spans (e ∷ f ∷ es) ≡ (e.point, f.point) ∷ innermost_spans (f ∷ es) = rw (first, second) refl in
            one-span e f es plain.0 first second rest a stretches p more (sym here ∙ is) lines course feeds ends

    -- So it is behind lines that end with a line ending, if events begin behind them
    pub lines-white : (xs : List Event) (a : Bool) (stretches : List (Seat × List Seat)) (s : Seat) (ss : List Seat) (p : Point) (more : List Seat) → AreUnmarked xs → innermost_spans xs ≡ map (span_over bytes) stretches → AllByRecursion InLine stretches
        → flat_map stretch_bytes stretches ≡ s ∷ ss → EndsLine (s ∷ ss) → Follows bytes t p ((s ∷ ss) ++ more) → AllByRecursion (IfFeed bytes) (s ∷ ss) → behind_events a xs behind ≡ true
    lines-white xs a [] s ss p more plain is lines all ends course feeds = absurd (cc)
    lines-white xs a (st ∷ stretches) s ss p more plain is lines all ends course feeds =
        run-white xs plain a (st ∷ stretches) p more is lines (subst (λ l. Follows bytes t p (l ++ more)) (sym all) course) (subst (AllByRecursion (IfFeed bytes)) (sym all) feeds) (ends-white a st stretches (subst EndsLine (sym all) ends))
