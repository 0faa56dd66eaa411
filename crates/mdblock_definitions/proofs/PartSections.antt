-- A part with its sections, as it is written, by the values of the code.
use Rattle.std.proofs.Common.{◌≡◌, ℕ, suc, ◌+◌, ◌-◌, ◌*◌, ◌^◌, ◌<◌, ◌≤◌, Bool, true, false, cond, List, [], ◌∷◌, ◌++◌, length, take, drop, min, refl, sym, ap, ◌∙◌, subst, arith, append_assoc, length-drop}
use Rattle.std.specs.Prelude.{◌||◌, None, reverse}
use Rattle.std.specs.List.{flat_map}
use Rattle.std.proofs.lemmas.Bool.{false≢true}
use Rattle.std.proofs.lemmas.Grind.{flat_map-append}
use Rattle.std.proofs.lemmas.List.{append-nil, map-append, take-append-drop, take_rest}
use Rattle.std.proofs.lemmas.List.Folds.{list_any-append}
use Rattle.std.proofs.Math.Bool.{or_assoc}
use Rattle.markdown_base.specs.declared.configuration.Constructs.{Constructs}
use Rattle.markdown_base.specs.declared.event.Event.{Event}
use Rattle.markdown_base.specs.Virtual.{Seat, point}
use Rattle.markdown_base.proofs.Facts.Bools.{and-left}
use Rattle.mdconstructs_machines.specs.LineEvents.{line_text}
use Rattle.mdblock_leaf_blocks.specs.LeafBlocks.{bytes_of}
use Rattle.mdblock_leaf_blocks.specs.LeafEvents.{Mark}
use Rattle.mdblock_lines.specs.Containers.{Container}
use Rattle.mdblock_lines.specs.Lines.{line_bytes, place_after}
use Rattle.mdblock_containers.specs.declared.ahead.Ahead.{Ahead}
use Rattle.mdblock_containers.specs.declared.parts.PartEnd.{PartEnd}
use Rattle.mdblock_containers.specs.declared.prefixes.At.{At}
use Rattle.mdblock_containers.specs.declared.spans.RowAt.{RowAt}
use Rattle.mdblock_containers.specs.Ahead.{ahead_of}
use Rattle.mdblock_containers.specs.Costs.{ArePaid, FirstIsNotLazy, IsPaid}
use Rattle.mdblock_containers.specs.Parts.{ending_at, open_behind, stands_in}
use Rattle.mdblock_containers.specs.Prefixes.{columns_of, containers_of, going_on}
use Rattle.mdblock_containers.specs.Rest.{AreLeft, ending_to, exits_to}
use Rattle.mdblock_containers.specs.Rows.{Row, closed, has_none}
use Rattle.mdblock_containers.specs.SeatPlaces.{AreSeatsAt, events_of}
use Rattle.mdblock_containers.specs.Skeleton.{Frame, Part, begun_all, chained_from, frames_at, further, going_on_at, prefixes_marks, shared, standing}
use Rattle.mdblock_containers.specs.Spans.{AreRowsIn}
use Rattle.mdblock_containers.specs.Stretches.{AreFurther}
use Rattle.mdblock_containers.specs.Views.{begun_of}
use Rattle.mdblock_containers.specs.Written.{NoChunk, Written}
use Rattle.mdblock_containers.proofs.CostLemmas.{after_further}
use Rattle.mdblock_containers.proofs.EndLemmas.{plain_begun}
use Rattle.mdblock_containers.proofs.FrameFacts.{shared_none}
use Rattle.mdblock_containers.proofs.JoinLemmas.{plain_prefixes}
use Rattle.mdblock_containers.proofs.PartCosts.{first_behind}
use Rattle.mdblock_containers.proofs.PartFacts.{lines_is}
use Rattle.mdblock_containers.proofs.PartWritten.{begin_columns, begun_marks_are, columns_all, going_is_first, more_is, prefix_marks_are, split}
use Rattle.mdblock_containers.proofs.RestLemmas.{part_of, parts_more, plain_map}
use Rattle.mdblock_containers.proofs.StretchLemmas.{row_bytes, row_seats}
use Rattle.mdblock_containers.proofs.WrittenLemmas.{plain_append, write_end, write_plain}
use Rattle.mdblock_definitions.specs.Labelled.{is_one_of}
use Rattle.mdblock_definitions.specs.Sectioned.{HasEnd, TextsAreFilled, IsBegun, IsSectionOf, inside_from}
use Rattle.mdblock_definitions.specs.Sections.{Section, cut, sections}
use Rattle.mdblock_definitions.specs.Skeleton.{all_rows, behind_marks, inside_marks, labels_of_section, letters_of_section, section_marks}
use Rattle.mdblock_definitions.specs.Within.{AreWithin, last_of, rest_sections, within_marks}
use Rattle.mdblock_definitions.proofs.FilledTexts.{texts-take}
use Rattle.mdblock_definitions.proofs.Within.{behind-sections, behind-within, part-begins, within-next}

-- ---- the sections of a part

-- the last section of a part is in its spans
last-frames : (p : Part) (ss : List Section) → AreWithin p ss → (last_of p ss).frames ≡ p.frames
last-frames p [] h = refl
last-frames p (s ∷ ss) h = last-frames s.part ss (within-next p s.part ss h.0.0 h.0.1 h.1) ∙ h.0.0

module _ (on : Constructs) (bytes : List ℕ) (p : Part) where
  -- behind the sections of a part, by where it ends
  pub behind-part : (more : List Section) (e : PartEnd) → HasEnd bytes (last_of p (cut on p)) e → behind_marks bytes (last_of p (cut on p)) more ≡ rest_sections bytes p.frames e more
  behind-part more e h =
      let b = part-begins on p in
      let frames : (last_of p (cut on p)).frames ≡ p.frames = ap (λ (l : List Section). (last_of p l).frames) b.is ∙ last-frames p (b.first ∷ b.more) b.within in
      behind-sections bytes (last_of p (cut on p)) more e h.place h.ending ∙ ap (λ (l : List Frame). rest_sections bytes l e more) frames

  -- what is written up to the inside of the first section of a part
  pub section-begins : (e0 e1 e2 : List Event) (fs : List Frame) (end : PartEnd) (more : List Section) (all : List Mark)
      → e1 ≡ e0 ++ (events_of (exits_to (drop (shared fs p.frames) fs) end.place) ++ events_of (ending_to end))
      → e2 ≡ e1 ++ (events_of (prefixes_marks bytes (take (length p.stands) p.first.went_on) p.first.line) ++ events_of (begun_all bytes p.first.begun (drop (columns_of p.first.went_on) p.first.line)))
      → Written e0 None false (rest_sections bytes fs end (cut on p ++ more)) all → Written e2 None false (inside_from bytes (cut on p) (behind_marks bytes (last_of p (cut on p)) more)) all
  section-begins e0 e1 e2 fs end more all a1 a2 w =
      let b = part-begins on p in
      let s = b.first in
      let ss = b.more in
      let x = exits_to (drop (shared fs p.frames) fs) end.place in
      let y = ending_to end in
      let u = prefixes_marks bytes (take (length p.stands) p.first.went_on) p.first.line in
      let v = begun_all bytes p.first.begun (drop (columns_of p.first.went_on) p.first.line) in
      let i = inside_marks bytes s.part s.inside in
      let rest = within_marks bytes s.part ss ++ behind_marks bytes (last_of s.part ss) more in
      let plain_x : NoChunk x = plain_map _ (reverse (drop (shared fs p.frames) fs)) in
      let plain_y : NoChunk y = plain_map (λ (k : Event). k) (ending_at end) in
      let behind : behind_marks bytes s.part (ss ++ more) ≡ rest = behind-within bytes s.part ss more (within-next p s.part ss b.within.0.0 b.within.0.1 b.within.1) in
      let front : section_marks bytes s ≡ u ++ (v ++ i) =
      λ k. prefixes_marks bytes (take (length (b.within.0.1 k)) (b.begin k).went_on) (b.begin k).line ++ (begun_all bytes (b.begin k).begun (drop (columns_of (b.begin k).went_on) (b.begin k).line) ++ i) in
      let is : rest_sections bytes fs end (cut on p ++ more) ≡ x ++ (y ++ ((u ++ (v ++ i)) ++ rest)) =
      ap (λ (l : List Section). rest_sections bytes fs end (l ++ more)) b.is ∙ (λ k. exits_to (drop (shared fs (b.within.0.0 k)) fs) end.place ++ (y ++ (front k ++ behind k))) in
      let order : x ++ (y ++ ((u ++ (v ++ i)) ++ rest)) ≡ (x ++ y) ++ ((u ++ v) ++ (i ++ rest)) =
      sym (append_assoc x y ((u ++ (v ++ i)) ++ rest)) ∙ ap (λ l. (x ++ y) ++ l) (append_assoc u (v ++ i) rest ∙ ap (λ l. u ++ l) (append_assoc v i rest) ∙ sym (append_assoc u v (i ++ rest))) in
      let both : e1 ≡ e0 ++ events_of (x ++ y) = a1 ∙ ap (λ l. e0 ++ l) (sym (map-append (λ (m : Mark). m.0) x y)) in
      let wrote : e2 ≡ e1 ++ events_of (u ++ v) = a2 ∙ ap (λ l. e1 ++ l) (sym (map-append (λ (m : Mark). m.0) u v)) in
      let w1 = write_plain e0 e1 None false (x ++ y) ((u ++ v) ++ (i ++ rest)) all (plain_append x y plain_x plain_y) both (subst (λ (m : List Mark). Written e0 None false m all) (is ∙ order) w) in
      let w2 = write_plain e1 e2 None false (u ++ v) (i ++ rest) all (plain_append u v (plain_prefixes bytes (take (length p.stands) p.first.went_on) p.first.line) (plain_begun bytes p.first.begun (drop (columns_of p.first.went_on) p.first.line))) wrote w1 in
      let there : inside_from bytes (cut on p) (behind_marks bytes (last_of p (cut on p)) more) ≡ i ++ (within_marks bytes s.part ss ++ behind_marks bytes (last_of s.part ss) more) =
      ap (λ (l : List Section). inside_from bytes l (behind_marks bytes (last_of p l) more)) b.is in
      subst (λ (m : List Mark). Written e2 None false m all) (sym there) w2

-- behind the last part
pub write-end : (bytes : List ℕ) (es new : List Event) (fs : List Frame) (e : PartEnd) (ss : List Section) (all : List Mark) → ss ≡ [] → new ≡ es ++ (events_of (exits_to (drop (shared fs []) fs) e.place) ++ events_of (ending_to e))
    → Written es None false (rest_sections bytes fs e ss) all → new ≡ chained_from 0 None all
write-end bytes es new fs e ss all none wrote w =
    let x = exits_to fs e.place in
    let y = ending_to e in
    let is : new ≡ es ++ events_of (x ++ y) = wrote ∙ (λ k. es ++ (events_of (exits_to (drop (shared_none fs k) fs) e.place) ++ events_of y)) ∙ ap (λ l. es ++ l) (sym (map-append (λ (m : Mark). m.0) x y)) in
    let plain : NoChunk (x ++ y) = plain_append x y (plain_map _ (reverse fs)) (plain_map (λ (k : Event). k) (ending_at e)) in
    let all_is : rest_sections bytes fs e ss ≡ (x ++ y) ++ [] = ap (rest_sections bytes fs e) none ∙ sym (append-nil (x ++ y)) in
    write_end new None false all (write_plain es new None false (x ++ y) [] all plain is (subst (λ (m : List Mark). Written es None false m all) all_is w))

-- ---- a part that begins with a line

module _ (t : ℕ) (bytes : List ℕ) (some : 0 < t) (limit : t * length bytes + 1 < 2 ^ 64) (stack : List Container) (first : RowAt) (behind : List RowAt) (r : Row) (rs : List Row) (left : AreLeft bytes t stack (first ∷ behind) (r ∷ rs)) (ahead : Ahead) (ae : ahead ≡ ahead_of rs) where
  abbrev lines : ℕ
  lines = cond first.row.is_blank 0 ahead.further

  lines-are : lines ≡ cond r.is_blank 0 (further rs)
  lines-are = lines_is t bytes some limit stack first behind r rs left ahead ae

  -- the sections of these lines are those of the first part, and those behind it
  pub sections-step : (on : Constructs) → sections on (r ∷ rs) ≡ cut on (part_of r rs) ++ sections on (drop lines rs)
  sections-step on = ap (flat_map (cut on)) (parts_more r rs) ∙ ap (λ n. cut on (part_of r rs) ++ sections on (drop n rs)) (sym lines-are)

  pub letters-step : (on : Constructs) (old new : List ℕ) → new ≡ old ++ flat_map (letters_of_section on) (cut on (part_of r rs))
      → new ++ flat_map (letters_of_section on) (sections on (drop lines rs)) ≡ old ++ flat_map (letters_of_section on) (sections on (r ∷ rs))
  letters-step on old new e =
      let f = letters_of_section on in
      let here = cut on (part_of r rs) in
      let more = sections on (drop lines rs) in
      ap (λ l. l ++ flat_map f more) e ∙ append_assoc old (flat_map f here) (flat_map f more) ∙ ap (λ l. old ++ l) (sym (flat_map-append f here more) ∙ sym (ap (flat_map f) (sections-step on)))

  pub labels-step : (on : Constructs) (label : List ℕ) (old new : Bool) → new ≡ (old || is_one_of (flat_map labels_of_section (cut on (part_of r rs))) label)
      → (new || is_one_of (flat_map labels_of_section (sections on (drop lines rs))) label) ≡ (old || is_one_of (flat_map labels_of_section (sections on (r ∷ rs))) label)
  labels-step on label old new e =
      let f = labels_of_section in
      let here = cut on (part_of r rs) in
      let more = sections on (drop lines rs) in
      let both : is_one_of (flat_map f here ++ flat_map f more) label ≡ (is_one_of (flat_map f here) label || is_one_of (flat_map f more) label) = list_any-append _ (flat_map f here) (flat_map f more) in
      ap (λ b. b || is_one_of (flat_map f more) label) e ∙ or_assoc old (is_one_of (flat_map f here) label) (is_one_of (flat_map f more) label)
      ∙ ap (λ b. old || b) (sym both ∙ ap (λ l. is_one_of l label) (sym (flat_map-append f here more) ∙ sym (ap (flat_map f) (sections-step on))))

  -- the line behind it does not go on lazily
  pub next-not-lazy : ArePaid (r ∷ rs) → FirstIsNotLazy (drop lines rs)
  next-not-lazy paid = subst (λ (n : ℕ). FirstIsNotLazy (drop n rs)) (sym lines-are) (by r.is_blank refl)
    where
      by : (b : Bool) → r.is_blank ≡ b → FirstIsNotLazy (drop (cond b 0 (further rs)) rs)
      by true e = first_behind r rs paid.1 e
      by false e = after_further rs paid.2

  pub part-texts : TextsAreFilled (r ∷ rs) → TextsAreFilled (all_rows (part_of r rs))
  part-texts h = texts-take (suc (cond r.is_blank 0 (further rs))) (r ∷ rs) h

  module _ (open_now : List Container) (oe : open_now ≡ open_behind stack r) where
    -- its lines
    pub part-section : IsSectionOf t bytes open_now first (take lines behind) (part_of r rs)
    part-section = record {
      before = stack;
      behind = drop lines behind;
      rest = drop lines rs;
      left = record {
        number = left.number;
        start = left.start;
        are = (
          left.are.0,
          subst (λ (l : List RowAt). AreRowsIn t bytes (open_behind stack r) (suc left.number) first.span.next l (take (cond r.is_blank 0 (further rs)) rs ++ drop lines rs)) (sym (take-append-drop lines behind))
              (subst (AreRowsIn t bytes (open_behind stack r) (suc left.number) first.span.next behind) (sym (ap (λ n. take n rs ++ drop lines rs) (sym lines-are) ∙ take-append-drop lines rs)) left.are.1),
        );
        outside = left.outside;
        few = left.few;
      };
      further =
          subst (λ (s : List Container). AreFurther t bytes s (suc left.number) first.span.next (take lines behind) (take (cond r.is_blank 0 (further rs)) rs)) (sym oe)
          (subst (AreFurther t bytes (open_behind stack r) (suc left.number) first.span.next (take lines behind)) (sym (more_is t bytes some limit stack first behind r rs left ahead ae)) (split t bytes some limit stack first behind r rs left ahead ae).first);
    }

    -- a part that is no blank line stands in all open containers
    pub stands-all : IsPaid r → r.is_lazy ≡ false → r.is_blank ≡ false → length open_now ≤ length (standing r rs)
    stands-all paid lazy blank = by r.is_left_blank refl
      where
        all : List Container
        all = containers_of r.went_on ++ containers_of r.begun

        by : (b : Bool) → r.is_left_blank ≡ b → length open_now ≤ length (standing r rs)
        by true e = absurd (false≢true (sym blank ∙ and-left r.is_blank (has_none r.begun) (paid.left e)))
        by false e =
            let open_is : open_now ≡ all = oe ∙ (λ k. cond (e k || lazy k) stack all) in
            let stands_are : standing r rs ≡ all = ap (λ b. stands_in b (going_on_at rs) r.number all) blank in
            omega (arith, ap (λ (l : List Container). length l) open_is, ap (λ (l : List Container). length l) stands_are)

    module _ (own : List Container) (all stands : ℕ) (own_is : own ≡ take all open_now) (own_all : take all open_now ≡ containers_of r.went_on ++ containers_of r.begun)
        (st : take stands own ≡ stands_in first.row.is_blank ahead.many first.span.number own) (few : stands ≤ length own) (going : List Container) (going_is : going ≡ take (min stands first.row.many) own) where
      abbrev here : List ℕ
      here = line_bytes t first.span.number 1 first.span.start (drop first.span.start bytes)

      -- what is written up to the inside of its first section
      pub write-begin : (on : Constructs) (e0 e1 e2 : List Event) (fs list : List Frame) (end : PartEnd) (all_marks : List Mark) → list ≡ frames_at r rs
          → e1 ≡ e0 ++ (events_of (exits_to (drop (shared fs list) fs) end.place) ++ events_of (ending_to end))
          → ((seats : List Seat) → AreSeatsAt t bytes (point first.span.number 1 first.span.start 0) seats → here ≡ bytes_of seats
          → e2 ≡ e1 ++ (events_of (prefixes_marks bytes (going_on going first.span.number here) seats) ++ events_of (begun_all bytes (begun_of first.row.list first.span.number first.row.begun.items) (drop first.row.going seats))))
          → Written e0 None false (rest_sections bytes fs end (sections on (r ∷ rs))) all_marks
          → Written e2 None false (inside_from bytes (cut on (part_of r rs)) (behind_marks bytes (last_of (part_of r rs) (cut on (part_of r rs))) (sections on (drop lines rs)))) all_marks
      write-begin on e0 e1 e2 fs list end all_marks el a1 a2 w =
          let text = line_text r.line in
          let goes = going_is_first t bytes some limit stack first behind r rs left ahead ae open_now own all stands own_is own_all st few going going_is in
          let begun = begun_marks_are t bytes some limit stack first behind r rs left ahead ae open_now own all stands own_is own_all st few going going_is in
          let prefixes = prefix_marks_are t bytes some limit stack first behind r rs left ahead ae open_now own all stands own_is own_all st few going going_is in
          section-begins on bytes (part_of r rs) e0 e1 e2 fs end (sections on (drop lines rs)) all_marks (a1 ∙ (λ k. e0 ++ (events_of (exits_to (drop (shared fs (el k)) fs) end.place) ++ events_of (ending_to end))))
          (a2 text (row_seats t bytes some limit stack left.number left.start first r left.are.0 left.outside) (row_bytes t bytes some limit stack left.number left.start first r left.are.0 left.outside)
          ∙ (λ k. e1 ++ (events_of (prefixes_marks bytes (goes k) text) ++ events_of (begun k))) ∙ (λ k. e1 ++ (events_of (prefixes k) ++ events_of (begun_all bytes r.begun (drop (columns_of r.went_on) r.line)))))
          (subst (λ (l : List Section). Written e0 None false (rest_sections bytes fs end l) all_marks) (sections-step on) w)

      -- the place behind the prefixes of its first line
      pub part-begun : (begin : At) → begin.columns ≡ cond (has_none first.row.begun.items) (columns_of (going_on going first.span.number here)) first.row.columns
          → begin.place ≡ place_after t bytes (point first.span.number 1 first.span.start 0) begin.columns → IsBegun t bytes (part_of r rs) first begin
      part-begun begin bc bp = record { columns = by r.is_blank refl; place = bp }
        where
          by : (b : Bool) → r.is_blank ≡ b → begin.columns ≡ cond b (cond (has_none r.begun) (columns_of (take (length (standing r rs)) r.went_on)) r.columns) r.columns
          by true e = begin_columns t bytes some limit stack first behind r rs left ahead ae open_now own all stands own_is own_all st few going going_is begin bc bp
          by false e = columns_all t bytes some limit stack first behind r rs left ahead ae open_now own all stands own_is own_all st few going going_is begin bc bp e

-- ---- the lines that are left

abbrev pub no_row : Row
no_row = record { number = 0; line = []; went_on = []; begun = []; columns = 0; is_blank = false; is_lazy = false; stays = false; is_left_blank = false; leaf = closed }

-- the first of some lines
abbrev pub first_in : List Row → Row
first_in [] = no_row
first_in (r ∷ rs) = r

-- the line at an index, and those behind it
abbrev pub lines_from : (i : ℕ) → List Row → Row × List Row
lines_from i all = (first_in (drop i all), drop (i + 1) all)

-- so many lines are left
pub lines-left : (rows : List RowAt) (all : List Row) (i : ℕ) (r : Row) → i < length rows → length rows ≡ length all → drop i all ≡ r ∷ drop (i + 1) all → lines_from (length all - length (take (length rows - i) (drop i rows))) all ≡ (r, drop (i + 1) all)
lines-left rows all i r h e is =
    let left = ap (λ (l : List RowAt). length l) (take_rest rows i) in
    let n : length all - length (take (length rows - i) (drop i rows)) ≡ i = omega (arith, left, length-drop i rows, h, e) in
    ap (λ k. lines_from k all) n ∙ (λ k. (first_in (is k), drop (i + 1) all))
