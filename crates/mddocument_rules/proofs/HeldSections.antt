-- What is in the definitions of a skeleton is what its sections have of them.
use Rattle.mddocument_rules.proofs.Prelude.{◌≡◌, ◌∙◌, ℕ, suc, ◌+◌, ◌==◌, Bool, true, false, cond, not, List, [], ◌∷◌, ◌++◌, None, Option, Some, append_assoc, ap, drop, flat_map, length, map, refl, reverse, subst, sym, take, cond_both, false_from_ne_true, false≢true, AllByRecursion, every-all, every-append, every-drop, every-front, IsBalanced, empty, span, IsBalanced-append, Event, Enter, Exit, Name, Point, Seat, end_after, is_wanted, block_names, same_name-true, nat_le, ending_of, event, Definition, Chunk, Mark, chunk_span, leaf_marks, span_marks, white, indent, Container, Prefix, footnote, item, quote, Turn, all_entered, entered, Row, has_none, rest_of, Frame, Part, Piece, begin_of, begun_all, begun_marks, chained_from, chunks_of, end_of, ending_marks, enters_of, exits, is_held, joined_pieces, last_line, list_name, next_chunk, pieces_of, prefixes_marks, shared, stretch-is, PieceIs, Inside, Section, defined, lines, table, all_rows, behind_marks, inside_marks, section_marks, sections_marks}
use Rattle.std.proofs.lemmas.List.{map-append}
use Rattle.markdown_base.proofs.Common.{every-reverse, every-take}
use Rattle.markdown_base.specs.declared.event.Content.TheVariants as content
use Rattle.markdown_base.specs.declared.event.Name.TheVariants as name
use Rattle.mdblock_containers.specs.Prefixes.{columns_of}
use Rattle.mdblock_definitions.proofs.SectionTurns.{AreCut}
use Rattle.mdblock_definitions.specs.Definitions.{Place, between, definition_marks, definitions_marks, parts_marks, places_in, seats_of}
use Rattle.mdblock_definitions.specs.Definitions as definitions
use Rattle.mddocument_laws.proofs.Chosen.{AreOther}
use Rattle.mddocument_rules.proofs.Definitions.{EndingIs, EndingsAre, IsKept, IsKeptByAll, begins-are, kept, kept-by-all, line-ends, name-apart, name-free, parts-are, prefixes-are, rows-are, some-kept, table-in-part}
use Rattle.mddocument_rules.proofs.Held.{AreAlone, IsAlone, held, held_one}
use Rattle.mddocument_rules.proofs.HeldSpans.{Spans, spans-both}
use Rattle.mddocument_rules.proofs.HeldStrings.{is_quiet}
use Rattle.mddocument_rules.proofs.HeldTexts.{is_cell, is_definition}
use Rattle.mddocument_rules.proofs.Places.{free-parts, is_free}
use Rattle.mddocument_rules.specs.ReferenceLaws.{parts_of_definitions, parts_of_section}

-- the events of marks
abbrev pub bare : List Mark → List Event
bare ms = map (λ (m : Mark). m.0) ms

-- marks that are no chunks
abbrev pub ArePlain : List Mark → Type 0
ArePlain ms = AllByRecursion (λ (m : Mark). m.1 ≡ None) ms

free-other : (n : Name) → is_free n ≡ true → is_definition n ≡ false
free-other n f = false_from_ne_true (is_definition n) (λ e. false≢true (sym (free-parts n f).1 ∙ ap (is_wanted block_names) (same_name-true n name.Definition e)))

-- ---- lists of marks, by what is in definitions
-- whatever stands behind, and wherever
abbrev pub IsBehind : (inside : Bool) → List Mark → List Event → Type 0
IsBehind inside ys zs = (i : ℕ) (previous : Option ℕ) → held is_definition inside (chained_from i previous ys) ≡ zs

abbrev pub Gives : List Mark → List Event → Type 0
Gives ms es = (ys : List Mark) (zs : List Event) → IsBehind false ys zs → IsBehind false (ms ++ ys) (es ++ zs)

-- marks without definitions
pub record Lacks (ms : List Mark) : Type 0 where
  pub gives : Gives ms []

lacks-none : Lacks []
lacks-none = record { gives = λ ys zs h. h }

lacks-both : (xs ys : List Mark) → Lacks xs → Lacks ys → Lacks (xs ++ ys)
lacks-both xs ys h k = record { gives = λ us zs m i previous. ap (λ l. held is_definition false (chained_from i previous l)) (append_assoc xs ys us) ∙ h.gives (ys ++ us) zs (k.gives us zs m) i previous }

lacks-mark : (e : Event) → is_definition e.name ≡ false → Lacks ((e, None) ∷ [])
lacks-mark e o = record { gives = λ ys zs h i previous. ap (λ b. held_one b false e (λ inside. held is_definition inside (chained_from (suc i) previous ys))) o ∙ h (suc i) previous }

lacks-chunk : (e : Event) (c : Chunk) → is_definition e.name ≡ false → Lacks ((e, Some c) ∷ [])
lacks-chunk e c o = record {
  gives = λ ys zs h i previous.
      ap (λ b. held_one b false (record e { link = Some (record { previous = cond c.has_previous previous None; next = cond c.has_next (next_chunk (suc i) ys) None; content = c.content }) })
      (λ inside. held is_definition inside (chained_from (suc i) (Some i) ys))) o
      ∙ h (suc i) (Some i);
}

module _ (bytes : List ℕ) where
  lacks-span : (n : Name) (seats : List Seat) (inside : List Mark) → is_definition n ≡ false → Lacks inside → Lacks (span_marks bytes n seats inside)
  lacks-span n [] inside o h = h
  lacks-span n (s ∷ ss) inside o h =
      lacks-both ((event bytes Enter n s.point, None) ∷ []) (inside ++ (event bytes Exit n (end_after s.end ss), None) ∷ []) (lacks-mark (event bytes Enter n s.point) o)
      (lacks-both inside ((event bytes Exit n (end_after s.end ss), None) ∷ []) h (lacks-mark (event bytes Exit n (end_after s.end ss)) o))

  lacks-by-all : IsKeptByAll bytes Lacks
  lacks-by-all = kept-by-all lacks-none lacks-both (λ n seats inside f h. lacks-span n seats inside (free-other n f) h)

  lacks-kept : IsKept bytes Lacks
  lacks-kept = some-kept lacks-by-all

  lacks-leaf : (n : Name) (seats : List Seat) → is_definition n ≡ false → Lacks (leaf_marks bytes n seats)
  lacks-leaf n seats o = lacks-span n seats [] o lacks-none

  chunk-lacks : (c : Chunk) (seats : List Seat) → Lacks (chunk_span bytes (Some c) name.Data seats [])
  chunk-lacks c [] = lacks-none
  chunk-lacks c (s ∷ ss) =
      lacks-both ((event bytes Enter name.Data s.point, Some c) ∷ []) ((event bytes Exit name.Data (end_after s.end ss), None) ∷ []) (lacks-chunk (event bytes Enter name.Data s.point) c refl) (lacks-mark (event bytes Exit name.Data (end_after s.end ss)) refl)

  -- ---- what is in a definition
  pub record Inner (ms : List Mark) : Type 0 where
    pub balanced : IsBalanced (bare ms)
    pub other : AreOther is_definition (bare ms)
    pub alone : AreAlone (bare ms)
    pub celless : AreOther is_cell (bare ms)
    pub plain : ArePlain ms

  inner-none : Inner []
  inner-none = record { balanced = empty; other = tt; alone = tt; celless = tt; plain = tt }

  inner-both : (xs ys : List Mark) → Inner xs → Inner ys → Inner (xs ++ ys)
  inner-both xs ys h k =
      let both : bare (xs ++ ys) ≡ bare xs ++ bare ys = map-append (λ (m : Mark). m.0) xs ys in
      record {
        balanced = subst IsBalanced (sym both) (IsBalanced-append (bare xs) (bare ys) h.balanced k.balanced);
        other = subst (AreOther is_definition) (sym both) (every-append (λ (e : Event). is_definition e.name ≡ false) (bare xs) (bare ys) h.other k.other);
        alone = subst AreAlone (sym both) (every-append IsAlone (bare xs) (bare ys) h.alone k.alone);
        celless = subst (AreOther is_cell) (sym both) (every-append (λ (e : Event). is_cell e.name ≡ false) (bare xs) (bare ys) h.celless k.celless);
        plain = every-append (λ (m : Mark). m.1 ≡ None) xs ys h.plain k.plain;
      }

  inner-span : (n : Name) (seats : List Seat) (inside : List Mark) → is_definition n ≡ false → is_cell n ≡ false → Inner inside → Inner (span_marks bytes n seats inside)
  inner-span n [] inside o c h = h
  inner-span n (s ∷ ss) inside o c h =
      let enter = event bytes Enter n s.point in
      let exit = event bytes Exit n (end_after s.end ss) in
      let both : bare (inside ++ (exit, None) ∷ []) ≡ bare inside ++ exit ∷ [] = map-append (λ (m : Mark). m.0) inside ((exit, None) ∷ []) in
      record {
        balanced = span enter exit (bare inside) [] (ap (λ l. enter ∷ l) both) refl refl refl h.balanced empty;
        other = (o, subst (AreOther is_definition) (sym both) (every-append (λ (e : Event). is_definition e.name ≡ false) (bare inside) (exit ∷ []) h.other (o, tt)));
        alone = (refl, subst AreAlone (sym both) (every-append IsAlone (bare inside) (exit ∷ []) h.alone (refl, tt)));
        celless = (c, subst (AreOther is_cell) (sym both) (every-append (λ (e : Event). is_cell e.name ≡ false) (bare inside) (exit ∷ []) h.celless (c, tt)));
        plain = (refl, every-append (λ (m : Mark). m.1 ≡ None) inside ((exit, None) ∷ []) h.plain (refl, tt));
      }

  pub inner-kept : IsKept bytes Inner
  inner-kept = kept inner-none inner-both (λ n seats inside f h. inner-span n seats inside (free-other n (name-free n f)) (name-apart n f) h)

  -- ---- marks with definitions, in which these are
  pub record Found (ms : List Mark) (uss : List (List Event)) : Type 0 where
    pub events : List Event
    pub gives : Gives ms events
    pub spans : Spans events uss
    pub alone : AreAlone events
    pub celless : AreOther is_cell events
    pub quiet : AllByRecursion (λ (us : List Event). is_quiet us ≡ true) uss

  found-none : (ms : List Mark) → Lacks ms → Found ms []
  found-none ms h = record { events = []; gives = h.gives; spans = refl; alone = tt; celless = tt; quiet = tt }

  found-both : (xs ys : List Mark) (uss vss : List (List Event)) → Found xs uss → Found ys vss → Found (xs ++ ys) (uss ++ vss)
  found-both xs ys uss vss h k = record {
    events = h.events ++ k.events;
    gives = λ us zs m i previous.
        ap (λ l. held is_definition false (chained_from i previous l)) (append_assoc xs ys us) ∙ h.gives (ys ++ us) (k.events ++ zs) (k.gives us zs m) i previous ∙ sym (append_assoc h.events k.events zs);
    spans = spans-both h.events k.events uss vss h.spans k.spans;
    alone = every-append IsAlone h.events k.events h.alone k.alone;
    celless = every-append (λ (e : Event). is_cell e.name ≡ false) h.events k.events h.celless k.celless;
    quiet = every-append (λ (us : List Event). is_quiet us ≡ true) uss vss h.quiet k.quiet;
  }

  found-behind : (xs ys : List Mark) (uss : List (List Event)) → Lacks xs → Found ys uss → Found (xs ++ ys) uss
  found-behind xs ys uss h k = found-both xs ys [] uss (found-none xs h) k

  -- a definition
  inside-gives : (ms : List Mark) → ArePlain ms → AreOther is_definition (bare ms) → (ys : List Mark) (zs : List Event) → IsBehind true ys zs → IsBehind true (ms ++ ys) (bare ms ++ zs)
  inside-gives [] plain other ys zs h i previous = h i previous
  inside-gives ((e, Some c) ∷ ms) plain other ys zs h i previous = absurd (let no : Some c ≡ None = plain.0 in cc)
  inside-gives ((e, None) ∷ ms) plain other ys zs h i previous =
      ap (λ b. held_one b true e (λ inside. held is_definition inside (chained_from (suc i) previous (ms ++ ys)))) other.0 ∙ ap (λ l. e ∷ l) (inside-gives ms plain.1 other.1 ys zs h (suc i) previous)

  found-span : (s : Seat) (ss : List Seat) (inside : List Mark) → Inner inside → is_quiet (bare inside) ≡ true → Found (span_marks bytes name.Definition (s ∷ ss) inside) (bare inside ∷ [])
  found-span s ss inside h quiet =
      let enter = event bytes Enter name.Definition s.point in
      let exit = event bytes Exit name.Definition (end_after s.end ss) in
      record {
        events = enter ∷ (bare inside ++ exit ∷ []);
        gives = λ ys zs m i previous.
            ap (λ l. held is_definition false (chained_from i previous ((enter, None) ∷ l))) (append_assoc inside ((exit, None) ∷ []) ys)
            ∙ ap (λ l. enter ∷ l) (inside-gives inside h.plain h.other ((exit, None) ∷ ys) (exit ∷ zs) (λ j p. ap (λ l. exit ∷ l) (m (suc j) p)) (suc i) previous)
            ∙ ap (λ l. enter ∷ l) (sym (append_assoc (bare inside) (exit ∷ []) zs));
        spans = (
          record { first = enter; last = exit; more = []; are = refl; enters = refl; named = refl; exits = refl; ends = refl; other = h.other; balanced = h.balanced },
          refl,
        );
        alone = (refl, every-append IsAlone (bare inside) (exit ∷ []) h.alone (refl, tt));
        celless = (refl, every-append (λ (e : Event). is_cell e.name ≡ false) (bare inside) (exit ∷ []) h.celless (refl, tt));
        quiet = (quiet, tt);
      }

  -- some virtual bytes
  pub record HasSeat (seats : List Seat) : Type 0 where
    pub first : Seat
    pub others : List Seat
    pub are : seats ≡ first ∷ others

  -- definitions, each of which has a virtual byte, and a label before all else
  abbrev pub IsSpoken : Definition → List Place → Type 0
  IsSpoken d xs = HasSeat (seats_of (take d.size xs)) × (is_quiet (bare (parts_marks bytes d (take d.size xs))) ≡ true)

  abbrev pub AreSpoken : List Definition → List Place → Type 0
  AreSpoken [] xs = Unit {0}
  AreSpoken (d ∷ ds) xs = IsSpoken d xs × AreSpoken ds (drop (d.size + 1) xs)

  found-definitions : (ds : List Definition) (xs : List Place) → AreSpoken ds xs → EndingsAre inner-kept xs → EndingsAre lacks-kept xs → Found (definitions_marks bytes ds xs) (parts_of_definitions bytes ds xs)
  found-definitions [] xs h inner lacks = found-none [] lacks-none
  found-definitions (d ∷ ds) xs h inner lacks =
      let parts = parts_marks bytes d (take d.size xs) in
      let ending = flat_map (definitions.ending_marks bytes) (between d.size (d.size + 1) xs) in
      let rest = drop (d.size + 1) xs in
      let one : Found (definition_marks bytes d xs) (bare parts ∷ []) =
      subst (λ (l : List Seat). Found (span_marks bytes name.Definition l parts) (bare parts ∷ [])) (sym h.0.0.are)
      (found-span h.0.0.first h.0.0.others parts (parts-are inner-kept d (take d.size xs) (every-take (EndingIs inner-kept) d.size xs inner)) h.0.1) in
      found-both (definition_marks bytes d xs) (ending ++ definitions_marks bytes ds rest) (bare parts ∷ []) (parts_of_definitions bytes ds rest) one
      (found-behind ending (definitions_marks bytes ds rest) (parts_of_definitions bytes ds rest) (line-ends lacks-kept d.size (d.size + 1) xs lacks)
      (found-definitions ds rest h.1 (every-drop (EndingIs inner-kept) (d.size + 1) xs inner) (every-drop (EndingIs lacks-kept) (d.size + 1) xs lacks)))

  -- ---- what is in a section
  chunks-lack : (has_previous : Bool) (ps : List (Piece bytes)) → AllByRecursion (PieceIs bytes Lacks) ps → Lacks (chunks_of bytes has_previous ps)
  chunks-lack has_previous [] h = lacks-none
  chunks-lack has_previous (p ∷ ps) h =
      let c : Chunk = record { content = content.Content; has_previous = has_previous; has_next = not (has_none (flat_map (λ (q : Piece bytes). q.seats) ps)) } in
      lacks-both p.before (chunk_span bytes (Some c) name.Data p.seats [] ++ chunks_of bytes true ps) h.0 (lacks-both (chunk_span bytes (Some c) name.Data p.seats []) (chunks_of bytes true ps) (chunk-lacks c p.seats) (chunks-lack true ps h.1))

  of-part : (part : Part) → AllByRecursion (PieceIs bytes Lacks) (joined_pieces bytes (pieces_of bytes (is_held part) part.first part.more))
  of-part part = stretch-is bytes Lacks (λ (row : Row). Unit {0}) (λ row u. prefixes-are lacks-kept row.went_on row.line) part (every-all (λ (row : Row). Unit {0}) (λ row. tt) (all_rows part))

  white-lacks : (seats : List Seat) → Lacks (white bytes seats)
  white-lacks seats = lacks-leaf name.SpaceOrTab seats refl

  stretch-lacks : (ps : List (Piece bytes)) → AllByRecursion (PieceIs bytes Lacks) ps → Lacks (elim ps [ [] ↦ [] | p ∷ ps ↦ chunks_of bytes false (record p { before = [] } ∷ ps) ])
  stretch-lacks [] h = lacks-none
  stretch-lacks (p ∷ ps) h = chunks-lack false (record p { before = [] } ∷ ps) (lacks-none, h.1)

  behind-lacks : (columns : ℕ) (ps : List (Piece bytes)) → AllByRecursion (PieceIs bytes Lacks) ps
      → Lacks (elim ps [ [] ↦ [] | p ∷ ps ↦ white bytes (take columns p.seats) ++ chunks_of bytes false (record p { before = []; seats = drop columns p.seats } ∷ ps) ])
  behind-lacks columns [] h = lacks-none
  behind-lacks columns (p ∷ ps) h =
      lacks-both (white bytes (take columns p.seats)) (chunks_of bytes false (record p { before = []; seats = drop columns p.seats } ∷ ps)) (white-lacks (take columns p.seats)) (chunks-lack false (record p { before = []; seats = drop columns p.seats } ∷ ps) (lacks-none, h.1))

  -- its definitions are such
  abbrev pub IsTold : Section → Type 0
  IsTold s = (ds : List Definition) → s.inside ≡ defined ds → AreSpoken ds (places_in bytes (all_rows s.part))

  inside-found : (part : Part) (inside : Inside) → ((ds : List Definition) → inside ≡ defined ds → AreSpoken ds (places_in bytes (all_rows part))) → Found (inside_marks bytes part inside) (parts_of_section bytes (record { part = part; inside = inside }))
  inside-found part (lines true) h = found-none (inside_marks bytes part (lines true)) (behind-lacks (indent (rest_of part.first)) (joined_pieces bytes (pieces_of bytes (is_held part) part.first part.more)) (of-part part))
  inside-found part (lines false) h =
      found-none (inside_marks bytes part (lines false)) (cond_both part.first.is_blank _ _ Lacks (λ e. white-lacks _) (λ e. stretch-lacks (joined_pieces bytes (pieces_of bytes (is_held part) part.first part.more)) (of-part part)))
  inside-found part (defined ds) h = found-definitions ds (places_in bytes (all_rows part)) (h ds refl) (rows-are inner-kept (all_rows part)) (rows-are lacks-kept (all_rows part))
  inside-found part table h = found-none (inside_marks bytes part table) (table-in-part lacks-by-all Lacks (λ ms k. k) (λ seats inside k. lacks-span name.GfmTable seats inside refl k) part)

  ends-lack : (part : Part) → Lacks (ending_marks bytes part)
  ends-lack part =
      cond_both (is_held part) [] (leaf_marks bytes (cond part.first.is_blank name.BlankLineEnding name.LineEnding) (ending_of (last_line bytes part))) Lacks (λ e. lacks-none)
      (λ e. lacks-leaf (cond part.first.is_blank name.BlankLineEnding name.LineEnding) (ending_of (last_line bytes part)) (cond_both part.first.is_blank name.BlankLineEnding name.LineEnding (λ n. is_definition n ≡ false) (λ b. refl) (λ b. refl)))

  -- ---- containers
  list-other : (b : Bool) → is_definition (cond b name.ListOrdered name.ListUnordered) ≡ false
  list-other true = refl
  list-other false = refl

  enters-lack : (c : Container) (place : Point) → Lacks (enters_of bytes c place)
  enters-lack (quote q) place = lacks-mark (event bytes Enter name.BlockQuote place) refl
  enters-lack (footnote f) place = lacks-mark (event bytes Enter name.GfmFootnoteDefinition place) refl
  enters-lack (item i) place =
      lacks-both (cond (i.list == i.line) ((event bytes Enter (list_name i) place, None) ∷ []) []) ((event bytes Enter name.ListItem place, None) ∷ [])
      (cond_both (i.list == i.line) ((event bytes Enter (list_name i) place, None) ∷ []) [] Lacks (λ e. lacks-mark (event bytes Enter (list_name i) place) (list-other (nat_le 1 i.digits))) (λ e. lacks-none)) (lacks-mark (event bytes Enter name.ListItem place) refl)

  begun-lack : (ps : List Prefix) (seats : List Seat) → Lacks (begun_all bytes ps seats)
  begun-lack [] seats = lacks-none
  begun-lack (p ∷ ps) seats =
      lacks-both (enters_of bytes p.container (begin_of seats)) (begun_marks bytes p.container (take p.size seats) ++ begun_all bytes ps (drop p.size seats)) (enters-lack p.container (begin_of seats))
      (lacks-both (begun_marks bytes p.container (take p.size seats)) (begun_all bytes ps (drop p.size seats)) (begins-are lacks-kept p.container (take p.size seats)) (begun-lack ps (drop p.size seats)))

  abbrev FrameIs : Frame → Type 0
  FrameIs f = is_definition f.name ≡ false

  entered-other : (c : Container) → AllByRecursion FrameIs (entered c)
  entered-other (quote q) = (refl, tt)
  entered-other (footnote f) = (refl, tt)
  entered-other (item i) =
      every-append FrameIs (cond (i.list == i.line) (record { name = list_name i; line = i.list } ∷ []) []) (record { name = name.ListItem; line = i.line } ∷ [])
      (cond_both (i.list == i.line) (record { name = list_name i; line = i.list } ∷ []) [] (AllByRecursion FrameIs) (λ e. (list-other (nat_le 1 i.digits), tt)) (λ e. tt)) (refl, tt)

  all-other : (ps : List Prefix) → AllByRecursion FrameIs (all_entered ps)
  all-other [] = tt
  all-other (p ∷ ps) = every-append FrameIs (entered p.container) (all_entered ps) (entered-other p.container) (all-other ps)

  turned : (before after : List Frame) (begun : List Prefix) → Turn before after begun → AllByRecursion FrameIs before → AllByRecursion FrameIs after
  turned before after begun turn h =
      subst (AllByRecursion FrameIs) (sym turn.after_are) (every-append FrameIs turn.kept (all_entered begun) (every-front FrameIs turn.kept turn.ended (subst (AllByRecursion FrameIs) turn.before_are h)) (all-other begun))

  exit-each : (place : Point) (fs : List Frame) → AllByRecursion FrameIs fs → Lacks (map (λ (f : Frame). (event bytes Exit f.name place, None)) fs)
  exit-each place [] h = lacks-none
  exit-each place (f ∷ fs) h = lacks-both ((event bytes Exit f.name place, None) ∷ []) (map (λ (g : Frame). (event bytes Exit g.name place, None)) fs) (lacks-mark (event bytes Exit f.name place) h.0) (exit-each place fs h.1)

  exits-lack : (fs : List Frame) (place : Point) → AllByRecursion FrameIs fs → Lacks (exits bytes fs place)
  exits-lack fs place h = exit-each place (reverse fs) (every-reverse FrameIs fs h)

  -- ---- sections
  section-found : (s : Section) → IsTold s → Found (section_marks bytes s) (parts_of_section bytes s)
  section-found s h =
      let first = s.part.first in
      let front = prefixes_marks bytes (take (length s.part.stands) first.went_on) first.line in
      let begun = begun_all bytes first.begun (drop (columns_of first.went_on) first.line) in
      let inside = inside_marks bytes s.part s.inside in
      found-behind front (begun ++ inside) (parts_of_section bytes s) (prefixes-are lacks-kept (take (length s.part.stands) first.went_on) first.line)
      (found-behind begun inside (parts_of_section bytes s) (begun-lack first.begun (drop (columns_of first.went_on) first.line)) (inside-found s.part s.inside h))

  behind-found : (part : Part) (ss : List Section) → AllByRecursion FrameIs part.frames → AreCut bytes part.frames ss → AllByRecursion IsTold ss → Found (behind_marks bytes part ss) (flat_map (parts_of_section bytes) ss)
  behind-found part [] fs c h = found-none (behind_marks bytes part []) (lacks-both (exits bytes part.frames (end_of bytes part)) (ending_marks bytes part) (exits-lack part.frames (end_of bytes part) fs) (ends-lack part))
  behind-found part (next ∷ more) fs c h =
      let n = shared part.frames next.part.frames in
      let gone = exits bytes (drop n part.frames) (end_of bytes part) in
      let all = flat_map (parts_of_section bytes) (next ∷ more) in
      let rest = section_marks bytes next ++ behind_marks bytes next.part more in
      found-behind gone (ending_marks bytes part ++ rest) all (exits-lack (drop n part.frames) (end_of bytes part) (every-drop FrameIs n part.frames fs))
      (found-behind (ending_marks bytes part) rest all (ends-lack part)
      (found-both (section_marks bytes next) (behind_marks bytes next.part more) (parts_of_section bytes next) (flat_map (parts_of_section bytes) more) (section-found next h.0)
      (behind-found next.part more (turned part.frames next.part.frames next.part.first.begun c.0 fs) c.2 h.1)))

  -- The definitions among the marks of sections are theirs
  pub sections-found : (ss : List Section) → AreCut bytes [] ss → AllByRecursion IsTold ss → Found (sections_marks bytes ss) (flat_map (parts_of_section bytes) ss)
  sections-found [] c h = found-none [] lacks-none
  sections-found (s ∷ more) c h =
      found-both (section_marks bytes s) (behind_marks bytes s.part more) (parts_of_section bytes s) (flat_map (parts_of_section bytes) more) (section-found s h.0)
      (behind-found s.part more (turned [] s.part.frames s.part.first.begun c.0 tt) c.2 h.1)
