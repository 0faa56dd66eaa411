-- The skeleton of a document: prefixes of items stand in items, and text in some span.
use Rattle.std.proofs.Common.{◌≡◌, ◌∙◌, ℕ, suc, ◌+◌, ◌-◌, ◌==◌, arith, lt-ltb, Bool, true, false, cond, List, [], ◌∷◌, ◌++◌, take, drop, length, map, reverse, Some, None, refl, sym, ap, subst}
use Rattle.std.proofs.Math.Seq.{drop-nil, take-nil}
use Rattle.std.proofs.lemmas.Bool.{and_from, cond_both}
use Rattle.std.proofs.lemmas.List.{append_assoc}
use Rattle.std.specs.List.{AllByRecursion, flat_map}
use Rattle.std.specs.Prelude.{◌||◌, nat_le, nat_lt, not}
use Rattle.markdown_base.proofs.Common.{every-append, every-drop, every-take}
use Rattle.markdown_base.specs.declared.event.Content.TheVariants as content
use Rattle.markdown_base.specs.declared.event.Kind.TheVariants.{Enter, Exit}
use Rattle.markdown_base.specs.declared.event.Name.{Name}
use Rattle.markdown_base.specs.declared.event.Name.TheVariants as name
use Rattle.markdown_base.specs.declared.event.Point.{Point}
use Rattle.markdown_base.specs.Virtual.{Seat, end_after, virtual}
use Rattle.markdown_base.specs.Events.{same_name}
use Rattle.markdown_tokenizer.proofs.Positions.Order.{every-all}
use Rattle.markdown_tokenizer.specs.Text.{Given}
use Rattle.mdconstructs_machines.specs.LineEvents.{ending_of, line_text, lines_in}
use Rattle.mdconstructs_machines.specs.Spans.{event}
use Rattle.mdconstructs_tables.proofs.Rows.Misfits.{none-left}
use Rattle.mdinline_labels.specs.declared.definitions.Definition.{Definition}
use Rattle.mdblock_leaf_blocks.specs.LeafBlocks.{bytes_of}
use Rattle.mdblock_leaf_blocks.specs.LeafEvents.{Chunk, Mark, chunk_span, leaf_marks, span_marks, white}
use Rattle.mdblock_leaf_blocks.specs.LineKinds.{indent}
use Rattle.mdblock_lines.specs.Containers.{Container, Item, Prefix, footnote, item, quote}
use Rattle.mdblock_tables.specs.declared.rows.RowKind.{RowKind}
use Rattle.mdblock_tables.specs.declared.rows.RowKind.TheVariants.{Text, Delimiter}
use Rattle.mdblock_tables.specs.Pieces.{Pieces, leaf, nothing, placed, size_of, span}
use Rattle.mdblock_tables.specs.TablePieces.{row_name, row_within}
use Rattle.mdblock_containers.specs.Prefixes.{columns_of}
use Rattle.mdblock_containers.specs.Rows.{Row, has_none, rest_of}
use Rattle.mdblock_containers.specs.Skeleton.{Frame, Part, Piece, begin_of, begun_all, begun_marks, chunks_of, end_of, ending_marks, enters_of, footnote_marks, going_marks, is_held, joined_pieces, label_marks, last_line, list_name, pieces_of, prefixes_marks, shared}
use Rattle.mdblock_table_marks.specs.TableMarks.{body_marks, head_marks, marks_behind, marks_between, row_marks, row_seats, rows_marks, rows_seats, table_marks}
use Rattle.mdblock_definitions.specs.Definitions.{Place, byte_at, definition_marks, definitions_marks, ending_at, parts_marks, places_in, seats_of}
use Rattle.mdblock_definitions.specs.Definitions as definitions
use Rattle.mdblock_definitions.specs.Blocks.{document_skeleton}
use Rattle.mdblock_definitions.specs.Rows.{rows}
use Rattle.mdblock_definitions.specs.Sections.{Inside, Section, defined, lines, sections, table}
use Rattle.mdblock_definitions.specs.Skeleton.{all_rows, behind_marks, inside_marks, section_marks, sections_marks}
use Rattle.mddocument.proofs.Walks.InnerTexts.{AnySeat, any-seats}
use Rattle.mddocument.proofs.Walks.MarksWalk.{Walk, whites}
use Rattle.mddocument.proofs.Walks.SkeletonWalk.{AreInDefinition, PieceIs, RowAt, goings, of-parts, stretch-is}
use Rattle.mddocument.proofs.Walks.TableWalk.{AreInTable, tables-are}
use Rattle.mddocument_rules.proofs.Walk.{Walks}
use Rattle.mdgfm_tasks.specs.Awaits.{enters}
use Rattle.mdgfm_sections.proofs.Items.{in_items}
use Rattle.mdgfm_sections.proofs.HeldMarks.{IsNoPrefix, IsNoText, Items, Under, Unders, Within, chained-items, chained-under, events_of, item-both, items-both, items-chunk, items-exit, items-mark, items-none, items-span, no-prefix, unders-both, unders-chunk, unders-exit, unders-leaf, unders-mark, unders-none, unders-over, unders-span, unders-white, within-both, within-none, within-span}

module _ (bytes : List ℕ) where
  -- marks of which both is so
  pub record Fine (ms : List Mark) : Type 0 where
    pub items : Items ms
    pub unders : Unders ms

  fine-none : Fine []
  fine-none = record { items = items-none; unders = unders-none }

  fine-both : (xs ys : List Mark) → Fine xs → Fine ys → Fine (xs ++ ys)
  fine-both xs ys h k = record { items = items-both xs ys h.items k.items; unders = unders-both xs ys h.unders k.unders }

  -- a name of neither
  abbrev IsOther : Name → Type 0
  IsOther n = IsNoPrefix n × IsNoText n

  fine-span : (n : Name) (seats : List Seat) (inside : List Mark) → IsOther n → Fine inside → Fine (span_marks bytes n seats inside)
  fine-span n seats inside f h = record { items = items-span bytes n seats inside f.0 h.items; unders = unders-span bytes n seats inside f.1 h.unders }

  fine-enter : (n : Name) (p : Point) → IsOther n → Fine ((event bytes Enter n p, None) ∷ [])
  fine-enter n p f = record { items = items-mark bytes Enter n p f.0; unders = unders-mark bytes Enter n p f.1 }

  fine-exit : (n : Name) (p : Point) → Fine ((event bytes Exit n p, None) ∷ [])
  fine-exit n p = record { items = items-exit bytes n p; unders = unders-exit bytes n p }

  fine-white : (seats : List Seat) → Fine (white bytes seats)
  fine-white seats = fine-span name.SpaceOrTab seats [] (refl, refl) fine-none

  -- and which leave what is around them as it is
  record Good (ms : List Mark) : Type 0 where
    fine : Fine ms
    within : Within bytes ms

  good-walk : Walk bytes Good IsOther AnySeat
  good-walk = record {
    none = record { fine = fine-none; within = within-none bytes };
    both = λ xs ys h k. record { fine = fine-both xs ys h.fine k.fine; within = within-both bytes xs ys h.within k.within };
    over = λ n seats inside f q h. record { fine = fine-span n seats inside f h.fine; within = within-span bytes None n seats inside h.within };
    space = (refl, refl);
    line_ending = (refl, refl);
    blank_ending = (refl, refl);
  }

  -- ---- prefixes
  going-good : (c : Container) (seats : List Seat) → Good (going_marks bytes c seats)
  going-good (quote q) seats = goings good-walk (quote q) seats ((refl, refl), (refl, refl))
  going-good (item i) seats = whites good-walk seats (any-seats seats)
  going-good (footnote f) seats = whites good-walk seats (any-seats seats)

  prefixes-good : (ps : List Prefix) (seats : List Seat) → Good (prefixes_marks bytes ps seats)
  prefixes-good [] seats = good-walk.none
  prefixes-good (p ∷ ps) seats = good-walk.both (going_marks bytes p.container (take p.size seats)) _ (going-good p.container (take p.size seats)) (prefixes-good ps (drop p.size seats))

  -- ---- containers that begin
  unders-walk : Walk bytes Unders IsNoText AnySeat
  unders-walk = record { none = unders-none; both = unders-both; over = λ n seats inside f q h. unders-span bytes n seats inside f h; space = refl; line_ending = refl; blank_ending = refl }

  items-walk : Walk bytes Items IsNoPrefix AnySeat
  items-walk = record { none = items-none; both = items-both; over = λ n seats inside f q h. items-span bytes n seats inside f h; space = refl; line_ending = refl; blank_ending = refl }

  abbrev AreIn : ℕ → List Mark → Type 0
  AreIn d ms = in_items d (events_of ms) ≡ true

  -- white space before marks
  white-before : (d : ℕ) (seats : List Seat) (ys : List Mark) → AreIn d ys → AreIn d (white bytes seats ++ ys)
  white-before d [] ys h = h
  white-before d (s ∷ ss) ys h = h

  -- the prefix of an item, in an item
  prefix-stands : (d : ℕ) (seats : List Seat) (inside : List Mark) → Items inside → AreIn (suc d) (span_marks bytes name.ListItemPrefix seats inside)
  prefix-stands d [] inside k = k.go (suc d)
  prefix-stands d (s ∷ ss) inside k =
      let exit : Mark = (event bytes Exit name.ListItemPrefix (end_after s.end ss), None) in
      and_from (nat_lt 0 (suc d)) (in_items (suc d) (events_of (inside ++ exit ∷ []))) (lt-ltb 0 (suc d) (omega arith))
      (item-both (suc d) inside (exit ∷ []) (k.go (suc d)) (items-exit bytes name.ListItemPrefix (end_after s.end ss)).go)

  begun-stands : (i : Item) (seats : List Seat) (d : ℕ) → AreIn (suc d) (begun_marks bytes (item i) seats)
  begun-stands i seats d =
      let n = indent (bytes_of seats) in
      white-before (suc d) (take n seats) _
      (prefix-stands d (drop n seats) _
      (items-both (leaf_marks bytes name.ListItemValue _) _ (items-span bytes name.ListItemValue _ [] refl items-none)
      (items-both (leaf_marks bytes name.ListItemMarker _) (white bytes _) (items-span bytes name.ListItemMarker _ [] refl items-none) (items-span bytes name.SpaceOrTab _ [] refl items-none))))

  list-other : (i : Item) → IsOther (list_name i)
  list-other i = cond_both (nat_le 1 i.digits) name.ListOrdered name.ListUnordered IsOther (λ e. (refl, refl)) (λ e. (refl, refl))

  begin-items : (i : Item) (place : Point) (seats : List Seat) → Items (enters_of bytes (item i) place ++ begun_marks bytes (item i) seats)
  begin-items i place seats = record { go = λ d. by (i.list == i.line) d }
    where
      one : (d : ℕ) → AreIn (d + 1) (begun_marks bytes (item i) seats)
      one d = let z : suc d ≡ d + 1 = omega arith in subst (λ n. AreIn n (begun_marks bytes (item i) seats)) z (begun-stands i seats d)

      in-list : (n : Name) (d : ℕ) → IsNoPrefix n → same_name n name.ListItem ≡ false → AreIn d (((event bytes Enter n place, None) ∷ (event bytes Enter name.ListItem place, None) ∷ []) ++ begun_marks bytes (item i) seats)
      in-list n d h k =
          and_from (not (enters name.ListItemPrefix (event bytes Enter n place)) || nat_lt 0 d) _ (no-prefix (event bytes Enter n place) d h)
          (subst (λ t. in_items (cond t (d + 1) d) (event bytes Enter name.ListItem place ∷ events_of (begun_marks bytes (item i) seats)) ≡ true) (sym k) (one d))

      by : (b : Bool) (d : ℕ) → AreIn d ((cond b ((event bytes Enter (list_name i) place, None) ∷ []) [] ++ (event bytes Enter name.ListItem place, None) ∷ []) ++ begun_marks bytes (item i) seats)
      by true d = in-list (list_name i) d (list-other i).0 (cond_both (nat_le 1 i.digits) name.ListOrdered name.ListUnordered (λ n. same_name n name.ListItem ≡ false) (λ e. refl) (λ e. refl))
      by false d = one d

  enters-unders : (i : Item) (place : Point) → Unders (enters_of bytes (item i) place)
  enters-unders i place =
      unders-both _ _ (cond_both (i.list == i.line) ((event bytes Enter (list_name i) place, None) ∷ []) [] Unders (λ e. unders-mark bytes Enter (list_name i) place (list-other i).1) (λ e. unders-none)) (unders-mark bytes Enter name.ListItem place refl)

  item-unders : (i : Item) (seats : List Seat) → Unders (begun_marks bytes (item i) seats)
  item-unders i seats =
      let n = indent (bytes_of seats) in
      unders-both (white bytes (take n seats)) _ (unders-white bytes (take n seats))
      (unders-span bytes name.ListItemPrefix (drop n seats) _ refl
      (unders-both _ _ (unders-leaf bytes name.ListItemValue (take i.digits (drop n seats)) refl)
      (unders-both _ _ (unders-leaf bytes name.ListItemMarker (take 1 (drop (n + i.digits) seats)) refl) (unders-white bytes (drop (suc (n + i.digits)) seats)))))

  -- the label of a footnote definition: its text stands in it
  string-fine : (seats : List Seat) → Fine (span_marks bytes name.GfmFootnoteDefinitionLabelString seats (leaf_marks bytes name.Data seats))
  string-fine seats = record {
    items = items-span bytes name.GfmFootnoteDefinitionLabelString seats (leaf_marks bytes name.Data seats) refl (items-span bytes name.Data seats [] refl items-none);
    unders =
        unders-over bytes name.GfmFootnoteDefinitionLabelString seats (leaf_marks bytes name.Data seats) refl (within-span bytes None name.Data seats [] (within-none bytes))
        (λ e. subst (λ ss. Unders (leaf_marks bytes name.Data ss)) (sym e) unders-none);
  }

  fine-leaf : (n : Name) (seats : List Seat) → IsOther n → Fine (leaf_marks bytes n seats)
  fine-leaf n seats f = fine-span n seats [] f fine-none

  label-fine : (label : ℕ) (seats : List Seat) → Fine (label_marks bytes label seats)
  label-fine label seats =
      fine-both _ _ (fine-leaf name.GfmFootnoteDefinitionLabelMarker (take 1 seats) (refl, refl))
      (fine-both _ _ (fine-leaf name.GfmFootnoteDefinitionMarker (take 1 (drop 1 seats)) (refl, refl))
      (fine-both _ _ (string-fine (take label (drop 2 seats))) (fine-leaf name.GfmFootnoteDefinitionLabelMarker (take 1 (drop (label + 2) seats)) (refl, refl))))

  footnote-fine : (label : ℕ) (seats : List Seat) → Fine (footnote_marks bytes label seats)
  footnote-fine label seats =
      fine-span name.GfmFootnoteDefinitionPrefix seats _ (refl, refl)
      (fine-both _ _ (fine-span name.GfmFootnoteDefinitionLabel (take (label + 3) seats) (label_marks bytes label seats) (refl, refl) (label-fine label seats))
      (fine-both _ _ (fine-leaf name.DefinitionMarker (take 1 (drop (label + 3) seats)) (refl, refl)) (fine-white (drop (label + 4) seats))))

  begin-fine : (c : Container) (place : Point) (seats : List Seat) → Fine (enters_of bytes c place ++ begun_marks bytes c seats)
  begin-fine (quote q) place seats = fine-both ((event bytes Enter name.BlockQuote place, None) ∷ []) (begun_marks bytes (quote q) seats) (fine-enter name.BlockQuote place (refl, refl)) (going-good (quote q) seats).fine
  begin-fine (item i) place seats = record {
    items = begin-items i place seats;
    unders = unders-both (enters_of bytes (item i) place) (begun_marks bytes (item i) seats) (enters-unders i place) (item-unders i seats);
  }
  begin-fine (footnote f) place seats =
      fine-both ((event bytes Enter name.GfmFootnoteDefinition place, None) ∷ []) (begun_marks bytes (footnote f) seats) (fine-enter name.GfmFootnoteDefinition place (refl, refl))
      (fine-both (white bytes (take (indent (bytes_of seats)) seats)) (footnote_marks bytes f.label (drop (indent (bytes_of seats)) seats)) (fine-white (take (indent (bytes_of seats)) seats))
      (footnote-fine f.label (drop (indent (bytes_of seats)) seats)))

  begun-fine : (ps : List Prefix) (seats : List Seat) → Fine (begun_all bytes ps seats)
  begun-fine [] seats = fine-none
  begun-fine (p ∷ ps) seats =
      let enters = enters_of bytes p.container (begin_of seats) in
      let begun = begun_marks bytes p.container (take p.size seats) in
      let more = begun_all bytes ps (drop p.size seats) in
      subst Fine (append_assoc enters begun more) (fine-both (enters ++ begun) more (begin-fine p.container (begin_of seats) (take p.size seats)) (begun-fine ps (drop p.size seats)))

  -- ---- pieces
  abbrev BeforeIs : Piece bytes → Type 0
  BeforeIs p = PieceIs bytes Fine p

  of-part : (part : Part) → AllByRecursion BeforeIs (joined_pieces bytes (pieces_of bytes (is_held part) part.first part.more))
  of-part part = stretch-is bytes Fine (λ (row : Row). Unit {0}) (λ row u. (prefixes-good row.went_on row.line).fine) part (every-all (λ (row : Row). Unit {0}) (λ row. tt) (all_rows part))

  chunks-fine : (has_previous : Bool) (ps : List (Piece bytes)) → AllByRecursion BeforeIs ps → Fine (chunks_of bytes has_previous ps)
  chunks-fine has_previous [] h = fine-none
  chunks-fine has_previous (p ∷ ps) h =
      let c : Chunk = record { content = content.Content; has_previous = has_previous; has_next = not (has_none (flat_map (λ (q : Piece bytes). q.seats) ps)) } in
      fine-both p.before (chunk_span bytes (Some c) name.Data p.seats [] ++ chunks_of bytes true ps) h.0
      (fine-both (chunk_span bytes (Some c) name.Data p.seats []) (chunks_of bytes true ps) (record { items = items-chunk bytes c p.seats; unders = unders-chunk bytes c p.seats refl }) (chunks-fine true ps h.1))

  stretch-fine : (ps : List (Piece bytes)) → AllByRecursion BeforeIs ps → Fine (elim ps [ [] ↦ [] | p ∷ ps ↦ chunks_of bytes false (record p { before = [] } ∷ ps) ])
  stretch-fine [] h = fine-none
  stretch-fine (p ∷ ps) h = chunks-fine false (record p { before = [] } ∷ ps) (fine-none, h.1)

  behind-fine : (columns : ℕ) (ps : List (Piece bytes)) → AllByRecursion BeforeIs ps
      → Fine (elim ps [ [] ↦ [] | p ∷ ps ↦ white bytes (take columns p.seats) ++ chunks_of bytes false (record p { before = []; seats = drop columns p.seats } ∷ ps) ])
  behind-fine columns [] h = fine-none
  behind-fine columns (p ∷ ps) h =
      fine-both (white bytes (take columns p.seats)) (chunks_of bytes false (record p { before = []; seats = drop columns p.seats } ∷ ps)) (fine-white (take columns p.seats)) (chunks-fine false (record p { before = []; seats = drop columns p.seats } ∷ ps) (fine-none, h.1))

  -- ---- definitions
  -- between lines are prefixes
  abbrev PlaceGood : Place → Type 0
  PlaceGood (byte_at s) = Unit {0}
  PlaceGood (ending_at ending further marks) = Good marks

  bytes-good : (seats : List Seat) → AllByRecursion PlaceGood (map byte_at seats)
  bytes-good [] = tt
  bytes-good (s ∷ ss) = (tt, bytes-good ss)

  rows-good : (rs : List Row) → AllByRecursion PlaceGood (places_in bytes rs)
  rows-good [] = tt
  rows-good (row ∷ []) = every-append PlaceGood (map byte_at (drop row.columns (line_text row.line))) [] (bytes-good (drop row.columns (line_text row.line))) tt
  rows-good (row ∷ next ∷ more) =
      every-append PlaceGood (map byte_at (drop row.columns (line_text row.line))) (ending_at _ _ _ ∷ places_in bytes (next ∷ more)) (bytes-good (drop row.columns (line_text row.line))) (prefixes-good next.went_on next.line, rows-good (next ∷ more))

  ends-fine : (ps : List Place) → AllByRecursion PlaceGood ps → Fine (flat_map (definitions.ending_marks bytes) ps)
  ends-fine [] h = fine-none
  ends-fine (byte_at s ∷ ps) h = ends-fine ps h.1
  ends-fine (ending_at ending further marks ∷ ps) h =
      fine-both (leaf_marks bytes name.LineEnding ending ++ marks) (flat_map (definitions.ending_marks bytes) ps) (fine-both (leaf_marks bytes name.LineEnding ending) marks (fine-span name.LineEnding ending [] (refl, refl) fine-none) h.0.fine) (ends-fine ps h.1)

  -- no container is asked for, and no virtual byte
  abbrev NoContainer : Container → Type 0
  NoContainer c = ⊥

  abbrev NoSeat : Seat → Type 0
  NoSeat s = ⊥

  module _ (Are : List Mark → Type 0) (At : Seat → Type 0) where
    -- what places have
    abbrev Has : Place → Type 0
    Has (byte_at s) = At s
    Has (ending_at ending further marks) = Are marks

    has-any : ((ms : List Mark) → Good ms → Are ms) → ((s : Seat) → At s) → (ps : List Place) → AllByRecursion PlaceGood ps → AllByRecursion Has ps
    has-any good any [] h = tt
    has-any good any (byte_at s ∷ ps) h = (any s, has-any good any ps h.1)
    has-any good any (ending_at ending further marks ∷ ps) h = (good marks h.0, has-any good any ps h.1)

  -- without virtual bytes
  has-none-at : (ps : List Place) → seats_of ps ≡ [] → AllByRecursion PlaceGood ps → AllByRecursion (Has Unders NoSeat) ps
  has-none-at [] e h = tt
  has-none-at (byte_at s ∷ ps) e h = absurd (cc)
  has-none-at (ending_at ending further marks ∷ ps) e h = (h.0.fine.unders, has-none-at ps (none-left (ending ++ further) (seats_of ps) e).1 h.1)

  no-data : (seats : List Seat) → AllByRecursion NoSeat seats → Unders (leaf_marks bytes name.Data seats)
  no-data [] h = unders-none
  no-data (s ∷ ss) h = absurd h.0

  within-walk : Walk bytes (Within bytes) (λ n. Unit {0}) AnySeat
  within-walk = record { none = within-none bytes; both = within-both bytes; over = λ n seats inside f q h. within-span bytes None n seats inside h; space = tt; line_ending = tt; blank_ending = tt }

  in-definition : (May : Name → Type 0) → May name.DefinitionLabel → May name.DefinitionLabelMarker → May name.DefinitionLabelString → May name.DefinitionMarker → May name.DefinitionDestination → May name.DefinitionDestinationLiteral
      → May name.DefinitionDestinationLiteralMarker → May name.DefinitionDestinationRaw → May name.DefinitionDestinationString → May name.DefinitionTitle → May name.DefinitionTitleMarker → May name.DefinitionTitleString → AreInDefinition May
  in-definition May a b c d e f g h i j k l = record {
    label = a;
    label_marker = b;
    label_string = c;
    marker = d;
    destination = e;
    destination_literal = f;
    destination_literal_marker = g;
    destination_raw = h;
    destination_string = i;
    title = j;
    title_marker = k;
    title_string = l;
  }

  definition-fine : (d : Definition) (ps : List Place) → AllByRecursion PlaceGood ps → Fine (span_marks bytes name.Definition (seats_of ps) (parts_marks bytes d ps))
  definition-fine d ps h = record {
    items =
        items-span bytes name.Definition (seats_of ps) (parts_marks bytes d ps) refl
        (of-parts items-walk NoContainer (λ c b. absurd b) AnySeat (λ seats at. items-span bytes name.Data seats [] refl items-none)
        (in-definition IsNoPrefix refl refl refl refl refl refl refl refl refl refl refl refl) d ps (has-any Items AnySeat (λ ms k. k.fine.items) (λ s. tt) ps h));
    unders =
        unders-over bytes name.Definition (seats_of ps) (parts_marks bytes d ps) refl
        (of-parts within-walk NoContainer (λ c b. absurd b) AnySeat (λ seats at. within-span bytes None name.Data seats [] (within-none bytes))
        (in-definition (λ n. Unit {0}) tt tt tt tt tt tt tt tt tt tt tt tt) d ps (has-any (Within bytes) AnySeat (λ ms k. k.within) (λ s. tt) ps h))
        (λ e.
        of-parts unders-walk NoContainer (λ c b. absurd b) NoSeat no-data (in-definition IsNoText refl refl refl refl refl refl refl refl refl refl refl refl) d ps (has-none-at ps e h));
  }

  definitions-fine : (ds : List Definition) (ps : List Place) → AllByRecursion PlaceGood ps → Fine (definitions_marks bytes ds ps)
  definitions-fine [] ps h = fine-none
  definitions-fine (d ∷ ds) ps h =
      fine-both (definition_marks bytes d ps) _ (definition-fine d (take d.size ps) (every-take PlaceGood d.size ps h))
      (fine-both (flat_map (definitions.ending_marks bytes) (definitions.between d.size (d.size + 1) ps)) _ (ends-fine (definitions.between d.size (d.size + 1) ps) (every-take PlaceGood (d.size + 1 - d.size) (drop d.size ps) (every-drop PlaceGood d.size ps h)))
      (definitions-fine ds (drop (d.size + 1) ps) (every-drop PlaceGood (d.size + 1) ps h)))

  -- ---- tables
  in-table : AreInTable IsNoPrefix
  in-table = record { head = refl; body = refl; row = refl; cell = refl; text = refl; divider = refl; delimiter_row = refl; delimiter_cell = refl; value = refl; marker = refl; filler = refl }

  table-items : (part : Part) → Items (table_marks bytes part)
  table-items part =
      tables-are items-walk AnySeat (λ seats at. items-span bytes name.Data seats [] refl items-none) (record { table = refl; inside = in-table }) part.first part.more
      (every-all _ (λ r. (prefixes-good r.went_on r.line).fine.items) part.more) (every-all (RowAt AnySeat) (λ r. any-seats (line_text r.line)) (all_rows part))

  pieces-within : (ps : Pieces) (ss : List Seat) → Within bytes (placed bytes ps ss)
  pieces-within nothing ss = within-none bytes
  pieces-within (leaf n k more) ss = within-both bytes (leaf_marks bytes n (take k ss)) _ (within-span bytes None n (take k ss) [] (within-none bytes)) (pieces-within more (drop k ss))
  pieces-within (span n within more) ss =
      let k = size_of within in
      within-both bytes (span_marks bytes n (take k ss) (placed bytes within (take k ss))) _ (within-span bytes None n (take k ss) (placed bytes within (take k ss)) (pieces-within within (take k ss))) (pieces-within more (drop k ss))

  -- pieces over nothing are nothing
  placed-none : (ps : Pieces) → placed bytes ps [] ≡ []
  placed-none nothing = refl
  placed-none (leaf n k more) = (λ i. leaf_marks bytes n (take-nil k i) ++ placed bytes more (drop-nil k i)) ∙ placed-none more
  placed-none (span n within more) =
      let k = size_of within in
      (λ i. span_marks bytes n (take-nil k i) (placed bytes within (take-nil k i)) ++ placed bytes more (drop-nil k i)) ∙ (λ i. placed-none within i ++ placed-none more i)

  row-text : (kind : RowKind) → IsNoText (row_name kind)
  row-text Text = refl
  row-text Delimiter = refl

  row-under : (kind : RowKind) (row : Row) → Unders (row_marks bytes kind row)
  row-under kind row =
      let within = row_within kind (rest_of row) in
      let ss = take (size_of within) (row_seats row) in
      unders-both (span_marks bytes (row_name kind) ss (placed bytes within ss)) []
      (unders-over bytes (row_name kind) ss (placed bytes within ss) (row-text kind) (pieces-within within ss) (λ e. subst Unders (sym (ap (placed bytes within) e ∙ placed-none within)) unders-none)) unders-none

  between-under : (row next : Row) → Unders (marks_between bytes row next)
  between-under row next = unders-both (leaf_marks bytes name.LineEnding (ending_of row.line)) _ (unders-leaf bytes name.LineEnding (ending_of row.line) refl) (prefixes-good next.went_on next.line).fine.unders

  rows-behind-under : (row : Row) (more : List Row) → Unders (marks_behind bytes row more)
  rows-behind-under row [] = unders-none
  rows-behind-under row (next ∷ more) = unders-both (marks_between bytes row next) _ (between-under row next) (unders-both (row_marks bytes Text next) _ (row-under Text next) (rows-behind-under next more))

  head-under : (header delimiter : Row) → Unders (head_marks bytes header delimiter)
  head-under header delimiter =
      unders-span bytes name.GfmTableHead (rows_seats (header ∷ delimiter ∷ [])) _ refl
      (unders-both (row_marks bytes Text header) _ (row-under Text header) (unders-both (marks_between bytes header delimiter) (row_marks bytes Delimiter delimiter) (between-under header delimiter) (row-under Delimiter delimiter)))

  body-under : (delimiter : Row) (more : List Row) → Unders (body_marks bytes delimiter more)
  body-under delimiter [] = unders-none
  body-under delimiter (row ∷ more) =
      unders-both (marks_between bytes delimiter row) _ (between-under delimiter row)
      (unders-span bytes name.GfmTableBody (rows_seats (row ∷ more)) _ refl (unders-both (row_marks bytes Text row) (marks_behind bytes row more) (row-under Text row) (rows-behind-under row more)))

  rows-under : (header : Row) (more : List Row) → Unders (rows_marks bytes header more)
  rows-under header [] = row-under Text header
  rows-under header (delimiter ∷ more) =
      unders-span bytes name.GfmTable (rows_seats (header ∷ delimiter ∷ more)) _ refl (unders-both (head_marks bytes header delimiter) (body_marks bytes delimiter more) (head-under header delimiter) (body-under delimiter more))

  -- ---- sections
  inside-fine : (part : Part) (inside : Inside) → Fine (inside_marks bytes part inside)
  inside-fine part (lines true) = behind-fine (indent (rest_of part.first)) (joined_pieces bytes (pieces_of bytes (is_held part) part.first part.more)) (of-part part)
  inside-fine part (lines false) = cond_both part.first.is_blank _ _ Fine (λ e. fine-white _) (λ e. stretch-fine (joined_pieces bytes (pieces_of bytes (is_held part) part.first part.more)) (of-part part))
  inside-fine part (defined ds) = definitions-fine ds (places_in bytes (all_rows part)) (rows-good (all_rows part))
  inside-fine part table = record { items = table-items part; unders = rows-under part.first part.more }

  section-fine : (s : Section) → Fine (section_marks bytes s)
  section-fine s =
      fine-both _ _ (prefixes-good (take (length s.part.stands) s.part.first.went_on) s.part.first.line).fine
      (fine-both _ _ (begun-fine s.part.first.begun (drop (columns_of s.part.first.went_on) s.part.first.line)) (inside-fine s.part s.inside))

  exits-fine : (fs : List Frame) (place : Point) → Fine (map (λ (f : Frame). (event bytes Exit f.name place, None)) fs)
  exits-fine [] place = fine-none
  exits-fine (f ∷ fs) place = fine-both ((event bytes Exit f.name place, None) ∷ []) _ (fine-exit f.name place) (exits-fine fs place)

  ending-fine : (part : Part) → Fine (ending_marks bytes part)
  ending-fine part =
      let n = cond part.first.is_blank name.BlankLineEnding name.LineEnding in
      let seats = ending_of (last_line bytes part) in
      cond_both (is_held part) [] (leaf_marks bytes n seats) Fine (λ e. fine-none)
      (λ e. fine-span n seats [] (cond_both part.first.is_blank name.BlankLineEnding name.LineEnding IsOther (λ b. (refl, refl)) (λ b. (refl, refl))) fine-none)

  behind-all-fine : (part : Part) (ss : List Section) → Fine (behind_marks bytes part ss)
  behind-all-fine part [] = fine-both _ _ (exits-fine (reverse part.frames) (end_of bytes part)) (ending-fine part)
  behind-all-fine part (next ∷ more) =
      fine-both _ _ (exits-fine (reverse (drop (shared part.frames next.part.frames) part.frames)) (end_of bytes part))
      (fine-both _ _ (ending-fine part) (fine-both _ _ (section-fine next) (behind-all-fine next.part more)))

  pub sections-fine : (ss : List Section) → Fine (sections_marks bytes ss)
  sections-fine [] = fine-none
  sections-fine (s ∷ more) = fine-both _ _ (section-fine s) (behind-all-fine s.part more)

-- The skeleton of a document
module _ (g : Given) where
  abbrev all : List Section
  all = sections g.options.constructs (rows g.options.constructs (lines_in (virtual g.tab g.bytes)))

  pub skeleton-under : Walks Under [] (document_skeleton g)
  skeleton-under = chained-under 0 None [] (sections_marks g.bytes all) ((sections-fine g.bytes all).unders.go [])

  pub skeleton-items : in_items 0 (document_skeleton g) ≡ true
  skeleton-items = chained-items 0 None 0 (sections_marks g.bytes all) ∙ (sections-fine g.bytes all).items.go 0
