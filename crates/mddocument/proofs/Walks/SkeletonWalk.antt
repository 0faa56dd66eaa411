-- What lists of marks have, if lists of spans with such names have it, and data, chunks and tables: the marks of containers, of definitions and of sections have it.
use Rattle.std.proofs.Common.{ℕ, ◌+◌, ◌-◌, ◌==◌, List, [], ◌∷◌, ◌++◌, Bool, true, false, cond, Some, None, Option, arith, subst, sym, take, drop, length, map, reverse}
use Rattle.std.proofs.lemmas.Bool.{cond_both}
use Rattle.std.proofs.lemmas.List.{drop-take, take-take}
use Rattle.std.proofs.lemmas.List.Sums.{sum_by-cons}
use Rattle.std.specs.List.{AllByRecursion, flat_map, prefix_len}
use Rattle.markdown_base.proofs.Common.{every-append, every-drop, every-reverse, every-take}
use Rattle.markdown_base.specs.declared.event.Kind.TheVariants.{Enter, Exit}
use Rattle.markdown_tokenizer.proofs.Positions.Order.{every-all, every-front}
use Rattle.markdown_base.specs.declared.event.Name.{Name}
use Rattle.markdown_base.specs.declared.event.Point.{Point}
use Rattle.markdown_base.specs.Virtual.{Seat}
use Rattle.mdinline_labels.specs.declared.definitions.Definition.{Definition}
use Rattle.mdinline_labels.specs.declared.definitions.Stretch.{Stretch}
use Rattle.mdinline_labels.specs.Definitions.{end}
use Rattle.mdconstructs_machines.specs.LineEvents.{ending_of, line_text}
use Rattle.mdconstructs_machines.specs.Spans.{event}
use Rattle.mdblock_leaf_blocks.proofs.Lines.WholeLines.{text-behind}
use Rattle.mdblock_leaf_blocks.specs.LeafBlocks.{bytes_of}
use Rattle.mdblock_leaf_blocks.specs.LeafEvents.{Chunk, Mark, chunk_span, leaf_marks, span_marks, white}
use Rattle.mdblock_leaf_blocks.specs.LineKinds.{indent}
use Rattle.mdblock_lines.specs.Containers.{Container, Footnote, Prefix, footnote, item, quote}
use Rattle.mdblock_containers.proofs.PartSpans.{RowFits}
use Rattle.mdblock_containers.specs.Prefixes.{columns_of}
use Rattle.mdblock_containers.specs.Rows.{Row, has_none, rest_of}
use Rattle.mdblock_containers.specs.Skeleton.{Frame, Part, Piece, begin_of, begun_all, begun_marks, chunks_of, end_of, ending_marks, enters_of, exits, going_marks, inside_of, is_held, joined_pieces, label_marks, last_line, list_name, pieces_of, prefixes_marks, shared}
use Rattle.mdblock_table_marks.specs.TableMarks.{table_marks}
use Rattle.mdblock_definitions.specs.Sections.{Inside, Section, defined, lines, table}
use Rattle.mdblock_definitions.specs.Skeleton.{all_rows, behind_definitions, behind_marks, inside_marks, section_marks, sections_marks}
use Rattle.markdown_base.specs.declared.event.Kind.{Kind}
use Rattle.markdown_base.specs.declared.event.Name.TheVariants as name
use Rattle.mdinline_labels.specs.Definitions.{end_of as end_of_title}
use Rattle.mdinline_labels.specs.Tails.{begins_with}
use Rattle.mdblock_definitions.specs.Definitions.{Place, StringLine, before_prefixes, byte_at, definitions_marks, destination_marks, ending_at, further_line, gap_marks, is_byte, last_prefixes, line_marks, marked, places_in, places_of, seats_of, string, string_lines, text_of}
use Rattle.mdblock_definitions.specs.Definitions as definitions
use Rattle.mdblock_definitions.proofs.StringEnds.{every-before, every-last}
use Rattle.mddocument.proofs.Walks.InnerTexts.{AnySeat, any-seats}
use Rattle.mddocument.proofs.Walks.MarksWalk.{Walk, leafs, whites}

-- ---- the names that spans of a skeleton have

-- what definitions are made of
abbrev pub definition_names : List Name
definition_names =
    name.DefinitionLabel ∷ name.DefinitionLabelMarker ∷ name.DefinitionLabelString ∷ name.DefinitionMarker ∷ name.DefinitionDestination ∷ name.DefinitionDestinationLiteral ∷ name.DefinitionDestinationLiteralMarker
    ∷ name.DefinitionDestinationRaw ∷ name.DefinitionDestinationString ∷ name.DefinitionTitle ∷ name.DefinitionTitleMarker ∷ name.DefinitionTitleString ∷ []

module _ (May : Name → Type 0) where
  -- the names of a container's prefix
  abbrev pub MayPrefix : Container → Type 0
  MayPrefix (quote q) = May name.BlockQuotePrefix × May name.BlockQuoteMarker
  MayPrefix (item i) = May name.ListItemPrefix × May name.ListItemValue × May name.ListItemMarker
  MayPrefix (footnote f) =
      May name.GfmFootnoteDefinitionPrefix × May name.GfmFootnoteDefinitionLabel × May name.GfmFootnoteDefinitionLabelMarker × May name.GfmFootnoteDefinitionMarker × May name.GfmFootnoteDefinitionLabelString × May name.DefinitionMarker

  abbrev pub MayHold : Container → Type 0
  MayHold (quote q) = May name.BlockQuote × May name.BlockQuotePrefix × May name.BlockQuoteMarker
  MayHold (item i) = May (list_name i) × May name.ListItem × May name.ListItemPrefix × May name.ListItemValue × May name.ListItemMarker
  MayHold (footnote f) = May name.GfmFootnoteDefinition × MayPrefix (footnote f)

  pub prefix-may : (c : Container) → MayHold c → MayPrefix c
  prefix-may (quote q) m = (m.1, m.2)
  prefix-may (item i) m = (m.2, m.3, m.4)
  prefix-may (footnote f) m = m.1

  abbrev pub PrefixesMay : List Prefix → Type 0
  PrefixesMay ps = AllByRecursion (λ (p : Prefix). MayHold p.container) ps

  abbrev pub RowsMay : List Row → Type 0
  RowsMay rs = AllByRecursion (λ (r : Row). PrefixesMay r.went_on) rs

  abbrev pub FramesMay : List Frame → Type 0
  FramesMay fs = AllByRecursion (λ (f : Frame). May f.name) fs

  pub record PartMay (part : Part) : Type 0 where
    pub rows : RowsMay (all_rows part)
    pub begun : PrefixesMay part.first.begun
    pub frames : FramesMay part.frames

  -- the names of what definitions are made of, and of definitions
  pub record AreInDefinition : Type 0 where
    pub label : May name.DefinitionLabel
    pub label_marker : May name.DefinitionLabelMarker
    pub label_string : May name.DefinitionLabelString
    pub marker : May name.DefinitionMarker
    pub destination : May name.DefinitionDestination
    pub destination_literal : May name.DefinitionDestinationLiteral
    pub destination_literal_marker : May name.DefinitionDestinationLiteralMarker
    pub destination_raw : May name.DefinitionDestinationRaw
    pub destination_string : May name.DefinitionDestinationString
    pub title : May name.DefinitionTitle
    pub title_marker : May name.DefinitionTitleMarker
    pub title_string : May name.DefinitionTitleString

  pub record AreOfDefinition : Type 0 where
    pub definition : May name.Definition
    pub inside : AreInDefinition

  pub are-in-definition : AllByRecursion May definition_names → AreInDefinition
  are-in-definition (a, (b, (c, (d, (e, (f, (g, (h, (i, (j, (k, (l, _)))))))))))) = record {
    label = a;
    label_marker = b;
    label_string = c;
    marker = d;
    destination = e;
    destination_literal = f;
    destination_literal_marker = g;
    destination_raw = h;
    destination_string = i;
    title = j;
    title_marker = k;
    title_string = l;
  }

-- the virtual bytes of the text of a line
abbrev pub RowAt : (Seat → Type 0) → Row → Type 0
RowAt At row = AllByRecursion At (line_text row.line)

-- the virtual bytes of the prefixes with which containers begin in a line
abbrev pub BegunAt : (Seat → Type 0) → Row → Type 0
BegunAt At row = AllByRecursion At (take (columns_of row.begun) (drop (columns_of row.went_on) row.line))

-- they are of the text of the line
pub begun-in-text : (At : Seat → Type 0) (row : Row) → RowFits row → RowAt At row → BegunAt At row
begun-in-text At row fits at =
    let a = columns_of row.went_on in
    let b = columns_of row.begun in
    let front = every-front At (take (a + b) row.line) (line_text (drop (a + b) row.line)) (subst (AllByRecursion At) (sym (text-behind (a + b) row.line fits.line.whole fits.within)) at) in
    subst (AllByRecursion At) (drop-take a b row.line) (every-drop At a (take (a + b) row.line) front)

-- ---- nothing is said of virtual bytes, nor of containers
pub any-begun : (row : Row) → BegunAt AnySeat row
any-begun row = any-seats (take (columns_of row.begun) (drop (columns_of row.went_on) row.line))

pub any-texts : (rs : List Row) → AllByRecursion (RowAt AnySeat) rs
any-texts rs = every-all (RowAt AnySeat) (λ r. any-seats (line_text r.line)) rs

abbrev pub AnyContainer : Container → Type 0
AnyContainer c = Unit {0}

abbrev pub AnyPrefixes : List Prefix → Type 0
AnyPrefixes ps = AllByRecursion (λ (p : Prefix). AnyContainer p.container) ps

pub any-prefixes : (ps : List Prefix) → AnyPrefixes ps
any-prefixes ps = every-all (λ (p : Prefix). AnyContainer p.container) (λ p. tt) ps

pub any-rows : (rs : List Row) → AllByRecursion (λ (r : Row). AnyPrefixes r.went_on) rs
any-rows rs = every-all (λ (r : Row). AnyPrefixes r.went_on) (λ r. any-prefixes r.went_on) rs

-- where containers begin and where definitions are, there are such virtual bytes alone; and this is said of tables
module _ (May : Name → Type 0) (At : Seat → Type 0) (Table : Part → Type 0) where
  abbrev pub InsideMay : Part → Inside → Type 0
  InsideMay part (lines is_behind) = Unit {0}
  InsideMay part table = Table part
  InsideMay part (defined ds) = AreOfDefinition May × AllByRecursion (RowAt At) (all_rows part)

  pub record SectionMay (s : Section) : Type 0 where
    pub part : PartMay May s.part
    pub begun : BegunAt At s.part.first
    pub inside : InsideMay s.part s.inside

-- Lists of marks that spans of such names, over any virtual bytes, and lists one behind another keep
module _ {bytes : List ℕ} {Are : List Mark → Type 0} {May : Name → Type 0} (w : Walk bytes Are May AnySeat) where
  over : (n : Name) (seats : List Seat) {inside : List Mark} → May n → Are inside → Are (span_marks bytes n seats inside)
  over n seats {inside} m h = w.over n seats inside m (any-seats seats) h

  bare : (n : Name) (seats : List Seat) → May n → Are (leaf_marks bytes n seats)
  bare n seats m = leafs w n seats m (any-seats seats)

  spaces : (seats : List Seat) → Are (white bytes seats)
  spaces seats = whites w seats (any-seats seats)

  -- ---- prefixes
  pub goings : (c : Container) (seats : List Seat) → MayPrefix May c → Are (going_marks bytes c seats)
  goings (quote q) seats m = w.both _ _ (spaces _) (over name.BlockQuotePrefix _ m.0 (w.both _ _ (bare name.BlockQuoteMarker _ m.1) (spaces _)))
  goings (item i) seats m = spaces seats
  goings (footnote f) seats m = spaces seats

  -- where data is at such virtual bytes, as that of the labels of footnote definitions
  module _ (At : Seat → Type 0) (some-data : (seats : List Seat) → AllByRecursion At seats → Are (leaf_marks bytes name.Data seats)) where
    labels : (f : Footnote) (seats : List Seat) → MayPrefix May (footnote f) → AllByRecursion At seats → Are (label_marks bytes f.label seats)
    labels f seats m at =
        let string = take f.label (drop 2 seats) in
        w.both _ _ (bare name.GfmFootnoteDefinitionLabelMarker _ m.2)
        (w.both _ _ (bare name.GfmFootnoteDefinitionMarker _ m.3)
        (w.both _ _ (over name.GfmFootnoteDefinitionLabelString string m.4 (some-data string (every-take At f.label (drop 2 seats) (every-drop At 2 seats at)))) (bare name.GfmFootnoteDefinitionLabelMarker _ m.2)))

    pub begins : (c : Container) (seats : List Seat) → MayPrefix May c → AllByRecursion At seats → Are (begun_marks bytes c seats)
    begins (quote q) seats m at = goings (quote q) seats m
    begins (item i) seats m at = w.both _ _ (spaces _) (over name.ListItemPrefix _ m.0 (w.both _ _ (bare name.ListItemValue _ m.1) (w.both _ _ (bare name.ListItemMarker _ m.2) (spaces _))))
    begins (footnote f) seats m at =
        let behind = drop (indent (bytes_of seats)) seats in
        w.both _ _ (spaces _)
        (over name.GfmFootnoteDefinitionPrefix behind m.0
        (w.both _ _ (over name.GfmFootnoteDefinitionLabel _ m.1 (labels f behind m (every-drop At (indent (bytes_of seats)) seats at))) (w.both _ _ (bare name.DefinitionMarker _ m.5) (spaces _))))

  -- where containers that are so have such names in their prefixes
  module _ (Goes : Container → Type 0) (goes : (c : Container) → Goes c → MayPrefix May c) where
    abbrev pub AllGo : List Prefix → Type 0
    AllGo ps = AllByRecursion (λ (p : Prefix). Goes p.container) ps

    pub prefixes : (ps : List Prefix) (seats : List Seat) → AllGo ps → Are (prefixes_marks bytes ps seats)
    prefixes [] seats m = w.none
    prefixes (p ∷ ps) seats m = w.both _ _ (goings p.container (take p.size seats) (goes p.container m.0)) (prefixes ps (drop p.size seats) m.1)

    -- definitions, where data is at such virtual bytes
    module _ (At : Seat → Type 0) (some-data : (seats : List Seat) → AllByRecursion At seats → Are (leaf_marks bytes name.Data seats)) where
      abbrev pub PlaceIs : Place → Type 0
      PlaceIs (byte_at s) = At s
      PlaceIs (ending_at ending further marks) = Are marks

      abbrev pub PlacesAre : List Place → Type 0
      PlacesAre places = AllByRecursion PlaceIs places

      bytes-are : (seats : List Seat) → AllByRecursion At seats → PlacesAre (map byte_at seats)
      bytes-are [] i = tt
      bytes-are (s ∷ ss) i = (i.0, bytes-are ss i.1)

      row-bytes : (row : Row) → RowAt At row → PlacesAre (map byte_at (drop row.columns (line_text row.line)))
      row-bytes row i = bytes-are (drop row.columns (line_text row.line)) (every-drop At row.columns (line_text row.line) i)

      pub places : (rs : List Row) → AllByRecursion (λ (r : Row). AllGo r.went_on) rs → AllByRecursion (RowAt At) rs → PlacesAre (places_in bytes rs)
      places [] m h = tt
      places (row ∷ []) m h = every-append PlaceIs (map byte_at (drop row.columns (line_text row.line))) [] (row-bytes row h.0) tt
      places (row ∷ next ∷ more) m h =
          every-append PlaceIs (map byte_at (drop row.columns (line_text row.line))) (ending_at _ _ _ ∷ places_in bytes (next ∷ more)) (row-bytes row h.0) (prefixes next.went_on next.line m.1.0, places (next ∷ more) m.1 h.1)

      pub some-places : (from to : ℕ) (ps : List Place) → PlacesAre ps → PlacesAre (definitions.between from to ps)
      some-places from to ps h = every-take PlaceIs (to - from) (drop from ps) (every-drop PlaceIs from ps h)

      pub endings : (ps : List Place) → PlacesAre ps → Are (flat_map (definitions.ending_marks bytes) ps)
      endings [] h = w.none
      endings (byte_at s ∷ ps) h = w.both _ _ w.none (endings ps h.1)
      endings (ending_at ending further marks ∷ ps) h = w.both _ _ (w.both _ _ (bare name.LineEnding ending w.line_ending) h.0) (endings ps h.1)

      gaps : (ps : List Place) → PlacesAre ps → Are (gap_marks bytes ps)
      gaps ps h = let n = prefix_len is_byte ps in w.both _ _ (spaces (seats_of (take n ps))) (w.both _ _ (endings (take 1 (drop n ps)) (every-take PlaceIs 1 (drop n ps) (every-drop PlaceIs n ps h))) (spaces (seats_of (drop (n + 1) ps))))

      pub record LineIs (line : StringLine) : Type 0 where
        seats : AllByRecursion At line.seats
        behind : PlacesAre line.behind

      pub string-lines-are : (ps : List Place) → PlacesAre ps → AllByRecursion LineIs (string_lines ps)
      string-lines-are [] h = tt
      string-lines-are (ending_at ending further marks ∷ ps) h = (record { seats = tt; behind = (h.0, tt) }, string-lines-are ps h.1)
      string-lines-are (byte_at s ∷ ps) h = by (string_lines ps) (string-lines-are ps h.1)
        where
          by : (ls : List StringLine) → AllByRecursion LineIs ls → AllByRecursion LineIs (elim ls [ [] ↦ record { seats = s ∷ []; behind = [] } ∷ [] | line ∷ more ↦ record line { seats = s ∷ line.seats } ∷ more ])
          by [] k = (record { seats = (h.0, tt); behind = tt }, tt)
          by (line ∷ ls) k = (record { seats = (h.0, k.0.seats); behind = k.0.behind }, k.1)

      further : (seats : List Seat) → AllByRecursion At seats → Are (further_line bytes seats)
      further seats i = w.both _ _ (spaces (take (indent (bytes_of seats)) seats)) (some-data (drop (indent (bytes_of seats)) seats) (every-drop At (indent (bytes_of seats)) seats i))

      pub of-lines : (is_first : Bool) (ls : List StringLine) → AllByRecursion LineIs ls → Are (line_marks bytes is_first ls)
      of-lines is_first [] h = w.none
      of-lines is_first (line ∷ ls) h =
          w.both _ _ (cond_both is_first (leaf_marks bytes name.Data line.seats) (further_line bytes line.seats) Are (λ e. some-data line.seats h.0.seats) (λ e. further line.seats h.0.seats)) (w.both _ _ (endings line.behind h.0.behind) (of-lines false ls h.1))

      strings : (n : Name) (ps : List Place) → May n → PlacesAre ps → Are (string bytes n ps)
      strings n ps other h =
          let inside = before_prefixes ps in
          w.both _ _ (over n (seats_of inside) other (of-lines true (string_lines inside) (string-lines-are inside (every-before PlaceIs (λ ending further marks k. w.none) ps h))))
          (endings (last_prefixes ps) (every-last PlaceIs (λ ending further marks k. k) ps h))

      marked-are : (sign inside : Name) (ps : List Place) → May sign → May inside → PlacesAre ps → Are (marked bytes sign inside ps)
      marked-are sign inside ps m i h =
          let last = length ps - 1 in
          w.both _ _ (bare sign (seats_of (definitions.between 0 1 ps)) m) (w.both _ _ (strings inside (definitions.between 1 last ps) i (some-places 1 last ps h)) (bare sign (seats_of (drop last ps)) m))

      -- where what definitions are made of has such names
      module _ (d : AreInDefinition May) where
        destinations : (ps : List Place) → PlacesAre ps → Are (destination_marks bytes ps)
        destinations ps h =
            let c = begins_with 60 (text_of ps) in
            over name.DefinitionDestination (seats_of ps) d.destination
            (cond_both c (definitions.span bytes name.DefinitionDestinationLiteral ps (marked bytes name.DefinitionDestinationLiteralMarker name.DefinitionDestinationString ps))
            (definitions.span bytes name.DefinitionDestinationRaw ps (string bytes name.DefinitionDestinationString ps)) Are
            (λ e. over name.DefinitionDestinationLiteral (seats_of ps) d.destination_literal (marked-are name.DefinitionDestinationLiteralMarker name.DefinitionDestinationString ps d.destination_literal_marker d.destination_string h))
            (λ e. over name.DefinitionDestinationRaw (seats_of ps) d.destination_raw (strings name.DefinitionDestinationString ps d.destination_string h)))

        titles : (q : Definition) (ps : List Place) → PlacesAre ps → (title : Option Stretch)
            → Are (elim title [
              | None ↦ []
              | Some t ↦
                  gap_marks bytes (definitions.between (end q.destination) t.from ps)
                  ++ definitions.span bytes name.DefinitionTitle (places_of t ps) (marked bytes name.DefinitionTitleMarker name.DefinitionTitleString (places_of t ps))
            ])
        titles q ps h None = w.none
        titles q ps h (Some t) =
            w.both _ _ (gaps (definitions.between (end q.destination) t.from ps) (some-places (end q.destination) t.from ps h))
            (over name.DefinitionTitle (seats_of (places_of t ps)) d.title (marked-are name.DefinitionTitleMarker name.DefinitionTitleString (places_of t ps) d.title_marker d.title_string (some-places t.from (end t) ps h)))

        pub of-parts : (q : Definition) (ps : List Place) → PlacesAre ps → Are (definitions.parts_marks bytes q ps)
        of-parts q ps h =
            let label = places_of q.label ps in
            w.both _ _ (gaps (definitions.between 0 q.label.from ps) (some-places 0 q.label.from ps h))
            (w.both _ _ (over name.DefinitionLabel (seats_of label) d.label (marked-are name.DefinitionLabelMarker name.DefinitionLabelString label d.label_marker d.label_string (some-places q.label.from (end q.label) ps h)))
            (w.both _ _ (bare name.DefinitionMarker (seats_of (definitions.between (end q.label) (end q.label + 1) ps)) d.marker)
            (w.both _ _ (gaps (definitions.between (end q.label + 1) q.destination.from ps) (some-places (end q.label + 1) q.destination.from ps h))
            (w.both _ _ (destinations (places_of q.destination ps) (some-places q.destination.from (end q.destination) ps h))
            (w.both _ _ (titles q ps h q.title)
            (gaps (definitions.between (end_of_title q.title q.destination) q.size ps) (some-places (end_of_title q.title q.destination) q.size ps h)))))))

        -- definitions, each by its span
        pub definitions-are : (All : List Mark → Type 0) → All [] → ((xs ys : List Mark) → All xs → All ys → All (xs ++ ys)) → ((ms : List Mark) → Are ms → All ms)
            → ((seats : List Seat) (inside : List Mark) → Are inside → All (span_marks bytes name.Definition seats inside)) → (ds : List Definition) (ps : List Place) → PlacesAre ps → All (definitions_marks bytes ds ps)
        definitions-are All none both any one [] ps h = none
        definitions-are All none both any one (q ∷ ds) ps h =
            both _ _ (one (seats_of (take q.size ps)) _ (of-parts q (take q.size ps) (every-take PlaceIs q.size ps h)))
            (both _ _ (any _ (endings (definitions.between q.size (q.size + 1) ps) (some-places q.size (q.size + 1) ps h)))
            (definitions-are All none both any one ds (drop (q.size + 1) ps) (every-drop PlaceIs (q.size + 1) ps h)))

-- What is in front of the pieces of a stretch
module _ (bytes : List ℕ) (Are : List Mark → Type 0) where
  abbrev pub PieceIs : Piece bytes → Type 0
  PieceIs p = Are p.before

  joins : (ps : List (Piece bytes)) → AllByRecursion PieceIs ps → AllByRecursion PieceIs (joined_pieces bytes ps)
  joins [] h = tt
  joins (p ∷ []) h = h
  joins (p ∷ q ∷ ps) h = by (joined_pieces bytes (q ∷ ps)) (joins (q ∷ ps) h.1)
    where
      by : (rs : List (Piece bytes)) → AllByRecursion PieceIs rs
          → AllByRecursion PieceIs (elim rs [ [] ↦ p ∷ [] | r ∷ rs ↦ cond (has_none r.before) (record p { seats = p.seats ++ r.seats } ∷ rs) (p ∷ r ∷ rs) ])
      by [] k = (h.0, tt)
      by (r ∷ rs) k = cond_both (has_none r.before) (record p { seats = p.seats ++ r.seats } ∷ rs) (p ∷ r ∷ rs) (AllByRecursion PieceIs) (λ e. (h.0, k.1)) (λ e. (h.0, k))

  pub stretch-is : (Goes : Row → Type 0) → ((row : Row) → Goes row → Are (prefixes_marks bytes row.went_on row.line)) → (part : Part) → AllByRecursion Goes (all_rows part)
      → AllByRecursion PieceIs (joined_pieces bytes (pieces_of bytes (is_held part) part.first part.more))
  stretch-is Goes goes part all = joins (pieces_of bytes (is_held part) part.first part.more) (pieces (is_held part) part.first part.more all)
    where
      pieces : (held : Bool) (row : Row) (more : List Row) → AllByRecursion Goes (row ∷ more) → AllByRecursion PieceIs (pieces_of bytes held row more)
      pieces held row [] m = (goes row m.0, tt)
      pieces held row (next ∷ more) m = (goes row m.0, pieces held next more m.1)

-- Lists of marks, where data is at such virtual bytes, and chunks anywhere
module _ (bytes : List ℕ) (Are : List Mark → Type 0) (May : Name → Type 0) (w : Walk bytes Are May AnySeat)
    (mark : (k : Kind) (n : Name) (place : Point) → May n → Are ((event bytes k n place, None) ∷ [])) (At : Seat → Type 0) (some-data : (seats : List Seat) → AllByRecursion At seats → Are (leaf_marks bytes name.Data seats))
    (chunk : (c : Chunk) (seats : List Seat) → Are (chunk_span bytes (Some c) name.Data seats [])) (Table : Part → Type 0) (tables : (part : Part) → PartMay May part → Table part → Are (table_marks bytes part)) where
  held : (ps : List Prefix) (seats : List Seat) → PrefixesMay May ps → Are (prefixes_marks bytes ps seats)
  held ps seats m = prefixes w (MayHold May) (prefix-may May) ps seats m

  enters : (c : Container) (place : Point) → MayHold May c → Are (enters_of bytes c place)
  enters (quote q) place m = mark Enter name.BlockQuote place m.0
  enters (item i) place m =
      w.both _ _ (cond_both (i.list == i.line) ((event bytes Enter (list_name i) place, None) ∷ []) [] Are (λ e. mark Enter (list_name i) place m.0) (λ e. w.none)) (mark Enter name.ListItem place m.1)
  enters (footnote f) place m = mark Enter name.GfmFootnoteDefinition place m.0

  all-begun : (ps : List Prefix) (seats : List Seat) → PrefixesMay May ps → AllByRecursion At (take (columns_of ps) seats) → Are (begun_all bytes ps seats)
  all-begun [] seats m at = w.none
  all-begun (p ∷ ps) seats m at =
      let all = subst (λ n. AllByRecursion At (take n seats)) (sum_by-cons (λ (q : Prefix). q.size) p ps) at in
      let here = subst (AllByRecursion At) (take-take p.size (p.size + columns_of ps) seats (omega arith)) (every-take At p.size (take (p.size + columns_of ps) seats) all) in
      let rest = subst (AllByRecursion At) (drop-take p.size (columns_of ps) seats) (every-drop At p.size (take (p.size + columns_of ps) seats) all) in
      w.both _ _ (enters p.container (begin_of seats) m.0) (w.both _ _ (begins w At some-data p.container (take p.size seats) (prefix-may May p.container m.0) here) (all-begun ps (drop p.size seats) m.1 rest))

  -- ---- what is in a section
  stretch : (part : Part) → PartMay May part → AllByRecursion (PieceIs bytes Are) (joined_pieces bytes (pieces_of bytes (is_held part) part.first part.more))
  stretch part m = stretch-is bytes Are (λ (row : Row). PrefixesMay May row.went_on) (λ row h. held row.went_on row.line h) part m.rows

  chunks : (has_previous : Bool) (ps : List (Piece bytes)) → AllByRecursion (PieceIs bytes Are) ps → Are (chunks_of bytes has_previous ps)
  chunks has_previous [] h = w.none
  chunks has_previous (p ∷ ps) h = w.both _ _ h.0 (w.both _ _ (chunk _ p.seats) (chunks true ps h.1))

  insides : (part : Part) → PartMay May part → Are (inside_of bytes part)
  insides part m = cond_both part.first.is_blank _ _ Are (λ e. spaces w _) (λ e. by (joined_pieces bytes (pieces_of bytes (is_held part) part.first part.more)) (stretch part m))
    where
      by : (ps : List (Piece bytes)) → AllByRecursion (PieceIs bytes Are) ps → Are (elim ps [ [] ↦ [] | p ∷ ps ↦ chunks_of bytes false (record p { before = [] } ∷ ps) ])
      by [] k = w.none
      by (p ∷ ps) k = chunks false (record p { before = [] } ∷ ps) (w.none, k.1)

  behind-defined : (part : Part) → PartMay May part → Are (behind_definitions bytes part)
  behind-defined part m = by (joined_pieces bytes (pieces_of bytes (is_held part) part.first part.more)) (stretch part m)
    where
      by : (ps : List (Piece bytes)) → AllByRecursion (PieceIs bytes Are) ps
          → Are (elim ps [ [] ↦ [] | p ∷ ps ↦ white bytes (take (indent (rest_of part.first)) p.seats) ++ chunks_of bytes false (record p { before = []; seats = drop (indent (rest_of part.first)) p.seats } ∷ ps) ])
      by [] k = w.none
      by (p ∷ ps) k = w.both _ _ (spaces w (take (indent (rest_of part.first)) p.seats)) (chunks false (record p { before = []; seats = drop (indent (rest_of part.first)) p.seats } ∷ ps) (w.none, k.1))

  -- ---- sections
  in-section : (part : Part) → PartMay May part → (inside : Inside) → InsideMay May At Table part inside → Are (inside_marks bytes part inside)
  in-section part m table i = tables part m i
  in-section part m (lines is_behind) i = cond_both is_behind (behind_definitions bytes part) (inside_of bytes part) Are (λ b. behind-defined part m) (λ b. insides part m)
  in-section part m (defined ds) i =
      definitions-are w (MayHold May) (prefix-may May) At some-data i.0.inside Are w.none w.both (λ ms h. h) (λ seats inside h. over w name.Definition seats i.0.definition h) ds (places_in bytes (all_rows part))
      (places w (MayHold May) (prefix-may May) At some-data (all_rows part) m.rows i.1)

  of-section : (s : Section) → SectionMay May At Table s → Are (section_marks bytes s)
  of-section s m =
      let first = s.part.first in
      let n = length s.part.stands in
      w.both _ _ (held (take n first.went_on) first.line (every-take (λ (p : Prefix). MayHold May p.container) n first.went_on m.part.rows.0))
      (w.both _ _ (all-begun first.begun (drop (columns_of first.went_on) first.line) m.part.begun m.begun) (in-section s.part m.part s.inside m.inside))

  exit-marks : (fs : List Frame) (place : Point) → FramesMay May fs → Are (map (λ (f : Frame). (event bytes Exit f.name place, None)) fs)
  exit-marks [] place m = w.none
  exit-marks (f ∷ fs) place m = w.both _ _ (mark Exit f.name place m.0) (exit-marks fs place m.1)

  all-exit : (fs : List Frame) (place : Point) → FramesMay May fs → Are (exits bytes fs place)
  all-exit fs place m = exit-marks (reverse fs) place (every-reverse (λ (f : Frame). May f.name) fs m)

  ends : (part : Part) → Are (ending_marks bytes part)
  ends part =
      cond_both (is_held part) [] _ Are (λ e. w.none)
      (λ e. bare w (cond part.first.is_blank name.BlankLineEnding name.LineEnding) (ending_of (last_line bytes part)) (cond_both part.first.is_blank name.BlankLineEnding name.LineEnding May (λ b. w.blank_ending) (λ b. w.line_ending)))

  behind : (part : Part) (ss : List Section) → FramesMay May part.frames → AllByRecursion (SectionMay May At Table) ss → Are (behind_marks bytes part ss)
  behind part [] fs m = w.both _ _ (all-exit part.frames (end_of bytes part) fs) (ends part)
  behind part (next ∷ more) fs m =
      let n = shared part.frames next.part.frames in
      w.both _ _ (all-exit (drop n part.frames) (end_of bytes part) (every-drop (λ (f : Frame). May f.name) n part.frames fs)) (w.both _ _ (ends part) (w.both _ _ (of-section next m.0) (behind next.part more m.0.part.frames m.1)))

  -- The marks of sections have it
  pub sections-are : (ss : List Section) → AllByRecursion (SectionMay May At Table) ss → Are (sections_marks bytes ss)
  sections-are [] m = w.none
  sections-are (s ∷ more) m = w.both _ _ (of-section s m.0) (behind s.part more m.0.part.frames m.1)
