-- The containers of lines, the spans of parts and the definitions in sections are of constructs that are on.
use Rattle.mddocument_laws.proofs.Prelude.{◌≡◌, ℕ, zero, suc, ◌==◌, List, [], ◌∷◌, ◌++◌, Bool, true, false, cond, Some, None, Option, take, drop, length, map, reverse, and_parts, cond_both, AllByRecursion, flat_map, ◌&&◌, ◌||◌, nat_le, nat_lt, every-append, every-drop, every-reverse, every-take, Constructs, Name, ListOrdered, ListUnordered, Definition, definitions, Line, text_of, begins_with, indent, is_blank_line, is_thematic_break, unindented, Container, Item, Prefix, footnote, footnote_at, goes_on, is_footnote, item, item_at, may_begin_item, quote, quote_size, beginning, columns_of, containers_of, going_on, in_place_of, with_list, Before, Row, is_paragraph, is_raw, nothing_known, Frame, Part, frames_at, frames_of, further, going_on_at, left_in, list_at, list_begun, list_name, parts_in, standing, Known, known_after, row_of, rows, rows_from, Inside, Section, before_defined, begins_text, defined, defined_in, defining, in_same, lines, lines_defined, paragraph_of, sections, sections_in, sections_of, text_in, undefined}
use Rattle.std.proofs.Common.{subst, sym}
use Rattle.std.specs.List.{prefix_len}
use Rattle.mdblock_lines.specs.Containers.{begins}
use Rattle.mdblock_containers.specs.Rows.{is_table}
use Rattle.mdblock_containers.specs.Rows as without
use Rattle.mdblock_containers.specs.Skeleton.{parts}
use Rattle.mdblock_definitions.proofs.CutAlike.{undefined-is}
use Rattle.mdblock_definitions.proofs.FilledTexts.{table-on}
use Rattle.mdblock_definitions.proofs.TableCutting.{cuts-are}
use Rattle.mdblock_definitions.specs.Sections.{cut, is_in_table, sections_of_cut, table}
use Rattle.mdblock_table_marks.specs.TableCuts.{cut_at_tables}
use Rattle.mddocument_laws.proofs.PlainNames.{stands_bare}

-- constructs of containers, definitions and tables that are on are on in others too
pub record AreStillOn (on other : Constructs) : Type 0 where
  pub quotes : on.block_quote ≡ true → other.block_quote ≡ true
  pub items : on.list_item ≡ true → other.list_item ≡ true
  pub definitions : on.definition ≡ true → other.definition ≡ true
  pub tables : on.gfm_table ≡ true → other.gfm_table ≡ true
  pub footnotes : on.gfm_footnote_definition ≡ true → other.gfm_footnote_definition ≡ true

pub own : (on : Constructs) → AreStillOn on on
own on = record { quotes = λ h. h; items = λ h. h; definitions = λ h. h; tables = λ h. h; footnotes = λ h. h }

module _ (other : Constructs) where
  abbrev May : Name → Type 0
  May n = stands_bare other n ≡ true

  -- ---- containers
  abbrev pub IsOn : Container → Type 0
  IsOn (quote q) = other.block_quote ≡ true
  IsOn (item i) = other.list_item ≡ true
  IsOn (footnote f) = other.gfm_footnote_definition ≡ true

  abbrev pub AreOn : List Container → Type 0
  AreOn cs = AllByRecursion IsOn cs

  abbrev pub PrefixesAreOn : List Prefix → Type 0
  PrefixesAreOn ps = AllByRecursion (λ (p : Prefix). IsOn p.container) ps

  abbrev IfOn : Option Prefix → Type 0
  IfOn None = Unit {0}
  IfOn (Some p) = IsOn p.container

  go-on : (cs : List Container) (number : ℕ) (t : List ℕ) → AreOn cs → PrefixesAreOn (going_on cs number t)
  go-on [] number t h = tt
  go-on (c ∷ cs) number t h = by (λ n. go-on cs number (drop n t) h.1) (goes_on c number t)
    where
      by : ((n : ℕ) → PrefixesAreOn (going_on cs number (drop n t))) → (o : Option ℕ) → PrefixesAreOn (elim o [ None ↦ [] | Some n ↦ record { container = c; size = n } ∷ going_on cs number (drop n t) ])
      by more None = tt
      by more (Some n) = (h.0, more n)

  in-place : (c new : Container) → IsOn new → IsOn (in_place_of c new)
  in-place (quote q) new h = h
  in-place (footnote f) new h = h
  in-place (item old) (quote q) h = h
  in-place (item old) (footnote f) h = h
  in-place (item old) (item new) h = h

  listed-on : (ended : List Container) (ps : List Prefix) → PrefixesAreOn ps → PrefixesAreOn (with_list ended ps)
  listed-on [] ps h = h
  listed-on (c ∷ cs) [] h = h
  listed-on (c ∷ cs) (p ∷ ps) h = (in-place c p.container h.0, h.1)

  containers-on : (ps : List Prefix) → PrefixesAreOn ps → AreOn (containers_of ps)
  containers-on [] h = tt
  containers-on (p ∷ ps) h = (h.0, containers-on ps h.1)

  -- ---- lines
  pub record RowIsOn (row : Row) : Type 0 where
    pub went_on : PrefixesAreOn row.went_on
    pub begun : PrefixesAreOn row.begun
    pub table : is_table row.leaf ≡ true → other.gfm_table ≡ true

  abbrev pub RowsAreOn : List Row → Type 0
  RowsAreOn rows = AllByRecursion RowIsOn rows

  module _ (on : Constructs) (still : AreStillOn on other) where
    begin-on : (number : ℕ) (in_paragraph : Bool) (t : List ℕ) → IfOn (begins on number in_paragraph t)
    begin-on number in_paragraph t =
        let r = unindented t in
        cond_both ((on.code_indented && nat_le 4 (indent t)) || (is_blank_line t || (on.thematic_break && is_thematic_break r))) None
        (cond (on.block_quote && begins_with 62 r) (Some (record { container = quote (record { line = number; is_near = on.code_indented }); size = quote_size t })) (cond (on.gfm_footnote_definition && is_footnote r) (Some (footnote_at number t)) (cond (on.list_item && may_begin_item in_paragraph r) (Some (item_at number t)) None))) IfOn (λ e. tt)
        (λ e. cond_both (on.block_quote && begins_with 62 r) (Some (record { container = quote (record { line = number; is_near = on.code_indented }); size = quote_size t })) (cond (on.gfm_footnote_definition && is_footnote r) (Some (footnote_at number t)) (cond (on.list_item && may_begin_item in_paragraph r) (Some (item_at number t)) None)) IfOn
        (λ q. still.quotes (and_parts on.block_quote (begins_with 62 r) q).0)
        (λ q. cond_both (on.gfm_footnote_definition && is_footnote r) (Some (footnote_at number t)) (cond (on.list_item && may_begin_item in_paragraph r) (Some (item_at number t)) None) IfOn
        (λ f. still.footnotes (and_parts on.gfm_footnote_definition (is_footnote r) f).0)
        (λ f. cond_both (on.list_item && may_begin_item in_paragraph r) (Some (item_at number t)) None IfOn (λ i. still.items (and_parts on.list_item (may_begin_item in_paragraph r) i).0) (λ i. tt))))

    all-begin-on : (bound number : ℕ) (in_paragraph : Bool) (t : List ℕ) → PrefixesAreOn (beginning on bound number in_paragraph t)
    all-begin-on zero number in_paragraph t = tt
    all-begin-on (suc bound) number in_paragraph t = by (λ p. all-begin-on bound number false (drop p.size t)) (begins on number in_paragraph t) (begin-on number in_paragraph t)
      where
        by : ((p : Prefix) → PrefixesAreOn (beginning on bound number false (drop p.size t))) → (o : Option Prefix) → IfOn o
            → PrefixesAreOn (elim o [ None ↦ [] | Some p ↦ p ∷ beginning on bound number false (drop p.size t) ])
        by more None h = tt
        by more (Some p) h = (h, more p)

    row-on : (k : Known) (number : ℕ) (line : Line) → AreOn k.before.stack → RowIsOn (row_of on k number line)
    row-on k number line h =
        let b = k.before in
        let went_on = going_on (take b.depth b.stack) number (text_of line) in
        let all_go_on = length went_on == b.depth in
        let r = drop (columns_of went_on) (text_of line) in
        let begun = beginning on (length r) number (all_go_on && is_paragraph b.leaf) r in
        record {
          went_on = go-on (take b.depth b.stack) number (text_of line) (every-take IsOn b.depth b.stack h);
          begun =
              cond_both (all_go_on && is_raw b.leaf) [] (with_list (drop (length went_on) b.stack) begun) PrefixesAreOn (λ e. tt)
              (λ e. listed-on (drop (length went_on) b.stack) begun (all-begin-on (length r) number (all_go_on && is_paragraph b.leaf) r));
          table = λ is. still.tables (table-on on k number line is);
        }

    known-on : (b : Before) (row : Row) → AreOn b.stack → RowIsOn row → AreOn (without.known_after on b row).stack
    known-on b row h r =
        let all = containers_of row.went_on ++ containers_of row.begun in
        let are = every-append IsOn (containers_of row.went_on) (containers_of row.begun) (containers-on row.went_on r.went_on) (containers-on row.begun r.begun) in
        cond_both row.is_left_blank _ _ (λ (x : Before). AreOn x.stack) (λ e. h) (λ e. cond_both row.is_lazy _ _ (λ (x : Before). AreOn x.stack) (λ e. h) (λ e. are))

    rows-from-on : (k : Known) (number : ℕ) (lines : List Line) → AreOn k.before.stack → RowsAreOn (rows_from on k number lines)
    rows-from-on k number [] h = tt
    rows-from-on k number (line ∷ more) h =
        let row = row_of on k number line in
        let is = row-on k number line h in
        (is, rows-from-on (known_after on k row) (suc number) more (known-on k.before row h is))

    pub rows-on : (all : List Line) → RowsAreOn (rows on all)
    rows-on all = rows-from-on (record { before = nothing_known on; text = [] }) 1 all tt

  -- ---- spans of containers
  abbrev pub FramesAreOn : List Frame → Type 0
  FramesAreOn fs = AllByRecursion (λ (f : Frame). May f.name) fs

  pub list-on : (i : Item) → other.list_item ≡ true → May (list_name i)
  list-on i h = cond_both (nat_le 1 i.digits) ListOrdered ListUnordered May (λ e. h) (λ e. h)

  frames-of-on : (c : Container) → IsOn c → FramesAreOn (frames_of c)
  frames-of-on (quote q) h = (h, tt)
  frames-of-on (footnote f) h = (h, tt)
  frames-of-on (item i) h = (list-on i h, (h, tt))

  frames-on : (cs : List Container) → AreOn cs → FramesAreOn (flat_map frames_of cs)
  frames-on [] h = tt
  frames-on (c ∷ cs) h = every-append (λ (f : Frame). May f.name) (frames_of c) (flat_map frames_of cs) (frames-of-on c h.0) (frames-on cs h.1)

  list-begun-on : (ps : List Prefix) → PrefixesAreOn ps → FramesAreOn (list_begun ps)
  list-begun-on [] h = tt
  list-begun-on (p ∷ ps) h = by p.container h.0
    where
      by : (c : Container) → IsOn c → FramesAreOn (elim c [ quote q ↦ [] | item i ↦ cond (nat_lt i.list i.line) (record { name = list_name i; line = i.list } ∷ []) [] | footnote f ↦ [] ])
      by (quote q) h = tt
      by (footnote f) h = tt
      by (item i) h = cond_both (nat_lt i.list i.line) (record { name = list_name i; line = i.list } ∷ []) [] FramesAreOn (λ e. (list-on i h, tt)) (λ e. tt)

  list-at-on : (behind : List Row) → RowsAreOn behind → FramesAreOn (list_at behind)
  list-at-on [] h = tt
  list-at-on (row ∷ behind) h = cond_both row.is_left_blank (list_at behind) (list_begun row.begun) FramesAreOn (λ e. list-at-on behind h.1) (λ e. list-begun-on row.begun h.0.begun)

  left-on : (many number : ℕ) (cs : List Container) → AreOn cs → AreOn (left_in many number cs)
  left-on many number [] h = tt
  left-on many number (quote q ∷ cs) h = h
  left-on many number (footnote f ∷ cs) h = cond_both (nat_le many (length cs) && nat_lt f.line number) (left_in many number cs) (footnote f ∷ cs) AreOn (λ e. left-on many number cs h.1) (λ e. h)
  left-on many number (item i ∷ cs) h = cond_both (nat_le many (length cs) && nat_lt i.line number) (left_in many number cs) (item i ∷ cs) AreOn (λ e. left-on many number cs h.1) (λ e. h)

  standing-on : (row : Row) (behind : List Row) → RowIsOn row → AreOn (standing row behind)
  standing-on row behind h =
      let all = containers_of row.went_on ++ containers_of row.begun in
      let are = every-append IsOn (containers_of row.went_on) (containers_of row.begun) (containers-on row.went_on h.went_on) (containers-on row.begun h.begun) in
      let left = left_in (going_on_at behind) row.number (reverse all) in
      cond_both row.is_blank (reverse left) all AreOn (λ e. every-reverse IsOn left (left-on (going_on_at behind) row.number (reverse all) (every-reverse IsOn all are))) (λ e. are)

  frames-at-on : (row : Row) (behind : List Row) → RowIsOn row → RowsAreOn behind → FramesAreOn (frames_at row behind)
  frames-at-on row behind h k =
      let stands = standing row behind in
      let c = row.is_left_blank && (length stands == going_on_at behind) in
      every-append (λ (f : Frame). May f.name) (flat_map frames_of stands) (cond c (list_at behind) []) (frames-on stands (standing-on row behind h))
      (cond_both c (list_at behind) [] FramesAreOn (λ e. list-at-on behind k) (λ e. tt))

  -- ---- parts
  pub record PartIsOn (part : Part) : Type 0 where
    pub first : RowIsOn part.first
    pub more : RowsAreOn part.more
    pub frames : FramesAreOn part.frames

  parts-on : (bound : ℕ) (all : List Row) → RowsAreOn all → AllByRecursion PartIsOn (parts_in bound all)
  parts-on zero all h = tt
  parts-on (suc bound) [] h = tt
  parts-on (suc bound) (row ∷ behind) h =
      let n = cond row.is_blank 0 (further behind) in
      (record { first = h.0; more = every-take RowIsOn n behind h.1; frames = frames-at-on row behind h.0 h.1 }, parts-on bound (drop n behind) (every-drop RowIsOn n behind h.1))

  -- ---- sections
  abbrev pub InsideIsOn : Inside → Type 0
  InsideIsOn (lines is_behind) = Unit {0}
  InsideIsOn (defined ds) = other.definition ≡ true
  InsideIsOn table = other.gfm_table ≡ true

  pub record SectionIsOn (s : Section) : Type 0 where
    pub part : PartIsOn s.part
    pub inside : InsideIsOn s.inside

  abbrev pub SectionsAreOn : List Section → Type 0
  SectionsAreOn ss = AllByRecursion SectionIsOn ss

  in-same-on : (around : Part) (ps : List Part) → FramesAreOn around.frames → AllByRecursion PartIsOn ps → AllByRecursion PartIsOn (map (in_same around) ps)
  in-same-on around [] f h = tt
  in-same-on around (p ∷ ps) f h = (record { first = h.0.first; more = h.0.more; frames = f }, in-same-on around ps f h.1)

  plain-on : (ps : List Part) → AllByRecursion PartIsOn ps → SectionsAreOn (map (λ p. record { part = p; inside = lines false }) ps)
  plain-on [] h = tt
  plain-on (p ∷ ps) h = (record { part = h.0; inside = tt }, plain-on ps h.1)

  sections-of-on : (is_behind : Bool) (ps : List Part) → AllByRecursion PartIsOn ps → SectionsAreOn (sections_of is_behind ps)
  sections-of-on is_behind [] h = tt
  sections-of-on is_behind (p ∷ ps) h = (record { part = h.0; inside = tt }, plain-on ps h.1)

  undefined-on : (is_behind : Bool) (around : Part) (all : List Row) → FramesAreOn around.frames → RowsAreOn all → SectionsAreOn (undefined is_behind around all)
  undefined-on is_behind around all f h =
      subst SectionsAreOn (sym (undefined-is is_behind around all))
      (sections-of-on (is_behind && begins_text all) (map (in_same around) (parts all)) (in-same-on around (parts all) f (parts-on (length all) all h)))

  defining-on : (ds : List Definition) (around : Part) (all : List Row) → FramesAreOn around.frames → RowsAreOn all → other.definition ≡ true → SectionsAreOn (defining ds around all)
  defining-on ds around [] f h d = tt
  defining-on ds around (row ∷ more) f h d = (record { part = record { first = h.0; more = h.1; frames = f }; inside = d }, tt)

  -- definitions have lines only if they are on
  module _ (on : Constructs) (still : AreStillOn on other) where
    defined-on : (ds : List Definition) (around : Part) (all : List Row) → FramesAreOn around.frames → RowsAreOn all → SectionsAreOn (defining ds around (take (defined_in on all) all))
    defined-on ds around all f h =
        let n = lines_defined (text_in (paragraph_of all)) in
        cond_both on.definition n 0 (λ d. SectionsAreOn (defining ds around (take d all))) (λ e. defining-on ds around (take n all) f (every-take RowIsOn n all h) (still.definitions e)) (λ e. tt)

    sections-in-on : (bound : ℕ) (is_behind : Bool) (around : Part) (all : List Row) → FramesAreOn around.frames → RowsAreOn all → SectionsAreOn (sections_in on bound is_behind around all)
    sections-in-on zero is_behind around all f h = tt
    sections-in-on (suc bound) is_behind around [] f h = tt
    sections-in-on (suc bound) is_behind around (row ∷ more) f h =
        let all = row ∷ more in
        let n = before_defined on false all in
        let behind = drop n all in
        let d = defined_in on behind in
        let ds = definitions (text_in (paragraph_of behind)) in
        let k = every-drop RowIsOn n all h in
        every-append SectionIsOn (undefined is_behind around (take n all)) (defining ds around (take d behind) ++ sections_in on bound true around (drop d behind)) (undefined-on is_behind around (take n all) f (every-take RowIsOn n all h))
        (every-append SectionIsOn (defining ds around (take d behind)) (sections_in on bound true around (drop d behind)) (defined-on ds around behind f k) (sections-in-on bound true around (drop d behind) f (every-drop RowIsOn d behind k)))

    cuts-on : (bound : ℕ) (around : Part) (all : List Row) → FramesAreOn around.frames → RowsAreOn all → SectionsAreOn (flat_map (sections_of_cut on around) (cut_at_tables is_in_table bound all))
    cuts-on bound around all f h =
        cuts-are on around SectionIsOn RowsAreOn RowsAreOn (λ n rs k. (sections-in-on (length (take n rs)) false around (take n rs) f (every-take RowIsOn n rs k), every-drop RowIsOn n rs k))
        (λ header r rs k is.
        let n = prefix_len is_in_table rs in
        (record { part = record { first = k.0; more = every-take RowIsOn (suc n) (r ∷ rs) k.1; frames = f }; inside = k.1.0.table is }, every-drop RowIsOn n rs k.1.1))
        bound all h

    cut-on : (part : Part) → PartIsOn part → SectionsAreOn (cut on part)
    cut-on part h =
        cond_both part.first.is_blank (record { part = part; inside = lines false } ∷ []) (flat_map (sections_of_cut on part) (cut_at_tables is_in_table (suc (length part.more)) (part.first ∷ part.more))) SectionsAreOn
        (λ e. (record { part = h; inside = tt }, tt)) (λ e. cuts-on (suc (length part.more)) part (part.first ∷ part.more) h.frames (h.first, h.more))

    all-cut : (ps : List Part) → AllByRecursion PartIsOn ps → SectionsAreOn (flat_map (cut on) ps)
    all-cut [] h = tt
    all-cut (p ∷ ps) h = every-append SectionIsOn (cut on p) (flat_map (cut on) ps) (cut-on p h.0) (all-cut ps h.1)

    pub sections-on : (all : List Row) → RowsAreOn all → SectionsAreOn (sections on all)
    sections-on all h = all-cut (parts all) (parts-on (length all) all h)
