-- The marks of a document's skeleton are those of its parts, where the second go on with no stretch of lines.
use Rattle.std.proofs.Common.{Bool, List, [], ap, append_assoc, arith, cond, drop, false, length, length-append, length-drop, nat_le, nat_lt, refl, subst, suc, sym, take, true, zero, ℕ, ◌&&◌, ◌++◌, ◌+◌, ◌<◌, ◌==◌, ◌||◌, ◌∙◌, ◌∷◌, ◌≡◌, ◌≤◌}
use Rattle.std.proofs.Math.Bool.{and-false}
use Rattle.std.proofs.lemmas.Bool.{cond_both, eqb-true, le-ltb}
use Rattle.std.proofs.lemmas.Grind.{flat_map-append}
use Rattle.std.proofs.lemmas.List.{append-nil, drop-append-le, reverse-append, take-append-le}
use Rattle.std.specs.List.{AllByRecursion, flat_map}
use Rattle.std.specs.Prelude.{None, Option, Some, map, reverse}
use Rattle.markdown_base.proofs.Common.{and-right, every-append, every-drop, every-take}
use Rattle.markdown_base.proofs.Facts.Bools.{and-left}
use Rattle.markdown_base.specs.Events.{same_name}
use Rattle.markdown_base.specs.Virtual.{virtual}
use Rattle.markdown_base.specs.declared.configuration.Constructs.{Constructs}
use Rattle.mdconstructs_machines.specs.LineEvents.{lines_in}
use Rattle.mdinline_labels.specs.Definitions.{definitions}
use Rattle.mdinline_labels.specs.declared.definitions.Definition.{Definition}
use Rattle.mdblock_leaf_blocks.specs.LeafBlocks.{Line, text_of}
use Rattle.mdblock_leaf_blocks.specs.LineKinds.{begins_with, indent, is_blank_line, is_thematic_break, unindented}
use Rattle.mdblock_lines.specs.Containers.{Container, digits, first_byte, footnote, footnote_at, goes_on, is_footnote, Item, item, item_at, may_begin_item, padding, Prefix, quote, quote_size}
use Rattle.mdblock_containers.proofs.OpenFrames.{none_in}
use Rattle.mdblock_containers.proofs.RestLemmas.{further_few, parts_bound}
use Rattle.mdblock_containers.specs.Prefixes.{beginning, columns_of, containers_of, going_on, in_place_of, with_list}
use Rattle.mdblock_containers.specs.Rows.{Before, Row, closed, is_paragraph, is_raw}
use Rattle.mdblock_containers.specs.Skeleton.{Frame, Part, end_of, ending_marks, exits, frames_at, frames_of, further, going_on_at, left_in, list_at, list_begun, list_name, parts, parts_in, shared, standing}
use Rattle.mdblock_definitions.specs.BlankLines as blank_lines
use Rattle.mdblock_definitions.specs.Rows.{Known, known_after, row_of, rows, rows_from}
use Rattle.mdblock_definitions.specs.Sections.{Section, before_defined, begins_text, cut, defined_in, defining, in_same, lines, paragraph_of, sections, sections_in, sections_of, sections_of_cut, tabled, text_in, undefined}
use Rattle.mdblock_table_marks.specs.TableCuts.{Cut}
use Rattle.mddocument_parts.proofs.CutsJoined.{cuts}
use Rattle.mdblock_definitions.specs.Skeleton.{behind_marks, section_marks, sections_marks}
use Rattle.mddocument_parts.proofs.DocumentBytes.{counted, document-rows-of-both}
use Rattle.mddocument_parts.proofs.DocumentRests.{anew-same, begins-anew, first-row, is-not-blank, new, not-left}
use Rattle.mddocument_parts.proofs.MovedBlocks.{text-moved}
use Rattle.mddocument_parts.proofs.MovedSections.{sections-move}
use Rattle.mddocument_parts.proofs.SectionRows.{further-cut}
use Rattle.mddocument_parts.specs.DocumentRests.{first_at_document_rest, first_stays, goes_on_behind, known_at_start, known_behind, moved_row}
use Rattle.mddocument_parts.specs.Moved.{begins_line, line_endings, moved_line}
use Rattle.mddocument_parts.specs.MovedSections.{MarksOfBoth, SectionsOfBoth, moved_frame, moved_section}

-- ==== The numbers of lines in the spans of a document: those of its own lines.
module _ (P : ℕ → Type 0) where
  -- the lines of a container are such
  abbrev pub NumbersOf : Container → Type 0
  NumbersOf (quote q) = P q.line
  NumbersOf (item i) = P i.line × P i.list
  NumbersOf (footnote f) = P f.line

  abbrev All : List Container → Type 0
  All cs = AllByRecursion NumbersOf cs

  abbrev AllIn : List Prefix → Type 0
  AllIn ps = AllByRecursion (λ (p : Prefix). NumbersOf p.container) ps

  abbrev pub FrameIs : Frame → Type 0
  FrameIs f = P f.line

  abbrev pub RowIs : Row → Type 0
  RowIs row = AllIn row.went_on × AllIn row.begun

  turned : (cs : List Container) → All cs → All (reverse cs)
  turned [] h = tt
  turned (c ∷ cs) h = subst All (sym (reverse-append (c ∷ []) cs)) (every-append NumbersOf (reverse cs) (c ∷ []) (turned cs h.1) (h.0, tt))

  -- ---- rows
  goes : (cs : List Container) (number : ℕ) (t : List ℕ) → All cs → AllIn (going_on cs number t)
  goes [] number t h = tt
  goes (c ∷ cs) number t h = by (λ n. goes cs number (drop n t) h.1) (goes_on c number t)
    where
      by : ((n : ℕ) → AllIn (going_on cs number (drop n t))) → (o : Option ℕ) → AllIn (elim o [ None ↦ [] | Some n ↦ record { container = c; size = n } ∷ going_on cs number (drop n t) ])
      by more None = tt
      by more (Some n) = (h.0, more n)

  begin : (on : Constructs) (bound number : ℕ) (p : Bool) (t : List ℕ) → P number → AllIn (beginning on bound number p t)
  begin on zero number p t h = tt
  begin on (suc bound) number p t h =
      by (λ n. begin on bound number false (drop n t) h) ((on.code_indented && nat_le 4 (indent t)) || (is_blank_line t || (on.thematic_break && is_thematic_break (unindented t)))) (on.block_quote && begins_with 62 (unindented t))
      (on.gfm_footnote_definition && is_footnote (unindented t)) (on.list_item && may_begin_item p (unindented t))
    where
      by : ((n : ℕ) → AllIn (beginning on bound number false (drop n t))) → (b c f d : Bool)
          → AllIn (elim (cond b None (cond c (Some (record { container = quote (record { line = number; is_near = on.code_indented }); size = quote_size t })) (cond f (Some (footnote_at number t)) (cond d (Some (item_at number t)) None)))) [ None ↦ [] | Some p ↦ p ∷ beginning on bound number false (drop p.size t) ])
      by more true c f d = tt
      by more false true f d = (h, more (quote_size t))
      by more false false true d = (h, more (footnote_at number t).size)
      by more false false false true = ((h, h), more (item_at number t).size)
      by more false false false false = tt

  placed : (old new : Container) → NumbersOf old → NumbersOf new → NumbersOf (in_place_of old new)
  placed (quote q) _ h k = k
  placed (footnote f) _ h k = k
  placed (item old) (quote q) h k = k
  placed (item old) (footnote f) h k = k
  placed (item old) (item i) h k = by (old.marker == i.marker)
    where
      by : (b : Bool) → NumbersOf (item (cond b (record i { list = old.list }) i))
      by true = (k.0, h.1)
      by false = k

  listed : (ended : List Container) (ps : List Prefix) → All ended → AllIn ps → AllIn (with_list ended ps)
  listed [] ps h k = k
  listed (c ∷ cs) [] h k = tt
  listed (c ∷ cs) (p ∷ ps) h k = (placed c p.container h.0 k.0, k.1)

  contained : (ps : List Prefix) → AllIn ps → All (containers_of ps)
  contained [] h = tt
  contained (p ∷ ps) h = (h.0, contained ps h.1)

  row-is : (on : Constructs) (k : Known) (number : ℕ) (line : Line) → P number → All k.before.stack → RowIs (row_of on k number line)
  row-is on k number line p h =
      let b = k.before in
      let went = going_on (take b.depth b.stack) number (text_of line) in
      let rest = drop (columns_of went) (text_of line) in
      let all = length went == b.depth in
      let begun = beginning on (length rest) number (all && is_paragraph b.leaf) rest in (
        goes (take b.depth b.stack) number (text_of line) (every-take NumbersOf b.depth b.stack h),
        either (all && is_raw b.leaf) (with_list (drop (length went) b.stack) begun) (listed (drop (length went) b.stack) begun (every-drop NumbersOf (length went) b.stack h) (begin on (length rest) number (all && is_paragraph b.leaf) rest p)),
      )
    where
      either : (c : Bool) (ps : List Prefix) → AllIn ps → AllIn (cond c [] ps)
      either true ps m = tt
      either false ps m = m

  known-is : (on : Constructs) (k : Known) (row : Row) → RowIs row → All k.before.stack → All (known_after on k row).before.stack
  known-is on k row r h = by row.is_left_blank row.is_lazy
    where
      all : List Container
      all = containers_of row.went_on ++ containers_of row.begun

      by : (left lazy : Bool) → All (let b : Before = cond left (record k.before { depth = length row.went_on; leaf = closed }) (cond lazy (record k.before { leaf = row.leaf }) (record { stack = containers_of row.went_on ++ containers_of row.begun; depth = length (containers_of row.went_on ++ containers_of row.begun); leaf = row.leaf })) in b).stack
      by true lazy = h
      by false true = h
      by false false = every-append NumbersOf (containers_of row.went_on) (containers_of row.begun) (contained row.went_on r.0) (contained row.begun r.1)

  pub rows-are : (on : Constructs) (k : Known) (number : ℕ) (ls : List Line) → ((m : ℕ) → number ≤ m → m < number + length ls → P m) → All k.before.stack → AllByRecursion RowIs (rows_from on k number ls)
  rows-are on k number [] p h = tt
  rows-are on k number (line ∷ ls) p h =
      let row = row_of on k number line in
      let here = row-is on k number line (p number (omega arith) (omega arith)) h in
      (here, rows-are on (known_after on k row) (suc number) ls (λ m l u. p m (omega (arith, l)) (omega (arith, u))) (known-is on k row here h))

  -- ---- frames
  left-is : (many number : ℕ) (cs : List Container) → All cs → All (left_in many number cs)
  left-is many number [] h = tt
  left-is many number (quote q ∷ cs) h = h
  left-is many number (item i ∷ cs) h = cond_both (nat_le many (length cs) && nat_lt i.line number) (left_in many number cs) (item i ∷ cs) All (λ e. left-is many number cs h.1) (λ e. h)
  left-is many number (footnote f ∷ cs) h = cond_both (nat_le many (length cs) && nat_lt f.line number) (left_in many number cs) (footnote f ∷ cs) All (λ e. left-is many number cs h.1) (λ e. h)

  standing-is : (row : Row) (behind : List Row) → RowIs row → All (standing row behind)
  standing-is row behind h =
      let all = containers_of row.went_on ++ containers_of row.begun in
      let every = every-append NumbersOf (containers_of row.went_on) (containers_of row.begun) (contained row.went_on h.0) (contained row.begun h.1) in
      by row.is_blank all every (turned (left_in (going_on_at behind) row.number (reverse all)) (left-is (going_on_at behind) row.number (reverse all) (turned all every)))
    where
      by : (b : Bool) (all : List Container) → All all → All (reverse (left_in (going_on_at behind) row.number (reverse all))) → All (cond b (reverse (left_in (going_on_at behind) row.number (reverse all))) all)
      by true all m k = k
      by false all m k = m

  frames-of : (cs : List Container) → All cs → AllByRecursion FrameIs (flat_map frames_of cs)
  frames-of [] h = tt
  frames-of (quote q ∷ cs) h = (h.0, frames-of cs h.1)
  frames-of (footnote f ∷ cs) h = (h.0, frames-of cs h.1)
  frames-of (item i ∷ cs) h = (h.0.1, (h.0.0, frames-of cs h.1))

  begun-is : (ps : List Prefix) → AllIn ps → AllByRecursion FrameIs (list_begun ps)
  begun-is [] h = tt
  begun-is (p ∷ ps) h = by p.container h.0
    where
      by : (c : Container) → NumbersOf c → AllByRecursion FrameIs (list_begun ((let q : Prefix = record { container = c; size = 0 } in q) ∷ []))
      by (quote q) m = tt
      by (footnote f) m = tt
      by (item i) m = two (nat_lt i.list i.line)
        where
          two : (b : Bool) → AllByRecursion FrameIs (cond b ((let f : Frame = record { name = list_name i; line = i.list } in f) ∷ []) [])
          two true = (m.1, tt)
          two false = tt

  list-is : (rows : List Row) → AllByRecursion RowIs rows → AllByRecursion FrameIs (list_at rows)
  list-is [] h = tt
  list-is (row ∷ rows) h = by row.is_left_blank (list-is rows h.1) (begun-is row.begun h.0.1)
    where
      by : (b : Bool) → AllByRecursion FrameIs (list_at rows) → AllByRecursion FrameIs (list_begun row.begun) → AllByRecursion FrameIs (cond b (list_at rows) (list_begun row.begun))
      by true m k = m
      by false m k = k

  frames-are : (row : Row) (behind : List Row) → RowIs row → AllByRecursion RowIs behind → AllByRecursion FrameIs (frames_at row behind)
  frames-are row behind h k =
      let stands = standing row behind in
      every-append FrameIs (flat_map frames_of stands) (cond (row.is_left_blank && (length stands == going_on_at behind)) (list_at behind) []) (frames-of stands (standing-is row behind h)) (by (row.is_left_blank && (length stands == going_on_at behind)) (list-is behind k))
    where
      by : (b : Bool) → AllByRecursion FrameIs (list_at behind) → AllByRecursion FrameIs (cond b (list_at behind) [])
      by true m = m
      by false m = tt

  abbrev pub PartIs : Part → Type 0
  PartIs part = AllByRecursion FrameIs part.frames

  abbrev pub SectionIs : Section → Type 0
  SectionIs s = PartIs s.part

  parts-are : (bound : ℕ) (rows : List Row) → AllByRecursion RowIs rows → AllByRecursion PartIs (parts_in bound rows)
  parts-are zero rows h = tt
  parts-are (suc bound) [] h = tt
  parts-are (suc bound) (row ∷ behind) h = let n = cond row.is_blank 0 (further behind) in (frames-are row behind h.0 h.1, parts-are bound (drop n behind) (every-drop RowIs n behind h.1))

  -- sections are in the spans of their part
  plain-in : (around : Part) → PartIs around → (ps : List Part) → AllByRecursion SectionIs (map (λ p. record { part = p; inside = lines false }) (map (in_same around) ps))
  plain-in around h [] = tt
  plain-in around h (p ∷ ps) = (h, plain-in around h ps)

  several-in : (around : Part) → PartIs around → (b : Bool) (ps : List Part) → AllByRecursion SectionIs (sections_of b (map (in_same around) ps))
  several-in around h b [] = tt
  several-in around h b (p ∷ ps) = (h, plain-in around h ps)

  defining-in : (ds : List Definition) (around : Part) → PartIs around → (rows : List Row) → AllByRecursion SectionIs (defining ds around rows)
  defining-in ds around h [] = tt
  defining-in ds around h (row ∷ rows) = (h, tt)

  cut-in : (on : Constructs) (bound : ℕ) (b : Bool) (around : Part) → PartIs around → (rows : List Row) → AllByRecursion SectionIs (sections_in on bound b around rows)
  cut-in on zero b around h rows = tt
  cut-in on (suc bound) b around h [] = tt
  cut-in on (suc bound) b around h (row ∷ rows) =
      let all = row ∷ rows in
      let n = before_defined on false all in
      let behind = drop n all in
      let d = defined_in on behind in
      let ds = definitions (text_in (paragraph_of behind)) in
      let first = undefined b around (take n all) in
      let middle = defining ds around (take d behind) in
      let last = sections_in on bound true around (drop d behind) in
      every-append SectionIs first (middle ++ last) (several-in around h (b && begins_text (take n all)) (blank_lines.parts (take n all)))
      (every-append SectionIs middle last (defining-in ds around h (take d behind)) (cut-in on bound true around h (drop d behind)))

  tabled-in : (around : Part) → PartIs around → (rows : List Row) → AllByRecursion SectionIs (tabled around rows)
  tabled-in around h [] = tt
  tabled-in around h (row ∷ rows) = (h, tt)

  of-cut-in : (on : Constructs) (around : Part) → PartIs around → (c : Cut) → AllByRecursion SectionIs (sections_of_cut on around c)
  of-cut-in on around h c = by c.is_table
    where
      by : (b : Bool) → AllByRecursion SectionIs (cond b (tabled around c.rows) (sections_in on (length c.rows) false around c.rows))
      by true = tabled-in around h c.rows
      by false = cut-in on (length c.rows) false around h c.rows

  cuts-in : (on : Constructs) (around : Part) → PartIs around → (cs : List Cut) → AllByRecursion SectionIs (flat_map (sections_of_cut on around) cs)
  cuts-in on around h [] = tt
  cuts-in on around h (c ∷ cs) = every-append SectionIs (sections_of_cut on around c) (flat_map (sections_of_cut on around) cs) (of-cut-in on around h c) (cuts-in on around h cs)

  cut-is : (on : Constructs) (part : Part) → PartIs part → AllByRecursion SectionIs (cut on part)
  cut-is on part h = by part.first.is_blank
    where
      by : (b : Bool) → AllByRecursion SectionIs (cond b (record { part = part; inside = lines false } ∷ []) (flat_map (sections_of_cut on part) (cuts (suc (length part.more)) (part.first ∷ part.more))))
      by true = (h, tt)
      by false = cuts-in on part h (cuts (suc (length part.more)) (part.first ∷ part.more))

  all-cut : (on : Constructs) (ps : List Part) → AllByRecursion PartIs ps → AllByRecursion SectionIs (flat_map (cut on) ps)
  all-cut on [] h = tt
  all-cut on (p ∷ ps) h = every-append SectionIs (cut on p) (flat_map (cut on) ps) (cut-is on p h.0) (all-cut on ps h.1)

  -- the spans of sections have such numbers, if the rows have
  pub sections-are : (on : Constructs) (rows : List Row) → AllByRecursion RowIs rows → AllByRecursion SectionIs (sections on rows)
  sections-are on rows h = all-cut on (parts_in (length rows) rows) (parts-are (length rows) rows h)

-- spans of lines before a number, and spans of lines from it on, are not the same
pub shares-none : (n : ℕ) (fs gs : List Frame) → AllByRecursion (FrameIs (λ m. m < n)) fs → AllByRecursion (FrameIs (λ m. n ≤ m)) gs → shared fs gs ≡ 0
shares-none n [] gs h k = refl
shares-none n (f ∷ fs) [] h k = refl
shares-none n (f ∷ fs) (g ∷ gs) h k = ap (λ b. cond (same_name f.name g.name && b) (suc (shared fs gs)) 0) (other (f.line == g.line) refl) ∙ ap (λ b. cond b (suc (shared fs gs)) 0) (and-false (same_name f.name g.name))
  where
    other : (b : Bool) → (f.line == g.line) ≡ b → b ≡ false
    other true e = let same = eqb-true f.line g.line e in let less = h.0 in let more = k.0 in absurd (omega (arith, same, less, more))
    other false e = refl

-- ==== Sections of rows behind others, where the second go on with no stretch of lines before them: those of both.
-- a row with which no container goes on, and no list
pub record GoesOnWithNone (r : Row) : Type 0 where
  pub left : r.is_left_blank ≡ false
  pub none : r.went_on ≡ []
  pub no_list : list_begun r.begun ≡ []

-- a row with which nothing before it goes on
pub record Begins (r : Row) : Type 0 where
  pub outside : GoesOnWithNone r
  pub cut_off : r.stays ≡ false

module _ (r : Row) (rs : List Row) (h : GoesOnWithNone r) where
  abbrev behind : List Row
  behind = r ∷ rs

  going-apart : (x : List Row) → going_on_at (x ++ behind) ≡ going_on_at x
  going-apart [] = (λ i. cond (h.left i) (going_on_at rs) (length (h.none i)))
  going-apart (q ∷ x) = ap (λ n. cond q.is_left_blank n (length q.went_on)) (going-apart x)

  list-apart : (x : List Row) → list_at (x ++ behind) ≡ list_at x
  list-apart [] = (λ i. cond (h.left i) (list_at rs) (h.no_list i))
  list-apart (q ∷ x) = ap (λ fs. cond q.is_left_blank fs (list_begun q.begun)) (list-apart x)

  pub standing-apart : (row : Row) (x : List Row) → standing row (x ++ behind) ≡ standing row x
  standing-apart row x = let all = containers_of row.went_on ++ containers_of row.begun in ap (λ m. cond row.is_blank (reverse (left_in m row.number (reverse all))) all) (going-apart x)

  pub frames-apart : (row : Row) (x : List Row) → frames_at row (x ++ behind) ≡ frames_at row x
  frames-apart row x = (λ i. let stands = standing-apart row x i in flat_map frames_of stands ++ cond (row.is_left_blank && (length stands == going-apart x i)) (list-apart x i) [])

module _ (r : Row) (rs : List Row) (h : Begins r) where
  abbrev y : List Row
  y = r ∷ rs

  stretch-apart : (x : List Row) → further (x ++ y) ≡ further x
  stretch-apart x = further-cut x y (λ i. cond (h.outside.left i) (cond (nat_le 1 (further rs)) (suc (further rs)) 0) (cond (h.cut_off i) (suc (further rs)) 0))

  parts-apart : (c b b2 : ℕ) (x : List Row) → length (x ++ y) ≤ c → length x ≤ b → length y ≤ b2 → parts_in c (x ++ y) ≡ parts_in b x ++ parts_in b2 y
  parts-apart c b b2 [] l m m2 = parts_bound c b2 y l m2 ∙ ap (λ ps. ps ++ parts_in b2 y) (sym (none_in b))
  parts-apart zero b b2 (q ∷ x) l m m2 = absurd (omega (arith, l))
  parts-apart (suc c) zero b2 (q ∷ x) l m m2 = absurd (omega (arith, m))
  parts-apart (suc c) (suc b) b2 (q ∷ x) l m m2 =
      let n = cond q.is_blank 0 (further x) in
      let within = fewer q.is_blank in
      let many = stretch-apart x in
      let size = length-append x y in
      let size2 = length-append (drop n x) y in
      let few = length-drop n x in
      (λ i. let n = cond q.is_blank 0 (many i) in (let p : Part = record { first = q; more = take n (x ++ y); frames = frames-apart r rs h.outside q x i; stands = standing-apart r rs h.outside q x i } in p) ∷ parts_in c (drop n (x ++ y)))
      ∙ (λ i. (let p : Part = record { first = q; more = take-append-le n x y within i; frames = frames_at q x; stands = standing q x } in p) ∷ parts_in c (drop-append-le n x y within i))
      ∙ ap (λ ps. (let p : Part = record { first = q; more = take n x; frames = frames_at q x; stands = standing q x } in p) ∷ ps) (parts-apart c b b2 (drop n x) (omega (arith, l, size, size2, few)) (omega (arith, m, few)) m2)
    where
      fewer : (b : Bool) → cond b 0 (further x) ≤ length x
      fewer true = omega arith
      fewer false = further_few x

  sections-apart : (on : Constructs) (x : List Row) → sections on (x ++ y) ≡ sections on x ++ sections on y
  sections-apart on x = ap (flat_map (cut on)) (parts-apart (length (x ++ y)) (length x) (length y) x (omega arith) (omega arith) (omega arith)) ∙ flat_map-append (cut on) (parts x) (parts y)

-- ---- containers that begin are in no list that was open
-- an item that begins a list goes on with none
own-list : (i : Item) → i.list ≡ i.line → cond (nat_lt i.list i.line) ((let f : Frame = record { name = list_name i; line = i.list } in f) ∷ []) [] ≡ []
own-list i e = ap (λ b. cond b ((let f : Frame = record { name = list_name i; line = i.list } in f) ∷ []) []) (ap (λ k. nat_lt k i.line) e ∙ le-ltb i.line i.line (omega arith))

new-lists : (on : Constructs) (bound number : ℕ) (in_paragraph : Bool) (t : List ℕ) → list_begun (beginning on bound number in_paragraph t) ≡ []
new-lists on zero number in_paragraph t = refl
new-lists on (suc bound) number in_paragraph t =
    by ((on.code_indented && nat_le 4 (indent t)) || (is_blank_line t || (on.thematic_break && is_thematic_break (unindented t)))) (on.block_quote && begins_with 62 (unindented t))
    (on.gfm_footnote_definition && is_footnote (unindented t)) (on.list_item && may_begin_item in_paragraph (unindented t))
  where
    first : Option Prefix → List Frame
    first o = list_begun (elim o [ None ↦ [] | Some p ↦ p ∷ beginning on bound number false (drop p.size t) ])

    by : (b c f d : Bool) → first (cond b None (cond c (Some (record { container = quote (record { line = number; is_near = on.code_indented }); size = quote_size t })) (cond f (Some (footnote_at number t)) (cond d (Some (item_at number t)) None)))) ≡ []
    by true c f d = refl
    by false true f d = refl
    by false false true d = refl
    by false false false true =
        (let n = digits (unindented t) in let after = drop (suc n) (unindented t) in
        own-list (record { line = number; list = number; size = indent t + suc n + padding after; marker = first_byte (drop n (unindented t)); digits = n; is_empty = is_blank_line after }) refl)
    by false false false false = refl

pub sections-of-both : SectionsOfBoth
sections-of-both on t a b rest cut_off =
    let one = lines_in (virtual t a) in
    let two = lines_in (virtual t b) in
    let begins = and-left (begins_line b a) (first_at_document_rest on one two) rest in
    ap (sections on) (document-rows-of-both on t a b rest)
    ∙ ap (λ stays. sections on (rows on one ++ map (moved_row (line_endings a) (length a)) (first_stays stays (rows on two)))) cut_off
    ∙ both (line_endings a) one two (counted t a b begins) (and-right (begins_line b a) (first_at_document_rest on one two) rest) cut_off
  where
    both : (n : ℕ) (before behind : List Line) → n ≡ length before → first_at_document_rest on before behind ≡ true → goes_on_behind on before behind ≡ false
        → sections on (rows on before ++ map (moved_row n (length a)) (first_stays false (rows on behind))) ≡ sections on (rows on before) ++ map (moved_section n (length a)) (sections on (first_stays false (rows on behind)))
    both n before [] e rest off = ap (sections on) (append-nil (rows on before)) ∙ sym (append-nil (sections on (rows on before)))
    both n before (line ∷ behind) e rest off =
        let start = known_at_start on in
        let k = known_behind on start 1 before in
        let m = length before in
        let ml = moved_line m (length a) line in
        let r = row_of on start 1 line in
        let rs = rows_from on (known_after on start r) 2 behind in
        let there = anew-same on k (suc m) ml line (text-moved m (length a) line) ∙ rest in
        let is = begins-anew on (suc m) ml k there in
        let row : row_of on k (suc m) ml ≡ moved_row m (length a) (record r { stays = false }) = first-row on m (length a) k (suc m) line (omega arith) rest ∙ ap (λ s. moved_row m (length a) (record r { stays = s })) off in
        let ps = new on (suc m) ml in
        let stays = (row_of on k (suc m) ml).stays in
        let starts : Begins (row_of on k (suc m) ml) = record {
          outside = record {
            left = ap (λ (r : Row). r.is_left_blank) is.row ∙ not-left on (suc m) ml ps stays (is-not-blank on (suc m) ml k there);
            none = ap (λ (r : Row). r.went_on) is.row;
            no_list = ap (λ (r : Row). list_begun r.begun) is.row ∙ new-lists on (length (text_of ml)) (suc m) false (text_of ml);
          };
          cut_off = ap (λ (r : Row). r.stays) row;
        } in
        subst (λ n. sections on (rows on before ++ map (moved_row n (length a)) (first_stays false (r ∷ rs))) ≡ sections on (rows on before) ++ map (moved_section n (length a)) (sections on (first_stays false (r ∷ rs)))) (sym e)
        (sections-apart (moved_row m (length a) (record r { stays = false })) (map (moved_row m (length a)) rs) (subst Begins row starts) on (rows on before)
        ∙ ap (λ ss. sections on (rows on before) ++ ss) (sections-move on m (length a) (record r { stays = false } ∷ rs)))

-- ==== Marks of sections behind others, if these share no span with the first of them: those of both.
-- the last of sections, behind a part
abbrev pub last_part : Part → List Section → Part
last_part part [] = part
last_part part (s ∷ ss) = last_part s.part ss

-- the last of sections shares no span with a part
abbrev pub SharesNone : List Section → Part → Type 0
SharesNone [] part = Unit {0}
SharesNone (s ∷ ss) part = shared (last_part s.part ss).frames part.frames ≡ 0

module _ (bytes : List ℕ) where
  behind-apart : (part : Part) (ss : List Section) (t : Section) (ts : List Section) → shared (last_part part ss).frames t.part.frames ≡ 0
      → behind_marks bytes part (ss ++ (t ∷ ts)) ≡ behind_marks bytes part ss ++ sections_marks bytes (t ∷ ts)
  behind-apart part [] t ts h =
      let ends = exits bytes part.frames (end_of bytes part) in
      ap (λ n. exits bytes (drop n part.frames) (end_of bytes part) ++ (ending_marks bytes part ++ (section_marks bytes t ++ behind_marks bytes t.part ts))) h
      ∙ sym (append_assoc ends (ending_marks bytes part) (section_marks bytes t ++ behind_marks bytes t.part ts))
  behind-apart part (s ∷ ss) t ts h =
      let front = exits bytes (drop (shared part.frames s.part.frames) part.frames) (end_of bytes part) in
      let ending = ending_marks bytes part in
      let here = section_marks bytes s in
      let back = sections_marks bytes (t ∷ ts) in
      ap (λ ms. front ++ (ending ++ (here ++ ms))) (behind-apart s.part ss t ts h)
      ∙ ap (λ ms. front ++ (ending ++ ms)) (sym (append_assoc here (behind_marks bytes s.part ss) back))
      ∙ ap (λ ms. front ++ ms) (sym (append_assoc ending (here ++ behind_marks bytes s.part ss) back))
      ∙ sym (append_assoc front (ending ++ (here ++ behind_marks bytes s.part ss)) back)

  pub marks-apart : (ss : List Section) (t : Section) (ts : List Section) → SharesNone ss t.part → sections_marks bytes (ss ++ (t ∷ ts)) ≡ sections_marks bytes ss ++ sections_marks bytes (t ∷ ts)
  marks-apart [] t ts h = refl
  marks-apart (s ∷ ss) t ts h = ap (λ ms. section_marks bytes s ++ ms) (behind-apart s.part ss t ts h) ∙ sym (append_assoc (section_marks bytes s) (behind_marks bytes s.part ss) (sections_marks bytes (t ∷ ts)))

-- ==== The marks of a document's skeleton are those of its parts, where the second go on with no stretch of lines.
last-is : (P : ℕ → Type 0) (part : Part) (ss : List Section) → PartIs P part → AllByRecursion (SectionIs P) ss → PartIs P (last_part part ss)
last-is P part [] h k = h
last-is P part (s ∷ ss) h k = last-is P s.part ss k.0 k.1

moved-on : (n : ℕ) (fs : List Frame) → AllByRecursion (FrameIs (λ m. 1 ≤ m)) fs → AllByRecursion (FrameIs (λ m. suc n ≤ m)) (map (moved_frame n) fs)
moved-on n [] h = tt
moved-on n (f ∷ fs) h = (let some = h.0 in omega (arith, some), moved-on n fs h.1)

first-same : (P : ℕ → Type 0) (rs : List Row) → AllByRecursion (RowIs P) rs → AllByRecursion (RowIs P) (first_stays false rs)
first-same P [] h = tt
first-same P (r ∷ rs) h = h

none-shared : (n bytes : ℕ) (ss : List Section) (t : Section) → AllByRecursion (SectionIs (λ m. m < suc n)) ss → SectionIs (λ m. 1 ≤ m) t → SharesNone ss (moved_section n bytes t).part
none-shared n bytes [] t h k = tt
none-shared n bytes (s ∷ ss) t h k = shares-none (suc n) (last_part s.part ss).frames (map (moved_frame n) t.part.frames) (last-is (λ m. m < suc n) s.part ss h.0 h.1) (moved-on n t.part.frames k)

pub apart : (all : List ℕ) (n bytes : ℕ) (ss ts : List Section) → AllByRecursion (SectionIs (λ m. m < suc n)) ss → AllByRecursion (SectionIs (λ m. 1 ≤ m)) ts
    → sections_marks all (ss ++ map (moved_section n bytes) ts) ≡ sections_marks all ss ++ sections_marks all (map (moved_section n bytes) ts)
apart all n bytes ss [] h k = ap (sections_marks all) (append-nil ss) ∙ sym (append-nil (sections_marks all ss))
apart all n bytes ss (t ∷ ts) h k = marks-apart all ss (moved_section n bytes t) (map (moved_section n bytes) ts) (none-shared n bytes ss t h k.0)

pub marks-of-both : MarksOfBoth
marks-of-both on t a b rest off =
    let one = lines_in (virtual t a) in
    let two = lines_in (virtual t b) in
    let n = line_endings a in
    let start = known_at_start on in
    let count = counted t a b (and-left (begins_line b a) (first_at_document_rest on one two) rest) in
    let before = rows-are (λ m. m < suc n) on start 1 one (λ m l u. omega (arith, u, count)) tt in
    let behind = rows-are (λ m. 1 ≤ m) on start 1 two (λ m l u. l) tt in
    ap (sections_marks (a ++ b)) (sections-of-both on t a b rest off)
    ∙ apart (a ++ b) n (length a) (sections on (rows on one)) (sections on (first_stays false (rows on two))) (sections-are (λ m. m < suc n) on (rows on one) before)
    (sections-are (λ m. 1 ≤ m) on (first_stays false (rows on two)) (first-same (λ m. 1 ≤ m) (rows on two) behind))
