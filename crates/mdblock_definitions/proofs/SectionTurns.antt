-- The sections of a document: which spans are open from one to the next, and what is in their lines.
use Rattle.std.proofs.Common.{◌≡◌, ◌⊎◌, inl, ℕ, zero, suc, ◌≤◌, Bool, true, false, cond, List, [], ◌∷◌, ◌++◌, append-nil, arith, drop, length, map, refl, sym, ap, subst, take, ◌∙◌}
use Rattle.std.specs.Prelude.{◌&&◌}
use Rattle.std.specs.List.{AllByRecursion, flat_map, prefix_len}
use Rattle.std.proofs.lemmas.Bool.{false≢true}
use Rattle.std.proofs.lemmas.List.{length-append, length-map}
use Rattle.markdown_base.proofs.Common.{and-right, every-append, every-map, every-take, every-drop}
use Rattle.markdown_base.specs.declared.configuration.Constructs.{Constructs}
use Rattle.markdown_tokenizer.proofs.Positions.Order.{every-back, every-front}
use Rattle.markdown_base.specs.Virtual.{Seat}
use Rattle.mdconstructs_machines.specs.LineEvents.{line_text}
use Rattle.mdblock_leaf_blocks.specs.LeafBlocks.{Line}
use Rattle.mdblock_leaf_blocks.specs.LineKinds.{is_blank_line}
use Rattle.mdblock_lines.specs.Containers.{Container, Prefix}
use Rattle.mdblock_containers.proofs.FrameFacts.{Turn, all_entered, none_is}
use Rattle.mdblock_containers.proofs.OpenFrames.{AreTurned, IsAlone, IsTurned, document_turned}
use Rattle.mdblock_containers.proofs.PartSpans.{RowFits}
use Rattle.mdblock_containers.proofs.RowFacts.{begun_sizes, columns_within}
use Rattle.mdblock_containers.proofs.RowSpans.{head_same}
use Rattle.mdblock_containers.proofs.SeatFacts.{LineIs}
use Rattle.mdblock_containers.specs.Prefixes.{containers_of}
use Rattle.mdblock_containers.specs.Rows.{Row, has_none, is_paragraph, rest_of, holds_ending}
use Rattle.mdblock_containers.specs.Skeleton.{Frame, Part, frames_at, further, parts, parts_in, shared, standing, last_of}
use Rattle.mdblock_table_marks.specs.TableCuts.{cut_at_tables}
use Rattle.mdinline_labels.specs.declared.definitions.Definition.{Definition}
use Rattle.mdinline_labels.specs.Definitions.{definitions}
use Rattle.mdblock_definitions.specs.Sections.{Inside, Section, before_defined, begins_text, cut, defined, defined_in, defining, in_same, lines, lines_defined, paragraph_of, sections, sections_in, sections_of, text_in, undefined, is_in_table, sections_of_cut, table}
use Rattle.mdblock_definitions.specs.Rows.{Known, known_after, row_of, rows, rows_from}
use Rattle.mdblock_definitions.specs.Sectioned.{TextsAreFilled}
use Rattle.mdblock_definitions.specs.Skeleton.{all_rows}
use Rattle.mdblock_definitions.proofs.Covered.{lines-of-parts, part-lines, rows_of, sections-hold-lines}
use Rattle.mdblock_definitions.proofs.CutAlike.{undefined-is}
use Rattle.mdblock_definitions.proofs.DefinitionLines.{AreDefined, IsFilled, lines-are-defined}
use Rattle.mdblock_definitions.proofs.KnownReads.{known-reads, nothing}
use Rattle.mdblock_definitions.proofs.FilledTexts.{texts-back, texts-drop, texts-front}
use Rattle.mdblock_definitions.proofs.PartTexts.{all-texts}
use Rattle.mdblock_definitions.proofs.PlainLetters.{open-not-blank}
use Rattle.mdblock_definitions.proofs.TableCutting.{TableIs, cuts-are}
use Rattle.mdblock_definitions.proofs.TableSeats.{last-no-ending}
use Rattle.mdblock_definitions.proofs.Within.{shared-all}

-- no paragraph is open behind a line without text
abbrev pub IsOpenWithText : Row → Type 0
IsOpenWithText r = is_paragraph r.leaf ≡ true → is_blank_line (rest_of r) ≡ false

-- a line fits, and no paragraph is open behind a blank one
pub record RowIs (r : Row) : Type 0 where
  pub fits : RowFits r
  pub open_behind : IsOpenWithText r

pub rows-fit : (rs : List Row) → AllByRecursion RowIs rs → AllByRecursion RowFits rs
rows-fit rs h = every-map RowIs RowFits (λ r k. k.fits) rs h

not-blank : (r : Row) → RowIs r → is_paragraph r.leaf ≡ true → r.is_blank ≡ false
not-blank r h e = h.fits.blank ∙ h.open_behind e

pub not-blank-some : (t : List ℕ) → is_blank_line t ≡ false → has_none t ≡ false
not-blank-some [] k = absurd (false≢true (sym k))
not-blank-some (b ∷ bs) k = refl

is-filled : (r : Row) → RowIs r → is_paragraph r.leaf ≡ true → IsFilled r
is-filled r h e = not-blank-some (rest_of r) (h.open_behind e)

-- the same spans stay open where nothing begins
same-turn : (fs gs : List Frame) (ps : List Prefix) → gs ≡ fs → has_none ps ≡ true → Turn fs gs ps
same-turn fs gs ps e none = record {
  kept = fs;
  ended = [];
  before_are = sym (append-nil fs);
  after_are = e ∙ sym (append-nil fs) ∙ ap (λ (l : List Prefix). fs ++ all_entered l) (sym (none_is ps none));
  many = ap (shared fs) e ∙ shared-all fs;
}

-- ---- sections of one part

-- nothing begins behind the first of these lines
abbrev OnlyFirst : List Row → Type 0
OnlyFirst [] = Unit {0}
OnlyFirst (r ∷ rs) = AllByRecursion (λ (x : Row). has_none x.begun ≡ true) rs

only-front : (n : ℕ) (rs : List Row) → OnlyFirst rs → OnlyFirst (take n rs)
only-front zero rs h = tt
only-front (suc n) [] h = tt
only-front (suc n) (r ∷ rs) h = every-take (λ (x : Row). has_none x.begun ≡ true) n rs h

none-only : (rs : List Row) → AllByRecursion (λ (x : Row). has_none x.begun ≡ true) rs → OnlyFirst rs
none-only [] h = tt
none-only (r ∷ rs) h = h.1

only-behind : (n : ℕ) (rs : List Row) → OnlyFirst rs → OnlyFirst (drop n rs)
only-behind zero rs h = h
only-behind (suc n) [] h = tt
only-behind (suc n) (r ∷ rs) h = none-only (drop n rs) (every-drop (λ (x : Row). has_none x.begun ≡ true) n rs h)

module _ (bytes : List ℕ) where
  -- what is in a section
  abbrev pub InsideIs : Part → Inside → Type 0
  InsideIs p (lines is_behind) = is_behind ≡ true → p.first.is_blank ≡ false
  InsideIs p (defined ds) = AreDefined bytes ds (all_rows p) × (p.first.is_blank ≡ false)
  InsideIs p table = (p.first.is_blank ≡ false) × (holds_ending (last_of p.first p.more).leaf ≡ false)

  -- A section: no more containers go on at its first line than it stands in, and nothing begins behind that
  pub record SectionIs (s : Section) : Type 0 where
    pub narrow : (s.part.first.is_blank ≡ false) ⊎ (has_none s.part.first.begun ≡ false) → length s.part.first.went_on ≤ length s.part.stands
    pub none_begin : AllByRecursion (λ (r : Row). has_none r.begun ≡ true) s.part.more
    pub alone : IsAlone s.part
    pub inside : InsideIs s.part s.inside

  -- sections, one behind another, with the spans that are open before them
  abbrev pub AreCut : List Frame → List Section → Type 0
  AreCut fs [] = Unit {0}
  AreCut fs (s ∷ ss) = Turn fs s.part.frames s.part.first.begun × SectionIs s × AreCut s.part.frames ss

  module _ (on : Constructs) (around : Part) where
    abbrev IsIn : Row → Type 0
    IsIn r = RowIs r × (length r.went_on ≤ length around.stands)

    -- a section in the spans of the part
    pub record IsInside (s : Section) : Type 0 where
      pub frames : s.part.frames ≡ around.frames
      pub is : SectionIs s

    -- a part of the lines
    record IsPiece (p : Part) : Type 0 where
      narrow : length p.first.went_on ≤ length around.stands
      none_begin : AllByRecursion (λ (r : Row). has_none r.begun ≡ true) p.more
      alone : IsAlone p

    pieces : (bound : ℕ) (rs : List Row) → AllByRecursion IsIn rs → OnlyFirst rs → AllByRecursion IsPiece (parts_in bound rs)
    pieces zero rs h only = tt
    pieces (suc bound) [] h only = tt
    pieces (suc bound) (r ∷ rs) h only =
        let n = cond r.is_blank 0 (further rs) in (
          record { narrow = h.0.1; none_begin = every-take (λ (x : Row). has_none x.begun ≡ true) n rs only; alone = λ e. ap (λ x. take (cond x 0 (further rs)) rs) e },
          pieces bound (drop n rs) (every-drop IsIn n rs h.1) (none-only (drop n rs) (every-drop (λ (x : Row). has_none x.begun ≡ true) n rs only)),
        )

    one-inside : (p : Part) (inside : Inside) → IsPiece p → InsideIs (in_same around p) inside → IsInside (record { part = in_same around p; inside = inside })
    one-inside p inside h k = record { frames = refl; is = record { narrow = λ e. h.narrow; none_begin = h.none_begin; alone = h.alone; inside = k } }

    others-inside : (ps : List Part) → AllByRecursion IsPiece ps → AllByRecursion IsInside (map (λ p. record { part = p; inside = lines false }) (map (in_same around) ps))
    others-inside [] h = tt
    others-inside (p ∷ ps) h = (one-inside p (lines false) h.0 (λ e. absurd (false≢true e)), others-inside ps h.1)

    parts-inside : (x : Bool) (rs : List Row) → AllByRecursion IsIn rs → OnlyFirst rs → AllByRecursion IsInside (sections_of (x && begins_text rs) (map (in_same around) (parts rs)))
    parts-inside x [] h only = tt
    parts-inside x (r ∷ rs) h only =
        let all = pieces (suc (length rs)) (r ∷ rs) h only in
        let n = cond r.is_blank 0 (further rs) in
        let p : Part = record { first = r; more = take n rs; frames = frames_at r rs; stands = standing r rs } in
        (one-inside p (lines (x && is_paragraph r.leaf)) all.0 (λ e. not-blank r h.0.0 (and-right x (is_paragraph r.leaf) e)), others-inside (parts_in (length rs) (drop n rs)) all.1)

    undefined-inside : (x : Bool) (rs : List Row) → AllByRecursion IsIn rs → OnlyFirst rs → AllByRecursion IsInside (undefined x around rs)
    undefined-inside x rs h only = subst (AllByRecursion IsInside) (sym (undefined-is x around rs)) (parts-inside x rs h only)

    defining-inside : (ds : List Definition) (rs : List Row) → AreDefined bytes ds rs → AllByRecursion IsIn rs → OnlyFirst rs → AllByRecursion IsInside (defining ds around rs)
    defining-inside ds [] d h only = tt
    defining-inside ds (r ∷ rs) d h only =
        let filled = not-blank r h.0.0 d.open_behind.0 in
        (record { frames = refl; is = record { narrow = λ e. h.0.1; none_begin = only; alone = λ e. absurd (false≢true (sym filled ∙ e)); inside = (d, filled) } }, tt)

    -- definitions are over the lines that they have
    found-inside : (rs : List Row) → AllByRecursion IsIn rs → OnlyFirst rs → AllByRecursion IsInside (defining (definitions (text_in (paragraph_of rs))) around (take (defined_in on rs) rs))
    found-inside rs h only = by on.definition refl
      where
        ds : List Definition
        ds = definitions (text_in (paragraph_of rs))

        by : (x : Bool) → on.definition ≡ x → AllByRecursion IsInside (defining ds around (take (defined_in on rs) rs))
        by true e =
            let d = defined_in on rs in
            defining-inside ds (take d rs) (lines-are-defined bytes on rs (every-map IsIn (λ (r : Row). is_paragraph r.leaf ≡ true → IsFilled r) (λ r k. is-filled r k.0) rs h) e) (every-take IsIn d rs h) (only-front d rs only)
        by false e =
            let none : 0 ≡ defined_in on rs = sym (ap (λ b. cond b (lines_defined (text_in (paragraph_of rs))) 0) e) in
            subst (λ n. AllByRecursion IsInside (defining ds around (take n rs))) none tt

    all-inside : (b : ℕ) (x : Bool) (rs : List Row) → AllByRecursion IsIn rs → OnlyFirst rs → AllByRecursion IsInside (sections_in on b x around rs)
    all-inside zero x rs h only = tt
    all-inside (suc b) x [] h only = tt
    all-inside (suc b) x (r ∷ rs) h only =
        let all : List Row = r ∷ rs in
        let n = before_defined on false all in
        let behind = drop n all in
        let d = defined_in on behind in
        let front = undefined x around (take n all) in
        let middle = defining (definitions (text_in (paragraph_of behind))) around (take d behind) in
        let back = sections_in on b true around (drop d behind) in
        let left = every-drop IsIn n all h in
        let only-left = only-behind n all only in
        every-append IsInside front (middle ++ back) (undefined-inside x (take n all) (every-take IsIn n all h) (only-front n all only))
        (every-append IsInside middle back (found-inside behind left only-left) (all-inside b true (drop d behind) (every-drop IsIn d behind left) (only-behind d behind only-left)))

    -- ---- lines cut at tables
    record Fit (rs : List Row) : Type 0 where
      each : AllByRecursion IsIn rs
      only : OnlyFirst rs
      texts : TextsAreFilled rs

    fit-drop : (n : ℕ) (rs : List Row) → Fit rs → Fit (drop n rs)
    fit-drop n rs h = record { each = every-drop IsIn n rs h.each; only = only-behind n rs h.only; texts = texts-drop n rs h.texts }

    plain-inside : (n : ℕ) (rs : List Row) → Fit rs → AllByRecursion IsInside (sections_in on (length (take n rs)) false around (take n rs)) × Fit (drop n rs)
    plain-inside n rs h = (all-inside (length (take n rs)) false (take n rs) (every-take IsIn n rs h.each) (only-front n rs h.only), fit-drop n rs h)

    table-inside : TableIs on around IsInside Fit Fit
    table-inside header q qs h is =
        let n = prefix_len is_in_table qs in
        let filled = (h.texts.0 (h.texts.1.0 is)).0 in (
          record {
            frames = refl;
            is = record { narrow = λ e. h.each.0.1; none_begin = every-take (λ (x : Row). has_none x.begun ≡ true) (suc n) (q ∷ qs) h.only; alone = λ e. absurd (false≢true (sym filled ∙ e)); inside = (filled, last-no-ending q qs is) };
          },
          fit-drop (suc (suc n)) (header ∷ q ∷ qs) h,
        )

    cuts-inside : (b : ℕ) (rs : List Row) → AllByRecursion IsIn rs → OnlyFirst rs → TextsAreFilled rs → AllByRecursion IsInside (flat_map (sections_of_cut on around) (cut_at_tables is_in_table b rs))
    cuts-inside b rs h only texts = cuts-are on around IsInside Fit Fit plain-inside table-inside b rs (record { each = h; only = only; texts = texts })

    -- ---- spans from one section to the next

    -- behind the first section nothing begins
    cut-behind : (fs : List Frame) (ss : List Section) → fs ≡ around.frames → AllByRecursion IsInside ss → AllByRecursion (λ (x : Row). has_none x.begun ≡ true) (rows_of ss) → AreCut fs ss
    cut-behind fs [] e h none = tt
    cut-behind fs (s ∷ ss) e h none = (
      same-turn fs s.part.frames s.part.first.begun (h.0.frames ∙ sym e) none.0,
      h.0.is,
      cut-behind s.part.frames ss h.0.frames h.1 (every-back (λ (x : Row). has_none x.begun ≡ true) s.part.more (rows_of ss) none.1),
    )

    cut-first : (fs : List Frame) (r : Row) (rs : List Row) → Turn fs around.frames r.begun → AllByRecursion (λ (x : Row). has_none x.begun ≡ true) rs → (ss : List Section) → AllByRecursion IsInside ss → rows_of ss ≡ r ∷ rs → AreCut fs ss
    cut-first fs r rs turn none [] h e = tt
    cut-first fs r rs turn none (s ∷ ss) h e =
        let same = head_same s.part.first r (s.part.more ++ rows_of ss) rs e in
        let behind : AllByRecursion (λ (x : Row). has_none x.begun ≡ true) (s.part.more ++ rows_of ss) = subst (AllByRecursion (λ (x : Row). has_none x.begun ≡ true)) (sym same.1) none in (
          subst (λ (x : Row). Turn fs s.part.frames x.begun) (sym same.0) (subst (λ (gs : List Frame). Turn fs gs r.begun) (sym h.0.frames) turn),
          h.0.is,
          cut-behind s.part.frames ss h.0.frames h.1 (every-back (λ (x : Row). has_none x.begun ≡ true) s.part.more (rows_of ss) behind),
        )

    -- and sections of another part behind them
    cut-more : (fs : List Frame) (ss rest : List Section) → has_none ss ≡ false → AllByRecursion IsInside ss → AreCut fs ss → AreCut around.frames rest → AreCut fs (ss ++ rest)
    cut-more fs [] rest some h cut more = absurd (false≢true (sym some))
    cut-more fs (s ∷ []) rest some h cut more = (cut.0, cut.1, subst (λ (gs : List Frame). AreCut gs rest) (sym h.0.frames) more)
    cut-more fs (s ∷ t ∷ ss) rest some h cut more = (cut.0, cut.1, cut-more s.part.frames (t ∷ ss) rest refl h.1 cut.2 more)

  module _ (on : Constructs) where
    -- the sections of a part
    part-is-cut : (fs : List Frame) (p : Part) → IsTurned fs p → AllByRecursion RowIs (all_rows p) → TextsAreFilled (all_rows p) → AllByRecursion (IsInside on p) (cut on p) × AreCut fs (cut on p)
    part-is-cut fs p h ls texts = by p.first.is_blank refl (part-lines on p)
      where
        narrow : (p.first.is_blank ≡ false) ⊎ (has_none p.first.begun ≡ false) → length p.first.went_on ≤ length p.stands
        narrow e =
            let size = ap (λ (l : List Container). length l) (h.stands e) in
            let both = length-append (containers_of p.first.went_on) (containers_of p.first.begun) in
            let went = length-map p.first.went_on (λ (q : Prefix). q.container) in
            omega (arith, size, both, went)

        in-all : (rs : List Row) → AllByRecursion RowIs rs → AllByRecursion (λ (r : Row). length r.went_on ≤ length p.stands) rs → AllByRecursion (λ (r : Row). RowIs r × (length r.went_on ≤ length p.stands)) rs
        in-all [] a b = tt
        in-all (r ∷ rs) a b = ((a.0, b.0), in-all rs a.1 b.1)

        cut_by : Bool → List Section
        cut_by x = cond x (record { part = p; inside = lines false } ∷ []) (flat_map (sections_of_cut on p) (cut_at_tables is_in_table (suc (length p.more)) (p.first ∷ p.more)))

        by : (x : Bool) → p.first.is_blank ≡ x → rows_of (cut_by x) ≡ all_rows p → AllByRecursion (IsInside on p) (cut_by x) × AreCut fs (cut_by x)
        by true e all =
            let one : SectionIs (record { part = p; inside = lines false }) = record { narrow = narrow; none_begin = h.none_begin; alone = h.alone; inside = λ e. absurd (false≢true e) } in
            ((record { frames = refl; is = one }, tt), (h.turn, one, tt))
        by false e all =
            let inside = cuts-inside on p (suc (length p.more)) (all_rows p) ((ls.0, narrow (inl e)), in-all p.more ls.1 h.narrow) h.none_begin texts in
            (inside, cut-first on p fs p.first p.more h.turn h.none_begin (cut_by false) inside all)

    all-cut : (fs : List Frame) (ps : List Part) → AreTurned fs ps → AllByRecursion RowIs (flat_map all_rows ps) → TextsAreFilled (flat_map all_rows ps) → AreCut fs (flat_map (cut on) ps)
    all-cut fs [] h ls texts = tt
    all-cut fs (p ∷ ps) h ls texts =
        let here = part-is-cut fs p h.0 (every-front RowIs (all_rows p) (flat_map all_rows ps) ls) (texts-front (all_rows p) (flat_map all_rows ps) texts) in
        cut-more on p fs (cut on p) (flat_map (cut on) ps) (some (cut on p) (part-lines on p)) here.0 here.1 (all-cut p.frames ps h.1 (every-back RowIs (all_rows p) (flat_map all_rows ps) ls) (texts-back (all_rows p) (flat_map all_rows ps) texts))
      where
        some : (ss : List Section) → rows_of ss ≡ all_rows p → has_none ss ≡ false
        some [] e = absurd (false≢true (sym (ap has_none e)))
        some (s ∷ ss) e = refl

    -- ---- the lines of a document

    rows-are-lines : (k : Known) (n : ℕ) (ls : List Line) → AllByRecursion LineIs ls → AllByRecursion RowIs (rows_from on k n ls)
    rows-are-lines k n [] h = tt
    rows-are-lines k n (l ∷ ls) h =
        let few = columns_within on k.before n l in
        let size = length-map (line_text l) (λ (s : Seat). s.byte) in (
          record {
            fits = record { line = h.0; columns = refl; within = omega (arith, few, size); sizes = begun_sizes on k.before n l; blank = refl };
            open_behind = open-not-blank on k n l;
          },
          rows-are-lines (known_after on k (row_of on k n l)) (suc n) ls h.1,
        )

    lines-of-rows : (k : Known) (n : ℕ) (ls : List Line) → map (λ (r : Row). r.line) (rows_from on k n ls) ≡ ls
    lines-of-rows k n [] = refl
    lines-of-rows k n (l ∷ ls) = ap (λ (xs : List Line). l ∷ xs) (lines-of-rows (known_after on k (row_of on k n l)) (suc n) ls)

    -- The sections of a document, and its lines
    pub document-cut : (ls : List Line) → AllByRecursion LineIs ls → AreCut [] (sections on (rows on ls))
    document-cut ls h =
        let rs = rows on ls in
        let all = rows-are-lines (nothing on) 1 ls h in
        all-cut [] (parts rs) (document_turned on (known-reads on) (nothing on) ls refl refl) (subst (AllByRecursion RowIs) (sym (lines-of-parts (length rs) rs (omega arith))) all)
        (subst TextsAreFilled (sym (lines-of-parts (length rs) rs (omega arith))) (all-texts on ls))

    pub document-lines : (ls : List Line) → AllByRecursion LineIs ls → AllByRecursion RowIs (rows_of (sections on (rows on ls)))
    document-lines ls h = subst (AllByRecursion RowIs) (sym (sections-hold-lines on (rows on ls))) (rows-are-lines (nothing on) 1 ls h)

    pub all-of-sections : (ls : List Line) → map (λ (r : Row). r.line) (rows_of (sections on (rows on ls))) ≡ ls
    all-of-sections ls = ap (map (λ (r : Row). r.line)) (sections-hold-lines on (rows on ls)) ∙ lines-of-rows (nothing on) 1 ls
