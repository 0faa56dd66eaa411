-- What is in the sections of a part fits their lines.
use Rattle.std.proofs.Common.{◌≡◌, ℕ, zero, suc, ◌+◌, Bool, true, false, cond, List, [], ◌∷◌, ◌++◌, length, drop, take, map, refl, sym, ap, subst, ◌∙◌, arith, append-nil}
use Rattle.std.specs.Prelude.{◌&&◌, ◌||◌}
use Rattle.std.specs.List.{flat_map, prefix_len, AllByRecursion}
use Rattle.std.proofs.lemmas.Bool.{or_right}
use Rattle.markdown_base.specs.declared.configuration.Constructs.{Constructs}
use Rattle.markdown_base.proofs.Common.{and-right, every-append}
use Rattle.mdblock_leaf_blocks.specs.LeafBlocks.{Line}
use Rattle.mdblock_containers.specs.Rows.{Row, is_paragraph, is_table}
use Rattle.mdblock_containers.specs.Skeleton.{Part, further, parts}
use Rattle.mdblock_table_marks.proofs.TableCuts.{before-all, one-piece}
use Rattle.mdblock_table_marks.specs.TableCuts.{before_table, cut_at_tables}
use Rattle.mdinline_labels.specs.Definitions.{definitions}
use Rattle.mdblock_definitions.specs.Rows.{rows}
use Rattle.mdblock_definitions.specs.Sectioned.{AreSectionsOf, AreSound, TextIsFilled, TextsAreFilled, IsSound, IsFilled}
use Rattle.mdblock_definitions.specs.Sections.{Section, before_defined, cut, defined_in, defining, in_same, lines, lines_defined, paragraph_of, sections, sections_in, text_in, undefined, is_in_table, sections_of_cut}
use Rattle.mdblock_definitions.specs.Skeleton.{all_rows}
use Rattle.mdblock_definitions.proofs.Covered.{lines-of-parts, cuts-lines}
use Rattle.mdblock_definitions.proofs.DefinedText.{paragraph-defined}
use Rattle.mdblock_definitions.proofs.FilledTexts.{texts-back, texts-drop, texts-front, texts-take}
use Rattle.mdblock_definitions.proofs.PartTexts.{all-texts}
use Rattle.mdblock_definitions.proofs.TableCutting.{cuts-are}
use Rattle.mdblock_definitions.proofs.Within.{cuts-within}

plain-sound : (around : Part) (ps : List Part) → AreSound (map (λ p. record { part = p; inside = lines false }) (map (in_same around) ps))
plain-sound around [] = tt
plain-sound around (p ∷ ps) = (tt, plain-sound around ps)

-- the first of some lines is text, if it is directly behind definitions
first-sound : (x : Bool) (p : Part) → TextIsFilled p.first → IsSound p (lines (x && is_paragraph p.first.leaf))
first-sound x p h = by (x && is_paragraph p.first.leaf) refl
  where
    by : (b : Bool) → (x && is_paragraph p.first.leaf) ≡ b → IsSound p (lines b)
    by false e = tt
    by true e = h (ap (λ b. b || is_table p.first.leaf) (and-right x (is_paragraph p.first.leaf) e))

undefined-sound : (x : Bool) (around : Part) (rs : List Row) → TextsAreFilled rs → AreSound (undefined x around rs)
undefined-sound x around [] h = tt
undefined-sound x around (r ∷ rs) h =
    let n = cond r.is_blank 0 (further rs) in
    (first-sound x (record { first = r; more = take n rs; frames = around.frames; stands = around.stands }) h.0, plain-sound around _)

module _ (on : Constructs) where
  pub none-in : (r : Row) (rs : List Row) → is_paragraph r.leaf ≡ false → defined_in on (r ∷ rs) ≡ 0
  none-in r rs e =
      ap (λ b. cond on.definition (lines_defined (text_in (take (cond b (1 + prefix_len (λ (q : Row). is_paragraph q.leaf) rs) 0) (r ∷ rs)))) 0) e ∙ by on.definition
    where
      by : (b : Bool) → cond b (lines_defined []) 0 ≡ 0
      by true = omega arith
      by false = refl

  -- definitions begin in text, and their lines have all of them
  defining-sound : (around : Part) (behind : List Row) (d : ℕ) → defined_in on behind ≡ d → TextsAreFilled behind → AreSound (defining (definitions (text_in (paragraph_of behind))) around (take d behind))
  defining-sound around behind zero e h = tt
  defining-sound around [] (suc d) e h = tt
  defining-sound around (r ∷ rs) (suc d) e h = (((h.0 (ap (λ b. b || is_table r.leaf) (text (is_paragraph r.leaf) refl))).0, own), tt)
    where
      text : (b : Bool) → is_paragraph r.leaf ≡ b → is_paragraph r.leaf ≡ true
      text true k = k
      text false k = absurd (omega (arith, e, none-in r rs k))

      own : definitions (text_in (paragraph_of (r ∷ rs))) ≡ definitions (text_in (r ∷ take d rs))
      own = sym (paragraph-defined on (r ∷ rs) (omega (arith, e))) ∙ ap (λ n. definitions (text_in (take n (r ∷ rs)))) e

  sections-sound : (b : ℕ) (x : Bool) (around : Part) (rs : List Row) → TextsAreFilled rs → AreSound (sections_in on b x around rs)
  sections-sound zero x around rs h = tt
  sections-sound (suc b) x around [] h = tt
  sections-sound (suc b) x around (r ∷ rs) h =
      let all : List Row = r ∷ rs in
      let n = before_defined on false all in
      let behind = drop n all in
      let d = defined_in on behind in
      let front = undefined x around (take n all) in
      let middle = defining (definitions (text_in (paragraph_of behind))) around (take d behind) in
      let back = sections_in on b true around (drop d behind) in
      let left : TextsAreFilled behind = texts-drop n all h in
      every-append (λ (s : Section). IsSound s.part s.inside) front (middle ++ back) (undefined-sound x around (take n all) (texts-take n all h))
      (every-append (λ (s : Section). IsSound s.part s.inside) middle back (defining-sound around behind d refl left) (sections-sound b true around (drop d behind) (texts-drop d behind left)))

  -- ---- tables

  -- lines in a table have text
  rows-filled : (rs : List Row) → TextsAreFilled rs → AllByRecursion IsFilled (take (prefix_len is_in_table rs) rs)
  rows-filled [] h = tt
  rows-filled (r ∷ rs) h = by (rows-filled rs h.1.1) (is_in_table r) refl
    where
      by : AllByRecursion IsFilled (take (prefix_len is_in_table rs) rs) → (x : Bool) → is_in_table r ≡ x → AllByRecursion IsFilled (take (cond x (1 + prefix_len is_in_table rs) 0) (r ∷ rs))
      by more true e =
          let one : suc (prefix_len is_in_table rs) ≡ 1 + prefix_len is_in_table rs = omega arith in
          subst (λ (n : ℕ). AllByRecursion IsFilled (take n (r ∷ rs))) one ((h.0 (or_right (is_paragraph r.leaf) (is_table r.leaf) e)).1, more)
      by more false e = tt

  cuts-sound : (b : ℕ) (around : Part) (rs : List Row) → TextsAreFilled rs → AreSound (flat_map (sections_of_cut on around) (cut_at_tables is_in_table b rs))
  cuts-sound b around rs h =
      cuts-are on around (λ (s : Section). IsSound s.part s.inside) TextsAreFilled TextsAreFilled (λ n rows k. (sections-sound (length (take n rows)) false around (take n rows) (texts-take n rows k), texts-drop n rows k))
      (λ header row rows k is. (((k.0 (k.1.0 is)).0, rows-filled rows k.1.1.1.1), texts-drop (prefix_len is_in_table rows) rows k.1.1.1.1)) b rs h

  -- the sections of a part that is no blank line
  cuts-sections : (p : Part) → TextsAreFilled (all_rows p) → AreSectionsOf p (flat_map (sections_of_cut on p) (cut_at_tables is_in_table (suc (length p.more)) (all_rows p)))
  cuts-sections p h = record {
    within = cuts-within on p (cut_at_tables is_in_table (suc (length p.more)) (all_rows p));
    lines = cuts-lines on (suc (length p.more)) p (all_rows p) (omega arith);
    sound = cuts-sound (suc (length p.more)) p (all_rows p) h;
  }

  abbrev cut_by : Part → Bool → List Section
  cut_by p b = cond b (record { part = p; inside = lines false } ∷ []) (flat_map (sections_of_cut on p) (cut_at_tables is_in_table (suc (length p.more)) (all_rows p)))

  pub cut-tabled : (p : Part) → p.first.is_blank ≡ false → cut on p ≡ flat_map (sections_of_cut on p) (cut_at_tables is_in_table (suc (length p.more)) (all_rows p))
  cut-tabled p e = ap (cut_by p) e

  pub cut-sections : (p : Part) → p.first.is_blank ≡ false → TextsAreFilled (all_rows p) → AreSectionsOf p (cut on p)
  cut-sections p e h = subst (AreSectionsOf p) (sym (cut-tabled p e)) (cuts-sections p h)

  -- no line is in a table
  abbrev pub NoTable : List Row → Type 0
  NoTable rs = AllByRecursion (λ r. is_in_table r ≡ false) rs

  pub no-table : (rs : List Row) → NoTable rs → before_table is_in_table rs ≡ length rs
  no-table rs none = before-all is_in_table rs none

  pub cut-filled : (p : Part) → p.first.is_blank ≡ false → before_table is_in_table (all_rows p) ≡ length (all_rows p) → cut on p ≡ sections_in on (suc (length p.more)) false p (all_rows p)
  cut-filled p e none =
      cut-tabled p e
      ∙ ap (flat_map (sections_of_cut on p)) (one-piece is_in_table (length p.more) (all_rows p) (before_table is_in_table (all_rows p)) (omega (arith, none)))
      ∙ append-nil (sections_in on (suc (length p.more)) false p (all_rows p))

  pub cut-blank : (p : Part) → p.first.is_blank ≡ true → cut on p ≡ record { part = p; inside = lines false } ∷ []
  cut-blank p e = ap (cut_by p) e

  -- ---- the sections of a document
  parts-sound : (ps : List Part) → TextsAreFilled (flat_map all_rows ps) → AreSound (flat_map (cut on) ps)
  parts-sound [] h = tt
  parts-sound (p ∷ ps) h =
      every-append (λ (s : Section). IsSound s.part s.inside) (cut on p) (flat_map (cut on) ps) (by p.first.is_blank) (parts-sound ps (texts-back (all_rows p) (flat_map all_rows ps) h))
    where
      by : (b : Bool) → AreSound (cut_by p b)
      by true = (tt, tt)
      by false = (cuts-sections p (texts-front (all_rows p) (flat_map all_rows ps) h)).sound

  pub document-sound : (ls : List Line) → AreSound (sections on (rows on ls))
  document-sound ls =
      let all = rows on ls in
      parts-sound (parts all) (subst TextsAreFilled (sym (lines-of-parts (length all) all (omega arith))) (all-texts on ls))
