-- Where nothing is defined, a document is read as without definitions.
use Rattle.std.proofs.Common.{◌≡◌, ◌==◌, ◌+◌, ◌-◌, ◌≤◌, ◌∙◌, ℕ, zero, suc, List, [], ◌∷◌, ◌++◌, Bool, true, false, cond, Some, None, ap, append_assoc, arith, drop, length, map, refl, subst, sym, take}
use Rattle.std.specs.List.{AllByRecursion, flat_map, prefix_len}
use Rattle.std.specs.Option.{option_and_then}
use Rattle.std.specs.Prelude.{◌&&◌, ◌||◌, not, nat_le, is_some}
use Rattle.std.proofs.lemmas.Bool.{false≢true}
use Rattle.std.proofs.lemmas.Grind.{flat_map-append}
use Rattle.std.proofs.lemmas.List.{length-drop, take-append-drop}
use Rattle.markdown_base.proofs.Common.{every-map}
use Rattle.markdown_base.specs.declared.configuration.Constructs.{Constructs}
use Rattle.markdown_base.specs.declared.event.Content.TheVariants.{Content}
use Rattle.markdown_base.specs.declared.event.Event.{Event}
use Rattle.markdown_base.specs.Virtual.{Seat, virtual}
use Rattle.markdown_tokenizer.specs.Text.{Given}
use Rattle.markdown_children.specs.Chains.{fitting_starts}
use Rattle.markdown_children.specs.Children.{with_children}
use Rattle.markdown_children.specs.Reads.{text_from}
use Rattle.mdconstructs_machines.specs.LineEvents.{lines_in}
use Rattle.mdblock_leaf_blocks.specs.HtmlLines.{ends, waits_for_blank}
use Rattle.mdblock_leaf_blocks.specs.LeafBlocks.{Line, interrupts}
use Rattle.mdblock_leaf_blocks.specs.LeafEvents.{flow_events}
use Rattle.mdblock_leaf_blocks.specs.LineKinds.{closes, line_kind, underline_rank}
use Rattle.mdblock_containers.proofs.RestLemmas.{part_of}
use Rattle.mdblock_containers.specs.Letters.{lazy_underline, with_letters}
use Rattle.mdblock_containers.specs.Prefixes.{containers_of}
use Rattle.mdblock_containers.specs.Rows.{Before, Leaf, Row, closed, has_none, is_paragraph, leaf_after, nothing_known, open_fence, open_html, open_paragraph, rest_of, open_table, is_table}
use Rattle.mdblock_containers.specs.Blocks as blocks
use Rattle.mdblock_containers.specs.Rows as without
use Rattle.mdblock_containers.specs.Skeleton.{Part, chained_from, further, parts, parts_in}
use Rattle.mdblock_containers.specs.Skeleton as containers
use Rattle.mdinline_labels.proofs.Fronts.{no-rest}
use Rattle.mdblock_tables.specs.Tables.{is_row}
use Rattle.mdinline_labels.specs.Definitions.{definition_at, destination_at, end, rest, stretch_at, title_at, titled_or_not}
use Rattle.mdinline_labels.specs.Labels.{is_label, normalised}
use Rattle.mdinline_labels.specs.Tails.{begins_with, is_white, label_size}
use Rattle.mdblock_definitions.specs.Blocks.{document_blocks}
use Rattle.mdblock_definitions.specs.Laws.{BlocksCanBeWithout, BlocksNeedBrackets, DefinitionsCanBeOff, DefinitionsNeedBrackets, HasNoBracket, NothingIsDefined, begins_with_bracket}
use Rattle.mdblock_definitions.specs.Rows.{Known, is_behind_text, is_used_up, known_after, row_of, rows, rows_from, begins_table, row_without}
use Rattle.mdblock_definitions.specs.Sections.{before_defined, cut, defined_in, lines_defined, lines_of, paragraph_of, sections, text_in, is_in_table}
use Rattle.mdblock_definitions.proofs.FilledTexts.{plain-none}
use Rattle.mdblock_definitions.proofs.SectionSound.{cut-blank, no-table as none-tabled}
use Rattle.mdblock_definitions.proofs.Uncut.{cut-once, plain, whole-part}
use Rattle.mdblock_definitions.specs.Skeleton.{behind_marks, labels_of_section, letters, letters_of_section, sections_in_seats, sections_marks}

-- ---- parts are not cut

module _ (on : Constructs) (P : Row → Type 0) (none-defined : (rs : List Row) → AllByRecursion P rs → defined_in on rs ≡ 0) (no-table : (r : Row) → P r → is_in_table r ≡ false) where
  all-before : (rs : List Row) (p : Bool) → AllByRecursion P rs → before_defined on p rs ≡ length rs
  all-before [] p h = refl
  all-before (r ∷ rs) p h =
      ap (λ d. cond (not p && nat_le 1 d) 0 (suc (before_defined on (is_paragraph r.leaf) rs))) (none-defined (r ∷ rs) h)
      ∙ none (not p)
      ∙ ap suc (all-before rs (is_paragraph r.leaf) h.1)
    where
      none : (x : Bool) → cond (x && nat_le 1 0) 0 (suc (before_defined on (is_paragraph r.leaf) rs)) ≡ suc (before_defined on (is_paragraph r.leaf) rs)
      none true = refl
      none false = refl

  module _ (p : Part) (are : AllByRecursion P (p.first ∷ p.more)) where
    cut-plain : (p.first.is_blank ≡ false → further p.more ≡ length p.more) → cut on p ≡ plain p ∷ []
    cut-plain whole = by p.first.is_blank refl
      where
        by : (x : Bool) → p.first.is_blank ≡ x → cut on p ≡ plain p ∷ []
        by true e = cut-blank on p e
        by false e = cut-once on p (all-before (p.first ∷ p.more) false are) e (whole e) (none-tabled on (p.first ∷ p.more) (every-map P (λ r. is_in_table r ≡ false) no-table (p.first ∷ p.more) are))

  all-take : (n : ℕ) (rs : List Row) → AllByRecursion P rs → AllByRecursion P (take n rs)
  all-take zero rs h = tt
  all-take (suc n) [] h = tt
  all-take (suc n) (r ∷ rs) h = (h.0, all-take n rs h.1)

  all-drop : (n : ℕ) (rs : List Row) → AllByRecursion P rs → AllByRecursion P (drop n rs)
  all-drop zero rs h = h
  all-drop (suc n) [] h = tt
  all-drop (suc n) (r ∷ rs) h = all-drop n rs h.1

  all-plain : (b : ℕ) (rs : List Row) → AllByRecursion P rs → flat_map (cut on) (parts_in b rs) ≡ map plain (parts_in b rs)
  all-plain zero rs h = refl
  all-plain (suc b) [] h = refl
  all-plain (suc b) (r ∷ rs) h =
      let n = cond r.is_blank 0 (further rs) in
      let p : Part = part_of r rs in
      ap (λ ss. ss ++ flat_map (cut on) (parts_in b (drop n rs))) (cut-plain p (h.0, all-take n rs h.1) (whole-part r rs))
      ∙ ap (λ ss. plain p ∷ ss) (all-plain b (drop n rs) (all-drop n rs h.1))

-- ---- plain sections

module _ (bytes : List ℕ) where
  behind-plain : (p : Part) (ps : List Part) → behind_marks bytes p (map plain ps) ≡ containers.behind_marks bytes p ps
  behind-plain p [] = refl
  behind-plain p (q ∷ ps) =
      ap (λ ms. containers.exits bytes (drop (containers.shared p.frames q.frames) p.frames) (containers.end_of bytes p) ++ (containers.ending_marks bytes p ++ (containers.part_marks bytes q ++ ms))) (behind-plain q ps)

  marks-plain : (ps : List Part) → sections_marks bytes (map plain ps) ≡ containers.parts_marks bytes ps
  marks-plain [] = refl
  marks-plain (p ∷ ps) = ap (λ ms. containers.part_marks bytes p ++ ms) (behind-plain p ps)

no-labels : (ps : List Part) → flat_map labels_of_section (map plain ps) ≡ []
no-labels [] = refl
no-labels (p ∷ ps) = no-labels ps

-- the lines of parts are all lines
all-rows : {X : Type 0} (f : Row → List X) (b : ℕ) (rs : List Row) → length rs ≤ b → flat_map (λ p. f p.first ++ flat_map f p.more) (parts_in b rs) ≡ flat_map f rs
all-rows f b [] h = none b
  where
    none : (b : ℕ) → flat_map (λ p. f p.first ++ flat_map f p.more) (parts_in b []) ≡ []
    none zero = refl
    none (suc b) = refl
all-rows f zero (r ∷ rs) h = absurd (omega (arith, h))
all-rows f (suc b) (r ∷ rs) h =
    let n = cond r.is_blank 0 (further rs) in
    ap (λ xs. (f r ++ flat_map f (take n rs)) ++ xs) (all-rows f b (drop n rs) (omega (arith, h, length-drop n rs)))
    ∙ append_assoc (f r) (flat_map f (take n rs)) (flat_map f (drop n rs))
    ∙ ap (λ xs. f r ++ xs) (sym (flat_map-append f (take n rs) (drop n rs)) ∙ ap (flat_map f) (take-append-drop n rs))

plain-letters : (on : Constructs) (ps : List Part) → flat_map (letters_of_section on) (map plain ps) ≡ flat_map (λ p. lazy_underline on p.first ++ flat_map (lazy_underline on) p.more) ps
plain-letters on [] = refl
plain-letters on (p ∷ ps) = ap (λ ls. (lazy_underline on p.first ++ flat_map (lazy_underline on) p.more) ++ ls) (plain-letters on ps)

-- what is read of a document with the lines of containers alone, in which nothing is defined
module _ (on : Constructs) (bytes : List ℕ) (seats : List Seat) (P : Row → Type 0) (none-defined : (rs : List Row) → AllByRecursion P rs → defined_in on rs ≡ 0) (no-table : (r : Row) → P r → is_in_table r ≡ false) where
  abbrev alone : List Row
  alone = without.rows on (lines_in seats)

  undefined-document : rows on (lines_in seats) ≡ alone → AllByRecursion P alone → NothingIsDefined on bytes seats
  undefined-document same are =
      let ps = parts alone in
      let found : sections_in_seats on seats ≡ map plain ps = ap (sections on) same ∙ all-plain on P none-defined no-table (length alone) alone are in
      record {
        events = ap (λ ss. chained_from 0 None (sections_marks bytes ss)) found ∙ ap (chained_from 0 None) (marks-plain bytes ps);
        letters_are = ap (flat_map (letters_of_section on)) found ∙ plain-letters on ps ∙ all-rows (lazy_underline on) (length alone) alone (omega (arith));
        no_labels = ap (λ ss. map normalised (flat_map labels_of_section ss)) found ∙ ap (map normalised) (no-labels ps);
      }

-- the blocks of a document with this skeleton and these letters
abbrev blocks-by : Given → List Event → List ℕ → List Event
blocks-by g es at =
    let text : Given = record g { bytes = with_letters at g.bytes } in
    with_children (Some Content) es (map (λ c. flow_events g.options.constructs text.bytes (text_from text es c).seats) (fitting_starts (Some Content) es))

same-blocks : (g : Given) → NothingIsDefined g.options.constructs g.bytes (virtual g.tab g.bytes) → document_blocks g ≡ blocks.document_blocks g
same-blocks g is =
    ap (λ es. blocks-by g es (letters g.options.constructs (virtual g.tab g.bytes))) is.events
    ∙ ap (blocks-by g (blocks.document_skeleton g)) is.letters_are

-- ---- tables are off

-- no line is in one
pub untabled-row : (on : Constructs) → on.gfm_table ≡ false → (k : Known) (n : ℕ) (line : Line) → row_of on k n line ≡ row_without on k n line
untabled-row on off k n line =
    let row = row_without on k n line in
    let more = row.stays && (is_paragraph row.leaf && ((is_paragraph k.before.leaf && begins_table on k row) || (is_table k.before.leaf && is_row (rest_of row)))) in
    ap (λ g. record row { leaf = cond (g && more) open_table row.leaf }) off

-- nor is one of containers alone
plain-untabled : (on : Constructs) (b : Before) (n : ℕ) (ls : List Line) → AllByRecursion (λ r. is_in_table r ≡ false) (without.rows_from on b n ls)
plain-untabled on b n [] = tt
plain-untabled on b n (l ∷ ls) = (plain-none on b n l, plain-untabled on (without.known_after on b (without.row_of on b n l)) (suc n) ls)

-- ---- definitions are off

module _ (on : Constructs) (off : on.definition ≡ false) (tables-off : on.gfm_table ≡ false) where
  row-off : (k : Known) (n : ℕ) (line : Line) → row_of on k n line ≡ without.row_of on k.before n line
  row-off k n line =
      let r = without.row_of on k.before n line in
      untabled-row on tables-off k n line ∙ ap (λ d. record r { leaf = cond (d && (is_behind_text k.before r && (is_some (underline_rank on (rest_of r)) && is_used_up k.text))) open_paragraph r.leaf }) off

  rows-off : (ls : List Line) (k : Known) (n : ℕ) → rows_from on k n ls ≡ without.rows_from on k.before n ls
  rows-off [] k n = refl
  rows-off (l ∷ ls) k n =
      ap (λ r. r ∷ rows_from on (known_after on k r) (suc n) ls) (row-off k n l)
      ∙ ap (λ rs. without.row_of on k.before n l ∷ rs) (rows-off ls (known_after on k (without.row_of on k.before n l)) (suc n))

  none-off : (rs : List Row) → AllByRecursion (λ r. is_in_table r ≡ false) rs → defined_in on rs ≡ 0
  none-off rs h = ap (λ d. cond d (lines_defined (text_in (paragraph_of rs))) 0) off

pub definitions-can-be-off : DefinitionsCanBeOff
definitions-can-be-off on off tables-off bytes seats =
    undefined-document on bytes seats (λ r. is_in_table r ≡ false) (none-off on off tables-off) (λ r h. h) (rows-off on off tables-off (lines_in seats) (record { before = nothing_known on; text = [] }) 1) (plain-untabled on (nothing_known on) 1 (lines_in seats))

pub blocks-can-be-without : BlocksCanBeWithout
blocks-can-be-without g off tables-off = same-blocks g (definitions-can-be-off g.options.constructs off tables-off g.bytes (virtual g.tab g.bytes))

-- ---- no line has a bracket in front

one-before : (n : ℕ) → 1 + n ≡ suc n
one-before n = omega (arith)

bracket-append : (t more : List ℕ) → begins_with_bracket t ≡ false → begins_with_bracket more ≡ false → begins_with_bracket (t ++ more) ≡ false
bracket-append [] more h k = k
bracket-append (b ∷ t) more h k = by (λ e. bracket-append t more e k) (is_white b) h
  where
    by : (begins_with_bracket t ≡ false → begins_with_bracket (t ++ more) ≡ false)
        → (x : Bool)
        → begins_with 91 (drop (cond x (1 + prefix_len is_white t) 0) (b ∷ t)) ≡ false
        → begins_with 91 (drop (cond x (1 + prefix_len is_white (t ++ more)) 0) (b ∷ (t ++ more))) ≡ false
    by again true e =
        ap (λ m. begins_with 91 (drop m (b ∷ (t ++ more)))) (one-before (prefix_len is_white (t ++ more)))
        ∙ again (ap (λ m. begins_with 91 (drop m (b ∷ t))) (sym (one-before (prefix_len is_white t))) ∙ e)
    by again false e = e

no-definition : (t : List ℕ) → begins_with_bracket t ≡ false → definition_at t ≡ None
no-definition t h =
    let from = prefix_len is_white t in
    ap (λ b. option_and_then (λ label. option_and_then (λ destination. titled_or_not t label destination (title_at t (end destination))) (destination_at t (end label + 1)))
    (cond b
    (option_and_then
    (λ n. cond (is_label (take n (drop (from + 1) t)) && begins_with 58 (drop (from + n + 2) t)) (Some (stretch_at from (n + 2))) None)
    (label_size (drop (from + 1) t)))
    None)) h

rest-whole : (t : List ℕ) → begins_with_bracket t ≡ false → rest t ≡ t
rest-whole t h = no-rest t (no-definition t h)

same-none : (n : ℕ) → n - n ≡ 0
same-none n = omega (arith)

pub none-defined-in : (t : List ℕ) → begins_with_bracket t ≡ false → lines_defined t ≡ 0
none-defined-in t h = ap (λ x. lines_of t - lines_of x) (rest-whole t h) ∙ same-none (lines_of t)

-- nor is anything defined if the first line has no bracket in front
pub bare-paragraph : (r : Row) (rs : List Row) → HasNoBracket r → begins_with_bracket (text_in (paragraph_of (r ∷ rs))) ≡ false
bare-paragraph r rs bare = by (is_paragraph r.leaf)
  where
    further-text : (x : Bool) (t : List ℕ) → begins_with_bracket (cond x [] (10 ∷ t)) ≡ false
    further-text true t = refl
    further-text false t = refl

    by : (x : Bool) → begins_with_bracket (text_in (take (cond x (1 + prefix_len (λ row. is_paragraph row.leaf) rs) 0) (r ∷ rs))) ≡ false
    by true =
        let n = prefix_len (λ (row : Row). is_paragraph row.leaf) rs in
        ap (λ m. begins_with_bracket (text_in (take m (r ∷ rs)))) (one-before n)
        ∙ bracket-append (rest_of r) (cond (has_none (take n rs)) [] (10 ∷ text_in (take n rs))) bare (further-text (has_none (take n rs)) (text_in (take n rs)))
    by false = refl

no-bracket-in : (rs : List Row) → AllByRecursion HasNoBracket rs → begins_with_bracket (text_in (paragraph_of rs)) ≡ false
no-bracket-in [] h = refl
no-bracket-in (r ∷ rs) h = bare-paragraph r rs h.0

-- a text that may be open, and is not used up
abbrev pub IsPlain : List ℕ → Type 0
IsPlain t = (begins_with_bracket t ≡ false) × (has_none t ≡ false)

pub not-used-up : (t : List ℕ) → IsPlain t → is_used_up t ≡ false
not-used-up t h = ap has_none (rest-whole t h.0) ∙ h.1

pub filled-longer : (t more : List ℕ) → has_none (t ++ 10 ∷ more) ≡ false
filled-longer [] more = refl
filled-longer (b ∷ bs) more = refl

plain-longer : (t more : List ℕ) → IsPlain t → IsPlain (t ++ 10 ∷ more)
plain-longer t more h = (bracket-append t (10 ∷ more) h.0 refl, filled-longer t more)

module _ (on : Constructs) where
  pub no-underline : (a s p u x : Bool) → (p ≡ true → x ≡ false) → (a && ((s && p) && (u && x))) ≡ false
  no-underline a s true u x h = ap (λ y. a && ((s && true) && (u && y))) (h refl) ∙ by a s u
    where
      by : (a s u : Bool) → (a && ((s && true) && (u && false))) ≡ false
      by false s u = refl
      by true false u = refl
      by true true false = refl
      by true true true = refl
  no-underline a s false u x h = by a s
    where
      by : (a s : Bool) → (a && ((s && false) && (u && x))) ≡ false
      by false s = refl
      by true false = refl
      by true true = refl

  -- the last line of a paragraph is not empty
  lazy-text : (a b c d : Bool) → (not a && (b && (c && not d))) ≡ true → d ≡ false
  lazy-text a b c false h = refl
  lazy-text true b c true h = absurd (false≢true h)
  lazy-text false false c true h = absurd (false≢true h)
  lazy-text false true false true h = absurd (false≢true h)
  lazy-text false true true true h = absurd (false≢true h)

  either-closed : {X : Type 0} (x : Bool) (l : Leaf) → is_paragraph l ≡ false → is_paragraph (cond x closed l) ≡ true → X
  either-closed true l e h = absurd (false≢true h)
  either-closed false l e h = absurd (false≢true (sym e ∙ h))

  filled-line : (x y : Bool) (leaf : Leaf) (t : List ℕ) → (y ≡ true → interrupts (line_kind on t) ≡ false)
      → is_paragraph (cond x closed (cond y open_paragraph (leaf_after on leaf t))) ≡ true → has_none t ≡ false
  filled-line x y leaf (b ∷ bs) f h = refl
  filled-line true y leaf [] f h = absurd (false≢true h)
  filled-line false true leaf [] f h = absurd (false≢true (sym (f refl)))
  filled-line false false closed [] f h = absurd (false≢true h)
  filled-line false false open_table [] f h = absurd (false≢true h)
  filled-line false false open_paragraph [] f h = either-closed (is_some (underline_rank on [])) closed refl h
  filled-line false false (open_fence fence) [] f h = either-closed (closes on fence []) (open_fence fence) refl h
  filled-line false false (open_html kind) [] f h = either-closed (cond (waits_for_blank kind) true (ends kind [])) (open_html kind) refl h

  -- a line is text behind which a paragraph is open
  pub leaf-open : (b : Before) (r : Row) → is_paragraph (without.known_after on b r).leaf ≡ true → is_paragraph r.leaf ≡ true
  leaf-open b r = by r.is_left_blank r.is_lazy
    where
      by : (x y : Bool)
          → is_paragraph (cond x (record b { depth = length r.went_on; leaf = closed }) (cond y (record b { leaf = r.leaf }) (record { stack = containers_of r.went_on ++ containers_of r.begun; depth = length (containers_of r.went_on ++ containers_of r.begun); leaf = r.leaf }))).leaf ≡ true
          → is_paragraph r.leaf ≡ true
      by true y e = absurd (false≢true e)
      by false true e = e
      by false false e = e

  -- a line that is text is not empty
  pub row-filled : (b : Before) (n : ℕ) (line : Line) → is_paragraph (without.row_of on b n line).leaf ≡ true → has_none (rest_of (without.row_of on b n line)) ≡ false
  row-filled b n line open_row =
      let row = without.row_of on b n line in
      let lazy : row.is_lazy ≡ true → interrupts (line_kind on (rest_of row)) ≡ false =
      λ e. lazy-text (length row.went_on == b.depth) (has_none row.begun) (is_paragraph b.leaf) (interrupts (line_kind on (rest_of row))) e in
      filled-line row.is_left_blank row.is_lazy (cond row.stays b.leaf closed) (rest_of row) lazy open_row

  -- the open text is not used up
  abbrev Fits : Known → Type 0
  Fits k = is_paragraph k.before.leaf ≡ true → IsPlain k.text

  row-plain : on.gfm_table ≡ false → (k : Known) (n : ℕ) (line : Line) → Fits k → row_of on k n line ≡ without.row_of on k.before n line
  row-plain tables-off k n line fits =
      let r = without.row_of on k.before n line in
      untabled-row on tables-off k n line ∙ ap (λ x. record r { leaf = cond x open_paragraph r.leaf })
      (no-underline on.definition r.stays (is_paragraph k.before.leaf) (is_some (underline_rank on (rest_of r))) (is_used_up k.text) (λ e. not-used-up k.text (fits e)))

  module _ (k : Known) (n : ℕ) (line : Line) where
    abbrev row : Row
    row = without.row_of on k.before n line

    either-text : (s p : Bool) → (p ≡ true → IsPlain k.text) → IsPlain (rest_of row) → IsPlain (cond (s && p) (k.text ++ 10 ∷ rest_of row) (rest_of row))
    either-text true true fits h = plain-longer k.text (rest_of row) (fits refl)
    either-text true false fits h = h
    either-text false p fits h = h

    text-fits : Fits k → HasNoBracket row → Fits (known_after on k row)
    text-fits fits bare open_after =
        let open_row = leaf-open k.before row open_after in
        let filled = row-filled k.before n line open_row in
        subst IsPlain (sym (ap (λ x. cond x (cond (is_behind_text k.before row) (k.text ++ 10 ∷ rest_of row) (rest_of row)) []) open_row))
        (either-text row.stays (is_paragraph k.before.leaf) fits (bare, filled))

  rows-plain : on.gfm_table ≡ false → (ls : List Line) (k : Known) (n : ℕ) → Fits k → AllByRecursion HasNoBracket (without.rows_from on k.before n ls) → rows_from on k n ls ≡ without.rows_from on k.before n ls
  rows-plain tables-off [] k n fits h = refl
  rows-plain tables-off (l ∷ ls) k n fits h =
      let r = without.row_of on k.before n l in
      ap (λ x. x ∷ rows_from on (known_after on k x) (suc n) ls) (row-plain tables-off k n l fits)
      ∙ ap (λ rs. r ∷ rs) (rows-plain tables-off ls (known_after on k r) (suc n) (text-fits k n l fits h.0) h.1)

  none-plain : (rs : List Row) → AllByRecursion HasNoBracket rs → defined_in on rs ≡ 0
  none-plain rs h = by on.definition (lines_defined (text_in (paragraph_of rs))) (none-defined-in (text_in (paragraph_of rs)) (no-bracket-in rs h))
    where
      by : (x : Bool) (n : ℕ) → n ≡ 0 → cond x n 0 ≡ 0
      by true n e = e
      by false n e = refl

-- a line of containers alone has no bracket in front, and is in no table
both-hold : (rs : List Row) → AllByRecursion HasNoBracket rs → AllByRecursion (λ r. is_in_table r ≡ false) rs → AllByRecursion (λ r. HasNoBracket r × (is_in_table r ≡ false)) rs
both-hold [] h k = tt
both-hold (r ∷ rs) h k = ((h.0, k.0), both-hold rs h.1 k.1)

pub definitions-need-brackets : DefinitionsNeedBrackets
definitions-need-brackets on tables-off bytes seats h =
    let lines = lines_in seats in
    undefined-document on bytes seats (λ r. HasNoBracket r × (is_in_table r ≡ false)) (λ rs are. none-plain on rs (every-map (λ r. HasNoBracket r × (is_in_table r ≡ false)) HasNoBracket (λ r k. k.0) rs are)) (λ r k. k.1)
    (rows-plain on tables-off lines (record { before = nothing_known on; text = [] }) 1 (λ e. absurd (false≢true e)) h) (both-hold (without.rows on lines) h (plain-untabled on (nothing_known on) 1 lines))

pub blocks-need-brackets : BlocksNeedBrackets
blocks-need-brackets g tables-off h = same-blocks g (definitions-need-brackets g.options.constructs tables-off g.bytes (virtual g.tab g.bytes) h)
