-- What is told of each line of a document by the lines before it: whether it begins a paragraph, or goes on with one, and why.
use Rattle.std.proofs.Common.{◌≡◌, ◌⊎◌, ◌∙◌, ◌≤◌, ◌==◌, ℕ, zero, suc, Bool, true, false, cond, List, [], ◌∷◌, ◌++◌, ap, drop, inl, inr, length, not, refl, subst, sym, take}
use Rattle.std.specs.Prelude.{◌&&◌, ◌||◌, is_some}
use Rattle.std.specs.List.{AllByRecursion}
use Rattle.std.proofs.lemmas.Bool.{false≢true}
use Rattle.markdown_base.proofs.Common.{and-right}
use Rattle.markdown_base.proofs.Facts.Bools.{and-left}
use Rattle.markdown_base.specs.declared.configuration.Constructs.{Constructs}
use Rattle.mdblock_leaf_blocks.proofs.Lines.WholeLines.{IsWhole}
use Rattle.mdblock_leaf_blocks.specs.HtmlLines.{waits_for_blank}
use Rattle.mdblock_leaf_blocks.specs.HtmlLines as html_lines
use Rattle.mdblock_leaf_blocks.specs.LeafBlocks.{Line, interrupts, text_of}
use Rattle.mdblock_leaf_blocks.specs.LineKinds.{LineKind, blank, closes, fence, heading, html, indented, is_blank_line, line_kind, text, thematic_break, underline_rank}
use Rattle.mdblock_containers.proofs.FrameFacts.{lazy_is, lazy_stays, left_is}
use Rattle.mdblock_containers.proofs.RowFacts.{columns_within}
use Rattle.mdblock_containers.specs.Prefixes.{containers_of}
use Rattle.mdblock_containers.specs.Rows.{Before, Leaf, Row, closed, has_none, is_paragraph, leaf_after, open_fence, open_html, open_paragraph, opened_by, rest_of, open_table, is_table}
use Rattle.mdblock_containers.specs.Rows as without
use Rattle.mdblock_definitions.proofs.PlainLetters.{open-not-blank}
use Rattle.mdblock_definitions.proofs.SectionTurns.{IsOpenWithText}
use Rattle.mdblock_definitions.proofs.FilledTexts.{text-without}
use Rattle.mdblock_definitions.specs.Rows.{Known, is_behind_text, is_used_up, known_after, row_of, rows_from, underlines_nothing}

not-so : (x : Bool) → not x ≡ true → x ≡ false
not-so true h = absurd (false≢true h)
not-so false h = refl

module _ (on : Constructs) where
  -- a line ends the text before it, by its bytes: it is its underline, or interrupts it
  abbrev pub ends : List ℕ → Bool
  ends t = is_some (underline_rank on t) || interrupts (line_kind on t)

  -- why a line goes on with a paragraph: it does not end its text; or it would be an underline, but is lazy
  abbrev pub IsMore : Row → Type 0
  IsMore r = (ends (rest_of r) ≡ false) ⊎ ((r.is_lazy ≡ true) × (is_some (underline_rank on (rest_of r)) ≡ true))

  -- or it would be an underline of definitions alone
  pub record IsUnderDefinitions (so_far : List ℕ) (r : Row) : Type 0 where
    pub on_is : on.definition ≡ true
    pub underline : is_some (underline_rank on (rest_of r)) ≡ true
    pub used : is_used_up so_far ≡ true

  -- What is told of a line, where a paragraph with this text is open before it, or none
  pub record Told (is_open : Bool) (so_far : List ℕ) (r : Row) : Type 0 where
    pub whole : IsWhole r.line
    pub within : r.columns ≤ length (text_of r.line)
    pub full : IsOpenWithText r
    pub blank : r.is_blank ≡ true → is_paragraph r.leaf ≡ false
    pub left : r.is_left_blank ≡ true → is_paragraph r.leaf ≡ false
    pub more : is_paragraph r.leaf ≡ true → (r.stays && is_open) ≡ true → IsMore r ⊎ IsUnderDefinitions so_far r
    pub begins : is_paragraph r.leaf ≡ true → (r.stays && is_open) ≡ false → (line_kind on (rest_of r) ≡ text) × (r.is_lazy ≡ false)

  -- ---- one line

  -- a line that opens a paragraph is text
  opened-text : (kind : LineKind) (t : List ℕ) → is_paragraph (opened_by on kind t) ≡ true → kind ≡ text
  opened-text blank t h = absurd (false≢true h)
  opened-text indented t h = absurd (false≢true h)
  opened-text heading t h = absurd (false≢true h)
  opened-text (fence f) t h = absurd (false≢true h)
  opened-text (html kind) t h = absurd (by (html_lines.ends kind t) h)
    where
      by : (x : Bool) → is_paragraph (cond x closed (open_html kind)) ≡ true → ⊥
      by true h = false≢true h
      by false h = false≢true h
  opened-text thematic_break t h = absurd (false≢true h)
  opened-text text t h = refl

  -- one with which a leaf block goes on
  goes : (s : Bool) (leaf : Leaf) (t : List ℕ) → is_paragraph (leaf_after on (cond s leaf closed) t) ≡ true
      → ((s && is_paragraph leaf) ≡ true → ends t ≡ false) × ((s && is_paragraph leaf) ≡ false → line_kind on t ≡ text)
  goes false leaf t h = ((λ e. absurd (false≢true e)), (λ e. opened-text (line_kind on t) t h))
  goes true closed t h = ((λ e. absurd (false≢true e)), (λ e. opened-text (line_kind on t) t h))
  goes true open_table t h = ((λ e. absurd (false≢true e)), (λ e. opened-text (line_kind on t) t h))
  goes true (open_fence f) t h = absurd (by (closes on f t) h)
    where
      by : (x : Bool) → is_paragraph (cond x closed (open_fence f)) ≡ true → ⊥
      by true h = false≢true h
      by false h = false≢true h
  goes true (open_html kind) t h = absurd (by (cond (waits_for_blank kind) (is_blank_line t) (html_lines.ends kind t)) h)
    where
      by : (x : Bool) → is_paragraph (cond x closed (open_html kind)) ≡ true → ⊥
      by true h = false≢true h
      by false h = false≢true h
  goes true open_paragraph t h = ((λ e. by (is_some (underline_rank on t)) (interrupts (line_kind on t)) refl refl h), (λ e. absurd (false≢true (sym e))))
    where
      by : (u i : Bool) → is_some (underline_rank on t) ≡ u → interrupts (line_kind on t) ≡ i → is_paragraph (cond u closed (cond i (opened_by on (line_kind on t) t) open_paragraph)) ≡ true → ends t ≡ false
      by true i eu ei h = absurd (false≢true h)
      by false true eu ei h = absurd (false≢true (ap interrupts (sym (opened-text (line_kind on t) t h)) ∙ ei))
      by false false eu ei h = (λ k. eu k || ei k)

  module _ (k : Known) (n : ℕ) (line : Line) where
    abbrev plain : Row
    plain = without.row_of on k.before n line

    abbrev here : Row
    here = row_of on k n line

    abbrev open_before : Bool
    open_before = is_paragraph k.before.leaf

    abbrev AsPlain : Type 0
    AsPlain = ((plain.stays && open_before) ≡ true → IsMore plain) × ((plain.stays && open_before) ≡ false → (line_kind on (rest_of plain) ≡ text) × (plain.is_lazy ≡ false))

    lazy-told : plain.is_lazy ≡ true → AsPlain
    lazy-told e =
        let kind = interrupts (line_kind on (rest_of plain)) in
        let rest = and-right (not (length plain.went_on == k.before.depth)) (has_none plain.begun && (open_before && not kind)) e in
        let none = not-so kind (and-right open_before (not kind) (and-right (has_none plain.begun) (open_before && not kind) rest)) in
        let stays = lazy_stays on k.before n line e in
        let is-open = (lazy_is on k.before n line e).1 in
        ((λ s. by none (is_some (underline_rank on (rest_of plain))) refl), (λ s. absurd (false≢true (sym s ∙ (λ i. stays i && is-open i)))))
      where
        by : interrupts (line_kind on (rest_of plain)) ≡ false → (u : Bool) → is_some (underline_rank on (rest_of plain)) ≡ u → IsMore plain
        by none true eu = inr (e, eu)
        by none false eu = inl (λ i. eu i || none i)

    plain-told : is_paragraph plain.leaf ≡ true → AsPlain
    plain-told h = by plain.is_left_blank plain.is_lazy refl h
      where
        by : (x y : Bool) → plain.is_lazy ≡ y → is_paragraph (cond x closed (cond y open_paragraph (leaf_after on (cond plain.stays k.before.leaf closed) (rest_of plain)))) ≡ true → AsPlain
        by true y ey e = absurd (false≢true e)
        by false true ey e = lazy-told ey
        by false false ey e = let g = goes plain.stays k.before.leaf (rest_of plain) e in ((λ s. inl (g.0 s)), (λ s. (g.1 s, ey)))

    nothing-is : underlines_nothing on k plain ≡ true → ((plain.stays && open_before) ≡ true) × IsUnderDefinitions k.text here
    nothing-is e =
        let u = is_some (underline_rank on (rest_of plain)) in
        let v = is_used_up k.text in
        let all = and-right on.definition (is_behind_text k.before plain && (u && v)) e in
        let last = and-right (is_behind_text k.before plain) (u && v) all in
        (and-left (is_behind_text k.before plain) (u && v) all, record { on_is = and-left on.definition (is_behind_text k.before plain && (u && v)) e; underline = and-left u v last; used = and-right u v last })

    blank-shut : here.is_blank ≡ true → is_paragraph here.leaf ≡ false
    blank-shut h = by (is_paragraph here.leaf) refl
      where
        by : (x : Bool) → is_paragraph here.leaf ≡ x → is_paragraph here.leaf ≡ false
        by true e = absurd (false≢true (sym (open-not-blank on k n line e) ∙ h))
        by false e = e

    pub row-told : IsWhole line → Told open_before k.text here
    row-told whole = record {
      whole = whole;
      within = columns_within on k.before n line;
      full = open-not-blank on k n line;
      blank = blank-shut;
      left = λ h. blank-shut (left_is on k.before n line h).0;
      more = λ h s. more (underlines_nothing on k plain) refl (alone h) s;
      begins = λ h s. begins (underlines_nothing on k plain) refl (alone h) s;
    }
      where
        -- it is in no table
        alone : is_paragraph here.leaf ≡ true → is_paragraph (cond (underlines_nothing on k plain) open_paragraph plain.leaf) ≡ true
        alone h = text-without on k n line (ap (λ b. b || is_table here.leaf) h)

        more : (u : Bool) → underlines_nothing on k plain ≡ u → is_paragraph (cond u open_paragraph plain.leaf) ≡ true → (plain.stays && open_before) ≡ true → IsMore here ⊎ IsUnderDefinitions k.text here
        more true e h s = inr (nothing-is e).1
        more false e h s = inl ((plain-told h).0 s)

        begins : (u : Bool) → underlines_nothing on k plain ≡ u → is_paragraph (cond u open_paragraph plain.leaf) ≡ true → (plain.stays && open_before) ≡ false → (line_kind on (rest_of here) ≡ text) × (here.is_lazy ≡ false)
        begins true e h s = absurd (false≢true (sym s ∙ (nothing-is e).0))
        begins false e h s = (plain-told h).1 s

    -- the leaf block behind a line is the line's
    leaf-kept : is_paragraph (known_after on k here).before.leaf ≡ is_paragraph here.leaf
    leaf-kept = by here.is_left_blank refl here.is_lazy
      where
        by : (left : Bool) → here.is_left_blank ≡ left → (lazy : Bool)
            → let all = containers_of here.went_on ++ containers_of here.begun in
            is_paragraph (let b : Before = cond left (record k.before { depth = length here.went_on; leaf = closed }) (cond lazy (record k.before { leaf = here.leaf }) (record { stack = all; depth = length all; leaf = here.leaf })) in b).leaf ≡ is_paragraph here.leaf
        by true e lazy = sym (blank-shut (left_is on k.before n line e).0)
        by false e true = refl
        by false e false = refl

  -- ---- lines one after another

  -- the text of the paragraph that is open behind a line
  abbrev pub text_behind : (is_open : Bool) → (so_far : List ℕ) → Row → List ℕ
  text_behind is_open so_far r = cond (is_paragraph r.leaf) (cond (r.stays && is_open) (so_far ++ 10 ∷ rest_of r) (rest_of r)) []

  abbrev pub AreTold : (is_open : Bool) → (so_far : List ℕ) → List Row → Type 0
  AreTold is_open so_far [] = Unit {0}
  AreTold is_open so_far (r ∷ rs) = Told is_open so_far r × AreTold (is_paragraph r.leaf) (text_behind is_open so_far r) rs

  pub rows-told : (k : Known) (n : ℕ) (ls : List Line) → AllByRecursion IsWhole ls → AreTold (is_paragraph k.before.leaf) k.text (rows_from on k n ls)
  rows-told k n [] h = tt
  rows-told k n (l ∷ ls) h =
      let r = row_of on k n l in (
        row-told k n l h.0,
        subst (λ (b : Bool). AreTold b (text_behind (is_paragraph k.before.leaf) k.text r) (rows_from on (known_after on k r) (suc n) ls)) (leaf-kept k n l) (rows-told (known_after on k r) (suc n) ls h.1),
      )

  pub told-take : (is_open : Bool) (so_far : List ℕ) (n : ℕ) (rs : List Row) → AreTold is_open so_far rs → AreTold is_open so_far (take n rs)
  told-take is_open so_far zero rs h = tt
  told-take is_open so_far (suc n) [] h = tt
  told-take is_open so_far (suc n) (r ∷ rs) h = (h.0, told-take (is_paragraph r.leaf) (text_behind is_open so_far r) n rs h.1)

  -- behind some lines, whatever is open there
  pub record HasTold (rs : List Row) : Type 0 where
    pub is_open : Bool
    pub so_far : List ℕ
    pub told : AreTold is_open so_far rs

  pub told-drop : (n : ℕ) (rs : List Row) → HasTold rs → HasTold (drop n rs)
  told-drop zero rs h = h
  told-drop (suc n) [] h = h
  told-drop (suc n) (r ∷ rs) h = told-drop n rs (record { is_open = is_paragraph r.leaf; so_far = text_behind h.is_open h.so_far r; told = h.told.1 })

  -- what is told of a line, whatever is before it
  pub record IsKept (r : Row) : Type 0 where
    pub whole : IsWhole r.line
    pub within : r.columns ≤ length (text_of r.line)
    pub full : IsOpenWithText r
    pub blank : r.is_blank ≡ true → is_paragraph r.leaf ≡ false
    pub left : r.is_left_blank ≡ true → is_paragraph r.leaf ≡ false

  pub told-kept : (is_open : Bool) (so_far : List ℕ) (rs : List Row) → AreTold is_open so_far rs → AllByRecursion IsKept rs
  told-kept is_open so_far [] h = tt
  told-kept is_open so_far (r ∷ rs) h =
      (record { whole = h.0.whole; within = h.0.within; full = h.0.full; blank = h.0.blank; left = h.0.left }, told-kept (is_paragraph r.leaf) (text_behind is_open so_far r) rs h.1)
