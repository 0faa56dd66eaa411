-- What stands between two chunks of a skeleton gives white space: it is of prefixes of lines.
use Rattle.mddocument_rules.proofs.Prelude.{◌≡◌, ◌∙◌, ℕ, suc, zero, ◌+◌, Bool, true, List, [], ◌∷◌, ◌++◌, append_assoc, None, Some, ap, every-back, every-front, refl, subst, sym, AllByRecursion, Event, Exit, Name, Seat, between, document_skeleton, event, next_of, virtual, Given, IsDocument, Known, Mark, Row, Section, lines_in, nothing_known, prefixes_marks, rows, sections, span_marks}
use Rattle.std.proofs.lemmas.List.{append_cancel_right, map-append}
use Rattle.std.specs.Prelude.{◌<◌}
use Rattle.markdown_base.specs.declared.event.Name.TheVariants as name
use Rattle.mdblock_definitions.proofs.Covered.{rows_of, sections-hold-lines}
use Rattle.mdblock_definitions.proofs.SectionsReady.{document-goes, marks}
use Rattle.mdblock_leaf_blocks.proofs.Lines.WholeLines.{whole-lines}
use Rattle.mdblock_leaf_blocks.proofs.Marks.MarkAccounts.{bare}
use Rattle.mdconstructs_machines.proofs.BlockReads.Accounts.{lines-are-all}
use Rattle.mdinline_labels.specs.Labels.{is_label_white}
use Rattle.mddocument_link_targets.specs.Strings.{as_written}
use Rattle.mddocument_rules.proofs.AddedSpace.{told}
use Rattle.mddocument_rules.proofs.AlikeTexts.{AreWhite}
use Rattle.mddocument_rules.proofs.Definitions.{IsKept, kept, prefixes-are}
use Rattle.mddocument_rules.proofs.Gaps.{AllOk, BetweenChunks, Gapped, IsLocal, gap-ok}
use Rattle.mddocument_rules.proofs.LaidRows.{IsRow, lines-placed, prefix-gap, rows-are}
use Rattle.mddocument_rules.proofs.SectionGaps.{sections-gapped}
use Rattle.mddocument_rules.proofs.WrittenPrefixes.{IsGap}
use Rattle.mddocument_rules.proofs.WrittenSpans.{exit-gives}

module _ (bytes : List ℕ) where
  -- an event gives white space, by those behind it
  abbrev pub GivesWhite : Event → List Event → Type 0
  GivesWhite e es = AreWhite (told bytes e es)

  pub exit-white : (e : Event) (es : List Event) → e.kind ≡ Exit → GivesWhite e es
  exit-white e es exits = subst AreWhite (sym (exit-gives bytes e es exits)) tt

  -- what events give, before others
  abbrev pub told_sum : List Event → List Event → List ℕ
  told_sum [] zs = []
  told_sum (e ∷ es) zs = told bytes e (es ++ zs) ++ told_sum es zs

  pub sum-is : (es zs : List Event) → as_written bytes (es ++ zs) ≡ told_sum es zs ++ as_written bytes zs
  sum-is [] zs = refl
  sum-is (e ∷ es) zs = ap (λ l. told bytes e (es ++ zs) ++ l) (sum-is es zs) ∙ sym (append_assoc (told bytes e (es ++ zs)) (told_sum es zs) (as_written bytes zs))

  abbrev AllTold : List Event → List Event → Type 0
  AllTold [] zs = Unit {0}
  AllTold (e ∷ es) zs = GivesWhite e (es ++ zs) × AllTold es zs

  all-told : (es zs : List Event) → AreWhite (told_sum es zs) → AllTold es zs
  all-told [] zs w = tt
  all-told (e ∷ es) zs w =
      let W : ℕ → Type 0 = λ c. is_label_white c ≡ true in
      (every-front W (told bytes e (es ++ zs)) (told_sum es zs) w, all-told es zs (every-back W (told bytes e (es ++ zs)) (told_sum es zs) w))

  gap-told : (ms : List Mark) → IsGap bytes ms → (zs : List Event) → AllTold (bare ms) zs
  gap-told ms h zs = all-told (bare ms) zs (subst AreWhite (append_cancel_right h.text (told_sum (bare ms) zs) (as_written bytes zs) (sym (h.gives zs) ∙ sum-is (bare ms) zs)) h.white)

  -- ---- marks that begin no chunk
  abbrev Alone : List Mark → Type 0
  Alone [] = Unit {0}
  Alone ((e, None) ∷ ms) = Alone ms
  Alone ((e, Some c) ∷ ms) = ⊥

  alone-both : (xs ys : List Mark) → Alone xs → Alone ys → Alone (xs ++ ys)
  alone-both [] ys h k = k
  alone-both ((e, None) ∷ xs) ys h k = alone-both xs ys h k
  alone-both ((e, Some c) ∷ xs) ys h k = absurd h

  alone-span : (n : Name) (seats : List Seat) (inside : List Mark) → Alone inside → Alone (span_marks bytes n seats inside)
  alone-span n [] inside h = h
  alone-span n (s ∷ ss) inside h = alone-both inside (_ ∷ []) h tt

  alone-kept : IsKept bytes Alone
  alone-kept = kept tt alone-both (λ n seats inside f h. alone-span n seats inside h)

  white-between : (ms ys : List Mark) (waits : Bool) → Alone ms → AllTold (bare ms) (bare ys) → Gapped GivesWhite waits ys → Gapped GivesWhite waits (ms ++ ys)
  white-between [] ys waits a h g = g
  white-between ((e, None) ∷ ms) ys waits a h g = ((λ w. subst (GivesWhite e) (sym (map-append (λ (m : Mark). m.0) ms ys)) h.0), white-between ms ys waits a h.1 g)
  white-between ((e, Some c) ∷ ms) ys waits a h g = absurd a

  white-local : IsLocal GivesWhite
  white-local e zero i previous ms h = tt
  white-local e (suc j) i previous [] h = tt
  white-local e (suc j) i previous ((f, None) ∷ ms) h = h
  white-local e (suc j) i previous ((f, Some c) ∷ ms) h = h

  module _ (t : ℕ) (some : 0 < t) where
    row-between : (row : Row) → IsRow t bytes row → BetweenChunks GivesWhite (prefixes_marks bytes row.went_on row.line)
    row-between row h =
        let ms = prefixes_marks bytes row.went_on row.line in
        record { go = λ waits ys g. white-between ms ys waits (prefixes-are alone-kept row.went_on row.line) (gap-told ms (prefix-gap t bytes some row h) (bare ys)) g }

-- So it is between the chunks of a document's skeleton
module _ (g : Given) (is : IsDocument g) where
  abbrev all_sections : List Section
  all_sections = sections g.options.constructs (rows g.options.constructs (lines_in (virtual g.tab g.bytes)))

  all-rows : AllByRecursion (IsRow g.tab g.bytes) (rows_of all_sections)
  all-rows =
      let on = g.options.constructs in
      let seats = virtual g.tab g.bytes in
      let ls = lines_in seats in
      let k : Known = record { before = nothing_known on; text = [] } in
      let all : rows_of all_sections ≡ rows on ls = sections-hold-lines on (rows on ls) in
      let placed = lines-placed g.tab g.bytes [] ls (sym (lines-are-all seats)) (whole-lines seats) in
      subst (AllByRecursion (IsRow g.tab g.bytes)) (sym all) (rows-are g.tab g.bytes on k 1 ls placed)

  pub skeleton-white : (k d : ℕ) → next_of (document_skeleton g) k ≡ Some d → AllOk (GivesWhite g.bytes) (between (k + 2) d (document_skeleton g))
  skeleton-white k d next =
      let W = GivesWhite g.bytes in
      let gapped = sections-gapped g.bytes W (λ p es. exit-white g.bytes (event g.bytes Exit name.Data p) es refl) (IsRow g.tab g.bytes) (row-between g.bytes g.tab is.tab.0) all_sections all-rows in
      gap-ok W (white-local g.bytes) (marks g is) (document-goes g is).runs gapped k d next
