-- Tables can be off.
use Rattle.std.proofs.Common.{◌≡◌, ℕ, zero, suc, Bool, true, false, cond, List, [], ◌∷◌, ◌++◌, drop, length, refl, sym, ap, ◌∙◌}
use Rattle.std.specs.List.{flat_map}
use Rattle.markdown_base.specs.declared.configuration.Constructs.{Constructs}
use Rattle.markdown_base.proofs.Common.{every-drop, every-take}
use Rattle.mdblock_leaf_blocks.specs.LeafBlocks.{Line}
use Rattle.mdblock_containers.specs.Rows.{Row, nothing_known, rows_by}
use Rattle.mdblock_containers.specs.Skeleton.{Part, further, parts_in}
use Rattle.mdblock_containers.proofs.RestLemmas.{part_of}
use Rattle.mdblock_definitions.specs.Laws.{TablesCanBeOff, cut_at_definitions, rows_without}
use Rattle.mdblock_definitions.specs.Rows.{Known, known_after, row_without, rows_from}
use Rattle.mdblock_definitions.specs.Sections.{Section, cut, is_in_table, lines, sections_in}
use Rattle.mdblock_definitions.specs.Skeleton.{all_rows}
use Rattle.mdblock_definitions.proofs.FilledTexts.{without-none}
use Rattle.mdblock_definitions.proofs.SectionSound.{NoTable, cut-blank, cut-filled, no-table}
use Rattle.mdblock_definitions.proofs.Without.{untabled-row}

module _ (on : Constructs) (off : on.gfm_table ≡ false) where
  rows-same : (ls : List Line) (k : Known) (n : ℕ) → rows_from on k n ls ≡ rows_by (row_without on) (known_after on) k n ls
  rows-same [] k n = refl
  rows-same (l ∷ ls) k n =
      ap (λ r. r ∷ rows_from on (known_after on k r) (suc n) ls) (untabled-row on off k n l) ∙ ap (λ rs. row_without on k n l ∷ rs) (rows-same ls (known_after on k (row_without on k n l)) (suc n))

  none-tabled : (ls : List Line) (k : Known) (n : ℕ) → NoTable on (rows_by (row_without on) (known_after on) k n ls)
  none-tabled [] k n = tt
  none-tabled (l ∷ ls) k n = (without-none on k n l, none-tabled ls (known_after on k (row_without on k n l)) (suc n))

  part-same : (p : Part) → NoTable on (p.first ∷ p.more) → cut on p ≡ cut_at_definitions on p
  part-same p none = by p.first.is_blank refl
    where
      here : Bool → List Section
      here b = cond b (record { part = p; inside = lines false } ∷ []) (sections_in on (suc (length p.more)) false p (all_rows p))

      by : (b : Bool) → p.first.is_blank ≡ b → cut on p ≡ cut_at_definitions on p
      by true e = cut-blank on p e ∙ sym (ap here e)
      by false e = cut-filled on p e (no-table on (p.first ∷ p.more) none) ∙ sym (ap here e)

  parts-same : (b : ℕ) (rs : List Row) → NoTable on rs → flat_map (cut on) (parts_in b rs) ≡ flat_map (cut_at_definitions on) (parts_in b rs)
  parts-same zero rs h = refl
  parts-same (suc b) [] h = refl
  parts-same (suc b) (r ∷ rs) h =
      let n = cond r.is_blank 0 (further rs) in
      let p : Part = part_of r rs in
      ap (λ ss. ss ++ flat_map (cut on) (parts_in b (drop n rs))) (part-same p (h.0, every-take (λ (q : Row). is_in_table q ≡ false) n rs h.1))
      ∙ ap (λ ss. cut_at_definitions on p ++ ss) (parts-same b (drop n rs) (every-drop (λ (q : Row). is_in_table q ≡ false) n rs h.1))

pub tables-can-be-off : TablesCanBeOff
tables-can-be-off on off ls =
    let k : Known = record { before = nothing_known on; text = [] } in
    let rs = rows_without on ls in
    ap (λ (all : List Row). flat_map (cut on) (parts_in (length all) all)) (rows-same on off ls k 1) ∙ parts-same on off (length rs) rs (none-tabled on off ls k 1)
