-- A part in which no paragraph begins with definitions is not cut.
use Rattle.std.proofs.Common.{◌≡◌, ◌⊎◌, inl, inr, ℕ, suc, Bool, true, false, cond, List, [], ◌∷◌, ◌++◌, length, drop, take, map, refl, sym, ap, ◌∙◌, append-nil}
use Rattle.std.specs.Prelude.{nat_le}
use Rattle.std.proofs.lemmas.List.{length-take-le}
use Rattle.std.proofs.Math.Seq.{drop-length, take-length}
use Rattle.markdown_base.specs.declared.configuration.Constructs.{Constructs}
use Rattle.mdblock_containers.specs.declared.spans.RowAt.{RowAt}
use Rattle.mdblock_containers.specs.Rows.{Row, is_paragraph}
use Rattle.mdblock_containers.specs.Skeleton.{Part, further, parts_in}
use Rattle.mdblock_containers.proofs.AheadLemmas.{rows_length}
use Rattle.mdblock_containers.proofs.OpenFrames.{none_in}
use Rattle.mdblock_containers.proofs.RestLemmas.{further_few, part_of}
use Rattle.mdblock_table_marks.specs.TableCuts.{before_table}
use Rattle.mdinline_labels.specs.Definitions.{definitions}
use Rattle.mdblock_definitions.specs.Sections.{Section, before_defined, cut, defined_in, defining, in_same, lines, paragraph_of, sections_in, text_in, undefined, is_in_table}
use Rattle.mdblock_definitions.specs.Seen.{AreThese, IsFound, begins_text_at}
use Rattle.mdblock_definitions.specs.Skeleton.{all_rows}
use Rattle.mdblock_definitions.specs.declared.sections.Found.{Found}
use Rattle.mdblock_definitions.proofs.CutAlike.{undefined-is}
use Rattle.mdblock_definitions.proofs.SectionLemmas.{nothing-in, sections-none}
use Rattle.mdblock_definitions.proofs.SectionSound.{cut-filled, none-in}

-- ---- how far a stretch goes

-- the further lines of a stretch have that many further lines
further-again : (rs : List Row) → further (take (further rs) rs) ≡ further rs
further-again [] = refl
further-again (r ∷ rs) = by (further-again rs) (two r.is_left_blank r.stays (nat_le 1 (further rs)))
  where
    two : (x y z : Bool) → let m = cond x (cond z (suc (further rs)) 0) (cond y (suc (further rs)) 0) in (m ≡ 0) ⊎ (m ≡ suc (further rs))
    two true y true = inr refl
    two true y false = inl refl
    two false true z = inr refl
    two false false z = inl refl

    by : further (take (further rs) rs) ≡ further rs → (further (r ∷ rs) ≡ 0) ⊎ (further (r ∷ rs) ≡ suc (further rs)) → further (take (further (r ∷ rs)) (r ∷ rs)) ≡ further (r ∷ rs)
    by again (inl e) = ap (λ m. further (take m (r ∷ rs))) e ∙ sym e
    by again (inr e) =
        ap (λ m. further (take m (r ∷ rs))) e
        ∙ ap (λ k. cond r.is_left_blank (cond (nat_le 1 k) (suc k) 0) (cond r.stays (suc k) 0)) again

-- the further lines of a part are those of its own lines
pub whole-part : (r : Row) (rs : List Row) → r.is_blank ≡ false → further (part_of r rs).more ≡ length (part_of r rs).more
whole-part r rs e =
    ap (λ (x : Bool). further (take (cond x 0 (further rs)) rs)) e
    ∙ further-again rs
    ∙ sym (length-take-le (further rs) rs (further_few rs))
    ∙ ap (λ (x : Bool). length (take (cond x 0 (further rs)) rs)) (sym e)

-- a part that is not cut
abbrev pub plain : Part → Section
plain p = record { part = p; inside = lines false }

module _ (on : Constructs) where
  -- nothing is defined in lines of which the first is no text
  pub no-text : (t : ℕ) (bytes : List ℕ) (xs : List RowAt) (all : List Row) → AreThese t bytes xs all → begins_text_at xs ≡ false → defined_in on all ≡ 0
  no-text t bytes [] [] these e = sym (nothing-in on)
  no-text t bytes [] (r ∷ rs) these e = absurd these.rows
  no-text t bytes (x ∷ xs) [] these e = absurd these.rows
  no-text t bytes (x ∷ xs) (r ∷ rs) these e = none-in on r rs (sym (ap is_paragraph these.rows.0.leaf) ∙ e)

  module _ (p : Part) where
    -- what is made of a part, by its lines before definitions and those from these on
    abbrev pieces : (xs ys : List Row) → (d : ℕ) → List Section
    pieces xs ys d = undefined false p xs ++ (defining (definitions (text_in (paragraph_of ys))) p (take d ys) ++ sections_in on (length p.more) true p (drop d ys))

    -- the parts of these lines behind the first ones, in the spans of the part
    abbrev behind : List Row → List Section
    behind rs = map plain (map (in_same p) (parts_in (length p.more) rs))

    -- sections of a part with so many further lines, and those behind it
    abbrev made : ℕ → List Section
    made n = plain (record p { more = take n p.more }) ∷ behind (drop n p.more)

    pub cut-once : before_defined on false (all_rows p) ≡ length (all_rows p) → p.first.is_blank ≡ false → further p.more ≡ length p.more → before_table is_in_table (all_rows p) ≡ length (all_rows p) → cut on p ≡ plain p ∷ []
    cut-once before filled whole no_table =
        let all = all_rows p in
        cut-filled on p filled no_table
        ∙ ap (λ n. pieces (take n all) (drop n all) (defined_in on (drop n all))) before
        ∙ ap (λ xs. pieces xs (drop (length all) all) (defined_in on (drop (length all) all))) (take-length all)
        ∙ ap (λ ys. pieces all ys (defined_in on ys)) (drop-length all)
        ∙ ap (pieces all []) (sym (nothing-in on))
        ∙ ap (λ ss. undefined false p all ++ ss) (sections-none on (length p.more) true p)
        ∙ append-nil (undefined false p all)
        ∙ undefined-is false p all
        ∙ ap (λ (x : Bool). made (cond x 0 (further p.more))) filled
        ∙ ap made whole
        ∙ ap (λ (rs : List Row). plain (record p { more = rs }) ∷ behind (drop (length p.more) p.more)) (take-length p.more)
        ∙ ap (λ rs. plain p ∷ behind rs) (drop-length p.more)
        ∙ ap (λ ps. plain p ∷ map plain (map (in_same p) ps)) (none_in (length p.more))

  -- the same, by what is found in its lines
  pub found-none : (p : Part) (t : ℕ) (bytes : List ℕ) (xs : List RowAt) (f : Found) → AreThese t bytes xs (all_rows p) → ((all : List Row) → AreThese t bytes xs all → IsFound on f all) → f.before ≡ length xs → p.first.is_blank ≡ false
      → (p.first.is_blank ≡ false → further p.more ≡ length p.more) → before_table is_in_table (all_rows p) ≡ length (all_rows p) → cut on p ≡ plain p ∷ []
  found-none p t bytes xs f these found none filled whole no_table = cut-once p (sym (found (all_rows p) these).before ∙ none ∙ rows_length xs (all_rows p) these.rows) filled (whole filled) no_table
