-- The markers of the quotes of a document are near if indented code is on, and else none of them are.
use Rattle.std.proofs.Common.{◌≡◌, ℕ, zero, suc, Bool, true, false, cond, List, [], ◌∷◌, None, Option, Some, drop, length, refl, subst, sym}
use Rattle.std.proofs.lemmas.Option.{none-some, same_Some}
use Rattle.std.specs.List.{AllByRecursion}
use Rattle.std.specs.Prelude.{◌==◌, ◌&&◌, ◌||◌, nat_le}
use Rattle.markdown_base.proofs.Common.{every-append, every-take}
use Rattle.markdown_base.specs.declared.configuration.Constructs.{Constructs}
use Rattle.mdblock_leaf_blocks.specs.LeafBlocks.{Line}
use Rattle.mdblock_leaf_blocks.specs.LineKinds.{begins_with, indent, is_blank_line, is_thematic_break, unindented}
use Rattle.mdblock_lines.specs.Containers.{Container, Prefix, begins, footnote, footnote_at, is_footnote, item, item_at, may_begin_item, quote, quote_size}
use Rattle.mdblock_containers.proofs.RowFacts.{went_are}
use Rattle.mdblock_containers.specs.Prefixes.{beginning, containers_of, in_place_of, with_list}
use Rattle.mdblock_containers.specs.Rows.{Row, is_raw}
use Rattle.mdblock_definitions.proofs.KnownRows.{changed-stack}
use Rattle.mdblock_definitions.specs.Rows.{Known, known_after, row_of}
use Rattle.mdblock_definitions.specs.BlankLines.{containers_in}
use Rattle.mddocument_rules.proofs.BegunPlaces.{ended, in_paragraph, left, new}

module _ (on : Constructs) where
  -- a quote is as it begins
  abbrev pub IsNear : Container → Type 0
  IsNear (quote q) = q.is_near ≡ on.code_indented
  IsNear (item i) = Unit {0}
  IsNear (footnote f) = Unit {0}

  abbrev pub AreNear : List Container → Type 0
  AreNear cs = AllByRecursion IsNear cs

  abbrev BeginNear : List Prefix → Type 0
  BeginNear ps = AllByRecursion (λ (p : Prefix). IsNear p.container) ps

  -- ---- containers that begin
  begins-near : (n : ℕ) (in_text : Bool) (t : List ℕ) (p : Prefix) → begins on n in_text t ≡ Some p → IsNear p.container
  begins-near n in_text t p e =
      by ((on.code_indented && nat_le 4 (indent t)) || (is_blank_line t || (on.thematic_break && is_thematic_break (unindented t)))) (on.block_quote && begins_with 62 (unindented t)) (on.gfm_footnote_definition && is_footnote (unindented t)) (on.list_item && may_begin_item in_text (unindented t)) e
    where
      by : (past q f l : Bool) → cond past None (cond q (Some (record { container = quote (record { line = n; is_near = on.code_indented }); size = quote_size t })) (cond f (Some (footnote_at n t)) (cond l (Some (item_at n t)) None))) ≡ Some p → IsNear p.container
      by true q f l h = absurd (none-some p h)
      by false true f l h = subst (λ (x : Prefix). IsNear x.container) (same_Some (record { container = quote (record { line = n; is_near = on.code_indented }); size = quote_size t }) p h) refl
      by false false true l h = subst (λ (x : Prefix). IsNear x.container) (same_Some (footnote_at n t) p h) tt
      by false false false true h = subst (λ (x : Prefix). IsNear x.container) (same_Some (item_at n t) p h) tt
      by false false false false h = absurd (none-some p h)

  all-begin-near : (bound n : ℕ) (in_text : Bool) (t : List ℕ) → BeginNear (beginning on bound n in_text t)
  all-begin-near zero n in_text t = tt
  all-begin-near (suc bound) n in_text t = by (all-begin-near bound n false) (begins on n in_text t) refl
    where
      by : ((u : List ℕ) → BeginNear (beginning on bound n false u)) → (o : Option Prefix) → begins on n in_text t ≡ o → BeginNear (elim o as (λ _. List Prefix) [ None ↦ [] | Some p ↦ p ∷ beginning on bound n false (drop p.size t) ])
      by rest None e = tt
      by rest (Some p) e = (begins-near n in_text t p e, rest (drop p.size t))

  placed-near : (old new : Container) → IsNear new → IsNear (in_place_of old new)
  placed-near (quote q) c h = h
  placed-near (footnote f) c h = h
  placed-near (item i) (quote q) h = h
  placed-near (item i) (footnote f) h = h
  placed-near (item i) (item j) h = tt

  listed-near : (cs : List Container) (ps : List Prefix) → BeginNear ps → BeginNear (with_list cs ps)
  listed-near [] ps h = h
  listed-near (c ∷ cs) [] h = tt
  listed-near (c ∷ cs) (p ∷ ps) h = (placed-near c p.container h.0, h.1)

  containers-near : (ps : List Prefix) → BeginNear ps → AreNear (containers_of ps)
  containers-near [] h = tt
  containers-near (p ∷ ps) h = (h.0, containers-near ps h.1)

  -- ---- those of a line, and those that are open behind it
  module _ (k : Known) (n : ℕ) (l : Line) (near : AreNear k.before.stack) where
    abbrev row : Row
    row = row_of on k n l

    begun-near : AreNear (containers_of row.begun)
    begun-near = by ((length row.went_on == k.before.depth) && is_raw k.before.leaf)
      where
        by : (x : Bool) → AreNear (containers_of (cond x [] (with_list (ended on k n l) (new on k n l))))
        by true = tt
        by false = containers-near (with_list (ended on k n l) (new on k n l)) (listed-near (ended on k n l) (new on k n l) (all-begin-near (length (left on k n l)) n (in_paragraph on k n l) (left on k n l)))

    line-near : AreNear (containers_in row)
    line-near =
        every-append IsNear (containers_of row.went_on) (containers_of row.begun) (subst AreNear (sym (went_are on k.before n l)) (every-take IsNear (length row.went_on) k.before.stack near)) begun-near

    pub open-near : AreNear (known_after on k row).before.stack
    open-near = subst AreNear (sym (changed-stack on k n l)) (by (row.is_left_blank || row.is_lazy))
      where
        by : (x : Bool) → AreNear (cond x k.before.stack (containers_in row))
        by true = near
        by false = line-near
