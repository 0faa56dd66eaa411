-- The cells that a row lacks, one after another.
use Rattle.std.proofs.Common.{◌≡◌, ℕ, suc, ◌-◌, ◌<◌, ◌≤◌, List, [], ◌++◌, ap, sym, ◌∙◌, arith, Option, None, Some}
use Rattle.std.specs.Prelude.{zero, Bool}
use Rattle.markdown_base.specs.declared.event.Event.{Event}
use Rattle.markdown_base.specs.declared.event.Name.TheVariants as name
use Rattle.mddocument_link_targets.specs.Spans.{first_in}
use Rattle.mdhtml_document.specs.Html.{alignment_of, behind_column, empty_cell, empty_cells}
use Rattle.mdhtml_document.specs.Written.{after}
use Rattle.mdhtml_document.proofs.Written.{after-append}
use Rattle.mdhtml_markup.specs.Pieces.{Piece}

-- behind bytes, by the first column that is left and what is written for the others
abbrev by : (old : List ℕ) (head : Bool) (rest : List Piece) → Option (List Event) → List ℕ
by old head rest o = after old (elim o as (λ (_ : Option (List Event)). List Piece) [ None ↦ [] | Some c ↦ empty_cell head (alignment_of c) ++ rest ])

pub one_more : (most : ℕ) (head : Bool) (columns column : List Event) (old out whole : List ℕ) → 0 < most → first_in name.GfmTableDelimiterCell columns ≡ Some column
    → out ≡ after old (empty_cell head (alignment_of column)) → after old (empty_cells most head columns) ≡ whole
    → after out (empty_cells (most - 1) head (behind_column columns)) ≡ whole
one_more zero head columns column old out whole h is written before = absurd (omega (arith, h))
one_more (suc n) head columns column old out whole h is written before =
    let less : suc n - 1 ≡ n = omega arith in
    let rest = empty_cells n head (behind_column columns) in
    ap (λ m. after out (empty_cells m head (behind_column columns))) less ∙ ap (λ (x : List ℕ). after x rest) written
    ∙ sym (after-append old (empty_cell head (alignment_of column)) rest) ∙ ap (by old head rest) (sym is) ∙ before

pub no_more : (most : ℕ) (head : Bool) (columns : List Event) (old whole : List ℕ) → first_in name.GfmTableDelimiterCell columns ≡ None
    → after old (empty_cells most head columns) ≡ whole → old ≡ whole
no_more zero head columns old whole is before = before
no_more (suc n) head columns old whole is before = sym (ap (by old head (empty_cells n head (behind_column columns))) is) ∙ before

pub none_left : (most : ℕ) (head : Bool) (columns : List Event) (old whole : List ℕ) → most ≤ 0 → after old (empty_cells most head columns) ≡ whole → old ≡ whole
none_left zero head columns old whole h before = before
none_left (suc n) head columns old whole h before = absurd (omega (arith, h))
