-- Costs of a state's rows, case by case.
use Rattle.std.proofs.Common.{◌≡◌, ℕ, ◌+◌, ◌-◌, ◌≤◌, List, [], ◌∷◌, true, false, cond, Option, Some, None, length, drop, refl}
use Rattle.markdown_tokenizer.specs.Text.{Text}
use Rattle.mdconstructs_tables.specs.Cases.{Case, rows_in}
use Rattle.mdconstructs_tables.specs.Rows.{Rows}
use Rattle.mdconstructs_tables.specs.RowTest.{never}
use Rattle.mdconstructs_tables.specs.RowInvariant.{AreWithin, Stands, class_in}
use Rattle.mdblock_leaf_rows.specs.FlowBytes.{FlowByte, flow_byte, name_byte, Cased, cased, by_byte, spelled}
use Rattle.mdblock_leaf_rows.specs.FlowTable.{flow}
use Rattle.mdblock_leaf_rows.specs.Laws.Measures.{AreBounded, bounds-at, IsMeasured, measured}

-- no test of these cases passes
abbrev pub NoneOf : List (Case FlowByte Unit Unit) → FlowByte → Type 0
NoneOf [] w = Unit {0}
NoneOf (c ∷ cs) w = (c.test w ≡ false) × NoneOf cs w

-- a property of a class and its rows holds in each case, and for the rest at the classes of no case
abbrev pub InCases : (P : FlowByte → Rows Unit Unit → Type 0) → (front cs : List (Case FlowByte Unit Unit)) → (rest : Rows Unit Unit) → Type 0
InCases P front [] rest = (w : FlowByte) → NoneOf front w → P w rest
InCases P front (c ∷ cs) rest = ((w : FlowByte) → c.test w ≡ true → P w c.rows) × InCases P (c ∷ front) cs rest

in-cases : (P : FlowByte → Rows Unit Unit → Type 0) (front cs : List (Case FlowByte Unit Unit)) (rest : Rows Unit Unit) → InCases P front cs rest
    → (w : FlowByte) → NoneOf front w → P w (rows_in cs rest w)
in-cases P front [] rest h w none = h w none
in-cases P front (c ∷ cs) rest h w none = elim (c.test w) as (λ t. c.test w ≡ t → P w (cond t c.rows (rows_in cs rest w))) [
  | true ↦ λ is. h.0 w is
  | false ↦ λ other. in-cases P (c ∷ front) cs rest h.1 w (other, none)
] refl

module _ (price : Text → ℕ → ℕ) where
  -- the price is enough for rows at a class, and at the end
  abbrev pub PaysAt : FlowByte → Rows Unit Unit → Type 0
  PaysAt w rows = (b : Option FlowByte) (text : Text) (p : ℕ) → IsMeasured w text p → AreWithin flow never b (Some w) text p (price text p) rows

  abbrev pub PaysEnd : Rows Unit Unit → Type 0
  PaysEnd rows = (b : Option FlowByte) (text : Text) (p : ℕ) → AreBounded (drop p text.seats) (length text.seats - p) → AreBounded (drop (p + 1) text.seats) (length text.seats - (p + 1))
      → length text.seats ≤ p → AreWithin flow never b None text p (price text p) rows

  -- and so for all rows of a state
  pub pays : (c : Cased Unit Unit) → PaysEnd c.at_end → InCases PaysAt [] c.cases c.rest
      → (w b previous : Option FlowByte) (text : Text) (p : ℕ) → Stands w text p → class_in flow_byte text p ≡ w
      → AreWithin flow never b w text p (price text p) (cased c previous w)
  pays c ends each None b previous text p at seen = ends b text p (bounds-at text p) (bounds-at text (p + 1)) at
  pays c ends each (Some w) b previous text p at seen = in-cases PaysAt [] c.cases c.rest each w tt b text p (measured text p w at seen)

  -- the same of a state in a name
  pub pays-spelled : (by : ℕ → Rows Unit Unit) (c : Cased Unit Unit) → PaysEnd c.at_end → ((w : FlowByte) (byte : ℕ) → name_byte w ≡ Some byte → PaysAt w (by byte))
      → InCases PaysAt [] c.cases c.rest → (w b previous : Option FlowByte) (text : Text) (p : ℕ) → Stands w text p → class_in flow_byte text p ≡ w
      → AreWithin flow never b w text p (price text p) (spelled by c previous w)
  pays-spelled by c ends named each None b previous text p at seen = ends b text p (bounds-at text p) (bounds-at text (p + 1)) at
  pays-spelled by c ends named each (Some w) b previous text p at seen =
      elim (name_byte w) as (λ o. name_byte w ≡ o → AreWithin flow never b (Some w) text p (price text p) (by_byte o by (rows_in c.cases c.rest w))) [
        | None ↦ λ is. in-cases PaysAt [] c.cases c.rest each w tt b text p (measured text p w at seen)
        | Some byte ↦ λ is. named w byte is b text p (measured text p w at seen)
      ] refl
