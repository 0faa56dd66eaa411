-- The events of containers, of definitions and of tables have names of the constructs that are on.
use Rattle.mddocument_laws.proofs.Prelude.{◌≡◌, ℕ, suc, List, [], ◌∷◌, true, Some, None, Option, refl, AllByRecursion, every-map, or_left, or_right, Constructs, Name, Seat, lines_in, Mark, Container, Prefix, footnote, item, quote, Row, Part, chained_from, rows, Inside, Section, defined, lines, all_rows, sections_in_seats, sections_marks, skeleton}
use Rattle.markdown_base.specs.declared.event.Name.TheVariants as name
use Rattle.mddocument.proofs.Walks.InnerTexts.{AnySeat}
use Rattle.mddocument.proofs.Walks.MarksWalk.{Walk}
use Rattle.mddocument_laws.proofs.Named.{Marked, Named, around, names-walk, none}
use Rattle.mddocument_laws.proofs.PlainNames.{stands_bare}
use Rattle.mddocument_laws.proofs.RowNames.{AreStillOn, InsideIsOn, IsOn, PartIsOn, PrefixesAreOn, RowIsOn, SectionIsOn, SectionsAreOn, list-on, own, rows-on, sections-on}
use Rattle.mddocument.proofs.Walks.SkeletonWalk.{AreOfDefinition, InsideMay, MayHold, PartMay, PrefixesMay, SectionMay, any-begun, any-texts, are-in-definition, prefix-may, prefixes, sections-are}
use Rattle.mddocument.proofs.Walks.TableWalk.{AreOfTable, are-in-table, tables-are}
use Rattle.mdblock_leaf_blocks.specs.LeafEvents.{leaf_marks}
use Rattle.mdblock_containers.specs.Skeleton.{prefixes_marks}
use Rattle.mdblock_table_marks.specs.TableMarks.{table_marks}
use Rattle.mdblock_definitions.specs.Sections.{table}

module _ (other : Constructs) (bytes : List ℕ) where
  abbrev May : Name → Type 0
  May n = stands_bare other n ≡ true

  abbrev Are : List Mark → Type 0
  Are marks = Marked May marks

  walk : Walk bytes Are May AnySeat
  walk = names-walk May refl refl refl bytes

  -- ---- what containers, lines and sections have names of
  holds : (c : Container) → IsOn other c → MayHold May c
  holds (quote q) h = (h, h, h)
  holds (item i) h = (list-on other i h, h, h, h, h)
  holds (footnote f) h = (h, (h, h, h, h, h, or_right other.definition other.gfm_footnote_definition h))

  all-hold : (ps : List Prefix) → PrefixesAreOn other ps → PrefixesMay May ps
  all-hold ps h = every-map (λ (p : Prefix). IsOn other p.container) (λ (p : Prefix). MayHold May p.container) (λ p k. holds p.container k) ps h

  part-may : (part : Part) → PartIsOn other part → PartMay May part
  part-may part h = record {
    rows = every-map (RowIsOn other) (λ (r : Row). PrefixesMay May r.went_on) (λ r k. all-hold r.went_on k.went_on) (all_rows part) (h.first, h.more);
    begun = all-hold part.first.begun h.first.begun;
    frames = h.frames;
  }

  of-definition : other.definition ≡ true → AreOfDefinition May
  of-definition h = record { definition = h; inside = are-in-definition May (h, (h, (h, (or_left other.definition other.gfm_footnote_definition h, (h, (h, (h, (h, (h, (h, (h, (h, tt)))))))))))) }

  of-table : other.gfm_table ≡ true → AreOfTable May
  of-table h = record { table = h; inside = are-in-table May (h, (h, (h, (h, (h, (h, (h, (h, (h, (h, (h, tt))))))))))) }

  -- tables are on
  abbrev Table : Part → Type 0
  Table part = other.gfm_table ≡ true

  some-data : (seats : List Seat) → AllByRecursion AnySeat seats → Are (leaf_marks bytes name.Data seats)
  some-data seats h = around bytes None name.Data seats refl none

  row-prefixes : (r : Row) → PrefixesMay May r.went_on → Are (prefixes_marks bytes r.went_on r.line)
  row-prefixes r h = prefixes walk (MayHold May) (prefix-may May) r.went_on r.line h

  table-may : (part : Part) → PartMay May part → Table part → Are (table_marks bytes part)
  table-may part m h =
      tables-are walk AnySeat some-data (of-table h) part.first part.more (every-map (λ (r : Row). PrefixesMay May r.went_on) (λ (r : Row). Are (prefixes_marks bytes r.went_on r.line)) row-prefixes part.more m.rows.1)
      (any-texts (all_rows part))

  inside-may : (part : Part) (inside : Inside) → InsideIsOn other inside → InsideMay May AnySeat Table part inside
  inside-may part (lines is_behind) h = tt
  inside-may part table h = h
  inside-may part (defined ds) h = (of-definition h, any-texts (all_rows part))

  sections-may : (ss : List Section) → SectionsAreOn other ss → AllByRecursion (SectionMay May AnySeat Table) ss
  sections-may ss h = every-map (SectionIsOn other) (SectionMay May AnySeat Table) (λ s k. record { part = part-may s.part k.part; begun = any-begun s.part.first; inside = inside-may s.part s.inside k.inside }) ss h

  chained : (i : ℕ) (previous : Option ℕ) (marks : List Mark) → AllByRecursion (λ (m : Mark). May m.0.name) marks → AllByRecursion (λ e. May e.name) (chained_from i previous marks)
  chained i previous [] h = tt
  chained i previous ((e, None) ∷ marks) h = (h.0, chained (suc i) previous marks h.1)
  chained i previous ((e, Some chunk) ∷ marks) h = (h.0, chained (suc i) (Some i) marks h.1)

  -- The skeleton of a document has names of others too, if these have the containers, definitions and tables that are on
  pub skeleton-named-by : (on : Constructs) → AreStillOn on other → (seats : List Seat) → Named May (skeleton on bytes seats)
  skeleton-named-by on still seats =
      let ss = sections_in_seats on seats in
      let may = sections-may ss (sections-on other on still (rows on (lines_in seats)) (rows-on other on still (lines_in seats))) in
      let are = sections-are bytes Are May walk (λ k n place m. record { all = (m, tt) }) AnySeat some-data (λ c seats. around bytes (Some c) name.Data seats refl none) Table table-may ss may in
      record { all = chained 0 None (sections_marks bytes (sections_in_seats on seats)) are.all }

-- The skeleton of a document has names of the constructs that are on
pub skeleton-named : (on : Constructs) (bytes : List ℕ) (seats : List Seat) → Named (λ n. stands_bare on n ≡ true) (skeleton on bytes seats)
skeleton-named on bytes seats = skeleton-named-by on bytes on (own on) seats
