-- Lists of marks that spans of free names keep: what is in prefixes and in definitions has such names.
use Rattle.mddocument_rules.proofs.Prelude.{◌≡◌, ◌&&◌, ℕ, Bool, not, List, [], ◌++◌, true, false, and_parts, not-true, refl, AllByRecursion, flat_map, same_name, Part, all_rows, Name, Seat, every-all, Definition, Mark, leaf_marks, span_marks, Container, Prefix, footnote, item, quote, Row, begun_marks, prefixes_marks, AnySeat, any-seats, Walk, leafs, AreInDefinition, MayPrefix, definitions-are, places, prefixes}
use Rattle.markdown_base.specs.declared.event.Name.TheVariants as name
use Rattle.mdblock_definitions.specs.Definitions.{Place, before_prefixes, between, definitions_marks, ending_marks, line_marks, parts_marks, places_in, string_lines}
use Rattle.mdblock_definitions.proofs.StringEnds.{every-before}
use Rattle.mddocument.proofs.Walks.SkeletonWalk.{AnyContainer, PlaceIs, any-prefixes, any-rows, any-texts, are-in-definition, begins, endings, of-lines, of-parts, some-places, string-lines-are}
use Rattle.mdblock_table_marks.specs.TableMarks.{table_marks}
use Rattle.mddocument.proofs.Walks.TableWalk.{AreInTable, PrefixIs, are-in-table, tables-by}
use Rattle.mddocument_rules.proofs.Places.{is_free}

-- and no cell of a table has its text among them
abbrev pub is_apart : Name → Bool
is_apart n = is_free n && not (same_name n name.GfmTableCellText)

abbrev pub FreeName : Name → Type 0
FreeName n = is_apart n ≡ true

pub name-free : (n : Name) → FreeName n → is_free n ≡ true
name-free n h = (and_parts (is_free n) (not (same_name n name.GfmTableCellText)) h).0

pub name-apart : (n : Name) → FreeName n → same_name n name.GfmTableCellText ≡ false
name-apart n h = not-true (same_name n name.GfmTableCellText) (and_parts (is_free n) (not (same_name n name.GfmTableCellText)) h).1

abbrev pub IsKept : List ℕ → (List Mark → Type 0) → Type 0
IsKept bytes Are = Walk bytes Are FreeName AnySeat

-- where all spans of free names keep it
abbrev pub IsKeptByAll : List ℕ → (List Mark → Type 0) → Type 0
IsKeptByAll bytes Are = Walk bytes Are (λ n. is_free n ≡ true) AnySeat

pub kept : {bytes : List ℕ} {Are : List Mark → Type 0} → Are [] → ((xs ys : List Mark) → Are xs → Are ys → Are (xs ++ ys))
    → ((n : Name) (seats : List Seat) (inside : List Mark) → FreeName n → Are inside → Are (span_marks bytes n seats inside)) → IsKept bytes Are
kept none both over = record { none = none; both = both; over = λ n seats inside f q h. over n seats inside f h; space = refl; line_ending = refl; blank_ending = refl }

pub kept-by-all : {bytes : List ℕ} {Are : List Mark → Type 0} → Are [] → ((xs ys : List Mark) → Are xs → Are ys → Are (xs ++ ys))
    → ((n : Name) (seats : List Seat) (inside : List Mark) → is_free n ≡ true → Are inside → Are (span_marks bytes n seats inside)) → IsKeptByAll bytes Are
kept-by-all none both over = record { none = none; both = both; over = λ n seats inside f q h. over n seats inside f h; space = refl; line_ending = refl; blank_ending = refl }

pub some-kept : {bytes : List ℕ} {Are : List Mark → Type 0} → IsKeptByAll bytes Are → IsKept bytes Are
some-kept w = kept w.none w.both (λ n seats inside f h. w.over n seats inside (name-free n f) (any-seats seats) h)

-- data, by its name
pub datas : {bytes : List ℕ} {Are : List Mark → Type 0} {May : Name → Type 0} → Walk bytes Are May AnySeat → May name.Data → (seats : List Seat) → AllByRecursion AnySeat seats → Are (leaf_marks bytes name.Data seats)
datas w m seats at = leafs w name.Data seats m at

-- each container has free names in its prefix
pub free-prefix : (c : Container) → AnyContainer c → MayPrefix FreeName c
free-prefix (quote q) a = (refl, refl)
free-prefix (item i) a = (refl, refl, refl)
free-prefix (footnote f) a = (refl, refl, refl, refl, refl, refl)

in-definition : AreInDefinition FreeName
in-definition = are-in-definition FreeName (refl, (refl, (refl, (refl, (refl, (refl, (refl, (refl, (refl, (refl, (refl, (refl, tt))))))))))))

module _ {bytes : List ℕ} {Are : List Mark → Type 0} (w : IsKept bytes Are) where
  pub begins-are : (c : Container) (seats : List Seat) → Are (begun_marks bytes c seats)
  begins-are c seats = begins w AnySeat (datas w refl) c seats (free-prefix c tt) (any-seats seats)

  pub prefixes-are : (ps : List Prefix) (seats : List Seat) → Are (prefixes_marks bytes ps seats)
  prefixes-are ps seats = prefixes w AnyContainer free-prefix ps seats (any-prefixes ps)

  -- ---- places, with prefixes between their lines
  abbrev pub EndingIs : Place → Type 0
  EndingIs place = PlaceIs w AnyContainer free-prefix AnySeat (datas w refl) place

  abbrev pub EndingsAre : List Place → Type 0
  EndingsAre ps = AllByRecursion EndingIs ps

  pub rows-are : (rs : List Row) → EndingsAre (places_in bytes rs)
  rows-are rs = places w AnyContainer free-prefix AnySeat (datas w refl) rs (any-rows rs) (any-texts rs)

  pub line-ends : (from to : ℕ) (ps : List Place) → EndingsAre ps → Are (flat_map (ending_marks bytes) (between from to ps))
  line-ends from to ps h = endings w AnyContainer free-prefix AnySeat (datas w refl) (between from to ps) (some-places w AnyContainer free-prefix AnySeat (datas w refl) from to ps h)

  pub lines-are : (ps : List Place) → EndingsAre ps → Are (line_marks bytes true (string_lines ps))
  lines-are ps h = of-lines w AnyContainer free-prefix AnySeat (datas w refl) true (string_lines ps) (string-lines-are w AnyContainer free-prefix AnySeat (datas w refl) ps h)

  -- what is in a string
  pub string-is : (ps : List Place) → EndingsAre ps → Are (line_marks bytes true (string_lines (before_prefixes ps)))
  string-is ps h = lines-are (before_prefixes ps) (every-before EndingIs (λ ending prefixes marks k. w.none) ps h)

  -- What is in a definition
  pub parts-are : (q : Definition) (ps : List Place) → EndingsAre ps → Are (parts_marks bytes q ps)
  parts-are q ps h = of-parts w AnyContainer free-prefix AnySeat (datas w refl) in-definition q ps h

  -- Definitions of such rows, each by its span
  pub defined-in-rows : (All : List Mark → Type 0) → All [] → ((xs ys : List Mark) → All xs → All ys → All (xs ++ ys)) → ((ms : List Mark) → Are ms → All ms)
      → ((seats : List Seat) (inside : List Mark) → Are inside → All (span_marks bytes name.Definition seats inside)) → (ds : List Definition) (rs : List Row) → All (definitions_marks bytes ds (places_in bytes rs))
  defined-in-rows All none both any one ds rs =
      definitions-are w AnyContainer free-prefix AnySeat (datas w refl) in-definition All none both any one ds (places_in bytes rs) (rows-are rs)

-- ---- tables
in-table : AreInTable (λ n. is_free n ≡ true)
in-table = are-in-table (λ n. is_free n ≡ true) (refl, (refl, (refl, (refl, (refl, (refl, (refl, (refl, (refl, (refl, (refl, tt)))))))))))

-- A table of a part, by its span
pub table-in-part : {bytes : List ℕ} {Are : List Mark → Type 0} → IsKeptByAll bytes Are → (All : List Mark → Type 0) → ((ms : List Mark) → Are ms → All ms)
    → ((seats : List Seat) (inside : List Mark) → Are inside → All (span_marks bytes name.GfmTable seats inside)) → (part : Part) → All (table_marks bytes part)
table-in-part {bytes} {Are} w All any one part =
    tables-by w AnySeat (datas w refl) in-table All any one part.first part.more (every-all (PrefixIs w AnySeat (datas w refl) in-table) (λ r. prefixes-are (some-kept w) r.went_on r.line) part.more)
    (any-texts (all_rows part))
