-- The events of definitions begin no chunk.
use Rattle.std.proofs.Common.{ℕ, zero, suc, ◌+◌, ◌-◌, Bool, true, false, cond, List, [], ◌∷◌, ◌++◌, drop, length, map, take}
use Rattle.std.specs.Prelude.{Option, Some, None}
use Rattle.std.specs.List.{AllByRecursion, flat_map, prefix_len}
use Rattle.markdown_base.specs.declared.event.Name.{Name}
use Rattle.markdown_base.specs.declared.event.Name.TheVariants as name
use Rattle.markdown_base.specs.Virtual.{Seat}
use Rattle.markdown_base.proofs.Common.{every-take}
use Rattle.mdconstructs_machines.specs.LineEvents.{ending_of, line_text}
use Rattle.mdblock_leaf_blocks.specs.LeafBlocks.{bytes_of}
use Rattle.mdblock_leaf_blocks.specs.LeafEvents.{Mark, leaf_marks, span_marks, white}
use Rattle.mdblock_leaf_blocks.specs.LineKinds.{indent}
use Rattle.mdblock_containers.specs.Prefixes.{columns_of}
use Rattle.mdblock_containers.specs.Rows.{Row}
use Rattle.mdblock_containers.specs.Skeleton.{prefixes_marks}
use Rattle.mdblock_containers.specs.Written.{NoChunk}
use Rattle.mdblock_containers.proofs.JoinLemmas.{plain_prefixes, plain_span}
use Rattle.mdblock_containers.proofs.WrittenLemmas.{plain_append}
use Rattle.mdinline_labels.specs.declared.definitions.Definition.{Definition}
use Rattle.mdinline_labels.specs.declared.definitions.Stretch.{Stretch}
use Rattle.mdinline_labels.specs.Definitions.{end, end_of}
use Rattle.mdinline_labels.specs.Tails.{begins_with}
use Rattle.mdblock_definitions.specs.Definitions.{Place, StringLine, before_prefixes, between, byte_at, definition_marks, definitions_marks, destination_marks, ending_at, ending_marks, further_line, gap_marks, is_byte, last_prefixes, leaf, line_marks, marked, parts_marks, places_in, places_of, seats_of, string, string_lines, text_of}
use Rattle.mdblock_definitions.proofs.StringEnds.{every-before, every-last}

-- the prefixes behind a line ending begin none
abbrev IsPlain : Place → Type 0
IsPlain (byte_at s) = Unit {0}
IsPlain (ending_at ending prefixes marks) = NoChunk marks

abbrev ArePlain : List Place → Type 0
ArePlain places = AllByRecursion IsPlain places

plain-take : (n : ℕ) (ps : List Place) → ArePlain ps → ArePlain (take n ps)
plain-take n ps h = every-take IsPlain n ps h

plain-drop : (n : ℕ) (ps : List Place) → ArePlain ps → ArePlain (drop n ps)
plain-drop zero ps h = h
plain-drop (suc n) [] h = tt
plain-drop (suc n) (p ∷ ps) h = plain-drop n ps h.1

plain-between : (from to : ℕ) (ps : List Place) → ArePlain ps → ArePlain (between from to ps)
plain-between from to ps h = plain-take (to - from) (drop from ps) (plain-drop from ps h)

plain-bytes : (ss : List Seat) (ps : List Place) → ArePlain ps → ArePlain (map byte_at ss ++ ps)
plain-bytes [] ps h = h
plain-bytes (s ∷ ss) ps h = (tt, plain-bytes ss ps h)

-- lines of a string
abbrev AreLines : List StringLine → Type 0
AreLines lines = AllByRecursion (λ line. ArePlain line.behind) lines

plain-lines : (ps : List Place) → ArePlain ps → AreLines (string_lines ps)
plain-lines [] h = tt
plain-lines (ending_at ending prefixes marks ∷ ps) h = ((h.0, tt), plain-lines ps h.1)
plain-lines (byte_at s ∷ ps) h = by (string_lines ps) (plain-lines ps h.1)
  where
    by : (l : List StringLine) → AreLines l → AreLines (elim l as (λ _. List StringLine) [
      | [] ↦ record { seats = s ∷ []; behind = [] } ∷ []
      | line ∷ lines ↦ record line { seats = s ∷ line.seats } ∷ lines
    ])
    by [] k = (tt, tt)
    by (line ∷ lines) k = (k.0, k.1)

module _ (bytes : List ℕ) where
  plain-leaf : (n : Name) (ss : List Seat) → NoChunk (leaf_marks bytes n ss)
  plain-leaf n ss = plain_span bytes n ss [] tt

  pub plain-places : (rs : List Row) → ArePlain (places_in bytes rs)
  plain-places [] = tt
  plain-places (row ∷ []) = plain-bytes (drop row.columns (line_text row.line)) [] tt
  plain-places (row ∷ next ∷ more) =
      plain-bytes (drop row.columns (line_text row.line)) (ending_at (ending_of row.line) (take (columns_of next.went_on) next.line) (prefixes_marks bytes next.went_on next.line) ∷ places_in bytes (next ∷ more))
      (plain_prefixes bytes next.went_on next.line, plain-places (next ∷ more))

  plain-ending : (p : Place) → IsPlain p → NoChunk (ending_marks bytes p)
  plain-ending (byte_at s) h = tt
  plain-ending (ending_at ending prefixes marks) h = plain_append (leaf_marks bytes name.LineEnding ending) marks (plain-leaf name.LineEnding ending) h

  plain-endings : (ps : List Place) → ArePlain ps → NoChunk (flat_map (ending_marks bytes) ps)
  plain-endings [] h = tt
  plain-endings (p ∷ ps) h = plain_append (ending_marks bytes p) (flat_map (ending_marks bytes) ps) (plain-ending p h.0) (plain-endings ps h.1)

  plain-gap : (ps : List Place) → ArePlain ps → NoChunk (gap_marks bytes ps)
  plain-gap ps h =
      let n = prefix_len is_byte ps in
      let last = white bytes (seats_of (drop (n + 1) ps)) in
      let middle = flat_map (ending_marks bytes) (take 1 (drop n ps)) in
      plain_append (white bytes (seats_of (take n ps))) (middle ++ last) (plain-leaf name.SpaceOrTab (seats_of (take n ps)))
      (plain_append middle last (plain-endings (take 1 (drop n ps)) (plain-take 1 (drop n ps) (plain-drop n ps h))) (plain-leaf name.SpaceOrTab (seats_of (drop (n + 1) ps))))

  plain-line : (is_first : Bool) (ss : List Seat) → NoChunk (cond is_first (leaf_marks bytes name.Data ss) (further_line bytes ss))
  plain-line true ss = plain-leaf name.Data ss
  plain-line false ss =
      let n = indent (bytes_of ss) in
      plain_append (white bytes (take n ss)) (leaf_marks bytes name.Data (drop n ss)) (plain-leaf name.SpaceOrTab (take n ss)) (plain-leaf name.Data (drop n ss))

  plain-string-lines : (is_first : Bool) (lines : List StringLine) → AreLines lines → NoChunk (line_marks bytes is_first lines)
  plain-string-lines is_first [] h = tt
  plain-string-lines is_first (line ∷ lines) h =
      let behind = flat_map (ending_marks bytes) line.behind in
      plain_append (cond is_first (leaf_marks bytes name.Data line.seats) (further_line bytes line.seats)) (behind ++ line_marks bytes false lines) (plain-line is_first line.seats)
      (plain_append behind (line_marks bytes false lines) (plain-endings line.behind h.0) (plain-string-lines false lines h.1))

  plain-string : (n : Name) (ps : List Place) → ArePlain ps → NoChunk (string bytes n ps)
  plain-string n ps h =
      let inside = before_prefixes ps in
      let behind = last_prefixes ps in
      let lines = line_marks bytes true (string_lines inside) in
      plain_append (span_marks bytes n (seats_of inside) lines) (flat_map (ending_marks bytes) behind)
      (plain_span bytes n (seats_of inside) lines (plain-string-lines true (string_lines inside) (plain-lines inside (every-before IsPlain (λ ending prefixes marks k. tt) ps h))))
      (plain-endings behind (every-last IsPlain (λ ending prefixes marks k. k) ps h))

  plain-marked : (mark inside : Name) (ps : List Place) → ArePlain ps → NoChunk (marked bytes mark inside ps)
  plain-marked mark inside ps h =
      let last = length ps - 1 in
      let back = leaf bytes mark (drop last ps) in
      let middle = string bytes inside (between 1 last ps) in
      plain_append (leaf bytes mark (between 0 1 ps)) (middle ++ back) (plain-leaf mark (seats_of (between 0 1 ps)))
      (plain_append middle back (plain-string inside (between 1 last ps) (plain-between 1 last ps h)) (plain-leaf mark (seats_of (drop last ps))))

  plain-destination : (ps : List Place) → ArePlain ps → NoChunk (destination_marks bytes ps)
  plain-destination ps h = plain_span bytes name.DefinitionDestination (seats_of ps) _ (by (begins_with 60 (text_of ps)))
    where
      by : (b : Bool) → NoChunk (cond b
          (span_marks bytes name.DefinitionDestinationLiteral (seats_of ps) (marked bytes name.DefinitionDestinationLiteralMarker name.DefinitionDestinationString ps))
          (span_marks bytes name.DefinitionDestinationRaw (seats_of ps) (string bytes name.DefinitionDestinationString ps)))
      by true = plain_span bytes name.DefinitionDestinationLiteral (seats_of ps) _ (plain-marked name.DefinitionDestinationLiteralMarker name.DefinitionDestinationString ps h)
      by false = plain_span bytes name.DefinitionDestinationRaw (seats_of ps) _ (plain-string name.DefinitionDestinationString ps h)

  abbrev title-marks : Option Stretch → (from : ℕ) → List Place → List Mark
  title-marks o from ps = elim o [
    | None ↦ []
    | Some t ↦
        gap_marks bytes (between from t.from ps)
        ++ span_marks bytes name.DefinitionTitle (seats_of (places_of t ps)) (marked bytes name.DefinitionTitleMarker name.DefinitionTitleString (places_of t ps))
  ]

  plain-title : (o : Option Stretch) (from : ℕ) (ps : List Place) → ArePlain ps → NoChunk (title-marks o from ps)
  plain-title None from ps h = tt
  plain-title (Some t) from ps h =
      plain_append (gap_marks bytes (between from t.from ps)) _ (plain-gap (between from t.from ps) (plain-between from t.from ps h))
      (plain_span bytes name.DefinitionTitle (seats_of (places_of t ps)) _ (plain-marked name.DefinitionTitleMarker name.DefinitionTitleString (places_of t ps) (plain-between t.from (end t) ps h)))

  plain-parts : (d : Definition) (ps : List Place) → ArePlain ps → NoChunk (parts_marks bytes d ps)
  plain-parts d ps h =
      plain_append (gap_marks bytes (between 0 d.label.from ps)) _ (plain-gap (between 0 d.label.from ps) (plain-between 0 d.label.from ps h))
      (plain_append (span_marks bytes name.DefinitionLabel (seats_of (places_of d.label ps)) (marked bytes name.DefinitionLabelMarker name.DefinitionLabelString (places_of d.label ps))) _
      (plain_span bytes name.DefinitionLabel (seats_of (places_of d.label ps)) _ (plain-marked name.DefinitionLabelMarker name.DefinitionLabelString (places_of d.label ps) (plain-between d.label.from (end d.label) ps h)))
      (plain_append (leaf bytes name.DefinitionMarker (between (end d.label) (end d.label + 1) ps)) _ (plain-leaf name.DefinitionMarker (seats_of (between (end d.label) (end d.label + 1) ps)))
      (plain_append (gap_marks bytes (between (end d.label + 1) d.destination.from ps)) _ (plain-gap (between (end d.label + 1) d.destination.from ps) (plain-between (end d.label + 1) d.destination.from ps h))
      (plain_append (destination_marks bytes (places_of d.destination ps)) _ (plain-destination (places_of d.destination ps) (plain-between d.destination.from (end d.destination) ps h))
      (plain_append (title-marks d.title (end d.destination) ps) (gap_marks bytes (between (end_of d.title d.destination) d.size ps)) (plain-title d.title (end d.destination) ps h)
      (plain-gap (between (end_of d.title d.destination) d.size ps) (plain-between (end_of d.title d.destination) d.size ps h)))))))

  pub plain-definitions : (ds : List Definition) (ps : List Place) → ArePlain ps → NoChunk (definitions_marks bytes ds ps)
  plain-definitions [] ps h = tt
  plain-definitions (d ∷ ds) ps h =
      let ending = flat_map (ending_marks bytes) (between d.size (d.size + 1) ps) in
      let back = definitions_marks bytes ds (drop (d.size + 1) ps) in
      plain_append (definition_marks bytes d ps) (ending ++ back) (plain_span bytes name.Definition (seats_of (take d.size ps)) _ (plain-parts d (take d.size ps) (plain-take d.size ps h)))
      (plain_append ending back (plain-endings (between d.size (d.size + 1) ps) (plain-between d.size (d.size + 1) ps h)) (plain-definitions ds (drop (d.size + 1) ps) (plain-drop (d.size + 1) ps h)))
