-- The marks of containers, and of stretches of lines, enter no text of a cell; and behind them no chunk waits.
use Rattle.std.proofs.Common.{◌≡◌, ℕ, suc, ◌+◌, Bool, true, false, cond, List, [], ◌∷◌, ◌++◌, drop, length, map, refl, ap, take, ◌∙◌}
use Rattle.std.specs.Prelude.{None, Some, nat_le, not, reverse, ◌==◌}
use Rattle.std.specs.List.{flat_map}
use Rattle.markdown_base.specs.declared.event.Kind.TheVariants.{Enter, Exit}
use Rattle.markdown_base.specs.declared.event.Content.TheVariants as content
use Rattle.markdown_base.specs.declared.event.Name.{Name}
use Rattle.markdown_base.specs.declared.event.Name.TheVariants as name
use Rattle.markdown_base.specs.declared.event.Point.{Point}
use Rattle.markdown_base.specs.Events.{same_name}
use Rattle.markdown_base.specs.Virtual.{Seat, end_after}
use Rattle.mdconstructs_machines.specs.LineEvents.{ending_of, line_text}
use Rattle.mdconstructs_machines.specs.Spans.{event}
use Rattle.mdblock_leaf_blocks.specs.LeafBlocks.{Line, bytes_of}
use Rattle.mdblock_leaf_blocks.specs.LeafEvents.{Chunk, Mark, chunk_span, leaf_marks, span_marks, white}
use Rattle.mdblock_leaf_blocks.specs.LineKinds.{indent}
use Rattle.mdblock_lines.specs.Containers.{Container, footnote, Item, item, Prefix, quote}
use Rattle.mdblock_containers.specs.Prefixes.{columns_of}
use Rattle.mdblock_containers.specs.Rows.{Row, has_none}
use Rattle.mdblock_containers.specs.Skeleton.{Frame, Part, Piece, begin_of, begun_all, begun_marks, chunks_of, ending_marks, enters_of, exits, going_marks, inside_of, is_held, joined_pieces, last_line, list_name, pieces_of, prefixes_marks, footnote_marks, label_marks}
use Rattle.mdblock_containers.specs.Written.{waits}
use Rattle.mdblock_containers.proofs.PrefixSpans.{begun_unlinked, leaf_unlinked, prefixes_unlinked}
use Rattle.mdblock_containers.proofs.SkeletonChains.{Unlinked, unlinked_both}
use Rattle.mdblock_table_marks.specs.CellPlaces.{NoCells}
use Rattle.mdblock_table_marks.proofs.CellGaps.{no-cells-both}

-- another name
abbrev pub IsOther : Name → Type 0
IsOther n = same_name n name.GfmTableCellText ≡ false

-- ---- behind marks

pub waits-both : (w : Bool) (xs ys : List Mark) → waits w (xs ++ ys) ≡ waits (waits w xs) ys
waits-both w [] ys = refl
waits-both w ((e, None) ∷ xs) ys = waits-both w xs ys
waits-both w ((e, Some c) ∷ xs) ys = waits-both c.has_next xs ys

pub unlinked-waits : (w : Bool) (ms : List Mark) → Unlinked ms → waits w ms ≡ w
unlinked-waits w [] h = refl
unlinked-waits w ((e, None) ∷ ms) h = unlinked-waits w ms h.1
unlinked-waits w ((e, Some c) ∷ ms) h = absurd h

-- what both names of lists have, the name of a list has
pub list-named : (Has : Name → Type 0) → Has name.ListOrdered → Has name.ListUnordered → (i : Item) → Has (list_name i)
list-named Has ordered unordered i = by (nat_le 1 i.digits)
  where
    by : (x : Bool) → Has (cond x name.ListOrdered name.ListUnordered)
    by true = ordered
    by false = unordered

module _ (bytes : List ℕ) where
  -- ---- containers

  pub leaf-none : (n : Name) (ss : List Seat) → IsOther n → NoCells (leaf_marks bytes n ss)
  leaf-none n [] o = tt
  leaf-none n (s ∷ ss) o = (o, (refl, tt))

  span-none : (n : Name) (ss : List Seat) (inside : List Mark) → IsOther n → NoCells inside → NoCells (span_marks bytes n ss inside)
  span-none n [] inside o h = h
  span-none n (s ∷ ss) inside o h = (o, no-cells-both inside ((event bytes Exit n (end_after s.end ss), None) ∷ []) h (refl, tt))

  pub data-none : (chunk : Chunk) (ss : List Seat) → NoCells (chunk_span bytes (Some chunk) name.Data ss [])
  data-none chunk [] = tt
  data-none chunk (s ∷ ss) = (refl, (refl, tt))

  going-none : (c : Container) (ss : List Seat) → NoCells (going_marks bytes c ss)
  going-none (quote line) ss =
      let n = indent (bytes_of ss) in
      let marker = leaf_marks bytes name.BlockQuoteMarker (take 1 (drop n ss)) in
      let behind = white bytes (drop (suc n) ss) in
      no-cells-both (white bytes (take n ss)) (span_marks bytes name.BlockQuotePrefix (drop n ss) (marker ++ behind)) (leaf-none name.SpaceOrTab (take n ss) refl)
      (span-none name.BlockQuotePrefix (drop n ss) (marker ++ behind) refl
      (no-cells-both marker behind (leaf-none name.BlockQuoteMarker (take 1 (drop n ss)) refl) (leaf-none name.SpaceOrTab (drop (suc n) ss) refl)))
  going-none (item i) ss = leaf-none name.SpaceOrTab ss refl
  going-none (footnote f) ss = leaf-none name.SpaceOrTab ss refl

  label-none : (l : ℕ) (ss : List Seat) → NoCells (label_marks bytes l ss)
  label-none l ss =
      no-cells-both (leaf_marks bytes name.GfmFootnoteDefinitionLabelMarker (take 1 ss)) _ (leaf-none name.GfmFootnoteDefinitionLabelMarker (take 1 ss) refl)
      (no-cells-both (leaf_marks bytes name.GfmFootnoteDefinitionMarker (take 1 (drop 1 ss))) _ (leaf-none name.GfmFootnoteDefinitionMarker (take 1 (drop 1 ss)) refl)
      (no-cells-both (span_marks bytes name.GfmFootnoteDefinitionLabelString (take l (drop 2 ss)) (leaf_marks bytes name.Data (take l (drop 2 ss)))) _
      (span-none name.GfmFootnoteDefinitionLabelString (take l (drop 2 ss)) _ refl (leaf-none name.Data (take l (drop 2 ss)) refl))
      (leaf-none name.GfmFootnoteDefinitionLabelMarker (take 1 (drop (l + 2) ss)) refl)))

  footnote-none : (l : ℕ) (ss : List Seat) → NoCells (footnote_marks bytes l ss)
  footnote-none l ss =
      span-none name.GfmFootnoteDefinitionPrefix ss _ refl
      (no-cells-both (span_marks bytes name.GfmFootnoteDefinitionLabel (take (l + 3) ss) (label_marks bytes l ss)) _ (span-none name.GfmFootnoteDefinitionLabel (take (l + 3) ss) _ refl (label-none l ss))
      (no-cells-both (leaf_marks bytes name.DefinitionMarker (take 1 (drop (l + 3) ss))) _ (leaf-none name.DefinitionMarker (take 1 (drop (l + 3) ss)) refl) (leaf-none name.SpaceOrTab (drop (l + 4) ss) refl)))

  begun-none : (c : Container) (ss : List Seat) → NoCells (begun_marks bytes c ss)
  begun-none (quote line) ss = going-none (quote line) ss
  begun-none (footnote f) ss =
      let n = indent (bytes_of ss) in
      no-cells-both (white bytes (take n ss)) (footnote_marks bytes f.label (drop n ss)) (leaf-none name.SpaceOrTab (take n ss) refl) (footnote-none f.label (drop n ss))
  begun-none (item i) ss =
      let n = indent (bytes_of ss) in
      let value = leaf_marks bytes name.ListItemValue (take i.digits (drop n ss)) in
      let marker = leaf_marks bytes name.ListItemMarker (take 1 (drop (n + i.digits) ss)) in
      let behind = white bytes (drop (suc (n + i.digits)) ss) in
      no-cells-both (white bytes (take n ss)) (span_marks bytes name.ListItemPrefix (drop n ss) (value ++ (marker ++ behind))) (leaf-none name.SpaceOrTab (take n ss) refl)
      (span-none name.ListItemPrefix (drop n ss) (value ++ (marker ++ behind)) refl
      (no-cells-both value (marker ++ behind) (leaf-none name.ListItemValue (take i.digits (drop n ss)) refl)
      (no-cells-both marker behind (leaf-none name.ListItemMarker (take 1 (drop (n + i.digits) ss)) refl) (leaf-none name.SpaceOrTab (drop (suc (n + i.digits)) ss) refl))))

  pub prefixes-none : (ps : List Prefix) (ss : List Seat) → NoCells (prefixes_marks bytes ps ss)
  prefixes-none [] ss = tt
  prefixes-none (p ∷ ps) ss =
      no-cells-both (going_marks bytes p.container (take p.size ss)) (prefixes_marks bytes ps (drop p.size ss)) (going-none p.container (take p.size ss)) (prefixes-none ps (drop p.size ss))

  enters-none : (c : Container) (p : Point) → NoCells (enters_of bytes c p)
  enters-none (quote line) p = (refl, tt)
  enters-none (footnote f) p = (refl, tt)
  enters-none (item i) p = by (i.list == i.line)
    where
      by : (x : Bool) → NoCells (cond x ((event bytes Enter (list_name i) p, None) ∷ []) [] ++ (event bytes Enter name.ListItem p, None) ∷ [])
      by true = (list-named IsOther refl refl i, (refl, tt))
      by false = (refl, tt)

  pub begun-all-none : (ps : List Prefix) (ss : List Seat) → NoCells (begun_all bytes ps ss)
  begun-all-none [] ss = tt
  begun-all-none (p ∷ ps) ss =
      let prefix = begun_marks bytes p.container (take p.size ss) in
      let rest = begun_all bytes ps (drop p.size ss) in
      no-cells-both (enters_of bytes p.container (begin_of ss)) (prefix ++ rest) (enters-none p.container (begin_of ss))
      (no-cells-both prefix rest (begun-none p.container (take p.size ss)) (begun-all-none ps (drop p.size ss)))

  pub exits-none : (fs : List Frame) (p : Point) → NoCells (exits bytes fs p)
  exits-none fs p = each (reverse fs)
    where
      each : (l : List Frame) → NoCells (map (λ f. (event bytes Exit f.name p, None)) l)
      each [] = tt
      each (f ∷ l) = (refl, each l)

  pub ending-none : (part : Part) → NoCells (ending_marks bytes part)
  ending-none part = by (is_held part) part.first.is_blank
    where
      by : (x y : Bool) → NoCells (cond x [] (leaf_marks bytes (cond y name.BlankLineEnding name.LineEnding) (ending_of (last_line bytes part))))
      by true y = tt
      by false true = leaf-none name.BlankLineEnding (ending_of (last_line bytes part)) refl
      by false false = leaf-none name.LineEnding (ending_of (last_line bytes part)) refl

  -- ---- links

  pub begun-all-unlinked : (ps : List Prefix) (ss : List Seat) → Unlinked (begun_all bytes ps ss)
  begun-all-unlinked [] ss = tt
  begun-all-unlinked (p ∷ ps) ss =
      let prefix = begun_marks bytes p.container (take p.size ss) in
      let rest = begun_all bytes ps (drop p.size ss) in
      unlinked_both (enters_of bytes p.container (begin_of ss)) (prefix ++ rest) (entered p.container (begin_of ss))
      (unlinked_both prefix rest (begun_unlinked bytes p.container (take p.size ss)) (begun-all-unlinked ps (drop p.size ss)))
    where
      entered : (c : Container) (q : Point) → Unlinked (enters_of bytes c q)
      entered (quote line) q = (refl, tt)
      entered (footnote f) q = (refl, tt)
      entered (item i) q = by (i.list == i.line)
        where
          by : (x : Bool) → Unlinked (cond x ((event bytes Enter (list_name i) q, None) ∷ []) [] ++ (event bytes Enter name.ListItem q, None) ∷ [])
          by true = (refl, (refl, tt))
          by false = (refl, tt)

  pub exits-unlinked : (fs : List Frame) (p : Point) → Unlinked (exits bytes fs p)
  exits-unlinked fs p = each (reverse fs)
    where
      each : (l : List Frame) → Unlinked (map (λ f. (event bytes Exit f.name p, None)) l)
      each [] = tt
      each (f ∷ l) = (refl, each l)

  pub ending-unlinked : (part : Part) → Unlinked (ending_marks bytes part)
  ending-unlinked part = by (is_held part)
    where
      by : (x : Bool) → Unlinked (cond x [] (leaf_marks bytes (cond part.first.is_blank name.BlankLineEnding name.LineEnding) (ending_of (last_line bytes part))))
      by true = tt
      by false = leaf_unlinked bytes (cond part.first.is_blank name.BlankLineEnding name.LineEnding) (ending_of (last_line bytes part))

  -- ---- lines

  -- pieces whose prefixes have no cells, and are linked to nothing
  abbrev pub PlainPieces : List (Piece bytes) → Type 0
  PlainPieces [] = Unit {0}
  PlainPieces (p ∷ ps) = (NoCells p.before × Unlinked p.before) × PlainPieces ps

  pub pieces-plain : (held : Bool) (row : Row) (more : List Row) → PlainPieces (pieces_of bytes held row more)
  pieces-plain held row [] = ((prefixes-none row.went_on row.line, prefixes_unlinked bytes row.went_on row.line), tt)
  pieces-plain held row (next ∷ more) = ((prefixes-none row.went_on row.line, prefixes_unlinked bytes row.went_on row.line), pieces-plain held next more)

  pub joined-plain : (ps : List (Piece bytes)) → PlainPieces ps → PlainPieces (joined_pieces bytes ps)
  joined-plain [] h = tt
  joined-plain (p ∷ []) h = h
  joined-plain (p ∷ q ∷ ps) h = by (joined_pieces bytes (q ∷ ps)) (joined-plain (q ∷ ps) h.1)
    where
      by : (js : List (Piece bytes)) → PlainPieces js → PlainPieces (elim js [ [] ↦ p ∷ [] | r ∷ rs ↦ cond (has_none r.before) (record p { seats = p.seats ++ r.seats } ∷ rs) (p ∷ r ∷ rs) ])
      by [] k = (h.0, tt)
      by (r ∷ rs) k = choose (has_none r.before)
        where
          choose : (x : Bool) → PlainPieces (cond x (record p { seats = p.seats ++ r.seats } ∷ rs) (p ∷ r ∷ rs))
          choose true = (h.0, k.1)
          choose false = (h.0, k)

  pub chunks-none : (has_previous : Bool) (ps : List (Piece bytes)) → PlainPieces ps → NoCells (chunks_of bytes has_previous ps)
  chunks-none has_previous [] h = tt
  chunks-none has_previous (p ∷ ps) h =
      let chunk : Chunk = record { content = content.Content; has_previous = has_previous; has_next = not (has_none (flat_map (λ q. q.seats) ps)) } in
      let here = chunk_span bytes (Some chunk) name.Data p.seats [] in
      no-cells-both p.before (here ++ chunks_of bytes true ps) h.0.0 (no-cells-both here (chunks_of bytes true ps) (data-none chunk p.seats) (chunks-none true ps h.1))

  abbrev pub all_of : List (Piece bytes) → List Seat
  all_of ps = flat_map (λ q. q.seats) ps

  pub chunks-wait : (w has_previous : Bool) (ps : List (Piece bytes)) → PlainPieces ps → waits w (chunks_of bytes has_previous ps) ≡ cond (has_none (all_of ps)) w false
  chunks-wait w has_previous [] h = refl
  chunks-wait w has_previous (p ∷ ps) h =
      waits-both w p.before (here p.seats ++ chunks_of bytes true ps) ∙ ap (λ b. waits b (here p.seats ++ chunks_of bytes true ps)) (unlinked-waits w p.before h.0.1) ∙ by (λ x. chunks-wait x true ps h.1) p.seats
    where
      here : List Seat → List Mark
      here ss = chunk_span bytes (Some (record { content = content.Content; has_previous = has_previous; has_next = not (has_none (all_of ps)) })) name.Data ss []

      none : (x : Bool) → cond x (not x) false ≡ false
      none true = refl
      none false = refl

      by : ((x : Bool) → waits x (chunks_of bytes true ps) ≡ cond (has_none (all_of ps)) x false) → (ss : List Seat) → waits w (here ss ++ chunks_of bytes true ps) ≡ cond (has_none (ss ++ all_of ps)) w false
      by more [] = more w
      by more (s ∷ ss) = more (not (has_none (all_of ps))) ∙ none (has_none (all_of ps))

  abbrev first_of : Part → Line
  first_of part = drop (cond (has_none part.first.begun) (columns_of (take (length part.stands) part.first.went_on)) part.first.columns) part.first.line

  abbrev plain_of : (part : Part) → PlainPieces (joined_pieces bytes (pieces_of bytes (is_held part) part.first part.more))
  plain_of part = joined-plain (pieces_of bytes (is_held part) part.first part.more) (pieces-plain (is_held part) part.first part.more)

  pub inside-none : (part : Part) → NoCells (inside_of bytes part)
  inside-none part = by part.first.is_blank (joined_pieces bytes (pieces_of bytes (is_held part) part.first part.more)) (plain_of part)
    where
      by : (x : Bool) (js : List (Piece bytes)) → PlainPieces js
          → NoCells (cond x (white bytes (line_text (first_of part))) (elim js [ [] ↦ [] | p ∷ ps ↦ chunks_of bytes false (record p { before = [] } ∷ ps) ]))
      by true js h = leaf-none name.SpaceOrTab (line_text (first_of part)) refl
      by false [] h = tt
      by false (p ∷ ps) h = chunks-none false (record p { before = [] } ∷ ps) ((tt, tt), h.1)

  pub inside-waits : (part : Part) → waits false (inside_of bytes part) ≡ false
  inside-waits part = by part.first.is_blank (joined_pieces bytes (pieces_of bytes (is_held part) part.first part.more)) (plain_of part)
    where
      same : (x : Bool) → cond x false false ≡ false
      same true = refl
      same false = refl

      by : (x : Bool) (js : List (Piece bytes)) → PlainPieces js
          → waits false (cond x (white bytes (line_text (first_of part))) (elim js [ [] ↦ [] | p ∷ ps ↦ chunks_of bytes false (record p { before = [] } ∷ ps) ])) ≡ false
      by true js h = unlinked-waits false (white bytes (line_text (first_of part))) (leaf_unlinked bytes name.SpaceOrTab (line_text (first_of part)))
      by false [] h = refl
      by false (p ∷ ps) h = let all = record p { before = [] } ∷ ps in chunks-wait false false all ((tt, tt), h.1) ∙ same (has_none (all_of all))
