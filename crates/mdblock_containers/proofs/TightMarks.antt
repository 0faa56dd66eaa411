-- Void spans of a skeleton are empty: so is each piece that it is made of.
use Rattle.std.proofs.Common.{◌≡◌, ℕ, zero, suc, ◌+◌, Bool, true, false, cond, List, [], ◌∷◌, ◌++◌, length, take, drop, refl, sym, ap, ◌∙◌, arith}
use Rattle.std.specs.Prelude.{Option, None, Some, is_some, not, map, nat_le, option_map, reverse, slice_get, unwrap_or, ◌==◌}
use Rattle.std.specs.List.{flat_map}
use Rattle.std.proofs.lemmas.Bool.{false≢true}
use Rattle.markdown_base.specs.declared.event.Content.TheVariants as content
use Rattle.markdown_base.specs.declared.event.Event.{Event}
use Rattle.markdown_base.specs.declared.event.Content.{Content}
use Rattle.markdown_base.specs.declared.event.Link.{Link}
use Rattle.markdown_base.specs.declared.event.Kind.{Kind}
use Rattle.markdown_base.specs.declared.event.Kind.TheVariants.{Enter, Exit}
use Rattle.markdown_base.specs.declared.event.Name.{Name}
use Rattle.markdown_base.specs.declared.event.Name.TheVariants as name
use Rattle.markdown_base.specs.declared.event.Point.{Point}
use Rattle.markdown_base.specs.Events.{IsVoidTight, is_enter, is_void}
use Rattle.markdown_base.specs.Virtual.{Seat, end_after}
use Rattle.markdown_edits.specs.Links.{IsChunk, content_at}
use Rattle.mdconstructs_machines.specs.Spans.{event}
use Rattle.mdconstructs_machines.specs.LineEvents.{ending_of, line_text, lines_in}
use Rattle.mdblock_leaf_blocks.specs.LeafBlocks.{Line, bytes_of}
use Rattle.mdblock_leaf_blocks.specs.LeafEvents.{Chunk, Mark, chunk_span, leaf_marks, span_marks, white}
use Rattle.mdblock_leaf_blocks.specs.LineKinds.{indent}
use Rattle.mdblock_lines.specs.Containers.{Container, Item, Prefix, footnote, item, quote}
use Rattle.mdblock_containers.specs.Prefixes.{columns_of}
use Rattle.mdblock_containers.specs.Rows.{Row, has_none, rows}
use Rattle.mdblock_containers.specs.Skeleton.{Frame, Part, Piece, begin_of, behind_marks, begun_all, begun_marks, chained_from, chunks_of, end_of, ending_marks, enters_of, exits, going_marks, inside_of, is_held, joined_pieces, last_line, list_name, part_marks, parts, parts_marks, pieces_of, prefixes_marks, shared, footnote_marks, label_marks}
use Rattle.mdblock_containers.specs.SkeletonLaws.{SkeletonsAreVoidTight, SkeletonsHaveChunks}

-- an exit of this name comes next
abbrev pub Exits : Name → List Mark → Type 0
Exits n [] = ⊥
Exits n ((e, chunk) ∷ ms) = (e.kind ≡ Exit) × (e.name ≡ n)

-- an event has no link yet; it enters a void span that is a chunk only if it begins one, and then its exit comes next
abbrev pub IsMarked : Event → Option Chunk → List Mark → Type 0
IsMarked e None ms = e.link ≡ None
IsMarked e (Some chunk) ms = (e.kind ≡ Enter) × (is_void e.name ≡ true) × Exits e.name ms

-- each enter of a void span is followed by its exit
abbrev pub Tight : List Mark → Type 0
Tight [] = Unit {0}
Tight ((e, chunk) ∷ ms) = (e.kind ≡ Enter → is_void e.name ≡ true → Exits e.name ms) × IsMarked e chunk ms × Tight ms

pub exits_more : (n : Name) (xs ys : List Mark) → Exits n xs → Exits n (xs ++ ys)
exits_more n [] ys h = absurd h
exits_more n ((e, chunk) ∷ xs) ys h = h

pub marked_more : (e : Event) (chunk : Option Chunk) (xs ys : List Mark) → IsMarked e chunk xs → IsMarked e chunk (xs ++ ys)
marked_more e None xs ys h = h
marked_more e (Some chunk) xs ys h = (h.0, h.1, exits_more e.name xs ys h.2)

pub tight_more : (xs ys : List Mark) → Tight xs → Tight ys → Tight (xs ++ ys)
tight_more [] ys h k = k
tight_more ((e, chunk) ∷ xs) ys h k = ((λ enter void. exits_more e.name xs ys (h.0 enter void)), marked_more e chunk xs ys h.1, tight_more xs ys h.2 k)

pub no_enter : {A : Type 0} (kind : Kind) → kind ≡ Exit → kind ≡ Enter → A
no_enter kind e f = absurd (false≢true (ap is_enter (sym e ∙ f)))

module _ (bytes : List ℕ) where
  pub exit_tight : (n : Name) (p : Point) → Tight ((event bytes Exit n p, None) ∷ [])
  exit_tight n p = ((λ enter void. no_enter Exit refl enter), refl, tt)

  pub enter_tight : (n : Name) (p : Point) (ms : List Mark) → is_void n ≡ false → Tight ms → Tight ((event bytes Enter n p, None) ∷ ms)
  enter_tight n p ms open_name h = ((λ enter void. absurd (false≢true (sym open_name ∙ void))), refl, h)

  pub leaf_tight : (n : Name) (ss : List Seat) → Tight (leaf_marks bytes n ss)
  leaf_tight n [] = tt
  leaf_tight n (s ∷ ss) = ((λ enter void. (refl, refl)), refl, exit_tight n (end_after s.end ss))

  pub data_tight : (chunk : Chunk) (ss : List Seat) → Tight (chunk_span bytes (Some chunk) name.Data ss [])
  data_tight chunk [] = tt
  data_tight chunk (s ∷ ss) = ((λ enter void. (refl, refl)), (refl, refl, (refl, refl)), exit_tight name.Data (end_after s.end ss))

  pub span_tight : (n : Name) (ss : List Seat) (inside : List Mark) → is_void n ≡ false → Tight inside → Tight (span_marks bytes n ss inside)
  span_tight n [] inside e h = h
  span_tight n (s ∷ ss) inside e h =
      ((λ enter void. absurd (false≢true (sym e ∙ void))), refl, tight_more inside ((event bytes Exit n (end_after s.end ss), None) ∷ []) h (exit_tight n (end_after s.end ss)))

  pub going_tight : (c : Container) (ss : List Seat) → Tight (going_marks bytes c ss)
  going_tight (quote q) ss =
      let n = indent (bytes_of ss) in
      let marker = leaf_marks bytes name.BlockQuoteMarker (take 1 (drop n ss)) in
      let behind = white bytes (drop (suc n) ss) in
      tight_more (white bytes (take n ss)) (span_marks bytes name.BlockQuotePrefix (drop n ss) (marker ++ behind)) (leaf_tight name.SpaceOrTab (take n ss))
      (span_tight name.BlockQuotePrefix (drop n ss) (marker ++ behind) refl
      (tight_more marker behind (leaf_tight name.BlockQuoteMarker (take 1 (drop n ss))) (leaf_tight name.SpaceOrTab (drop (suc n) ss))))
  going_tight (item i) ss = leaf_tight name.SpaceOrTab ss
  going_tight (footnote f) ss = leaf_tight name.SpaceOrTab ss

  label_tight : (l : ℕ) (ss : List Seat) → Tight (label_marks bytes l ss)
  label_tight l ss =
      tight_more (leaf_marks bytes name.GfmFootnoteDefinitionLabelMarker (take 1 ss)) _ (leaf_tight name.GfmFootnoteDefinitionLabelMarker (take 1 ss))
      (tight_more (leaf_marks bytes name.GfmFootnoteDefinitionMarker (take 1 (drop 1 ss))) _ (leaf_tight name.GfmFootnoteDefinitionMarker (take 1 (drop 1 ss)))
      (tight_more (span_marks bytes name.GfmFootnoteDefinitionLabelString (take l (drop 2 ss)) (leaf_marks bytes name.Data (take l (drop 2 ss)))) _
      (span_tight name.GfmFootnoteDefinitionLabelString (take l (drop 2 ss)) (leaf_marks bytes name.Data (take l (drop 2 ss))) refl (leaf_tight name.Data (take l (drop 2 ss))))
      (leaf_tight name.GfmFootnoteDefinitionLabelMarker (take 1 (drop (l + 2) ss)))))

  footnote_tight : (l : ℕ) (ss : List Seat) → Tight (footnote_marks bytes l ss)
  footnote_tight l ss =
      span_tight name.GfmFootnoteDefinitionPrefix ss _ refl
      (tight_more (span_marks bytes name.GfmFootnoteDefinitionLabel (take (l + 3) ss) (label_marks bytes l ss)) _ (span_tight name.GfmFootnoteDefinitionLabel (take (l + 3) ss) _ refl (label_tight l ss))
      (tight_more (leaf_marks bytes name.DefinitionMarker (take 1 (drop (l + 3) ss))) _ (leaf_tight name.DefinitionMarker (take 1 (drop (l + 3) ss))) (leaf_tight name.SpaceOrTab (drop (l + 4) ss))))

  pub begun_tight : (c : Container) (ss : List Seat) → Tight (begun_marks bytes c ss)
  begun_tight (quote q) ss = going_tight (quote q) ss
  begun_tight (footnote f) ss =
      let n = indent (bytes_of ss) in
      tight_more (white bytes (take n ss)) (footnote_marks bytes f.label (drop n ss)) (leaf_tight name.SpaceOrTab (take n ss)) (footnote_tight f.label (drop n ss))
  begun_tight (item i) ss =
      let n = indent (bytes_of ss) in
      let value = leaf_marks bytes name.ListItemValue (take i.digits (drop n ss)) in
      let marker = leaf_marks bytes name.ListItemMarker (take 1 (drop (n + i.digits) ss)) in
      let behind = white bytes (drop (suc (n + i.digits)) ss) in
      tight_more (white bytes (take n ss)) (span_marks bytes name.ListItemPrefix (drop n ss) (value ++ (marker ++ behind))) (leaf_tight name.SpaceOrTab (take n ss))
      (span_tight name.ListItemPrefix (drop n ss) (value ++ (marker ++ behind)) refl
      (tight_more value (marker ++ behind) (leaf_tight name.ListItemValue (take i.digits (drop n ss)))
      (tight_more marker behind (leaf_tight name.ListItemMarker (take 1 (drop (n + i.digits) ss))) (leaf_tight name.SpaceOrTab (drop (suc (n + i.digits)) ss)))))

  pub prefixes_tight : (ps : List Prefix) (ss : List Seat) → Tight (prefixes_marks bytes ps ss)
  prefixes_tight [] ss = tt
  prefixes_tight (p ∷ ps) ss =
      tight_more (going_marks bytes p.container (take p.size ss)) (prefixes_marks bytes ps (drop p.size ss)) (going_tight p.container (take p.size ss)) (prefixes_tight ps (drop p.size ss))

  pub list_is_open : (i : Item) → is_void (list_name i) ≡ false
  list_is_open i = by (nat_le 1 i.digits)
    where
      by : (x : Bool) → is_void (cond x name.ListOrdered name.ListUnordered) ≡ false
      by true = refl
      by false = refl

  pub enters_tight : (c : Container) (p : Point) → Tight (enters_of bytes c p)
  enters_tight (quote q) p = enter_tight name.BlockQuote p [] refl tt
  enters_tight (footnote f) p = enter_tight name.GfmFootnoteDefinition p [] refl tt
  enters_tight (item i) p = by (i.list == i.line)
    where
      by : (x : Bool) → Tight (cond x ((event bytes Enter (list_name i) p, None) ∷ []) [] ++ (event bytes Enter name.ListItem p, None) ∷ [])
      by true = enter_tight (list_name i) p ((event bytes Enter name.ListItem p, None) ∷ []) (list_is_open i) (enter_tight name.ListItem p [] refl tt)
      by false = enter_tight name.ListItem p [] refl tt

  pub begun_all_tight : (ps : List Prefix) (ss : List Seat) → Tight (begun_all bytes ps ss)
  begun_all_tight [] ss = tt
  begun_all_tight (p ∷ ps) ss =
      let prefix = begun_marks bytes p.container (take p.size ss) in
      let rest = begun_all bytes ps (drop p.size ss) in
      tight_more (enters_of bytes p.container (begin_of ss)) (prefix ++ rest) (enters_tight p.container (begin_of ss))
      (tight_more prefix rest (begun_tight p.container (take p.size ss)) (begun_all_tight ps (drop p.size ss)))

  -- pieces whose prefixes are so
  abbrev pub TightPieces : List (Piece bytes) → Type 0
  TightPieces [] = Unit {0}
  TightPieces (p ∷ ps) = Tight p.before × TightPieces ps

  pub pieces_tight : (held : Bool) (row : Row) (more : List Row) → TightPieces (pieces_of bytes held row more)
  pieces_tight held row [] = (prefixes_tight row.went_on row.line, tt)
  pieces_tight held row (next ∷ more) = (prefixes_tight row.went_on row.line, pieces_tight held next more)

  pub joined_tight : (ps : List (Piece bytes)) → TightPieces ps → TightPieces (joined_pieces bytes ps)
  joined_tight [] h = tt
  joined_tight (p ∷ []) h = h
  joined_tight (p ∷ q ∷ ps) h = by (joined_pieces bytes (q ∷ ps)) (joined_tight (q ∷ ps) h.1)
    where
      by : (js : List (Piece bytes)) → TightPieces js → TightPieces (elim js [ [] ↦ p ∷ [] | r ∷ rs ↦ cond (has_none r.before) (record p { seats = p.seats ++ r.seats } ∷ rs) (p ∷ r ∷ rs) ])
      by [] k = (h.0, tt)
      by (r ∷ rs) k = choose (has_none r.before)
        where
          choose : (x : Bool) → TightPieces (cond x (record p { seats = p.seats ++ r.seats } ∷ rs) (p ∷ r ∷ rs))
          choose true = (h.0, k.1)
          choose false = (h.0, k)

  pub chunks_tight : (has_previous : Bool) (ps : List (Piece bytes)) → TightPieces ps → Tight (chunks_of bytes has_previous ps)
  chunks_tight has_previous [] h = tt
  chunks_tight has_previous (p ∷ ps) h =
      let chunk : Chunk = record { content = content.Content; has_previous = has_previous; has_next = not (has_none (flat_map (λ q. q.seats) ps)) } in
      let here = chunk_span bytes (Some chunk) name.Data p.seats [] in
      tight_more p.before (here ++ chunks_of bytes true ps) h.0 (tight_more here (chunks_of bytes true ps) (data_tight chunk p.seats) (chunks_tight true ps h.1))

  abbrev pub first_of : Part → Line
  first_of part = drop (cond (has_none part.first.begun) (columns_of (take (length part.stands) part.first.went_on)) part.first.columns) part.first.line

  pub inside_tight : (part : Part) → Tight (inside_of bytes part)
  inside_tight part = by part.first.is_blank (joined_pieces bytes (pieces_of bytes (is_held part) part.first part.more)) (joined_tight (pieces_of bytes (is_held part) part.first part.more) (pieces_tight (is_held part) part.first part.more))
    where
      by : (x : Bool) (js : List (Piece bytes)) → TightPieces js
          → Tight (cond x (white bytes (line_text (first_of part))) (elim js [ [] ↦ [] | p ∷ ps ↦ chunks_of bytes false (record p { before = [] } ∷ ps) ]))
      by true js h = leaf_tight name.SpaceOrTab (line_text (first_of part))
      by false [] h = tt
      by false (p ∷ ps) h = chunks_tight false (record p { before = [] } ∷ ps) (tt, h.1)

  pub ending_tight : (part : Part) → Tight (ending_marks bytes part)
  ending_tight part = by (is_held part)
    where
      by : (x : Bool) → Tight (cond x [] (leaf_marks bytes (cond part.first.is_blank name.BlankLineEnding name.LineEnding) (ending_of (last_line bytes part))))
      by true = tt
      by false = leaf_tight (cond part.first.is_blank name.BlankLineEnding name.LineEnding) (ending_of (last_line bytes part))

  pub exit_each : (fs : List Frame) (p : Point) → Tight (map (λ f. (event bytes Exit f.name p, None)) fs)
  exit_each [] p = tt
  exit_each (f ∷ fs) p = ((λ enter void. no_enter Exit refl enter), refl, exit_each fs p)

  pub exits_tight : (fs : List Frame) (p : Point) → Tight (exits bytes fs p)
  exits_tight fs p = exit_each (reverse fs) p

  pub part_tight : (part : Part) → Tight (part_marks bytes part)
  part_tight part =
      let went = take (length part.stands) part.first.went_on in
      let begun = begun_all bytes part.first.begun (drop (columns_of part.first.went_on) part.first.line) in
      tight_more (prefixes_marks bytes went part.first.line) (begun ++ inside_of bytes part) (prefixes_tight went part.first.line)
      (tight_more begun (inside_of bytes part) (begun_all_tight part.first.begun (drop (columns_of part.first.went_on) part.first.line)) (inside_tight part))

  pub behind_tight : (part : Part) (more : List Part) → Tight (behind_marks bytes part more)
  behind_tight part [] = tight_more (exits bytes part.frames (end_of bytes part)) (ending_marks bytes part) (exits_tight part.frames (end_of bytes part)) (ending_tight part)
  behind_tight part (next ∷ more) =
      let gone = drop (shared part.frames next.frames) part.frames in
      tight_more (exits bytes gone (end_of bytes part)) (ending_marks bytes part ++ (part_marks bytes next ++ behind_marks bytes next more)) (exits_tight gone (end_of bytes part))
      (tight_more (ending_marks bytes part) (part_marks bytes next ++ behind_marks bytes next more) (ending_tight part)
      (tight_more (part_marks bytes next) (behind_marks bytes next more) (part_tight next) (behind_tight next more)))

  pub parts_tight : (ps : List Part) → Tight (parts_marks bytes ps)
  parts_tight [] = tt
  parts_tight (part ∷ more) = tight_more (part_marks bytes part) (behind_marks bytes part more) (part_tight part) (behind_tight part more)

-- ---- events of marks

-- the event at the front is an exit of this name
pub exits_event : (n : Name) (i : ℕ) (previous : Option ℕ) (ms : List Mark) → Exits n ms
    → (f : Event) × (slice_get (chained_from i previous ms) 0 ≡ Some f) × (f.kind ≡ Exit) × (f.name ≡ n)
exits_event n i previous [] h = absurd h
exits_event n i previous ((e, None) ∷ ms) h = (e, refl, h.0, h.1)
exits_event n i previous ((e, Some chunk) ∷ ms) h = (_, refl, h.0, h.1)

pub events_tight : (i : ℕ) (previous : Option ℕ) (ms : List Mark) → Tight ms → IsVoidTight (chained_from i previous ms)
events_tight i previous [] h zero e at enter void = absurd (false≢true (ap is_some at))
events_tight i previous [] h (suc k) e at enter void = absurd (false≢true (ap is_some at))
events_tight i previous ((g, None) ∷ ms) h (suc k) e at enter void =
    let f = events_tight (suc i) previous ms h.2 k e at enter void in
    let on : suc k + 1 ≡ suc (k + 1) = omega arith in
    (f.0, ap (slice_get (chained_from i previous ((g, None) ∷ ms))) on ∙ f.1, f.2, f.3)
events_tight i previous ((g, Some chunk) ∷ ms) h (suc k) e at enter void =
    let f = events_tight (suc i) (Some i) ms h.2 k e at enter void in
    let on : suc k + 1 ≡ suc (k + 1) = omega arith in
    (f.0, ap (slice_get (chained_from i previous ((g, Some chunk) ∷ ms))) on ∙ f.1, f.2, f.3)
events_tight i previous ((g, None) ∷ ms) h zero e at enter void =
    let kind : g.kind ≡ e.kind = ap (λ (o : Option Event). (unwrap_or o e).kind) at in
    let same : g.name ≡ e.name = ap (λ (o : Option Event). (unwrap_or o e).name) at in
    let f = exits_event g.name (suc i) previous ms (h.0 (kind ∙ enter) (ap is_void same ∙ void)) in
    (f.0, f.1, f.2, f.3 ∙ same)
events_tight i previous ((g, Some chunk) ∷ ms) h zero e at enter void =
    let kind : g.kind ≡ e.kind = ap (λ (o : Option Event). (unwrap_or o e).kind) at in
    let same : g.name ≡ e.name = ap (λ (o : Option Event). (unwrap_or o e).name) at in
    let f = exits_event g.name (suc i) (Some i) ms (h.0 (kind ∙ enter) (ap is_void same ∙ void)) in
    (f.0, f.1, f.2, f.3 ∙ same)

-- a chunk behind one event more
pub one_more : (e : Event) (es : List Event) (k : ℕ) → IsChunk es k → IsChunk (e ∷ es) (suc k)
one_more e es k c =
    let on : suc k + 1 ≡ suc (k + 1) = omega arith in
    record { enter = c.enter; exit = c.exit; enter_at = c.enter_at; exit_at = ap (slice_get (e ∷ es)) on ∙ c.exit_at; linked = c.linked; ended = c.ended }

pub events_chunks : (i : ℕ) (previous : Option ℕ) (ms : List Mark) → Tight ms → (k : ℕ) (c : Content) → content_at (chained_from i previous ms) k ≡ Some c → IsChunk (chained_from i previous ms) k
events_chunks i previous [] h zero c at = absurd (false≢true (ap is_some at))
events_chunks i previous [] h (suc k) c at = absurd (false≢true (ap is_some at))
events_chunks i previous ((g, None) ∷ ms) h (suc k) c at = one_more g (chained_from (suc i) previous ms) k (events_chunks (suc i) previous ms h.2 k c at)
events_chunks i previous ((g, Some chunk) ∷ ms) h (suc k) c at = one_more _ (chained_from (suc i) (Some i) ms) k (events_chunks (suc i) (Some i) ms h.2 k c at)
events_chunks i previous ((g, None) ∷ ms) h zero c at = absurd (false≢true (ap is_some (sym (ap (option_map (λ (l : Link). l.content)) h.1) ∙ at)))
events_chunks i previous ((g, Some chunk) ∷ ms) h zero c at =
    let f = exits_event g.name (suc i) (Some i) ms h.1.2 in
    record { enter = _; exit = f.0; enter_at = refl; exit_at = f.1; linked = record { enter = h.1.0; void = h.1.1; linked = refl }; ended = record { exits = f.2; same = f.3 } }

pub skeletons_are_void_tight : SkeletonsAreVoidTight
skeletons_are_void_tight on bytes seats = events_tight 0 None (parts_marks bytes (parts (rows on (lines_in seats)))) (parts_tight bytes (parts (rows on (lines_in seats))))

pub skeletons_have_chunks : SkeletonsHaveChunks
skeletons_have_chunks on bytes seats = events_chunks 0 None (parts_marks bytes (parts (rows on (lines_in seats)))) (parts_tight bytes (parts (rows on (lines_in seats))))
