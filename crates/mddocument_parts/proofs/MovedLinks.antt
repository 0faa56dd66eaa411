-- Delimiter runs and links of a text that is moved: the same, moved.
use Rattle.std.proofs.Common.{Bool, List, None, Option, Some, [], ap, arith, cond, false, length, refl, suc, sym, true, zero, ℕ, ◌%◌, ◌&&◌, ◌++◌, ◌+◌, ◌-◌, ◌==◌, ◌||◌, ◌∙◌, ◌∷◌, ◌≡◌}
use Rattle.std.proofs.lemmas.List.{length-map, map-append}
use Rattle.std.specs.Prelude.{map, slice_get}
use Rattle.markdown_base.specs.declared.event.Event.{Event}
use Rattle.markdown_base.specs.declared.event.Kind.{Kind as EventKind}
use Rattle.markdown_base.specs.declared.event.Kind.TheVariants.{Enter, Exit}
use Rattle.markdown_base.specs.declared.event.Name.{Name}
use Rattle.markdown_base.specs.declared.event.Name.TheVariants.{Data, Image, Label, LabelEnd, LabelImage, LabelLink, LabelMarker, LabelText, Link, Reference, Resource}
use Rattle.markdown_base.specs.declared.event.Point.{Point}
use Rattle.markdown_base.specs.declared.util.char.Kind.{Kind}
use Rattle.markdown_base.specs.declared.util.char.Kind.TheVariants.{Whitespace}
use Rattle.mdinline_emphasis.specs.Classes.{class_after, class_before}
use Rattle.mdinline_emphasis.specs.Emphasis.{Delimiter, Pair, Run, all_in_pairs, close_pairs, closes_yet, closings, data_of, emphasised, events_of_runs, gave, head_events, in_pairs, inner_name, later, look_back, markers_of, markers_of_all, may_pair, on_stack, openings, opens_yet, outer_name, paired, pairs, pairs_from, run_events, sequence_name, style_of, tail_events, unlinked_event}
use Rattle.mdinline_emphasis.specs.Runs.{can_close, can_open, class_beside, depth_after, index_of_event, is_sequence, marker_from, may_mark, run_at, runs_from, runs_in}
use Rattle.mdinline_emphasis.specs.declared.pairs.Style.{Style}
use Rattle.mdinline_links.specs.Linked.{Part, SoFar, Waiting, added, all_parts, around, as_data, emphasised_parts, ended, events, failed, is_bracket, is_named, is_run, is_tail, label_text, last_place, linked_from, made, opened, outermost_spans, part_of, run, runs_of_parts, span_at, spanning, spans_in, taken, text_before, text_behind, with_links}
use Rattle.mdblock_tables.proofs.PieceLemmas.{two}
use Rattle.mddocument_parts.proofs.MovedItems.{AreKnown, Moving, moved_event, moved_events}
use Rattle.mddocument_parts.proofs.Choices.{cond-of}

-- ==== Delimiter runs and emphasis of events that are others, moved.
-- what two tests are of numbers that both are so much greater
pub same-test : (a b n : ℕ) → ((a + n) == (b + n)) ≡ (a == b)
same-test a b n = grind (arith)

module _ (m : Moving) where
  abbrev pub moved_run : Run → Run
  moved_run r = record r { start = m.places.to r.start }

  abbrev pub moved_runs : List Run → List Run
  moved_runs rs = map moved_run rs

  abbrev shifted : Option ℕ → Option ℕ
  shifted None = None
  shifted (Some i) = Some (i + m.bytes)

  -- ---- the runs of events
  beside-moved : (o : Option ℕ) (p : Point) (c d : Kind) → c ≡ d → class_beside (shifted o) (m.places.to p).index c ≡ class_beside o p.index d
  beside-moved None p c d e = refl
  beside-moved (Some j) p c d e =
      let at = m.index p in
      let test : ((j + m.bytes) == (m.places.to p).index) ≡ (j == p.index) = ap (λ i. (j + m.bytes) == i) at ∙ same-test j p.index m.bytes in
      (λ i. cond (test i) (e i) Whitespace)

  next-moved : (es : List Event) → index_of_event (slice_get (moved_events m es) 0) ≡ shifted (index_of_event (slice_get es 0))
  next-moved [] = refl
  next-moved (e ∷ es) = ap (λ i. Some i) (m.index e.point)

  length-moved : (p q : Point) → (m.places.to q).index - (m.places.to p).index ≡ q.index - p.index
  length-moved p q = let a = m.index p in let b = m.index q in omega (arith, a, b)

  run-moved : (one : Bool) (i : ℕ) (e f : Event) (before before2 behind behind2 : Option ℕ) → m.places.known e.point ≡ true → m.places.known f.point ≡ true → before2 ≡ shifted before → behind2 ≡ shifted behind
      → run_at one m.places.new i (moved_event m e) (moved_event m f) before2 behind2 ≡ moved_run (run_at one m.places.old i e f before behind)
  run-moved one i e f before before2 behind behind2 h k is was =
      let left = ap (λ o. class_beside o (m.places.to e.point).index (class_before m.places.new (m.places.to e.point).index)) is ∙ beside-moved before e.point _ _ (m.before e.point h) in
      let right = ap (λ o. class_beside o (m.places.to f.point).index (class_after m.places.new (m.places.to f.point).index)) was ∙ beside-moved behind f.point _ _ (m.after f.point k) in
      let byte = m.byte e.point h in
      let size = length-moved e.point f.point in
      (λ d.
      let marker = marker_from (byte d) in
      let r : Run = record {
        index = i;
        start = m.places.to e.point;
        marker = marker;
        rest = size d % 3;
        opens = may_mark one marker (size d) && can_open marker (left d) (right d);
        closes = may_mark one marker (size d) && can_close marker (left d) (right d);
        closed = [];
        left = size d;
        opened = [];
      } in r)

  runs-from-moved : (one : Bool) (es : List Event) (i depth : ℕ) (before before2 : Option ℕ) → before2 ≡ shifted before → AreKnown m es → runs_from one m.places.new i depth before2 (moved_events m es) ≡ moved_runs (runs_from one m.places.old i depth before es)
  runs-from-moved one [] i depth before before2 is h = refl
  runs-from-moved one (e ∷ []) i depth before before2 is h = refl
  runs-from-moved one (e ∷ f ∷ es) i depth before before2 is h =
      by (depth == 0 && is_sequence e f) _ _ _ _ _ _ (run-moved one i e f before before2 _ _ h.0 h.1.0 is (next-moved es)) (runs-from-moved one es (i + 2) depth (Some f.point.index) _ (ap (λ j. Some j) (m.index f.point)) h.1.1)
      (runs-from-moved one (f ∷ es) (i + 1) (depth_after e.kind depth) (Some e.point.index) _ (ap (λ j. Some j) (m.index e.point)) h.1)
    where
      by : (c : Bool) (r r2 : Run) (x x2 y y2 : List Run) → r2 ≡ moved_run r → x2 ≡ moved_runs x → y2 ≡ moved_runs y → cond c (r2 ∷ x2) y2 ≡ moved_runs (cond c (r ∷ x) y)
      by true r r2 x x2 y y2 p q s = (λ d. p d ∷ q d)
      by false r r2 x x2 y y2 p q s = s

  pub runs-moved : (one : Bool) (es : List Event) → AreKnown m es → runs_in one m.places.new (moved_events m es) ≡ moved_runs (runs_in one m.places.old es)
  runs-moved one es h = runs-from-moved one es 0 0 None None refl h

  -- ---- their pairs
  abbrev moved_delimiter : Delimiter → Delimiter
  moved_delimiter d = record { number = d.number; run = moved_run d.run }

  abbrev moved_stack : List Delimiter → List Delimiter
  moved_stack ds = map moved_delimiter ds

  look-moved : (r : Run) (ds : List Delimiter) → look_back (moved_run r) (moved_stack ds) ≡ moved_stack (look_back r ds)
  look-moved r [] = refl
  look-moved r (d ∷ ds) = ap (cond (may_pair d.run r) (moved_delimiter d ∷ moved_stack ds)) (look-moved r ds) ∙ cond-of moved_stack (may_pair d.run r) (d ∷ ds) (look_back r ds)

  stack-moved : (d : Delimiter) (ds : List Delimiter) → on_stack (moved_delimiter d) (moved_stack ds) ≡ moved_stack (on_stack d ds)
  stack-moved d ds = cond-of moved_stack (opens_yet d.run) (d ∷ ds) ds

  abbrev Closed : Type 0
  Closed = List Delimiter × List Pair

  abbrev moved_closed : Closed → Closed
  moved_closed c = (moved_stack c.0, c.1)

  abbrev with_pair : Delimiter → Delimiter → Style → Closed → Closed
  with_pair o d s more = (more.0, record { opener = o.number; closer = d.number; style = s } ∷ more.1)

  abbrev closing : ℕ → Delimiter → List Delimiter → List Delimiter → Closed
  closing n d ds [] = (on_stack d ds, [])
  closing n d ds (o ∷ below) = let s = style_of o.run d.run in with_pair o d s (close_pairs n (gave s d) (on_stack (gave s o) below))

  closing-is : (n : ℕ) (d : Delimiter) (ds : List Delimiter) → close_pairs (suc n) d ds ≡ cond (closes_yet d.run) (closing n d ds (look_back d.run ds)) (on_stack d ds, [])
  closing-is n d ds = by (look_back d.run ds)
    where
      by : (found : List Delimiter)
          → cond (closes_yet d.run)
          (elim found [
            | [] ↦ (on_stack d ds, [])
            | o ∷ below ↦
                let s = style_of o.run d.run in
                let more = close_pairs n (gave s d) (on_stack (gave s o) below) in
                (more.0, record { opener = o.number; closer = d.number; style = s } ∷ more.1)
          ])
          (on_stack d ds, [])
          ≡ cond (closes_yet d.run) (closing n d ds found) (on_stack d ds, [])
      by [] = refl
      by (o ∷ below) = refl

  close-moved : (n : ℕ) (d : Delimiter) (ds : List Delimiter) → close_pairs n (moved_delimiter d) (moved_stack ds) ≡ moved_closed (close_pairs n d ds)
  close-moved zero d ds = ap (λ s. (s, [])) (stack-moved d ds)
  close-moved (suc n) d ds =
      closing-is n (moved_delimiter d) (moved_stack ds) ∙ by (λ o below. close-moved n (gave (style_of o.run d.run) d) (on_stack (gave (style_of o.run d.run) o) below)) (closes_yet d.run) ∙ sym (ap moved_closed (closing-is n d ds))
    where
      at : ((o : Delimiter) (below : List Delimiter) → close_pairs n (moved_delimiter (gave (style_of o.run d.run) d)) (moved_stack (on_stack (gave (style_of o.run d.run) o) below)) ≡ moved_closed (close_pairs n (gave (style_of o.run d.run) d) (on_stack (gave (style_of o.run d.run) o) below))) → (found : List Delimiter) → closing n (moved_delimiter d) (moved_stack ds) (moved_stack found) ≡ moved_closed (closing n d ds found)
      at before [] = ap (λ s. (s, [])) (stack-moved d ds)
      at before (o ∷ below) =
          let s = style_of o.run d.run in
          ap (λ ds. with_pair o d s (close_pairs n (moved_delimiter (gave s d)) ds)) (stack-moved (gave s o) below) ∙ ap (with_pair o d s) (before o below)

      by : ((o : Delimiter) (below : List Delimiter) → close_pairs n (moved_delimiter (gave (style_of o.run d.run) d)) (moved_stack (on_stack (gave (style_of o.run d.run) o) below)) ≡ moved_closed (close_pairs n (gave (style_of o.run d.run) d) (on_stack (gave (style_of o.run d.run) o) below))) → (c : Bool) → cond c (closing n (moved_delimiter d) (moved_stack ds) (look_back (moved_run d.run) (moved_stack ds))) (on_stack (moved_delimiter d) (moved_stack ds), []) ≡ moved_closed (cond c (closing n d ds (look_back d.run ds)) (on_stack d ds, []))
      by before true = ap (closing n (moved_delimiter d) (moved_stack ds)) (look-moved d.run ds) ∙ at before (look_back d.run ds)
      by before false = ap (λ s. (s, [])) (stack-moved d ds)

  pairs-moved : (n : ℕ) (ds : List Delimiter) (rs : List Run) → pairs_from n (moved_stack ds) (moved_runs rs) ≡ pairs_from n ds rs
  pairs-moved n ds [] = refl
  pairs-moved n ds (r ∷ rs) =
      let d : Delimiter = record { number = n; run = r } in
      let closed = close_pairs r.left d ds in
      ap (λ (c : Closed). c.1 ++ pairs_from (n + 1) c.0 (moved_runs rs)) (close-moved r.left d ds) ∙ ap (λ ps. closed.1 ++ ps) (pairs-moved (n + 1) closed.0 rs)

  all-moved : (ps : List Pair) (n : ℕ) (rs : List Run) → all_in_pairs ps n (moved_runs rs) ≡ moved_runs (all_in_pairs ps n rs)
  all-moved ps n [] = refl
  all-moved ps n (r ∷ rs) = ap (λ more. moved_run (in_pairs ps n r) ∷ more) (all-moved ps (n + 1) rs)

  pub paired-moved : (rs : List Run) → paired (moved_runs rs) ≡ moved_runs (paired rs)
  paired-moved rs = ap (λ ps. all_in_pairs ps 0 (moved_runs rs)) (pairs-moved 0 [] rs) ∙ all-moved (pairs rs) 0 rs

  -- ---- emphasis
  pub unlinked-moved : (kind : EventKind) (name : Name) (p : Point) → unlinked_event kind name (m.places.to p) ≡ moved_event m (unlinked_event kind name p)
  unlinked-moved kind name p = let none = sym m.places.unlinked in (λ i. let e : Event = record { kind = kind; name = name; point = m.places.to p; link = none i } in e)

  closings-moved : (p : Point) (ss : List Style) → closings (m.places.to p) ss ≡ moved_events m (closings p ss)
  closings-moved p [] = refl
  closings-moved p (s ∷ ss) =
      let q = later (markers_of s) p in
      let inner = unlinked-moved Exit (inner_name s) p in
      let enter = unlinked-moved Enter (sequence_name s) p in
      let exit = unlinked-moved Exit (sequence_name s) q in
      let outer = unlinked-moved Exit (outer_name s) q in
      let more = closings-moved q ss in
      ap (λ q. unlinked_event Exit (inner_name s) (m.places.to p) ∷ unlinked_event Enter (sequence_name s) (m.places.to p) ∷ unlinked_event Exit (sequence_name s) q ∷ unlinked_event Exit (outer_name s) q ∷ closings q ss) (sym (m.further (markers_of s) p))
      ∙ (λ i. inner i ∷ enter i ∷ exit i ∷ outer i ∷ more i)

  openings-moved : (p : Point) (ss : List Style) → openings (m.places.to p) ss ≡ moved_events m (openings p ss)
  openings-moved p [] = refl
  openings-moved p (s ∷ ss) =
      let q = later (markers_of s) p in
      let outer = unlinked-moved Enter (outer_name s) p in
      let enter = unlinked-moved Enter (sequence_name s) p in
      let exit = unlinked-moved Exit (sequence_name s) q in
      let inner = unlinked-moved Enter (inner_name s) q in
      let more = openings-moved q ss in
      ap (λ q. unlinked_event Enter (outer_name s) (m.places.to p) ∷ unlinked_event Enter (sequence_name s) (m.places.to p) ∷ unlinked_event Exit (sequence_name s) q ∷ unlinked_event Enter (inner_name s) q ∷ openings q ss) (sym (m.further (markers_of s) p))
      ∙ (λ i. outer i ∷ enter i ∷ exit i ∷ inner i ∷ more i)

  data-moved : (p : Point) (n : ℕ) → data_of (m.places.to p) n ≡ moved_events m (data_of p n)
  data-moved p zero = refl
  data-moved p (suc n) =
      let enter = unlinked-moved Enter Data p in
      let exit = unlinked-moved Exit Data (later (suc n) p) in
      ap (λ q. unlinked_event Enter Data (m.places.to p) ∷ unlinked_event Exit Data q ∷ []) (sym (m.further (suc n) p)) ∙ (λ i. enter i ∷ exit i ∷ [])

  tail-moved : (r : Run) → tail_events (moved_run r) ≡ moved_events m (tail_events r)
  tail-moved r =
      let p = later (markers_of_all r.closed) r.start in
      ap (λ q. data_of q r.left ++ openings (later r.left q) r.opened) (sym (m.further (markers_of_all r.closed) r.start))
      ∙ ap (λ q. data_of (m.places.to p) r.left ++ openings q r.opened) (sym (m.further r.left p))
      ∙ two (moved_event m) _ (data_of p r.left) _ (openings (later r.left p) r.opened) (data-moved p r.left) (openings-moved (later r.left p) r.opened)

  module _ (texts texts2 : ℕ → List Event) (same : (i : ℕ) → texts2 i ≡ moved_events m (texts i)) where
    run-events-moved : (r : Run) → run_events texts2 (moved_run r) ≡ moved_events m (run_events texts r)
    run-events-moved r = two (moved_event m) _ (head_events texts r) _ (tail_events r) (two (moved_event m) _ (texts r.index) _ (closings r.start r.closed) (same r.index) (closings-moved r.start r.closed)) (tail-moved r)

    all-events-moved : (rs : List Run) → events_of_runs texts2 (moved_runs rs) ≡ moved_events m (events_of_runs texts rs)
    all-events-moved [] = refl
    all-events-moved (r ∷ rs) = two (moved_event m) _ (run_events texts r) _ (events_of_runs texts rs) (run-events-moved r) (all-events-moved rs)

    pub emphasised-moved : (rs : List Run) (rest : List Event) → emphasised texts2 (moved_runs rs) (moved_events m rest) ≡ moved_events m (emphasised texts rs rest)
    emphasised-moved rs rest = ap (λ rs. events_of_runs texts2 rs ++ moved_events m rest) (paired-moved rs) ∙ two (moved_event m) _ (events_of_runs texts (paired rs)) _ rest (all-events-moved (paired rs)) refl

-- ==== Links, images and emphasis of events that are others, moved.
module _ (m : Moving) where
  -- ---- spans
  abbrev Cut : Type 0
  Cut = List Event × List Event

  abbrev moved_cut : Cut → Cut
  moved_cut c = (moved_events m c.0, moved_events m c.1)

  span-at-moved : (depth : ℕ) (es : List Event) → span_at depth (moved_events m es) ≡ moved_cut (span_at depth es)
  span-at-moved depth [] = refl
  span-at-moved depth (e ∷ es) = by (depth_after e.kind depth == 0) _ _ (span-at-moved (depth_after e.kind depth) es)
    where
      by : (c : Bool) (x y : Cut) → x ≡ moved_cut y → cond c (moved_event m e ∷ [], moved_events m es) (moved_event m e ∷ x.0, x.1) ≡ moved_cut (cond c (e ∷ [], es) (e ∷ y.0, y.1))
      by true x y h = refl
      by false x y h = ap (λ (c : Cut). (moved_event m e ∷ c.0, c.1)) h

  abbrev moved_spans : List (List Event) → List (List Event)
  moved_spans spans = map (moved_events m) spans

  spans-moved : (bound : ℕ) (es : List Event) → spans_in bound (moved_events m es) ≡ moved_spans (spans_in bound es)
  spans-moved zero es = refl
  spans-moved (suc bound) [] = refl
  spans-moved (suc bound) (e ∷ es) =
      let cut = span_at 0 (e ∷ es) in
      ap (λ (c : Cut). c.0 ∷ spans_in bound c.1) (span-at-moved 0 (e ∷ es)) ∙ ap (λ spans. moved_events m cut.0 ∷ spans) (spans-moved bound cut.1)

  outermost-moved : (es : List Event) → outermost_spans (moved_events m es) ≡ moved_spans (outermost_spans es)
  outermost-moved es = ap (λ n. spans_in n (moved_events m es)) (length-map es (moved_event m)) ∙ spans-moved (length es) es

  named-moved : (name : Name) (span : List Event) → is_named name (moved_events m span) ≡ is_named name span
  named-moved name [] = refl
  named-moved name (e ∷ es) = refl

  run-is : (span : List Event) → is_run (moved_events m span) ≡ is_run span
  run-is [] = refl
  run-is (e ∷ []) = refl
  run-is (e ∷ f ∷ []) = refl
  run-is (e ∷ f ∷ g ∷ es) = refl

  bracket-is : (span : List Event) → is_bracket (moved_events m span) ≡ is_bracket span
  bracket-is span = (λ i. named-moved LabelLink span i || named-moved LabelImage span i)

  tail-is : (span : List Event) → is_tail (moved_events m span) ≡ is_tail span
  tail-is span = (λ i. named-moved Resource span i || named-moved Reference span i)

  -- ---- parts
  abbrev moved_part : Part → Part
  moved_part (run r) = run (moved_run m r)
  moved_part (events es) = events (moved_events m es)

  abbrev moved_parts : List Part → List Part
  moved_parts ps = map moved_part ps

  runs-of-moved : (ps : List Part) → runs_of_parts (moved_parts ps) ≡ moved_runs m (runs_of_parts ps)
  runs-of-moved [] = refl
  runs-of-moved (run r ∷ ps) = ap (λ rs. moved_run m r ∷ rs) (runs-of-moved ps)
  runs-of-moved (events es ∷ ps) = runs-of-moved ps

  before-moved : (since : List Event) (ps : List Part) (index : ℕ) → text_before (moved_events m since) (moved_parts ps) index ≡ moved_events m (text_before since ps index)
  before-moved since [] index = refl
  before-moved since (run r ∷ ps) index = ap (cond (r.index == index) (moved_events m since)) (before-moved [] ps index) ∙ cond-of (moved_events m) (r.index == index) since (text_before [] ps index)
  before-moved since (events es ∷ ps) index = ap (λ s. text_before s (moved_parts ps) index) (sym (map-append (moved_event m) since es)) ∙ before-moved (since ++ es) ps index

  behind-moved : (since : List Event) (ps : List Part) → text_behind (moved_events m since) (moved_parts ps) ≡ moved_events m (text_behind since ps)
  behind-moved since [] = refl
  behind-moved since (run r ∷ ps) = behind-moved [] ps
  behind-moved since (events es ∷ ps) = ap (λ s. text_behind s (moved_parts ps)) (sym (map-append (moved_event m) since es)) ∙ behind-moved (since ++ es) ps

  parts-moved : (ps : List Part) → emphasised_parts (moved_parts ps) ≡ moved_events m (emphasised_parts ps)
  parts-moved ps =
      let rs = runs-of-moved ps in
      let rest = behind-moved [] ps in
      (λ i. emphasised (text_before [] (moved_parts ps)) (rs i) (rest i)) ∙ emphasised-moved m (text_before [] ps) (text_before [] (moved_parts ps)) (before-moved [] ps) (runs_of_parts ps) (text_behind [] ps)

  -- ---- links and images
  last-moved : (p : Point) (es : List Event) → last_place (m.places.to p) (moved_events m es) ≡ m.places.to (last_place p es)
  last-moved p [] = refl
  last-moved p (e ∷ es) = last-moved e.point es

  spanning-moved : (name : Name) (start end : Point) (es : List Event) → spanning name (m.places.to start) (m.places.to end) (moved_events m es) ≡ moved_events m (spanning name start end es)
  spanning-moved name start end es =
      let enter = unlinked-moved m Enter name start in
      let exit = unlinked-moved m Exit name end in
      let rest = two (moved_event m) _ es _ (unlinked_event Exit name end ∷ []) refl (ap (λ e. e ∷ []) exit) in
      (λ i. enter i ∷ rest i)

  around-moved : (name : Name) (es : List Event) → around name (moved_events m es) ≡ moved_events m (around name es)
  around-moved name [] = refl
  around-moved name (e ∷ es) = ap (λ p. spanning name (m.places.to e.point) p (moved_events m (e ∷ es))) (last-moved e.point es) ∙ spanning-moved name e.point (last_place e.point es) (e ∷ es)

  as-data-moved : (es : List Event) → as_data (moved_events m es) ≡ moved_events m (as_data es)
  as-data-moved [] = refl
  as-data-moved (e ∷ es) =
      let enter = unlinked-moved m Enter Data e.point in
      let exit = ap (unlinked_event Exit Data) (last-moved e.point es) ∙ unlinked-moved m Exit Data (last_place e.point es) in
      (λ i. enter i ∷ exit i ∷ [])

  text-moved : (opener close : List Event) (between : List Part) → label_text (moved_events m opener) (moved_events m close) (moved_parts between) ≡ moved_events m (label_text opener close between)
  text-moved [] close between = refl
  text-moved (e ∷ es) [] between = refl
  text-moved (e ∷ es) (f ∷ fs) [] = refl
  text-moved (e ∷ es) (f ∷ fs) (p ∷ ps) =
      let start = last-moved e.point es in
      let inside = parts-moved (p ∷ ps) in
      let at = last_place e.point es in
      let text = emphasised_parts (p ∷ ps) in
      (λ i. spanning LabelText (start i) (last_place (start i) (inside i)) (inside i))
      ∙ ap (λ q. spanning LabelText (m.places.to at) q (moved_events m text)) (last-moved at text)
      ∙ spanning-moved LabelText at (last_place at text) text

  made-moved : (opener : List Event) (between : List Part) (close tail : List Event)
      → made (moved_events m opener) (moved_parts between) (moved_events m close) (moved_events m tail) ≡ moved_events m (made opener between close tail)
  made-moved opener between close tail =
      let name = ap (λ c. cond c Image Link) (named-moved LabelImage opener) in
      let inside = label_text opener close between ++ close in
      let label = two (moved_event m) _ opener _ inside refl (two (moved_event m) _ (label_text opener close between) _ close (text-moved opener close between) refl) in
      let whole = around Label (opener ++ inside) ++ tail in
      let all = two (moved_event m) _ (around Label (opener ++ inside)) _ tail (ap (around Label) label ∙ around-moved Label (opener ++ inside)) refl in
      (λ i. around (name i) (all i)) ∙ around-moved (cond (is_named LabelImage opener) Image Link) whole

  -- ---- brackets that wait
  abbrev moved_waiting : Waiting → Waiting
  moved_waiting w = record { opener = moved_events m w.opener; before = moved_parts w.before }

  abbrev all_waiting : List Waiting → List Waiting
  all_waiting ws = map moved_waiting ws

  one-moved : (es es2 : List Event) → es2 ≡ moved_events m es → (events es2 ∷ []) ≡ moved_parts (events es ∷ [])
  one-moved es es2 e = ap (λ es. events es ∷ []) e

  all-parts-moved : (ws : List Waiting) (behind : List Part) → all_parts (all_waiting ws) (moved_parts behind) ≡ moved_parts (all_parts ws behind)
  all-parts-moved [] behind = refl
  all-parts-moved (w ∷ ws) behind =
      ap (all_parts (all_waiting ws)) (two moved_part _ w.before _ (events (as_data w.opener) ∷ behind) refl (ap (λ es. events es ∷ moved_parts behind) (as-data-moved w.opener)))
      ∙ all-parts-moved ws (w.before ++ events (as_data w.opener) ∷ behind)

  abbrev Taken : Type 0
  Taken = Part × List Run

  abbrev moved_taken : Taken → Taken
  moved_taken t = (moved_part t.0, moved_runs m t.1)

  part-of-moved : (span : List Event) (rs : List Run) → part_of (moved_events m span) (moved_runs m rs) ≡ moved_taken (part_of span rs)
  part-of-moved span [] = refl
  part-of-moved span (r ∷ rs) = ap (λ c. let t : Taken = cond c (run (moved_run m r), moved_runs m rs) (events (moved_events m span), moved_runs m (r ∷ rs)) in t) (run-is span) ∙ cond-of moved_taken (is_run span) (run r, rs) (events span, r ∷ rs)

  abbrev moved_so_far : SoFar → SoFar
  moved_so_far z = record { waiting = all_waiting z.waiting; behind = moved_parts z.behind; runs = moved_runs m z.runs }

  abbrev so_far : List Waiting → List Part → List Run → SoFar
  so_far ws behind rs = record { waiting = ws; behind = behind; runs = rs }

  failed-moved : (span : List Event) (ws : List Waiting) (z : SoFar) → failed (moved_events m span) (all_waiting ws) (moved_so_far z) ≡ moved_so_far (failed span ws z)
  failed-moved span [] z = ap (λ ps. so_far (all_waiting z.waiting) ps (moved_runs m z.runs)) (two moved_part _ z.behind _ (events (as_data span) ∷ []) refl (one-moved (as_data span) _ (as-data-moved span)))
  failed-moved span (w ∷ ws) z =
      let last = two moved_part _ z.behind _ (events (as_data span) ∷ []) refl (one-moved (as_data span) _ (as-data-moved span)) in
      let opener = as-data-moved w.opener in
      ap (λ ps. so_far (all_waiting ws) ps (moved_runs m z.runs))
      (two moved_part _ w.before _ (events (as_data w.opener) ∷ (z.behind ++ events (as_data span) ∷ [])) refl (λ i. events (opener i) ∷ last i))

  ended-moved : (span tail : List Event) (ws : List Waiting) (z : SoFar) → ended (moved_events m span) (moved_events m tail) (all_waiting ws) (moved_so_far z) ≡ moved_so_far (ended span tail ws z)
  ended-moved span tail [] z =
      ap (λ ps. so_far (all_waiting z.waiting) ps (moved_runs m z.runs)) (two moved_part _ z.behind _ (events (span ++ tail) ∷ []) refl (one-moved (span ++ tail) _ (two (moved_event m) _ span _ tail refl refl)))
  ended-moved span tail (w ∷ ws) z =
      ap (λ ps. so_far (all_waiting ws) ps (moved_runs m z.runs))
      (two moved_part _ w.before _ (events (made w.opener z.behind span tail) ∷ []) refl (one-moved (made w.opener z.behind span tail) _ (made-moved w.opener z.behind span tail)))

  added-moved : (span : List Event) (z : SoFar) → added (moved_events m span) (moved_so_far z) ≡ moved_so_far (added span z)
  added-moved span z =
      let taken = part_of span z.runs in
      ap (λ (t : Taken). so_far (all_waiting z.waiting) (moved_parts z.behind ++ t.0 ∷ []) t.1) (part-of-moved span z.runs)
      ∙ ap (λ ps. so_far (all_waiting z.waiting) ps (moved_runs m taken.1)) (two moved_part _ z.behind _ (taken.0 ∷ []) refl refl)

  taken-moved : (span : List Event) (z : SoFar) → taken (moved_events m span) (moved_so_far z) ≡ moved_so_far (taken span z)
  taken-moved span z =
      let bracket = bracket-is span in
      let marker = named-moved LabelMarker span in
      (λ i. cond (bracket i) (opened (moved_events m span) (moved_so_far z)) (cond (marker i) (failed (moved_events m span) (all_waiting z.waiting) (moved_so_far z)) (added (moved_events m span) (moved_so_far z))))
      ∙ by (is_bracket span) (is_named LabelMarker span)
    where
      by : (c d : Bool) → cond c (opened (moved_events m span) (moved_so_far z)) (cond d (failed (moved_events m span) (all_waiting z.waiting) (moved_so_far z)) (added (moved_events m span) (moved_so_far z)))
          ≡ moved_so_far (cond c (opened span z) (cond d (failed span z.waiting z) (added span z)))
      by true d = refl
      by false true = failed-moved span z.waiting z
      by false false = added-moved span z

  linked-moved : (z : SoFar) (spans : List (List Event)) → linked_from (moved_so_far z) (moved_spans spans) ≡ moved_so_far (linked_from z spans)
  linked-moved z [] = refl
  linked-moved z (span ∷ []) =
      let is = named-moved LabelEnd span in
      ap (λ c. cond c (ended (moved_events m span) [] (all_waiting z.waiting) (moved_so_far z)) (taken (moved_events m span) (moved_so_far z))) is ∙ by (is_named LabelEnd span)
    where
      by : (c : Bool) → cond c (ended (moved_events m span) [] (all_waiting z.waiting) (moved_so_far z)) (taken (moved_events m span) (moved_so_far z)) ≡ moved_so_far (cond c (ended span [] z.waiting z) (taken span z))
      by true = ended-moved span [] z.waiting z
      by false = taken-moved span z
  linked-moved z (span ∷ next ∷ spans) =
      let is = named-moved LabelEnd span in
      let tail = tail-is next in
      let with_tail = ap (λ z. linked_from z (moved_spans spans)) (ended-moved span next z.waiting z) ∙ linked-moved (ended span next z.waiting z) spans in
      let without = ap (λ z. linked_from z (moved_spans (next ∷ spans))) (ended-moved span [] z.waiting z) ∙ linked-moved (ended span [] z.waiting z) (next ∷ spans) in
      let others = ap (λ z. linked_from z (moved_spans (next ∷ spans))) (taken-moved span z) ∙ linked-moved (taken span z) (next ∷ spans) in
      (λ i. cond (is i) (cond (tail i) (with_tail i) (without i)) (others i)) ∙ by (is_named LabelEnd span) (is_tail next) _ _ _
    where
      by : (c d : Bool) (x y w : SoFar) → cond c (cond d (moved_so_far x) (moved_so_far y)) (moved_so_far w) ≡ moved_so_far (cond c (cond d x y) w)
      by true true x y w = refl
      by true false x y w = refl
      by false d x y w = refl

  -- the events of a text, moved, have links, images and emphasis that are the others, moved
  pub links-moved : (one : Bool) (es : List Event) → AreKnown m es → with_links one m.places.new (moved_events m es) ≡ moved_events m (with_links one m.places.old es)
  links-moved one es h =
      let rs = runs_in one m.places.old es in
      let first = so_far [] [] rs in
      let z = linked_from first (outermost_spans es) in
      let runs = runs-moved m one es h in
      let spans = outermost-moved es in
      let folded = (λ i. linked_from (so_far [] [] (runs i)) (spans i)) ∙ linked-moved first (outermost_spans es) in
      ap (λ (z : SoFar). emphasised_parts (all_parts z.waiting z.behind)) folded ∙ ap emphasised_parts (all-parts-moved z.waiting z.behind) ∙ parts-moved (all_parts z.waiting z.behind)
