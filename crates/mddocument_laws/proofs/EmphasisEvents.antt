-- What holds of each event between delimiter runs holds of each where the runs are made into emphasis; and so it does of data, and of spans around events.
use Rattle.std.proofs.Common.{ℕ, zero, suc, ◌+◌, ◌==◌, Bool, List, [], ◌∷◌, map, reverse}
use Rattle.std.specs.List.{AllByRecursion, filter}
use Rattle.markdown_base.proofs.Common.{every-append, every-filter, every-reverse}
use Rattle.markdown_base.specs.declared.event.Event.{Event}
use Rattle.markdown_base.specs.declared.event.Name.{Name}
use Rattle.markdown_base.specs.declared.event.Name.TheVariants.{Data}
use Rattle.markdown_base.specs.declared.event.Point.{Point}
use Rattle.markdown_tokenizer.proofs.Positions.Order.{every-back}
use Rattle.mdinline_emphasis.specs.declared.pairs.Marker.{Marker}
use Rattle.mdinline_emphasis.specs.declared.pairs.Style.{Style}
use Rattle.mdinline_emphasis.specs.Emphasis.{Delimiter, Pair, Run, all_in_pairs, close_pairs, closings, data_of, emphasised, events_of_runs, gave, inner_name, later, markers_of, markers_of_all, openings, outer_name, paired, pairs, pairs_from, sequence_name, style_of, styles}
use Rattle.mdinline_links.specs.Linked.{as_data, spanning}
use Rattle.mddocument_laws.proofs.Emphasis.PairOrder.{by-pairs, delimiter, every-on}

-- the names of a style: of its span, of its markers, and of its text
abbrev pub IsOfStyle : (Name → Type 0) → Style → Type 0
IsOfStyle Of s = Of (outer_name s) × Of (sequence_name s) × Of (inner_name s)

-- and of each style
abbrev pub AreOfEmphasis : (Name → Type 0) → Type 0
AreOfEmphasis Of = (s : Style) → IsOfStyle Of s

-- what holds of each event with such a name, as data has
module _ (P : Event → Type 0) (Of : Name → Type 0) (holds : (e : Event) → Of e.name → P e) (data_is : Of Data) where
  abbrev pub Are : List Event → Type 0
  Are es = AllByRecursion P es

  -- ---- data, and spans
  pub data-are : (p : Point) (n : ℕ) → Are (data_of p n)
  data-are p zero = tt
  data-are p (suc n) = (holds _ data_is, (holds _ data_is, tt))

  pub as-data-are : (es : List Event) → Are (as_data es)
  as-data-are [] = tt
  as-data-are (e ∷ es) = (holds _ data_is, (holds _ data_is, tt))

  pub spanning-are : (n : Name) (start end : Point) (es : List Event) → Of n → Are es → Are (spanning n start end es)
  spanning-are n start end es o h = (holds _ o, every-append P es _ h (holds _ o, tt))

  -- ---- what a run closes and opens, if its styles have such names
  abbrev pub AreStyles : List Style → Type 0
  AreStyles ss = AllByRecursion (IsOfStyle Of) ss

  pub closings-are : (p : Point) (ss : List Style) → AreStyles ss → Are (closings p ss)
  closings-are p [] m = tt
  closings-are p (s ∷ ss) m =
      let (outer, sequence, inner) = m.0 in
      (holds _ inner, (holds _ sequence, (holds _ sequence, (holds _ outer, closings-are (later (markers_of s) p) ss m.1))))

  pub openings-are : (p : Point) (ss : List Style) → AreStyles ss → Are (openings p ss)
  openings-are p [] m = tt
  openings-are p (s ∷ ss) m =
      let (outer, sequence, inner) = m.0 in
      (holds _ outer, (holds _ sequence, (holds _ sequence, (holds _ inner, openings-are (later (markers_of s) p) ss m.1))))

  -- ---- emphasis, where two runs of markers that are on make such a style
  module _ (On : Marker → Type 0) (pair_is : (o r : Run) → On o.marker → On r.marker → IsOfStyle Of (style_of o r)) where
    -- a run of a marker that is on, with such pairs
    pub record IsRun (r : Run) : Type 0 where
      pub on : On r.marker
      pub closed : AreStyles r.closed
      pub opened : AreStyles r.opened

    abbrev pub AreRuns : List Run → Type 0
    AreRuns rs = AllByRecursion IsRun rs

    abbrev AreOn : List Delimiter → Type 0
    AreOn ds = AllByRecursion (λ (d : Delimiter). On d.run.marker) ds

    abbrev ArePairs : List Pair → Type 0
    ArePairs ps = AllByRecursion (λ (p : Pair). IsOfStyle Of p.style) ps

    close-are : (n : ℕ) (d : Delimiter) (stack : List Delimiter) → On d.run.marker → AreOn stack → ArePairs (close_pairs n d stack).1 × AreOn (close_pairs n d stack).0
    close-are n d stack = by-pairs
        (λ d stack r. On d.run.marker → AreOn stack → ArePairs r.1 × AreOn r.0)
        (λ d stack on h. (tt, every-on (λ e. On e.run.marker) d stack on h))
        (λ d o front below rest some closes fits ih on h.
        let behind = every-back (λ (e : Delimiter). On e.run.marker) front (o ∷ below) h in
        let s = style_of o.run d.run in
        let next = ih on (every-on (λ e. On e.run.marker) (gave s o) below behind.0 behind.1) in
        ((pair_is o.run d.run behind.0 on, next.0), next.1))
        n d stack

    from-are : (n : ℕ) (stack : List Delimiter) (rs : List Run) → AreOn stack → AreRuns rs → ArePairs (pairs_from n stack rs)
    from-are n stack [] h k = tt
    from-are n stack (r ∷ rs) h k =
        let closed = close_pairs r.left (delimiter n r) stack in
        let are = close-are r.left (delimiter n r) stack k.0.on h in
        every-append (λ (p : Pair). IsOfStyle Of p.style) closed.1 (pairs_from (n + 1) closed.0 rs) are.0 (from-are (n + 1) closed.0 rs are.1 k.1)

    styles-of : (ps : List Pair) → ArePairs ps → AreStyles (map (λ (p : Pair). p.style) ps)
    styles-of [] h = tt
    styles-of (p ∷ ps) h = (h.0, styles-of ps h.1)

    some-styles : (takes : Pair → Bool) (ps : List Pair) → ArePairs ps → AreStyles (styles takes ps)
    some-styles takes ps h = styles-of (filter takes ps) (every-filter (λ (p : Pair). IsOfStyle Of p.style) takes ps h)

    in-pairs-are : (ps : List Pair) (n : ℕ) (rs : List Run) → ArePairs ps → AreRuns rs → AreRuns (all_in_pairs ps n rs)
    in-pairs-are ps n [] p h = tt
    in-pairs-are ps n (r ∷ rs) p h =
        let closes = λ (q : Pair). q.closer == n in
        let opens = λ (q : Pair). q.opener == n in (
          record {
            on = h.0.on;
            closed = every-append (IsOfStyle Of) r.closed (styles closes ps) h.0.closed (some-styles closes ps p);
            opened = every-append (IsOfStyle Of) (reverse (styles opens ps)) r.opened (every-reverse (IsOfStyle Of) (styles opens ps) (some-styles opens ps p)) h.0.opened;
          },
          in-pairs-are ps (n + 1) rs p h.1,
        )

    runs-are : (texts : ℕ → List Event) → ((k : ℕ) → Are (texts k)) → (rs : List Run) → AreRuns rs → Are (events_of_runs texts rs)
    runs-are texts t [] h = tt
    runs-are texts t (r ∷ rs) h =
        let p = later (markers_of_all r.closed) r.start in
        let closed = every-append P (texts r.index) (closings r.start r.closed) (t r.index) (closings-are r.start r.closed h.0.closed) in
        let opened = every-append P (data_of p r.left) (openings (later r.left p) r.opened) (data-are p r.left) (openings-are (later r.left p) r.opened h.0.opened) in
        every-append P _ (events_of_runs texts rs) (every-append P _ _ closed opened) (runs-are texts t rs h.1)

    pub emphasis-are : (texts : ℕ → List Event) (rs : List Run) (behind : List Event) → ((k : ℕ) → Are (texts k)) → AreRuns rs → Are behind → Are (emphasised texts rs behind)
    emphasis-are texts rs behind t h b =
        every-append P (events_of_runs texts (paired rs)) behind (runs-are texts t (paired rs) (in-pairs-are (pairs rs) 0 rs (from-are 0 [] rs tt h) h)) b
