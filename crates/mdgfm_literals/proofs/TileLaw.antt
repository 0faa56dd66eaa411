-- Innermost spans of events with literals tile what those of the events did.
use Rattle.std.proofs.Common.{◌≡◌, ℕ, zero, suc, ◌≤◌, ◌<◌, ◌++◌, Bool, true, false, cond, List, [], ◌∷◌, drop, take, refl, sym, ap, subst, ◌∙◌, arith, leb-true, leb-false, ltb-true, ltb-false}
use Rattle.std.proofs.Math.Bool.{and-false}
use Rattle.std.proofs.lemmas.Bool.{true≢false}
use Rattle.std.proofs.lemmas.List.{append_assoc}
use Rattle.std.specs.List.{AllByRecursion}
use Rattle.std.specs.Prelude.{◌==◌, ◌&&◌, nat_le, nat_lt, not}
use Rattle.markdown_base.specs.declared.event.Event.{Event}
use Rattle.markdown_base.specs.declared.event.Name.{Name}
use Rattle.markdown_base.specs.declared.event.Name.TheVariants.{Data}
use Rattle.markdown_base.specs.declared.event.Point.{Point}
use Rattle.markdown_base.specs.Events.{is_enter}
use Rattle.markdown_base.specs.Virtual.{point}
use Rattle.markdown_base.proofs.Common.{and-right, every-map}
use Rattle.markdown_base.proofs.Facts.Bools.{and-left}
use Rattle.mdgfm_literals.specs.declared.texts.Literal.{Literal}
use Rattle.mdgfm_literals.specs.Laws.{TileBytes, TilesAreKept, innermost_ranges}
use Rattle.mdgfm_literals.specs.LiteralEvents.{Written, end_of, events_with, left_over, start_of, with_one, written}
use Rattle.mdgfm_events.specs.Places.{later, leaf}
use Rattle.mdgfm_events.specs.Spans.{span_end, span_size}
use Rattle.mdgfm_literals.specs.Stretches.{depth_behind, is_plain, is_text, literals_of}
use Rattle.mdgfm_literals.proofs.Below.{literals-below}
use Rattle.mdgfm_literals.proofs.Fits.{Ascend, Fits, Past, Rise, all-fit, from-zero, literals-rise, past-start}
use Rattle.mdgfm_literals.proofs.Order.{end-behind, end-is, fits-left, fits-low, goes-rise, later-low, later-self, leaf-events, pairs-go-all, start-is, text-well, written-well}
use Rattle.mdgfm_literals.proofs.Tiles.{Tiled, ends_inner, tiled-end, tiled-from, tiled-take, tiles}
use Rattle.mdgfm_literals.proofs.Whole.{Whole, whole-balanced}

none-below : (n : ℕ) → n < 0 → ⊥
none-below n h = absurd (omega (arith, h))

text-enters : (depth : ℕ) (e : Event) → is_text depth e ≡ true → is_enter e.kind ≡ true
text-enters depth e h = and-left (is_enter e.kind) (is_plain e.name) (and-right (depth == 0) (is_enter e.kind && is_plain e.name) h)

no-end : (inside : Bool) (e : Event) → is_enter e.kind ≡ true → ends_inner inside e ≡ false
no-end inside e h = ap (λ k. inside && not k) h ∙ and-false inside

no-end-behind : (inside : Bool) (e : Event) → inside ≡ false → ends_inner inside e ≡ false
no-end-behind inside e h = ap (λ i. ends_inner i e) h

module _ (tab : ℕ) (bytes : List ℕ) (to : ℕ) where
  leaf-tiled : (n : Name) (inside : Bool) (p q : Point) (rest : List Event) → p.index ≤ q.index → ((i : Bool) → (p.index < q.index → i ≡ false) → Tiled to i q.index rest)
      → Tiled to inside p.index (leaf n p q ++ rest)
  leaf-tiled n inside p q rest h k = by (nat_lt p.index q.index) refl
    where
      by : (t : Bool) → nat_lt p.index q.index ≡ t → Tiled to inside p.index (cond t (leaf-events n p q) [] ++ rest)
      by true lt = (omega arith, (λ isnt. refl), (h, (λ isnt. absurd (true≢false isnt)), k false (λ less. refl)))
      by false ge =
          let over = ltb-false p.index q.index ge in
          let same : q.index ≡ p.index = omega (arith, h, over) in
          subst (λ i. Tiled to inside i rest) same (k inside (λ less. absurd (omega (arith, less, over))))

  module _ (first : Point) (stop : ℕ) where
    written-tiled : (place : Point) (ls : List Literal) (inside : Bool) (at : ℕ) (rest : List Event) → Ascend place.index ls → AllByRecursion (λ l. first.index ≤ l.from) ls
        → (first.index < place.index → inside ≡ false) → at ≡ (later place first).index
        → ((i : Bool) → (first.index < (written tab bytes first stop place ls).place.index → i ≡ false) → Tiled to i (later (written tab bytes first stop place ls).place first).index rest)
        → Tiled to inside at ((written tab bytes first stop place ls).events ++ rest)
    written-tiled place [] inside at rest rising low outer here k = subst (λ i. Tiled to inside i rest) (sym here) (k inside outer)
    written-tiled place (l ∷ ls) inside at rest rising low outer here k =
        by (nat_lt l.from stop) (written tab bytes first stop end' ls)
        (λ i flag. written-tiled end' ls i end'.index rest (subst (λ i. Ascend i ls) (sym is) rising.2) low.1 (λ less. flag) (ap (λ (p : Point). p.index) (sym last))) k
      where
        from' : Point
        from' = later place first

        start' : Point
        start' = start_of tab bytes from' l

        end' : Point
        end' = end_of tab bytes from' l

        is : end'.index ≡ l.to
        is = end-is tab bytes place first l rising.0 low.0 rising.1

        last : later end' first ≡ end'
        last = later-self end' first (end-behind tab bytes place first l rising.0 low.0 rising.1)

        by : (t : Bool) (more : Written)
            → ((i : Bool) → i ≡ false → ((j : Bool) → (first.index < more.place.index → j ≡ false) → Tiled to j (later more.place first).index rest) → Tiled to i end'.index (more.events ++ rest))
            → ((i : Bool) → (first.index < (cond t (record more { events = with_one tab bytes from' l ++ more.events }) (record { events = []; place = place; left = l ∷ ls })).place.index → i ≡ false)
            → Tiled to i (later (cond t (record more { events = with_one tab bytes from' l ++ more.events }) (record { events = []; place = place; left = l ∷ ls })).place first).index rest)
            → Tiled to inside at ((cond t (record more { events = with_one tab bytes from' l ++ more.events }) (record { events = []; place = place; left = l ∷ ls })).events ++ rest)
        by true more on k =
            let before = leaf Data from' start' in
            let lit = leaf l.name start' end' in
            let begins : start'.index ≡ l.from = start-is tab bytes place first l rising.0 low.0 rising.1 in
            let behind : from'.index ≤ l.from = later-low place first l.from rising.0 low.0 in
            subst (λ i. Tiled to inside i (((before ++ lit) ++ more.events) ++ rest)) (sym here)
            (subst (Tiled to inside from'.index) (sym (append_assoc (before ++ lit) more.events rest ∙ append_assoc before lit (more.events ++ rest)))
            (leaf-tiled Data inside from' start' (lit ++ (more.events ++ rest)) (omega (arith, begins, behind)) (λ i flag.
            leaf-tiled l.name i start' end' (more.events ++ rest) (omega (arith, begins, is, rising.1)) (λ j empty. on j (empty (omega (arith, begins, is, rising.1))) k))))
        by false more on k = subst (λ i. Tiled to inside i rest) (sym here) (k inside outer)

  -- where the innermost spans of the events with literals end, if those of the events end at an index
  abbrev Cover : (place : Point) → (inside : Bool) → (at : ℕ) → (end : ℕ) → Type 0
  Cover place inside at end = (place.index ≤ at → end ≡ at) × (at < place.index → (end ≡ place.index) × (inside ≡ false))

  cover-end : (place : Point) (inside : Bool) (at end : ℕ) → place.index ≤ to → Cover place inside at end → at ≡ to → end ≡ to
  cover-end place inside at end h c t = by (nat_le place.index at) refl
    where
      by : (b : Bool) → nat_le place.index at ≡ b → end ≡ to
      by true le = c.0 (leb-true place.index at le) ∙ t
      by false gt = let less = leb-false place.index at gt in absurd (omega (arith, less, h, t))

  cover-behind : (place : Point) (inside : Bool) (at : ℕ) → place.index ≤ at → Cover place inside at at
  cover-behind place inside at h = ((λ le. refl), (λ less. absurd (omega (arith, less, h))))

  -- an event that is no text
  other-tiled : (place : Point) (inside : Bool) (at end : ℕ) (e : Event) (es out : List Event) → Cover place inside at end → place.index ≤ e.point.index → Tiled to inside at (e ∷ es)
      → Tiled to (is_enter e.kind) e.point.index out → Tiled to inside end (e ∷ out)
  other-tiled place inside at end e es out c h t more = by (nat_le place.index at) refl
    where
      by : (b : Bool) → nat_le place.index at ≡ b → Tiled to inside end (e ∷ out)
      by true le = let same = c.0 (leb-true place.index at le) in (omega (arith, same, t.0), (λ isnt. t.1 isnt ∙ sym same), more)
      by false gt =
          let less = leb-false place.index at gt in
          let outer = c.1 less in
          let here = t.1 (no-end-behind inside e outer.1) in
          absurd (omega (arith, less, here, h))

  left-tiled : (place : Point) (e : Event) (es more : List Event) (i : Bool) → (e.point.index < place.index → i ≡ false) → Tiled to (is_enter e.kind) e.point.index es
      → Tiled to false (span_end e.point 0 es).index (drop (span_size 0 es) es)
      → ((j : Bool) (at end : ℕ) → Cover place j at end → Tiled to j at (drop (span_size 0 es) es) → Tiled to j end more)
      → Tiled to i (later place e.point).index (left_over place e.point (span_end e.point 0 es) (e ∷ take (span_size 0 es) es) ++ more)
  left-tiled place e es more i flag t last k = by (nat_le place.index e.point.index) refl
    where
      n : ℕ
      n = span_size 0 es

      q : Point
      q = span_end e.point 0 es

      short : (b : Bool) → nat_lt place.index q.index ≡ b → i ≡ false → Tiled to i place.index (cond b (leaf-events Data place q) [] ++ more)
      short true lt is =
          let less = ltb-true place.index q.index lt in
          (omega arith, (λ isnt. refl), (omega (arith, less), (λ isnt. absurd (true≢false isnt)), k false q.index q.index (cover-behind place false q.index (omega (arith, less))) last))
      short false ge is =
          let over = ltb-false place.index q.index ge in
          subst (λ j. Tiled to j place.index more) (sym is) (k false q.index place.index ((λ le. omega (arith, le, over)), (λ less. (refl, refl))) last)

      by : (b : Bool) → nat_le place.index e.point.index ≡ b → Tiled to i (cond b e.point place).index (cond b (e ∷ take n es) (leaf Data place q) ++ more)
      by true le =
          let low = leb-true place.index e.point.index le in
          (omega arith, (λ isnt. refl), tiled-take to n (is_enter e.kind) e.point.index es more t (λ j c on tc. k j c c (cover-behind place j c (omega (arith, low, on))) tc))
      by false gt = short (nat_lt place.index q.index) refl (flag (leb-false place.index e.point.index gt))

  pub with-tiled : (skip depth : ℕ) (place : Point) (ls : List Literal) (es : List Event) (inside : Bool) (at end : ℕ) → place.vs ≡ 0 → Ascend place.index ls
      → AllByRecursion (λ l. Fits l depth skip es) ls → Past place.index depth skip es → Whole depth skip es → place.index ≤ to → AllByRecursion (λ (l : Literal). l.to ≤ to) ls
      → Cover place inside at end → Tiled to inside at (drop skip es) → Tiled to inside end (events_with tab bytes skip depth place ls es)
  with-tiled zero depth place ls [] inside at end flat rising fits past whole high all c t = cover-end place inside at end high c t
  with-tiled (suc skip) depth place ls [] inside at end flat rising fits past whole high all c t = cover-end place inside at end high c t
  with-tiled (suc skip) depth place ls (e ∷ es) inside at end flat rising fits past whole high all c t =
      with-tiled skip depth place ls es inside at end flat rising fits past whole high all c t
  with-tiled zero depth place ls (e ∷ es) inside at end flat rising fits past whole high all c t =
      by (is_text depth e) refl (λ place ls i at end. with-tiled (span_size 0 es) depth place ls es i at end)
      (λ fits past whole c t. with-tiled 0 (depth_behind depth e) place ls es (is_enter e.kind) e.point.index e.point.index flat rising fits past whole high all c t)
    where
      n : ℕ
      n = span_size 0 es

      q : Point
      q = span_end e.point 0 es

      w : Written
      w = written tab bytes e.point q.index place ls

      by : (b : Bool) → is_text depth e ≡ b
          → ((place : Point) (ls : List Literal) (i : Bool) (at end : ℕ) → place.vs ≡ 0 → Ascend place.index ls → AllByRecursion (λ l. Fits l depth n es) ls → Past place.index depth n es → Whole depth n es
          → place.index ≤ to → AllByRecursion (λ (l : Literal). l.to ≤ to) ls → Cover place i at end → Tiled to i at (drop n es) → Tiled to i end (events_with tab bytes n depth place ls es))
          → (AllByRecursion (λ l. Fits l (depth_behind depth e) 0 es) ls → Past place.index (depth_behind depth e) 0 es → Whole (depth_behind depth e) 0 es
          → Cover place (is_enter e.kind) e.point.index e.point.index → Tiled to (is_enter e.kind) e.point.index es
          → Tiled to (is_enter e.kind) e.point.index (events_with tab bytes 0 (depth_behind depth e) place ls es))
          → Tiled to inside end (cond b (w.events ++ (left_over w.place e.point q (e ∷ take n es) ++ events_with tab bytes n depth w.place w.left es)) (e ∷ events_with tab bytes 0 (depth_behind depth e) place ls es))
      by true text on other =
          let well = text-well tab bytes depth place ls e es text flat rising fits past in
          let low = fits-low tab bytes depth e es ls fits in
          let most = written-well tab bytes e.point q.index (λ i. i ≤ to) (λ l. l.to ≤ to) place ls flat rising low high (every-map (λ (l : Literal). l.to ≤ to) (λ l. (l.to ≤ to) × (l.from < q.index → l.to ≤ to)) (λ l h. (h, (λ less. h))) ls all) in
          let here : e.point.index ≡ at = t.1 (no-end inside e (text-enters depth e text)) in
          let closes = (whole.0 text) in
          let last = tiled-end to e.point 0 (is_enter e.kind) e.point.index es closes.0 t.2 in
          written-tiled e.point q.index place ls inside end (left_over w.place e.point q (e ∷ take n es) ++ events_with tab bytes n depth w.place w.left es) rising low
          (λ less. (c.1 (omega (arith, less, here))).1) (covered (nat_le place.index e.point.index) refl here)
          (λ i flag. left-tiled w.place e es (events_with tab bytes n depth w.place w.left es) i flag t.2 last
          (λ j at end cover tc. on w.place w.left j at end well.flat well.rising (fits-left tab bytes depth n q.index es w.left well.each well.late) well.kept closes.1 most.kept most.each cover tc))
        where
          covered : (b : Bool) → nat_le place.index e.point.index ≡ b → e.point.index ≡ at → end ≡ (cond b e.point place).index
          covered true le here = let low = leb-true place.index e.point.index le in c.0 (omega (arith, low, here)) ∙ sym here
          covered false gt here = let less = leb-false place.index e.point.index gt in (c.1 (omega (arith, less, here))).0
      by false isnt on other =
          let behind = past.1 isnt in
          other-tiled place inside at end e es (events_with tab bytes 0 (depth_behind depth e) place ls es) c behind.0 t
          (other (every-map (λ l. Fits l depth 0 (e ∷ es)) (λ l. Fits l (depth_behind depth e) 0 es) (λ l f. f.2 isnt) ls fits) behind.1 (whole.1 isnt) (cover-behind place (is_enter e.kind) e.point.index behind.0) t.2)

pub tiles-kept : TilesAreKept
tiles-kept options bytes events from to balanced order inside tile = by options.constructs.gfm_autolink_literal
  where
    start : Point
    start = point 1 1 0 0

    ls : List Literal
    ls = literals_of bytes true 0 0 events

    rise : Rise 0 events
    rise = goes-rise start events (pairs-go-all start events refl refl order.0)

    rise-from : (es : List Event) → Rise 0 es → AllByRecursion (λ e. (from ≤ e.point.index) × (e.point.index ≤ to)) es → Rise from es
    rise-from [] r all = tt
    rise-from (e ∷ es) r all = (all.0.0, r.1)

    below : AllByRecursion (λ e. e.point.index ≤ to) events
    below = every-map (λ (e : Event). (from ≤ e.point.index) × (e.point.index ≤ to)) (λ (e : Event). e.point.index ≤ to) (λ e h. h.1) events inside

    -- none is tiled backwards
    no-less : (es : List Event) → Rise 0 es → AllByRecursion (λ e. (from ≤ e.point.index) × (e.point.index ≤ to)) es → TileBytes from (innermost_ranges es) to → from ≤ to
    no-less [] r all t = omega (arith, t)
    no-less (e ∷ es) r all t = let first = all.0.0 in let last = all.0.1 in omega (arith, first, last)

    by : (t : Bool) → TileBytes from (innermost_ranges (cond t (events_with options.tab_size bytes 0 0 start ls events) events)) to
    by true =
        let all = events_with options.tab_size bytes 0 0 start ls events in
        let before = tiled-from to from events (rise-from events rise inside) (no-less events rise inside tile) below tile in
        tiles to from all
        (with-tiled options.tab_size bytes to 0 0 start ls events false from from refl (literals-rise bytes true 0 0 0 events rise) (all-fit bytes true 0 0 0 events rise) (past-start 0 0 events)
        (whole-balanced events balanced) (from-zero to) (literals-below to bytes true 0 0 events below) ((λ le. refl), (λ less. absurd (none-below from less))) before)
    by false = tile
