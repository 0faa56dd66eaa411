-- Events with literals go forward, if the events did.
use Rattle.std.proofs.Common.{◌≡◌, ℕ, zero, suc, ◌+◌, ◌-◌, ◌<◌, ◌≤◌, ◌++◌, Bool, true, false, cond, List, [], ◌∷◌, drop, take, refl, sym, ap, subst, ◌∙◌, arith, leb-true, leb-false, ltb-true, ltb-false}
use Rattle.std.proofs.lemmas.Bool.Decides.{nat_tests}
use Rattle.std.proofs.lemmas.List.{append_assoc}
use Rattle.std.specs.List.{AllByRecursion, AllPairs}
use Rattle.std.specs.Prelude.{◌==◌, nat_le, nat_lt, slice_range}
use Rattle.markdown_base.specs.declared.event.Event.{Event}
use Rattle.markdown_base.specs.declared.event.Kind.TheVariants.{Enter, Exit}
use Rattle.markdown_base.specs.declared.event.Name.{Name}
use Rattle.markdown_base.specs.declared.event.Name.TheVariants.{Data}
use Rattle.markdown_base.specs.declared.event.Point.{Point}
use Rattle.markdown_base.specs.Events.{is_enter}
use Rattle.markdown_base.specs.Places.{stands_before}
use Rattle.markdown_base.proofs.Common.{every-map}
use Rattle.markdown_base.proofs.Orders.{InOrder, order-pairs, upto-upto}
use Rattle.markdown_base.proofs.Seats.{stands-self}
use Rattle.mdgfm_literals.specs.declared.texts.Literal.{Literal}
use Rattle.mdgfm_literals.specs.LiteralEvents.{Written, end_of, events_with, left_over, start_of, with_one, written}
use Rattle.mdgfm_events.specs.Places.{column_behind, event, later, leaf, place_at}
use Rattle.mdgfm_events.specs.Spans.{span_end, span_size}
use Rattle.mdgfm_literals.specs.Stretches.{depth_behind, is_text}
use Rattle.mdgfm_literals.proofs.Fits.{Ascend, Fits, Past, Rise, ascend-from, drop-one, from-each}

-- ---- events that go forward from a place

abbrev pub Goes : Point → List Event → Type 0
Goes p [] = Unit {0}
Goes p (e ∷ es) = (stands_before e.point p ≡ false) × Goes e.point es

pub goes-less : (b p : Point) (es : List Event) → stands_before p b ≡ false → Goes p es → Goes b es
goes-less b p [] h g = tt
goes-less b p (e ∷ es) h g = (upto-upto b p e.point h g.0, g.1)

pub forward-index : (p q : Point) → stands_before q p ≡ false → p.index ≤ q.index
forward-index p q h = grind (arith, nat_tests)

pub lower-index : (p q : Point) → p.index < q.index → stands_before q p ≡ false
lower-index p q h = grind (arith, nat_tests)

-- behind a place that is in no tab
pub flat-index : (p q : Point) → p.vs ≡ 0 → p.index ≤ q.index → stands_before q p ≡ false
flat-index p q v h = grind (arith, nat_tests)

pub goes-rise : (p : Point) (es : List Event) → Goes p es → Rise p.index es
goes-rise p [] g = tt
goes-rise p (e ∷ es) g = (forward-index p e.point g.0, goes-rise e.point es g.1)

-- behind a span
pub goes-end : (p : Point) (n : ℕ) (es : List Event) → Goes p es → (stands_before (span_end p n es) p ≡ false) × Goes (span_end p n es) (drop (span_size n es) es)
goes-end p n [] g = (stands-self p, tt)
goes-end p n (e ∷ es) g = by (is_enter e.kind) (n == 0) (goes-end p (n + 1) es (goes-less p e.point es g.0 g.1)) (goes-end p (n - 1) es (goes-less p e.point es g.0 g.1))
  where
    on : (q : Point) (k : ℕ) → (stands_before q p ≡ false) × Goes q (drop k es) → (stands_before q p ≡ false) × Goes q (drop (k + 1) (e ∷ es))
    on q k h = (h.0, subst (λ ts. Goes q ts) (sym (drop-one k e es)) h.1)

    by : (b z : Bool) → (stands_before (span_end p (n + 1) es) p ≡ false) × Goes (span_end p (n + 1) es) (drop (span_size (n + 1) es) es)
        → (stands_before (span_end p (n - 1) es) p ≡ false) × Goes (span_end p (n - 1) es) (drop (span_size (n - 1) es) es)
        → (stands_before (cond b (span_end p (n + 1) es) (cond z e.point (span_end p (n - 1) es))) p ≡ false)
        × Goes (cond b (span_end p (n + 1) es) (cond z e.point (span_end p (n - 1) es))) (drop (cond b (span_size (n + 1) es + 1) (cond z 1 (span_size (n - 1) es + 1))) (e ∷ es))
    by true z h k = on (span_end p (n + 1) es) (span_size (n + 1) es) h
    by false true h k = g
    by false false h k = on (span_end p (n - 1) es) (span_size (n - 1) es) k

-- a front of them, and what goes on from its end
goes-take : (n : ℕ) (p : Point) (es more : List Event) → Goes p es → ((c : Point) → p.index ≤ c.index → Goes c (drop n es) → Goes c more) → Goes p (take n es ++ more)
goes-take zero p es more g k = k p (omega arith) g
goes-take (suc n) p [] more g k = k p (omega arith) tt
goes-take (suc n) p (e ∷ es) more g k = (g.0, goes-take n e.point es more g.1 (λ c h gc. let low = forward-index p e.point g.0 in k c (omega (arith, h, low)) gc))

abbrev pub last-place : Point → List Event → Point
last-place p [] = p
last-place p (e ∷ es) = last-place e.point es

goes-in-order : (p : Point) (es : List Event) → Goes p es → InOrder p es (last-place p es)
goes-in-order p [] g = stands-self p
goes-in-order p (e ∷ es) g = (g.0, goes-in-order e.point es g.1)

pub goes-pairs : (p : Point) (es : List Event) → Goes p es → AllPairs (λ (e f : Event). stands_before f.point e.point ≡ false) es
goes-pairs p es g = order-pairs p es (last-place p es) (goes-in-order p es g)

pairs-go : (e : Event) (es : List Event) → AllPairs (λ (e f : Event). stands_before f.point e.point ≡ false) (e ∷ es) → Goes e.point es
pairs-go e [] h = tt
pairs-go e (f ∷ es) h = (h 0 1 e (omega arith) (omega arith), pairs-go f es (λ i j d less within. h (suc i) (suc j) d (omega (arith, less)) (omega (arith, within))))

from-start : (p q : Point) → p.index ≡ 0 → p.vs ≡ 0 → stands_before q p ≡ false
from-start p q h k = grind (arith, nat_tests)

pub pairs-go-all : (p : Point) (es : List Event) → p.index ≡ 0 → p.vs ≡ 0 → AllPairs (λ (e f : Event). stands_before f.point e.point ≡ false) es → Goes p es
pairs-go-all p [] h k all = tt
pairs-go-all p (e ∷ es) h k all = (from-start p e.point h k, pairs-go e es all)

-- ---- places

pub later-other : (p q : Point) → p.index ≤ q.index → later p q ≡ q
later-other p q h = by (nat_le p.index q.index) refl
  where
    by : (t : Bool) → nat_le p.index q.index ≡ t → cond t q p ≡ q
    by true e = refl
    by false e = let less = leb-false p.index q.index e in absurd (omega (arith, h, less))

pub later-self : (p q : Point) → q.index < p.index → later p q ≡ p
later-self p q h = by (nat_le p.index q.index) refl
  where
    by : (t : Bool) → nat_le p.index q.index ≡ t → cond t q p ≡ p
    by true e = let less = leb-true p.index q.index e in absurd (omega (arith, h, less))
    by false e = refl

pub later-low : (p q : Point) (i : ℕ) → p.index ≤ i → q.index ≤ i → (later p q).index ≤ i
later-low p q i h k = by (nat_le p.index q.index)
  where
    by : (t : Bool) → (cond t q p).index ≤ i
    by true = k
    by false = h

-- events come behind a last event, and behind a last literal
abbrev pub Comes : (place b : Point) → List Event → Type 0
Comes place b [] = Unit {0}
Comes place b (e ∷ es) = (stands_before (later place e.point) b ≡ false) × Goes e.point es

comes-behind : (place b : Point) (es : List Event) → place.index ≤ b.index → Goes b es → Comes place b es
comes-behind place b [] h g = tt
comes-behind place b (e ∷ es) h g =
    let on = forward-index b e.point g.0 in (ap (λ p. stands_before p b) (later-other place e.point (omega (arith, h, on))) ∙ g.0, g.1)

pub start-comes : (place b : Point) (es : List Event) → place.index ≡ 0 → Goes b es → Comes place b es
start-comes place b es first g = comes-behind place b es (omega (arith, first)) g

comes-literal : (place b c : Point) (es : List Event) → place.vs ≡ 0 → stands_before place b ≡ false → Goes c es → Comes place b es
comes-literal place b c [] flat h g = tt
comes-literal place b c (e ∷ es) flat h g = (by (nat_le place.index e.point.index) refl, g.1)
  where
    by : (t : Bool) → nat_le place.index e.point.index ≡ t → stands_before (cond t e.point place) b ≡ false
    by true le = upto-upto b place e.point h (flat-index place e.point flat (leb-true place.index e.point.index le))
    by false gt = h

abbrev pub leaf-events : Name → (from to : Point) → List Event
leaf-events n p q = event Enter n p ∷ event Exit n q ∷ []

-- a span with nothing in it, and what is behind it
pub leaf-goes : (n : Name) (b p q : Point) (rest : List Event) → stands_before p b ≡ false → stands_before q p ≡ false → Goes q rest → Goes b (leaf n p q ++ rest)
leaf-goes n b p q rest h k g = by (nat_lt p.index q.index)
  where
    by : (t : Bool) → Goes b (cond t (leaf-events n p q) [] ++ rest)
    by true = (h, (k, g))
    by false = goes-less b q rest (upto-upto b p q h k) g

module _ (tab : ℕ) (bytes : List ℕ) where
  abbrev pub beyond : Point → ℕ → Point
  beyond p i = record { line = p.line; column = column_behind tab p.column (slice_range bytes p.index i); index = i; vs = 0 }

  pub at-index : (p : Point) (i : ℕ) → p.index ≤ i → (place_at tab bytes p i).index ≡ i
  at-index p i h = by (nat_le i p.index) refl
    where
      by : (t : Bool) → nat_le i p.index ≡ t → (cond t p (beyond p i)).index ≡ i
      by true e = let less = leb-true i p.index e in omega (arith, less, h)
      by false e = refl

  pub at-flat : (p : Point) (i : ℕ) → p.index < i → (place_at tab bytes p i).vs ≡ 0
  at-flat p i h = by (nat_le i p.index) refl
    where
      by : (t : Bool) → nat_le i p.index ≡ t → (cond t p (beyond p i)).vs ≡ 0
      by true e = let less = leb-true i p.index e in absurd (omega (arith, less, h))
      by false e = refl

  pub at-on : (p : Point) (i : ℕ) → stands_before (place_at tab bytes p i) p ≡ false
  at-on p i = by (nat_le i p.index) refl
    where
      by : (t : Bool) → nat_le i p.index ≡ t → stands_before (cond t p (beyond p i)) p ≡ false
      by true e = stands-self p
      by false e = lower-index p (beyond p i) (leb-false i p.index e)

  -- ---- a literal that is written behind a place

  module _ (place first : Point) (l : Literal) (h : place.index ≤ l.from) (k : first.index ≤ l.from) (some : l.from < l.to) where
    abbrev from : Point
    from = later place first

    pub start-is : (start_of tab bytes from l).index ≡ l.from
    start-is = at-index from l.from (later-low place first l.from h k)

    pub end-is : (end_of tab bytes from l).index ≡ l.to
    end-is = let start = start-is in at-index (start_of tab bytes from l) l.to (omega (arith, start, some))

    pub end-flat : (end_of tab bytes from l).vs ≡ 0
    end-flat = let start = start-is in at-flat (start_of tab bytes from l) l.to (omega (arith, start, some))

    pub end-behind : first.index < (end_of tab bytes from l).index
    end-behind = let end = end-is in omega (arith, end, k, some)

  -- ---- what was written

  pub record Wrote (P : ℕ → Type 0) (Q : Literal → Type 0) (stop : ℕ) (w : Written) : Type 0 where
    pub flat : w.place.vs ≡ 0
    pub rising : Ascend w.place.index w.left
    pub late : AllByRecursion (λ l. stop ≤ l.from) w.left
    pub kept : P w.place.index
    pub each : AllByRecursion Q w.left

  module _ (first : Point) (stop : ℕ) where
    pub written-well : (P : ℕ → Type 0) (Q : Literal → Type 0) (place : Point) (ls : List Literal) → place.vs ≡ 0 → Ascend place.index ls → AllByRecursion (λ l. first.index ≤ l.from) ls
        → P place.index → AllByRecursion (λ l. Q l × (l.from < stop → P l.to)) ls → Wrote P Q stop (written tab bytes first stop place ls)
    written-well P Q place [] flat rising low p each = record { flat = flat; rising = tt; late = tt; kept = p; each = tt }
    written-well P Q place (l ∷ ls) flat rising low p each =
        let end = end_of tab bytes (later place first) l in
        let is : end.index ≡ l.to = end-is place first l rising.0 low.0 rising.1 in
        by (nat_lt l.from stop) refl (written tab bytes first stop end ls)
        (λ before.
        written-well P Q end ls (end-flat place first l rising.0 low.0 rising.1) (subst (λ i. Ascend i ls) (sym is) rising.2) low.1 (subst P (sym is) (each.0.1 before)) each.1)
      where
        by : (t : Bool) → nat_lt l.from stop ≡ t → (more : Written) → (l.from < stop → Wrote P Q stop more)
            → Wrote P Q stop (cond t (record more { events = with_one tab bytes (later place first) l ++ more.events }) (record { events = []; place = place; left = l ∷ ls }))
        by true h more on =
            let w = on (ltb-true l.from stop h) in record { flat = w.flat; rising = w.rising; late = w.late; kept = w.kept; each = w.each }
        by false h more on =
            let behind = ltb-false l.from stop h in
            record {
              flat = flat;
              rising = rising;
              late = (behind, every-map (λ m. l.to ≤ m.from) (λ m. stop ≤ m.from) (λ m low. omega (arith, behind, low, rising.1)) ls (ascend-from l.to ls rising.2));
              kept = p;
              each = (each.0.0, every-map (λ l. Q l × (l.from < stop → P l.to)) Q (λ l h. h.0) ls each.1);
            }

    written-goes : (place : Point) (ls : List Literal) (b : Point) (rest : List Event) → Ascend place.index ls → AllByRecursion (λ l. first.index ≤ l.from) ls
        → stands_before (later place first) b ≡ false
        → ((c : Point) → stands_before (later (written tab bytes first stop place ls).place first) c ≡ false → Goes c rest)
        → Goes b ((written tab bytes first stop place ls).events ++ rest)
    written-goes place [] b rest rising low h k = k b h
    written-goes place (l ∷ ls) b rest rising low h k =
        let end = end_of tab bytes (later place first) l in
        let is : end.index ≡ l.to = end-is place first l rising.0 low.0 rising.1 in
        by (nat_lt l.from stop) (written tab bytes first stop end ls) (λ c on. written-goes end ls c rest (subst (λ i. Ascend i ls) (sym is) rising.2) low.1 on) k
      where
        from' : Point
        from' = later place first

        start' : Point
        start' = start_of tab bytes from' l

        end' : Point
        end' = end_of tab bytes from' l

        by : (t : Bool) (more : Written)
            → ((c : Point) → stands_before (later end' first) c ≡ false → ((d : Point) → stands_before (later more.place first) d ≡ false → Goes d rest) → Goes c (more.events ++ rest))
            → ((c : Point) → stands_before (later (cond t (record more { events = with_one tab bytes from' l ++ more.events }) (record { events = []; place = place; left = l ∷ ls })).place first) c ≡ false → Goes c rest)
            → Goes b ((cond t (record more { events = with_one tab bytes from' l ++ more.events }) (record { events = []; place = place; left = l ∷ ls })).events ++ rest)
        by true more on k =
            let before = leaf Data from' start' in
            let here = leaf l.name start' end' in
            let last = later-self end' first (end-behind place first l rising.0 low.0 rising.1) in
            let behind = on end' (ap (λ p. stands_before p end') last ∙ stands-self end') k in
            subst (Goes b) (sym (append_assoc (before ++ here) more.events rest ∙ append_assoc before here (more.events ++ rest)))
            (leaf-goes Data b from' start' (here ++ (more.events ++ rest)) h (at-on from' l.from)
            (leaf-goes l.name start' start' end' (more.events ++ rest) (stands-self start') (at-on start' l.to) behind))
        by false more on k = k b h

  -- ---- events with literals

  -- what is left of a span, and what goes on
  left-goes : (place b : Point) (e : Event) (es more : List Event) → place.vs ≡ 0 → stands_before (later place e.point) b ≡ false → Goes e.point es
      → ((c : Point) → Comes place c (drop (span_size 0 es) es) → Goes c more)
      → Goes b (left_over place e.point (span_end e.point 0 es) (e ∷ take (span_size 0 es) es) ++ more)
  left-goes place b e es more flat h g k = by (nat_le place.index e.point.index) refl h
    where
      n : ℕ
      n = span_size 0 es

      q : Point
      q = span_end e.point 0 es

      far : (stands_before q e.point ≡ false) × Goes q (drop n es)
      far = goes-end e.point 0 es g

      short : (t : Bool) → nat_lt place.index q.index ≡ t → stands_before place b ≡ false → Goes b (cond t (leaf-events Data place q) [] ++ more)
      short true lt h =
          let less = ltb-true place.index q.index lt in (h, (lower-index place q less, k q (comes-behind place q (drop n es) (omega (arith, less)) far.1)))
      short false ge h = k b (comes-literal place b q (drop n es) flat h far.1)

      by : (t : Bool) → nat_le place.index e.point.index ≡ t → stands_before (cond t e.point place) b ≡ false → Goes b (cond t (e ∷ take n es) (leaf Data place q) ++ more)
      by true le h = (h, goes-take n e.point es more g (λ c on gc. let low = leb-true place.index e.point.index le in k c (comes-behind place c (drop n es) (omega (arith, low, on)) gc)))
      by false gt h = short (nat_lt place.index q.index) refl h

  -- what fits behind a span of text, of literals that do not begin in it
  pub fits-behind : (depth : ℕ) (e : Event) (es : List Event) (ls : List Literal) → is_text depth e ≡ true → AllByRecursion (λ l. Fits l depth 0 (e ∷ es)) ls
      → AllByRecursion (λ l. ((span_end e.point 0 es).index ≤ l.from → Fits l depth (span_size 0 es) es) × (l.from < (span_end e.point 0 es).index → Past l.to depth (span_size 0 es) es)) ls
  fits-behind depth e es ls text fits =
      every-map (λ l. Fits l depth 0 (e ∷ es))
      (λ l. ((span_end e.point 0 es).index ≤ l.from → Fits l depth (span_size 0 es) es) × (l.from < (span_end e.point 0 es).index → Past l.to depth (span_size 0 es) es))
      (λ l f. let both = f.1 text in (both.1, both.0)) ls fits

  pub fits-low : (depth : ℕ) (e : Event) (es : List Event) (ls : List Literal) → AllByRecursion (λ l. Fits l depth 0 (e ∷ es)) ls → AllByRecursion (λ l. e.point.index ≤ l.from) ls
  fits-low depth e es ls fits = every-map (λ l. Fits l depth 0 (e ∷ es)) (λ l. e.point.index ≤ l.from) (λ l f. f.0) ls fits

  pub fits-left : (depth skip stop : ℕ) (es : List Event) (ls : List Literal) → AllByRecursion (λ l. stop ≤ l.from → Fits l depth skip es) ls → AllByRecursion (λ l. stop ≤ l.from) ls
      → AllByRecursion (λ l. Fits l depth skip es) ls
  fits-left depth skip stop es ls each late =
      from-each stop (λ l. stop ≤ l.from → Fits l depth skip es) (λ l. Fits l depth skip es) (λ l from fits. fits from) ls late each

  -- what is written in a span of text
  pub text-well : (depth : ℕ) (place : Point) (ls : List Literal) (e : Event) (es : List Event) → is_text depth e ≡ true → place.vs ≡ 0 → Ascend place.index ls
      → AllByRecursion (λ l. Fits l depth 0 (e ∷ es)) ls → Past place.index depth 0 (e ∷ es)
      → Wrote (λ i. Past i depth (span_size 0 es) es) (λ l. (span_end e.point 0 es).index ≤ l.from → Fits l depth (span_size 0 es) es) (span_end e.point 0 es).index
      (written tab bytes e.point (span_end e.point 0 es).index place ls)
  text-well depth place ls e es text flat rising fits past =
      written-well e.point (span_end e.point 0 es).index (λ i. Past i depth (span_size 0 es) es) (λ l. (span_end e.point 0 es).index ≤ l.from → Fits l depth (span_size 0 es) es) place ls flat rising
      (fits-low depth e es ls fits) (past.0 text) (fits-behind depth e es ls text fits)

  pub with-goes : (skip depth : ℕ) (place : Point) (ls : List Literal) (es : List Event) (b : Point) → place.vs ≡ 0 → Ascend place.index ls → AllByRecursion (λ l. Fits l depth skip es) ls
      → Past place.index depth skip es → Comes place b (drop skip es) → Goes b (events_with tab bytes skip depth place ls es)
  with-goes skip depth place ls [] b flat rising fits past comes = tt
  with-goes (suc skip) depth place ls (e ∷ es) b flat rising fits past comes = with-goes skip depth place ls es b flat rising fits past comes
  with-goes zero depth place ls (e ∷ es) b flat rising fits past comes =
      by (is_text depth e) refl (λ place ls c. with-goes (span_size 0 es) depth place ls es c) (with-goes 0 (depth_behind depth e) place ls es e.point flat rising)
    where
      n : ℕ
      n = span_size 0 es

      q : Point
      q = span_end e.point 0 es

      w : Written
      w = written tab bytes e.point q.index place ls

      by : (t : Bool) → is_text depth e ≡ t
          → ((place : Point) (ls : List Literal) (c : Point) → place.vs ≡ 0 → Ascend place.index ls → AllByRecursion (λ l. Fits l depth n es) ls → Past place.index depth n es
          → Comes place c (drop n es) → Goes c (events_with tab bytes n depth place ls es))
          → (AllByRecursion (λ l. Fits l (depth_behind depth e) 0 es) ls → Past place.index (depth_behind depth e) 0 es → Comes place e.point es
          → Goes e.point (events_with tab bytes 0 (depth_behind depth e) place ls es))
          → Goes b (cond t (w.events ++ (left_over w.place e.point q (e ∷ take n es) ++ events_with tab bytes n depth w.place w.left es)) (e ∷ events_with tab bytes 0 (depth_behind depth e) place ls es))
      by true text on other =
          let well = text-well depth place ls e es text flat rising fits past in
          let more = events_with tab bytes n depth w.place w.left es in
          written-goes e.point q.index place ls b (left_over w.place e.point q (e ∷ take n es) ++ more) rising (fits-low depth e es ls fits) comes.0
          (λ c h. left-goes w.place c e es more well.flat h comes.1 (λ d behind. on w.place w.left d well.flat well.rising (fits-left depth n q.index es w.left well.each well.late) well.kept behind))
      by false isnt on other =
          let behind = past.1 isnt in (
            ap (λ p. stands_before p b) (sym (later-other place e.point behind.0)) ∙ comes.0,
            other (every-map (λ l. Fits l depth 0 (e ∷ es)) (λ l. Fits l (depth_behind depth e) 0 es) (λ l f. f.2 isnt) ls fits) behind.1 (comes-behind place e.point es behind.0 comes.1),
          )
