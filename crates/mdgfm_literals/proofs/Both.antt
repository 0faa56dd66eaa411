-- Literals of two parts: those of the one, and of the other.
use Rattle.std.proofs.Common.{◌≡◌, ℕ, zero, suc, ◌+◌, ◌-◌, ◌≤◌, ◌<◌, ◌++◌, Bool, true, false, cond, List, [], ◌∷◌, length, take, refl, sym, ap, subst, ◌∙◌, arith, le-leb, le-ltb}
use Rattle.std.proofs.Math.Bool.{and-false}
use Rattle.std.proofs.lemmas.Bool.{not-true}
use Rattle.std.proofs.lemmas.List.{append_assoc, take-append-le}
use Rattle.std.specs.List.{AllByRecursion}
use Rattle.std.specs.Prelude.{◌==◌, ◌&&◌, nat_lt, not}
use Rattle.markdown_base.specs.declared.event.Event.{Event}
use Rattle.markdown_base.specs.declared.event.Name.TheVariants.{Data}
use Rattle.markdown_base.specs.declared.event.Point.{Point}
use Rattle.markdown_base.specs.Events.{IsBalanced, is_enter}
use Rattle.markdown_base.specs.Virtual.{point}
use Rattle.markdown_base.proofs.Common.{and-right, every-map}
use Rattle.markdown_base.proofs.Facts.Bools.{and-left}
use Rattle.mdgfm_literals.specs.declared.stretches.Reach.{Reach}
use Rattle.mdgfm_literals.specs.declared.texts.Literal.{Literal}
use Rattle.mdgfm_literals.specs.Laws.{LiteralsOfBoth, begins_block}
use Rattle.mdgfm_literals.specs.LiteralEvents.{Written, end_of, events_with, left_over, with_one, written}
use Rattle.mdgfm_events.specs.Places.{later, leaf}
use Rattle.mdgfm_events.specs.Spans.{span_end, span_size}
use Rattle.mdgfm_literals.specs.Stretches.{depth_behind, is_fresh, is_plain, is_text, literals_between, literals_of, one_more, reach}
use Rattle.mdgfm_literals.proofs.Below.{AreUpTo, IsUpTo, end-below, found-up-to}
use Rattle.mdgfm_literals.proofs.EventSteps.{reach-end}
use Rattle.mdgfm_literals.proofs.Fits.{AllLie, Ascend, Fits, Past, Rise, ascend-from, between-lies, found-fit, found-rise, found_of, from-zero, literals-found-of, past-start, text-flat}
use Rattle.mdgfm_literals.proofs.Order.{Goes, fits-left, fits-low, forward-index, goes-rise, last-place, later-other, pairs-go-all, text-well, written-well}
use Rattle.mdgfm_literals.proofs.Whole.{Ends, Whole, whole-balanced}

-- ---- spans that end are the same before others

pub size-both : (n : ℕ) (xs zs : List Event) → Ends n xs → span_size n (xs ++ zs) ≡ span_size n xs
size-both n [] zs h = absurd h
size-both n (e ∷ xs) zs h = by (is_enter e.kind) (n == 0) refl refl (λ k. size-both (n + 1) xs zs k) (λ k. size-both (n - 1) xs zs k)
  where
    by : (k z : Bool) → is_enter e.kind ≡ k → (n == 0) ≡ z
        → (Ends (n + 1) xs → span_size (n + 1) (xs ++ zs) ≡ span_size (n + 1) xs) → (Ends (n - 1) xs → span_size (n - 1) (xs ++ zs) ≡ span_size (n - 1) xs)
        → cond k (span_size (n + 1) (xs ++ zs) + 1) (cond z 1 (span_size (n - 1) (xs ++ zs) + 1)) ≡ cond k (span_size (n + 1) xs + 1) (cond z 1 (span_size (n - 1) xs + 1))
    by true z k-is z-is inner outer = ap (λ m. m + 1) (inner (h.0 k-is))
    by false true k-is z-is inner outer = refl
    by false false k-is z-is inner outer = ap (λ m. m + 1) (outer (h.1 k-is z-is))

pub end-both : (p : Point) (n : ℕ) (xs zs : List Event) → Ends n xs → span_end p n (xs ++ zs) ≡ span_end p n xs
end-both p n [] zs h = absurd h
end-both p n (e ∷ xs) zs h = by (is_enter e.kind) (n == 0) refl refl (λ k. end-both p (n + 1) xs zs k) (λ k. end-both p (n - 1) xs zs k)
  where
    by : (k z : Bool) → is_enter e.kind ≡ k → (n == 0) ≡ z
        → (Ends (n + 1) xs → span_end p (n + 1) (xs ++ zs) ≡ span_end p (n + 1) xs) → (Ends (n - 1) xs → span_end p (n - 1) (xs ++ zs) ≡ span_end p (n - 1) xs)
        → cond k (span_end p (n + 1) (xs ++ zs)) (cond z e.point (span_end p (n - 1) (xs ++ zs))) ≡ cond k (span_end p (n + 1) xs) (cond z e.point (span_end p (n - 1) xs))
    by true z k-is z-is inner outer = inner (h.0 k-is)
    by false true k-is z-is inner outer = refl
    by false false k-is z-is inner outer = outer (h.1 k-is z-is)

ends-fit : (n : ℕ) (xs : List Event) → Ends n xs → span_size n xs ≤ length xs
ends-fit n [] h = absurd h
ends-fit n (e ∷ xs) h = by (is_enter e.kind) (n == 0) refl refl (λ k. ends-fit (n + 1) xs k) (λ k. ends-fit (n - 1) xs k)
  where
    by : (k z : Bool) → is_enter e.kind ≡ k → (n == 0) ≡ z → (Ends (n + 1) xs → span_size (n + 1) xs ≤ length xs) → (Ends (n - 1) xs → span_size (n - 1) xs ≤ length xs)
        → cond k (span_size (n + 1) xs + 1) (cond z 1 (span_size (n - 1) xs + 1)) ≤ suc (length xs)
    by true z k-is z-is inner outer = let less = inner (h.0 k-is) in omega (arith, less)
    by false true k-is z-is inner outer = omega arith
    by false false k-is z-is inner outer = let less = outer (h.1 k-is z-is) in omega (arith, less)

-- ---- what others are that begin with no text

-- they are not what a stretch goes on with, and what is found in them is as at the beginning
pub record Opens (zs : List Event) : Type 0 where
  pub stops : (stop : ℕ) → reach 0 stop zs ≡ record { size = 0; stop = stop }
  pub fresh : (between : Bool → ℕ → ℕ → List Literal) (b : Bool) → found_of between b 0 0 zs ≡ found_of between true 0 0 zs

found-other : (between : Bool → ℕ → ℕ → List Literal) (fresh : Bool) (e : Event) (es : List Event) → is_text 0 e ≡ false
    → found_of between fresh 0 0 (e ∷ es) ≡ found_of between (is_fresh e) (depth_behind 0 e) 0 es
found-other between fresh e es h = rw h refl

pub opens : (zs : List Event) → begins_block zs ≡ true → Opens zs
opens [] h = record { stops = λ stop. refl; fresh = λ between b. refl }
opens (e ∷ zs) h = record {
  stops = λ stop. reach-end stop e zs (ap (λ t. t && (e.point.index == stop)) isnt);
  fresh = λ between b. found-other between b e zs isnt ∙ sym (found-other between true e zs isnt);
}
  where
    isnt : is_text 0 e ≡ false
    isnt = ap (λ t. is_enter e.kind && t) (not-true (is_plain e.name) (and-right (is_enter e.kind) (not (is_plain e.name)) h)) ∙ and-false (is_enter e.kind)

-- ---- literals

reach-both : (skip stop : ℕ) (xs zs : List Event) → Whole 0 skip xs → ((stop : ℕ) → reach 0 stop zs ≡ record { size = 0; stop = stop }) → reach skip stop (xs ++ zs) ≡ reach skip stop xs
reach-both zero stop [] zs w k = k stop
reach-both (suc skip) stop [] zs w k = absurd (let isnt = w.1 in omega (arith, isnt))
reach-both (suc skip) stop (e ∷ xs) zs w k = ap one_more (reach-both skip stop xs zs w k)
reach-both zero stop (e ∷ xs) zs w k =
    by (is_text 0 e && (e.point.index == stop)) refl (λ h. reach-both (span_size 0 xs) (span_end e.point 0 xs).index xs zs h k)
  where
    all : List Event
    all = xs ++ zs

    none : Reach
    none = record { size = 0; stop = stop }

    by : (t : Bool) → (is_text 0 e && (e.point.index == stop)) ≡ t → (Whole 0 (span_size 0 xs) xs → reach (span_size 0 xs) (span_end e.point 0 xs).index all ≡ reach (span_size 0 xs) (span_end e.point 0 xs).index xs)
        → cond t (one_more (reach (span_size 0 all) (span_end e.point 0 all).index all)) none ≡ cond t (one_more (reach (span_size 0 xs) (span_end e.point 0 xs).index xs)) none
    by true goes more =
        let text = w.0 (and-left (is_text 0 e) (e.point.index == stop) goes) in
        ap one_more (ap (λ n. reach n (span_end e.point 0 all).index all) (size-both 0 xs zs text.0) ∙ ap (λ (p : Point). reach (span_size 0 xs) p.index all) (end-both e.point 0 xs zs text.0) ∙ more text.1)
    by false ends more = refl

whole-one : (k : ℕ) (e : Event) (es : List Event) → Whole 0 k es → Whole 0 (k + 1) (e ∷ es)
whole-one k e es w = let z : suc k ≡ k + 1 = omega arith in subst (λ n. Whole 0 n (e ∷ es)) z w

whole-reach : (skip stop : ℕ) (es : List Event) → Whole 0 skip es → Whole 0 (reach skip stop es).size es
whole-reach skip stop [] w = (refl, refl)
whole-reach (suc skip) stop (e ∷ es) w = whole-one (reach skip stop es).size e es (whole-reach skip stop es w)
whole-reach zero stop (e ∷ es) w = by (is_text 0 e && (e.point.index == stop)) refl (λ h. whole-reach (span_size 0 es) (span_end e.point 0 es).index es h)
  where
    s : Reach
    s = reach (span_size 0 es) (span_end e.point 0 es).index es

    by : (t : Bool) → (is_text 0 e && (e.point.index == stop)) ≡ t → (Whole 0 (span_size 0 es) es → Whole 0 s.size es) → Whole 0 (cond t (one_more s) (record { size = 0; stop = stop })).size (e ∷ es)
    by true goes more = whole-one s.size e es (more (w.0 (and-left (is_text 0 e) (e.point.index == stop) goes)).1)
    by false ends more = w

pub found-both : (between : Bool → ℕ → ℕ → List Literal) (fresh : Bool) (depth skip : ℕ) (xs zs : List Event) → Whole depth skip xs → Opens zs
    → found_of between fresh depth skip (xs ++ zs) ≡ found_of between fresh depth skip xs ++ found_of between true 0 0 zs
found-both between fresh depth zero [] zs w o = ap (λ d. found_of between fresh d 0 zs) w.0 ∙ o.fresh between fresh
found-both between fresh depth (suc skip) [] zs w o = absurd (let isnt = w.1 in omega (arith, isnt))
found-both between fresh depth (suc skip) (e ∷ xs) zs w o = found-both between fresh depth skip xs zs w o
found-both between fresh depth zero (e ∷ xs) zs w o =
    by (is_text depth e) refl (λ h. found-both between false depth (reach (span_size 0 xs) (span_end e.point 0 xs).index xs).size xs zs h o)
    (λ h. found-both between (is_fresh e) (depth_behind depth e) 0 xs zs h o)
  where
    all : List Event
    all = xs ++ zs

    s : Reach
    s = reach (span_size 0 xs) (span_end e.point 0 xs).index xs

    more : List Literal
    more = found_of between true 0 0 zs

    with_stretch : List Event → Reach → List Literal
    with_stretch es r = between fresh e.point.index r.stop ++ found_of between false depth r.size es

    by : (t : Bool) → is_text depth e ≡ t → (Whole depth s.size xs → found_of between false depth s.size all ≡ found_of between false depth s.size xs ++ more)
        → (Whole (depth_behind depth e) 0 xs → found_of between (is_fresh e) (depth_behind depth e) 0 all ≡ found_of between (is_fresh e) (depth_behind depth e) 0 xs ++ more)
        → cond t (with_stretch all (reach (span_size 0 all) (span_end e.point 0 all).index all)) (found_of between (is_fresh e) (depth_behind depth e) 0 all)
        ≡ cond t (with_stretch xs s) (found_of between (is_fresh e) (depth_behind depth e) 0 xs) ++ more
    by true text rest other =
        let h = w.0 text in
        let flat = text-flat depth e text in
        let whole = subst (λ d. Whole d (span_size 0 xs) xs) flat h.1 in
        let reaches : reach (span_size 0 all) (span_end e.point 0 all).index all ≡ s =
        ap (λ n. reach n (span_end e.point 0 all).index all) (size-both 0 xs zs h.0)
        ∙ ap (λ (p : Point). reach (span_size 0 xs) p.index all) (end-both e.point 0 xs zs h.0)
        ∙ reach-both (span_size 0 xs) (span_end e.point 0 xs).index xs zs whole o.stops in
        let behind = subst (λ d. Whole d s.size xs) (sym flat) (whole-reach (span_size 0 xs) (span_end e.point 0 xs).index xs whole) in
        ap (with_stretch all) reaches
        ∙ ap (λ ls. between fresh e.point.index s.stop ++ ls) (rest behind)
        ∙ sym (append_assoc (between fresh e.point.index s.stop) (found_of between false depth s.size xs) more)
    by false isnt rest other = other (w.1 isnt)

-- ---- events

module _ (tab : ℕ) (bytes : List ℕ) where
  -- literals that begin behind a span are left
  written-both : (first : Point) (stop : ℕ) (place : Point) (ls more : List Literal) → AllByRecursion (λ l. stop ≤ l.from) more
      → written tab bytes first stop place (ls ++ more)
      ≡ record { events = (written tab bytes first stop place ls).events; place = (written tab bytes first stop place ls).place; left = (written tab bytes first stop place ls).left ++ more }
  written-both first stop place [] [] h = refl
  written-both first stop place [] (l ∷ more) h =
      ap (λ t. cond t (record (written tab bytes first stop (end_of tab bytes (later place first) l) more) { events = with_one tab bytes (later place first) l ++ (written tab bytes first stop (end_of tab bytes (later place first) l) more).events }) (record { events = []; place = place; left = l ∷ more }))
      (le-ltb l.from stop h.0)
  written-both first stop place (l ∷ ls) more h =
      by (nat_lt l.from stop) (written tab bytes first stop end (ls ++ more)) (written tab bytes first stop end ls) (written-both first stop end ls more h)
    where
      end : Point
      end = end_of tab bytes (later place first) l

      one : Written → Written
      one v = record v { events = with_one tab bytes (later place first) l ++ v.events }

      with_left : Written → Written
      with_left v = record { events = v.events; place = v.place; left = v.left ++ more }

      by : (t : Bool) (v w : Written) → v ≡ with_left w
          → cond t (one v) (record { events = []; place = place; left = l ∷ (ls ++ more) }) ≡ with_left (cond t (one w) (record { events = []; place = place; left = l ∷ ls }))
      by true v w e = ap one e
      by false v w e = refl

  -- it does not matter where the last literal ended, if it did not reach the events
  left-whole : (place first last : Point) (span : List Event) → place.index ≤ first.index → left_over place first last span ≡ span
  left-whole place first last span h = ap (λ t. cond t span (leaf Data place last)) (le-leb place.index first.index h)

  pub with-place : (skip depth : ℕ) (p q : Point) (ls : List Literal) (es : List Event) → AllByRecursion (λ e. p.index ≤ e.point.index) es → AllByRecursion (λ e. q.index ≤ e.point.index) es
      → events_with tab bytes skip depth p ls es ≡ events_with tab bytes skip depth q ls es
  with-place skip depth p q ls [] h k = refl
  with-place (suc skip) depth p q ls (e ∷ es) h k = with-place skip depth p q ls es h.1 k.1
  with-place zero depth p q ls (e ∷ es) h k =
      by (is_text depth e) (texts ls (with-place n depth p q ls es h.1 k.1)) (ap (λ (ts : List Event). e ∷ ts) (with-place 0 (depth_behind depth e) p q ls es h.1 k.1))
    where
      n : ℕ
      n = span_size 0 es

      last : Point
      last = span_end e.point 0 es

      text_by : Written → List Event
      text_by w = w.events ++ (left_over w.place e.point last (e ∷ take n es) ++ events_with tab bytes n depth w.place w.left es)

      -- nothing is written
      nothing : (ls : List Literal) → events_with tab bytes n depth p ls es ≡ events_with tab bytes n depth q ls es
          → text_by (record { events = []; place = p; left = ls }) ≡ text_by (record { events = []; place = q; left = ls })
      nothing ls same =
          ap (λ (ts : List Event). ts ++ events_with tab bytes n depth p ls es) (left-whole p e.point last (e ∷ take n es) h.0)
          ∙ ap (λ (ts : List Event). (e ∷ take n es) ++ ts) same
          ∙ ap (λ (ts : List Event). ts ++ events_with tab bytes n depth q ls es) (sym (left-whole q e.point last (e ∷ take n es) k.0))

      texts : (ls : List Literal) → events_with tab bytes n depth p ls es ≡ events_with tab bytes n depth q ls es
          → text_by (written tab bytes e.point last.index p ls) ≡ text_by (written tab bytes e.point last.index q ls)
      texts [] same = nothing [] same
      texts (l ∷ ls) same = one (nat_lt l.from last.index)
        where
          on : (from : Point) → Written
          on from = let more = written tab bytes e.point last.index (end_of tab bytes from l) ls in record more { events = with_one tab bytes from l ++ more.events }

          one : (t : Bool) → text_by (cond t (on (later p e.point)) (record { events = []; place = p; left = l ∷ ls })) ≡ text_by (cond t (on (later q e.point)) (record { events = []; place = q; left = l ∷ ls }))
          one true = ap (λ from. text_by (on from)) (later-other p e.point h.0 ∙ sym (later-other q e.point k.0))
          one false = nothing (l ∷ ls) same

      by : {us vs xs ys : List Event} (t : Bool) → us ≡ vs → xs ≡ ys → cond t us xs ≡ cond t vs ys
      by true a b = a
      by false a b = b

  with-both : (most skip depth : ℕ) (place : Point) (ls more : List Literal) (xs zs : List Event) → Whole depth skip xs → place.vs ≡ 0 → Ascend place.index ls
      → AllByRecursion (λ l. Fits l depth skip xs) ls → Past place.index depth skip xs → place.index ≤ most → AllByRecursion (λ (l : Literal). l.to ≤ most) ls
      → AreUpTo most xs → AllByRecursion (λ (l : Literal). most ≤ l.from) more → AllByRecursion (λ e. most ≤ e.point.index) zs
      → events_with tab bytes skip depth place (ls ++ more) (xs ++ zs) ≡ events_with tab bytes skip depth place ls xs ++ events_with tab bytes 0 0 (point 1 1 0 0) more zs
  with-both most zero depth place [] more [] zs w flat rising fits past low below upto late behind =
      ap (λ d. events_with tab bytes 0 d place more zs) w.0
      ∙ with-place 0 0 place (point 1 1 0 0) more zs (every-map (λ (e : Event). most ≤ e.point.index) (λ (e : Event). place.index ≤ e.point.index) (λ e h. omega (arith, low, h)) zs behind)
      (every-map (λ (e : Event). most ≤ e.point.index) (λ (e : Event). 0 ≤ e.point.index) (λ e h. omega arith) zs behind)
  with-both most zero depth place (l ∷ ls) more [] zs w flat rising fits past low below upto late behind = absurd fits.0
  with-both most (suc skip) depth place ls more [] zs w flat rising fits past low below upto late behind = absurd (let isnt = w.1 in omega (arith, isnt))
  with-both most (suc skip) depth place ls more (e ∷ xs) zs w flat rising fits past low below upto late behind =
      with-both most skip depth place ls more xs zs w flat rising fits past low below upto.1 late behind
  with-both most zero depth place ls more (e ∷ xs) zs w flat rising fits past low below upto late behind =
      by (is_text depth e) refl
      (λ place ls h flat rising fits past low below. with-both most (span_size 0 xs) depth place ls more xs zs h flat rising fits past low below upto.1 late behind)
      (λ h fits past. with-both most 0 (depth_behind depth e) place ls more xs zs h flat rising fits past low below upto.1 late behind)
    where
      all : List Event
      all = xs ++ zs

      n : ℕ
      n = span_size 0 xs

      q : Point
      q = span_end e.point 0 xs

      v : Written
      v = written tab bytes e.point q.index place ls

      end : List Event
      end = events_with tab bytes 0 0 (point 1 1 0 0) more zs

      text_by : (last : Point) → (size : ℕ) → Written → List Event → List Event
      text_by last size w es = w.events ++ (left_over w.place e.point last (e ∷ take size es) ++ events_with tab bytes size depth w.place w.left es)

      by : (t : Bool) → is_text depth e ≡ t
          → ((place : Point) (ls : List Literal) → Whole depth n xs → place.vs ≡ 0 → Ascend place.index ls → AllByRecursion (λ l. Fits l depth n xs) ls → Past place.index depth n xs
          → place.index ≤ most → AllByRecursion (λ (l : Literal). l.to ≤ most) ls
          → events_with tab bytes n depth place (ls ++ more) all ≡ events_with tab bytes n depth place ls xs ++ end)
          → (Whole (depth_behind depth e) 0 xs → AllByRecursion (λ l. Fits l (depth_behind depth e) 0 xs) ls → Past place.index (depth_behind depth e) 0 xs
          → events_with tab bytes 0 (depth_behind depth e) place (ls ++ more) all ≡ events_with tab bytes 0 (depth_behind depth e) place ls xs ++ end)
          → cond t (text_by (span_end e.point 0 all) (span_size 0 all) (written tab bytes e.point (span_end e.point 0 all).index place (ls ++ more)) all) (e ∷ events_with tab bytes 0 (depth_behind depth e) place (ls ++ more) all)
          ≡ cond t (text_by q n v xs) (e ∷ events_with tab bytes 0 (depth_behind depth e) place ls xs) ++ end
      by true text on other =
          let closes = w.0 text in
          let well = text-well tab bytes depth place ls e xs text flat rising fits past in
          let lows = fits-low tab bytes depth e xs ls fits in
          let ends : q.index ≤ most = end-below most e.point 0 xs upto.0 upto.1 in
          let far = written-well tab bytes e.point q.index (λ i. i ≤ most) (λ l. l.to ≤ most) place ls flat rising lows low (every-map (λ (l : Literal). l.to ≤ most) (λ l. (l.to ≤ most) × (l.from < q.index → l.to ≤ most)) (λ l h. (h, (λ less. h))) ls below) in
          let here = left_over v.place e.point q (e ∷ take n xs) in
          let rest = events_with tab bytes n depth v.place v.left xs in
          ap (λ (p : Point). text_by p (span_size 0 all) (written tab bytes e.point p.index place (ls ++ more)) all) (end-both e.point 0 xs zs closes.0)
          ∙ ap (λ m. text_by q m (written tab bytes e.point q.index place (ls ++ more)) all) (size-both 0 xs zs closes.0)
          ∙ ap (λ u. text_by q n u all) (written-both e.point q.index place ls more (every-map (λ (l : Literal). most ≤ l.from) (λ (l : Literal). q.index ≤ l.from) (λ l h. omega (arith, h, ends)) more late))
          ∙ ap (λ ts. v.events ++ (left_over v.place e.point q (e ∷ ts) ++ events_with tab bytes n depth v.place (v.left ++ more) all)) (take-append-le n xs zs (ends-fit 0 xs closes.0))
          ∙ ap (λ (ts : List Event). v.events ++ (here ++ ts)) (on v.place v.left closes.1 well.flat well.rising (fits-left tab bytes depth n q.index xs v.left well.each well.late) well.kept far.kept far.each)
          ∙ ap (λ (ts : List Event). v.events ++ ts) (sym (append_assoc here rest end))
          ∙ sym (append_assoc v.events (here ++ rest) end)
      by false isnt on other =
          ap (λ (ts : List Event). e ∷ ts) (other (w.1 isnt) (every-map (λ l. Fits l depth 0 (e ∷ xs)) (λ l. Fits l (depth_behind depth e) 0 xs) (λ l f. f.2 isnt) ls fits) (past.1 isnt).1)

-- ---- all

pub goes-first : (p : Point) (xs ys : List Event) → Goes p (xs ++ ys) → Goes p xs
goes-first p [] ys g = tt
goes-first p (x ∷ xs) ys g = (g.0, goes-first x.point xs ys g.1)

goes-second : (p : Point) (xs ys : List Event) → Goes p (xs ++ ys) → Goes (last-place p xs) ys
goes-second p [] ys g = g
goes-second p (x ∷ xs) ys g = goes-second x.point xs ys g.1

last-behind : (p : Point) (xs : List Event) → Goes p xs → p.index ≤ (last-place p xs).index
last-behind p [] g = omega arith
last-behind p (x ∷ xs) g = let on = forward-index p x.point g.0 in let more = last-behind x.point xs g.1 in omega (arith, on, more)

up-to-last : (p : Point) (xs : List Event) → Goes p xs → AreUpTo (last-place p xs).index xs
up-to-last p [] g = tt
up-to-last p (x ∷ xs) g = (last-behind x.point xs g.1, up-to-last x.point xs g.1)

rise-all : (i : ℕ) (es : List Event) → Rise i es → AllByRecursion (λ e. i ≤ e.point.index) es
rise-all i [] r = tt
rise-all i (e ∷ es) r = (r.0, every-map (λ (f : Event). e.point.index ≤ f.point.index) (λ (f : Event). i ≤ f.point.index) (λ f h. omega (arith, h, r.0)) es (rise-all e.point.index es r.1))

-- what is found in balanced events, and in others behind them that begin with no text, is found in each of them, and is in place of the data that it covers
module _ (tab : ℕ) (bytes : List ℕ) (between : Bool → ℕ → ℕ → List Literal) (lie : AllLie bytes between) (xs ys : List Event) (balanced : IsBalanced xs) (goes : Goes (point 1 1 0 0) (xs ++ ys))
    (begins : begins_block ys ≡ true) where
  abbrev start : Point
  start = point 1 1 0 0

  abbrev found : List Event → List Literal
  found es = found_of between true 0 0 es

  abbrev most : ℕ
  most = (last-place start xs).index

  whole : Whole 0 0 xs
  whole = whole-balanced xs balanced

  pub found-of-both : found (xs ++ ys) ≡ found xs ++ found ys
  found-of-both = found-both between true 0 0 xs ys whole (opens ys begins)

  pub with-found-both : events_with tab bytes 0 0 start (found xs ++ found ys) (xs ++ ys) ≡ events_with tab bytes 0 0 start (found xs) xs ++ events_with tab bytes 0 0 start (found ys) ys
  with-found-both =
      let before : Goes start xs = goes-first start xs ys goes in
      let rise : Rise 0 xs = goes-rise start xs before in
      let behind : Rise most ys = goes-rise (last-place start xs) ys (goes-second start xs ys goes) in
      let below = every-map (IsUpTo most) (λ (l : Literal). l.to ≤ most) (λ l h. h.1) (found xs) (found-up-to most bytes between lie true 0 0 xs (up-to-last start xs before)) in
      with-both tab bytes most 0 0 start (found xs) (found ys) xs ys whole refl (found-rise bytes between lie true 0 0 0 xs rise) (found-fit bytes between lie true 0 0 0 xs rise) (past-start 0 0 xs) (from-zero most)
      below (up-to-last start xs before) (ascend-from most (found ys) (found-rise bytes between lie true 0 0 most ys behind)) (rise-all most ys behind)

pub of-both : LiteralsOfBoth
of-both options bytes xs ys balanced order begins = by options.constructs.gfm_autolink_literal
  where
    start : Point
    start = point 1 1 0 0

    between : Bool → ℕ → ℕ → List Literal
    between = literals_between bytes

    with : List Literal → List Event → List Event
    with ls es = events_with options.tab_size bytes 0 0 start ls es

    same : (es : List Event) → found_of between true 0 0 es ≡ literals_of bytes true 0 0 es
    same es = literals-found-of bytes true 0 0 es

    by : (t : Bool) → cond t (with (literals_of bytes true 0 0 (xs ++ ys)) (xs ++ ys)) (xs ++ ys) ≡ cond t (with (literals_of bytes true 0 0 xs) xs) xs ++ cond t (with (literals_of bytes true 0 0 ys) ys) ys
    by true =
        let goes = pairs-go-all start (xs ++ ys) refl refl order.0 in
        ap (λ ls. with ls (xs ++ ys)) (sym (same (xs ++ ys)) ∙ found-of-both options.tab_size bytes between (between-lies bytes) xs ys balanced goes begins)
        ∙ with-found-both options.tab_size bytes between (between-lies bytes) xs ys balanced goes begins
        ∙ (λ i. with (same xs i) xs ++ with (same ys i) ys)
    by false = refl
