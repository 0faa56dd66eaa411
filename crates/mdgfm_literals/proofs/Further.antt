-- Literals of events that stand further on, over bytes that are the same there.
use Rattle.std.proofs.Common.{◌≡◌, ℕ, zero, suc, ◌+◌, ◌-◌, ◌≤◌, ◌++◌, Bool, true, false, cond, List, [], ◌∷◌, take, Option, Some, None, refl, sym, ap, ◌∙◌, arith, eq-eqb, eqb-true, leb-true, leb-false, ltb-true, ltb-false}
use Rattle.std.proofs.lemmas.Bool.{false≢true}
use Rattle.std.proofs.lemmas.List.{map-append}
use Rattle.std.specs.List.{AllByRecursion, take-map}
use Rattle.std.specs.Prelude.{◌==◌, ◌&&◌, map, nat_le, nat_lt, slice_get, slice_range}
use Rattle.markdown_base.specs.declared.event.Event.{Event}
use Rattle.markdown_base.specs.declared.event.Kind.TheVariants.{Enter, Exit}
use Rattle.markdown_base.specs.declared.event.Link.{Link}
use Rattle.markdown_base.specs.declared.event.Name.{Name}
use Rattle.markdown_base.specs.declared.event.Name.TheVariants.{Data}
use Rattle.markdown_base.specs.declared.event.Point.{Point}
use Rattle.markdown_base.specs.Events.{is_enter}
use Rattle.mdgfm_literals.specs.declared.found.Found.{Found}
use Rattle.mdgfm_literals.specs.declared.stretches.Reach.{Reach}
use Rattle.mdgfm_literals.specs.declared.texts.Literal.{Literal}
use Rattle.mdgfm_literals.specs.Grammar.{literal_at}
use Rattle.mdgfm_literals.specs.Laws.{further_event, further_literal, further_point}
use Rattle.mdgfm_literals.specs.LiteralEvents.{Written, end_of, events_with, left_over, start_of, with_one, written}
use Rattle.mdgfm_literals.specs.Literals.{literals_from, more_passed}
use Rattle.mdgfm_events.specs.Places.{column_behind, event, later, leaf, place_at}
use Rattle.mdgfm_events.specs.Spans.{span_end, span_size}
use Rattle.mdgfm_literals.specs.Stretches.{before_stretch, depth_behind, is_fresh, is_text, literals_between, literals_of, one_more, reach}
use Rattle.mdgfm_literals.proofs.Fits.{found_of, literals-found-of}
use Rattle.mdgfm_literals.proofs.Below.{AreUpTo, IsUpTo, end-below, reach-below}

same-test : (s t : Bool) → (s ≡ true → t ≡ false → ⊥) → (s ≡ false → t ≡ true → ⊥) → s ≡ t
same-test true true h k = refl
same-test true false h k = absurd (h refl refl)
same-test false true h k = absurd (k refl refl)
same-test false false h k = refl

pub le-on : (n i j : ℕ) → nat_le (i + n) (j + n) ≡ nat_le i j
le-on n i j =
    same-test (nat_le (i + n) (j + n)) (nat_le i j) (λ h k. let a = leb-true (i + n) (j + n) h in let b = leb-false i j k in omega (arith, a, b))
    (λ h k. let a = leb-false (i + n) (j + n) h in let b = leb-true i j k in omega (arith, a, b))

pub lt-on : (n i j : ℕ) → nat_lt (i + n) (j + n) ≡ nat_lt i j
lt-on n i j =
    same-test (nat_lt (i + n) (j + n)) (nat_lt i j) (λ h k. let a = ltb-true (i + n) (j + n) h in let b = ltb-false i j k in omega (arith, a, b))
    (λ h k. let a = ltb-false (i + n) (j + n) h in let b = ltb-true i j k in omega (arith, a, b))

pub eq-on : (n i j : ℕ) → ((i + n) == (j + n)) ≡ (i == j)
eq-on n i j =
    same-test ((i + n) == (j + n)) (i == j) (λ h k. let a = eqb-true (i + n) (j + n) h in let b : i ≡ j = omega (arith, a) in false≢true (sym k ∙ eq-eqb i j b))
    (λ h k. let a = eqb-true i j k in let b : i + n ≡ j + n = omega (arith, a) in false≢true (sym h ∙ eq-eqb (i + n) (j + n) b))

-- literals of a text, further on
from-on : (n skip : ℕ) (before : Option ℕ) (at : ℕ) (text : List ℕ) → literals_from skip before (at + n) text ≡ map (further_literal n) (literals_from skip before at text)
from-on n skip before at [] = refl
from-on n (suc skip) before at (b ∷ bs) = let z : at + n + 1 ≡ at + 1 + n = omega arith in ap (λ i. literals_from skip before i bs) z ∙ from-on n skip before (at + 1) bs
from-on n zero before at (b ∷ bs) =
    by (literal_at before (b ∷ bs)) (from-on n (more_passed (b ∷ bs)) (slice_get (b ∷ bs) (more_passed (b ∷ bs))) (at + 1) bs) (λ f. from-on n (f.size - 1) None (at + 1) bs)
  where
    one : at + n + 1 ≡ at + 1 + n
    one = omega arith

    by : (o : Option Found)
        → literals_from (more_passed (b ∷ bs)) (slice_get (b ∷ bs) (more_passed (b ∷ bs))) (at + 1 + n) bs
        ≡ map (further_literal n) (literals_from (more_passed (b ∷ bs)) (slice_get (b ∷ bs) (more_passed (b ∷ bs))) (at + 1) bs)
        → ((f : Found) → literals_from (f.size - 1) None (at + 1 + n) bs ≡ map (further_literal n) (literals_from (f.size - 1) None (at + 1) bs))
        → elim o as (λ o. List Literal) [
          | Some f ↦ record { from = at + n; to = at + n + f.size; name = f.name } ∷ literals_from (f.size - 1) None (at + n + 1) bs
          | None ↦ literals_from (more_passed (b ∷ bs)) (slice_get (b ∷ bs) (more_passed (b ∷ bs))) (at + n + 1) bs
        ]
        ≡ map (further_literal n) (elim o as (λ o. List Literal) [
          | Some f ↦ record { from = at; to = at + f.size; name = f.name } ∷ literals_from (f.size - 1) None (at + 1) bs
          | None ↦ literals_from (more_passed (b ∷ bs)) (slice_get (b ∷ bs) (more_passed (b ∷ bs))) (at + 1) bs
        ])
    by None none some = ap (λ i. literals_from (more_passed (b ∷ bs)) (slice_get (b ∷ bs) (more_passed (b ∷ bs))) i bs) one ∙ none
    by (Some f) none some =
        let far : at + n + f.size ≡ at + f.size + n = omega arith in
        ap (λ i. record { from = at + n; to = i; name = f.name } ∷ literals_from (f.size - 1) None (at + n + 1) bs) far
        ∙ ap (λ i. record { from = at + n; to = at + f.size + n; name = f.name } ∷ literals_from (f.size - 1) None i bs) one
        ∙ ap (λ ls. record { from = at + n; to = at + f.size + n; name = f.name } ∷ ls) (some f)

module _ (links : Option Link → Option Link) (no_link : links None ≡ None) (lines n : ℕ) where
  abbrev P : Point → Point
  P = further_point lines n

  abbrev F : Event → Event
  F = further_event links lines n

  abbrev L : Literal → Literal
  L = further_literal n

  abbrev far : Reach → Reach
  far r = record { size = r.size; stop = r.stop + n }

  -- ---- spans and stretches

  pub size-on : (o : ℕ) (es : List Event) → span_size o (map F es) ≡ span_size o es
  size-on o [] = refl
  size-on o (e ∷ es) =
      ap (λ k. cond (is_enter e.kind) (k + 1) (cond (o == 0) 1 (span_size (o - 1) (map F es) + 1))) (size-on (o + 1) es)
      ∙ ap (λ k. cond (is_enter e.kind) (span_size (o + 1) es + 1) (cond (o == 0) 1 (k + 1))) (size-on (o - 1) es)

  pub end-on : (p : Point) (o : ℕ) (es : List Event) → span_end (P p) o (map F es) ≡ P (span_end p o es)
  end-on p o [] = refl
  end-on p o (e ∷ es) =
      ap (λ q. cond (is_enter e.kind) q (cond (o == 0) (P e.point) (span_end (P p) (o - 1) (map F es)))) (end-on p (o + 1) es)
      ∙ ap (λ q. cond (is_enter e.kind) (P (span_end p (o + 1) es)) (cond (o == 0) (P e.point) q)) (end-on p (o - 1) es)
      ∙ by (is_enter e.kind) (o == 0)
    where
      by : (k z : Bool) → cond k (P (span_end p (o + 1) es)) (cond z (P e.point) (P (span_end p (o - 1) es))) ≡ P (cond k (span_end p (o + 1) es) (cond z e.point (span_end p (o - 1) es)))
      by true z = refl
      by false true = refl
      by false false = refl

  reach-far : (skip stop : ℕ) (es : List Event) → reach skip (stop + n) (map F es) ≡ far (reach skip stop es)
  reach-far skip stop [] = refl
  reach-far (suc skip) stop (e ∷ es) = ap one_more (reach-far skip stop es)
  reach-far zero stop (e ∷ es) =
      let none : Reach = record { size = 0; stop = stop + n } in
      let goes = is_text 0 e && (e.point.index == stop) in
      ap (λ t. cond (is_text 0 e && t) (one_more (reach (span_size 0 (map F es)) (span_end (P e.point) 0 (map F es)).index (map F es))) none) (eq-on n e.point.index stop)
      ∙ ap (λ k. cond goes (one_more (reach k (span_end (P e.point) 0 (map F es)).index (map F es))) none) (size-on 0 es)
      ∙ ap (λ (p : Point). cond goes (one_more (reach (span_size 0 es) p.index (map F es))) none) (end-on e.point 0 es)
      ∙ ap (λ r. cond goes (one_more r) none) (reach-far (span_size 0 es) (span_end e.point 0 es).index es)
      ∙ by goes (reach (span_size 0 es) (span_end e.point 0 es).index es)
    where
      by : (t : Bool) (r : Reach) → cond t (one_more (far r)) (record { size = 0; stop = stop + n }) ≡ far (cond t (one_more r) (record { size = 0; stop = stop }))
      by true r = refl
      by false r = refl

  reaches : (e : Event) (es : List Event) → reach (span_size 0 (map F es)) (span_end (P e.point) 0 (map F es)).index (map F es) ≡ far (reach (span_size 0 es) (span_end e.point 0 es).index es)
  reaches e es =
      ap (λ k. reach k (span_end (P e.point) 0 (map F es)).index (map F es)) (size-on 0 es)
      ∙ ap (λ (p : Point). reach (span_size 0 es) p.index (map F es)) (end-on e.point 0 es)
      ∙ reach-far (span_size 0 es) (span_end e.point 0 es).index es

  -- ---- places and leaves

  later-on : (p q : Point) → later (P p) (P q) ≡ P (later p q)
  later-on p q = ap (λ t. cond t (P q) (P p)) (le-on n p.index q.index) ∙ by (nat_le p.index q.index)
    where
      by : (t : Bool) → cond t (P q) (P p) ≡ P (cond t q p)
      by true = refl
      by false = refl

  pub leaf-on : (m : Name) (p q : Point) → leaf m (P p) (P q) ≡ map F (leaf m p q)
  leaf-on m p q = ap (λ t. cond t (event Enter m (P p) ∷ event Exit m (P q) ∷ []) []) (lt-on n p.index q.index) ∙ by (nat_lt p.index q.index)
    where
      linked : Option Link → List Event
      linked k = record { kind = Enter; name = m; point = P p; link = k } ∷ record { kind = Exit; name = m; point = P q; link = k } ∷ []

      by : (t : Bool) → cond t (event Enter m (P p) ∷ event Exit m (P q) ∷ []) [] ≡ map F (cond t (event Enter m p ∷ event Exit m q ∷ []) [])
      by true = ap linked (sym no_link)
      by false = refl

  pub place-on : (tab : ℕ) (small big : List ℕ) (p : Point) (i : ℕ) → slice_range big (p.index + n) (i + n) ≡ slice_range small p.index i → place_at tab big (P p) (i + n) ≡ P (place_at tab small p i)
  place-on tab small big p i same =
      ap (λ t. cond t (P p) (on (slice_range big (p.index + n) (i + n)))) (le-on n i p.index)
      ∙ ap (λ ts. cond (nat_le i p.index) (P p) (on ts)) same
      ∙ by (nat_le i p.index)
    where
      on : List ℕ → Point
      on ts = record { line = p.line + lines; column = column_behind tab p.column ts; index = i + n; vs = 0 }

      by : (t : Bool) → cond t (P p) (on (slice_range small p.index i)) ≡ P (cond t p (record { line = p.line; column = column_behind tab p.column (slice_range small p.index i); index = i; vs = 0 }))
      by true = refl
      by false = refl

  left-on : (place first last : Point) (span : List Event) → left_over (P place) (P first) (P last) (map F span) ≡ map F (left_over place first last span)
  left-on place first last span =
      ap (λ t. cond t (map F span) (leaf Data (P place) (P last))) (le-on n place.index first.index)
      ∙ ap (λ (ts : List Event). cond (nat_le place.index first.index) (map F span) ts) (leaf-on Data place last)
      ∙ by (nat_le place.index first.index)
    where
      by : (t : Bool) → cond t (map F span) (map F (leaf Data place last)) ≡ map F (cond t span (leaf Data place last))
      by true = refl
      by false = refl

  -- ---- what is found, if it is the same between two indices

  module _ (small big : Bool → ℕ → ℕ → List Literal) (most : ℕ) (same_between : (fresh : Bool) (i j : ℕ) → i ≤ most → j ≤ most → big fresh (i + n) (j + n) ≡ map L (small fresh i j)) where
    pub found-on : (fresh : Bool) (depth skip : ℕ) (es : List Event) → AreUpTo most es → found_of big fresh depth skip (map F es) ≡ map L (found_of small fresh depth skip es)
    found-on fresh depth skip [] all = refl
    found-on fresh depth (suc skip) (e ∷ es) all = found-on fresh depth skip es all.1
    found-on fresh depth zero (e ∷ es) all =
        by (is_text depth e) (found-on false depth (reach (span_size 0 es) (span_end e.point 0 es).index es).size es all.1) (found-on (is_fresh e) (depth_behind depth e) 0 es all.1)
      where
        s : Reach
        s = reach (span_size 0 es) (span_end e.point 0 es).index es

        high : s.stop ≤ most
        high = reach-below most (span_size 0 es) (span_end e.point 0 es).index es (end-below most e.point 0 es all.0 all.1) all.1

        with_stretch : Reach → List Literal
        with_stretch r = big fresh (e.point.index + n) r.stop ++ found_of big false depth r.size (map F es)

        here : List Literal
        here = small fresh e.point.index s.stop

        by : (t : Bool) → found_of big false depth s.size (map F es) ≡ map L (found_of small false depth s.size es)
            → found_of big (is_fresh e) (depth_behind depth e) 0 (map F es) ≡ map L (found_of small (is_fresh e) (depth_behind depth e) 0 es)
            → cond t (with_stretch (reach (span_size 0 (map F es)) (span_end (P e.point) 0 (map F es)).index (map F es))) (found_of big (is_fresh e) (depth_behind depth e) 0 (map F es))
            ≡ map L (cond t (here ++ found_of small false depth s.size es) (found_of small (is_fresh e) (depth_behind depth e) 0 es))
        by true rest other =
            ap with_stretch (reaches e es)
            ∙ ap (λ ls. ls ++ found_of big false depth s.size (map F es)) (same_between fresh e.point.index s.stop all.0 high)
            ∙ ap (λ ls. map L here ++ ls) rest
            ∙ sym (map-append L here (found_of small false depth s.size es))
        by false rest other = other

  -- ---- over bytes that are the same there, up to an index

  module _ (tab : ℕ) (small big : List ℕ) (most : ℕ) (same_slice : (i j : ℕ) → j ≤ most → slice_range big (i + n) (j + n) ≡ slice_range small i j) where
    module _ (same_before : (fresh : Bool) (i at : ℕ) (text : List ℕ) → i ≤ most → literals_from 0 (before_stretch big fresh (i + n)) at text ≡ literals_from 0 (before_stretch small fresh i) at text) where
      between-on : (fresh : Bool) (i j : ℕ) → i ≤ most → j ≤ most → literals_between big fresh (i + n) (j + n) ≡ map L (literals_between small fresh i j)
      between-on fresh i j h k =
          same_before fresh i (i + n) (slice_range big (i + n) (j + n)) h
          ∙ ap (literals_from 0 (before_stretch small fresh i) (i + n)) (same_slice i j k)
          ∙ from-on n 0 (before_stretch small fresh i) i (slice_range small i j)

      pub of-on : (fresh : Bool) (depth skip : ℕ) (es : List Event) → AreUpTo most es → literals_of big fresh depth skip (map F es) ≡ map L (literals_of small fresh depth skip es)
      of-on fresh depth skip es all =
          sym (literals-found-of big fresh depth skip (map F es))
          ∙ found-on (literals_between small) (literals_between big) most between-on fresh depth skip es all
          ∙ ap (map L) (literals-found-of small fresh depth skip es)

    start-on : (p : Point) (l : Literal) → IsUpTo most l → start_of tab big (P p) (L l) ≡ P (start_of tab small p l)
    start-on p l h = place-on tab small big p l.from (same_slice p.index l.from h.0)

    end-of-on : (p : Point) (l : Literal) → IsUpTo most l → end_of tab big (P p) (L l) ≡ P (end_of tab small p l)
    end-of-on p l h = ap (λ s. place_at tab big s (l.to + n)) (start-on p l h) ∙ place-on tab small big (start_of tab small p l) l.to (same_slice (start_of tab small p l).index l.to h.1)

    one-far : (p : Point) (l : Literal) → IsUpTo most l → with_one tab big (P p) (L l) ≡ map F (with_one tab small p l)
    one-far p l h =
        let s = start_of tab small p l in
        let e = end_of tab small p l in
        ap (λ q. leaf Data (P p) q ++ leaf l.name q (end_of tab big (P p) (L l))) (start-on p l h)
        ∙ ap (λ q. leaf Data (P p) (P s) ++ leaf l.name (P s) q) (end-of-on p l h)
        ∙ ap (λ (ts : List Event). ts ++ leaf l.name (P s) (P e)) (leaf-on Data p s)
        ∙ ap (λ (ts : List Event). map F (leaf Data p s) ++ ts) (leaf-on l.name s e)
        ∙ sym (map-append F (leaf Data p s) (leaf l.name s e))

    abbrev far_written : Written → Written
    far_written w = record { events = map F w.events; place = P w.place; left = map L w.left }

    written-on : (first : Point) (stop : ℕ) (place : Point) (ls : List Literal) → AllByRecursion (IsUpTo most) ls
        → written tab big (P first) (stop + n) (P place) (map L ls) ≡ far_written (written tab small first stop place ls)
    written-on first stop place [] h = refl
    written-on first stop place (l ∷ ls) h =
        ap (λ t. cond t (one (later (P place) (P first)) (written tab big (P first) (stop + n) (end_of tab big (later (P place) (P first)) (L l)) (map L ls))) none) (lt-on n l.from stop)
        ∙ by (nat_lt l.from stop) (written-on first stop (end_of tab small (later place first) l) ls h.1)
      where
        from : Point
        from = later place first

        more : Written
        more = written tab small first stop (end_of tab small from l) ls

        none : Written
        none = record { events = []; place = P place; left = L l ∷ map L ls }

        behind : List Event → Written
        behind ts = record { events = ts; place = P more.place; left = map L more.left }

        one : Point → Written → Written
        one p w = record w { events = with_one tab big p (L l) ++ w.events }

        by : (t : Bool) → written tab big (P first) (stop + n) (P (end_of tab small from l)) (map L ls) ≡ far_written more
            → cond t (one (later (P place) (P first)) (written tab big (P first) (stop + n) (end_of tab big (later (P place) (P first)) (L l)) (map L ls))) none
            ≡ far_written (cond t (record more { events = with_one tab small from l ++ more.events }) (record { events = []; place = place; left = l ∷ ls }))
        by true rest =
            ap (λ p. one p (written tab big (P first) (stop + n) (end_of tab big p (L l)) (map L ls))) (later-on place first)
            ∙ ap (λ p. one (P from) (written tab big (P first) (stop + n) p (map L ls))) (end-of-on from l h.0)
            ∙ ap (one (P from)) rest
            ∙ ap (λ (ts : List Event). behind (ts ++ map F more.events)) (one-far from l h.0)
            ∙ ap behind (sym (map-append F (with_one tab small from l) more.events))
        by false rest = refl

    written-left : (first : Point) (stop : ℕ) (place : Point) (ls : List Literal) → AllByRecursion (IsUpTo most) ls → AllByRecursion (IsUpTo most) (written tab small first stop place ls).left
    written-left first stop place [] h = tt
    written-left first stop place (l ∷ ls) h =
        by (nat_lt l.from stop) (written tab small first stop (end_of tab small (later place first) l) ls) (written-left first stop (end_of tab small (later place first) l) ls h.1)
      where
        by : (t : Bool) (more : Written) → AllByRecursion (IsUpTo most) more.left
            → AllByRecursion (IsUpTo most) (cond t (record more { events = with_one tab small (later place first) l ++ more.events }) (record { events = []; place = place; left = l ∷ ls })).left
        by true more k = k
        by false more k = h

    pub with-on : (skip depth : ℕ) (place : Point) (ls : List Literal) (es : List Event) → AllByRecursion (IsUpTo most) ls
        → events_with tab big skip depth (P place) (map L ls) (map F es) ≡ map F (events_with tab small skip depth place ls es)
    with-on skip depth place ls [] h = refl
    with-on (suc skip) depth place ls (e ∷ es) h = with-on skip depth place ls es h
    with-on zero depth place ls (e ∷ es) h =
        by (is_text depth e)
        (with-on (span_size 0 es) depth (written tab small e.point (span_end e.point 0 es).index place ls).place (written tab small e.point (span_end e.point 0 es).index place ls).left es
        (written-left e.point (span_end e.point 0 es).index place ls h))
        (with-on 0 (depth_behind depth e) place ls es h)
      where
        k : ℕ
        k = span_size 0 es

        q : Point
        q = span_end e.point 0 es

        w : Written
        w = written tab small e.point q.index place ls

        here : List Event
        here = left_over w.place e.point q (e ∷ take k es)

        rest : List Event
        rest = events_with tab small k depth w.place w.left es

        text_by : Point → ℕ → Written → List Event
        text_by p m v = v.events ++ (left_over v.place (P e.point) p (F e ∷ take m (map F es)) ++ events_with tab big m depth v.place v.left (map F es))

        by : (t : Bool) → events_with tab big k depth (P w.place) (map L w.left) (map F es) ≡ map F rest
            → events_with tab big 0 (depth_behind depth e) (P place) (map L ls) (map F es) ≡ map F (events_with tab small 0 (depth_behind depth e) place ls es)
            → cond t (text_by (span_end (P e.point) 0 (map F es)) (span_size 0 (map F es)) (written tab big (P e.point) (span_end (P e.point) 0 (map F es)).index (P place) (map L ls)))
            (F e ∷ events_with tab big 0 (depth_behind depth e) (P place) (map L ls) (map F es))
            ≡ map F (cond t (w.events ++ (here ++ rest)) (e ∷ events_with tab small 0 (depth_behind depth e) place ls es))
        by true more other =
            ap (λ (p : Point). text_by p (span_size 0 (map F es)) (written tab big (P e.point) p.index (P place) (map L ls))) (end-on e.point 0 es)
            ∙ ap (λ m. text_by (P q) m (written tab big (P e.point) (q.index + n) (P place) (map L ls))) (size-on 0 es)
            ∙ ap (text_by (P q) k) (written-on e.point q.index place ls h)
            ∙ ap (λ (ts : List Event). map F w.events ++ (left_over (P w.place) (P e.point) (P q) (F e ∷ ts) ++ events_with tab big k depth (P w.place) (map L w.left) (map F es))) (take-map F k es)
            ∙ ap (λ (ts : List Event). map F w.events ++ (ts ++ events_with tab big k depth (P w.place) (map L w.left) (map F es))) (left-on w.place e.point q (e ∷ take k es))
            ∙ ap (λ (ts : List Event). map F w.events ++ (map F here ++ ts)) more
            ∙ ap (λ (ts : List Event). map F w.events ++ ts) (sym (map-append F here rest))
            ∙ sym (map-append F w.events (here ++ rest))
        by false more other = ap (λ (ts : List Event). F e ∷ ts) other
