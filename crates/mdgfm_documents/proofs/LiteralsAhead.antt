-- Events that go ahead still do with autolink literals.
use Rattle.std.proofs.Common.{◌≡◌, ℕ, zero, suc, ◌+◌, ◌-◌, ◌≤◌, ◌++◌, Bool, true, false, cond, List, [], ◌∷◌, take, Option, Some, None, refl, ap, sym, subst, ◌∙◌}
use Rattle.std.proofs.lemmas.Bool.{false≢true, not-true}
use Rattle.std.proofs.lemmas.List.{append_assoc}
use Rattle.std.specs.List.{AllByRecursion}
use Rattle.std.specs.Prelude.{◌==◌, ◌&&◌, nat_le, nat_lt, not, slice_get}
use Rattle.markdown_base.proofs.Common.{and-right, every-append, every-take}
use Rattle.markdown_base.specs.declared.event.Event.{Event}
use Rattle.markdown_base.specs.declared.event.Kind.TheVariants.{Enter, Exit}
use Rattle.markdown_base.specs.declared.event.Name.{Name}
use Rattle.markdown_base.specs.declared.event.Name.TheVariants.{Data, LineEnding}
use Rattle.markdown_base.specs.declared.event.Point.{Point}
use Rattle.markdown_base.specs.Events.{is_enter, same_name}
use Rattle.mdgfm_literals.specs.declared.found.Found.{Found}
use Rattle.mdgfm_literals.specs.declared.texts.Literal.{Literal}
use Rattle.mdgfm_literals.specs.Grammar.{literal_at}
use Rattle.mdgfm_literals.specs.Literals.{literals_from, more_passed}
use Rattle.mdgfm_literals.specs.LiteralEvents.{Written, end_of, events_with, left_over, start_of, with_one, written}
use Rattle.mdgfm_events.specs.Places.{event, later, leaf}
use Rattle.mdgfm_literals.specs.Stretches.{before_stretch, depth_behind, is_fresh, is_plain, is_text, literals_between, literals_of, reach}
use Rattle.mdgfm_events.specs.Spans.{span_end, span_size}
use Rattle.mdgfm_literals.proofs.Below.{IsUpTo, literals-up-to}
use Rattle.mdgfm_literals.proofs.Fits.{Ascend, Past, Rise, all-fit, literals-rise, past-start}
use Rattle.mdgfm_literals.proofs.LiteralLaws.{literal-has}
use Rattle.mdgfm_literals.proofs.Names.{either-all}
use Rattle.mdgfm_literals.specs.Laws.{literal_names}
use Rattle.markdown_base.proofs.Balanced.{same_name-true}
use Rattle.mdgfm_literals.proofs.Order.{Goes, goes-rise, start-comes, with-goes}
use Rattle.mdgfm_documents.proofs.CheckEnds.{place-of-end}
use Rattle.mdgfm_documents.proofs.Ended.{AreEnded, IsNext, leaf-ended, other-ended, taken-ended}
use Rattle.mdgfm_documents.proofs.TasksAhead.{AreInside, IsInside, at-inside, either-inside}

-- ---- order

pub literals-go : (tab : ℕ) (bytes : List ℕ) (start : Point) (es : List Event) → start.index ≡ 0 → start.vs ≡ 0 → Goes start es → Goes start (events_with tab bytes 0 0 start (literals_of bytes true 0 0 es) es)
literals-go tab bytes start es first flat goes =
    let ls = literals_of bytes true 0 0 es in
    let rise = subst (λ n. Rise n es) first (goes-rise start es goes) in
    with-goes tab bytes 0 0 start ls es start flat (subst (λ n. Ascend n ls) (sym first) (literals-rise bytes true 0 0 0 es rise)) (all-fit bytes true 0 0 0 es rise)
    (subst (λ n. Past n 0 0 es) (sym first) (past-start 0 0 es)) (start-comes start start es first goes)

-- ---- places

module _ (tab most : ℕ) (bytes : List ℕ) where
  later-inside : (p q : Point) → IsInside tab most p → IsInside tab most q → IsInside tab most (later p q)
  later-inside p q h k = by (nat_le p.index q.index)
    where
      by : (t : Bool) → IsInside tab most (cond t q p)
      by true = k
      by false = h

  start-inside : (p : Point) (l : Literal) → IsInside tab most p → IsUpTo most l → IsInside tab most (start_of tab bytes p l)
  start-inside p l h k = at-inside tab most bytes p l.from h k.0

  end-of-inside : (p : Point) (l : Literal) → IsInside tab most p → IsUpTo most l → IsInside tab most (end_of tab bytes p l)
  end-of-inside p l h k = at-inside tab most bytes (start_of tab bytes p l) l.to (start-inside p l h k) k.1

  leaf-in : (n : Name) (p q : Point) → IsInside tab most p → IsInside tab most q → AreInside tab most (leaf n p q)
  leaf-in n p q h k = either-inside tab most (nat_lt p.index q.index) (event Enter n p ∷ event Exit n q ∷ []) [] (h, (k, tt)) tt

  both-in : (xs ys : List Event) → AreInside tab most xs → AreInside tab most ys → AreInside tab most (xs ++ ys)
  both-in xs ys h k = every-append (λ (e : Event). IsInside tab most e.point) xs ys h k

  one-in : (p : Point) (l : Literal) → IsInside tab most p → IsUpTo most l → AreInside tab most (with_one tab bytes p l)
  one-in p l h k =
      both-in (leaf Data p (start_of tab bytes p l)) (leaf l.name (start_of tab bytes p l) (end_of tab bytes p l)) (leaf-in Data p (start_of tab bytes p l) h (start-inside p l h k))
      (leaf-in l.name (start_of tab bytes p l) (end_of tab bytes p l) (start-inside p l h k) (end-of-inside p l h k))

  -- what is written, its last place, and what is left
  record IsWritten (w : Written) : Type 0 where
    events : AreInside tab most w.events
    place : IsInside tab most w.place
    left : AllByRecursion (IsUpTo most) w.left

  written-in : (first : Point) (stop : ℕ) (place : Point) (ls : List Literal) → IsInside tab most first → IsInside tab most place → AllByRecursion (IsUpTo most) ls → IsWritten (written tab bytes first stop place ls)
  written-in first stop place [] f p h = record { events = tt; place = p; left = tt }
  written-in first stop place (l ∷ ls) f p h =
      by (nat_lt l.from stop) (written tab bytes first stop (end_of tab bytes (later place first) l) ls)
      (written-in first stop (end_of tab bytes (later place first) l) ls f (end-of-inside (later place first) l (later-inside place first p f) h.0) h.1)
    where
      by : (b : Bool) (more : Written) → IsWritten more
          → IsWritten (cond b (record more { events = with_one tab bytes (later place first) l ++ more.events }) (record { events = []; place = place; left = l ∷ ls }))
      by true more k = record { events = both-in (with_one tab bytes (later place first) l) more.events (one-in (later place first) l (later-inside place first p f) h.0) k.events; place = k.place; left = k.left }
      by false more k = record { events = tt; place = p; left = h }

  pub literals-inside : (skip depth : ℕ) (place : Point) (ls : List Literal) (es : List Event) → IsInside tab most place → AllByRecursion (IsUpTo most) ls → AreInside tab most es
      → AreInside tab most (events_with tab bytes skip depth place ls es)
  literals-inside skip depth place ls [] p h k = tt
  literals-inside (suc skip) depth place ls (e ∷ es) p h k = literals-inside skip depth place ls es p h k.1
  literals-inside zero depth place ls (e ∷ es) p h k =
      let n = span_size 0 es in
      let last = span_end e.point 0 es in
      let w = written tab bytes e.point last.index place ls in
      let v = written-in e.point last.index place ls k.0 p h in
      let here = left_over w.place e.point last (e ∷ take n es) in
      let rest = events_with tab bytes n depth w.place w.left es in
      either-inside tab most (is_text depth e) (w.events ++ (here ++ rest)) (e ∷ events_with tab bytes 0 (depth_behind depth e) place ls es)
      (both-in w.events (here ++ rest) v.events
      (both-in here rest
      (either-inside tab most (nat_le w.place.index e.point.index) (e ∷ take n es) (leaf Data w.place last) (k.0, every-take (λ (x : Event). IsInside tab most x.point) n es k.1)
      (leaf-in Data w.place last v.place (place-of-end (IsInside tab most) 0 e.point es k.0 k.1)))
      (literals-inside n depth w.place w.left es v.place v.left k.1)))
      (k.0, literals-inside 0 (depth_behind depth e) place ls es p h k.1)

-- ---- line endings

abbrev pub is_other : Name → Bool
is_other n = not (same_name n LineEnding)

abbrev pub IsOther : Literal → Type 0
IsOther l = is_other l.name ≡ true

text-other : (depth : ℕ) (e : Event) → is_text depth e ≡ true → same_name e.name LineEnding ≡ false
text-other depth e h = by e.name (and-right (is_enter e.kind) (is_plain e.name) (and-right (depth == 0) (is_enter e.kind && is_plain e.name) h))
  where
    by : (n : Name) → is_plain n ≡ true → same_name n LineEnding ≡ false
    by n plain = no (same_name n LineEnding) refl
      where
        no : (t : Bool) → same_name n LineEnding ≡ t → t ≡ false
        no false q = refl
        no true q = absurd (false≢true (sym (ap is_plain (same_name-true n LineEnding q)) ∙ plain))

module _ (tab : ℕ) (bytes : List ℕ) where
  written-ended : (first : Point) (stop : ℕ) (place : Point) (ls : List Literal) (more : List Event) → AllByRecursion IsOther ls → AreEnded more
      → AreEnded ((written tab bytes first stop place ls).events ++ more) × AllByRecursion IsOther (written tab bytes first stop place ls).left
  written-ended first stop place [] more h k = (k, tt)
  written-ended first stop place (l ∷ ls) more h k =
      by (nat_lt l.from stop) (written tab bytes first stop (end_of tab bytes (later place first) l) ls) (written-ended first stop (end_of tab bytes (later place first) l) ls more h.1 k)
    where
      from : Point
      from = later place first

      by : (b : Bool) (w : Written) → AreEnded (w.events ++ more) × AllByRecursion IsOther w.left
          → AreEnded ((cond b (record w { events = with_one tab bytes (later place first) l ++ w.events }) (record { events = []; place = place; left = l ∷ ls })).events ++ more)
          × AllByRecursion IsOther (cond b (record w { events = with_one tab bytes (later place first) l ++ w.events }) (record { events = []; place = place; left = l ∷ ls })).left
      by true w g =
          let before = leaf Data from (start_of tab bytes from l) in
          let here = leaf l.name (start_of tab bytes from l) (end_of tab bytes from l) in (
            subst AreEnded (sym (append_assoc (before ++ here) w.events more ∙ append_assoc before here (w.events ++ more)))
                (leaf-ended Data from (start_of tab bytes from l) (here ++ (w.events ++ more)) refl
                (leaf-ended l.name (start_of tab bytes from l) (end_of tab bytes from l) (w.events ++ more) (not-true (same_name l.name LineEnding) h.0) g.0)),
            g.1,
          )
      by false w g = (k, h)

  next-kept : (depth : ℕ) (place : Point) (ls : List Literal) (e : Event) (es : List Event) → IsNext e es → IsNext e (events_with tab bytes 0 depth place ls es)
  next-kept depth place ls e [] h = h
  next-kept depth place ls e (f ∷ fs) h = by (is_text depth f) (no (depth == 0) (is_enter f.kind) (is_plain f.name) h.0)
    where
      no : (a b c : Bool) → b ≡ false → (a && (b && c)) ≡ false
      no true false c q = refl
      no false false c q = refl
      no a true c q = absurd (false≢true (sym q))

      by : (t : Bool) → t ≡ false → IsNext e (cond t
          ((written tab bytes f.point (span_end f.point 0 fs).index place ls).events
          ++ (left_over (written tab bytes f.point (span_end f.point 0 fs).index place ls).place f.point (span_end f.point 0 fs) (f ∷ take (span_size 0 fs) fs)
          ++ events_with tab bytes (span_size 0 fs) depth (written tab bytes f.point (span_end f.point 0 fs).index place ls).place (written tab bytes f.point (span_end f.point 0 fs).index place ls).left fs))
          (f ∷ events_with tab bytes 0 (depth_behind depth f) place ls fs))
      by false q = h
      by true q = absurd (false≢true (sym q))

  pub literals-ended : (skip depth : ℕ) (place : Point) (ls : List Literal) (es : List Event) → AllByRecursion IsOther ls → AreEnded es → AreEnded (events_with tab bytes skip depth place ls es)
  literals-ended skip depth place ls [] h k = tt
  literals-ended (suc skip) depth place ls (e ∷ es) h k = literals-ended skip depth place ls es h k.1
  literals-ended zero depth place ls (e ∷ es) h k =
      by (is_text depth e) refl (λ place ls g. literals-ended (span_size 0 es) depth place ls es g k.1) (literals-ended 0 (depth_behind depth e) place ls es h k.1)
    where
      n : ℕ
      n = span_size 0 es

      q : Point
      q = span_end e.point 0 es

      w : Written
      w = written tab bytes e.point q.index place ls

      rest : List Event
      rest = events_with tab bytes n depth w.place w.left es

      left : (t : Bool) → is_text depth e ≡ true → AreEnded rest → AreEnded (cond t (e ∷ take n es) (leaf Data w.place q) ++ rest)
      left true text on = (other-ended e (take n es ++ rest) (text-other depth e text), taken-ended 0 es rest k.1 on)
      left false text on = leaf-ended Data w.place q rest refl on

      by : (t : Bool) → is_text depth e ≡ t → ((place : Point) (ls : List Literal) → AllByRecursion IsOther ls → AreEnded (events_with tab bytes n depth place ls es))
          → AreEnded (events_with tab bytes 0 (depth_behind depth e) place ls es)
          → AreEnded (cond t (w.events ++ (left_over w.place e.point q (e ∷ take n es) ++ rest)) (e ∷ events_with tab bytes 0 (depth_behind depth e) place ls es))
      by true text on other =
          let ls-left = (written-ended e.point q.index place ls [] h tt).1 in
          (written-ended e.point q.index place ls (left_over w.place e.point q (e ∷ take n es) ++ rest) h (left (nat_le w.place.index e.point.index) text (on w.place w.left ls-left))).0
      by false text on other = ((λ enter. next-kept (depth_behind depth e) place ls e es (k.0 enter)), other)

-- ---- all

-- literals have the names of literals
five-other : AllByRecursion (λ n. is_other n ≡ true) literal_names
five-other = (refl, (refl, (refl, (refl, (refl, tt)))))

literal-named : (before : Option ℕ) (text : List ℕ) (f : Found) → literal_at before text ≡ Some f → is_other f.name ≡ true
literal-named before text =
    literal-has (λ f. is_other f.name ≡ true) before text ((λ n h. five-other.0), ((λ n h. five-other.1.0), ((λ n h. five-other.1.1.0), ((λ n h. five-other.1.1.1.0), ((λ n h. five-other.1.1.1.1.0), tt)))))

text-named : (skip : ℕ) (before : Option ℕ) (at : ℕ) (text : List ℕ) → AllByRecursion IsOther (literals_from skip before at text)
text-named skip before at [] = tt
text-named (suc skip) before at (b ∷ bs) = text-named skip before (at + 1) bs
text-named zero before at (b ∷ bs) =
    by (literal_at before (b ∷ bs)) refl (text-named (more_passed (b ∷ bs)) (slice_get (b ∷ bs) (more_passed (b ∷ bs))) (at + 1) bs) (λ f. text-named (f.size - 1) None (at + 1) bs)
  where
    by : (o : Option Found) → literal_at before (b ∷ bs) ≡ o
        → AllByRecursion IsOther (literals_from (more_passed (b ∷ bs)) (slice_get (b ∷ bs) (more_passed (b ∷ bs))) (at + 1) bs)
        → ((f : Found) → AllByRecursion IsOther (literals_from (f.size - 1) None (at + 1) bs))
        → AllByRecursion IsOther (elim o [ Some f ↦ record { from = at; to = at + f.size; name = f.name } ∷ literals_from (f.size - 1) None (at + 1) bs | None ↦ literals_from (more_passed (b ∷ bs)) (slice_get (b ∷ bs) (more_passed (b ∷ bs))) (at + 1) bs ])
    by None q none more = none
    by (Some f) q none more = (literal-named before (b ∷ bs) f q, more f)

all-named : (bytes : List ℕ) (fresh : Bool) (depth skip : ℕ) (es : List Event) → AllByRecursion IsOther (literals_of bytes fresh depth skip es)
all-named bytes fresh depth skip [] = tt
all-named bytes fresh depth (suc skip) (e ∷ es) = all-named bytes fresh depth skip es
all-named bytes fresh depth zero (e ∷ es) =
    let r = reach (span_size 0 es) (span_end e.point 0 es).index es in
    let here = literals_between bytes fresh e.point.index r.stop in
    either-all IsOther (is_text depth e) (here ++ literals_of bytes false depth r.size es) (literals_of bytes (is_fresh e) (depth_behind depth e) 0 es)
    (every-append IsOther here (literals_of bytes false depth r.size es) (text-named 0 (before_stretch bytes fresh e.point.index) e.point.index _) (all-named bytes false depth r.size es))
    (all-named bytes (is_fresh e) (depth_behind depth e) 0 es)

pub others-found : (bytes : List ℕ) (tab : ℕ) (es : List Event) → AllByRecursion IsOther (literals_of bytes true 0 0 es)
others-found bytes tab es = all-named bytes true 0 0 es

pub places-found : (most : ℕ) (bytes : List ℕ) (es : List Event) → AllByRecursion (λ (e : Event). e.point.index ≤ most) es → AllByRecursion (IsUpTo most) (literals_of bytes true 0 0 es)
places-found most bytes es all = literals-up-to most bytes true 0 0 es all
