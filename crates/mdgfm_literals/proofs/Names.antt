-- The names of events with literals.
use Rattle.std.proofs.Common.{◌≡◌, ℕ, zero, suc, ◌+◌, ◌-◌, ◌++◌, Bool, true, false, cond, List, [], ◌∷◌, take, Option, Some, None, refl}
use Rattle.std.specs.List.{AllByRecursion}
use Rattle.std.specs.Prelude.{nat_le, nat_lt, slice_get}
use Rattle.markdown_base.specs.declared.event.Event.{Event}
use Rattle.markdown_base.specs.declared.event.Name.{Name}
use Rattle.markdown_base.specs.declared.event.Name.TheVariants.{Data}
use Rattle.markdown_base.specs.declared.event.Point.{Point}
use Rattle.markdown_base.specs.Virtual.{point}
use Rattle.markdown_base.proofs.Common.{every-append, every-take}
use Rattle.mdgfm_literals.specs.declared.found.Found.{Found}
use Rattle.mdgfm_literals.specs.declared.texts.Literal.{Literal}
use Rattle.mdgfm_literals.specs.Grammar.{literal_at}
use Rattle.mdgfm_literals.specs.Laws.{NamesAreKept, literal_names}
use Rattle.mdgfm_literals.specs.LiteralEvents.{Written, end_of, events_with, left_over, start_of, with_one, written}
use Rattle.mdgfm_literals.specs.Literals.{literals_from, more_passed}
use Rattle.mdgfm_events.specs.Places.{later, leaf}
use Rattle.mdgfm_events.specs.Spans.{span_end, span_size}
use Rattle.mdgfm_literals.specs.Stretches.{before_stretch, depth_behind, is_fresh, is_text, literals_between, literals_of, reach}
use Rattle.mdgfm_events.proofs.Leaves.{leaf-passes}
use Rattle.mdgfm_literals.proofs.LiteralLaws.{literal-has}

pub either-all : {A : Type 0} (P : A → Type 0) (b : Bool) (xs ys : List A) → AllByRecursion P xs → AllByRecursion P ys → AllByRecursion P (cond b xs ys)
either-all P true xs ys h k = h
either-all P false xs ys h k = k

-- ---- with any literals

module _ (test : Name → Bool) (of_data : test Data ≡ true) where
  abbrev pub Named : Literal → Type 0
  Named l = test l.name ≡ true

  abbrev pub Passes : Event → Type 0
  Passes e = test e.name ≡ true

  module _ (tab : ℕ) (bytes : List ℕ) where
    one-passes : (from : Point) (l : Literal) → Named l → AllByRecursion Passes (with_one tab bytes from l)
    one-passes from l h =
        every-append Passes (leaf Data from (start_of tab bytes from l)) (leaf l.name (start_of tab bytes from l) (end_of tab bytes from l))
        (leaf-passes test Data from (start_of tab bytes from l) of_data) (leaf-passes test l.name (start_of tab bytes from l) (end_of tab bytes from l) h)

    written-passes : (first : Point) (stop : ℕ) (place : Point) (ls : List Literal) → AllByRecursion Named ls
        → AllByRecursion Passes (written tab bytes first stop place ls).events × AllByRecursion Named (written tab bytes first stop place ls).left
    written-passes first stop place [] h = (tt, tt)
    written-passes first stop place (l ∷ ls) h =
        by (nat_lt l.from stop) (written tab bytes first stop (end_of tab bytes (later place first) l) ls) (written-passes first stop (end_of tab bytes (later place first) l) ls h.1)
      where
        by : (b : Bool) (more : Written) → AllByRecursion Passes more.events × AllByRecursion Named more.left
            → AllByRecursion Passes (cond b (record more { events = with_one tab bytes (later place first) l ++ more.events }) (record { events = []; place = place; left = l ∷ ls })).events
            × AllByRecursion Named (cond b (record more { events = with_one tab bytes (later place first) l ++ more.events }) (record { events = []; place = place; left = l ∷ ls })).left
        by true more p = (every-append Passes (with_one tab bytes (later place first) l) more.events (one-passes (later place first) l h.0) p.0, p.1)
        by false more p = (tt, h)

    pub with-passes : (skip depth : ℕ) (place : Point) (ls : List Literal) (es : List Event) → AllByRecursion Named ls → AllByRecursion Passes es
        → AllByRecursion Passes (events_with tab bytes skip depth place ls es)
    with-passes skip depth place ls [] h k = tt
    with-passes (suc skip) depth place ls (e ∷ es) h k = with-passes skip depth place ls es h k.1
    with-passes zero depth place ls (e ∷ es) h k =
        let n = span_size 0 es in
        let last = span_end e.point 0 es in
        let w = written tab bytes e.point last.index place ls in
        let p = written-passes e.point last.index place ls h in
        let here = left_over w.place e.point last (e ∷ take n es) in
        let rest = events_with tab bytes n depth w.place w.left es in
        either-all Passes (is_text depth e) (w.events ++ (here ++ rest)) (e ∷ events_with tab bytes 0 (depth_behind depth e) place ls es)
        (every-append Passes w.events (here ++ rest) p.0
        (every-append Passes here rest
        (either-all Passes (nat_le w.place.index e.point.index) (e ∷ take n es) (leaf Data w.place last) (k.0, every-take Passes n es k.1) (leaf-passes test Data w.place last of_data))
        (with-passes n depth w.place w.left es p.1 k.1)))
        (k.0, with-passes 0 (depth_behind depth e) place ls es h k.1)

-- ---- with literals of texts

module _ (test : Name → Bool) (of_data : test Data ≡ true) (five : AllByRecursion (λ n. test n ≡ true) literal_names) where
  abbrev IsNamed : Literal → Type 0
  IsNamed = Named test of_data

  literal-named : (before : Option ℕ) (text : List ℕ) (f : Found) → literal_at before text ≡ Some f → test f.name ≡ true
  literal-named before text =
      literal-has (λ f. test f.name ≡ true) before text ((λ n h. five.0), ((λ n h. five.1.0), ((λ n h. five.1.1.0), ((λ n h. five.1.1.1.0), ((λ n h. five.1.1.1.1.0), tt)))))

  text-named : (skip : ℕ) (before : Option ℕ) (at : ℕ) (text : List ℕ) → AllByRecursion IsNamed (literals_from skip before at text)
  text-named skip before at [] = tt
  text-named (suc skip) before at (b ∷ bs) = text-named skip before (at + 1) bs
  text-named zero before at (b ∷ bs) =
      by (literal_at before (b ∷ bs)) refl (text-named (more_passed (b ∷ bs)) (slice_get (b ∷ bs) (more_passed (b ∷ bs))) (at + 1) bs) (λ f. text-named (f.size - 1) None (at + 1) bs)
    where
      by : (o : Option Found) → literal_at before (b ∷ bs) ≡ o
          → AllByRecursion IsNamed (literals_from (more_passed (b ∷ bs)) (slice_get (b ∷ bs) (more_passed (b ∷ bs))) (at + 1) bs)
          → ((f : Found) → AllByRecursion IsNamed (literals_from (f.size - 1) None (at + 1) bs))
          → AllByRecursion IsNamed (elim o [ Some f ↦ record { from = at; to = at + f.size; name = f.name } ∷ literals_from (f.size - 1) None (at + 1) bs | None ↦ literals_from (more_passed (b ∷ bs)) (slice_get (b ∷ bs) (more_passed (b ∷ bs))) (at + 1) bs ])
      by None q none more = none
      by (Some f) q none more = (literal-named before (b ∷ bs) f q, more f)

  module _ (tab : ℕ) (bytes : List ℕ) where
    all-named : (fresh : Bool) (depth skip : ℕ) (es : List Event) → AllByRecursion IsNamed (literals_of bytes fresh depth skip es)
    all-named fresh depth skip [] = tt
    all-named fresh depth (suc skip) (e ∷ es) = all-named fresh depth skip es
    all-named fresh depth zero (e ∷ es) =
        let r = reach (span_size 0 es) (span_end e.point 0 es).index es in
        let here = literals_between bytes fresh e.point.index r.stop in
        either-all IsNamed (is_text depth e) (here ++ literals_of bytes false depth r.size es) (literals_of bytes (is_fresh e) (depth_behind depth e) 0 es)
        (every-append IsNamed here (literals_of bytes false depth r.size es) (text-named 0 (before_stretch bytes fresh e.point.index) e.point.index _) (all-named false depth r.size es))
        (all-named (is_fresh e) (depth_behind depth e) 0 es)

pub names-kept : NamesAreKept
names-kept test options bytes events five before =
    either-all (λ (e : Event). test e.name ≡ true) options.constructs.gfm_autolink_literal (events_with options.tab_size bytes 0 0 (point 1 1 0 0) (literals_of bytes true 0 0 events) events) events
    (with-passes test five.0 options.tab_size bytes 0 0 (point 1 1 0 0) (literals_of bytes true 0 0 events) events (all-named test five.0 five.1 options.tab_size bytes true 0 0 events) before) before
