-- Events with calls stay in order of place: they go forward, and none is between a CR and its LF.
use Rattle.std.proofs.Common.{◌≡◌, ◌∙◌, ℕ, ◌+◌, ◌-◌, ◌≤◌, ◌++◌, Bool, true, false, cond, List, [], ◌∷◌, drop, refl, sym, ap, subst, arith}
use Rattle.std.proofs.lemmas.List.Elements.{All-from_recursion, recursion_from_All}
use Rattle.std.specs.List.{AllByRecursion}
use Rattle.std.specs.Prelude.{◌==◌, slice_index}
use Rattle.markdown_base.proofs.Common.{every-append, every-map}
use Rattle.markdown_base.proofs.Seats.{stands-self}
use Rattle.markdown_base.specs.declared.configuration.ParseOptions.{ParseOptions}
use Rattle.markdown_base.specs.declared.event.Event.{Event}
use Rattle.markdown_base.specs.declared.event.Name.{Name}
use Rattle.markdown_base.specs.declared.event.Point.{Point}
use Rattle.markdown_base.specs.Events.{IsInOrder}
use Rattle.markdown_base.specs.Places.{IsShown, stands_before}
use Rattle.markdown_base.specs.Virtual.{point}
use Rattle.mdgfm_events.specs.Places.{leaf, place_at}
use Rattle.mdgfm_events.specs.Spans.{span_end}
use Rattle.mdgfm_events.proofs.Sizes.{end-last}
use Rattle.mdgfm_literals.specs.declared.texts.Literal.{Literal}
use Rattle.mdgfm_literals.specs.LiteralEvents.{events_with}
use Rattle.mdgfm_literals.proofs.Fits.{Rise, no-cr, past-start}
use Rattle.mdgfm_literals.proofs.Order.{Goes, at-flat, at-index, at-on, beyond, flat-index, goes-pairs, goes-rise, leaf-goes, pairs-go-all, start-comes, with-goes}
use Rattle.mdgfm_literals.proofs.OrderLaw.{HasNone, Shows, at-shown, leaf-shows, shown-from, shown-to, start-shown-at, with-shows}
use Rattle.mdgfm_footnotes.specs.CallEvents.{call_events_by, inside_call, is_bare, is_one_of, labels_in, with_calls, with_insides}
use Rattle.mdgfm_footnotes.specs.Calls.{calls_of}
use Rattle.mdgfm_footnotes.specs.Laws.{OrderIsKept, call_names}
use Rattle.mdgfm_footnotes.proofs.Insides.{IsBare, IsKept, bare-by, caret_of, end_of, inside-kept, label_of}
use Rattle.mdgfm_footnotes.proofs.Places.{IsAt, calls-at, calls-fit, calls-rise}

-- any name may be there
abbrev AnyName : Name → Type 0
AnyName n = Unit {0}

seven-any : AllByRecursion AnyName call_names
seven-any = (tt, (tt, (tt, (tt, (tt, (tt, (tt, tt)))))))

module _ (tab : ℕ) (bytes : List ℕ) where
  -- the places in a call have these indices, if there is room for them
  pub record ArePlaces (p q : Point) : Type 0 where
    pub caret : (caret_of tab bytes p q).index ≡ p.index + 1
    pub label : (label_of tab bytes p q).index ≡ p.index + 2
    pub end : (end_of tab bytes p q).index ≡ q.index - 1
    pub flat : (end_of tab bytes p q).vs ≡ 0

  pub call-places : (p q : Point) → p.index + 4 ≤ q.index → ArePlaces p q
  call-places p q room =
      let a = at-index tab bytes p (p.index + 1) (omega arith) in
      let b = at-index tab bytes (caret_of tab bytes p q) (p.index + 2) (omega (arith, a)) in
      record {
        caret = a;
        label = b;
        end = at-index tab bytes (label_of tab bytes p q) (q.index - 1) (omega (arith, b, room));
        flat = at-flat tab bytes (label_of tab bytes p q) (q.index - 1) (omega (arith, b, room));
      }

  -- ---- events go forward

  abbrev IsUpTo : Point → Point → Type 0
  IsUpTo p q = stands_before q p ≡ false

  goes-kept : IsKept AnyName IsUpTo Goes
  goes-kept = record { itself = λ p q h. stands-self q; leafs = λ n b p q es one h k more. leaf-goes n b p q es h k more; one = λ k n b p es one h more. (h, more) }

  inside-goes : (p q : Point) (es : List Event) → p.index + 4 ≤ q.index → Goes q es → Goes p (inside_call tab bytes p q ++ es)
  inside-goes p q es room more =
      let there = call-places p q room in
      let end = there.end in
      inside-kept tab bytes p q AnyName IsUpTo Goes goes-kept seven-any p es (stands-self p) (at-on tab bytes p (p.index + 1)) (at-on tab bytes (caret_of tab bytes p q) (p.index + 2))
      (at-on tab bytes (label_of tab bytes p q) (q.index - 1)) (flat-index (end_of tab bytes p q) q there.flat (omega (arith, end))) more

  pub insides-go : (calls : List Literal) (b : Point) (es : List Event) → AllByRecursion (IsAt bytes) calls → Goes b es → Goes b (with_insides tab bytes calls es)
  insides-go calls b [] all g = tt
  insides-go calls b (e ∷ es) all g = by (is_bare calls e es) refl (insides-go calls e.point es all g.1) (λ cs q. insides-go cs q es)
    where
      q : Point
      q = span_end e.point 0 es

      rest : List Event
      rest = with_insides tab bytes (drop 1 calls) es

      on : ((cs : List Literal) (q : Point) → AllByRecursion (IsAt bytes) cs → Goes q es → Goes q (with_insides tab bytes cs es)) → (l : Literal) (ls : List Literal) (f : Event) (fs : List Event)
          → calls ≡ l ∷ ls → es ≡ f ∷ fs → IsBare l e f → Goes e.point (inside_call tab bytes e.point q ++ rest)
      on inner l ls f fs is are bare =
          let each : AllByRecursion (IsAt bytes) (l ∷ ls) = subst (AllByRecursion (IsAt bytes)) is all in
          let goes : Goes e.point (f ∷ fs) = subst (Goes e.point) are g.1 in
          let end : q ≡ f.point = ap (span_end e.point 0) are ∙ end-last e.point f fs bare.exits in
          let long = each.0.long in
          let start = bare.start in
          let last = bare.end in
          let left : AllByRecursion (IsAt bytes) (drop 1 calls) = subst (λ (cs : List Literal). AllByRecursion (IsAt bytes) (drop 1 cs)) (sym is) each.1 in
          let behind : Goes f.point es = subst (Goes f.point) (sym are) (stands-self f.point, goes.1) in
          subst (λ (x : Point). Goes e.point (inside_call tab bytes e.point x ++ rest)) (sym end)
          (inside-goes e.point f.point rest (omega (arith, long, start, last)) (inner (drop 1 calls) f.point left behind))

      by : (t : Bool) → is_bare calls e es ≡ t → Goes e.point (with_insides tab bytes calls es)
          → ((cs : List Literal) (q : Point) → AllByRecursion (IsAt bytes) cs → Goes q es → Goes q (with_insides tab bytes cs es))
          → Goes b (cond t (e ∷ (inside_call tab bytes e.point q ++ rest)) (e ∷ with_insides tab bytes calls es))
      by true h other inner = (g.0, bare-by (Goes e.point (inside_call tab bytes e.point q ++ rest)) calls e es h (on inner))
      by false h other inner = (g.0, other)

  -- ---- none is between a CR and its LF

  abbrev AtShown : Point → Point → Type 0
  AtShown p q = IsShown bytes q

  abbrev AreShown : Point → List Event → Type 0
  AreShown p es = AllByRecursion (Shows bytes) es

  shows-kept : IsKept AnyName AtShown AreShown
  shows-kept = record {
    itself = λ p q h. h;
    leafs = λ n b p q es one h k more. every-append (Shows bytes) (leaf n p q) es (leaf-shows bytes n p q h k) more;
    one = λ k n b p es one h more. (h, more);
  }

  -- a place behind which a byte is that is no LF
  shown-byte : (p : Point) (i byte : ℕ) → IsShown bytes p → slice_index bytes i ≡ byte → (byte == 10) ≡ false → IsShown bytes (place_at tab bytes p i)
  shown-byte p i byte h is other = at-shown bytes tab p i h (shown-from bytes (beyond tab bytes p i) (ap (λ b. b == 10) is ∙ other))

  -- or before which one is that is no CR
  shown-behind : (p : Point) (i byte : ℕ) → IsShown bytes p → 1 ≤ i → slice_index bytes (i - 1) ≡ byte → (byte == 13) ≡ false → IsShown bytes (place_at tab bytes p i)
  shown-behind p i byte h some is other = at-shown bytes tab p i h (shown-to bytes (beyond tab bytes p i) (no-cr bytes i some (ap (λ b. b == 13) is ∙ other)))

  inside-shows : (l : Literal) (p q : Point) (es : List Event) → IsAt bytes l → p.index ≡ l.from → q.index ≡ l.to → IsShown bytes p → IsShown bytes q → AllByRecursion (Shows bytes) es
      → AllByRecursion (Shows bytes) (inside_call tab bytes p q ++ es)
  inside-shows l p q es at start last first end more =
      let second : p.index + 2 - 1 ≡ l.from + 1 = omega (arith, start) in
      let caret : IsShown bytes (caret_of tab bytes p q) = shown-byte p (p.index + 1) 94 first (ap (λ i. slice_index bytes (i + 1)) start ∙ at.caret) refl in
      let label : IsShown bytes (label_of tab bytes p q) = shown-behind (caret_of tab bytes p q) (p.index + 2) 94 caret (omega arith) (ap (slice_index bytes) second ∙ at.caret) refl in
      let closes : IsShown bytes (end_of tab bytes p q) = shown-byte (label_of tab bytes p q) (q.index - 1) 93 label (ap (λ i. slice_index bytes (i - 1)) last ∙ at.closes) refl in
      inside-kept tab bytes p q AnyName AtShown AreShown shows-kept seven-any p es first caret label closes end more

  insides-show : (calls : List Literal) (es : List Event) → AllByRecursion (IsAt bytes) calls → AllByRecursion (Shows bytes) es → AllByRecursion (Shows bytes) (with_insides tab bytes calls es)
  insides-show calls [] all h = tt
  insides-show calls (e ∷ es) all h = by (is_bare calls e es) refl (insides-show calls es all h.1) (λ cs a. insides-show cs es a h.1)
    where
      q : Point
      q = span_end e.point 0 es

      rest : List Event
      rest = with_insides tab bytes (drop 1 calls) es

      on : ((cs : List Literal) → AllByRecursion (IsAt bytes) cs → AllByRecursion (Shows bytes) (with_insides tab bytes cs es)) → (l : Literal) (ls : List Literal) (f : Event) (fs : List Event)
          → calls ≡ l ∷ ls → es ≡ f ∷ fs → IsBare l e f → AllByRecursion (Shows bytes) (inside_call tab bytes e.point q ++ rest)
      on inner l ls f fs is are bare =
          let each : AllByRecursion (IsAt bytes) (l ∷ ls) = subst (AllByRecursion (IsAt bytes)) is all in
          let shown : AllByRecursion (Shows bytes) (f ∷ fs) = subst (AllByRecursion (Shows bytes)) are h.1 in
          let end : q ≡ f.point = ap (span_end e.point 0) are ∙ end-last e.point f fs bare.exits in
          let left : AllByRecursion (IsAt bytes) (drop 1 calls) = subst (λ (cs : List Literal). AllByRecursion (IsAt bytes) (drop 1 cs)) (sym is) each.1 in
          inside-shows l e.point q rest each.0 bare.start (ap (λ (x : Point). x.index) end ∙ bare.end) h.0 (subst (IsShown bytes) (sym end) shown.0) (inner (drop 1 calls) left)

      by : (t : Bool) → is_bare calls e es ≡ t → AllByRecursion (Shows bytes) (with_insides tab bytes calls es)
          → ((cs : List Literal) → AllByRecursion (IsAt bytes) cs → AllByRecursion (Shows bytes) (with_insides tab bytes cs es))
          → AllByRecursion (Shows bytes) (cond t (e ∷ (inside_call tab bytes e.point q ++ rest)) (e ∷ with_insides tab bytes calls es))
      by true bare other inner = (h.0, bare-by (AllByRecursion (Shows bytes) (inside_call tab bytes e.point q ++ rest)) calls e es bare (on inner))
      by false bare other inner = (h.0, other)

  -- ---- of events in order

  module _ (defined : (label : List ℕ) → Bool) where
    abbrev pub start : Point
    start = point 1 1 0 0

    -- data and calls with nothing in them
    pub called-goes : (es : List Event) → Goes start es → Goes start (events_with tab bytes 0 0 start (calls_of defined bytes 0 0 es) es)
    called-goes es goes =
        let rise : Rise 0 es = goes-rise start es goes in
        with-goes tab bytes 0 0 start (calls_of defined bytes 0 0 es) es start refl (calls-rise defined bytes 0 0 0 es rise) (calls-fit defined bytes 0 0 0 es rise) (past-start 0 0 es) (start-comes start start es refl goes)

    pub calls-go : (es : List Event) → Goes start es → Goes start (with_calls defined tab bytes es)
    calls-go es goes =
        let calls = calls_of defined bytes 0 0 es in insides-go calls start (events_with tab bytes 0 0 start calls es) (calls-at defined bytes es) (called-goes es goes)

    have-none : (l : Literal) → IsAt bytes l → HasNone bytes l
    have-none l at =
        let long = at.long in
        (ap (λ b. b == 10) at.opens, no-cr bytes l.to (omega (arith, long)) (ap (λ b. b == 13) at.closes))

    calls-show : (es : List Event) → AllByRecursion (Shows bytes) es → AllByRecursion (Shows bytes) (with_calls defined tab bytes es)
    calls-show es h =
        let calls = calls_of defined bytes 0 0 es in
        let at = calls-at defined bytes es in
        insides-show calls (events_with tab bytes 0 0 start calls es) at
        (with-shows bytes tab 0 0 start calls es (start-shown-at bytes) (every-map (IsAt bytes) (HasNone bytes) have-none calls at) h)

pub order-by : (noted : (label : List ℕ) → Bool) (options : ParseOptions) (bytes : List ℕ) (events : List Event) → IsInOrder bytes events → IsInOrder bytes (call_events_by noted options bytes events)
order-by noted options bytes events order = by options.constructs.gfm_label_start_footnote
  where
    all : List Event
    all = with_calls noted options.tab_size bytes events

    by : (t : Bool) → IsInOrder bytes (cond t all events)
    by true = (
      goes-pairs (point 1 1 0 0) all (calls-go options.tab_size bytes noted events (pairs-go-all (point 1 1 0 0) events refl refl order.0)),
      All-from_recursion (Shows bytes) all (calls-show options.tab_size bytes noted events (recursion_from_All (Shows bytes) events order.1)),
    )
    by false = order

pub order-kept : OrderIsKept
order-kept options bytes events order = order-by (is_one_of (labels_in bytes events)) options bytes events order
