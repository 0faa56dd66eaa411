-- Calls of events that stand further on, over bytes that are the same there.
use Rattle.std.proofs.Common.{◌≡◌, ℕ, zero, suc, ◌+◌, ◌-◌, ◌≤◌, ◌++◌, Bool, true, false, cond, List, [], ◌∷◌, drop, Option, Some, None, refl, sym, ap, subst, ◌∙◌, arith}
use Rattle.std.proofs.lemmas.List.{map-append}
use Rattle.std.specs.List.{AllByRecursion}
use Rattle.std.specs.Prelude.{◌&&◌, map, not, slice_range}
use Rattle.markdown_base.specs.declared.event.Event.{Event}
use Rattle.markdown_base.specs.declared.event.Kind.{Kind}
use Rattle.markdown_base.specs.declared.event.Kind.TheVariants.{Enter, Exit}
use Rattle.markdown_base.specs.declared.event.Link.{Link}
use Rattle.markdown_base.specs.declared.event.Name.{Name}
use Rattle.markdown_base.specs.declared.event.Name.TheVariants.{Data, GfmFootnoteCall, GfmFootnoteCallLabel, GfmFootnoteCallMarker, Label, LabelEnd, LabelMarker}
use Rattle.markdown_base.specs.declared.event.Point.{Point}
use Rattle.markdown_base.specs.Events.{is_enter}
use Rattle.markdown_base.specs.Virtual.{point}
use Rattle.mdgfm_events.specs.Places.{event, leaf, place_at}
use Rattle.mdgfm_events.specs.Spans.{span_end}
use Rattle.mdgfm_events.proofs.Sizes.{end-last}
use Rattle.mdgfm_literals.specs.declared.texts.Literal.{Literal}
use Rattle.mdgfm_literals.specs.Laws.{further_event, further_literal, further_point}
use Rattle.mdgfm_literals.specs.LiteralEvents.{events_with}
use Rattle.mdgfm_literals.specs.Literals.{more_passed}
use Rattle.mdgfm_literals.proofs.Below.{AreUpTo, IsUpTo}
use Rattle.mdgfm_literals.proofs.Further.{end-on, eq-on, found-on, leaf-on, place-on}
use Rattle.mdgfm_literals.proofs.Parts.{placed-on}
use Rattle.mdgfm_footnotes.specs.CallEvents.{enters, inside_call, is_bare, with_calls, with_insides}
use Rattle.mdgfm_footnotes.specs.Calls.{call_at, calls_from, calls_of}
use Rattle.mdgfm_footnotes.proofs.Insides.{bare-by, caret_of, end_of, label_of}
use Rattle.mdgfm_footnotes.proofs.Places.{IsAt, between, calls-at, calls-found-of, calls-up-to}

-- calls of a text, further on
from-on : (noted : (label : List ℕ) → Bool) (n skip at : ℕ) (text : List ℕ) → calls_from noted skip (at + n) text ≡ map (further_literal n) (calls_from noted skip at text)
from-on noted n skip at [] = refl
from-on noted n (suc skip) at (b ∷ bs) = let z : at + n + 1 ≡ at + 1 + n = omega arith in ap (λ i. calls_from noted skip i bs) z ∙ from-on noted n skip (at + 1) bs
from-on noted n zero at (b ∷ bs) = by (call_at noted (b ∷ bs)) (from-on noted n (more_passed (b ∷ bs)) (at + 1) bs) (λ k. from-on noted n (k - 1) (at + 1) bs)
  where
    one : at + n + 1 ≡ at + 1 + n
    one = omega arith

    by : (o : Option ℕ) → calls_from noted (more_passed (b ∷ bs)) (at + 1 + n) bs ≡ map (further_literal n) (calls_from noted (more_passed (b ∷ bs)) (at + 1) bs)
        → ((k : ℕ) → calls_from noted (k - 1) (at + 1 + n) bs ≡ map (further_literal n) (calls_from noted (k - 1) (at + 1) bs))
        → elim o as (λ o. List Literal) [
          | Some k ↦ record { from = at + n; to = at + n + k; name = GfmFootnoteCall } ∷ calls_from noted (k - 1) (at + n + 1) bs
          | None ↦ calls_from noted (more_passed (b ∷ bs)) (at + n + 1) bs
        ]
        ≡ map (further_literal n) (elim o as (λ o. List Literal) [
          | Some k ↦ record { from = at; to = at + k; name = GfmFootnoteCall } ∷ calls_from noted (k - 1) (at + 1) bs
          | None ↦ calls_from noted (more_passed (b ∷ bs)) (at + 1) bs
        ])
    by None none some = ap (λ i. calls_from noted (more_passed (b ∷ bs)) i bs) one ∙ none
    by (Some k) none some =
        let far : at + n + k ≡ at + k + n = omega arith in
        ap (λ i. record { from = at + n; to = i; name = GfmFootnoteCall } ∷ calls_from noted (k - 1) (at + n + 1) bs) far
        ∙ ap (λ i. record { from = at + n; to = at + k + n; name = GfmFootnoteCall } ∷ calls_from noted (k - 1) i bs) one
        ∙ ap (λ ls. record { from = at + n; to = at + k + n; name = GfmFootnoteCall } ∷ ls) (some k)

module _ (links : Option Link → Option Link) (no_link : links None ≡ None) (lines n tab : ℕ) (small big : List ℕ) (most : ℕ)
    (same_slice : (i j : ℕ) → j ≤ most → slice_range big (i + n) (j + n) ≡ slice_range small i j) where
  abbrev P : Point → Point
  P = further_point lines n

  abbrev F : Event → Event
  F = further_event links lines n

  abbrev L : Literal → Literal
  L = further_literal n

  -- ---- what is in a call

  one-on : (k : Kind) (m : Name) (p : Point) → event k m (P p) ≡ F (event k m p)
  one-on k m p = ap linked (sym no_link)
    where
      linked : Option Link → Event
      linked l = record { kind = k; name = m; point = P p; link = l }

  place-there : (p : Point) (i j : ℕ) → j ≡ i + n → i ≤ most → place_at tab big (P p) j ≡ P (place_at tab small p i)
  place-there p i j is h = ap (place_at tab big (P p)) is ∙ place-on links no_link lines n tab small big p i (same_slice p.index i h)

  leaf-front : (m : Name) (r s : Point) (xs ys : List Event) → xs ≡ map F ys → leaf m (P r) (P s) ++ xs ≡ map F (leaf m r s ++ ys)
  leaf-front m r s xs ys is = (λ i. leaf-on links no_link lines n m r s i ++ is i) ∙ sym (map-append F (leaf m r s) ys)

  one-front : (k : Kind) (m : Name) (r : Point) (xs ys : List Event) → xs ≡ map F ys → event k m (P r) ∷ xs ≡ map F (event k m r ∷ ys)
  one-front k m r xs ys is = (λ i. one-on k m r i ∷ is i)

  -- what is in a call between places
  abbrev ends : (c q : Point) → List Event
  ends c q = leaf LabelMarker c q ++ (event Exit LabelEnd q ∷ event Exit Label q ∷ [])

  abbrev label_ends : (b c q : Point) → List Event
  label_ends b c q = leaf Data b c ++ (event Enter LabelEnd c ∷ ends c q)

  abbrev told : (p a b c q : Point) → List Event
  told p a b c q =
      event Enter Label p ∷ event Enter GfmFootnoteCallLabel p ∷ (leaf LabelMarker p a ++ (leaf GfmFootnoteCallMarker a b ++ (event Exit GfmFootnoteCallLabel b ∷ label_ends b c q)))

  ends-on : (c q : Point) → ends (P c) (P q) ≡ map F (ends c q)
  ends-on c q =
      leaf-front LabelMarker c q (event Exit LabelEnd (P q) ∷ event Exit Label (P q) ∷ []) (event Exit LabelEnd q ∷ event Exit Label q ∷ [])
      (one-front Exit LabelEnd q (event Exit Label (P q) ∷ []) (event Exit Label q ∷ []) (one-front Exit Label q [] [] refl))

  label-ends-on : (b c q : Point) → label_ends (P b) (P c) (P q) ≡ map F (label_ends b c q)
  label-ends-on b c q =
      leaf-front Data b c (event Enter LabelEnd (P c) ∷ ends (P c) (P q)) (event Enter LabelEnd c ∷ ends c q) (one-front Enter LabelEnd c (ends (P c) (P q)) (ends c q) (ends-on c q))

  told-on : (p a b c q : Point) → told (P p) (P a) (P b) (P c) (P q) ≡ map F (told p a b c q)
  told-on p a b c q =
      let exit : List Event = event Exit GfmFootnoteCallLabel b ∷ label_ends b c q in
      let exit_on : List Event = event Exit GfmFootnoteCallLabel (P b) ∷ label_ends (P b) (P c) (P q) in
      let marker : List Event = leaf GfmFootnoteCallMarker a b ++ exit in
      let marker_on : List Event = leaf GfmFootnoteCallMarker (P a) (P b) ++ exit_on in
      let first : List Event = leaf LabelMarker p a ++ marker in
      let first_on : List Event = leaf LabelMarker (P p) (P a) ++ marker_on in
      one-front Enter Label p (event Enter GfmFootnoteCallLabel (P p) ∷ first_on) (event Enter GfmFootnoteCallLabel p ∷ first) (
      one-front Enter GfmFootnoteCallLabel p first_on first (
      leaf-front LabelMarker p a marker_on marker (
      leaf-front GfmFootnoteCallMarker a b exit_on exit (
      one-front Exit GfmFootnoteCallLabel b (label_ends (P b) (P c) (P q)) (label_ends b c q) (label-ends-on b c q)))))

  inside-on : (p q : Point) → p.index + 4 ≤ q.index → q.index ≤ most → inside_call tab big (P p) (P q) ≡ map F (inside_call tab small p q)
  inside-on p q room within =
      let a = caret_of tab small p q in
      let b = label_of tab small p q in
      let c = end_of tab small p q in
      let caret : caret_of tab big (P p) (P q) ≡ P a = place-there p (p.index + 1) (p.index + n + 1) (omega arith) (omega (arith, room, within)) in
      let label : label_of tab big (P p) (P q) ≡ P b =
      ap (λ r. place_at tab big r (p.index + n + 2)) caret ∙ place-there a (p.index + 2) (p.index + n + 2) (omega arith) (omega (arith, room, within)) in
      let end : end_of tab big (P p) (P q) ≡ P c = ap (λ r. place_at tab big r (q.index + n - 1)) label ∙ place-there b (q.index - 1) (q.index + n - 1) (omega (arith, room)) (omega (arith, within)) in
      (λ i. told (P p) (caret i) (label i) (end i) (P q)) ∙ told-on p a b c q

  bare-on : (calls : List Literal) (e : Event) (es : List Event) → is_bare (map L calls) (F e) (map F es) ≡ is_bare calls e es
  bare-on [] e es = refl
  bare-on (l ∷ ls) e [] = refl
  bare-on (l ∷ ls) e (f ∷ es) =
      let start = eq-on n e.point.index l.from in
      let end = eq-on n f.point.index l.to in
      (λ i. (enters GfmFootnoteCall e && not (is_enter f.kind)) && (start i && end i))

  -- a call has room, and is up to an index
  record IsRoomy (l : Literal) : Type 0 where
    long : l.from + 4 ≤ l.to
    within : l.to ≤ most

  insides-on : (calls : List Literal) (es : List Event) → AllByRecursion IsRoomy calls → with_insides tab big (map L calls) (map F es) ≡ map F (with_insides tab small calls es)
  insides-on calls [] all = refl
  insides-on calls (e ∷ es) all =
      ap (λ t. cond t (put (span_end (P e.point) 0 (map F es)) (drop 1 (map L calls))) (F e ∷ with_insides tab big (map L calls) (map F es))) (bare-on calls e es)
      ∙ by (is_bare calls e es) refl (insides-on calls es all) (λ cs h. insides-on cs es h)
    where
      q : Point
      q = span_end e.point 0 es

      put : Point → List Literal → List Event
      put r cs = F e ∷ (inside_call tab big (P e.point) r ++ with_insides tab big cs (map F es))

      there : is_bare calls e es ≡ true → ((cs : List Literal) → AllByRecursion IsRoomy cs → with_insides tab big (map L cs) (map F es) ≡ map F (with_insides tab small cs es))
          → put (span_end (P e.point) 0 (map F es)) (drop 1 (map L calls)) ≡ map F (e ∷ (inside_call tab small e.point q ++ with_insides tab small (drop 1 calls) es))
      there bare inner =
          bare-by (put (span_end (P e.point) 0 (map F es)) (drop 1 (map L calls)) ≡ map F (e ∷ (inside_call tab small e.point q ++ with_insides tab small (drop 1 calls) es))) calls e es bare
          (λ l ls f fs is are one.
          let each : AllByRecursion IsRoomy (l ∷ ls) = subst (AllByRecursion IsRoomy) is all in
          let last : q.index ≡ f.point.index = ap (λ (ts : List Event). (span_end e.point 0 ts).index) are ∙ ap (λ (r : Point). r.index) (end-last e.point f fs one.exits) in
          let start = one.start in
          let end = one.end in
          let long = each.0.long in
          let within = each.0.within in
          let left : drop 1 (map L calls) ≡ map L ls = ap (λ cs. drop 1 (map L cs)) is in
          let left_small : drop 1 calls ≡ ls = ap (drop 1) is in
          (λ i. put (end-on links no_link lines n e.point 0 es i) (left i))
          ∙ ap (λ (ts : List Event). F e ∷ (inside_call tab big (P e.point) (P q) ++ ts)) (inner ls each.1)
          ∙ ap (λ (ts : List Event). F e ∷ (ts ++ map F (with_insides tab small ls es))) (inside-on e.point q (omega (arith, start, last, end, long)) (omega (arith, last, end, within)))
          ∙ ap (λ (ts : List Event). F e ∷ ts) (sym (map-append F (inside_call tab small e.point q) (with_insides tab small ls es)))
          ∙ ap (λ cs. map F (e ∷ (inside_call tab small e.point q ++ with_insides tab small cs es))) (sym left_small))

      by : (t : Bool) → is_bare calls e es ≡ t → with_insides tab big (map L calls) (map F es) ≡ map F (with_insides tab small calls es)
          → ((cs : List Literal) → AllByRecursion IsRoomy cs → with_insides tab big (map L cs) (map F es) ≡ map F (with_insides tab small cs es))
          → cond t (put (span_end (P e.point) 0 (map F es)) (drop 1 (map L calls))) (F e ∷ with_insides tab big (map L calls) (map F es))
          ≡ map F (cond t (e ∷ (inside_call tab small e.point q ++ with_insides tab small (drop 1 calls) es)) (e ∷ with_insides tab small calls es))
      by true bare other inner = there bare inner
      by false bare other inner = ap (λ (ts : List Event). F e ∷ ts) other

  -- ---- all

  module _ (noted : (label : List ℕ) → Bool) (es : List Event) (up : AreUpTo most es) where
    calls : List Literal
    calls = calls_of noted small 0 0 es

    between-on : (fresh : Bool) (i j : ℕ) → i ≤ most → j ≤ most → between noted big fresh (i + n) (j + n) ≡ map L (between noted small fresh i j)
    between-on fresh i j h k = ap (calls_from noted 0 (i + n)) (same_slice i j k) ∙ from-on noted n 0 i (slice_range small i j)

    calls-on : calls_of noted big 0 0 (map F es) ≡ map L (calls_of noted small 0 0 es)
    calls-on =
        sym (calls-found-of noted big true 0 0 (map F es))
        ∙ found-on links no_link lines n (between noted small) (between noted big) most between-on true 0 0 es up
        ∙ ap (map L) (calls-found-of noted small true 0 0 es)

    roomy : (ls : List Literal) → AllByRecursion (IsAt small) ls → AllByRecursion (IsUpTo most) ls → AllByRecursion IsRoomy ls
    roomy [] at h = tt
    roomy (l ∷ ls) at h = (record { long = at.0.long; within = h.0.1 }, roomy ls at.1 h.1)

    pub with-calls-on : with_calls noted tab big (map F es) ≡ map F (with_calls noted tab small es)
    with-calls-on =
        let found = calls_of noted small 0 0 es in
        let below = calls-up-to noted small most 0 0 es up in
        ap (λ cs. with_insides tab big cs (events_with tab big 0 0 (point 1 1 0 0) cs (map F es))) calls-on
        ∙ ap (with_insides tab big (map L found)) (placed-on links no_link lines n tab small big most same_slice found es below)
        ∙ insides-on found (events_with tab small 0 0 (point 1 1 0 0) found es) (roomy found (calls-at noted small es) below)
