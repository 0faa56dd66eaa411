-- Links and images keep the order of places: their events stand at the ends of the spans that they are made of, and those of emphasis in its runs.
use Rattle.std.proofs.Common.{◌≡◌, ◌<◌, ◌∙◌, ℕ, Bool, List, [], ◌∷◌, ◌++◌, false, ap, arith, refl, subst, sym}
use Rattle.std.specs.List.{AllByRecursion}
use Rattle.markdown_base.proofs.Orders.{InOrder, order-both, order-from, upto-upto}
use Rattle.markdown_base.proofs.Seats.{stands-self}
use Rattle.markdown_base.specs.declared.event.Event.{Event}
use Rattle.markdown_base.specs.declared.event.Kind.TheVariants.{Exit}
use Rattle.markdown_base.specs.declared.event.Name.{Name}
use Rattle.markdown_base.specs.declared.event.Name.TheVariants.{LabelText}
use Rattle.markdown_base.specs.declared.event.Point.{Point}
use Rattle.markdown_base.specs.Events.{IsBalanced}
use Rattle.markdown_base.specs.Places.{stands_before}
use Rattle.markdown_base.proofs.Common.{every-append}
use Rattle.mdinline_emphasis.proofs.PairsKeep.{pairs-keep}
use Rattle.mdinline_emphasis.specs.Emphasis.{Run, later, markers_of_all, paired, unlinked_event}
use Rattle.mdinline_emphasis.specs.Places.{Standing, markers, standing}
use Rattle.mdinline_emphasis.specs.RunEdits.{in_place}
use Rattle.mdinline_links.proofs.Aligned.{links-keep-between}
use Rattle.mdinline_links.proofs.Laid.{all-back, all-front}
use Rattle.mdinline_links.proofs.RunOrder.{Ordered, ordered-both, ordered-place}
use Rattle.mdinline_links.proofs.WithRuns.{runs-in-place}
use Rattle.mdinline_links.specs.Between.{IsKeptBetween, IsRunOf}
use Rattle.mdinline_links.specs.Kept.{IsFresh}
use Rattle.mdinline_links.specs.Laws.{LinksKeepOrder}
use Rattle.mdinline_links.specs.Linked.{around, as_data, last_place, runs_of_parts, spanning, with_links}
use Rattle.mdinline_links.specs.Places.{Anywhere, AreBytewise, AreSteps, IsBytewise}

-- ---- where events end
pub order-apart : (p q : Point) (xs ys : List Event) → InOrder p (xs ++ ys) q → InOrder p xs (last_place p xs) × InOrder (last_place p xs) ys q
order-apart p q [] ys h = (stands-self p, h)
order-apart p q (x ∷ xs) ys h = let more = order-apart x.point q xs ys h.1 in ((h.0, more.0), more.1)

order-last : (p q : Point) (xs : List Event) → InOrder p xs q → InOrder p xs (last_place p xs) × (stands_before q (last_place p xs) ≡ false)
order-last p q [] h = (stands-self p, h)
order-last p q (x ∷ xs) h = let more = order-last x.point q xs h.1 in ((h.0, more.0), more.1)

upto-last : (p q : Point) (xs : List Event) → InOrder p xs q → stands_before (last_place p xs) p ≡ false
upto-last p q [] h = stands-self p
upto-last p q (x ∷ xs) h = upto-upto p x.point (last_place x.point xs) h.0 (upto-last x.point q xs h.1)

-- a fresh run has its markers left
fresh-markers : (r : Run) → IsFresh r → markers r ≡ r.left
fresh-markers r fresh =
    let closed = ap markers_of_all fresh.0 in
    let opened = ap markers_of_all fresh.1 in
    omega (arith, closed, opened)

module _ (At : Point → Type 0) where
  abbrev pub AllAt : List Event → Type 0
  AllAt es = AllByRecursion (λ (e : Event). At e.point) es

  pub last-at : (p : Point) (xs : List Event) → At p → AllAt xs → At (last_place p xs)
  last-at p [] h k = h
  last-at p (x ∷ xs) h k = last-at x.point xs k.0 k.1

  -- a run between two places, and each place in it is one of these
  abbrev RunIsOrdered : Point → Run → Point → Type 0
  RunIsOrdered p r q = (stands_before r.start p ≡ false) × (stands_before q (later r.left r.start) ≡ false) × AreSteps At r.start r.left

  run-ordered : (bytes : List ℕ) (p q : Point) (r : Run) (e f : Event) → IsRunOf bytes r e f → IsBytewise At (e ∷ f ∷ []) → Ordered At p (e ∷ f ∷ []) q → RunIsOrdered p r q × (0 < r.left)
  run-ordered bytes p q r e f run known h =
      let goes = known run.is in
      let start = sym run.start in
      let many = sym run.many in
      let end : f.point ≡ later r.left r.start = sym goes.1 ∙ (λ i. later (many i) (start i)) in (
        (
          subst (λ x. stands_before x p ≡ false) start h.order.0,
          subst (λ x. stands_before q x ≡ false) end h.order.1.1,
          subst (λ x. AreSteps At x r.left) start (subst (AreSteps At e.point) many goes.2),
        ),
        subst (λ n. 0 < n) many goes.0,
      )

  place-ordered : (p q : Point) (r s : Run) → RunIsOrdered p r q → IsFresh r → standing s ≡ standing r → Ordered At p (in_place s) q
  place-ordered p q r s h fresh same =
      let start : r.start ≡ s.start = ap (λ (x : Standing). x.start) (sym same) in
      let many : r.left ≡ markers s = sym (fresh-markers r fresh) ∙ ap (λ (x : Standing). x.markers) (sym same) in
      let place = ordered-place At s (subst (λ x. AreSteps At x (markers s)) start (subst (AreSteps At r.start) many h.2)) in
      let from : stands_before s.start p ≡ false = subst (λ x. stands_before x p ≡ false) start h.0 in
      let to : stands_before q (later (markers s) s.start) ≡ false = subst (λ x. stands_before q x ≡ false) (λ i. later (many i) (start i)) h.1 in
      let first : Ordered At p [] s.start = record { order = from; places = tt } in
      let last : Ordered At (later (markers s) s.start) [] q = record { order = to; places = tt } in
      ordered-both At p s.start q [] (in_place s) first
      (subst (λ l. Ordered At s.start l q) (append-none (in_place s)) (ordered-both At s.start (later (markers s) s.start) q (in_place s) [] place last))
    where
      append-none : (xs : List Event) → xs ++ [] ≡ xs
      append-none [] = refl
      append-none (x ∷ xs) = ap (λ l. x ∷ l) (append-none xs)

  data-ordered : (p q : Point) (e : Event) (es : List Event) → Ordered At p (e ∷ es) q → Ordered At p (as_data (e ∷ es)) q
  data-ordered p q e es h =
      let last = order-last e.point q es h.order.1 in
      record { order = (h.order.0, (upto-last e.point q es h.order.1, last.1)); places = (h.places.0, (last-at e.point es h.places.0 h.places.1, tt)) }

  around-ordered : (p q : Point) (name : Name) (e : Event) (es : List Event) → Ordered At p (e ∷ es) q → Ordered At p (around name (e ∷ es)) q
  around-ordered p q name e es h =
      let l = last_place e.point es in
      let last = order-last e.point q es h.order.1 in
      let exit = unlinked_event Exit name l in
      record {
        order = (h.order.0, (stands-self e.point, order-both e.point es l (exit ∷ []) q last.0 (stands-self l, last.1)));
        places = (h.places.0, (h.places.0, every-append (λ (x : Event). At x.point) es (exit ∷ []) h.places.1 (last-at e.point es h.places.0 h.places.1, tt)));
      }

  text-ordered : (p m n q : Point) (e : Event) (es text : List Event) (f : Event) (fs : List Event) → Ordered At p (e ∷ es) m → Ordered At m text n → Ordered At n (f ∷ fs) q
      → Ordered At p ((e ∷ es) ++ (spanning LabelText (last_place e.point es) (last_place (last_place e.point es) text) text ++ f ∷ fs)) q
  text-ordered p m n q e es text f fs h k k' =
      let l = last_place e.point es in
      let last = order-last p m (e ∷ es) h.order in
      let at = last-at e.point es h.places.0 h.places.1 in
      let x = last_place l text in
      let over = order-last l n text (order-from l m text n last.1 k.order) in
      let exit = unlinked_event Exit LabelText x in
      let inside : Ordered At l (text ++ exit ∷ []) x =
      record {
        order = order-both l text x (exit ∷ []) x over.0 (stands-self x, stands-self x);
        places = every-append (λ (y : Event). At y.point) text (exit ∷ []) k.places (last-at l text at k.places, tt);
      } in
      let end : Ordered At x (f ∷ fs) q = record { order = order-from x n (f ∷ fs) q over.1 k'.order; places = k'.places } in
      let both = ordered-both At l x q (text ++ exit ∷ []) (f ∷ fs) inside end in
      ordered-both At p l q (e ∷ es) (spanning LabelText l x text ++ f ∷ fs) (record { order = last.0; places = h.places }) (record { order = (stands-self l, both.order); places = (at, both.places) })

  order-is-kept : (bytes : List ℕ) → IsKeptBetween bytes (IsBytewise At) Point (Ordered At) (Ordered At) RunIsOrdered
  order-is-kept bytes = record {
    nothing = λ q. record { order = stands-self q; places = tt };
    together = λ p m q xs ys b c h k. ordered-both At p m q xs ys h k;
    same = λ p q es b h. h;
    apart = λ p q xs ys b c h.
        let cut = order-apart p q xs ys h.order in
        let At' = λ (e : Event). At e.point in
        (last_place p xs, record { order = cut.0; places = all-front At' xs ys h.places }, record { order = cut.1; places = all-back At' xs ys h.places });
    run_of = run-ordered bytes;
    data_of_it = λ p q e es is known h. data-ordered p q e es h;
    around_it = λ p q name e es n b h. around-ordered p q name e es h;
    text_around = λ p m n q e es text f fs some b c h k l. text-ordered p m n q e es text f fs h k l;
    emphasis = λ p q ps h.
        runs-in-place Point (Ordered At) RunIsOrdered (λ q. record { order = stands-self q; places = tt }) (ordered-both At) place-ordered p q ps (paired (runs_of_parts ps)) h (pairs-keep (runs_of_parts ps));
  }

  -- Links, images and emphasis leave events in order, each at one of these places
  pub links-ordered : (one : Bool) (bytes : List ℕ) (es : List Event) (p q : Point) → IsBalanced es → AreBytewise At es → Ordered At p es q → Ordered At p (with_links one bytes es) q
  links-ordered one bytes es p q = links-keep-between one bytes (IsBytewise At) Point (Ordered At) (Ordered At) RunIsOrdered (order-is-kept bytes) es p q

all-anywhere : (es : List Event) → AllByRecursion (λ (e : Event). Anywhere e.point) es
all-anywhere [] = tt
all-anywhere (e ∷ es) = (tt, all-anywhere es)

pub in-order : LinksKeepOrder
in-order one bytes es p q balanced steps h = (links-ordered Anywhere one bytes es p q balanced steps (record { order = h; places = all-anywhere es })).order
