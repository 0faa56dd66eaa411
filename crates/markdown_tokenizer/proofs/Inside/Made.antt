-- What a tokenizer keeps of its events, call by call.
use Rattle.markdown_tokenizer.proofs.Prelude.{◌≡◌, ◌↔◌, ℕ, zero, suc, ◌+◌, ◌-◌, Bool, true, false, cond, List, [], ◌∷◌, ◌++◌, Option, Some, None, length, take, map, reverse, get_or, refl, sym, ◌∙◌, ap, subst, arith, ◌⊎◌, inl, inr, slice_get, All, AllPairs, last_or, reverse-append, take-map, map-append, length-map, get_or_append_left, get_or_push, length_push, get_or-map, All-nil, All-push, All-weaker, all_pairs_push, Event, Kind, Enter, Exit, Point, IsBalanced, empty, span, is_void, open_after, open_events, open_events_from, same_name, unlinked, IsInOrder, stands_before, IsShown, open_events_from-unlinked, stands-self, names_after, names_after_all, names_after_all-append, same_name-refl, none_is_not_some, names-none, IsMade, VoidExitsFollow, last_kind}
use Rattle.markdown_base.specs.declared.event.Name.{Name}
use Rattle.markdown_tokenizer.proofs.Positions.Order.{after-before}
pub use Rattle.markdown_base.proofs.Orders.{upto-upto}

-- ---- orders of places

pub before-upto : (p q : Point) → stands_before p q ≡ true → stands_before q p ≡ false
before-upto p q h = after-before p.index p.vs q.index q.vs h

-- ---- ends of lists

pub last_or-push : {A : Type 0} (o : Option A) (xs : List A) (x : A) → last_or o (xs ++ x ∷ []) ≡ Some x
last_or-push o [] x = refl
last_or-push o (y ∷ xs) x = last_or-push (Some y) xs x

-- a list is empty, or it has a last element
pub last_view : {A : Type 0} (xs : List A) → (xs ≡ []) ⊎ ((ys : List A) × (y : A) × (xs ≡ ys ++ y ∷ []))
last_view [] = inl refl
last_view (x ∷ xs) = inr (elim (last_view xs) [ inl e ↦ ([], x, ap (λ l. x ∷ l) e) | inr p ↦ (x ∷ p.0, p.1, ap (λ l. x ∷ l) p.2) ])

-- a list with a last element
pub push_from_last : {A : Type 0} (xs : List A) (x : A) → last_or None xs ≡ Some x → xs ≡ take (length xs - 1) xs ++ x ∷ []
push_from_last [] x e = cc
push_from_last (y ∷ []) x e = cc
push_from_last (y ∷ z ∷ zs) x e = let k : length (y ∷ z ∷ zs) - 1 ≡ suc (length (z ∷ zs) - 1) = omega arith in rw k (ap (λ l. y ∷ l) (push_from_last (z ∷ zs) x e))

-- ---- the parts, with one more event

pub last_kind-append : (k : Kind) (xs ys : List Event) → last_kind k (xs ++ ys) ≡ last_kind (last_kind k xs) ys
last_kind-append k [] ys = refl
last_kind-append k (e ∷ xs) ys = last_kind-append e.kind xs ys

pub open_events_from-append : (before xs ys : List Event) → open_events_from before (xs ++ ys) ≡ open_events_from (open_events_from before xs) ys
open_events_from-append before [] ys = refl
open_events_from-append before (e ∷ xs) ys = open_events_from-append (open_after e.kind e before) xs ys

pub open_events-enter : (xs : List Event) (e : Event) → e.kind ≡ Enter → open_events (xs ++ e ∷ []) ≡ open_events xs ++ e ∷ []
open_events-enter xs e k = open_events_from-append [] xs (e ∷ []) ∙ ap (λ (k : Kind). open_after k e (open_events xs)) k

module _ (void : Name → Bool) where
  void_exits-append : (k : Kind) (xs ys : List Event) → VoidExitsFollow void k xs → VoidExitsFollow void (last_kind k xs) ys → VoidExitsFollow void k (xs ++ ys)
  void_exits-append k [] ys h t = t
  void_exits-append k (e ∷ xs) ys h t = (h.0, void_exits-append e.kind xs ys h.1 t)

  void_exits-parts : (k : Kind) (xs ys : List Event) → VoidExitsFollow void k (xs ++ ys) → VoidExitsFollow void k xs × VoidExitsFollow void (last_kind k xs) ys
  void_exits-parts k [] ys h = (tt, h)
  void_exits-parts k (e ∷ xs) ys h = let parts = void_exits-parts e.kind xs ys h.1 in ((h.0, parts.0), parts.1)

-- ---- calls

-- nothing is made yet
pub made-new : (bytes : List ℕ) (after_previous bound : Point) → stands_before bound after_previous ≡ false → IsShown bytes after_previous → IsShown bytes bound → IsMade bytes [] [] after_previous bound
made-new bytes after_previous bound upto l b =
    let pairs : AllPairs (λ (d f : Event). stands_before f.point d.point ≡ false) [] = λ i j d lt within. absurd (omega arith) in
    assumption (pairs, All-nil (λ (e : Event). IsShown bytes e.point), All-nil (λ (e : Event). stands_before bound e.point ≡ false), All-nil (λ (e : Event). stands_before after_previous e.point ≡ false))

in_order-push : (bytes : List ℕ) (events : List Event) (e : Event) → IsInOrder bytes events → All (λ d. stands_before e.point d.point ≡ false) events → IsShown bytes e.point → IsInOrder bytes (events ++ e ∷ [])
in_order-push bytes events e h upto is =
    (all_pairs_push (λ (d f : Event). stands_before f.point d.point ≡ false) events e h.0 (λ k d lt. upto k d lt), All-push (λ e. IsShown bytes e.point) events e h.1 is)

names-push : (events : List Event) (e : Event) (st : List Name) → names_after_all (Some []) events ≡ Some st → names_after_all (Some []) (events ++ e ∷ []) ≡ names_after e.kind e.name st
names-push events e st h = names_after_all-append (Some []) events (e ∷ []) ∙ ap (λ o. names_after_all o (e ∷ [])) h ∙ names-none (names_after e.kind e.name st)

pub enter-is-no-exit : {P : Type 0} → Enter ≡ Exit → P
enter-is-no-exit e = cc

-- all places of events are up to this one
abbrev pub AreUpto : Point → List Event → Type 0
AreUpto p events = All (λ e. stands_before p e.point ≡ false) events

AreUpto-later : (p q : Point) (events : List Event) → stands_before q p ≡ false → AreUpto p events → AreUpto q events
AreUpto-later p q events h k = All-weaker (λ e. stands_before p e.point ≡ false) (λ e. stands_before q e.point ≡ false) (λ e l. upto-upto e.point p q l h) events k

-- in a list in order that ends in an enter before a place, each place is up to that
upto_enter : (ys : List Event) (y : Event) (after_previous : Point) → AllPairs (λ (d f : Event). stands_before f.point d.point ≡ false) (ys ++ y ∷ []) → last_kind Exit (ys ++ y ∷ []) ≡ Enter
    → ((o : Event) → last_or None (open_events (ys ++ y ∷ [])) ≡ Some o → stands_before o.point after_previous ≡ true) → AreUpto after_previous (ys ++ y ∷ [])
upto_enter ys y after_previous pairs enters before =
    let opened = open_events-enter ys y (sym (last_kind-append Exit ys (y ∷ [])) ∙ enters) in
    let upto = before-upto y.point after_previous (before y (ap (last_or None) opened ∙ last_or-push None (open_events ys) y)) in
    All-push (λ d. stands_before after_previous d.point ≡ false) ys y (AreUpto-later y.point after_previous ys upto (λ k d lt.
    rw (get_or_append_left ys (y ∷ []) d k lt, get_or_push ys y d (length ys) refl) at (pairs k (length ys) d lt (omega (arith, length_push ys y))))) upto

module _ (bytes : List ℕ) (events : List Event) (stack : List Name) (after_previous bound : Point) where
  -- an enter, at its place
  pub made-enter : IsMade bytes events stack after_previous bound → (e : Event) → e.kind ≡ Enter → stands_before e.point bound ≡ false → stands_before bound e.point ≡ false → IsShown bytes e.point
      → IsMade bytes (events ++ e ∷ []) (stack ++ e.name ∷ []) after_previous bound
  made-enter m e k from upto is = record {
    names = ap (map (λ (e : Event). e.name)) (open_events-enter events e k) ∙ map-append (λ (e : Event). e.name) (open_events events) (e ∷ []) ∙ ap (λ (ns : List Name). ns ++ e.name ∷ []) m.names;
    nested = names-push events e (reverse stack) m.nested ∙ ap (λ (k : Kind). names_after k e.name (reverse stack)) k ∙ ap Some (sym (reverse-append stack (e.name ∷ [])));
    tight = void_exits-append is_void Exit events (e ∷ []) m.tight (λ x. enter-is-no-exit (sym k ∙ x), tt);
    in_order = in_order-push bytes events e m.in_order (AreUpto-later bound e.point events from m.behind) is;
    behind = All-push (λ d. stands_before bound d.point ≡ false) events e m.behind upto;
    read = λ x. enter-is-no-exit (sym k ∙ sym (last_kind-append Exit events (e ∷ [])) ∙ x);
    left_bound = m.left_bound;
    left_shown = m.left_shown;
    bound_shown = m.bound_shown;
  }

  -- if the last open enter is before an exit's place, each event is at or before it
  pub upto_left : IsMade bytes events stack after_previous bound → ((o : Event) → last_or None (open_events events) ≡ Some o → stands_before o.point after_previous ≡ true) → AreUpto after_previous events
  upto_left m before = cases (last_kind Exit events) refl (last_view events)
    where
      cases : (k : Kind) → last_kind Exit events ≡ k → (events ≡ []) ⊎ ((ys : List Event) × (y : Event) × (events ≡ ys ++ y ∷ [])) → AreUpto after_previous events
      cases Exit e v = m.read e
      cases Enter e (inl none) = enter-is-no-exit (sym e ∙ ap (last_kind Exit) none)
      cases Enter e (inr p) = let is = p.2 in rw is (upto_enter p.0 p.1 after_previous (rw is at m.in_order.0) (rw is at e) (rw is at before))

  -- an exit of the last open name, at its place
  pub made-exit : IsMade bytes events stack after_previous bound → (e : Event) → e.kind ≡ Exit → e.point ≡ after_previous → last_or None stack ≡ Some e.name
      → ((o : Event) → last_or None (open_events events) ≡ Some o → stands_before o.point after_previous ≡ true)
      → (is_void e.name ≡ true → (o : Event) × (last_or None events ≡ Some o) × (o.kind ≡ Enter))
      → IsMade bytes (events ++ e ∷ []) (take (length stack - 1) stack) after_previous bound
  made-exit m e k at top before last =
      let upto = upto_left m before in
      let rest = take (length stack - 1) stack in
      let whole : stack ≡ rest ++ e.name ∷ [] = push_from_last stack e.name top in
      let same : same_name e.name e.name ≡ true = same_name-refl e.name in
      let follows = λ (_ : e.kind ≡ Exit) (v : is_void e.name ≡ true).
      ap (last_kind Exit) (push_from_last events (last v).0 (last v).1) ∙ last_kind-append Exit (take (length events - 1) events) ((last v).0 ∷ []) ∙ (last v).2 in
      let here : AreUpto after_previous (events ++ e ∷ []) = All-push (λ d. stands_before after_previous d.point ≡ false) events e upto (ap (stands_before after_previous) at ∙ stands-self after_previous) in
      record {
        names = ap (map (λ (e : Event). e.name)) (open_events_from-append [] events (e ∷ []) ∙ ap (λ (k : Kind). open_after k e (open_events events)) k)
            ∙ sym (take-map (λ (e : Event). e.name) (length (open_events events) - 1) (open_events events))
            ∙ ap (λ (n : ℕ). take (n - 1) (map (λ (e : Event). e.name) (open_events events))) (sym (length-map (open_events events) (λ (e : Event). e.name)))
            ∙ ap (λ (ns : List Name). take (length ns - 1) ns) m.names;
        nested = names-push events e (reverse stack) m.nested ∙ ap (λ (k : Kind). names_after k e.name (reverse stack)) k
            ∙ ap (names_after Exit e.name) (ap reverse whole ∙ reverse-append rest (e.name ∷ [])) ∙ ap (λ (t : Bool). cond t (Some (reverse rest)) None) same;
        tight = void_exits-append is_void Exit events (e ∷ []) m.tight (follows, tt);
        in_order = in_order-push bytes events e m.in_order (subst (λ (p : Point). AreUpto p events) (sym at) upto) (subst (IsShown bytes) (sym at) m.left_shown);
        behind = AreUpto-later after_previous bound (events ++ e ∷ []) m.left_bound here;
        read = λ _. here;
        left_bound = m.left_bound;
        left_shown = m.left_shown;
        bound_shown = m.bound_shown;
      }

  -- an enter, at a place up to that of an exit, which no event is after
  pub made-enter-at : IsMade bytes events stack after_previous bound → (e : Event) → e.kind ≡ Enter → IsShown bytes e.point → stands_before after_previous e.point ≡ false → AreUpto e.point events
      → IsMade bytes (events ++ e ∷ []) (stack ++ e.name ∷ []) after_previous bound
  made-enter-at m e k is upto all = record {
    names = ap (map (λ (e : Event). e.name)) (open_events-enter events e k) ∙ map-append (λ (e : Event). e.name) (open_events events) (e ∷ []) ∙ ap (λ (ns : List Name). ns ++ e.name ∷ []) m.names;
    nested = names-push events e (reverse stack) m.nested ∙ ap (λ (k : Kind). names_after k e.name (reverse stack)) k ∙ ap Some (sym (reverse-append stack (e.name ∷ [])));
    tight = void_exits-append is_void Exit events (e ∷ []) m.tight (λ x. enter-is-no-exit (sym k ∙ x), tt);
    in_order = in_order-push bytes events e m.in_order all is;
    behind = All-push (λ d. stands_before bound d.point ≡ false) events e m.behind (upto-upto e.point after_previous bound upto m.left_bound);
    read = λ x. enter-is-no-exit (sym k ∙ sym (last_kind-append Exit events (e ∷ [])) ∙ x);
    left_bound = m.left_bound;
    left_shown = m.left_shown;
    bound_shown = m.bound_shown;
  }

  -- an exit of the last open name, at such a place
  pub made-exit-at : IsMade bytes events stack after_previous bound → (e : Event) → e.kind ≡ Exit → IsShown bytes e.point → stands_before after_previous e.point ≡ false → AreUpto e.point events
      → last_or None stack ≡ Some e.name → (is_void e.name ≡ true → (o : Event) × (last_or None events ≡ Some o) × (o.kind ≡ Enter))
      → IsMade bytes (events ++ e ∷ []) (take (length stack - 1) stack) after_previous bound
  made-exit-at m e k is upto all top last =
      let rest = take (length stack - 1) stack in
      let whole : stack ≡ rest ++ e.name ∷ [] = push_from_last stack e.name top in
      let same : same_name e.name e.name ≡ true = same_name-refl e.name in
      let follows = λ (_ : e.kind ≡ Exit) (v : is_void e.name ≡ true).
      ap (last_kind Exit) (push_from_last events (last v).0 (last v).1) ∙ last_kind-append Exit (take (length events - 1) events) ((last v).0 ∷ []) ∙ (last v).2 in
      let here : AreUpto after_previous (events ++ e ∷ []) = All-push (λ d. stands_before after_previous d.point ≡ false) events e (AreUpto-later e.point after_previous events upto all) upto in
      record {
        names = ap (map (λ (e : Event). e.name)) (open_events_from-append [] events (e ∷ []) ∙ ap (λ (k : Kind). open_after k e (open_events events)) k)
            ∙ sym (take-map (λ (e : Event). e.name) (length (open_events events) - 1) (open_events events))
            ∙ ap (λ (n : ℕ). take (n - 1) (map (λ (e : Event). e.name) (open_events events))) (sym (length-map (open_events events) (λ (e : Event). e.name)))
            ∙ ap (λ (ns : List Name). take (length ns - 1) ns) m.names;
        nested = names-push events e (reverse stack) m.nested ∙ ap (λ (k : Kind). names_after k e.name (reverse stack)) k
            ∙ ap (names_after Exit e.name) (ap reverse whole ∙ reverse-append rest (e.name ∷ [])) ∙ ap (λ (t : Bool). cond t (Some (reverse rest)) None) same;
        tight = void_exits-append is_void Exit events (e ∷ []) m.tight (follows, tt);
        in_order = in_order-push bytes events e m.in_order all is;
        behind = AreUpto-later after_previous bound (events ++ e ∷ []) m.left_bound here;
        read = λ _. here;
        left_bound = m.left_bound;
        left_shown = m.left_shown;
        bound_shown = m.bound_shown;
      }

  -- a byte is consumed: the place of an exit is its end, and no event is after that
  pub made-consume : IsMade bytes events stack after_previous bound → (after_previous' bound' : Point) → stands_before after_previous' bound ≡ false → stands_before bound' after_previous' ≡ false → IsShown bytes after_previous' → IsShown bytes bound'
      → IsMade bytes events stack after_previous' bound'
  made-consume m after_previous' bound' after upto l b =
      let read = AreUpto-later bound after_previous' events after m.behind in
      assumption (read, AreUpto-later after_previous' bound' events upto read)

  -- an enter would have a later place
  pub made-bound : IsMade bytes events stack after_previous bound → (bound' : Point) → stands_before bound' bound ≡ false → IsShown bytes bound' → IsMade bytes events stack after_previous bound'
  made-bound m bound' later b = assumption (AreUpto-later bound bound' events later m.behind, upto-upto after_previous bound bound' m.left_bound later)

-- ---- ends

-- the first of these is the exit of the name
abbrev IsFollowed : Name → List Event → Type 0
IsFollowed n es = (f : Event) × (slice_get es 0 ≡ Some f) × (f.kind ≡ Exit) × (f.name ≡ n)

-- each void enter is directly followed by its exit
abbrev AreFollowed : (Name → Bool) → List Event → Type 0
AreFollowed void [] = Unit {0}
AreFollowed void (e ∷ es) = (e.kind ≡ Enter → void e.name ≡ true → IsFollowed e.name es) × AreFollowed void es

followed-append : (n : Name) (xs ys : List Event) → IsFollowed n xs → IsFollowed n (xs ++ ys)
followed-append n [] ys h = none_is_not_some h.0 _ h.1
followed-append n (f ∷ xs) ys h = h

-- a balanced list ends in an exit
last_kind-balanced : {l : List Event} → IsBalanced l → last_kind Exit l ≡ Exit
last_kind-balanced empty = refl
last_kind-balanced (span e f us vs {l} is en ex same b c) =
    ap (last_kind Exit) is ∙ last_kind-append e.kind us (f ∷ vs) ∙ ap (λ (k : Kind). last_kind k vs) ex ∙ last_kind-balanced c

-- a balanced list that ends in an enter is empty
first_after_enter : {l : List Event} → IsBalanced l → (k : Kind) (f : Event) (vs : List Event) → last_kind k l ≡ Enter → f.kind ≡ Exit → IsFollowed f.name (l ++ f ∷ vs)
first_after_enter empty k f vs h ex = (f, refl, ex, refl)
first_after_enter (span e g us ws {l} is en gx same b c) k f vs h ex =
    enter-is-no-exit (sym h ∙ ap (last_kind k) is ∙ last_kind-append e.kind us (g ∷ ws) ∙ ap (λ (k : Kind). last_kind k ws) gx ∙ last_kind-balanced c)

module _ (void : Name → Bool) where
  are_followed-append : (xs ys : List Event) → AreFollowed void xs → AreFollowed void ys → AreFollowed void (xs ++ ys)
  are_followed-append [] ys h t = t
  are_followed-append (e ∷ xs) ys h t = (λ k v. followed-append e.name xs ys (h.0 k v), are_followed-append xs ys h.1 t)

  pub balanced-followed : {l : List Event} → IsBalanced l → (k : Kind) → VoidExitsFollow void k l → AreFollowed void l
  balanced-followed empty k h = tt
  balanced-followed (span e f us vs {l} is en ex same b c) k h =
      let parts = void_exits-parts void e.kind us (f ∷ vs) (subst (VoidExitsFollow void k) is h).1 in
      subst (AreFollowed void) (sym is) (
        λ _ v. subst (λ (n : Name). IsFollowed n (us ++ f ∷ vs)) same (first_after_enter b e.kind f vs (parts.1.0 ex (ap void same ∙ v)) ex),
        are_followed-append us (f ∷ vs) (balanced-followed b e.kind parts.0) (λ fen _. enter-is-no-exit (sym fen ∙ ex), balanced-followed c f.kind parts.1.1),
      )

  pub followed-at : (es : List Event) → AreFollowed void es → (k : ℕ) (e : Event) → slice_get es k ≡ Some e → e.kind ≡ Enter → void e.name ≡ true
      → (f : Event) × (slice_get es (k + 1) ≡ Some f) × (f.kind ≡ Exit) × (f.name ≡ e.name)
  followed-at [] h k e is en v = none_is_not_some e _ is
  followed-at (x ∷ es) h zero e is en v =
      let same : x ≡ e = cc in
      subst (λ (y : Event). y.kind ≡ Enter → void y.name ≡ true → IsFollowed y.name es) same h.0 en v
  followed-at (x ∷ es) h (suc k) e is en v = let n : suc k + 1 ≡ suc (k + 1) = omega arith in rw n (followed-at es h.1 k e is en v)

-- ---- links

last_kind-unlinked : (k : Kind) (es : List Event) → last_kind k (map unlinked es) ≡ last_kind k es
last_kind-unlinked k [] = refl
last_kind-unlinked k (e ∷ es) = last_kind-unlinked e.kind es

names_after_all-unlinked : (o : Option (List Name)) (es : List Event) → names_after_all o (map unlinked es) ≡ names_after_all o es
names_after_all-unlinked None es = refl
names_after_all-unlinked (Some st) [] = refl
names_after_all-unlinked (Some st) (e ∷ es) = names_after_all-unlinked (names_after e.kind e.name st) es

void_exits-unlinked : (void : Name → Bool) (k : Kind) (es : List Event) → VoidExitsFollow void k (map unlinked es) ↔ VoidExitsFollow void k es
void_exits-unlinked void k [] = (λ h. h, λ h. h)
void_exits-unlinked void k (e ∷ es) = let others = void_exits-unlinked void e.kind es in (λ h. (h.0, others.0 h.1), λ h. (h.0, others.1 h.1))

names-unlinked : (es : List Event) → map (λ (e : Event). e.name) (map unlinked es) ≡ map (λ (e : Event). e.name) es
names-unlinked [] = refl
names-unlinked (e ∷ es) = ap (λ (ns : List Name). e.name ∷ ns) (names-unlinked es)

-- the names of open enters
open_names-unlinked : (es : List Event) → map (λ (e : Event). e.name) (open_events (map unlinked es)) ≡ map (λ (e : Event). e.name) (open_events es)
open_names-unlinked es = ap (map (λ (e : Event). e.name)) (open_events_from-unlinked [] es) ∙ names-unlinked (open_events es)

module _ (xs ys : List Event) (same : map unlinked xs ≡ map unlinked ys) where
  point-unlinked : (k : ℕ) (d : Event) → (get_or xs k d).point ≡ (get_or ys k d).point
  point-unlinked k d =
      ap (λ (e : Event). e.point) (sym (get_or-map unlinked xs k d)) ∙ ap (λ (es : List Event). (get_or es k (unlinked d)).point) same ∙ ap (λ (e : Event). e.point) (get_or-map unlinked ys k d)

  length-unlinked : length ys ≡ length xs
  length-unlinked = sym (length-map ys unlinked) ∙ sym (ap length same) ∙ length-map xs unlinked

  pub all-unlinked : (P : Point → Type 0) → All (λ e. P e.point) xs → All (λ e. P e.point) ys
  all-unlinked P h k d lt = subst P (point-unlinked k d) (h k d (omega (arith, length-unlinked)))

  -- other links
  pub made-linked : (bytes : List ℕ) (stack : List Name) (after_previous bound : Point) → IsMade bytes xs stack after_previous bound → IsMade bytes ys stack after_previous bound
  made-linked bytes stack after_previous bound m = record {
    names = sym (open_names-unlinked ys) ∙ ap (λ (es : List Event). map (λ (e : Event). e.name) (open_events es)) (sym same) ∙ open_names-unlinked xs ∙ m.names;
    nested = sym (names_after_all-unlinked (Some []) ys) ∙ ap (names_after_all (Some [])) (sym same) ∙ names_after_all-unlinked (Some []) xs ∙ m.nested;
    tight = (void_exits-unlinked is_void Exit ys).0 (subst (VoidExitsFollow is_void Exit) same ((void_exits-unlinked is_void Exit xs).1 m.tight));
    in_order = (λ i j d lt within. rw (point-unlinked i d, point-unlinked j d) at (m.in_order.0 i j d lt (omega (arith, length-unlinked))), all-unlinked (IsShown bytes) m.in_order.1);
    behind = all-unlinked (λ p. stands_before bound p ≡ false) m.behind;
    read = λ k. all-unlinked (λ p. stands_before after_previous p ≡ false) (m.read (sym (last_kind-unlinked Exit xs) ∙ ap (last_kind Exit) same ∙ last_kind-unlinked Exit ys ∙ k));
    left_bound = m.left_bound;
    left_shown = m.left_shown;
    bound_shown = m.bound_shown;
  }
