-- Changes of a list, made one after another: first some of them, and then the others, at their new places. The list is as if all were made at once.
use Rattle.std.proofs.Common.{◌≡◌, ℕ, suc, ◌+◌, ◌-◌, ◌<◌, ◌≤◌, inl, inr, false, List, [], ◌∷◌, ◌++◌, length, map, take, drop, Option, Some, None, refl, sym, ◌∙◌, ap, subst, arith}
use Rattle.std.proofs.Math.Seq.{drop-append_seam}
use Rattle.std.proofs.lemmas.Bool.{cases_order, eq-eqb, le-leb, le-ltb}
use Rattle.std.proofs.lemmas.List.{drop-drop, length-append, length-map, map-append}
use Rattle.std.specs.List.{AllByRecursion}
use Rattle.std.specs.Option.{option_map}
use Rattle.std.specs.Prelude.{slice_get}
use Rattle.markdown_base.proofs.Common.{every-append}
use Rattle.markdown_base.proofs.Facts.Lists.{get-dropped}
use Rattle.markdown_base.specs.Events.{relinked, with_ends}
use Rattle.markdown_base.specs.declared.event.Event.{Event}
use Rattle.markdown_base.specs.declared.event.Link.{Link}
use Rattle.markdown_edits.proofs.Edits.Passes.{AreApart-le, is_removed-none, olds, pass}
use Rattle.markdown_edits.specs.Woven.{AreApart, Change, Tagged, as_listed, is_removed, of_list, place_in, placed_end, placed_in}
use Rattle.markdown_tokenizer.specs.Plain.{HaveNoLinks}
use Rattle.markdown_children.proofs.Parts.Kept.{untagged, untagged-olds}
use Rattle.markdown_children.proofs.Parts.Once.{AreOnce, once-place}
use Rattle.mddocument.proofs.FlowTexts.Changes.{apart-before}

-- the event has no link
abbrev pub IsBare : Event → Type 0
IsBare e = e.link ≡ None

-- so it is the same at other places
pub bare-same : (e : Event) → IsBare e → (f : ℕ → Option ℕ) → relinked f e ≡ e
bare-same e h f = ap (λ (o : Option Link). record e { link = option_map (with_ends f) o }) h ∙ ap (λ (o : Option Link). record e { link = o }) (sym h)

pub bare-placed : (ts us : List Tagged) → AllByRecursion IsBare (untagged us) → placed_in ts us ≡ untagged us
bare-placed ts [] h = refl
bare-placed ts (u ∷ us) h = λ j. bare-same u.event h.0 (placed_end ts u.identity) j ∷ bare-placed ts us h.1 j

pub no-links-bare : (es : List Event) → HaveNoLinks es → AllByRecursion IsBare es
no-links-bare [] h = tt
no-links-bare (e ∷ es) h = (h.0, no-links-bare es h.1)

-- ---- a pass, event by event
pass-one : (i n : ℕ) (x : Event) (xs : List Event) (ws : List Change) → AreApart (i + 1) ws n → pass ws i (x ∷ xs) ≡ as_listed i x ∷ pass ws (i + 1) xs
pass-one i n x xs [] h = refl
pass-one i n x xs (w ∷ ws) h =
    let first : i + 1 ≤ w.index = h.0 in
    let a : w.index - i ≡ suc (w.index - (i + 1)) = omega (arith, first) in
    let b : w.index + w.remove - i ≡ suc (w.index + w.remove - (i + 1)) = omega (arith, first) in
    (λ j. olds i (take (a j) (x ∷ xs)) ++ (w.events ++ pass ws (w.index + w.remove) (drop (b j) (x ∷ xs))))

-- a change of two events at the index of the pass
pass-change : (i : ℕ) (x y : Event) (xs : List Event) (w : Change) (ws : List Change) → w.index ≡ i → w.remove ≡ 2 → pass (w ∷ ws) i (x ∷ y ∷ xs) ≡ w.events ++ pass ws (i + 2) xs
pass-change i x y xs w ws e r =
    let a : w.index - i ≡ 0 = omega (arith, e) in
    let b : w.index + w.remove - i ≡ 2 = omega (arith, e, r) in
    let c : w.index + w.remove ≡ i + 2 = omega (arith, e, r) in
    (λ j. olds i (take (a j) (x ∷ y ∷ xs)) ++ (w.events ++ pass ws (c j) (drop (b j) (x ∷ y ∷ xs))))

-- events before the changes stay
pass-front : (p n : ℕ) (front rest : List Event) (ws : List Change) → AreApart (p + length front) ws n → untagged (pass ws p (front ++ rest)) ≡ front ++ untagged (pass ws (p + length front) rest)
pass-front p n [] rest ws h = let z : p ≡ p + 0 = omega arith in ap (λ q. untagged (pass ws q rest)) z
pass-front p n (x ∷ front) rest ws h =
    let z : p + 1 + length front ≡ p + length (x ∷ front) = omega arith in
    let behind : AreApart (p + 1 + length front) ws n = subst (λ q. AreApart q ws n) (sym z) h in
    ap untagged (pass-one p n x (front ++ rest) ws (apart-before (p + 1 + length front) (p + 1) n ws (omega arith) behind))
    ∙ ap (λ l. x ∷ l) (pass-front (p + 1) n front rest ws behind ∙ ap (λ q. front ++ untagged (pass ws q rest)) z)

-- ---- now and later
-- A change that is made now; or later, and then it is this one of the new list
pub data Turn : Type 0 where
  now : Change → Turn
  later : Change → Change → Turn

abbrev pub change_of : Turn → Change
change_of (now w) = w
change_of (later w v) = w

abbrev pub all_of : List Turn → List Change
all_of turns = map change_of turns

abbrev pub firsts : List Turn → List Change
firsts [] = []
firsts (now w ∷ turns) = w ∷ firsts turns
firsts (later w v ∷ turns) = firsts turns

abbrev pub seconds : List Turn → List Change
seconds [] = []
seconds (now w ∷ turns) = seconds turns
seconds (later w v ∷ turns) = v ∷ seconds turns

-- each goes for two events, and what comes has no links. What comes later comes at the new place of the first of them
abbrev pub IsTurn : (ℕ → ℕ) → Turn → Type 0
IsTurn moved (now w) = (w.remove ≡ 2) × AllByRecursion IsBare (untagged w.events)
IsTurn moved (later w v) = (w.remove ≡ 2) × AllByRecursion IsBare (untagged w.events) × (v.remove ≡ 2) × (v.index ≡ moved w.index) × (untagged v.events ≡ untagged w.events)

two : (moved : ℕ → ℕ) (t : Turn) → IsTurn moved t → (change_of t).remove ≡ 2
two moved (now w) h = h.0
two moved (later w v) h = h.0

firsts-apart : (i n : ℕ) (turns : List Turn) → AreApart i (all_of turns) n → AreApart i (firsts turns) n
firsts-apart i n [] h = h
firsts-apart i n (now w ∷ turns) h = (h.0, firsts-apart (w.index + w.remove) n turns h.1)
firsts-apart i n (later w v ∷ turns) h =
    let l : i ≤ w.index = h.0 in
    apart-before (w.index + w.remove) i n (firsts turns) (omega (arith, l)) (firsts-apart (w.index + w.remove) n turns h.1)

module _ (events : List Event) where
  -- events from an index on that no change removes have no links
  abbrev pub AreBareFrom : List Change → ℕ → Type 0
  AreBareFrom ws i = (m : ℕ) (e : Event) → i ≤ m → slice_get events m ≡ Some e → is_removed ws m ≡ false → IsBare e

  get-here : (i : ℕ) (x : Event) (xs : List Event) → drop i events ≡ x ∷ xs → slice_get events i ≡ Some x
  get-here i x xs at = let z : i ≡ i + 0 = omega arith in ap (slice_get events) z ∙ sym (get-dropped i events 0) ∙ ap (λ (l : List Event). slice_get l 0) at

  drop-here : (i : ℕ) (x : Event) (xs : List Event) → drop i events ≡ x ∷ xs → drop (i + 1) events ≡ xs
  drop-here i x xs at = sym (drop-drop 1 i events) ∙ ap (drop 1) at

  drop-both : (i : ℕ) (x y : Event) (xs : List Event) → drop i events ≡ x ∷ y ∷ xs → drop (i + 2) events ≡ xs
  drop-both i x y xs at = sym (drop-drop 2 i events) ∙ ap (drop 2) at

  all-bare : (i : ℕ) (xs : List Event) → drop i events ≡ xs → AreBareFrom [] i → AllByRecursion IsBare xs
  all-bare i [] at h = tt
  all-bare i (x ∷ xs) at h = (h i x (omega arith) (get-here i x xs at) refl, all-bare (i + 1) xs (drop-here i x xs at) (λ m e l g n. h m e (omega (arith, l)) g n))

  -- behind the first change
  bare-behind : (i : ℕ) (w : Change) (ws : List Change) → w.index ≡ i → w.remove ≡ 2 → AreBareFrom (w ∷ ws) i → AreBareFrom ws (i + 2)
  bare-behind i w ws e r h m x l g n =
      let past : w.index + w.remove ≤ m = omega (arith, l, e, r) in
      h m x (omega (arith, l)) g (rw (le-leb w.index m (omega (arith, l, e)), le-ltb m (w.index + w.remove) past) n)

  -- With changes made in turn
  module _ (ts : List Tagged) (once : AreOnce ts) (moved : ℕ → ℕ) (place : (n p : ℕ) → place_in (of_list n) ts ≡ Some p → moved n ≡ p) where
    -- what is left of the list with the first changes is, with the second ones, what all changes leave; and that has no links
    abbrev Goes : List Turn → (p : ℕ) → List Tagged → (i : ℕ) → List Event → Type 0
    Goes turns p l i xs = AreApart p (seconds turns) (p + length l) × (untagged (pass (seconds turns) p (placed_in ts l)) ≡ untagged (pass (all_of turns) i xs)) × AllByRecursion IsBare (untagged (pass (all_of turns) i xs))

    -- an event stays
    step-kept : (turns : List Turn) (i p n : ℕ) (x : Event) (xs : List Event) → AreApart (i + 1) (all_of turns) n → IsBare x → Goes turns (p + 1) (pass (firsts turns) (i + 1) xs) (i + 1) xs → Goes turns p (pass (firsts turns) i (x ∷ xs)) i (x ∷ xs)
    step-kept turns i p n x xs apart bare more =
        let l : List Tagged = pass (firsts turns) (i + 1) xs in
        let one : pass (firsts turns) i (x ∷ xs) ≡ as_listed i x ∷ l = pass-one i n x xs (firsts turns) (firsts-apart (i + 1) n turns apart) in
        let z : p + 1 + length l ≡ p + length (as_listed i x ∷ l) = omega arith in
        let same : placed_in ts (as_listed i x ∷ l) ≡ x ∷ placed_in ts l = λ j. bare-same x bare (placed_end ts (of_list i)) j ∷ placed_in ts l in
        let there : Goes turns p (as_listed i x ∷ l) i (x ∷ xs) = (
          apart-before (p + 1) p (p + length (as_listed i x ∷ l)) (seconds turns) (omega arith) (subst (AreApart (p + 1) (seconds turns)) z more.0),
          ap (λ es. untagged (pass (seconds turns) p es)) same ∙ ap untagged (pass-one p (p + 1 + length l) x (placed_in ts l) (seconds turns) more.0) ∙ ap (λ es. x ∷ es) more.1
              ∙ sym (ap untagged (pass-one i n x xs (all_of turns) apart)),
          subst (AllByRecursion IsBare) (sym (ap untagged (pass-one i n x xs (all_of turns) apart))) (bare, more.2),
        ) in
        subst (λ (us : List Tagged). Goes turns p us i (x ∷ xs)) (sym one) there

    -- a change of all
    change-all : (w : Change) (turns : List Turn) (i : ℕ) (x y : Event) (xs : List Event) → w.index ≡ i → w.remove ≡ 2
        → untagged (pass (w ∷ all_of turns) i (x ∷ y ∷ xs)) ≡ untagged w.events ++ untagged (pass (all_of turns) (i + 2) xs)
    change-all w turns i x y xs e r = ap untagged (pass-change i x y xs w (all_of turns) e r) ∙ map-append _ w.events (pass (all_of turns) (i + 2) xs)

    -- a change is made now
    step-now : (w : Change) (turns : List Turn) (i p : ℕ) (x y : Event) (xs : List Event) → w.index ≡ i → w.remove ≡ 2 → AllByRecursion IsBare (untagged w.events)
        → Goes turns (p + length w.events) (pass (firsts turns) (i + 2) xs) (i + 2) xs → Goes (now w ∷ turns) p (pass (w ∷ firsts turns) i (x ∷ y ∷ xs)) i (x ∷ y ∷ xs)
    step-now w turns i p x y xs e r bare more =
        let l : List Tagged = pass (firsts turns) (i + 2) xs in
        let front : List Event = untagged w.events in
        let long : length front ≡ length w.events = length-map w.events (λ (t : Tagged). t.event) in
        let n : ℕ = p + length w.events + length l in
        let z : n ≡ p + length (w.events ++ l) = omega (arith, length-append w.events l) in
        let behind : AreApart (p + length front) (seconds turns) n = subst (λ k. AreApart (p + k) (seconds turns) n) (sym long) more.0 in
        let same : placed_in ts (w.events ++ l) ≡ front ++ placed_in ts l = map-append _ w.events l ∙ ap (λ es. es ++ placed_in ts l) (bare-placed ts w.events bare) in
        let there : Goes (now w ∷ turns) p (w.events ++ l) i (x ∷ y ∷ xs) = (
          apart-before (p + length w.events) p (p + length (w.events ++ l)) (seconds turns) (omega arith) (subst (AreApart (p + length w.events) (seconds turns)) z more.0),
          ap (λ es. untagged (pass (seconds turns) p es)) same ∙ pass-front p n front (placed_in ts l) (seconds turns) behind
              ∙ ap (λ k. front ++ untagged (pass (seconds turns) (p + k) (placed_in ts l))) long ∙ ap (λ es. front ++ es) more.1
              ∙ sym (change-all w turns i x y xs e r),
          subst (AllByRecursion IsBare) (sym (change-all w turns i x y xs e r)) (every-append IsBare front (untagged (pass (all_of turns) (i + 2) xs)) bare more.2),
        ) in
        subst (λ (us : List Tagged). Goes (now w ∷ turns) p us i (x ∷ y ∷ xs)) (sym (pass-change i x y xs w (firsts turns) e r)) there

    -- a change is made later
    step-later : (w v : Change) (turns : List Turn) (i p n : ℕ) (x y : Event) (xs : List Event) → w.index ≡ i → IsTurn moved (later w v) → AreApart (i + 2) (all_of turns) n → drop p ts ≡ pass (firsts turns) i (x ∷ y ∷ xs)
        → Goes turns (p + 2) (pass (firsts turns) (i + 2) xs) (i + 2) xs → Goes (later w v ∷ turns) p (pass (firsts turns) i (x ∷ y ∷ xs)) i (x ∷ y ∷ xs)
    step-later w v turns i p n x y xs e turn apart at more =
        let l : List Tagged = pass (firsts turns) (i + 2) xs in
        let os : List Tagged = as_listed i x ∷ as_listed (i + 1) y ∷ l in
        let far = firsts-apart (i + 2) n turns apart in
        let both : pass (firsts turns) i (x ∷ y ∷ xs) ≡ os = (let z : i + 1 + 1 ≡ i + 2 = omega arith in
        pass-one i n x (y ∷ xs) (firsts turns) (apart-before (i + 2) (i + 1) n (firsts turns) (omega arith) far)
        ∙ ap (λ us. as_listed i x ∷ us) (pass-one (i + 1) n y xs (firsts turns) (subst (λ k. AreApart k (firsts turns) n) (sym z) far) ∙ ap (λ k. as_listed (i + 1) y ∷ pass (firsts turns) k xs) z)) in
        let first : slice_get ts p ≡ Some (as_listed i x) = (let z : p ≡ p + 0 = omega arith in ap (slice_get ts) z ∙ sym (get-dropped p ts 0) ∙ ap (λ (us : List Tagged). slice_get us 0) (at ∙ both)) in
        let here : moved i ≡ p = place i p (once-place ts p (as_listed i x) once (eq-eqb i i refl) first) in
        let is : v.index ≡ p = turn.3 ∙ ap moved e ∙ here in
        let z : p + 2 + length l ≡ p + length os = omega arith in
        let k : p + 2 ≡ v.index + v.remove = omega (arith, is, turn.2) in
        let there : Goes (later w v ∷ turns) p os i (x ∷ y ∷ xs) = (
          (omega (arith, is), subst (λ m. AreApart m (seconds turns) (p + length os)) k (subst (AreApart (p + 2) (seconds turns)) z more.0)),
          ap untagged (pass-change p _ _ (placed_in ts l) v (seconds turns) is turn.2) ∙ map-append _ v.events (pass (seconds turns) (p + 2) (placed_in ts l))
              ∙ (λ j. turn.4 j ++ more.1 j) ∙ sym (change-all w turns i x y xs e turn.0),
          subst (AllByRecursion IsBare) (sym (change-all w turns i x y xs e turn.0)) (every-append IsBare (untagged w.events) (untagged (pass (all_of turns) (i + 2) xs)) turn.1 more.2),
        ) in
        subst (λ (us : List Tagged). Goes (later w v ∷ turns) p us i (x ∷ y ∷ xs)) (sym both) there

    -- no room for a change
    no-room : (t : Turn) (turns : List Turn) (i n : ℕ) → IsTurn moved t → AreApart i (all_of (t ∷ turns)) n → n < i + 2 → ⊥
    no-room t turns i n turn apart l =
        let a : i ≤ (change_of t).index = apart.0 in
        let r = two moved t turn in
        let b = AreApart-le (all_of turns) ((change_of t).index + (change_of t).remove) n apart.1 in
        omega (arith, a, r, b, l)

    -- the first change is further on
    kept-case : (t : Turn) (turns : List Turn) (x y : Event) (xs : List Event) (i p : ℕ) → drop i events ≡ x ∷ y ∷ xs → drop p ts ≡ pass (firsts (t ∷ turns)) i (x ∷ y ∷ xs) → AreApart i (all_of (t ∷ turns)) (i + length (x ∷ y ∷ xs))
        → AreBareFrom (all_of (t ∷ turns)) i → i < (change_of t).index
        → (drop (p + 1) ts ≡ pass (firsts (t ∷ turns)) (i + 1) (y ∷ xs) → AreApart (i + 1) (all_of (t ∷ turns)) (i + 1 + length (y ∷ xs)) → AreBareFrom (all_of (t ∷ turns)) (i + 1)
        → Goes (t ∷ turns) (p + 1) (pass (firsts (t ∷ turns)) (i + 1) (y ∷ xs)) (i + 1) (y ∷ xs)) → Goes (t ∷ turns) p (pass (firsts (t ∷ turns)) i (x ∷ y ∷ xs)) i (x ∷ y ∷ xs)
    kept-case t turns x y xs i p at there apart bare below more =
        let all = t ∷ turns in
        let n : ℕ = i + length (x ∷ y ∷ xs) in
        let z : n ≡ i + 1 + length (y ∷ xs) = omega arith in
        let far : AreApart (i + 1) (all_of all) n = (omega (arith, below), apart.1) in
        let x_bare = bare i x (omega arith) (get-here i x (y ∷ xs) at) (is_removed-none (all_of all) (i + 1) n i far (omega arith)) in
        let one = there ∙ pass-one i n x (y ∷ xs) (firsts all) (firsts-apart (i + 1) n all far) in
        let next : drop (p + 1) ts ≡ pass (firsts all) (i + 1) (y ∷ xs) = sym (drop-drop 1 p ts) ∙ ap (drop 1) one in
        step-kept all i p n x (y ∷ xs) far x_bare (more next (subst (AreApart (i + 1) (all_of all)) z far) (λ m e l g r. bare m e (omega (arith, l)) g r))

    now-case : (w : Change) (turns : List Turn) (x y : Event) (xs : List Event) (i p : ℕ) → IsTurn moved (now w) → drop p ts ≡ pass (w ∷ firsts turns) i (x ∷ y ∷ xs) → AreApart i (w ∷ all_of turns) (i + length (x ∷ y ∷ xs)) → AreBareFrom (w ∷ all_of turns) i
        → w.index ≡ i
        → (drop (p + length w.events) ts ≡ pass (firsts turns) (i + 2) xs → AreApart (i + 2) (all_of turns) (i + 2 + length xs) → AreBareFrom (all_of turns) (i + 2) → Goes turns (p + length w.events) (pass (firsts turns) (i + 2) xs) (i + 2) xs)
        → Goes (now w ∷ turns) p (pass (w ∷ firsts turns) i (x ∷ y ∷ xs)) i (x ∷ y ∷ xs)
    now-case w turns x y xs i p turn there apart bare e more =
        let k : w.index + w.remove ≡ i + 2 = omega (arith, e, turn.0) in
        let z : i + length (x ∷ y ∷ xs) ≡ i + 2 + length xs = omega arith in
        let far : AreApart (i + 2) (all_of turns) (i + 2 + length xs) = subst (AreApart (i + 2) (all_of turns)) z (subst (λ m. AreApart m (all_of turns) (i + length (x ∷ y ∷ xs))) k apart.1) in
        let next : drop (p + length w.events) ts ≡ pass (firsts turns) (i + 2) xs =
        sym (drop-drop (length w.events) p ts) ∙ ap (drop (length w.events)) (there ∙ pass-change i x y xs w (firsts turns) e turn.0) ∙ drop-append_seam w.events (pass (firsts turns) (i + 2) xs) in
        step-now w turns i p x y xs e turn.0 turn.1 (more next far (bare-behind i w (all_of turns) e turn.0 bare))

    later-case : (w v : Change) (turns : List Turn) (x y : Event) (xs : List Event) (i p : ℕ) → IsTurn moved (later w v) → drop p ts ≡ pass (firsts turns) i (x ∷ y ∷ xs) → AreApart i (w ∷ all_of turns) (i + length (x ∷ y ∷ xs)) → AreBareFrom (w ∷ all_of turns) i
        → w.index ≡ i
        → (drop (p + 2) ts ≡ pass (firsts turns) (i + 2) xs → AreApart (i + 2) (all_of turns) (i + 2 + length xs) → AreBareFrom (all_of turns) (i + 2) → Goes turns (p + 2) (pass (firsts turns) (i + 2) xs) (i + 2) xs)
        → Goes (later w v ∷ turns) p (pass (firsts turns) i (x ∷ y ∷ xs)) i (x ∷ y ∷ xs)
    later-case w v turns x y xs i p turn there apart bare e more =
        let k : w.index + w.remove ≡ i + 2 = omega (arith, e, turn.0) in
        let n : ℕ = i + length (x ∷ y ∷ xs) in
        let z : n ≡ i + 2 + length xs = omega arith in
        let here : AreApart (i + 2) (all_of turns) n = subst (λ m. AreApart m (all_of turns) n) k apart.1 in
        let far = firsts-apart (i + 2) n turns here in
        let c : i + 1 + 1 ≡ i + 2 = omega arith in
        let one = pass-one i n x (y ∷ xs) (firsts turns) (apart-before (i + 2) (i + 1) n (firsts turns) (omega arith) far) in
        let other = pass-one (i + 1) n y xs (firsts turns) (subst (λ m. AreApart m (firsts turns) n) (sym c) far) in
        let next : drop (p + 2) ts ≡ pass (firsts turns) (i + 2) xs =
        sym (drop-drop 2 p ts) ∙ ap (drop 2) (there ∙ one) ∙ ap (drop 1) other ∙ ap (λ m. pass (firsts turns) m xs) c in
        step-later w v turns i p n x y xs e turn here there (more next (subst (AreApart (i + 2) (all_of turns)) z here) (bare-behind i w (all_of turns) e turn.0 bare))

    pub goes : (turns : List Turn) (xs : List Event) (i p : ℕ) → AllByRecursion (IsTurn moved) turns → drop i events ≡ xs → drop p ts ≡ pass (firsts turns) i xs → AreApart i (all_of turns) (i + length xs)
        → AreBareFrom (all_of turns) i → Goes turns p (pass (firsts turns) i xs) i xs
    goes [] xs i p h at there apart bare =
        let all = all-bare i xs at bare in
        let same : placed_in ts (olds i xs) ≡ xs = bare-placed ts (olds i xs) (subst (AllByRecursion IsBare) (sym (untagged-olds i xs)) all) ∙ untagged-olds i xs in
        (omega arith, ap (λ es. untagged (olds p es)) same ∙ untagged-olds p xs ∙ sym (untagged-olds i xs), subst (AllByRecursion IsBare) (sym (untagged-olds i xs)) all)
    goes (t ∷ turns) [] i p h at there apart bare = absurd (no-room t turns i (i + 0) h.0 apart (omega arith))
    goes (t ∷ turns) (x ∷ []) i p h at there apart bare = absurd (no-room t turns i (i + 1) h.0 apart (omega arith))
    goes (now w ∷ turns) (x ∷ y ∷ xs) i p h at there apart bare = elim (cases_order i w.index) [
      | inl same ↦ now-case w turns x y xs i p h.0 there apart bare (sym same) (λ next far left. goes turns xs (i + 2) (p + length w.events) h.1 (drop-both i x y xs at) next far left)
      | inr other ↦ elim other [
        | inl below ↦ kept-case (now w) turns x y xs i p at there apart bare below (λ next far left. goes (now w ∷ turns) (y ∷ xs) (i + 1) (p + 1) h (drop-here i x (y ∷ xs) at) next far left)
        | inr above ↦ absurd (let a : i ≤ w.index = apart.0 in omega (arith, a, above))
      ]
    ]
    goes (later w v ∷ turns) (x ∷ y ∷ xs) i p h at there apart bare = elim (cases_order i w.index) [
      | inl same ↦ later-case w v turns x y xs i p h.0 there apart bare (sym same) (λ next far left. goes turns xs (i + 2) (p + 2) h.1 (drop-both i x y xs at) next far left)
      | inr other ↦ elim other [
        | inl below ↦ kept-case (later w v) turns x y xs i p at there apart bare below (λ next far left. goes (later w v ∷ turns) (y ∷ xs) (i + 1) (p + 1) h (drop-here i x (y ∷ xs) at) next far left)
        | inr above ↦ absurd (let a : i ≤ w.index = apart.0 in omega (arith, a, above))
      ]
    ]
