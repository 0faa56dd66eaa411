-- Void spans stay empty when children are put in, unless a part ends inside one.
--
-- An event of the list is followed by the same event as before, or by a part in place of a chunk, whose enter follows no void enter. An
-- event of a child is followed by the next one of its part. The last one of a part is followed by the next one of its child, if nothing is
-- between.
use Rattle.markdown_children.proofs.Prelude.{◌≡◌, ℕ, zero, suc, ◌+◌, ◌≤◌, true, List, [], ◌∷◌, ◌++◌, length, drop, Option, Some, refl, sym, ◌∙◌, ap, subst, arith, zero-add, slice_get, AllByRecursion, every-map, between, none-some, same_Some, Content, Event, Enter, Exit, is_void, relinked, IsVoidTight, drop-at, Tagged, Change, placed_end, placed_in, woven, pass, woven-pass, IsReady, LeadOnFrom, AreSpaced, EndsInVoidEnter, StandSideBySide, IsTornNowhere, NoneTorn, part_changes, child_changes, with_children}
use Rattle.markdown_children.proofs.ChainOrder.Following.{Fits, chunk, fits_next}
use Rattle.markdown_children.proofs.ChainOrder.Spaced.{changes_are_apart}
use Rattle.markdown_children.proofs.Parts.Kept.{joined, untagged, untagged-olds, after_changes, between-none, part_after, split-at, with_children_holds}

-- ---- tight lists

-- an event is followed by the exit of its name
abbrev ExitsAs : Event → Option Event → Type 0
ExitsAs e o = (f : Event) × (o ≡ Some f) × (f.kind ≡ Exit) × (f.name ≡ e.name)

-- if it enters a void name
abbrev IsFollowedBy : Event → Option Event → Type 0
IsFollowedBy e o = e.kind ≡ Enter → is_void e.name ≡ true → ExitsAs e o

-- the first events are tight where the others follow
abbrev IsTightBefore : List Event → List Event → Type 0
IsTightBefore [] ys = Unit {0}
IsTightBefore (e ∷ xs) ys = IsFollowedBy e (slice_get (xs ++ ys) 0) × IsTightBefore xs ys

abbrev IsTight : List Event → Type 0
IsTight [] = Unit {0}
IsTight (e ∷ xs) = IsFollowedBy e (slice_get xs 0) × IsTight xs

tight-split : (xs ys : List Event) → IsTight (xs ++ ys) → IsTightBefore xs ys × IsTight ys
tight-split [] ys h = (tt, h)
tight-split (e ∷ xs) ys h = let r = tight-split xs ys h.1 in ((h.0, r.0), r.1)

tight-join : (xs ys : List Event) → IsTightBefore xs ys → IsTight ys → IsTight (xs ++ ys)
tight-join [] ys h k = k
tight-join (e ∷ xs) ys h k = (h.0, tight-join xs ys h.1 k)

tight-drop : (k : ℕ) (xs : List Event) → IsTight xs → IsTight (drop k xs)
tight-drop zero xs h = h
tight-drop (suc k) [] h = tt
tight-drop (suc k) (x ∷ xs) h = tight-drop k xs h.1

-- what follows matters only behind a void enter
tight-moved : (xs ys zs : List Event) → IsTightBefore xs ys → (EndsInVoidEnter xs → slice_get ys 0 ≡ slice_get zs 0) → IsTightBefore xs zs
tight-moved [] ys zs h s = tt
tight-moved (e ∷ []) ys zs h s = ((λ enter void. subst (ExitsAs e) (s (enter, void)) (h.0 enter void)), tt)
tight-moved (e ∷ f ∷ xs) ys zs h s = (h.0, tight-moved (f ∷ xs) ys zs h.1 s)

last-exits : (xs ys : List Event) → IsTightBefore xs ys → EndsInVoidEnter xs → (e : Event) × ExitsAs e (slice_get ys 0)
last-exits [] ys h v = absurd v
last-exits (e ∷ []) ys h v = (e, h.0 v.0 v.1)
last-exits (e ∷ f ∷ xs) ys h v = last-exits (f ∷ xs) ys h.1 v

pub tight-from : (xs : List Event) → IsVoidTight xs → IsTight xs
tight-from [] h = tt
tight-from (e ∷ xs) h = (
  h 0 e refl,
  tight-from xs (λ k f at enter void. let r = h (suc k) f at enter void in (r.0, let z : suc k + 1 ≡ suc (k + 1) = omega arith in sym (ap (slice_get (e ∷ xs)) z) ∙ r.1, r.2, r.3)),
)

pub tight-to : (xs : List Event) → IsTight xs → IsVoidTight xs
tight-to [] h k f at = absurd (none-some f at)
tight-to (e ∷ xs) h zero f at =
    subst (λ (x : Event). x.kind ≡ Enter → is_void x.name ≡ true → (g : Event) × (slice_get (e ∷ xs) (0 + 1) ≡ Some g) × (g.kind ≡ Exit) × (g.name ≡ x.name)) (same_Some e f at)
    h.0
tight-to (e ∷ xs) h (suc k) f at = λ enter void.
    let r = tight-to xs h.1 k f at enter void in
    (r.0, let z : suc k + 1 ≡ suc (k + 1) = omega arith in ap (slice_get (e ∷ xs)) z ∙ r.1, r.2, r.3)

-- link ends do not matter
tight-placed : (ts us : List Tagged) → IsTight (untagged us) → IsTight (placed_in ts us)
tight-placed ts [] h = tt
tight-placed ts (u ∷ us) h = ((λ enter void. first us (h.0 enter void)), tight-placed ts us h.1)
  where
    first : (vs : List Tagged) → ExitsAs u.event (slice_get (untagged vs) 0) → ExitsAs u.event (slice_get (placed_in ts vs) 0)
    first [] r = absurd (none-some r.0 r.1)
    first (v ∷ vs) r =
        let same : r.0 ≡ v.event = sym (same_Some v.event r.0 r.1) in
        (relinked (placed_end ts v.identity) v.event, refl, ap (λ (x : Event). x.kind) (sym same) ∙ r.2, ap (λ (x : Event). x.name) (sym same) ∙ r.3)

-- ---- the chains of a list

module _ (tab : ℕ) (bytes : List ℕ) (wanted : Option Content) (events : List Event) (ready : IsReady tab bytes wanted events) (tight : IsTight events) where
  abbrev n : ℕ
  n = length events

  -- anything may follow the events before a chunk, as no void enter is directly before an enter
  before-chunk : (i k : ℕ) (zs : List Event) → i ≤ k → Fits wanted events k → IsTightBefore (between i k events) zs
  before-chunk i k zs l h =
      let c = chunk tab bytes wanted events ready k h in
      let split = tight-split (between i k events) (drop k events) (subst IsTight (split-at events i k l) (tight-drop i events tight)) in
      tight-moved (between i k events) (drop k events) zs split.0 (λ v.
      let l = last-exits (between i k events) (drop k events) split.0 v in
      let is = same_Some l.1.0 c.enter (sym l.1.1 ∙ ap (λ ys. slice_get ys 0) (drop-at events k c.enter c.enter_at)) in
      let no : Exit ≡ Enter = sym l.1.2 ∙ ap (λ (x : Event). x.kind) is ∙ c.linked.enter in
      absurd (cc))

  -- if chunks are adjacent, the child goes on behind the one at k
  goes-on : (c j k : ℕ) (ks : List ℕ) (ps : List (List Event)) (ws : List Change) (f : Event) → slice_get (joined ps) 0 ≡ Some f → length ks ≡ length ps → StandSideBySide k ks ps
      → slice_get (joined ps) 0 ≡ slice_get (after_changes events (part_changes c j ks ps ++ ws) (k + 2)) 0
  goes-on c j k [] [] ws f at e s = absurd (none-some f at)
  goes-on c j k (d ∷ ks) ([] ∷ ps) ws f at e s =
      let more = goes-on c (j + 0) d ks ps ws f at (omega arith) s.1 in
      let is : after_changes events (part_changes c j (d ∷ ks) ([] ∷ ps) ++ ws) (k + 2) ≡ after_changes events (part_changes c (j + 0) ks ps ++ ws) (d + 2) =
      part_after events c j (k + 2) d ks [] ps ws (omega (arith, s.0)) ∙ ap (λ ys. ys ++ after_changes events (part_changes c (j + 0) ks ps ++ ws) (d + 2)) (between-none events (k + 2) d s.0) in
      more ∙ ap (λ ys. slice_get ys 0) (sym is)
  goes-on c j k (d ∷ ks) ((x ∷ p) ∷ ps) ws f at e s =
      let rest : List Event = after_changes events (part_changes c (j + length (x ∷ p)) ks ps ++ ws) (d + 2) in
      let is : after_changes events (part_changes c j (d ∷ ks) ((x ∷ p) ∷ ps) ++ ws) (k + 2) ≡ (x ∷ p) ++ rest =
      part_after events c j (k + 2) d ks (x ∷ p) ps ws (omega (arith, s)) ∙ ap (λ ys. ys ++ ((x ∷ p) ++ rest)) (between-none events (k + 2) d s) in
      ap (λ ys. slice_get ys 0) (sym is)
  goes-on c j k ks ps ws f at e s = absurd (omega arith)

  -- a part, and all events behind the chunk at k
  parts-tight : (c j k : ℕ) (p : List Event) (ks more : List ℕ) (ps : List (List Event)) (ws : List Change) → Fits wanted events k → LeadOnFrom events k ks → length ks ≡ length ps → AreSpaced (k + 2) (ks ++ more) n
      → ((m : ℕ) → AreSpaced m more n → IsTight (after_changes events ws m)) → IsTight (p ++ joined ps) → IsTornNowhere (k ∷ ks) (p ∷ ps)
      → IsTight (p ++ after_changes events (part_changes c j ks ps ++ ws) (k + 2))
  parts-tight c j k p [] more [] ws h lead e sp rest t torn =
      let alone = (tight-split p [] t).0 in
      tight-join p (after_changes events ws (k + 2)) (tight-moved p [] (after_changes events ws (k + 2)) alone (λ v. let l = last-exits p [] alone v in absurd (none-some l.1.0 l.1.1))) (rest (k + 2) sp)
  parts-tight c j k p (d ∷ ks) more (q ∷ ps) ws h lead e sp rest t torn =
      let fit : Fits wanted events d = fits_next tab bytes wanted events ready k d h lead.0 in
      let both = tight-split p (q ++ joined ps) t in
      let behind : List Event = q ++ after_changes events (part_changes c (j + length q) ks ps ++ ws) (d + 2) in
      let tail : IsTight behind = parts-tight c (j + length q) d q ks more ps ws fit lead.2 (omega arith) sp.1 rest both.1 torn.1 in
      let all : IsTight (between (k + 2) d events ++ behind) = tight-join (between (k + 2) d events) behind (before-chunk (k + 2) d behind sp.0 fit) tail in
      let is : after_changes events (part_changes c j (d ∷ ks) (q ∷ ps) ++ ws) (k + 2) ≡ between (k + 2) d events ++ behind = part_after events c j (k + 2) d ks q ps ws sp.0 in
      tight-join p (after_changes events (part_changes c j (d ∷ ks) (q ∷ ps) ++ ws) (k + 2))
      (tight-moved p (q ++ joined ps) (after_changes events (part_changes c j (d ∷ ks) (q ∷ ps) ++ ws) (k + 2)) both.0
      (λ v. let l = last-exits p (q ++ joined ps) both.0 v in goes-on c j k (d ∷ ks) (q ∷ ps) ws l.1.0 l.1.1 e (torn.0 v)))
      (subst IsTight (sym is) all)
  parts-tight c j k p ks more ps ws h lead e sp rest t torn = absurd (omega arith)

  one_chain : (c i : ℕ) (ks more : List ℕ) (ps : List (List Event)) (ws : List Change) → Fits wanted events c → LeadOnFrom events c ks → length (c ∷ ks) ≡ length ps → IsTight (joined ps) → IsTornNowhere (c ∷ ks) ps
      → AreSpaced i (c ∷ (ks ++ more)) n → ((m : ℕ) → AreSpaced m more n → IsTight (after_changes events ws m)) → IsTight (after_changes events (part_changes c 0 (c ∷ ks) ps ++ ws) i)
  one_chain c i ks more [] ws h lead e t torn sp rest = absurd (omega arith)
  one_chain c i ks more (p ∷ ps) ws h lead e t torn sp rest =
      let behind : List Event = p ++ after_changes events (part_changes c (0 + length p) ks ps ++ ws) (c + 2) in
      subst IsTight (sym (part_after events c 0 i c ks p ps ws sp.0))
      (tight-join (between i c events) behind (before-chunk i c behind sp.0 h) (parts-tight c (0 + length p) c p ks more ps ws h lead (omega arith) sp.1 rest t torn))

pub with_children_tight : (tab : ℕ) (bytes : List ℕ) (wanted : Option Content) (events : List Event) (children : List (List Event)) → IsReady tab bytes wanted events → IsVoidTight events → AllByRecursion IsVoidTight children
    → NoneTorn wanted events children → IsVoidTight (with_children wanted events children)
with_children_tight tab bytes wanted events children ready tight bs torn =
    let ws : List Change = child_changes wanted events children in
    let old = tight-from events tight in
    let new : IsTight (untagged (pass ws 0 events)) =
    with_children_holds tab bytes wanted events ready (λ vs i. IsTight (after_changes events vs i)) IsTight IsTornNowhere
    (λ i. subst IsTight (sym (untagged-olds i (drop i events))) (tight-drop i events old))
    (one_chain tab bytes wanted events ready old) children (every-map IsVoidTight IsTight tight-from children bs) torn in
    tight-to (with_children wanted events children)
    (tight-placed (woven ws 0 events) (woven ws 0 events)
    (subst (λ (ts : List Tagged). IsTight (untagged ts)) (sym (woven-pass ws 0 events (rw zero-add (changes_are_apart tab bytes wanted events children ready).apart))) new))
