-- With children a list has text, or no events, between two linked chunks, if the list and each child by itself have.
--
-- Two events of a child that follow one another stand side by side in the new list, or are in parts of different chunks. Then the first is at or
-- before the end of a chunk, and the second is behind it.
use Rattle.markdown_base.proofs.Common.{every-get}
use Rattle.markdown_base.proofs.Facts.Lists.{get-dropped}
use Rattle.markdown_base.specs.Events.{relinked}
use Rattle.markdown_base.specs.Places.{stands_before}
use Rattle.markdown_base.specs.Virtual.{point}
use Rattle.markdown_base.specs.declared.event.Content.{Content}
use Rattle.markdown_base.specs.declared.event.Event.{Event}
use Rattle.markdown_base.specs.declared.event.Point.{Point}
use Rattle.markdown_children.specs.Chains.{content_at, some_fits, fits, fitting_starts, chain_of}
use Rattle.markdown_children.specs.Children.{first_chunk, part_changes, chain_changes, child_changes}
use Rattle.markdown_children.specs.LawStatements.{LeadOnFrom, IsWholeFrom, IsTornNowhere, NoneTorn}
use Rattle.markdown_children.specs.NextContent.{HasTextInGaps}
use Rattle.markdown_children.specs.Parts.{parts, divided_over, total, child_place, front_until, Divided}
use Rattle.markdown_children.specs.Ready.{IsChunk, IsReady, place_at}
use Rattle.markdown_edits.proofs.Edits.Passes.{pass, woven-pass, AreApart}
use Rattle.markdown_edits.proofs.Edits.Splices.{same_shift}
use Rattle.markdown_edits.specs.Links.{next_of, content_of}
use Rattle.markdown_edits.specs.Woven.{of_list, of_child, of_addition, Identity, Tagged, Change, is_same, place_in, placed_end}
use Rattle.markdown_tokenizer.specs.Plain.{HaveNoLinks}
use Rattle.std.proofs.Common.{◌≡◌, ◌⊎◌, ℕ, zero, suc, ◌+◌, ◌-◌, ◌*◌, ◌<◌, ◌≤◌, inl, inr, Bool, true, false, eqb, List, [], ◌∷◌, ◌++◌, length, map, drop, Option, Some, refl, sym, ◌∙◌, ap, subst, arith, zero-add, eqb-true}
use Rattle.std.proofs.lemmas.Bool.{eq-eqb, lt-ltb, le-ltb, ltb-true, ltb-false, not-true, not-false}
use Rattle.std.proofs.lemmas.Option.{slice_get_within, slice_get-map, none-some, same_Some}
use Rattle.std.specs.List.{range_with_len, AllByRecursion, take_while}
use Rattle.std.specs.Option.{option_map, option_and_then}
use Rattle.std.specs.Prelude.{not, nat_lt, slice_get, flat_map, unwrap_or}
use Rattle.markdown_tokenizer.proofs.Positions.Order.{upto-before}
use Rattle.markdown_children.proofs.ChainOrder.Following.{by_test, by_option, starts_fit, follow_one_another}
use Rattle.markdown_children.proofs.ChainOrder.Spaced.{length-parts, length-map_ends, changes_are_apart}
use Rattle.markdown_children.proofs.Parts.Edits.{total-joined}
use Rattle.markdown_children.proofs.Parts.InShape.{source, IsSourced, child-all, child_at, all-sourced, all-once}
use Rattle.markdown_children.proofs.Parts.Kept.{joined-parts}
use Rattle.markdown_children.proofs.Parts.Once.{once-place}
use Rattle.markdown_children.proofs.Parts.Placed.{change_place, change_place-behind, change_place-chain, change_place-pass}
use Rattle.markdown_children.proofs.Parts.Staying.{IsOrigin, child, kept-content, child-origin, far, kept-next, kept-place, linked-content, list-origin, new, no-content, ts}
use Rattle.markdown_children.proofs.Parts.Untorn.{front-more, front-none, fails-next}
use Rattle.markdown_children.proofs.Parts.Weaves.{AreCutNowhere}

-- no chunk of this content is linked to a next one
abbrev pub HasLoneChunks : Option Content → List Event → Type 0
HasLoneChunks wanted events = (k d : ℕ) → fits wanted events k ≡ true → next_of events k ≡ Some d → ⊥

-- so it is where no event has a link
pub alone-lone : (wanted : Option Content) (events : List Event) → HaveNoLinks events → HasLoneChunks wanted events
alone-lone wanted events h k d fit e = let c = linked-content (slice_get events k) d e in none-some c.0 (sym (no-content events h k) ∙ c.1)

-- and then no chunks tear a span of their child
module _ (tab : ℕ) (bytes : List ℕ) (wanted : Option Content) (events : List Event) (ready : IsReady tab bytes wanted events) (lone : HasLoneChunks wanted events) where
  one-chunk : (c : ℕ) (ks : List ℕ) (x : List Event) → fits wanted events c ≡ true → LeadOnFrom events c ks → IsTornNowhere (c ∷ ks) (parts (map (λ k. place_at events (k + 1)) (c ∷ ks)) x)
  one-chunk c [] x h lead = ((λ v. tt), tt)
  one-chunk c (d ∷ ks) x h lead = absurd (lone c d h lead.0)

  lone-chains : (cs : List ℕ) (children : List (List Event)) → AllByRecursion (λ k. fits wanted events k ≡ true) cs → AllByRecursion (IsWholeFrom events) cs
      → AllByRecursion (λ (d : Divided). IsTornNowhere d.chunks d.parts) (divided_over events cs children)
  lone-chains [] children fs wh = tt
  lone-chains (c ∷ cs) [] fs wh = tt
  lone-chains (c ∷ cs) (x ∷ children) fs wh =
      (subst (λ (ys : List ℕ). IsTornNowhere ys (parts (map (λ k. place_at events (k + 1)) ys) x)) (sym wh.0.1) (one-chunk c wh.0.0 x fs.0 wh.0.2), lone-chains cs children fs.1 wh.1)

  pub lone-untorn : (children : List (List Event)) → NoneTorn wanted events children
  lone-untorn children =
      lone-chains (fitting_starts wanted events) children (starts_fit tab bytes wanted events ready (range_with_len 0 (length events))) (follow_one_another tab bytes wanted events ready).whole

-- a leading event passes the test
leading : (test : Event → Bool) (es : List Event) (n : ℕ) (e : Event) → n < length (take_while test es) → slice_get es n ≡ Some e → test e ≡ true
leading test [] n e l at = absurd (none-some e at)
leading test (x ∷ es) zero e l at = by_test (test x)
    (λ t. ap test (sym (same_Some x e at)) ∙ t)
    (λ t. let none = ap length (front-none test x es t) in absurd (omega (arith, none, l)))
leading test (x ∷ es) (suc n) e l at = by_test (test x)
    (λ t. let more = ap length (front-more test x es t) in leading test es n e (omega (arith, more, l)) at)
    (λ t. let none = ap length (front-none test x es t) in absurd (omega (arith, none, l)))

-- side by side, or one before the other
abbrev IsNear : (e f : Event) (p q : ℕ) → Type 0
IsNear e f p q = (q ≡ p + 1) ⊎ (stands_before e.point f.point ≡ true)

module _ (events : List Event) where
  abbrev ends_of : List ℕ → List Point
  ends_of ks = map (λ k. place_at events (k + 1)) ks

  -- two events of a chain's child
  near-parts : (ks : List ℕ) (es : List Event) (removed added n p q : ℕ) (e f : Event) → slice_get es n ≡ Some e → slice_get es (n + 1) ≡ Some f
      → child_place ks (parts (ends_of ks) es) removed added n ≡ Some p → child_place ks (parts (ends_of ks) es) removed added (n + 1) ≡ Some q → IsNear e f p q
  near-parts [] es removed added n p q e f at_e at_f here there = absurd (none-some p here)
  near-parts (k ∷ []) es removed added n p q e f at_e at_f here there =
      let l : n + 1 < length es = slice_get_within es (n + 1) f at_f in
      let is_p : k - removed + added + n ≡ p = same_Some (k - removed + added + n) p (rw (lt-ltb n (length es) (omega (arith, l))) at here) in
      let is_q : k - removed + added + (n + 1) ≡ q = same_Some (k - removed + added + (n + 1)) q (rw (lt-ltb (n + 1) (length es) l) at there) in
      inl (omega (arith, is_p, is_q))
  near-parts (k ∷ d ∷ ks) es removed added n p q e f at_e at_f here there =
      let end = place_at events (k + 1) in
      let test : Event → Bool = λ x. not (stands_before end x.point) in
      let front = front_until end es in
      let r : ℕ = length front in
      by_test (nat_lt n r)
      (λ a. by_test (nat_lt (n + 1) r)
      (λ b.
      let is_p : k - removed + added + n ≡ p = same_Some (k - removed + added + n) p (rw a at here) in
      let is_q : k - removed + added + (n + 1) ≡ q = same_Some (k - removed + added + (n + 1)) q (rw b at there) in
      inl (omega (arith, is_p, is_q)))
      (λ b.
      let low : n < r = ltb-true n r a in
      let high : r ≤ n + 1 = ltb-false (n + 1) r b in
      let z : r + 0 ≡ n + 1 = omega (arith, low, high) in
      let first : slice_get (drop r es) 0 ≡ Some f = get-dropped r es 0 ∙ ap (slice_get es) z ∙ at_f in
      let before = not-true (stands_before end e.point) (leading test es n e low at_e) in
      let behind = not-false (stands_before end f.point) (fails-next test es f first) in
      inr (upto-before e.point.index e.point.vs end.index end.vs f.point.index f.point.vs before behind)))
      (λ a.
      let low : r ≤ n = ltb-false n r a in
      let b : nat_lt (n + 1) r ≡ false = le-ltb (n + 1) r (omega (arith, low)) in
      let ze : r + (n - r) ≡ n = omega (arith, low) in
      let zf : r + (n - r + 1) ≡ n + 1 = omega (arith, low) in
      let y : n + 1 - r ≡ n - r + 1 = omega (arith, low) in
      near-parts (d ∷ ks) (drop r es) (removed + 2) (added + r) (n - r) p q e f
      (get-dropped r es (n - r) ∙ ap (slice_get es) ze ∙ at_e)
      (get-dropped r es (n - r + 1) ∙ ap (slice_get es) zf ∙ at_f)
      (rw a at here)
      (ap (child_place (d ∷ ks) (parts (ends_of (d ∷ ks)) (drop r es)) (removed + 2) (added + r)) (sym y) ∙ rw b at there))

  -- two events of one of the children
  near-chains : (cs : List ℕ) (children : List (List Event)) → AllByRecursion (IsWholeFrom events) cs → (c removed added n p q : ℕ) (e f : Event) → slice_get (child_at cs children c) n ≡ Some e
      → slice_get (child_at cs children c) (n + 1) ≡ Some f → let us = flat_map chain_changes (divided_over events cs children) in
      change_place (of_child c n) us removed added ≡ Some p → change_place (of_child c (n + 1)) us removed added ≡ Some q → IsNear e f p q
  near-chains [] children wh c removed added n p q e f at_e at_f here there = absurd (none-some e at_e)
  near-chains (d ∷ cs) [] wh c removed added n p q e f at_e at_f here there = absurd (none-some e at_e)
  near-chains (d ∷ cs) (x ∷ children) wh c removed added n p q e f at_e at_f here there =
      let ks = wh.0.0 in
      let is : chain_of events d ≡ d ∷ ks = wh.0.1 in
      let ps : List (List Event) = parts (ends_of (d ∷ ks)) x in
      let us : List Change = flat_map chain_changes (divided_over events cs children) in
      let many : length (d ∷ ks) ≡ length ps = sym (length-parts (ends_of (d ∷ ks)) x ∙ length-map_ends events (d ∷ ks)) in
      let all : total ps ≡ length x = total-joined ps ∙ ap length (joined-parts (place_at events (d + 1)) (ends_of ks) x) in
      let to : (m r : ℕ) → change_place (of_child c m) (flat_map chain_changes (divided_over events (d ∷ cs) (x ∷ children))) removed added ≡ Some r
      → change_place (of_child c m) (part_changes d 0 (d ∷ ks) ps ++ us) removed added ≡ Some r =
      λ m r h. subst (λ (ys : List ℕ). change_place (of_child c m) (part_changes (first_chunk ys) 0 ys (parts (ends_of ys) x) ++ us) removed added ≡ Some r) is h in
      by_test (eqb c d)
      (λ same.
      let whole : child_at (d ∷ cs) (x ∷ children) c ≡ x = rw same refl in
      let at_d : c ≡ d = eqb-true c d same in
      let e_there : slice_get x n ≡ Some e = ap (λ es. slice_get es n) (sym whole) ∙ at_e in
      let f_there : slice_get x (n + 1) ≡ Some f = ap (λ es. slice_get es (n + 1)) (sym whole) ∙ at_f in
      let l = slice_get_within x (n + 1) f f_there in
      let by : (m r : ℕ) → m < total ps → change_place (of_child c m) (part_changes d 0 (d ∷ ks) ps ++ us) removed added ≡ Some r → child_place (d ∷ ks) ps removed added m ≡ Some r =
      λ m r low h. sym (change_place-chain d 0 (d ∷ ks) ps us m removed added many low) ∙ ap (λ k. change_place (of_child d k) (part_changes d 0 (d ∷ ks) ps ++ us) removed added) (zero-add m)
      ∙ ap (λ b. change_place (of_child b m) (part_changes d 0 (d ∷ ks) ps ++ us) removed added) (sym at_d) ∙ h in
      near-parts (d ∷ ks) x removed added n p q e f e_there f_there (by n p (omega (arith, all, l)) (to n p here)) (by (n + 1) q (omega (arith, all, l)) (to (n + 1) q there)))
      (λ other.
      let others : child_at (d ∷ cs) (x ∷ children) c ≡ child_at cs children c = rw other refl in
      let apart : c ≡ d → ⊥ = λ s. let no : true ≡ false = sym (eq-eqb c d s) ∙ other in absurd (cc) in
      let by : (m r : ℕ) → change_place (of_child c m) (part_changes d 0 (d ∷ ks) ps ++ us) removed added ≡ Some r
      → change_place (of_child c m) us (removed + 2 * length (d ∷ ks)) (added + total ps) ≡ Some r =
      λ m r h. sym (change_place-behind c d m 0 (d ∷ ks) ps us removed added apart many) ∙ h in
      near-chains cs children wh.1 c (removed + 2 * length (d ∷ ks)) (added + total ps) n p q e f
      (ap (λ es. slice_get es n) (sym others) ∙ at_e) (ap (λ es. slice_get es (n + 1)) (sym others) ∙ at_f) (by n p (to n p here)) (by (n + 1) q (to (n + 1) q there)))

module _ (tab : ℕ) (bytes : List ℕ) (wanted : Option Content) (events : List Event) (ready : IsReady tab bytes wanted events) (children : List (List Event)) where
  abbrev named : List Tagged
  named = ts tab bytes wanted events ready children

  abbrev made : List Event
  made = new tab bytes wanted events ready children

  abbrev kid : ℕ → List Event
  kid = child tab bytes wanted events ready children

  -- the place of a child's event, by the changes before it
  place-is : (c n : ℕ) → place_in (of_child c n) named ≡ change_place (of_child c n) (child_changes wanted events children) 0 0
  place-is c n =
      let us = child_changes wanted events children in
      let apart : AreApart 0 us (0 + length events) = rw zero-add (changes_are_apart tab bytes wanted events children ready).apart in
      ap (place_in (of_child c n)) (woven-pass us 0 events apart) ∙ sym (same_shift (place_in (of_child c n) (pass us 0 events))) ∙ change_place-pass us c n 0 0 0 events apart (omega arith)

  near : (c n p q : ℕ) (e f : Event) → slice_get (kid c) n ≡ Some e → slice_get (kid c) (n + 1) ≡ Some f → place_in (of_child c n) named ≡ Some p → place_in (of_child c (n + 1)) named ≡ Some q → IsNear e f p q
  near c n p q e f at_e at_f here there =
      near-chains events (fitting_starts wanted events) children (follow_one_another tab bytes wanted events ready).whole c 0 0 n p q e f at_e at_f (sym (place-is c n) ∙ here) (sym (place-is c (n + 1)) ∙ there)

  -- Where an event of the new list comes from: the list, or a child
  data Comes (p : ℕ) : Type 0 where
    listed : (n : ℕ) → place_in (of_list n) named ≡ Some p → Comes p
    of_one : (c n : ℕ) → place_in (of_child c n) named ≡ Some p → Comes p

  comes : (p q : ℕ) → next_of made p ≡ Some q → Comes p
  comes p q e =
      let placed_event : Tagged → Event = λ u. relinked (placed_end named u.identity) u.event in
      let c = linked-content (slice_get made p) q e in
      by_option (slice_get named p)
      (λ f. absurd (none-some c.0 (sym (ap (option_and_then content_of) (slice_get-map placed_event named p ∙ ap (option_map placed_event) f)) ∙ c.1)))
      (λ u f. by u f u.identity refl)
    where
      placed-at : (u : Tagged) → slice_get (ts tab bytes wanted events ready children) p ≡ Some u → (b : Identity) → u.identity ≡ b → is_same b b ≡ true → place_in b (ts tab bytes wanted events ready children) ≡ Some p
      placed-at u f b same self =
          let there = once-place (ts tab bytes wanted events ready children) p u (all-once tab bytes wanted events ready children) (ap (λ a. is_same a a) same ∙ self) f in
          ap (λ a. place_in a (ts tab bytes wanted events ready children)) (sym same) ∙ there

      by : (u : Tagged) → slice_get (ts tab bytes wanted events ready children) p ≡ Some u → (b : Identity) → u.identity ≡ b → Comes p
      by u f (of_list n) same = listed n (placed-at u f (of_list n) same (eq-eqb n n refl))
      by u f (of_child d j) same =
          let self : is_same (of_child d j) (of_child d j) ≡ true = let a : eqb d d ≡ true = eq-eqb d d refl in let b : eqb j j ≡ true = eq-eqb j j refl in rw (a, b) refl in
          of_one d j (placed-at u f (of_child d j) same self)
      by u f of_addition same =
          let from = every-get (IsSourced (child tab bytes wanted events ready children) events) (ts tab bytes wanted events ready children) p u (all-sourced tab bytes wanted events ready children) f in
          absurd (none-some u.event (ap (source (child tab bytes wanted events ready children) events) (sym same) ∙ from))

  module _ (next : Option Content) (other : IsReady tab bytes next events) (kids : AllByRecursion (IsReady tab bytes next) children)
      (cut : AreCutNowhere tab bytes wanted events ready (fitting_starts wanted events) children) where
    -- text between two chunks of the list they come from is between them in the new list
    text-kept : (name : ℕ → Identity) (list : List Event) (origin : IsOrigin tab bytes wanted events ready children next name list) (n m p q : ℕ) → IsChunk list n → place_in (name n) named ≡ Some p → place_in (name m) named ≡ Some q
        → stands_before (place_at list (n + 1)) (place_at list m) ≡ true → stands_before (place_at made (p + 1)) (place_at made q) ≡ true
    text-kept name list origin n m p q chunk at_n at_m h =
        let here = kept-place tab bytes wanted events ready children next other kids cut name list origin (n + 1) (p + 1) (origin.exit n p chunk at_n) in
        let there = kept-place tab bytes wanted events ready children next other kids cut name list origin m q at_m in
        (λ i. stands_before (here i) (there i)) ∙ h

    chunk-there : (list : List Event) → IsReady tab bytes next list → (n m : ℕ) → next_of list n ≡ Some m → (c : Content) × (content_at list n ≡ Some c) × IsChunk list n × IsChunk list m
    chunk-there list r n m e =
        let c = linked-content (slice_get list n) m e in
        (c.0, c.1, r.chunks n c.0 c.1, r.chunks m c.0 (sym (r.one_content n m e) ∙ c.1))

    -- what fits in the new list fits in the list it comes from
    fits-there : (name : ℕ → Identity) (list : List Event) (origin : IsOrigin tab bytes wanted events ready children next name list) (n p : ℕ) → place_in (name n) named ≡ Some p → fits next made p ≡ true → fits next list n ≡ true
    fits-there name list origin n p at h = ap (some_fits next) (sym (kept-content tab bytes wanted events ready children next other kids cut name list origin n p at)) ∙ h

    pub text-in-gaps : HasTextInGaps next events → AllByRecursion (HasTextInGaps next) children → HasTextInGaps next made
    text-in-gaps gaps each p q fit e = elim (comes p q e) [
      | listed n at ↦
          (let origin = list-origin tab bytes wanted events ready children next other kids cut in
          let there = kept-next tab bytes wanted events ready children next other kids cut of_list events origin n p q at e in
          let m = there.0 in
          let both = chunk-there events other n m there.1 in
          let here = fits-there of_list events origin n p at fit in
          elim (gaps n m here there.1) [
            | inl s ↦
                (let z = far tab bytes wanted events ready children n m p q both.2 both.3 (other.gaps n m here there.1) (other.forward n m there.1) at there.2 in
                inl (omega (arith, z, s)))
            | inr before ↦ inr (text-kept of_list events origin n m p q both.2 at there.2 before)
          ])
      | of_one c n at ↦
          (let origin = child-origin tab bytes wanted events ready children next other kids cut c in
          let list = kid c in
          let there = kept-next tab bytes wanted events ready children next other kids cut (of_child c) list origin n p q at e in
          let m = there.0 in
          let both = chunk-there list origin.is_ready n m there.1 in
          let here = fits-there (of_child c) list origin n p at fit in
          let own : HasTextInGaps next list = child-all (HasTextInGaps next) (λ k d f e. absurd (none-some d e)) (fitting_starts wanted events) children each c in
          elim (own n m here there.1) [
            | inl s ↦
                (let first = both.2 in
                let last = both.3 in
                let exit = origin.exit n p first at in
                let z : m ≡ n + 1 + 1 = omega (arith, s) in
                let enter_at : slice_get list (n + 1 + 1) ≡ Some last.enter = ap (slice_get list) (sym z) ∙ last.enter_at in
                let place_m : place_in (of_child c (n + 1 + 1)) named ≡ Some q = ap (λ k. place_in (of_child c k) named) (sym z) ∙ there.2 in
                elim (near c (n + 1) (p + 1) q first.exit last.enter first.exit_at enter_at exit place_m) [
                  | inl one ↦ inl (omega (arith, one))
                  | inr before ↦
                      (let from = ap (λ o. unwrap_or (option_map (λ (x : Event). x.point) o) (point 1 1 0 0)) first.exit_at in
                      let to = ap (λ o. unwrap_or (option_map (λ (x : Event). x.point) o) (point 1 1 0 0)) last.enter_at in
                      inr (text-kept (of_child c) list origin n m p q first at there.2 ((λ i. stands_before (from i) (to i)) ∙ before)))
                ])
            | inr before ↦ inr (text-kept (of_child c) list origin n m p q both.2 at there.2 before)
          ])
    ]

    pub stay-lone : HasLoneChunks next events → AllByRecursion (HasLoneChunks next) children → HasLoneChunks next made
    stay-lone lone each p q fit e = elim (comes p q e) [
      | listed n at ↦
          (let origin = list-origin tab bytes wanted events ready children next other kids cut in
          let there = kept-next tab bytes wanted events ready children next other kids cut of_list events origin n p q at e in
          lone n there.0 (fits-there of_list events origin n p at fit) there.1)
      | of_one c n at ↦
          (let origin = child-origin tab bytes wanted events ready children next other kids cut c in
          let list = kid c in
          let there = kept-next tab bytes wanted events ready children next other kids cut (of_child c) list origin n p q at e in
          let own : HasLoneChunks next list = child-all (HasLoneChunks next) (λ k d f e. absurd (none-some d e)) (fitting_starts wanted events) children each c in
          own n there.0 (fits-there (of_child c) list origin n p at fit) there.1)
    ]
