-- After the chains of one content were read, a list is ready for the next content.
use Rattle.markdown_children.proofs.Prelude.{◌≡◌, ℕ, ◌<◌, List, [], ◌∷◌, Option, sym, subst, arith, AllByRecursion, Content, Event, IsVoidTight, Given, Text, begins, length, range_with_len, filter_passes, recursion_from_All, true, Rules, IsReady, fitting_starts, Child, lists, AreChildren, text_from, AllZip, CanBeReadNext, GoesOn, ReadsNext, GoesOnBy}
use Rattle.markdown_children.proofs.Parts.Staying.{chains-stay-ready}
use Rattle.markdown_children.proofs.Parts.Untorn.{none-torn}

module _ (g : Given) (next : Option Content) (events : List Event) where
  -- what each child is alone
  each-child : (P : List Event → Type 0) → ((text : Text) (child : List Event) → CanBeReadNext g next text child → P child) → (cs : List ℕ) (children : List (List Event))
      → AllZip (λ c child. CanBeReadNext g next (text_from g events c) child) cs children → AllByRecursion P children
  each-child P holds [] [] h = tt
  each-child P holds [] (x ∷ xs) h = absurd h
  each-child P holds (c ∷ cs) [] h = absurd h
  each-child P holds (c ∷ cs) (x ∷ xs) h = (holds (text_from g events c) x h.0, each-child P holds cs xs h.1)

pub goes-on : (g : Given) (wanted next : Option Content) (events : List Event) → GoesOn g wanted next events
goes-on g wanted next events document ready other gaps children can =
    let tab = document.tab.0 in
    let some : 0 < g.tab = omega (arith, tab) in
    let torn = none-torn g some wanted events ready next children gaps can in
    let kids = each-child g next events (IsReady g.tab g.bytes next) (λ text child h. h.ready) (fitting_starts wanted events) children can in
    record { ready = chains-stay-ready g.tab g.bytes wanted events ready next children other kids torn; none_torn = torn }

module _ {R D : Type 0} (g : Given) (rules : Given → Rules R D) (wanted next : Option Content) (events : List Event) (reads : ReadsNext g rules wanted next events) where
  -- each child can be read next
  all-read : (cs : List ℕ) (children : List Child) → AllByRecursion (λ c. begins wanted events c ≡ true) cs → AreChildren g rules events cs children
      → AllZip (λ c child. CanBeReadNext g next (text_from g events c) child) cs (lists children)
  all-read [] [] b h = tt
  all-read [] (x ∷ xs) b h = absurd h
  all-read (c ∷ cs) [] b h = absurd h
  all-read (c ∷ cs) (x ∷ xs) b h = (reads c x b.0 h.0, all-read cs xs b.1 h.1)

pub goes-on-by : {R D : Type 0} (g : Given) (rules : Given → Rules R D) (wanted next : Option Content) (events : List Event) → GoesOnBy g rules wanted next events
goes-on-by g rules wanted next events document ready other gaps reads new sub h =
    let starts = fitting_starts wanted events in
    let begin = recursion_from_All (λ c. begins wanted events c ≡ true) starts (filter_passes (begins wanted events) (range_with_len 0 (length events))) in
    let can = all-read g rules wanted next events reads starts h.children begin h.read in
    let on = goes-on g wanted next events document ready other gaps (lists h.children) can in
    let tight = each-child g next events IsVoidTight (λ text child c. c.tight) starts (lists h.children) can in
    (subst (IsReady g.tab g.bytes next) (sym h.events) on.ready, λ old. h.tight old tight on.none_torn)
