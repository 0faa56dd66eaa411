-- The chains of a ready list that fit go forward, and the edits of one of them.
use Rattle.markdown_children.proofs.Prelude.{◌≡◌, ℕ, ◌+◌, ◌<◌, ◌≤◌, true, List, [], ◌∷◌, ◌++◌, length, Option, Some, refl, sym, ◌∙◌, ap, subst, arith, append-nil, All, slice_index_or, is_none, option_and_then, AllByRecursion, slice_get-get_or, Content, Event, EndsBelow, Edit, AreDisjoint, previous_of, chain_of, fits, begins, IsReady, LeadOnFrom, AreSpaced, divided, chain_edits, IsForward, and_parts, link_at}
use Rattle.markdown_children.proofs.ChainOrder.Following.{Fits, by_option, inside, apart, fits_next, whole-from}
use Rattle.markdown_children.proofs.Parts.Edits.{all_edits-spaced}
use Rattle.markdown_children.proofs.Ready.Tests.{link_next, read-at, link_previous, with-read, inside-link}

module _ (tab : ℕ) (bytes : List ℕ) (wanted : Option Content) (events : List Event) (ready : IsReady tab bytes wanted events) where
  pub begins-fits : (i : ℕ) → begins wanted events i ≡ true → Fits wanted events i
  begins-fits i b = (and_parts (fits wanted events i) (is_none (previous_of events i)) b).0

  pub within : (i : ℕ) → begins wanted events i ≡ true → i + 1 < length events
  within i b = inside tab bytes wanted events ready i (begins-fits i b)

  is-forward : (k : ℕ) → Fits wanted events k → IsForward events k
  is-forward k h = record {
    within = inside tab bytes wanted events ready k h;
    next = λ d e.
        let fit = fits_next tab bytes wanted events ready k d h e in
        (apart tab bytes wanted events ready k d h fit (ready.forward k d e), inside tab bytes wanted events ready d fit);
  }

  forward-all : (k : ℕ) (ks : List ℕ) → Fits wanted events k → LeadOnFrom events k ks → AllByRecursion (IsForward events) (k ∷ ks)
  forward-all k [] h lead = (is-forward k h, tt)
  forward-all k (d ∷ ks) h lead = (is-forward k h, forward-all d ks (fits_next tab bytes wanted events ready k d h lead.0) lead.2)

  pub forward-chain : (i : ℕ) → begins wanted events i ≡ true → AllByRecursion (IsForward events) (chain_of events i)
  forward-chain i b =
      let w = whole-from tab bytes wanted events ready i (begins-fits i b) in
      subst (AllByRecursion (IsForward events)) (sym w.1) (forward-all i w.0 (begins-fits i b) w.2)

  -- link ends lie inside a list with mutual chains
  pub ends-inside : All (EndsBelow (length events)) events
  ends-inside k d l =
      let x : Event = slice_index_or events k d in
      by_option x.link (λ e. rw e tt) (λ m e.
      let here : link_at events k ≡ Some m = ap (option_and_then (λ (y : Event). y.link)) (slice_get-get_or events k d l) ∙ e in
      rw e (
        by_option m.previous (λ f. rw f tt) (λ j f.
            let b = with-read link_next refl events j k ((ready.joined j k).1 (read-at link_previous refl events k m here ∙ f)) in
            rw f (inside-link events j b.0 b.1)),
        by_option m.next (λ f. rw f tt) (λ j f.
            let b = with-read link_previous refl events j k ((ready.joined k j).0 (read-at link_next refl events k m here ∙ f)) in
            rw f (inside-link events j b.0 b.1)),
      ))

  -- ---- one chain

  lead-spaced : (from k : ℕ) (ks : List ℕ) → from ≤ k → AllByRecursion (IsForward events) (k ∷ ks) → LeadOnFrom events k ks → AreSpaced from (k ∷ ks) (length events)
  lead-spaced from k [] h f lead = (h, let w = f.0.within in omega arith)
  lead-spaced from k (d ∷ ks) h f lead = (h, lead-spaced (k + 2) d ks (f.0.next d lead.0).0 f.1 lead.2)

  -- the edits of one chain are disjoint and inside the list
  pub one-chain-disjoint : (i removed added : ℕ) → begins wanted events i ≡ true → (child : List Event) → AreDisjoint 0 (chain_edits removed added (divided events i child)) (length events)
  one-chain-disjoint i removed added b child =
      let w = whole-from tab bytes wanted events ready i (begins-fits i b) in
      let spaced : AreSpaced 0 (chain_of events i ++ []) (length events) =
      subst (λ ks. AreSpaced 0 ks (length events)) (sym (append-nil (chain_of events i) ∙ w.1))
      (lead-spaced 0 i w.0 (omega arith) (forward-all i w.0 (begins-fits i b) w.2) w.2) in
      subst (λ (es : List Edit). AreDisjoint 0 es (length events)) (append-nil (chain_edits removed added (divided events i child)))
      (all_edits-spaced events (i ∷ []) (child ∷ []) removed added 0 (length events) spaced).0
