-- What children remove of a list: each chunk that fits, and nothing else; and where events with links come from.
use Rattle.std.proofs.Common.{◌≡◌, ◌⊎◌, ℕ, ◌+◌, ◌<◌, ◌≤◌, inl, inr, false, true, List, [], ◌∷◌, ◌++◌, length, Option, Some, refl, sym, ◌∙◌, ap, subst, arith}
use Rattle.std.proofs.lemmas.Bool.{cases_order, eq-eqb, or_left, or_right, le-leb, le-ltb, lt-leb, lt-ltb}
use Rattle.std.proofs.lemmas.Option.{none-some, slice_get-map}
use Rattle.std.specs.Cmp.Derive.{both_true}
use Rattle.std.specs.List.{AllByRecursion}
use Rattle.std.specs.Option.{option_and_then, option_map}
use Rattle.std.specs.Prelude.{◌&&◌, ◌||◌, nat_le, nat_lt, flat_map, slice_get}
use Rattle.markdown_base.proofs.Common.{every-get, every-map}
use Rattle.markdown_base.specs.Events.{relinked}
use Rattle.markdown_base.specs.declared.event.Content.{Content}
use Rattle.markdown_base.specs.declared.event.Event.{Event}
use Rattle.markdown_edits.specs.Links.{content_of}
use Rattle.markdown_edits.specs.Woven.{Change, Identity, Tagged, is_removed, is_same, of_addition, of_child, of_list, place_in, placed_end}
use Rattle.markdown_children.specs.Chains.{chain_of, content_at, fits, fitting_starts}
use Rattle.markdown_children.specs.Children.{chain_changes, child_changes, first_chunk, part_changes}
use Rattle.markdown_children.specs.Parts.{divided, divided_over}
use Rattle.markdown_children.specs.Ready.{IsReady}
use Rattle.markdown_children.proofs.ChainOrder.Following.{by_option, follow_one_another, inside}
use Rattle.markdown_children.proofs.ChainOrder.Spaced.{divided-parts}
use Rattle.markdown_children.proofs.Parts.InShape.{IsSourced, all-once, all-sourced, child_of, source}
use Rattle.markdown_children.proofs.Parts.Once.{once-place}
use Rattle.markdown_children.proofs.Parts.Staying.{AtChunk, all-at, new, ts}
use Rattle.markdown_children.proofs.Parts.Weaves.{content-kept}
use Rattle.mddocument.proofs.InContainers.Rising.{In, in-filter}

in-append : (xs ys : List ℕ) (n : ℕ) → In n (xs ++ ys) → In n xs ⊎ In n ys
in-append [] ys n i = inr i
in-append (x ∷ xs) ys n i = elim i [ inl e ↦ inl (inl e) | inr k ↦ elim (in-append xs ys n k) [ inl a ↦ inl (inr a) | inr b ↦ inr b ] ]

-- ---- chunks go
removed-parts : (m c j : ℕ) (ks : List ℕ) (ps : List (List Event)) (ws : List Change) → length ks ≡ length ps → In m ks ⊎ (is_removed ws m ≡ true) → is_removed (part_changes c j ks ps ++ ws) m ≡ true
removed-parts m c j [] [] ws l h = elim h [ inl i ↦ absurd i | inr r ↦ r ]
removed-parts m c j [] (p ∷ ps) ws l h = absurd (omega (arith, l))
removed-parts m c j (k ∷ ks) [] ws l h = absurd (omega (arith, l))
removed-parts m c j (k ∷ ks) (p ∷ ps) ws l h =
    let rest : List Change = part_changes c (j + length p) ks ps ++ ws in
    let behind : In m ks ⊎ (is_removed ws m ≡ true) → is_removed (part_changes c j (k ∷ ks) (p ∷ ps) ++ ws) m ≡ true = λ more.
    or_right (nat_le k m && nat_lt m (k + 2)) (is_removed rest m) (removed-parts m c (j + length p) ks ps ws (omega (arith, l)) more) in
    elim h [
      | inl i ↦ elim i [
        | inl e ↦ or_left (nat_le k m && nat_lt m (k + 2)) (is_removed rest m) (both_true (le-leb k m (omega (arith, e))) (lt-ltb m (k + 2) (omega (arith, e))))
        | inr more ↦ behind (inl more)
      ]
      | inr r ↦ behind (inr r)
    ]

-- ---- other events stay
-- an index is not in the chunk
abbrev IsClear : (m k : ℕ) → Type 0
IsClear m k = (k ≡ m → ⊥) × (k < m → k + 2 ≤ m)

clear-test : (m k : ℕ) → IsClear m k → (nat_le k m && nat_lt m (k + 2)) ≡ false
clear-test m k h = elim (cases_order k m) [
  | inl e ↦ absurd (h.0 e)
  | inr other ↦ elim other [
    | inl below ↦
        (let past = h.1 below in
        let le = le-leb k m (omega (arith, below)) in
        let lt = le-ltb m (k + 2) past in
        (λ j. le j && lt j))
    | inr above ↦ (let le = lt-leb k m above in (λ j. le j && nat_lt m (k + 2)))
  ]
]

clear-all : (m : ℕ) (ws : List Change) → AllByRecursion (λ (w : Change). IsClear m w.index × (w.remove ≡ 2)) ws → is_removed ws m ≡ false
clear-all m [] h = refl
clear-all m (w ∷ ws) h =
    let test : (nat_le w.index m && nat_lt m (w.index + w.remove)) ≡ false = (λ i. nat_le w.index m && nat_lt m (w.index + h.0.1 i)) ∙ clear-test m w.index h.0.0 in
    let rest = clear-all m ws h.1 in
    (λ i. test i || rest i)

module _ (events : List Event) where
  removed-chains : (m : ℕ) (cs : List ℕ) (children : List (List Event)) → length cs ≡ length children → In m (flat_map (chain_of events) cs) → is_removed (flat_map chain_changes (divided_over events cs children)) m ≡ true
  removed-chains m [] children l i = absurd i
  removed-chains m (c ∷ cs) [] l i = absurd (omega (arith, l))
  removed-chains m (c ∷ cs) (x ∷ children) l i =
      let d = divided events c x in
      let rest : List Change = flat_map chain_changes (divided_over events cs children) in
      removed-parts m (first_chunk d.chunks) 0 d.chunks d.parts rest (divided-parts events c x)
      (elim (in-append (chain_of events c) (flat_map (chain_of events) cs) m i) [ inl a ↦ inl a | inr b ↦ inr (removed-chains m cs children (omega (arith, l)) b) ])

module _ (tab : ℕ) (bytes : List ℕ) (wanted : Option Content) (events : List Event) (ready : IsReady tab bytes wanted events) (children : List (List Event)) where
  pub removed-fits : length (fitting_starts wanted events) ≡ length children → (m : ℕ) → fits wanted events m ≡ true → is_removed (child_changes wanted events children) m ≡ true
  removed-fits l m h =
      let within = inside tab bytes wanted events ready m h in
      let one : In m (flat_map (chain_of events) (fitting_starts wanted events)) =
      subst (In m) (sym (follow_one_another tab bytes wanted events ready).in_order) (in-filter (fits wanted events) (length events) 0 m (omega arith) (omega (arith, within)) h) in
      removed-chains events m (fitting_starts wanted events) children l one

  pub clear-stays : (m : ℕ) → ((k : ℕ) → fits wanted events k ≡ true → IsClear m k) → is_removed (child_changes wanted events children) m ≡ false
  clear-stays m clear =
      clear-all m (child_changes wanted events children)
      (every-map (AtChunk tab bytes wanted events ready children) (λ (w : Change). IsClear m w.index × (w.remove ≡ 2)) (λ w at. (clear w.index at.0, at.1)) (child_changes wanted events children) (all-at tab bytes wanted events ready children))

  -- Where an event comes from that is in a chain of a content: from the list, or from a child
  pub data Origin (p : ℕ) (c : Content) : Type 0 where
    listed : (n : ℕ) → place_in (of_list n) (ts tab bytes wanted events ready children) ≡ Some p → content_at events n ≡ Some c → Origin p c
    of_kid : (d n : ℕ) → content_at (child_of tab bytes wanted events ready children d) n ≡ Some c → Origin p c

  pub origin-of : (p : ℕ) (c : Content) → content_at (new tab bytes wanted events ready children) p ≡ Some c → Origin p c
  origin-of p c e =
      let named : List Tagged = ts tab bytes wanted events ready children in
      let placed_event : Tagged → Event = λ u. relinked (placed_end named u.identity) u.event in
      by_option (slice_get named p)
      (λ f. absurd (none-some c (sym (ap (option_and_then content_of) (slice_get-map placed_event named p ∙ ap (option_map placed_event) f)) ∙ e)))
      (λ u f.
      let from : source (child_of tab bytes wanted events ready children) events u.identity ≡ Some u.event =
      every-get (IsSourced (child_of tab bytes wanted events ready children) events) named p u (all-sourced tab bytes wanted events ready children) f in
      let is : content_of u.event ≡ Some c =
      sym (content-kept (placed_end named u.identity) u.event.link) ∙ sym (ap (option_and_then content_of) (slice_get-map placed_event named p ∙ ap (option_map placed_event) f)) ∙ e in
      by u f from is u.identity refl)
    where
      by : (u : Tagged) → slice_get (ts tab bytes wanted events ready children) p ≡ Some u → source (child_of tab bytes wanted events ready children) events u.identity ≡ Some u.event → content_of u.event ≡ Some c
          → (b : Identity) → u.identity ≡ b → Origin p c
      by u f from is (of_list n) same =
          let there = once-place (ts tab bytes wanted events ready children) p u (all-once tab bytes wanted events ready children) (ap (λ a. is_same a a) same ∙ eq-eqb n n refl) f in
          listed n (ap (λ a. place_in a (ts tab bytes wanted events ready children)) (sym same) ∙ there) (ap (option_and_then content_of) (ap (source (child_of tab bytes wanted events ready children) events) (sym same) ∙ from) ∙ is)
      by u f from is (of_child d j) same =
          of_kid d j (ap (option_and_then content_of) (ap (source (child_of tab bytes wanted events ready children) events) (sym same) ∙ from) ∙ is)
      by u f from is of_addition same = absurd (none-some u.event (ap (source (child_of tab bytes wanted events ready children) events) (sym same) ∙ from))
