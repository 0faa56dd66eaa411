-- A list in which all chains are edited, as it is written: what is between the edits has no links, and stays as it is.
use Rattle.markdown_children.proofs.Prelude.{◌≡◌, ℕ, zero, suc, ◌+◌, ◌-◌, ◌*◌, ◌<◌, ◌≤◌, Bool, true, false, List, [], ◌∷◌, ◌++◌, length, map, drop, drop-drop, flat_map, filter, range_with_len, Option, None, Some, inl, inr, cases_lt, refl, sym, ◌∙◌, ap, subst, arith, between, slice_get, slice_get_past, option_and_then, option_map, AllByRecursion, append_assoc, Event, Link, with_ends, relinked, Edit, AreDisjoint, edited, IsReady, chain_of, fits, fitting_starts, some_fits, Divided, divided, divided_over, child_place, part_edits, all_edits, total, all-there, get-dropped, edited-spliced, content_of, spliced, written, end_of}
use Rattle.markdown_edits.proofs.Edits.Splices.{place_after}
use Rattle.markdown_children.proofs.ChainOrder.Following.{by_option, by_test, filter-no, filter-yes, follow_one_another}
use Rattle.markdown_children.proofs.ChainOrder.Forward.{ends-inside}
use Rattle.markdown_children.proofs.ChainOrder.Spaced.{divided-parts}
use Rattle.markdown_children.proofs.Parts.Edits.{edits_give_children}
use Rattle.markdown_children.proofs.Parts.Weaves.{IsFree, all-between}

-- ---- where the edits are

-- the edits are of these chunks
abbrev pub AreOf : List ℕ → List Edit → Type 0
AreOf [] [] = Unit {0}
AreOf (k ∷ ks) (e ∷ es) = (e.index ≡ k) × (e.remove ≡ 2) × AreOf ks es
AreOf ks es = ⊥

of-parts : (f : ℕ → Option ℕ) (ks more : List ℕ) (ps : List (List Event)) (es : List Edit) → length ks ≡ length ps → AreOf more es → AreOf (ks ++ more) (part_edits f ks ps ++ es)
of-parts f [] more [] es e h = h
of-parts f [] more (p ∷ ps) es e h = absurd (omega arith)
of-parts f (k ∷ ks) more [] es e h = absurd (omega arith)
of-parts f (k ∷ ks) more (p ∷ ps) es e h = (refl, refl, of-parts f ks more ps es (omega arith) h)

of-chains : (events : List Event) (cs : List ℕ) (children : List (List Event)) (removed added : ℕ) → length cs ≡ length children
    → AreOf (flat_map (chain_of events) cs) (all_edits removed added (divided_over events cs children))
of-chains events [] children removed added e = tt
of-chains events (c ∷ cs) [] removed added e = absurd (omega arith)
of-chains events (c ∷ cs) (child ∷ children) removed added e =
    let d : Divided = divided events c child in
    of-parts (child_place d.chunks d.parts removed added) d.chunks (flat_map (chain_of events) cs) d.parts (all_edits (removed + 2 * length d.chunks) (added + total d.parts) (divided_over events cs children))
    (divided-parts events c child) (of-chains events cs children (removed + 2 * length d.chunks) (added + total d.parts) (omega arith))

-- between edits no event passes a test
abbrev pub NoneOutside : (ℕ → Bool) → ℕ → List Edit → Type 0
NoneOutside test from [] = (m : ℕ) → from ≤ m → test m ≡ false
NoneOutside test from (e ∷ es) = ((m : ℕ) → from ≤ m → m < e.index → test m ≡ false) × NoneOutside test (e.index + e.remove) es

-- the first edit is of the first of these chunks
outside-first : (test : ℕ → Bool) (i from : ℕ) (ks : List ℕ) (es : List Edit) → AreOf (i ∷ ks) es → ((m : ℕ) → from ≤ m → m < i → test m ≡ false)
    → ((ds : List Edit) (to : ℕ) → AreOf ks ds → to ≡ i + 2 → NoneOutside test to ds) → NoneOutside test from es
outside-first test i from ks [] of before rest = absurd of
outside-first test i from ks (d ∷ es) of before rest =
    let here : d.index ≡ i = of.0 in
    let two : d.remove ≡ 2 = of.1 in
    ((λ m l b. before m l (omega arith)), rest es (d.index + d.remove) of.2 (omega arith))

module _ (test : ℕ → Bool) (n : ℕ) (past : (m : ℕ) → n ≤ m → test m ≡ false) where
  outside : (f i from : ℕ) (es : List Edit) → f + i ≡ n → AreOf (filter test (range_with_len i f)) es → ((m : ℕ) → from ≤ m → m < i → test m ≡ false) → NoneOutside test from es
  outside zero i from [] e of before = λ m l. elim (cases_lt m i) [
    | inl a ↦ before m l a
    | inr a ↦ past m (omega arith)
  ]
  outside zero i from (d ∷ es) e of before = absurd of
  outside (suc f) i from es e of before = by_test (test i)
      (λ yes. outside-first test i from (filter test (range_with_len (i + 1) f)) es (subst (λ ks. AreOf ks es) (filter-yes test i (range_with_len (i + 1) f) yes) of) before
      (λ ds to more two. outside f (i + 1) to ds (omega arith) more (λ m l b. absurd (omega arith))))
      (λ no. outside f (i + 1) from es (omega arith) (subst (λ ks. AreOf ks es) (filter-no test i (range_with_len (i + 1) f) no) of)
      (λ m l b. elim (cases_lt m i) [
        | inl a ↦ before m l a
        | inr a ↦ (let same : i ≡ m = omega arith in subst (λ k. test k ≡ false) same no)
      ]))

-- ---- what stays

-- an event without a link stays the same wherever link ends move
free-same : (f : ℕ → Option ℕ) (e : Event) → IsFree e → relinked f e ≡ e
free-same f e free =
    let none : e.link ≡ None = by_option e.link (λ n. n) (λ l some. absurd (let no : Some l.content ≡ None = sym (ap (option_map (λ (x : Link). x.content)) some) ∙ free in cc)) in
    let same : option_map (with_ends f) e.link ≡ e.link = ap (option_map (with_ends f)) none ∙ sym none in
    ap (λ (l : Option Link). record e { link = l }) same

free-all : (f : ℕ → Option ℕ) (xs : List Event) → AllByRecursion IsFree xs → map (relinked f) xs ≡ xs
free-all f [] h = refl
free-all f (x ∷ xs) h = (λ j. free-same f x h.0 j ∷ free-all f xs h.1 j)

module _ (events : List Event) where
  abbrev is_fit : ℕ → Bool
  is_fit m = fits None events m

  past-end : (m : ℕ) → length events ≤ m → is_fit m ≡ false
  past-end m l = ap (λ (o : Option Event). some_fits None (option_and_then content_of o)) (slice_get_past events m l)

  free-at : (m : ℕ) (x : Event) → slice_get events m ≡ Some x → is_fit m ≡ false → IsFree x
  free-at m x at never = by_option (content_of x) (λ n. n) (λ c some.
      let yes : is_fit m ≡ true = ap (λ (o : Option Event). some_fits None (option_and_then content_of o)) at ∙ ap (some_fits None) some in
      absurd (let both : true ≡ false = sym yes ∙ never in cc))

  -- what comes between edits is written as it is
  spliced-written : (place : ℕ → Option ℕ) (es : List Edit) (i : ℕ) → AreDisjoint i es (length events) → NoneOutside is_fit i es
      → spliced place es i (drop i events) ≡ written i es events ++ drop (end_of i es) events
  spliced-written place [] i d none =
      free-all place (drop i events) (all-there IsFree (drop i events) (λ k x at. free-at (i + k) x (sym (get-dropped i events k) ∙ at) (none (i + k) (omega arith))))
  spliced-written place (e ∷ es) i d none =
      let l : i ≤ e.index = d.0 in
      let to = e.index + e.remove in
      let z : i + (to - i) ≡ to = omega arith in
      let gap = between i e.index events in
      let free = all-between IsFree i e.index events (λ k x a b at. free-at k x at (none.0 k a b)) in
      let rest = spliced-written place es to d.1 none.1 in
      let behind : drop (to - i) (drop i events) ≡ drop to events = drop-drop (to - i) i events ∙ ap (λ k. drop k events) z in
      (λ j. free-all place gap free j ++ (e.additions ++ (ap (spliced place es to) behind ∙ rest) j))
      ∙ ap (λ xs. gap ++ xs) (sym (append_assoc e.additions (written to es events) (drop (end_of to es) events)))
      ∙ sym (append_assoc gap (e.additions ++ written to es events) (drop (end_of to es) events))

-- with the edits of all its chains, a list is what is written of it
pub all-written : (tab : ℕ) (bytes : List ℕ) (events : List Event) → IsReady tab bytes None events → (children : List (List Event)) → length (fitting_starts None events) ≡ length children
    → (es : List Edit) → es ≡ all_edits 0 0 (divided_over events (fitting_starts None events) children)
    → written 0 es events ++ drop (end_of 0 es) events ≡ edited es events
all-written tab bytes events ready children long es is =
    let f = follow_one_another tab bytes None events ready in
    let starts = fitting_starts None events in
    let disjoint : AreDisjoint 0 es (length events) = subst (λ (ds : List Edit). AreDisjoint 0 ds (length events)) (sym is) (edits_give_children tab bytes None events children ready).disjoint in
    let of : AreOf (filter (fits None events) (range_with_len 0 (length events))) es =
    subst (λ (ds : List Edit). AreOf (filter (fits None events) (range_with_len 0 (length events))) ds) (sym is)
    (subst (λ (ks : List ℕ). AreOf ks (all_edits 0 0 (divided_over events starts children))) f.in_order (of-chains events starts children 0 0 long)) in
    let none = outside (fits None events) (length events) (past-end events) (length events) 0 0 es (omega arith) of (λ m l b. absurd (omega arith)) in
    sym (edited-spliced es events disjoint (ends-inside tab bytes None events ready) ∙ spliced-written events (place_after es) es 0 disjoint none)
