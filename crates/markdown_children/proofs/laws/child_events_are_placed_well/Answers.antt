use Rattle.markdown_children.proofs.Prelude.{◌≡◌, ℕ, ◌+◌, ◌-◌, ◌<◌, ◌≤◌, true, false, cond, List, [], ◌∷◌, ◌++◌, length, map, take, drop, Option, Some, None, refl, sym, ◌∙◌, ap, arith, nat_lt, slice_get, slice_get-map, ltb-true, ltb-false, length-map, length-take-le, Event, relinked, get-front, Edit, removed_by, added_by, as_addition, as_change, Tagged, Change, woven, placed_end, AreApart, AreApart-le, olds, pass, woven-pass, length-olds, AreApart-edits, relinked-same, slice_get-behind, parts, option_map, map-map, zero-add, add-zero, child_place, part_edits, divided, place_at}
use Rattle.markdown_children.proofs.Parts.Placed.{left-of}
use Rattle.markdown_children.proofs.Parts.Kept.{joined, joined-parts}
use Rattle.markdown_children.proofs.laws.child_events_are_placed_well.Goals as goal

-- behind what stays up to a change, and what comes there
behind-change : (w : Change) (ws : List Change) (i q : ℕ) (xs : List Event) → i ≤ w.index → w.index ≤ i + length xs
    → slice_get (pass (w ∷ ws) i xs) (w.index - i + q) ≡ slice_get (w.events ++ pass ws (w.index + w.remove) (drop (w.index + w.remove - i) xs)) q
behind-change w ws i q xs l m =
    let front : List Tagged = olds i (take (w.index - i) xs) in
    let rest : List Tagged = w.events ++ pass ws (w.index + w.remove) (drop (w.index + w.remove - i) xs) in
    let n : length front ≡ w.index - i = length-olds i (take (w.index - i) xs) ∙ length-take-le (w.index - i) xs (omega (arith, l, m)) in
    ap (λ k. slice_get (front ++ rest) (k + q)) (sym n) ∙ slice_get-behind front rest q

module _ (f : ℕ → Option ℕ) (more : List Edit) where
  -- an event of a child as it comes into the list
  abbrev coming : Event → Tagged
  coming e = as_addition (relinked f e)

  -- the changes of a chain, and of the edits behind them
  abbrev chain : List ℕ → List (List Event) → List Change
  chain ks ps = map as_change (part_edits f ks ps ++ more)

  length-coming : (p : List Event) → length (map as_addition (map (relinked f) p)) ≡ length p
  length-coming p = length-map (map (relinked f) p) as_addition ∙ length-map p (relinked f)

  in-part : (p rest : List Event) (us : List Tagged) (n : ℕ) → n < length p → slice_get (map as_addition (map (relinked f) p) ++ us) n ≡ option_map coming (slice_get (p ++ rest) n)
  in-part p rest us n h =
      get-front (map as_addition (map (relinked f) p)) us n (omega (arith, h, length-coming p)) ∙ ap (λ ts. slice_get ts n) (map-map as_addition (relinked f) p)
      ∙ slice_get-map coming p n ∙ ap (option_map coming) (sym (get-front p rest n h))

  behind-part : (p : List Event) (us : List Tagged) (q : ℕ) → slice_get (map as_addition (map (relinked f) p) ++ us) (length p + q) ≡ slice_get us q
  behind-part p us q = ap (λ k. slice_get (map as_addition (map (relinked f) p) ++ us) (k + q)) (sym (length-coming p)) ∙ slice_get-behind (map as_addition (map (relinked f) p)) us q

  -- the place of a child event in the rest of the list from an index on
  abbrev IsAt : (ks : List ℕ) (ps : List (List Event)) (removed added i n : ℕ) → List Event → ℕ → Type 0
  IsAt ks ps removed added i n xs place =
      (q : ℕ) × (place ≡ i - removed + added + q) × (slice_get (pass (chain ks ps) i xs) q ≡ option_map coming (slice_get (joined ps) n))

  at-place : (ks : List ℕ) (ps : List (List Event)) (removed added i n : ℕ) (xs : List Event) (place : ℕ) → AreApart i (chain ks ps) (i + length xs) → removed ≤ i
      → child_place ks ps removed added n ≡ Some place → IsAt ks ps removed added i n xs place
  at-place [] ps removed added i n xs place d l is = absurd (cc)
  at-place (k ∷ ks) [] removed added i n xs place d l is = absurd (cc)
  at-place (k ∷ ks) (p ∷ ps) removed added i n xs place d l is =
      let w : Change = as_change (record { index = k; remove = 2; additions = map (relinked f) p }) in
      let ws : List Change = chain ks ps in
      let a : i ≤ k = d.0 in
      let b : k + 2 ≤ i + length xs = AreApart-le ws (k + 2) (i + length xs) d.1 in
      let rest : List Event = drop (k + 2 - i) xs in
      let tail : List Tagged = pass ws (k + 2) rest in
      elim (nat_lt n (length p)) as (λ t. nat_lt n (length p) ≡ t → cond t (Some (k - removed + added + n)) (child_place ks ps (removed + 2) (added + length p) (n - length p)) ≡ Some place
      → IsAt (k ∷ ks) (p ∷ ps) removed added i n xs place) [
        | true ↦ λ t e.
            let there : k - removed + added + n ≡ place = cc in
            (k - i + n, omega (arith, there, a, l), behind-change w ws i n xs a (omega (arith, b)) ∙ in-part p (joined ps) tail n (ltb-true n (length p) t))
        | false ↦ λ t e.
            let (q, where_to, found) = at-place ks ps (removed + 2) (added + length p) (k + 2) (n - length p) rest place (left-of w ws i xs d) (omega (arith, a, l)) e in
            let same : length p + (n - length p) ≡ n = omega (arith, ltb-false n (length p) t) in (
              k - i + (length p + q),
              omega (arith, where_to, a, l),
              behind-change w ws i (length p + q) xs a (omega (arith, b)) ∙ behind-part p tail q ∙ found
                  ∙ ap (option_map coming) (sym (slice_get-behind p (joined ps) (n - length p)) ∙ ap (slice_get (p ++ joined ps)) same),
            )
      ] refl is

  -- and behind the edits before the chain
  at-after : (es : List Edit) (ks : List ℕ) (ps : List (List Event)) (removed added i n : ℕ) (xs : List Event) (place : ℕ) → AreApart i (map as_change (es ++ (part_edits f ks ps ++ more))) (i + length xs)
      → removed ≤ i → child_place ks ps (removed + removed_by es) (added + added_by es) n ≡ Some place
      → (q : ℕ) × (place ≡ i - removed + added + q) × (slice_get (pass (map as_change (es ++ (part_edits f ks ps ++ more))) i xs) q ≡ option_map coming (slice_get (joined ps) n))
  at-after [] ks ps removed added i n xs place d l is =
      at-place ks ps removed added i n xs place d l ((λ j. child_place ks ps (sym (add-zero removed) j) (sym (add-zero added) j) n) ∙ is)
  at-after (e ∷ es) ks ps removed added i n xs place d l is =
      let w : Change = as_change e in
      let ws : List Change = map as_change (es ++ (part_edits f ks ps ++ more)) in
      let j : ℕ = e.index + e.remove in
      let a : i ≤ e.index = d.0 in
      let rest : List Event = drop (j - i) xs in
      let r : removed + (e.remove + removed_by es) ≡ removed + e.remove + removed_by es = omega arith in
      let s : added + (length e.additions + added_by es) ≡ added + length e.additions + added_by es = omega arith in
      let there : child_place ks ps (removed + e.remove + removed_by es) (added + length e.additions + added_by es) n ≡ Some place = (λ j. child_place ks ps (sym r j) (sym s j) n) ∙ is in
      let (q, where_to, found) = at-after es ks ps (removed + e.remove) (added + length e.additions) j n rest place (left-of w ws i xs d) (omega (arith, a, l)) there in
      let many : length (map as_addition e.additions) ≡ length e.additions = length-map e.additions as_addition in (
        e.index - i + (length e.additions + q),
        omega (arith, where_to, a, l),
        behind-change w ws i (length e.additions + q) xs a (omega (arith, AreApart-le ws j (i + length xs) d.1)) ∙ ap (λ k. slice_get (map as_addition e.additions ++ pass ws j rest) (k + q)) (sym many)
            ∙ slice_get-behind (map as_addition e.additions) (pass ws j rest) q ∙ found,
      )

-- the parts of a child are the child
whole-child : (events : List Event) (ks : List ℕ) (child : List Event) (removed added n place : ℕ) → let ps = parts (map (λ k. place_at events (k + 1)) ks) child in child_place ks ps removed added n ≡ Some place → joined ps ≡ child
whole-child events [] child removed added n place is = absurd (cc)
whole-child events (k ∷ ks) child removed added n place is = joined-parts (place_at events (k + 1)) (map (λ k. place_at events (k + 1)) ks) child

pub returns : goal.returns
returns c es more events i child d n place is =
    let div = divided events i child in
    let f = child_place div.chunks div.parts (removed_by es) (added_by es) in
    let all : List Edit = es ++ (part_edits f div.chunks div.parts ++ more) in
    let ws : List Change = map as_change all in
    let apart : AreApart 0 ws (0 + length events) = rw zero-add (AreApart-edits all 0 (length events) d) in
    let (q, where_to, found) = at-after f more es div.chunks div.parts 0 0 0 n events place apart (omega arith)
    ((λ j. child_place div.chunks div.parts (zero-add (removed_by es) j) (zero-add (added_by es) j) n) ∙ is) in
    let same : place ≡ q = omega (arith, where_to) in
    let ts : List Tagged = woven ws 0 events in
    let made : slice_get ts place ≡ option_map (coming f more) (slice_get child n) =
    ap (slice_get ts) same ∙ ap (λ us. slice_get us q) (woven-pass ws 0 events apart) ∙ found ∙ ap (λ es. option_map (coming f more) (slice_get es n)) (whole-child events div.chunks child (removed_by es) (added_by es) n place is) in
    slice_get-map (λ (u : Tagged). relinked (placed_end ts u.identity) u.event) ts place ∙ ap (option_map (λ (u : Tagged). relinked (placed_end ts u.identity) u.event)) made ∙ settled ts f (slice_get child n)
  where
    settled : (ts : List Tagged) (f : ℕ → Option ℕ) (o : Option Event) → option_map (λ (u : Tagged). relinked (placed_end ts u.identity) u.event) (option_map (coming f more) o) ≡ option_map (relinked f) o
    settled ts f None = refl
    settled ts f (Some e) = ap Some (relinked-same (relinked f e))
