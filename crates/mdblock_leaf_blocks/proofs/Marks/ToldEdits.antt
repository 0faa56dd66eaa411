-- Edits give marks their names, and the ends of links lead to where their events are then.
use Rattle.mdblock_leaf_blocks.proofs.Prelude.{◌≡◌, ℕ, suc, ◌+◌, ◌-◌, ◌≤◌, List, [], ◌∷◌, ◌++◌, Bool, true, false, cond, Option, Some, None, length, map, refl, sym, ap, ◌∙◌, subst, arith, option_map, option_and_then, nat_tests, Event, EventName, relinked, with_ends, edit_at, AreDisjoint, as_addition, as_change, of_list, Tagged, as_listed, place_in, placed_end, woven, AreApart, events_at-none, is_removed-none, woven-at, AreApart-edits, under, map-append, told-apart, Told, as_told, renamed, edits_from, Chunk, Mark, linked_from, TwoAreKept, ChunksStand, EditsGiveNames, ToldMark, as_it_is, under_names, before_edits, behind_edits, told_edits, length-map}
use Rattle.mdblock_leaf_blocks.proofs.Marks.MarkLists.{chunk_at}

-- ---- the edits

abbrev without_chunk : ToldMark → Told
without_chunk (as_it_is m) = as_told m.0
without_chunk (under_names e names) = renamed e names

same-edits : (i : ℕ) (ts : List ToldMark) → told_edits i ts ≡ edits_from i (map without_chunk ts)
same-edits i [] = refl
same-edits i (as_it_is m ∷ ts) = same-edits (i + 1) ts
same-edits i (under_names e names ∷ ts) = ap (λ es. edit_at i 1 (map (under e) names) ∷ es) (same-edits (i + 1) ts)

-- each ends before the next one begins
edits-apart : (i n : ℕ) (ts : List ToldMark) → i + length ts ≡ n → AreDisjoint i (told_edits i ts) n
edits-apart i n ts h = subst (λ es. AreDisjoint i es n) (sym (same-edits i ts)) (told-apart i n (map without_chunk ts) (ap (λ k. i + k) (length-map ts without_chunk) ∙ h))

-- ---- the list after them

abbrev pub mark_at : ℕ → Mark → Event
mark_at i (e, None) = e
mark_at i (e, Some chunk) = chunk_at i e chunk

-- events behind the edits, with their identities
abbrev tagged : ℕ → List ToldMark → List Tagged
tagged i [] = []
tagged i (as_it_is m ∷ ts) = as_listed i (mark_at i m) ∷ tagged (i + 1) ts
tagged i (under_names e names ∷ ts) = map as_addition (map (under e) names) ++ tagged (i + 1) ts

pub first-linked : (i : ℕ) (m : Mark) (ms : List Mark) → linked_from i (m ∷ ms) ≡ mark_at i m ∷ linked_from (i + 1) ms
first-linked i (e, None) ms = refl
first-linked i (e, Some chunk) ms = refl

woven-tagged : (i : ℕ) (ts : List ToldMark) → woven (map as_change (told_edits i ts)) i (linked_from i (before_edits ts)) ≡ tagged i ts
woven-tagged i [] = refl
woven-tagged i (as_it_is m ∷ ts) =
    let n = i + 1 + length ts in
    let ws = map as_change (told_edits (i + 1) ts) in
    let apart : AreApart (i + 1) ws n = AreApart-edits (told_edits (i + 1) ts) (i + 1) n (edits-apart (i + 1) n ts refl) in
    let xs = linked_from (i + 1) (before_edits ts) in
    let one : woven ws i (mark_at i m ∷ xs) ≡ as_listed i (mark_at i m) ∷ woven ws (i + 1) xs = rw (events_at-none ws (i + 1) n i apart (omega arith), is_removed-none ws (i + 1) n i apart (omega arith)) refl in
    ap (woven ws i) (first-linked i m (before_edits ts)) ∙ one ∙ ap (λ us. as_listed i (mark_at i m) ∷ us) (woven-tagged (i + 1) ts)
woven-tagged i (under_names e names ∷ ts) =
    let n = i + 1 + length ts in
    let ws = map as_change (told_edits (i + 1) ts) in
    let d = as_change (edit_at i 1 (map (under e) names)) in
    let apart : AreApart (i + 1) ws n = AreApart-edits (told_edits (i + 1) ts) (i + 1) n (edits-apart (i + 1) n ts refl) in
    let xs = linked_from (i + 1) (before_edits ts) in
    let one : woven (d ∷ ws) i (e ∷ xs) ≡ map as_addition (map (under e) names) ++ woven ws (i + 1) xs = woven-at d ws n 1 (e ∷ xs) apart refl (omega arith) in
    one ∙ ap (λ us. map as_addition (map (under e) names) ++ us) (woven-tagged (i + 1) ts)

-- ---- places

-- events of the list from an index on are, in the whole list, so many places on from where they are in these
abbrev Leads : List Tagged → ℕ → ℕ → List Tagged → Type 0
Leads all p i us = (n : ℕ) → i ≤ n → place_in (of_list n) all ≡ option_map (λ q. p + q) (place_in (of_list n) us)

further-on : (p : ℕ) (o : Option ℕ) → option_map (λ q. p + q) (option_map suc o) ≡ option_map (λ q. p + 1 + q) o
further-on p None = refl
further-on p (Some q) = ap Some (omega arith)

not-first : (n i : ℕ) (x : Event) (us : List Tagged) → i + 1 ≤ n → place_in (of_list n) (as_listed i x ∷ us) ≡ option_map suc (place_in (of_list n) us)
not-first n i x us h = grind (arith, nat_tests, h)

is-first : (i : ℕ) (x : Event) (us : List Tagged) → place_in (of_list i) (as_listed i x ∷ us) ≡ Some 0
is-first i x us = grind (arith, nat_tests)

module _ (all : List Tagged) where
  behind-kept : (p i : ℕ) (x : Event) (us : List Tagged) → Leads all p i (as_listed i x ∷ us) → Leads all (p + 1) (i + 1) us
  behind-kept p i x us h n l = h n (omega (arith, l)) ∙ ap (option_map (λ q. p + q)) (not-first n i x us l) ∙ further-on p (place_in (of_list n) us)

  behind-added : (p i : ℕ) (es : List Event) (us : List Tagged) → Leads all p i (map as_addition es ++ us) → Leads all (p + length es) i us
  behind-added p i [] us h n l = h n l ∙ ap (λ k. option_map (λ q. k + q) (place_in (of_list n) us)) (omega arith)
  behind-added p i (e ∷ es) us h n l =
      let next : Leads all (p + 1) i (map as_addition es ++ us) = λ n l. h n l ∙ further-on p (place_in (of_list n) (map as_addition es ++ us)) in
      behind-added (p + 1) i es us next n l ∙ ap (λ k. option_map (λ q. k + q) (place_in (of_list n) us)) (omega arith)

  at-kept : (p i : ℕ) (x : Event) (us : List Tagged) → Leads all p i (as_listed i x ∷ us) → place_in (of_list i) all ≡ Some p
  at-kept p i x us h = h i (omega arith) ∙ ap (option_map (λ q. p + q)) (is-first i x us) ∙ ap Some (omega arith)

  -- the place of what is two kept marks on
  two-on : (p i : ℕ) (x : Event) (ts : List ToldMark) → Leads all p i (as_listed i x ∷ tagged (i + 1) ts) → TwoAreKept ts → place_in (of_list (i + 2)) all ≡ Some (p + 2)
  two-on p i x (as_it_is m ∷ as_it_is n ∷ ts) h k =
      let one = behind-kept p i x (tagged (i + 1) (as_it_is m ∷ as_it_is n ∷ ts)) h in
      let two = behind-kept (p + 1) (i + 1) (mark_at (i + 1) m) (tagged (i + 1 + 1) (as_it_is n ∷ ts)) one in
      let is = at-kept (p + 1 + 1) (i + 1 + 1) (mark_at (i + 1 + 1) n) (tagged (i + 1 + 1 + 1) ts) two in
      ap (λ j. place_in (of_list j) all) (omega arith) ∙ is ∙ ap Some (omega arith)
  two-on p i x ts h k = absurd k

  -- where the last kept marks are
  abbrev Behind : ℕ → ℕ → ℕ → Type 0
  Behind kept p i = (1 ≤ kept → place_in (of_list (i - 1)) all ≡ Some (p - 1)) × (2 ≤ kept → place_in (of_list (i - 2)) all ≡ Some (p - 2))

  one-more : (kept p i : ℕ) → Behind kept p i → place_in (of_list i) all ≡ Some p → Behind (kept + 1) (p + 1) (i + 1)
  one-more kept p i h is = (
    λ l. ap (λ j. place_in (of_list j) all) (omega arith) ∙ is ∙ ap Some (omega arith),
    λ l. ap (λ j. place_in (of_list j) all) (omega arith) ∙ h.0 (omega (arith, l)) ∙ ap Some (omega arith),
  )

  abbrev moved : Tagged → Event
  moved u = relinked (placed_end all u.identity) u.event

  moved-plain : (i : ℕ) (e : Event) → e.link ≡ None → moved (as_listed i e) ≡ e
  moved-plain i e h = ap (λ o. record e { link = option_map (with_ends (placed_end all (of_list i))) o }) h ∙ ap (λ o. record e { link = o }) (sym h)

  end-moved : (has : Bool) (j p : ℕ) → (has ≡ true → place_in (of_list j) all ≡ Some p) → option_and_then (λ n. place_in (of_list n) all) (cond has (Some j) None) ≡ cond has (Some p) None
  end-moved true j p h = h refl
  end-moved false j p h = refl

  moved-chunk : (kept p i : ℕ) (e : Event) (chunk : Chunk) (ts : List ToldMark) → Leads all p i (as_listed i (chunk_at i e chunk) ∷ tagged (i + 1) ts) → Behind kept p i
      → (chunk.has_previous ≡ true → 2 ≤ kept) → (chunk.has_next ≡ true → TwoAreKept ts) → moved (as_listed i (chunk_at i e chunk)) ≡ chunk_at p e chunk
  moved-chunk kept p i e chunk ts leads behind previous next =
      let first = end-moved chunk.has_previous (i - 2) (p - 2) (λ h. behind.1 (previous h)) in
      let second = end-moved chunk.has_next (i + 2) (p + 2) (λ h. two-on p i (chunk_at i e chunk) ts leads (next h)) in
      ap (λ (o : Option ℕ). record e { link = Some (record { previous = o; next = option_and_then (λ n. place_in (of_list n) all) (cond chunk.has_next (Some (i + 2)) None); content = chunk.content }) }) first
      ∙ ap (λ (o : Option ℕ). record e { link = Some (record { previous = cond chunk.has_previous (Some (p - 2)) None; next = o; content = chunk.content }) }) second

  moved-added : (e : Event) (names : List EventName) → map moved (map as_addition (map (under e) names)) ≡ map (under e) names
  moved-added e [] = refl
  moved-added e (n ∷ names) = ap (λ es. under e n ∷ es) (moved-added e names)

  linked-names : (p : ℕ) (e : Event) (names : List EventName) (ms : List Mark) → linked_from p (map (λ n. (under e n, None)) names ++ ms) ≡ map (under e) names ++ linked_from (p + length names) ms
  linked-names p e [] ms = ap (λ k. linked_from k ms) (omega arith)
  linked-names p e (n ∷ names) ms = ap (λ es. under e n ∷ es) (linked-names (p + 1) e names ms ∙ ap (λ k. map (under e) names ++ linked_from k ms) (omega arith))

  none-behind : (p i : ℕ) → Behind 0 p i
  none-behind p i = ((λ l. absurd (omega (arith, l))), (λ l. absurd (omega (arith, l))))

  moved-tagged : (kept p i : ℕ) (ts : List ToldMark) → Leads all p i (tagged i ts) → Behind kept p i → ChunksStand kept ts → map moved (tagged i ts) ≡ linked_from p (behind_edits ts)
  moved-tagged kept p i [] leads behind stand = refl
  moved-tagged kept p i (as_it_is (e, None) ∷ ts) leads behind stand =
      let more = one-more kept p i behind (at-kept p i e (tagged (i + 1) ts) leads) in
      ap (λ x. x ∷ map moved (tagged (i + 1) ts)) (moved-plain i e stand.0)
      ∙ ap (λ es. e ∷ es) (moved-tagged (kept + 1) (p + 1) (i + 1) ts (behind-kept p i e (tagged (i + 1) ts) leads) more stand.1)
  moved-tagged kept p i (as_it_is (e, Some chunk) ∷ ts) leads behind stand =
      let x = chunk_at i e chunk in
      let more = one-more kept p i behind (at-kept p i x (tagged (i + 1) ts) leads) in
      ap (λ x. x ∷ map moved (tagged (i + 1) ts)) (moved-chunk kept p i e chunk ts leads behind stand.0 stand.1)
      ∙ ap (λ es. chunk_at p e chunk ∷ es) (moved-tagged (kept + 1) (p + 1) (i + 1) ts (behind-kept p i x (tagged (i + 1) ts) leads) more stand.2)
  moved-tagged kept p i (under_names e names ∷ ts) leads behind stand =
      let q = p + length names in
      let added = behind-added p i (map (under e) names) (tagged (i + 1) ts) leads in
      let there : Leads all q (i + 1) (tagged (i + 1) ts) = λ n l. subst (λ k. place_in (of_list n) all ≡ option_map (λ q. p + k + q) (place_in (of_list n) (tagged (i + 1) ts))) (length-map names (under e)) (added n (omega (arith, l))) in
      map-append moved (map as_addition (map (under e) names)) (tagged (i + 1) ts)
      ∙ ap (λ es. es ++ map moved (tagged (i + 1) ts)) (moved-added e names)
      ∙ ap (λ es. map (under e) names ++ es) (moved-tagged 0 q (i + 1) ts there (none-behind q (i + 1)) stand)
      ∙ sym (linked-names p e names (behind_edits ts))

-- ---- all of it

from-start : (us : List Tagged) → Leads us 0 0 us
from-start us n l = same (place_in (of_list n) us)
  where
    same : (o : Option ℕ) → o ≡ option_map (λ q. 0 + q) o
    same None = refl
    same (Some q) = ap Some (omega arith)

pub edits-give-names : EditsGiveNames
edits-give-names ts stand =
    let us = tagged 0 ts in
    ap (λ us. map (moved us) us) (woven-tagged 0 ts) ∙ moved-tagged us 0 0 0 ts (from-start us) (none-behind us 0 0) stand
