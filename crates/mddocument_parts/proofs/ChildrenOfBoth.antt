-- Two lists with children in place of their chains, one behind the other.
use Rattle.std.proofs.Common.{List, None, Option, Some, [], ap, arith, cond, drop, eqb, false, leb, length, length-append, ltb, map, refl, suc, sym, true, zero, ℕ, ◌++◌, ◌+◌, ◌<◌, ◌∙◌, ◌∷◌, ◌≡◌, ◌≤◌}
use Rattle.std.proofs.Math.Bool.{or-false}
use Rattle.std.proofs.lemmas.Bool.{and_parts, ne_eqb}
use Rattle.std.proofs.lemmas.Bool.Decides.{nat_tests}
use Rattle.std.proofs.lemmas.Grind.{flat_map-append}
use Rattle.std.proofs.lemmas.List.{append-nil, append_assoc, drop-map, length-map, map-append, map-id}
use Rattle.std.proofs.lemmas.List.Elements.{filter-append, filter_passes, recursion_from_All}
use Rattle.std.proofs.lemmas.List.Folds.{list_any-append}
use Rattle.std.proofs.lemmas.List.Sums.{take_while-cons}
use Rattle.std.proofs.lemmas.Option.{slice_get-map, slice_get_within}
use Rattle.std.specs.List.{AllByRecursion, flat_map, range_with_len}
use Rattle.std.specs.Option.{option_and_then, option_map}
use Rattle.std.specs.Prelude.{All, filter, is_none, nat_lt, not, slice_get, unwrap_or, ◌&&◌, ◌==◌, ◌||◌}
use Rattle.std.proofs.lemmas.Iterator.Adapters.{option_map_id}
use Rattle.markdown_base.proofs.Common.{every-append, every-map, get-front}
use Rattle.markdown_base.proofs.Facts.Lists.{some-get}
use Rattle.markdown_base.specs.Events.{EndsBelow, relinked, with_ends}
use Rattle.markdown_base.specs.Places.{stands_before}
use Rattle.markdown_base.specs.Virtual.{point}
use Rattle.markdown_base.specs.declared.event.Content.{Content}
use Rattle.markdown_base.specs.declared.event.Event.{Event}
use Rattle.markdown_base.specs.declared.event.Link.{Link}
use Rattle.markdown_base.specs.declared.event.Point.{Point}
use Rattle.markdown_edits.proofs.Edits.FinalPlaces.{or_after, place_in-append}
use Rattle.markdown_edits.proofs.Edits.Splices.{relinked-agree}
use Rattle.markdown_edits.proofs.Edits.Survivors.{slice_get-behind}
use Rattle.markdown_edits.specs.Links.{content_of, next_of, previous_of}
use Rattle.markdown_edits.specs.Woven.{Change, Identity, Tagged, as_listed, changed, events_at, is_removed, is_same, of_addition, of_child, of_list, place_in, placed, placed_end, placed_in, woven}
use Rattle.markdown_tokenizer.proofs.Positions.Order.{every-cond}
use Rattle.markdown_children.proofs.ChainOrder.Following.{by_option}
use Rattle.markdown_children.proofs.ChainOrder.Forward.{forward-chain}
use Rattle.markdown_children.specs.Chains.{begins, chain_from, chain_of, fits, fitting_starts, some_fits}
use Rattle.markdown_children.specs.Children.{chain_changes, child_changes, part_changes, tagged_child, with_children}
use Rattle.markdown_children.specs.Parts.{Divided, IsForward, divided, divided_over, front_until, parts}
use Rattle.markdown_children.specs.Ready.{IsReady, place_at}
use Rattle.mddocument_parts.proofs.Chained.{further_on}
use Rattle.mddocument_parts.specs.Moved.{moved_event, moved_index, moved_link, moved_point}
use Rattle.mddocument_parts.proofs.Choices.{cond-of}

-- ==== Changes of two lists, one behind the other: if no change and no link of the first leads into the second, the list after all changes is the two changed lists, the second moved.
-- ---- numbers and tests

eqb-moved : (n a b : ℕ) → eqb (n + a) (n + b) ≡ eqb a b
eqb-moved n a b = grind (arith, nat_tests)

leb-moved : (n a b : ℕ) → leb (n + a) (n + b) ≡ leb a b
leb-moved n a b = grind (arith, nat_tests)

ltb-moved : (n a b r : ℕ) → ltb (n + a) (n + b + r) ≡ ltb a (b + r)
ltb-moved n a b r = grind (arith, nat_tests)

-- links so much further on, as places of a list that are so much further on
relink-moved : (lines bytes : ℕ) (f g : ℕ → Option ℕ) (s m : ℕ) → ((d : ℕ) → f (d + s) ≡ moved_index m (g d)) → (e : Event) → relinked f (moved_event lines bytes s e) ≡ moved_event lines bytes m (relinked g e)
relink-moved lines bytes f g s m h e = ap (λ (l : Option Link). record (moved_event lines bytes s e) { link = l }) (link e.link)
  where
    end : (o : Option ℕ) → option_and_then f (moved_index s o) ≡ moved_index m (option_and_then g o)
    end None = refl
    end (Some d) = h d

    link : (o : Option Link) → option_map (with_ends f) (moved_link s o) ≡ moved_link m (option_map (with_ends g) o)
    link None = refl
    link (Some l) = let p = end l.previous in let q = end l.next in (λ d. (let k : Link = record { previous = p d; next = q d; content = l.content } in Some k))

-- ---- changes that are elsewhere

-- no change is at the index, and none goes on over it
abbrev pub IsElsewhere : ℕ → Change → Type 0
IsElsewhere i w = (eqb w.index i ≡ false) × ((leb w.index i && ltb i (w.index + w.remove)) ≡ false)

none-come : (i : ℕ) (ws : List Change) → AllByRecursion (IsElsewhere i) ws → events_at ws i ≡ []
none-come i [] h = refl
none-come i (w ∷ ws) h = rw h.0.0 (none-come i ws h.1)

none-go : (i : ℕ) (ws : List Change) → AllByRecursion (IsElsewhere i) ws → is_removed ws i ≡ false
none-go i [] h = refl
none-go i (w ∷ ws) h = rw h.0.1 (none-go i ws h.1)

-- behind changes that end before it, the others are left
woven-past : (ws vs : List Change) (i : ℕ) (ys : List Event) → ((j : ℕ) → i ≤ j → AllByRecursion (IsElsewhere j) ws) → woven (ws ++ vs) i ys ≡ woven vs i ys
woven-past ws vs i [] h = flat_map-append (λ w. cond (eqb w.index i) w.events []) ws vs ∙ ap (λ ts. ts ++ events_at vs i) (none-come i ws (h i (omega arith)))
woven-past ws vs i (y ∷ ys) h =
    let here = h i (omega arith) in
    let come : events_at (ws ++ vs) i ≡ events_at vs i = flat_map-append (λ w. cond (eqb w.index i) w.events []) ws vs ∙ ap (λ ts. ts ++ events_at vs i) (none-come i ws here) in
    let go : is_removed (ws ++ vs) i ≡ is_removed vs i = list_any-append (λ w. leb w.index i && ltb i (w.index + w.remove)) ws vs ∙ ap (λ b. b || is_removed vs i) (none-go i ws here) in
    let rest = woven-past ws vs (i + 1) ys (λ j l. h j (omega arith)) in
    (λ d. come d ++ (cond (go d) [] (as_listed i y ∷ []) ++ rest d))

-- ---- changes of the first list and of the second

-- a change lies inside a list of n events
abbrev pub LiesWithin : ℕ → Change → Type 0
LiesWithin n w = (w.index < n) × (w.index + w.remove ≤ n)

-- a change lies behind n events
abbrev pub LiesBehind : ℕ → Change → Type 0
LiesBehind n w = n ≤ w.index

within-past : (n j : ℕ) → n ≤ j → (w : Change) → LiesWithin n w → IsElsewhere j w
within-past n j l w h = let a = h.0 in let b = h.1 in (grind (arith, nat_tests), grind (arith, nat_tests))

behind-before : (n j : ℕ) → j < n → (w : Change) → LiesBehind n w → IsElsewhere j w
behind-before n j l w h = (grind (arith, nat_tests), grind (arith, nat_tests))

pub woven-both : (ws vs : List Change) (i n : ℕ) (xs ys : List Event) → i + length xs ≡ n → AllByRecursion (LiesWithin n) ws → AllByRecursion (LiesBehind n) vs
    → woven (ws ++ vs) i (xs ++ ys) ≡ woven ws i xs ++ woven vs n ys
woven-both ws vs i n [] ys e h k =
    let same : i ≡ n = omega arith in
    let past : (j : ℕ) → n ≤ j → AllByRecursion (IsElsewhere j) ws = λ j l. every-map (LiesWithin n) (IsElsewhere j) (within-past n j l) ws h in
    ap (λ i. woven (ws ++ vs) i ys) same ∙ woven-past ws vs n ys past ∙ ap (λ ts. ts ++ woven vs n ys) (sym (ap (events_at ws) same ∙ none-come n ws (past n (omega arith))))
woven-both ws vs i n (x ∷ xs) ys e h k =
    let before : AllByRecursion (IsElsewhere i) vs = every-map (LiesBehind n) (IsElsewhere i) (behind-before n i (omega arith)) vs k in
    let come : events_at (ws ++ vs) i ≡ events_at ws i = flat_map-append (λ w. cond (eqb w.index i) w.events []) ws vs ∙ ap (λ ts. events_at ws i ++ ts) (none-come i vs before) ∙ append-nil (events_at ws i) in
    let go : is_removed (ws ++ vs) i ≡ is_removed ws i = list_any-append (λ w. leb w.index i && ltb i (w.index + w.remove)) ws vs ∙ ap (λ b. is_removed ws i || b) (none-go i vs before) ∙ or-false (is_removed ws i) in
    let stays : List Tagged = cond (is_removed ws i) [] (as_listed i x ∷ []) in
    let rest = woven-both ws vs (i + 1) n xs ys (omega arith) h k in
    (λ d. come d ++ (cond (go d) [] (as_listed i x ∷ []) ++ rest d))
    ∙ ap (λ ts. events_at ws i ++ ts) (sym (append_assoc stays (woven ws (i + 1) xs) (woven vs n ys)))
    ∙ sym (append_assoc (events_at ws i) (stays ++ woven ws (i + 1) xs) (woven vs n ys))

-- ---- names behind n others
module _ (n : ℕ) where
  -- the name of an event behind n others: the index in its list, or of its chain in the list, is so much greater
  abbrev pub named : Identity → Identity
  named (of_list i) = of_list (n + i)
  named (of_child c i) = of_child (n + c) i
  named of_addition = of_addition

  -- the name is of an event of the first n, or of a child of a chain that begins there
  abbrev pub IsNamedBelow : Identity → Type 0
  IsNamedBelow (of_list i) = i < n
  IsNamedBelow (of_child c i) = c < n
  IsNamedBelow of_addition = Unit {0}

  -- the event has such a name; if it is an event of the list, its links lead to such events
  abbrev pub IsOfFirstAs : Identity → Event → Type 0
  IsOfFirstAs (of_list i) e = (i < n) × EndsBelow n e
  IsOfFirstAs (of_child c i) e = c < n
  IsOfFirstAs of_addition e = Unit {0}

  abbrev pub IsOfFirst : Tagged → Type 0
  IsOfFirst t = IsOfFirstAs t.identity t.event

  -- names behind n others are others
  same-apart : (a b : Identity) (e : Event) → IsOfFirstAs b e → is_same (named a) b ≡ false
  same-apart (of_list i) (of_list j) e h = let l : j < n = h.0 in ne_eqb (n + i) j (omega arith)
  same-apart (of_list i) (of_child c j) e h = refl
  same-apart (of_list i) of_addition e h = refl
  same-apart (of_child c i) (of_list j) e h = refl
  same-apart (of_child c i) (of_child d j) e h = let l : d < n = h in ap (λ b. b && eqb i j) (ne_eqb (n + c) d (omega arith))
  same-apart (of_child c i) of_addition e h = refl
  same-apart of_addition b e h = refl

  same-below : (a b : Identity) → IsNamedBelow a → is_same a (named b) ≡ false
  same-below (of_list i) (of_list j) h = let l : i < n = h in ne_eqb i (n + j) (omega arith)
  same-below (of_list i) (of_child c j) h = refl
  same-below (of_list i) of_addition h = refl
  same-below (of_child c i) (of_list j) h = refl
  same-below (of_child c i) (of_child d j) h = let l : c < n = h in ap (λ b. b && eqb i j) (ne_eqb c (n + d) (omega arith))
  same-below (of_child c i) of_addition h = refl
  same-below of_addition b h = refl

  same-moved : (a b : Identity) → is_same (named a) (named b) ≡ is_same a b
  same-moved (of_list i) (of_list j) = eqb-moved n i j
  same-moved (of_list i) (of_child c j) = refl
  same-moved (of_list i) of_addition = refl
  same-moved (of_child c i) (of_list j) = refl
  same-moved (of_child c i) (of_child d j) = ap (λ b. b && eqb i j) (eqb-moved n c d)
  same-moved (of_child c i) of_addition = refl
  same-moved of_addition b = refl

  none-behind : (b : Identity) (ts : List Tagged) → AllByRecursion IsOfFirst ts → place_in (named b) ts ≡ None
  none-behind b [] h = refl
  none-behind b (t ∷ ts) h = let e = same-apart b t.identity t.event h.0 in let r = none-behind b ts h.1 in (λ d. cond (e d) (Some 0) (option_map suc (r d)))

  -- ---- the events of the first list, and those that come there
  of_first-come : (ws : List Change) (i : ℕ) → AllByRecursion (λ (w : Change). AllByRecursion IsOfFirst w.events) ws → AllByRecursion IsOfFirst (events_at ws i)
  of_first-come [] i h = tt
  of_first-come (w ∷ ws) i h =
      every-append IsOfFirst (cond (eqb w.index i) w.events []) (events_at ws i) (every-cond IsOfFirst (eqb w.index i) w.events [] h.0 tt) (of_first-come ws i h.1)

  of_first-woven : (ws : List Change) (i : ℕ) (xs : List Event) → i + length xs ≤ n → AllByRecursion (EndsBelow n) xs → AllByRecursion (λ (w : Change). AllByRecursion IsOfFirst w.events) ws → AllByRecursion IsOfFirst (woven ws i xs)
  of_first-woven ws i [] l k h = of_first-come ws i h
  of_first-woven ws i (x ∷ xs) l k h =
      let stays : List Tagged = cond (is_removed ws i) [] (as_listed i x ∷ []) in
      every-append IsOfFirst (events_at ws i) (stays ++ woven ws (i + 1) xs) (of_first-come ws i h)
      (every-append IsOfFirst stays (woven ws (i + 1) xs) (every-cond IsOfFirst (is_removed ws i) [] (as_listed i x ∷ []) tt (((omega arith), k.0), tt)) (of_first-woven ws (i + 1) xs (omega arith) k.1 h))

-- ---- changes and events behind n others
module _ (lines bytes n : ℕ) where
  -- how much greater the link ends of an event are: those of an event of a child are indices into the child, and those of an addition places in the new
  -- list, where its events are behind m others
  abbrev pub further : (m : ℕ) → Identity → ℕ
  further m (of_list i) = n
  further m (of_child c i) = 0
  further m of_addition = m

  module _ (m : ℕ) where
    abbrev pub moved_tagged : Tagged → Tagged
    moved_tagged t = record { identity = named n t.identity; event = moved_event lines bytes (further m t.identity) t.event }

    abbrev pub moved_change : Change → Change
    moved_change w = record { index = n + w.index; remove = w.remove; events = map moved_tagged w.events }

    changes-behind : (ws : List Change) → AllByRecursion (LiesBehind n) (map moved_change ws)
    changes-behind [] = tt
    changes-behind (w ∷ ws) = (omega arith, changes-behind ws)

    come-moved : (ws : List Change) (i : ℕ) → events_at (map moved_change ws) (n + i) ≡ map moved_tagged (events_at ws i)
    come-moved [] i = refl
    come-moved (w ∷ ws) i =
        let b : eqb (n + w.index) (n + i) ≡ eqb w.index i = eqb-moved n w.index i in
        let rest = come-moved ws i in
        (λ d. cond (b d) (map moved_tagged w.events) [] ++ rest d)
        ∙ ap (λ ts. ts ++ map moved_tagged (events_at ws i)) (cond-of (map moved_tagged) (eqb w.index i) w.events [])
        ∙ sym (map-append moved_tagged (cond (eqb w.index i) w.events []) (events_at ws i))

    go-moved : (ws : List Change) (i : ℕ) → is_removed (map moved_change ws) (n + i) ≡ is_removed ws i
    go-moved [] i = refl
    go-moved (w ∷ ws) i =
        let a : leb (n + w.index) (n + i) ≡ leb w.index i = leb-moved n w.index i in
        let b : ltb (n + i) (n + w.index + w.remove) ≡ ltb i (w.index + w.remove) = ltb-moved n i w.index w.remove in
        let rest = go-moved ws i in
        (λ d. (a d && b d) || rest d)

    woven-moved : (ws : List Change) (i j : ℕ) (ys : List Event) → n + i ≡ j → woven (map moved_change ws) j (map (moved_event lines bytes n) ys) ≡ map moved_tagged (woven ws i ys)
    woven-moved ws i j [] e = ap (events_at (map moved_change ws)) (sym e) ∙ come-moved ws i
    woven-moved ws i j (y ∷ ys) e =
        let come : events_at (map moved_change ws) j ≡ map moved_tagged (events_at ws i) = ap (events_at (map moved_change ws)) (sym e) ∙ come-moved ws i in
        let go : is_removed (map moved_change ws) j ≡ is_removed ws i = ap (is_removed (map moved_change ws)) (sym e) ∙ go-moved ws i in
        let rest = woven-moved ws (i + 1) (j + 1) ys (omega arith) in
        let stays : List Tagged = cond (is_removed ws i) [] (as_listed i y ∷ []) in
        (λ d. come d ++ (cond (go d) [] (as_listed (sym e d) (moved_event lines bytes n y) ∷ []) ++ rest d))
        ∙ ap (λ ts. map moved_tagged (events_at ws i) ++ (ts ++ map moved_tagged (woven ws (i + 1) ys))) (cond-of (map moved_tagged) (is_removed ws i) [] (as_listed i y ∷ []))
        ∙ ap (λ ts. map moved_tagged (events_at ws i) ++ ts) (sym (map-append moved_tagged stays (woven ws (i + 1) ys)))
        ∙ sym (map-append moved_tagged (events_at ws i) (stays ++ woven ws (i + 1) ys))

    none-before : (b : Identity) → IsNamedBelow n b → (ts : List Tagged) → place_in b (map moved_tagged ts) ≡ None
    none-before b h [] = refl
    none-before b h (t ∷ ts) = let e = same-below n b t.identity h in let r = none-before b h ts in (λ d. cond (e d) (Some 0) (option_map suc (r d)))

    place-moved : (b : Identity) (ts : List Tagged) → place_in (named n b) (map moved_tagged ts) ≡ place_in b ts
    place-moved b [] = refl
    place-moved b (t ∷ ts) = let e = same-moved n b t.identity in let r = place-moved b ts in (λ d. cond (e d) (Some 0) (option_map suc (r d)))

    -- ---- both lists

    module _ (first second : List Tagged) (h : AllByRecursion (IsOfFirst n) first) where
      abbrev all_tagged : List Tagged
      all_tagged = first ++ map moved_tagged second

      place-first : (b : Identity) → IsNamedBelow n b → place_in b all_tagged ≡ place_in b first
      place-first b l = place_in-append b first (map moved_tagged second) ∙ ap (or_after (length first) (place_in b first)) (none-before b l second) ∙ or-none (place_in b first)
        where
          or-none : (o : Option ℕ) → or_after (length first) o None ≡ o
          or-none None = refl
          or-none (Some p) = refl

      place-second : (b : Identity) → place_in (named n b) all_tagged ≡ moved_index (length first) (place_in b second)
      place-second b =
          place_in-append (named n b) first (map moved_tagged second)
          ∙ (let e = none-behind n b first h in let r = place-moved b second in (λ d. or_after (length first) (e d) (r d)))
          ∙ moved-is (place_in b second)
        where
          moved-is : (o : Option ℕ) → option_map (λ p. length first + p) o ≡ moved_index (length first) o
          moved-is None = refl
          moved-is (Some p) = let z : length first + p ≡ p + length first = omega arith in ap Some z

      relink-first : (b : Identity) (e : Event) → IsOfFirstAs n b e → relinked (placed_end all_tagged b) e ≡ relinked (placed_end first b) e
      relink-first (of_list i) e k = relinked-agree (λ d. place_in (of_list d) all_tagged) (λ d. place_in (of_list d) first) n e (λ d l. place-first (of_list d) l) k.1
      relink-first (of_child c i) e k = let l : (d : ℕ) → place_in (of_child c d) all_tagged ≡ place_in (of_child c d) first = λ d. place-first (of_child c d) k in (λ j. relinked (λ d. l d j) e)
      relink-first of_addition e k = refl

      placed-first : (ts : List Tagged) → AllByRecursion (IsOfFirst n) ts → placed_in all_tagged ts ≡ placed_in first ts
      placed-first [] k = refl
      placed-first (t ∷ ts) k = let e = relink-first t.identity t.event k.0 in let r = placed-first ts k.1 in (λ d. e d ∷ r d)

      module _ (as_long : m ≡ length first) where
        relink-second : (b : Identity) (e : Event) → relinked (placed_end all_tagged (named n b)) (moved_event lines bytes (further m b) e) ≡ moved_event lines bytes (length first) (relinked (placed_end second b) e)
        relink-second (of_list i) e =
            relink-moved lines bytes (λ d. place_in (of_list d) all_tagged) (λ d. place_in (of_list d) second) n (length first)
            (λ d. (let z : d + n ≡ n + d = omega arith in ap (λ j. place_in (of_list j) all_tagged) z) ∙ place-second (of_list d)) e
        relink-second (of_child c i) e =
            relink-moved lines bytes (λ d. place_in (of_child (n + c) d) all_tagged) (λ d. place_in (of_child c d) second) 0 (length first)
            (λ d. (let z : d + 0 ≡ d = omega arith in ap (λ j. place_in (of_child (n + c) j) all_tagged) z) ∙ place-second (of_child c d)) e
        relink-second of_addition e = relink-moved lines bytes Some Some m (length first) (λ d. let z : d + m ≡ d + length first = omega arith in ap Some z) e

        placed-second : (ts : List Tagged) → placed_in all_tagged (map moved_tagged ts) ≡ map (moved_event lines bytes (length first)) (placed_in second ts)
        placed-second [] = refl
        placed-second (t ∷ ts) = let e = relink-second t.identity t.event in let r = placed-second ts in (λ d. e d ∷ r d)

        placed-both : placed all_tagged ≡ placed first ++ map (moved_event lines bytes (length first)) (placed second)
        placed-both =
            map-append (λ (u : Tagged). relinked (placed_end all_tagged u.identity) u.event) first (map moved_tagged second)
            ∙ (let e = placed-first first h in let r = placed-second second in (λ d. e d ++ r d))

-- ---- lists after changes

-- a change of a list of n events lies inside it, and so do the links of what comes
pub record IsOfList (n : ℕ) (w : Change) : Type 0 where
  pub index : w.index < n
  pub end : w.index + w.remove ≤ n
  pub come : AllByRecursion (IsOfFirst n) w.events

-- The list after changes of both lists is the first after its changes, and the second after its own, moved
pub changed-both : (lines bytes : ℕ) (x y : List Event) (ws vs : List Change) → All (EndsBelow (length x)) x → AllByRecursion (IsOfList (length x)) ws
    → let first = changed ws x in
    changed (ws ++ map (moved_change lines bytes (length x) (length first)) vs) (x ++ map (moved_event lines bytes (length x)) y) ≡ first ++ map (moved_event lines bytes (length first)) (changed vs y)
changed-both lines bytes x y ws vs k h =
    let n = length x in
    let front : List Tagged = woven ws 0 x in
    let m : ℕ = length (changed ws x) in
    let same : m ≡ length front = length-map front (λ (u : Tagged). relinked (placed_end front u.identity) u.event) in
    let of_first = of_first-woven n ws 0 x (omega arith) (recursion_from_All (EndsBelow n) x k) (every-map (IsOfList n) (λ (w : Change). AllByRecursion (IsOfFirst n) w.events) (λ w c. c.come) ws h) in
    ap placed
    (woven-both ws (map (moved_change lines bytes n m) vs) 0 n x (map (moved_event lines bytes n) y) (omega arith) (every-map (IsOfList n) (LiesWithin n) (λ w c. (c.index, c.end)) ws h) (changes-behind lines bytes n m vs)
    ∙ ap (λ ts. front ++ ts) (woven-moved lines bytes n m vs 0 n y (omega arith)))
    ∙ placed-both lines bytes n m front (woven vs 0 y) of_first same
    ∙ ap (λ r. placed front ++ map (moved_event lines bytes r) (changed vs y)) (sym same)

-- ==== The list of two, one behind the other, with children in place of their chains: the first with its children, and behind it the second with its own, moved. No chain may lead from one into the other.
-- each chunk of the chains that fit ends inside the list, and its chain goes on behind it
abbrev pub GoForward : Option Content → List Event → Type 0
GoForward wanted events = (c : ℕ) → begins wanted events c ≡ true → AllByRecursion (IsForward events) (chain_of events c)

-- lists whose chains can be read go forward
pub ready-forward : (tab : ℕ) (bytes : List ℕ) (wanted : Option Content) (events : List Event) → IsReady tab bytes wanted events → GoForward wanted events
ready-forward tab bytes wanted events ready = forward-chain tab bytes wanted events ready

-- ---- cases

-- a chain that begins does so inside the list
pub starts-inside : (wanted : Option Content) (events : List Event) (c : ℕ) → begins wanted events c ≡ true → c < length events
starts-inside wanted events c h =
    let fit : fits wanted events c ≡ true = (and_parts (fits wanted events c) (is_none (previous_of events c)) h).0 in
    by_option (slice_get events c) (λ e. absurd (let no : false ≡ true = ap (λ o. some_fits wanted (option_and_then content_of o)) (sym e) ∙ fit in cc)) (λ a e. slice_get_within events c a e)

-- the numbers of two ranges, one behind the other
range-both : (m k i : ℕ) → range_with_len i (m + k) ≡ range_with_len i m ++ range_with_len (i + m) k
range-both zero k i = let z : 0 + k ≡ k = omega arith in let y : i ≡ i + 0 = omega arith in (λ d. range_with_len (y d) (z d))
range-both (suc m) k i =
    let z : suc m + k ≡ suc (m + k) = omega arith in
    let y : i + 1 + m ≡ i + suc m = omega arith in
    ap (range_with_len i) z ∙ ap (λ r. i ∷ r) (range-both m k (i + 1) ∙ ap (λ j. range_with_len (i + 1) m ++ range_with_len j k) y)

-- the chunks of a chain in a list in which the events of another are found at other indices
module _ (at : ℕ → ℕ) (events all : List Event) (next : (i : ℕ) → i < length events → next_of all (at i) ≡ option_map at (next_of events i)) where
  chain-found : (f h i : ℕ) → AllByRecursion (IsForward events) (chain_from f events i) → length events ≤ f + i → f ≤ h → i < length events → chain_from h all (at i) ≡ map at (chain_from f events i)
  chain-found zero h i k l m b = absurd (omega arith)
  chain-found (suc f) zero i k l m b = absurd (omega arith)
  chain-found (suc f) (suc h) i k l m b =
      ap (λ o. at i ∷ unwrap_or (option_map (λ d. chain_from h all d) o) []) (next i b)
      ∙ ap (λ ks. at i ∷ ks) (by_option (next_of events i) (λ e. rw e refl) (λ d e.
      let on = k.0.next d e in
      rw e (chain-found f h d (rw e at k.1) (omega (arith, on.0)) (omega arith) (omega (arith, on.1)))))

  module _ (to : Point → Point) (place : (i : ℕ) → i < length events → place_at all (at i) ≡ to (place_at events i)) (behind : (i : ℕ) → at i + 1 ≡ at (i + 1)) where
    ends-found : (ks : List ℕ) → AllByRecursion (IsForward events) ks → map (λ k. place_at all (k + 1)) (map at ks) ≡ map to (map (λ k. place_at events (k + 1)) ks)
    ends-found [] h = refl
    ends-found (k ∷ ks) h =
        let e = ap (place_at all) (behind k) ∙ place (k + 1) h.0.within in
        let r = ends-found ks h.1 in
        (λ d. e d ∷ r d)

-- ---- children moved

module _ (lines bytes : ℕ) where
  abbrev child_moved : List Event → List Event
  child_moved child = map (moved_event lines bytes 0) child

  pub before-moved : (p q : Point) → stands_before (moved_point lines bytes p) (moved_point lines bytes q) ≡ stands_before p q
  before-moved p q = before p.index p.vs q.index q.vs
    where
      before : (i j m n : ℕ) → (nat_lt (i + bytes) (m + bytes) || ((i + bytes == m + bytes) && nat_lt j n)) ≡ (nat_lt i m || ((i == m) && nat_lt j n))
      before i j m n = grind (arith, nat_tests)

  front-moved : (end : Point) (es : List Event) → front_until (moved_point lines bytes end) (child_moved es) ≡ child_moved (front_until end es)
  front-moved end [] = refl
  front-moved end (e ∷ es) =
      let b = before-moved end e.point in
      let r = front-moved end es in
      take_while-cons (λ (e : Event). not (stands_before (moved_point lines bytes end) e.point)) (moved_event lines bytes 0 e) (child_moved es)
      ∙ (λ d. cond (not (b d)) (moved_event lines bytes 0 e ∷ r d) [])
      ∙ sym (ap child_moved (take_while-cons (λ (e : Event). not (stands_before end e.point)) e es) ∙ sym (cond-of (map (moved_event lines bytes 0)) (not (stands_before end e.point)) (e ∷ front_until end es) []))

  parts-moved : (ends : List Point) (es : List Event) → parts (map (moved_point lines bytes) ends) (child_moved es) ≡ map child_moved (parts ends es)
  parts-moved [] es = refl
  parts-moved (end ∷ []) es = refl
  parts-moved (end ∷ next ∷ ends) es =
      let front = front-moved end es in
      let long : length (child_moved (front_until end es)) ≡ length (front_until end es) = length-map (front_until end es) (moved_event lines bytes 0) in
      let rest : drop (length (front_until (moved_point lines bytes end) (child_moved es))) (child_moved es) ≡ child_moved (drop (length (front_until end es)) es) =
      ap (λ n. drop n (child_moved es)) (ap length front ∙ long) ∙ drop-map (moved_event lines bytes 0) (length (front_until end es)) es in
      (λ d. front d ∷ parts (map (moved_point lines bytes) (next ∷ ends)) (rest d)) ∙ ap (λ ps. child_moved (front_until end es) ∷ ps) (parts-moved (next ∷ ends) (drop (length (front_until end es)) es))

  module _ (n m : ℕ) where
    abbrev behind : ℕ → ℕ
    behind i = n + i

    tagged-moved : (c j : ℕ) (es : List Event) → tagged_child (n + c) j (child_moved es) ≡ map (moved_tagged lines bytes n m) (tagged_child c j es)
    tagged-moved c j [] = refl
    tagged-moved c j (e ∷ es) = ap (λ ts. moved_tagged lines bytes n m (record { identity = of_child c j; event = e }) ∷ ts) (tagged-moved c (j + 1) es)

    changes-moved : (c j : ℕ) (ks : List ℕ) (ps : List (List Event)) → part_changes (n + c) j (map behind ks) (map child_moved ps) ≡ map (moved_change lines bytes n m) (part_changes c j ks ps)
    changes-moved c j [] ps = refl
    changes-moved c j (k ∷ ks) [] = refl
    changes-moved c j (k ∷ ks) (p ∷ ps) =
        let long : length (child_moved p) ≡ length p = length-map p (moved_event lines bytes 0) in
        let come = tagged-moved c j p in
        let rest = ap (λ d. part_changes (n + c) (j + d) (map behind ks) (map child_moved ps)) long ∙ changes-moved c (j + length p) ks ps in
        (λ d. (let w : Change = record { index = n + k; remove = 2; events = come d } in w) ∷ rest d)

    chain-changes-moved : (ks : List ℕ) (ps : List (List Event)) → chain_changes (record { chunks = map behind ks; parts = map child_moved ps }) ≡ map (moved_change lines bytes n m) (chain_changes (record { chunks = ks; parts = ps }))
    chain-changes-moved [] ps = refl
    chain-changes-moved (k ∷ ks) ps = changes-moved k 0 (k ∷ ks) ps

-- ---- both lists

module _ (x y : List Event) (lines bytes : ℕ) where
  abbrev n : ℕ
  n = length x

  abbrev both : List Event
  both = x ++ map (moved_event lines bytes (length x)) y

  first-at : (i : ℕ) → i < length x → slice_get both i ≡ slice_get x i
  first-at i l = get-front x (map (moved_event lines bytes (length x)) y) i l

  second-at : (i : ℕ) → slice_get both (length x + i) ≡ option_map (moved_event lines bytes (length x)) (slice_get y i)
  second-at i = slice_get-behind x (map (moved_event lines bytes (length x)) y) i ∙ slice_get-map (moved_event lines bytes (length x)) y i

  first-next : (i : ℕ) → i < length x → next_of both i ≡ option_map (λ j. j) (next_of x i)
  first-next i l = ap (option_and_then (λ (e : Event). option_and_then (λ (l : Link). l.next) e.link)) (first-at i l) ∙ sym (option_map_id (next_of x i))

  second-next : (i : ℕ) → next_of both (length x + i) ≡ option_map (λ j. length x + j) (next_of y i)
  second-next i = ap (option_and_then (λ (e : Event). option_and_then (λ (l : Link). l.next) e.link)) (second-at i) ∙ of_event (slice_get y i)
    where
      of_end : (o : Option ℕ) → moved_index (length x) o ≡ option_map (λ j. length x + j) o
      of_end None = refl
      of_end (Some j) = let z : j + length x ≡ length x + j = omega arith in ap Some z

      of_link : (o : Option Link) → option_and_then (λ (l : Link). l.next) (moved_link (length x) o) ≡ option_map (λ j. length x + j) (option_and_then (λ (l : Link). l.next) o)
      of_link None = refl
      of_link (Some l) = of_end l.next

      of_event : (o : Option Event) → option_and_then (λ (e : Event). option_and_then (λ (l : Link). l.next) e.link) (option_map (moved_event lines bytes (length x)) o)
          ≡ option_map (λ j. length x + j) (option_and_then (λ (e : Event). option_and_then (λ (l : Link). l.next) e.link) o)
      of_event None = refl
      of_event (Some e) = of_link e.link

  pub first-place : (i : ℕ) → i < length x → place_at both i ≡ place_at x i
  first-place i l = ap (λ o. unwrap_or (option_map (λ (e : Event). e.point) o) (point 1 1 0 0)) (first-at i l)

  pub second-place : (i : ℕ) → i < length y → place_at both (length x + i) ≡ moved_point lines bytes (place_at y i)
  second-place i l =
      let e = some-get y i l in
      ap (λ o. unwrap_or (option_map (λ (e : Event). e.point) o) (point 1 1 0 0)) (second-at i ∙ ap (option_map (moved_event lines bytes (length x))) e.1)
      ∙ sym (ap (λ o. moved_point lines bytes (unwrap_or (option_map (λ (e : Event). e.point) o) (point 1 1 0 0))) e.1)

  -- ---- where chains begin

  module _ (wanted : Option Content) where
    first-begins : (i : ℕ) → i < length x → begins wanted both i ≡ begins wanted x i
    first-begins i l =
        ap (λ o. some_fits wanted (option_and_then content_of o) && is_none (option_and_then (λ (e : Event). option_and_then (λ (l : Link). l.previous) e.link) o)) (first-at i l)

    second-begins : (i : ℕ) → begins wanted both (length x + i) ≡ begins wanted y i
    second-begins i =
        ap (λ o. some_fits wanted (option_and_then content_of o) && is_none (option_and_then (λ (e : Event). option_and_then (λ (l : Link). l.previous) e.link) o)) (second-at i) ∙ of_event (slice_get y i)
      where
        of_end : (o : Option ℕ) → is_none (moved_index (length x) o) ≡ is_none o
        of_end None = refl
        of_end (Some j) = refl

        of_link : (o : Option Link) → (some_fits wanted (option_map (λ (l : Link). l.content) (moved_link (length x) o)) && is_none (option_and_then (λ (l : Link). l.previous) (moved_link (length x) o)))
            ≡ (some_fits wanted (option_map (λ (l : Link). l.content) o) && is_none (option_and_then (λ (l : Link). l.previous) o))
        of_link None = refl
        of_link (Some l) = ap (λ b. some_fits wanted (Some l.content) && b) (of_end l.previous)

        of_event : (o : Option Event)
            → (some_fits wanted (option_and_then content_of (option_map (moved_event lines bytes (length x)) o))
            && is_none (option_and_then (λ (e : Event). option_and_then (λ (l : Link). l.previous) e.link) (option_map (moved_event lines bytes (length x)) o)))
            ≡ (some_fits wanted (option_and_then content_of o) && is_none (option_and_then (λ (e : Event). option_and_then (λ (l : Link). l.previous) e.link) o))
        of_event None = refl
        of_event (Some e) = of_link e.link

    first-starts : (k i : ℕ) → i + k ≤ length x → filter (begins wanted both) (range_with_len i k) ≡ filter (begins wanted x) (range_with_len i k)
    first-starts zero i l = refl
    first-starts (suc k) i l =
        let b = first-begins i (omega arith) in
        let r = first-starts k (i + 1) (omega arith) in
        (λ d. cond (b d) (i ∷ r d) (r d))

    second-starts : (k i j : ℕ) → length x + i ≡ j → filter (begins wanted both) (range_with_len j k) ≡ map (λ c. length x + c) (filter (begins wanted y) (range_with_len i k))
    second-starts zero i j e = refl
    second-starts (suc k) i j e =
        let b = ap (begins wanted both) (sym e) ∙ second-begins i in
        let r = second-starts k (i + 1) (j + 1) (omega arith) in
        (λ d. cond (b d) (sym e d ∷ r d) (r d)) ∙ cond-of (map (λ c. length x + c)) (begins wanted y i) (i ∷ filter (begins wanted y) (range_with_len (i + 1) k)) (filter (begins wanted y) (range_with_len (i + 1) k))

    -- chains that fit begin in both where they begin in the first, and behind it where they begin in the second
    pub starts-both : fitting_starts wanted both ≡ fitting_starts wanted x ++ map (λ c. length x + c) (fitting_starts wanted y)
    starts-both =
        let long : length both ≡ length x + length y = omega (arith, length-append x (map (moved_event lines bytes (length x)) y), length-map y (moved_event lines bytes (length x))) in
        ap (λ k. filter (begins wanted both) (range_with_len 0 k)) long
        ∙ ap (filter (begins wanted both)) (range-both (length x) (length y) 0)
        ∙ filter-append (begins wanted both) (range_with_len 0 (length x)) (range_with_len (0 + length x) (length y))
        ∙ (let f = first-starts (length x) 0 (omega arith) in let s = second-starts (length y) 0 (0 + length x) (omega arith) in (λ d. f d ++ s d))

  -- ---- chains

  -- a chain of the first
  pub first-chain : (c : ℕ) → c < length x → AllByRecursion (IsForward x) (chain_of x c) → chain_of both c ≡ chain_of x c
  first-chain c l k =
      chain-found (λ i. i) x both first-next (length x) (length both) c k (omega arith) (omega (arith, length-append x (map (moved_event lines bytes (length x)) y))) l ∙ map-id (chain_of x c)

  -- a chain of the second
  pub second-chain : (c : ℕ) → c < length y → AllByRecursion (IsForward y) (chain_of y c) → chain_of both (length x + c) ≡ map (λ i. length x + i) (chain_of y c)
  second-chain c l k =
      chain-found (λ i. length x + i) y both (λ i b. second-next i) (length y) (length both) c k (omega arith)
      (omega (arith, length-append x (map (moved_event lines bytes (length x)) y), length-map y (moved_event lines bytes (length x)))) l

  first-divided : (c : ℕ) (child : List Event) → c < length x → AllByRecursion (IsForward x) (chain_of x c) → divided both c child ≡ divided x c child
  first-divided c child l k =
      let chain = first-chain c l k in
      let ends : map (λ k. place_at both (k + 1)) (chain_of x c) ≡ map (λ k. place_at x (k + 1)) (chain_of x c) =
      ap (map (λ k. place_at both (k + 1))) (sym (map-id (chain_of x c))) ∙ ends-found (λ i. i) x both first-next (λ p. p) first-place (λ i. refl) (chain_of x c) k ∙ map-id (map (λ k. place_at x (k + 1)) (chain_of x c)) in
      let all = ap (map (λ k. place_at both (k + 1))) chain ∙ ends in
      (λ d. (let v : Divided = record { chunks = chain d; parts = parts (all d) child } in v))

  second-divided : (c : ℕ) (child : List Event) → c < length y → AllByRecursion (IsForward y) (chain_of y c)
      → divided both (length x + c) (map (moved_event lines bytes 0) child)
      ≡ record { chunks = map (λ i. length x + i) (chain_of y c); parts = map (map (moved_event lines bytes 0)) (divided y c child).parts }
  second-divided c child l k =
      let chain = second-chain c l k in
      let ends = ap (map (λ k. place_at both (k + 1))) chain ∙ ends-found (λ i. length x + i) y both (λ i b. second-next i) (moved_point lines bytes) second-place (λ i. omega arith) (chain_of y c) k in
      let ps = parts-moved lines bytes (map (λ k. place_at y (k + 1)) (chain_of y c)) child in
      (λ d. (let v : Divided = record { chunks = chain d; parts = parts (ends d) (map (moved_event lines bytes 0) child) } in v))
      ∙ (λ d. (let v : Divided = record { chunks = map (λ i. length x + i) (chain_of y c); parts = ps d } in v))

  -- ---- what children change

  module _ (wanted : Option Content) where
    second-changes : GoForward wanted y → (m : ℕ) (cs : List ℕ) (children : List (List Event)) → AllByRecursion (λ c. begins wanted y c ≡ true) cs
        → flat_map chain_changes (divided_over both (map (λ c. length x + c) cs) (map (map (moved_event lines bytes 0)) children)) ≡ map (moved_change lines bytes (length x) m) (flat_map chain_changes (divided_over y cs children))
    second-changes k m [] children h = refl
    second-changes k m (c ∷ cs) [] h = refl
    second-changes k m (c ∷ cs) (child ∷ children) h =
        let one : chain_changes (divided both (length x + c) (map (moved_event lines bytes 0) child)) ≡ map (moved_change lines bytes (length x) m) (chain_changes (divided y c child)) =
        ap chain_changes (second-divided c child (starts-inside wanted y c h.0) (k c h.0)) ∙ chain-changes-moved lines bytes (length x) m (chain_of y c) (divided y c child).parts in
        let rest = second-changes k m cs children h.1 in
        (λ d. one d ++ rest d) ∙ sym (map-append (moved_change lines bytes (length x) m) (chain_changes (divided y c child)) (flat_map chain_changes (divided_over y cs children)))

    first-changes : GoForward wanted x → (cs more : List ℕ) (children others : List (List Event)) → length children ≡ length cs → AllByRecursion (λ c. begins wanted x c ≡ true) cs
        → flat_map chain_changes (divided_over both (cs ++ more) (children ++ others)) ≡ flat_map chain_changes (divided_over x cs children) ++ flat_map chain_changes (divided_over both more others)
    first-changes k [] more [] others e h = refl
    first-changes k [] more (child ∷ children) others e h = absurd (omega arith)
    first-changes k (c ∷ cs) more [] others e h = absurd (omega arith)
    first-changes k (c ∷ cs) more (child ∷ children) others e h =
        let one = ap chain_changes (first-divided c child (starts-inside wanted x c h.0) (k c h.0)) in
        let rest = first-changes k cs more children others (omega arith) h.1 in
        (λ d. one d ++ rest d) ∙ sym (append_assoc (chain_changes (divided x c child)) (flat_map chain_changes (divided_over x cs children)) (flat_map chain_changes (divided_over both more others)))

-- what comes in a list of n events is of it
come-of : (n c j : ℕ) (es : List Event) → c < n → AllByRecursion (IsOfFirst n) (tagged_child c j es)
come-of n c j [] l = tt
come-of n c j (e ∷ es) l = (l, come-of n c (j + 1) es l)

changes-of : (events : List Event) (c j : ℕ) (ks : List ℕ) (ps : List (List Event)) → c < length events → AllByRecursion (IsForward events) ks → AllByRecursion (IsOfList (length events)) (part_changes c j ks ps)
changes-of events c j [] ps l h = tt
changes-of events c j (k ∷ ks) [] l h = tt
changes-of events c j (k ∷ ks) (p ∷ ps) l h =
    let w = h.0.within in
    (record { index = omega arith; end = omega arith; come = come-of (length events) c j p l }, changes-of events c (j + length p) ks ps l h.1)

chain-changes-of : (events : List Event) (ks : List ℕ) (ps : List (List Event)) → AllByRecursion (IsForward events) ks → AllByRecursion (IsOfList (length events)) (chain_changes (record { chunks = ks; parts = ps }))
chain-changes-of events [] ps h = tt
chain-changes-of events (k ∷ ks) ps h = let w = h.0.within in changes-of events k 0 (k ∷ ks) ps (omega arith) h

all-changes-of : (wanted : Option Content) (events : List Event) → GoForward wanted events → (cs : List ℕ) (children : List (List Event)) → AllByRecursion (λ c. begins wanted events c ≡ true) cs
    → AllByRecursion (IsOfList (length events)) (flat_map chain_changes (divided_over events cs children))
all-changes-of wanted events k [] children h = tt
all-changes-of wanted events k (c ∷ cs) [] h = tt
all-changes-of wanted events k (c ∷ cs) (child ∷ children) h =
    every-append (IsOfList (length events)) (chain_changes (divided events c child)) (flat_map chain_changes (divided_over events cs children))
    (chain-changes-of events (chain_of events c) (divided events c child).parts (k c h.0)) (all-changes-of wanted events k cs children h.1)

pub all-begin : (wanted : Option Content) (events : List Event) → AllByRecursion (λ c. begins wanted events c ≡ true) (fitting_starts wanted events)
all-begin wanted events = recursion_from_All (λ c. begins wanted events c ≡ true) (fitting_starts wanted events) (filter_passes (begins wanted events) (range_with_len 0 (length events)))

-- With children in place of the chains of both that fit, the list is the first with its children, and behind it the second with its own, moved
pub children-of-both : (wanted : Option Content) (x y : List Event) (cs ds : List (List Event)) (lines bytes : ℕ)
    → GoForward wanted x → GoForward wanted y → All (EndsBelow (length x)) x → length cs ≡ length (fitting_starts wanted x)
    → let first = with_children wanted x cs in
    with_children wanted (x ++ map (moved_event lines bytes (length x)) y) (cs ++ map (map (moved_event lines bytes 0)) ds) ≡ first ++ map (moved_event lines bytes (length first)) (with_children wanted y ds)
children-of-both wanted x y cs ds lines bytes k l ends e =
    let first = with_children wanted x cs in
    let all = x ++ map (moved_event lines bytes (length x)) y in
    let changes : child_changes wanted all (cs ++ map (map (moved_event lines bytes 0)) ds) ≡ child_changes wanted x cs ++ map (moved_change lines bytes (length x) (length first)) (child_changes wanted y ds) =
    ap (λ is. flat_map chain_changes (divided_over all is (cs ++ map (map (moved_event lines bytes 0)) ds))) (starts-both x y lines bytes wanted)
    ∙ first-changes x y lines bytes wanted k (fitting_starts wanted x) (map (λ c. length x + c) (fitting_starts wanted y)) cs (map (map (moved_event lines bytes 0)) ds) e (all-begin wanted x)
    ∙ ap (λ ws. child_changes wanted x cs ++ ws) (second-changes x y lines bytes wanted l (length first) (fitting_starts wanted y) ds (all-begin wanted y)) in
    ap (λ ws. changed ws all) changes
    ∙ changed-both lines bytes x y (child_changes wanted x cs) (child_changes wanted y ds) ends (all-changes-of wanted x k (fitting_starts wanted x) cs (all-begin wanted x))

-- ---- behind others in one document: links alone lead further on

-- events that are moved by no line and no byte
pub moved-further : (n : ℕ) (e : Event) → moved_event 0 0 n e ≡ further_on n e
moved-further n e =
    let line : e.point.line + 0 ≡ e.point.line = omega arith in
    let index : e.point.index + 0 ≡ e.point.index = omega arith in
    (λ d. (let p : Point = record { line = line d; column = e.point.column; index = index d; vs = e.point.vs } in record (further_on n e) { point = p }))

pub further-all : (n : ℕ) (es : List Event) → map (moved_event 0 0 n) es ≡ map (further_on n) es
further-all n [] = refl
further-all n (e ∷ es) = let a = moved-further n e in let r = further-all n es in (λ d. a d ∷ r d)

pub no-further : (es : List Event) → map (moved_event 0 0 0) es ≡ es
no-further [] = refl
no-further (e ∷ es) = let a = moved-further 0 e ∙ ap (λ (l : Option Link). record e { link = l }) (same e.link) in let r = no-further es in (λ d. a d ∷ r d)
  where
    end : (o : Option ℕ) → moved_index 0 o ≡ o
    end None = refl
    end (Some i) = let z : i + 0 ≡ i = omega arith in ap Some z

    same : (o : Option Link) → moved_link 0 o ≡ o
    same None = refl
    same (Some l) = let p = end l.previous in let q = end l.next in (λ d. (let k : Link = record { previous = p d; next = q d; content = l.content } in Some k))

none-further : (ds : List (List Event)) → map (map (moved_event 0 0 0)) ds ≡ ds
none-further [] = refl
none-further (d ∷ ds) = let a = no-further d in let r = none-further ds in (λ i. a i ∷ r i)

-- With children in place of the chains of two lists of one document
pub children-behind : (wanted : Option Content) (x y : List Event) (cs ds : List (List Event)) → GoForward wanted x → GoForward wanted y → All (EndsBelow (length x)) x → length cs ≡ length (fitting_starts wanted x)
    → let first = with_children wanted x cs in with_children wanted (x ++ map (further_on (length x)) y) (cs ++ ds) ≡ first ++ map (further_on (length first)) (with_children wanted y ds)
children-behind wanted x y cs ds k l ends e =
    let first = with_children wanted x cs in
    let events = sym (further-all (length x) y) in
    let children = sym (none-further ds) in
    (λ i. with_children wanted (x ++ events i) (cs ++ children i)) ∙ children-of-both wanted x y cs ds 0 0 k l ends e ∙ ap (λ es. first ++ es) (further-all (length first) (with_children wanted y ds))
