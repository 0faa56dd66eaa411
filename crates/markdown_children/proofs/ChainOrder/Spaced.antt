-- What children change is apart.
use Rattle.markdown_children.proofs.Prelude.{◌≡◌, ℕ, suc, ◌+◌, ◌≤◌, List, [], ◌∷◌, ◌++◌, length, map, drop, Option, None, refl, sym, ◌∙◌, ap, subst, arith, flat_map, AllByRecursion, All-from_recursion, Content, Event, Point, of_list, Change, place_in, AreApart, chain_of, fitting_starts, IsReady, place_at, HasNo, Identity, length-map, AreSpaced, ChangesAreApart, front_until, parts, Divided, divided, divided_over, tagged_child, part_changes, first_chunk, chain_changes, child_changes}
use Rattle.markdown_children.proofs.ChainOrder.Following.{follow_one_another}

-- ---- one part a chunk

pub length-parts : (ends : List Point) (es : List Event) → length (parts ends es) ≡ length ends
length-parts [] es = refl
length-parts (end ∷ []) es = refl
length-parts (end ∷ next ∷ ends) es = ap suc (length-parts (next ∷ ends) (drop (length (front_until end es)) es))

pub length-map_ends : (events : List Event) (ks : List ℕ) → length (map (λ k. place_at events (k + 1)) ks) ≡ length ks
length-map_ends events ks = length-map ks (λ k. place_at events (k + 1))

-- a part for each chunk
abbrev pub HasParts : Divided → Type 0
HasParts d = length d.chunks ≡ length d.parts

pub divided-parts : (events : List Event) (c : ℕ) (child : List Event) → HasParts (divided events c child)
divided-parts events c child = sym (length-parts (map (λ k. place_at events (k + 1)) (chain_of events c)) child ∙ length-map_ends events (chain_of events c))

pub divided_over-parts : (events : List Event) (cs : List ℕ) (children : List (List Event)) → AllByRecursion HasParts (divided_over events cs children)
divided_over-parts events (c ∷ cs) (child ∷ children) = (divided-parts events c child, divided_over-parts events cs children)
divided_over-parts events cs children = tt

-- ---- apart

pub AreSpaced-le : (from n : ℕ) (ks : List ℕ) → AreSpaced from ks n → from ≤ n
AreSpaced-le from n [] h = h
AreSpaced-le from n (k ∷ ks) h = let a : from ≤ k = h.0 in omega (arith, AreSpaced-le (k + 2) n ks h.1)

changes-spaced : (c j from n : ℕ) (ks more : List ℕ) (ps : List (List Event)) (ws : List Change) → length ks ≡ length ps → AreSpaced from (ks ++ more) n
    → ((m : ℕ) → AreSpaced m more n → AreApart m ws n) → AreApart from (part_changes c j ks ps ++ ws) n
changes-spaced c j from n [] more ps ws e h rest = rest from h
changes-spaced c j from n (k ∷ ks) more [] ws e h rest = absurd (omega arith)
changes-spaced c j from n (k ∷ ks) more (p ∷ ps) ws e h rest = (h.0, changes-spaced c (j + length p) (k + 2) n ks more ps ws (omega arith) h.1 rest)

pub chains-spaced : (events : List Event) (cs : List ℕ) (children : List (List Event)) (from n : ℕ) → AreSpaced from (flat_map (chain_of events) cs) n
    → AreApart from (flat_map chain_changes (divided_over events cs children)) n
chains-spaced events (c ∷ cs) (child ∷ children) from n h =
    let d : Divided = divided events c child in
    changes-spaced (first_chunk d.chunks) 0 from n d.chunks (flat_map (chain_of events) cs) d.parts (flat_map chain_changes (divided_over events cs children)) (divided-parts events c child) h
    (λ m r. chains-spaced events cs children m n r)
chains-spaced events cs children from n h = AreSpaced-le from n (flat_map (chain_of events) cs) h

-- ---- new

child-new : (n c j : ℕ) (es : List Event) → place_in (of_list n) (tagged_child c j es) ≡ None
child-new n c j [] = refl
child-new n c j (e ∷ es) = rw (child-new n c (j + 1) es) refl

-- a name that no event of a child has is new to its changes
pub has_no-parts : (b : Identity) (c j : ℕ) (ks : List ℕ) (ps : List (List Event)) (ws : List Change) → ((j : ℕ) (es : List Event) → place_in b (tagged_child c j es) ≡ None)
    → HasNo b ws → HasNo b (part_changes c j ks ps ++ ws)
has_no-parts b c j (k ∷ ks) (p ∷ ps) ws none h = (none j p, has_no-parts b c (j + length p) ks ps ws none h)
has_no-parts b c j ks ps ws none h = h

chains-new : (n : ℕ) (ds : List Divided) → HasNo (of_list n) (flat_map chain_changes ds)
chains-new n [] = tt
chains-new n (d ∷ ds) = has_no-parts (of_list n) (first_chunk d.chunks) 0 d.chunks d.parts (flat_map chain_changes ds) (child-new n (first_chunk d.chunks)) (chains-new n ds)

pub changes_are_apart : (tab : ℕ) (bytes : List ℕ) (wanted : Option Content) (events : List Event) (children : List (List Event)) → IsReady tab bytes wanted events → ChangesAreApart wanted events children
changes_are_apart tab bytes wanted events children ready =
    let f = follow_one_another tab bytes wanted events ready in
    record {
      apart = chains-spaced events (fitting_starts wanted events) children 0 (length events) (subst (λ (ks : List ℕ). AreSpaced 0 ks (length events)) (sym f.in_order) f.spaced);
      fresh = λ n. All-from_recursion (λ (w : Change). place_in (of_list n) w.events ≡ None) (child_changes wanted events children) (chains-new n (divided_over events (fitting_starts wanted events) children));
    }
