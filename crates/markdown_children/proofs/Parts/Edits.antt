-- The edits of the chains that fit.
use Rattle.markdown_children.proofs.Prelude.{◌≡◌, ℕ, zero, suc, ◌+◌, ◌*◌, ◌<◌, Bool, List, [], ◌∷◌, ◌++◌, length, map, Option, refl, sym, ◌∙◌, ap, subst, arith, length-append, flat_map, filter, All, AllByRecursion, range_with_len, All-from_recursion, Content, Event, Point, EndsBelow, Edit, AreDisjoint, AreDisjoint-le, chain_of, begins, fitting_starts, IsReady, place_at, IsWholeFrom, AreSpaced, HasEndsWithin, EditsGiveChildren, parts, Divided, divided, divided_over, child_place, part_edits, total, all_edits, first_chunk, every-filter, every-front, every-back, recursion_from_All}
use Rattle.markdown_children.proofs.ChainOrder.Following.{filter-yes, filter-no, by_test, follow_one_another}
use Rattle.markdown_children.proofs.ChainOrder.Spaced.{AreSpaced-le, divided-parts, changes_are_apart}
use Rattle.markdown_children.proofs.Parts.Kept.{joined, joined-parts}
use Rattle.markdown_children.proofs.Parts.Placed.{AreChains, edited-children}

-- ---- disjoint

-- edits are disjoint from an index on, and each of them is before another index
abbrev pub AreDisjointWithin : ℕ → List Edit → ℕ → Type 0
AreDisjointWithin from es n = AreDisjoint from es n × AllByRecursion (λ (e : Edit). e.index < n) es

edits-spaced : (f : ℕ → Option ℕ) (from n : ℕ) (ks more : List ℕ) (ps : List (List Event)) (es : List Edit) → length ks ≡ length ps → AreSpaced from (ks ++ more) n
    → ((m : ℕ) → AreSpaced m more n → AreDisjointWithin m es n) → AreDisjointWithin from (part_edits f ks ps ++ es) n
edits-spaced f from n [] more ps es e h rest = rest from h
edits-spaced f from n (k ∷ ks) more [] es e h rest = absurd (omega arith)
edits-spaced f from n (k ∷ ks) more (p ∷ ps) es e h rest =
    let r = edits-spaced f (k + 2) n ks more ps es (omega arith) h.1 rest in
    ((h.0, r.0), (omega (arith, AreDisjoint-le (part_edits f ks ps ++ es) (k + 2) n r.0), r.1))

pub all_edits-spaced : (events : List Event) (cs : List ℕ) (children : List (List Event)) (removed added from n : ℕ) → AreSpaced from (flat_map (chain_of events) cs) n
    → AreDisjointWithin from (all_edits removed added (divided_over events cs children)) n
all_edits-spaced events (c ∷ cs) (child ∷ children) removed added from n h =
    let d : Divided = divided events c child in
    edits-spaced (child_place d.chunks d.parts removed added) from n d.chunks (flat_map (chain_of events) cs) d.parts (all_edits (removed + 2 * length d.chunks) (added + total d.parts) (divided_over events cs children))
    (divided-parts events c child) h (λ m r. all_edits-spaced events cs children (removed + 2 * length d.chunks) (added + total d.parts) m n r)
all_edits-spaced events cs children removed added from n h = (AreSpaced-le from n (flat_map (chain_of events) cs) h, tt)

-- ---- the chains that fit begin at different chunks

abbrev pub IsRising : List ℕ → Type 0
IsRising [] = Unit {0}
IsRising (c ∷ cs) = AllByRecursion (λ (d : ℕ). c < d) cs × IsRising cs

range-above : (f i m : ℕ) → m < i → AllByRecursion (λ (d : ℕ). m < d) (range_with_len i f)
range-above zero i m l = tt
range-above (suc f) i m l = (l, range-above f (i + 1) m (omega arith))

pub rising : (test : ℕ → Bool) (f i : ℕ) → IsRising (filter test (range_with_len i f))
rising test zero i = tt
rising test (suc f) i = by_test (test i)
    (λ e. rw (filter-yes test i (range_with_len (i + 1) f) e) (every-filter (λ (d : ℕ). i < d) test (range_with_len (i + 1) f) (range-above f (i + 1) i (omega arith)), rising test f (i + 1)))
    (λ e. rw (filter-no test i (range_with_len (i + 1) f) e) (rising test f (i + 1)))

pub differ : (events : List Event) (c b : ℕ) (cs : List ℕ) (children : List (List Event)) → b ≡ c → AllByRecursion (λ (d : ℕ). c < d) cs → AllByRecursion (IsWholeFrom events) cs
    → AllByRecursion (λ (other : Divided). first_chunk other.chunks ≡ b → ⊥) (divided_over events cs children)
differ events c b (d ∷ cs) (child ∷ children) e h w =
    ((λ s. let l : c < d = h.0 in let is : d ≡ c = sym (ap first_chunk w.0.1) ∙ s ∙ e in absurd (omega arith)), differ events c b cs children e h.1 w.1)
differ events c b cs children e h w = tt

-- ---- the parts' link ends lie inside the child

pub total-joined : (ps : List (List Event)) → total ps ≡ length (joined ps)
total-joined [] = refl
total-joined (p ∷ ps) = omega (arith, total-joined ps, length-append p (joined ps))

ends-parts : (n : ℕ) (ps : List (List Event)) → AllByRecursion (EndsBelow n) (joined ps) → AllByRecursion (All (EndsBelow n)) ps
ends-parts n [] h = tt
ends-parts n (p ∷ ps) h = (All-from_recursion (EndsBelow n) p (every-front (EndsBelow n) p (joined ps) h), ends-parts n ps (every-back (EndsBelow n) p (joined ps) h))

pub total-divided : (events : List Event) (c : ℕ) (child : List Event) → IsWholeFrom events c → total (divided events c child).parts ≡ length child
total-divided events c child w =
    ap (λ ks. total (parts (map (λ k. place_at events (k + 1)) ks) child)) w.1
    ∙ total-joined (parts (place_at events (c + 1) ∷ map (λ k. place_at events (k + 1)) w.0) child)
    ∙ ap length (joined-parts (place_at events (c + 1)) (map (λ k. place_at events (k + 1)) w.0) child)

pub are-chains : (events : List Event) (cs : List ℕ) (children : List (List Event)) → IsRising cs → AllByRecursion (IsWholeFrom events) cs → AllByRecursion HasEndsWithin children → AreChains (divided_over events cs children)
are-chains events (c ∷ cs) (child ∷ children) r w h =
    let ends : List Point = map (λ k. place_at events (k + 1)) w.0.0 in
    let ps : List (List Event) = parts (place_at events (c + 1) ∷ ends) child in
    let inside : All (EndsBelow (length child)) (joined ps) = subst (All (EndsBelow (length child))) (sym (joined-parts (place_at events (c + 1)) ends child)) h.0 in
    let each : AllByRecursion (All (EndsBelow (total (divided events c child).parts))) (divided events c child).parts =
    subst (λ (n : ℕ). AllByRecursion (All (EndsBelow n)) (divided events c child).parts) (sym (total-divided events c child w.0))
    (subst (AllByRecursion (All (EndsBelow (length child)))) (sym (ap (λ ks. parts (map (λ k. place_at events (k + 1)) ks) child) w.0.1))
    (ends-parts (length child) ps (recursion_from_All (EndsBelow (length child)) (joined ps) inside))) in
    ((divided-parts events c child, each), differ events c (first_chunk (chain_of events c)) cs children (ap first_chunk w.0.1) r.0 w.1, are-chains events cs children r.1 w.1 h.1)
are-chains events cs children r w h = tt

pub edits_give_children : (tab : ℕ) (bytes : List ℕ) (wanted : Option Content) (events : List Event) (children : List (List Event)) → IsReady tab bytes wanted events → EditsGiveChildren wanted events children
edits_give_children tab bytes wanted events children ready =
    let f = follow_one_another tab bytes wanted events ready in
    let cs : List ℕ = fitting_starts wanted events in
    record {
      disjoint = (all_edits-spaced events cs children 0 0 0 (length events) (subst (λ (ks : List ℕ). AreSpaced 0 ks (length events)) (sym f.in_order) f.spaced)).0;
      give = λ h. edited-children (divided_over events cs children) events (changes_are_apart tab bytes wanted events children ready).apart
          (are-chains events cs children (rising (begins wanted events) (length events) 0) f.whole h);
    }
