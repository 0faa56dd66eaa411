-- The events of parts: emphasis puts each run with its pairs in its place.
use Rattle.std.proofs.Common.{◌≡◌, ◌==◌, ◌<◌, ◌∙◌, ℕ, List, [], ◌∷◌, ◌++◌, true, false, cond, ap, append-nil, append_assoc, arith, map, refl, subst, sym}
use Rattle.std.proofs.lemmas.Bool.Decides.{nat_tests}
use Rattle.std.specs.List.{AllByRecursion}
use Rattle.markdown_base.specs.declared.event.Event.{Event}
use Rattle.mdinline_emphasis.proofs.PairsKeep.{pairs-keep-indices}
use Rattle.mdinline_emphasis.specs.Emphasis.{Run, closings, events_of_runs, paired, run_events, tail_events}
use Rattle.mdinline_emphasis.specs.Places.{standing}
use Rattle.mdinline_emphasis.specs.RunEdits.{in_place, index_of}
use Rattle.mdinline_links.specs.Between.{AreParts, with_runs}
use Rattle.mdinline_links.specs.Kept.{IsFresh}
use Rattle.mdinline_links.specs.Laid.{AreAscending}
use Rattle.mdinline_links.specs.Linked.{Part, run, events, emphasised_parts, runs_of_parts, text_before, text_behind}

-- runs behind this one have other texts before them
past : (f : ℕ → List Event) (since : List Event) (r : Run) (ps : List Part) (rs : List Run) → AllByRecursion (λ s. r.index < s.index) rs
    → AllByRecursion (λ s. f s.index ≡ text_before since (run r ∷ ps) s.index) rs → AllByRecursion (λ s. f s.index ≡ text_before [] ps s.index) rs
past f since r ps [] h k = tt
past f since r ps (s ∷ rs) h k =
    let other : (r.index == s.index) ≡ false = grind (arith, nat_tests, h.0) in
    (k.0 ∙ ap (λ t. cond t since (text_before [] ps s.index)) other, past f since r ps rs h.1 k.1)

runs-between : (f : ℕ → List Event) (since : List Event) (ps : List Part) (ss : List Run) → AreAscending (runs_of_parts ps) → map index_of ss ≡ map index_of (runs_of_parts ps)
    → AllByRecursion (λ s. f s.index ≡ text_before since ps s.index) (runs_of_parts ps)
    → events_of_runs f ss ++ text_behind since ps ≡ since ++ with_runs ps ss
runs-between f since [] [] a e h = sym (append-nil since)
runs-between f since [] (s ∷ ss) a e h = cc
runs-between f since (run r ∷ ps) [] a e h = cc
runs-between f since (run r ∷ ps) (s ∷ ss) a e h =
    let first : s.index ≡ r.index = cc in
    let others : map index_of ss ≡ map index_of (runs_of_parts ps) = cc in
    let this : (r.index == r.index) ≡ true = grind (arith, nat_tests) in
    let here : f s.index ≡ since = ap f first ∙ h.0 ∙ ap (λ t. cond t since (text_before [] ps r.index)) this in
    let more = runs-between f [] ps ss a.1 others (past f since r ps (runs_of_parts ps) a.0 h.1) in
    let close = closings s.start s.closed in
    append_assoc (run_events f s) (events_of_runs f ss) (text_behind [] ps)
    ∙ ap (λ xs. run_events f s ++ xs) more
    ∙ ap (λ xs. xs ++ with_runs ps ss) (append_assoc (f s.index) close (tail_events s))
    ∙ append_assoc (f s.index) (in_place s) (with_runs ps ss)
    ∙ ap (λ xs. xs ++ (in_place s ++ with_runs ps ss)) here
runs-between f since (events xs ∷ ps) ss a e h = runs-between f (since ++ xs) ps ss a e h ∙ append_assoc since xs (with_runs ps ss)

agrees : (since : List Event) (ps : List Part) (rs : List Run) → AllByRecursion (λ s. text_before since ps s.index ≡ text_before since ps s.index) rs
agrees since ps [] = tt
agrees since ps (r ∷ rs) = (refl, agrees since ps rs)

-- Emphasis among parts whose runs stand one behind another puts each run, with its pairs, in its place
pub emphasised-runs : (ps : List Part) → AreAscending (runs_of_parts ps) → emphasised_parts ps ≡ with_runs ps (paired (runs_of_parts ps))
emphasised-runs ps a = let rs = runs_of_parts ps in runs-between (text_before [] ps) [] ps (paired rs) a (pairs-keep-indices rs) (agrees [] ps rs)

-- A property that what comes in the place of each run has, and the events between, the events of parts have
module _ (Q : Type 0) (B : Q → List Event → Q → Type 0) (R : Q → Run → Q → Type 0) (nothing : (q : Q) → B q [] q)
    (together : (p m q : Q) (xs ys : List Event) → B p xs m → B m ys q → B p (xs ++ ys) q)
    (place : (p q : Q) (r s : Run) → R p r q → IsFresh r → standing s ≡ standing r → B p (in_place s) q) where
  pub runs-in-place : (p q : Q) (ps : List Part) (ss : List Run) → AreParts Q B R p ps q → map standing ss ≡ map standing (runs_of_parts ps) → B p (with_runs ps ss) q
  runs-in-place p q [] ss h same = subst (λ x. B p [] x) h (nothing p)
  runs-in-place p q (run r ∷ ps) [] h same = cc
  runs-in-place p q (run r ∷ ps) (s ∷ ss) h same =
      let first : standing s ≡ standing r = cc in
      let others : map standing ss ≡ map standing (runs_of_parts ps) = cc in
      together p h.0 q (in_place s) (with_runs ps ss) (place p h.0 r s h.1.0 h.1.1 first) (runs-in-place h.0 q ps ss h.2 others)
  runs-in-place p q (events es ∷ ps) ss h same = together p h.0 q es (with_runs ps ss) h.1.0 (runs-in-place h.0 q ps ss h.2 same)
