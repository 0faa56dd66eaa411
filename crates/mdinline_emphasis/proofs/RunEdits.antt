-- One edit for each run leaves emphasis.
use Rattle.mdinline_emphasis.proofs.Prelude.{◌≡◌, ℕ, zero, suc, ◌+◌, ◌-◌, ◌≤◌, List, [], ◌∷◌, ◌++◌, Option, map, take, drop, length, refl, sym, ap, ◌∙◌, subst, arith, append_assoc, length-append, take-append_seam, drop-append-add, drop-drop, Event, Point, IsBalanced, AreDisjoint, spliced, relinked_by, edited, edited-spliced, Run, closings, paired, tail_events, head_events, run_events, events_of_runs, openings, data_of, later, markers_of, markers_of_all, runs_in, end_before, text_before, text_behind, in_place, edits_of, index_of, HasRunsAt, EditsMakeEmphasis, EmphasisCanBeMade, HaveNoLinks, no-links-append, no-links-below, no-links-drop, no-links-take, unlinked-same, Style}
use Rattle.mdinline_emphasis.proofs.RunTexts.{runs-and-texts}
use Rattle.mdinline_emphasis.proofs.Balance.{leaves-balanced}
use Rattle.mdinline_emphasis.proofs.PairsKeep.{pairs-keep-indices}

-- ---- edits

relinked-nowhere : (place : ℕ → Option ℕ) (xs : List Event) → HaveNoLinks xs → relinked_by place xs ≡ xs
relinked-nowhere place [] h = refl
relinked-nowhere place (x ∷ xs) h = rw (unlinked-same place x h.0, relinked-nowhere place xs h.1) refl

no-links-front : (xs ys : List Event) → HaveNoLinks (xs ++ ys) → HaveNoLinks xs
no-links-front [] ys h = tt
no-links-front (x ∷ xs) ys h = (h.0, no-links-front xs ys h.1)

no-links-back : (xs ys : List Event) → HaveNoLinks (xs ++ ys) → HaveNoLinks ys
no-links-back [] ys h = h
no-links-back (x ∷ xs) ys h = no-links-back xs ys h.1

module _ (texts : ℕ → List Event) (rest : List Event) where
  disjoint : (i : ℕ) (rs : List Run) (xs : List Event) → HasRunsAt texts rest i (map index_of rs) xs → AreDisjoint i (edits_of rs) (i + length xs)
  disjoint i [] xs h = omega arith
  disjoint i (r ∷ rs) xs h =
      let long = ap length h.3 ∙ length-append (texts r.index) (h.0 ∷ h.1 ∷ h.2) in
      let same : (r.index + 2) + length h.2 ≡ i + length xs = omega (arith, long, h.4) in
      (omega (arith, h.4), subst (AreDisjoint (r.index + 2) (edits_of rs)) same (disjoint (r.index + 2) rs h.2 h.5))

  spliced-are : (place : ℕ → Option ℕ) (i : ℕ) (rs : List Run) (xs : List Event) → HasRunsAt texts rest i (map index_of rs) xs → HaveNoLinks xs
      → spliced place (edits_of rs) i xs ≡ events_of_runs texts rs ++ rest
  spliced-are place i [] xs h none = relinked-nowhere place xs none ∙ h
  spliced-are place i (r ∷ rs) xs h none =
      let text = texts r.index in
      let pair = h.0 ∷ h.1 ∷ [] in
      let few : r.index - i ≡ length text = omega (arith, h.4) in
      let more : (r.index + 2) - i ≡ length text + 2 = omega (arith, h.4) in
      let none' : HaveNoLinks (text ++ h.0 ∷ h.1 ∷ h.2) = subst HaveNoLinks h.3 none in
      let front : relinked_by place (take (r.index - i) xs) ≡ text =
      ap (relinked_by place) (ap (take (r.index - i)) h.3 ∙ ap (λ n. take n (text ++ h.0 ∷ h.1 ∷ h.2)) few ∙ take-append_seam text (h.0 ∷ h.1 ∷ h.2)) ∙ relinked-nowhere place text (no-links-front text (h.0 ∷ h.1 ∷ h.2) none') in
      let back : drop ((r.index + 2) - i) xs ≡ h.2 =
      ap (drop ((r.index + 2) - i)) h.3 ∙ ap (λ n. drop n (text ++ h.0 ∷ h.1 ∷ h.2)) more ∙ drop-append-add text (h.0 ∷ h.1 ∷ h.2) 2 in
      let after = spliced-are place (r.index + 2) rs h.2 h.5 (no-links-back text (h.0 ∷ h.1 ∷ h.2) none').1.1 in
      let close = closings r.start r.closed in
      ap (λ ys. ys ++ (in_place r ++ spliced place (edits_of rs) (r.index + 2) (drop ((r.index + 2) - i) xs))) front
      ∙ ap (λ ys. text ++ (in_place r ++ ys)) (ap (spliced place (edits_of rs) (r.index + 2)) back ∙ after)
      ∙ ap (λ ys. text ++ ys) (sym (append_assoc (in_place r) (events_of_runs texts rs) rest))
      ∙ sym (append_assoc text (in_place r ++ events_of_runs texts rs) rest)
      ∙ ap (λ ys. ys ++ rest) (sym (append_assoc text (in_place r) (events_of_runs texts rs)) ∙ ap (λ ys. ys ++ events_of_runs texts rs) (sym (append_assoc text close (tail_events r))))

pub edits-make-emphasis : EditsMakeEmphasis
edits-make-emphasis texts rest rs events h none fresh balanced =
    let has = subst (λ ks. HasRunsAt texts rest 0 ks events) (sym (pairs-keep-indices rs)) h in
    let apart = disjoint texts rest 0 (paired rs) events has in
    let zero_more : 0 + length events ≡ length events = omega arith in
    let apart' = subst (AreDisjoint 0 (edits_of (paired rs))) zero_more apart in
    let same = edited-spliced (edits_of (paired rs)) events apart' (no-links-below (length events) events none) ∙ spliced-are texts rest _ 0 (paired rs) events has none in
    (apart', same, subst IsBalanced (sym same) (leaves-balanced texts rs rest fresh balanced))

-- ---- a list without links stays so

no-links-closed : (p : Point) (ss : List Style) → HaveNoLinks (closings p ss)
no-links-closed p [] = tt
no-links-closed p (s ∷ ss) = (refl, (refl, (refl, (refl, no-links-closed (later (markers_of s) p) ss))))

no-links-opened : (p : Point) (ss : List Style) → HaveNoLinks (openings p ss)
no-links-opened p [] = tt
no-links-opened p (s ∷ ss) = (refl, (refl, (refl, (refl, no-links-opened (later (markers_of s) p) ss))))

no-links-data : (p : Point) (n : ℕ) → HaveNoLinks (data_of p n)
no-links-data p zero = tt
no-links-data p (suc n) = (refl, (refl, tt))

pub no-links-runs : (texts : ℕ → List Event) (rs : List Run) → ((k : ℕ) → HaveNoLinks (texts k)) → HaveNoLinks (events_of_runs texts rs)
no-links-runs texts [] h = tt
no-links-runs texts (r ∷ rs) h =
    let p = later (markers_of_all r.closed) r.start in
    no-links-append (run_events texts r) (events_of_runs texts rs)
    (no-links-append (head_events texts r) (tail_events r) (no-links-append (texts r.index) (closings r.start r.closed) (h r.index) (no-links-closed r.start r.closed))
    (no-links-append (data_of p r.left) (openings (later r.left p) r.opened) (no-links-data p r.left) (no-links-opened (later r.left p) r.opened)))
    (no-links-runs texts rs h)

pub emphasis-can-be-made : EmphasisCanBeMade
emphasis-can-be-made one bytes events balanced none =
    let rs = runs_in one bytes events in
    let texts = text_before events rs in
    let rest = text_behind events rs in
    let has = runs-and-texts one bytes events balanced in
    let made = edits-make-emphasis texts rest rs events has.0 none has.1 has.2 in (
      made.0,
      made.1,
      subst IsBalanced made.1 made.2,
      no-links-append (events_of_runs texts (paired rs)) rest
          (no-links-runs texts (paired rs) (λ k. let from = end_before 0 rs k in no-links-take (k - from) (drop from events) (no-links-drop from events none)))
          (no-links-drop (end_before 0 rs (length events)) events none),
    )

-- ---- the list in one pass

-- events from an index on, with what comes in the place of runs
abbrev pub placed_from : List Run → ℕ → List Event → List Event
placed_from [] i xs = xs
placed_from (r ∷ rs) i xs = take (r.index - i) xs ++ (in_place r ++ placed_from rs (r.index + 2) (drop (r.index + 2 - i) xs))

spliced-placed : (place : ℕ → Option ℕ) (rs : List Run) (i : ℕ) (xs : List Event) → HaveNoLinks xs → spliced place (edits_of rs) i xs ≡ placed_from rs i xs
spliced-placed place [] i xs none = relinked-nowhere place xs none
spliced-placed place (r ∷ rs) i xs none =
    ap (λ ys. ys ++ (in_place r ++ spliced place (edits_of rs) (r.index + 2) (drop (r.index + 2 - i) xs))) (relinked-nowhere place (take (r.index - i) xs) (no-links-take (r.index - i) xs none))
    ∙ ap (λ ys. take (r.index - i) xs ++ (in_place r ++ ys)) (spliced-placed place rs (r.index + 2) (drop (r.index + 2 - i) xs) (no-links-drop (r.index + 2 - i) xs none))

-- it is what their edits leave of a list without links
pub edited-placed : (rs : List Run) (events : List Event) → AreDisjoint 0 (edits_of rs) (length events) → HaveNoLinks events → edited (edits_of rs) events ≡ placed_from rs 0 events
edited-placed rs events apart none = edited-spliced (edits_of rs) events apart (no-links-below (length events) events none) ∙ spliced-placed _ rs 0 events none

pub placed-within : (rs : List Run) (i n : ℕ) → AreDisjoint i (edits_of rs) n → i ≤ n
placed-within [] i n h = h
placed-within (r ∷ rs) i n h = let more = placed-within rs (r.index + 2) n h.1 in omega (arith, h.0, more)

-- behind events that were written: the text before a run, and what comes in its place
pub placed-step : (out events : List Event) (r : Run) (rs : List Run) (from : ℕ) → from ≤ r.index
    → ((out ++ take (r.index - from) (drop from events)) ++ in_place r) ++ placed_from rs (r.index + 2) (drop (r.index + 2) events) ≡ out ++ placed_from (r ∷ rs) from (drop from events)
placed-step out events r rs from order =
    let text = take (r.index - from) (drop from events) in
    let more = placed_from rs (r.index + 2) (drop (r.index + 2) events) in
    let there : from + (r.index + 2 - from) ≡ r.index + 2 = omega (arith, order) in
    let same : drop (r.index + 2 - from) (drop from events) ≡ drop (r.index + 2) events = drop-drop (r.index + 2 - from) from events ∙ ap (λ n. drop n events) there in
    append_assoc (out ++ text) (in_place r) more
    ∙ append_assoc out text (in_place r ++ more)
    ∙ ap (λ ys. out ++ (text ++ (in_place r ++ placed_from rs (r.index + 2) ys))) (sym same)
