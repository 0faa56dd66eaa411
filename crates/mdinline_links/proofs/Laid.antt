-- How pieces are laid out for the parts of a text: more parts are more pieces, and runs with their pairs leave the events of the parts.
use Rattle.std.proofs.Common.{◌≡◌, ◌+◌, ◌∙◌, ℕ, suc, List, [], ◌∷◌, ◌++◌, true, false, cond, ap, append-nil, append_assoc, arith, length, length-append, map, refl, subst, sym}
use Rattle.std.specs.List.{AllByRecursion}
use Rattle.markdown_base.specs.declared.event.Event.{Event}
use Rattle.markdown_base.proofs.Common.{every-append}
use Rattle.mdinline_emphasis.specs.declared.pairs.Delimiters.{Delimiters}
use Rattle.mdinline_emphasis.specs.Emphasis.{Run, paired}
use Rattle.mdinline_emphasis.specs.Places.{AllHaveRoom, standing}
use Rattle.mdinline_emphasis.specs.RunEdits.{in_place}
use Rattle.mdinline_emphasis.specs.Searches.{as_run}
use Rattle.mdinline_links.specs.declared.brackets.Bracket.{Bracket}
use Rattle.mdinline_links.specs.declared.pieces.Fate.{Fate}
use Rattle.mdinline_links.specs.declared.pieces.Fate.TheVariants.{Paired}
use Rattle.mdinline_links.specs.declared.pieces.Piece.{Piece}
use Rattle.mdinline_links.proofs.WithRuns.{emphasised-runs}
use Rattle.mdinline_links.specs.Between.{with_runs}
use Rattle.mdinline_links.proofs.Written.{written-append}
use Rattle.mdinline_links.specs.Laid.{AreAscending, Laid, NoneWait, Reads, Writes, is_waiting, placed_at, waits_at, with_fate}
use Rattle.mdinline_links.specs.Linked.{Part, run, events, Waiting, all_parts, as_data, emphasised_parts, runs_of_parts}
use Rattle.mdinline_links.specs.Pieces.{Fits, in_fate, put, span_of, written_from}

pub all-front : {A : Type 0} (P : A → Type 0) (xs ys : List A) → AllByRecursion P (xs ++ ys) → AllByRecursion P xs
all-front P [] ys h = tt
all-front P (x ∷ xs) ys h = (h.0, all-front P xs ys h.1)

pub all-back : {A : Type 0} (P : A → Type 0) (xs ys : List A) → AllByRecursion P (xs ++ ys) → AllByRecursion P ys
all-back P [] ys h = h
all-back P (x ∷ xs) ys h = all-back P xs ys h.1

runs-append : (xs ys : List Part) → runs_of_parts (xs ++ ys) ≡ runs_of_parts xs ++ runs_of_parts ys
runs-append [] ys = refl
runs-append (run r ∷ xs) ys = ap (λ rs. r ∷ rs) (runs-append xs ys)
runs-append (events es ∷ xs) ys = runs-append xs ys

-- ---- pieces with runs in them

-- the first runs that are in no pair yet, with pairs
abbrev pub filled : List Piece → List Delimiters → List Piece
filled [] ds = []
filled (p ∷ ps) [] = p ∷ ps
filled (p ∷ ps) (d ∷ ds) = cond (is_waiting p.fate) (record p { fate = Paired d } ∷ filled ps ds) (p ∷ filled ps (d ∷ ds))

filled-nil : (ps : List Piece) → filled ps [] ≡ ps
filled-nil [] = refl
filled-nil (p ∷ ps) = refl

pub filled-front : (front more : List Piece) (ds : List Delimiters) → NoneWait front → filled (front ++ more) ds ≡ front ++ filled more ds
filled-front [] more ds h = refl
filled-front (p ∷ front) more [] h = ap (λ xs. p ∷ (front ++ xs)) (sym (filled-nil more))
filled-front (p ∷ front) more (d ∷ ds) h =
    ap (λ t. cond t (record p { fate = Paired d } ∷ filled (front ++ more) ds) (p ∷ filled (front ++ more) (d ∷ ds))) h.0
    ∙ ap (λ xs. p ∷ xs) (filled-front front more (d ∷ ds) h.1)

pub filled-fit : (n : ℕ) (ps : List Piece) (ds : List Delimiters) → AllByRecursion (Fits n) ps → AllHaveRoom (map standing (map as_run ds)) → AllByRecursion (Fits n) (filled ps ds)
filled-fit n [] ds h k = tt
filled-fit n (p ∷ ps) [] h k = h
filled-fit n (p ∷ ps) (d ∷ ds) h k =
    elim (is_waiting p.fate) as (λ t. AllByRecursion (Fits n) (cond t (record p { fate = Paired d } ∷ filled ps ds) (p ∷ filled ps (d ∷ ds)))) [
      | true ↦ ((h.0.0, h.0.1, k.0), filled-fit n ps ds h.1 k.1)
      | false ↦ (h.0, filled-fit n ps (d ∷ ds) h.1 k)
    ]

pub with-fate-at : (ps : List Piece) (q : Piece) (qs : List Piece) (f : Fate) → with_fate (length ps) f (ps ++ q ∷ qs) ≡ ps ++ record q { fate = f } ∷ qs
with-fate-at [] q qs f = refl
with-fate-at (p ∷ ps) q qs f = ap (λ xs. p ∷ xs) (with-fate-at ps q qs f)

placed-none : (ps : List Piece) (os : List ℕ) → placed_at ps os [] ≡ ps
placed-none ps [] = refl
placed-none ps (o ∷ os) = refl

-- runs at the indices of those that wait behind a front
pub placed-are : (qs ps : List Piece) (ds : List Delimiters) → placed_at (ps ++ qs) (waits_at (length ps) qs) ds ≡ ps ++ filled qs ds
placed-are [] ps ds = refl
placed-are (q ∷ qs) ps [] = placed-none (ps ++ q ∷ qs) (waits_at (length ps) (q ∷ qs))
placed-are (q ∷ qs) ps (d ∷ ds) =
    let n = length ps in
    let long : length (ps ++ q ∷ []) ≡ suc n = (let l = length-append ps (q ∷ []) in omega (arith, l)) in
    let more : (xs : List Delimiters) → placed_at (ps ++ q ∷ qs) (waits_at (suc n) qs) xs ≡ ps ++ q ∷ filled qs xs =
    λ xs.
    ap (λ ys. placed_at ys (waits_at (suc n) qs) xs) (sym (append_assoc ps (q ∷ []) qs))
    ∙ ap (λ m. placed_at ((ps ++ q ∷ []) ++ qs) (waits_at m qs) xs) (sym long)
    ∙ placed-are qs (ps ++ q ∷ []) xs
    ∙ append_assoc ps (q ∷ []) (filled qs xs) in
    elim (is_waiting q.fate) as (λ t. placed_at (ps ++ q ∷ qs) (cond t (n ∷ waits_at (suc n) qs) (waits_at (suc n) qs)) (d ∷ ds) ≡ ps ++ cond t (record q { fate = Paired d } ∷ filled qs ds) (q ∷ filled qs (d ∷ ds))) [
      | true ↦ ap (with_fate n (Paired d)) (more ds) ∙ with-fate-at ps q (filled qs ds) (Paired d)
      | false ↦ more (d ∷ ds)
    ]

-- ---- where runs wait

pub waits-append : (i : ℕ) (ps qs : List Piece) → waits_at i (ps ++ qs) ≡ waits_at i ps ++ waits_at (i + length ps) qs
waits-append i [] qs = ap (λ n. waits_at n qs) (let same : i ≡ i + 0 = omega arith in same)
waits-append i (p ∷ ps) qs =
    let place : suc i + length ps ≡ i + length (p ∷ ps) = omega arith in
    let more : waits_at (suc i) (ps ++ qs) ≡ waits_at (suc i) ps ++ waits_at (i + length (p ∷ ps)) qs = waits-append (suc i) ps qs ∙ ap (λ n. waits_at (suc i) ps ++ waits_at n qs) place in
    elim (is_waiting p.fate) as (λ t. cond t (i ∷ waits_at (suc i) (ps ++ qs)) (waits_at (suc i) (ps ++ qs)) ≡ cond t (i ∷ waits_at (suc i) ps) (waits_at (suc i) ps) ++ waits_at (i + length (p ∷ ps)) qs) [
      | true ↦ ap (λ xs. i ∷ xs) more
      | false ↦ more
    ]

pub none-at : (i : ℕ) (ps : List Piece) → NoneWait ps → waits_at i ps ≡ []
none-at i [] h = refl
none-at i (p ∷ ps) h = ap (λ t. cond t (i ∷ waits_at (suc i) ps) (waits_at (suc i) ps)) h.0 ∙ none-at (suc i) ps h.1

module _ (es : List Event) where
  reads-append : (xs ys : List Part) (ps qs : List Piece) → Reads es xs ps → Reads es ys qs → Reads es (xs ++ ys) (ps ++ qs)
  reads-append [] ys ps qs h k = subst (λ (os : List Piece). Reads es ys (os ++ qs)) (sym h) k
  reads-append (run r ∷ xs) ys ps qs h k = (h.0, h.1 ++ qs, ap (λ os. os ++ qs) h.2, h.3, reads-append xs ys h.1 qs h.4 k)
  reads-append (events es' ∷ xs) ys ps qs h k =
      (h.0, h.1, h.2 ++ qs, ap (λ os. os ++ qs) h.3 ∙ append_assoc (h.0 ∷ h.1) h.2 qs, h.4, h.5, reads-append xs ys h.2 qs h.6 k)

  reads-count : (xs : List Part) (ps : List Piece) (i : ℕ) → Reads es xs ps → length (waits_at i ps) ≡ length (runs_of_parts xs)
  reads-count [] ps i h = ap (λ os. length (waits_at i os)) h
  reads-count (run r ∷ xs) ps i h =
      ap (λ os. length (waits_at i os)) h.2
      ∙ ap (λ t. length (cond t (i ∷ waits_at (suc i) h.1) (waits_at (suc i) h.1))) h.3
      ∙ ap suc (reads-count xs h.1 (suc i) h.4)
  reads-count (events es' ∷ xs) ps i h =
      ap (λ os. length (waits_at i os)) h.3
      ∙ ap length (waits-append i (h.0 ∷ h.1) h.2 ∙ ap (λ ys. ys ++ waits_at (i + length (h.0 ∷ h.1)) h.2) (none-at i (h.0 ∷ h.1) h.4))
      ∙ reads-count xs h.2 (i + length (h.0 ∷ h.1)) h.6

  -- ---- more parts

  pub laid-more : (ws : List Waiting) (behind more : List Part) (bs : List Bracket) (rs : List Run) (ps qs : List Piece) → Laid es ws behind bs rs ps → Reads es more qs
      → Laid es ws (behind ++ more) bs (rs ++ runs_of_parts more) (ps ++ qs)
  laid-more [] behind more bs rs ps qs h k = (h.0, ap (λ xs. xs ++ runs_of_parts more) h.1 ∙ sym (runs-append behind more), reads-append behind more ps qs h.2 k)
  laid-more (w ∷ ws) behind more bs rs ps qs h k =
      let f = h.0 in (
        record {
          lower_brackets = f.lower_brackets;
          lower_runs = f.lower_runs;
          lower = f.lower;
          piece = f.piece;
          upper = f.upper ++ qs;
          brackets = f.brackets;
          runs =
              ap (λ xs. xs ++ runs_of_parts more) f.runs ∙ append_assoc f.lower_runs (runs_of_parts behind) (runs_of_parts more)
              ∙ ap (λ xs. f.lower_runs ++ xs) (sym (runs-append behind more));
          pieces = ap (λ xs. xs ++ qs) f.pieces ∙ append_assoc f.lower (f.piece ∷ f.upper) qs;
          fate = f.fate;
          span = f.span;
          some = f.some;
          reads = reads-append behind more f.upper qs f.reads k;
        },
        h.1,
      )

  -- a bracket that is taken away is data
  pub laid-joined : (w : Waiting) (ws : List Waiting) (behind : List Part) (bs : List Bracket) (rs : List Run) (ps : List Piece) (h : Laid es (w ∷ ws) behind bs rs ps)
      → Laid es ws (w.before ++ events (as_data w.opener) ∷ behind) h.0.lower_brackets rs ps
  laid-joined w ws behind bs rs ps h =
      let f = h.0 in
      let parts = w.before ++ events (as_data w.opener) ∷ behind in
      let one : Writes es (f.piece ∷ []) (as_data w.opener) = λ before. append-nil (put es before f.piece) ∙ ap (λ t. in_fate before t (span_of es f.piece)) f.fate ∙ ap as_data f.span in
      let reads : Reads es (events (as_data w.opener) ∷ behind) (f.piece ∷ f.upper) = (f.piece, [], f.upper, refl, (ap is_waiting f.fate, tt), one, f.reads) in
      let more = laid-more ws w.before (events (as_data w.opener) ∷ behind) f.lower_brackets f.lower_runs f.lower (f.piece ∷ f.upper) h.1 reads in
      subst (λ xs. Laid es ws parts f.lower_brackets xs ps) (sym f.runs)
      (subst (λ xs. Laid es ws parts f.lower_brackets (f.lower_runs ++ runs_of_parts behind) xs) (sym f.pieces) more)

  -- so are those that wait to the end
  pub all-joined : (ws : List Waiting) (behind : List Part) (bs : List Bracket) (rs : List Run) (ps : List Piece) → Laid es ws behind bs rs ps
      → (rs ≡ runs_of_parts (all_parts ws behind)) × Reads es (all_parts ws behind) ps
  all-joined [] behind bs rs ps h = (h.1, h.2)
  all-joined (w ∷ ws) behind bs rs ps h = all-joined ws (w.before ++ events (as_data w.opener) ∷ behind) h.0.lower_brackets rs ps (laid-joined w ws behind bs rs ps h)

  -- as many runs are in no pair as wait
  pub laid-count : (ws : List Waiting) (behind : List Part) (bs : List Bracket) (rs : List Run) (ps : List Piece) → Laid es ws behind bs rs ps → length (waits_at 0 ps) ≡ length rs
  laid-count ws behind bs rs ps h = let all = all-joined ws behind bs rs ps h in reads-count (all_parts ws behind) ps 0 all.1 ∙ ap length (sym all.0)

  -- ---- the events of parts whose runs have their pairs

  filled-reads : (xs : List Part) (ps : List Piece) (ds : List Delimiters) → Reads es xs ps → length ds ≡ length (runs_of_parts xs)
      → NoneWait (filled ps ds) × Writes es (filled ps ds) (with_runs xs (map as_run ds))
  filled-reads [] ps ds h long = subst (λ os. NoneWait (filled os ds) × Writes es (filled os ds) []) (sym h) (tt, λ before. refl)
  filled-reads (run r ∷ xs) ps [] h long = absurd (omega (arith, long))
  filled-reads (run r ∷ xs) ps (d ∷ ds) h long =
      let more = filled-reads xs h.1 ds h.4 (omega (arith, long)) in
      let is : filled ps (d ∷ ds) ≡ record h.0 { fate = Paired d } ∷ filled h.1 ds =
      ap (λ os. filled os (d ∷ ds)) h.2 ∙ ap (λ t. cond t (record h.0 { fate = Paired d } ∷ filled h.1 ds) (h.0 ∷ filled h.1 (d ∷ ds))) h.3 in
      subst (λ os. NoneWait os × Writes es os (in_place (as_run d) ++ with_runs xs (map as_run ds))) (sym is) ((refl, more.0), λ before. ap (λ ys. in_place (as_run d) ++ ys) (more.1 (before ++ in_place (as_run d))))
  filled-reads (events es' ∷ xs) ps ds h long =
      let front = h.0 ∷ h.1 in
      let more = filled-reads xs h.2 ds h.6 long in
      let is : filled ps ds ≡ front ++ filled h.2 ds = ap (λ os. filled os ds) h.3 ∙ filled-front front h.2 ds h.4 in
      subst (λ os. NoneWait os × Writes es os (es' ++ with_runs xs (map as_run ds))) (sym is) (
        every-append (λ p. is_waiting p.fate ≡ false) front (filled h.2 ds) h.4 more.0,
        λ before.
            let here = written_from es before front in
            let behind = written_from es (before ++ here) (filled h.2 ds) in
            written-append es before front (filled h.2 ds) ∙ ap (λ ys. ys ++ behind) (h.5 before) ∙ ap (λ ys. es' ++ ys) (more.1 (before ++ here)),
      )

  -- the events of pieces whose runs have their pairs are those of the parts
  pub filled-is : (xs : List Part) (ps : List Piece) (ds : List Delimiters) → Reads es xs ps → AreAscending (runs_of_parts xs) → map as_run ds ≡ paired (runs_of_parts xs) → length ds ≡ length (runs_of_parts xs)
      → NoneWait (filled ps ds) × Writes es (filled ps ds) (emphasised_parts xs)
  filled-is xs ps ds h a pairs long =
      let all = filled-reads xs ps ds h long in (all.0, λ before. all.1 before ∙ ap (with_runs xs) pairs ∙ sym (emphasised-runs xs a))
