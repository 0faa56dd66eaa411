-- What links cost.
use Rattle.std.proofs.Common.{◌≡◌, ◌==◌, ◌+◌, ◌-◌, ◌*◌, ◌<◌, ◌≤◌, ◌∙◌, ℕ, zero, suc, Bool, List, [], ◌∷◌, ◌++◌, cond, inl, inr, Err, Ok, Result, ap, arith, drop, get_or, length, length-append, map, refl, sym, take}
use Rattle.std.proofs.Math.Seq.{take-suc}
use Rattle.std.proofs.lemmas.Bool.{cases_Bool}
use Rattle.std.proofs.lemmas.List.{drop-map, length-drop, length-map, map-append, reverse-append, take-append-drop, take-map, take_all}
use Rattle.std.specs.Prelude.{nat_lt, reverse}
use Rattle.std.specs.Result.{OnOk}
use Rattle.markdown_base.specs.declared.event.Event.{Event}
use Rattle.mdinline_emphasis.proofs.Ends.{ends-append, ends-take-markers, runs-are-few, runs-no-ends}
use Rattle.mdinline_emphasis.specs.Runs.{runs_in}
use Rattle.mdinline_emphasis.specs.Costs.{emphasis_a_run, ends_of_pairs, markers_left, pairs_a_run}
use Rattle.mdinline_emphasis.specs.declared.pairs.Delimiters.{Delimiters}
use Rattle.mdinline_emphasis.specs.Emphasis.{Run, paired}
use Rattle.mdinline_emphasis.specs.Searches.{as_run}
use Rattle.mdinline_links.specs.Costs.{ends_in, pay, to_pay, to_write}
use Rattle.mdinline_links.specs.declared.brackets.Bracket.{Bracket}
use Rattle.mdinline_links.specs.declared.brackets.Pieces.{Pieces}
use Rattle.mdinline_links.specs.declared.pieces.Fate.{Fate}
use Rattle.mdinline_links.specs.declared.pieces.Fate.TheVariants.{Ends, Opens, Paired, Tail}
use Rattle.mdinline_links.specs.declared.pieces.Piece.{Piece}
use Rattle.mdinline_links.specs.Laws.{LinksCostLittle}
use Rattle.mdinline_links.specs.Laid.{IsMade, piece_at, placed_at, with_fate}

pub on-ok : {T E : Type 0} (r : Result T E) (P : Type 0) → P → OnOk r P
on-ok (Ok x) P p = p
on-ok (Err e) P p = tt

markers-append : (xs ys : List Run) → markers_left (xs ++ ys) ≡ markers_left xs + markers_left ys
markers-append [] ys = omega arith
markers-append (x ∷ xs) ys = let more = markers-append xs ys in omega (arith, more)

pub pay-append : (xs ys : List Run) → pay (xs ++ ys) ≡ pay xs + pay ys
pay-append xs ys = let a = length-append xs ys in let b = markers-append xs ys in let c = ends-append xs ys in omega (arith, a, b, c)

write-append : (ps qs : List Piece) → to_write (ps ++ qs) ≡ to_write ps + to_write qs
write-append [] qs = omega arith
write-append (p ∷ ps) qs = let more = write-append ps qs in omega (arith, more)

-- one piece more of a list
pub write-more : (ps : List Piece) (i : ℕ) (p : Piece) → i < length ps → p ≡ get_or ps i p → to_write (take (i + 1) ps) ≡ to_write (take i ps) + suc (ends_in p.fate)
write-more ps i p inside is =
    let same : i + 1 ≡ suc i = omega arith in
    let last = ap (λ n. to_write (take n ps)) same ∙ ap to_write (take-suc ps i p inside) in
    let split = write-append (take i ps) (get_or ps i p ∷ []) in
    let here = ap (λ (q : Piece). ends_in q.fate) is in
    omega (arith, last, split, here)

-- some first pieces cost no more than all
pub write-within : (ps : List Piece) (n : ℕ) → to_write (take n ps) ≤ to_write ps
write-within ps n = let all = ap to_write (sym (take-append-drop n ps)) ∙ write-append (take n ps) (drop n ps) in omega (arith, all)

write-fate : (i : ℕ) (f : Fate) (ps : List Piece) → to_write (with_fate i f ps) ≤ to_write ps + ends_in f
write-fate i f [] = omega arith
write-fate zero f (p ∷ ps) = omega arith
write-fate (suc i) f (p ∷ ps) = let more = write-fate i f ps in omega (arith, more)

-- runs in their pieces cost the ends of their pairs
write-placed : (ps : List Piece) (os : List ℕ) (ds : List Delimiters) → to_write (placed_at ps os ds) ≤ to_write ps + ends_of_pairs (map as_run ds)
write-placed ps [] ds = omega arith
write-placed ps (o ∷ os) [] = omega arith
write-placed ps (o ∷ os) (d ∷ ds) = let more = write-placed ps os ds in let here = write-fate o (Paired d) (placed_at ps os ds) in omega (arith, more, here)

some-more : (a b : ℕ) (p : Piece) → ends_in p.fate ≡ 0 → to_write (cond (nat_lt a b) (p ∷ []) []) ≤ b - a
some-more a b p none =
    elim (cases_Bool (nat_lt a b)) [
      | inl h ↦ let less : a < b = grind (arith, h) in let one = ap (λ t. to_write (cond t (p ∷ []) [])) h in omega (arith, one, less, none)
      | inr h ↦ let none' = ap (λ t. to_write (cond t (p ∷ []) [])) h in omega (arith, none')
    ]

pub few-more : (xs : List Piece) (p q : Piece) (a b : ℕ) → ends_in p.fate ≡ 0 → ends_in q.fate ≡ 0 → to_write ((xs ++ p ∷ []) ++ cond (nat_lt a b) (q ∷ []) []) ≤ to_write xs + (1 + (b - a))
few-more xs p q a b none none' =
    let m = write-append (xs ++ p ∷ []) (cond (nat_lt a b) (q ∷ []) []) in
    let n = write-append xs (p ∷ []) in
    let few = some-more a b q none' in
    omega (arith, m, n, few, none)

pub many-made : (old new : Pieces) (b : Bracket) (start end tail : ℕ) (made : IsMade old new b start end tail) → to_write new.pieces.items ≤ to_write old.pieces.items + ends_of_pairs (map as_run made.placed) + (1 + (tail - end))
many-made old new b start end tail made =
    let t = nat_lt 1 (length old.pieces.items - b.piece) in
    let placed = placed_at old.pieces.items (drop b.runs old.owners.items) made.placed in
    let fate = write-fate b.piece (Opens b.image t) placed in
    let runs = write-placed old.pieces.items (drop b.runs old.owners.items) made.placed in
    let few = few-more (with_fate b.piece (Opens b.image t) placed) (piece_at start end (Ends b.image t (end == tail))) (piece_at end tail (Tail b.image)) end tail refl refl in
    let long = ap to_write made.pieces in
    omega (arith, fate, runs, few, long)

-- the ends of the pairs of some runs cost no more than their markers
pairs-paid : (rs : List Run) → ends_of_pairs (paired rs) ≤ ends_of_pairs rs + markers_left rs
pairs-paid rs = let take = ends-take-markers rs in omega (arith, take)

-- the runs behind a bracket are paid
pub made-paid : (old new : Pieces) (b : Bracket) (start end tail : ℕ) → IsMade old new b start end tail → (t0 t1 t2 : ℕ)
    → t1 ≤ t0 + (pairs_a_run * length (drop b.runs old.runs.items) + 2 * markers_left (map as_run (drop b.runs old.runs.items)))
    → t2 + length new.runs.items ≡ t1 + length old.runs.items
    → t2 + to_pay new [] ≤ t0 + to_pay old [] + (1 + (tail - end))
made-paid old new b start end tail made t0 t1 t2 linear placed =
    let n = b.runs in
    let X = map as_run old.runs.items in
    let few = many-made old new b start end tail made in
    let pairs = ap ends_of_pairs made.pairs in
    let ends = pairs-paid (drop n X) in
    let split = ap pay (sym (take-append-drop n X)) ∙ pay-append (take n X) (drop n X) in
    let new_pay = ap pay made.runs in
    let behind = ap pay (drop-map as_run n old.runs.items) in
    let left = ap markers_left (drop-map as_run n old.runs.items) in
    let many = ap length (drop-map as_run n old.runs.items) in
    let a = length-map (drop n old.runs.items) as_run in
    let c = ap length made.runs ∙ ap length (take-map as_run n old.runs.items) ∙ length-map (take n old.runs.items) as_run in
    let e = length-map new.runs.items as_run in
    let f = ap length (sym (take-append-drop n old.runs.items)) ∙ length-append (take n old.runs.items) (drop n old.runs.items) in
    omega (arith, few, pairs, ends, split, new_pay, behind, left, many, a, c, e, f, linear, placed)

-- one piece more
pub one-more : (old new : Pieces) (left : List Delimiters) (p : Piece) → new.runs.items ≡ old.runs.items → new.pieces.items ≡ old.pieces.items ++ p ∷ [] → ends_in p.fate ≡ 0 → to_pay new left ≤ to_pay old left + 1
one-more old new left p rs ps none = let a = ap (λ xs. pay (map as_run xs)) rs in let b = ap to_write ps ∙ write-append old.pieces.items (p ∷ []) in omega (arith, a, b, none)

-- a run waits that was left
pub run-waits : (old new : Pieces) (left left' : List Delimiters) (d : Delimiters) (p : Piece) → left ≡ left' ++ d ∷ [] → new.runs.items ≡ old.runs.items ++ d ∷ [] → new.pieces.items ≡ old.pieces.items ++ p ∷ [] → ends_in p.fate ≡ 0
    → to_pay new left' ≤ to_pay old left + 1
run-waits old new left left' d p last rs ps none =
    let a = ap (λ xs. pay (map as_run xs)) rs ∙ ap pay (map-append as_run old.runs.items (d ∷ [])) ∙ pay-append (map as_run old.runs.items) (as_run d ∷ []) in
    let b = ap (λ xs. pay (map as_run xs)) last ∙ ap pay (map-append as_run left' (d ∷ [])) ∙ pay-append (map as_run left') (as_run d ∷ []) in
    let c = ap to_write ps ∙ write-append old.pieces.items (p ∷ []) in
    omega (arith, a, b, c, none)

-- two pieces more, at most
pub two-more : (old new : Pieces) (p q : Piece) (a b : ℕ) → new.runs.items ≡ old.runs.items → new.pieces.items ≡ (old.pieces.items ++ p ∷ []) ++ cond (nat_lt a b) (q ∷ []) [] → ends_in p.fate ≡ 0 → ends_in q.fate ≡ 0
    → to_pay new [] ≤ to_pay old [] + (1 + (b - a))
two-more old new p q a b rs ps none none' =
    let c = ap (λ xs. pay (map as_run xs)) rs in
    let d = ap to_write ps in
    let few = few-more old.pieces.items p q a b none none' in
    omega (arith, c, d, few)

-- the same with runs that are left
pub with-left : (old new : Pieces) (left : List Delimiters) (t0 t1 k : ℕ) → t1 + to_pay new [] ≤ t0 + to_pay old [] + k → t1 + to_pay new left ≤ t0 + to_pay old left + k
with-left old new left t0 t1 k h = omega (arith, h)

-- a slice from an index on
pub slice-pay : (xs ys : List Delimiters) (n t0 t1 : ℕ) → ys ≡ xs → n ≤ length xs
    → t1 ≤ t0 + pairs_a_run * length (take (length ys - n) (drop n ys)) + 2 * markers_left (map as_run (take (length ys - n) (drop n ys)))
    → t1 ≤ t0 + (pairs_a_run * length (drop n xs) + 2 * markers_left (map as_run (drop n xs)))
slice-pay xs ys n t0 t1 was inside h =
    let left = length-drop n ys in
    let mid : take (length ys - n) (drop n ys) ≡ drop n xs = take_all (length ys - n) (drop n ys) (omega (arith, left)) ∙ ap (drop n) was in
    let a = ap length mid in
    let b = ap (λ zs. markers_left (map as_run zs)) mid in
    omega (arith, h, a, b)

-- all that was left is paid in the end
pub all-paid : (all : Pieces) (left new : List Delimiters) (r t0 t1 t2 t3 n : ℕ) → t1 + to_pay all left ≤ t0 + r + 2 * n
    → t2 ≤ t1 + (pairs_a_run * length (drop 0 all.runs.items) + 2 * markers_left (map as_run (drop 0 all.runs.items))) → length new ≡ length all.runs.items
    → map as_run (drop 0 new) ≡ paired (drop 0 (map as_run all.runs.items)) → t3 + length (take 0 new) ≡ t2 + length new
    → t3 + to_write (placed_at all.pieces.items (drop 0 all.owners.items) (drop 0 new)) ≤ t0 + r + 2 * n
all-paid all left new r t0 t1 t2 t3 n h linear same pairs placed =
    let rs = map as_run all.runs.items in
    let long = length-map all.runs.items as_run in
    let none : length (take 0 new) ≡ 0 = refl in
    let linear' : t2 ≤ t1 + (pairs_a_run * length all.runs.items + 2 * markers_left rs) = linear in
    let ends : ends_of_pairs (map as_run (drop 0 new)) ≡ ends_of_pairs (paired rs) = ap ends_of_pairs pairs in
    let few = pairs-paid rs in
    let written = write-placed all.pieces.items (drop 0 all.owners.items) (drop 0 new) in
    omega (arith, h, linear', same, placed, long, none, ends, few, written)

turned-pay : (ds : List Delimiters) → pay (map as_run (reverse ds)) ≡ pay (map as_run ds)
turned-pay [] = refl
turned-pay (d ∷ ds) =
    let more = turned-pay ds in
    let a = ap (λ xs. pay (map as_run xs)) (reverse-append (d ∷ []) ds) ∙ ap pay (map-append as_run (reverse ds) (d ∷ [])) ∙ pay-append (map as_run (reverse ds)) (as_run d ∷ []) in
    let b = pay-append (as_run d ∷ []) (map as_run ds) in
    omega (arith, more, a, b)

-- before the first span the runs were looked for
pub first-paid : (one : Bool) (bytes : List ℕ) (es : List Event) (all : Pieces) (left runs : List Delimiters) (t0 t1 : ℕ) → all.runs.items ≡ [] → all.pieces.items ≡ [] → map as_run runs ≡ runs_in one bytes es → left ≡ reverse runs
    → t1 ≤ t0 + length es → t1 + to_pay all left ≤ t0 + (length es + pay (runs_in one bytes es)) + 2 * 0
first-paid one bytes es all left runs t0 t1 rs ps is turned looked =
    let a = ap (λ xs. pay (map as_run xs)) rs in
    let b = ap to_write ps in
    let c = ap (λ xs. pay (map as_run xs)) turned ∙ turned-pay runs ∙ ap pay is in
    omega (arith, a, b, c, looked)

-- runs of a text are in no pair yet
pub runs-pay : (one : Bool) (bytes : List ℕ) (es : List Event) → pay (runs_in one bytes es) ≡ emphasis_a_run * length (runs_in one bytes es) + 3 * markers_left (runs_in one bytes es)
runs-pay one bytes es = let none = runs-no-ends one bytes es in omega (arith, none)

pub links-cost-little : LinksCostLittle
links-cost-little one bytes es p q inside order =
    let few = runs-are-few one bytes es in
    let runs = few.0 in
    let markers = few.2 p q inside order in
    omega (arith, runs, markers)
