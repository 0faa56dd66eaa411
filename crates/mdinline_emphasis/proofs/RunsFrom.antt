-- The runs of a list, from an index on.
use Rattle.mdinline_emphasis.proofs.Prelude.{◌≡◌, ℕ, zero, suc, ◌+◌, ◌<◌, ◌≤◌, Bool, true, false, cond, List, [], ◌∷◌, ◌++◌, Option, Some, None, map, drop, length, refl, sym, ap, ◌∙◌, arith, append_assoc, ◌==◌, ◌&&◌, slice_get, slice_index_or, drop_more, map-append, length-drop, Event, EventKind, Enter, Exit, AttentionSequence, Delimiters, Run, as_run, index_of_event, run_at, is_sequence, depth_after, runs_from, and_from}

-- what stands for an event behind the end of a list
abbrev pub no_event : Event
no_event = record { kind = Enter; name = AttentionSequence; point = record { line = 0; column = 0; index = 0; vs = 0 }; link = None }

-- two events are left from an index on
two-left : (xs : List Event) (i : ℕ) (d : Event) → i + 1 < length xs → drop i xs ≡ slice_index_or xs i d ∷ slice_index_or xs (i + 1) d ∷ drop (i + 2) xs
two-left xs i d h =
    let second : drop (i + 1) xs ≡ slice_index_or xs (i + 1) d ∷ drop (i + 2) xs =
    drop_more xs (i + 1) d h ∙ ap (λ n. slice_index_or xs (i + 1) d ∷ drop n xs) (let same : i + 1 + 1 ≡ i + 2 = omega arith in same) in
    drop_more xs i d (omega (arith, h)) ∙ ap (λ ys. slice_index_or xs i d ∷ ys) second

-- the first event that is left
first-left : (xs : List Event) (n : ℕ) → index_of_event (slice_get (drop n xs) 0) ≡ index_of_event (slice_get xs n)
first-left xs zero = refl
first-left [] (suc n) = refl
first-left (x ∷ xs) (suc n) = first-left xs n

-- an attention sequence in no span is a run
pub a-run : (one : Bool) (bytes : List ℕ) (xs : List Event) (i depth : ℕ) (before : Option ℕ) (d : Event) → i + 1 < length xs → (depth == 0) ≡ true
    → is_sequence (slice_index_or xs i d) (slice_index_or xs (i + 1) d) ≡ true
    → runs_from one bytes i depth before (drop i xs)
    ≡ run_at one bytes i (slice_index_or xs i d) (slice_index_or xs (i + 1) d) before (index_of_event (slice_get xs (i + 2)))
    ∷ runs_from one bytes (i + 2) depth (Some (slice_index_or xs (i + 1) d).point.index) (drop (i + 2) xs)
a-run one bytes xs i depth before d more outside h =
    let e = slice_index_or xs i d in
    let f = slice_index_or xs (i + 1) d in
    let rest = drop (i + 2) xs in
    let others = runs_from one bytes (i + 2) depth (Some f.point.index) rest in
    ap (runs_from one bytes i depth before) (two-left xs i d more)
    ∙ ap (λ b. cond b (run_at one bytes i e f before (index_of_event (slice_get rest 0)) ∷ others) (runs_from one bytes (i + 1) (depth_after e.kind depth) (Some e.point.index) (f ∷ rest))) (and_from (depth == 0) (is_sequence e f) outside h)
    ∙ ap (λ o. run_at one bytes i e f before o ∷ others) (first-left xs (i + 2))

-- any other event is passed
pub no-run : (one : Bool) (bytes : List ℕ) (xs : List Event) (i depth : ℕ) (before : Option ℕ) (d : Event) → i + 1 < length xs
    → (depth == 0 && is_sequence (slice_index_or xs i d) (slice_index_or xs (i + 1) d)) ≡ false
    → runs_from one bytes i depth before (drop i xs)
    ≡ runs_from one bytes (i + 1) (depth_after (slice_index_or xs i d).kind depth) (Some (slice_index_or xs i d).point.index) (drop (i + 1) xs)
no-run one bytes xs i depth before d more h =
    let e = slice_index_or xs i d in
    let f = slice_index_or xs (i + 1) d in
    let rest = drop (i + 2) xs in
    let second : drop (i + 1) xs ≡ f ∷ rest = drop_more xs (i + 1) d more ∙ ap (λ n. f ∷ drop n xs) (let same : i + 1 + 1 ≡ i + 2 = omega arith in same) in
    ap (runs_from one bytes i depth before) (two-left xs i d more)
    ∙ ap (λ b. cond b (run_at one bytes i e f before (index_of_event (slice_get rest 0)) ∷ runs_from one bytes (i + 2) depth (Some f.point.index) rest) (runs_from one bytes (i + 1) (depth_after e.kind depth) (Some e.point.index) (f ∷ rest))) h
    ∙ ap (runs_from one bytes (i + 1) (depth_after e.kind depth) (Some e.point.index)) (sym second)

few : (one : Bool) (bytes : List ℕ) (i depth : ℕ) (before : Option ℕ) (ys : List Event) → length ys ≤ 1 → runs_from one bytes i depth before ys ≡ []
few one bytes i depth before [] h = refl
few one bytes i depth before (y ∷ []) h = refl
few one bytes i depth before (y ∷ z ∷ ys) h = absurd (omega (arith, h))

-- at the end of a list there is no run
pub no-more : (one : Bool) (bytes : List ℕ) (xs : List Event) (i depth : ℕ) (before : Option ℕ) → length xs ≤ i + 1 → runs_from one bytes i depth before (drop i xs) ≡ []
no-more one bytes xs i depth before h = few one bytes i depth before (drop i xs) (let few' = length-drop i xs in omega (arith, few', h))

-- a run that is pushed is the first one of the others
pub pushed : (runs new : List Delimiters) (d : Delimiters) (r : Run) (rest left all : List Run) → new ≡ runs ++ d ∷ [] → as_run d ≡ r → left ≡ r ∷ rest
    → map as_run runs ++ left ≡ all → map as_run new ++ rest ≡ all
pushed runs new d r rest left all is same front h =
    ap (λ ds. map as_run ds ++ rest) is ∙ ap (λ rs. rs ++ rest) (map-append as_run runs (d ∷ [])) ∙ append_assoc (map as_run runs) (as_run d ∷ []) rest
    ∙ ap (λ s. map as_run runs ++ s ∷ rest) same ∙ ap (λ rs. map as_run runs ++ rs) (sym front) ∙ h

-- an event opens one span more at most
pub depth-grows : (kind : EventKind) (depth : ℕ) → depth_after kind depth ≤ depth + 1
depth-grows Enter depth = omega arith
depth-grows Exit depth = omega arith
