-- The runs of a balanced list: between them the list is balanced, so that emphasis can take their place.
use Rattle.mdinline_emphasis.proofs.Prelude.{◌≡◌, ℕ, suc, ◌+◌, ◌-◌, ◌≤◌, Bool, true, false, cond, List, [], ◌∷◌, ◌++◌, Option, Some, None, map, take, drop, length, refl, sym, ap, ◌∙◌, subst, inl, inr, arith, append_assoc, length-append, ◌==◌, ◌&&◌, not, nat_lt, slice_get, cases_Bool, drop-drop, length-drop, take-append_seam, drop-append-add, and-right, and-false-never, Event, Kind, Enter, Exit, Name, AttentionSequence, IsBalanced, is_enter, same_name, names_after, names_after_all, names_after_all-append, balanced_from_open, names-none, names_after_balanced, same_name-refl, same_name-true, Run, index_of_event, is_sequence, depth_after, run_at, runs_from, runs_in, end_before, text_before, text_behind, index_of, HasRunsAt, AreFresh, and-left, same_Some, lt-ltb}

-- What a list holds from an index on: before each run a balanced text, and then its enter and its exit; and a balanced text behind the last one
abbrev pub HasRuns : ℕ → List Run → List Event → Type 0
HasRuns i [] xs = IsBalanced xs
HasRuns i (r ∷ rs) xs =
    (text more : List Event) × (e f : Event) × (xs ≡ text ++ e ∷ f ∷ more) × IsBalanced text × (r.index ≡ i + length text) × (r.closed ≡ []) × (r.opened ≡ [])
    × HasRuns (r.index + 2) rs more

-- a front and what is left are balanced together
whole : (pre ys : List Event) (st : List Name) → names_after_all (Some []) pre ≡ Some st → names_after_all (Some st) ys ≡ Some [] → IsBalanced (pre ++ ys)
whole pre ys st a b = balanced_from_open (pre ++ ys) (names_after_all-append (Some []) pre ys ∙ ap (λ o. names_after_all o ys) a ∙ b)

pub none-open : (st : List Name) → (length st == 0) ≡ true → st ≡ []
none-open [] h = refl
none-open (n ∷ st) h = let never : suc (length st) ≡ 0 = grind (arith, h) in absurd (omega (arith, never))

add-zero : (n : ℕ) → n + 0 ≡ n
add-zero n = omega arith

-- an attention sequence is an enter and an exit of one name
pub sequence-is : (k l : Kind) (n m : Name) → ((is_enter k && same_name n AttentionSequence) && (not (is_enter l) && same_name m AttentionSequence)) ≡ true → (k ≡ Enter) × (l ≡ Exit) × (m ≡ n)
sequence-is Enter Exit n m h =
    (refl, refl, same_name-true m AttentionSequence (and-right (same_name n AttentionSequence) (same_name m AttentionSequence) h) ∙ sym (same_name-true n AttentionSequence (and-left (same_name n AttentionSequence) (same_name m AttentionSequence) h)))
sequence-is Enter Enter n m h = absurd (and-false-never (same_name n AttentionSequence) h)
sequence-is Exit l n m h = cc

-- so it leaves what is open
sequence-leaves : (e f : Event) (es : List Event) (st : List Name) → is_sequence e f ≡ true → names_after_all (Some st) (e ∷ f ∷ es) ≡ names_after_all (Some st) es
sequence-leaves e f es st h =
    let is = sequence-is e.kind f.kind e.name f.name h in
    rw (is.0, is.1, is.2) (ap (λ (t : Bool). names_after_all (cond t (Some st) None) es) (same_name-refl e.name))

-- what is open after an event is as long as its depth
pub deeper : (k : Kind) (n : Name) (st st' : List Name) → names_after k n st ≡ Some st' → depth_after k (length st) ≡ length st'
deeper Enter n st st' h = ap length (same_Some _ _ h)
deeper Exit n [] st' h = cc
deeper Exit n (m ∷ st) st' h = exits (same_name m n) h
  where
    exits : (t : Bool) → cond t (Some st) None ≡ Some st' → length (m ∷ st) - 1 ≡ length st'
    exits true k = let same = ap length (same_Some _ _ k) in omega (arith, same)
    exits false k = cc

-- something is open after an event, if all is closed in the end
pub goes-on : (o : Option (List Name)) (es : List Event) → names_after_all o es ≡ Some [] → (st : List Name) × (o ≡ Some st)
goes-on None es h = cc
goes-on (Some st) es h = (st, refl)

module _ (one : Bool) (bytes : List ℕ) where
  pub has-runs : (ys : List Event) (i j depth : ℕ) (before : Option ℕ) (pre : List Event) (st : List Name) → names_after_all (Some []) pre ≡ Some st → depth ≡ length st
      → names_after_all (Some st) ys ≡ Some [] → j ≡ i + length pre → HasRuns i (runs_from one bytes j depth before ys) (pre ++ ys)
  has-runs [] i j depth before pre st start deep end at = whole pre [] st start end
  has-runs (e ∷ []) i j depth before pre st start deep end at = whole pre (e ∷ []) st start end
  has-runs (e ∷ f ∷ es) i j depth before pre st start deep end at =
      elim (cases_Bool (depth == 0 && is_sequence e f)) [
        | inl h ↦
            let outside = none-open st (subst (λ n. (n == 0) ≡ true) deep (and-left (depth == 0) (is_sequence e f) h)) in
            let closed : names_after_all (Some []) pre ≡ Some [] = start ∙ ap Some outside in
            let rest : names_after_all (Some []) es ≡ Some [] = sym (sequence-leaves e f es [] (and-right (depth == 0) (is_sequence e f) h)) ∙ ap (λ s. names_after_all (Some s) (e ∷ f ∷ es)) (sym outside) ∙ end in
            subst (λ b. HasRuns i (cond b (run_at one bytes j e f before (index_of_event (slice_get es 0)) ∷ runs_from one bytes (j + 2) depth (Some f.point.index) es) (runs_from one bytes (j + 1) (depth_after e.kind depth) (Some e.point.index) (f ∷ es))) (pre ++ e ∷ f ∷ es)) (sym h) (
              pre,
              es,
              e,
              f,
              refl,
              balanced_from_open pre closed,
              at,
              refl,
              refl,
              has-runs es (j + 2) (j + 2) depth (Some f.point.index) [] [] refl (deep ∙ ap length outside) rest (sym (add-zero (j + 2))),
            )
        | inr h ↦
            let next = goes-on (names_after e.kind e.name st) (f ∷ es) end in
            let longer : names_after_all (Some []) (pre ++ e ∷ []) ≡ Some next.0 = names_after_all-append (Some []) pre (e ∷ []) ∙ ap (λ o. names_after_all o (e ∷ [])) start ∙ names-none (names_after e.kind e.name st) ∙ next.1 in
            subst (λ b. HasRuns i (cond b (run_at one bytes j e f before (index_of_event (slice_get es 0)) ∷ runs_from one bytes (j + 2) depth (Some f.point.index) es) (runs_from one bytes (j + 1) (depth_after e.kind depth) (Some e.point.index) (f ∷ es))) (pre ++ e ∷ f ∷ es)) (sym h)
            (subst (HasRuns i (runs_from one bytes (j + 1) (depth_after e.kind depth) (Some e.point.index) (f ∷ es))) (append_assoc pre (e ∷ []) (f ∷ es))
            (has-runs (f ∷ es) i (j + 1) (depth_after e.kind depth) (Some e.point.index) (pre ++ e ∷ []) next.0 longer
            (ap (depth_after e.kind) deep ∙ deeper e.kind e.name st next.0 next.1)
            (sym (ap (λ o. names_after_all o (f ∷ es)) next.1) ∙ end)
            (let long = length-append pre (e ∷ []) in omega (arith, at, long))))
      ]

-- ---- texts by the index of their run

not-past : (a : ℕ) → nat_lt a a ≡ false
not-past a = grind arith

-- what is left of a list that begins as it does
dropped : (xs ys events : List Event) (i n : ℕ) → xs ≡ drop i events → drop n xs ≡ ys → drop (i + n) events ≡ ys
dropped xs ys events i n is h = sym (drop-drop n i events) ∙ ap (drop n) (sym is) ∙ h

module _ (events : List Event) (all : List Run) where
  pub to-texts : (rs : List Run) (i : ℕ) (xs : List Event) → xs ≡ drop i events → i ≤ length events → ((k : ℕ) → i ≤ k → end_before 0 all k ≡ end_before i rs k) → HasRuns i rs xs
      → HasRunsAt (text_before events all) (text_behind events all) i (map index_of rs) xs × AreFresh (text_before events all) rs × IsBalanced (text_behind events all)
  to-texts [] i xs is within ends h =
      let same : xs ≡ text_behind events all = is ∙ ap (λ n. drop n events) (sym (ends (length events) within)) in
      (same, tt, subst IsBalanced same h)
  to-texts (r ∷ rs) i xs is within ends h =
      let text = h.0 in
      let more = h.1 in
      let pair = h.2 ∷ h.3 ∷ more in
      let from : end_before 0 all r.index ≡ i = ends r.index (omega (arith, h.6)) ∙ ap (λ b. cond b (end_before (r.index + 2) rs r.index) i) (not-past r.index) in
      let many : r.index - i ≡ length text = omega (arith, h.6) in
      let same : text_before events all r.index ≡ text =
      ap (λ n. take (r.index - n) (drop n events)) from ∙ ap (λ n. take n (drop i events)) many ∙ ap (take (length text)) (sym is ∙ h.4) ∙ take-append_seam text pair in
      let long' = ap length h.4 ∙ length-append text pair in
      let long : length xs ≡ length text + (length more + 2) = omega (arith, long') in
      let left : length xs ≡ length events - i = ap length is ∙ length-drop i events in
      let behind : more ≡ drop (r.index + 2) events =
      sym (dropped xs more events i (length text + 2) is (ap (drop (length text + 2)) h.4 ∙ drop-append-add text pair 2)) ∙ ap (λ n. drop n events) (let e : i + (length text + 2) ≡ r.index + 2 = omega (arith, h.6) in e) in
      let later_ones = to-texts rs (r.index + 2) more behind (omega (arith, h.6, long, left, within))
      (λ k past_it. ends k (omega (arith, h.6, past_it)) ∙ ap (λ b. cond b (end_before (r.index + 2) rs k) i) (lt-ltb r.index k (omega (arith, past_it)))) h.9 in (
        (h.2, h.3, more, h.4 ∙ ap (λ t. t ++ pair) (sym same), h.6 ∙ ap (λ t. i + length t) (sym same), later_ones.0),
        (h.7, h.8, subst IsBalanced (sym same) h.5, later_ones.1),
        later_ones.2,
      )

-- a balanced list has its runs
pub all-runs : (one : Bool) (bytes : List ℕ) (events : List Event) → IsBalanced events → HasRuns 0 (runs_in one bytes events) events
all-runs one bytes events balanced = has-runs one bytes events 0 0 0 None [] [] refl refl (names_after_balanced balanced []) refl

-- a balanced list has its runs, with balanced texts between them
pub runs-and-texts : (one : Bool) (bytes : List ℕ) (events : List Event) → IsBalanced events
    → let rs = runs_in one bytes events in
    HasRunsAt (text_before events rs) (text_behind events rs) 0 (map index_of rs) events × AreFresh (text_before events rs) rs × IsBalanced (text_behind events rs)
runs-and-texts one bytes events balanced =
    to-texts events (runs_in one bytes events) (runs_in one bytes events) 0 events refl (omega arith) (λ k h. refl)
    (all-runs one bytes events balanced)
