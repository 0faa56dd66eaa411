-- What the code keeps by indices stands for the runs that wait and the runs behind them.
use Rattle.mdinline_emphasis.proofs.Prelude.{◌≡◌, ℕ, zero, suc, ◌+◌, ◌<◌, ◌≤◌, get_or, Bool, true, false, cond, List, [], ◌∷◌, ◌++◌, Option, Some, None, take, length, set, refl, sym, ap, ◌∙◌, subst, arith, append_assoc, append-nil, length-append, inl, inr, slice_get, ◌⊎◌, ◌&&◌, nat_lt, set-append_seam, get_or-append_seam, take-append_seam, take-append-add, get_or_append_left, cases_lt, slice_get_within, slice_get-behind, same_Some, get_or_from_slice_get, Run, may_pair, closes_yet, Waiting, SoFar, Found, opening, closing, put, put_behind, put_back, close, last_fitting, all_waiting, all_runs, last_of, may_pair_there, run_there, with_pair, with_pair_of, positions, AreInOrder, Stands, StandsAt, style_of}
use Rattle.mdinline_emphasis.proofs.InTurn.{all-put_back, all-put_behind}

-- the element after a list
seam : {X : Type 0} → (xs : List X) (y : X) (ys : List X) → slice_get (xs ++ y ∷ ys) (length xs) ≡ Some y
seam xs y ys = let same : length xs ≡ length xs + 0 = omega arith in ap (slice_get (xs ++ y ∷ ys)) same ∙ slice_get-behind xs (y ∷ ys) 0

length-positions : (base : List Run) (ws : List Waiting) → length (positions base ws) ≡ length ws
length-positions base [] = refl
length-positions base (w ∷ ws) =
    let one = length-append (positions base ws) (length (base ++ all_waiting ws) ∷ []) in
    let before = length-positions base ws in
    omega (arith, one, before)

module _ (rs : List Run) (openers : List ℕ) (r : Run) (base rest : List Run) where
  -- the last run that waits and fits is found at its index
  pub record IsAt (f : Found) : Type 0 where
    pub runs : rs ≡ (base ++ all_waiting f.before) ++ f.last.opener ∷ (f.last.behind ++ rest)
    pub more : List ℕ
    pub waiting : openers ≡ positions base f.before ++ length (base ++ all_waiting f.before) ∷ more

  abbrev Outcome : Option Found → Option ℕ → Type 0
  Outcome found at = ((found ≡ None) × (at ≡ None)) ⊎ ((f : Found) × (found ≡ Some f) × (at ≡ Some (length f.before)) × IsAt f)

  choose : (b : Bool) (w : Waiting) (ws : List Waiting) (found : Option Found) (at : Option ℕ) → IsAt (record { last = w; before = ws }) → Outcome found at
      → Outcome (cond b (Some (record { last = w; before = ws })) found) (cond b (Some (length ws)) at)
  choose true w ws found at here later = inr (record { last = w; before = ws }, refl, refl, here)
  choose false w ws found at here later = later

  outcome : (behind : List Run) (ws : List Waiting) (more : List ℕ) → rs ≡ (base ++ all_waiting ws) ++ (behind ++ rest) → openers ≡ positions base ws ++ more
      → Outcome (last_fitting r behind ws) (last_of rs openers r (length ws))
  outcome behind [] more runs waiting = inl (refl, refl)
  outcome behind (w ∷ ws) more runs waiting =
      let before = base ++ all_waiting ws in
      let p = length before in
      let runs' : rs ≡ before ++ w.opener ∷ ((w.behind ++ behind) ++ rest) =
      runs ∙ ap (λ xs. xs ++ (behind ++ rest)) (sym (append_assoc base (all_waiting ws) (w.opener ∷ w.behind)))
      ∙ append_assoc before (w.opener ∷ w.behind) (behind ++ rest) ∙ ap (λ xs. before ++ w.opener ∷ xs) (sym (append_assoc w.behind behind rest)) in
      let waiting' : openers ≡ positions base ws ++ p ∷ more = waiting ∙ append_assoc (positions base ws) (p ∷ []) more in
      let at : slice_get openers (length ws) ≡ Some p =
      ap (λ xs. slice_get xs (length ws)) waiting' ∙ ap (slice_get (positions base ws ++ p ∷ more)) (sym (length-positions base ws)) ∙ seam (positions base ws) p more in
      let run : slice_get rs p ≡ Some w.opener = ap (λ xs. slice_get xs p) runs' ∙ seam before w.opener ((w.behind ++ behind) ++ rest) in
      let step : last_of rs openers r (suc (length ws)) ≡ cond (may_pair w.opener r) (Some (length ws)) (last_of rs openers r (length ws)) =
      ap (λ x. cond (may_pair_there (run_there rs x) r) (Some (length ws)) (last_of rs openers r (length ws))) at
      ∙ ap (λ x. cond (may_pair_there x r) (Some (length ws)) (last_of rs openers r (length ws))) run in
      let there = record w { behind = w.behind ++ behind } in
      let later = outcome (w.opener ∷ (w.behind ++ behind)) ws (p ∷ more) runs' waiting' in
      subst (Outcome (cond (may_pair w.opener r) (Some (record { last = there; before = ws })) (last_fitting r (w.opener ∷ (w.behind ++ behind)) ws))) (sym step)
      (choose (may_pair w.opener r) there ws (last_fitting r (w.opener ∷ (w.behind ++ behind)) ws) (last_of rs openers r (length ws)) (record { runs = runs'; more = more; waiting = waiting' }) later)

positions-put_back : (b : Bool) (base : List Run) (w : Waiting) (ws : List Waiting) (p : ℕ) (more : List ℕ) → p ≡ length (base ++ all_waiting ws)
    → let z = cond b (record { base = base; waiting = w ∷ ws }) (put_behind (w.opener ∷ w.behind) base ws) in
    positions z.base z.waiting ≡ take (cond b (length ws + 1) (length ws)) (positions base ws ++ p ∷ more)
positions-put_back true base w ws p more is =
    sym (ap (λ n. take (n + 1) (positions base ws ++ p ∷ more)) (sym (length-positions base ws)) ∙ take-append-add (positions base ws) (p ∷ more) 1 ∙ ap (λ q. positions base ws ++ q ∷ []) is)
positions-put_back false base w [] p more is = refl
positions-put_back false base w (v ∷ vs) p more is =
    sym (ap (λ n. take n (positions base (v ∷ vs) ++ p ∷ more)) (sym (length-positions base (v ∷ vs))) ∙ take-append_seam (positions base (v ∷ vs)) (p ∷ more))

-- the two runs of a pair, in their places
pair-in-place : (before behind rest : List Run) (o r : Run) → let rs = before ++ o ∷ (behind ++ r ∷ rest) in let s = style_of o r in
    with_pair rs (length before) (length (before ++ o ∷ behind)) ≡ before ++ opening s o ∷ (behind ++ closing s r ∷ rest)
pair-in-place before behind rest o r =
    let rs = before ++ o ∷ (behind ++ r ∷ rest) in
    let s = style_of o r in
    let i = length before in
    let j = length (before ++ o ∷ behind) in
    let o' = opening s o in
    let r' = closing s r in
    let split : (x : Run) (xs : List Run) → before ++ x ∷ (behind ++ xs) ≡ (before ++ x ∷ behind) ++ xs = λ x xs. sym (append_assoc before (x ∷ behind) xs) in
    let one : slice_get rs i ≡ Some o = seam before o (behind ++ r ∷ rest) in
    let two : slice_get rs j ≡ Some r = ap (λ xs. slice_get xs j) (split o (r ∷ rest)) ∙ seam (before ++ o ∷ behind) r rest in
    let long : j ≡ length (before ++ o' ∷ behind) = length-append before (o ∷ behind) ∙ sym (length-append before (o' ∷ behind)) in
    ap (λ x. with_pair_of rs i j x (slice_get rs j)) one ∙ ap (with_pair_of rs i j (Some o)) two
    ∙ ap (λ xs. set xs j r') (set-append_seam before o (behind ++ r ∷ rest) o' ∙ split o' (r ∷ rest))
    ∙ ap (λ n. set ((before ++ o' ∷ behind) ++ r ∷ rest) n r') long
    ∙ set-append_seam (before ++ o' ∷ behind) r rest r' ∙ sym (split o' (r' ∷ rest))

-- one pair more stands for one pair more
module _ (rs : List Run) (openers : List ℕ) (closer : ℕ) (z : SoFar) (r : Run) (rest : List Run) (h : StandsAt rs openers closer z r rest) where
  found-at : Outcome rs openers r z.base (r ∷ rest) (last_fitting r [] z.waiting) (last_of rs openers r (length z.waiting))
  found-at = outcome rs openers r z.base (r ∷ rest) [] z.waiting [] h.so_far.runs (h.so_far.waiting ∙ sym (append-nil (positions z.base z.waiting)))

  many : length openers ≡ length z.waiting
  many = ap length h.so_far.waiting ∙ length-positions z.base z.waiting

  abbrev pub Next : ℕ → Type 0
  Next at =
      (f : Found) × (last_fitting r [] z.waiting ≡ Some f) × (i : ℕ) × (slice_get openers at ≡ Some i) × (i < closer) × (slice_get rs i ≡ Some f.last.opener)
      × (let s = style_of f.last.opener r in
      let w = record f.last { opener = opening s f.last.opener } in
      (slice_get (with_pair rs i closer) i ≡ Some w.opener)
      × StandsAt (with_pair rs i closer) (take (cond (nat_lt 0 w.opener.left) (at + 1) at) openers) closer (put_back w z.base f.before) (closing s r) rest)

  next : (f : Found) → last_fitting r [] z.waiting ≡ Some f → IsAt rs openers r z.base (r ∷ rest) f → Next (length f.before)
  next f found is =
      let before = z.base ++ all_waiting f.before in
      let o = f.last.opener in
      let behind = f.last.behind in
      let s = style_of o r in
      let w = record f.last { opener = opening s o } in
      let i = length before in
      let b = nat_lt 0 w.opener.left in
      let z' = put_back w z.base f.before in
      let all : all_runs z' ≡ before ++ w.opener ∷ behind = all-put_back b z.base w f.before in
      let same : before ++ o ∷ (behind ++ r ∷ rest) ≡ (before ++ o ∷ behind) ++ r ∷ rest = sym (append_assoc before (o ∷ behind) (r ∷ rest)) in
      let old : length (all_runs z) ≡ length (before ++ o ∷ behind) =
      let one = ap length (sym h.so_far.runs ∙ is.runs ∙ same) in
      let two = length-append (all_runs z) (r ∷ rest) in
      let three = length-append (before ++ o ∷ behind) (r ∷ rest) in
      omega (arith, one, two, three) in
      let spot : closer ≡ length (before ++ o ∷ behind) = h.next ∙ old in
      let long : length (before ++ o ∷ behind) ≡ length (before ++ w.opener ∷ behind) = length-append before (o ∷ behind) ∙ sym (length-append before (w.opener ∷ behind)) in
      let at : slice_get openers (length f.before) ≡ Some i =
      ap (λ xs. slice_get xs (length f.before)) is.waiting ∙ ap (slice_get (positions z.base f.before ++ i ∷ is.more)) (sym (length-positions z.base f.before)) ∙ seam (positions z.base f.before) i is.more in
      let below : i < closer = let one = length-append before (o ∷ behind) in omega (arith, spot, one) in
      let there : slice_get rs i ≡ Some o = ap (λ xs. slice_get xs i) is.runs ∙ seam before o (behind ++ r ∷ rest) in
      let made : with_pair rs i closer ≡ before ++ w.opener ∷ (behind ++ closing s r ∷ rest) =
      ap (λ xs. with_pair xs i closer) is.runs ∙ ap (with_pair (before ++ o ∷ (behind ++ r ∷ rest)) i) spot ∙ pair-in-place before behind rest o r in
      let opened : slice_get (with_pair rs i closer) i ≡ Some w.opener = ap (λ xs. slice_get xs i) made ∙ seam before w.opener (behind ++ closing s r ∷ rest) in
      let runs : with_pair rs i closer ≡ all_runs z' ++ closing s r ∷ rest =
      made ∙ sym (append_assoc before (w.opener ∷ behind) (closing s r ∷ rest)) ∙ ap (λ xs. xs ++ closing s r ∷ rest) (sym all) in
      let waiting : take (cond b (length f.before + 1) (length f.before)) openers ≡ positions z'.base z'.waiting =
      ap (take (cond b (length f.before + 1) (length f.before))) is.waiting ∙ sym (positions-put_back b z.base w f.before i is.more refl) in
      (f, found, i, at, below, there, (opened, record { so_far = record { runs = runs; waiting = waiting }; next = spot ∙ long ∙ ap length (sym all) }))

  -- what the search says of the runs that wait
  pub none-next : last_of rs openers r (length openers) ≡ None → last_fitting r [] z.waiting ≡ None
  none-next e = elim found-at [
    | inl none ↦ none.0
    | inr some ↦ let no : None ≡ Some (length some.0.before) = sym e ∙ ap (last_of rs openers r) many ∙ some.2 in absurd (cc)
  ]

  pub some-next : (at : ℕ) → last_of rs openers r (length openers) ≡ Some at → Next at
  some-next at e = elim found-at [
    | inl none ↦ let no : None ≡ Some at = sym none.1 ∙ ap (last_of rs openers r) (sym many) ∙ e in absurd (cc)
    | inr some ↦
        let yes : Some (length some.0.before) ≡ Some at = sym some.2 ∙ ap (last_of rs openers r) (sym many) ∙ e in
        let same : length some.0.before ≡ at = cc in
        subst Next same (next some.0 some.1 some.3)
  ]

-- ---- the run that is next

pub closer-run : (rs : List Run) (openers : List ℕ) (closer : ℕ) (z : SoFar) (r : Run) (rest : List Run) → StandsAt rs openers closer z r rest → slice_get rs closer ≡ Some r
closer-run rs openers closer z r rest h = ap (λ xs. slice_get xs closer) h.so_far.runs ∙ ap (slice_get (all_runs z ++ r ∷ rest)) h.next ∙ seam (all_runs z) r rest

positions-below : (base : List Run) (ws : List Waiting) (k d n : ℕ) → k < length (positions base ws) → length (base ++ all_waiting ws) ≤ n → get_or (positions base ws) k d < n
positions-below base [] k d n lt le = absurd (omega (arith, lt))
positions-below base (w ∷ ws) k d n lt le =
    let ps = positions base ws in
    let p = length (base ++ all_waiting ws) in
    let long = length-append ps (p ∷ []) in
    let all = ap length (sym (append_assoc base (all_waiting ws) (w.opener ∷ w.behind))) ∙ length-append (base ++ all_waiting ws) (w.opener ∷ w.behind) in
    let p-below : p < n = omega (arith, le, all) in
    elim (cases_lt k (length ps)) [
      | inl early ↦ subst (λ x. x < n) (sym (get_or_append_left ps (p ∷ []) d k early)) (positions-below base ws k d n early (omega (arith, p-below)))
      | inr late ↦
          let same : k ≡ length ps = omega (arith, lt, long, late) in
          subst (λ x. x < n) (sym (ap (λ i. get_or (ps ++ p ∷ []) i d) same ∙ get_or-append_seam ps p [] d)) p-below
    ]

pub closer-inside : (rs : List Run) (openers : List ℕ) (closer : ℕ) (z : SoFar) (r : Run) (rest : List Run) → StandsAt rs openers closer z r rest → closer < length rs
closer-inside rs openers closer z r rest h = slice_get_within rs closer r (closer-run rs openers closer z r rest h)

pub openers-below : (rs : List Run) (openers : List ℕ) (closer : ℕ) (z : SoFar) (r : Run) (rest : List Run) → StandsAt rs openers closer z r rest
    → (k d : ℕ) → k < length openers → get_or openers k d < closer
openers-below rs openers closer z r rest h k d lt =
    let all = ap length h.so_far.waiting in
    subst (λ xs. get_or xs k d < closer) (sym h.so_far.waiting) (positions-below z.base z.waiting k d closer (omega (arith, lt, all)) (omega (arith, h.next)))

-- an element of a list with one more at its end
pub pushed-at : (xs : List ℕ) (p k m : ℕ) → slice_get (xs ++ p ∷ []) k ≡ Some m → (slice_get xs k ≡ Some m) ⊎ ((m ≡ p) × (k ≡ length xs))
pushed-at [] p zero m e = let same : p ≡ m = same_Some p m e in inr (sym same, refl)
pushed-at [] p (suc k) m e = absurd (cc)
pushed-at (x ∷ xs) p zero m e = inl e
pushed-at (x ∷ xs) p (suc k) m e = elim (pushed-at xs p k m e) [
  | inl was ↦ inl was
  | inr last ↦ inr (last.0, ap suc last.1)
]

order-more : (xs : List ℕ) (p : ℕ) → AreInOrder xs → ((k m : ℕ) → slice_get xs k ≡ Some m → m ≤ p) → AreInOrder (xs ++ p ∷ [])
order-more xs p h low j k a b le at at' = elim (pushed-at xs p k b at') [
  | inl was ↦
      let inside = slice_get_within xs k b was in
      elim (pushed-at xs p j a at) [
        | inl was' ↦ h j k a b le was' was
        | inr last ↦ let end = last.1 in absurd (omega (arith, le, inside, end))
      ]
  | inr last ↦
      let same = last.0 in
      elim (pushed-at xs p j a at) [
        | inl was' ↦ let below = low j a was' in omega (arith, below, same)
        | inr last' ↦ let same' = last'.0 in omega (arith, same, same')
      ]
]

positions-order : (base : List Run) (ws : List Waiting) → AreInOrder (positions base ws)
positions-order base [] = λ j k a b le at at'. absurd (cc)
positions-order base (w ∷ ws) =
    let p = length (base ++ all_waiting ws) in
    order-more (positions base ws) p (positions-order base ws) (λ k m e.
    let below = positions-below base ws k m p (slice_get_within (positions base ws) k m e) (omega arith) in
    let same = get_or_from_slice_get (positions base ws) k m m e in
    omega (arith, below, same))

pub openers-order : (rs : List Run) (openers : List ℕ) (closer : ℕ) (z : SoFar) (r : Run) (rest : List Run) → StandsAt rs openers closer z r rest → AreInOrder openers
openers-order rs openers closer z r rest h = subst AreInOrder (sym h.so_far.waiting) (positions-order z.base z.waiting)

-- what a run makes of what it found
abbrev closed-with : ℕ → Run → SoFar → Option Found → SoFar
closed-with n r z None = put r z
closed-with n r z (Some f) = let s = style_of f.last.opener r in close n (closing s r) (put_back (record f.last { opener = opening s f.last.opener }) z.base f.before)

close-by : (b : Bool) (x y : SoFar) → x ≡ y → cond b x y ≡ y
close-by true x y e = e
close-by false x y e = refl

pub close-unable : (n : ℕ) (r : Run) (z : SoFar) → closes_yet r ≡ false → close n r z ≡ put r z
close-unable zero r z e = refl
close-unable (suc n) r z e = ap (λ b. cond b (closed-with n r z (last_fitting r [] z.waiting)) (put r z)) e

pub close-unfound : (n : ℕ) (r : Run) (z : SoFar) → last_fitting r [] z.waiting ≡ None → close n r z ≡ put r z
close-unfound zero r z e = refl
close-unfound (suc n) r z e = close-by (closes_yet r) (closed-with n r z (last_fitting r [] z.waiting)) (put r z) (ap (closed-with n r z) e)

pub close-found : (n : ℕ) (r : Run) (z : SoFar) (f : Found) → closes_yet r ≡ true → last_fitting r [] z.waiting ≡ Some f
    → let s = style_of f.last.opener r in close (suc n) r z ≡ close n (closing s r) (put_back (record f.last { opener = opening s f.last.opener }) z.base f.before)
close-found n r z f able found =
    ap (λ b. cond b (closed-with n r z (last_fitting r [] z.waiting)) (put r z)) able ∙ ap (closed-with n r z) found

-- ---- a run is put behind all others

positions-behind : (base : List Run) (ws : List Waiting) (r : Run) → let z = put_behind (r ∷ []) base ws in positions z.base z.waiting ≡ positions base ws
positions-behind base [] r = refl
positions-behind base (w ∷ ws) r = refl

pub stands-waiting : (rs : List Run) (openers : List ℕ) (closer : ℕ) (z : SoFar) (r : Run) (rest : List Run) → StandsAt rs openers closer z r rest → (r.opens && nat_lt 0 r.left) ≡ true
    → Stands rs (openers ++ closer ∷ []) (put r z) rest
stands-waiting rs openers closer z r rest h can =
    let z' : SoFar = record z { waiting = record { opener = r; behind = [] } ∷ z.waiting } in
    let there : Stands rs (openers ++ closer ∷ []) z' rest = record {
      runs = h.so_far.runs ∙ sym (append_assoc (all_runs z) (r ∷ []) rest) ∙ ap (λ xs. xs ++ rest) (append_assoc z.base (all_waiting z.waiting) (r ∷ []));
      waiting = ap (λ xs. xs ++ closer ∷ []) h.so_far.waiting ∙ ap (λ n. positions z.base z.waiting ++ n ∷ []) h.next;
    } in
    subst (λ b. Stands rs (openers ++ closer ∷ []) (cond b z' (put_behind (r ∷ []) z.base z.waiting)) rest) (sym can) there

pub stands-behind : (rs : List Run) (openers : List ℕ) (closer : ℕ) (z : SoFar) (r : Run) (rest : List Run) → StandsAt rs openers closer z r rest → (r.opens && nat_lt 0 r.left) ≡ false
    → Stands rs openers (put r z) rest
stands-behind rs openers closer z r rest h cannot =
    let z' : SoFar = record z { waiting = record { opener = r; behind = [] } ∷ z.waiting } in
    let there : Stands rs openers (put_behind (r ∷ []) z.base z.waiting) rest = record {
      runs = h.so_far.runs ∙ sym (append_assoc (all_runs z) (r ∷ []) rest) ∙ ap (λ xs. xs ++ rest) (sym (all-put_behind (r ∷ []) z.base z.waiting));
      waiting = h.so_far.waiting ∙ sym (positions-behind z.base z.waiting r);
    } in
    subst (λ b. Stands rs openers (cond b z' (put_behind (r ∷ []) z.base z.waiting)) rest) (sym cannot) there
