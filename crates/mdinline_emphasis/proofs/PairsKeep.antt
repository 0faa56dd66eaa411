-- Pairs keep the runs in their order, each with its index, its place, its marker, and its number of markers.
use Rattle.mdinline_emphasis.proofs.Prelude.{◌≡◌, ℕ, zero, suc, ◌<◌, ◌≤◌, Bool, true, false, cond, List, [], ◌∷◌, ◌++◌, Option, Some, None, inl, inr, map, take, drop, length, refl, sym, ap, ◌∙◌, subst, arith, append_assoc, append-nil, ◌&&◌, nat_lt, nat_le, cases_Bool, length-map, map-append, drop-length, take-length, and-right, Run, may_pair, markers_of, paired, Waiting, SoFar, Found, opening, closing, put_behind, put, put_back, last_fitting, close, in_turn_from, all_waiting, all_runs, none_read, Delimiters, as_run, Standing, standing, markers, and-left, Style, style_of}
use Rattle.mdinline_emphasis.proofs.Markers.{pair-has}
use Rattle.mdinline_emphasis.proofs.InTurn.{all-put_behind, markers-more, paired-in-turn}

abbrev all_standing : List Run → List Standing
all_standing rs = map standing rs

standing-append : (xs ys : List Run) → all_standing (xs ++ ys) ≡ all_standing xs ++ all_standing ys
standing-append xs ys = map-append standing xs ys

-- ---- a pair takes markers that are there

opened-standing : (s : Style) (o : Run) → markers_of s ≤ o.left → standing (opening s o) ≡ standing o
opened-standing s o h = ap (λ n. record { index = o.index; start = o.start; marker = o.marker; markers = n }) (let same : markers (opening s o) ≡ markers o = omega (arith, h) in same)

closed-standing : (s : Style) (r : Run) → markers_of s ≤ r.left → standing (closing s r) ≡ standing r
closed-standing s r h =
    let more = markers-more r.closed s in
    ap (λ n. record { index = r.index; start = r.start; marker = r.marker; markers = n }) (let same : markers (closing s r) ≡ markers r = omega (arith, more, h) in same)

-- each run that waits has markers left
abbrev pub HaveLeft : List Waiting → Type 0
HaveLeft [] = Unit {0}
HaveLeft (w ∷ ws) = (0 < w.opener.left) × HaveLeft ws

pub some-left : (n : ℕ) → nat_lt 0 n ≡ true → 0 < n
some-left n h = grind (arith, h)

two-left : (n : ℕ) → nat_le 2 n ≡ true → 2 ≤ n
two-left n h = grind (arith, h)

first-has : (o r : Run) → 0 < o.left → markers_of (style_of o r) ≤ o.left
first-has o r h = pair-has o r o.left h (λ b. two-left o.left (and-left (nat_le 2 o.left) (nat_le 2 r.left) b))

second-has : (o r : Run) → 0 < r.left → markers_of (style_of o r) ≤ r.left
second-has o r h = pair-has o r r.left h (λ b. two-left r.left (and-right (nat_le 2 o.left) (nat_le 2 r.left) b))

-- ---- runs come behind all others

left-put_behind : (rs base : List Run) (ws : List Waiting) → HaveLeft ws → HaveLeft (put_behind rs base ws).waiting
left-put_behind rs base [] h = tt
left-put_behind rs base (w ∷ ws) h = h

-- the last one that fits, with what is behind it
pub record IsFound (f : Found) (all : List Run) : Type 0 where
  pub runs : all_waiting f.before ++ f.last.opener ∷ f.last.behind ≡ all
  pub left : 0 < f.last.opener.left
  pub before : HaveLeft f.before

found-case : (b : Bool) (w : Waiting) (ws : List Waiting) (more : Option Found) (f : Found) (all : List Run) → all_waiting ws ++ w.opener ∷ w.behind ≡ all
    → 0 < w.opener.left → HaveLeft ws → (more ≡ Some f → IsFound f all)
    → cond b (Some (record { last = w; before = ws })) more ≡ Some f → IsFound f all
found-case true w ws more f all h l hs later e =
    let same : record { last = w; before = ws } ≡ f = cc in
    subst (λ (g : Found). IsFound g all) same (record { runs = h; left = l; before = hs })
found-case false w ws more f all h l hs later e = later e

pub found-all : (r : Run) (behind : List Run) (ws : List Waiting) (f : Found) → HaveLeft ws → last_fitting r behind ws ≡ Some f → IsFound f (all_waiting ws ++ behind)
found-all r behind [] f h e = absurd (cc)
found-all r behind (w ∷ ws) f h e =
    let same : all_waiting ws ++ w.opener ∷ (w.behind ++ behind) ≡ (all_waiting ws ++ w.opener ∷ w.behind) ++ behind = sym (append_assoc (all_waiting ws) (w.opener ∷ w.behind) behind) in
    found-case (may_pair w.opener r) (record w { behind = w.behind ++ behind }) ws (last_fitting r (w.opener ∷ (w.behind ++ behind)) ws) f ((all_waiting ws ++ w.opener ∷ w.behind) ++ behind) same h.0 h.1
    (λ later. subst (IsFound f) same (found-all r (w.opener ∷ (w.behind ++ behind)) ws f h.1 later)) e

-- ---- a run is put behind the others as it stands

pub record IsPut (r : Run) (z : SoFar) (z' : SoFar) : Type 0 where
  pub runs : all_runs z' ≡ all_runs z ++ r ∷ []
  pub left : HaveLeft z'.waiting

pub put-is : (r : Run) (z : SoFar) → HaveLeft z.waiting → IsPut r z (put r z)
put-is r z h =
    elim (cases_Bool (r.opens && nat_lt 0 r.left)) [
      | inl b ↦
          subst (λ c. IsPut r z (cond c (record z { waiting = record { opener = r; behind = [] } ∷ z.waiting }) (put_behind (r ∷ []) z.base z.waiting))) (sym b)
          (record { runs = sym (append_assoc z.base (all_waiting z.waiting) (r ∷ [])); left = (some-left r.left (and-right r.opens (nat_lt 0 r.left) b), h) })
      | inr b ↦
          subst (λ c. IsPut r z (cond c (record z { waiting = record { opener = r; behind = [] } ∷ z.waiting }) (put_behind (r ∷ []) z.base z.waiting))) (sym b)
          (record { runs = all-put_behind (r ∷ []) z.base z.waiting; left = left-put_behind (r ∷ []) z.base z.waiting h })
    ]

record Keeps (z : SoFar) (r : Run) (z' : SoFar) : Type 0 where
  runs : all_standing (all_runs z') ≡ all_standing (all_runs z) ++ standing r ∷ []
  left : HaveLeft z'.waiting

put-keeps : (r : Run) (z : SoFar) → HaveLeft z.waiting → Keeps z r (put r z)
put-keeps r z h = let put = put-is r z h in record { runs = ap all_standing put.runs ∙ standing-append (all_runs z) (r ∷ []); left = put.left }

pub record IsBack (w : Waiting) (base : List Run) (ws : List Waiting) (z : SoFar) : Type 0 where
  pub runs : all_runs z ≡ (base ++ all_waiting ws) ++ w.opener ∷ w.behind
  pub left : HaveLeft z.waiting

pub back : (w : Waiting) (base : List Run) (ws : List Waiting) → HaveLeft ws → IsBack w base ws (put_back w base ws)
back w base ws h =
    elim (cases_Bool (nat_lt 0 w.opener.left)) [
      | inl b ↦
          subst (λ c. IsBack w base ws (cond c (record { base = base; waiting = w ∷ ws }) (put_behind (w.opener ∷ w.behind) base ws))) (sym b)
          (record { runs = sym (append_assoc base (all_waiting ws) (w.opener ∷ w.behind)); left = (some-left w.opener.left b, h) })
      | inr b ↦
          subst (λ c. IsBack w base ws (cond c (record { base = base; waiting = w ∷ ws }) (put_behind (w.opener ∷ w.behind) base ws))) (sym b)
          (record { runs = all-put_behind (w.opener ∷ w.behind) base ws; left = left-put_behind (w.opener ∷ w.behind) base ws h })
    ]

close-by : (n : ℕ) (r : Run) (z : SoFar) (o : Option Found) → HaveLeft z.waiting → 0 < r.left → ((r' : Run) (z' : SoFar) → HaveLeft z'.waiting → Keeps z' r' (close n r' z')) → last_fitting r [] z.waiting ≡ o
    → Keeps z r (elim o [
      | None ↦ put r z
      | Some f ↦
          let s = style_of f.last.opener r in
          close n (closing s r) (put_back (record f.last { opener = opening s f.last.opener }) z.base f.before)
    ])
close-by n r z None h l more e = put-keeps r z h
close-by n r z (Some f) h l more e =
    let s = style_of f.last.opener r in
    let w = record f.last { opener = opening s f.last.opener } in
    let z' = put_back w z.base f.before in
    let before = z.base ++ all_waiting f.before in
    let found = found-all r [] z.waiting f h e in
    let put = back w z.base f.before found.before in
    let same : all_standing (all_runs z') ≡ all_standing (all_runs z) =
    ap all_standing put.runs ∙ standing-append before (w.opener ∷ w.behind)
    ∙ ap (λ o. all_standing before ++ o ∷ all_standing w.behind) (opened-standing s f.last.opener (first-has f.last.opener r found.left))
    ∙ sym (standing-append before (f.last.opener ∷ f.last.behind))
    ∙ ap all_standing (append_assoc z.base (all_waiting f.before) (f.last.opener ∷ f.last.behind) ∙ ap (λ xs. z.base ++ xs) (found.runs ∙ append-nil (all_waiting z.waiting))) in
    let rest = more (closing s r) z' put.left in
    record {
      runs = rest.runs ∙ ap (λ xs. xs ++ standing (closing s r) ∷ []) same ∙ ap (λ x. all_standing (all_runs z) ++ x ∷ []) (closed-standing s r (second-has f.last.opener r l));
      left = rest.left;
    }

close-keeps : (n : ℕ) (r : Run) (z : SoFar) → HaveLeft z.waiting → Keeps z r (close n r z)
close-keeps zero r z h = put-keeps r z h
close-keeps (suc n) r z h =
    let goes_on : SoFar = elim (last_fitting r [] z.waiting) [
      | None ↦ put r z
      | Some f ↦
          let s = style_of f.last.opener r in
          close n (closing s r) (put_back (record f.last { opener = opening s f.last.opener }) z.base f.before)
    ] in
    elim (cases_Bool (r.closes && nat_lt 0 r.left)) [
      | inl b ↦ subst (λ c. Keeps z r (cond c goes_on (put r z))) (sym b) (close-by n r z (last_fitting r [] z.waiting) h (some-left r.left (and-right r.closes (nat_lt 0 r.left) b)) (close-keeps n) refl)
      | inr b ↦ subst (λ c. Keeps z r (cond c goes_on (put r z))) (sym b) (put-keeps r z h)
    ]

read-keeps : (rs : List Run) (z : SoFar) → HaveLeft z.waiting → all_standing (all_runs (in_turn_from z rs)) ≡ all_standing (all_runs z) ++ all_standing rs
read-keeps [] z h = sym (append-nil (all_standing (all_runs z)))
read-keeps (r ∷ rs) z h =
    let first = close-keeps r.left r z h in
    read-keeps rs (close r.left r z) first.left ∙ ap (λ xs. xs ++ all_standing rs) first.runs ∙ append_assoc (all_standing (all_runs z)) (standing r ∷ []) (all_standing rs)

-- the pairs leave each run where it stands, with its markers
pub pairs-keep : (rs : List Run) → map standing (paired rs) ≡ map standing rs
pairs-keep rs = ap all_standing (paired-in-turn rs) ∙ read-keeps rs none_read tt

-- so they keep the indices
pub pairs-keep-indices : (rs : List Run) → map (λ r. r.index) (paired rs) ≡ map (λ r. r.index) rs
pairs-keep-indices rs = sym (map-map (paired rs)) ∙ ap (map (λ (s : Standing). s.index)) (pairs-keep rs) ∙ map-map rs
  where
    map-map : (xs : List Run) → map (λ (s : Standing). s.index) (map standing xs) ≡ map (λ r. r.index) xs
    map-map [] = refl
    map-map (x ∷ xs) = ap (λ ys. x.index ∷ ys) (map-map xs)

-- so the runs that a slice is changed to are as many, and a list that is written back is theirs
pub written-back : (new old : List Delimiters) (len : ℕ) → map as_run new ≡ paired (map as_run old) → len ≡ length old → take len (new ++ drop (length new) old) ≡ new
written-back new old len is many =
    let same : length new ≡ length old =
    sym (length-map new as_run) ∙ ap length is ∙ sym (length-map (paired (map as_run old)) standing) ∙ ap length (pairs-keep (map as_run old)) ∙ length-map (map as_run old) standing ∙ length-map old as_run in
    ap (λ ys. take len (new ++ ys)) (ap (λ n. drop n old) same ∙ drop-length old) ∙ ap (take len) (append-nil new) ∙ ap (λ n. take n new) (many ∙ sym same) ∙ take-length new
