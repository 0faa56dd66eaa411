-- Of two neighbours among the runs with their pairs the first opens nothing, the second closes nothing, or they have one marker.
--
-- A run pairs first with the last one that waits and fits. If runs are between the two, they never wait again, and the one directly before it
-- has opened nothing; if none is, the two have one marker.
use Rattle.mdinline_emphasis.proofs.Prelude.{◌≡◌, ℕ, zero, suc, Bool, true, false, cond, List, [], ◌∷◌, ◌++◌, Option, Some, None, inl, inr, refl, sym, ap, ◌∙◌, subst, append_assoc, append-nil, ◌⊎◌, ◌&&◌, nat_lt, Run, same, may_pair, Waiting, SoFar, Found, opening, closing, put_behind, put, put_back, last_fitting, close, in_turn_from, all_waiting, all_runs, none_read, paired_in_turn, AreBeside, AreUnpaired, PairsBeside, and-left, Style, style_of}
use Rattle.mdinline_emphasis.proofs.InTurn.{paired-in-turn}
use Rattle.mdinline_emphasis.proofs.PairsKeep.{HaveLeft, found-all, back, put-is}

-- ---- lists of neighbours

-- a list may go on behind a run as behind the last one of a list
besides-join : (xs : List Run) (o : Run) (more : List Run) → AreBeside (xs ++ o ∷ []) → AreBeside (o ∷ more) → AreBeside (xs ++ o ∷ more)
besides-join [] o more h k = k
besides-join (x ∷ []) o more h k = (h.0, k)
besides-join (x ∷ y ∷ xs) o more h k = (h.0, besides-join (y ∷ xs) o more h.1 k)

-- a run that closes nothing may come behind a list
besides-more : (xs : List Run) (r : Run) → r.closed ≡ [] → AreBeside xs → AreBeside (xs ++ r ∷ [])
besides-more [] r none h = tt
besides-more (x ∷ []) r none h = (inr (inl none), tt)
besides-more (x ∷ y ∷ xs) r none h = (h.0, besides-more (y ∷ xs) r none h.1)

-- of a run that waits and the run behind it, the second closes nothing, or they have one marker
abbrev WaitsBeside : Run → List Run → Type 0
WaitsBeside a [] = Unit {0}
WaitsBeside a (b ∷ rs) = (b.closed ≡ []) ⊎ (same a.marker b.marker ≡ true)

waits-beside : (a : Run) (rs : List Run) → WaitsBeside a rs → AreBeside rs → AreBeside (a ∷ rs)
waits-beside a [] h k = tt
waits-beside a (b ∷ rs) (inl none) k = (inr (inl none), k)
waits-beside a (b ∷ rs) (inr one) k = (inr (inr one), k)

waits-join : (a : Run) (xs : List Run) (o : Run) (more : List Run) → WaitsBeside a (xs ++ o ∷ []) → WaitsBeside a (xs ++ o ∷ more)
waits-join a [] o more h = h
waits-join a (x ∷ xs) o more h = h

-- The last run of a list opens nothing, or it has the marker of a run behind the list
abbrev LastIsFree : List Run → Run → Type 0
LastIsFree [] r = Unit {0}
LastIsFree (a ∷ []) r = (a.opened ≡ []) ⊎ (same a.marker r.marker ≡ true)
LastIsFree (a ∷ b ∷ rs) r = LastIsFree (b ∷ rs) r

-- of a list, its last run counts alone
free-last : (xs : List Run) (a : Run) (ys : List Run) (r : Run) → LastIsFree (xs ++ a ∷ ys) r → LastIsFree (a ∷ ys) r
free-last [] a ys r h = h
free-last (x ∷ []) a ys r h = h
free-last (x ∷ y ∷ xs) a ys r h = free-last (y ∷ xs) a ys r h

free-again : (xs : List Run) (a : Run) (ys : List Run) (r : Run) → LastIsFree (a ∷ ys) r → LastIsFree (xs ++ a ∷ ys) r
free-again [] a ys r h = h
free-again (x ∷ []) a ys r h = h
free-again (x ∷ y ∷ xs) a ys r h = free-again (y ∷ xs) a ys r h

-- so the run behind a list may close a pair
closes-behind : (xs : List Run) (s : Style) (r : Run) → AreBeside (xs ++ r ∷ []) → LastIsFree xs r → AreBeside (xs ++ closing s r ∷ [])
closes-behind [] s r h free = tt
closes-behind (a ∷ []) s r h (inl none) = (inl none, tt)
closes-behind (a ∷ []) s r h (inr one) = (inr (inr one), tt)
closes-behind (a ∷ b ∷ xs) s r h free = (h.0, closes-behind (b ∷ xs) s r h.1 free)

-- a last run may open a pair
opens-behind : (xs : List Run) (s : Style) (o : Run) → AreBeside (xs ++ o ∷ []) → AreBeside (xs ++ opening s o ∷ [])
opens-behind [] s o h = tt
opens-behind (a ∷ []) s o h = (h.0, tt)
opens-behind (a ∷ b ∷ xs) s o h = (h.0, opens-behind (b ∷ xs) s o h.1)

-- ---- runs that were read

-- all neighbours are beside one another, with the runs of the tail behind them
abbrev Good : List Run → List Waiting → List Run → Type 0
Good base [] tail = AreBeside (base ++ tail)
Good base (w ∷ ws) tail = WaitsBeside w.opener (w.behind ++ tail) × AreBeside (w.behind ++ tail) × Good base ws (w.opener ∷ [])

extend : (base : List Run) (ws : List Waiting) (o : Run) (more : List Run) → Good base ws (o ∷ []) → AreBeside (o ∷ more) → Good base ws (o ∷ more)
extend base [] o more h k = besides-join base o more h k
extend base (w ∷ ws) o more h k = (waits-join w.opener w.behind o more h.0, besides-join w.behind o more h.1 k, h.2)

-- a run that waited, and those behind it, wait no more
drop : (base : List Run) (w : Waiting) (ws : List Waiting) (tail : List Run) → Good base (w ∷ ws) tail → Good base ws (w.opener ∷ (w.behind ++ tail))
drop base w ws tail h = extend base ws w.opener (w.behind ++ tail) h.2 (waits-beside w.opener (w.behind ++ tail) h.0 h.1)

-- runs may stand in the tail or behind the last run that waits
put_behind-good : (rs base : List Run) (ws : List Waiting) (tail : List Run) → Good base ws (rs ++ tail) → Good (put_behind rs base ws).base (put_behind rs base ws).waiting tail
put_behind-good rs base [] tail h = subst AreBeside (sym (append_assoc base rs tail)) h
put_behind-good rs base (w ∷ ws) tail h =
    let same_list = sym (append_assoc w.behind rs tail) in
    (subst (WaitsBeside w.opener) same_list h.0, subst AreBeside same_list h.1, h.2)

between : (base behind : List Run) (w : Waiting) (ws : List Waiting) (tail : List Run) → Good base (w ∷ ws) (behind ++ tail) → Good base (record w { behind = w.behind ++ behind } ∷ ws) tail
between base behind w ws tail h = put_behind-good behind base (w ∷ ws) tail h

put_back-good : (b : Bool) (base : List Run) (w : Waiting) (ws : List Waiting) (tail : List Run) → Good base (w ∷ ws) tail
    → let z = cond b (record { base = base; waiting = w ∷ ws }) (put_behind (w.opener ∷ w.behind) base ws) in Good z.base z.waiting tail
put_back-good true base w ws tail h = h
put_back-good false base w ws tail h = put_behind-good (w.opener ∷ w.behind) base ws tail (drop base w ws tail h)

put-good : (b : Bool) (r : Run) (base : List Run) (ws : List Waiting) → Good base ws (r ∷ [])
    → let z = cond b (record { base = base; waiting = record { opener = r; behind = [] } ∷ ws }) (put_behind (r ∷ []) base ws) in Good z.base z.waiting []
put-good true r base ws h = (tt, tt, h)
put-good false r base ws h = put_behind-good (r ∷ []) base ws [] h

-- ---- a run that fits

found-case : (b : Bool) (P : Found → Type 0) (w : Waiting) (ws : List Waiting) (more : Option Found) (f : Found) → (b ≡ true → P (record { last = w; before = ws }))
    → (more ≡ Some f → P f) → cond b (Some (record { last = w; before = ws })) more ≡ Some f → P f
found-case true P w ws more f h later e = let same_one : record { last = w; before = ws } ≡ f = cc in subst P same_one (h refl)
found-case false P w ws more f h later e = later e

-- the last run that fits has the marker of the one that closes, and neighbours stay beside one another
abbrev Fits : Run → List Run → List Run → Found → Type 0
Fits r base tail f = (same f.last.opener.marker r.marker ≡ true) × Good base (f.last ∷ f.before) tail

found-fits : (r : Run) (base behind : List Run) (ws : List Waiting) (f : Found) (tail : List Run) → Good base ws (behind ++ tail) → last_fitting r behind ws ≡ Some f → Fits r base tail f
found-fits r base behind [] f tail h e = absurd (cc)
found-fits r base behind (w ∷ ws) f tail h e =
    let there : Waiting = record w { behind = w.behind ++ behind } in
    let good = between base behind w ws tail h in
    found-case (may_pair w.opener r) (Fits r base tail) there ws (last_fitting r (w.opener ∷ (w.behind ++ behind)) ws) f
    (λ b. (and-left (same w.opener.marker r.marker) _ b, good))
    (found-fits r base (w.opener ∷ (w.behind ++ behind)) ws f tail (drop base there ws tail good)) e

opens-good : (s : Style) (o : Run) (base : List Run) (ws : List Waiting) → Good base ws (o ∷ []) → Good base ws (opening s o ∷ [])
opens-good s o base [] h = opens-behind base s o h
opens-good s o base (w ∷ ws) h = (first w.behind h.0, opens-behind w.behind s o h.1, h.2)
  where
    first : (xs : List Run) → WaitsBeside w.opener (xs ++ o ∷ []) → WaitsBeside w.opener (xs ++ opening s o ∷ [])
    first [] k = k
    first (x ∷ xs) k = k

-- it opens a pair, and the one that closes it is behind all others
pair-good : (s : Style) (r : Run) (base : List Run) (w : Waiting) (ws : List Waiting) → same w.opener.marker r.marker ≡ true → LastIsFree (w.opener ∷ w.behind) r → Good base (w ∷ ws) (r ∷ [])
    → Good base (record w { opener = opening s w.opener } ∷ ws) (closing s r ∷ [])
pair-good s r base w ws one free h = (behind-good w.behind free h.0, closes w.behind free h.1, opens-good s w.opener base ws h.2)
  where
    behind-good : (xs : List Run) → LastIsFree (w.opener ∷ xs) r → WaitsBeside w.opener (xs ++ r ∷ []) → WaitsBeside (opening s w.opener) (xs ++ closing s r ∷ [])
    behind-good [] free h = inr one
    behind-good (x ∷ xs) free h = h

    closes : (xs : List Run) → LastIsFree (w.opener ∷ xs) r → AreBeside (xs ++ r ∷ []) → AreBeside (xs ++ closing s r ∷ [])
    closes [] free h = tt
    closes (x ∷ xs) free h = closes-behind (x ∷ xs) s r h free

pair-free : (s : Style) (r : Run) (o : Run) (xs : List Run) → same o.marker r.marker ≡ true → LastIsFree (o ∷ xs) r → LastIsFree (opening s o ∷ xs) (closing s r)
pair-free s r o [] one h = inr one
pair-free s r o (x ∷ xs) one h = free-closing (x ∷ xs) h
  where
    free-closing : (ys : List Run) → LastIsFree ys r → LastIsFree ys (closing s r)
    free-closing [] k = tt
    free-closing (a ∷ []) k = k
    free-closing (a ∷ b ∷ ys) k = free-closing (b ∷ ys) k

-- ---- a run that closes what it can

-- what holds before a run closes a pair
record IsNext (z : SoFar) (r : Run) : Type 0 where
  good : Good z.base z.waiting (r ∷ [])
  free : LastIsFree (all_runs z) r
  left : HaveLeft z.waiting

-- what holds between two runs
record IsRead (z : SoFar) : Type 0 where
  good : Good z.base z.waiting []
  free : (r : Run) → LastIsFree (all_runs z) r
  left : HaveLeft z.waiting

put-read : (r : Run) (z : SoFar) → r.opened ≡ [] → IsNext z r → IsRead (put r z)
put-read r z none h =
    let is = put-is r z h.left in
    record {
      good = put-good (r.opens && nat_lt 0 r.left) r z.base z.waiting h.good;
      free = λ next. subst (λ xs. LastIsFree xs next) (sym is.runs) (free-again (all_runs z) r [] next (inl none));
      left = is.left;
    }

close-by : (n : ℕ) (r : Run) (z : SoFar) (o : Option Found) → r.opened ≡ [] → IsNext z r → ((r' : Run) (z' : SoFar) → r'.opened ≡ [] → IsNext z' r' → IsRead (close n r' z')) → last_fitting r [] z.waiting ≡ o
    → IsRead (elim o [
      | None ↦ put r z
      | Some f ↦
          let s = style_of f.last.opener r in
          close n (closing s r) (put_back (record f.last { opener = opening s f.last.opener }) z.base f.before)
    ])
close-by n r z None none h more e = put-read r z none h
close-by n r z (Some f) none h more e =
    let s = style_of f.last.opener r in
    let w : Waiting = record f.last { opener = opening s f.last.opener } in
    let before = z.base ++ all_waiting f.before in
    let found = found-all r [] z.waiting f h.left e in
    let fits = found-fits r z.base [] z.waiting f (r ∷ []) h.good e in
    let put = back w z.base f.before found.before in
    let same_runs : all_runs z ≡ before ++ f.last.opener ∷ f.last.behind =
    ap (λ xs. z.base ++ xs) (sym (found.runs ∙ append-nil (all_waiting z.waiting))) ∙ sym (append_assoc z.base (all_waiting f.before) (f.last.opener ∷ f.last.behind)) in
    let free = free-last before f.last.opener f.last.behind r (subst (λ xs. LastIsFree xs r) same_runs h.free) in
    more (closing s r) (put_back w z.base f.before) none (record {
      good = put_back-good (nat_lt 0 w.opener.left) z.base w f.before (closing s r ∷ []) (pair-good s r z.base f.last f.before fits.0 free fits.1);
      free = subst (λ xs. LastIsFree xs (closing s r)) (sym put.runs) (free-again before w.opener w.behind (closing s r) (pair-free s r f.last.opener f.last.behind fits.0 free));
      left = put.left;
    })

cond-read : (b : Bool) (x y : SoFar) → IsRead x → IsRead y → IsRead (cond b x y)
cond-read true x y h k = h
cond-read false x y h k = k

close-read : (n : ℕ) (r : Run) (z : SoFar) → r.opened ≡ [] → IsNext z r → IsRead (close n r z)
close-read zero r z none h = put-read r z none h
close-read (suc n) r z none h =
    cond-read (r.closes && nat_lt 0 r.left) (elim (last_fitting r [] z.waiting) [
      | None ↦ put r z
      | Some f ↦
          let s = style_of f.last.opener r in
          close n (closing s r) (put_back (record f.last { opener = opening s f.last.opener }) z.base f.before)
    ]) (put r z) (close-by n r z (last_fitting r [] z.waiting) none h (close-read n) refl) (put-read r z none h)

-- a run that closes nothing yet may come behind
next-good : (r : Run) (base : List Run) (ws : List Waiting) → r.closed ≡ [] → Good base ws [] → Good base ws (r ∷ [])
next-good r base [] none h = besides-more base r none (subst AreBeside (append-nil base) h)
next-good r base (w ∷ ws) none h = (first w.behind h.0, besides-more w.behind r none (subst AreBeside (append-nil w.behind) h.1), h.2)
  where
    first : (xs : List Run) → WaitsBeside w.opener (xs ++ []) → WaitsBeside w.opener (xs ++ r ∷ [])
    first [] k = inl none
    first (x ∷ xs) k = k

read-all : (rs : List Run) (z : SoFar) → AreUnpaired rs → IsRead z → IsRead (in_turn_from z rs)
read-all [] z fresh h = h
read-all (r ∷ rs) z fresh h =
    read-all rs (close r.left r z) fresh.1
    (close-read r.left r z fresh.0.1 (record { good = next-good r z.base z.waiting fresh.0.0 h.good; free = h.free r; left = h.left }))

all-beside : (base : List Run) (ws : List Waiting) (tail : List Run) → Good base ws tail → AreBeside ((base ++ all_waiting ws) ++ tail)
all-beside base [] tail h = subst (λ rs. AreBeside (rs ++ tail)) (sym (append-nil base)) h
all-beside base (w ∷ ws) tail h =
    let before = base ++ all_waiting ws in
    let more = w.opener ∷ w.behind in
    let same_list : (base ++ (all_waiting ws ++ more)) ++ tail ≡ before ++ (more ++ tail) = ap (λ rs. rs ++ tail) (sym (append_assoc base (all_waiting ws) more)) ∙ append_assoc before more tail in
    subst AreBeside (sym same_list) (all-beside base ws (more ++ tail) (drop base w ws tail h))

pub pairs-beside : PairsBeside
pairs-beside rs fresh =
    let z = in_turn_from none_read rs in
    let read = read-all rs none_read fresh (record { good = tt; free = λ r. tt; left = tt }) in
    subst AreBeside (sym (paired-in-turn rs)) (subst AreBeside (append-nil (paired_in_turn rs)) (all-beside z.base z.waiting [] read.good))
