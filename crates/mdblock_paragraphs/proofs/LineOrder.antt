-- The virtual bytes of each line of a document are of bytes before those of the lines behind it.
use Rattle.std.proofs.Common.{◌≡◌, ◌<◌, ◌≤◌, ◌+◌, ℕ, zero, suc, Bool, true, false, cond, List, [], ◌∷◌, ◌++◌, ap, arith, refl, subst, sym}
use Rattle.std.specs.Prelude.{◌==◌}
use Rattle.std.specs.List.{AllByRecursion}
use Rattle.markdown_base.proofs.Common.{every-map}
use Rattle.markdown_base.specs.Virtual.{Seat, begins_with_lf, end_in_tab, in_tab, line_feed, other_byte, point, tab_width, virtual_from}
use Rattle.mdconstructs_machines.specs.LineEvents.{is_line_ending, joined, lines_in}
use Rattle.mdblock_leaf_blocks.specs.LeafBlocks.{Line}

-- a virtual byte of a byte from an index on
abbrev From : ℕ → Seat → Type 0
From n s = n ≤ s.point.index

abbrev AllFrom : ℕ → List Line → Type 0
AllFrom n ls = AllByRecursion (AllByRecursion (From n)) ls

-- one that comes behind all of a line
abbrev pub IsBehind : Line → Seat → Type 0
IsBehind l q = AllByRecursion (λ (p : Seat). p.point.index < q.point.index) l

abbrev pub AreInOrder : List Line → Type 0
AreInOrder [] = Unit {0}
AreInOrder (l ∷ ls) = AllByRecursion (AllByRecursion (IsBehind l)) ls × AreInOrder ls

-- lines behind the first are from an index on
abbrev LaterFrom : ℕ → List Line → Type 0
LaterFrom n [] = Unit {0}
LaterFrom n (l ∷ ls) = AllFrom n ls

record AreLines (n : ℕ) (ls : List Line) : Type 0 where
  pub order : AreInOrder ls
  pub from : AllFrom n ls

record AreBegun (n : ℕ) (ls : List Line) : Type 0 where
  pub order : AreInOrder ls
  pub from : AllFrom n ls
  pub later : LaterFrom (suc n) ls

all-later : (n : ℕ) (ls : List Line) → AllFrom (suc n) ls → AllFrom n ls
all-later n ls h = every-map (AllByRecursion (From (suc n))) (AllByRecursion (From n)) (λ l k. every-map (From (suc n)) (From n) (λ s f. omega (arith, f)) l k) ls h

later : (n : ℕ) (ls : List Line) → AreLines (suc n) ls → AreLines n ls
later n ls h = record { order = h.order; from = all-later n ls h.from }

begun : (n : ℕ) (ls : List Line) → AreLines (suc n) ls → AreBegun n ls
begun n ls h = record { order = h.order; from = all-later n ls h.from; later = by ls h.from }
  where
    by : (ls : List Line) → AllFrom (suc n) ls → LaterFrom (suc n) ls
    by [] k = tt
    by (l ∷ ls) k = k.1

-- ---- one virtual byte more

module _ (s : Seat) (n : ℕ) (is : s.point.index ≡ n) where
  behind-all : (l : Line) (ks : List Line) → AllFrom (suc n) ks → AllByRecursion (AllByRecursion (IsBehind l)) ks → AllByRecursion (AllByRecursion (IsBehind (s ∷ l))) ks
  behind-all l [] f h = tt
  behind-all l (k ∷ ks) f h = (one k f.0 h.0, behind-all l ks f.1 h.1)
    where
      one : (k : Line) → AllByRecursion (From (suc n)) k → AllByRecursion (IsBehind l) k → AllByRecursion (IsBehind (s ∷ l)) k
      one [] f h = tt
      one (q ∷ qs) f h = let more = f.0 in ((omega (arith, is, more), h.0), one qs f.1 h.1)

  behind-one : (ks : List Line) → AllFrom (suc n) ks → AllByRecursion (AllByRecursion (IsBehind (s ∷ []))) ks
  behind-one ks f = every-map (AllByRecursion (From (suc n))) (AllByRecursion (IsBehind (s ∷ []))) (λ k h. every-map (From (suc n)) (IsBehind (s ∷ [])) (λ q m. (omega (arith, is, m), tt)) k h) ks f

  here : From n s
  here = omega (arith, is)

  -- it is a line of its own
  ended : (ls : List Line) → AreLines (suc n) ls → AreLines n ((s ∷ []) ∷ ls)
  ended ls h = record { order = (behind-one ls h.from, h.order); from = ((here, tt), all-later n ls h.from) }

  -- or it comes first in a line
  more : (ls : List Line) → AreBegun n ls → AreBegun n (joined s ls)
  more [] h = record { order = (tt, tt); from = ((here, tt), tt); later = tt }
  more (l ∷ ls) h = record { order = (behind-all l ls h.later h.order.0, h.order.1); from = ((here, h.from.0), h.from.1); later = h.later }

  joined-more : (ss : List Seat) → is_line_ending s ≡ false → AreBegun n (lines_in ss) → AreBegun n (lines_in (s ∷ ss))
  joined-more ss e h = subst (AreBegun n) (sym (ap (λ b. cond b ((s ∷ []) ∷ lines_in ss) (joined s (lines_in ss))) e)) (more (lines_in ss) h)

  joined-ended : (ss : List Seat) → is_line_ending s ≡ true → AreLines (suc n) (lines_in ss) → AreLines n (lines_in (s ∷ ss))
  joined-ended ss e h = subst (AreLines n) (sym (ap (λ b. cond b ((s ∷ []) ∷ lines_in ss) (joined s (lines_in ss))) e)) (ended (lines_in ss) h)

lines-begun : (n : ℕ) (ls : List Line) → AreBegun n ls → AreLines n ls
lines-begun n ls h = record { order = h.order; from = h.from }

tab-lines : (n : ℕ) (ss : List Seat) (k byte line column vs : ℕ) → (byte == 10) ≡ false → AreBegun n (lines_in ss) → AreBegun n (lines_in (in_tab byte k line column n vs ++ ss))
tab-lines n ss zero byte line column vs e h = h
tab-lines n ss (suc k) byte line column vs e h =
    joined-more (record { byte = byte; point = point line column n vs; end = end_in_tab k line column n vs }) n refl (in_tab 32 k line (suc column) n (suc vs) ++ ss) e (tab-lines n ss k 32 line (suc column) (suc vs) refl h)

-- ---- all virtual bytes

lines-from : (t line column n : ℕ) (bs : List ℕ) → AreLines n (lines_in (virtual_from t line column n bs))
lines-from t line column n [] = record { order = tt; from = tt }
lines-from t line column n (b ∷ bs) = by (λ l c. lines-from t l c (suc n) bs) (b == 10) (b == 13) (begins_with_lf bs) (b == 9) refl
  where
    by : ((l c : ℕ) → AreLines (suc n) (lines_in (virtual_from t l c (suc n) bs))) → (lf cr lf_comes tab : Bool) → (b == 10) ≡ lf
        → AreLines n (lines_in
        (cond lf (line_feed line column n ∷ virtual_from t (suc line) 1 (suc n) bs)
        (cond cr (cond lf_comes (virtual_from t line column (suc n) bs) (line_feed line column n ∷ virtual_from t (suc line) 1 (suc n) bs))
        (cond tab (in_tab 9 (tab_width t column) line column n 0 ++ virtual_from t line (column + tab_width t column) (suc n) bs) (other_byte b line column n ∷ virtual_from t line (suc column) (suc n) bs)))))
    by rest true cr lf_comes tab e = joined-ended (line_feed line column n) n refl (virtual_from t (suc line) 1 (suc n) bs) refl (rest (suc line) 1)
    by rest false true true tab e = later n (lines_in (virtual_from t line column (suc n) bs)) (rest line column)
    by rest false true false tab e = joined-ended (line_feed line column n) n refl (virtual_from t (suc line) 1 (suc n) bs) refl (rest (suc line) 1)
    by rest false false lf_comes true e =
        let ss = virtual_from t line (column + tab_width t column) (suc n) bs in
        lines-begun n (lines_in (in_tab 9 (tab_width t column) line column n 0 ++ ss)) (tab-lines n ss (tab_width t column) 9 line column 0 refl (begun n (lines_in ss) (rest line (column + tab_width t column))))
    by rest false false lf_comes false e =
        let ss = virtual_from t line (suc column) (suc n) bs in
        lines-begun n (lines_in (other_byte b line column n ∷ ss)) (joined-more (other_byte b line column n) n refl ss e (begun n (lines_in ss) (rest line (suc column))))

pub lines-in-order : (t : ℕ) (bytes : List ℕ) → AreInOrder (lines_in (virtual_from t 1 1 0 bytes))
lines-in-order t bytes = (lines-from t 1 1 0 bytes).order
