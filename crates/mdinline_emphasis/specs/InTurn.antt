-- Inner: pairs as the runs are read in turn, each in its place among the others. Code and proofs go along it; it gives what `paired` gives.
--
-- Some runs wait: they have markers left and may still open emphasis. A run closes what it can, each time with the last one that waits and
-- fits; those behind that one wait no more. Then it waits itself, if it can open.
use Rattle.std.specs.Prelude.{ℕ, zero, suc, ◌-◌, nat_lt, cond, List, [], ◌∷◌, ◌++◌, Option, Some, None}
use Rattle.mdinline_emphasis.specs.declared.pairs.Style.{Style}
use Rattle.mdinline_emphasis.specs.Emphasis.{Run, may_pair, style_of, markers_of, opens_yet, closes_yet}

-- A run that waits, and the runs behind it that do not, up to the next one that does
pub record Waiting : Type 0 where
  pub opener : Run
  pub behind : List Run

-- What was read: the runs before the first one that waits, and those that wait, the last one first
pub record SoFar : Type 0 where
  pub base : List Run
  pub waiting : List Waiting

abbrev pub opening : Style → Run → Run
opening s o = record o { left = o.left - markers_of s; opened = s ∷ o.opened }

abbrev pub closing : Style → Run → Run
closing s r = record r { left = r.left - markers_of s; closed = r.closed ++ s ∷ [] }

-- runs that do not wait come behind all others
abbrev pub put_behind : List Run → List Run → List Waiting → SoFar
put_behind rs base [] = record { base = base ++ rs; waiting = [] }
put_behind rs base (w ∷ ws) = record { base = base; waiting = record w { behind = w.behind ++ rs } ∷ ws }

-- a run comes behind all others; it waits if it can open and has markers left
abbrev pub put : Run → SoFar → SoFar
put r z = cond (opens_yet r) (record z { waiting = record { opener = r; behind = [] } ∷ z.waiting }) (put_behind (r ∷ []) z.base z.waiting)

-- a run that opened a pair, and those behind it: it waits on if it has markers left
abbrev pub put_back : Waiting → List Run → List Waiting → SoFar
put_back w base ws = cond (nat_lt 0 w.opener.left) (record { base = base; waiting = w ∷ ws }) (put_behind (w.opener ∷ w.behind) base ws)

-- the last run that waits and fits, with all runs behind it, and those that wait before it
pub record Found : Type 0 where
  pub last : Waiting
  pub before : List Waiting

abbrev pub last_fitting : Run → List Run → List Waiting → Option Found
last_fitting r behind [] = None
last_fitting r behind (w ∷ ws) =
    cond (may_pair w.opener r) (Some (record { last = record w { behind = w.behind ++ behind }; before = ws }))
    (last_fitting r (w.opener ∷ (w.behind ++ behind)) ws)

-- a run closes what it can, and is put behind; the number is at least how many markers it has left
abbrev pub close : ℕ → Run → SoFar → SoFar
close zero r z = put r z
close (suc n) r z =
    cond (closes_yet r)
    (elim (last_fitting r [] z.waiting) [
      | None ↦ put r z
      | Some f ↦
          let s = style_of f.last.opener r in
          close n (closing s r) (put_back (record f.last { opener = opening s f.last.opener }) z.base f.before)
    ])
    (put r z)

-- all runs, from the front
abbrev pub in_turn_from : SoFar → List Run → SoFar
in_turn_from z [] = z
in_turn_from z (r ∷ rs) = in_turn_from (close r.left r z) rs

-- the runs that were read, in their order
abbrev pub all_waiting : List Waiting → List Run
all_waiting [] = []
all_waiting (w ∷ ws) = all_waiting ws ++ w.opener ∷ w.behind

abbrev pub all_runs : SoFar → List Run
all_runs z = z.base ++ all_waiting z.waiting

abbrev pub none_read : SoFar
none_read = record { base = []; waiting = [] }

-- the runs of a text with their pairs; `paired` gives the same
abbrev pub paired_in_turn : List Run → List Run
paired_in_turn rs = all_runs (in_turn_from none_read rs)
