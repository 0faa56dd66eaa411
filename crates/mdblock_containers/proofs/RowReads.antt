-- Lines that are read one after another as those of containers are, though the leaf block of each may be another: what is known behind a line, and
-- what its columns pay for.
use Rattle.std.proofs.Common.{◌≡◌, ◌⊎◌, ℕ, suc, Bool, true, false, cond, List, [], ◌∷◌, ◌++◌, length, refl, sym, ap, ◌∙◌, subst, arith}
use Rattle.std.specs.List.{AllByRecursion}
use Rattle.markdown_base.specs.declared.configuration.Constructs.{Constructs}
use Rattle.markdown_base.proofs.Facts.Bools.{and-left}
use Rattle.mdblock_leaf_blocks.specs.LeafBlocks.{Line}
use Rattle.mdblock_containers.specs.Costs.{ArePaid, FirstIsNotLazy, Follows, HaveSizes, IsPaid, is_bare}
use Rattle.mdblock_containers.specs.Prefixes.{containers_of}
use Rattle.mdblock_containers.specs.Rows.{Before, Leaf, Row, closed, has_none, is_paragraph, known_after, row_of, rows_by}
use Rattle.mdblock_containers.proofs.CostLemmas.{began_sizes, depth_behind, is_paid, leaf_behind, not_lazy}
use Rattle.mdblock_containers.proofs.FrameFacts.{begun_leaf, old_after, stack_stays}
use Rattle.mdblock_containers.proofs.RowFacts.{BeganBefore, went_within}

-- there is a row for each line
pub rows_length : {K : Type 0} (row : K → ℕ → Line → Row) (next : K → Row → K) (k : K) (n : ℕ) (ls : List Line) → length (rows_by row next k n ls) ≡ length ls
rows_length row next k n [] = refl
rows_length row next k n (l ∷ ls) = ap suc (rows_length row next (next k (row k n l)) (suc n) ls)

-- a line's leaf block opens no container
pub leaf_stack : (on : Constructs) (b : Before) (r : Row) (leaf : Leaf) → (known_after on b (record r { leaf = leaf })).stack ≡ (known_after on b r).stack
leaf_stack on b r leaf = by r.is_left_blank r.is_lazy
  where
    by : (left lazy : Bool) → let all = containers_of r.went_on ++ containers_of r.begun in
        (cond left (record b { depth = length r.went_on; leaf = closed }) (cond lazy (record b { leaf = leaf }) (record { stack = all; depth = length all; leaf = leaf }))).stack
        ≡ (cond left (record b { depth = length r.went_on; leaf = closed }) (cond lazy (record b { leaf = r.leaf }) (record { stack = all; depth = length all; leaf = r.leaf }))).stack
    by true lazy = refl
    by false true = refl
    by false false = refl

-- How lines are read: what is known before a line, and what containers know of it; the leaf block behind a line, which is as theirs behind a blank one;
-- and what is known behind a line, of which containers know as ever
pub record Reads (on : Constructs) : Type 1 where
  pub Known : Type 0
  pub before : Known → Before
  pub leaf : Known → ℕ → Line → Leaf
  pub next : Known → Row → Known
  pub same_next : (k : Known) (r : Row) → before (next k r) ≡ known_after on (before k) r
  pub same_blank : (k : Known) (n : ℕ) (l : Line) → (row_of on (before k) n l).is_blank ≡ true → leaf k n l ≡ (row_of on (before k) n l).leaf

-- as containers read them
abbrev pub plain_reads : (on : Constructs) → Reads on
plain_reads on = record { Known = Before; before = λ b. b; leaf = λ b n l. (row_of on b n l).leaf; next = known_after on; same_next = λ b r. refl; same_blank = λ b n l h. refl }

module _ (on : Constructs) (R : Reads on) where
  abbrev pub row : R.Known → ℕ → Line → Row
  row k n l = record (row_of on (R.before k) n l) { leaf = R.leaf k n l }

  abbrev pub read_from : R.Known → ℕ → List Line → List Row
  read_from = rows_by row R.next

  -- ---- one line

  module _ (k : R.Known) (n : ℕ) (line : Line) where
    abbrev pub plain : Row
    plain = row_of on (R.before k) n line

    abbrev pub r : Row
    r = row k n line

    -- what containers know behind it
    abbrev pub behind : Before
    behind = R.before (R.next k r)

    abbrev after : (left lazy : Bool) → Before
    after left lazy =
        let all = containers_of r.went_on ++ containers_of r.begun in
        cond left (record (R.before k) { depth = length r.went_on; leaf = closed }) (cond lazy (record (R.before k) { leaf = r.leaf }) (record { stack = all; depth = length all; leaf = r.leaf }))

    pub behind_left : r.is_left_blank ≡ true → behind ≡ record (R.before k) { depth = length r.went_on; leaf = closed }
    behind_left h = R.same_next k r ∙ ap (λ x. after x r.is_lazy) h

    pub behind_other : r.is_left_blank ≡ false → r.is_lazy ≡ false → behind.stack ≡ containers_of r.went_on ++ containers_of r.begun
    behind_other h e = ap (λ (x : Before). x.stack) (R.same_next k r) ∙ (λ i. (after (h i) (e i)).stack)

    pub same_stack : behind.stack ≡ (known_after on (R.before k) plain).stack
    same_stack = ap (λ (x : Before). x.stack) (R.same_next k r) ∙ leaf_stack on (R.before k) plain (R.leaf k n line)

    -- a line that a stretch goes on with leaves the stack as it is
    pub still_stack : (r.is_left_blank ≡ true) ⊎ (r.stays ≡ true) → behind.stack ≡ (R.before k).stack
    still_stack h = same_stack ∙ stack_stays on (R.before k) n line h

    -- containers of the stack began in this line or before
    pub old_behind : AllByRecursion (BeganBefore n) (R.before k).stack → AllByRecursion (BeganBefore (suc n)) behind.stack
    old_behind old = subst (AllByRecursion (BeganBefore (suc n))) (sym same_stack) (old_after on (R.before k) n line old)

    -- a blank line is as containers read it
    pub blank_same : r.is_blank ≡ true → r ≡ plain
    blank_same h = λ i. record plain { leaf = R.same_blank k n line h i }

    -- behind one in which containers begin no leaf block is open
    pub begun_closed : r.is_left_blank ≡ false → r.is_lazy ≡ false → r.is_blank ≡ true → has_none r.begun ≡ false → behind.leaf ≡ closed
    begun_closed left lazy blank some =
        ap (λ (x : Before). x.leaf) (R.same_next k r) ∙ ap (λ (x : Row). (known_after on (R.before k) x).leaf) (blank_same blank) ∙ begun_leaf on (R.before k) n line left lazy blank some

    -- no paragraph goes on behind one
    pub behind_blank : r.is_blank ≡ true → is_paragraph behind.leaf ≡ false
    behind_blank h = ap (λ (x : Before). is_paragraph x.leaf) (R.same_next k r) ∙ ap (λ (x : Row). is_paragraph (known_after on (R.before k) x).leaf) (blank_same h) ∙ leaf_behind on (R.before k) n line h

    pub behind_bare : is_bare r ≡ true → behind.depth ≡ length r.went_on
    behind_bare h =
        ap (λ (x : Before). x.depth) (R.same_next k r) ∙ ap (λ (x : Row). (known_after on (R.before k) x).depth) (blank_same (and-left r.is_blank (has_none r.begun) h)) ∙ depth_behind on (R.before k) n line h

    pub row_paid : HaveSizes (R.before k).stack → IsPaid r
    row_paid sizes = let p = is_paid on (R.before k) n line sizes in record { columns = p.columns; lazy = p.lazy; left = p.left }

  -- ---- all lines

  pub follows : (k : R.Known) (n : ℕ) (l : Line) (ls : List Line) → Follows (row k n l) (read_from (R.next k (row k n l)) (suc n) ls)
  follows k n l [] = tt
  follows k n l (m ∷ ms) =
      let next = R.before (R.next k (row k n l)) in (
        (λ h. not_lazy on next (suc n) m (behind_blank k n l h)),
        (λ h. let few = (went_within on next (suc n) m).0 in let depth = behind_bare k n l h in omega (arith, few, depth)),
      )

  pub rows_paid : (k : R.Known) (n : ℕ) (ls : List Line) → AllByRecursion (BeganBefore n) (R.before k).stack → ArePaid (read_from k n ls)
  rows_paid k n [] h = tt
  rows_paid k n (l ∷ ls) h = (row_paid k n l (began_sizes n (R.before k).stack h), follows k n l ls, rows_paid (R.next k (row k n l)) (suc n) ls (old_behind k n l h))

  pub first_paid : (k : R.Known) (n : ℕ) (ls : List Line) → is_paragraph (R.before k).leaf ≡ false → FirstIsNotLazy (read_from k n ls)
  first_paid k n [] h = tt
  first_paid k n (l ∷ ls) h = not_lazy on (R.before k) n l h
