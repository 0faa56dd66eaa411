-- Lemmas on delimiter rows: the alignments of cells, counted.
use Rattle.std.proofs.Common.{◌≡◌, ℕ, suc, ◌+◌, ◌≤◌, Bool, true, false, cond, List, [], ◌∷◌, length, drop, Option, Some, None, refl, ap, ◌∙◌, arith, le-leb, eqb-true}
use Rattle.std.specs.Prelude.{◌==◌, ◌&&◌, nat_le, is_some}
use Rattle.mdblock_leaf_blocks.specs.LineKinds.{run}
use Rattle.mdblock_tables.specs.declared.tables.Alignment.{Alignment}
use Rattle.mdblock_tables.specs.Laws.{HeadersMatch}
use Rattle.mdblock_tables.specs.Tables.{aligned, alignment_of, alignments_of, before_others, cells, counted, delimiters, if_as_many, one_if, some_alignments}

-- what the code has of a cell is its alignment
pub alignment_by : (cell : List ℕ) (before filler behind : ℕ) → before ≡ one_if 58 cell → filler ≡ run 45 (drop before cell) → behind ≡ one_if 58 (drop (before + filler) cell)
    → cond (nat_le 1 filler && (before + filler + behind == length cell)) (Some (aligned (before == 1) (behind == 1))) None ≡ alignment_of cell
alignment_by cell before filler behind eb ef ea =
    ap (by before filler) ea ∙ ap (λ n. by before n (one_if 58 (drop (before + n) cell))) ef ∙ ap (λ a. let n : ℕ = run 45 (drop a cell) in by a n (one_if 58 (drop (a + n) cell))) eb
  where
    by : (before filler behind : ℕ) → Option Alignment
    by before filler behind = cond (nat_le 1 filler && (before + filler + behind == length cell)) (Some (aligned (before == 1) (behind == 1))) None

-- ---- cells in a loop
pub counted_more : (n : ℕ) (cell : List ℕ) (more : List (List ℕ)) (a : Alignment) → alignment_of cell ≡ Some a → counted n (alignments_of (cell ∷ more)) ≡ counted (n + 1) (alignments_of more)
counted_more n cell more a e = ap (λ o. counted n (before_others o (alignments_of more))) e ∙ by (alignments_of more)
  where
    by : (o : Option (List Alignment)) → counted n (before_others (Some a) o) ≡ counted (n + 1) o
    by None = refl
    by (Some all) = omega arith

pub counted_none : (n : ℕ) (cell : List ℕ) (more : List (List ℕ)) → alignment_of cell ≡ None → counted n (alignments_of (cell ∷ more)) ≡ 0
counted_none n cell more e = ap (λ o. counted n (before_others o (alignments_of more))) e

pub counted_some : (all : List (List ℕ)) → counted 0 (alignments_of all) ≡ counted 0 (some_alignments all)
counted_some [] = refl
counted_some (cell ∷ more) = refl

-- ---- as many
pub as_many : (n : ℕ) (all : List (List ℕ)) → (nat_le 1 (counted 0 (some_alignments all)) && (n == counted 0 (some_alignments all))) ≡ is_some (if_as_many n (some_alignments all))
as_many n [] = refl
as_many n (cell ∷ more) = by (alignment_of cell) (alignments_of more)
  where
    yes-or-no : {A : Type 0} (b : Bool) (x : A) → b ≡ is_some (cond b (Some x) None)
    yes-or-no true x = refl
    yes-or-no false x = refl

    by : (o : Option Alignment) (r : Option (List Alignment)) → (nat_le 1 (counted 0 (before_others o r)) && (n == counted 0 (before_others o r))) ≡ is_some (if_as_many n (before_others o r))
    by None r = refl
    by (Some a) None = refl
    by (Some a) (Some all) =
        let same : 0 + suc (length all) ≡ suc (length all) = omega arith in
        ap (λ b. b && (n == 0 + suc (length all))) (le-leb 1 (0 + suc (length all)) (omega arith)) ∙ ap (λ k. n == k) same ∙ yes-or-no (n == suc (length all)) (a ∷ all)

-- each cell has an alignment
alignments_many : (all : List (List ℕ)) (said : List Alignment) → alignments_of all ≡ Some said → length all ≡ length said
alignments_many [] said e = ap (λ o. counted 0 o) e ∙ zero-more (length said)
  where
    zero-more : (n : ℕ) → 0 + n ≡ n
    zero-more n = omega arith
alignments_many (cell ∷ more) said e = by (alignments_many more) (alignment_of cell) (alignments_of more) refl e
  where
    by : ((others : List Alignment) → alignments_of more ≡ Some others → length more ≡ length others) → (o : Option Alignment) (r : Option (List Alignment)) → alignments_of more ≡ r
        → before_others o r ≡ Some said → suc (length more) ≡ length said
    by many None r same is = absurd (cc)
    by many (Some a) None same is = absurd (cc)
    by many (Some a) (Some others) same is =
        let rest = many others same in
        let whole : 0 + suc (length others) ≡ 0 + length said = ap (λ o. counted 0 o) is in
        omega (arith, rest, whole)

some_many : (all : List (List ℕ)) (said : List Alignment) → some_alignments all ≡ Some said → (length all ≡ length said) × (1 ≤ length said)
some_many [] said e = absurd (cc)
some_many (cell ∷ more) said e = let same = alignments_many (cell ∷ more) said e in (same, omega (arith, same))

pub headers_match : HeadersMatch
headers_match header delimiter all e = by (delimiters delimiter) refl e
  where
    by : (o : Option (List Alignment)) → delimiters delimiter ≡ o → if_as_many (length (cells header)) o ≡ Some all → (length (cells header) ≡ length all) × (length (cells delimiter) ≡ length all) × (1 ≤ length all)
    by None is e = absurd (cc)
    by (Some said) is e = told (length (cells header) == length said) refl e
      where
        told : (b : Bool) → (length (cells header) == length said) ≡ b → cond b (Some said) None ≡ Some all → (length (cells header) ≡ length all) × (length (cells delimiter) ≡ length all) × (1 ≤ length all)
        told false same e = absurd (cc)
        told true same e =
            let whole : 0 + length said ≡ 0 + length all = ap (λ o. counted 0 o) e in
            let many = some_many (cells delimiter) said is in
            let first = eqb-true (length (cells header)) (length said) same in
            (omega (arith, whole, first), omega (arith, whole, many.0), omega (arith, whole, many.1))
