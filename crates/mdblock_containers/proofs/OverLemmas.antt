-- Lemmas on open containers that go on over the blank rest of a line.
use Rattle.std.proofs.Common.{◌≡◌, ◌⊎◌, inl, inr, ℕ, zero, suc, ◌+◌, ◌-◌, ◌<◌, ◌≤◌, Bool, true, false, cond, List, [], ◌∷◌, length, take, drop, map, min, get_or, refl, sym, ap, ◌∙◌, subst, arith, eq-eqb, length-drop, zero-add}
use Rattle.std.specs.Prelude.{◌==◌, ◌&&◌, nat_le, Some, None}
use Rattle.std.specs.List.{AllByRecursion}
use Rattle.std.proofs.Math.Nat.{min-zero}
use Rattle.std.proofs.lemmas.Bool.{cases_lt, eqb-true, false≢true}
use Rattle.std.proofs.lemmas.Bool.Decides.{nat_tests}
use Rattle.std.proofs.lemmas.List.{drop_all, get_or-drop, get_or-take, get_or_default}
use Rattle.std.proofs.lemmas.List.Sums.{sum_by-cons}
use Rattle.mdblock_lines.specs.Containers.{Prefix, goes_on}
use Rattle.mdblock_lines.specs.declared.containers.ContainerKind.{ContainerKind}
use Rattle.mdblock_lines.specs.declared.containers.ContainerKind.TheVariants as kinds
use Rattle.mdblock_lines.specs.Views.{container_by}
use Rattle.mdblock_containers.specs.declared.going.Open.{Open}
use Rattle.mdblock_containers.specs.Over.{AreBefore, AreOver, GoesOver}
use Rattle.mdblock_containers.specs.Prefixes.{columns_of, going_on}
use Rattle.mdblock_containers.specs.Views.{open_of}
use Rattle.mdblock_containers.proofs.GoingLemmas.{going_more}
use Rattle.mdblock_containers.proofs.RowFacts.{BeganBefore}

-- an item goes on over a blank rest from one line on, if it does there
item_over : (size line number n : ℕ) (empty at_first at_n : Bool) (m : ℕ) → line < number → number ≤ n → (number == suc line) ≡ at_first → (n == suc line) ≡ at_n
    → Some m ≡ cond (empty && at_first) None (Some (min size 0)) → cond (empty && at_n) None (Some (min size 0)) ≡ Some 0
item_over size line number n false p q m h le a b e = ap Some (min-zero size)
item_over size line number n true true q m h le a b e = absurd (cc)
item_over size line number n true false false m h le a b e = ap Some (min-zero size)
item_over size line number n true false true m h le a b e =
    let is : n ≡ suc line = eqb-true n (suc line) b in
    let same : number ≡ suc line = omega arith in
    absurd (false≢true (sym a ∙ eq-eqb number (suc line) same))

pub went_over : (o : Open) (number m : ℕ) → o.container.line < number → Some m ≡ goes_on (open_of o) number [] → GoesOver number o
went_over o number m h e n le = by o.container.kind e
  where
    by : (k : ContainerKind) → Some m ≡ goes_on (container_by k o.list o.container) number [] → goes_on (container_by k o.list o.container) n [] ≡ Some 0
    by kinds.Quote q = absurd (cc)
    by kinds.Footnote q = refl
    by kinds.Item q = item_over o.container.size o.container.line number n o.container.is_blank (number == suc o.container.line) (n == suc o.container.line) m h le refl refl q

-- all go on, with no columns
all_over : (number : ℕ) (xs : List Open) → ((k : ℕ) (d : Open) → k < length xs → goes_on (open_of (get_or xs k d)) number [] ≡ Some 0)
    → (length (going_on (map open_of xs) number []) ≡ length xs) × (columns_of (going_on (map open_of xs) number []) ≡ 0)
all_over number [] h = (refl, refl)
all_over number (x ∷ xs) h =
    let p : Prefix = record { container = open_of x; size = 0 } in
    let first : goes_on (open_of x) number [] ≡ Some 0 = h 0 x (omega arith) in
    let is : going_on (open_of x ∷ map open_of xs) number [] ≡ p ∷ going_on (map open_of xs) number [] = going_more (open_of x) (map open_of xs) number 0 0 [] first in
    let more = all_over number xs (λ k d w. h (suc k) d (omega (arith, w))) in (
      ap (λ (l : List Prefix). length l) is ∙ ap suc more.0,
      ap columns_of is ∙ sum_by-cons (λ (q : Prefix). q.size) p (going_on (map open_of xs) number []) ∙ zero-add (columns_of (going_on (map open_of xs) number [])) ∙ more.1,
    )

-- where nothing is left of a line, those that are known to go on do
module _ (stack : List Open) (number : ℕ) (t : List ℕ) (i at over : ℕ) (are : AreOver number over (length stack) stack) (from : over ≤ i) (none : length t ≤ at) where
  rest : drop at t ≡ []
  rest = drop_all at t none

  both : (length (going_on (map open_of (drop i stack)) number []) ≡ length (drop i stack)) × (columns_of (going_on (map open_of (drop i stack)) number []) ≡ 0)
  both =
      all_over number (drop i stack)
      (λ k d w. ap (λ (o : Open). goes_on (open_of o) number []) (get_or-drop i stack k d) ∙ are (i + k) d (omega (arith, from)) (omega (arith, w, length-drop i stack)) number (omega arith))

  pub over_many : length (going_on (map open_of (drop i stack)) number (drop at t)) ≡ length stack - i
  over_many = ap (λ (l : List ℕ). length (going_on (map open_of (drop i stack)) number l)) rest ∙ both.0 ∙ length-drop i stack

  pub over_columns : columns_of (going_on (map open_of (drop i stack)) number (drop at t)) ≡ 0
  over_columns = ap (λ (l : List ℕ). columns_of (going_on (map open_of (drop i stack)) number l)) rest ∙ both.1

-- later lines
pub over_later : (number n from to : ℕ) (stack : List Open) → number ≤ n → AreOver number from to stack → AreOver n from to stack
over_later number n from to stack le h k d a b m w = h k d a b m (omega arith)

-- nothing is left, and enough went on
pub at_end : (at whole over many : ℕ) → ((at == whole) && nat_le over many) ≡ true → (at ≡ whole) × (over ≤ many)
at_end at whole over many e = by (at == whole) (nat_le over many) refl refl e
  where
    by : (a b : Bool) → (at == whole) ≡ a → nat_le over many ≡ b → (a && b) ≡ true → (at ≡ whole) × (over ≤ many)
    by true true p q h = (eqb-true at whole p, grind (arith, nat_tests))
    by true false p q h = absurd (false≢true h)
    by false b p q h = absurd (false≢true h)

-- one container more went on
pub over_more : (number m from i : ℕ) (stack : List Open) (d : Open) (t rest : List ℕ) (at : ℕ) → i < length stack → AreBefore number stack → AreOver (number + 1) from i stack → rest ≡ drop at t
    → Some m ≡ goes_on (open_of (get_or stack i d)) number rest → AreOver (number + 1) (cond (at == length t) from (i + 1)) (i + 1) stack
over_more number m from i stack d t rest at here before are is e k f a b n w = by (at == length t) refl a
  where
    new : rest ≡ [] → i ≤ k → goes_on (open_of (get_or stack k f)) n [] ≡ Some 0
    new none l =
        let same : k ≡ i = omega (arith, b, l) in
        let o : get_or stack k f ≡ get_or stack i d = ap (λ j. get_or stack j f) same ∙ get_or_default stack i f d here in
        ap (λ (x : Open). goes_on (open_of x) n []) o
        ∙ went_over (get_or stack i d) number m (before i d here) (e ∙ ap (λ (l : List ℕ). goes_on (open_of (get_or stack i d)) number l) none) n (omega (arith, w))

    one : rest ≡ [] → from ≤ k → (k < i) ⊎ (i ≤ k) → goes_on (open_of (get_or stack k f)) n [] ≡ Some 0
    one none l (inl less) = are k f l less n w
    one none l (inr more) = new none more

    by : (c : Bool) → (at == length t) ≡ c → cond c from (i + 1) ≤ k → goes_on (open_of (get_or stack k f)) n [] ≡ Some 0
    by false q l = absurd (omega (arith, b, l))
    by true q l = let same : at ≡ length t = eqb-true at (length t) q in one (is ∙ drop_all at t (omega arith)) l (cases_lt k i)

-- no more go on
pub over_all : (number from i over : ℕ) (stack : List Open) → over ≤ i → AreOver number over (length stack) stack → AreOver (number + 1) from i stack → AreOver (number + 1) from (length stack) stack
over_all number from i over stack le are so_far k d a b n w = one (cases_lt k i)
  where
    one : (k < i) ⊎ (i ≤ k) → goes_on (open_of (get_or stack k d)) n [] ≡ Some 0
    one (inl less) = so_far k d a less n w
    one (inr more) = are k d (omega arith) b n (omega arith)

-- the first of the containers
pub over_front : (number from to m : ℕ) (stack shown : List Open) → shown ≡ take m stack → to ≤ m → AreOver number from to shown → AreOver number from to stack
over_front number from to m stack shown e le h k d a b = subst (GoesOver number) (ap (λ (l : List Open). get_or l k d) e ∙ get_or-take m stack k d (omega arith)) (h k d a b)

pub front_over : (number from to m : ℕ) (stack shown : List Open) → shown ≡ take m stack → to ≤ m → AreOver number from to stack → AreOver number from to shown
front_over number from to m stack shown e le h k d a b = subst (GoesOver number) (sym (ap (λ (l : List Open). get_or l k d) e ∙ get_or-take m stack k d (omega arith))) (h k d a b)

-- open containers began before, by what is known of them
pub began_before : (n : ℕ) (xs : List Open) → AllByRecursion (BeganBefore n) (map open_of xs) → AreBefore n xs
began_before n [] h k d w = absurd (omega (arith, w))
began_before n (x ∷ xs) h zero d w = by x.container.kind h.0
  where
    by : (k : ContainerKind) → BeganBefore n (container_by k x.list x.container) → x.container.line < n
    by kinds.Quote q = q
    by kinds.Item q = q.0
    by kinds.Footnote q = q
began_before n (x ∷ xs) h (suc k) d w = began_before n xs h.1 k d (omega (arith, w))
