-- What numbers and prices are at a place, by what waits there.
use Rattle.std.proofs.Common.{◌≡◌, ℕ, suc, ◌+◌, ◌-◌, ◌≤◌, Bool, true, cond, Option, Some, None, inl, inr, length, drop, refl, sym, ap, ◌∙◌, subst, arith, add-one, length-drop}
use Rattle.std.proofs.lemmas.Bool.{leb-true}
use Rattle.std.proofs.lemmas.Option.{slice_get_cases}
use Rattle.markdown_base.proofs.Common.{drop-at}
use Rattle.markdown_base.specs.Virtual.{Seat}
use Rattle.markdown_tokenizer.specs.Text.{Text}
use Rattle.markdown_tokenizer.specs.Sight.{byte_of}
use Rattle.mdconstructs_tables.specs.Rows.{class_of}
use Rattle.mdconstructs_tables.specs.RowInvariant.{class_in}
use Rattle.mdconstructs_tables.specs.Numbers.{Numbers, Price, by_left, by_run, by_class, run_at, behind_at, counted_at, called_cost, priced, are_at_most, with_waiting, fed_numbers, called_numbers}
use Rattle.mdconstructs_tables.proofs.Numbers.Arithmetic.{at-most, none-left-is, one-more, left-is, run-within}

module _ {W : Type 0} (class : ℕ → W) (in_run : W → Bool) where
  -- the run and what is behind it are what is left
  pub sum-is : (text : Text) (q : ℕ) → run_at class in_run text q + behind_at class in_run text q ≡ length text.seats - q
  sum-is text q = omega (arith, run-within (λ (s : Seat). in_run (class s.byte)) (drop q text.seats), length-drop q text.seats)

  -- at the end nothing is left, a place further on neither
  pub none-left : (text : Text) (q : ℕ) → length text.seats ≤ q → (run_at class in_run text q ≡ 0) × (behind_at class in_run text q ≡ 0)
  none-left text q h = (omega (arith, h, sum-is text q), omega (arith, h, sum-is text q))

  -- what is known at a place where this waits
  abbrev IsCounted : Option W → Text → ℕ → Type 0
  IsCounted None text q = length text.seats ≤ q
  IsCounted (Some w) text q =
      (run_at class in_run text q ≡ cond (in_run w) (suc (run_at class in_run text (q + 1))) 0)
      × (run_at class in_run text q + behind_at class in_run text q ≡ suc (run_at class in_run text (q + 1) + behind_at class in_run text (q + 1)))

  pub counted : (text : Text) (q : ℕ) (w : Option W) → class_in class text q ≡ w → IsCounted w text q
  counted text q w h = elim (slice_get_cases text.seats q).1 [
    | inl there ↦
        let s = there.0 in
        let is : Some (class s.byte) ≡ w = sym (ap (λ o. class_of class (byte_of o)) there.2) ∙ h in
        let run : run_at class in_run text q ≡ cond (in_run (class s.byte)) (suc (run_at class in_run text (q + 1))) 0 = rw (add-one, drop-at text.seats q s there.2) refl in
        subst (λ w. IsCounted w text q) is (run, omega (arith, there.1, sum-is text q, sum-is text (q + 1)))
    | inr past ↦ let is : None ≡ w = sym (ap (λ o. class_of class (byte_of o)) past.1) ∙ h in subst (λ w. IsCounted w text q) is past.0
  ]

  -- numbers at a place, by the bytes behind the one that waits
  pub waiting-is : (c : Numbers) (text : Text) (q : ℕ) (w : Option W) → IsCounted w text q → counted_at class in_run c text q ≡ counted_at class in_run (with_waiting in_run w c) text (q + 1)
  waiting-is c text q None past =
      let here = none-left text q past in
      let later = none-left text (q + 1) (omega (arith, past)) in
      none-left-is c _ _ here.0 here.1 ∙ sym (none-left-is (with_waiting in_run None c) _ _ later.0 later.1)
  waiting-is c text q (Some w) known =
      one-more (in_run w) c (run_at class in_run text q) (behind_at class in_run text q) (run_at class in_run text (q + 1)) (behind_at class in_run text (q + 1)) known.0 known.1

  -- numbers that are at most others are at most as many calls
  pub most-at : (a b : Numbers) (text : Text) (q : ℕ) (w : Option W) → IsCounted w text q → are_at_most w a b ≡ true → counted_at class in_run a text (q + 1) ≤ counted_at class in_run b text (q + 1)
  most-at a b text q None past h =
      let later = none-left text (q + 1) (omega (arith, past)) in
      omega (arith, none-left-is a _ _ later.0 later.1, none-left-is b _ _ later.0 later.1, leb-true a.more b.more h)
  most-at a b text q (Some w) known h = at-most w a b (run_at class in_run text (q + 1)) (behind_at class in_run text (q + 1)) h

  -- what a state costs where this waits
  pub called-is : (price : Price W) (text : Text) (q : ℕ) (w : Option W) → class_in class text q ≡ w → priced class in_run price text q ≡ counted_at class in_run (called_numbers in_run w price) text (q + 1)
  called-is (by_left a b c) text q None h =
      left-is a b c (run_at class in_run text q) (behind_at class in_run text q) (length text.seats - q) (sum-is text q) ∙ waiting-is _ text q None (counted text q None h)
  called-is (by_left a b c) text q (Some w) h =
      left-is a b c (run_at class in_run text q) (behind_at class in_run text q) (length text.seats - q) (sum-is text q) ∙ waiting-is _ text q (Some w) (counted text q (Some w) h)
  called-is (by_run c) text q None h = waiting-is c text q None (counted text q None h)
  called-is (by_run c) text q (Some w) h = waiting-is c text q (Some w) (counted text q (Some w) h)
  called-is (by_class fed called) text q None h = ap (called_cost class in_run fed called text q) h ∙ omega arith
  called-is (by_class fed called) text q (Some w) h = ap (called_cost class in_run fed called text q) h

  -- what it costs if it is fed next
  pub fed-most : (price : Price W) (text : Text) (q : ℕ) (w : Option W) → class_in class text q ≡ w → are_at_most w (called_numbers in_run w price) (with_waiting in_run w (fed_numbers in_run price)) ≡ true
      → priced class in_run price text q ≤ counted_at class in_run (fed_numbers in_run price) text q
  fed-most price text q w h enough =
      let known = counted text q w h in
      let most = most-at (called_numbers in_run w price) (with_waiting in_run w (fed_numbers in_run price)) text q w known enough in
      omega (arith, called-is price text q w h, most, waiting-is (fed_numbers in_run price) text q w known)
