-- The table of the machine passes the test and its own cost is enough, so that the machine is lawful.
use Rattle.std.proofs.Common.{◌≡◌, ℕ, zero, suc, ◌+◌, ◌-◌, ◌*◌, ◌≤◌, [], Option, Some, None, length, refl, ap, arith, true}
use Rattle.mdconstructs_tables.specs.PlainTables.{IsPlainTable}
use Rattle.mdconstructs_tables.specs.Refusals.{refusing}
use Rattle.mdconstructs_tables.specs.RowInvariant.{PaysRows}
use Rattle.mdconstructs_tables.specs.RowTest.{never}
use Rattle.mdconstructs_tables.specs.Fitting.{IsFit}
use Rattle.mdconstructs_tables.proofs.Tables.Tests.{tests, all-fit, all-plain, none-refuses}
use Rattle.mdconstructs_tables.specs.Tables.{LineByte, line_ending, other}
use Rattle.mdconstructs_machines.specs.Deep.{triangle, tries_cost, deep_cost, string_start, deep}

-- the triangle of n is n * (n - 1) / 2
pub triangle-is : (n : ℕ) → 2 * triangle n + n ≡ n * n
triangle-is zero = omega arith
triangle-is (suc n) = omega (arith, triangle-is n)

triangle-grows : (m n : ℕ) → m ≤ n → triangle m ≤ triangle n
triangle-grows m zero h = let none : m ≡ 0 = omega (arith, h) in rw none (omega arith)
triangle-grows zero (suc n) h = omega arith
triangle-grows (suc m) (suc n) h = omega (arith, h, triangle-grows m n (omega (arith, h)))

tries-fall : (total p q : ℕ) → p ≤ q → tries_cost q (total - q) ≤ tries_cost p (total - p)
tries-fall total zero zero h = omega arith
tries-fall total zero (suc q) h = omega (arith, triangle-grows (total - suc q) (total - 0) (omega arith))
tries-fall total (suc p) zero h = omega (arith, h)
tries-fall total (suc p) (suc q) h = omega (arith, h, triangle-grows (total - suc q) (total - suc p) (omega (arith, h)))

tries-least : (p n : ℕ) → 1 ≤ tries_cost p n
tries-least zero n = omega arith
tries-least (suc p) n = omega arith

-- one byte more
triangle-next : (total p : ℕ) → p + 1 ≤ total → triangle (total - p) ≡ triangle (total - suc p) + (total - suc p)
triangle-next total p h = let left : total - p ≡ suc (total - suc p) = omega (arith, h) in rw left refl

pays : PaysRows deep never string_start
pays None None text p read at seen called = tries-least p (length text.seats - p)
pays (Some x) None text p read at seen called = tries-least p (length text.seats - p)
pays None (Some x) text zero read at seen called = let one = triangle-next (length text.seats) 0 (omega (arith, at)) in omega (arith, at, one)
pays None (Some x) text (suc p) read at seen called = absurd (cc)
pays (Some y) (Some x) text zero read at seen called = absurd (cc)
pays (Some y) (Some x) text (suc p) read at seen called =
    let n = length text.seats in
    let next : suc p + 1 ≡ suc (suc p) = omega arith in
    let later : deep_cost text (suc p + 1) ≡ triangle (n - suc (suc p)) + 3 * (n - suc (suc p)) + 1 = ap (λ q. deep_cost text q) next in
    let one = triangle-next n (suc p) (omega (arith, at)) in
    omega (arith, at, one, later)

-- all states fit, none links or writes, and none refuses the document
tested : (previous current : Option LineByte) → tests deep previous current ≡ ([], true, [])
tested None None = refl
tested None (Some line_ending) = refl
tested None (Some other) = refl
tested (Some _) None = refl
tested (Some _) (Some line_ending) = refl
tested (Some _) (Some other) = refl

pub deep-fit : IsFit deep
deep-fit = record { fits = all-fit deep tested; paid = (pays, tt); falls = ((λ text p q. tries-fall (length text.seats) p q), tt); kept = λ local. refl }

pub deep-plain : IsPlainTable deep
deep-plain = record { first = λ k h. h; rows = all-plain deep tested }

pub deep-none : (previous current : Option LineByte) → refusing deep previous current ≡ []
deep-none = none-refuses deep tested
