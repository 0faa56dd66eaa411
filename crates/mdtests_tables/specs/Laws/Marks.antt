-- The table passes the tests and its costs are enough, so that a machine of it is lawful.
use Rattle.std.proofs.Common.{◌≡◌, ℕ, ◌+◌, ◌-◌, ◌*◌, ◌<◌, ◌≤◌, [], Option, Some, None, length, refl, arith}
use Rattle.std.specs.Prelude.{max}
use Rattle.mdconstructs_tables.specs.Late.{hasty, IsLate}
use Rattle.mdconstructs_tables.specs.Misfits.{misfits}
use Rattle.mdconstructs_tables.specs.PlainWrites.{StatesWritePlain, WritesPlain}
use Rattle.mdconstructs_tables.specs.RowInvariant.{PaysRows}
use Rattle.mdconstructs_tables.specs.Tables.{LineByte, line_ending, other}
use Rattle.mdconstructs_tables.specs.Fitting.{IsFitBy}
use Rattle.mdconstructs_tables.proofs.CostNumbers.{next-left, square-falls}
use Rattle.mdtests_tables.specs.Marks.{before_line, after_line, text_before, text_before_data, begins_line, follows_line, marks}

fits : (previous current : Option LineByte) → misfits marks previous current ≡ []
fits previous None = refl
fits previous (Some line_ending) = refl
fits previous (Some other) = refl

late : (previous current : Option LineByte) → hasty marks begins_line follows_line previous current ≡ []
late previous None = refl
late previous (Some line_ending) = refl
late previous (Some other) = refl

-- a line that is tried, and what the attempt goes on with
tries : (n p : ℕ) → p < n → 1 + (3 * (n - p - 1) + 5 + (max (before_line (n - (p + 1))) (after_line (n - p)) + 0)) ≤ before_line (n - p)
tries n p h = rw (next-left n p h) (omega arith)

goes-on : (n p : ℕ) → p < n → 1 + (before_line (n - (p + 1)) + 0) ≤ before_line (n - p)
goes-on n p h = rw (next-left n p h) (omega arith)

passes : (n p : ℕ) → p < n → 1 + (before_line (n - (p + 1)) + 0) ≤ after_line (n - p)
passes n p h = rw (next-left n p h) (omega arith)

before-pays : PaysRows marks begins_line text_before
before-pays b None text p read at seen called = omega arith
before-pays b (Some line_ending) text p read at seen called = goes-on (length text.seats) p at
before-pays b (Some other) text p read at seen called = tries (length text.seats) p at

before-data-pays : PaysRows marks begins_line text_before_data
before-data-pays b None text p read at seen called = absurd (cc)
before-data-pays b (Some line_ending) text p read at seen called = passes (length text.seats) p at
before-data-pays b (Some other) text p read at seen called = passes (length text.seats) p at

before-falls : (u v : ℕ) → v ≤ u → before_line v ≤ before_line u
before-falls u v h = omega (arith, square-falls u v h, h)

marks-fit : IsFitBy marks begins_line follows_line
marks-fit = record {
  fits = fits;
  paid = (before-pays, (before-data-pays, tt));
  falls = ((λ text p q h. before-falls (length text.seats - p) (length text.seats - q) (omega (arith, h))), tt);
  kept = λ local. refl;
}

pub marks-late : IsLate marks begins_line follows_line
marks-late = record { fit = marks-fit; late = late }

-- no state writes
written : (previous current : Option LineByte) → StatesWritePlain marks.states previous current
written previous None = tt
written previous (Some line_ending) = tt
written previous (Some other) = tt

pub marks-plain : WritesPlain marks
marks-plain = record { first = λ k h. h; rows = written }
