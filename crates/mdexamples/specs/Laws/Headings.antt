-- The table of headings passes the test, so that the machine is lawful.
use Rattle.std.proofs.Common.{◌≡◌, [], Option, Some, None, refl}
use Rattle.mdconstructs.specs.Misfits.{misfits}
use Rattle.mdconstructs.specs.PlainTables.{IsPlainEverywhere}
use Rattle.mdconstructs.specs.PlainWrites.{StatesWritePlain, WritesPlain}
use Rattle.mdconstructs_tables.specs.Fitting.{IsFit}
use Rattle.mdexamples.specs.Headings.{HeadingByte, line_feed, sign, other, one_sign, one_sign_more, headings}

fits : (previous current : Option HeadingByte) → misfits headings previous current ≡ []
fits previous None = refl
fits previous (Some line_feed) = refl
fits previous (Some sign) = refl
fits previous (Some other) = refl

pub headings-fit : IsFit headings
headings-fit = record { fits = fits; paid = tt; falls = tt; kept = λ local. refl }

-- its writes leave nothing to resolve
one-plain : IsPlainEverywhere (λ s. one_sign)
one-plain s k h = h

more-plain : IsPlainEverywhere (λ s. one_sign_more)
more-plain s k h = h

written : (previous current : Option HeadingByte) → StatesWritePlain headings.states previous current
written previous None = tt
written previous (Some line_feed) = tt
written previous (Some sign) = (one-plain, (more-plain, tt))
written previous (Some other) = tt

pub headings-plain : WritesPlain headings
headings-plain = record { first = λ k h. h; rows = written }
