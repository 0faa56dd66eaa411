-- The table of labels passes the tests, with the numbers of its states, so that the machine is lawful.
use Rattle.std.proofs.Common.{◌≡◌, [], Option, Some, None, refl}
use Rattle.mdconstructs.specs.Late.{IsLate}
use Rattle.mdconstructs.specs.Numbers.{priced_tests}
use Rattle.mdconstructs.specs.PlainWrites.{StatesWritePlain, WritesPlain}
use Rattle.mdconstructs_tables.proofs.Numbers.Enough.{numbered-late}
use Rattle.mdexamples.specs.Labels.{LabelByte, line_feed, opening, closing, other, label_prices, no_run, begins_label, follows_label, labels}

tested : (previous current : Option LabelByte) → priced_tests labels no_run label_prices begins_label follows_label previous current ≡ ([], [], [])
tested previous None = refl
tested previous (Some line_feed) = refl
tested previous (Some opening) = refl
tested previous (Some closing) = refl
tested previous (Some other) = refl

pub labels-late : IsLate labels begins_label follows_label
labels-late =
    numbered-late labels no_run label_prices begins_label follows_label (record { priced = (refl, (refl, (refl, (refl, (refl, tt))))); falls = refl; tested = tested; kept = λ local. refl })

-- no state writes
written : (previous current : Option LabelByte) → StatesWritePlain labels.states previous current
written previous None = tt
written previous (Some line_feed) = tt
written previous (Some opening) = tt
written previous (Some closing) = tt
written previous (Some other) = tt

pub labels-plain : WritesPlain labels
labels-plain = record { first = λ k h. h; rows = written }
