-- Which labels are defined.
use Rattle.std.specs.Prelude.{ℕ, Bool, List, bytes_eq}
use Rattle.std.specs.List.{list_any}
use Rattle.mdinline_labels.specs.declared.labels.Labels.{Labels}
use Rattle.mdinline_labels.specs.Labels.{normalised}

-- two labels are the same: CommonMark's "matches"
abbrev pub is_same : List ℕ → List ℕ → Bool
is_same a b = bytes_eq (normalised a) (normalised b)

-- a label is the same as one of these, which are normalised
abbrev pub defines : Labels → List ℕ → Bool
defines labels label = list_any (λ known. bytes_eq (normalised label) known.items) labels.normal.keys
