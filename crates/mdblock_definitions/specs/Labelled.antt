-- Which labels a document defines, by those of its definitions as they are written.
use Rattle.std.specs.Prelude.{◌≡◌, ◌≤◌, ◌<◌, ℕ, ◌+◌, Bool, List, IfSome, length}
use Rattle.std.specs.List.{list_any}
use Rattle.mdinline_labels.specs.declared.definitions.Definition.{Definition}
use Rattle.mdinline_labels.specs.declared.labels.Labels.{Labels}
use Rattle.mdinline_labels.specs.Defined.{defines, is_same}
use Rattle.mdinline_labels.specs.Definitions.{end, end_of}

-- a label is the same as one of these: CommonMark's "matches"
abbrev pub is_one_of : List (List ℕ) → List ℕ → Bool
is_one_of written label = list_any (λ one. is_same label one) written

-- Labels are these, and no others
abbrev pub AreDefined : Labels → List (List ℕ) → Type 0
AreDefined labels written = (label : List ℕ) → defines labels label ≡ is_one_of written label

-- A definition is in its text, and its parts follow one another
pub record IsInText (text : List ℕ) (d : Definition) : Type 0 where
  pub brackets : 2 ≤ d.label.size
  pub colon : end d.label < d.size
  pub destination : end d.label + 1 ≤ d.destination.from
  pub title : IfSome d.title (λ t. end d.destination ≤ t.from)
  pub last : end_of d.title d.destination ≤ d.size
  pub size : d.size ≤ length text
