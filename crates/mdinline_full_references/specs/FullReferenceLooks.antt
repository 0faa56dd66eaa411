-- How far a look at a full reference reads if none is there: how many bytes it passes, from the first bracket on, up to the one at which it is seen. And
-- the sum of that over the places of a text at which such a look may be made.
use Rattle.std.specs.Prelude.{ℕ, ◌+◌, false, cond, List, drop}
use Rattle.mdinline_labels.specs.Tails.{begins_with}
use Rattle.mdinline_link_tails.specs.ResourceLooks.{behind_brackets, marked_look}

-- behind a `[`: up to the byte that ends the label, or may not be in it
abbrev pub label_look : List ℕ → ℕ
label_look bs = marked_look 91 93 false false bs

-- From where a full reference may begin
abbrev pub full_reference_look : List ℕ → ℕ
full_reference_look text = cond (begins_with 91 text) (1 + label_look (drop 1 text)) 0

-- A look may be made behind each `]`: how many bytes all of them pass
abbrev pub looks : List ℕ → ℕ
looks text = behind_brackets full_reference_look text
