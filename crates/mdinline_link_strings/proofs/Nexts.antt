-- The data that stands in front of what is left of a list.
use Rattle.std.proofs.Common.{◌≡◌, ◌∙◌, ◌<◌, ◌&&◌, ℕ, List, [], ◌∷◌, Bool, true, false, ap, arith, drop, length}
use Rattle.std.proofs.lemmas.Bool.{false≢true}
use Rattle.std.proofs.lemmas.List.{length-drop}
use Rattle.std.specs.Bool.{◌==◌}
use Rattle.markdown_base.specs.declared.event.Event.{Event}
use Rattle.std.specs.Prelude.{slice_index_or}
use Rattle.markdown_base.specs.declared.configuration.Constructs.{Constructs}
use Rattle.mdinline_link_strings.proofs.Listed.{no_event}
use Rattle.mdinline_link_strings.specs.Strings.{line_as_string}
use Rattle.mdinline_link_strings.specs.Reached.{begins_with_data}

-- what is not empty has one event at least
pub some-left : (l : List Event) → false ≡ (length l == 0) → 0 < length l
some-left [] h = absurd (false≢true h)
some-left (e ∷ es) h = omega arith

-- data of a string is there
pub string-there : (inside : Bool) (es l : List Event) (n : ℕ) → l ≡ drop n es → 0 < length l → (n < length es → (inside && begins_with_data (drop n es)) ≡ true)
    → (inside && begins_with_data l) ≡ true
string-there inside es l n is some front =
    let long = ap length is in
    let left = length-drop n es in
    ap (λ xs. inside && begins_with_data xs) is ∙ front (omega (arith, long, left, some))

-- what is between the place of the first event of a list and that of the second one of another, as a string
abbrev pub line_at : Constructs → (t : ℕ) → List ℕ → (xs ys : List Event) → List Event
line_at on t bytes xs ys = line_as_string on t bytes (slice_index_or xs 0 no_event).point (slice_index_or ys 1 no_event).point
