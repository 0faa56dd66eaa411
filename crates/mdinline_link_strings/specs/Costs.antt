-- How many virtual bytes strings have that are read.
use Rattle.std.specs.Prelude.{ℕ, ◌+◌, ◌&&◌, Bool, false, cond, List, [], ◌∷◌, length}
use Rattle.markdown_base.specs.declared.event.Event.{Event}
use Rattle.mdinline_link_strings.specs.Strings.{in_string_after, is_data, seats_between}

module _ (t : ℕ) (bytes : List ℕ) where
  -- of events, by whether the first one stands in a string
  abbrev pub string_size_from : (inside : Bool) → List Event → ℕ
  string_size_from inside [] = 0
  string_size_from inside (e ∷ []) = 0
  string_size_from inside (e ∷ f ∷ es) =
      cond (inside && is_data e f) (length (seats_between t bytes e.point f.point) + string_size_from inside es) (string_size_from (in_string_after inside e) (f ∷ es))

  -- how many virtual bytes the data has that stands in strings
  abbrev pub string_size : List Event → ℕ
  string_size events = string_size_from false events
