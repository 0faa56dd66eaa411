-- Tables without links and writes: with such a table there is nothing to resolve.
use Rattle.std.specs.Prelude.{◌≡◌, ◌&&◌, List, [], ◌∷◌, Bool, true, false, Option, Some, None}
use Rattle.markdown_tokenizer.specs.Configuration.{Configuration, Local}
use Rattle.markdown_tokenizer.specs.Calls.{with_local}
use Rattle.markdown_tokenizer.specs.Plain.{IsPlain}
use Rattle.markdown_tokenizer.specs.Sight.{Sight}
use Rattle.mdconstructs_tables.specs.Rows.{Act, enters, exit, consume, links, writes, choose, note, exit_noted, enter_noted, Rows, row, when, StateRows, Table}

module _ {R D : Type 0} where
  -- a write registers no resolver, and makes no edit
  abbrev pub IsPlainWrite : (Configuration R D → Local R D) → Type 0
  IsPlainWrite f = (k : Configuration R D) → IsPlain k → IsPlain (with_local k (f k))

  -- whatever is seen
  abbrev pub IsPlainEverywhere : (Sight → Configuration R D → Local R D) → Type 0
  IsPlainEverywhere f = (s : Sight) → IsPlainWrite (f s)

  abbrev pub is_plain_act : Act R D → Bool
  is_plain_act (enters name None) = true
  is_plain_act (enters name (Some link)) = false
  is_plain_act (exit name) = true
  is_plain_act consume = true
  is_plain_act (links previous next) = false
  is_plain_act (writes f) = false
  is_plain_act (choose kind ok nok) = true
  is_plain_act note = true
  is_plain_act (exit_noted name) = true
  is_plain_act (enter_noted name) = true

  abbrev pub are_plain_acts : List (Act R D) → Bool
  are_plain_acts [] = true
  are_plain_acts (act ∷ acts) = is_plain_act act && are_plain_acts acts

  abbrev pub are_plain_rows : Rows R D → Bool
  are_plain_rows (row acts answer) = are_plain_acts acts
  are_plain_rows (when test one other) = are_plain_rows one && are_plain_rows other

module _ {W R D : Type 0} where
  -- no state links or writes, by the class of the byte before and of what waits
  abbrev pub are_plain_states : List (StateRows W R D) → (previous current : Option W) → Bool
  are_plain_states [] previous current = true
  are_plain_states (state ∷ states) previous current = are_plain_rows (state.rows previous current) && are_plain_states states previous current

  -- no state links or writes, whatever waits
  abbrev pub ArePlain : Table W R D → Type 0
  ArePlain table = (previous current : Option W) → are_plain_states table.states previous current ≡ true

  -- no state links or writes, and what each call writes first registers no resolver and makes no edit
  pub record IsPlainTable (table : Table W R D) : Type 0 where
    pub first : IsPlainWrite (λ (k : Configuration R D). table.first k.local)
    pub rows : ArePlain table
