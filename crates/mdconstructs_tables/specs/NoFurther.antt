-- Tables whose tests look no further than the byte that waits.
use Rattle.std.specs.List.{AllByRecursion}
use Rattle.std.specs.Prelude.{◌≡◌, ◌∷◌, ◌++◌, List, [], Bool, Option}
use Rattle.markdown_tokenizer.specs.Alike.{AreAlikeUpTo}
use Rattle.markdown_tokenizer.specs.Configuration.{Configuration}
use Rattle.markdown_tokenizer.specs.Sight.{Sight}
use Rattle.markdown_tokenizer.specs.Text.{Given}
use Rattle.mdconstructs_tables.specs.Rows.{Rows, row, when, StateRows, Table}

-- a test of a row, by the document, what is seen and the configuration
abbrev pub Test : (R D : Type 0) → Type 0
Test R D = Given → Sight → Configuration R D → Bool

module _ {R D : Type 0} where
  -- A test looks no further: in two documents that are alike up to the place after the byte that waits it is answered alike. So is each test
  -- that takes of the document nothing but the options
  abbrev pub IsAnsweredAlike : Test R D → Type 0
  IsAnsweredAlike test = (g h : Given) (s : Sight) (k : Configuration R D) → AreAlikeUpTo g h s.next → test g s k ≡ test h s k

  -- the tests of rows
  abbrev pub tests_of : Rows R D → List (Test R D)
  tests_of (row acts answer) = []
  tests_of (when test one other) = test ∷ (tests_of one ++ tests_of other)

module _ {W R D : Type 0} where
  -- the tests of all states, by the class of the previous byte and of what waits
  abbrev pub tests : List (StateRows W R D) → (previous current : Option W) → List (Test R D)
  tests [] previous current = []
  tests (state ∷ states) previous current = tests_of (state.rows previous current) ++ tests states previous current

  -- each test of a table looks no further
  abbrev pub TestsLookNoFurther : Table W R D → Type 0
  TestsLookNoFurther table = (previous current : Option W) → AllByRecursion IsAnsweredAlike (tests table.states previous current)
