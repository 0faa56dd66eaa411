-- Documents, and the events of their lines written out: examples of the definitions, each proved by computing.
use Rattle.mdconstructs_machines.proofs.Prelude.{◌≡◌, ℕ, ◌+◌, List, [], ◌∷◌, ◌++◌, None, refl, codes, Event, Enter, Exit, Paragraph, Data, LineEnding, point, virtual, data_events, line_events, save_events, back_events, EventName}

-- the events of a whole document, with tab stops at every four columns
abbrev lines_of : List ℕ → List Event
lines_of bytes = line_events bytes (virtual 4 bytes)

abbrev data_of : List ℕ → List Event
data_of bytes = data_events bytes (virtual 4 bytes)

abbrev saved_of : List ℕ → List Event
saved_of bytes = save_events bytes (virtual 4 bytes)

abbrev back_of : List ℕ → List Event
back_of bytes = back_events bytes (virtual 4 bytes)

-- events at a place of the document: a line, a column and a byte index
abbrev pub begins : EventName → (line column index : ℕ) → Event
begins name line column index = record { kind = Enter; name = name; point = point line column index 0; link = None }

abbrev pub ends : EventName → (line column index : ℕ) → Event
ends name line column index = record { kind = Exit; name = name; point = point line column index 0; link = None }

-- data in a line, by the columns and indices of its start and end, and the paragraph of it
abbrev data_over : (line column index column_after index_after : ℕ) → List Event
data_over line column index column_after index_after = begins Data line column index ∷ ends Data line column_after index_after ∷ []

abbrev paragraph : (line column index column_after index_after : ℕ) → List Event
paragraph line column index column_after index_after =
    begins Paragraph line column index ∷ (data_over line column index column_after index_after ++ ends Paragraph line column_after index_after ∷ [])

-- a line ending, which ends where the next line begins
abbrev line_ending : (line column index index_after : ℕ) → List Event
line_ending line column index index_after = begins LineEnding line column index ∷ ends LineEnding (line + 1) 1 index_after ∷ []

-- Lines
pub no-bytes : lines_of [] ≡ []
no-bytes = refl

pub one-line : lines_of (codes "a") ≡ paragraph 1 1 0 2 1
one-line = refl

pub ended-line : lines_of (codes "a\n") ≡ paragraph 1 1 0 2 1 ++ line_ending 1 2 1 2
ended-line = refl

pub line-ending : lines_of (codes "\n") ≡ line_ending 1 1 0 1
line-ending = refl

pub blank-between : lines_of (codes "a\n\nb") ≡ paragraph 1 1 0 2 1 ++ (line_ending 1 2 1 2 ++ (line_ending 2 1 2 3 ++ paragraph 3 1 3 2 4))
blank-between = refl

pub carriage-return : lines_of (codes "ab\r\nc") ≡ paragraph 1 1 0 3 2 ++ (line_ending 1 3 2 4 ++ paragraph 2 1 4 2 5)
carriage-return = refl

-- a tab that reaches the fifth column
pub tab-in-line : lines_of (codes "a\tb\n") ≡ paragraph 1 1 0 6 3 ++ line_ending 1 6 3 4
tab-in-line = refl

-- Data, without paragraphs
pub data-between : data_of (codes "a\n\nb") ≡ data_over 1 1 0 2 1 ++ (line_ending 1 2 1 2 ++ (line_ending 2 1 2 3 ++ data_over 3 1 3 2 4))
data-between = refl

-- The first line is passed, with its line ending
pub no-line-saved : saved_of (codes "ab") ≡ []
no-line-saved = refl

pub lines-saved : saved_of (codes "a\r\nb\nc") ≡ data_over 2 1 3 2 4 ++ (line_ending 2 2 4 5 ++ data_over 3 1 5 2 6)
lines-saved = refl

-- The first line is one data, and all the rest another
pub no-bytes-back : back_of [] ≡ []
no-bytes-back = refl

pub one-line-back : back_of (codes "ab") ≡ data_over 1 1 0 3 2
one-line-back = refl

pub ended-line-back : back_of (codes "a\n") ≡ begins Data 1 1 0 ∷ ends Data 2 1 2 ∷ []
ended-line-back = refl

pub lines-back : back_of (codes "a\nb\n\nc") ≡ begins Data 1 1 0 ∷ ends Data 2 1 2 ∷ begins Data 2 1 2 ∷ ends Data 4 2 6 ∷ []
lines-back = refl
