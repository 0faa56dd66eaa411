-- The edits that put emphasis among events: one for each run, in place of its enter and its exit.
use Rattle.std.specs.Prelude.{◌≡◌, ℕ, ◌+◌, Bool, List, [], ◌∷◌, ◌++◌, map, length}
use Rattle.markdown_base.specs.declared.event.Event.{Event}
use Rattle.markdown_base.specs.Events.{IsBalanced}
use Rattle.markdown_edits.specs.Edits.{Edit, edit_at, AreDisjoint}
use Rattle.markdown_edits.specs.Edited.{edited}
use Rattle.markdown_tokenizer.specs.Plain.{HaveNoLinks}
use Rattle.mdinline_emphasis.specs.Emphasis.{Run, closings, tail_events, paired, emphasised}
use Rattle.mdinline_emphasis.specs.Runs.{runs_in, with_emphasis}
use Rattle.mdinline_emphasis.specs.LawStatements.{AreFresh}

abbrev pub in_place : Run → List Event
in_place r = closings r.start r.closed ++ tail_events r

abbrev pub edits_of : List Run → List Edit
edits_of rs = map (λ r. edit_at r.index 2 (in_place r)) rs

abbrev pub index_of : Run → ℕ
index_of r = r.index

module _ (texts : ℕ → List Event) (rest : List Event) where
  -- from an index on, a list has runs with their enters at these indices, the texts before them, and the rest behind the last one
  abbrev pub HasRunsAt : ℕ → List ℕ → List Event → Type 0
  HasRunsAt i [] xs = xs ≡ rest
  HasRunsAt i (k ∷ ks) xs = (e f : Event) × (more : List Event) × (xs ≡ texts k ++ e ∷ f ∷ more) × (k ≡ i + length (texts k)) × HasRunsAt (k + 2) ks more

-- in a list without links, whose runs are in no pair and have balanced events between them, the edits can be made, and leave emphasis, balanced
abbrev pub EditsMakeEmphasis : Type 0
EditsMakeEmphasis = (texts : ℕ → List Event) (rest : List Event) (rs : List Run) (events : List Event)
    → HasRunsAt texts rest 0 (map index_of rs) events → HaveNoLinks events → AreFresh texts rs → IsBalanced rest
    → AreDisjoint 0 (edits_of (paired rs)) (length events) × (edited (edits_of (paired rs)) events ≡ emphasised texts rs rest) × IsBalanced (edited (edits_of (paired rs)) events)

-- So it is with the runs of any balanced list without links: emphasis takes their place, and the list stays balanced and without links
abbrev pub EmphasisCanBeMade : Type 0
EmphasisCanBeMade = (one_tilde : Bool) (bytes : List ℕ) (events : List Event) → IsBalanced events → HaveNoLinks events
    → let edits = edits_of (paired (runs_in one_tilde bytes events)) in
    AreDisjoint 0 edits (length events) × (edited edits events ≡ with_emphasis one_tilde bytes events) × IsBalanced (with_emphasis one_tilde bytes events) × HaveNoLinks (with_emphasis one_tilde bytes events)
