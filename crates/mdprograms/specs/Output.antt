-- What a program writes of what it reads. `Makes` says which text a choice makes of it: what was left of a reader before and after, and the text.
use Rattle.std.specs.Prelude.{◌≡◌, ◌⊎◌, ℕ, List, Option, Some, Result, Ok, String, map, string_bytes, take}
use Rattle.std.specs.Io.KnownBytes.{Appends, Keeps}
use Rattle.std.specs.declared.alloc.Global.{Global}
use Rattle.mdprograms.specs.declared.failure.Failure.{Failure}

module _ {C A B : Type 0} (Makes : C → (old new : Option (List ℕ)) → (text : List ℕ) → Type 0) (choice : C)
    (remaining : A → Option (List ℕ)) (reader_old reader_new : A) (contents : B → Option (List ℕ)) (writer_old writer_new : B) where
  -- The text that the choice makes of what was read was written, and nothing else
  pub record Writes : Type 0 where
    pub text : List ℕ
    pub made : Makes choice (remaining reader_old) (remaining reader_new) text
    pub written : Appends (contents writer_old) (contents writer_new) text

  -- A beginning of that text was written, and nothing else
  pub record WritesFront : Type 0 where
    pub text : List ℕ
    pub made : Makes choice (remaining reader_old) (remaining reader_new) text
    pub count : ℕ
    pub written : Appends (contents writer_old) (contents writer_new) (take count text)

module _ {C A B : Type 0} (Makes : C → (old new : Option (List ℕ)) → (text : List ℕ) → Type 0) (choice : Result (Option C) Failure)
    (remaining : A → Option (List ℕ)) (reader_old reader_new : A) (contents : B → Option (List ℕ)) (writer_old writer_new : B) where
  -- something was chosen, and what it makes was written
  abbrev pub WritesChosen : Type 0
  WritesChosen = (c : C) × (choice ≡ Ok (Some c)) × Writes Makes c remaining reader_old reader_new contents writer_old writer_new

  -- nothing was written, or something was chosen, and only a beginning of what it makes was written
  abbrev pub WritesChosenFront : Type 0
  WritesChosenFront =
      Keeps (contents writer_old) (contents writer_new) ⊎ ((c : C) × (choice ≡ Ok (Some c)) × WritesFront Makes c remaining reader_old reader_new contents writer_old writer_new)

module _ {C A B : Type 0} (Makes : C → (old new : Option (List ℕ)) → (text : List ℕ) → Type 0) (chosen_by : List (List ℕ) → Option C) (words : List (String Global))
    (remaining : A → Option (List ℕ)) (reader_old reader_new : A) (contents : B → Option (List ℕ)) (writer_old writer_new : B) where
  -- the arguments choose something, and what it makes was written
  abbrev pub WritesWords : Type 0
  WritesWords = WritesChosen Makes (Ok (chosen_by (map string_bytes words))) remaining reader_old reader_new contents writer_old writer_new

  -- nothing was written, or the arguments choose something, and only a beginning of what it makes was written
  abbrev pub WritesWordsFront : Type 0
  WritesWordsFront = WritesChosenFront Makes (Ok (chosen_by (map string_bytes words))) remaining reader_old reader_new contents writer_old writer_new

module _ {C A B : Type 0} (Makes : C → (old new : Option (List ℕ)) → (text : List ℕ) → Type 0)
    (remaining : A → Option (List ℕ)) (reader_old reader_new : A) (contents : B → Option (List ℕ)) (writer_old writer_new : B) where
  -- nothing was written, or only a beginning of what some choice makes
  abbrev pub WritesFrontAtMost : Type 0
  WritesFrontAtMost = Keeps (contents writer_old) (contents writer_new) ⊎ ((c : C) × WritesFront Makes c remaining reader_old reader_new contents writer_old writer_new)
