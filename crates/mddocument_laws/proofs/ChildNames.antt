-- Where chains of chunks are replaced by what they are read as, and data in strings by their escapes and references, each name is of the list or of
-- what is put in.
use Rattle.mddocument_laws.proofs.Prelude.{◌≡◌, ℕ, List, [], ◌∷◌, ◌++◌, Bool, true, false, Option, map, cond_both, ◌&&◌, Constructs, Content, Event, Name, fitting_starts, with_children, in_string_after, is_data, line_as_string, seats_between, with_strings, with_strings_from, may_be_named}
use Rattle.mddocument_laws.proofs.ChildEvents.{children-are}
use Rattle.mddocument_laws.proofs.PlainNames.{plain-may}
use Rattle.mddocument_laws.proofs.ItemNames.{strings-named}
use Rattle.mddocument_laws.proofs.Named.{Named, and, no-events, weaker}

-- Chains are replaced by what each is read as
pub children-named : (P : Name → Type 0) (wanted : Option Content) (es : List Event) (of_chain : ℕ → List Event) → Named P es → ((c : ℕ) → Named P (of_chain c))
    → Named P (with_children wanted es (map of_chain (fitting_starts wanted es)))
children-named P wanted es of_chain h k = record { all = children-are (λ (e : Event). P e.name) (λ f e p. p) wanted es of_chain h.all (λ c. (k c).all) }

module _ (on : Constructs) (t : ℕ) (bytes : List ℕ) where
  abbrev May : Name → Type 0
  May n = may_be_named on n ≡ true

  string-events : (inside : Bool) (es : List Event) → Named May es → Named May (with_strings_from on t bytes inside es)
  string-events inside [] h = no-events
  string-events inside (e ∷ []) h = h
  string-events inside (e ∷ f ∷ es) h =
      cond_both (inside && is_data e f) (line_as_string on t bytes e.point f.point ++ with_strings_from on t bytes inside es) (e ∷ with_strings_from on t bytes (in_string_after inside e) (f ∷ es)) (Named May)
      (λ x. and (weaker (plain-may on) (line_as_string on t bytes e.point f.point) (strings-named on bytes (seats_between t bytes e.point f.point)).named) (string-events inside es (record { all = h.all.1.1 })))
      (λ x. record { all = (h.all.0, (string-events (in_string_after inside e) (f ∷ es) (record { all = h.all.1 })).all) })

  pub with-strings-named : (es : List Event) → Named May es → Named May (with_strings on t bytes es)
  with-strings-named es h = string-events false es h
