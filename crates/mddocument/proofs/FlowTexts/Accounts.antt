-- Each virtual byte is in one innermost span of the events of leaf blocks with their texts.
use Rattle.mddocument.proofs.Prelude.{◌≡◌, ℕ, List, [], ◌∷◌, ◌++◌, None, map, refl, sym, ap, ◌∙◌, subst, append-nil, Event, Seat, AccountFor, Atom, IsCut, atoms-more, events_of, open-atoms, AreSpans, Begins, bare, linked-spans, Mark, linked_from, read_marks}

-- marks of events, which begin no chunk
abbrev marks : List Event → List Mark
marks es = map (λ (e : Event). (e, None)) es

pub bare-marks : (es : List Event) → bare (marks es) ≡ es
bare-marks [] = refl
bare-marks (e ∷ es) = ap (λ l. e ∷ l) (bare-marks es)

module _ (bytes : List ℕ) where
  begins-atoms : (atoms : List Atom) → Begins (marks (events_of bytes atoms))
  begins-atoms [] = tt
  begins-atoms (a ∷ atoms) =
      let opens = open-atoms bytes (a ∷ atoms) a.first _ [] refl in
      subst (λ es. Begins (marks es)) (sym (sym (append-nil (events_of bytes (a ∷ atoms))) ∙ opens.are)) refl

  -- what is cut into innermost spans accounts for its virtual bytes
  pub cut-spans : (reads : List Seat → List Event) → ((seats : List Seat) → IsCut bytes (reads seats) seats) → (seats : List Seat) → AreSpans bytes (read_marks reads bytes seats) seats
  cut-spans reads cuts seats =
      let cut = cuts seats in
      let es = reads seats in
      record {
        begins = subst (λ l. Begins (marks l)) (sym cut.are) (begins-atoms cut.atoms);
        account = λ events more h.
            subst (λ l. AccountFor (l ++ events) bytes (seats ++ more)) (sym (bare-marks es ∙ cut.are))
            (subst (λ l. AccountFor (events_of bytes cut.atoms ++ events) bytes (l ++ more)) (sym cut.all) (atoms-more bytes cut.atoms events more h));
      }

-- marks of innermost spans over virtual bytes account for them, with their links
pub linked-account : (bytes : List ℕ) (marks : List Mark) (seats : List Seat) → AreSpans bytes marks seats → AccountFor (linked_from 0 marks) bytes seats
linked-account bytes marks seats spans =
    let nothing : AccountFor [] bytes [] = record { stretches = []; are_all = refl; are_innermost = refl } in
    let h = subst (λ es. AccountFor es bytes seats) (append-nil (bare marks)) (subst (AccountFor (bare marks ++ []) bytes) (append-nil seats) (spans.account [] [] nothing)) in
    record { stretches = h.stretches; are_all = h.are_all; are_innermost = linked-spans 0 marks ∙ h.are_innermost }
