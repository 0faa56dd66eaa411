-- Parts that end where no section begins.
use Rattle.mddocument_editing.proofs.Prelude.{◌≡◌, ℕ, ◌+◌, ◌<◌, ◌≤◌, ◌⊎◌, List, length, take, arith, inl, inr, sym, ap, ◌∙◌, take_all, cases_lt, document_of}
use Rattle.mddocument_editing.proofs.SectionSizes.{size-fewer}

module _ (parts sections : List (List ℕ)) (size : ℕ) where
  -- so many parts end where the section behind so many others begins
  abbrev pub Meet : (some few : ℕ) → Type 0
  Meet some few = length (document_of (take some parts)) ≡ size + length (document_of (take few sections))

  abbrev pub AreApart : (kept passed : ℕ) → Type 0
  AreApart kept passed = (some few : ℕ) → (some < kept) ⊎ (few < passed) → ¬ Meet some few

  module _ {kept passed : ℕ} (apart : AreApart kept passed) where
    -- one part more that ends in front of the next section
    pub apart-part : length (document_of (take kept parts)) < size + length (document_of (take passed sections)) → AreApart (kept + 1) passed
    apart-part less some few (inr lt) = apart some few (inr lt)
    apart-part less some few (inl lt) = elim (cases_lt some kept) [
      | inl below ↦ apart some few (inl below)
      | inr above ↦ elim (cases_lt few passed) [
        | inl front ↦ apart some few (inr front)
        | inr more ↦ λ meet. absurd (omega (arith, meet, less, size-fewer some kept parts (omega (arith, lt)), size-fewer passed few sections more))
      ]
    ]

    -- one section more that begins in front of the end of the parts
    pub apart-section : size + length (document_of (take passed sections)) < length (document_of (take kept parts)) → AreApart kept (passed + 1)
    apart-section less some few (inl lt) = apart some few (inl lt)
    apart-section less some few (inr lt) = elim (cases_lt few passed) [
      | inl front ↦ apart some few (inr front)
      | inr more ↦ elim (cases_lt some kept) [
        | inl below ↦ apart some few (inl below)
        | inr above ↦ λ meet. absurd (omega (arith, meet, less, size-fewer kept some parts above, size-fewer few passed sections (omega (arith, lt))))
      ]
    ]

    -- all parts end in front of the next section
    pub apart-parts : length parts ≤ kept → length (document_of (take kept parts)) < size + length (document_of (take passed sections)) → (some few : ℕ) → ¬ Meet some few
    apart-parts all less some few = elim (cases_lt some kept) [
      | inl below ↦ apart some few (inl below)
      | inr above ↦ elim (cases_lt few passed) [
        | inl front ↦ apart some few (inr front)
        | inr more ↦ λ meet.
            let same = ap (λ ys. length (document_of ys)) (take_all some parts (omega (arith, all, above)) ∙ sym (take_all kept parts all)) in
            absurd (omega (arith, meet, less, same, size-fewer passed few sections more))
      ]
    ]
