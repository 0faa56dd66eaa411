-- If the events of each section of a document that is edited can be packed, so can those of its parts, by any labels that are the document's.
use Rattle.mddocument_editing.proofs.Prelude.{◌≡◌, ℕ, Bool, List, [], ◌∷◌, ◌++◌, take, drop, subst, sym, drop-map, take-map, AllByRecursion, every-back, every-front, is_key_of, ArePackable, IsPackable, bytes_of_sections, recut_document, recut_sections, Kept, Section, Key}

-- what holds of the bytes of each section holds of each
each-bytes : (P : List ℕ → Type 0) (sections : List Section) → AllByRecursion P (bytes_of_sections sections) → AllByRecursion (λ section. P section.part.bytes.items) sections
each-bytes P [] all = tt
each-bytes P (s ∷ more) all = (all.0, each-bytes P more all.1)

module _ (k : Kept) (from end : ℕ) (parts : List (List ℕ)) (defined : Key → Bool) (knows : (key : Key) → defined key ≡ is_key_of (recut_document k from end parts) key)
    (fits : ArePackable (recut_document k from end parts)) where
  abbrev P : List ℕ → Type 0
  P bytes = IsPackable k.options defined bytes

  abbrev front : List (List ℕ)
  front = take from (bytes_of_sections k.sections.items)

  abbrev behind : List (List ℕ)
  behind = drop end (bytes_of_sections k.sections.items)

  all : AllByRecursion P (front ++ (parts ++ behind))
  all =
      let same : defined ≡ is_key_of (recut_document k from end parts) = λ i key. knows key i in
      subst (λ g. AllByRecursion (IsPackable k.options g) (recut_sections k from end parts)) (sym same) fits

  -- the new parts
  pub parts-fit : AllByRecursion P parts
  parts-fit = every-front P parts behind (every-back P front (parts ++ behind) all)

  -- the sections in front
  pub front-fits : AllByRecursion (λ section. IsPackable k.options defined section.part.bytes.items) (take from k.sections.items)
  front-fits =
      each-bytes P (take from k.sections.items)
      (subst (AllByRecursion P) (take-map (λ section. section.part.bytes.items) from k.sections.items) (every-front P front (parts ++ behind) all))

  -- and those behind
  pub behind-fits : AllByRecursion (λ section. IsPackable k.options defined section.part.bytes.items) (drop end k.sections.items)
  behind-fits =
      each-bytes P (drop end k.sections.items)
      (subst (AllByRecursion P) (drop-map (λ section. section.part.bytes.items) end k.sections.items) (every-back P parts behind (every-back P front (parts ++ behind) all)))
