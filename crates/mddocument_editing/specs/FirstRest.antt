-- The first rest in a document, and the document cut at its rests.
use Rattle.std.specs.Prelude.{◌≡◌, ℕ, ◌<◌, ◌≤◌, true, false, List, length, map, take, drop}
use Rattle.std.specs.List.{AllByRecursion}
use Rattle.std.specs.declared.alloc.Global.{Global}
use Rattle.std.specs.declared.vec.Vec.{Vec}
use Rattle.markdown_base.specs.declared.configuration.ParseOptions.{ParseOptions}
use Rattle.mddocument_parts.specs.BothDocuments.{is_rest}
use Rattle.mddocument_parts.specs.Sections.{are_sections_by, document_of}

module _ (options : ParseOptions) where
  -- no rest is in front of an index, behind the beginning
  abbrev pub HasNoRestBefore : List ℕ → (index : ℕ) → Type 0
  HasNoRestBefore bytes index = (k : ℕ) → 0 < k → k < index → is_rest options (take k bytes) (drop k bytes) ≡ false

  -- The index is that of the first rest behind the beginning, or of the end, if there is none
  pub record IsFirstRest (bytes : List ℕ) (index : ℕ) : Type 0 where
    pub some : 0 < index
    pub within : index ≤ length bytes
    pub rest : index < length bytes → is_rest options (take index bytes) (drop index bytes) ≡ true
    pub first : HasNoRestBefore bytes index

  -- no rest is in a section
  abbrev pub IsWhole : List ℕ → Type 0
  IsWhole section = HasNoRestBefore section (length section)

  -- Sections of these bytes: these, cut at rests, and at each
  pub record AreSectionsOf (bytes : List ℕ) (sections : List (List ℕ)) : Type 0 where
    pub document : document_of sections ≡ bytes
    pub cut : are_sections_by (is_rest options) sections ≡ true
    pub whole : AllByRecursion IsWhole sections

-- what vectors have
abbrev pub items_of : List (Vec ℕ Global) → List (List ℕ)
items_of parts = map (λ part. part.items) parts
