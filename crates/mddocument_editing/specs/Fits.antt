-- Which bytes are a document that can be edited.
use Rattle.std.specs.Prelude.{◌≡◌, ℕ, true, List}
use Rattle.std.specs.List.{AllByRecursion}
use Rattle.markdown_base.specs.declared.configuration.ParseOptions.{ParseOptions}
use Rattle.markdown_base.specs.Virtual.{IsWithinLimit}
use Rattle.mddocument_editing.specs.Divided.{Divided, IsDivided, bytes_of, section_events}
use Rattle.mddocument_editing.specs.Packed.{events_fit}

-- the events of each section of a document can be packed
abbrev pub HasFittingEvents : Divided → Type 0
HasFittingEvents d = AllByRecursion (λ section. events_fit (section_events d section) ≡ true) d.sections

-- Bytes can be edited: they are within the limit, and the document that they are, cut at each of its rests, has events that can be packed
pub record CanBeEdited (options : ParseOptions) (bytes : List ℕ) : Type 0 where
  pub limit : IsWithinLimit options.tab_size bytes
  pub fits : (d : Divided) → IsDivided d → d.options ≡ options → bytes_of d ≡ bytes → HasFittingEvents d
