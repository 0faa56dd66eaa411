-- Edits of a document, and what they change.
use Rattle.std.specs.Prelude.{◌≡◌, ◌⊎◌, ℕ, suc, ◌-◌, ◌≤◌, ◌<◌, List, [], ◌∷◌, ◌++◌, length, map, take, drop, Contains}
use Rattle.std.specs.List.{AllByRecursion, slice_index_or}
use Rattle.mddocument_editing.specs.declared.edit.Change.{Change}
use Rattle.mddocument_editing.specs.declared.edit.Edit.{Edit}
use Rattle.mddocument_editing.specs.declared.edit.Other.{Other}
use Rattle.mddocument_editing.specs.declared.edit.Why.{Why}
use Rattle.mddocument_editing.specs.declared.edit.Why.TheVariants as why
use Rattle.mddocument_editing.specs.Divided.{Divided, IsDivided, bytes_of, section_events}
use Rattle.mddocument_editing.specs.Leading.{section_targets}

-- bytes with those of an edit in the place of others
abbrev pub edited : Edit → List ℕ → List ℕ
edited edit bytes = take edit.from bytes ++ (edit.with.now ++ drop edit.to bytes)

-- the bytes that go are bytes of the document
abbrev pub IsInside : Edit → List ℕ → Type 0
IsInside edit bytes = (edit.from ≤ edit.to) × (edit.to ≤ length bytes)

-- ---- what an edit changes

-- the section with a number
abbrev pub section_of : Divided → (i : ℕ) → List ℕ
section_of d i = slice_index_or d.sections i []

-- a section is in front of those that were replaced or behind them, as sections are numbered now
abbrev pub IsOutside : Change → (i : ℕ) → Type 0
IsOutside change i = (i < change.from) ⊎ (change.new_to ≤ i)

-- a section has the events that it had
abbrev pub KeepsEvents : (old new : Divided) → (section : List ℕ) → Type 0
KeepsEvents old new section = section_events new section ≡ section_events old section

-- what its links and images lead to is what they led to
abbrev pub KeepsTargets : (old new : Divided) → (section : List ℕ) → Type 0
KeepsTargets old new section = section_targets new section ≡ section_targets old section

-- why a section is named that was not replaced: it has other events; or it has those that it had, and a link or an image in it leads elsewhere
abbrev pub IsWhy : (old new : Divided) → (section : List ℕ) → Why → Type 0
IsWhy old new section why.Events = ¬ KeepsEvents old new section
IsWhy old new section why.Targets = KeepsEvents old new section × ¬ KeepsTargets old new section

abbrev pub numbers_of : List Other → List ℕ
numbers_of others = map (λ other. other.section) others

-- numbers ascend, each above the one before it, and the first is at least this
abbrev pub ascend_from : (least : ℕ) → List ℕ → Type 0
ascend_from least [] = Unit {0}
ascend_from least (n ∷ ns) = (least ≤ n) × ascend_from (suc n) ns

-- A change says exactly which sections an edit replaced, and of which others something is new, and what
pub record IsChange (old new : Divided) (change : Change) : Type 0 where
  pub old_within : (change.from ≤ change.old_to) × (change.old_to ≤ length old.sections)
  pub new_within : (change.from ≤ change.new_to) × (change.new_to ≤ length new.sections)
  -- sections in front stay, and so do those behind
  pub front : take change.from new.sections ≡ take change.from old.sections
  pub behind : drop change.new_to new.sections ≡ drop change.old_to old.sections
  -- and no more of them could stay: the first of the new sections is not the first that was replaced, and the last is not the last
  pub first : change.from < change.old_to → change.from < change.new_to → ¬ (section_of new change.from ≡ section_of old change.from)
  pub last : change.from < change.old_to → change.from < change.new_to → ¬ (section_of new (change.new_to - 1) ≡ section_of old (change.old_to - 1))
  -- the others are sections of the document as it is now, none of the new ones, in order and each once
  pub ascend : ascend_from 0 (numbers_of change.others.items)
  pub outside : AllByRecursion (λ other. (other.section < length new.sections) × IsOutside change other.section) change.others.items
  -- each of them is named for what is new of it
  pub why : AllByRecursion (λ other. IsWhy old new (section_of new other.section) other.why) change.others.items
  -- and of those that are not named nothing is: they have the events that they had, and their links lead where they led
  pub same : (i : ℕ) → i < length new.sections → IsOutside change i → ¬ Contains (numbers_of change.others.items) i
      → KeepsEvents old new (section_of new i) × KeepsTargets old new (section_of new i)

-- ---- laws

-- An edit that leaves the bytes of a document changes nothing
abbrev pub NothingIsNamed : Type 0
NothingIsNamed = (old new : Divided) (change : Change) → IsDivided old → IsDivided new → old.options ≡ new.options → bytes_of old ≡ bytes_of new → IsChange old new change
    → (change.old_to ≡ change.from) × ((change.new_to ≡ change.from) × (change.others.items ≡ []))
