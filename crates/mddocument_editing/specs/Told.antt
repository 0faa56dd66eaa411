-- Inner: sections of which something is new, for private functions.
use Rattle.std.specs.Option.{option_copied, option_or}
use Rattle.std.specs.Prelude.{◌≡◌, ◌⊎◌, ℕ, ◌+◌, ◌==◌, Bool, true, false, cond, is_some, List, [], ◌∷◌, ◌++◌, Option, None, Some, drop, option_map, option_to_list}
use Rattle.std.specs.List.{flat_map}
use Rattle.markdown_base.specs.declared.event.Event.{Event}
use Rattle.mddocument_link_targets.specs.declared.targets.Parts.{Parts}
use Rattle.mddocument_editing.specs.declared.edit.Other.{Other}
use Rattle.mddocument_editing.specs.declared.edit.Why.{Why}
use Rattle.mddocument_editing.specs.declared.edit.Why.TheVariants as why
use Rattle.mddocument_editing.specs.declared.reread.Reread.{Reread}
use Rattle.mddocument_editing.specs.declared.said.Said.{Said}
use Rattle.mddocument_editing.specs.declared.section.Section.{Section}
use Rattle.mddocument_editing.specs.declared.told.Saids.{Saids}
use Rattle.mddocument_editing.specs.declared.told.Side.{Side}
use Rattle.mddocument_editing.specs.declared.told.Visit.{Visit}
use Rattle.mddocument_editing.specs.Kept.{bytes_of_sections}
use Rattle.mddocument_editing.specs.Leading.{targets_in}
use Rattle.mddocument_editing.specs.Put.{HasEvents}
use Rattle.mddocument_editing.specs.Said.{LeadAsBefore, said_of, saids}

-- ---- sections that are gone over, each with what it was read as, if it was read again

-- what the section with a number is read as, if the first of those that were read again is that one
abbrev pub read_next : (number : ℕ) → List Reread → Option Reread
read_next number [] = None
read_next number (r ∷ rs) = cond (r.section == number) (Some r) None

-- those that are left of them behind that section
abbrev pub left_behind : (found : Option Reread) → List Reread → List Reread
left_behind None rs = rs
left_behind (Some r) rs = drop 1 rs

pub record Visited : Type 0 where
  pub number : ℕ
  pub section : Section
  pub found : Option Reread

abbrev pub visit_of : Visit → Visited
visit_of v = record { number = v.number; section = v.section.now; found = option_copied v.found }

-- sections, of which the first has this number, and which of them were read again
abbrev pub visits : (first : ℕ) → List Section → List Reread → List Visited
visits first [] rs = []
visits first (s ∷ more) rs = let found = read_next first rs in record { number = first; section = s; found = found } ∷ visits (first + 1) more (left_behind found rs)

abbrev pub visits_of : Side → List Visited
visits_of side = visits side.first side.sections.now side.rereads.now

module _ {A : Type 0} (step : Visited → (before after : A) → Type 0) where
  -- Sections are gone over, with a step for each
  abbrev pub Goes : List Visited → (before after : A) → Type 0
  Goes [] before after = after ≡ before
  Goes (v ∷ more) before after = (next : A) × (step v before next × Goes more next after)

-- ---- definitions

-- the definitions of sections, by how they are read
abbrev pub all_saids : (read : List ℕ → List Event) → List (List ℕ) → List Said
all_saids read sections = flat_map (λ section. saids section (read section)) sections

-- the definitions of sections, as they have them
abbrev pub own_saids : List Section → List Said
own_saids sections = flat_map (λ section. section.linking.saids) sections

-- a section that has other events defined a label neither by those that it had nor by these
abbrev pub IsUntouched : (read : List ℕ → List Event) → (label : List ℕ) → Section → Type 0
IsUntouched read label s = ¬ HasEvents read s → (said_of s.linking.saids label ≡ None) × (said_of (saids s.part.bytes.items (read s.part.bytes.items)) label ≡ None)

-- the definitions of a section, its own or those of what was found when it was read again
abbrev pub saids_now : Section → (found : Option Reread) → List Said
saids_now s None = s.linking.saids
saids_now s (Some r) = r.linking.saids

-- those that it had and those that it has, if it was read again
abbrev pub saids_again : Section → (found : Option Reread) → List Said
saids_again s None = []
saids_again s (Some r) = s.linking.saids ++ r.linking.saids

-- they are appended
abbrev pub IsAgain : Visited → (before after : List Said) → Type 0
IsAgain v before after = after ≡ before ++ saids_again v.section v.found

module _ (touched : List ℕ → Option Parts) where
  -- What a section defined and what it defines, by the events that were found, is appended; or none were found, and it defines no touched label
  abbrev pub ArePushed : Visited → (before after : Saids) → Type 0
  ArePushed v before after =
      (((after.olds.items ≡ before.olds.items) × (after.news.items ≡ before.news.items))
      × ((v.found ≡ None) × ((label : List ℕ) → is_some (touched label) ≡ true → said_of v.section.linking.saids label ≡ None)))
      ⊎ ((after.olds.items ≡ before.olds.items ++ v.section.linking.saids) × (after.news.items ≡ before.news.items ++ saids_now v.section v.found))

  -- The definitions of sections are appended, as far as touched labels ask for them: as they were, and as they are. Others are the same in both
  pub record AreNear (read : List ℕ → List Event) (sections : List Section) (before after : Saids) : Type 0 where
    pub old : (label : List ℕ) → is_some (touched label) ≡ true → said_of after.olds.items label ≡ option_or (said_of before.olds.items label) (said_of (own_saids sections) label)
    pub new : (label : List ℕ) → is_some (touched label) ≡ true
        → said_of after.news.items label ≡ option_or (said_of before.news.items label) (said_of (all_saids read (bytes_of_sections sections)) label)
    pub same : (label : List ℕ) → touched label ≡ None → said_of before.news.items label ≡ said_of before.olds.items label → said_of after.news.items label ≡ said_of after.olds.items label

-- ---- what is told

module _ (read : List ℕ → List Event) (old new : List ℕ → Option Parts) where
  -- the links of a section lead where they led
  abbrev pub HasTargets : Section → Type 0
  HasTargets s = targets_in new s.part.bytes.items s.events ≡ targets_in old s.part.bytes.items s.events

  -- what is new of a section
  abbrev pub IsNew : Section → Why → Type 0
  IsNew s why.Events = ¬ HasEvents read s
  IsNew s why.Targets = HasEvents read s × ¬ HasTargets s

  -- Of sections, those are told of which something is new, and those alone; the first of the sections has this number
  abbrev pub AreTold : (first : ℕ) → List Section → List Other → Type 0
  AreTold first [] others = others ≡ []
  AreTold first (s ∷ more) others =
      ((HasEvents read s × HasTargets s) × AreTold (first + 1) more others)
      ⊎ ((why : Why) × ((rest : List Other) × ((others ≡ record { section = first; why = why } ∷ rest) × (IsNew s why × AreTold (first + 1) more rest))))

  -- the same of sections in front of others and behind them, which have numbers from this one on
  pub record AreToldAround (new_to : ℕ) (front behind : List Section) (others : List Other) : Type 0 where
    pub first : List Other
    pub last : List Other
    pub both : others ≡ first ++ last
    pub told : AreTold 0 front first
    pub told_behind : AreTold new_to behind last

module _ (old new : List ℕ → Option Parts) where
  -- what is told of a section, which was read again or was not
  abbrev pub IsToldAs : Section → (is_read : Bool) → Option Why → Type 0
  IsToldAs s is_read None = (is_read ≡ false) × LeadAsBefore old new s.linking.labels
  IsToldAs s is_read (Some why.Events) = is_read ≡ true
  IsToldAs s is_read (Some why.Targets) = (is_read ≡ false) × ¬ LeadAsBefore old new s.linking.labels

  -- it is appended
  abbrev pub IsToldNext : Visited → (before after : List Other) → Type 0
  IsToldNext v before after = (told : Option Why) × (IsToldAs v.section (is_some v.found) told × (after ≡ before ++ option_to_list (option_map (λ why. record { section = v.number; why = why }) told)))
