-- Names by where they may stand: those that stand anywhere but directly in a list are free; and what a chunk is read as stands where the chunk does.
use Rattle.mddocument_rules.proofs.Prelude.{◌≡◌, Bool, true, false, cond, not, List, [], ◌∷◌, drop, Some, None, Option, inl, inr, refl, subst, and_from, and_parts, false_from_ne_true, false≢true, not-true, or_cases, AllByRecursion, ◌&&◌, ◌||◌, Content, Event, Enter, Exit, Name, is_enter, same_name, same_name-true, content_of, is_wanted, block_names, item_names, list_names, all_stand, between_names, holds_blocks, inline_names, is_in, may_stand, text_names}
use Rattle.markdown_base.specs.declared.event.Content.TheVariants as content
use Rattle.markdown_base.specs.declared.event.Name.TheVariants as name
use Rattle.mddocument_rules.proofs.Walk.{IfEnter, Walks, behind_one}

-- the innermost span is no list
abbrev pub NotInList : List Name → Type 0
NotInList around = is_in list_names around ≡ false

-- a name is none of an item, a block or inline text
abbrev pub is_free : Name → Bool
is_free n = not (is_wanted item_names n) && (not (is_wanted block_names n) && not (is_wanted inline_names n))

-- what holds of each of some names holds of one of them
pub by-wanted : (P : Name → Type 0) (names : List Name) (n : Name) → AllByRecursion P names → is_wanted names n ≡ true → P n
by-wanted P [] n h e = absurd (false≢true e)
by-wanted P (m ∷ ms) n h e = elim (or_cases (same_name m n) (is_wanted ms n) e) [
  | inl a ↦ subst P (same_name-true m n a) h.0
  | inr b ↦ by-wanted P ms n h.1 b
]

pub free-parts : (n : Name) → is_free n ≡ true → (is_wanted item_names n ≡ false) × (is_wanted block_names n ≡ false) × (is_wanted inline_names n ≡ false)
free-parts n h =
    let a = and_parts (not (is_wanted item_names n)) (not (is_wanted block_names n) && not (is_wanted inline_names n)) h in
    let b = and_parts (not (is_wanted block_names n)) (not (is_wanted inline_names n)) a.1 in
    (not-true (is_wanted item_names n) a.0, not-true (is_wanted block_names n) b.0, not-true (is_wanted inline_names n) b.1)

-- it may stand in any span but a list
pub free-may : (around : List Name) (n : Name) → is_free n ≡ true → NotInList around → may_stand around n ≡ true
free-may around n h ok =
    let p = free-parts n h in
    (λ i. cond (p.0 i) (is_in list_names around) (cond (p.1 i) (holds_blocks around) (cond (p.2 i) (is_in text_names around) (not (ok i) || is_wanted between_names n))))

-- and is no list itself
pub free-inside : (n : Name) → is_free n ≡ true → is_wanted list_names n ≡ false
free-inside n h = false_from_ne_true (is_wanted list_names n) (λ e. by-wanted (λ m. is_free m ≡ true → ⊥) list_names n ((λ f. false≢true f), ((λ f. false≢true f), tt)) e h)

-- the names of spans that hold blocks
abbrev pub holders : List Name
holders = name.BlockQuote ∷ name.ListItem ∷ name.GfmFootnoteDefinition ∷ []

-- where blocks or inline text may stand is no list
pub blocks-apart : (around : List Name) → holds_blocks around ≡ true → NotInList around
blocks-apart [] h = refl
blocks-apart (n ∷ around) h = by-wanted (λ m. is_wanted list_names m ≡ false) holders n (refl, (refl, (refl, tt))) h

pub texts-apart : (around : List Name) → is_in text_names around ≡ true → NotInList around
texts-apart [] h = refl
texts-apart (n ∷ around) h = by-wanted (λ m. is_wanted list_names m ≡ false) text_names n (refl, (refl, (refl, (refl, (refl, (refl, (refl, (refl, tt)))))))) h

-- ---- what may stand where
abbrev pub ChunkFits : List Name → Option Content → Type 0
ChunkFits around None = Unit {0}
ChunkFits around (Some content.Content) = holds_blocks around ≡ true
ChunkFits around (Some content.Text) = is_in text_names around ≡ true
ChunkFits around (Some content.String) = NotInList around
ChunkFits around (Some content.Flow) = Unit {0}

-- a name, and what is read in place of it, if that is a chunk
abbrev pub StandsAs : List Name → Name → Option Content → Type 0
StandsAs around n o = (may_stand around n ≡ true) × ChunkFits around o

abbrev pub Stands : List Name → Event → Type 0
Stands around e = StandsAs around e.name (content_of e)

-- so each span stands where it may
pub walks-stand : (around : List Name) (es : List Event) → Walks Stands around es → all_stand may_stand around es ≡ true
walks-stand around [] h = refl
walks-stand around (e ∷ es) h =
    elim e.kind as (λ k. IfEnter k (Stands around e) → all_stand may_stand (behind_one k e.name around) es ≡ true
    → cond (is_enter k) (may_stand around e.name && all_stand may_stand (e.name ∷ around) es) (all_stand may_stand (drop 1 around) es) ≡ true) [
      | Enter ↦ λ s r. and_from (may_stand around e.name) (all_stand may_stand (e.name ∷ around) es) s.0 r
      | Exit ↦ λ s r. r
    ] h.0 (walks-stand (behind_one e.kind e.name around) es h.1)
