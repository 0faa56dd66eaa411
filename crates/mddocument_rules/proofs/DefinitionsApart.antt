-- No definition is in a definition: in one stands no block and no item, and in what stands there stand none either.
use Rattle.mddocument_rules.proofs.Prelude.{◌≡◌, ◌&&◌, ◌∙◌, ◌∷◌, ◌++◌, ℕ, Bool, List, [], all_stand, and_parts, ap, block_names, cond, drop, false, false_from_ne_true, false≢true, is_enter, is_wanted, item_names, length, list_names, may_stand, refl, same_name, same_name-true, subst, suc, sym, take, true, AllByRecursion, Enter, Event, Exit, Kind, Name}
use Rattle.std.proofs.lemmas.Bool.{and_right, or_from}
use Rattle.std.specs.List.{list_any}
use Rattle.markdown_base.proofs.Facts.Kinds.{enter-is}
use Rattle.markdown_base.specs.declared.event.Name.TheVariants as name
use Rattle.mddocument.specs.DocumentEvents.{document_events}
use Rattle.mddocument_link_targets.proofs.CostLemmas.{linear}
use Rattle.mddocument_link_targets.specs.Costs.{DefinitionsHoldNone}
use Rattle.mddocument_link_targets.specs.Spans.{enters, inside, size_by, size_from}
use Rattle.mddocument_rules.proofs.DocumentStands.{documents-stand}
use Rattle.mddocument_rules.proofs.Places.{by-wanted, holders}
use Rattle.mddocument_rules.specs.DefinitionLaws.{DefinitionsOfDocumentsAreLinear, NoDefinitionInADefinition}

abbrev is_one : Event → Bool
is_one e = enters name.Definition e

-- a name in which neither blocks nor items stand, and one that is none of them
abbrev pub Bare : Name → Type 0
Bare n = (is_wanted holders n ≡ false) × (is_wanted list_names n ≡ false)

abbrev pub Low : Name → Type 0
Low n = (is_wanted item_names n ≡ false) × (is_wanted block_names n ≡ false)

chosen : (item block list holder other : Bool) → holder ≡ false → list ≡ false → cond item list (cond block holder other) ≡ true → (item ≡ false) × (block ≡ false)
chosen true block list holder other h l m = absurd (false≢true (sym l ∙ m))
chosen false true list holder other h l m = absurd (false≢true (sym h ∙ m))
chosen false false list holder other h l m = (refl, refl)

-- what stands directly in such a span is no block and no item
pub low : (h n : Name) (around : List Name) → Bare h → may_stand (h ∷ around) n ≡ true → Low n
low h n around b m =
    chosen (is_wanted item_names n) (is_wanted block_names n) (is_wanted list_names h) (is_wanted holders h) _ b.0 b.1 m

-- what is none of them holds none
pub bare : (n : Name) → Low n → Bare n
bare n l = (
  false_from_ne_true (is_wanted holders n) (λ e. by-wanted (λ m. Low m → ⊥) holders n ((λ h. false≢true (sym h.1)), ((λ h. false≢true (sym h.0)), ((λ h. false≢true (sym h.1)), tt))) e l),
  false_from_ne_true (is_wanted list_names n) (λ e. by-wanted (λ m. Low m → ⊥) list_names n ((λ h. false≢true (sym h.1)), ((λ h. false≢true (sym h.1)), tt)) e l),
)

-- and is no definition
none : (e : Event) → Low e.name → is_one e ≡ false
none e l = and_right (is_enter e.kind) (same_name e.name name.Definition) (false_from_ne_true (same_name e.name name.Definition) (λ s. false≢true (sym (subst (λ (n : Name). is_wanted block_names n ≡ false) (same_name-true e.name name.Definition s) l.1))))

-- the spans around, from inside of a definition
abbrev stack : (within around : List Name) → List Name
stack within around = within ++ name.Definition ∷ around

-- what is said of the first event of a list, by its kind: that it stands where it may, with all behind it; and that no definition begins from it on
-- up to the end of the span that is so deep
abbrev AllStand : Kind → (around : List Name) → Event → List Event → Type 0
AllStand k around e es = cond (is_enter k) (may_stand around e.name && all_stand may_stand (e.name ∷ around) es) (all_stand may_stand (drop 1 around) es) ≡ true

abbrev NoneFrom : Kind → (depth : ℕ) → Event → List Event → Type 0
NoneFrom k depth e es = list_any is_one (take (size_by k depth (λ d. size_from d es)) (e ∷ es)) ≡ false

-- so nothing that begins in a definition is one, whatever is open in it: for one event more, if it is so for those behind it
abbrev NoneInside : (around : List Name) → List Event → Type 0
NoneInside around es = (within : List Name) → AllByRecursion Bare within → all_stand may_stand (stack within around) es ≡ true → list_any is_one (take (size_from (length within) es) es) ≡ false

module _ (around : List Name) (e : Event) (es : List Event) (more : NoneInside around es) where
  enter-low : (within : List Name) → AllByRecursion Bare within → may_stand (stack within around) e.name ≡ true → Low e.name
  enter-low [] b m = low name.Definition e.name around (refl, refl) m
  enter-low (n ∷ within) b m = low n e.name (stack within around) b.0 m

  entered : (within : List Name) → AllByRecursion Bare within → AllStand Enter (stack within around) e es → NoneFrom Enter (length within) e es
  entered within b h =
      let p = and_parts (may_stand (stack within around) e.name) (all_stand may_stand (e.name ∷ stack within around) es) h in
      let l = enter-low within b p.0 in
      or_from (is_one e) (list_any is_one (take (size_from (suc (length within)) es) es)) (none e l) (more (e.name ∷ within) (bare e.name l, b) p.1)

  exited : e.kind ≡ Exit → (within : List Name) → AllByRecursion Bare within → AllStand Exit (stack within around) e es → NoneFrom Exit (length within) e es
  exited q [] b h = refl
  exited q (n ∷ within) b h =
      let first : is_one e ≡ false = ap (λ (k : Kind). is_enter k && same_name e.name name.Definition) q in
      or_from (is_one e) (list_any is_one (take (size_from (length within) es) es)) first (more within b.1 h)

  one-more : (within : List Name) → AllByRecursion Bare within → (k : Kind) → e.kind ≡ k → AllStand k (stack within around) e es → NoneFrom k (length within) e es
  one-more within b Enter q h = entered within b h
  one-more within b Exit q h = exited q within b h

none-inside : (around : List Name) (es : List Event) → NoneInside around es
none-inside around [] within b h = refl
none-inside around (e ∷ es) within b h = one-more around e es (none-inside around es) within b e.kind refl h

-- no definition is in one, wherever the first event stands
behind : (k : Kind) (around : List Name) (e : Event) (es : List Event) → ((all : List Name) → all_stand may_stand all es ≡ true → DefinitionsHoldNone es) → AllStand k around e es → DefinitionsHoldNone es
behind Enter around e es more h = more (e.name ∷ around) (and_parts (may_stand around e.name) (all_stand may_stand (e.name ∷ around) es) h).1
behind Exit around e es more h = more (drop 1 around) h

holds-none : (around : List Name) (e : Event) (es : List Event) → AllStand e.kind around e es → is_one e ≡ true → list_any is_one (inside es) ≡ false
holds-none around e es h is =
    let p = and_parts (is_enter e.kind) (same_name e.name name.Definition) is in
    let s = subst (λ (k : Kind). AllStand k around e es) (enter-is e.kind p.0) h in
    let rest = (and_parts (may_stand around e.name) (all_stand may_stand (e.name ∷ around) es) s).1 in
    none-inside around es [] tt (subst (λ (n : Name). all_stand may_stand (n ∷ around) es ≡ true) (same_name-true e.name name.Definition p.1) rest)

hold-none : (around : List Name) (es : List Event) → all_stand may_stand around es ≡ true → DefinitionsHoldNone es
hold-none around [] h = tt
hold-none around (e ∷ es) h = (holds-none around e es h, behind e.kind around e es (λ all k. hold-none all es k) h)

pub definitions-apart : NoDefinitionInADefinition
definitions-apart g is = hold-none [] (document_events g) (documents-stand g is)

pub definitions-linear : DefinitionsOfDocumentsAreLinear
definitions-linear g is = linear (document_events g) (definitions-apart g is)
