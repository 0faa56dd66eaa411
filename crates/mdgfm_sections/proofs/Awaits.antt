-- Behind balanced events of which prefixes of items stand in items, no first block of an item is awaited.
use Rattle.std.proofs.Common.{◌≡◌, ◌∙◌, ℕ, ◌+◌, ◌-◌, Bool, true, false, cond, List, [], ◌∷◌, ◌++◌, Some, None, refl, sym, ap, subst, arith}
use Rattle.std.proofs.lemmas.Bool.{and_from, and_parts, false≢true}
use Rattle.std.specs.Prelude.{◌&&◌, ◌||◌, not, nat_lt}
use Rattle.markdown_base.specs.declared.event.Event.{Event}
use Rattle.markdown_base.specs.declared.event.Kind.{Kind}
use Rattle.markdown_base.specs.declared.event.Kind.TheVariants.{Enter, Exit}
use Rattle.markdown_base.specs.declared.event.Name.{Name}
use Rattle.markdown_base.specs.declared.event.Name.TheVariants as name
use Rattle.markdown_base.specs.Events.{IsBalanced, empty, is_enter, same_name, span}
use Rattle.markdown_base.specs.OpenNames.{names_after, names_after_all}
use Rattle.markdown_base.proofs.Balanced.{names_after_balanced, none_is_not_some, same_name-true}
use Rattle.mdgfm_tasks.specs.declared.awaited.Awaited.{Awaited}
use Rattle.mdgfm_tasks.specs.declared.awaited.Awaited.TheVariants.{Nothing, Block, DefinitionEnd, Text}
use Rattle.mdgfm_tasks.specs.Awaits.{awaited_behind, enters, is_passed}
use Rattle.mdgfm_tasks.specs.Laws.{awaited_from}
use Rattle.mdgfm_sections.proofs.Items.{in_items, items_behind}
use Rattle.mdgfm_sections.proofs.TasksBoth.{IsOpen, open-enter, open-exit, other-nothing}

from-append : (a : Awaited) (xs ys : List Event) → awaited_from a (xs ++ ys) ≡ awaited_from (awaited_from a xs) ys
from-append a [] ys = refl
from-append a (e ∷ xs) ys = from-append (awaited_behind a e) xs ys

-- behind balanced events no definition is open that was not before
open-over : (a : Awaited) (inner : List Name) (es : List Event) → IsOpen a inner → names_after_all (Some inner) es ≡ Some [] → IsOpen (awaited_from a es) []
open-over a inner [] h c = let some : Some inner ≡ Some [] = c in let same : inner ≡ [] = cc in subst (IsOpen a) same h
open-over a inner (e ∷ es) h c = by (λ b inner h c. open-over b inner es h c) e.kind refl c
  where
    exit : ((b : Awaited) (inner : List Name) → IsOpen b inner → names_after_all (Some inner) es ≡ Some [] → IsOpen (awaited_from b es) []) → (inner : List Name) → e.kind ≡ Exit → IsOpen a inner
        → names_after_all (names_after Exit e.name inner) es ≡ Some [] → IsOpen (awaited_from (awaited_behind a e) es) []
    exit more [] q h c = none_is_not_some [] _ c
    exit more (m ∷ inner) q h c = last (same_name m e.name) refl c
      where
        last : (t : Bool) → same_name m e.name ≡ t → names_after_all (cond t (Some inner) None) es ≡ Some [] → IsOpen (awaited_from (awaited_behind a e) es) []
        last true is c = more (awaited_behind a e) inner (open-exit a e m inner q (sym (same_name-true m e.name is)) h) c
        last false is c = none_is_not_some [] _ c

    by : ((b : Awaited) (inner : List Name) → IsOpen b inner → names_after_all (Some inner) es ≡ Some [] → IsOpen (awaited_from b es) []) → (k : Kind) → e.kind ≡ k → names_after_all (names_after k e.name inner) es ≡ Some []
        → IsOpen (awaited_from (awaited_behind a e) es) []
    by more Enter q c = more (awaited_behind a e) (e.name ∷ inner) (open-enter a e inner q h) c
    by more Exit q c = exit more inner q h c

-- behind the exit of an item nothing is awaited
item-exit : (a : Awaited) (k : Kind) (n : Name) → k ≡ Exit → n ≡ name.ListItem → (e : Event) → e.kind ≡ k → e.name ≡ n → IsOpen a [] → awaited_behind a e ≡ Nothing
item-exit Nothing k n q is e kind named h = other-nothing e (ap (λ m. same_name m name.ListItemPrefix) (named ∙ is))
item-exit Block k n q is e kind named h =
    ap (λ k. cond (not (is_enter k) && same_name e.name name.ListItemPrefix) Block (cond (is_passed e.name) Block (cond (is_enter k && same_name e.name name.Definition) DefinitionEnd (cond (is_enter k && same_name e.name name.Paragraph) Text Nothing)))) (kind ∙ q)
    ∙ ap (λ m. cond (same_name m name.ListItemPrefix) Block (cond (is_passed m) Block Nothing)) (named ∙ is)
item-exit DefinitionEnd k n q is e kind named h = absurd (false≢true h)
item-exit Text k n q is e kind named h =
    ap (λ k. cond (not (is_enter k) && same_name e.name name.ListItemPrefix) Block (cond (same_name e.name name.SpaceOrTab) Text Nothing)) (kind ∙ q)
    ∙ ap (λ m. cond (same_name m name.ListItemPrefix) Block (cond (same_name m name.SpaceOrTab) Text Nothing)) (named ∙ is)

-- where nothing is awaited, only the prefix of an item changes that
enter-nothing : (e : Event) → e.kind ≡ Enter → awaited_behind Nothing e ≡ Nothing
enter-nothing e q = ap (λ k. cond (not (is_enter k) && same_name e.name name.ListItemPrefix) Block Nothing) q

-- ---- items around

abbrev after : ℕ → List Event → ℕ
after d [] = d
after d (e ∷ es) = after (items_behind d e) es

after-append : (d : ℕ) (xs ys : List Event) → after d (xs ++ ys) ≡ after (after d xs) ys
after-append d [] ys = refl
after-append d (e ∷ xs) ys = after-append (items_behind d e) xs ys

enter-behind : (d : ℕ) (e : Event) → e.kind ≡ Enter → items_behind d e ≡ cond (same_name e.name name.ListItem) (d + 1) d
enter-behind d e q = ap (λ k. cond (same_name e.name name.ListItem) (cond (is_enter k) (d + 1) (d - 1)) d) q

exit-behind : (d : ℕ) (f : Event) → f.kind ≡ Exit → items_behind d f ≡ cond (same_name f.name name.ListItem) (d - 1) d
exit-behind d f q = ap (λ k. cond (same_name f.name name.ListItem) (cond (is_enter k) (d + 1) (d - 1)) d) q

-- behind a span as before it
span-behind : (d : ℕ) (e f : Event) → e.kind ≡ Enter → f.kind ≡ Exit → f.name ≡ e.name → items_behind (items_behind d e) f ≡ d
span-behind d e f en ex same =
    ap (λ n. items_behind n f) (enter-behind d e en) ∙ exit-behind (cond (same_name e.name name.ListItem) (d + 1) d) f ex
    ∙ ap (λ m. cond (same_name m name.ListItem) (cond (same_name e.name name.ListItem) (d + 1) d - 1) (cond (same_name e.name name.ListItem) (d + 1) d)) same ∙ by (same_name e.name name.ListItem)
  where
    by : (t : Bool) → cond t (cond t (d + 1) d - 1) (cond t (d + 1) d) ≡ d
    by true = omega arith
    by false = refl

after-balanced : (d : ℕ) (es : List Event) → IsBalanced es → after d es ≡ d
after-balanced d es empty = refl
after-balanced d es (span e f xs ys is en ex same bx by) =
    ap (after d) is ∙ after-append (items_behind d e) xs (f ∷ ys)
    ∙ ap (λ n. after (items_behind n f) ys) (after-balanced (items_behind d e) xs bx) ∙ ap (λ n. after n ys) (span-behind d e f en ex same) ∙ after-balanced d ys by

in-append : (d : ℕ) (xs ys : List Event) → in_items d (xs ++ ys) ≡ true → (in_items d xs ≡ true) × (in_items (after d xs) ys ≡ true)
in-append d [] ys h = (refl, h)
in-append d (e ∷ xs) ys h =
    let first = not (enters name.ListItemPrefix e) || nat_lt 0 d in
    let both = and_parts first (in_items (items_behind d e) (xs ++ ys)) h in
    let more = in-append (items_behind d e) xs ys both.1 in
    (and_from first (in_items (items_behind d e) xs) both.0 more.0, more.1)

-- ---- outside of items

pub awaits-nothing : (es : List Event) → IsBalanced es → in_items 0 es ≡ true → awaited_from Nothing es ≡ Nothing
awaits-nothing es empty h = refl
awaits-nothing es (span e f xs ys is en ex same bx by) h =
    ap (awaited_from Nothing) is
    ∙ ap (λ (a : Awaited). awaited_from a (xs ++ f ∷ ys)) (enter-nothing e en)
    ∙ from-append Nothing xs (f ∷ ys)
    ∙ ap (λ (a : Awaited). awaited_from a ys) (inside (same_name e.name name.ListItem) (same_name e.name name.ListItemPrefix) refl refl (awaits-nothing xs bx))
    ∙ awaits-nothing ys by rest
  where
    first : Bool
    first = not (enters name.ListItemPrefix e) || nat_lt 0 0

    all : (first ≡ true) × (in_items (items_behind 0 e) (xs ++ f ∷ ys) ≡ true)
    all = and_parts first (in_items (items_behind 0 e) (xs ++ f ∷ ys)) (subst (λ l. in_items 0 l ≡ true) is h)

    two : (in_items (items_behind 0 e) xs ≡ true) × (in_items (after (items_behind 0 e) xs) (f ∷ ys) ≡ true)
    two = in-append (items_behind 0 e) xs (f ∷ ys) all.1

    depth : after (items_behind 0 e) xs ≡ items_behind 0 e
    depth = after-balanced (items_behind 0 e) xs bx

    last : in_items (items_behind (after (items_behind 0 e) xs) f) ys ≡ true
    last = (and_parts (not (enters name.ListItemPrefix f) || nat_lt 0 (after (items_behind 0 e) xs)) (in_items (items_behind (after (items_behind 0 e) xs) f) ys) two.1).1

    rest : in_items 0 ys ≡ true
    rest = subst (λ n. in_items n ys ≡ true) (ap (λ n. items_behind n f) depth ∙ span-behind 0 e f en ex same) last

    inside : (t u : Bool) → same_name e.name name.ListItem ≡ t → same_name e.name name.ListItemPrefix ≡ u → (in_items 0 xs ≡ true → awaited_from Nothing xs ≡ Nothing) → awaited_behind (awaited_from Nothing xs) f ≡ Nothing
    inside true u t-is u-is more = item-exit (awaited_from Nothing xs) Exit name.ListItem refl refl f ex (same ∙ same_name-true e.name name.ListItem t-is) (open-over Nothing [] xs tt (names_after_balanced bx []))
    inside false true t-is u-is more =
        let prefix : enters name.ListItemPrefix e ≡ true = ap (λ k. is_enter k && same_name e.name name.ListItemPrefix) en ∙ u-is in
        absurd (false≢true (sym (ap (λ b. not b || nat_lt 0 0) prefix) ∙ all.0))
    inside false false t-is u-is more =
        let flat : items_behind 0 e ≡ 0 = ap (λ t. cond t (cond (is_enter e.kind) (0 + 1) (0 - 1)) 0) t-is in
        ap (λ (a : Awaited). awaited_behind a f) (more (subst (λ n. in_items n xs ≡ true) flat two.0)) ∙ other-nothing f (ap (λ n. same_name n name.ListItemPrefix) same ∙ u-is)
