-- Checks of two lists of events: those of the one, and of the other.
use Rattle.std.proofs.Common.{◌≡◌, ℕ, zero, suc, ◌+◌, ◌-◌, ◌<◌, ◌≤◌, ◌++◌, Bool, true, false, cond, List, [], ◌∷◌, length, drop, Option, Some, None, refl, sym, ap, subst, ◌∙◌, arith, ne_eqb}
use Rattle.std.proofs.lemmas.Bool.{and_parts, false≢true, not-true, or_left, or_right}
use Rattle.std.proofs.lemmas.List.{append_assoc}
use Rattle.std.specs.List.{list_any}
use Rattle.std.specs.Prelude.{◌==◌, ◌&&◌, ◌||◌, not, nat_le, option_map, IfSome, ⊤}
use Rattle.markdown_base.proofs.Facts.Kinds.{enter-is}
use Rattle.markdown_base.specs.declared.event.Event.{Event}
use Rattle.markdown_base.specs.declared.event.Kind.{Kind}
use Rattle.markdown_base.specs.declared.event.Kind.TheVariants.{Enter, Exit}
use Rattle.markdown_base.specs.declared.event.Name.{Name}
use Rattle.markdown_base.specs.declared.event.Name.TheVariants as name
use Rattle.markdown_base.specs.declared.event.Point.{Point}
use Rattle.markdown_base.specs.Events.{IsBalanced, is_enter, same_name}
use Rattle.markdown_base.specs.OpenNames.{names_after, names_after_all}
use Rattle.markdown_base.proofs.Balanced.{names_after_balanced, none_is_not_some, same_name-true}
use Rattle.mdblock_tables.specs.declared.tasks.Check.{Check}
use Rattle.mdblock_tables.specs.Tasks.{check_at}
use Rattle.mdgfm_events.specs.Spans.{span_end, span_size}
use Rattle.mdgfm_literals.proofs.Both.{end-both, size-both}
use Rattle.mdgfm_literals.proofs.Whole.{Ends}
use Rattle.mdgfm_literals.specs.Laws.{begins_block}
use Rattle.mdgfm_literals.specs.Stretches.{is_plain}
use Rattle.mdgfm_tasks.specs.declared.awaited.Awaited.{Awaited}
use Rattle.mdgfm_tasks.specs.declared.awaited.Awaited.TheVariants.{Nothing, Block, DefinitionEnd, Text}
use Rattle.mdgfm_tasks.specs.declared.checks.Covered.{Covered}
use Rattle.mdgfm_tasks.specs.declared.checks.Found.{Found}
use Rattle.mdgfm_tasks.specs.Awaits.{awaited_behind, awaited_next, enters, exits, is_passed}
use Rattle.mdgfm_tasks.specs.Checks.{check_of, data_over, found, is_data, line_from, linked, text_over, two_more}
use Rattle.mdgfm_tasks.specs.Laws.{awaited_from}
use Rattle.mdgfm_tasks.specs.TaskEvents.{check_events, events_with}
use Rattle.mdgfm_tasks.proofs.Covers.{Covers, found-covers}
use Rattle.mdgfm_tasks.proofs.Steps.{with-found}

-- all that is open is closed in the end
abbrev pub Closed : List Name → List Event → Type 0
Closed st es = names_after_all (Some st) es ≡ Some []

pub closed-balanced : (xs : List Event) → IsBalanced xs → Closed [] xs
closed-balanced xs b = names_after_balanced b []

-- so each span ends
abbrev EndsBehind : List Event → Type 0
EndsBehind es = (m : ℕ) (st : List Name) → Closed st es → m < length st → Ends m es

closed-ends : (n : ℕ) (st : List Name) (es : List Event) → Closed st es → n < length st → Ends n es
closed-ends n st [] c h = absurd (let none : Some st ≡ Some [] = c in let same : st ≡ [] = cc in let long = ap (λ (l : List Name). length l) same in omega (arith, long, h))
closed-ends n st (e ∷ es) c h = by (λ m st k less. closed-ends m st es k less) e.kind refl c
  where
    less-one : (n k : ℕ) → n < suc k → (n == 0) ≡ false → n - 1 < k
    less-one zero k h some = absurd (false≢true (sym some))
    less-one (suc n) k h some = omega (arith, h)

    behind : EndsBehind es → (st : List Name) (t : Bool) → n < suc (length st) → names_after_all (cond t (Some st) None) es ≡ Some [] → (n == 0) ≡ false → Ends (n - 1) es
    behind more st true h c some = more (n - 1) st c (less-one n (length st) h some)
    behind more st false h c some = none_is_not_some [] _ c

    exit : EndsBehind es → (st : List Name) → n < length st → names_after_all (names_after Exit e.name st) es ≡ Some [] → (n == 0) ≡ false → Ends (n - 1) es
    exit more [] h c some = absurd (omega (arith, h))
    exit more (m ∷ st) h c some = behind more st (same_name m e.name) h c some

    by : EndsBehind es → (k : Kind) → e.kind ≡ k → names_after_all (names_after k e.name st) es ≡ Some [] → (is_enter e.kind ≡ true → Ends (n + 1) es) × (is_enter e.kind ≡ false → (n == 0) ≡ false → Ends (n - 1) es)
    by more Enter q c = ((λ t. more (n + 1) (e.name ∷ st) c (omega (arith, h))), (λ isnt some. absurd (false≢true (sym isnt ∙ ap is_enter q))))
    by more Exit q c = ((λ t. absurd (false≢true (sym (ap is_enter q) ∙ t))), (λ isnt some. exit more st h c some))

-- ---- what has the bytes of a check is before others that begin with no text

-- no span of data begins with the first of them, and none ends there
no-data : (e f : Event) (zs : List Event) → begins_block (f ∷ zs) ≡ true → (is_data e f ≡ false) × (enters name.Data f ≡ false)
no-data e f zs h =
    let both = and_parts (is_enter f.kind) (not (is_plain f.name)) h in
    (by-kind f.kind both.0, by-name f.name (not-true (is_plain f.name) both.1))
  where
    by-kind : (k : Kind) → is_enter k ≡ true → (enters name.Data e && (not (is_enter k) && same_name f.name name.Data)) ≡ false
    by-kind Enter h = none (enters name.Data e)
      where
        none : (t : Bool) → (t && false) ≡ false
        none true = refl
        none false = refl
    by-kind Exit h = absurd (false≢true h)

    by-name : (n : Name) → is_plain n ≡ false → (is_enter f.kind && same_name n name.Data) ≡ false
    by-name n isnt = by (same_name n name.Data) isnt
      where
        none : (t : Bool) → (t && false) ≡ false
        none true = refl
        none false = refl

        by : (t : Bool) → (t || (same_name n name.CharacterReference || (same_name n name.CharacterEscape || false))) ≡ false → (is_enter f.kind && t) ≡ false
        by true h = absurd (false≢true (sym h))
        by false h = none (is_enter f.kind)

data-both : (at many : ℕ) (xs zs : List Event) → begins_block zs ≡ true → data_over at many (xs ++ zs) ≡ data_over at many xs
data-both at many [] [] h = refl
data-both at many [] (f ∷ []) h = refl
data-both at many [] (f ∷ g ∷ zs) h =
    ap (λ t. cond (t && exits name.Data g) (cond (nat_le many (g.point.index - at)) (Some (let v : Covered = record { size = 2; end = g.point } in v)) (option_map two_more (data_over at many zs))) None) (no-data f f (g ∷ zs) h).1
data-both at many (e ∷ []) [] h = refl
data-both at many (e ∷ []) (f ∷ zs) h =
    ap (λ t. cond t (cond (nat_le many (f.point.index - at)) (Some (let v : Covered = record { size = 2; end = f.point } in v)) (option_map two_more (data_over at many zs))) None) (no-data e f zs h).0
data-both at many (e ∷ f ∷ xs) zs h =
    ap (λ (o : Option Covered). cond (is_data e f) (cond (nat_le many (f.point.index - at)) (Some (let v : Covered = record { size = 2; end = f.point } in v)) (option_map two_more o)) None) (data-both at many xs zs h)

link-both : (at many : ℕ) (e : Event) (xs zs : List Event) → Ends 0 xs → linked at many e (xs ++ zs) ≡ linked at many e xs
link-both at many e xs zs h =
    ap (λ (q : Point). cond ((q.index - at) == many) (Some (let v : Covered = record { size = span_size 0 (xs ++ zs) + 1; end = q } in v)) None) (end-both e.point 0 xs zs h)
    ∙ ap (λ k. cond (((span_end e.point 0 xs).index - at) == many) (Some (let v : Covered = record { size = k + 1; end = span_end e.point 0 xs } in v)) None) (size-both 0 xs zs h)

-- behind an enter its span ends
ends-behind : (st : List Name) (e : Event) (es : List Event) → Closed st (e ∷ es) → is_enter e.kind ≡ true → Ends 0 es
ends-behind st e es c enter = closed-ends 0 (e.name ∷ st) es (ap (λ k. names_after_all (names_after k e.name st) es) (sym (enter-is e.kind enter)) ∙ c) (omega arith)

text-both : (at many : ℕ) (st : List Name) (e : Event) (xs zs : List Event) → Closed st (e ∷ xs) → begins_block zs ≡ true → text_over at many (e ∷ (xs ++ zs)) ≡ text_over at many (e ∷ xs)
text-both at many st e xs zs c h = by (enters name.Link e) refl
  where
    by : (t : Bool) → enters name.Link e ≡ t → cond t (linked at many e (xs ++ zs)) (data_over at many (e ∷ (xs ++ zs))) ≡ cond t (linked at many e xs) (data_over at many (e ∷ xs))
    by true q = link-both at many e xs zs (ends-behind st e xs c (and_parts (is_enter e.kind) (same_name e.name name.Link) q).0)
    by false q = data-both at many (e ∷ xs) zs h

check-both : (bytes : List ℕ) (a : Awaited) (st : List Name) (e : Event) (xs zs : List Event) → Closed st (e ∷ xs) → begins_block zs ≡ true → check_of bytes a (e ∷ (xs ++ zs)) ≡ check_of bytes a (e ∷ xs)
check-both bytes Nothing st e xs zs c h = refl
check-both bytes Block st e xs zs c h = refl
check-both bytes DefinitionEnd st e xs zs c h = refl
check-both bytes Text st e xs zs c h = by (check_at (line_from bytes e.point.index))
  where
    by : (o : Option Check) → elim o as (λ (_ : Option Check). Option Found) [ None ↦ None | Some check ↦ found check (text_over e.point.index (check.columns + 3) (e ∷ (xs ++ zs))) ]
        ≡ elim o as (λ (_ : Option Check). Option Found) [ None ↦ None | Some check ↦ found check (text_over e.point.index (check.columns + 3) (e ∷ xs)) ]
    by None = refl
    by (Some check) = ap (found check) (text-both e.point.index (check.columns + 3) st e xs zs c h)

-- ---- what is awaited behind events with checks

abbrev behind : (bytes : List ℕ) (skip : ℕ) → Awaited → List Event → Awaited
behind bytes skip a [] = a
behind bytes (suc skip) a (e ∷ es) = behind bytes skip a es
behind bytes zero a (e ∷ es) = elim (check_of bytes a (e ∷ es)) [
  | Some f ↦ behind bytes (f.text.size - 1) Nothing es
  | None ↦ behind bytes 0 (awaited_behind a e) es
]

-- by the check that is found there
abbrev behind_found : (bytes : List ℕ) → Awaited → Event → List Event → Option Found → Awaited
behind_found bytes a e es o = elim o [ Some f ↦ behind bytes (f.text.size - 1) Nothing es | None ↦ behind bytes 0 (awaited_behind a e) es ]

-- a definition that was entered, and is to end, is open
abbrev pub IsOpen : Awaited → List Name → Type 0
IsOpen DefinitionEnd inner = list_any (same_name name.Definition) inner ≡ true
IsOpen Nothing inner = ⊤
IsOpen Block inner = ⊤
IsOpen Text inner = ⊤

-- the same name, the other way round
turned : (m n : Name) → same_name m n ≡ true → n ≡ m
turned m n h = sym (same_name-true m n h)

same-itself : (n m : Name) → n ≡ m → same_name m m ≡ true → same_name m n ≡ true
same-itself n m e h = subst (λ x. same_name m x ≡ true) (sym e) h

pub open-enter : (a : Awaited) (e : Event) (inner : List Name) → e.kind ≡ Enter → IsOpen a inner → IsOpen (awaited_behind a e) (e.name ∷ inner)
open-enter a e inner q h = subst (λ (x : Awaited). IsOpen x (e.name ∷ inner)) (sym (ap (λ k. cond (not (is_enter k) && same_name e.name name.ListItemPrefix) Block (awaited_next a e)) q)) (next a h)
  where
    begun : (t u v : Bool) → enters name.Definition e ≡ u → IsOpen (cond t Block (cond u DefinitionEnd (cond v Text Nothing))) (e.name ∷ inner)
    begun true u v p = tt
    begun false true v p =
        let same : e.name ≡ name.Definition = same_name-true e.name name.Definition (and_parts (is_enter e.kind) (same_name e.name name.Definition) p).1 in
        or_left (same_name name.Definition e.name) (list_any (same_name name.Definition) inner) (same-itself e.name name.Definition same refl)
    begun false false true p = tt
    begun false false false p = tt

    ended : (t : Bool) → list_any (same_name name.Definition) inner ≡ true → IsOpen (cond t Block DefinitionEnd) (e.name ∷ inner)
    ended true h = tt
    ended false h = or_right (same_name name.Definition e.name) (list_any (same_name name.Definition) inner) h

    white : (t : Bool) → IsOpen (cond t Text Nothing) (e.name ∷ inner)
    white true = tt
    white false = tt

    next : (a : Awaited) → IsOpen a inner → IsOpen (awaited_next a e) (e.name ∷ inner)
    next Nothing h = tt
    next Block h = begun (is_passed e.name) (enters name.Definition e) (enters name.Paragraph e) refl
    next DefinitionEnd h = ended (exits name.Definition e) h
    next Text h = white (same_name e.name name.SpaceOrTab)

pub open-exit : (a : Awaited) (e : Event) (m : Name) (inner : List Name) → e.kind ≡ Exit → e.name ≡ m → IsOpen a (m ∷ inner) → IsOpen (awaited_behind a e) inner
open-exit a e m inner q is h = by (exits name.ListItemPrefix e)
  where
    begun : (t u v : Bool) → enters name.Definition e ≡ u → IsOpen (cond t Block (cond u DefinitionEnd (cond v Text Nothing))) inner
    begun true u v p = tt
    begun false true v p = absurd (false≢true (sym (ap is_enter q) ∙ (and_parts (is_enter e.kind) (same_name e.name name.Definition) p).0))
    begun false false true p = tt
    begun false false false p = tt

    other : (t u : Bool) → (t || u) ≡ true → t ≡ false → u ≡ true
    other true u h k = absurd (false≢true (sym k))
    other false u h k = h

    ended : (t : Bool) → exits name.Definition e ≡ t → list_any (same_name name.Definition) (m ∷ inner) ≡ true → IsOpen (cond t Block DefinitionEnd) inner
    ended true p h = tt
    ended false p h = other (same_name name.Definition m) (list_any (same_name name.Definition) inner) h (no-name (same_name name.Definition m) refl)
      where
        no-name : (t : Bool) → same_name name.Definition m ≡ t → t ≡ false
        no-name false k = refl
        no-name true k =
            let same : m ≡ name.Definition = turned name.Definition m k in
            absurd (false≢true (sym p ∙ ap (λ x. not (is_enter x) && same_name e.name name.Definition) q ∙ ap (λ x. same_name x name.Definition) (is ∙ same)))

    white : (t : Bool) → IsOpen (cond t Text Nothing) inner
    white true = tt
    white false = tt

    next : (a : Awaited) → IsOpen a (m ∷ inner) → IsOpen (awaited_next a e) inner
    next Nothing h = tt
    next Block h = begun (is_passed e.name) (enters name.Definition e) (enters name.Paragraph e) refl
    next DefinitionEnd h = ended (exits name.Definition e) refl h
    next Text h = white (same_name e.name name.SpaceOrTab)

    by : (t : Bool) → IsOpen (cond t Block (awaited_next a e)) inner
    by true = tt
    by false = next a h

-- where nothing is awaited, nothing is behind an event other than a prefix of an item
pub other-nothing : (e : Event) → same_name e.name name.ListItemPrefix ≡ false → awaited_behind Nothing e ≡ Nothing
other-nothing e h = ap (λ t. cond (not (is_enter e.kind) && t) Block Nothing) h ∙ none (not (is_enter e.kind))
  where
    none : (t : Bool) → cond (t && false) Block Nothing ≡ Nothing
    none true = refl
    none false = refl

-- behind the exit of a link nothing is awaited
link-exit : (a : Awaited) (e : Event) → e.kind ≡ Exit → e.name ≡ name.Link → IsOpen a [] → awaited_behind a e ≡ Nothing
link-exit Nothing e q is h = other-nothing e (ap (λ n. same_name n name.ListItemPrefix) is)
link-exit Block e q is h = by e.kind e.name q is
  where
    by : (k : Kind) (n : Name) → k ≡ Exit → n ≡ name.Link
        → cond (not (is_enter k) && same_name n name.ListItemPrefix) Block (cond (is_passed n) Block (cond (is_enter k && same_name n name.Definition) DefinitionEnd (cond (is_enter k && same_name n name.Paragraph) Text Nothing))) ≡ Nothing
    by k n q is =
        ap (λ k. cond (not (is_enter k) && same_name n name.ListItemPrefix) Block (cond (is_passed n) Block (cond (is_enter k && same_name n name.Definition) DefinitionEnd (cond (is_enter k && same_name n name.Paragraph) Text Nothing)))) q
        ∙ ap (λ n. cond (same_name n name.ListItemPrefix) Block (cond (is_passed n) Block Nothing)) is
link-exit DefinitionEnd e q is h = absurd (false≢true h)
link-exit Text e q is h =
    ap (λ k. cond (not (is_enter k) && same_name e.name name.ListItemPrefix) Block (cond (same_name e.name name.SpaceOrTab) Text Nothing)) q
    ∙ ap (λ n. cond (same_name n name.ListItemPrefix) Block (cond (same_name n name.SpaceOrTab) Text Nothing)) is

-- so behind a link
abbrev LinkOver : List Name → List Event → Type 0
LinkOver st es = (inner : List Name) (m : ℕ) (b : Awaited) → length inner ≡ m → IsOpen b inner → Closed (inner ++ name.Link ∷ st) es → awaited_from b es ≡ awaited_from Nothing (drop (span_size m es) es)

link-over : (inner st : List Name) (n : ℕ) (a : Awaited) (es : List Event) → length inner ≡ n → IsOpen a inner → Closed (inner ++ name.Link ∷ st) es → awaited_from a es ≡ awaited_from Nothing (drop (span_size n es) es)
link-over inner st n a [] long h c = absurd (no-names inner c)
  where
    no-names : (inner : List Name) → Some (inner ++ name.Link ∷ st) ≡ Some [] → ⊥
    no-names [] c = (cc)
    no-names (m ∷ inner) c = (cc)
link-over inner st n a (e ∷ es) long h c = by (λ inner m b long h c. link-over inner st m b es long h c) e.kind refl c
  where
    one : (k : ℕ) → awaited_from Nothing (drop k es) ≡ awaited_from Nothing (drop (k + 1) (e ∷ es))
    one k = let z : k + 1 ≡ suc k = omega arith in sym (ap (λ i. awaited_from Nothing (drop i (e ∷ es))) z)

    last : (t : Bool) → n ≡ 0 → e.kind ≡ Exit → same_name name.Link e.name ≡ t → IsOpen a [] → names_after_all (cond t (Some st) None) es ≡ Some []
        → awaited_from (awaited_behind a e) es ≡ awaited_from Nothing (drop (cond (n == 0) 1 (span_size (n - 1) es + 1)) (e ∷ es))
    last false long q is h c = none_is_not_some [] _ c
    last true long q is h c =
        ap (λ (x : Awaited). awaited_from x es) (link-exit a e q (turned name.Link e.name is) h)
        ∙ sym (ap (λ t. awaited_from Nothing (drop (cond t 1 (span_size (n - 1) es + 1)) (e ∷ es))) (ap (λ i. i == 0) long))

    inside : LinkOver st es → (m : Name) (inner : List Name) (t : Bool) → suc (length inner) ≡ n → e.kind ≡ Exit → same_name m e.name ≡ t → IsOpen a (m ∷ inner) → names_after_all (cond t (Some (inner ++ name.Link ∷ st)) None) es ≡ Some []
        → awaited_from (awaited_behind a e) es ≡ awaited_from Nothing (drop (cond (n == 0) 1 (span_size (n - 1) es + 1)) (e ∷ es))
    inside more m inner false long q is h c = none_is_not_some [] _ c
    inside more m inner true long q is h c =
        let other : (n == 0) ≡ false = ne_eqb n 0 (λ z. omega (arith, z, long)) in
        more inner (n - 1) (awaited_behind a e) (omega (arith, long)) (open-exit a e m inner q (turned m e.name is) h) c
        ∙ one (span_size (n - 1) es)
        ∙ sym (ap (λ t. awaited_from Nothing (drop (cond t 1 (span_size (n - 1) es + 1)) (e ∷ es))) other)

    closed : LinkOver st es → (inner : List Name) → length inner ≡ n → IsOpen a inner → e.kind ≡ Exit → names_after_all (names_after Exit e.name (inner ++ name.Link ∷ st)) es ≡ Some []
        → awaited_from (awaited_behind a e) es ≡ awaited_from Nothing (drop (cond (n == 0) 1 (span_size (n - 1) es + 1)) (e ∷ es))
    closed more [] long h q c = last (same_name name.Link e.name) (sym long) q refl h c
    closed more (m ∷ inner) long h q c = inside more m inner (same_name m e.name) long q refl h c

    by : LinkOver st es → (k : Kind) → e.kind ≡ k → names_after_all (names_after k e.name (inner ++ name.Link ∷ st)) es ≡ Some [] → awaited_from (awaited_behind a e) es ≡ awaited_from Nothing (drop (span_size n (e ∷ es)) (e ∷ es))
    by more Enter q c =
        more (e.name ∷ inner) (n + 1) (awaited_behind a e) (omega (arith, long)) (open-enter a e inner q h) c
        ∙ one (span_size (n + 1) es)
        ∙ sym (ap (λ x. awaited_from Nothing (drop (cond (is_enter x) (span_size (n + 1) es + 1) (cond (n == 0) 1 (span_size (n - 1) es + 1))) (e ∷ es))) q)
    by more Exit q c =
        closed more inner long h q c
        ∙ sym (ap (λ x. awaited_from Nothing (drop (cond (is_enter x) (span_size (n + 1) es + 1) (cond (n == 0) 1 (span_size (n - 1) es + 1))) (e ∷ es))) q)

-- behind data
data-event : (a : Awaited) (e : Event) → a ≡ Nothing → e.name ≡ name.Data → awaited_behind a e ≡ Nothing
data-event a e is data_is = ap (λ (x : Awaited). awaited_behind x e) is ∙ other-nothing e (ap (λ n. same_name n name.ListItemPrefix) data_is)

data-names : (e f : Event) → is_data e f ≡ true → (e.name ≡ name.Data) × (f.name ≡ name.Data)
data-names e f h =
    let two = and_parts (enters name.Data e) (exits name.Data f) h in
    (same_name-true e.name name.Data (and_parts (is_enter e.kind) (same_name e.name name.Data) two.0).1, same_name-true f.name name.Data (and_parts (not (is_enter f.kind)) (same_name f.name name.Data) two.1).1)

-- what is awaited behind what has the bytes of a check
record IsPassed (es : List Event) (c : Covered) : Type 0 where
  least : 1 ≤ c.size
  awaits : awaited_from Nothing es ≡ awaited_from Nothing (drop c.size es)

data-passed : (at many : ℕ) (es : List Event) → IfSome (data_over at many es) (IsPassed es)
data-passed at many [] = tt
data-passed at many (e ∷ []) = tt
data-passed at many (e ∷ f ∷ es) = by (is_data e f) (nat_le many (f.point.index - at)) refl (data_over at many es) (data-passed at many es)
  where
    two : is_data e f ≡ true → awaited_from Nothing (e ∷ f ∷ es) ≡ awaited_from Nothing es
    two h = let names = data-names e f h in ap (λ (x : Awaited). awaited_from (awaited_behind x f) es) (data-event Nothing e refl names.0) ∙ ap (λ (x : Awaited). awaited_from x es) (data-event Nothing f refl names.1)

    by : (t u : Bool) → is_data e f ≡ t → (o : Option Covered) → IfSome o (IsPassed es)
        → IfSome (cond t (cond u (Some (let v : Covered = record { size = 2; end = f.point } in v)) (option_map two_more o)) None) (IsPassed (e ∷ f ∷ es))
    by false u h o more = tt
    by true true h o more = record { least = omega arith; awaits = two h }
    by true false h None more = tt
    by true false h (Some c) more =
        let sum : c.size + 2 ≡ suc (suc c.size) = omega arith in
        record { least = omega arith; awaits = two h ∙ more.awaits ∙ sym (ap (λ n. awaited_from Nothing (drop n (e ∷ f ∷ es))) sum) }

link-passed : (at many : ℕ) (st : List Name) (e : Event) (es : List Event) → enters name.Link e ≡ true → Closed st (e ∷ es) → IfSome (linked at many e es) (IsPassed (e ∷ es))
link-passed at many st e es enter c = by (((span_end e.point 0 es).index - at) == many)
  where
    is : (is_enter e.kind ≡ true) × (same_name e.name name.Link ≡ true)
    is = and_parts (is_enter e.kind) (same_name e.name name.Link) enter

    named : e.name ≡ name.Link
    named = same_name-true e.name name.Link is.1

    inside : Closed (name.Link ∷ st) es
    inside = sym (ap (λ n. names_after_all (Some (n ∷ st)) es) named) ∙ ap (λ k. names_after_all (names_after k e.name st) es) (sym (enter-is e.kind is.0)) ∙ c

    first : awaited_behind Nothing e ≡ Nothing
    first = ap (λ k. cond (not (is_enter k) && same_name e.name name.ListItemPrefix) Block Nothing) (enter-is e.kind is.0)

    by : (t : Bool) → IfSome (cond t (Some (let v : Covered = record { size = span_size 0 es + 1; end = span_end e.point 0 es } in v)) None) (IsPassed (e ∷ es))
    by false = tt
    by true =
        let sum : span_size 0 es + 1 ≡ suc (span_size 0 es) = omega arith in
        record {
          least = omega arith;
          awaits = ap (λ (x : Awaited). awaited_from x es) first ∙ link-over [] st 0 Nothing es refl tt inside ∙ sym (ap (λ n. awaited_from Nothing (drop n (e ∷ es))) sum);
        }

text-passed : (at many : ℕ) (st : List Name) (e : Event) (es : List Event) → Closed st (e ∷ es) → IfSome (text_over at many (e ∷ es)) (IsPassed (e ∷ es))
text-passed at many st e es c = by (enters name.Link e) refl
  where
    by : (t : Bool) → enters name.Link e ≡ t → IfSome (cond t (linked at many e es) (data_over at many (e ∷ es))) (IsPassed (e ∷ es))
    by true q = link-passed at many st e es q c
    by false q = data-passed at many (e ∷ es)

-- the first event is as where nothing is awaited: it is that of data or of a link
text-first : (at many : ℕ) (e : Event) (es : List Event) → IfSome (text_over at many (e ∷ es)) (λ c. awaited_behind Text e ≡ awaited_behind Nothing e)
text-first at many e es = by (enters name.Link e) refl
  where
    same : (n : Name) → e.name ≡ n → same_name n name.SpaceOrTab ≡ false → awaited_behind Text e ≡ awaited_behind Nothing e
    same n is h = ap (λ t. cond (exits name.ListItemPrefix e) Block (cond t Text Nothing)) (ap (λ m. same_name m name.SpaceOrTab) is ∙ h)

    in_data : (es : List Event) → IfSome (data_over at many (e ∷ es)) (λ c. awaited_behind Text e ≡ awaited_behind Nothing e)
    in_data [] = tt
    in_data (f ∷ es) = pair (is_data e f) refl (cond (nat_le many (f.point.index - at)) (Some (let v : Covered = record { size = 2; end = f.point } in v)) (option_map two_more (data_over at many es)))
      where
        always : (o : Option Covered) → awaited_behind Text e ≡ awaited_behind Nothing e → IfSome o (λ c. awaited_behind Text e ≡ awaited_behind Nothing e)
        always None h = tt
        always (Some c) h = h

        pair : (t : Bool) → is_data e f ≡ t → (o : Option Covered) → IfSome (cond t o None) (λ c. awaited_behind Text e ≡ awaited_behind Nothing e)
        pair false q o = tt
        pair true q o = always o (same name.Data (data-names e f q).0 refl)

    in_link : (t : Bool) (c : Covered) → enters name.Link e ≡ true → IfSome (cond t (Some c) None) (λ c. awaited_behind Text e ≡ awaited_behind Nothing e)
    in_link false c q = tt
    in_link true c q = same name.Link (same_name-true e.name name.Link (and_parts (is_enter e.kind) (same_name e.name name.Link) q).1) refl

    by : (t : Bool) → enters name.Link e ≡ t → IfSome (cond t (linked at many e es) (data_over at many (e ∷ es))) (λ c. awaited_behind Text e ≡ awaited_behind Nothing e)
    by true q = in_link (((span_end e.point 0 es).index - at) == many) (record { size = span_size 0 es + 1; end = span_end e.point 0 es }) q
    by false q = in_data es

-- so behind a check as behind the text that it covers
check-passed : (bytes : List ℕ) (a : Awaited) (st : List Name) (e : Event) (es : List Event) → Closed st (e ∷ es) → IfSome (check_of bytes a (e ∷ es)) (λ f. awaited_from (awaited_behind a e) es ≡ awaited_from Nothing (drop (f.text.size - 1) es))
check-passed bytes Nothing st e es c = tt
check-passed bytes Block st e es c = tt
check-passed bytes DefinitionEnd st e es c = tt
check-passed bytes Text st e es c = by (check_at (line_from bytes e.point.index))
  where
    in_text : (check : Check) (o : Option Covered) → IfSome o (IsPassed (e ∷ es)) → IfSome o (λ c. awaited_behind Text e ≡ awaited_behind Nothing e)
        → IfSome (found check o) (λ f. awaited_from (awaited_behind Text e) es ≡ awaited_from Nothing (drop (f.text.size - 1) es))
    in_text check None h k = tt
    in_text check (Some c) h k =
        let some = h.least in
        let one : c.size ≡ suc (c.size - 1) = omega (arith, some) in
        ap (λ (x : Awaited). awaited_from x es) k ∙ h.awaits ∙ ap (λ n. awaited_from Nothing (drop n (e ∷ es))) one

    by : (o : Option Check) → IfSome (elim o as (λ (_ : Option Check). Option Found) [ None ↦ None | Some check ↦ found check (text_over e.point.index (check.columns + 3) (e ∷ es)) ])
        (λ f. awaited_from (awaited_behind Text e) es ≡ awaited_from Nothing (drop (f.text.size - 1) es))
    by None = tt
    by (Some check) = in_text check (text_over e.point.index (check.columns + 3) (e ∷ es)) (text-passed e.point.index (check.columns + 3) st e es c) (text-first e.point.index (check.columns + 3) e es)

-- what is closed behind the text that a check covers
closed-rest : (st : List Name) (e : Event) (es : List Event) (f : Found) → Covers e.point.index (f.check.columns + 3) (e ∷ es) f.text → Closed st (e ∷ es) → Closed st (drop (f.text.size - 1) es)
closed-rest st e es f k c = let some = k.least in let one : f.text.size ≡ suc (f.text.size - 1) = omega (arith, some) in ap (λ n. names_after_all (Some st) (drop n (e ∷ es))) (sym one) ∙ k.names st c

behind-is : (bytes : List ℕ) (skip : ℕ) (a : Awaited) (o : Option (List Name)) (es : List Event) → names_after_all o (drop skip es) ≡ Some [] → behind bytes skip a es ≡ awaited_from a (drop skip es)
behind-is bytes skip a None es c = none_is_not_some [] _ c
behind-is bytes zero a (Some st) [] c = refl
behind-is bytes (suc skip) a (Some st) [] c = refl
behind-is bytes (suc skip) a (Some st) (e ∷ es) c = behind-is bytes skip a (Some st) es c
behind-is bytes zero a (Some st) (e ∷ es) c =
    by (λ skip b o k. behind-is bytes skip b o es k) (check_of bytes a (e ∷ es)) refl (found-covers bytes a e es) (check-passed bytes a st e es c)
  where
    by : ((skip : ℕ) (b : Awaited) (o : Option (List Name)) → names_after_all o (drop skip es) ≡ Some [] → behind bytes skip b es ≡ awaited_from b (drop skip es))
        → (o : Option Found) → check_of bytes a (e ∷ es) ≡ o → IfSome o (λ f. Covers e.point.index (f.check.columns + 3) (e ∷ es) f.text)
        → IfSome o (λ f. awaited_from (awaited_behind a e) es ≡ awaited_from Nothing (drop (f.text.size - 1) es)) → behind bytes 0 a (e ∷ es) ≡ awaited_from (awaited_behind a e) es
    by inner None q k l = ap (behind_found bytes a e es) q ∙ inner 0 (awaited_behind a e) (names_after e.kind e.name st) c
    by inner (Some f) q k l = ap (behind_found bytes a e es) q ∙ inner (f.text.size - 1) Nothing (Some st) (closed-rest st e es f k c) ∙ sym l

-- ---- events with checks, of both

module _ (tab : ℕ) (bytes : List ℕ) where
  with-both : (skip : ℕ) (a : Awaited) (o : Option (List Name)) (xs zs : List Event) → skip ≤ length xs → names_after_all o (drop skip xs) ≡ Some [] → begins_block zs ≡ true
      → events_with tab bytes skip a (xs ++ zs) ≡ events_with tab bytes skip a xs ++ events_with tab bytes 0 (behind bytes skip a xs) zs
  with-both skip a None xs zs fits c h = none_is_not_some [] _ c
  with-both zero a (Some st) [] zs fits c h = refl
  with-both (suc skip) a (Some st) [] zs fits c h = absurd (omega (arith, fits))
  with-both (suc skip) a (Some st) (e ∷ xs) zs fits c h = with-both skip a (Some st) xs zs (omega (arith, fits)) c h
  with-both zero a (Some st) (e ∷ xs) zs fits c h =
      by (λ skip b o fits k. with-both skip b o xs zs fits k h) (check_of bytes a (e ∷ xs)) refl (found-covers bytes a e xs) (check-both bytes a st e xs zs c h)
    where
      by : ((skip : ℕ) (b : Awaited) (o : Option (List Name)) → skip ≤ length xs → names_after_all o (drop skip xs) ≡ Some []
          → events_with tab bytes skip b (xs ++ zs) ≡ events_with tab bytes skip b xs ++ events_with tab bytes 0 (behind bytes skip b xs) zs)
          → (o : Option Found) → check_of bytes a (e ∷ xs) ≡ o → IfSome o (λ f. Covers e.point.index (f.check.columns + 3) (e ∷ xs) f.text) → check_of bytes a (e ∷ (xs ++ zs)) ≡ check_of bytes a (e ∷ xs)
          → events_with tab bytes 0 a (e ∷ (xs ++ zs)) ≡ events_with tab bytes 0 a (e ∷ xs) ++ events_with tab bytes 0 (behind bytes 0 a (e ∷ xs)) zs
      by inner None q k same =
          with-found tab bytes a e (xs ++ zs) None (same ∙ q)
          ∙ ap (λ (ts : List Event). e ∷ ts) (inner 0 (awaited_behind a e) (names_after e.kind e.name st) (omega arith) c)
          ∙ sym (λ i. with-found tab bytes a e xs None q i ++ events_with tab bytes 0 (ap (behind_found bytes a e xs) q i) zs)
      by inner (Some f) q k same =
          let check = check_events tab bytes e.point f in
          let skip = f.text.size - 1 in
          let most = k.most in
          let low : skip ≤ length xs = omega (arith, most) in
          with-found tab bytes a e (xs ++ zs) (Some f) (same ∙ q)
          ∙ ap (λ (ts : List Event). check ++ ts) (inner skip Nothing (Some st) low (closed-rest st e xs f k c))
          ∙ sym (append_assoc check (events_with tab bytes skip Nothing xs) (events_with tab bytes 0 (behind bytes skip Nothing xs) zs))
          ∙ sym (λ i. with-found tab bytes a e xs (Some f) q i ++ events_with tab bytes 0 (ap (behind_found bytes a e xs) q i) zs)

  -- of balanced events behind which nothing is awaited, and of others that begin with no text
  pub tasks-both : (xs zs : List Event) → IsBalanced xs → awaited_from Nothing xs ≡ Nothing → begins_block zs ≡ true
      → events_with tab bytes 0 Nothing (xs ++ zs) ≡ events_with tab bytes 0 Nothing xs ++ events_with tab bytes 0 Nothing zs
  tasks-both xs zs b calm h =
      let c = closed-balanced xs b in
      with-both 0 Nothing (Some []) xs zs (omega arith) c h
      ∙ ap (λ (a : Awaited). events_with tab bytes 0 Nothing xs ++ events_with tab bytes 0 a zs) (behind-is bytes 0 Nothing (Some []) xs c ∙ calm)
