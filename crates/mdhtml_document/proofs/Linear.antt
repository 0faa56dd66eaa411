-- The HTML of a document is in proportion to it: events that go forward have no more room than the document has bytes, and no definition says more than
-- it has room for.
use Rattle.std.proofs.Common.{◌≡◌, ℕ, suc, ◌+◌, ◌-◌, ◌*◌, ◌<◌, ◌≤◌, List, [], ◌∷◌, ◌++◌, length, take, drop, ap, sym, refl, subst, ◌∙◌, arith, Option, None, Some}
use Rattle.std.proofs.lemmas.Bool.{and_parts}
use Rattle.std.proofs.lemmas.Bool.Decides.{nat_tests}
use Rattle.std.proofs.lemmas.List.{append-nil, drop_at, length-append, length-drop, length-take-le}
use Rattle.std.specs.Option.{option_map_or}
use Rattle.std.specs.Prelude.{zero, max, nat_lt, Bool, true, false, cond, option_and_then, option_map}
use native.Mathlib.Nat.{suc-mul}
use Rattle.markdown_base.specs.declared.event.Event.{Event}
use Rattle.markdown_base.specs.declared.event.Kind.{Kind}
use Rattle.markdown_base.specs.declared.event.Kind.TheVariants.{Enter, Exit}
use Rattle.markdown_base.specs.declared.event.Name.{Name}
use Rattle.markdown_base.specs.declared.event.Name.TheVariants as name
use Rattle.markdown_base.specs.Events.{IsBalanced, is_enter, same_name}
use Rattle.markdown_base.proofs.Facts.Kinds.{enter-is}
use Rattle.mddocument_link_targets.specs.declared.strings.Reading.TheVariants.{Decoded}
use Rattle.mddocument_link_targets.specs.declared.targets.Parts.{Parts}
use Rattle.mddocument_link_targets.specs.declared.targets.Target.{Target}
use Rattle.mddocument_link_targets.specs.declared.targets.Target.TheVariants as target
use Rattle.mddocument_link_targets.specs.Spans.{behind_first, enters, first_in, inside, size_from}
use Rattle.mddocument_link_targets.specs.Strings.{decoded, given_at, text}
use Rattle.mddocument_link_targets.specs.Targets.{definition_of, definition_parts, parts_of, string_in, target_in}
use Rattle.mdhtml_document.specs.declared.names.Inline.{Inline}
use Rattle.mdhtml_document.specs.declared.names.Inline.TheVariants as inline
use Rattle.mdhtml_document.specs.Html.{are_too_many, defined_in, extent, known_in, referred, references, size_of_label, size_of_target}
use Rattle.mdhtml_document.specs.Notes.{place_of_first}
use Rattle.mdhtml_document.specs.HtmlLaws.{GoForward, HtmlIsLinear, length_of_parts, room}
use Rattle.mdhtml_document.specs.Names.{inline_of}
use Rattle.mdhtml_document.specs.Spans.{Nothing, Span, Spans, events_of, spans_of}
use Rattle.mddocument_link_targets.proofs.SpanEnds.{at_end}
use Rattle.mdhtml_document.proofs.Both.{keep-events}
use Rattle.mdhtml_document.proofs.Rooms.{given-full, through}
use Rattle.mdhtml_document.proofs.Short.{html-short}
use Rattle.mdhtml_document.proofs.SpanFacts.{AreKinded, opened-kinded, passed-size, span-append}

-- ---- room

pub none-there : (f : Event) (rest : List Event) → [] ≡ f ∷ rest → ⊥
none-there f rest e = cc

module _ (tab most : ℕ) where
  room-by : (e : Event) (es : List Event) → e.point.index ≤ most → GoForward tab most e.point.index es
      → 36 * room tab (e ∷ es) + 24 * length (e ∷ es) ≤ 144 * (most - e.point.index) + length (e ∷ es) * (180 * tab + 60)
  room-by e [] h g = let k = suc-mul 0 (180 * tab + 60) in omega (arith, k)
  room-by e (f ∷ fs) h g =
      let after = g.0 in
      let inside = g.1 in
      let spaces = g.2 in
      let rest = room-by f fs g.1 g.4 in
      let k = suc-mul (length (f ∷ fs)) (180 * tab + 60) in
      omega (arith, h, after, inside, spaces, rest, k)

  room-forward : (es : List Event) → GoForward tab most 0 es → 36 * room tab es + 24 * length es ≤ 144 * most + length es * (180 * tab + 60)
  room-forward [] g = omega arith
  room-forward (e ∷ es) g = let h = room-by e es g.1 g.4 in omega (arith, h)

  -- events behind others
  record Forward (es : List Event) : Type 0 where
    from : ℕ
    go : GoForward tab most from es

  forward-drop : (n from : ℕ) (es : List Event) → GoForward tab most from es → Forward (drop n es)
  forward-drop zero from es g = record { from = from; go = g }
  forward-drop (suc n) from [] g = record { from = from; go = tt }
  forward-drop (suc n) from (e ∷ es) g = forward-drop n e.point.index es g.4

  -- no event is before an earlier one
  later : (n from : ℕ) (es rest : List Event) (f : Event) → GoForward tab most from es → drop n es ≡ f ∷ rest → from ≤ f.point.index
  later zero from [] rest f g h = absurd (none-there f rest h)
  later zero from (e ∷ es) rest f g h = subst (λ (n : ℕ). from ≤ n) (ap place_of_first h) g.0
  later (suc n) from [] rest f g h = absurd (none-there f rest h)
  later (suc n) from (e ∷ es) rest f g h = let below = later n e.point.index es rest f g.4 h in let first = g.0 in omega (arith, below, first)

  first-later : (n from : ℕ) (es rest : List Event) (f : Event) → GoForward tab most from es → drop n es ≡ f ∷ rest → from ≤ place_of_first es
  first-later zero from [] rest f g h = absurd (none-there f rest h)
  first-later (suc n) from [] rest f g h = absurd (none-there f rest h)
  first-later n from (e ∷ es) rest f g h = g.0

-- ---- texts

module _ (bytes : List ℕ) where
  given-take : (n : ℕ) (e : Event) (es : List Event) → length (given_at bytes Decoded e (take n es)) ≤ length (given_at bytes Decoded e es)
  given-take zero e es = omega arith
  given-take (suc n) e [] = omega arith
  given-take (suc n) e (f ∷ fs) = omega arith

  abbrev pub said_in : List Event → ℕ
  said_in es = length (text bytes Decoded es)

  pub text-more : (e : Event) (es : List Event) → said_in (e ∷ es) ≡ length (given_at bytes Decoded e es) + said_in es
  text-more e es = length-append (given_at bytes Decoded e es) (text bytes Decoded es)

  text-take : (n : ℕ) (es : List Event) → said_in (take n es) ≤ said_in es
  text-take zero es = omega arith
  text-take (suc n) [] = omega arith
  text-take (suc n) (e ∷ es) =
      let a = text-more e (take n es) in
      let b = text-more e es in
      let here = given-take n e es in
      let rest = text-take n es in
      omega (arith, a, b, here, rest)

  abbrev said_of : Option (List Event) → ℕ
  said_of None = 0
  said_of (Some es) = said_in es

  said-cond : (c : Bool) (xs : List Event) (o : Option (List Event)) (n : ℕ) → said_in xs ≤ n → said_of o ≤ n → said_of (cond c (Some xs) o) ≤ n
  said-cond true xs o n h k = h
  said-cond false xs o n h k = k

  text-first : (n : Name) (es : List Event) → said_of (first_in n es) ≤ said_in es
  text-first n [] = omega arith
  text-first n (e ∷ es) =
      let more = text-more e es in
      let here = text-take (size_from 0 es) es in
      let rest = text-first n es in
      said-cond (enters n e) (inside es) (first_in n es) (said_in (e ∷ es)) (omega (arith, more, here)) (omega (arith, more, rest))

  string-by : (o : Option (List Event)) → length (elim o as (λ (_ : Option (List Event)). List ℕ) [ None ↦ [] | Some string ↦ decoded bytes string ]) ≤ said_of o
  string-by None = omega arith
  string-by (Some es) = omega arith

  string-said : (n : Name) (es : List Event) → length (string_in bytes n es) ≤ said_in es
  string-said n es = through _ _ _ (string-by (first_in n es)) (text-first n es)

  title-by : (n : Name) (o : Option (List Event)) → option_map_or length (option_map (string_in bytes n) o) 0 ≤ said_of o
  title-by n None = omega arith
  title-by n (Some es) = string-said n es

  title-said : (t n : Name) (es : List Event) → option_map_or length (option_map (string_in bytes n) (first_in t es)) 0 ≤ said_in es
  title-said t n es = through _ _ _ (title-by n (first_in t es)) (text-first t es)

  pub parts-said : (es : List Event) → length_of_parts (Some (definition_parts bytes es)) ≤ 2 * said_in es
  parts-said es =
      let d = string-said name.DefinitionDestinationString es in
      let t = title-said name.DefinitionTitle name.DefinitionTitleString es in
      omega (arith, d, t)

  -- the text of events that go forward is at most four times as long as the way that they go
  text-forward : (tab most n from : ℕ) (es rest : List Event) (f : Event) → GoForward tab most from es → drop n es ≡ f ∷ rest
      → said_in (take n es) + 4 * place_of_first es ≤ 4 * f.point.index
  text-forward tab most zero from [] rest f g h = absurd (none-there f rest h)
  text-forward tab most zero from (e ∷ es) rest f g h = let same = ap place_of_first h in omega (arith, same)
  text-forward tab most (suc n) from [] rest f g h = absurd (none-there f rest h)
  text-forward tab most (suc zero) from (e ∷ es) rest f g h =
      let more = text-more e [] in
      let first = later tab most zero e.point.index es rest f g.4 h in
      omega (arith, more, first)
  text-forward tab most (suc (suc n)) from (e ∷ []) rest f g h = absurd (none-there f rest h)
  text-forward tab most (suc (suc n)) from (e ∷ (d ∷ ds)) rest f g h =
      let more = text-more e (take (suc n) (d ∷ ds)) in
      let here = given-full bytes e d (take n ds) g.3 in
      let on = text-forward tab most (suc n) e.point.index (d ∷ ds) rest f g.4 h in
      let step = g.4.0 in
      omega (arith, more, here, on, step)

-- ---- the exits of spans

pub record HasExit (es : List Event) : Type 0 where
  pub exit : Event
  pub rest : List Event
  pub there : drop (size_from 0 es) es ≡ exit ∷ rest

exit-behind : (s : Spans) (f : Event) (ys : List Event) → AreKinded s → f.kind ≡ Exit → HasExit (events_of s ++ f ∷ ys)
exit-behind s f ys h exits =
    let size : length (events_of s) ≡ size_from 0 (events_of s ++ f ∷ ys) =
    let a = passed-size 0 s (f ∷ ys) h in
    let z = at_end f ys exits in
    omega (arith, a, z)
    in
    record { exit = f; rest = ys; there = drop_at (events_of s) (f ∷ ys) (size_from 0 (events_of s ++ f ∷ ys)) size }

-- events in front, and those behind them
record Behind (at : ℕ) (xs ys : List Event) : Type 0 where
  past : ℕ
  is : at ≡ length xs + past
  same : drop at (xs ++ ys) ≡ drop past ys

behind-all : (at : ℕ) (xs ys : List Event) → length xs ≤ at → Behind at xs ys
behind-all at [] ys h = record { past = at; is = omega arith; same = refl }
behind-all zero (x ∷ xs) ys h = absurd (omega (arith, h))
behind-all (suc at) (x ∷ xs) ys h =
    let b = behind-all at xs ys (omega (arith, h)) in
    let is = b.is in
    record { past = b.past; is = omega (arith, is); same = b.same }

-- the first of the same events
pub same-first : (e f : Event) (es fs : List Event) → e ∷ es ≡ f ∷ fs → e ≡ f
same-first e f es fs h = cc

no-exit : (k : Kind) → k ≡ Exit → k ≡ Enter → ⊥
no-exit k h e = absurd (no (sym h ∙ e))
  where
    no : Exit ≡ Enter → ⊥
    no x = cc

-- behind an exit, or that itself
past-by : (past : ℕ) (f e : Event) (bs es : List Event) → f.kind ≡ Exit → drop past (f ∷ bs) ≡ e ∷ es → e.kind ≡ Enter → ((k : ℕ) → past ≡ suc k → drop k bs ≡ e ∷ es → HasExit es) → HasExit es
past-by zero f e bs es exits is enter more = absurd (no-exit f.kind exits (ap (λ (d : Event). d.kind) (same-first f e bs es is) ∙ enter))
past-by (suc k) f e bs es exits is enter more = more k refl is

-- in a span, or behind it
span-by : (c : Bool) (at : ℕ) (f e : Event) (xs bs es : List Event) → nat_lt at (length xs) ≡ c → f.kind ≡ Exit → drop at (xs ++ f ∷ bs) ≡ e ∷ es → e.kind ≡ Enter
    → (at < length xs → HasExit es) → ((k : ℕ) → at ≡ length xs + suc k → drop k bs ≡ e ∷ es → HasExit es) → HasExit es
span-by true at f e xs bs es h exits is enter inner outer = inner (grind (arith, nat_tests, h))
span-by false at f e xs bs es h exits is enter inner outer =
    let b = behind-all at xs (f ∷ bs) (grind (arith, nat_tests, h)) in
    past-by b.past f e bs es exits (sym b.same ∙ is) enter (λ k same there. outer k (b.is ∙ ap (λ n. length xs + n) same) there)

-- each enter has its exit behind it
pub exit-at : (s : Spans) (zs : List Event) (at : ℕ) (e : Event) (es : List Event) → AreKinded s → drop at (events_of s ++ zs) ≡ e ∷ es → at < length (events_of s) → e.kind ≡ Enter → HasExit es
exit-at Nothing zs at e es h there below enter = absurd (omega (arith, below))
exit-at (Span d f s behind) zs zero e es h there below enter =
    let ys = events_of behind ++ zs in
    let same : events_of s ++ f ∷ ys ≡ es = ap (drop 1) (sym (span-append d f s behind zs) ∙ there) in
    subst HasExit same (exit-behind s f ys h.2 h.1)
exit-at (Span d f s behind) zs (suc at) e es h there below enter =
    let ys = events_of behind ++ zs in
    let on : drop at (events_of s ++ f ∷ ys) ≡ e ∷ es = ap (drop (suc at)) (sym (span-append d f s behind zs)) ∙ there in
    let long = length-append (events_of s) (f ∷ events_of behind) in
    span-by (nat_lt at (length (events_of s))) at f e (events_of s) ys es refl h.1 on enter (λ small. exit-at s (f ∷ ys) at e es h.2 on small enter)
    (λ k is more. exit-at behind zs k e es h.3 more (omega (arith, below, long, is)) enter)

-- ---- definitions

module _ (bytes : List ℕ) (tab : ℕ) (events : List Event) (balanced : IsBalanced events) (go : GoForward tab (length bytes) 0 events) where
  -- the parts of a definition, by the events behind its enter
  abbrev parts_by : Option (List Event) → Option Parts
  parts_by o = option_map (definition_parts bytes) (elim o as (λ (_ : Option (List Event)). Option (List Event)) [ None ↦ None | Some es ↦ Some (inside es) ])

  entered-short : (at : ℕ) (e : Event) (es : List Event) → drop at events ≡ e ∷ es → e.kind ≡ Enter → length_of_parts (Some (definition_parts bytes (inside es))) ≤ 8 * extent (e ∷ es)
  entered-short at e es there enter =
      let s = spans_of events in
      let all : events_of s ++ [] ≡ events = append-nil (events_of s) ∙ keep-events events balanced in
      let long = length-drop at events in
      let left = ap (λ (l : List Event). length l) there in
      let count = ap (λ (l : List Event). length l) (keep-events events balanced) in
      let x : HasExit es = exit-at s [] at e es (opened-kinded events).0 (ap (drop at) all ∙ there) (omega (arith, long, left, count)) enter in
      let n = size_from 0 es in
      let f = forward-drop tab (length bytes) at 0 events go in
      let on : GoForward tab (length bytes) f.from (e ∷ es) = subst (λ (l : List Event). GoForward tab (length bytes) f.from l) there f.go in
      let says = text-forward bytes tab (length bytes) n e.point.index es x.rest x.exit on.4 x.there in
      let first = first-later tab (length bytes) n e.point.index es x.rest x.exit on.4 x.there in
      let last = later tab (length bytes) n e.point.index es x.rest x.exit on.4 x.there in
      let parts = parts-said bytes (inside es) in
      let behind = length-drop n es in
      let some = ap (λ (l : List Event). length l) x.there in
      let inner : length (inside es) ≡ n = length-take-le n es (omega (arith, behind, some)) in
      let ends : place_of_first (drop (length (inside es)) es) ≡ x.exit.point.index = ap (λ k. place_of_first (drop k es)) inner ∙ ap place_of_first x.there in
      omega (arith, says, first, last, parts, ends)

  defined-by : (c : Bool) (at : ℕ) (e : Event) (es : List Event) → drop at events ≡ e ∷ es → enters name.Definition e ≡ c
      → length_of_parts (parts_by (cond c (Some es) None)) ≤ 8 * extent (e ∷ es)
  defined-by false at e es there h = omega arith
  defined-by true at e es there h = entered-short at e es there (enter-is e.kind (and_parts (is_enter e.kind) (same_name e.name name.Definition) h).0)

  list-by : (at : ℕ) (l : List Event) → drop at events ≡ l → length_of_parts (parts_by (behind_first (enters name.Definition) l)) ≤ 8 * extent l
  list-by at [] there = omega arith
  list-by at (e ∷ es) there = defined-by (enters name.Definition e) at e es there refl

  label-by : (o : Option ℕ) → length_of_parts (option_and_then (λ at. parts_of bytes events at) o) ≤ 8 * option_map_or (λ at. extent (drop at events)) o 0
  label-by None = omega arith
  label-by (Some at) = list-by at (drop at events) refl

  defined-short : (label : List ℕ) → length_of_parts (defined_in bytes events label) ≤ 8 * size_of_label bytes events label
  defined-short label = label-by (definition_of bytes events label)

-- ---- references

module _ (bytes : List ℕ) (size more : (label : List ℕ) → ℕ) (less : (label : List ℕ) → size label ≤ 8 * more label) where
  target-less : (t : Target) → size_of_target size t ≤ 8 * size_of_target more t
  target-less (target.Parts p) = omega arith
  target-less (target.Label label) = less label

  referred-less : (i : Inline) (es : List Event) (a b : ℕ) → a ≤ 8 * b → referred bytes size i es a ≤ 8 * referred bytes more i es b
  referred-less inline.Ending es a b h = h
  referred-less inline.Break es a b h = h
  referred-less inline.Emphasis es a b h = h
  referred-less inline.Strong es a b h = h
  referred-less inline.Struck es a b h = h
  referred-less inline.Code es a b h = h
  referred-less inline.Html es a b h = h
  referred-less inline.Autolink es a b h = h
  referred-less inline.Www es a b h = h
  referred-less inline.Email es a b h = h
  referred-less inline.Address es a b h = h
  referred-less inline.Check es a b h = h
  referred-less inline.Call es a b h = h
  referred-less inline.Link es a b h = let t = target-less (target_in bytes es) in omega (arith, t, h)
  referred-less inline.Image es a b h = target-less (target_in bytes es)
  referred-less inline.Tail es a b h = h
  referred-less inline.Other es a b h = h

  references-less : (s : Spans) → references bytes size s ≤ 8 * references bytes more s
  references-less Nothing = omega arith
  references-less (Span e f s behind) =
      let here = referred-less (inline_of e.name) (events_of s) (references bytes size s) (references bytes more s) (references-less s) in
      let rest = references-less behind in
      omega (arith, here, rest)

-- labels that lead nowhere
module _ (bytes : List ℕ) where
  target-none : (t : Target) → size_of_target (λ label. 0) t ≡ 0
  target-none (target.Parts p) = refl
  target-none (target.Label label) = refl

  referred-none : (i : Inline) (es : List Event) (a : ℕ) → a ≡ 0 → referred bytes (λ label. 0) i es a ≡ 0
  referred-none inline.Ending es a h = h
  referred-none inline.Break es a h = h
  referred-none inline.Emphasis es a h = h
  referred-none inline.Strong es a h = h
  referred-none inline.Struck es a h = h
  referred-none inline.Code es a h = h
  referred-none inline.Html es a h = h
  referred-none inline.Autolink es a h = h
  referred-none inline.Www es a h = h
  referred-none inline.Email es a h = h
  referred-none inline.Address es a h = h
  referred-none inline.Check es a h = h
  referred-none inline.Call es a h = h
  referred-none inline.Link es a h = let t = target-none (target_in bytes es) in omega (arith, t, h)
  referred-none inline.Image es a h = target-none (target_in bytes es)
  referred-none inline.Tail es a h = h
  referred-none inline.Other es a h = h

  pub references-none : (s : Spans) → references bytes (λ label. 0) s ≡ 0
  references-none Nothing = refl
  references-none (Span e f s behind) =
      let here = referred-none (inline_of e.name) (events_of s) (references bytes (λ label. 0) s) (references-none s) in
      let rest = references-none behind in
      omega (arith, here, rest)

-- ---- all

left-by : (c : Bool) (bytes : List ℕ) (tab : ℕ) (events : List Event) → IsBalanced events → GoForward tab (length bytes) 0 events → are_too_many bytes events ≡ c
    → references bytes (λ label. length_of_parts (cond c None (defined_in bytes events label))) (spans_of events) ≤ 8 * max 100000 (length bytes)
left-by true bytes tab events balanced go h = let none = references-none bytes (spans_of events) in omega (arith, none)
left-by false bytes tab events balanced go h =
    let less = references-less bytes (λ label. length_of_parts (defined_in bytes events label)) (size_of_label bytes events) (defined-short bytes tab events balanced go) (spans_of events) in
    let few : references bytes (size_of_label bytes events) (spans_of events) ≤ max 100000 (length bytes) = grind (arith, nat_tests, h) in
    omega (arith, less, few)

pub html-linear : HtmlIsLinear
html-linear options bytes tab digits events balanced go brief free =
    let short = html-short options bytes (known_in bytes events) tab digits events balanced brief free in
    let rooms = room-forward tab (length bytes) events go in
    let left = left-by (are_too_many bytes events) bytes tab events balanced go refl in
    omega (arith, short, rooms, left)
