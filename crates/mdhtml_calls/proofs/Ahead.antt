-- Events that go ahead: forward, and each line ending over some virtual byte. What a definition says is then in proportion to the bytes that it is over.
use Rattle.std.proofs.Common.{◌≡◌, ℕ, suc, ◌+◌, ◌-◌, ◌*◌, ◌<◌, ◌≤◌, List, [], ◌∷◌, ◌++◌, length, take, drop, ap, sym, refl, subst, ◌∙◌, arith, ltb-true, Option, None, Some}
use Rattle.std.proofs.lemmas.Bool.{and_parts, false≢true}
use Rattle.std.proofs.lemmas.Bool.Decides.{nat_tests}
use Rattle.std.proofs.lemmas.List.{append-nil, length-drop, length-take-le}
use Rattle.std.proofs.Math.Nat.{mul-le-mul_right}
use Rattle.std.specs.Option.{option_map_or}
use Rattle.std.specs.Prelude.{zero, ⊤, ◌&&◌, max, nat_lt, not, Bool, true, false, cond, option_and_then, option_map}
use native.Mathlib.Nat.{add-mul, suc-mul}
use Rattle.markdown_base.specs.declared.configuration.CompileOptions.{CompileOptions}
use Rattle.markdown_base.specs.declared.event.Event.{Event}
use Rattle.markdown_base.specs.declared.event.Kind.TheVariants.{Enter}
use Rattle.markdown_base.specs.declared.event.Name.TheVariants as name
use Rattle.markdown_base.specs.declared.event.Point.{Point}
use Rattle.markdown_base.specs.Events.{IsBalanced, is_enter, same_name}
use Rattle.markdown_base.specs.Places.{stands_before}
use Rattle.markdown_base.proofs.Cuts.{not_behind}
use Rattle.markdown_base.proofs.Facts.Kinds.{enter-is}
use Rattle.mddocument_link_targets.specs.declared.strings.Reading.TheVariants.{Decoded}
use Rattle.mddocument_link_targets.specs.declared.targets.Parts.{Parts}
use Rattle.mddocument_link_targets.specs.Spans.{behind_first, enters, inside, size_from}
use Rattle.mddocument_link_targets.specs.Strings.{given_at}
use Rattle.mddocument_link_targets.specs.Targets.{definition_of, definition_parts, parts_of}
use Rattle.mdhtml_document.specs.Html.{are_too_many, defined_in, extent, html_by, known_in, led_to, references, size_of_label}
use Rattle.mdhtml_document.specs.HtmlLaws.{AreBrief, are_apart, calls, length_of_parts, room, rows}
use Rattle.mdhtml_document.specs.Notes.{place_of_first}
use Rattle.mdhtml_document.specs.Spans.{events_of, spans_of}
use Rattle.mdhtml_document.proofs.Both.{keep-events}
use Rattle.mdhtml_document.proofs.Linear.{HasExit, exit-at, none-there, parts-said, references-none, said_in, same-first, text-more}
use Rattle.mdgfm_literals.proofs.Order.{forward-index}
use Rattle.mdhtml_document.proofs.Rooms.{given-full}
use Rattle.mdhtml_document.proofs.Short.{calls-count, calls_room, html-short}
use Rattle.mdhtml_document.proofs.SpanFacts.{opened-kinded}
use Rattle.mdhtml_calls.proofs.OwnShort.{weight}
use Rattle.mdhtml_calls.proofs.Referred.{references-in-proportion}

-- the event behind the enter of a line ending is behind its place
abbrev pub EndsAhead : Event → List Event → Type 0
EndsAhead e [] = ⊤
EndsAhead e (f ∷ fs) = enters name.LineEnding e ≡ true → stands_before e.point f.point ≡ true

-- Events go forward from a place, over no more than so many bytes, with no more virtual spaces than a tab has columns, and over line endings ahead
abbrev pub GoAhead : (tab most : ℕ) → (from : Point) → List Event → Type 0
GoAhead tab most from [] = ⊤
GoAhead tab most from (e ∷ es) = (stands_before e.point from ≡ false) × (e.point.index ≤ most) × (e.point.vs ≤ tab) × EndsAhead e es × GoAhead tab most e.point es

-- ---- how far places are

times : (k a b : ℕ) → a < b → a * k + k ≤ b * k
times k a b h =
    let next : suc a ≤ b = omega arith in
    let one = suc-mul a k in
    let more = mul-le-mul_right {m = suc a} {n = b} k next in
    omega (arith, one, more)

-- A byte counts for the columns of a tab and one more, so that a place is further than those before it
abbrev far : (tab : ℕ) → Point → ℕ
far tab p = p.index * suc tab + p.vs

past-byte : (a b v w t : ℕ) → a + suc t ≤ b → v ≤ t → a + v < b + w
past-byte a b v w t h k = omega arith

within-byte : (a b v w : ℕ) → a ≡ b → v ≤ w → a + v ≤ b + w
within-byte a b v w h k = omega arith

within-tab : (a b v w : ℕ) → a ≡ b → v < w → a + v < b + w
within-tab a b v w h k = omega arith

less-equal : (a b : ℕ) → a < b → a ≤ b
less-equal a b h = omega arith

same-index : (p q : Point) → stands_before q p ≡ false → nat_lt p.index q.index ≡ false → p.index ≡ q.index
same-index p q h e = grind (arith, nat_tests)

forward : (tab : ℕ) (p q : Point) → stands_before q p ≡ false → p.vs ≤ tab → far tab p ≤ far tab q
forward tab p q h v = by (nat_lt p.index q.index) refl
  where
    by : (t : Bool) → nat_lt p.index q.index ≡ t → far tab p ≤ far tab q
    by true e = less-equal (far tab p) (far tab q) (past-byte (p.index * suc tab) (q.index * suc tab) p.vs q.vs tab (times (suc tab) p.index q.index (ltb-true p.index q.index e)) v)
    by false e =
        let same = same-index p q h e in
        within-byte (p.index * suc tab) (q.index * suc tab) p.vs q.vs (ap (λ n. n * suc tab) same) (not_behind p q h same)

in-tab : (p q : Point) → stands_before p q ≡ true → nat_lt p.index q.index ≡ false → (p.index ≡ q.index) × (p.vs < q.vs)
in-tab p q h e = (grind (arith, nat_tests), grind (arith, nat_tests))

further : (tab : ℕ) (p q : Point) → stands_before p q ≡ true → p.vs ≤ tab → far tab p < far tab q
further tab p q h v = by (nat_lt p.index q.index) refl
  where
    by : (t : Bool) → nat_lt p.index q.index ≡ t → far tab p < far tab q
    by true e = past-byte (p.index * suc tab) (q.index * suc tab) p.vs q.vs tab (times (suc tab) p.index q.index (ltb-true p.index q.index e)) v
    by false e =
        let both = in-tab p q h e in
        within-tab (p.index * suc tab) (q.index * suc tab) p.vs q.vs (ap (λ n. n * suc tab) both.0) both.1

-- ---- texts

module _ (bytes : List ℕ) where
  one-le : (enter exit ending : Bool) (other : List ℕ) → ending ≡ true → length (cond (enter && exit) (cond ending (10 ∷ []) other) []) ≤ 1
  one-le true true true other h = omega arith
  one-le true false true other h = omega arith
  one-le false exit true other h = omega arith
  one-le enter exit false other h = absurd (false≢true h)

  given-ahead : (tab : ℕ) (e f : Event) (more : List Event) → e.point.vs ≤ tab → stands_before f.point e.point ≡ false → EndsAhead e (f ∷ more)
      → length (given_at bytes Decoded e (f ∷ more)) + far tab e.point ≤ 4 * (f.point.index - e.point.index) + far tab f.point
  given-ahead tab e f more v h ends = by (enters name.LineEnding e) refl
    where
      by : (t : Bool) → enters name.LineEnding e ≡ t → length (given_at bytes Decoded e (f ∷ more)) + far tab e.point ≤ 4 * (f.point.index - e.point.index) + far tab f.point
      by true e-is =
          let one : length (given_at bytes Decoded e (f ∷ more)) ≤ 1 =
          one-le (is_enter e.kind) (not (is_enter f.kind)) (same_name e.name name.LineEnding) _ (and_parts (is_enter e.kind) (same_name e.name name.LineEnding) e-is).1
          in
          let step = further tab e.point f.point (ends e-is) v in
          omega (arith, one, step)
      by false e-is =
          let full = given-full bytes e f more (λ x. absurd (false≢true (sym e-is ∙ x))) in
          let step = forward tab e.point f.point h v in
          omega (arith, full, step)

module _ (tab most : ℕ) where
  abbrev far_of_first : List Event → ℕ
  far_of_first [] = 0
  far_of_first (e ∷ es) = far tab e.point

  -- events behind others
  record Behind (es : List Event) : Type 0 where
    from : Point
    go : GoAhead tab most from es

  behind-drop : (n : ℕ) (from : Point) (es : List Event) → GoAhead tab most from es → Behind (drop n es)
  behind-drop zero from es g = record { from = from; go = g }
  behind-drop (suc n) from [] g = record { from = from; go = tt }
  behind-drop (suc n) from (e ∷ es) g = behind-drop n e.point es g.4

  record Later (p q : Point) : Type 0 where
    index : p.index ≤ q.index
    place : far tab p ≤ far tab q
    few : q.vs ≤ tab

  step-later : (p q : Point) → stands_before q p ≡ false → p.vs ≤ tab → q.vs ≤ tab → Later p q
  step-later p q h v w = record { index = forward-index p q h; place = forward tab p q h v; few = w }

  later-later : (p q r : Point) → Later p q → Later q r → Later p r
  later-later p q r h k =
      let a = h.index in
      let b = k.index in
      let c = h.place in
      let d = k.place in
      record { index = omega (arith, a, b); place = omega (arith, c, d); few = k.few }

  -- no event is before an earlier one
  later : (n : ℕ) (from : Point) (es rest : List Event) (f : Event) → from.vs ≤ tab → GoAhead tab most from es → drop n es ≡ f ∷ rest → Later from f.point
  later zero from [] rest f v g h = absurd (none-there f rest h)
  later (suc n) from [] rest f v g h = absurd (none-there f rest h)
  later zero from (e ∷ es) rest f v g h = subst (λ (d : Event). Later from d.point) (same-first e f es rest h) (step-later from e.point g.0 v g.2)
  later (suc n) from (e ∷ es) rest f v g h = later-later from e.point f.point (step-later from e.point g.0 v g.2) (later n e.point es rest f g.2 g.4 h)

  record First (from : Point) (es : List Event) : Type 0 where
    index : from.index ≤ place_of_first es
    place : far tab from ≤ far_of_first es

  first : (n : ℕ) (from : Point) (es rest : List Event) (f : Event) → from.vs ≤ tab → GoAhead tab most from es → drop n es ≡ f ∷ rest → First from es
  first zero from [] rest f v g h = absurd (none-there f rest h)
  first (suc n) from [] rest f v g h = absurd (none-there f rest h)
  first n from (e ∷ es) rest f v g h = record { index = forward-index from e.point g.0; place = forward tab from e.point g.0 v }

  -- the text of events that go ahead is at most as long as the way that they go
  text-ahead : (bytes : List ℕ) (n : ℕ) (from : Point) (es rest : List Event) (f : Event) → GoAhead tab most from es → drop n es ≡ f ∷ rest
      → said_in bytes (take n es) + (4 * place_of_first es + far_of_first es) ≤ 4 * f.point.index + far tab f.point
  text-ahead bytes zero from [] rest f g h = absurd (none-there f rest h)
  text-ahead bytes zero from (e ∷ es) rest f g h =
      let same = ap place_of_first h in
      let there = ap far_of_first h in
      omega (arith, same, there)
  text-ahead bytes (suc n) from [] rest f g h = absurd (none-there f rest h)
  text-ahead bytes (suc zero) from (e ∷ es) rest f g h =
      let more = text-more bytes e [] in
      let on = later zero e.point es rest f g.2 g.4 h in
      let index = on.index in
      let place = on.place in
      omega (arith, more, index, place)
  text-ahead bytes (suc (suc n)) from (e ∷ []) rest f g h = absurd (none-there f rest h)
  text-ahead bytes (suc (suc n)) from (e ∷ (d ∷ ds)) rest f g h =
      let more = text-more bytes e (take (suc n) (d ∷ ds)) in
      let here = given-ahead bytes tab e d (take n ds) g.2 g.4.0 g.3 in
      let on = text-ahead bytes (suc n) e.point (d ∷ ds) rest f g.4 h in
      let step = forward-index e.point d.point g.4.0 in
      omega (arith, more, here, on, step)

  -- ---- room
  room-by : (e : Event) (es : List Event) → e.point.index ≤ most → GoAhead tab most e.point es
      → 36 * room tab (e ∷ es) + 24 * length (e ∷ es) ≤ 144 * (most - e.point.index) + length (e ∷ es) * (180 * tab + 60)
  room-by e [] h g = let k = suc-mul 0 (180 * tab + 60) in omega (arith, k)
  room-by e (f ∷ fs) h g =
      let after = forward-index e.point f.point g.0 in
      let inside = g.1 in
      let spaces = g.2 in
      let rest = room-by f fs g.1 g.4 in
      let k = suc-mul (length (f ∷ fs)) (180 * tab + 60) in
      omega (arith, h, after, inside, spaces, rest, k)

  pub room-ahead : (from : Point) (es : List Event) → GoAhead tab most from es → 36 * room tab es + 24 * length es ≤ 144 * most + length es * (180 * tab + 60)
  room-ahead from [] g = omega arith
  room-ahead from (e ∷ es) g = let h = room-by e es g.1 g.4 in omega (arith, h)

-- ---- definitions

module _ (bytes : List ℕ) (tab most : ℕ) (from : Point) (events : List Event) (balanced : IsBalanced events) (go : GoAhead tab most from events) where
  -- how long a definition over so many bytes may be
  abbrev pub most_of : ℕ → ℕ
  most_of n = n * (2 * tab + 10) + 2 * tab

  abbrev parts_by : Option (List Event) → Option Parts
  parts_by o = option_map (definition_parts bytes) (elim o as (λ (_ : Option (List Event)). Option (List Event)) [ None ↦ None | Some es ↦ Some (inside es) ])

  entered-short : (at : ℕ) (e : Event) (es : List Event) → drop at events ≡ e ∷ es → e.kind ≡ Enter → length_of_parts (Some (definition_parts bytes (inside es))) ≤ most_of (extent (e ∷ es))
  entered-short at e es there enter =
      let s = spans_of events in
      let all : events_of s ++ [] ≡ events = append-nil (events_of s) ∙ keep-events events balanced in
      let long = length-drop at events in
      let left = ap (λ (l : List Event). length l) there in
      let count = ap (λ (l : List Event). length l) (keep-events events balanced) in
      let x : HasExit es = exit-at s [] at e es (opened-kinded events).0 (ap (drop at) all ∙ there) (omega (arith, long, left, count)) enter in
      let n = size_from 0 es in
      let f = behind-drop tab most at from events go in
      let on : GoAhead tab most f.from (e ∷ es) = subst (λ (l : List Event). GoAhead tab most f.from l) there f.go in
      let says = text-ahead tab most bytes n e.point es x.rest x.exit on.4 x.there in
      let start = first tab most n e.point es x.rest x.exit on.2 on.4 x.there in
      let index = start.index in
      let place = start.place in
      let last = later tab most n e.point es x.rest x.exit on.2 on.4 x.there in
      let behind-it = last.index in
      let few = last.few in
      let parts = parts-said bytes (inside es) in
      let behind = length-drop n es in
      let some = ap (λ (l : List Event). length l) x.there in
      let inner : length (inside es) ≡ n = length-take-le n es (omega (arith, behind, some)) in
      let ends : place_of_first (drop (length (inside es)) es) ≡ x.exit.point.index = ap (λ k. place_of_first (drop k es)) inner ∙ ap place_of_first x.there in
      let says-it : said_in bytes (inside es) + far tab e.point ≤ 4 * (x.exit.point.index - e.point.index) + far tab x.exit.point = omega (arith, says, index, place, behind-it) in
      over e.point x.exit.point (said_in bytes (inside es)) (extent (e ∷ es)) (length_of_parts (Some (definition_parts bytes (inside es)))) says-it behind-it few (ap (λ k. k - e.point.index) ends) parts
    where
      wide : (x t : ℕ) → x * (2 * t + 10) ≡ 2 * (x * suc t) + 8 * x
      wide zero t = omega arith
      wide (suc x) t =
          let one = suc-mul x (2 * t + 10) in
          let other = suc-mul x (suc t) in
          let more = wide x t in
          omega (arith, one, other, more)

      linear : (said x long pi qi pk qk xk pv qv w t : ℕ) → said + (pk + pv) ≤ 4 * (qi - pi) + (qk + qv) → pi + x ≡ qi → qk ≡ pk + xk → w ≡ 2 * xk + 8 * x → qv ≤ t → long ≤ 2 * said → long ≤ w + 2 * t
      linear said x long pi qi pk qk xk pv qv w t h sum way wide v few = omega arith

      over : (p q : Point) (said x long : ℕ) → said + far tab p ≤ 4 * (q.index - p.index) + far tab q → p.index ≤ q.index → q.vs ≤ tab → x ≡ q.index - p.index → long ≤ 2 * said → long ≤ most_of x
      over p q said x long h k v is few =
          let sum : p.index + x ≡ q.index = omega (arith, is, k) in
          let way = ap (λ n. n * suc tab) (sym sum) ∙ add-mul p.index x (suc tab) in
          linear said x long p.index q.index (p.index * suc tab) (q.index * suc tab) (x * suc tab) p.vs q.vs (x * (2 * tab + 10)) tab h sum way (wide x tab) v few

  defined-by : (c : Bool) (at : ℕ) (e : Event) (es : List Event) → drop at events ≡ e ∷ es → enters name.Definition e ≡ c
      → length_of_parts (parts_by (cond c (Some es) None)) ≤ most_of (extent (e ∷ es))
  defined-by false at e es there h = omega arith
  defined-by true at e es there h = entered-short at e es there (enter-is e.kind (and_parts (is_enter e.kind) (same_name e.name name.Definition) h).0)

  list-by : (at : ℕ) (l : List Event) → drop at events ≡ l → length_of_parts (parts_by (behind_first (enters name.Definition) l)) ≤ most_of (extent l)
  list-by at [] there = omega arith
  list-by at (e ∷ es) there = defined-by (enters name.Definition e) at e es there refl

  label-by : (o : Option ℕ) → length_of_parts (option_and_then (λ at. parts_of bytes events at) o) ≤ most_of (option_map_or (λ at. extent (drop at events)) o 0)
  label-by None = omega arith
  label-by (Some at) = list-by at (drop at events) refl

  pub defined-short : (label : List ℕ) → length_of_parts (defined_in bytes events label) ≤ most_of (size_of_label bytes events label)
  defined-short label = label-by (definition_of bytes events label)

-- ---- all

at-most : (r a b c d : ℕ) → r ≤ a + b → a ≤ c → b ≡ d → r ≤ c + d
at-most r a b c d h k l = omega arith

-- labels lead nowhere, or what they lead to is in proportion to the definitions that are referred to
left-by : (c : Bool) (bytes : List ℕ) (tab : ℕ) (from : Point) (events : List Event) → IsBalanced events → GoAhead tab (length bytes) from events → are_too_many bytes events ≡ c
    → references bytes (λ label. length_of_parts (cond c None (defined_in bytes events label))) (spans_of events) ≤ max 100000 (length bytes) * (2 * tab + 10) + length events * (2 * tab)
left-by true bytes tab from events balanced go h = let none = references-none bytes (spans_of events) in omega (arith, none)
left-by false bytes tab from events balanced go h =
    let sizes = references bytes (size_of_label bytes events) (spans_of events) in
    let less =
    references-in-proportion bytes (λ label. length_of_parts (defined_in bytes events label)) (size_of_label bytes events) (2 * tab + 10) (2 * tab)
    (defined-short bytes tab (length bytes) from events balanced go) (spans_of events)
    in
    let few : references bytes (size_of_label bytes events) (spans_of events) ≤ max 100000 (length bytes) = grind (arith, nat_tests, h) in
    let more = mul-le-mul_right {m = sizes} {n = max 100000 (length bytes)} (2 * tab + 10) few in
    let count = ap (λ (l : List Event). length l * (2 * tab)) (keep-events events balanced) in
    at-most (references bytes (λ label. length_of_parts (defined_in bytes events label)) (spans_of events)) (sizes * (2 * tab + 10)) (length (events_of (spans_of events)) * (2 * tab))
    (max 100000 (length bytes) * (2 * tab + 10)) (length events * (2 * tab)) less more count

nine-times : (x t : ℕ) → x * (18 * t + 90) ≡ 9 * (x * (2 * t + 10))
nine-times zero t = omega arith
nine-times (suc x) t =
    let one = suc-mul x (18 * t + 90) in
    let other = suc-mul x (2 * t + 10) in
    let more = nine-times x t in
    omega (arith, one, other, more)

all-times : (x t : ℕ) → x * (198 * t + 60) ≡ x * (180 * t + 60) + 9 * (x * (2 * t))
all-times zero t = omega arith
all-times (suc x) t =
    let one = suc-mul x (198 * t + 60) in
    let other = suc-mul x (180 * t + 60) in
    let third = suc-mul x (2 * t) in
    let more = all-times x t in
    omega (arith, one, other, third, more)

together : (long a refs b c p q nine all notes rows : ℕ) → long ≤ ((a + 9 * refs) + notes) + rows → a ≤ b + c → refs ≤ p + q → nine ≡ 9 * p → all ≡ c + 9 * q → long ≤ (((b + nine) + all) + rows) + notes
together long a refs b c p q nine all notes rows h k l m n = omega arith

-- The HTML of events that go ahead, but for the section of footnotes, is in proportion to the bytes and to these
pub html-ahead : (options : CompileOptions) (bytes : List ℕ) (tab digits : ℕ) (from : Point) (events : List Event) → IsBalanced events → GoAhead tab (length bytes) from events
    → AreBrief digits (known_in bytes events) → are_apart (spans_of events) ≡ true
    → length (html_by options bytes (known_in bytes events) tab events)
    ≤ (((144 * length bytes + max 100000 (length bytes) * (18 * tab + 90)) + length events * (198 * tab + 60)) + 2500 * rows (spans_of events)) + 9 * ((digits + 8) * calls (spans_of events))
html-ahead options bytes tab digits from events balanced go brief free =
    let short = html-short options bytes (known_in bytes events) tab digits events balanced brief free in
    let rooms = room-ahead tab (length bytes) from events go in
    let left = left-by (are_too_many bytes events) bytes tab from events balanced go refl in
    let nine = nine-times (max 100000 (length bytes)) tab in
    let all = all-times (length events) tab in
    let n = length events in
    let most = max 100000 (length bytes) in
    together (length (html_by options bytes (known_in bytes events) tab events)) (36 * room tab events + 24 * n) (references bytes (λ label. length_of_parts (led_to bytes events label)) (spans_of events))
    (144 * length bytes) (n * (180 * tab + 60)) (most * (2 * tab + 10)) (n * (2 * tab)) (most * (18 * tab + 90)) (n * (198 * tab + 60)) (9 * ((digits + 8) * calls (spans_of events)))
    (2500 * rows (spans_of events)) short rooms left nine all

weigh : (rooms refs notes rows b c p q nine all : ℕ) → rooms ≤ b + c → refs ≤ p + q → nine ≡ 9 * p → all ≡ c + 9 * q → (rooms + 9 * (refs + notes)) + 2500 * rows ≤ (((b + nine) + all) + 2500 * rows) + 9 * notes
weigh rooms refs notes rows b c p q nine all h k l m = omega (arith, h, k, l, m)

-- and so is what spans have room for
pub weight-ahead : (options : CompileOptions) (bytes : List ℕ) (tab digits : ℕ) (from : Point) (events : List Event) (brief : AreBrief digits (known_in bytes events)) → IsBalanced events
    → GoAhead tab (length bytes) from events → weight options bytes (known_in bytes events) tab digits brief (spans_of events)
    ≤ (((144 * length bytes + max 100000 (length bytes) * (18 * tab + 90)) + length events * (198 * tab + 60)) + 2500 * rows (spans_of events)) + 9 * ((digits + 8) * calls (spans_of events))
weight-ahead options bytes tab digits from events brief balanced go =
    let s = spans_of events in
    let keep = keep-events events balanced in
    let n = length events in
    let most = max 100000 (length bytes) in
    let rooms : 36 * room tab (events_of s) + 24 * length (events_of s) ≤ 144 * length bytes + n * (180 * tab + 60) =
    subst (λ (es : List Event). 36 * room tab es + 24 * length es ≤ 144 * length bytes + n * (180 * tab + 60)) (sym keep) (room-ahead tab (length bytes) from events go)
    in
    let left = left-by (are_too_many bytes events) bytes tab from events balanced go refl in
    let count = calls-count options bytes (known_in bytes events) tab digits brief s in
    let all =
    weigh (36 * room tab (events_of s) + 24 * length (events_of s)) (references bytes (λ label. length_of_parts (led_to bytes events label)) s)
    (calls_room options bytes (known_in bytes events) tab digits brief s) (rows s) (144 * length bytes) (n * (180 * tab + 60)) (most * (2 * tab + 10)) (n * (2 * tab)) (most * (18 * tab + 90))
    (n * (198 * tab + 60)) rooms left (nine-times most tab) (all-times n tab)
    in
    subst (λ c. weight options bytes (known_in bytes events) tab digits brief s ≤ (((144 * length bytes + most * (18 * tab + 90)) + n * (198 * tab + 60)) + 2500 * rows s) + 9 * c) count all
