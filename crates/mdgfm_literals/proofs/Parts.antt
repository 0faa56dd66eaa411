-- Literals of parts of a document: behind other lines, and before others.
use Rattle.std.proofs.Common.{◌≡◌, ℕ, zero, suc, ◌+◌, ◌-◌, ◌≤◌, ◌++◌, max, Bool, true, false, cond, List, [], ◌∷◌, length, drop, take, Option, Some, None, refl, sym, ap, subst, ◌∙◌, arith, eqb-true, leb-true, leb-false}
use Rattle.std.proofs.Math.Seq.{drop-append-add}
use Rattle.std.proofs.lemmas.List.{drop-append-le, length-drop, take-append-le}
use Rattle.std.specs.List.{AllByRecursion}
use Rattle.std.specs.Prelude.{◌==◌, ◌||◌, map, nat_le, slice_get, slice_range}
use Rattle.markdown_base.specs.declared.event.Event.{Event}
use Rattle.markdown_base.specs.declared.event.Link.{Link}
use Rattle.markdown_base.specs.declared.event.Point.{Point}
use Rattle.markdown_base.specs.Virtual.{point}
use Rattle.markdown_base.proofs.Common.{every-map, get-front}
use Rattle.mdgfm_literals.specs.declared.found.Found.{Found}
use Rattle.mdgfm_literals.specs.declared.texts.Literal.{Literal}
use Rattle.mdgfm_literals.specs.Grammar.{literal_at}
use Rattle.mdgfm_literals.specs.Laws.{BytesBehindDoNothing, LiteralsMove, LiteralsOfParts, begins_block, end_line, further_event, further_literal, further_point}
use Rattle.mdgfm_literals.specs.LiteralEvents.{events_with, literal_events}
use Rattle.mdgfm_literals.specs.Literals.{literals_from, more_passed}
use Rattle.mdgfm_literals.specs.Stretches.{before_stretch, byte_before, literals_of}
use Rattle.mdgfm_literals.proofs.Below.{AreUpTo, IsUpTo, literals-up-to}
use Rattle.mdgfm_literals.proofs.Both.{of-both, with-place}
use Rattle.mdgfm_literals.proofs.Further.{of-on, with-on}

-- ---- the byte before a text

-- a line ending before a text is as nothing
literal-line : (b : ℕ) (text : List ℕ) → ((b == 10) || (b == 13)) ≡ true → literal_at (Some b) text ≡ literal_at None text
literal-line b text h = by (b == 10) (b == 13) refl refl h
  where
    by : (s t : Bool) → (b == 10) ≡ s → (b == 13) ≡ t → (s || t) ≡ true → literal_at (Some b) text ≡ literal_at None text
    by true t p q h = ap (λ c. literal_at (Some c) text) (eqb-true b 10 p)
    by false true p q h = ap (λ c. literal_at (Some c) text) (eqb-true b 13 q)
    by false false p q h = absurd (let z : false ≡ true = h in subst (λ t. cond t ⊥ (Unit {0})) z tt)

from-line : (b at : ℕ) (text : List ℕ) → ((b == 10) || (b == 13)) ≡ true → literals_from 0 (Some b) at text ≡ literals_from 0 None at text
from-line b at [] h = refl
from-line b at (x ∷ xs) h =
    ap (λ (o : Option Found). elim o as (λ o. List Literal) [
      | Some f ↦ record { from = at; to = at + f.size; name = f.name } ∷ literals_from (f.size - 1) None (at + 1) xs
      | None ↦ literals_from (more_passed (x ∷ xs)) (slice_get (x ∷ xs) (more_passed (x ∷ xs))) (at + 1) xs
    ]) (literal-line b (x ∷ xs) h)

pub get-behind : (before bytes : List ℕ) (i : ℕ) → slice_get (before ++ bytes) (length before + i) ≡ slice_get bytes i
get-behind [] bytes i = let z : 0 + i ≡ i = omega arith in ap (λ k. slice_get bytes k) z
get-behind (b ∷ bs) bytes i = let z : suc (length bs) + i ≡ suc (length bs + i) = omega arith in ap (λ k. slice_get (b ∷ (bs ++ bytes)) k) z ∙ get-behind bs bytes i

-- the last byte of lines
from-end : (before bytes : List ℕ) (at : ℕ) (text : List ℕ) → end_line before ≡ true → literals_from 0 (byte_before (before ++ bytes) (length before)) at text ≡ literals_from 0 None at text
from-end [] bytes at text h = refl
from-end (b ∷ []) bytes at text h = from-line b at text h
from-end (b ∷ c ∷ cs) bytes at text h = from-end (c ∷ cs) bytes at text h

-- ---- slices

pub slice-behind : (before bytes : List ℕ) (i j : ℕ) → slice_range (before ++ bytes) (i + length before) (j + length before) ≡ slice_range bytes i j
slice-behind before bytes i j =
    let size : j + length before - (i + length before) ≡ j - i = omega arith in
    let first : i + length before ≡ length before + i = omega arith in
    ap (λ k. take k (drop (i + length before) (before ++ bytes))) size
    ∙ ap (λ k. take (j - i) (drop k (before ++ bytes))) first
    ∙ ap (λ ts. take (j - i) ts) (drop-append-add before bytes i)

slice-front : (bytes behind : List ℕ) (i j : ℕ) → j ≤ length bytes → slice_range (bytes ++ behind) i j ≡ slice_range bytes i j
slice-front bytes behind i j h = by (nat_le i (length bytes)) refl
  where
    by : (t : Bool) → nat_le i (length bytes) ≡ t → slice_range (bytes ++ behind) i j ≡ slice_range bytes i j
    by true le =
        let low = leb-true i (length bytes) le in
        let long = length-drop i bytes in
        ap (λ ts. take (j - i) ts) (drop-append-le i bytes behind low) ∙ take-append-le (j - i) (drop i bytes) behind (omega (arith, long, h))
    by false gt =
        let low = leb-false i (length bytes) gt in
        let none : j - i ≡ 0 = omega (arith, low, h) in
        ap (λ k. take k (drop i (bytes ++ behind))) none ∙ ap (λ k. take k (drop i bytes)) (sym none)

-- ---- indices of events

abbrev pub highest : List Event → ℕ
highest [] = 0
highest (e ∷ es) = max e.point.index (highest es)

pub up-to-highest : (es : List Event) → AreUpTo (highest es) es
up-to-highest [] = tt
up-to-highest (e ∷ es) =
    (omega arith, every-map (λ (f : Event). f.point.index ≤ highest es) (λ (f : Event). f.point.index ≤ max e.point.index (highest es)) (λ f h. omega (arith, h)) es (up-to-highest es))

-- ---- events further on

module _ (links : Option Link → Option Link) (no_link : links None ≡ None) (lines n tab : ℕ) (small big : List ℕ) (most : ℕ)
    (same_slice : (i j : ℕ) → j ≤ most → slice_range big (i + n) (j + n) ≡ slice_range small i j) where
  abbrev moved : List Event → List Event
  moved = map (further_event links lines n)

  abbrev start : Point
  start = point 1 1 0 0

  all-from : (i : ℕ) (es : List Event) → i ≤ n → AllByRecursion (λ e. i ≤ e.point.index) (moved es)
  all-from i [] h = tt
  all-from i (e ∷ es) h = (omega (arith, h), all-from i es h)

  -- with literals that stand further on too
  pub placed-on : (ls : List Literal) (es : List Event) → AllByRecursion (IsUpTo most) ls
      → events_with tab big 0 0 start (map (further_literal n) ls) (moved es) ≡ moved (events_with tab small 0 0 start ls es)
  placed-on ls es up =
      let from-start : 0 + n ≤ n = omega arith in
      with-place tab big 0 0 start (further_point lines n start) (map (further_literal n) ls) (moved es) (all-from 0 es (omega arith)) (all-from (further_point lines n start).index es from-start)
      ∙ with-on links no_link lines n tab small big most same_slice 0 0 start ls es up

  further-on : ((fresh : Bool) (i at : ℕ) (text : List ℕ) → i ≤ most → literals_from 0 (before_stretch big fresh (i + n)) at text ≡ literals_from 0 (before_stretch small fresh i) at text)
      → (es : List Event) → AreUpTo most es → events_with tab big 0 0 start (literals_of big true 0 0 (moved es)) (moved es) ≡ moved (events_with tab small 0 0 start (literals_of small true 0 0 es) es)
  further-on same_before es up =
      ap (λ ts. events_with tab big 0 0 start ts (moved es)) (of-on links no_link lines n tab small big most same_slice same_before true 0 0 es up)
      ∙ placed-on (literals_of small true 0 0 es) es (literals-up-to most small true 0 0 es up)

-- ---- behind other lines

before-behind : (before bytes : List ℕ) (fresh : Bool) (i at : ℕ) (text : List ℕ) → end_line before ≡ true
    → literals_from 0 (before_stretch (before ++ bytes) fresh (i + length before)) at text ≡ literals_from 0 (before_stretch bytes fresh i) at text
before-behind before bytes true i at text h = refl
before-behind before bytes false zero at text h =
    let z : 0 + length before ≡ length before = omega arith in ap (λ k. literals_from 0 (byte_before (before ++ bytes) k) at text) z ∙ from-end before bytes at text h
before-behind before bytes false (suc i) at text h =
    let z : suc i + length before ≡ suc (length before + i) = omega arith in
    ap (λ k. literals_from 0 (byte_before (before ++ bytes) k) at text) z ∙ ap (λ p. literals_from 0 p at text) (get-behind before bytes i)

pub literals-move : LiteralsMove
literals-move options lines before bytes links events ends no_link = by options.constructs.gfm_autolink_literal
  where
    n : ℕ
    n = length before

    go : List Event → List Event
    go = map (further_event links lines n)

    big : List ℕ
    big = before ++ bytes

    by : (t : Bool) → cond t (events_with options.tab_size big 0 0 (point 1 1 0 0) (literals_of big true 0 0 (go events)) (go events)) (go events)
        ≡ go (cond t (events_with options.tab_size bytes 0 0 (point 1 1 0 0) (literals_of bytes true 0 0 events) events) events)
    by true =
        further-on links no_link lines n options.tab_size bytes big (highest events) (λ i j h. slice-behind before bytes i j) (λ fresh i at text h. before-behind before bytes fresh i at text ends) events (up-to-highest events)
    by false = refl

-- ---- before others

abbrev pub same-link : Option Link → Option Link
same-link l = l

event-stays : (e : Event) → further_event same-link 0 0 e ≡ e
event-stays e =
    let line : e.point.line + 0 ≡ e.point.line = omega arith in
    let index : e.point.index + 0 ≡ e.point.index = omega arith in
    ap (λ i. made i (e.point.index + 0)) line ∙ ap (λ i. made e.point.line i) index
  where
    made : (line index : ℕ) → Event
    made line index = record { kind = e.kind; name = e.name; point = record { line = line; column = e.point.column; index = index; vs = e.point.vs }; link = e.link }

pub events-stay : (es : List Event) → map (further_event same-link 0 0) es ≡ es
events-stay [] = refl
events-stay (e ∷ es) = ap (λ f. f ∷ map (further_event same-link 0 0) es) (event-stays e) ∙ ap (λ ts. e ∷ ts) (events-stay es)

before-front : (bytes behind : List ℕ) (fresh : Bool) (i at : ℕ) (text : List ℕ) → i ≤ length bytes
    → literals_from 0 (before_stretch (bytes ++ behind) fresh (i + 0)) at text ≡ literals_from 0 (before_stretch bytes fresh i) at text
before-front bytes behind true i at text h = refl
before-front bytes behind false zero at text h = refl
before-front bytes behind false (suc i) at text h =
    let z : suc i + 0 ≡ suc i = omega arith in
    ap (λ k. literals_from 0 (byte_before (bytes ++ behind) k) at text) z ∙ ap (λ p. literals_from 0 p at text) (get-front bytes behind i (omega (arith, h)))

pub slice-stays : (bytes behind : List ℕ) (i j : ℕ) → j ≤ length bytes → slice_range (bytes ++ behind) (i + 0) (j + 0) ≡ slice_range bytes i j
slice-stays bytes behind i j h =
    let first : i + 0 ≡ i = omega arith in
    let last : j + 0 ≡ j = omega arith in
    ap (λ k. slice_range (bytes ++ behind) k (j + 0)) first ∙ ap (λ k. slice_range (bytes ++ behind) i k) last ∙ slice-front bytes behind i j h

pub behind-nothing : BytesBehindDoNothing
behind-nothing options bytes behind events up = by options.constructs.gfm_autolink_literal
  where
    big : List ℕ
    big = bytes ++ behind

    by : (t : Bool) → cond t (events_with options.tab_size big 0 0 (point 1 1 0 0) (literals_of big true 0 0 events) events) events
        ≡ cond t (events_with options.tab_size bytes 0 0 (point 1 1 0 0) (literals_of bytes true 0 0 events) events) events
    by true =
        let all = events_with options.tab_size bytes 0 0 (point 1 1 0 0) (literals_of bytes true 0 0 events) events in
        ap (λ ts. events_with options.tab_size big 0 0 (point 1 1 0 0) (literals_of big true 0 0 ts) ts) (sym (events-stay events))
        ∙ further-on same-link refl 0 0 options.tab_size bytes big (length bytes) (slice-stays bytes behind) (before-front bytes behind) events up
        ∙ events-stay all
    by false = refl

-- ---- both

pub begins-further : (links : Option Link → Option Link) (lines n : ℕ) (es : List Event) → begins_block es ≡ true → begins_block (map (further_event links lines n) es) ≡ true
begins-further links lines n [] h = refl
begins-further links lines n (e ∷ es) h = h

pub of-parts : LiteralsOfParts
of-parts options lines before bytes links xs ys ends no_link balanced up begins order =
    let there = map (further_event links lines (length before)) ys in
    of-both options (before ++ bytes) xs there balanced order (begins-further links lines (length before) ys begins)
    ∙ ap (λ (ts : List Event). ts ++ literal_events options (before ++ bytes) there) (behind-nothing options before bytes xs up)
    ∙ ap (λ (ts : List Event). literal_events options before xs ++ ts) (literals-move options lines before bytes links ys ends no_link)
