-- Within a limit of depth no more spans that nest are in one another than it says, and elements are as deep.
use Rattle.std.proofs.Common.{◌≡◌, ℕ, suc, ◌+◌, ◌*◌, ◌≤◌, ◌++◌, Bool, true, false, cond, List, [], ◌∷◌, sym, subst, ◌∙◌, arith}
use Rattle.std.proofs.lemmas.Bool.{and_parts, leb-false, not-true}
use Rattle.std.proofs.lemmas.List.{append-nil}
use Rattle.std.proofs.lemmas.Option.{none-some}
use Rattle.std.specs.Prelude.{◌&&◌, max, nat_le, not, reverse}
use Rattle.markdown_base.specs.declared.event.Event.{Event}
use Rattle.markdown_base.specs.Events.{IsBalanced}
use Rattle.mdhtml_laws.specs.Depth.{HtmlIsShallow, HtmlWithNotesIsShallow, HtmlWithoutCallsIsShallow}
use Rattle.mdhtml_laws.proofs.Levels.{both, nest, stays}
use Rattle.mdhtml_laws.proofs.NoteLevels.{notes-up-to, section-goes}
use Rattle.mdhtml_depth.proofs.Kept.{balance-kept, behind-enter, deep-enter, depth-kept, span-back}
use Rattle.mdhtml_depth.specs.Depth.{behind, has_depth, is_deep, nests, within}
use Rattle.mdhtml_document.specs.declared.shapes.Mode.TheVariants as mode
use Rattle.mdhtml_document.specs.Html.{pieces, section, uncalled}
use Rattle.mdhtml_document.specs.Notes.{calls_in, labels_of, notes_in}
use Rattle.mdhtml_document.specs.Spans.{Nothing, Span, Spans, events_of, spans_of}
use Rattle.mdhtml_document.proofs.Both.{AreNamed, balanced-named, keep-events}
use Rattle.mdhtml_document.proofs.SpanFacts.{AreKinded, opened-kinded, span-append}

-- ---- depth

-- spans in so many that nest, and events behind them
record IsWithin (limit o : ℕ) (s : Spans) (zs : List Event) : Type 0 where
  few : o + nest s ≤ limit
  rest : has_depth limit o zs ≡ true

-- one more is open in a span that nests
inner-few : (b : Bool) (limit o : ℕ) → (b && nat_le limit o) ≡ false → o ≤ limit → cond b (suc o) o ≤ limit
inner-few true limit o h k = leb-false limit o h
inner-few false limit o h k = k

span-few : (b : Bool) (limit o inner outer : ℕ) → cond b (suc o) o + inner ≤ limit → o + outer ≤ limit → o + max (cond b (suc inner) inner) outer ≤ limit
span-few true limit o inner outer h k = omega (arith, h, k)
span-few false limit o inner outer h k = omega (arith, h, k)

within-limit : (limit o : ℕ) (s : Spans) (zs : List Event) → AreKinded s → AreNamed s → has_depth limit o (events_of s ++ zs) ≡ true → o ≤ limit → IsWithin limit o s zs
within-limit limit o Nothing zs h n d k = record { few = omega (arith, k); rest = d }
within-limit limit o (Span e f s t) zs h n d k =
    let b = nests e.name in
    let ys = events_of t ++ zs in
    let all : has_depth limit o (e ∷ (events_of s ++ f ∷ ys)) ≡ true = subst (λ l. has_depth limit o l ≡ true) (span-append e f s t zs) d in
    let first = and_parts (not (is_deep limit o e)) (has_depth limit (behind o e) (events_of s ++ f ∷ ys)) all in
    let shallow : (b && nat_le limit o) ≡ false = sym (deep-enter limit o e h.0) ∙ not-true (is_deep limit o e) first.0 in
    let i-is = behind-enter o e h.0 in
    let i-few : behind o e ≤ limit = subst (λ i. i ≤ limit) (sym i-is) (inner-few b limit o shallow k) in
    let inner = within-limit limit (behind o e) s (f ∷ ys) h.2 n.1 first.1 i-few in
    let last = and_parts (not (is_deep limit (behind o e) f)) (has_depth limit (behind (behind o e) f) ys) inner.rest in
    let back = subst (λ i. has_depth limit i ys ≡ true) (span-back limit o e f h.0 h.1 n.0) last.1 in
    let outer = within-limit limit o t zs h.3 n.2 back k in
    record { few = span-few b limit o (nest s) (nest t) (subst (λ i. i + nest s ≤ limit) i-is inner.few) outer.few; rest = outer.rest }

-- what is left of events nests no deeper than the limit
nest-left : (limit : ℕ) (events : List Event) → IsBalanced events → nest (spans_of (within limit 0 events)) ≤ limit
nest-left limit events balanced =
    let left = within limit 0 events in
    let s = spans_of left in
    let kept = balance-kept limit 0 events balanced in
    let are : left ≡ events_of s = sym (keep-events left kept) in
    let kinded = (opened-kinded left).0 in
    let depth : has_depth limit 0 (events_of s ++ []) ≡ true = subst (λ l. has_depth limit 0 l ≡ true) (are ∙ sym (append-nil (events_of s))) (depth-kept limit events balanced) in
    let few = (within-limit limit 0 s [] kinded (balanced-named left kept) depth (omega arith)).few in
    omega (arith, few)

pub html-shallow : HtmlIsShallow
html-shallow limit options bytes known tab events balanced =
    let few = nest-left limit events balanced in
    (stays options bytes known tab 1 (λ place c is. omega arith) mode.Flow [] (spans_of (within limit 0 events)) limit 0 (2 * limit + 6) few (omega arith)).deep

pub uncalled-shallow : HtmlWithoutCallsIsShallow
uncalled-shallow limit options bytes lookup tab events balanced =
    let few = nest-left limit events balanced in
    (stays options bytes (uncalled lookup) tab 0 (λ place c is. absurd (none-some c is)) mode.Flow [] (spans_of (within limit 0 events)) limit 0 (2 * limit + 5) few (omega arith)).deep

pub notes-shallow : HtmlWithNotesIsShallow
notes-shallow limit options bytes known tab events balanced =
    let left = within limit 0 events in
    let s = spans_of left in
    let few = nest-left limit events balanced in
    (both 0 0 0 (2 * limit + 9) (pieces options bytes known tab mode.Flow [] s) (section options bytes known tab left) (stays options bytes known tab 1 (λ place c is. omega arith) mode.Flow [] s limit 0 (2 * limit + 9) few (omega arith))
    (section-goes options bytes known tab limit 0 (2 * limit + 9) (omega arith) (notes_in bytes s) (notes-up-to bytes limit s few) (labels_of (reverse (calls_in bytes left))))).deep
