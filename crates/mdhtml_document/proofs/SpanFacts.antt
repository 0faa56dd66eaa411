-- The spans of events: their kinds, what is in them, and what is said of them by the events behind an enter.
use Rattle.std.proofs.Common.{◌≡◌, ℕ, suc, ◌+◌, List, [], ◌∷◌, ◌++◌, length, take, ap, sym, subst, refl, ◌∙◌, append_assoc, length-append, arith}
use Rattle.std.proofs.Math.Seq.{take-append_seam}
use denote.Enum.Bare.{same_true}
use Rattle.std.specs.List.{slice_range}
use Rattle.std.specs.Prelude.{⊤, ◌&&◌, ◌||◌, not, Bool, true, false, cond}
use Rattle.mddocument_link_targets.proofs.SpanEnds.{at_end, at_enter, at_exit}
use Rattle.markdown_base.specs.declared.event.Event.{Event}
use Rattle.markdown_base.specs.declared.event.Kind.{Kind}
use Rattle.markdown_base.specs.declared.event.Kind.TheVariants.{Enter, Exit}
use Rattle.markdown_base.specs.contracts.event.Name.{the_type}
use Rattle.markdown_base.specs.declared.event.Name.{Name}
use Rattle.markdown_base.specs.declared.event.Name.TheVariants.{CharacterEscapeValue, Data}
use Rattle.markdown_base.specs.Events.{is_enter, same_name}
pub use Rattle.mdhtml_document.specs.Spans.{AreKinded}
use Rattle.mdhtml_document.specs.Spans.{Nothing, Opened, Outer, Span, Spans, entered, events_of, opened, opened_by}
use Rattle.mdhtml_document.specs.Names.{inline_of}
use Rattle.mdhtml_document.specs.Values.{reading_of, said}
use Rattle.mdhtml_document.specs.Walks.{inner_bytes, said_at, says_bytes}
use Rattle.mddocument_link_targets.specs.Spans.{inside, size_from}
use Rattle.mddocument_link_targets.specs.Strings.{given}

abbrev pub AreOuter : List Outer → Type 0
AreOuter [] = ⊤
AreOuter (o ∷ os) = (o.exit.kind ≡ Exit) × AreKinded o.behind × AreOuter os

abbrev pub IsKinded : Opened → Type 0
IsKinded o = AreKinded o.inside × AreOuter o.around

entered-kinded : (e : Event) (s : Spans) (os : List Outer) → e.kind ≡ Enter → AreKinded s → AreOuter os → IsKinded (entered e s os)
entered-kinded e s [] h k o = (tt, tt)
entered-kinded e s (x ∷ xs) h k o = ((h, o.0, k, o.1), o.2)

step-kinded : (k : Kind) (e : Event) (rest : Opened) → e.kind ≡ k → IsKinded rest → IsKinded (opened_by k e rest)
step-kinded Enter e rest h r = entered-kinded e rest.inside rest.around h r.0 r.1
step-kinded Exit e rest h r = (tt, (h, r.0, r.1))

pub opened-kinded : (es : List Event) → IsKinded (opened es)
opened-kinded [] = (tt, tt)
opened-kinded (e ∷ es) = step-kinded e.kind e (opened es) refl (opened-kinded es)

-- ---- what is in a span

-- the events of a span, and others behind them
pub span-append : (e f : Event) (s behind : Spans) (zs : List Event) → events_of (Span e f s behind) ++ zs ≡ e ∷ (events_of s ++ f ∷ (events_of behind ++ zs))
span-append e f s behind zs = ap (λ (x : List Event). e ∷ x) (append_assoc (events_of s) (f ∷ events_of behind) zs)

pub passed-size : (depth : ℕ) (s : Spans) (zs : List Event) → AreKinded s → size_from depth (events_of s ++ zs) ≡ length (events_of s) + size_from depth zs
passed-size depth Nothing zs h = omega arith
passed-size depth (Span e f s behind) zs h =
    let whole = ap (size_from depth) (span-append e f s behind zs) in
    let first = at_enter depth e (events_of s ++ f ∷ (events_of behind ++ zs)) h.0 in
    let inner = passed-size (suc depth) s (f ∷ (events_of behind ++ zs)) h.2 in
    let last = at_exit depth f (events_of behind ++ zs) h.1 in
    let outer = passed-size depth behind zs h.3 in
    let long = ap suc (length-append (events_of s) (f ∷ events_of behind)) in
    omega (arith, whole, first, inner, last, outer, long)

-- what is in a span are the events of the spans in it
pub inside-of : (s : Spans) (f : Event) (ys : List Event) → AreKinded s → f.kind ≡ Exit → inside (events_of s ++ f ∷ ys) ≡ events_of s
inside-of s f ys h exits =
    let size : size_from 0 (events_of s ++ f ∷ ys) ≡ length (events_of s) =
    let a = passed-size 0 s (f ∷ ys) h in
    let z = at_end f ys exits in
    omega (arith, a, z)
    in
    ap (λ n. take n (events_of s ++ f ∷ ys)) size ∙ take-append_seam (events_of s) (f ∷ ys)

-- ---- what a span says

given-by : (k l : Kind) (t : List ℕ) → k ≡ Enter → l ≡ Exit → cond (is_enter k && not (is_enter l)) t [] ≡ t
given-by k l t h e = ap (λ x. cond (is_enter x && not (is_enter l)) t []) h ∙ ap (λ x. cond (not (is_enter x)) t []) e

none-by : (k l : Kind) (t : List ℕ) → k ≡ Enter → l ≡ Enter → cond (is_enter k && not (is_enter l)) t [] ≡ []
none-by k l t h e = ap (λ x. cond (is_enter x && not (is_enter l)) t []) h ∙ ap (λ x. cond (not (is_enter x)) t []) e

pub said-of : (bytes : List ℕ) (e f : Event) (s : Spans) (ys : List Event) → e.kind ≡ Enter → f.kind ≡ Exit → AreKinded s
    → said_at bytes e (events_of s ++ f ∷ ys) ≡ said bytes e f s
said-of bytes e f Nothing ys h k a = given-by e.kind f.kind (given bytes (reading_of (inline_of e.name)) e.name e.point.index f.point.index) h k
said-of bytes e f (Span d g s behind) ys h k a = none-by e.kind d.kind (given bytes (reading_of (inline_of e.name)) e.name e.point.index d.point.index) h a.0

-- ---- a span that says its bytes

given-by-name : (b c : Bool) (bytes : List ℕ) (n : Name) (from to : ℕ) → same_name n Data ≡ b → same_name n CharacterEscapeValue ≡ c → b || c ≡ true
    → given bytes (reading_of (inline_of n)) n from to ≡ slice_range bytes from to
given-by-name true c bytes n from to is escaped h =
    subst (λ m. given bytes (reading_of (inline_of m)) m from to ≡ slice_range bytes from to) (sym (same_true the_type tt n Data is)) refl
given-by-name false true bytes n from to is escaped h =
    subst (λ m. given bytes (reading_of (inline_of m)) m from to ≡ slice_range bytes from to) (sym (same_true the_type tt n CharacterEscapeValue escaped)) refl
given-by-name false false bytes n from to is escaped h = cc

pub said_bytes : (bytes : List ℕ) (e : Event) (es : List Event) → says_bytes e.name ≡ true → inner_bytes bytes e es ≡ said_at bytes e es
said_bytes bytes e [] h = refl
said_bytes bytes e (f ∷ fs) h =
    sym
    (ap (λ (t : List ℕ). cond (is_enter e.kind && not (is_enter f.kind)) t [])
    (given-by-name (same_name e.name Data) (same_name e.name CharacterEscapeValue) bytes e.name e.point.index f.point.index refl refl h))
