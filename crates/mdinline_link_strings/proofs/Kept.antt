-- What spans keep, strings keep: lists that are balanced, without links and void-tight stay so where strings are read.
use Rattle.std.proofs.Common.{◌≡◌, ◌∙◌, ◌&&◌, ◌++◌, ℕ, List, [], ◌∷◌, Bool, true, false, cond, Option, Some, None, ap, refl, sym, not}
use Rattle.std.proofs.lemmas.Bool.{and_parts}
use Rattle.std.specs.Prelude.{slice_get}
use Rattle.markdown_base.specs.declared.configuration.Constructs.{Constructs}
use Rattle.markdown_base.specs.declared.event.Event.{Event}
use Rattle.markdown_base.specs.declared.event.Kind.TheVariants.{Enter, Exit}
use Rattle.markdown_base.specs.declared.event.Name.{Name}
use Rattle.markdown_base.specs.declared.event.Name.TheVariants.{Data}
use Rattle.markdown_base.specs.Events.{IsBalanced, IsVoidTight, empty, span, is_enter, is_void, same_name}
use Rattle.markdown_base.specs.Virtual.{Seat, end_after}
use Rattle.markdown_base.proofs.Facts.Kinds.{enter-is, exit-is}
use Rattle.markdown_base.proofs.Balanced.{IsBalanced-append, IsBalanced-pair, balanced_from_open, names_after_all-append, names_after_balanced, same_name-true}
use Rattle.markdown_base.specs.OpenNames.{names_after, names_after_all}
use Rattle.markdown_tokenizer.proofs.Readings.Plain.{no-links-append}
use Rattle.markdown_tokenizer.specs.Plain.{HaveNoLinks}
use Rattle.markdown_tokenizer.proofs.Readings.Formed.{tight-behind}
use Rattle.mdinline_constructs.proofs.StringItems.{string-built}
use Rattle.mdconstructs_machines.specs.Spans as spans
use Rattle.mdinline_link_strings.specs.Strings.{in_string_after, is_data, line_as_string, seats_between, with_strings, with_strings_from}
use Rattle.mdinline_link_strings.specs.Laws.{StringsKeepLists}
use Rattle.mdinline_text_machine.proofs.Paragraphs.Formed.{void-append, void-cons}
use Rattle.mdinline_text_machine.proofs.Texts.Built.{IsKeptBySpans}
use Rattle.mdinline_text_machine.proofs.Texts.Tight.{links-kept, tight-kept}
use Rattle.mdinline_text_machine.specs.Parts.{leaf}

-- ---- a line

module _ (bytes : List ℕ) where
  leaf-balanced : (name : Name) (seats : List Seat) → IsBalanced (leaf bytes name seats)
  leaf-balanced name [] = empty
  leaf-balanced name (s ∷ ss) = IsBalanced-pair (spans.event bytes Enter name s.point) (spans.event bytes Exit name (end_after s.end ss)) refl refl refl

  span-balanced : (name : Name) (seats : List Seat) (es : List Event) → is_void name ≡ false → IsBalanced es → IsBalanced (spans.span bytes name seats es)
  span-balanced name [] es other h = h
  span-balanced name (s ∷ ss) es other h = span (spans.event bytes Enter name s.point) (spans.event bytes Exit name (end_after s.end ss)) es [] refl refl refl refl h empty

  balanced-kept : IsKeptBySpans bytes IsBalanced
  balanced-kept = record { none = empty; both = IsBalanced-append; alone = leaf-balanced; around = span-balanced }

-- ---- a list

-- a span of data: an enter, an exit and their name
pub data-is : (e f : Event) → is_data e f ≡ true → (e.kind ≡ Enter) × (f.kind ≡ Exit) × (f.name ≡ e.name)
data-is e f h =
    let both = and_parts (is_enter e.kind && same_name e.name Data) (not (is_enter f.kind) && same_name f.name Data) h in
    let one = and_parts (is_enter e.kind) (same_name e.name Data) both.0 in
    let two = and_parts (not (is_enter f.kind)) (same_name f.name Data) both.1 in
    (enter-is e.kind one.0, exit-is f.kind two.0, same_name-true f.name Data two.1 ∙ sym (same_name-true e.name Data one.1))

pub data-balanced : (e f : Event) → is_data e f ≡ true → IsBalanced (e ∷ f ∷ [])
data-balanced e f h = let is = data-is e f h in IsBalanced-pair e f is.0 is.1 is.2

module _ (on : Constructs) (t : ℕ) (bytes : List ℕ) where
  abbrev line : Event → Event → List Event
  line e f = line_as_string on t bytes e.point f.point

  abbrev read : Bool → List Event → List Event
  read inside es = with_strings_from on t bytes inside es

  -- a list of two events and more, by whether they are data in a string
  abbrev by : Bool → (inside : Bool) → (e f : Event) → List Event → List Event
  by b inside e f es = cond b (line e f ++ read inside es) (e ∷ read (in_string_after inside e) (f ∷ es))

  line-balanced : (e f : Event) → IsBalanced (line e f)
  line-balanced e f = string-built bytes IsBalanced (balanced-kept bytes) on (seats_between t bytes e.point f.point)

  -- the same names are open behind it
  names-same : (o : Option (List Name)) (inside : Bool) (es : List Event) → names_after_all o (read inside es) ≡ names_after_all o es
  names-same None inside es = refl
  names-same (Some st) inside [] = refl
  names-same (Some st) inside (e ∷ []) = refl
  names-same (Some st) inside (e ∷ f ∷ es) = cases (inside && is_data e f) refl (names-same (Some st) inside es) (names-same (names_after e.kind e.name st) (in_string_after inside e) (f ∷ es))
    where
      cases : (b : Bool) → (inside && is_data e f) ≡ b → names_after_all (Some st) (read inside es) ≡ names_after_all (Some st) es
          → names_after_all (names_after e.kind e.name st) (read (in_string_after inside e) (f ∷ es)) ≡ names_after_all (names_after e.kind e.name st) (f ∷ es)
          → names_after_all (Some st) (by b inside e f es) ≡ names_after_all (Some st) (e ∷ f ∷ es)
      cases true h one other =
          names_after_all-append (Some st) (line e f) (read inside es) ∙ ap (λ o. names_after_all o (read inside es)) (names_after_balanced (line-balanced e f) st)
          ∙ one
          ∙ ap (λ o. names_after_all o es) (sym (names_after_balanced (data-balanced e f (and_parts inside (is_data e f) h).1) st))
          ∙ sym (names_after_all-append (Some st) (e ∷ f ∷ []) es)
      cases false h one other = other

  no-links : (inside : Bool) (es : List Event) → HaveNoLinks es → HaveNoLinks (read inside es)
  no-links inside [] h = tt
  no-links inside (e ∷ []) h = h
  no-links inside (e ∷ f ∷ es) h = elim (inside && is_data e f) as (λ b. HaveNoLinks (by b inside e f es)) [
    | true ↦ no-links-append (line e f) (read inside es) (string-built bytes HaveNoLinks (links-kept bytes) on (seats_between t bytes e.point f.point)) (no-links inside es h.1.1)
    | false ↦ (h.0, no-links (in_string_after inside e) (f ∷ es) h.1)
  ]

  -- an exit stays where it is
  pub exit-first : (inside : Bool) (e : Event) (es : List Event) → e.kind ≡ Exit → read inside (e ∷ es) ≡ e ∷ read (in_string_after inside e) es
  exit-first inside e [] h = refl
  exit-first true e (f ∷ es) h =
      ap (λ k. cond ((is_enter k && same_name e.name Data) && (not (is_enter f.kind) && same_name f.name Data)) (line e f ++ read true es) (e ∷ read (in_string_after true e) (f ∷ es))) h
  exit-first false e (f ∷ es) h = refl

  exit-stays : (inside : Bool) (e : Event) (es : List Event) → e.kind ≡ Exit → slice_get (read inside (e ∷ es)) 0 ≡ Some e
  exit-stays inside e es h = ap (λ l. slice_get l 0) (exit-first inside e es h)

  tight : (inside : Bool) (es : List Event) → IsVoidTight es → IsVoidTight (read inside es)
  tight inside [] h = h
  tight inside (e ∷ []) h = h
  tight inside (e ∷ f ∷ es) h =
      let later = tight-behind e (f ∷ es) h in
      let rest = read (in_string_after inside e) (f ∷ es) in
      elim (inside && is_data e f) as (λ b. IsVoidTight (by b inside e f es)) [
        | true ↦ void-append (line e f) (read inside es) (string-built bytes IsVoidTight (tight-kept bytes) on (seats_between t bytes e.point f.point)) (tight inside es (tight-behind f es later))
        | false ↦ void-cons e rest (λ enter void.
            let r = h 0 e refl enter void in
            let same : f ≡ r.0 = some-same f r.0 r.1 in
            (f, exit-stays (in_string_after inside e) f es (ap (λ x. x.kind) same ∙ r.2), ap (λ x. x.kind) same ∙ r.2, ap (λ x. x.name) same ∙ r.3)) (tight (in_string_after inside e) (f ∷ es) later)
      ]
    where
      some-same : (x y : Event) → Some x ≡ Some y → x ≡ y
      some-same x y h = cc

pub strings_keep : StringsKeepLists
strings_keep on t bytes es = (
  λ h. balanced_from_open (with_strings on t bytes es) (names-same on t bytes (Some []) false es ∙ names_after_balanced h []),
  no-links on t bytes false es,
  tight on t bytes false es,
)
