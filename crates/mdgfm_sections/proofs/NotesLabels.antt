-- Labels of footnote definitions among balanced events: those of both of two lists; and those of the events alone that begin and end labels.
use Rattle.std.proofs.Common.{◌≡◌, ◌∙◌, ◌++◌, ℕ, Bool, true, false, cond, List, [], ◌∷◌, ap, refl, sym, subst}
use Rattle.std.proofs.lemmas.List.{append_assoc}
use Rattle.std.specs.Prelude.{◌&&◌, slice_range}
use Rattle.markdown_base.specs.declared.event.Event.{Event}
use Rattle.markdown_base.specs.declared.event.Kind.TheVariants.{Enter, Exit}
use Rattle.markdown_base.specs.declared.event.Name.{Name}
use Rattle.markdown_base.specs.declared.event.Name.TheVariants.{GfmFootnoteDefinitionLabelString}
use Rattle.markdown_base.specs.Events.{IsBalanced, empty, is_enter, same_name, span}
use Rattle.markdown_base.proofs.Balanced.{IsBalanced-append}
use Rattle.mddocument_laws.proofs.Chosen.{bare, chosen, chosen-append}
use Rattle.mdgfm_events.specs.Spans.{span_end}
use Rattle.mdgfm_events.proofs.Sizes.{end-last, end-over, split}
use Rattle.mdgfm_footnotes.specs.CallEvents.{labels_in}

-- the name of the label of a footnote definition
abbrev pub is_note : Name → Bool
is_note n = same_name n GfmFootnoteDefinitionLabelString

module _ (bytes : List ℕ) where
  -- the label of a span, if it is one
  abbrev here : Event → Event → List (List ℕ)
  here e f = cond (is_note e.name) (slice_range bytes e.point.index f.point.index ∷ []) []

  exit-none : (f : Event) (rest : List Event) → f.kind ≡ Exit → labels_in bytes (f ∷ rest) ≡ labels_in bytes rest
  exit-none f rest exits = ap (λ k. cond (is_enter k && is_note f.name) (slice_range bytes f.point.index (span_end f.point 0 rest).index ∷ labels_in bytes rest) (labels_in bytes rest)) exits

  of-span : (e f : Event) (us rest : List Event) → e.kind ≡ Enter → f.kind ≡ Exit → IsBalanced us → labels_in bytes (us ++ f ∷ rest) ≡ labels_in bytes us ++ labels_in bytes (f ∷ rest)
      → labels_in bytes (e ∷ (us ++ f ∷ rest)) ≡ here e f ++ (labels_in bytes us ++ labels_in bytes rest)
  of-span e f us rest enters exits bu both =
      let end = end-over e.point 0 us (f ∷ rest) bu ∙ end-last e.point f rest exits in
      let inside : labels_in bytes (us ++ f ∷ rest) ≡ labels_in bytes us ++ labels_in bytes rest = both ∙ ap (λ l. labels_in bytes us ++ l) (exit-none f rest exits) in
      (λ i. cond (is_enter (enters i) && is_note e.name) (slice_range bytes e.point.index (end i).index ∷ inside i) (inside i)) ∙ by (is_note e.name)
    where
      all : List (List ℕ)
      all = labels_in bytes us ++ labels_in bytes rest

      by : (b : Bool) → cond b (slice_range bytes e.point.index f.point.index ∷ all) all ≡ cond b (slice_range bytes e.point.index f.point.index ∷ []) [] ++ all
      by true = refl
      by false = refl

  -- Balanced events in front of others have their own labels
  pub notes-both : (xs ys : List Event) → IsBalanced xs → labels_in bytes (xs ++ ys) ≡ labels_in bytes xs ++ labels_in bytes ys
  notes-both xs ys empty = refl
  notes-both xs ys (span e f us vs is enters exits same bu bv) =
      let h = here e f in
      let u = labels_in bytes us in
      let v = labels_in bytes vs in
      let y = labels_in bytes ys in
      let whole : labels_in bytes xs ≡ h ++ (u ++ v) = ap (labels_in bytes) is ∙ of-span e f us vs enters exits bu (notes-both us (f ∷ vs) bu) in
      ap (labels_in bytes) (split e f us vs ys is)
      ∙ of-span e f us (vs ++ ys) enters exits bu (notes-both us (f ∷ (vs ++ ys)) bu)
      ∙ ap (λ l. h ++ (u ++ l)) (notes-both vs ys bv)
      ∙ sym (append_assoc h (u ++ v) y ∙ ap (λ l. h ++ l) (append_assoc u v y))
      ∙ ap (λ l. l ++ y) (sym whole)

-- ---- the events that begin and end labels

-- a span, and what is behind it
abbrev with_span : (t : Bool) → Event → List Event → Event → List Event → List Event
with_span t e xs f ys = let tail = cond t (bare f ∷ ys) ys in cond t (bare e ∷ (xs ++ tail)) (xs ++ tail)

chosen-span : (e f : Event) (us vs : List Event) {es : List Event} → es ≡ e ∷ (us ++ f ∷ vs) → f.name ≡ e.name → chosen is_note es ≡ with_span (is_note e.name) e (chosen is_note us) f (chosen is_note vs)
chosen-span e f us vs is same =
    let tail = λ (t : Bool). cond t (bare f ∷ chosen is_note vs) (chosen is_note vs) in
    let inside : chosen is_note (us ++ f ∷ vs) ≡ chosen is_note us ++ tail (is_note e.name) = chosen-append is_note us (f ∷ vs) ∙ ap (λ n. chosen is_note us ++ tail (is_note n)) same in
    ap (chosen is_note) is ∙ ap (λ l. cond (is_note e.name) (bare e ∷ l) l) inside

pub chosen-balanced : {es : List Event} → IsBalanced es → IsBalanced (chosen is_note es)
chosen-balanced empty = empty
chosen-balanced (span e f us vs is enters exits same bu bv) = subst IsBalanced (sym (chosen-span e f us vs is same)) (by (is_note e.name) (chosen-balanced bu) (chosen-balanced bv))
  where
    by : (t : Bool) → IsBalanced (chosen is_note us) → IsBalanced (chosen is_note vs) → IsBalanced (with_span t e (chosen is_note us) f (chosen is_note vs))
    by true cu cv = span (bare e) (bare f) (chosen is_note us) (chosen is_note vs) refl enters exits same cu cv
    by false cu cv = IsBalanced-append (chosen is_note us) (chosen is_note vs) cu cv

-- Balanced events have the labels that these have
pub notes-chosen : (bytes : List ℕ) {es : List Event} → IsBalanced es → labels_in bytes (chosen is_note es) ≡ labels_in bytes es
notes-chosen bytes empty = refl
notes-chosen bytes (span e f us vs is enters exits same bu bv) =
    ap (labels_in bytes) (chosen-span e f us vs is same)
    ∙ by (is_note e.name) refl (notes-chosen bytes bu) (notes-chosen bytes bv)
    ∙ sym (ap (labels_in bytes) is ∙ of-span bytes e f us vs enters exits bu (notes-both bytes us (f ∷ vs) bu))
  where
    cu : IsBalanced (chosen is_note us)
    cu = chosen-balanced bu

    both : List (List ℕ)
    both = labels_in bytes us ++ labels_in bytes vs

    one : List ℕ
    one = slice_range bytes e.point.index f.point.index

    by : (t : Bool) → is_note e.name ≡ t → labels_in bytes (chosen is_note us) ≡ labels_in bytes us → labels_in bytes (chosen is_note vs) ≡ labels_in bytes vs
        → labels_in bytes (with_span t e (chosen is_note us) f (chosen is_note vs)) ≡ cond t (one ∷ []) [] ++ both
    by true t u v =
        of-span bytes (bare e) (bare f) (chosen is_note us) (chosen is_note vs) enters exits cu (notes-both bytes (chosen is_note us) (bare f ∷ chosen is_note vs) cu)
        ∙ (λ i. cond (t i) (one ∷ []) [] ++ (u i ++ v i))
    by false t u v = notes-both bytes (chosen is_note us) (chosen is_note vs) cu ∙ (λ i. u i ++ v i)

-- So lists have the same labels if they have the same events of labels
pub notes-alike : (bytes : List ℕ) (xs ys : List Event) → IsBalanced xs → IsBalanced ys → chosen is_note xs ≡ chosen is_note ys → labels_in bytes xs ≡ labels_in bytes ys
notes-alike bytes xs ys bx by same = sym (notes-chosen bytes bx) ∙ ap (labels_in bytes) same ∙ notes-chosen bytes by
