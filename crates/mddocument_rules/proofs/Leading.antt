-- Events in which each link and each image leads to a destination, or to a label that is defined. So it is of two lists if of both.
use Rattle.mddocument_rules.proofs.Prelude.{◌≡◌, ◌∙◌, ℕ, zero, suc, Bool, true, false, cond, List, [], ◌∷◌, ◌++◌, None, Option, Some, append_assoc, ap, false≢true, option_map, refl, sym, ◌&&◌, ◌||◌, Event, Exit, Name, IsBalanced, Point, is_enter, same_name, unlinked_event}
use Rattle.std.proofs.lemmas.Bool.{or_parts}
use Rattle.std.proofs.Math.Bool.{and-false}
use Rattle.markdown_base.specs.declared.event.Name.TheVariants.{Image, Label, Link}
use Rattle.mdinline_emphasis.specs.declared.pairs.Style.TheVariants.{Emphasis as OfEmphasis, Strong as OfStrong, Struck, StruckTwice}
use Rattle.mdinline_labels.specs.Labels.{normalised}
use Rattle.mdinline_links.specs.Linked.{around, last_place}
use Rattle.mddocument_laws.proofs.Chosen.{AreOther}
use Rattle.mddocument_laws.proofs.EmphasisEvents.{IsOfStyle}
use Rattle.mddocument_link_targets.proofs.SpanEnds.{spans-end}
use Rattle.mddocument_link_targets.specs.declared.targets.Target.TheVariants as target
use Rattle.mddocument_link_targets.specs.Spans.{inside}
use Rattle.mddocument_link_targets.specs.Targets.{enters_link, target_in, target_of}
use Rattle.mddocument_rules.proofs.HeldParts.{AreApart}

-- a name of a link or of an image
abbrev pub is_reference : Name → Bool
is_reference n = same_name n Link || same_name n Image

pub references-apart : AreApart is_reference
references-apart = record {
  styles = λ s. elim s as (λ s. IsOfStyle (λ n. is_reference n ≡ false) s) [ OfEmphasis ↦ (refl, refl, refl) | OfStrong ↦ (refl, refl, refl) | Struck ↦ (refl, refl, refl) | StruckTwice ↦ (refl, refl, refl) ];
  data_is = refl;
  label_is = refl;
  text_is = refl;
}

pub enters-none : (e : Event) → is_reference e.name ≡ false → enters_link e ≡ false
enters-none e h =
    let both = or_parts (same_name e.name Link) (same_name e.name Image) h in
    (λ i. (is_enter e.kind && both.0 i) || (is_enter e.kind && both.1 i)) ∙ (λ i. and-false (is_enter e.kind) i || and-false (is_enter e.kind) i)

module _ (bytes : List ℕ) (defined : List ℕ → Bool) where
  -- a label, in the form by which labels are compared, is that of a text which is defined as a label
  abbrev pub IsOfDefined : List ℕ → Type 0
  IsOfDefined label = (text : List ℕ) × (label ≡ normalised text) × (defined text ≡ true)

  -- so it is of the label that a link leads to, by what is in it, if it leads to one
  abbrev pub LeadsWell : List Event → Type 0
  LeadsWell link = (label : List ℕ) → target_in bytes link ≡ target.Label label → IsOfDefined label

  -- Behind the enter of a link, which stands at a place, stand the events in it, and its exit. They begin with a label, at the same place
  pub record IsLink (p : Point) (es : List Event) : Type 0 where
    pub inner : List Event
    pub first : Event
    pub others : List Event
    pub begins : inner ≡ first ∷ others
    pub labelled : first.name ≡ Label
    pub here : first.point ≡ p
    pub exit : Event
    pub more : List Event
    pub are : es ≡ inner ++ exit ∷ more
    pub balanced : IsBalanced inner
    pub exits : exit.kind ≡ Exit
    pub leads : LeadsWell inner

  abbrev pub Lead : List Event → Type 0
  Lead [] = Unit {0}
  Lead (e ∷ es) = (enters_link e ≡ true → IsLink e.point es) × Lead es

  abbrev pub link-more : (p : Point) (xs ys : List Event) → IsLink p xs → IsLink p (xs ++ ys)
  link-more p xs ys h = record {
    inner = h.inner;
    first = h.first;
    others = h.others;
    begins = h.begins;
    labelled = h.labelled;
    here = h.here;
    exit = h.exit;
    more = h.more ++ ys;
    are = ap (λ l. l ++ ys) h.are ∙ append_assoc h.inner (h.exit ∷ h.more) ys;
    balanced = h.balanced;
    exits = h.exits;
    leads = h.leads;
  }

  pub lead-both : (xs ys : List Event) → Lead xs → Lead ys → Lead (xs ++ ys)
  lead-both [] ys h k = k
  lead-both (x ∷ xs) ys h k = ((λ e. link-more x.point xs ys (h.0 e)), lead-both xs ys h.1 k)

  pub lead-back : (xs ys : List Event) → Lead (xs ++ ys) → Lead ys
  lead-back [] ys h = h
  lead-back (x ∷ xs) ys h = lead-back xs ys h.1

  pub lead-free : (es : List Event) → AreOther is_reference es → Lead es
  lead-free [] h = tt
  lead-free (e ∷ es) h = ((λ is. absurd (false≢true (sym (enters-none e h.0) ∙ is))), lead-free es h.1)

  -- a span around balanced events that lead so, and begin with a label
  pub lead-around : (n : Name) (x : Event) (xs : List Event) → x.name ≡ Label → IsBalanced (x ∷ xs) → LeadsWell (x ∷ xs) → Lead (x ∷ xs) → Lead (around n (x ∷ xs))
  lead-around n x xs label b leads h =
      let exit = unlinked_event Exit n (last_place x.point xs) in (
        (λ e. record { inner = x ∷ xs; first = x; others = xs; begins = refl; labelled = label; here = refl; exit = exit; more = []; are = refl; balanced = b; exits = refl; leads = leads }),
        lead-both (x ∷ xs) (exit ∷ []) h ((λ e. absurd (false≢true e)), tt),
      )

  -- ---- so each link and each image does
  abbrev Of : Option (List Event) → List ℕ → Type 0
  Of o label = option_map (target_in bytes) o ≡ Some (target.Label label) → IsOfDefined label

  abbrev inside_of : Option (List Event) → Option (List Event)
  inside_of o = elim o as (λ _. Option (List Event)) [ None ↦ None | Some es ↦ Some (inside es) ]

  first-leads : (p : Point) (b : Bool) (es : List Event) (label : List ℕ) → (b ≡ true → IsLink p es) → Of (inside_of (cond b (Some es) None)) label
  first-leads p false es label h e = absurd (cc)
  first-leads p true es label h e =
      let l = h refl in
      let there : inside es ≡ l.inner = ap inside l.are ∙ (spans-end l.inner l.more l.exit l.balanced l.exits).0 in
      let leads : target_in bytes (inside es) ≡ target.Label label = cc in
      l.leads label (ap (target_in bytes) (sym there) ∙ leads)

  pub lead-target : (es : List Event) (at : ℕ) (label : List ℕ) → Lead es → target_of bytes es at ≡ Some (target.Label label) → IsOfDefined label
  lead-target [] zero label h e = absurd (cc)
  lead-target [] (suc at) label h e = absurd (cc)
  lead-target (x ∷ es) zero label h e = first-leads x.point (enters_link x) es label h.0 e
  lead-target (x ∷ es) (suc at) label h e = lead-target es at label h.1 e
