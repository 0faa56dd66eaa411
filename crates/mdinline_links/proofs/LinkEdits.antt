-- The edits of brackets and runs can be made, and leave links, images and emphasis.
use Rattle.std.proofs.Common.{◌≡◌, ◌+◌, ◌-◌, ◌∙◌, ℕ, List, [], ◌∷◌, ◌++◌, Bool, true, false, cond, Option, inl, inr, ap, append-nil, arith, drop, length, refl, subst, sym}
use Rattle.std.proofs.Math.Seq.{drop-length}
use Rattle.std.proofs.lemmas.Bool.{cases_Bool}
use Rattle.std.specs.List.{AllByRecursion}
use Rattle.std.specs.Prelude.{◌&&◌, ◌||◌}
use Rattle.markdown_base.specs.declared.event.Event.{Event}
use Rattle.markdown_base.specs.declared.event.Name.TheVariants.{LabelEnd, LabelImage, LabelLink, LabelMarker}
use Rattle.markdown_base.specs.Events.{IsBalanced, is_enter, same_name}
use Rattle.markdown_edits.proofs.Edits.Splices.{edited-spliced}
use Rattle.markdown_edits.specs.Edited.{edited}
use Rattle.markdown_edits.specs.Edits.{AreDisjoint, Edit, edit_at}
use Rattle.markdown_edits.specs.Spliced.{spliced}
use Rattle.markdown_tokenizer.proofs.Readings.Plain.{no-links-below}
use Rattle.markdown_tokenizer.specs.Plain.{HaveNoLinks}
use Rattle.mdinline_emphasis.proofs.RunEdits.{emphasis-can-be-made}
use Rattle.mdinline_emphasis.specs.Emphasis.{paired}
use Rattle.mdinline_emphasis.specs.RunEdits.{edits_of}
use Rattle.mdinline_emphasis.specs.Runs.{runs_in, with_emphasis}
use Rattle.mdinline_links.proofs.Leaves.{links-balanced, links-unlinked}
use Rattle.mdinline_links.proofs.Plain.{emphasis-alone}
use Rattle.mdinline_links.proofs.Spans.{spans-have}
use Rattle.mdinline_links.specs.Laws.{IsNoBracket}
use Rattle.mdinline_links.specs.LinkEdits.{LinksCanBeMade, has_brackets, is_of_bracket}
use Rattle.mdinline_links.specs.Linked.{outermost_spans, with_links}

-- ---- one edit for all

module _ (events new : List Event) where
  abbrev whole : List Edit
  whole = edit_at 0 (length events) new ∷ []

  whole-apart : AreDisjoint 0 whole (length events)
  whole-apart = (omega arith, omega arith)

  whole-spliced : (place : ℕ → Option ℕ) → spliced place whole 0 events ≡ new
  whole-spliced place =
      let all : 0 + length events - 0 ≡ length events = omega arith in
      ap (λ n. new ++ spliced place [] (0 + length events) (drop n events)) all
      ∙ ap (λ xs. new ++ spliced place [] (0 + length events) xs) (drop-length events)
      ∙ append-nil new

  whole-edited : HaveNoLinks events → edited whole events ≡ new
  whole-edited none = edited-spliced whole events whole-apart (no-links-below (length events) events none) ∙ whole-spliced _

-- ---- no brackets

none-parts : (xs ys : List Event) → has_brackets (xs ++ ys) ≡ false → (has_brackets xs ≡ false) × (has_brackets ys ≡ false)
none-parts [] ys h = (refl, h)
none-parts (x ∷ xs) ys h =
    let first = none-first (is_of_bracket x.name) (has_brackets (xs ++ ys)) h in
    let more = none-parts xs ys first.1 in
    (rw (first.0, more.0) refl, more.1)
  where
    none-first : (a b : Bool) → a || b ≡ false → (a ≡ false) × (b ≡ false)
    none-first true b k = cc
    none-first false b k = (refl, k)

both-false : (a b : Bool) → a || b ≡ false → (a ≡ false) × (b ≡ false)
both-false true b k = cc
both-false false b k = (refl, k)

and-false : (a b : Bool) → b ≡ false → a && b ≡ false
and-false true b h = h
and-false false b h = refl

is-no-bracket : (span : List Event) → has_brackets span ≡ false → IsNoBracket span
is-no-bracket [] h = (refl, refl, refl)
is-no-bracket (e ∷ es) h =
    let first = (both-false (is_of_bracket e.name) (has_brackets es) h).0 in
    let a = both-false (same_name e.name LabelLink) (same_name e.name LabelImage || (same_name e.name LabelEnd || same_name e.name LabelMarker)) first in
    let b = both-false (same_name e.name LabelImage) (same_name e.name LabelEnd || same_name e.name LabelMarker) a.1 in
    let c = both-false (same_name e.name LabelEnd) (same_name e.name LabelMarker) b.1 in
    let k = is_enter e.kind in
    let link = and-false k (same_name e.name LabelLink) a.0 in
    let image = and-false k (same_name e.name LabelImage) b.0 in
    (ap (λ t. t || (k && same_name e.name LabelImage)) link ∙ image, and-false k (same_name e.name LabelMarker) c.1, and-false k (same_name e.name LabelEnd) c.0)

all-no-brackets : (spans : List (List Event)) → AllByRecursion (λ s. has_brackets s ≡ false) spans → AllByRecursion IsNoBracket spans
all-no-brackets [] h = tt
all-no-brackets (s ∷ spans) h = (is-no-bracket s h.0, all-no-brackets spans h.1)

plain-is : (one : Bool) (bytes : List ℕ) (events : List Event) → IsBalanced events → has_brackets events ≡ false → with_links one bytes events ≡ with_emphasis one bytes events
plain-is one bytes events balanced h =
    emphasis-alone one bytes events balanced (all-no-brackets (outermost_spans events) (spans-have (λ s. has_brackets s ≡ false) none-parts (length events) events h))

pub links-can-be-made : LinksCanBeMade
links-can-be-made one bytes events balanced none =
    let new = with_links one bytes events in
    let still = links-balanced one bytes events balanced in
    let unlinked = links-unlinked one bytes events none in
    elim (cases_Bool (has_brackets events)) [
      | inl h ↦
          subst (λ t. let edits = cond t (edit_at 0 (length events) new ∷ []) (edits_of (paired (runs_in one bytes events))) in AreDisjoint 0 edits (length events) × (edited edits events ≡ new) × IsBalanced new × HaveNoLinks new) (sym h)
          (whole-apart events new, whole-edited events new none, still, unlinked)
      | inr h ↦
          let made = emphasis-can-be-made one bytes events balanced none in
          subst (λ t. let edits = cond t (edit_at 0 (length events) new ∷ []) (edits_of (paired (runs_in one bytes events))) in AreDisjoint 0 edits (length events) × (edited edits events ≡ new) × IsBalanced new × HaveNoLinks new) (sym h)
          (made.0, made.1 ∙ sym (plain-is one bytes events balanced h), still, unlinked)
    ]

-- the tests of a loop
pub none-more : (events : List Event) (i : ℕ) (e : Event) → drop i events ≡ e ∷ drop (i + 1) events → is_of_bracket e.name ≡ false → has_brackets (drop (i + 1) events) ≡ has_brackets (drop i events)
none-more events i e here h = sym (ap has_brackets here ∙ ap (λ t. t || has_brackets (drop (i + 1) events)) h)

pub one-there : (events : List Event) (i : ℕ) (e : Event) → drop i events ≡ e ∷ drop (i + 1) events → is_of_bracket e.name ≡ true → has_brackets (drop i events) ≡ true
one-there events i e here h = ap has_brackets here ∙ ap (λ t. t || has_brackets (drop (i + 1) events)) h
