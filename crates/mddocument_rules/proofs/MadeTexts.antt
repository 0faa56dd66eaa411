-- What a link or an image leads to that is made of a bracket and an end, without a resource and a label behind it: to the label that its text is, as it is written.
use Rattle.mddocument_rules.proofs.Prelude.{◌≡◌, ◌∙◌, cond, List, [], ◌∷◌, ◌++◌, None, Some, append_assoc, ap, drop, refl, Event, Exit, Name, Point, IsBalanced, IsBalanced-append, unlinked_event, ℕ, Enter, Seat, end_after, event, every-append, empty, length, take, arith, false}
use Rattle.std.specs.Option.{option_or}
use Rattle.markdown_base.specs.declared.event.Name.TheVariants.{Label, LabelText, Reference, ReferenceMarker, ReferenceString, Resource}
use Rattle.mdinline_labels.specs.Labels.{normalised}
use Rattle.markdown_base.specs.Events.{same_name, span as balanced_span}
use Rattle.std.specs.Prelude.{◌<◌, ◌-◌}
use Rattle.mdconstructs_machines.specs.Spans.{leaf, span}
use Rattle.mdinline_link_tails.specs.Resource.{in_marks, string_events, unmarked}
use Rattle.mddocument_laws.proofs.TailSpans.{AreInResource, IsKeptInside, are-in-resource, in-marks, strings-of}
use Rattle.mdinline_links.proofs.Leaves.{around-balanced}
use Rattle.mdinline_links.specs.Linked.{emphasised_parts, last_place, spanning}
use Rattle.mddocument_link_targets.proofs.SpanEnds.{spans-end}
use Rattle.mddocument_link_targets.specs.declared.targets.Target.{Target}
use Rattle.mddocument_link_targets.specs.declared.targets.Target.TheVariants as target
use Rattle.mddocument_link_targets.specs.Spans.{behind, enters, first_in, inside}
use Rattle.mddocument_link_targets.specs.Strings.{as_written}
use Rattle.mddocument_link_targets.specs.Targets.{label_of, resource_parts, target_behind, target_in, written}
use Rattle.mddocument_rules.specs.LinkLaws.{EntersNone, MadeByLabels, MadeByTexts}

-- what is in a span, and behind it, by the events behind its enter
pub in-span : (n : Name) (p q : Point) (es rest : List Event) → IsBalanced es → (inside (drop 1 (spanning n p q es ++ rest)) ≡ es) × (behind (drop 1 (spanning n p q es ++ rest)) ≡ rest)
in-span n p q es rest b =
    let exit = unlinked_event Exit n q in
    let same : drop 1 (spanning n p q es ++ rest) ≡ es ++ exit ∷ rest = append_assoc es (exit ∷ []) rest in
    let ends = spans-end es rest exit b refl in
    (ap inside same ∙ ends.0, ap behind same ∙ ends.1)

-- the first span of a name is behind events that enter none
pub first-behind : (n : Name) (xs ys : List Event) → EntersNone n xs → first_in n (xs ++ ys) ≡ first_in n ys
first-behind n [] ys h = refl
first-behind n (x ∷ xs) ys h = ap (λ b. cond b (Some (inside (xs ++ ys))) (first_in n (xs ++ ys))) h.0 ∙ first-behind n xs ys h.1

first-text : (p q : Point) (es rest : List Event) → IsBalanced es → first_in LabelText (spanning LabelText p q es ++ rest) ≡ Some es
first-text p q es rest b = ap Some (in-span LabelText p q es rest b).0

pub made-by-texts : MadeByTexts
made-by-texts bytes e es part parts f fs tail opens closes tail_is text none resource string =
    let opener = e ∷ es in
    let close = f ∷ fs in
    let inner = emphasised_parts (part ∷ parts) in
    let start = last_place e.point es in
    let stop = last_place start inner in
    let spoken = spanning LabelText start stop inner in
    let own = opener ++ (spoken ++ close) in
    let end = last_place e.point (es ++ (spoken ++ close)) in
    let own_is : IsBalanced own = IsBalanced-append opener (spoken ++ close) opens (IsBalanced-append spoken close (around-balanced LabelText start stop inner text) closes) in
    let label = spanning Label e.point end own in
    let whole : IsBalanced (label ++ tail) = IsBalanced-append label tail (around-balanced Label e.point end own own_is) tail_is in
    let cut = in-span Label e.point end own tail own_is in
    let first : first_in LabelText own ≡ Some inner = first-behind LabelText opener (spoken ++ close) none ∙ first-text start stop inner close text in
    let label_is : label_of bytes own tail ≡ normalised (as_written bytes inner) = (λ i. normalised (written bytes (option_or (string i) (first i)))) in
    let leads : target_behind bytes own tail ≡ target.Label (normalised (as_written bytes inner)) =
    ap (λ o. elim o as (λ _. Target) [ None ↦ target.Label (label_of bytes own tail) | Some r ↦ target.Parts (resource_parts bytes r) ]) resource ∙ ap (λ l. target.Label l) label_is in
    let there : target_in bytes (label ++ tail) ≡ target.Label (normalised (as_written bytes inner)) = (λ i. target_behind bytes (cut.0 i) (cut.1 i)) ∙ leads in
    there

-- ---- full references
abbrev IsOther : Name → Type 0
IsOther n = same_name n Resource ≡ false

module _ (bytes : List ℕ) where
  -- balanced events, none of which enters a resource
  record IsString (es : List Event) : Type 0 where
    balanced : IsBalanced es
    none : EntersNone Resource es

  span-string : (n : Name) (seats : List Seat) (inside : List Event) → same_name n Resource ≡ false → IsString inside → IsString (span bytes n seats inside)
  span-string n [] inside o h = h
  span-string n (s ∷ ss) inside o h =
      let enter = event bytes Enter n s.point in
      let exit = event bytes Exit n (end_after s.end ss) in
      record { balanced = balanced_span enter exit inside [] refl refl refl refl h.balanced empty; none = (o, every-append (λ (e : Event). enters Resource e ≡ false) inside (exit ∷ []) h.none (refl, tt)) }

  string-kept : IsKeptInside bytes IsOther IsString
  string-kept = record {
    none = record { balanced = empty; none = tt };
    both = λ xs ys h k. record { balanced = IsBalanced-append xs ys h.balanced k.balanced; none = every-append (λ (e : Event). enters Resource e ≡ false) xs ys h.none k.none };
    span_around = span-string;
  }

  none-in : (n : Name) (es : List Event) → EntersNone n es → first_in n es ≡ None
  none-in n [] h = refl
  none-in n (e ∷ es) h = ap (λ b. cond b (Some (inside es)) (first_in n es)) h.0 ∙ none-in n es h.1

  first-word : (u : Seat) (us : List Seat) (inner rest : List Event) → IsBalanced inner → first_in ReferenceString (span bytes ReferenceString (u ∷ us) inner ++ rest) ≡ Some inner
  first-word u us inner rest b =
      let exit = event bytes Exit ReferenceString (end_after u.end us) in ap (λ l. Some (inside l)) (append_assoc inner (exit ∷ []) rest) ∙ ap Some (spans-end inner rest exit b refl).0

  label-there : (own : List Event) (s : Seat) (ss : List Seat) (u : Seat) (us : List Seat) (inner : List Event) → IsString inner
      → target_behind bytes own (in_marks bytes Reference ReferenceMarker (span bytes ReferenceString (u ∷ us) inner) (s ∷ ss)) ≡ target.Label (normalised (as_written bytes inner))
  label-there own s ss u us inner h =
      let enter = event bytes Enter Reference s.point in
      let exit = event bytes Exit Reference (end_after s.end ss) in
      let first = leaf bytes ReferenceMarker (take 1 (s ∷ ss)) in
      let last = leaf bytes ReferenceMarker (drop (length (s ∷ ss) - 1) (s ∷ ss)) in
      let word = span bytes ReferenceString (u ∷ us) inner in
      let tail = in_marks bytes Reference ReferenceMarker word (s ∷ ss) in
      let shape : tail ≡ (enter ∷ first) ++ (word ++ (last ++ exit ∷ [])) = ap (λ l. enter ∷ l) (append_assoc first (word ++ last) (exit ∷ []) ∙ ap (λ l. first ++ l) (append_assoc word last (exit ∷ []))) in
      let string : first_in ReferenceString tail ≡ Some inner =
      ap (first_in ReferenceString) shape ∙ first-behind ReferenceString (enter ∷ first) (word ++ (last ++ exit ∷ [])) (refl, (refl, (refl, tt))) ∙ first-word u us inner (last ++ exit ∷ []) h.balanced in
      let whole = in-marks bytes IsOther IsString string-kept Reference ReferenceMarker word (s ∷ ss) refl refl (span-string ReferenceString (u ∷ us) inner refl h) in
      let label_is : label_of bytes own tail ≡ normalised (as_written bytes inner) = (λ i. normalised (written bytes (option_or (string i) (first_in LabelText own)))) in
      ap (λ o. elim o as (λ _. Target) [ None ↦ target.Label (label_of bytes own tail) | Some r ↦ target.Parts (resource_parts bytes r) ]) (none-in Resource tail whole.none) ∙ ap (λ l. target.Label l) label_is

  string-is : (seats : List Seat) → IsString (string_events bytes seats)
  string-is seats = strings-of bytes IsOther IsString string-kept names seats
    where
      names : AreInResource IsOther
      names = are-in-resource IsOther (refl, (refl, (refl, (refl, (refl, (refl, (refl, (refl, (refl, (refl, (refl, tt)))))))))))

pub made-by-labels : MadeByLabels
made-by-labels bytes own n s ss some =
    elim (unmarked bytes (s ∷ ss)) as (λ (l : List Seat). 0 < length l
    → target_behind bytes own (in_marks bytes Reference ReferenceMarker (span bytes ReferenceString l (string_events bytes l)) (s ∷ ss)) ≡ target.Label (normalised (as_written bytes (string_events bytes l)))) [
      | [] ↦ λ h. absurd (omega (arith, h))
      | u ∷ us ↦ λ h. label-there bytes own s ss u us (string_events bytes (u ∷ us)) (string-is bytes (u ∷ us))
    ] some
