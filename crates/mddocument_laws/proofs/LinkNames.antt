-- Links, images and emphasis have names of the constructs that are on: a link is made of a bracket and the end of a label, and emphasis of runs.
use Rattle.std.proofs.Common.{◌≡◌, Bool, ℕ, zero, suc, ◌+◌, ◌==◌, ◌∙◌, List, [], ◌∷◌, ◌++◌, true, false, cond, inl, inr, Some, None, Option, append-nil, refl, sym, subst, length, ◌≤◌, arith, ap}
use Rattle.std.proofs.lemmas.Bool.{and_parts, cond_both, false≢true, or_cases, or_left, or_right, cases_Bool}
use Rattle.std.specs.List.{AllByRecursion}
use Rattle.std.specs.Prelude.{◌&&◌, ◌||◌, slice_get}
use Rattle.markdown_base.specs.declared.configuration.Constructs.{Constructs}
use Rattle.markdown_base.specs.declared.event.Event.{Event}
use Rattle.markdown_base.specs.declared.event.Name.{Name}
use Rattle.markdown_base.specs.declared.event.Name.TheVariants.{AttentionSequence, Image, Label, LabelEnd, LabelImage, LabelLink, LabelText, Link, Reference, Resource}
use Rattle.markdown_base.specs.declared.event.Point.{Point}
use Rattle.markdown_base.specs.Events.{is_enter, same_name}
use Rattle.markdown_base.proofs.Balanced.{same_name-true}
use Rattle.mdinline_emphasis.specs.declared.pairs.Marker.{Marker}
use Rattle.mdinline_emphasis.specs.declared.pairs.Marker.TheVariants.{Asterisk, Underscore, Tilde}
use Rattle.mdinline_emphasis.specs.Emphasis.{Run, have_two, style_by, style_of}
use Rattle.mdinline_emphasis.specs.Runs.{depth_after, index_of_event, is_sequence, marker_from, run_at, runs_from, runs_in}
use Rattle.mdinline_links.specs.Linked.{Part, around, as_data, emphasised_parts, events, is_bracket, is_named, is_run, is_tail, label_text, last_place, linked_parts, made, outermost_spans, part_of, run, runs_of_parts, spanning, spans_in, text_before, text_behind, with_links}
use Rattle.mddocument_laws.specs.Names.{has_labels}
use Rattle.mddocument_laws.proofs.LinkWalk.{AreParts, IsPart, IsWalk, before-is, behind-is, parts-are, runs-of}
use Rattle.mddocument_laws.proofs.EmphasisEvents.{IsOfStyle, IsRun, as-data-are, emphasis-are, spanning-are}
use Rattle.mddocument_laws.proofs.Inside.{stands_inside}
use Rattle.mddocument_laws.proofs.PlainNames.{plain-inside}
use Rattle.mddocument_laws.proofs.Named.{Named, and, no-events, weaker}
use Rattle.mddocument_laws.proofs.WholeSpans.{AreFound, runs_among}
use Rattle.mddocument_laws.proofs.RunNames.{IsMarkerOn, MayRun}
use Rattle.mddocument_laws.proofs.SpanNames.{IsFine, Outer}

module _ (on : Constructs) where
  abbrev May : Name → Type 0
  May n = stands_inside on n ≡ true

  abbrev Are : List Event → Type 0
  Are es = Named May es

  first : (e : Event) (es : List Event) → Are (e ∷ es) → May e.name
  first e es h = h.all.0

  rest : (e : Event) (es : List Event) → Are (e ∷ es) → Are es
  rest e es h = record { all = h.all.1 }

  more : (e : Event) (es : List Event) → May e.name → Are es → Are (e ∷ es)
  more e es p h = record { all = (p, h.all) }

  -- a span of a name has that name
  has-name : (n : Name) (span : List Event) → is_named n span ≡ true → Are span → May n
  has-name n [] e h = absurd (cc)
  has-name n (x ∷ xs) e h = subst May (same_name-true x.name n (and_parts _ _ e).1) (first x xs h)

  run-name : (x : Event) (xs : List Event) → is_run (x ∷ xs) ≡ true → same_name x.name AttentionSequence ≡ true
  run-name x [] h = absurd (false≢true h)
  run-name x (f ∷ []) h = (and_parts (is_enter x.kind) (same_name x.name AttentionSequence) (and_parts (is_enter x.kind && same_name x.name AttentionSequence) _ h).0).1
  run-name x (f ∷ g ∷ gs) h = absurd (false≢true h)

  -- an outermost span of another name than a bracket's or a run's has such names
  other-named : (n : Name) (span : List Event) → (same_name n LabelLink || same_name n LabelImage) ≡ false → same_name n AttentionSequence ≡ false → is_named n span ≡ true → IsFine on span → Are span
  other-named n [] o q e h = no-events
  other-named n (x ∷ xs) o q e h =
      let same : x.name ≡ n = same_name-true x.name n (and_parts (is_enter x.kind) (same_name x.name n) e).1 in
      elim h.either [
        | inl bracket ↦
            let both : (same_name x.name LabelLink || same_name x.name LabelImage) ≡ true = elim (or_cases (is_enter x.kind && same_name x.name LabelLink) (is_enter x.kind && same_name x.name LabelImage) bracket) [
              | inl l ↦ or_left (same_name x.name LabelLink) (same_name x.name LabelImage) (and_parts (is_enter x.kind) (same_name x.name LabelLink) l).1
              | inr i ↦ or_right (same_name x.name LabelLink) (same_name x.name LabelImage) (and_parts (is_enter x.kind) (same_name x.name LabelImage) i).1
            ] in
            absurd (false≢true (sym o ∙ subst (λ m. (same_name m LabelLink || same_name m LabelImage) ≡ true) same both))
        | inr more ↦ elim more [ inl is ↦ absurd (false≢true (sym q ∙ subst (λ m. same_name m AttentionSequence ≡ true) same (run-name x xs is))) | inr named ↦ weaker (plain-inside on) (x ∷ xs) named ]
      ]

  plain-named : (span : List Event) → is_bracket span ≡ false → is_run span ≡ false → IsFine on span → Are span
  plain-named span o q h = elim h.either [ inl bracket ↦ absurd (false≢true (sym o ∙ bracket)) | inr more ↦ elim more [ inl is ↦ absurd (false≢true (sym q ∙ is)) | inr named ↦ weaker (plain-inside on) span named ] ]

  tail-named : (span : List Event) → is_tail span ≡ true → IsFine on span → Are span
  tail-named span e h = elim (or_cases (is_named Resource span) (is_named Reference span) e) [
    | inl r ↦ other-named Resource span refl refl r h
    | inr r ↦ other-named Reference span refl refl r h
  ]

  -- ---- runs, of markers that are on alone: they pair with runs of the same marker, and so make spans of constructs that are on
  style-is : (m : Marker) (two : Bool) → IsMarkerOn on m → IsOfStyle May (style_by m two)
  style-is Asterisk true h = (h, h, h)
  style-is Asterisk false h = (h, h, h)
  style-is Underscore true h = (h, h, h)
  style-is Underscore false h = (h, h, h)
  style-is Tilde true h = (h, h, h)
  style-is Tilde false h = (h, h, h)

  pair-is : (o r : Run) → IsMarkerOn on o.marker → IsMarkerOn on r.marker → IsOfStyle May (style_of o r)
  pair-is o r h k = style-is r.marker (have_two o r) k

  -- an event has such a name
  abbrev IsNamed : Event → Type 0
  IsNamed e = May e.name

  abbrev IsRunOn : Run → Type 0
  IsRunOn r = IsRun IsNamed May (λ e p. p) refl (IsMarkerOn on) pair-is r

  sequence-on : (bytes : List ℕ) (e f : Event) → is_sequence e f ≡ true → MayRun on bytes e → IsMarkerOn on (marker_from (slice_get bytes e.point.index))
  sequence-on bytes e f h r = r (and_parts (is_enter e.kind && same_name e.name AttentionSequence) _ h).0

  runs-on : (one : Bool) (bytes : List ℕ) (i depth : ℕ) (before : Option ℕ) (es : List Event) → AllByRecursion (MayRun on bytes) es → AllByRecursion IsRunOn (runs_from one bytes i depth before es)
  runs-on one bytes i depth before [] h = tt
  runs-on one bytes i depth before (e ∷ []) h = tt
  runs-on one bytes i depth before (e ∷ f ∷ es) h =
      cond_both (depth == 0 && is_sequence e f) (run_at one bytes i e f before (index_of_event (slice_get es 0)) ∷ runs_from one bytes (i + 2) depth (Some f.point.index) es)
      (runs_from one bytes (i + 1) (depth_after e.kind depth) (Some e.point.index) (f ∷ es)) (AllByRecursion IsRunOn)
      (λ is. (record { on = sequence-on bytes e f (and_parts (depth == 0) (is_sequence e f) is).1 h.0; closed = tt; opened = tt }, runs-on one bytes (i + 2) depth (Some f.point.index) es h.1.1))
      (λ other. runs-on one bytes (i + 1) (depth_after e.kind depth) (Some e.point.index) (f ∷ es) h.1)

  -- ---- parts
  abbrev AreNamed : List Part → Type 0
  AreNamed ps = AreParts Are IsRunOn ps

  parts-named : (ps : List Part) → AreNamed ps → Are (emphasised_parts ps)
  parts-named ps h = record {
    all = emphasis-are IsNamed May (λ e p. p) refl (IsMarkerOn on) pair-is (text_before [] ps) (runs_of_parts ps) (text_behind [] ps) (λ k. (before-is Are IsRunOn no-events (λ xs ys. and) [] ps k no-events h).all) (runs-of Are IsRunOn ps h) (behind-is Are IsRunOn no-events (λ xs ys. and) [] ps no-events h).all;
  }

  -- ---- links and images
  spanning-named : (n : Name) (start end : Point) (es : List Event) → May n → Are es → Are (spanning n start end es)
  spanning-named n start end es p h = record { all = spanning-are IsNamed May (λ e q. q) refl n start end es p h.all }

  around-named : (n : Name) (es : List Event) → May n → Are es → Are (around n es)
  around-named n [] p h = no-events
  around-named n (e ∷ es) p h = spanning-named n e.point (last_place e.point es) (e ∷ es) p h

  data-of-it : (es : List Event) → Named May (as_data es)
  data-of-it es = record { all = as-data-are IsNamed May (λ e q. q) refl es }

  label-text-named : (opener close : List Event) (ps : List Part) → has_labels on ≡ true → AreNamed ps → Are (label_text opener close ps)
  label-text-named [] close ps l h = no-events
  label-text-named (e ∷ es) [] ps l h = no-events
  label-text-named (e ∷ es) (f ∷ fs) [] l h = no-events
  label-text-named (e ∷ es) (f ∷ fs) (p ∷ ps) l h = spanning-named LabelText (last_place e.point es) (last_place (last_place e.point es) (emphasised_parts (p ∷ ps))) (emphasised_parts (p ∷ ps)) l (parts-named (p ∷ ps) h)

  -- what is made of a bracket has its name: an image's bracket makes an image, and another one is a link's
  whole-name : (opener : List Event) → Are opener → is_bracket opener ≡ true → May (cond (is_named LabelImage opener) Image Link)
  whole-name opener h b = cond_both (is_named LabelImage opener) Image Link May (λ image. has-name LabelImage opener image h) (λ other. elim (or_cases (is_named LabelLink opener) (is_named LabelImage opener) b) [
    | inl link ↦ has-name LabelLink opener link h
    | inr image ↦ absurd (false≢true (sym other ∙ image))
  ])

  is-made : (opener : List Event) (ps : List Part) (close tail : List Event) → (on.label_end ≡ true → Are opener) → is_bracket opener ≡ true → AreNamed ps → Are close → is_named LabelEnd close ≡ true → Are tail → Are (made opener ps close tail)
  is-made opener ps close tail o b t c e l =
      let labels : has_labels on ≡ true = has-name LabelEnd close e c in
      let named = o (and_parts on.label_end _ labels).0 in
      let inside = and named (and (label-text-named opener close ps labels t) c) in
      around-named (cond (is_named LabelImage opener) Image Link) (around Label (opener ++ (label_text opener close ps ++ close)) ++ tail) (whole-name opener named b)
      (and (around-named Label (opener ++ (label_text opener close ps ++ close)) labels inside) l)

  -- ---- the walk over spans
  -- a run is left for each of these spans that is one
  abbrev Left : List (List Event) → List Run → Type 0
  Left spans rs = AllByRecursion IsRunOn rs × (runs_among spans ≤ length rs)

  -- the part that a span is, and the runs behind it
  abbrev IsNext : List (List Event) → Part × List Run → Type 0
  IsNext spans p = IsPart Are IsRunOn p.0 × Left spans p.1

  is-part : (span : List Event) (spans : List (List Event)) (rs : List Run) → IsFine on span → is_bracket span ≡ false → Left (span ∷ spans) rs → IsNext spans (part_of span rs)
  is-part span spans [] f o h = elim (cases_Bool (is_run span)) [
    | inl is ↦ (let one : cond {A = ℕ} (is_run span) 1 0 ≡ 1 = ap (λ b. cond {A = ℕ} b 1 0) is in absurd (omega (arith, h.1, one)))
    | inr other ↦ (plain-named span o other f, (tt, omega (arith, h.1)))
  ]
  is-part span spans (r ∷ rs) f o h = elim (cases_Bool (is_run span)) [
    | inl is ↦
        let one : cond {A = ℕ} (is_run span) 1 0 ≡ 1 = ap (λ b. cond {A = ℕ} b 1 0) is in
        subst (λ b. IsNext spans (cond b (run r, rs) (events span, r ∷ rs))) (sym is) (h.0.0, (h.0.1, omega (arith, h.1, one)))
    | inr other ↦ subst (λ b. IsNext spans (cond b (run r, rs) (events span, r ∷ rs))) (sym other) (plain-named span o other f, (h.0, omega (arith, h.1)))
  ]

  walk : IsWalk Are (λ opener. (on.label_end ≡ true → Are opener) × (is_bracket opener ≡ true)) (λ close. Are close × (is_named LabelEnd close ≡ true)) Are (IsFine on) IsRunOn Left
  walk = record {
    data_of_it = data-of-it;
    no_tail = no-events;
    alone = λ close tail c l. and c.0 l;
    is_made = λ opener ps close tail o t c l. is-made opener ps close tail o.0 o.1 t c.0 c.1 l;
    opens = λ span f e. ((λ l. weaker (plain-inside on) span (f.named e l)), e);
    closes = λ span f e. (other-named LabelEnd span refl refl e f, e);
    follows = λ span f t. tail-named span t f;
    is_part = is-part;
    goes_on = λ span spans rs h. (h.0, omega (arith, h.1));
  }

  -- Whole spans with links, images and emphasis in place of brackets and runs have such names
  pub links-named : (one : Bool) (bytes : List ℕ) (es : List Event) → Outer on es → AllByRecursion (MayRun on bytes) es → Are (with_links one bytes es)
  links-named one bytes es h runs =
      let spans : AllByRecursion (IsFine on) (outermost_spans es) = subst (λ (l : List Event). AllByRecursion (IsFine on) (spans_in (length es) l)) (append-nil es) (h.fine [] none-fine (length es)) in
      let few : runs_among (outermost_spans es) ≤ length (runs_in one bytes es) =
      subst (λ (l : List Event). runs_among (spans_in (length es) l) ≤ length (runs_from one bytes 0 0 None l)) (append-nil es) (h.found [] none-found one bytes 0 None (length es)) in
      parts-named (linked_parts (runs_in one bytes es) es) (parts-are walk (runs_in one bytes es) es spans (runs-on one bytes 0 0 None es runs, few))
    where
      none-fine : (bound : ℕ) → AllByRecursion (IsFine on) (spans_in bound [])
      none-fine zero = tt
      none-fine (suc bound) = tt

      none-found : AreFound []
      none-found one given i before zero = omega arith
      none-found one given i before (suc bound) = omega arith
