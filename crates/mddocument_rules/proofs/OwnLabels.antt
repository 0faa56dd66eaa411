-- A bracket's own label, which the walk over items asks for, is that of the spans that the fold has behind the bracket.
use Rattle.mddocument_rules.proofs.Prelude.{◌≡◌, ◌∙◌, ℕ, zero, suc, Bool, true, List, [], ◌∷◌, ◌++◌, and_parts, ap, append-nil, append_assoc, arith, drop, false_from_ne_true, false≢true, flat_map, inl, inr, length, not, not-true, or_cases, or_left, or_right, refl, subst, sym, take, ◌||◌, Constructs, Event, Seat, is_enter, same_name}
use Rattle.std.proofs.lemmas.Grind.{flat_map-append}
use Rattle.std.proofs.lemmas.List.{length-append}
use Rattle.std.proofs.lemmas.List.Folds.{list_any-append}
use Rattle.std.proofs.Math.Seq.{drop-append_seam}
use Rattle.std.specs.List.{list_any, prefix_len}
use Rattle.std.specs.Prelude.{◌≤◌}
use Rattle.markdown_base.specs.declared.event.Name.TheVariants.{LabelImage, LabelLink}
use Rattle.mdconstructs_tables.specs.Breaks.{is_white}
use Rattle.mdinline_constructs.specs.WhiteSpace.{white_space}
use Rattle.mdinline_links.proofs.Plain.{front-first}
use Rattle.mdinline_links.proofs.Spans.{span-joins}
use Rattle.mdinline_links.specs.Linked.{is_bracket, is_named, span_at, spans_in}
use Rattle.mdinline_machine.specs.Brackets.{Memory, after_item, bytes_before, has_bracket, is_defined_label, nothing_read}
use Rattle.mdinline_machine.specs.InlineEvents.{inline_item_at, inline_items}
use Rattle.mdinline_text_machine.specs.Construct.{Found}
use Rattle.mdinline_text_machine.specs.Items.{item_length}
use Rattle.mdinline_text_machine.specs.Parts.{bytes_of, cut_remembering}
use Rattle.mdinline_text_machine.specs.TextEvents.{item_events}
use Rattle.mddocument_rules.proofs.LinksApart.{labels-are-one}
use Rattle.mddocument_rules.specs.BracketLaws.{OwnLabelsAreAsked, remembered}

-- ---- outermost spans, one after another, are the events
abbrev pub flat : List (List Event) → List Event
flat spans = flat_map (λ (span : List Event). span) spans

pub all-joined : (bound : ℕ) (es : List Event) → length es ≤ bound → flat (spans_in bound es) ≡ es
all-joined zero [] fits = refl
all-joined zero (e ∷ es) fits = absurd (omega (arith, fits))
all-joined (suc bound) [] fits = refl
all-joined (suc bound) (e ∷ es) fits =
    let w = span_at 0 (e ∷ es) in
    let joins = span-joins 0 (e ∷ es) in
    let first = ap length (front-first 0 e es).1 in
    let whole = sym (length-append w.0 w.1) ∙ ap length joins in
    ap (λ l. w.0 ++ l) (all-joined bound w.1 (omega (arith, fits, first, whole))) ∙ joins

-- a bracket among spans is one among their events
of-one : (span : List Event) → is_bracket span ≡ true → has_bracket span ≡ true
of-one [] h = absurd (false≢true h)
of-one (e ∷ es) h = elim (or_cases (is_named LabelLink (e ∷ es)) (is_named LabelImage (e ∷ es)) h) as (λ _. has_bracket (e ∷ es) ≡ true) [
  | inl link ↦
      or_left (same_name e.name LabelLink || same_name e.name LabelImage) (has_bracket es) (or_left (same_name e.name LabelLink) (same_name e.name LabelImage) (and_parts (is_enter e.kind) (same_name e.name LabelLink) link).1)
  | inr image ↦
      or_left (same_name e.name LabelLink || same_name e.name LabelImage) (has_bracket es) (or_right (same_name e.name LabelLink) (same_name e.name LabelImage) (and_parts (is_enter e.kind) (same_name e.name LabelImage) image).1)
]

of-all : (spans : List (List Event)) → list_any is_bracket spans ≡ true → has_bracket (flat spans) ≡ true
of-all [] h = absurd (false≢true h)
of-all (span ∷ spans) h =
    list_any-append (λ (e : Event). same_name e.name LabelLink || same_name e.name LabelImage) span (flat spans)
    ∙ elim (or_cases (is_bracket span) (list_any is_bracket spans) h) as (λ _. (has_bracket span || has_bracket (flat spans)) ≡ true) [
      | inl here ↦ or_left (has_bracket span) (has_bracket (flat spans)) (of-one span here)
      | inr more ↦ or_right (has_bracket span) (has_bracket (flat spans)) (of-all spans more)
    ]

-- ---- what is remembered behind items: their events
module _ (bytes : List ℕ) (on : Constructs) (defined : List ℕ → Bool) where
  events-are : (bound : ℕ) (m : Memory) (seats : List Seat) (front rest : List (Found × List Seat)) → m.ahead ≡ seats
      → cut_remembering (after_item bytes) (inline_item_at on defined bytes) item_length bound m seats ≡ front ++ rest → (remembered bytes m front).events ≡ m.events ++ flat_map (item_events bytes) front
  events-are bound m seats [] rest ahead e = sym (append-nil m.events)
  events-are zero m seats (i ∷ front) rest ahead e = absurd (cc)
  events-are (suc bound) m [] (i ∷ front) rest ahead e = absurd (cc)
  events-are (suc bound) m (s ∷ ss) (i ∷ front) rest ahead e =
      let f = inline_item_at on defined bytes m (bytes_of (s ∷ ss)) in
      let first : (f, take f.size (s ∷ ss)) ≡ i = cc in
      let more : cut_remembering (after_item bytes) (inline_item_at on defined bytes) item_length bound (after_item bytes m f) (drop f.size (s ∷ ss)) ≡ front ++ rest = cc in
      let others = flat_map (item_events bytes) front in
      subst (λ (j : Found × List Seat). (remembered bytes (after_item bytes m j.0) front).events ≡ m.events ++ (item_events bytes j ++ others)) first
      (events-are bound (after_item bytes m f) (drop f.size (s ∷ ss)) front rest (ap (drop f.size) ahead) more
      ∙ ap (λ l. (m.events ++ f.events bytes (take f.size l)) ++ others) ahead
      ∙ append_assoc m.events (f.events bytes (take f.size (s ∷ ss))) others)

  all-events : (seats : List Seat) (front rest : List (Found × List Seat)) → inline_items on defined bytes seats ≡ front ++ rest → (remembered bytes (nothing_read seats) front).events ≡ flat_map (item_events bytes) front
  all-events seats [] rest e = refl
  all-events seats (i ∷ front) rest e =
      let n = prefix_len is_white (bytes_of seats) in
      let m = after_item bytes (nothing_read seats) (white_space n) in
      let first : (white_space n, take n seats) ≡ i = cc in
      let more : cut_remembering (after_item bytes) (inline_item_at on defined bytes) item_length (length seats) m (drop n seats) ≡ front ++ rest = cc in
      subst (λ (j : Found × List Seat). (remembered bytes (after_item bytes (nothing_read seats) j.0) front).events ≡ item_events bytes j ++ flat_map (item_events bytes) front) first
      (events-are (length seats) m (drop n seats) front rest refl more)

pub own-labels-are-asked : OwnLabelsAreAsked
own-labels-are-asked defined on bytes seats runs front rest b bs e waits own =
    let m = remembered bytes (nothing_read seats) front in
    let es = flat_map (item_events bytes) front in
    let events = all-events bytes on defined seats front rest e in
    let got = labels-are-one defined on bytes seats runs front rest b bs e waits in
    let at = got.0 in
    let asked = and_parts (not (has_bracket (drop b.count m.events))) (is_defined_label defined (bytes_before bytes m.ahead) (drop b.count m.events)) own in
    let whole : flat at.before ++ flat at.behind ≡ es = sym (flat_map-append (λ (span : List Event). span) at.before at.behind) ∙ ap flat (sym at.are) ∙ all-joined (length es) es (omega arith) in
    let behind : drop b.count m.events ≡ flat at.behind =
    (λ i. drop (sym at.counted i) ((events ∙ sym whole) i)) ∙ drop-append_seam (flat at.before) (flat at.behind) in
    let none = false_from_ne_true (list_any is_bracket at.behind) (λ some. false≢true (sym (not-true (has_bracket (drop b.count m.events)) asked.0) ∙ ap has_bracket behind ∙ of-all at.behind some)) in
    (at.before, at.behind, at.are, got.1 none, subst (λ l. is_defined_label defined (bytes_before bytes m.ahead) l ≡ true) behind asked.1)
