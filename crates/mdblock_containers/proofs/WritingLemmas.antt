-- Lemmas on the events of prefixes, by places.
use Rattle.std.proofs.Common.{◌≡◌, ℕ, zero, suc, ◌+◌, ◌-◌, ◌<◌, ◌≤◌, List, [], ◌∷◌, ◌++◌, length, sym, ap, ◌∙◌, subst, arith, append_assoc}
use Rattle.std.proofs.lemmas.List.{map-append}
use Rattle.markdown_base.specs.declared.event.Event.{Event}
use Rattle.markdown_base.specs.declared.event.Kind.TheVariants.{Enter, Exit}
use Rattle.markdown_base.specs.declared.event.Name.TheVariants as name
use Rattle.markdown_base.specs.declared.event.Point.{Point}
use Rattle.mdblock_leaf_blocks.specs.LineKinds.{indent}
use Rattle.mdblock_leaf_blocks.specs.LeafEvents.{Mark}
use Rattle.mdblock_lines.specs.Lines.{next_place, place_after}
use Rattle.mdblock_lines.proofs.PlaceLemmas.{place_next}
use Rattle.mdblock_containers.specs.PlaceEvents.{HasColumns, event_at, span_at, quote_prefix_at, item_prefix_at, footnote_label_at, footnote_prefix_at}
use Rattle.mdblock_containers.specs.SeatPlaces.{events_of}

-- marks that are written one after another
pub write-both : (old mid new : List Event) (a b : List Mark) → mid ≡ old ++ events_of a → new ≡ mid ++ events_of b → new ≡ old ++ events_of (a ++ b)
write-both old mid new a b e f =
    f ∙ ap (λ l. l ++ events_of b) e ∙ append_assoc old (events_of a) (events_of b) ∙ ap (λ l. old ++ l) (sym (map-append (λ (m : Mark). m.0) a b))

-- one list behind the other
pub five : (o w m v e1 e2 e3 e4 e5 : List Event) (x y : Event) → e1 ≡ o ++ w → e2 ≡ e1 ++ x ∷ [] → e3 ≡ e2 ++ m → e4 ≡ e3 ++ v → e5 ≡ e4 ++ y ∷ [] → e5 ≡ o ++ (w ++ (x ∷ ((m ++ v) ++ y ∷ [])))
five o w m v e1 e2 e3 e4 e5 x y a b c d e =
    let all : e5 ≡ ((((o ++ w) ++ x ∷ []) ++ m) ++ v) ++ y ∷ [] = e ∙ ap (λ l. l ++ y ∷ []) (d ∙ ap (λ l. l ++ v) (c ∙ ap (λ l. l ++ m) (b ∙ ap (λ l. l ++ x ∷ []) a))) in
    all ∙ simp append_assoc

pub six : (o a b d z e1 e2 e3 e4 e5 e6 : List Event) (x y : Event) → e1 ≡ o ++ a → e2 ≡ e1 ++ b → e3 ≡ e2 ++ x ∷ [] → e4 ≡ e3 ++ d → e5 ≡ e4 ++ y ∷ [] → e6 ≡ e5 ++ z → e6 ≡ o ++ (a ++ (b ++ ((x ∷ (d ++ y ∷ [])) ++ z)))
six o a b d z e1 e2 e3 e4 e5 e6 x y h i j k l m =
    let before : e3 ≡ ((o ++ a) ++ b) ++ x ∷ [] = j ∙ ap (λ l. l ++ x ∷ []) (i ∙ ap (λ l. l ++ b) h) in
    let all : e6 ≡ (((((o ++ a) ++ b) ++ x ∷ []) ++ d) ++ y ∷ []) ++ z = m ∙ ap (λ l. l ++ z) (l ∙ ap (λ l. l ++ y ∷ []) (k ∙ ap (λ l. l ++ d) before)) in
    all ∙ simp append_assoc

module _ (t : ℕ) (bytes : List ℕ) where
  pub place_add : (p : Point) (n m : ℕ) → place_after t bytes (place_after t bytes p n) m ≡ place_after t bytes p (n + m)
  place_add p n zero = let e : n ≡ n + 0 = omega arith in ap (place_after t bytes p) e
  place_add p n (suc m) = let e : suc (n + m) ≡ n + suc m = omega arith in ap (next_place t bytes) (place_add p n m) ∙ ap (place_after t bytes p) e

  place_column : (p : Point) (n : ℕ) → p.vs < p.column → ((place_after t bytes p n).vs < (place_after t bytes p n).column) × ((place_after t bytes p n).column ≡ p.column + n)
  place_column p zero h = (h, omega arith)
  place_column p (suc n) h =
      let before = place_column p n h in
      let next = place_next t bytes (place_after t bytes p n) before.0 in
      (next.0, omega (arith, before.1, next.1))

  pub columns_behind : (p q : Point) (n k m : ℕ) → q ≡ place_after t bytes p k → HasColumns t bytes p n → k + m ≤ n → HasColumns t bytes q m
  columns_behind p q n k m e h w =
      let there = place_column p k h.first in
      let here : HasColumns t bytes (place_after t bytes p k) m = record {
        inside = λ i l. subst (λ (r : Point). r.index < length bytes) (sym (place_add p k i)) (h.inside (k + i) (omega (arith, w)));
        first = there.0;
        room = omega (arith, there.1, h.room, w);
      } in
      subst (λ (r : Point). HasColumns t bytes r m) (sym e) here

  pub columns_front : (p : Point) (n m : ℕ) → HasColumns t bytes p n → m ≤ n → HasColumns t bytes p m
  columns_front p n m h w = record { inside = λ i l. h.inside i (omega (arith, w)); first = h.first; room = omega (arith, h.room, w) }

  pub place_chain : (p q r : Point) (k m : ℕ) → q ≡ place_after t bytes p k → r ≡ place_after t bytes q m → r ≡ place_after t bytes p (k + m)
  place_chain p q r k m a b = b ∙ ap (λ x. place_after t bytes x m) a ∙ place_add p k m

  -- the prefix of a quote, by what is written one behind the other
  module _ (place start marked end : Point) (text : List ℕ) (n rest : ℕ) (en : n ≡ indent text) (er : rest ≡ length text - n - 1) (w : indent text + 1 ≤ length text) (es : start ≡ place_after t bytes place n)
      (em : marked ≡ place_after t bytes start 1) (ee : end ≡ place_after t bytes marked rest) where
    pub quote_end : end ≡ place_after t bytes place (length text)
    quote_end =
        let marked_at = place_chain place start marked n 1 es em in
        let all : n + 1 + rest ≡ length text = omega arith in
        place_chain place marked end (n + 1) rest marked_at ee ∙ ap (place_after t bytes place) all

    pub quote_events : (o e1 e2 e3 e4 e5 : List Event) → e1 ≡ o ++ span_at t bytes name.SpaceOrTab place n → e2 ≡ e1 ++ event_at Enter name.BlockQuotePrefix start ∷ [] → e3 ≡ e2 ++ span_at t bytes name.BlockQuoteMarker start 1
        → e4 ≡ e3 ++ span_at t bytes name.SpaceOrTab marked rest → e5 ≡ e4 ++ event_at Exit name.BlockQuotePrefix end ∷ [] → e5 ≡ o ++ quote_prefix_at t bytes place text
    quote_events o e1 e2 e3 e4 e5 a b c d e =
        let st : start ≡ place_after t bytes place (indent text) = es ∙ ap (place_after t bytes place) en in
        let mk : marked ≡ place_after t bytes place (indent text + 1) = place_chain place start marked n 1 es em ∙ ap (λ k. place_after t bytes place (k + 1)) en in
        let rs : rest ≡ length text - indent text - 1 = er ∙ ap (λ k. length text - k - 1) en in
        five o (span_at t bytes name.SpaceOrTab place n) (span_at t bytes name.BlockQuoteMarker start 1) (span_at t bytes name.SpaceOrTab marked rest) e1 e2 e3 e4 e5 (event_at Enter name.BlockQuotePrefix start) (event_at Exit name.BlockQuotePrefix end) a b c d e
        ∙ (λ k. o ++ (span_at t bytes name.SpaceOrTab place (en k) ++ (event_at Enter name.BlockQuotePrefix (st k) ∷ ((span_at t bytes name.BlockQuoteMarker (st k) 1 ++ span_at t bytes name.SpaceOrTab (mk k) (rs k)) ++ event_at Exit name.BlockQuotePrefix (quote_end k) ∷ []))))

  -- the prefix with which an item begins
  module _ (place start counted marked end : Point) (text : List ℕ) (n digits rest : ℕ) (en : n ≡ indent text) (er : rest ≡ length text - n - digits - 1) (w : indent text + digits + 1 ≤ length text) (es : start ≡ place_after t bytes place n)
      (ec : counted ≡ place_after t bytes start digits) (em : marked ≡ place_after t bytes counted 1) (ee : end ≡ place_after t bytes marked rest) where
    pub item_end : end ≡ place_after t bytes place (length text)
    item_end =
        let counted_at = place_chain place start counted n digits es ec in
        let marked_at = place_chain place counted marked (n + digits) 1 counted_at em in
        let all : n + digits + 1 + rest ≡ length text = omega arith in
        place_chain place marked end (n + digits + 1) rest marked_at ee ∙ ap (place_after t bytes place) all

    pub item_events : (o e1 e2 e3 e4 e5 e6 : List Event) → e1 ≡ o ++ span_at t bytes name.SpaceOrTab place n → e2 ≡ e1 ++ event_at Enter name.ListItemPrefix start ∷ [] → e3 ≡ e2 ++ span_at t bytes name.ListItemValue start digits
        → e4 ≡ e3 ++ span_at t bytes name.ListItemMarker counted 1 → e5 ≡ e4 ++ span_at t bytes name.SpaceOrTab marked rest → e6 ≡ e5 ++ event_at Exit name.ListItemPrefix end ∷ [] → e6 ≡ o ++ item_prefix_at t bytes digits place text
    item_events o e1 e2 e3 e4 e5 e6 a b c d e f =
        let st : start ≡ place_after t bytes place (indent text) = es ∙ ap (place_after t bytes place) en in
        let ct : counted ≡ place_after t bytes place (indent text + digits) = place_chain place start counted n digits es ec ∙ ap (λ k. place_after t bytes place (k + digits)) en in
        let mk : marked ≡ place_after t bytes place (indent text + digits + 1) = place_chain place counted marked (indent text + digits) 1 ct em in
        let rs : rest ≡ length text - indent text - digits - 1 = er ∙ ap (λ k. length text - k - digits - 1) en in
        let two : e5 ≡ e3 ++ (span_at t bytes name.ListItemMarker counted 1 ++ span_at t bytes name.SpaceOrTab marked rest) =
        e ∙ ap (λ l. l ++ span_at t bytes name.SpaceOrTab marked rest) d ∙ append_assoc e3 (span_at t bytes name.ListItemMarker counted 1) (span_at t bytes name.SpaceOrTab marked rest) in
        five o (span_at t bytes name.SpaceOrTab place n) (span_at t bytes name.ListItemValue start digits) (span_at t bytes name.ListItemMarker counted 1 ++ span_at t bytes name.SpaceOrTab marked rest) e1 e2 e3 e5 e6
        (event_at Enter name.ListItemPrefix start) (event_at Exit name.ListItemPrefix end) a b c two f
        ∙ (λ k. o ++ (span_at t bytes name.SpaceOrTab place (en k) ++ (event_at Enter name.ListItemPrefix (st k)
        ∷ ((span_at t bytes name.ListItemValue (st k) digits ++ (span_at t bytes name.ListItemMarker (ct k) 1 ++ span_at t bytes name.SpaceOrTab (mk k) (rs k))) ++ event_at Exit name.ListItemPrefix (item_end k) ∷ []))))

  -- the label of a footnote definition: where its bytes end, and what is written
  pub label_named : (place start named : Point) (label : ℕ) → start ≡ place_after t bytes place 2 → named ≡ place_after t bytes start label → named ≡ place_after t bytes place (label + 2)
  label_named place start named label es en = let all : 2 + label ≡ label + 2 = omega arith in place_chain place start named 2 label es en ∙ ap (place_after t bytes place) all

  module _ (place opened start named end : Point) (label : ℕ) (eo : opened ≡ place_after t bytes place 1) (es : start ≡ place_after t bytes opened 1) (en : named ≡ place_after t bytes start label) (ee : end ≡ place_after t bytes named 1) where
    in_label : start ≡ place_after t bytes place 2
    in_label = place_chain place opened start 1 1 eo es

    behind_label : named ≡ place_after t bytes place (label + 2)
    behind_label = label_named place start named label in_label en

    pub label_end : end ≡ place_after t bytes place (label + 3)
    label_end = let all : label + 2 + 1 ≡ label + 3 = omega arith in place_chain place named end (label + 2) 1 behind_label ee ∙ ap (place_after t bytes place) all

    pub label_events : (o e1 e2 e3 e4 e5 e6 : List Event) → e1 ≡ o ++ span_at t bytes name.GfmFootnoteDefinitionLabelMarker place 1 → e2 ≡ e1 ++ span_at t bytes name.GfmFootnoteDefinitionMarker opened 1
        → e3 ≡ e2 ++ event_at Enter name.GfmFootnoteDefinitionLabelString start ∷ [] → e4 ≡ e3 ++ span_at t bytes name.Data start label → e5 ≡ e4 ++ event_at Exit name.GfmFootnoteDefinitionLabelString named ∷ []
        → e6 ≡ e5 ++ span_at t bytes name.GfmFootnoteDefinitionLabelMarker named 1 → e6 ≡ o ++ footnote_label_at t bytes label place
    label_events o e1 e2 e3 e4 e5 e6 a b c d e f =
        six o (span_at t bytes name.GfmFootnoteDefinitionLabelMarker place 1) (span_at t bytes name.GfmFootnoteDefinitionMarker opened 1) (span_at t bytes name.Data start label) (span_at t bytes name.GfmFootnoteDefinitionLabelMarker named 1)
        e1 e2 e3 e4 e5 e6 (event_at Enter name.GfmFootnoteDefinitionLabelString start) (event_at Exit name.GfmFootnoteDefinitionLabelString named) a b c d e f
        ∙ (λ k. o ++ (span_at t bytes name.GfmFootnoteDefinitionLabelMarker place 1 ++ (span_at t bytes name.GfmFootnoteDefinitionMarker (eo k) 1 ++ ((event_at Enter name.GfmFootnoteDefinitionLabelString (in_label k)
        ∷ (span_at t bytes name.Data (in_label k) label ++ event_at Exit name.GfmFootnoteDefinitionLabelString (behind_label k) ∷ [])) ++ span_at t bytes name.GfmFootnoteDefinitionLabelMarker (behind_label k) 1))))

  -- the prefix with which a footnote definition begins: the places behind its label and behind its colon, and what is written
  pub footnote_named : (place start named : Point) (n label : ℕ) → start ≡ place_after t bytes place n → named ≡ place_after t bytes start (label + 3) → named ≡ place_after t bytes place (n + label + 3)
  footnote_named place start named n label es el = let all : n + (label + 3) ≡ n + label + 3 = omega arith in place_chain place start named n (label + 3) es el ∙ ap (place_after t bytes place) all

  pub footnote_marked : (place named marked : Point) (n label : ℕ) → named ≡ place_after t bytes place (n + label + 3) → marked ≡ place_after t bytes named 1 → marked ≡ place_after t bytes place (n + label + 4)
  footnote_marked place named marked n label el em = let all : n + label + 3 + 1 ≡ n + label + 4 = omega arith in place_chain place named marked (n + label + 3) 1 el em ∙ ap (place_after t bytes place) all

  module _ (place start named marked end : Point) (text : List ℕ) (n label rest : ℕ) (en : n ≡ indent text) (er : rest ≡ length text - n - label - 4) (w : indent text + label + 4 ≤ length text) (es : start ≡ place_after t bytes place n)
      (el : named ≡ place_after t bytes start (label + 3)) (em : marked ≡ place_after t bytes named 1) (ee : end ≡ place_after t bytes marked rest) where
    named_at : named ≡ place_after t bytes place (n + label + 3)
    named_at = footnote_named place start named n label es el

    marked_at : marked ≡ place_after t bytes place (n + label + 4)
    marked_at = footnote_marked place named marked n label named_at em

    pub footnote_end : end ≡ place_after t bytes place (length text)
    footnote_end = let all : n + label + 4 + rest ≡ length text = omega (arith, en, er, w) in place_chain place marked end (n + label + 4) rest marked_at ee ∙ ap (place_after t bytes place) all

    pub footnote_events : (o e1 e2 e3 e4 e5 e6 e7 e8 : List Event) → e1 ≡ o ++ span_at t bytes name.SpaceOrTab place n → e2 ≡ e1 ++ event_at Enter name.GfmFootnoteDefinitionPrefix start ∷ []
        → e3 ≡ e2 ++ event_at Enter name.GfmFootnoteDefinitionLabel start ∷ [] → e4 ≡ e3 ++ footnote_label_at t bytes label start → e5 ≡ e4 ++ event_at Exit name.GfmFootnoteDefinitionLabel named ∷ []
        → e6 ≡ e5 ++ span_at t bytes name.DefinitionMarker named 1 → e7 ≡ e6 ++ span_at t bytes name.SpaceOrTab marked rest → e8 ≡ e7 ++ event_at Exit name.GfmFootnoteDefinitionPrefix end ∷ []
        → e8 ≡ o ++ footnote_prefix_at t bytes label place text
    footnote_events o e1 e2 e3 e4 e5 e6 e7 e8 a b c d e f g h =
        let st : start ≡ place_after t bytes place (indent text) = es ∙ ap (place_after t bytes place) en in
        let nd : named ≡ place_after t bytes place (indent text + label + 3) = named_at ∙ ap (λ k. place_after t bytes place (k + label + 3)) en in
        let mk : marked ≡ place_after t bytes place (indent text + label + 4) = marked_at ∙ ap (λ k. place_after t bytes place (k + label + 4)) en in
        let rs : rest ≡ length text - indent text - label - 4 = er ∙ ap (λ k. length text - k - label - 4) en in
        let inner = footnote_label_at t bytes label start in
        let labelled : e5 ≡ e2 ++ (event_at Enter name.GfmFootnoteDefinitionLabel start ∷ (inner ++ event_at Exit name.GfmFootnoteDefinitionLabel named ∷ [])) = e ∙ ap (λ l. l ++ event_at Exit name.GfmFootnoteDefinitionLabel named ∷ []) (d ∙ ap (λ l. l ++ inner) c) ∙ simp append_assoc in
        let two : e7 ≡ e5 ++ (span_at t bytes name.DefinitionMarker named 1 ++ span_at t bytes name.SpaceOrTab marked rest) =
        g ∙ ap (λ l. l ++ span_at t bytes name.SpaceOrTab marked rest) f ∙ append_assoc e5 (span_at t bytes name.DefinitionMarker named 1) (span_at t bytes name.SpaceOrTab marked rest) in
        five o (span_at t bytes name.SpaceOrTab place n) (event_at Enter name.GfmFootnoteDefinitionLabel start ∷ (inner ++ event_at Exit name.GfmFootnoteDefinitionLabel named ∷ [])) (span_at t bytes name.DefinitionMarker named 1 ++ span_at t bytes name.SpaceOrTab marked rest)
        e1 e2 e5 e7 e8 (event_at Enter name.GfmFootnoteDefinitionPrefix start) (event_at Exit name.GfmFootnoteDefinitionPrefix end) a b labelled two h
        ∙ (λ k. o ++ (span_at t bytes name.SpaceOrTab place (en k) ++ (event_at Enter name.GfmFootnoteDefinitionPrefix (st k)
        ∷ (((event_at Enter name.GfmFootnoteDefinitionLabel (st k) ∷ (footnote_label_at t bytes label (st k) ++ event_at Exit name.GfmFootnoteDefinitionLabel (nd k) ∷ []))
        ++ (span_at t bytes name.DefinitionMarker (nd k) 1 ++ span_at t bytes name.SpaceOrTab (mk k) (rs k))) ++ event_at Exit name.GfmFootnoteDefinitionPrefix (footnote_end k) ∷ []))))
