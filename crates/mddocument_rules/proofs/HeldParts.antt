-- Links, images and emphasis in place of brackets and runs: what holds of two lists if of both, and of lists without some names, holds of what is made of parts,
-- if neither emphasis nor the labels of links have such names.
use Rattle.mddocument_rules.proofs.Prelude.{ℕ, Bool, false, List, [], ◌∷◌, ◌++◌, Event, Exit, Name, Point, Enter, Run, closings, data_of, events_of_runs, later, markers_of_all, openings, paired, unlinked_event, ◌≡◌}
use Rattle.markdown_base.specs.declared.event.Name.TheVariants.{Data, Label, LabelText}
use Rattle.markdown_tokenizer.proofs.Positions.Order.{every-all}
use Rattle.mdinline_emphasis.specs.declared.pairs.Style.{Style}
use Rattle.mdinline_links.specs.Linked.{Part, around as spanned, as_data, emphasised_parts, label_text, last_place, runs_of_parts, spanning, text_before, text_behind}
use Rattle.mddocument_laws.proofs.Chosen.{AreOther}
use Rattle.mddocument_laws.proofs.EmphasisEvents.{IsOfStyle, as-data-are, closings-are, data-are, openings-are}
use Rattle.mddocument_laws.proofs.LinkEvents.{AnyRun}
use Rattle.mddocument_laws.proofs.LinkWalk.{AreParts, before-is, behind-is}

-- names that neither emphasis, nor data, nor the labels of links have
pub record AreApart (is : Name → Bool) : Type 0 where
  pub styles : (s : Style) → IsOfStyle (λ n. is n ≡ false) s
  pub data_is : is Data ≡ false
  pub label_is : is Label ≡ false
  pub text_is : is LabelText ≡ false

module _ (is : Name → Bool) (apart : AreApart is) where
  abbrev Fine : Event → Type 0
  Fine e = is e.name ≡ false

  abbrev Other : Name → Type 0
  Other n = is n ≡ false

  closings-other : (p : Point) (ss : List Style) → AreOther is (closings p ss)
  closings-other p ss = closings-are Fine Other (λ e h. h) apart.data_is p ss (every-all (IsOfStyle Other) apart.styles ss)

  openings-other : (p : Point) (ss : List Style) → AreOther is (openings p ss)
  openings-other p ss = openings-are Fine Other (λ e h. h) apart.data_is p ss (every-all (IsOfStyle Other) apart.styles ss)

  plain-other : (p : Point) (n : ℕ) → AreOther is (data_of p n)
  plain-other p n = data-are Fine Other (λ e h. h) apart.data_is p n

  pub data-other : (es : List Event) → AreOther is (as_data es)
  data-other es = as-data-are Fine Other (λ e h. h) apart.data_is es

  -- ---- what holds of two lists together, and of a list without these names
  module _ (B : List Event → Type 0) (both : (xs ys : List Event) → B xs → B ys → B (xs ++ ys)) (free : (es : List Event) → AreOther is es → B es) where
    abbrev pub Hold : List Part → Type 0
    Hold ps = AreParts B AnyRun ps

    runs-hold : (texts : ℕ → List Event) → ((k : ℕ) → B (texts k)) → (rs : List Run) → B (events_of_runs texts rs)
    runs-hold texts t [] = free [] tt
    runs-hold texts t (r ∷ rs) =
        let p = later (markers_of_all r.closed) r.start in
        let closed = closings r.start r.closed in
        let plain = data_of p r.left in
        let begun = openings (later r.left p) r.opened in
        both ((texts r.index ++ closed) ++ (plain ++ begun)) (events_of_runs texts rs)
        (both (texts r.index ++ closed) (plain ++ begun) (both (texts r.index) closed (t r.index) (free closed (closings-other r.start r.closed)))
        (both plain begun (free plain (plain-other p r.left)) (free begun (openings-other (later r.left p) r.opened)))) (runs-hold texts t rs)

    pub parts-hold : (ps : List Part) → Hold ps → B (emphasised_parts ps)
    parts-hold ps h =
        let nothing = free [] tt in
        both (events_of_runs (text_before [] ps) (paired (runs_of_parts ps))) (text_behind [] ps)
        (runs-hold (text_before [] ps) (λ k. before-is B AnyRun nothing both [] ps k nothing h) (paired (runs_of_parts ps))) (behind-is B AnyRun nothing both [] ps nothing h)

    spanning-holds : (n : Name) (start end : Point) (es : List Event) → Other n → B es → B (spanning n start end es)
    spanning-holds n start end es o h =
        let first = unlinked_event Enter n start in
        let last = unlinked_event Exit n end in
        both (first ∷ []) (es ++ last ∷ []) (free (first ∷ []) (o, tt)) (both es (last ∷ []) h (free (last ∷ []) (o, tt)))

    pub spanned-holds : (n : Name) (es : List Event) → Other n → B es → B (spanned n es)
    spanned-holds n [] o h = h
    spanned-holds n (e ∷ es) o h = spanning-holds n e.point (last_place e.point es) (e ∷ es) o h

    label-text-holds : (opener close : List Event) (ps : List Part) → Hold ps → B (label_text opener close ps)
    label-text-holds [] close ps h = free [] tt
    label-text-holds (e ∷ es) [] ps h = free [] tt
    label-text-holds (e ∷ es) (f ∷ fs) [] h = free [] tt
    label-text-holds (e ∷ es) (f ∷ fs) (p ∷ ps) h = spanning-holds LabelText (last_place e.point es) (last_place (last_place e.point es) (emphasised_parts (p ∷ ps))) (emphasised_parts (p ∷ ps)) apart.text_is (parts-hold (p ∷ ps) h)

    -- what is in a link or an image
    abbrev pub inside_made : (opener : List Event) → List Part → (close tail : List Event) → List Event
    inside_made opener ps close tail = spanned Label (opener ++ (label_text opener close ps ++ close)) ++ tail

    pub inside-holds : (opener : List Event) (ps : List Part) (close tail : List Event) → AreOther is opener → Hold ps → AreOther is close → AreOther is tail → B (inside_made opener ps close tail)
    inside-holds opener ps close tail o h c l =
        let text = label_text opener close ps in
        let label = both opener (text ++ close) (free opener o) (both text close (label-text-holds opener close ps h) (free close c)) in
        both (spanned Label (opener ++ (text ++ close))) tail (spanned-holds Label (opener ++ (text ++ close)) apart.label_is label) (free tail l)
