-- What is added part by part is what is in a call.
use Rattle.std.proofs.Common.{◌≡◌, ℕ, ◌+◌, ◌-◌, ◌++◌, List, [], ◌∷◌, ap, ◌∙◌}
use Rattle.std.proofs.lemmas.List.{append_assoc}
use Rattle.markdown_base.specs.declared.event.Event.{Event}
use Rattle.markdown_base.specs.declared.event.Kind.TheVariants.{Enter, Exit}
use Rattle.markdown_base.specs.declared.event.Name.TheVariants.{Data, GfmFootnoteCallLabel, GfmFootnoteCallMarker, Label, LabelEnd, LabelMarker}
use Rattle.markdown_base.specs.declared.event.Point.{Point}
use Rattle.mdgfm_events.specs.Places.{event, leaf, place_at}
use Rattle.mdgfm_footnotes.specs.CallEvents.{inside_call}

-- a part more
then : (o0 o1 a rest : List Event) → o1 ≡ o0 ++ a → o1 ++ rest ≡ o0 ++ (a ++ rest)
then o0 o1 a rest h = ap (λ ts. ts ++ rest) h ∙ append_assoc o0 a rest

module _ (tab : ℕ) (bytes : List ℕ) (p q : Point) where
  -- what is in a call, by its places
  abbrev form : (caret label end : Point) (e1 e2 e3 e4 e5 e6 : Event) → List Event
  form caret label end e1 e2 e3 e4 e5 e6 =
      e1 ∷ e2 ∷ (leaf LabelMarker p caret ++ (leaf GfmFootnoteCallMarker caret label ++ (e3 ∷ (leaf Data label end ++ (e4 ∷ (leaf LabelMarker end q ++ (e5 ∷ e6 ∷ [])))))))

  pub pushed : (caret label end : Point) (e1 e2 e3 e4 e5 e6 : Event) (o0 o1 o2 o3 o4 o5 o6 o7 o8 o9 o10 : List Event)
      → caret ≡ place_at tab bytes p (p.index + 1) → label ≡ place_at tab bytes caret (p.index + 2) → end ≡ place_at tab bytes label (q.index - 1)
      → e1 ≡ event Enter Label p → e2 ≡ event Enter GfmFootnoteCallLabel p → e3 ≡ event Exit GfmFootnoteCallLabel label → e4 ≡ event Enter LabelEnd end → e5 ≡ event Exit LabelEnd q → e6 ≡ event Exit Label q
      → o1 ≡ o0 ++ e1 ∷ [] → o2 ≡ o1 ++ e2 ∷ [] → o3 ≡ o2 ++ leaf LabelMarker p caret → o4 ≡ o3 ++ leaf GfmFootnoteCallMarker caret label → o5 ≡ o4 ++ e3 ∷ []
      → o6 ≡ o5 ++ leaf Data label end → o7 ≡ o6 ++ e4 ∷ [] → o8 ≡ o7 ++ leaf LabelMarker end q → o9 ≡ o8 ++ e5 ∷ [] → o10 ≡ o9 ++ e6 ∷ [] → o10 ≡ o0 ++ inside_call tab bytes p q
  pushed caret label end e1 e2 e3 e4 e5 e6 o0 o1 o2 o3 o4 o5 o6 o7 o8 o9 o10 hc hl he g1 g2 g3 g4 g5 g6 h1 h2 h3 h4 h5 h6 h7 h8 h9 h10 =
      let c : Point = place_at tab bytes p (p.index + 1) in
      let l : Point = place_at tab bytes c (p.index + 2) in
      let z : Point = place_at tab bytes l (q.index - 1) in
      let el : label ≡ l = hl ∙ ap (λ (x : Point). place_at tab bytes x (p.index + 2)) hc in
      let ez : end ≡ z = he ∙ ap (λ (x : Point). place_at tab bytes x (q.index - 1)) el in
      let r9 = e6 ∷ [] in
      let r8 = e5 ∷ r9 in
      let r7 = leaf LabelMarker end q ++ r8 in
      let r6 = e4 ∷ r7 in
      let r5 = leaf Data label end ++ r6 in
      let r4 = e3 ∷ r5 in
      let r3 = leaf GfmFootnoteCallMarker caret label ++ r4 in
      let r2 = leaf LabelMarker p caret ++ r3 in
      h10
      ∙ then o8 o9 (e5 ∷ []) r9 h9
      ∙ then o7 o8 (leaf LabelMarker end q) r8 h8
      ∙ then o6 o7 (e4 ∷ []) r7 h7
      ∙ then o5 o6 (leaf Data label end) r6 h6
      ∙ then o4 o5 (e3 ∷ []) r5 h5
      ∙ then o3 o4 (leaf GfmFootnoteCallMarker caret label) r4 h4
      ∙ then o2 o3 (leaf LabelMarker p caret) r3 h3
      ∙ then o1 o2 (e2 ∷ []) r2 h2
      ∙ then o0 o1 (e1 ∷ []) (e2 ∷ r2) h1
      ∙ ap (λ (ts : List Event). o0 ++ ts) (
      ap (λ (x : Event). form caret label end x e2 e3 e4 e5 e6) g1
      ∙ ap (λ (x : Event). form caret label end (event Enter Label p) x e3 e4 e5 e6) g2
      ∙ ap (λ (x : Event). form caret label end (event Enter Label p) (event Enter GfmFootnoteCallLabel p) x e4 e5 e6) g3
      ∙ ap (λ (x : Event). form caret label end (event Enter Label p) (event Enter GfmFootnoteCallLabel p) (event Exit GfmFootnoteCallLabel label) x e5 e6) g4
      ∙ ap (λ (x : Event). form caret label end (event Enter Label p) (event Enter GfmFootnoteCallLabel p) (event Exit GfmFootnoteCallLabel label) (event Enter LabelEnd end) x e6) g5
      ∙ ap (λ (x : Event). form caret label end (event Enter Label p) (event Enter GfmFootnoteCallLabel p) (event Exit GfmFootnoteCallLabel label) (event Enter LabelEnd end) (event Exit LabelEnd q) x) g6
      ∙ ap (λ (x : Point). at_places x label end) hc
      ∙ ap (λ (x : Point). at_places c x end) el
      ∙ ap (λ (x : Point). at_places c l x) ez)
    where
      at_places : (caret label end : Point) → List Event
      at_places caret label end =
          form caret label end (event Enter Label p) (event Enter GfmFootnoteCallLabel p) (event Exit GfmFootnoteCallLabel label) (event Enter LabelEnd end) (event Exit LabelEnd q) (event Exit Label q)
