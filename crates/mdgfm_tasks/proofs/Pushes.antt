-- What is added part by part is a check.
use Rattle.std.proofs.Common.{◌≡◌, ℕ, ◌+◌, ◌++◌, List, [], ◌∷◌, ap, ◌∙◌}
use Rattle.std.proofs.lemmas.List.{append_assoc}
use Rattle.markdown_base.specs.declared.event.Event.{Event}
use Rattle.markdown_base.specs.declared.event.Kind.TheVariants.{Enter, Exit}
use Rattle.markdown_base.specs.declared.event.Name.{Name}
use Rattle.markdown_base.specs.declared.event.Name.TheVariants.{Data, GfmTaskListItemCheck, GfmTaskListItemMarker, SpaceOrTab}
use Rattle.markdown_base.specs.declared.event.Point.{Point}
use Rattle.mdblock_tables.specs.Tasks.{value_name}
use Rattle.mdgfm_events.specs.Places.{event, leaf, place_at}
use Rattle.mdgfm_tasks.specs.declared.checks.Found.{Found}
use Rattle.mdgfm_tasks.specs.TaskEvents.{check_events, further}

added : (out a b c d e f g : List Event) → ((((((out ++ a) ++ b) ++ c) ++ d) ++ e) ++ f) ++ g ≡ out ++ (a ++ (b ++ (c ++ (d ++ (e ++ (f ++ g))))))
added out a b c d e f g =
    append_assoc (((((out ++ a) ++ b) ++ c) ++ d) ++ e) f g
    ∙ append_assoc ((((out ++ a) ++ b) ++ c) ++ d) e (f ++ g)
    ∙ append_assoc (((out ++ a) ++ b) ++ c) d (e ++ (f ++ g))
    ∙ append_assoc ((out ++ a) ++ b) c (d ++ (e ++ (f ++ g)))
    ∙ append_assoc (out ++ a) b (c ++ (d ++ (e ++ (f ++ g))))
    ∙ append_assoc out a (b ++ (c ++ (d ++ (e ++ (f ++ g)))))

-- by lists that each add a part
chain : (o0 o1 o2 o3 o4 o5 o6 o7 a b c d e f g : List Event) → o1 ≡ o0 ++ a → o2 ≡ o1 ++ b → o3 ≡ o2 ++ c → o4 ≡ o3 ++ d → o5 ≡ o4 ++ e → o6 ≡ o5 ++ f → o7 ≡ o6 ++ g
    → o7 ≡ o0 ++ (a ++ (b ++ (c ++ (d ++ (e ++ (f ++ g))))))
chain o0 o1 o2 o3 o4 o5 o6 o7 a b c d e f g h1 h2 h3 h4 h5 h6 h7 =
    h7
    ∙ ap (λ ts. ts ++ g) (h6
    ∙ ap (λ ts. ts ++ f) (h5
    ∙ ap (λ ts. ts ++ e) (h4
    ∙ ap (λ ts. ts ++ d) (h3
    ∙ ap (λ ts. ts ++ c) (h2
    ∙ ap (λ ts. ts ++ b) h1)))))
    ∙ added o0 a b c d e f g

module _ (tab : ℕ) (bytes : List ℕ) (p : Point) (f : Found) where
  -- the events of a check, by its places
  abbrev form : (start value closing end : Point) → Name → (opens closes : Event) → List Event
  form start value closing end name opens closes =
      leaf SpaceOrTab p start
      ++ (opens ∷ (leaf GfmTaskListItemMarker start value ++ (leaf name value closing ++ (leaf GfmTaskListItemMarker closing end ++ (closes ∷ leaf Data end f.text.end)))))

  pub pushed : (start value closing end : Point) (name : Name) (opens closes : Event) (o0 o1 o2 o3 o4 o5 o6 o7 : List Event)
      → start ≡ place_at tab bytes p (p.index + f.check.columns) → value ≡ place_at tab bytes start (start.index + 1) → closing ≡ place_at tab bytes value (value.index + 1)
      → end ≡ place_at tab bytes closing (closing.index + 1) → name ≡ value_name f.check.is_checked → opens ≡ event Enter GfmTaskListItemCheck start
      → closes ≡ event Exit GfmTaskListItemCheck end → o1 ≡ o0 ++ leaf SpaceOrTab p start → o2 ≡ o1 ++ opens ∷ [] → o3 ≡ o2 ++ leaf GfmTaskListItemMarker start value
      → o4 ≡ o3 ++ leaf name value closing → o5 ≡ o4 ++ leaf GfmTaskListItemMarker closing end → o6 ≡ o5 ++ closes ∷ [] → o7 ≡ o6 ++ leaf Data end f.text.end
      → o7 ≡ o0 ++ check_events tab bytes p f
  pushed start value closing end name opens closes o0 o1 o2 o3 o4 o5 o6 o7 hs hv hc he hn ho hx h1 h2 h3 h4 h5 h6 h7 =
      let s = further tab bytes p f.check.columns in
      let v = further tab bytes s 1 in
      let c = further tab bytes v 1 in
      let e = further tab bytes c 1 in
      let n = value_name f.check.is_checked in
      let ev : value ≡ v = hv ∙ ap (λ (q : Point). place_at tab bytes q (q.index + 1)) hs in
      let ec : closing ≡ c = hc ∙ ap (λ (q : Point). place_at tab bytes q (q.index + 1)) ev in
      let ee : end ≡ e = he ∙ ap (λ (q : Point). place_at tab bytes q (q.index + 1)) ec in
      let eo : opens ≡ event Enter GfmTaskListItemCheck s = ho ∙ ap (event Enter GfmTaskListItemCheck) hs in
      let ex : closes ≡ event Exit GfmTaskListItemCheck e = hx ∙ ap (event Exit GfmTaskListItemCheck) ee in
      chain o0 o1 o2 o3 o4 o5 o6 o7 (leaf SpaceOrTab p start) (opens ∷ []) (leaf GfmTaskListItemMarker start value) (leaf name value closing)
      (leaf GfmTaskListItemMarker closing end) (closes ∷ []) (leaf Data end f.text.end) h1 h2 h3 h4 h5 h6 h7
      ∙ ap (λ (ts : List Event). o0 ++ ts) (
      ap (λ (q : Point). form q value closing end name opens closes) hs
      ∙ ap (λ (q : Point). form s q closing end name opens closes) ev
      ∙ ap (λ (q : Point). form s v q end name opens closes) ec
      ∙ ap (λ (q : Point). form s v c q name opens closes) ee
      ∙ ap (λ (m : Name). form s v c e m opens closes) hn
      ∙ ap (λ (x : Event). form s v c e n x closes) eo
      ∙ ap (λ (x : Event). form s v c e n (event Enter GfmTaskListItemCheck s) x) ex)
