-- What links among events lead to, by their labels; and definitions, one by one.
use Rattle.mddocument_editing.proofs.Prelude.{◌≡◌, ℕ, ◌+◌, ◌<◌, Bool, true, false, cond, List, [], ◌∷◌, ◌++◌, length, drop, Option, Some, None, refl, sym, ap, ◌∙◌, subst, drop_more, every-append, every-back, every-front, option_map, Event, HasLinking, Section}
use Rattle.std.specs.Prelude.{◌↔◌, option_to_list}
use Rattle.markdown_base.proofs.SliceLemmas.{filler}
use Rattle.markdown_base.specs.declared.event.Name.TheVariants as name
use Rattle.mddocument_link_targets.specs.declared.targets.Parts.{Parts}
use Rattle.mddocument_link_targets.specs.declared.targets.Target.{Target}
use Rattle.mddocument_link_targets.specs.declared.targets.Target.TheVariants as target
use Rattle.mddocument_link_targets.specs.Spans.{behind_first, enters, inside}
use Rattle.mddocument_link_targets.specs.Targets.{defined_label, definition_parts, enters_link, label_at, label_by, parts_of, target_in}
use Rattle.mddocument_editing.specs.Leading.{resolved, targets_in}
use Rattle.mddocument_editing.specs.Said.{LeadAsBefore, link_label, link_labels, said_at, saids}
use Rattle.mddocument_editing.specs.declared.said.Said.{Said}

-- ---- links

module _ (old new : List ℕ → Option Parts) (bytes : List ℕ) where
  one-stays : (b : Bool) (t : Target) (xs ys : List (Option Parts)) → xs ≡ ys → LeadAsBefore old new (option_to_list (cond b (label_by t) None))
      → cond b (resolved new t ∷ []) [] ++ xs ≡ cond b (resolved old t ∷ []) [] ++ ys
  one-stays true (target.Parts parts) xs ys more all = ap (λ zs. Some parts ∷ zs) more
  one-stays true (target.Label label) xs ys more all = let here = all.0 in λ i. here i ∷ more i
  one-stays false t xs ys more all = more

  abbrev first-or : Option Parts → List (Option Parts) → Option Parts
  first-or d [] = d
  first-or d (x ∷ xs) = x

  one-stayed : (b : Bool) (t : Target) (xs ys : List (Option Parts)) → cond b (resolved new t ∷ []) [] ++ xs ≡ cond b (resolved old t ∷ []) [] ++ ys
      → (xs ≡ ys) × LeadAsBefore old new (option_to_list (cond b (label_by t) None))
  one-stayed true (target.Parts parts) xs ys same = (ap (drop 1) same, tt)
  one-stayed true (target.Label label) xs ys same = (ap (drop 1) same, (ap (first-or (new label)) same, tt))
  one-stayed false t xs ys same = (same, tt)

  -- a label leads where it led
  abbrev LeadsAlike : List ℕ → Type 0
  LeadsAlike label = new label ≡ old label

  -- links lead where they led if the labels do by which they are
  links-stay : (es : List Event) → LeadAsBefore old new (link_labels bytes es) → targets_in new bytes es ≡ targets_in old bytes es
  links-stay [] all = refl
  links-stay (e ∷ es) all =
      let one = option_to_list (link_label bytes (e ∷ es)) in
      one-stays (enters_link e) (target_in bytes (inside es)) (targets_in new bytes es) (targets_in old bytes es)
      (links-stay es (every-front LeadsAlike (link_labels bytes es) one all)) (every-back LeadsAlike (link_labels bytes es) one all)

  links-stayed : (es : List Event) → targets_in new bytes es ≡ targets_in old bytes es → LeadAsBefore old new (link_labels bytes es)
  links-stayed [] same = tt
  links-stayed (e ∷ es) same =
      let each = one-stayed (enters_link e) (target_in bytes (inside es)) (targets_in new bytes es) (targets_in old bytes es) same in
      every-append LeadsAlike (link_labels bytes es) (option_to_list (link_label bytes (e ∷ es))) (links-stayed es each.0) each.1

-- so do those of a section, by the labels that it keeps
pub stays-iff : (old new : List ℕ → Option Parts) (s : Section) → HasLinking s → LeadAsBefore old new s.linking.labels ↔ (targets_in new s.part.bytes.items s.events ≡ targets_in old s.part.bytes.items s.events)
stays-iff old new s knows =
    let labels : s.linking.labels ≡ link_labels s.part.bytes.items s.events = ap (λ l. l.labels) knows in (
      (λ all. links-stay old new s.part.bytes.items s.events (subst (LeadAsBefore old new) labels all)),
      (λ same. subst (LeadAsBefore old new) (sym labels) (links-stayed old new s.part.bytes.items s.events same)),
    )

-- ---- definitions

module _ (bytes : List ℕ) where
  -- the definition that is entered at an index, by what it says
  abbrev parts_there : List Event → Option Parts
  parts_there ds = option_map (definition_parts bytes) (elim (behind_first (enters name.Definition) ds) [ None ↦ None | Some fs ↦ Some (inside fs) ])

  abbrev label_there : List Event → Option (List ℕ)
  label_there ds = option_map (defined_label bytes) (elim (behind_first (enters name.Definition) ds) [ None ↦ None | Some fs ↦ Some (inside fs) ])

  -- a definition by its label and by what it says, if there are both
  abbrev pub both : Option (List ℕ) → Option Parts → Option Said
  both None parts = None
  both (Some label) None = None
  both (Some label) (Some parts) = Some (record { label = label; parts = parts })

  said-first : (ds : List Event) → both (label_there ds) (parts_there ds) ≡ said_at bytes ds
  said-first [] = refl
  said-first (e ∷ es) = by (enters name.Definition e)
    where
      by : (b : Bool)
          → both (option_map (defined_label bytes) (elim (cond b (Some es) None) [ None ↦ None | Some fs ↦ Some (inside fs) ])) (option_map (definition_parts bytes) (elim (cond b (Some es) None) [ None ↦ None | Some fs ↦ Some (inside fs) ]))
          ≡ cond {A = Option Said} b (Some (record { label = defined_label bytes (inside es); parts = definition_parts bytes (inside es) })) None
      by true = refl
      by false = refl

  pub said-both : (events : List Event) (at : ℕ) (label : Option (List ℕ)) (parts : Option Parts) → label ≡ label_at bytes events at → parts ≡ parts_of bytes events at
      → both label parts ≡ said_at bytes (drop at events)
  said-both events at label parts one two = (λ i. both (one i) (two i)) ∙ said-first (drop at events)

  pub saids-more : (events : List Event) (at : ℕ) → at < length events → saids bytes (drop at events) ≡ option_to_list (said_at bytes (drop at events)) ++ saids bytes (drop (at + 1) events)
  saids-more events at lt =
      let first = drop_more events at filler lt in
      ap (saids bytes) first ∙ ap (λ ds. option_to_list (said_at bytes ds) ++ saids bytes (drop (at + 1) events)) (sym first)
