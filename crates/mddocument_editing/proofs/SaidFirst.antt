-- What the first definition of a label says, in events, in sections and in lists of definitions.
use Rattle.mddocument_editing.proofs.Prelude.{◌≡◌, ℕ, suc, ◌&&◌, Bool, true, false, cond, List, [], ◌∷◌, ◌++◌, length, Option, Some, None, refl, sym, ap, ◌∙◌, arith, append_assoc, drop_at, length-append, option_and_then, option_map, Event}
use Rattle.std.proofs.lemmas.Grind.{flat_map-append}
use Rattle.std.specs.Option.{option_or}
use Rattle.std.specs.Prelude.{bytes_eq, option_to_list}
use Rattle.markdown_base.specs.declared.event.Name.TheVariants as name
use Rattle.mddocument_link_targets.specs.declared.targets.Parts.{Parts}
use Rattle.mddocument_link_targets.specs.Spans.{behind_first, enters, inside}
use Rattle.mddocument_link_targets.specs.Targets.{defined_label, definition_from, definition_of, definition_parts, parts_of}
use Rattle.mddocument_editing.specs.Leading.{first_said}
use Rattle.mddocument_editing.specs.Said.{said_of, saids}
use Rattle.mddocument_editing.specs.Told.{all_saids}
use Rattle.mddocument_editing.specs.declared.said.Said.{Said}

-- of definitions behind others
either : (b : Bool) (p : Parts) (all : Option Parts) (front behind : Option Parts) → all ≡ option_or front behind → cond b (Some p) all ≡ option_or (cond b (Some p) front) behind
either true p all front behind same = refl
either false p all front behind same = same

pub said-append : (label : List ℕ) (xs ys : List Said) → said_of (xs ++ ys) label ≡ option_or (said_of xs label) (said_of ys label)
said-append label [] ys = refl
said-append label (x ∷ xs) ys = either (bytes_eq label x.label) x.parts (said_of (xs ++ ys) label) (said_of xs label) (said_of ys label) (said-append label xs ys)

module _ (section label : List ℕ) where
  abbrev parts_there : List Event → Option Parts
  parts_there ds = option_map (definition_parts section) (elim (behind_first (enters name.Definition) ds) [ None ↦ None | Some fs ↦ Some (inside fs) ])

  parts-here : (before : List Event) (e : Event) (es : List Event) → enters name.Definition e ≡ true → parts_of section (before ++ e ∷ es) (length before) ≡ Some (definition_parts section (inside es))
  parts-here before e es is =
      ap parts_there (drop_at before (e ∷ es) (length before) refl)
      ∙ ap (λ b. option_map (definition_parts section) (elim (cond b (Some es) None) [ None ↦ None | Some fs ↦ Some (inside fs) ])) is

  defined : (b : Bool) (all : List Event) (at : ℕ) (more : Option ℕ) (rest : Option Parts) (p : Parts) → parts_of section all at ≡ Some p → option_and_then (parts_of section all) more ≡ rest
      → option_and_then (parts_of section all) (cond b (Some at) more) ≡ cond b (Some p) rest
  defined true all at more rest p here same = here
  defined false all at more rest p here same = same

  one : (d : Bool) (key : List ℕ) (all : List Event) (at : ℕ) (more : Option ℕ) (rest : List Said) (p : Parts) → (d ≡ true → parts_of section all at ≡ Some p) → option_and_then (parts_of section all) more ≡ said_of rest label
      → option_and_then (parts_of section all) (cond (d && bytes_eq label key) (Some at) more) ≡ said_of (option_to_list (cond d (Some (record { label = key; parts = p })) None) ++ rest) label
  one true key all at more rest p here same = defined (bytes_eq label key) all at more (said_of rest label) p (here refl) same
  one false key all at more rest p here same = same

  in-events : (before es : List Event) → option_and_then (parts_of section (before ++ es)) (definition_from section label (length before) es) ≡ said_of (saids section es) label
  in-events before [] = refl
  in-events before (e ∷ es) =
      let l : length (before ++ e ∷ []) ≡ suc (length before) = omega (arith, length-append before (e ∷ [])) in
      let a : before ++ e ∷ es ≡ (before ++ e ∷ []) ++ es = sym (append_assoc before (e ∷ []) es) in
      let more = ap (λ all. option_and_then (parts_of section all) (definition_from section label (suc (length before)) es)) a
      ∙ ap (λ n. option_and_then (parts_of section ((before ++ e ∷ []) ++ es)) (definition_from section label n es)) (sym l)
      ∙ in-events (before ++ e ∷ []) es
      in
      one (enters name.Definition e) (defined_label section (inside es)) (before ++ e ∷ es) (length before) (definition_from section label (suc (length before)) es) (saids section es)
      (definition_parts section (inside es)) (parts-here before e es) more

-- in sections
pub first-said : (read : List ℕ → List Event) (label : List ℕ) (sections : List (List ℕ)) → said_of (all_saids read sections) label ≡ first_said read sections label
first-said read label [] = refl
first-said read label (section ∷ more) =
    said-append label (saids section (read section)) (all_saids read more)
    ∙ ap (λ p. option_or p (said_of (all_saids read more) label)) (sym (in-events section label [] (read section)))
    ∙ ap (λ p. option_or (option_and_then (parts_of section (read section)) (definition_of section (read section) label)) p) (first-said read label more)

pub all-append : (read : List ℕ → List Event) (xs ys : List (List ℕ)) → all_saids read (xs ++ ys) ≡ all_saids read xs ++ all_saids read ys
all-append read xs ys = flat_map-append (λ section. saids section (read section)) xs ys
