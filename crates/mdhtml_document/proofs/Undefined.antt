-- Where no event enters a definition, no label is defined, and nothing is referred to.
use Rattle.std.proofs.Common.{◌≡◌, ℕ, zero, suc, ◌+◌, Bool, true, false, cond, List, [], ◌∷◌, None, Some, ap, refl, ◌∙◌, arith}
use Rattle.std.proofs.lemmas.Bool.{or_parts}
use Rattle.std.proofs.lemmas.Bool.Decides.{nat_tests}
use Rattle.std.specs.List.{list_any}
use Rattle.std.specs.Prelude.{◌&&◌, bytes_eq, nat_lt}
use Rattle.markdown_base.specs.declared.event.Event.{Event}
use Rattle.markdown_base.specs.declared.event.Name.TheVariants as name
use Rattle.markdown_base.specs.Events.{is_enter}
use Rattle.mdhtml_document.specs.declared.names.Inline.{Inline}
use Rattle.mdhtml_document.specs.declared.names.Inline.TheVariants as inline
use Rattle.mdhtml_document.specs.Html.{referred, size_of_target}
use Rattle.mdhtml_document.specs.Names.{inline_of}
use Rattle.mdhtml_document.specs.Walks.{left, references_from}
use Rattle.mddocument_link_targets.specs.declared.targets.Target.{Target}
use Rattle.mddocument_link_targets.specs.declared.targets.Target.TheVariants as target
use Rattle.mddocument_link_targets.specs.Spans.{enters, inside}
use Rattle.mddocument_link_targets.specs.Targets.{defined_label, definition_from, target_in}

pub undefined : (bytes label : List ℕ) (at : ℕ) (es : List Event) → list_any (enters name.Definition) es ≡ false → definition_from bytes label at es ≡ None
undefined bytes label at [] h = refl
undefined bytes label at (e ∷ es) h =
    let none = or_parts (enters name.Definition e) (list_any (enters name.Definition) es) h in
    ap (λ b. cond (b && bytes_eq label (defined_label bytes (inside es))) (Some at) (definition_from bytes label (suc at) es)) none.0
    ∙ undefined bytes label (suc at) es none.1

either : (b : Bool) (x y : ℕ) → x ≡ 0 → y ≡ 0 → cond b x y ≡ 0
either true x y h k = h
either false x y h k = k

module _ (bytes : List ℕ) (size : (label : List ℕ) → ℕ) (none : (label : List ℕ) → size label ≡ 0) where
  of-target : (t : Target) → size_of_target size t ≡ 0
  of-target (target.Parts parts) = refl
  of-target (target.Label label) = none label

  of-span : (i : Inline) (es : List Event) → referred bytes size i es 0 ≡ 0
  of-span inline.Ending es = refl
  of-span inline.Break es = refl
  of-span inline.Emphasis es = refl
  of-span inline.Strong es = refl
  of-span inline.Struck es = refl
  of-span inline.Code es = refl
  of-span inline.Html es = refl
  of-span inline.Autolink es = refl
  of-span inline.Www es = refl
  of-span inline.Email es = refl
  of-span inline.Address es = refl
  of-span inline.Check es = refl
  of-span inline.Call es = refl
  of-span inline.Link es =
      let own = of-target (target_in bytes es) in
      omega (arith, own)
  of-span inline.Image es = of-target (target_in bytes es)
  of-span inline.Tail es = refl
  of-span inline.Other es = refl

  pub none-referred : (skip : ℕ) (es : List Event) → references_from bytes size skip es ≡ 0
  none-referred zero [] = refl
  none-referred (suc n) [] = refl
  none-referred zero (e ∷ es) =
      let own = of-span (inline_of e.name) (inside es) in
      let rest = none-referred (left (inline_of e.name) es) es in
      let sum : referred bytes size (inline_of e.name) (inside es) 0 + references_from bytes size (left (inline_of e.name) es) es ≡ 0 = omega (arith, own, rest) in
      either (is_enter e.kind) (referred bytes size (inline_of e.name) (inside es) 0 + references_from bytes size (left (inline_of e.name) es) es) (references_from bytes size 0 es) sum (none-referred 0 es)
  none-referred (suc n) (e ∷ es) = none-referred n es

pub none-over : (limit n : ℕ) → n ≡ 0 → nat_lt limit n ≡ false
none-over limit n h = grind (arith, nat_tests)
