-- The events of a document are well formed, also with the children of their chains of text.
use Rattle.mddocument.proofs.Prelude.{Bool, ◌≡◌, ◌∙◌, ℕ, List, [], ap, arith, false, subst, sym, true, Event, FlowStart, Given, GivesDeep, IsDocument, Name, ParseOptions, Rules, TextStart, document, paragraphs_rules, start_configuration, text_rules, IsInOrder, IsVoidTight, Next, Configuration, IsRun, IsWellFormed, EndsIn, Reading, LeavesEvents, IsText, Text, Subresult, paragraphs-fit, paragraphs-known, knows_chunk, paragraphs, knowing-lawful, data-formed, texts-formed, chains-stand, holds-at-end, texts-unresolved}
use Rattle.markdown_base.specs.declared.state.State.TheVariants.{Ok}
use Rattle.mddocument.proofs.DeepEvents.{with-data, with-texts}

-- what a run returns without resolving is well formed
pub run-formed : {R D : Type 0} (g : Given) (rules : Given → Rules R D) (start : Name) (events : List Event) (sub : Subresult) → IsRun g rules false start events sub → IsWellFormed g events
run-formed {R} {D} g rules start events sub run =
    subst (IsWellFormed g) (sym (run.events ∙ ap (λ (k : Configuration R D). k.events) run.resolved.0)) run.well_formed

-- the machine of paragraphs leaves nothing to resolve
paragraphs-unresolved : (g : Given) (text : Text) → IsText g text → (flag : Bool) (r : Reading Unit Unit) → EndsIn g (paragraphs_rules g).step text 0 (start_configuration flag) [] (Next TextStart) r → r.answer ≡ Ok
    → LeavesEvents true r.configuration
paragraphs-unresolved g text is flag r ends well =
    let h = holds-at-end g paragraphs_rules (knowing-lawful paragraphs knows_chunk g paragraphs-fit paragraphs-known).invariant_kept TextStart (1, omega arith, (cc)) text is flag r ends well in
    (h.known.resolvers, h.known.edits)

-- with the text of each chain read, they are well formed: their order, and the void spans, are those of the lines
module _ (options : ParseOptions) (bytes : List ℕ) (is : IsDocument (document options bytes)) (events : List Event) where
  abbrev g : Given
  g = document options bytes

  abbrev AreInOrder : List Event → Type 0
  AreInOrder es = IsVoidTight es × IsInOrder bytes es

  pub data-well-formed : GivesDeep paragraphs_rules FlowStart options bytes events → IsWellFormed g events
  data-well-formed h =
      let flat = run-formed g paragraphs_rules FlowStart h.0 h.1.0 h.1.1 in
      let order = subst AreInOrder (sym (with-data options bytes is events h)) (data-formed g is) in
      record { balanced = h.2.1.1.in_shape.balanced; void_tight = order.0; at_places = chains-stand g h.0 is h.2.0 paragraphs_rules (paragraphs-unresolved g) events h.2.1.0 h.2.1.1 flat.at_places; in_order = order.1 }

  pub texts-well-formed : GivesDeep text_rules FlowStart options bytes events → IsWellFormed g events
  texts-well-formed h =
      let flat = run-formed g text_rules FlowStart h.0 h.1.0 h.1.1 in
      let order = subst AreInOrder (sym (with-texts options bytes is events h)) (texts-formed g is) in
      record { balanced = h.2.1.1.in_shape.balanced; void_tight = order.0; at_places = chains-stand g h.0 is h.2.0 text_rules (texts-unresolved g) events h.2.1.0 h.2.1.1 flat.at_places; in_order = order.1 }
