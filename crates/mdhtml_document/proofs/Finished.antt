-- What the code writes of a document's events is their HTML.
use Rattle.std.proofs.Common.{◌≡◌, ℕ, List, [], ◌++◌, ap, sym, ◌∙◌, Option, None}
use Rattle.std.specs.Option.{option_map_or}
use Rattle.std.specs.Prelude.{Bool, cond, drop, length, max, nat_lt, option_and_then, reverse}
use mathlib.Core.Path.{fun_ext}
use Rattle.markdown_base.specs.declared.configuration.CompileOptions.{CompileOptions}
use Rattle.markdown_base.specs.declared.event.Event.{Event}
use Rattle.markdown_base.specs.Events.{IsBalanced}
use Rattle.mdhtml_document.specs.Frames.{led_by, size_by}
use Rattle.mdhtml_document.specs.Written.{after}
use Rattle.mdhtml_document.specs.Html.{Known, are_too_many, extent, html_of_events, known_in, led_to, pieces, section, size_of_label}
use Rattle.mdhtml_document.specs.Notes.{called_at, calls_in}
use Rattle.mdhtml_document.specs.declared.notes.Called.{Called}
use Rattle.mdhtml_document.specs.declared.shapes.Mode.TheVariants as mode
use Rattle.mdhtml_document.specs.Spans.{spans_of}
use Rattle.mdhtml_document.specs.Walks.{references_from, walked}
use Rattle.mdhtml_document.proofs.AltFacts.{references-of}
use Rattle.mdhtml_document.proofs.Both.{keep-events}
use Rattle.mdhtml_document.proofs.SpanFacts.{opened-kinded}
use Rattle.mdhtml_document.proofs.Walked.{walked-all}
use Rattle.mdhtml_document.proofs.Written.{after-append, after-nothing}
use Rattle.mdhtml_markup.specs.Pieces.{Piece}
use Rattle.mddocument_link_targets.specs.declared.definitions.Definitions.{Definitions}
use Rattle.mddocument_link_targets.specs.declared.targets.Parts.{Parts}
use Rattle.mddocument_link_targets.specs.Defined.{defined_at}
use Rattle.mddocument_link_targets.specs.Targets.{definition_of, parts_of}

module _ (options : CompileOptions) (bytes : List ℕ) (tab : ℕ) (events : List Event) (definitions : Definitions) (balanced : IsBalanced events)
    (defined : (label : List ℕ) → defined_at definitions label ≡ definition_of bytes events label) where
  sizes : size_by events definitions ≡ size_of_label bytes events
  sizes = fun_ext (λ label. ap (λ o. option_map_or (λ at. extent (drop at events)) o 0) (defined label))

  too-many : (many : Bool) → many ≡ nat_lt (max 100000 (length bytes)) (references_from bytes (size_by events definitions) 0 events) → many ≡ are_too_many bytes events
  too-many many h =
      h ∙ ap (λ (size : (label : List ℕ) → ℕ). nat_lt (max 100000 (length bytes)) (references_from bytes size 0 events)) sizes
      ∙ ap (λ n. nat_lt (max 100000 (length bytes)) n)
      (ap (references_from bytes (size_of_label bytes events) 0) (sym (keep-events events balanced)) ∙ references-of bytes (size_of_label bytes events) (spans_of events) (opened-kinded events).0)

  led : (many : Bool) → many ≡ are_too_many bytes events → led_by bytes events definitions many ≡ led_to bytes events
  led many h =
      fun_ext
      (λ label. ap (λ b. cond b None (option_and_then (λ at. parts_of bytes events at) (defined_at definitions label))) h
      ∙ ap (λ o. cond (are_too_many bytes events) None (option_and_then (λ at. parts_of bytes events at) o)) (defined label))

  -- what the code knows of the document
  known-is : (many : Bool) (called : (place : ℕ) → Option Called) → many ≡ are_too_many bytes events
      → ((place : ℕ) → called place ≡ called_at (reverse (calls_in bytes events)) place) → record { lookup = led_by bytes events definitions many; called = called } ≡ known_in bytes events
  known-is many called h calls =
      ap (λ (lookup : (label : List ℕ) → Option Parts). record { lookup = lookup; called = called }) (led many h)
      ∙ ap (λ (at : (place : ℕ) → Option Called). record { lookup = led_to bytes events; called = at }) (fun_ext calls)

  pub html-walked : (many : Bool) (called : (place : ℕ) → Option Called) → many ≡ nat_lt (max 100000 (length bytes)) (references_from bytes (size_by events definitions) 0 events)
      → ((place : ℕ) → called place ≡ called_at (reverse (calls_in bytes events)) place)
      → let known : Known = record { lookup = led_by bytes events definitions many; called = called } in
      after (after [] (walked options bytes known tab [] events)) (section options bytes known tab events) ≡ html_of_events options bytes tab events
  html-walked many called h calls =
      let known = known_in bytes events in
      let ps = pieces options bytes known tab mode.Flow [] (spans_of events) in
      ap (λ (k : Known). after (after [] (walked options bytes k tab [] events)) (section options bytes k tab events)) (known-is many called (too-many many h) calls)
      ∙ ap (λ (x : List Piece). after (after [] x) (section options bytes known tab events)) (walked-all options bytes known tab events balanced)
      ∙ sym (after-append [] ps (section options bytes known tab events)) ∙ after-nothing (ps ++ section options bytes known tab events)
