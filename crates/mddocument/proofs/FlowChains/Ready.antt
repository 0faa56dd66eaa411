-- The events of a text's leaf blocks have chains of text, and strings, that can be read, whatever gaps the text has.
use Rattle.mddocument.proofs.Prelude.{◌≡◌, List, Some, sym, subst, Content, TextContent, Event, IsReady, IsWellFormed, Given, IsText, Text, whole_text, whole-is-text, blocks-are-formed, blocks-meet, flow_events, document, ChainsAreReadable, IsReadable}
use Rattle.markdown_base.specs.declared.event.Content.TheVariants.{Flow}
use Rattle.mddocument.proofs.FlowChains.Adjoined.{AreAdjoined, adjoined-ready, met-adjoined}

module _ (g : Given) (text : Text) (is : IsText g text) where
  -- the events of its leaf blocks
  abbrev flat : List Event
  flat = flow_events g.options.constructs g.bytes text.seats

  formed : IsWellFormed g flat
  formed = blocks-are-formed.blocks g text is

  -- each chunk that is linked stands directly before the one that it is linked to
  flow-adjoined : AreAdjoined flat
  flow-adjoined = met-adjoined flat (blocks-meet g text is)

  pub flow-ready : (wanted : Content) → ¬ (wanted ≡ Flow) → IsReady g.tab g.bytes (Some wanted) flat
  flow-ready wanted other = adjoined-ready g.tab g.bytes flat flow-adjoined formed.balanced formed.void_tight formed.at_places formed.in_order (blocks-meet g text is).both_ways wanted other

pub flow-readable : ChainsAreReadable
flow-readable options bytes events is are =
    let g = document options bytes in subst (IsReadable options bytes) (sym are) (flow-ready g (whole_text g) (whole-is-text g is) TextContent (λ e. absurd (cc)))
