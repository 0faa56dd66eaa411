-- No event of leaf blocks is of emphasis: blocks do not depend on whether attention and strikethrough are on, and have names of the constructs that are.
use Rattle.std.proofs.Common.{◌≡◌, ℕ, List, true, false, refl, sym, ◌∙◌}
use Rattle.std.proofs.lemmas.Bool.{false_from_ne_true, false≢true}
use Rattle.markdown_base.specs.declared.configuration.Constructs.{Constructs}
use Rattle.markdown_base.specs.declared.event.Name.{Name}
use Rattle.markdown_base.specs.Virtual.{Seat}
use Rattle.mdblock_leaf_blocks.specs.LeafEvents.{flow_events}
use Rattle.mddocument_laws.specs.EmphasisSpans.{is_emphasis}
use Rattle.mddocument_laws.specs.Names.{may_be_named}
use Rattle.mddocument_laws.proofs.FlowNames.{flow-named-by}
use Rattle.mddocument_laws.proofs.Named.{Named, weaker}
use Rattle.mddocument_laws.proofs.PlainNames.{by-emphasis}

module _ (on : Constructs) where
  abbrev without : Constructs
  without = record on { attention = false; gfm_strikethrough = false }

  plain-name : (n : Name) → may_be_named without n ≡ true → is_emphasis n ≡ false
  plain-name n may = false_from_ne_true (is_emphasis n) (λ e. false≢true (sym (by-emphasis (λ m. may_be_named without m ≡ false) refl refl refl n e) ∙ may))

  pub flow-plain : (bytes : List ℕ) (seats : List Seat) → Named (λ n. is_emphasis n ≡ false) (flow_events on bytes seats)
  flow-plain bytes seats = weaker plain-name (flow_events on bytes seats) (flow-named-by on without (λ block h. h) bytes seats)
