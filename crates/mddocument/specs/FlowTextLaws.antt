-- What is said of the events of leaf blocks with their texts.
use Rattle.std.specs.Prelude.{◌≡◌, ℕ, Bool, List, None}
use Rattle.markdown_base.specs.declared.event.Event.{Event}
use Rattle.markdown_children.specs.Reads.{IsSubtokenized}
use Rattle.markdown_tokenizer.specs.declared.subtokenize.Subresult.{Subresult}
use Rattle.markdown_tokenizer.specs.Engine.{IsWellFormed}
use Rattle.markdown_tokenizer.specs.Text.{Given, Text, IsText}
use Rattle.mdconstructs_machines.specs.Innermost.{AccountFor}
use Rattle.mdblock_leaf_blocks.specs.LeafEvents.{flow_events}
use Rattle.mdinline_machine.specs.InlineRules.{inlines_rules, no_labels}
use Rattle.mdinline_machine.specs.LawStatements.{with_inlines, with_strings}
use Rattle.mddocument.specs.FlowTexts.{flow_inlines}

-- the events of a text's leaf blocks, with the inline text of each chain in place of its chunks and then those of each string, are these, whatever
-- gaps the text has. Leaf blocks alone define no labels
abbrev pub InlinesAreRead : Type 0
InlinesAreRead = (g : Given) (text : Text) → IsText g text
    → with_strings g (with_inlines no_labels g (flow_events g.options.constructs g.bytes text.seats)) ≡ flow_inlines g.options g.bytes text.seats

-- With the children of all their chains at once they are the same: as with those of chains of text, and then of strings; whatever labels are defined
abbrev pub InlinesAreReadAtOnce : Type 0
InlinesAreReadAtOnce = (defined : List ℕ → Bool) (g : Given) (text : Text) (new : List Event) (sub : Subresult) → IsText g text → let flat = flow_events g.options.constructs g.bytes text.seats in
    IsSubtokenized g (inlines_rules defined) None flat new sub → new ≡ with_strings g (with_inlines defined g flat)

-- with inline text they are well formed
abbrev pub InlinesAreFormed : Type 0
InlinesAreFormed = (g : Given) (text : Text) → IsText g text → IsWellFormed g (flow_inlines g.options g.bytes text.seats)

-- each virtual byte of the text is in exactly one innermost span of these too
abbrev pub InlinesAccount : Type 0
InlinesAccount = (g : Given) (text : Text) → IsText g text → AccountFor (flow_inlines g.options g.bytes text.seats) g.bytes text.seats
