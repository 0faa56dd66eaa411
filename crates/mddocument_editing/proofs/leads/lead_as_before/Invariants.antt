use Rattle.std.proofs.Common.{drop}
use Rattle.std.specs.Prelude.{◌↔◌}
use Rattle.mddocument_editing.specs.Said.{LeadAsBefore, said_by}
use Rattle.mddocument_editing.proofs.leads.lead_as_before.Given as goal

abbrev pub invariant-loop-index : goal.invariant-loop-index
invariant-loop-index l = LeadAsBefore (said_by l.old) (said_by l.new) (drop l.index l.labels) ↔ LeadAsBefore (said_by l.old) (said_by l.new) l.labels
