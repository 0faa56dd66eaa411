-- What a reading of leaf blocks ends in, and what is left where all is resolved.
use Rattle.mdblock_leaf_blocks.proofs.Prelude.{◌≡◌, [], Bool, true, Name, Some, sym, ap, ◌∙◌, subst, Next, edited, one-end, with_resolvers, Configuration, start_configuration, Subresult, Reading, EndsIn, IsResolved, done, edits_made, found, resolved_by, taken, Given, Text, table_step, flow_rules, flow, flow_told, FlowEnds, FlowIsRead, IsToldAs, flow_events}
use Rattle.mdblock_leaf_blocks.proofs.Marks.ToldBlocks.{edits-make-blocks}

module _ (g : Given) (t : Text) (flag : Bool) (start : Name) (r : Reading Unit Unit) (ends : EndsIn g (table_step flow g) t 0 (start_configuration flag) [] (Next start) r) (told : IsToldAs g t flag start (flow_told g.options.constructs g.bytes t.seats)) where
  same-reading : told.result ≡ r
  same-reading = one-end g (table_step flow g) t 0 (start_configuration flag) [] (Next start) told.result r told.ends ends

  resolved-so : (final : Configuration Unit Unit) (sub : Subresult) → IsResolved (flow_rules g).resolver g t true told.result.configuration final sub → final.events ≡ flow_events g.options.constructs g.bytes t.seats
  resolved-so final sub resolved =
      let k = told.result.configuration in
      let made : done (edits_made (with_resolvers (taken k) [])) (Some (found k)) ≡ done final (Some sub) = sym (ap (λ rs. resolved_by (flow_rules g).resolver g t rs (with_resolvers (taken k) []) (found k)) told.resolvers) ∙ resolved in
      let last : edits_made (with_resolvers (taken k) []) ≡ final = cc in
      sym (ap (λ (q : Configuration Unit Unit). q.events) last) ∙ ap (λ es. edited es k.events) told.edits ∙ ap (edited _) told.events_are
      ∙ edits-make-blocks.events g.options.constructs g.bytes t.seats

pub flow-ends : FlowIsRead → FlowEnds
flow-ends read g t flag start among room r ends =
    let told = read g t flag start among room in
    let same = same-reading g t flag start r ends told in
    record {
      well = ap (λ (q : Reading Unit Unit). q.answer) (sym same) ∙ told.well;
      events_are = λ final sub resolved. resolved-so g t flag start r ends told final sub (subst (λ (q : Reading Unit Unit). IsResolved (flow_rules g).resolver g t true q.configuration final sub) (sym same) resolved);
    }
