use Rattle.mddocument_editing.proofs.Prelude.{◌-◌, ◌<◌, ◌++◌, drop, get_or, sym, ap, ◌∙◌, arith, append_assoc, take_rest}
use Rattle.std.specs.Prelude.{option_to_list}
use Rattle.markdown_base.proofs.SliceLemmas.{filler}
use Rattle.mddocument_link_targets.specs.Spans.{size_from}
use Rattle.mddocument_editing.specs.Exits.{exits_before}
use Rattle.mddocument_editing.specs.Said.{link_label, link_labels}
use Rattle.mddocument_editing.proofs.ExitSteps.{behind-one, behind-two, exit-more, label-more}
use Rattle.mddocument_editing.proofs.linking.push_all.Goals as goal

pub link_label-requires-clause-size : goal.link_label-requires-clause-size
link_label-requires-clause-size c =
    let events = c.args.events.now in
    c.size_at-size.ensures ∙ ap (size_from 0) (behind-one events (omega arith)) ∙ ap (λ ds. size_from 0 (drop 1 ds)) (sym (take_rest events (c.loop-at.at - 1)))

pub link_label-requires-clause-own_size : goal.link_label-requires-clause-own_size
link_label-requires-clause-own_size c =
    let events = c.args.events.now in
    c.loop-at.invariant.own ∙ ap (size_from 0) (behind-two events (omega arith)) ∙ ap (λ ds. size_from 0 (drop 2 ds)) (sym (take_rest events (c.loop-at.at - 1)))

pub loop-at-preserved : goal.loop-at-preserved
loop-at-preserved c =
    let bytes = c.args.bytes.now in
    let events = c.args.events.now in
    let at = c.loop-at.at in
    let ds = drop (at - 1) events in
    let before = c.args.all.now.items in
    let some : 0 < at = omega arith in
    record {
      labels =
          c.in_ok-push_found.ensures
          ∙ ap (λ f. c.loop-at.all.items ++ option_to_list f) (c.in_ok-found.ensures ∙ ap (link_label bytes) (take_rest events (at - 1)))
          ∙ ap (λ ls. ls ++ option_to_list (link_label bytes ds)) c.loop-at.invariant.labels
          ∙ append_assoc before (link_labels bytes (drop at events)) (option_to_list (link_label bytes ds))
          ∙ ap (λ ls. before ++ ls) (sym (label-more events some bytes));
      exits = c.in_ok-keep_exit.ensures ∙ ap (exits_before (get_or events (at - 1) filler).kind (at - 1)) c.loop-at.invariant.exits ∙ exit-more events some c.loop-at.invariant.room;
      own = c.size_at-size.ensures ∙ ap (size_from 0) (behind-one events some);
      room = omega arith;
    }
