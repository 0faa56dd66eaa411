use Rattle.markdown_children.proofs.Prelude.{List, None, length, sym, ◌∙◌, ap, subst, Event, Edit, edited, given_by, HasEndsWithin, lists, StartAmong, starts_below, HasWoven}
use Rattle.markdown_children.proofs.ChildReads.AsFunction.{subtokenized}
use Rattle.markdown_children.proofs.ChildReads.SoFar.{lists-all}
use Rattle.markdown_children.proofs.Parts.Edits.{edits_give_children}
use Rattle.markdown_children.proofs.subtokenize.weave_in.Goals as goal

pub weave-requires-clause-starts : goal.weave-requires-clause-starts
weave-requires-clause-starts g c =
    let given = given_by c.args.parse_state.now.bytes.now c.args.parse_state.now.options.now in
    let starts = (g.M.Machine.rules c.args.parse_state.now.machine.now given).starts in
    subst (StartAmong starts None) (sym c.deref.ensures.value) c.requires.starts

pub returns-clause-ok : goal.returns-clause-ok
returns-clause-ok g c =
    let p = c.args.parse_state.now in
    let given = given_by p.bytes.now p.options.now in
    let rules = g.M.Machine.rules p.machine.now in
    let events = c.args.events.now.items in
    let w = subst (λ (xs : List Event). HasWoven given rules xs c.in_ok-woven.woven.items c.in_ok-woven.found) c.deref.ensures.value c.in_ok-woven.ensures.ok in
    let s = w.1.1 in
    let each = lists-all given rules events HasEndsWithin (λ c child is. is.in_shape.inside) (starts_below None events (length events)) s.children s.read in
    let is = w.2 ∙ ap (λ (es : List Edit). edited es events) s.edits ∙ (edits_give_children p.options.now.tab_size p.bytes.now None events (lists s.children) c.requires.ready).give each in
    subtokenized given rules None events c.requires.ready s.children s.read _ _ is s.done s.definitions s.footnotes
