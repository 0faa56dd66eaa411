use Rattle.markdown_children.proofs.Prelude.{◌≡◌, List, Option, Some, length, sym, ◌∙◌, ap, subst, Content, Event, Edit, AreDisjoint, edited, given_by, err-if, HasEndsWithin, lists, StartAmong, SoFar, starts_below}
use Rattle.markdown_children.proofs.ChildReads.AsFunction.{subtokenized}
use Rattle.markdown_children.proofs.ChildReads.SoFar.{lists-all}
use Rattle.markdown_children.proofs.Parts.Edits.{edits_give_children}
use Rattle.markdown_children.proofs.ChainOrder.Forward.{ends-inside}
use Rattle.markdown_children.proofs.subtokenize.replace_chunks.Goals as goal

-- what holds of a list holds of those that are the same
moved : (P : List Event → Type 0) (xs ys : List Event) → xs ≡ ys → P xs → P ys
moved P xs ys f h = subst P f h

pub gather-requires-clause-starts : goal.gather-requires-clause-starts
gather-requires-clause-starts g c =
    let given = given_by c.args.parse_state.now.bytes.now c.args.parse_state.now.options.now in
    let starts = (g.M.Machine.rules c.args.parse_state.now.machine.now given).starts in
    moved (StartAmong starts (Some c.args.content)) c.args.events.now.items c.deref.result.now (sym c.deref.ensures.value) c.requires.starts

pub consume-requires : goal.consume-requires
consume-requires g c =
    let p = c.args.parse_state.now in
    let events = c.args.events.now.items in
    let r = c.in_ok-found.ensures.ok in
    let s = moved (λ (xs : List Event). SoFar (given_by p.bytes.now p.options.now) (g.M.Machine.rules p.machine.now) (Some c.args.content) xs (length xs) c.gather.new.map r.0 c.in_ok-found.found)
    _ _ c.deref.ensures.value r.1 in
    record {
      disjoint = subst (λ (es : List Edit). AreDisjoint 0 es (length events)) (sym s.edits)
          (edits_give_children p.options.now.tab_size p.bytes.now (Some c.args.content) events (lists s.children) c.requires.ready).disjoint;
      links = ends-inside p.options.now.tab_size p.bytes.now (Some c.args.content) events c.requires.ready;
    }

pub returns-clause-ok : goal.returns-clause-ok
returns-clause-ok g c =
    let p = c.args.parse_state.now in
    let given = given_by p.bytes.now p.options.now in
    let rules = g.M.Machine.rules p.machine.now in
    let wanted : Option Content = Some c.args.content in
    let events = c.args.events.now.items in
    let r = c.in_ok-found.ensures.ok in
    let s = moved (λ (xs : List Event). SoFar given rules wanted xs (length xs) c.gather.new.map r.0 c.in_ok-found.found) _ _ c.deref.ensures.value r.1 in
    let each = lists-all given rules events HasEndsWithin (λ c child is. is.in_shape.inside) (starts_below wanted events (length events)) s.children s.read in
    let is = c.in_ok-consume.ensures.ok ∙ ap (λ (es : List Edit). edited es events) s.edits
    ∙ (edits_give_children p.options.now.tab_size p.bytes.now wanted events (lists s.children) c.requires.ready).give each in
    subtokenized given rules wanted events c.requires.ready s.children s.read _ _ is s.done s.definitions s.footnotes

pub returns-in_err-consume-clause-err : goal.returns-in_err-consume-clause-err
returns-in_err-consume-clause-err g c = err-if c.from_residual-in_err-consume.result _ _ (λ f is. rw is tt) c.from_residual-in_err-consume.ensures.1
