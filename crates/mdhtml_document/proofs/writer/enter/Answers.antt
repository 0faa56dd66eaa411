use Rattle.std.proofs.Common.{◌∙◌, ◌++◌, ap, subst, sym, List, ℕ}
use Rattle.mdblock_containers.specs.declared.list_shapes.ListShape.{ListShape}
use Rattle.markdown_base.specs.declared.event.Event.{Event}
use Rattle.mddocument_link_targets.specs.Spans.{inside}
use Rattle.mdhtml_document.specs.declared.shapes.Level.{Level}
use Rattle.mdhtml_document.specs.Frames.{AreListsOf, columns_at, mode_of, opens}
use Rattle.mdhtml_document.specs.Html.{columns_in}
use Rattle.mdhtml_document.specs.Names.{block_of}
use Rattle.mdhtml_markup.specs.Escapes.{escaped}
use Rattle.mdhtml_document.proofs.Entered.{bytes-lists, bytes-short, bytes-step, lists-step, open-step, over-lists, over-short, over-step}
use Rattle.mdhtml_document.proofs.writer.enter.Goals as goal

pub returns-then-is_over-clause-lists : goal.returns-then-is_over-clause-lists
returns-then-is_over-clause-lists c =
    over-lists c.args.whole.now.bytes.now c.args.lists.now _ _ c.args.event.now c.args.behind.now _ c.requires.lists c.split_list-list.ensures.others c.pass.ensures.lists c.pass.ensures.events

pub returns-then-is_over-clause-written : goal.returns-then-is_over-clause-written
returns-then-is_over-clause-written c =
    over-step c.args.whole.now (opens c.args.levels.now.items) _ c.args.lists.now _ c.args.event.now c.args.behind.now _ c.in_ok-frame.frame _ _ c.requires.kind c.requires.lists
    c.split_list-list.ensures.list c.in_ok-frame.ensures.opened c.in_ok-frame.ensures.moved (sym c.is_over.ensures ∙ c.if-is_over.true) c.pass.ensures.events

pub returns-then-is_over-clause-within : goal.returns-then-is_over-clause-within
returns-then-is_over-clause-within c = over-short c.args.behind.now _ c.pass.ensures.events

pub returns-clause-lists : goal.returns-clause-lists
returns-clause-lists c =
    subst (λ (x : List ListShape). AreListsOf c.args.whole.now.bytes.now x c.args.behind.now) (sym c.split_list-list.ensures.others)
    (lists-step c.args.whole.now.bytes.now c.args.lists.now c.args.event.now c.args.behind.now c.requires.lists)

pub returns-clause-written : goal.returns-clause-written
returns-clause-written c =
    open-step c.args.whole.now (opens c.args.levels.now.items) _ _ c.args.lists.now _ c.args.event.now c.args.behind.now _ c.in_ok-frame.frame _ _ c.requires.kind c.requires.lists
    c.split_list-list.ensures.list c.in_ok-frame.ensures.opened c.in_ok-frame.ensures.moved
    (c.columns_in.ensures ∙ ap (λ b. columns_in b c.columns_at-columns.result.now (inside c.args.behind.now)) c.block_of.ensures
    ∙ ap (λ (x : List Event). columns_in (block_of c.args.event.now.name) x (inside c.args.behind.now))
    (c.columns_at-columns.ensures ∙ ap (λ (x : List Level). columns_at (opens x)) c.as_slice-2.ensures.value))
    c.in_ok-push_level.ensures

pub returns-then-is_bytes-clause-lists : goal.returns-then-is_bytes-clause-lists
returns-then-is_bytes-clause-lists c =
    bytes-lists c.args.whole.now.bytes.now c.args.lists.now _ c.args.event.now c.args.behind.now _ c.requires.kind (sym c.is_bytes.ensures ∙ c.if-is_bytes.true) c.requires.lists c.behind_first.ensures

pub returns-then-is_bytes-clause-written : goal.returns-then-is_bytes-clause-written
returns-then-is_bytes-clause-written c =
    bytes-step c.args.whole.now (opens c.args.levels.now.items) c.args.lists.now _ c.args.event.now c.args.behind.now _ c.args.out.now.items _ c.requires.kind c.requires.lists
    (c.mode_of.ensures ∙ ap (λ (x : List Level). mode_of (opens x)) c.as_slice.ensures.value) (sym c.is_bytes.ensures ∙ c.if-is_bytes.true) c.behind_first.ensures
    (c.in_ok-push_escaped.ensures ∙ ap (λ (t : List ℕ). c.args.out.now.items ++ escaped t) c.inner_bytes.ensures)

pub returns-then-is_bytes-clause-within : goal.returns-then-is_bytes-clause-within
returns-then-is_bytes-clause-within c = bytes-short c.args.behind.now _ c.behind_first.ensures
