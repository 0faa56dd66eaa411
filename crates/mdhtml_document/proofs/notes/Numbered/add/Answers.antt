use Rattle.std.proofs.Common.{ℕ, List, Some, ap, length, ◌∙◌}
use Rattle.std.specs.BTreeMap.{BTreeMap}
use Rattle.std.specs.Global.{Global}
use Rattle.std.specs.Map.{lookup}
use Rattle.std.specs.Ordering.{is_eq, nat_cmp}
use Rattle.std.specs.Prelude.{Vec, bytes_eq, cond}
use Rattle.mddocument_link_targets.proofs.Lookups.{added}
use Rattle.mdhtml_document.specs.declared.notes.Called.{Called}
use Rattle.mdhtml_document.specs.declared.notes.Calls.{Calls}
use Rattle.mdhtml_document.specs.Frames.{call_at, last_known}
use Rattle.mdhtml_document.specs.Notes.{next_call}
use Rattle.mdhtml_document.proofs.Numbers.{more-numbered, texts, texts_with}
use Rattle.mdhtml_document.proofs.notes.Numbered.add.Goals as goal

pub returns : goal.returns
returns c = λ calls is.
    let old = c.args.self.now in
    let call = c.args.call.now in
    let n = c.in_ok-called.called in
    more-numbered old _ call.label.items call.place n calls is
    (c.in_ok-called.ensures.next ∙ ap (λ (x : List ℕ). next_call (last_known old.last x) (length old.labels.items)) c.deref.ensures.value)
    (λ m. ap (λ es. lookup (λ known. bytes_eq m known.items) es) c.in_ok-insert.ensures.entries
    ∙ added (λ (k : Vec ℕ Global). k.items) m c.in_ok-label.label n c.next.new.self.last.entries
    ∙ ap (λ (last : BTreeMap (Vec ℕ Global) Called). cond (bytes_eq m c.in_ok-label.label.items) (Some n) (last_known last m)) c.in_ok-called.ensures.last
    ∙ ap (λ (x : List ℕ). cond (bytes_eq m x) (Some n) (last_known old.last m)) (c.in_ok-label.ensures.items ∙ c.deref-2.ensures.value))
    (c.in_ok-called.ensures.labels ∙ ap (λ (x : List ℕ). texts_with (last_known old.last x) x (texts old.labels.items)) c.deref.ensures.value)
    (λ place. c.in_ok-insert-2.ensures.updates.0 place ∙ ap (λ (at : Calls). cond (is_eq (nat_cmp call.place place)) (Some n) (call_at at place)) c.in_ok-called.ensures.calls)
