use Rattle.mdinline_labels.proofs.Prelude.{ap, bytes_eq, defines, deref, each_same, iter_end, list_any, map, normalised, or_assoc, sym, ◌∙◌, ◌||◌, ◌≡◌}
use Rattle.mdinline_labels.proofs.Known.{added, any-behind, any-map}
use Rattle.std.proofs.Common.{rules}
use Rattle.mdinline_labels.proofs.labels.Labels.define_all.Goals as goal

pub loop-normal-preserved : goal.loop-normal-preserved
loop-normal-preserved c =
    let is : c.in_ok-clone.field-0.items ≡ c.in-Some.normal.now.items = each_same _ _ c.in_ok-clone.ensures.cases.0 in
    λ label.
    let n = normalised label in
    let here = bytes_eq n c.in-Some.normal.now.items in
    let before = list_any (λ known. bytes_eq n known.now.items) c.loop-normal.yielded in
    let old = defines c.args.self.now label in
    ap (list_any (λ v. bytes_eq n v.items)) c.in_ok-insert.ensures.keys
    ∙ added (λ v. v.items) n c.in_ok-clone.field-0 c.loop-normal.self.normal.keys
    ∙ ap (λ bs. bytes_eq n bs || defines c.loop-normal.self label) is
    ∙ ap (λ b. here || b) (c.loop-normal.invariant label)
    ∙ sym (or_assoc here before old)
    ∙ ap (λ b. b || old) (sym (any-behind (λ known. bytes_eq n known.now.items) c.loop-normal.yielded c.in-Some.normal))

pub returns : goal.returns
returns c =
    let all : map deref c.loop-normal.yielded ≡ c.args.others.now.normal.keys = search (rules, iter_end) in
    λ label.
    let n = normalised label in
    c.loop-normal.invariant label
    ∙ ap (λ b. b || defines c.args.self.now label)
    (sym (any-map (λ v. bytes_eq n v.items) deref c.loop-normal.yielded) ∙ ap (list_any (λ v. bytes_eq n v.items)) all)
