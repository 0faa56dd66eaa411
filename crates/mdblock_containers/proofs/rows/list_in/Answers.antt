use Rattle.std.proofs.Common.{◌≡◌, List, drop, map, sym, ap, ◌∙◌}
use Rattle.std.proofs.lemmas.List.{drop-map}
use Rattle.mdblock_lines.specs.Containers.{Container}
use Rattle.mdblock_lines.specs.Views.{prefix_of}
use Rattle.mdblock_containers.specs.Prefixes.{with_list}
use Rattle.mdblock_containers.specs.Views.{open_of}
use Rattle.mdblock_containers.proofs.rows.list_in.Goals as goal

pub returns : goal.returns
returns c =
    let back = c.rest_of.ensures ∙ ap (drop c.args.many) c.as_slice.ensures.value in
    let same : map open_of c.rest_of.result.now ≡ drop c.args.many (map open_of c.args.before.now.stack.items) = ap (map open_of) back ∙ sym (drop-map open_of c.args.many c.args.before.now.stack.items) in
    c.list_of_first.ensures ∙ ap (λ (l : List Container). with_list l (map (prefix_of c.args.number) c.args.begun.now)) same
