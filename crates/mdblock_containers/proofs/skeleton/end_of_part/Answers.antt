use Rattle.std.proofs.Common.{◌≡◌, ◌+◌, cond, sym, ap, ◌∙◌, arith}
use Rattle.std.specs.Prelude.{◌==◌, ◌&&◌, not, Some, None}
use Rattle.markdown_base.specs.Virtual.{point}
use Rattle.mdblock_containers.specs.declared.spans.RowAt.{RowAt}
use Rattle.mdblock_containers.specs.Rows.{holds_ending}
use Rattle.mdblock_containers.specs.Stretches.{end_at, last_at}
use Rattle.mdblock_containers.specs.Views.{leaf_of}
use Rattle.mdblock_containers.proofs.EndLemmas.{last_item}
use Rattle.mdblock_containers.proofs.PartWritten.{end_at_is}
use Rattle.mdblock_containers.proofs.skeleton.end_of_part.Goals as goal

pub part_end-requires-in-len1-up : goal.part_end-requires-in-len1-up
part_end-requires-in-len1-up c =
    let same : last_at c.args.first.now c.args.more.now ≡ c.last-item.result = last_item c.args.first.now c.args.more.now c.last-item.result c.in-len1-up.len_at_least ∙ sym c.last-item.is in
    record { size = omega (arith, c.requires.size, ap (λ (x : RowAt). x.span.size) same); number = omega (arith, c.requires.number, ap (λ (x : RowAt). x.span.number) same) }

pub returns-in-len1-up : goal.returns-in-len1-up
returns-in-len1-up c =
    let same : last_at c.args.first.now c.args.more.now ≡ c.last-item.result = last_item c.args.first.now c.args.more.now c.last-item.result c.in-len1-up.len_at_least ∙ sym c.last-item.is in
    let blank = c.args.first.now.row.is_blank in
    record {
      is_blank = c.part_end-in-len1-up.ensures.is_blank;
      place = c.part_end-in-len1-up.ensures.place ∙ end_at_is (not blank && holds_ending (leaf_of c.last-item.result.row.leaf)) c.last-item.result ∙ ap (λ (x : RowAt). end_at (not blank && holds_ending (leaf_of x.row.leaf)) x) (sym same);
      behind = c.part_end-in-len1-up.ensures.behind ∙ ap (λ (x : RowAt). cond (not blank && holds_ending (leaf_of x.row.leaf)) None (cond (x.span.end == x.span.next) None (Some (point (x.span.number + 1) 1 x.span.next 0)))) (sym same);
    }
