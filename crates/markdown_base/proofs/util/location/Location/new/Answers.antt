use Rattle.markdown_base.proofs.Prelude.{◌≡◌, ◌+◌, sym, ◌∙◌, ap, arith, ◌<◌, ◌^◌, length, subst, range_with_len, is_line_start, IsKept}
use Rattle.std.proofs.Common.{true, false, append-nil}
use Rattle.std.specs.List.{filter}
use Rattle.markdown_base.proofs.LineLemmas.{passing_next, lines_are_kept}
use Rattle.markdown_base.proofs.util.location.Location.new.Goals as goal
use Rattle.markdown_base.proofs.util.location.Location.new.Goals.{then-starts_line+in_ok-push, else-starts_line}

pub loop-index-preserved : goal.loop-index-preserved
loop-index-preserved c = elim c.if-starts_line.branch [
  | then-starts_line+in_ok-push w ↦ passing_next (is_line_start c.args.bytes.now) c.loop-index.index c.loop-index.starts.items c.if-starts_line.starts.items true c.loop-index.invariant (cc) (cc (w.in_ok-push.ensures.items))
  | else-starts_line w ↦ passing_next (is_line_start c.args.bytes.now) c.loop-index.index c.loop-index.starts.items c.if-starts_line.starts.items false c.loop-index.invariant (cc) (rw append-nil (cc))
]

pub invariant_of-result : goal.invariant_of-result
invariant_of-result c =
    let all : c.loop-index.index ≡ length c.args.bytes.now + 1 = omega arith in
    let fits : length c.args.bytes.now + 1 < 2 ^ 64 = omega arith in
    subst (IsKept (length c.args.bytes.now)) (sym (c.loop-index.invariant ∙ ap (λ n. filter (is_line_start c.args.bytes.now) (range_with_len 0 n)) all)) (lines_are_kept c.args.bytes.now fits)
