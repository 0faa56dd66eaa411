use Rattle.markdown_base.proofs.Prelude.{◌≡◌, range_with_len, is_line_start}
use Rattle.std.specs.List.{filter}
use Rattle.markdown_base.proofs.util.location.Location.new.Given as goal

abbrev pub invariant-loop-index : goal.invariant-loop-index
invariant-loop-index l = l.starts.items ≡ filter (is_line_start l.bytes) (range_with_len 0 l.index)
