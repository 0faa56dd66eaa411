use Rattle.markdown_base.proofs.Prelude.{◌+◌}
use Rattle.markdown_base.proofs.Scans.{IsReached}
use Rattle.markdown_base.proofs.event.Point.shift_to.Given as goal

-- the virtual text reaches this column after the bytes passed
abbrev pub invariant-loop-byte : goal.invariant-loop-byte
invariant-loop-byte l = IsReached l.fn.tab_size l.bytes l.self.line l.column (l.self.index + l.byte-index)
