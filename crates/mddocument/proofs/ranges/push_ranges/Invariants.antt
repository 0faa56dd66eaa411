use Rattle.mddocument.proofs.Prelude.{◌≡◌, drop, line_at, FollowFrom, text_rules}
use Rattle.mddocument.proofs.RangeReads.{ReadsRanges, pieces_from}
use Rattle.mddocument.proofs.ranges.push_ranges.Given as goal

-- the ranges that are left follow, and their pieces are left
abbrev pub invariant-loop-range : goal.invariant-loop-range
invariant-loop-range l =
    let p = l.fn.parse_state in record {
      follow : FollowFrom p.bytes.now l.end (drop l.range-index l.ranges);
      line : l.line ≡ line_at p.bytes.now l.end;
      reads : ReadsRanges p.options.now p.bytes.now text_rules p.machine.now l.fn.place.index l.ranges (pieces_from p.options.now p.bytes.now l.end (drop l.range-index l.ranges)) l.tokenizer l.state;
    }
