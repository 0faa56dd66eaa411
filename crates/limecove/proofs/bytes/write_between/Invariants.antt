use Rattle.std.proofs.Common.{◌≡◌, ◌+◌, ◌≤◌, drop}
use Rattle.std.specs.Prelude.{slice_range}
use Rattle.mdconstructs.specs.Sections.{document_of}
use Rattle.limecove.specs.Editing.{written}
use Rattle.limecove.proofs.WrittenBytes.{written_at}
use Rattle.limecove.proofs.bytes.write_between.Given as goal

abbrev pub invariant-writing : goal.invariant-writing
invariant-writing l = record {
  same : written_at l.out l.done (slice_range (document_of (drop l.index l.sections.sections)) l.begin l.end) ≡ written l.fn.out (slice_range (document_of l.sections.sections) l.from l.to);
  room : l.done + l.end ≤ l.to;
}
