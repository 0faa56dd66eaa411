use Rattle.mddocument_editing.proofs.Prelude.{◌+◌, ◌++◌, [], length, take, drop, refl, subst, sym, ap, ◌∙◌, err_from_is_err_and, part_events, bytes_of_parts, bytes_of_sections, IsRead, knows}
use Rattle.mddocument_editing.specs.Leading.{first_said}
use Rattle.mddocument_editing.specs.Told.{AreToldAround}
use Rattle.mddocument_editing.proofs.PackedParts.{parts-fit}
use Rattle.mddocument_editing.proofs.PutChanged.{ArePutIn, then-change, then-document, then-kept}
use Rattle.mddocument_editing.proofs.PutSections.{every-put, parts-within}
use Rattle.mddocument_editing.proofs.Rereads.{none-again}
use Rattle.mddocument_editing.proofs.put.put_same.Goals.{In_ok-splice}
use Rattle.mddocument_editing.proofs.put.put_same.Goals as goal

pub read_parts-requires-clause-limit : goal.read_parts-requires-clause-limit
read_parts-requires-clause-limit c =
    let kept = c.args.kept.now in
    let sections = bytes_of_sections kept.sections.items in
    parts-within kept.options.tab_size (take c.args.from sections) (bytes_of_parts c.args.parts.items) (drop c.args.end sections) c.requires.recut.divided.limit

-- the sections that were read are put in the place of some, and none was read again
put-in : (c : In_ok-splice) → ArePutIn c.args.kept.now c.args.kept.now.known c.args.from c.args.end (c.args.from + c.len.result) (bytes_of_parts c.args.parts.items) c.in_ok-read.read.items c.splice.new.self.items [] c.in_ok-others.others.items
put-in c =
    let kept = c.args.kept.now in
    let read = c.in_ok-read.read in
    let defined = knows kept.known in
    let by = part_events kept.options defined in
    let xs = kept.sections.items in
    let from = c.args.from in
    let end = c.args.end in
    let now = take from xs ++ (read.items ++ drop end xs) in
    let ends = ap (λ n. from + n) (c.len.ensures ∙ read.ok.0) in
    record {
      kept = c.requires.kept;
      recut = c.requires.recut;
      trimmed = c.requires.trimmed;
      labels = c.requires.labels;
      bytes = c.in_ok-read.ensures.bytes;
      are_read = c.in_ok-read.ensures.read;
      ends = ends;
      rereads_are = none-again kept.options defined 0 now (every-put (IsRead kept.options defined) from end xs read.items c.requires.kept.read c.in_ok-read.ensures.read);
      sections_are = c.in_ok-splice.ensures.items;
      told_are =
          subst (λ n. AreToldAround by (first_said by (bytes_of_sections xs)) (first_said by (bytes_of_sections now)) n (take from xs) (drop end xs) c.in_ok-others.others.items) (sym ends)
          (subst (λ rs. AreToldAround by (first_said by (bytes_of_sections xs)) (first_said by (bytes_of_sections (take from xs ++ (rs ++ drop end xs)))) (from + length rs) (take from xs) (drop end xs) c.in_ok-others.others.items)
          c.as_slice.ensures.value c.in_ok-others.ensures);
    }

pub returns-clause-document : goal.returns-clause-document
returns-clause-document c = then-document (put-in (goal.at.returns-clause-document c).In_ok-splice) c.splice.new.self refl

pub returns-clause-kept : goal.returns-clause-kept
returns-clause-kept c = then-kept (put-in (goal.at.returns-clause-kept c).In_ok-splice) c.splice.new.self refl

pub returns-clause-change : goal.returns-clause-change
returns-clause-change c = then-change (put-in (goal.at.returns-clause-change c).In_ok-splice) c.splice.new.self refl c.in_ok-others.others refl

pub returns-in_err-read-clause-fits : goal.returns-in_err-read-clause-fits
returns-in_err-read-clause-fits c fits long =
    let kept = c.args.kept.now in
    let p = err_from_is_err_and c.from_residual.result c.from_residual.ensures.1 in
    c.in_err-read.ensures.fits (parts-fit kept c.args.from c.args.end (bytes_of_parts c.args.parts.items) (knows kept.known) c.requires.labels fits) (cc (p.1, p.2, long))
