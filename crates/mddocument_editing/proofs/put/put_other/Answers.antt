use Rattle.mddocument_editing.proofs.Prelude.{◌+◌, ◌++◌, length, take, drop, refl, subst, sym, ap, ◌∙◌, arith, length-take-le, every-map, err_from_is_err_and, part_events, IsRead, bytes_of_parts, bytes_of_sections, AreReread, HasEvents, HasLinking, Section, knows}
use Rattle.mddocument_editing.specs.Leading.{first_said}
use Rattle.mddocument_editing.specs.Told.{AreToldAround}
use Rattle.mddocument_editing.proofs.PackedParts.{behind-fits, front-fits, parts-fit}
use Rattle.mddocument_editing.proofs.PutChanged.{ArePutIn, below, then-change, then-document, then-kept}
use Rattle.mddocument_editing.proofs.PutOthers.{read-documents}
use Rattle.mddocument_editing.proofs.PutSections.{parts-within}
use Rattle.mddocument_editing.proofs.Rereads.{rereads-three}
use Rattle.mddocument_editing.proofs.put.put_other.Goals.{In_ok-splice}
use Rattle.mddocument_editing.proofs.put.put_other.Goals as goal

pub read_parts-requires-clause-limit : goal.read_parts-requires-clause-limit
read_parts-requires-clause-limit c =
    let kept = c.args.kept.now in
    let sections = bytes_of_sections kept.sections.items in
    parts-within kept.options.tab_size (take c.args.from sections) (bytes_of_parts c.args.parts.items) (drop c.args.end sections) c.requires.recut.divided.limit

pub read_others-requires-clause-kept : goal.read_others-requires-clause-kept
read_others-requires-clause-kept c =
    let kept = c.args.kept.now in
    read-documents kept.options (knows kept.known) kept.sections.items c.requires.possible c.requires.kept.read

-- the sections that were read are put in the place of some
put-in : (c : In_ok-splice) → ArePutIn c.args.kept.now c.args.known c.args.from c.args.end (c.args.from + c.len.result) (bytes_of_parts c.args.parts.items) c.in_ok-read.read.items c.splice.new.self.items c.in_ok-rereads-2.rereads.items c.in_ok-others.others.items
put-in c =
    let kept = c.args.kept.now in
    let read = c.in_ok-read.read in
    let by = part_events kept.options (knows c.args.known) in
    let old_leads = first_said (part_events kept.options (knows kept.known)) (bytes_of_sections kept.sections.items) in
    let xs = kept.sections.items in
    let ends = ap (λ n. c.args.from + n) (c.len.ensures ∙ read.ok.0) in
    let has = every-map (IsRead kept.options (knows c.args.known)) (λ (s : Section). HasEvents by s × HasLinking s) (λ s is. (sym is.events, is.linking)) read.items c.in_ok-read.ensures.read in
    let new_to = c.args.from + length read.items in
    let long = length-take-le c.args.from xs (omega (arith, c.requires.recut.order, c.requires.recut.within)) in
    record {
      kept = c.requires.kept;
      recut = c.requires.recut;
      trimmed = c.requires.trimmed;
      labels = c.requires.labels;
      bytes = c.in_ok-read.ensures.bytes;
      are_read = c.in_ok-read.ensures.read;
      ends = ends;
      rereads_are =
          subst (AreReread by 0 (take c.args.from xs ++ (read.items ++ drop c.args.end xs))) (sym c.in_ok-rereads-2.ensures)
          (rereads-three by (take c.args.from xs) read.items (drop c.args.end xs) c.args.from new_to c.in_ok-rereads.rereads.front.items c.in_ok-rereads.rereads.behind.items long refl has c.in_ok-rereads.ensures.front
          (subst (λ rs. AreReread by (c.args.from + length rs) (drop c.args.end xs) c.in_ok-rereads.rereads.behind.items) c.as_slice.ensures.value c.in_ok-rereads.ensures.behind));
      sections_are = c.in_ok-splice.ensures.items;
      told_are =
          subst (λ n. AreToldAround by old_leads (first_said by (bytes_of_sections (take c.args.from xs ++ (read.items ++ drop c.args.end xs)))) n (take c.args.from xs) (drop c.args.end xs) c.in_ok-others.others.items) (sym ends)
          (subst
          (λ rs. AreToldAround by old_leads (first_said by (bytes_of_sections (take c.args.from xs ++ (rs ++ drop c.args.end xs)))) (c.args.from + length rs) (take c.args.from xs) (drop c.args.end xs) c.in_ok-others.others.items)
          c.as_slice-2.ensures.value c.in_ok-others.ensures);
    }

pub put_events-requires : goal.put_events-requires
put_events-requires c = below (put-in (goal.at.put_events-requires c).In_ok-splice)

pub returns-clause-document : goal.returns-clause-document
returns-clause-document c = then-document (put-in (goal.at.returns-clause-document c).In_ok-splice) c.put_events.new.self c.put_events.ensures

pub returns-clause-kept : goal.returns-clause-kept
returns-clause-kept c = then-kept (put-in (goal.at.returns-clause-kept c).In_ok-splice) c.put_events.new.self c.put_events.ensures

pub returns-clause-change : goal.returns-clause-change
returns-clause-change c = then-change (put-in (goal.at.returns-clause-change c).In_ok-splice) c.put_events.new.self c.put_events.ensures c.in_ok-others.others refl

pub returns-in_err-read-clause-fits : goal.returns-in_err-read-clause-fits
returns-in_err-read-clause-fits c fits long =
    let p = err_from_is_err_and c.from_residual.result c.from_residual.ensures.1 in
    c.in_err-read.ensures.fits (parts-fit c.args.kept.now c.args.from c.args.end (bytes_of_parts c.args.parts.items) (knows c.args.known) c.requires.labels fits) (cc (p.1, p.2, long))

pub returns-in_err-rereads-clause-fits : goal.returns-in_err-rereads-clause-fits
returns-in_err-rereads-clause-fits c fits long =
    let kept = c.args.kept.now in
    let parts = bytes_of_parts c.args.parts.items in
    let defined = knows c.args.known in
    let p = err_from_is_err_and c.from_residual-in_err-rereads.result c.from_residual-in_err-rereads.ensures.1 in
    c.in_err-rereads.ensures.fits (front-fits kept c.args.from c.args.end parts defined c.requires.labels fits)
    (behind-fits kept c.args.from c.args.end parts defined c.requires.labels fits) (cc (p.1, p.2, long))
