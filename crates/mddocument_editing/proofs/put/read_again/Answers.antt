use Rattle.mddocument_editing.proofs.Prelude.{◌<◌, length, subst, sym, arith, err_from_is_err_and, part_events, IsPackable, IsReadDocument, Section, knows}
use Rattle.mddocument_editing.proofs.put.read_again.Goals as goal
use Rattle.mddocument_editing.proofs.Rereads.{rereads-found}
use Rattle.mddocument_editing.proofs.SectionBytes.{every-at}

pub new_events-requires-clause-read : goal.new_events-requires-clause-read
new_events-requires-clause-read c =
    let xs = c.args.sections.now in
    let i = c.loop-index.index in
    let s = c.index-sections-index.result in
    let P = IsReadDocument c.args.options.now (knows c.args.old.now) in
    let lt : i < length xs = omega arith in
    subst P (sym c.index-sections-index.is) (every-at P xs i s c.requires.read lt)

pub loop-index-preserved : goal.loop-index-preserved
loop-index-preserved c =
    let xs = c.args.sections.now in
    let i = c.loop-index.index in
    let lt : i < length xs = omega arith in
    let s = c.index-sections-index.result in
    let P = IsReadDocument c.args.options.now (knows c.args.old.now) in
    let is : P s = subst P (sym c.index-sections-index.is) (every-at P xs i s c.requires.read lt) in
    rereads-found (part_events c.args.options.now (knows c.args.known.now)) c.args.first i xs c.index-sections-index.result c.in_ok-found.found c.loop-index.others.items c.push_found.new.others.items lt
    c.index-sections-index.is is.read.linking c.loop-index.invariant c.in_ok-found.ensures.none c.in_ok-found.ensures.some c.in_ok-push_found.ensures.none c.in_ok-push_found.ensures.some

pub returns-in_err-found-clause-fits : goal.returns-in_err-found-clause-fits
returns-in_err-found-clause-fits c fits long =
    let xs = c.args.sections.now in
    let i = c.loop-index.index in
    let s = c.index-sections-index.result in
    let P = λ (section : Section). IsPackable c.args.options.now (knows c.args.known.now) section.part.bytes.items in
    let lt : i < length xs = omega arith in
    let one : P s = subst P (sym c.index-sections-index.is) (every-at P xs i s fits lt) in
    let p = err_from_is_err_and c.from_residual.result c.from_residual.ensures.1 in
    c.in_err-found.ensures.fits one (cc (p.1, p.2, long))
