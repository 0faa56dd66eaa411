use Rattle.std.proofs.Common.{◌++◌, ◌∙◌, ap, append-nil}
use Rattle.std.proofs.lemmas.List.Edits.{between_none}
use Rattle.mdinline_links.proofs.Written.{stays-held}
use Rattle.mdinline_links.specs.Pieces.{put}
use Rattle.mdinline_links.proofs.pieces.push_piece.Goals as goal

pub returns-then-goes_on-clause-written : goal.returns-then-goes_on-clause-written
returns-then-goes_on-clause-written g c =
    let is = c.goes_on.ensures c.if-goes_on.true in
    stays-held c.args.events.now c.args.out.now.items c.args.held.0 c.args.held.1 c.args.piece.now c.requires.order c.requires.fits.0 is.0 is.1

pub returns-clause-written : goal.returns-clause-written
returns-clause-written g c =
    let es = c.args.events.now in
    let end = c.args.piece.now.end in
    ap (λ xs. c.push_fate.new.out.items ++ xs) (between_none es end)
    ∙ append-nil c.push_fate.new.out.items
    ∙ c.in_ok-push_fate.ensures.written
    ∙ ap (λ ys. ys ++ put es ys c.args.piece.now) c.in_ok-extend_from_slice.ensures.items
