use Rattle.markdown_children.proofs.Prelude.{◌+◌, ◌-◌, ◌<◌, ◌^◌, ◌++◌, take, drop, All, IfSome, sym, ◌∙◌, ap, subst, All-drop, All-take, Event, EachEnd}
use Rattle.markdown_children.proofs.division.place_part.Goals as goal

pub place_links-requires-clause-fits : goal.place_links-requires-clause-fits
place_links-requires-clause-fits c =
    let P : Event → Type 0 = λ e. IfSome e.link (EachEnd (λ n. All (λ k. k.index + 2 + c.args.acc.1 + n < 2 ^ 64) c.args.chunks.now)) in
    let part = take (c.args.chunk.end - c.args.chunk.start) (drop c.args.chunk.start c.args.child.now) in
    subst (All P) (sym (c.as_mut_slice.ensures.value ∙ c.in_ok-extend_from_slice.ensures.items ∙ ap (λ es. es ++ part) c.clear.ensures.items)) (All-take P (c.args.chunk.end - c.args.chunk.start) (drop c.args.chunk.start c.args.child.now) (All-drop P c.args.chunk.start c.args.child.now c.requires.fits))
