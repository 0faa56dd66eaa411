use Rattle.markdown_tokenizer.proofs.Prelude.{AllByRecursion, ◌<◌, List, [], ◌∷◌, ◌++◌, every-append, Point, AreSorted}
use Rattle.markdown_tokenizer.proofs.skips.Skips.push.Goals as goal

AreSorted-push : (xs : List Point) (p : Point) → AreSorted xs → AllByRecursion (λ (q : Point). q.line < p.line) xs → AreSorted (xs ++ p ∷ [])
AreSorted-push [] p h l = (tt, tt)
AreSorted-push (x ∷ xs) p h l = (every-append (λ (q : Point). x.line < q.line) xs (p ∷ []) h.0 (l.0, tt), AreSorted-push xs p h.1 l.1)

pub invariant_of-self-2 : goal.invariant_of-self-2
invariant_of-self-2 c =
    rw c.in_ok-push.ensures.items (AreSorted-push c.self.inside.places.items c.args.place c.self.invariant (rw (← c.self.view_is) at c.requires))
