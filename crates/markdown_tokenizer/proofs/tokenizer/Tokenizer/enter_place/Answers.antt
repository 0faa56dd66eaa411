use Rattle.markdown_tokenizer.proofs.Prelude.{refl, sym, ◌∙◌}
use Rattle.markdown_tokenizer.proofs.Inside.Spans.{entered-here, entered-there}
use Rattle.markdown_tokenizer.proofs.Inside.Steps.{after_previous-is, here-is}
use Rattle.markdown_tokenizer.proofs.tokenizer.Tokenizer.enter_place.Goals as goal

pub returns-then-is_where_more_is : goal.returns-then-is_where_more_is
returns-then-is_where_more_is g c =
    let t = c.self.inside in let sound = c.self.invariant in
    let exit = rw (← c.self.view_is) at c.requires in
    rw (← c.self.view_is) (entered-there t _ c.args.exit refl c.if-is_where_more_is.ensures (exit ∙ sym (after_previous-is t sound)) ∙ here-is t sound)

pub returns : goal.returns
returns g c =
    let t = c.self.inside in let sound = c.self.invariant in
    rw (← c.self.view_is) (entered-here t _ _ _ refl c.standing-place.ensures c.shown.ensures ∙ here-is t sound)
