use Rattle.markdown_tokenizer.proofs.Prelude.{◌≡◌, ◌∙◌, ◌++◌, ◌∷◌, [], Option, ap, refl, Progress}
use Rattle.markdown_tokenizer.proofs.Inside.Choices.{saved_if, chosen-kept_choices, chosen-choices}
use Rattle.markdown_tokenizer.proofs.tokenizer.Tokenizer.push_choice.Goals.{then-saves, else-saves}
use Rattle.markdown_tokenizer.proofs.tokenizer.Tokenizer.push_choice.Goals as goal

pub invariant_of-self-2 : goal.invariant_of-self-2
invariant_of-self-2 g c =
    let t = c.self.inside in let sound = c.self.invariant in
    let saved : c.if-saves.saved ≡ saved_if c.args.saves t = (elim c.if-saves.branch [
      | then-saves w ↦ w.saved-is ∙ (let e = w.if-saves.true in let a = w.len.ensures ∙ t.events.ok.0 in let b = w.len-then-saves.ensures ∙ t.stack.ok.0 in rw (e, a, b) refl)
      | else-saves w ↦ w.saved-is ∙ (let e = w.if-saves.false in rw e refl)
    ]) in
    let put : c.push.new.self.items ≡ t.kept_choices.items ++ record { kind = c.args.kind; ok = c.args.ok; nok = c.args.nok; saved = saved_if c.args.saves t } ∷ [] =
    c.in_ok-push.ensures.items ∙ ap (λ (s : Option Progress). t.kept_choices.items ++ record { kind = c.args.kind; ok = c.args.ok; nok = c.args.nok; saved = s } ∷ []) saved in
    record {
      placed = sound.placed;
      made = sound.made;
      at_places = sound.at_places;
      kept_choices = chosen-kept_choices t sound c.args.kind c.args.ok c.args.nok c.args.saves c.push.new.self.items put;
      once = sound.once;
      known = sound.known;
    }

pub returns-clause-ok : goal.returns-clause-ok
returns-clause-ok g c =
    let t = c.self.inside in let sound = c.self.invariant in
    let saved : c.if-saves.saved ≡ saved_if c.args.saves t = (elim c.if-saves.branch [
      | then-saves w ↦ w.saved-is ∙ (let e = w.if-saves.true in let a = w.len.ensures ∙ t.events.ok.0 in let b = w.len-then-saves.ensures ∙ t.stack.ok.0 in rw (e, a, b) refl)
      | else-saves w ↦ w.saved-is ∙ (let e = w.if-saves.false in rw e refl)
    ]) in
    let put : c.push.new.self.items ≡ t.kept_choices.items ++ record { kind = c.args.kind; ok = c.args.ok; nok = c.args.nok; saved = saved_if c.args.saves t } ∷ [] =
    c.in_ok-push.ensures.items ∙ ap (λ (s : Option Progress). t.kept_choices.items ++ record { kind = c.args.kind; ok = c.args.ok; nok = c.args.nok; saved = s } ∷ []) saved in
    rw (← c.self.view_is) (rw (chosen-choices t sound c.args.kind c.args.ok c.args.nok c.args.saves c.push.new.self.items put) refl)
