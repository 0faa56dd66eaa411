use Rattle.mddocument_editing.proofs.Prelude.{◌≡◌, ◌∙◌, List, [], ◌++◌, refl, sym, ap, part_events, knows}
use Rattle.mddocument_editing.specs.declared.said.Said.{Said}
use Rattle.mddocument_editing.proofs.Touched.{own-are}
use Rattle.mddocument_editing.proofs.told.define_as_before.Goals as goal

-- what was found of sections alone
alone : (none found all : List Said) → none ≡ [] → found ≡ none ++ all → found ≡ all
alone none found all empty are = are ∙ ap (λ ss. ss ++ all) empty

pub returns : goal.returns
returns c = λ same.
    let gone = alone c.new-gone.result.items c.push_own.new.all.items _ c.new-gone.ensures.items c.in_ok-push_own.ensures in
    let read = alone c.new-read.result.items c.push_own-2.new.all.items _ c.new-read.ensures.items c.in_ok-push_own-2.ensures in
    sym (own-are (part_events c.args.options.now (knows c.args.old.now)) 0 c.args.around.now.gone.now [] refl c.requires.gone)
    ∙ sym gone ∙ sym c.as_slice.ensures.value ∙ c.same_saids.ensures same ∙ c.as_slice-2.ensures.value ∙ read
    ∙ own-are (part_events c.args.options.now (knows c.args.new.now)) 0 c.args.around.now.read.now [] refl c.requires.read
