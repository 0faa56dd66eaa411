use Rattle.markdown_tokenizer.proofs.Prelude.{refl}
use Rattle.markdown_tokenizer.proofs.Runs.Moved.{moved-sound, moved-seen}
use Rattle.markdown_tokenizer.proofs.tokenizer.Tokenizer.moved_to.Goals as goal

pub invariant_of-result : goal.invariant_of-result
invariant_of-result g c =
    let t = c.self.inside in let there = c.args.document in
    moved-sound t (record t { parse_state = there; bytes = there.now.bytes }) c.self.invariant refl (rw (← c.self.view_is) at c.requires.alike)

pub returns-clause-moved : goal.returns-clause-moved
returns-clause-moved g c =
    let t = c.self.inside in let there = c.args.document in
    rw (← c.self.view_is) (moved-seen t (record t { parse_state = there; bytes = there.now.bytes }) c.self.invariant refl (rw (← c.self.view_is) at c.requires.alike)
    (rw (← c.self.view_is) at c.requires.machine))

pub returns-clause-at_places : goal.returns-clause-at_places
returns-clause-at_places g c =
    let t = c.self.inside in let there = c.args.document in
    let sound = moved-sound t (record t { parse_state = there; bytes = there.now.bytes }) c.self.invariant refl (rw (← c.self.view_is) at c.requires.alike) in
    rw (← c.self.view_is) sound.at_places
