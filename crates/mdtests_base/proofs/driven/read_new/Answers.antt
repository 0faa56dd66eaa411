use Rattle.mdtests_base.proofs.Prelude.{[], ◌∷◌, arith, Next}
use Rattle.markdown.proofs.Runs.Cuts.{IsAtCut, at-start, at-next, at-end}
use Rattle.mdtests_base.proofs.driven.read_new.Goals as goal

pub push_shown-requires : goal.push_shown-requires
push_shown-requires g c =
    let begun : IsAtCut g.M.Machine.rules c.args.parse_state.now c.args.start (c.args.cut ∷ []) 0 (0, 0) c.args.tokenizer.now (Next c.args.start) =
    at-start g.met.M.Machine.lawful c.requires.document c.requires.start c.requires.cut _ c.requires.begins in
    record { range = λ _. begun.range (omega arith); holds = λ _. begun.holds }

pub push_shown-requires-2 : goal.push_shown-requires-2
push_shown-requires-2 g c =
    let begun : IsAtCut g.M.Machine.rules c.args.parse_state.now c.args.start (c.args.cut ∷ []) 0 (0, 0) c.args.tokenizer.now (Next c.args.start) =
    at-start g.met.M.Machine.lawful c.requires.document c.requires.start c.requires.cut _ c.requires.begins in
    let cut = at-next begun c.push_shown.new.tokenizer c.in_ok-first.first (omega arith) c.in_ok-first.ensures in
    record { range = λ _. cut.last; holds = λ _. cut.holds }

pub flush-flushed-requires : goal.flush-flushed-requires
flush-flushed-requires g c =
    let begun : IsAtCut g.M.Machine.rules c.args.parse_state.now c.args.start (c.args.cut ∷ []) 0 (0, 0) c.args.tokenizer.now (Next c.args.start) =
    at-start g.met.M.Machine.lawful c.requires.document c.requires.start c.requires.cut _ c.requires.begins in
    let cut = at-next begun c.push_shown.new.tokenizer c.in_ok-first.first (omega arith) c.in_ok-first.ensures in
    record { holds = λ _. at-end cut c.push_shown-2.new.tokenizer c.in_ok-second.second c.in_ok-second.ensures }
