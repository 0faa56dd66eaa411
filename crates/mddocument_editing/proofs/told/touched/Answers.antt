use Rattle.mddocument_editing.proofs.Prelude.{[], refl, sym, ap, ◌∙◌, part_events, knows}
use Rattle.mddocument_editing.specs.Said.{said_of}
use Rattle.mddocument_editing.specs.Told.{own_saids}
use Rattle.mddocument_editing.proofs.Touched.{neither-defined, own-are, untouched-all}
use Rattle.mddocument_editing.proofs.told.touched.Goals as goal

pub returns-clause-behind : goal.returns-clause-behind
returns-clause-behind c label none =
    let behind = c.args.around.now.behind in
    (untouched-all (part_events c.args.options.now (knows c.args.new.now)) label behind.first behind.sections.now behind.rereads.now c.push_rereads.new.all.items c.push_rereads-2.new.all.items c.requires.behind
    c.in_ok-push_rereads-2.ensures (sym (c.in_ok-touched.ensures label) ∙ none)).1

pub returns-clause-front : goal.returns-clause-front
returns-clause-front c label none =
    let new = part_events c.args.options.now (knows c.args.new.now) in
    let front = c.args.around.now.front in
    let behind = c.args.around.now.behind in
    let last = untouched-all new label behind.first behind.sections.now behind.rereads.now c.push_rereads.new.all.items c.push_rereads-2.new.all.items c.requires.behind c.in_ok-push_rereads-2.ensures
    (sym (c.in_ok-touched.ensures label) ∙ none)
    in
    (untouched-all new label front.first front.sections.now front.rereads.now c.push_own-2.new.all.items c.push_rereads.new.all.items c.requires.front c.in_ok-push_rereads.ensures last.0).1

pub returns-clause-read : goal.returns-clause-read
returns-clause-read c label none =
    let new = part_events c.args.options.now (knows c.args.new.now) in
    let front = c.args.around.now.front in
    let behind = c.args.around.now.behind in
    let read = c.args.around.now.read.now in
    let last = untouched-all new label behind.first behind.sections.now behind.rereads.now c.push_rereads.new.all.items c.push_rereads-2.new.all.items c.requires.behind c.in_ok-push_rereads-2.ensures
    (sym (c.in_ok-touched.ensures label) ∙ none)
    in
    let first = untouched-all new label front.first front.sections.now front.rereads.now c.push_own-2.new.all.items c.push_rereads.new.all.items c.requires.front c.in_ok-push_rereads.ensures last.0 in
    ap (λ ds. said_of ds label) (sym (own-are new 0 read [] refl c.requires.read))
    ∙ (neither-defined label c.push_own.new.all.items (own_saids read) (ap (λ ds. said_of ds label) (sym c.in_ok-push_own-2.ensures) ∙ first.0)).1

pub returns-clause-gone : goal.returns-clause-gone
returns-clause-gone c label none =
    let new = part_events c.args.options.now (knows c.args.new.now) in
    let front = c.args.around.now.front in
    let behind = c.args.around.now.behind in
    let gone = c.args.around.now.gone.now in
    let last = untouched-all new label behind.first behind.sections.now behind.rereads.now c.push_rereads.new.all.items c.push_rereads-2.new.all.items c.requires.behind c.in_ok-push_rereads-2.ensures
    (sym (c.in_ok-touched.ensures label) ∙ none)
    in
    let first = untouched-all new label front.first front.sections.now front.rereads.now c.push_own-2.new.all.items c.push_rereads.new.all.items c.requires.front c.in_ok-push_rereads.ensures last.0 in
    let both = neither-defined label c.push_own.new.all.items (own_saids c.args.around.now.read.now) (ap (λ ds. said_of ds label) (sym c.in_ok-push_own-2.ensures) ∙ first.0) in
    ap (λ ds. said_of ds label) (sym (own-are (part_events c.args.options.now (knows c.args.old.now)) 0 gone [] refl c.requires.gone))
    ∙ (neither-defined label c.new-all.result.items (own_saids gone) (ap (λ ds. said_of ds label) (sym c.in_ok-push_own.ensures) ∙ both.0)).1
