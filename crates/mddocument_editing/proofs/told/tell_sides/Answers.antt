use Rattle.mddocument_editing.proofs.Prelude.{ℕ, List, [], ◌++◌, subst, sym, part_events, bytes_of_sections, AreReread, knows}
use Rattle.mddocument_editing.specs.Leading.{first_said}
use Rattle.mddocument_editing.specs.Said.{said_by}
use Rattle.mddocument_editing.specs.Told.{AreTold}
use Rattle.mddocument_editing.proofs.SameTargets.{told-if}
use Rattle.mddocument_editing.proofs.ToldOthers.{told-all}
use Rattle.mddocument_editing.proofs.told.tell_sides.Goals as goal

pub returns : goal.returns
returns c =
    let around = c.args.around in
    let old = part_events c.args.options.now (knows c.args.old.now) in
    let new = part_events c.args.options.now (knows c.args.new.now) in
    let front = around.front.sections.now in
    let behind = around.behind.sections.now in
    let before = first_said old (bytes_of_sections front ++ (bytes_of_sections around.gone.now ++ bytes_of_sections behind)) in
    let now = first_said new (bytes_of_sections front ++ (bytes_of_sections around.read.now ++ bytes_of_sections behind)) in
    let o = said_by c.in_ok-leading.leading.old in
    let n = said_by c.in_ok-leading.leading.new in
    let f = λ (label : List ℕ). (c.in_ok-leading.ensures label).0 in
    let g = λ (label : List ℕ). (c.in_ok-leading.ensures label).1 in
    let first = told-all new o n around.front.first front around.front.rereads.now [] c.in_ok-told.told.items (subst (λ k. AreReread new k front around.front.rereads.now) (sym c.requires.first) c.requires.front) c.in_ok-told.ensures in
    let last = told-all new o n around.behind.first behind around.behind.rereads.now [] c.in_ok-more.more.items c.requires.behind c.in_ok-more.ensures in
    record {
      first = c.in_ok-told.told.items;
      last = c.in_ok-more.more.items;
      both = c.in_ok-append.ensures.items;
      told = subst (λ k. AreTold new before now k front c.in_ok-told.told.items) c.requires.first
          (told-if new {o = o} {n = n} {p = before} {q = now} f g around.front.first front c.in_ok-told.told.items (subst (AreTold new o n around.front.first front) (sym first.1.0) first.1.1));
      told_behind = told-if new {o = o} {n = n} {p = before} {q = now} f g around.behind.first behind c.in_ok-more.more.items (subst (AreTold new o n around.behind.first behind) (sym last.1.0) last.1.1);
    }
