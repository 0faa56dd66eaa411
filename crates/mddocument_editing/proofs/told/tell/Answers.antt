use Rattle.mddocument_editing.proofs.Prelude.{[], ◌++◌, refl, part_events, bytes_of_sections, knows}
use Rattle.mddocument_editing.specs.Leading.{first_said}
use Rattle.mddocument_editing.proofs.SaidSides.{all-have, same-leads}
use Rattle.mddocument_editing.proofs.ToldOthers.{told-none}
use Rattle.mddocument_editing.proofs.told.tell.Goals as goal

pub returns-then-same : goal.returns-then-same
returns-then-same c =
    let around = c.args.around in
    let old = part_events c.args.options.now (knows c.args.old.now) in
    let new = part_events c.args.options.now (knows c.args.new.now) in
    let front = around.front.sections.now in
    let behind = around.behind.sections.now in
    let gone = bytes_of_sections around.gone.now in
    let come = bytes_of_sections around.read.now in
    let has_front = all-have new 0 front around.front.rereads.now (c.in_ok-same.ensures.front c.if-same.true) c.requires.front in
    let has_behind = all-have new around.behind.first behind around.behind.rereads.now (c.in_ok-same.ensures.behind c.if-same.true) c.requires.behind in
    let leads = same-leads old new front behind gone come (all-have old 0 front [] refl c.requires.old_front) has_front (all-have old 0 behind [] refl c.requires.old_behind) has_behind (c.in_ok-same.ensures.saids c.if-same.true) in
    let before = first_said old (bytes_of_sections front ++ (gone ++ bytes_of_sections behind)) in
    let now = first_said new (bytes_of_sections front ++ (come ++ bytes_of_sections behind)) in
    record {
      first = [];
      last = [];
      both = c.new.ensures.items;
      told = told-none new before now 0 front leads has_front;
      told_behind = told-none new before now around.behind.first behind leads has_behind;
    }
