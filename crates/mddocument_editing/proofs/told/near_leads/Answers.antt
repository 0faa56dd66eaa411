use Rattle.mddocument_editing.proofs.Prelude.{[], ◌++◌, refl, sym, ap, ◌∙◌, part_events, bytes_of_sections, knows}
use Rattle.mddocument_editing.specs.Said.{said_by}
use Rattle.mddocument_editing.specs.declared.told.Saids.{Saids}
use Rattle.mddocument_editing.proofs.Touched.{AreAppended, leads-iff, near-all, own-are, untouched-same}
use Rattle.mddocument_editing.proofs.told.near_leads.Goals as goal

pub returns : goal.returns
returns c = λ label.
    let options = c.args.options.now in
    let old = part_events options (knows c.args.old.now) in
    let new = part_events options (knows c.args.new.now) in
    let around = c.args.around.now in
    let front = around.front.sections.now in
    let behind = around.behind.sections.now in
    let gone = bytes_of_sections around.gone.now in
    let come = bytes_of_sections around.read.now in
    let touched = said_by c.in_ok-touched.touched in
    let zero : Saids = record { olds = c.new-olds.result; news = c.new-news.result } in
    let one = c.push_nears.new.near in
    let two : Saids = record { olds = c.push_own.new.all; news = c.push_own-2.new.all } in
    let three = c.push_nears-2.new.near in
    let are : AreAppended touched old new front behind gone come zero one two three = record {
      none_old = c.new-olds.ensures.items;
      none_new = c.new-news.ensures.items;
      front_near = near-all touched new around.front.first front around.front.rereads.now zero one c.requires.front c.in_ok-touched.ensures.front c.in_ok-push_nears.ensures;
      gone_added = c.in_ok-push_own.ensures ∙ ap (λ ds. one.olds.items ++ ds) (own-are old 0 around.gone.now [] refl c.requires.gone);
      come_added = c.in_ok-push_own-2.ensures ∙ ap (λ ds. one.news.items ++ ds) (own-are new 0 around.read.now [] refl c.requires.read);
      behind_near = near-all touched new around.behind.first behind around.behind.rereads.now two three c.requires.behind c.in_ok-touched.ensures.behind c.in_ok-push_nears-2.ensures;
      front_own = own-are old 0 front [] refl c.requires.old_front;
      behind_own = own-are old 0 behind [] refl c.requires.old_behind;
      gone_none = c.in_ok-touched.ensures.gone;
      come_none = c.in_ok-touched.ensures.read;
      front_same = λ label none. untouched-same new label around.front.first front around.front.rereads.now c.requires.front (c.in_ok-touched.ensures.front label none);
      behind_same = λ label none. untouched-same new label around.behind.first behind around.behind.rereads.now c.requires.behind (c.in_ok-touched.ensures.behind label none);
    }
    in
    let iff = leads-iff touched old new front behind gone come zero one two three are label in (
      (λ same. iff.0 (sym (c.in_ok-now.ensures label) ∙ same ∙ c.in_ok-before.ensures label)),
      (λ same. c.in_ok-now.ensures label ∙ iff.1 same ∙ sym (c.in_ok-before.ensures label)),
    )
