use Rattle.std.proofs.Common.{◌≡◌, ◌∙◌, ◌+◌, ◌-◌, ap, arith, length, subst, sym}
use Rattle.std.proofs.lemmas.List.{with_items_is}
use Rattle.mdinline_link_strings.proofs.Rewritten.{HasRoom, long-written, parts, put, room-made, written-more}
use Rattle.mdinline_link_strings.proofs.rewriting.Rewriting.add.Goals as goal
use Rattle.mdinline_link_strings.proofs.rewriting.Rewriting.add.Goals.{then-self-more+in_ok-self-inside, else-self-more}

pub returns : goal.returns
returns c =
    let i = c.self.inside in
    let j = c.if-self-more.self-inside in
    let more = c.args.more.now in
    let now = c.args.self.now in
    let before = c.self.invariant.0 in
    let room : HasRoom j.events.items j.gap j.left (length more) now =
    elim c.if-self-more.branch [
      | then-self-more+in_ok-self-inside w ↦
          let made = w.in_ok-self-inside.ensures in
          subst (λ s. HasRoom s.events.items s.gap s.left (length more) now) (sym w.self-inside-is)
          (room-made i.events.items w.make_room.new.events.items i.gap i.left (length more) w.in_ok-self-inside.field-0 now before c.self.view_is made.room made.front made.back made.within)
      | else-self-more w ↦
          let small = w.if-self-more.false in
          subst (λ s. HasRoom s.events.items s.gap s.left (length more) now) (sym w.self-inside-is)
          (record { are = c.self.view_is; room = omega (arith, before, small); within = c.self.invariant.1 })
    ] in
    let k : (j.gap + length more) - j.gap ≡ length more = omega arith in
    let n = (j.gap + length more) - j.gap in
    let ys = c.copy_from_slice.new.self in
    let same = c.copy_from_slice.ensures.after in
    let there = ap (put j.gap n ys) c.deref_mut.ensures.value in
    let long = ap length there ∙ long-written j.events.items j.gap j.left n ys more now room same k ∙ sym j.events.ok.0 in
    ap (λ xs. parts xs (j.gap + length more) j.left) (with_items_is j.events (put j.gap n ys c.deref_mut.result.now) long ∙ there)
    ∙ written-more j.events.items j.gap j.left n ys more now room same k
