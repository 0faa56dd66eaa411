use Rattle.std.proofs.Common.{◌<◌, ◌≤◌, ◌≡◌, ◌∙◌, ◌+◌, ◌-◌, ◌*◌, IfSome, Some, None, sym, ap, drop, length, arith, rules}
use Rattle.mdblock_leaf_blocks.specs.LineWords.{indent}
use Rattle.mdblock_lines.proofs.LineLemmas.{behind_prefix, item_some}
use Rattle.mdblock_lines.proofs.containers.item_at.Goals as goal

pub returns-clause-value : goal.returns-clause-value
returns-clause-value g c =
    let inside : c.digits-n.result < length c.behind-r.result.now = omega (arith, c.digits-n.ensures.within) in
    c.item_behind.ensures.value
    ∙ item_some c.args.in_paragraph c.args.number c.args.t.now c.args.columns c.digits-n.result c.behind-r.result.now c.requires.columns
    (c.behind-r.ensures.value ∙ ap (λ k. drop k c.args.t.now) c.requires.columns) c.digits-n.ensures.value inside (sym c.is_marker.ensures ∙ search rules)

pub returns-clause-found : goal.returns-clause-found
returns-clause-found g c =
    let t = c.args.t.now in
    let columns = c.args.columns in
    let n = c.digits-n.result in
    let now = c.item_behind.new.turns in
    elim c.item_behind.result as (λ o. IfSome o (λ p. columns + (n + 1) ≤ p.size)
    → IfSome o (λ p. now + columns ≤ c.digits-n.new.turns + p.size + indent (drop (p.size - columns) c.behind-r.result.now) + 1)
    → IfSome o (λ p. now + columns ≤ c.args.turns.now + 2 * p.size + indent (drop p.size t) + 1)) [
      | None ↦ λ h k. h
      | Some p ↦ λ h k.
          let same : indent (drop (p.size - columns) c.behind-r.result.now) ≡ indent (drop p.size t) = ap (λ l. indent (drop (p.size - columns) l)) c.behind-r.ensures.value ∙ ap indent (behind_prefix t columns p.size (omega (arith, h))) in
          omega (arith, h, k, same, c.digits-n.ensures.turns)
    ] c.item_behind.ensures.least c.item_behind.ensures.found
