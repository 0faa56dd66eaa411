use Rattle.mddocument_editing.proofs.Prelude.{◌≡◌, suc, ◌-◌, [], cond, drop, Some, sym, ap, ◌∙◌, arith, option_map, slice_get}
use Rattle.std.specs.Map.{lookup}
use Rattle.std.specs.Prelude.{bytes_eq}
use Rattle.mddocument_link_targets.proofs.Lookups.{added}
use Rattle.mddocument_editing.specs.declared.said.Said.{Said}
use Rattle.mddocument_editing.proofs.FirstSaid.{index-more, index_from, said-there, said_there}
use Rattle.mddocument_editing.proofs.leads.Leads.of.Goals as goal

pub loop-at-preserved : goal.loop-at-preserved
loop-at-preserved c =
    let all = c.args.all.items in
    let at = c.loop-at.at - 1 in
    let key = c.in_ok-label.label in
    let next : c.loop-at.at ≡ suc at = omega arith in
    let is : option_map (λ (s : Said). s.label) (slice_get all at) ≡ Some key.items = ap (λ ss. option_map (λ (s : Said). s.label) (slice_get ss at)) (sym c.as_slice.ensures.value) ∙ c.in_ok-label.ensures in
    record {
      known = λ label.
          ap (λ es. lookup (λ known. bytes_eq label known.items) es) c.in_ok-insert.ensures.entries
          ∙ added (λ k. k.items) label key at c.loop-at.indices.entries
          ∙ ap (λ o. cond (bytes_eq label key.items) (Some at) o) (c.loop-at.invariant.known label ∙ ap (λ n. index_from label n (drop n all)) next)
          ∙ sym (index-more label at all at key.items is);
      room = omega (arith, c.loop-at.invariant.room);
    }

pub returns : goal.returns
returns c = λ label.
    let all = c.args.all.items in
    let none : c.loop-at.at ≡ 0 = omega arith in
    ap (said_there all) (c.loop-at.invariant.known label ∙ ap (λ n. index_from label n (drop n all)) none) ∙ said-there label [] all
