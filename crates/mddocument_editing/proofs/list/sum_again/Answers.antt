use Rattle.std.proofs.Common.{◌≡◌, ◌+◌, ◌*◌, ◌-◌, get_or, min, length, take, drop, subst, sym, ap, ◌∙◌, arith, inl, inr, length-set, get_or-set_other, get_or-set_same, set}
use Rattle.std.proofs.lemmas.Bool.{cases_lt}
use Rattle.mddocument_editing.specs.Listed.{AreSums, block}
use Rattle.mddocument_editing.proofs.ListSums.{block-cut}
use Rattle.mddocument_editing.proofs.list.sum_again.Goals as goal

pub loop-number-preserved : goal.loop-number-preserved
loop-number-preserved c =
    let xs = c.args.sections.now in
    let i = c.loop-number.number in
    let old = c.loop-number.blocks.items in
    let s = c.sums_again.result in
    let v = c.loop-number.invariant in
    let here : AreSums (block i xs) s =
    (let e : i * 256 + c.min.result - i * 256 ≡ min 256 (length xs - 256 * i) = omega (arith, c.min.ensures) in
    let f : i * 256 ≡ 256 * i = omega arith in
    subst (λ ys. AreSums ys s) (ap (λ n. take n (drop (i * 256) xs)) e ∙ ap (λ n. take (min 256 (length xs - 256 * i)) (drop n xs)) f ∙ block-cut xs i) c.sums_again.ensures)
    in
    record {
      len = length-set old i s ∙ v.len;
      each = λ number d le lt. elim (cases_lt number i) [
        | inl less ↦ subst (AreSums (block number xs)) (sym (get_or-set_other old i number s d (λ e. absurd (omega (arith, e, less))))) (v.each number d le less)
        | inr more ↦ (let e : i ≡ number = omega (arith, lt, more) in
            subst (λ n. AreSums (block n xs) (get_or (set old i s) n d)) e
            (subst (AreSums (block i xs)) (sym (get_or-set_same old i s d (omega (arith, c.loop-number-test.true, c.requires.within, v.len)))) here))
      ];
      same = λ number d side. elim side [
        | inl less ↦ get_or-set_other old i number s d (λ e. absurd (omega (arith, e, less, c.loop-number.auto.number))) ∙ v.same number d (inl less)
        | inr more ↦ get_or-set_other old i number s d (λ e. absurd (omega (arith, e, more))) ∙ v.same number d (inr (omega (arith, more)))
      ];
    }

pub returns-clause-same : goal.returns-clause-same
returns-clause-same c = λ number d side. elim side [
  | inl less ↦ c.loop-number.invariant.same number d (inl less)
  | inr more ↦ c.loop-number.invariant.same number d (inr (omega (arith, more, c.loop-number.auto.number-end c.requires.order)))
]
