use Rattle.std.proofs.Common.{◌≡◌, ◌<◌, ◌≤◌, ◌+◌, ◌-◌, ℕ, suc, List, [], ◌∷◌, ◌++◌, ◌⊎◌, length, drop, get_or, ap, sym, ◌∙◌, inl, inr, arith}
use Rattle.std.proofs.lemmas.List.{length_push, get_or_append_left, get_or_push}
use Rattle.std.proofs.lemmas.Bool.{cases_lt}
use Rattle.mdblock_containers.specs.declared.ahead.Ahead.{Ahead}
use Rattle.mdblock_containers.specs.Ahead.{ahead_of}
use Rattle.mdblock_containers.proofs.AheadLemmas.{rows_end, row_at}
use Rattle.mdblock_containers.proofs.ahead.aheads_of.Goals as goal

-- one more is known
one_more : (xs ys : List Ahead) (x e want : Ahead) (n k : ℕ) → ys ≡ xs ++ x ∷ [] → length xs ≡ n → (k < n → get_or xs k e ≡ want) → (k ≡ n → x ≡ want) → k < n + 1 → get_or ys k e ≡ want
one_more xs ys x e want n k ey len before here l = ap (λ (zs : List Ahead). get_or zs k e) ey ∙ by (cases_lt k n)
  where
    by : (k < n) ⊎ (n ≤ k) → get_or (xs ++ x ∷ []) k e ≡ want
    by (inl lt) = get_or_append_left xs (x ∷ []) e k (omega (arith, len)) ∙ before lt
    by (inr ge) = get_or_push xs x e k (omega (arith, len)) ∙ here (omega arith)

pub loop-n-init : goal.loop-n-init
loop-n-init g c = record {
  len = ap length c.new-aheads.ensures.items;
  few = omega arith;
  turns = omega arith;
  here = λ all h.
      let none : drop (length c.args.rows.now - 0) all ≡ [] = rows_end c.args.rows.now all (length c.args.rows.now - 0) h (omega arith) in
      sym (ap ahead_of none);
  before = λ all h d k l. absurd (omega arith);
}

pub loop-n-preserved : goal.loop-n-preserved
loop-n-preserved g c =
    let i = c.loop-n.invariant in
    let rows = c.args.rows.now in
    let n = c.loop-n.n in
    let size = length rows in
    let at = size - 1 - n in
    let d = c.index-rows-last.result in
    record {
      len = ap length c.in_ok-push.ensures.items ∙ length_push c.loop-n.aheads.items c.loop-n.ahead ∙ ap (λ k. k + 1) i.len;
      few = omega (arith, c.ahead_with-ahead.ensures.few, i.few);
      turns = omega (arith, i.turns, c.add_one.ensures);
      here = λ all h.
          let r = row_at d rows all at h (omega arith) in
          let further : suc at ≡ size - n = omega arith in
          let same : at ≡ size - (n + 1) = omega arith in
          c.ahead_with-ahead.ensures.value (get_or rows at d).span.number r.row (drop (size - n) all) r.is (i.here all h) ∙ ap ahead_of ((λ k. r.row ∷ drop (sym further k) all) ∙ sym r.rest ∙ (λ k. drop (same k) all));
      before = λ all h e k l.
          one_more c.loop-n.aheads.items c.push.new.self.items c.loop-n.ahead e (ahead_of (drop (size - k) all)) n k c.in_ok-push.ensures.items i.len (λ lt. i.before all h e k lt)
          (λ q. i.here all h ∙ ap (λ m. ahead_of (drop (size - m) all)) (sym q)) l;
    }
