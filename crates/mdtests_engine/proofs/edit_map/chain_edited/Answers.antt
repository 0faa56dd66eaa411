use Rattle.mdtests_engine.proofs.Prelude.{◌≡◌, ℕ, ◌+◌, ◌-◌, ◌*◌, ◌<◌, ◌≤◌, Bool, true, false, cond, List, [], ◌∷◌, ◌++◌, sym, subst, arith, rules, Event, Edit, AreDisjoint, edit_at, put_after, put-less}
use Rattle.mdtests_engine.proofs.edit_map.chain_edited.Goals as goal

-- an addition in front of all edits
apart-added : (es : List Edit) (from n m : ℕ) (xs : List Event) (b : Bool) → n < from → AreDisjoint from es m → AreDisjoint n (cond b es (put_after es (edit_at n 0 xs))) m
apart-added [] from n m xs true l d = let a : from ≤ m = d in omega arith
apart-added [] from n m xs false l d = let a : from ≤ m = d in (omega arith, omega arith)
apart-added (e ∷ es) from n m xs true l d = let a : from ≤ e.index = d.0 in (omega arith, d.1)
apart-added (e ∷ es) from n m xs false l d =
    let a : from ≤ e.index = d.0 in
    rw (put-less (λ there more. there ++ more) e (edit_at n 0 xs) es (omega arith)) (omega arith, (omega arith, d.1))

pub loop-step-preserved : goal.loop-step-preserved
loop-step-preserved c =
    let s = c.loop-step.step in
    let n : ℕ = 2 * (99 - s) in
    let inside : s < 100 = search rules in
    let next : 200 - 2 * (s + 1) ≡ n = omega arith in
    let made : AreDisjoint n c.add.new.self 200 = subst (λ (w : List Edit). AreDisjoint n w 200) (sym c.in_ok-add.ensures.ok) (apart-added c.loop-step.map (200 - 2 * s) n 200 _ _ (omega arith) c.loop-step.invariant) in
    subst (λ (k : ℕ). AreDisjoint k c.add.new.self 200) (sym next) made
