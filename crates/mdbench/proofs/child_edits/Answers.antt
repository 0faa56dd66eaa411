use Rattle.mdbench.proofs.Prelude.{◌++◌, ℕ, None, List, length, refl, sym, ◌∙◌, ap, subst, arith, Edit, AreDisjoint, divided, chain_edits, IsWithinLimit, forward-chain, within, one-chain-disjoint}
use Rattle.mdbench.proofs.child_edits.Goals as goal

pub ready-requires : goal.ready-requires
ready-requires c = record { limit = subst (λ (t : ℕ). IsWithinLimit t c.args.bytes.now) (sym c.default.ensures) c.requires.limit }

pub divide_events-requires : goal.divide_events-requires
divide_events-requires c = record {
  chain = forward-chain c.default.result c.args.bytes.now None c.args.events.now (c.in_ok-ready.ensures.0 c.if-not-branch.false) 0 (sym c.begins_at.ensures ∙ c.if-not-begins_at.false);
  within = within c.default.result c.args.bytes.now None c.args.events.now (c.in_ok-ready.ensures.0 c.if-not-branch.false) 0 (sym c.begins_at.ensures ∙ c.if-not-begins_at.false);
  before = rw c.new-map.ensures (record { disjoint = omega arith; below = tt });
  sums = rw c.new-map.ensures (refl, refl);
  ends = c.requires.ends;
  fits = omega arith;
}

pub returns : goal.returns
returns c =
    let r = c.in_ok-ready.ensures.0 c.if-not-branch.false in
    let child = c.args.child.now.items in
    let is = c.in_ok-divide_events.ensures.ok ∙ ap (λ (es : List Edit). es ++ chain_edits 0 0 (divided c.args.events.now 0 child)) c.new-map.ensures in
    subst (λ (es : List Edit). AreDisjoint 0 es (length c.args.events.now)) (sym is) (one-chain-disjoint c.default.result c.args.bytes.now None c.args.events.now r 0 0 0 (sym c.begins_at.ensures ∙ c.if-not-begins_at.false) child)
