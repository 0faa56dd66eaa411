use Rattle.mdtests_engine.proofs.Prelude.{IsWithinLimit, ℕ, None, ◌++◌, List, length, refl, sym, ◌∙◌, ap, subst, arith, Edit, AreDisjoint, HasEndsWithin, divided, chain_edits, forward-chain, within, one-chain-disjoint, ends-inside}
use Rattle.mdtests_engine.proofs.division.edits_of.Goals as goal

pub ready-requires : goal.ready-requires
ready-requires c = record { limit = subst (λ (t : ℕ). IsWithinLimit t c.args.bytes.now) (sym c.default-tab_size.ensures) c.requires.limit }

pub divide_events-requires : goal.divide_events-requires
divide_events-requires c = record {
  chain =
      forward-chain c.default-tab_size.result c.args.bytes.now None c.args.events.now (c.in_ok-ready.ensures.0 c.if-not-branch.false) c.args.index (sym c.begins_at.ensures ∙ c.if-not-begins_at.false);
  within = within c.default-tab_size.result c.args.bytes.now None c.args.events.now (c.in_ok-ready.ensures.0 c.if-not-branch.false) c.args.index (sym c.begins_at.ensures ∙ c.if-not-begins_at.false);
  before = rw c.new-map.ensures (record { disjoint = omega arith; below = tt });
  sums = rw c.new-map.ensures (refl, refl);
  ends = subst HasEndsWithin c.as_slice.ensures.value (c.has_ends_within.ensures c.if-not-has_ends_within.false);
  fits = omega arith;
}

pub returns : goal.returns
returns c =
    let r = c.in_ok-ready.ensures.0 c.if-not-branch.false in
    let child = c.args.child.now.items in
    let is = c.in_ok-sums.ensures.ok ∙ ap (λ (es : List Edit). es ++ chain_edits 0 0 (divided c.args.events.now c.args.index child)) c.new-map.ensures in (
      subst (λ (es : List Edit). AreDisjoint 0 es (length c.args.events.now)) (sym is) (one-chain-disjoint c.default-tab_size.result c.args.bytes.now None c.args.events.now r c.args.index 0 0 (sym c.begins_at.ensures ∙ c.if-not-begins_at.false) child),
      ends-inside c.default-tab_size.result c.args.bytes.now None c.args.events.now r,
    )
