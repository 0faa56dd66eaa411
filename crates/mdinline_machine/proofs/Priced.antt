-- Whether a state can be called does not depend on what it costs.
use Rattle.mdinline_machine.proofs.Prelude.{ℕ, TokenizerValue, IsCallable, Cost, StateRows}

pub at-any-cost : {M W R D : Type 0} (class : ℕ → W) (state : StateRows W R D) (cost : Cost) (t : TokenizerValue M R D) → IsCallable class (record state { cost = cost }) t → IsCallable class state t
at-any-cost class state cost t h = record {
  called = record {
    inside = h.called.inside;
    fed = h.called.fed;
    in_order = h.called.in_order;
    base = h.called.base;
    spans = let o = h.called.spans in record { stack = o.stack; began = o.began; void = o.void; below = o.below; needs = o.needs; called = o.called };
    noted = h.called.noted;
  };
  byte = h.byte;
  stands = h.stands;
  marks = h.marks;
  ends = h.ends;
  ends_read = h.ends_read;
  ends_noted = h.ends_noted;
}
