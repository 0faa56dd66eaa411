use Rattle.std.proofs.Common.{◌-◌, ℕ, List, arith, drop, length-take}
use Rattle.markdown_base.specs.declared.event.Point.{Point}
use Rattle.mdinline_link_strings.proofs.Together.{part-at}
use Rattle.mdinline_link_strings.specs.Reached.{IsDataAhead, IsDataByte}
use Rattle.mdinline_link_strings.proofs.data.data_ahead.Goals as goal

-- no bytes are data
none-ahead : (bytes : List ℕ) (place : Point) (end : ℕ) → IsDataAhead bytes place end 0
none-ahead bytes place end = record {
  flat = λ h. absurd (omega (arith, h));
  before = λ h. absurd (omega (arith, h));
  inside = λ h. absurd (omega (arith, h));
  each = λ k h. absurd (omega (arith, h));
}

pub returns-then-place-gt0-clause-ahead : goal.returns-then-place-gt0-clause-ahead
returns-then-place-gt0-clause-ahead g c = none-ahead c.args.bytes.now c.args.place.now c.args.end

pub returns-then-end-bytes-clause-ahead : goal.returns-then-end-bytes-clause-ahead
returns-then-end-bytes-clause-ahead g c = none-ahead c.args.bytes.now c.args.place.now c.args.end

pub returns-then-place-end-clause-ahead : goal.returns-then-place-end-clause-ahead
returns-then-place-end-clause-ahead g c = none-ahead c.args.bytes.now c.args.place.now c.args.end

pub returns-clause-ahead : goal.returns-clause-ahead
returns-clause-ahead g c =
    let bytes = c.args.bytes.now in
    let from = c.args.place.now.index in
    let end = c.args.end in
    let n = c.data_size.result in
    let within = c.data_size.ensures.within in
    let most = length-take (end - from) (drop from bytes) in
    let flat = c.if-place-gt0.false in
    let inside = c.if-end-bytes.false in
    let less = c.if-place-end.false in
    record {
      flat = λ h. omega (arith, flat);
      before = λ h. omega (arith, within, most, less);
      inside = λ h. omega (arith, within, most, less, inside);
      each = part-at IsDataByte bytes 0 from end n within c.data_size.ensures.each;
    }
