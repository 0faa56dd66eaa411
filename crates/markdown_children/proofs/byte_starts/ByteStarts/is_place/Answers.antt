use Rattle.markdown_children.proofs.Prelude.{ℕ, ◌+◌, ◌*◌, ◌/◌, length, get_or, ap, ◌∙◌, arith, zero-add, byte_start, ByteStart, get_or-map-range_with_len, length-map-range_with_len}
use Rattle.markdown_children.proofs.Ready.Reached.{reached-at}
use Rattle.markdown_children.proofs.byte_starts.ByteStarts.is_place.Goals as goal

pub index-requires : goal.index-requires
index-requires c =
    let s = c.args.self.now in
    omega (arith, ap length c.requires.kept, length-map-range_with_len (λ k. byte_start s.tab_size s.bytes.now (8 * k)) 0 (length s.bytes.now / 8 + 1), s.kept.ok.0, c.if-point-self.false)

pub walked-start-requires-clause-start : goal.walked-start-requires-clause-start
walked-start-requires-clause-start c =
    let s = c.args.self.now in
    let k : ℕ = c.args.point.index / 8 in
    c.index.ensures ∙ ap (λ xs. get_or xs k c.index.result.now) c.requires.kept
    ∙ get_or-map-range_with_len (λ i. byte_start s.tab_size s.bytes.now (8 * i)) 0 (length s.bytes.now / 8 + 1) k k c.index.result.now (omega (arith, c.if-point-self.false)) (zero-add k)

pub width_at-width-requires-clause-first : goal.width_at-width-requires-clause-first
width_at-width-requires-clause-first c =
    let s = c.args.self.now in
    let r = reached-at s.tab_size c.requires.some s.bytes.now c.args.point.index (omega (arith, c.if-point-self.false)) in
    omega (arith, r.first, ap (λ (b : ByteStart). b.column) c.walked-start.ensures)
