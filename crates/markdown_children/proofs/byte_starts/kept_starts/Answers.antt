use Rattle.markdown_children.proofs.Prelude.{◌≡◌, ◌+◌, ◌/◌, ◌++◌, ◌*◌, ◌∷◌, [], ℕ, length, refl, sym, ap, ◌∙◌, arith, zero-add, map-range_with_len_more, byte_start, eighth_starts, ByteStart}
use Rattle.markdown_children.proofs.byte_starts.kept_starts.Goals as goal

pub loop-k-init : goal.loop-k-init
loop-k-init c =
    let first : ByteStart = record { line = 1; column = 1 } in
    record {
      starts = c.push_reserved.ensures.items ∙ ap (λ xs. xs ++ first ∷ []) c.in_ok-starts.ensures.items;
      start = refl;
      so_far = omega (arith, c.push_reserved.ensures.len, c.in_ok-starts.ensures.len);
      room = omega (arith, c.push_reserved.ensures.capacity, c.in_ok-starts.ensures.capacity);
    }

pub loop-k-preserved : goal.loop-k-preserved
loop-k-preserved c =
    let i = c.loop-k.invariant in
    record {
      starts = c.push_reserved-in-loop-k.ensures.items ∙ (λ j. i.starts j ++ c.walked-start.ensures j ∷ [])
          ∙ sym (map-range_with_len_more (λ k. byte_start c.args.t c.args.bytes.now (8 * k)) 0 (c.loop-k.k + 1) (c.loop-k.k + 1) (zero-add (c.loop-k.k + 1)));
      start = c.walked-start.ensures;
      so_far = omega (arith, c.push_reserved-in-loop-k.ensures.len, i.so_far);
      room = omega (arith, c.push_reserved-in-loop-k.ensures.capacity, i.room);
    }

pub returns : goal.returns
returns c =
    let all : c.loop-k.k ≡ length c.args.bytes.now / 8 = omega arith in
    c.loop-k.invariant.starts ∙ ap (λ (n : ℕ). eighth_starts c.args.t c.args.bytes.now (n + 1)) all
