use Rattle.markdown_base.proofs.Prelude.{ℕ, refl, ◌++◌, arith, append_assoc, ap, ◌∙◌, string_bytes}
use Rattle.std.proofs.lemmas.List.{replicate_more}
use Rattle.markdown_base.proofs.util.slice.push_spaces.Goals as goal

pub loop-i-preserved : goal.loop-i-preserved
loop-i-preserved c =
    let more = c.in_ok-push.ensures.bytes ∙ ap (λ xs. string_bytes c.loop-i.text ++ xs) (c.in_ok-push.ensures.ascii (omega arith)) in
    rw (more, c.loop-i.invariant, ← replicate_more {X = ℕ} c.loop-i._i 32, append_assoc) refl
