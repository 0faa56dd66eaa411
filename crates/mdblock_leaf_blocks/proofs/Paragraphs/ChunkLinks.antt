-- A chunk is linked to the chunk before.
use Rattle.mdblock_leaf_blocks.proofs.Prelude.{◌≡◌, ℕ, ◌+◌, List, [], ◌∷◌, ◌++◌, length, refl, sym, ap, ◌∙◌, arith, append_assoc, length-append, Event, linked_to, updated_at, with_next, with_previous}
use Rattle.mdconstructs_machines.proofs.BlockReads.Links.{updated-mid}

-- the last chunk is linked to the chunk before, which ended just before it
pub linked-last : (done : List Event) (first out second : Event) (last : ℕ) → last ≡ length done + 2
    → linked_to (length done) last (done ++ first ∷ out ∷ second ∷ []) ≡ done ++ with_next last first ∷ out ∷ with_previous (length done) second ∷ []
linked-last done first out second last is =
    let back = with_next last first ∷ out ∷ [] in
    ap (updated_at last (with_previous (length done))) (updated-mid (with_next last) done first (out ∷ second ∷ []) (length done) refl)
    ∙ ap (updated_at last (with_previous (length done))) (sym (append_assoc done back (second ∷ [])))
    ∙ updated-mid (with_previous (length done)) (done ++ back) second [] last (omega (arith, is, length-append done back))
    ∙ append_assoc done back (with_previous (length done) second ∷ [])
