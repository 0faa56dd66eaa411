-- Bytes that are put behind a text.
use Rattle.mdevents_program.proofs.Prelude.{◌≡◌, ◌+◌, ◌++◌, ◌≤◌, ℕ, List, length, take, drop, sym, ap, ◌∙◌, arith, append_assoc, length-append, length-take-le, take-append-drop, take-take, put_chunk, take_at, put_chunk_is}

-- a front that ends in the second of three parts
front : (xs ys zs : List ℕ) (m n : ℕ) → n ≡ length xs + m → m ≤ length ys → take n (xs ++ (ys ++ zs)) ≡ xs ++ take m ys
front xs ys zs m n e le =
    let split : (xs ++ take m ys) ++ (drop m ys ++ zs) ≡ xs ++ (ys ++ zs) =
    append_assoc xs (take m ys) (drop m ys ++ zs) ∙ ap (λ x. xs ++ x) (sym (append_assoc (take m ys) (drop m ys) zs) ∙ ap (λ x. x ++ zs) (take-append-drop m ys)) in
    ap (take n) (sym split) ∙ take_at (xs ++ take m ys) (drop m ys ++ zs) n (omega (arith, length-append xs (take m ys), length-take-le m ys le, e))

-- n bytes of a block are put at an index, and m of them count
pub put-block : (bytes block : List ℕ) (at n m : ℕ) → at + n ≤ length bytes → n ≤ length block → m ≤ n → take (at + m) (put_chunk at bytes (take n block)) ≡ take at bytes ++ take m block
put-block bytes block at n m room whole part =
    let some = length-take-le n block whole in
    ap (take (at + m)) (put_chunk_is at bytes (take n block) (omega (arith, some, room)))
    ∙ front (take at bytes) (take n block) (drop (length (take n block)) (drop at bytes)) m (at + m) (omega (arith, length-take-le at bytes (omega (arith, room)))) (omega (arith, some, part))
    ∙ ap (λ x. take at bytes ++ x) (take-take m n block part)

-- what is in front of a place stays if a text is put there
pub front-stays : (old new text : List ℕ) (at end : ℕ) → at ≤ length old → at ≤ end → take end new ≡ take at old ++ text → take at new ≡ take at old
front-stays old new text at end inside le is = sym (take-take at end new le) ∙ ap (take at) is ∙ take_at (take at old) text at (length-take-le at old inside)
