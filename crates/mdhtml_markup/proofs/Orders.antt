-- Pieces are written one after another.
use Rattle.std.proofs.Common.{◌≡◌, ℕ, List, [], ◌∷◌, ◌++◌, ap, sym, refl, ◌∙◌, append_assoc}
use Rattle.std.specs.Prelude.{Bool}
use Rattle.mdhtml_markup.specs.Laws.{PiecesAreWrittenInOrder}
use Rattle.mdhtml_markup.specs.Pieces.{Piece, html_from, is_fresh, written}

-- what comes before bytes does not tell whether they end a line
any-front : (f g : Bool) (b : ℕ) (bs : List ℕ) → is_fresh f (b ∷ bs) ≡ is_fresh g (b ∷ bs)
any-front f g b [] = refl
any-front f g b (c ∷ cs) = any-front f g c cs

one-front : (f g : Bool) (b : ℕ) (bs : List ℕ) → is_fresh f (b ∷ bs) ≡ is_fresh (is_fresh f (b ∷ [])) bs
one-front f g b [] = refl
one-front f g b (c ∷ cs) = any-front f (is_fresh f (b ∷ [])) c cs

-- and so of bytes behind bytes
pub fresh-append : (f : Bool) (xs ys : List ℕ) → is_fresh f (xs ++ ys) ≡ is_fresh (is_fresh f xs) ys
fresh-append f [] ys = refl
fresh-append f (x ∷ []) ys = one-front f f x ys
fresh-append f (x ∷ (y ∷ zs)) ys = fresh-append f (y ∷ zs) ys

in-order : (ps qs : List Piece) (fresh : Bool) → html_from fresh (ps ++ qs) ≡ html_from fresh ps ++ html_from (is_fresh fresh (html_from fresh ps)) qs
in-order [] qs fresh = refl
in-order (p ∷ ps) qs fresh =
    let w = written fresh p in let next = is_fresh fresh w in
    ap (λ x. w ++ x) (in-order ps qs next ∙ ap (λ f. html_from next ps ++ html_from f qs) (sym (fresh-append fresh w (html_from next ps))))
    ∙ sym (append_assoc w (html_from next ps) (html_from (is_fresh fresh (w ++ html_from next ps)) qs))

pub written-in-order : PiecesAreWrittenInOrder
written-in-order fresh ps qs = in-order ps qs fresh
