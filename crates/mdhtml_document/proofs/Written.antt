-- Pieces behind bytes, one after another.
use Rattle.std.proofs.Common.{◌≡◌, ℕ, List, [], ◌∷◌, ◌++◌, ap, sym, refl, ◌∙◌, append_assoc, append-nil}
use Rattle.std.specs.Prelude.{true}
use Rattle.mdhtml_document.specs.Written.{after}
use Rattle.mdhtml_markup.proofs.Orders.{fresh-append}
use Rattle.mdhtml_markup.specs.Pieces.{Piece, html, html_from, is_fresh, written}

pub after-append : (out : List ℕ) (ps qs : List Piece) → after out (ps ++ qs) ≡ after (after out ps) qs
after-append out [] qs = refl
after-append out (p ∷ ps) qs = after-append (out ++ written (is_fresh true out) p) ps qs

after-html : (out : List ℕ) (ps : List Piece) → after out ps ≡ out ++ html_from (is_fresh true out) ps
after-html out [] = sym (append-nil out)
after-html out (p ∷ ps) =
    let w = written (is_fresh true out) p in
    after-html (out ++ w) ps ∙ ap (λ f. (out ++ w) ++ html_from f ps) (fresh-append true out w) ∙ append_assoc out w (html_from (is_fresh (is_fresh true out) w) ps)

pub after-nothing : (ps : List Piece) → after [] ps ≡ html ps
after-nothing ps = after-html [] ps

-- of both
pub html-append : (ps qs : List Piece) → html (ps ++ qs) ≡ html ps ++ html_from (is_fresh true (html ps)) qs
html-append ps qs = sym (after-nothing (ps ++ qs)) ∙ after-append [] ps qs ∙ ap (λ (x : List ℕ). after x qs) (after-nothing ps) ∙ after-html (html ps) qs
