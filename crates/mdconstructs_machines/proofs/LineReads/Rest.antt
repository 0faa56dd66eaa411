-- The looks over all that is left of a text.
use Rattle.mdconstructs_machines.proofs.Prelude.{◌≡◌, ℕ, suc, ◌+◌, ◌∷◌, [], false, refl, ◌∙◌, ap, arith, length, Option, Some, None, LineByte, TextBefore, StringBefore, counts, loud, deep, peek, LooksOverTheRest}

-- the calls of a byte and of the rest
more-calls : (n calls : ℕ) → calls ≡ n + 1 → 1 + calls ≡ suc n + 1
more-calls n calls h = let e : 1 + (n + 1) ≡ suc n + 1 = omega arith in ap (λ i. 1 + i) h ∙ e

pub peek-rest : LooksOverTheRest peek TextBefore
peek-rest g text stack events [] previous q mark local = (refl, refl, refl)
peek-rest g text stack events (s ∷ ss) previous q mark local =
    let rest = peek-rest g text stack events ss (Some s.byte) (q + 1) false (counts local) in
    (ap suc rest.0, rest.1, more-calls (length ss) _ rest.2)

pub deep-rest : LooksOverTheRest deep StringBefore
deep-rest g text stack events [] previous q mark local = (refl, refl, refl)
deep-rest g text stack events (s ∷ ss) previous q mark local =
    let rest = deep-rest g text stack events ss (Some s.byte) (q + 1) false (counts local) in
    (ap suc rest.0, rest.1, more-calls (length ss) _ rest.2)

-- the look of `Peek` is quiet, whatever waits
pub rest-quiet : (previous current : Option LineByte) → loud peek (TextBefore ∷ []) (λ name. 0) previous current ≡ []
rest-quiet previous None = refl
rest-quiet previous (Some w) = refl
