-- Whether a line has just begun is told by the last byte.
use Rattle.std.proofs.Common.{◌≡◌, ℕ, suc, ◌-◌, List, [], ◌∷◌, length, ap, sym, refl, ◌∙◌, Option, arith}
use Rattle.std.specs.Option.{option_map_or}
use Rattle.std.specs.Prelude.{◌==◌, Bool, true, slice_get}
use Rattle.mdhtml_markup.specs.Pieces.{is_fresh}

fresh-last : (f : Bool) (xs : List ℕ) → is_fresh f xs ≡ option_map_or (λ b. b == 10) (slice_get xs (length xs - 1)) f
fresh-last f [] = refl
fresh-last f (b ∷ []) = refl
fresh-last f (b ∷ (c ∷ cs)) =
    let inner : suc (length cs) - 1 ≡ length cs = omega arith in
    let outer : suc (suc (length cs)) - 1 ≡ suc (length cs) = omega arith in
    fresh-last f (c ∷ cs) ∙ ap (λ n. option_map_or (λ b. b == 10) (slice_get (c ∷ cs) n) f) inner
    ∙ sym (ap (λ n. option_map_or (λ b. b == 10) (slice_get (b ∷ (c ∷ cs)) n) f) outer)

pub fresh-by : (xs : List ℕ) (last : Option ℕ) → last ≡ slice_get xs (length xs - 1) → is_fresh true xs ≡ option_map_or (λ b. b == 10) last true
fresh-by xs last h = fresh-last true xs ∙ ap (λ o. option_map_or (λ b. b == 10) o true) (sym h)
