use Rattle.std.proofs.Common.{◌≡◌, ℕ, ◌+◌, ◌<◌, Bool, true, cond, not, List, [], ◌∷◌, ◌++◌, get_or, length, take, drop, add-one, refl, sym, ap, ◌∙◌, arith, take-append-drop}
use Rattle.std.specs.Prelude.{◌&&◌}
use Rattle.std.specs.List.{prefix_len}
use Rattle.std.proofs.Math.Seq.{take-suc}
use Rattle.std.proofs.lemmas.Bool.{eq-eqb, ne_eqb}
use Rattle.std.proofs.lemmas.List.{length-take-le}
use Rattle.std.proofs.lemmas.List.Folds.{prefix_len-append}
use Rattle.mdblock_containers.specs.Letters.{is_plain}

-- of a list whose first elements pass, the others are looked at by themselves
pub passed_first : {X : Type 0} (p : X → Bool) (n : ℕ) (xs : List X) → prefix_len p (take n xs) ≡ length (take n xs) → length (take n xs) + prefix_len p (drop n xs) ≡ prefix_len p xs
passed_first p n xs all =
    let front = take n xs in
    let behind = drop n xs in
    let both : prefix_len p (front ++ behind) ≡ length front + prefix_len p behind =
    prefix_len-append p front behind ∙ ap (λ e. cond e (length front + prefix_len p behind) (prefix_len p front)) (eq-eqb (prefix_len p front) (length front) all) in
    sym both ∙ ap (prefix_len p) (take-append-drop n xs)

-- a byte behind the carriage return is plain
greater-plain : (b : ℕ) → 13 < b → is_plain b ≡ true
greater-plain b h = (λ j. not (ne_eqb b 9 (λ e. omega (arith, e, h)) j) && (not (ne_eqb b 10 (λ e. omega (arith, e, h)) j) && not (ne_eqb b 13 (λ e. omega (arith, e, h)) j)))

-- one more byte passes
pub one_more_plain : (t : List ℕ) (n : ℕ) → n < length t → 13 < get_or t n 0 → prefix_len is_plain (take n t) ≡ n → prefix_len is_plain (take (n + 1) t) ≡ n + 1
one_more_plain t n within greater all =
    let byte = get_or t n 0 in
    let long : length (take n t) ≡ n = length-take-le n t (omega (arith, within)) in
    let one : prefix_len is_plain (byte ∷ []) ≡ 1 = rw (greater-plain byte greater) refl in
    ap (λ k. prefix_len is_plain (take k t)) (add-one n)
    ∙ ap (prefix_len is_plain) (take-suc t n 0 within)
    ∙ prefix_len-append is_plain (take n t) (byte ∷ [])
    ∙ ap (λ e. cond e (length (take n t) + prefix_len is_plain (byte ∷ [])) (prefix_len is_plain (take n t))) (eq-eqb (prefix_len is_plain (take n t)) (length (take n t)) (all ∙ sym long))
    ∙ (λ j. long j + one j)
