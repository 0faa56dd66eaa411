-- Definitions in order: what the first one of a label says, and where it is.
use Rattle.mddocument_editing.proofs.Prelude.{◌≡◌, ℕ, zero, suc, Bool, true, false, List, [], ◌∷◌, ◌++◌, length, Option, Some, None, cond, drop, same_Some, refl, sym, ap, ◌∙◌, arith, append_assoc, length-append, option_and_then, option_map, slice_get}
use Rattle.std.specs.Prelude.{bytes_eq}
use Rattle.mddocument_link_targets.specs.declared.targets.Parts.{Parts}
use Rattle.mddocument_editing.specs.Said.{said_of}
use Rattle.mddocument_editing.specs.declared.said.Said.{Said}

-- the index of the first definition of a label; the first of all has this one
abbrev pub index_from : (label : List ℕ) → (at : ℕ) → List Said → Option ℕ
index_from label at [] = None
index_from label at (s ∷ more) = cond (bytes_eq label s.label) (Some at) (index_from label (suc at) more)

abbrev pub said_there : List Said → Option ℕ → Option Parts
said_there all at = option_and_then (λ at. option_map (λ (s : Said). s.parts) (slice_get all at)) at

get-behind : (xs : List Said) (s : Said) (ss : List Said) → slice_get (xs ++ s ∷ ss) (length xs) ≡ Some s
get-behind [] s ss = refl
get-behind (x ∷ xs) s ss = get-behind xs s ss

either : (b : Bool) (s : Said) (all : List Said) (at : ℕ) (more : Option ℕ) (rest : Option Parts) → slice_get all at ≡ Some s → said_there all more ≡ rest
    → said_there all (cond b (Some at) more) ≡ cond b (Some s.parts) rest
either true s all at more rest there same = ap (option_map (λ (s : Said). s.parts)) there
either false s all at more rest there same = same

-- what is said there
pub said-there : (label : List ℕ) (xs ss : List Said) → said_there (xs ++ ss) (index_from label (length xs) ss) ≡ said_of ss label
said-there label xs [] = refl
said-there label xs (s ∷ ss) =
    let e : length (xs ++ s ∷ []) ≡ suc (length xs) = omega (arith, length-append xs (s ∷ [])) in
    let more = said-there label (xs ++ s ∷ []) ss in
    either (bytes_eq label s.label) s (xs ++ s ∷ ss) (length xs) (index_from label (suc (length xs)) ss) (said_of ss label) (get-behind xs s ss)
    (ap (λ ys. said_there ys (index_from label (suc (length xs)) ss)) (sym (append_assoc xs (s ∷ []) ss)) ∙ ap (λ n. said_there ((xs ++ s ∷ []) ++ ss) (index_from label n ss)) (sym e) ∙ more)

-- the index of the first one, by one more definition in front
pub index-more : (label : List ℕ) (n : ℕ) (all : List Said) (at : ℕ) (key : List ℕ) → option_map (λ (s : Said). s.label) (slice_get all at) ≡ Some key
    → index_from label n (drop at all) ≡ cond (bytes_eq label key) (Some n) (index_from label (suc n) (drop (suc at) all))
index-more label n [] at key none = absurd (cc none)
index-more label n (s ∷ ss) zero key is = ap (λ k. cond (bytes_eq label k) (Some n) (index_from label (suc n) ss)) (same_Some s.label key is)
index-more label n (s ∷ ss) (suc at) key is = index-more label n ss at key is
