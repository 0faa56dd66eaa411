-- How many virtual bytes there are.
use Rattle.markdown_base.proofs.Prelude.{◌≡◌, ℕ, zero, suc, ◌+◌, ◌-◌, ◌*◌, ◌%◌, ◌≤◌, ◌==◌, List, [], ◌∷◌, ◌++◌, length, refl, sym, ap, subst, arith, tab_width, in_tab, begins_with_lf, virtual_from}
use Rattle.std.proofs.Math.Nat.{mul-suc}
use Rattle.std.proofs.lemmas.List.{length-append}
use Rattle.markdown_base.proofs.Facts.Lists.{cond-fits}

-- a tab has as many virtual bytes as it has columns
pub tab-length : (b n l c i v : ℕ) → length (in_tab b n l c i v) ≡ n
tab-length b zero l c i v = refl
tab-length b (suc n) l c i v = ap suc (tab-length 32 n l (suc c) i (suc v))

-- a document has at most as many virtual bytes for each byte as the tab size
pub virtual-length : (t : ℕ) → 1 ≤ t → (bs : List ℕ) (l c i : ℕ) → length (virtual_from t l c i bs) ≤ t * length bs
virtual-length t some [] l c i = omega arith
virtual-length t some (b ∷ bs) l c i =
    let m = t * length bs in
    let all : t * suc (length bs) ≡ m + t = mul-suc t (length bs) in
    let line : length (virtual_from t (suc l) 1 (suc i) bs) ≤ m = virtual-length t some bs (suc l) 1 (suc i) in
    let pair : length (virtual_from t l c (suc i) bs) ≤ m = virtual-length t some bs l c (suc i) in
    let other : length (virtual_from t l (suc c) (suc i) bs) ≤ m = virtual-length t some bs l (suc c) (suc i) in
    let w = tab_width t c in
    let stop : length (virtual_from t l (c + w) (suc i) bs) ≤ m = virtual-length t some bs l (c + w) (suc i) in
    let width : t - ((c - 1) % t) ≤ t = omega arith in
    let tab : length (in_tab 9 w l c i 0 ++ virtual_from t l (c + w) (suc i) bs) ≡ length (in_tab 9 w l c i 0) + length (virtual_from t l (c + w) (suc i) bs) =
    length-append (in_tab 9 w l c i 0) (virtual_from t l (c + w) (suc i) bs) in
    let cells : length (in_tab 9 w l c i 0) ≡ w = tab-length 9 w l c i 0 in
    subst (λ n. length (virtual_from t l c i (b ∷ bs)) ≤ n) (sym all)
    (cond-fits (b == 10) _ _ (m + t) (omega (arith, some, line))
    (cond-fits (b == 13) _ _ (m + t) (cond-fits (begins_with_lf bs) _ _ (m + t) (omega (arith, some, pair)) (omega (arith, some, line)))
    (cond-fits (b == 9) _ _ (m + t) (omega (arith, stop, width, tab, cells)) (omega (arith, some, other)))))
