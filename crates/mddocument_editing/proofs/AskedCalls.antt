-- What may be a call of a footnote stands between brackets, behind a `^`: so it is found whether its label changes.
use Rattle.mddocument_editing.proofs.Prelude.{◌≡◌, ℕ, zero, suc, ◌+◌, ◌&&◌, Bool, true, false, List, Option, None, Some, [], ◌∷◌, ◌++◌, cond, drop, take, refl, sym, ap, ◌∙◌, subst, arith, append_assoc, and_parts, or_parts, eqb-true, false≢true, same_Some, drop-drop, list_any, list_any-append, nat_le, Key, asks_for, has_end, is_bracket, is_untold, is_white, label_ends, link, may_ask, note}
use Rattle.std.proofs.Common.{◌==◌, ◌||◌, not, append-nil}
use Rattle.mdblock_leaf_blocks.specs.LineWords.{begins_with, starts_with}
use Rattle.mddocument_editing.specs.InBrackets.{ends_line}
use Rattle.mdgfm_literals.specs.Bytes.{is_escape}
use Rattle.mdgfm_footnotes.specs.Calls.{is_in_call, label_at, label_size}

-- what may be a call begins with `[^`, and a `]` is behind its label
pub record IsLikeCall (text : List ℕ) (n : ℕ) : Type 0 where
  pub opens : starts_with (91 ∷ 94 ∷ []) text ≡ true
  pub closes : begins_with 93 (drop n (drop 2 text)) ≡ true
  pub size : label_size 0 (drop 2 text) ≡ n

pub like-call : (text : List ℕ) (n : ℕ) → label_at text ≡ Some n → IsLikeCall text n
like-call text n = by (starts_with (91 ∷ 94 ∷ []) text) (nat_le 1 m) (begins_with 93 (drop (m + 2) text)) refl refl
  where
    m : ℕ
    m = label_size 0 (drop 2 text)

    turned : 2 + m ≡ m + 2
    turned = omega arith

    by : (a b c : Bool) → starts_with (91 ∷ 94 ∷ []) text ≡ a → begins_with 93 (drop (m + 2) text) ≡ c → cond (a && (b && c)) (Some m) None ≡ Some n → IsLikeCall text n
    by false b c p r e = absurd (cc)
    by true false c p r e = absurd (cc)
    by true true false p r e = absurd (cc)
    by true true true p r e =
        let same : m ≡ n = same_Some m n e in
        record {
          opens = p;
          closes = subst (λ k. begins_with 93 (drop k (drop 2 text)) ≡ true) same (ap (begins_with 93) (drop-drop m 2 text ∙ ap (λ k. drop k text) turned) ∙ r);
          size = same;
        }

-- a byte that may stand in the label of a call is no bracket
bare : (white nul closes opens : Bool) → (not (white || (nul || closes)) && not opens) ≡ true → not (opens || closes) ≡ true
bare true nul closes opens h = absurd (false≢true h)
bare false true closes opens h = absurd (false≢true h)
bare false false true opens h = absurd (false≢true h)
bare false false false true h = absurd (false≢true h)
bare false false false false h = refl

-- the label behind `[^` is told, up to its end
module _ (wanted : List ℕ → Bool) where
  label-told : (read bs : List ℕ) → label_ends wanted read bs ≡ false → begins_with 93 (drop (label_size 0 bs) bs) ≡ true → wanted (read ++ take (label_size 0 bs) bs) ≡ false
  label-told read [] none closed = absurd (false≢true closed)
  label-told read (b ∷ bs) none closed = by (is_escape (b ∷ bs)) (is_in_call b) refl refl (λ more ends. label-told (read ++ b ∷ []) bs more ends) closed
    where
      parts : (is_untold b ≡ false) × ((((b == 93) && wanted read) || (not (is_bracket b) && label_ends wanted (read ++ b ∷ []) bs)) ≡ false)
      parts = or_parts (is_untold b) (((b == 93) && wanted read) || (not (is_bracket b) && label_ends wanted (read ++ b ∷ []) bs)) none

      by : (e i : Bool) → is_escape (b ∷ bs) ≡ e → is_in_call b ≡ i
          → (label_ends wanted (read ++ b ∷ []) bs ≡ false → begins_with 93 (drop (label_size 0 bs) bs) ≡ true → wanted ((read ++ b ∷ []) ++ take (label_size 0 bs) bs) ≡ false)
          → let n = cond e (label_size 1 bs + 1) (cond i (label_size 0 bs + 1) 0) in begins_with 93 (drop n (b ∷ bs)) ≡ true → wanted (read ++ take n (b ∷ bs)) ≡ false
      by true i escaped in-call next closed = absurd (false≢true (sym (or_parts (ends_line b) (b == 92) parts.0).1 ∙ (and_parts (b == 92) _ escaped).0))
      by false true escaped in-call next closed =
          let rest = label_ends wanted (read ++ b ∷ []) bs in
          let plain = bare (is_white b) (b == 0) (b == 93) (b == 91) in-call in
          let more : rest ≡ false = sym (ap (λ x. x && rest) plain) ∙ (or_parts ((b == 93) && wanted read) (not (is_bracket b) && rest) parts.1).1 in
          let size : label_size 0 bs + 1 ≡ suc (label_size 0 bs) = omega arith in
          let told = next more (subst (λ k. begins_with 93 (drop k (b ∷ bs)) ≡ true) size closed) in
          subst (λ k. wanted (read ++ take k (b ∷ bs)) ≡ false) (sym size)
          (ap wanted (sym (append_assoc read (b ∷ []) (take (label_size 0 bs) bs))) ∙ told)
      by false false escaped in-call next closed =
          ap wanted (append-nil read) ∙ sym (ap (λ x. x && wanted read) closed) ∙ (or_parts ((b == 93) && wanted read) (not (is_bracket b) && label_ends wanted (read ++ b ∷ []) bs) parts.1).0

  -- behind each `[` it is told that no wanted label is there
  none-behind : (bytes : List ℕ) (k : ℕ) (rest : List ℕ) → may_ask wanted bytes ≡ false → drop k bytes ≡ 91 ∷ rest → label_ends wanted [] rest ≡ false
  none-behind [] zero rest none there = absurd (cc)
  none-behind [] (suc k) rest none there = absurd (cc)
  none-behind (b ∷ bs) zero rest none there =
      let parts = or_parts ((b == 91) && label_ends wanted [] bs) (may_ask wanted bs) none in
      let is : b ≡ 91 = cc in
      let same : bs ≡ rest = cc in
      ap (label_ends wanted []) (sym same) ∙ sym (ap (λ x. (x == 91) && label_ends wanted [] bs) is) ∙ parts.0
  none-behind (b ∷ bs) (suc k) rest none there =
      none-behind bs k rest (or_parts ((b == 91) && label_ends wanted [] bs) (may_ask wanted bs) none).1 there

-- bytes with `[^` in front
opened : (text : List ℕ) → starts_with (91 ∷ 94 ∷ []) text ≡ true → text ≡ 91 ∷ 94 ∷ drop 2 text
opened [] h = absurd (false≢true h)
opened (b ∷ []) h = absurd (false≢true (and_parts (91 == b) false h).1)
opened (b ∷ c ∷ ts) h =
    let first = and_parts (91 == b) ((94 == c) && true) h in
    let second = and_parts (94 == c) true first.1 in
    λ i. sym (eqb-true 91 b first.0) i ∷ sym (eqb-true 94 c second.0) i ∷ ts

-- So the label of what may be a call does not change, if no label that changes may stand between brackets
pub call-stays : (changed : Key → Bool) (bytes : List ℕ) → may_ask (asks_for changed) bytes ≡ false → (k n : ℕ) → label_at (drop k bytes) ≡ Some n → changed (note (take n (drop (k + 2) bytes))) ≡ false
call-stays changed bytes none k n is =
    let text = drop k bytes in
    let call = like-call text n is in
    let behind = none-behind (asks_for changed) bytes k (94 ∷ drop 2 text) none (opened text call.opens) in
    let closed = subst (λ m. begins_with 93 (drop m (drop 2 text)) ≡ true) (sym call.size) call.closes in
    let told : asks_for changed (94 ∷ take (label_size 0 (drop 2 text)) (drop 2 text)) ≡ false = label-told (asks_for changed) (94 ∷ []) (drop 2 text) behind closed in
    let label = take (label_size 0 (drop 2 text)) (drop 2 text) in
    let kept : changed (note label) ≡ false = (or_parts (changed (link (94 ∷ label))) (changed (note label)) told).1 in
    subst (λ ls. changed (note ls) ≡ false) (ap (λ m. take m (drop 2 text)) call.size ∙ ap (take n) (drop-drop 2 k bytes)) kept

-- a byte that is there
ends-there : (bytes : List ℕ) (k : ℕ) → begins_with 93 (drop k bytes) ≡ true → has_end bytes ≡ true
ends-there [] zero h = absurd (false≢true h)
ends-there [] (suc k) h = absurd (false≢true h)
ends-there (b ∷ bs) zero h = ap (λ x. x || has_end bs) h
ends-there (b ∷ bs) (suc k) h = let more = ends-there bs k h in grind (arith, more)

-- and without `]` nothing may be a call
pub no-call : (bytes : List ℕ) → has_end bytes ≡ false → (k n : ℕ) → ¬ (label_at (drop k bytes) ≡ Some n)
no-call bytes none k n is =
    let call = like-call (drop k bytes) n is in
    let there = ends-there bytes (k + 2 + n) (ap (begins_with 93) (sym (ap (drop n) (drop-drop 2 k bytes) ∙ drop-drop n (k + 2) bytes)) ∙ call.closes) in
    false≢true (sym none ∙ there)
