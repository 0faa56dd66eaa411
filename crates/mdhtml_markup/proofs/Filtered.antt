-- Raw HTML whose tags are filtered, from its front on.
use Rattle.std.proofs.Common.{◌≡◌, ℕ, suc, ◌+◌, List, [], ◌∷◌, ◌++◌, take, drop, refl, ap, sym, ◌∙◌, arith, append_assoc}
use Rattle.std.specs.List.{list_any, prefix_len}
use Rattle.std.specs.Prelude.{◌==◌, ◌&&◌, not, Bool, true, false, cond, codes}
use Rattle.std.proofs.lemmas.List.Concat.{flat_map-append}
use Rattle.markdown_base.specs.Texts.{tagfilter_names}
use Rattle.mdhtml_markup.specs.Escapes.{kept, kept_byte}
use Rattle.mdhtml_markup.specs.TagFilter.{filtered, from_name, is_named}

-- how many bytes come before the first `<`
abbrev size : List ℕ → ℕ
size h = prefix_len (λ b. not (b == 60)) h

-- these stay, and the others are looked at by themselves
before : (h : List ℕ) → take (size h) h ++ filtered (drop (size h) h) ≡ filtered h
before [] = refl
before (b ∷ bs) = by (b == 60) refl (before bs)
  where
    split : ℕ → List ℕ
    split n = take n (b ∷ bs) ++ filtered (drop n (b ∷ bs))

    by : (t : Bool) → (b == 60) ≡ t → take (size bs) bs ++ filtered (drop (size bs) bs) ≡ filtered bs → split (cond (not (b == 60)) (1 + size bs) 0) ≡ filtered (b ∷ bs)
    by true e rest = ap (λ t. split (cond (not t) (1 + size bs) 0)) e
    by false e rest =
        let one : 1 + size bs ≡ suc (size bs) = omega arith in
        ap (λ t. split (cond (not t) (1 + size bs) 0)) e ∙ ap split one ∙ ap (λ x. b ∷ x) rest
        ∙ sym (ap (λ t. cond (t && list_any (λ name. is_named name (from_name bs)) tagfilter_names) (codes "&lt;") (b ∷ []) ++ filtered bs) e)

-- what was written of HTML up to its first `<`
pub run : (out h : List ℕ) → (out ++ kept (take (size h) h)) ++ kept (filtered (drop (size h) h)) ≡ out ++ kept (filtered h)
run out h =
    append_assoc out (kept (take (size h) h)) (kept (filtered (drop (size h) h)))
    ∙ ap (λ x. out ++ x) (sym (flat_map-append kept_byte (take (size h) h) (filtered (drop (size h) h))) ∙ ap kept (before h))
