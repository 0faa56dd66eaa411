-- Steps of loops, and what is written in more than one step.
use Rattle.std.proofs.Common.{◌≡◌, ℕ, suc, ◌-◌, ◌<◌, List, [], ◌∷◌, ◌++◌, ap, sym, ◌∙◌, append_assoc, arith}
use Rattle.std.specs.List.{flat_map, repeat}
use Rattle.std.specs.Prelude.{zero, true, codes}
use Rattle.mdhtml_document.specs.Html.{code}
use Rattle.mdhtml_document.specs.Written.{after}
use Rattle.mdhtml_markup.specs.Escapes.{escaped}
use Rattle.mdhtml_markup.specs.Pieces.{Attribute, Fresh, Language, attribute, is_fresh, written}

-- a space more
pub spaces-more : (n : ℕ) (text : List ℕ) → 0 < n → (text ++ (32 ∷ [])) ++ repeat (n - 1) (32 ∷ []) ≡ text ++ repeat n (32 ∷ [])
spaces-more zero text h = absurd (omega (arith, h))
spaces-more (suc n) text h =
    let less : suc n - 1 ≡ n = omega arith in
    append_assoc text (32 ∷ []) (repeat (suc n - 1) (32 ∷ [])) ∙ ap (λ m. text ++ (32 ∷ repeat m (32 ∷ []))) less

-- code with its tags
pub code-written : (old : List ℕ) (attributes : List Attribute) (t : List ℕ)
    → (((((old ++ written (is_fresh true old) Fresh) ++ codes "<pre><code") ++ flat_map attribute attributes) ++ codes ">") ++ escaped t) ++ codes "</code></pre>\n"
    ≡ after old (code attributes t).opened
code-written old attributes t =
    let front = old ++ written (is_fresh true old) Fresh in
    let a = flat_map attribute attributes in
    let x = front ++ codes "<pre>" in
    let y = (x ++ (codes "<code" ++ (a ++ codes ">"))) ++ escaped t in
    ap (λ (w : List ℕ). (((w ++ a) ++ codes ">") ++ escaped t) ++ codes "</code></pre>\n") (sym (append_assoc front (codes "<pre>") (codes "<code")))
    ∙ ap (λ (w : List ℕ). (w ++ escaped t) ++ codes "</code></pre>\n") (append_assoc (x ++ codes "<code") a (codes ">") ∙ append_assoc x (codes "<code") (a ++ codes ">"))
    ∙ sym (append_assoc y (codes "</code>") (codes "</pre>\n")) ∙ sym (append_assoc (y ++ codes "</code>") (codes "</pre>") (10 ∷ []))

-- and a class
pub class-written : (old t : List ℕ) → ((old ++ codes " class=\"language-") ++ escaped t) ++ codes "\"" ≡ old ++ attribute (Language t)
class-written old t = append_assoc (old ++ codes " class=\"language-") (escaped t) (codes "\"") ∙ append_assoc old (codes " class=\"language-") (escaped t ++ codes "\"")
