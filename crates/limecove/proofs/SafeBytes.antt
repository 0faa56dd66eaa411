-- HTML that fits, and options that let nothing through.
use Rattle.std.proofs.Common.{◌≡◌, ◌≤◌, ◌∙◌, ℕ, List, [], false, ap, bit_and, refl, sym, subst, take, drop, length}
use Rattle.std.proofs.lemmas.List.{take_all, take_at}
use Rattle.std.proofs.lemmas.Nat.{and_assoc}
use Rattle.mdhtml_document.specs.HtmlLaws.{AreSafeOptions}
use Rattle.mdhtml_markup.specs.SafeHtml.{IsSafeHtml}
use Rattle.limecove.specs.Choices.{has_bit, is_yes}
use Rattle.limecove.specs.Editing.{written}
use Rattle.limecove.specs.Html.{compile_options_of}

-- what fits is written whole
whole : (old html : List ℕ) → length html ≤ length old → take (length html) (written old html) ≡ html
whole old html fits =
    let all = take_all (length old) html fits in
    take_at (take (length old) html) (drop (length html) old) (length html) (ap length all) ∙ all

-- and is safe, if it was
pub safe-whole : (old new html : List ℕ) (n : ℕ) → n ≡ length html → new ≡ written old html → n ≤ length old → IsSafeHtml [] html → IsSafeHtml [] (take n new)
safe-whole old new html n count is fits safe =
    let at = λ (m : ℕ) (l : List ℕ). IsSafeHtml [] (take m l) in
    let under : length html ≤ length old = subst (λ (m : ℕ). m ≤ length old) count fits in
    subst (λ (m : ℕ). at m new) (sym count) (subst (at (length html)) (sym is) (subst (IsSafeHtml []) (sym (whole old html under)) safe))

-- without one of these bits nothing is let through
none : (bits bit : ℕ) → bit_and bits 7 ≡ 0 → bit_and 7 bit ≡ bit → has_bit bits bit ≡ false
none bits bit is within = ap is_yes (ap (bit_and bits) (sym within) ∙ sym (and_assoc bit bits 7) ∙ ap (λ n. bit_and n bit) is)

pub none-through : (bits : ℕ) → bit_and bits 7 ≡ 0 → AreSafeOptions (compile_options_of bits)
none-through bits is = record { html = none bits 1 is refl; protocol = none bits 2 is refl; images = none bits 4 is refl }
