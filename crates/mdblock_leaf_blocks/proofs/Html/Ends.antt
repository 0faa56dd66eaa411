-- HTML of kinds 1 to 5 is behind its end exactly if its line holds it; and what the kind of a line says of its bytes.
use Rattle.mdblock_leaf_blocks.proofs.Prelude.{Bool, List, [], ap, arith, cond, false, nat_le, not, refl, suc, sym, true, zero, ℕ, ◌==◌, ◌∙◌, ◌∷◌, ◌≡◌, eqb-true, nat_tests, Constructs, first_passes, is_blank_line, unindented, html, seen_kind}
use Rattle.mdblock_leaf_blocks.proofs.Tags.HtmlNumbers.{ends_html, html_at, number-is}
use Rattle.mdblock_leaf_blocks.proofs.Html.Places.{bracket-ends, dash-ends, greater-ends, inside, is_closed, question-ends, through}
use Rattle.mdblock_leaf_blocks.proofs.Html.Raw.{raw-ends}
use Rattle.mdblock_leaf_blocks.proofs.Lines.KindsOfLines.{says}

pub ends-are : (kind : ℕ) → nat_le 6 kind ≡ false → nat_le 1 kind ≡ true → (t : List ℕ) → is_closed (through kind inside t) ≡ ends_html kind t
ends-are zero short some t = absurd (cc)
ends-are (suc zero) short some t = raw-ends t
ends-are (suc (suc zero)) short some t = dash-ends t
ends-are (suc (suc (suc zero))) short some t = (question-ends t).0
ends-are (suc (suc (suc (suc zero)))) short some t = greater-ends t
ends-are (suc (suc (suc (suc (suc zero))))) short some t = bracket-ends t
ends-are (suc (suc (suc (suc (suc (suc kind)))))) short some t = absurd (let long : nat_le 6 (suc (suc (suc (suc (suc (suc kind)))))) ≡ true = grind (arith, nat_tests) in cc)

-- A line of HTML is not blank, and begins HTML of its kind behind its white space
pub record IsHtml (kind : ℕ) (t : List ℕ) : Type 0 where
  pub solid : is_blank_line t ≡ false
  pub at : html_at (unindented t) ≡ kind
  pub some : nat_le 1 kind ≡ true

pub html-is : (on : Constructs) (t : List ℕ) (kind : ℕ) → seen_kind on t ≡ html kind → IsHtml kind t
html-is on t kind is = let (solid, at) = says on t is in record { solid = solid; at = sym (number-is (unindented t)) ∙ at.0; some = at.1 }

-- HTML begins with a less-than sign
pub record BeginsLess (r : List ℕ) : Type 0 where
  pub rest : List ℕ
  pub is : r ≡ 60 ∷ rest

begins-less : (r : List ℕ) (n : ℕ) → first_passes (λ b. b == 60) r ≡ true → BeginsLess r
begins-less [] n h = absurd (cc)
begins-less (b ∷ bs) n h = record { rest = bs; is = ap (λ b. b ∷ bs) (eqb-true b 60 h) }

starts-so : (a : Bool) (n : ℕ) → nat_le 1 (cond (not a) 0 n) ≡ true → a ≡ true
starts-so true n h = refl
starts-so false n h = absurd (cc)

pub html-begins : (r : List ℕ) → nat_le 1 (html_at r) ≡ true → BeginsLess r
html-begins r some = begins-less r 0 (starts-so (first_passes (λ b. b == 60) r) _ some)
