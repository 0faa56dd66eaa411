-- Bytes above CR are no line endings.
use Rattle.std.proofs.Common.{◌≡◌, ◌<◌, ◌==◌, ◌∙◌, ℕ, Bool, true, false, cond, refl, ap, arith}
use Rattle.std.proofs.lemmas.Bool.Decides.{nat_tests}
use Rattle.std.specs.Char.{is_ascii_alphabetic, is_ascii_digit}
use Rattle.mdconstructs_tables.specs.Breaks.{is_white}
use Rattle.mdblock_leaf_rows.specs.FlowBytes.{FlowByte, line_feed, blank, flow_byte, is_line_feed, word_byte}

-- of two classes that are no line feed one is taken
no : (t : Bool) (x y : FlowByte) → is_line_feed x ≡ false → is_line_feed y ≡ false → is_line_feed (cond t x y) ≡ false
no true x y h k = h
no false x y h k = k

word : (b : ℕ) → is_line_feed (word_byte b) ≡ false
word b =
    no (b == 35) _ _ refl (no (b == 42) _ _ refl (no (b == 95) _ _ refl (no (b == 45) _ _ refl (no (b == 61) _ _ refl (no (b == 96) _ _ refl (no (b == 126) _ _ refl
    (no (b == 60) _ _ refl (no (b == 62) _ _ refl (no (b == 47) _ _ refl (no (b == 33) _ _ refl (no (b == 63) _ _ refl (no (b == 91) _ _ refl
    (no (b == 93) _ _ refl (no (b == 34) _ _ refl (no (b == 39) _ _ refl (no (b == 58) _ _ refl (no (b == 46) _ _ refl
    (no (is_ascii_alphabetic b) _ _ refl (no (is_ascii_digit b) _ _ refl refl)))))))))))))))))))

pub line-class : (b : ℕ) → 13 < b → is_line_feed (flow_byte b) ≡ false
line-class b h =
    let feed : (b == 10) ≡ false = grind (arith, nat_tests) in
    ap (λ f. is_line_feed (cond f line_feed (cond (is_white b) blank (word_byte b)))) feed ∙ no (is_white b) blank (word_byte b) refl (word b)
