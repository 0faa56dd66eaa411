-- The constructs of texts by their bytes: no byte begins two of them; each item is a byte at least; and data ends where one may begin.
use Rattle.mdinline_text_machine.proofs.Prelude.{by-class, ◌≡◌, ℕ, ◌<◌, ◌==◌, ◌||◌, ◌∷◌, [], List, Bool, false, cond, not, not-false, Option, Some, None, refl, sym, ◌∙◌, ap, arith, nat_tests, Constructs, Retry, Next, TextBefore, DataInside, Data, Rows, row, exit, consume, class_of, passes, text_byte, TextByte, is_line_feed_class, is_special, text_constructs, some_begins, data_inside_rows, item_length, item_at, part, part_at}
use Rattle.mdinline_text_machine.proofs.Autolinks.Bytes.{autolinks-apart}
use Rattle.mdinline_text_machine.proofs.CodeSpans.Bytes.{code-spans-apart}
use Rattle.mdinline_text_machine.proofs.CodeSpans.FoundParts.{piece-positive}
use Rattle.mdinline_text_machine.proofs.Constructs.Apart.{AreApart, begins-classed, positive}
use Rattle.mdinline_text_machine.proofs.Escapes.Bytes.{escapes-apart}

pub text-apart : AreApart text_byte item_length text_constructs
text-apart = (code-spans-apart, (autolinks-apart, (escapes-apart, tt)))

pub items-positive : (on : Constructs) (b : ℕ) (bs : List ℕ) → 0 < item_length (item_at on (b ∷ bs))
items-positive on b bs = positive text_byte item_length text_constructs text-apart on b bs (part (part_at is_special (b ∷ bs))) (piece-positive is_special b bs)

pub line-classed : (b : ℕ) → is_line_feed_class (text_byte b) ≡ (b == 10)
line-classed b =
    by-class (λ w. is_line_feed_class w ≡ (b == 10)) b
    (λ e. sym e) (λ e. sym (grind (arith, nat_tests))) (λ e. sym (grind (arith, nat_tests))) (λ e. sym (grind (arith, nat_tests)))
    (λ e. sym (grind (arith, nat_tests))) (λ e. sym (grind (arith, nat_tests))) (λ e. sym (grind (arith, nat_tests))) (λ n e. sym (grind (arith, nat_tests)))
    (λ e. sym (grind (arith, nat_tests))) (λ e. sym (grind (arith, nat_tests))) (λ e. sym (grind (arith, nat_tests))) (λ o e. sym (grind (arith, nat_tests))) (λ o e. sym (grind (arith, nat_tests))) (λ o n e. sym (grind (arith, nat_tests)))

-- a class ends data exactly if the byte does
pub special-classed : (b : ℕ) → (is_line_feed_class (text_byte b) || some_begins text_constructs (text_byte b)) ≡ is_special b
special-classed b = λ i. line-classed b i || begins-classed text_byte item_length text_constructs text-apart b i

abbrev data_row : Bool → Rows Unit Unit
data_row ends = cond ends (row (exit Data ∷ []) (Retry TextBefore)) (row (consume ∷ []) (Next DataInside))

-- data goes on at a byte at which no other item may begin
pub data-goes-on : (before : Option TextByte) (b : ℕ) → is_special b ≡ false → data_inside_rows before (Some (text_byte b)) ≡ row (consume ∷ []) (Next DataInside)
data-goes-on before b h = ap data_row (special-classed b ∙ h)

-- at the others it ends, and at the end
pub data-ends : (before : Option TextByte) (o : Option ℕ) → passes (λ b. not (is_special b)) o ≡ false → data_inside_rows before (class_of text_byte o) ≡ row (exit Data ∷ []) (Retry TextBefore)
data-ends before None h = refl
data-ends before (Some b) h = ap data_row (special-classed b ∙ not-false (is_special b) h)
