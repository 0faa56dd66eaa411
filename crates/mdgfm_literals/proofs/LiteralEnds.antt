-- Literals lie in their texts, and no line ending is at either end of one.
use Rattle.std.proofs.Common.{◌≡◌, ℕ, zero, suc, ◌+◌, ◌-◌, ◌<◌, ◌≤◌, Bool, true, false, cond, List, [], ◌∷◌, length, drop, take, get_or, Option, Some, refl, sym, ap, ◌∙◌, arith, ne_eqb, leb-true}
use Rattle.std.proofs.lemmas.Bool.{false≢true}
use Rattle.std.proofs.lemmas.List.{get_or-drop, length-drop}
use Rattle.std.proofs.lemmas.List.Folds.{length-prefix_len}
use Rattle.std.proofs.lemmas.List.Sums.{prefix_len_passes, prefix_len-le-length}
use Rattle.std.specs.Char.{is_ascii_alphabetic}
use Rattle.std.specs.List.{prefix_len}
use Rattle.std.specs.Prelude.{◌==◌, ◌&&◌, codes, nat_le, nat_lt, not, slice_index}
use Rattle.markdown_base.proofs.Common.{and-right}
use Rattle.markdown_base.proofs.Facts.Bools.{and-left}
use Rattle.mdgfm_literals.specs.declared.found.Found.{Found}
use Rattle.mdgfm_literals.specs.Bytes.{begins_with, count, ends_literal, first_passes, in_local, lower}
use Rattle.mdgfm_literals.specs.Grammar.{address_size, closing_before, goes_on, host_size, is_host, left, literal_at, literal_size, off, size_with}
use Rattle.mdgfm_literals.proofs.LiteralLaws.{literal-by}

-- a text has so many bytes, of which no LF is the first and no CR the last
pub record HasEnds (text : List ℕ) (size : ℕ) : Type 0 where
  pub within : size ≤ length text
  pub first : (slice_index text 0 == 10) ≡ false
  pub last : (slice_index text (size - 1) == 13) ≡ false

-- a byte in front, where all pass a test, is none that fails it
front-other : (test : ℕ → Bool) (text : List ℕ) (i c : ℕ) → test c ≡ false → i < prefix_len test text → (slice_index text i == c) ≡ false
front-other test text i c fails less = ne_eqb (slice_index text i) c (λ q. false≢true (sym fails ∙ ap test (sym q) ∙ prefix_len_passes test text i 0 less))

-- ---- literals that are no addresses

left-le : (text : List ℕ) (opening closing skip size : ℕ) → left text opening closing skip size ≤ size
left-le text o c skip zero = omega arith
left-le text o c (suc skip) (suc size) = let less = left-le text o c skip size in omega (arith, less)
left-le text o c zero (suc size) =
    by (n == 0) (left text o (closing_before c (slice_index text size)) (n - 1) size) (left-le text o (closing_before c (slice_index text size)) (n - 1) size)
  where
    n : ℕ
    n = off (nat_lt o c) text size

    by : (b : Bool) (k : ℕ) → k ≤ size → cond b (size + 1) k ≤ suc size
    by true k h = omega arith
    by false k h = omega (arith, h)

literal-ends : (text : List ℕ) → 1 ≤ literal_size text → HasEnds text (literal_size text)
literal-ends text some = record {
  within = let all = prefix_len-le-length run text in omega (arith, less, all);
  first = front-other run text 0 10 refl (omega (arith, less, some));
  last = front-other run text (literal_size text - 1) 13 refl (omega (arith, less, some));
}
  where
    run : ℕ → Bool
    run b = not (ends_literal b)

    whole : List ℕ
    whole = take (prefix_len run text) text

    less : literal_size text ≤ prefix_len run text
    less =
        let k : length whole ≡ prefix_len run text = length-prefix_len run text in
        let l : literal_size text ≤ length whole = left-le whole (count 40 whole) (count 41 whole) 0 (length whole) in
        omega (arith, k, l)

-- ---- addresses

host-le : (text : List ℕ) → host_size text ≤ length text
host-le [] = omega arith
host-le (b ∷ bs) = by (goes_on (b ∷ bs)) (host-le bs)
  where
    by : (t : Bool) → host_size bs ≤ length bs → cond t (host_size bs + 1) 0 ≤ suc (length bs)
    by true h = omega (arith, h)
    by false h = omega arith

passes-some : (test : ℕ → Bool) (text : List ℕ) → first_passes test text ≡ true → 1 ≤ length text
passes-some test [] h = absurd (false≢true h)
passes-some test (b ∷ bs) h = omega arith

host-some : (m : ℕ) (text : List ℕ) → is_host m text ≡ true → 1 ≤ m
host-some zero text h = absurd (false≢true h)
host-some (suc m) text h = omega arith

address-ends : (text : List ℕ) → 1 ≤ address_size text → HasEnds text (address_size text)
address-ends text some = by (nat_le 1 n) (first_passes (λ b. b == 64) (drop n text)) (is_host m host) refl refl refl some
  where
    n : ℕ
    n = prefix_len in_local text

    host : List ℕ
    host = drop (n + 1) text

    m : ℕ
    m = host_size host

    by : (a b c : Bool) → nat_le 1 n ≡ a → first_passes (λ b. b == 64) (drop n text) ≡ b → is_host m host ≡ c → 1 ≤ cond (a && (b && c)) (n + 1 + m) 0
        → HasEnds text (cond (a && (b && c)) (n + 1 + m) 0)
    by false b c p q r h = absurd (omega (arith, h))
    by true false c p q r h = absurd (omega (arith, h))
    by true true false p q r h = absurd (omega (arith, h))
    by true true true p q r h =
        let there = passes-some (λ b. b == 64) (drop n text) q in
        let long = length-drop n text in
        let longer : length host ≡ length text - (n + 1) = length-drop (n + 1) text in
        let fits : m ≤ length host = host-le host in
        let some = host-some m host r in
        let letter = and-left (is_ascii_alphabetic (slice_index host (m - 1))) (not (first_passes (λ b. b == 64) (drop m host))) (and-right (nat_le 1 (count 46 (take m host))) _ r) in
        let here : n + 1 + (m - 1) ≡ n + 1 + m - 1 = omega (arith, some) in
        let byte : slice_index host (m - 1) ≡ slice_index text (n + 1 + m - 1) = get_or-drop (n + 1) text (m - 1) 0 ∙ ap (λ i. get_or text i 0) here in
        record {
          within = omega (arith, there, long, longer, fits);
          first = front-other in_local text 0 10 refl (leb-true 1 n p);
          last = ne_eqb (slice_index text (n + 1 + m - 1)) 13 (λ q. false≢true (sym (ap is_ascii_alphabetic (byte ∙ q)) ∙ letter));
        }

-- ---- addresses behind a scheme

word-le : (word text : List ℕ) → begins_with word text ≡ true → length word ≤ length text
word-le [] text h = omega arith
word-le (w ∷ ws) [] h = absurd (false≢true h)
word-le (w ∷ ws) (b ∷ bs) h = let less = word-le ws bs (and-right (lower b == w) (begins_with ws bs) h) in omega (arith, less)

word-first : (w : ℕ) (ws text : List ℕ) → (lower 10 == w) ≡ false → begins_with (w ∷ ws) text ≡ true → (slice_index text 0 == 10) ≡ false
word-first w ws [] isnt h = absurd (false≢true h)
word-first w ws (b ∷ bs) isnt h = ne_eqb b 10 (λ q. false≢true (sym isnt ∙ ap (λ c. lower c == w) (sym q) ∙ and-left (lower b == w) (begins_with ws bs) h))

scheme-ends : (w : ℕ) (ws text : List ℕ) → (lower 10 == w) ≡ false → 1 ≤ size_with (w ∷ ws) text → HasEnds text (size_with (w ∷ ws) text)
scheme-ends w ws text isnt some = by (begins_with scheme text) (nat_le 1 n) refl refl some
  where
    scheme : List ℕ
    scheme = w ∷ ws

    behind : List ℕ
    behind = drop (length scheme) text

    n : ℕ
    n = address_size behind

    by : (a b : Bool) → begins_with scheme text ≡ a → nat_le 1 n ≡ b → 1 ≤ cond (a && b) (length scheme + n) 0 → HasEnds text (cond (a && b) (length scheme + n) 0)
    by false b p q h = absurd (omega (arith, h))
    by true false p q h = absurd (omega (arith, h))
    by true true p q h =
        let some = leb-true 1 n q in
        let address : HasEnds behind n = address-ends behind some in
        let less = word-le scheme text p in
        let long : length behind ≡ length text - length scheme = length-drop (length scheme) text in
        let within = address.within in
        let here : length scheme + (n - 1) ≡ length scheme + n - 1 = omega (arith, some) in
        let byte : slice_index behind (n - 1) ≡ slice_index text (length scheme + n - 1) = get_or-drop (length scheme) text (n - 1) 0 ∙ ap (λ i. get_or text i 0) here in
        record {
          within = omega (arith, within, less, long);
          first = word-first w ws text isnt p;
          last = ap (λ b. b == 13) (sym byte) ∙ address.last;
        }

-- ---- all

pub found-ends : (before : Option ℕ) (text : List ℕ) (f : Found) → literal_at before text ≡ Some f → HasEnds text f.size
found-ends before text =
    literal-by (λ f. HasEnds text f.size) before text (literal-ends text) (literal-ends text) (scheme-ends 109 (codes "ailto:") text refl) (scheme-ends 120 (codes "mpp:") text refl) (address-ends text)
