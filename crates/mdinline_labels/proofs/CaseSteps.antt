-- Folding of texts, character by character and of ASCII, and what the change of a character's case has.
use Rattle.mdinline_labels.proofs.Prelude.{◌≡◌, ℕ, suc, ◌<◌, Option, None, Some, List, [], ◌∷◌, ◌++◌, length, map, flat_map, chars, encode_utf8, encode_utf8_all, option_to_list, IsUtf8, IsAscii, refl, sym, ap, ◌∙◌, arith, ne_eqb, chars_past_char, chars-IsAscii, chars-nil, encodes-IsAscii, encodes-append, flat_map-append, append_assoc, IsAscii-map, nil_from_length, to_ascii_uppercase, to_ascii_lowercase, to_lowercase, to_uppercase, to_uppercase_ascii, to_lowercase_ascii, CaseChanged, case_mapping_first, case_mapping_second, case_mapping_third, case_mapping_chars}
use Rattle.mdinline_labels.specs.Labels.{folded, folded_text}

-- the characters that a change of case has left, by what its calls give
pub listed : (s : CaseChanged) (a b c : Option ℕ) → case_mapping_first s ≡ a → case_mapping_second s ≡ b → case_mapping_third s ≡ c
    → case_mapping_chars s ≡ option_to_list a ++ (option_to_list b ++ option_to_list c)
listed s None None None p q r = rw (p, q, r)
listed s None None (Some z) p q r = rw (p, q, r)
listed s None (Some y) None p q r = rw (p, q, r)
listed s None (Some y) (Some z) p q r = rw (p, q, r)
listed s (Some x) None None p q r = rw (p, q, r)
listed s (Some x) None (Some z) p q r = rw (p, q, r)
listed s (Some x) (Some y) None p q r = rw (p, q, r)
listed s (Some x) (Some y) (Some z) p q r = rw (p, q, r)

-- three parts written, one after another
pub written : (w x y z a b c all : List ℕ) → x ≡ w ++ a → y ≡ x ++ b → z ≡ y ++ c → all ≡ a ++ (b ++ c) → z ≡ w ++ all
written w x y z a b c all p q r s =
    r ∙ ap (λ t. t ++ c) (q ∙ ap (λ t. t ++ b) p) ∙ append_assoc (w ++ a) b c ∙ append_assoc w a (b ++ c) ∙ ap (λ t. w ++ t) (sym s)

pub three : (a b c : List ℕ) → encode_utf8_all (a ++ (b ++ c)) ≡ encode_utf8_all a ++ (encode_utf8_all b ++ encode_utf8_all c)
three a b c = encodes-append a (b ++ c) ∙ ap (λ t. encode_utf8_all a ++ t) (encodes-append b c)

-- the characters of a lower case, each in upper case
pub folded-three : (letter : ℕ) (a b c : List ℕ) → (letter ≡ 0x131 → ⊥) → to_lowercase letter ≡ a ++ (b ++ c)
    → folded letter ≡ flat_map to_uppercase a ++ (flat_map to_uppercase b ++ flat_map to_uppercase c)
folded-three letter a b c other is =
    rw (ne_eqb letter 0x131 other, is) (flat_map-append to_uppercase a (b ++ c) ∙ ap (λ t. flat_map to_uppercase a ++ t) (flat_map-append to_uppercase b c))

pub folded-empty : (text : List ℕ) → length text ≡ 0 → folded_text text ≡ []
unfolding folded_text
folded-empty text none = rw (ap chars (nil_from_length text none) ∙ chars-nil)

pub folded-step : (text rest : List ℕ) (c : ℕ) → IsUtf8 text → text ≡ encode_utf8 c ++ rest → folded_text text ≡ encode_utf8_all (folded c) ++ folded_text rest
unfolding folded_text
folded-step text rest c utf8 parts = rw (chars_past_char text rest c utf8 parts, encodes-append)

-- an ASCII character
folded-low : (c : ℕ) → c < 128 → folded c ≡ to_ascii_uppercase c ∷ []
folded-low c low =
    let small : to_ascii_lowercase c < 128 = grind arith in
    let same : to_ascii_uppercase (to_ascii_lowercase c) ≡ to_ascii_uppercase c = grind arith in
    rw (ne_eqb c 0x131 (omega arith), ← to_lowercase_ascii c low, ← to_uppercase_ascii (to_ascii_lowercase c) small, same)

folded-ascii : (text : List ℕ) → IsAscii text → flat_map folded text ≡ map to_ascii_uppercase text
folded-ascii [] ascii = refl
folded-ascii (c ∷ cs) ascii = λ i. folded-low c (ascii 0) i ++ folded-ascii cs (λ k. ascii (suc k)) i

pub folded-IsAscii : (text : List ℕ) → IsAscii text → folded_text text ≡ map to_ascii_uppercase text
unfolding folded_text
folded-IsAscii text ascii =
    rw (chars-IsAscii text ascii, folded-ascii text ascii)
    (encodes-IsAscii _ (IsAscii-map to_ascii_uppercase text (λ b low. grind arith) ascii))
