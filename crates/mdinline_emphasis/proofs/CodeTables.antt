-- The tables of the code are the lists of the definitions, and a character's class is read off them.
use Rattle.mdinline_emphasis.proofs.Prelude.{◌≡◌, ℕ, Bool, cond, refl, sym, ap, ◌∙◌, Whitespace, Punctuation, Other, WHITE_SPACE, PUNCTUATION, in_ranges, shown_char, class_of}
use Rattle.mdinline_emphasis.specs.Unicode.{white_space, punctuation}

coded-white : WHITE_SPACE ≡ white_space
unfolding white_space
coded-white = refl

coded-punctuation : PUNCTUATION ≡ punctuation
unfolding punctuation
coded-punctuation = refl

-- what a search in a table of the code finds
module _ (char code : ℕ) (is : code ≡ shown_char char) where
  white-in : (found : Bool) → found ≡ in_ranges WHITE_SPACE code → in_ranges white_space (shown_char char) ≡ found
  white-in found e = sym (e ∙ ap (λ table. in_ranges table code) coded-white ∙ ap (in_ranges white_space) is)

  punctuation-in : (found : Bool) → found ≡ in_ranges PUNCTUATION code → in_ranges punctuation (shown_char char) ≡ found
  punctuation-in found e = sym (e ∙ ap (λ table. in_ranges table code) coded-punctuation ∙ ap (in_ranges punctuation) is)

  pub classed : (white mark : Bool) → white ≡ in_ranges WHITE_SPACE code → mark ≡ in_ranges PUNCTUATION code → class_of char ≡ cond white Whitespace (cond mark Punctuation Other)
  classed white mark h k =
      ap (λ b. cond b Whitespace (cond (in_ranges punctuation (shown_char char)) Punctuation Other)) (white-in white h)
      ∙ ap (λ b. cond white Whitespace (cond b Punctuation Other)) (punctuation-in mark k)
