-- Tags, byte by byte: the places in a tag, and what is behind the tag from each of them on.
use Rattle.markdown_base.proofs.Facts.Lists.{Fits, fits-more}
use Rattle.markdown_base.proofs.Facts.Numbers.{unlike}
use Rattle.mdinline_constructs.proofs.Prelude.{◌≡◌, ℕ, suc, ◌-◌, ◌==◌, ◌||◌, List, [], ◌∷◌, true, cond, Option, Some, None, option_map, length, refl, ap, ◌∙◌, arith, is_ascii_alphabetic, is_white, is_greater_than, is_slash, is_equals_sign, is_double_quote, is_single_quote, is_tag_white, is_tag_name_byte, begins_attribute_name, is_attribute_name_byte, is_unquoted, quote_is}
use Rattle.mdinline_constructs.proofs.HtmlTexts.Walks.{Move, refused, done, goes, moved, one_further, run, GoesThroughLines}

-- Where a reader is: behind `<`; behind `</`, in the name of a closing tag, behind that; in the name of an opening tag; before an attribute, in its
-- name, behind it; before a value, in a quoted one, behind that; in a value with no quotes; behind the slash
pub data Place : Type 0 where
  opened : Place
  closed : Place
  closing_name : Place
  closing : Place
  tag_name : Place
  before : Place
  name : Place
  named : Place
  value : Place
  double_quoted : Place
  single_quoted : Place
  after : Place
  bare : Place
  slashed : Place

-- what a byte does
abbrev pub next : Place → ℕ → Move Place
next opened b = cond (is_slash b) (goes None closed) (cond (is_ascii_alphabetic b) (goes None tag_name) refused)
next closed b = cond (is_ascii_alphabetic b) (goes None closing_name) refused
next closing_name b = cond (is_tag_name_byte b) (goes None closing_name) (cond (is_tag_white b) (goes None closing) (cond (is_greater_than b) done refused))
next closing b = cond (is_tag_white b) (goes None closing) (cond (is_greater_than b) done refused)
next tag_name b = cond (is_tag_name_byte b) (goes None tag_name) (cond (is_tag_white b) (goes None before) (cond (is_slash b) (goes None slashed) (cond (is_greater_than b) done refused)))
next before b = cond (is_tag_white b) (goes None before) (cond (begins_attribute_name b) (goes None name) (cond (is_slash b) (goes None slashed) (cond (is_greater_than b) done refused)))
next name b =
    cond (is_attribute_name_byte b) (goes None name)
    (cond (is_tag_white b) (goes None named) (cond (is_equals_sign b) (goes None value) (cond (is_slash b) (goes None slashed) (cond (is_greater_than b) done refused))))
next named b =
    cond (is_tag_white b) (goes None named)
    (cond (is_equals_sign b) (goes None value) (cond (begins_attribute_name b) (goes None name) (cond (is_slash b) (goes None slashed) (cond (is_greater_than b) done refused))))
next value b =
    cond (is_tag_white b) (goes None value)
    (cond (is_double_quote b) (goes (Some (quote_is 34)) double_quoted) (cond (is_single_quote b) (goes (Some (quote_is 39)) single_quoted) (cond (is_unquoted b) (goes None bare) refused)))
next double_quoted b = cond (b == 34) (goes None after) (goes None double_quoted)
next single_quoted b = cond (b == 39) (goes None after) (goes None single_quoted)
next after b = cond (is_tag_white b) (goes None before) (cond (is_slash b) (goes None slashed) (cond (is_greater_than b) done refused))
next bare b = cond (is_unquoted b) (goes None bare) (cond (is_tag_white b) (goes None before) (cond (is_greater_than b) done refused))
next slashed b = cond (is_greater_than b) done refused

-- white space is white space in a tag
white-is : (b : ℕ) → is_white b ≡ true → is_tag_white b ≡ true
white-is b h = ap (λ t. t || (b == 10)) h

pub before-white : (b : ℕ) → is_tag_white b ≡ true → next before b ≡ goes None before
before-white b h = ap (λ t. cond t (goes None before) (cond (begins_attribute_name b) (goes None name) (cond (is_slash b) (goes None slashed) (cond (is_greater_than b) done refused)))) h

named-white : (b : ℕ) → is_tag_white b ≡ true → next named b ≡ goes None named
named-white b h =
    ap (λ t. cond t (goes None named)
    (cond (is_equals_sign b) (goes None value) (cond (begins_attribute_name b) (goes None name) (cond (is_slash b) (goes None slashed) (cond (is_greater_than b) done refused))))) h

pub value-white : (b : ℕ) → is_tag_white b ≡ true → next value b ≡ goes None value
value-white b h =
    ap (λ t. cond t (goes None value)
    (cond (is_double_quote b) (goes (Some (quote_is 34)) double_quoted) (cond (is_single_quote b) (goes (Some (quote_is 39)) single_quoted) (cond (is_unquoted b) (goes None bare) refused)))) h

-- white space may come behind a line ending
pub tags-go-through-lines : GoesThroughLines next
tags-go-through-lines opened = tt
tags-go-through-lines closed = tt
tags-go-through-lines closing_name = λ b h. ap (λ t. cond t (goes None closing) (cond (is_greater_than b) done refused)) (white-is b h)
tags-go-through-lines closing = λ b h. ap (λ t. cond t (goes None closing) (cond (is_greater_than b) done refused)) (white-is b h)
tags-go-through-lines tag_name = λ b h. before-white b (white-is b h)
tags-go-through-lines before = λ b h. before-white b (white-is b h)
tags-go-through-lines name = λ b h. named-white b (white-is b h)
tags-go-through-lines named = λ b h. named-white b (white-is b h)
tags-go-through-lines value = λ b h. value-white b (white-is b h)
tags-go-through-lines double_quoted = λ b h. ap (λ t. cond t (goes None after) (goes None double_quoted)) (unlike is_white 34 refl b h)
tags-go-through-lines single_quoted = λ b h. ap (λ t. cond t (goes None after) (goes None single_quoted)) (unlike is_white 39 refl b h)
tags-go-through-lines after = λ b h. before-white b (white-is b h)
tags-go-through-lines bare = λ b h. before-white b (white-is b h)
tags-go-through-lines slashed = tt

-- what is behind the last byte, by what is behind it from the place that follows on
abbrev pub left_of : (Place → Option (List ℕ)) → List ℕ → Move Place → Option (List ℕ)
left_of f bs refused = None
left_of f bs done = Some bs
left_of f bs (goes w s) = f s

abbrev pub left : List ℕ → Place → Option (List ℕ)
left [] s = None
left (b ∷ bs) s = left_of (left bs) bs (next s b)

left-fits : (t : List ℕ) (s : Place) → Fits (length t) (left t s)
left-fits [] s = tt
left-fits (b ∷ bs) s = elim (next s b) as (λ m. Fits (suc (length bs)) (left_of (left bs) bs m)) [
  | refused ↦ tt
  | done ↦ omega arith
  | goes w s' ↦ fits-more (left bs s') (length bs) (suc (length bs)) (omega arith) (left-fits bs s')
]

-- how many bytes are in front of it
abbrev pub length_to : List ℕ → Option (List ℕ) → Option ℕ
length_to t o = option_map (λ rest. length t - length rest) o

one-more : (b : ℕ) (bs : List ℕ) (o : Option (List ℕ)) → Fits (length bs) o → one_further (length_to bs o) ≡ length_to (b ∷ bs) o
one-more b bs None h = refl
one-more b bs (Some rest) h = let e : suc (length bs - length rest) ≡ suc (length bs) - length rest = omega (arith, h) in ap Some e

-- So the bytes of a tag are those in front of what is behind it
pub run-is : (t : List ℕ) (s : Place) → run next t s ≡ length_to t (left t s)
run-is [] s = refl
run-is (b ∷ bs) s = elim (next s b) as (λ m. moved (run next bs) m ≡ length_to (b ∷ bs) (left_of (left bs) bs m)) [
  | refused ↦ refl
  | done ↦ let e : 1 ≡ suc (length bs) - length bs = omega arith in ap Some e
  | goes w s' ↦ ap one_further (run-is bs s') ∙ one-more b bs (left bs s') (left-fits bs s')
]

-- with the byte in front of them
pub length-more : (b : ℕ) (bs : List ℕ) (s : Place) → one_further (length_to bs (left bs s)) ≡ length_to (b ∷ bs) (left bs s)
length-more b bs s = one-more b bs (left bs s) (left-fits bs s)
