-- How many calls look for tags: a look stops at the next `<` that is not in quotes, so that no byte is in more than three looks.
use Rattle.markdown_base.proofs.Facts.Numbers.{unlike}
use Rattle.mdinline_constructs.proofs.Prelude.{◌≡◌, ℕ, ◌+◌, ◌*◌, ◌≤◌, ◌==◌, ◌&&◌, List, [], ◌∷◌, Bool, true, false, cond, Some, None, length, drop, suc, refl, subst, sym, ap, ◌∙◌, arith, is_ascii_alphabetic, and_parts, is_white, is_greater_than, is_less_than, is_slash, is_equals_sign, is_double_quote, is_single_quote, is_tag_white, is_tag_name_byte, begins_attribute_name, is_attribute_name_byte, is_unquoted, quote_is}
use Rattle.mdinline_constructs.proofs.HtmlTexts.Walks.{Move, refused, done, goes, gone_over, looked}
use Rattle.mdinline_constructs.proofs.HtmlTags.Places.{Place, opened, closed, closing_name, closing, tag_name, before, name, named, value, double_quoted, single_quoted, after, bare, slashed, next}

-- two calls for each byte that the places of tags go over behind `<`, and two more
abbrev pub tag_calls : List ℕ → ℕ
tag_calls bs = 2 + 2 * looked next (drop 1 bs) false opened

-- A look is in no quotes, in single or in double ones
pub data Quotes : Type 0 where
  outside : Quotes
  single : Quotes
  double : Quotes

abbrev quotes_of : Place → Quotes
quotes_of double_quoted = double
quotes_of single_quoted = single
quotes_of _ = outside

-- each quotation mark swaps two of them
abbrev turned : Quotes → ℕ → Quotes
turned outside b = cond (b == 34) double (cond (b == 39) single outside)
turned single b = cond (b == 39) outside single
turned double b = cond (b == 34) outside double

-- in no quotes `<` ends it
abbrev ends_at : Quotes → ℕ → Bool
ends_at outside b = b == 60
ends_at single b = false
ends_at double b = false

-- how many bytes it goes over at most
abbrev reach : Quotes → List ℕ → ℕ
reach q [] = 0
reach q (b ∷ bs) = cond (ends_at q b) 0 (1 + reach (turned q b) bs)

-- over all `<`, how many bytes may be gone over behind each
abbrev from_tags : List ℕ → ℕ
from_tags [] = 0
from_tags (b ∷ bs) = cond (b == 60) (reach outside bs) 0 + from_tags bs

-- What is ahead for looks for tags
abbrev pub tags_ahead : List ℕ → ℕ
tags_ahead bs = 2 * from_tags bs

-- What a move may do: it is refused, or the look goes on in these quotes
abbrev May : Quotes → Bool → Move Place → Type 0
May q ends refused = Unit {0}
May q ends done = ends ≡ false
May q ends (goes w s) = (quotes_of s ≡ q) × (ends ≡ false)

abbrev MayAt : Place → ℕ → Move Place → Type 0
MayAt s b move = May (turned (quotes_of s) b) (ends_at (quotes_of s) b) move

-- one that stays in no quotes
abbrev StaysOut : Move Place → Type 0
StaysOut (goes w s) = quotes_of s ≡ outside
StaysOut _ = Unit {0}

plain-may : (b : ℕ) (move : Move Place) → (b == 60) ≡ false → (b == 34) ≡ false → (b == 39) ≡ false → StaysOut move → May (turned outside b) (b == 60) move
plain-may b refused no_less no_double no_single stays = tt
plain-may b done no_less no_double no_single stays = no_less
plain-may b (goes w s) no_less no_double no_single stays = (stays ∙ sym (ap (λ t. cond t double (cond (b == 39) single outside)) no_double ∙ ap (λ t. cond t single outside) no_single), no_less)

-- a test that no quotation mark passes, and not `<`
by-test : (test : ℕ → Bool) (b : ℕ) (one other : Move Place) → test 60 ≡ false → test 34 ≡ false → test 39 ≡ false → StaysOut one → May (turned outside b) (b == 60) other
    → May (turned outside b) (b == 60) (cond (test b) one other)
by-test test b one other no_less no_double no_single stays rest =
    elim (test b) as (λ t. test b ≡ t → May (turned outside b) (b == 60) (cond t one other)) [
      | true ↦ λ e. plain-may b one (unlike test 60 no_less b e) (unlike test 34 no_double b e) (unlike test 39 no_single b e) stays
      | false ↦ λ e. rest
    ] refl

ending-may : (b : ℕ) → May (turned outside b) (b == 60) (cond (is_greater_than b) done refused)
ending-may b = by-test is_greater_than b done refused refl refl refl tt tt

slash-may : (b : ℕ) → May (turned outside b) (b == 60) (cond (is_slash b) (goes None slashed) (cond (is_greater_than b) done refused))
slash-may b = by-test is_slash b (goes None slashed) (cond (is_greater_than b) done refused) refl refl refl refl (ending-may b)

-- at `=` a value in quotes may begin
quotes-may : (b : ℕ) (other : Move Place) → May (turned outside b) (b == 60) other
    → May (turned outside b) (b == 60) (cond (is_double_quote b) (goes (Some (quote_is 34)) double_quoted) (cond (is_single_quote b) (goes (Some (quote_is 39)) single_quoted) other))
quotes-may b other rest =
    elim (b == 34) as (λ t. (b == 34) ≡ t → May (cond t double (cond (b == 39) single outside)) (b == 60) (cond t (goes (Some (quote_is 34)) double_quoted) (cond (b == 39) (goes (Some (quote_is 39)) single_quoted) other))) [
      | true ↦ λ e. (refl, unlike is_double_quote 60 refl b e)
      | false ↦ λ e. elim (b == 39) as (λ t. (b == 39) ≡ t → May (cond (b == 34) double (cond t single outside)) (b == 60) other → May (cond t single outside) (b == 60) (cond t (goes (Some (quote_is 39)) single_quoted) other)) [
        | true ↦ λ i h. (refl, unlike is_single_quote 60 refl b i)
        | false ↦ λ i h. subst (λ t. May (cond t double outside) (b == 60) other) e h
      ] refl rest
    ] refl

may : (s : Place) (b : ℕ) → MayAt s b (next s b)
may opened b = by-test is_slash b (goes None closed) (cond (is_ascii_alphabetic b) (goes None tag_name) refused) refl refl refl refl (by-test is_ascii_alphabetic b (goes None tag_name) refused refl refl refl refl tt)
may closed b = by-test is_ascii_alphabetic b (goes None closing_name) refused refl refl refl refl tt
may closing_name b = by-test is_tag_name_byte b (goes None closing_name) _ refl refl refl refl (by-test is_tag_white b (goes None closing) _ refl refl refl refl (ending-may b))
may closing b = by-test is_tag_white b (goes None closing) _ refl refl refl refl (ending-may b)
may tag_name b = by-test is_tag_name_byte b (goes None tag_name) _ refl refl refl refl (by-test is_tag_white b (goes None before) _ refl refl refl refl (slash-may b))
may before b = by-test is_tag_white b (goes None before) _ refl refl refl refl (by-test begins_attribute_name b (goes None name) _ refl refl refl refl (slash-may b))
may name b =
    by-test is_attribute_name_byte b (goes None name) _ refl refl refl refl
    (by-test is_tag_white b (goes None named) _ refl refl refl refl (by-test is_equals_sign b (goes None value) _ refl refl refl refl (slash-may b)))
may named b =
    by-test is_tag_white b (goes None named) _ refl refl refl refl
    (by-test is_equals_sign b (goes None value) _ refl refl refl refl (by-test begins_attribute_name b (goes None name) _ refl refl refl refl (slash-may b)))
may value b =
    by-test is_tag_white b (goes None value) _ refl refl refl refl
    (quotes-may b (cond (is_unquoted b) (goes None bare) refused) (by-test is_unquoted b (goes None bare) refused refl refl refl refl tt))
may double_quoted b =
    elim (b == 34) as (λ t. May (cond t outside double) false (cond t (goes None after) (goes None double_quoted))) [ true ↦ (refl, refl) | false ↦ (refl, refl) ]
may single_quoted b =
    elim (b == 39) as (λ t. May (cond t outside single) false (cond t (goes None after) (goes None single_quoted))) [ true ↦ (refl, refl) | false ↦ (refl, refl) ]
may after b = by-test is_tag_white b (goes None before) _ refl refl refl refl (slash-may b)
may bare b = by-test is_unquoted b (goes None bare) _ refl refl refl refl (by-test is_tag_white b (goes None before) _ refl refl refl refl (ending-may b))
may slashed b = ending-may b

-- white space leaves the quotes as they are, and ends nothing
white-turns : (q : Quotes) (b : ℕ) (bs : List ℕ) → is_white b ≡ true → 1 + reach q bs ≤ reach q (b ∷ bs)
white-turns outside b bs h =
    let no_less = unlike is_white 60 refl b h in
    let no_double = unlike is_white 34 refl b h in
    let no_single = unlike is_white 39 refl b h in
    let same : reach outside (b ∷ bs) ≡ 1 + reach outside bs = λ i. cond (no_less i) 0 (1 + reach (cond (no_double i) double (cond (no_single i) single outside)) bs) in
    omega (arith, same)
white-turns single b bs h = let same : reach single (b ∷ bs) ≡ 1 + reach single bs = ap (λ t. 1 + reach (cond t outside single) bs) (unlike is_white 39 refl b h) in omega (arith, same)
white-turns double b bs h = let same : reach double (b ∷ bs) ≡ 1 + reach double bs = ap (λ t. 1 + reach (cond t outside double) bs) (unlike is_white 34 refl b h) in omega (arith, same)

-- a move goes over no more
move-reaches : (line : Bool) (b : ℕ) (bs : List ℕ) (q : Quotes) (ends : Bool) (move : Move Place) → May q ends move → ((s : Place) → looked next bs line s ≤ reach (quotes_of s) bs)
    → gone_over (looked next bs line) move ≤ cond ends 0 (1 + reach q bs)
move-reaches line b bs q ends refused h ih = omega arith
move-reaches line b bs q ends done h ih = let same : cond ends 0 (1 + reach q bs) ≡ 1 + reach q bs = ap (λ t. cond t 0 (1 + reach q bs)) h in omega (arith, same)
move-reaches line b bs q ends (goes w s) h ih =
    let same : cond ends 0 (1 + reach q bs) ≡ 1 + reach q bs = ap (λ t. cond t 0 (1 + reach q bs)) h.1 in
    let there : reach (quotes_of s) bs ≡ reach q bs = ap (λ q. reach q bs) h.0 in
    omega (arith, same, there, ih s)

-- So a look does not
looked-reaches : (bs : List ℕ) (line : Bool) (s : Place) → looked next bs line s ≤ reach (quotes_of s) bs
looked-reaches [] line s = omega arith
looked-reaches (b ∷ bs) line s =
    let most = reach (quotes_of s) (b ∷ bs) in
    elim (b == 10) as (λ t. cond t (cond line 0 (gone_over (looked next bs true) (next s b))) (cond (line && is_white b) (suc (looked next bs true s)) (gone_over (looked next bs false) (next s b))) ≤ most) [
      | true ↦ elim line as (λ l. cond l 0 (gone_over (looked next bs true) (next s b)) ≤ most) [
        | true ↦ omega arith
        | false ↦ move-reaches true b bs (turned (quotes_of s) b) (ends_at (quotes_of s) b) (next s b) (may s b) (looked-reaches bs true)
      ]
      | false ↦ elim (line && is_white b) as (λ l. (line && is_white b) ≡ l → cond l (suc (looked next bs true s)) (gone_over (looked next bs false) (next s b)) ≤ most) [
        | true ↦ λ e. let white = and_parts line (is_white b) e in omega (arith, white-turns (quotes_of s) b bs white.1, looked-reaches bs true s)
        | false ↦ λ e. move-reaches false b bs (turned (quotes_of s) b) (ends_at (quotes_of s) b) (next s b) (may s b) (looked-reaches bs false)
      ] refl
    ]

-- a look that finds no tag takes what is ahead at its `<`
pub tag-missed : (b : ℕ) (bs : List ℕ) → is_less_than b ≡ true → tag_calls (b ∷ bs) + tags_ahead bs ≤ tags_ahead (b ∷ bs) + 2
tag-missed b bs less =
    let here : from_tags (b ∷ bs) ≡ reach outside bs + from_tags bs = ap (λ t. cond t (reach outside bs) 0 + from_tags bs) less in
    omega (arith, here, looked-reaches bs false opened)

-- further on less is ahead
pub tags-ahead-later : (b : ℕ) (bs : List ℕ) → tags_ahead bs ≤ tags_ahead (b ∷ bs)
tags-ahead-later b bs = omega arith

-- three looks go over each byte at most
thrice : (bs : List ℕ) → from_tags bs + (reach outside bs + (reach single bs + reach double bs)) ≤ 3 * length bs
thrice [] = omega arith
thrice (b ∷ bs) =
    let ih = thrice bs in
    elim (b == 60) as (λ t. (b == 60) ≡ t → cond t (reach outside bs) 0 + from_tags bs + (cond t 0 (1 + reach (turned outside b) bs) + (reach single (b ∷ bs) + reach double (b ∷ bs))) ≤ 3 * suc (length bs)) [
      | true ↦ λ e.
          let single_on : reach single (b ∷ bs) ≡ 1 + reach single bs = ap (λ t. 1 + reach (cond t outside single) bs) (unlike (λ b. b == 60) 39 refl b e) in
          let double_on : reach double (b ∷ bs) ≡ 1 + reach double bs = ap (λ t. 1 + reach (cond t outside double) bs) (unlike (λ b. b == 60) 34 refl b e) in
          omega (arith, ih, single_on, double_on)
      | false ↦ λ e. elim (b == 34) as (λ t. (b == 34) ≡ t → 0 + from_tags bs + ((1 + reach (cond t double (cond (b == 39) single outside)) bs)
          + ((1 + reach (cond (b == 39) outside single) bs) + (1 + reach (cond t outside double) bs))) ≤ 3 * suc (length bs)) [
            | true ↦ λ i.
                let single_on : reach (cond (b == 39) outside single) bs ≡ reach single bs = ap (λ t. reach (cond t outside single) bs) (unlike (λ b. b == 34) 39 refl b i) in
                omega (arith, ih, single_on)
            | false ↦ λ i. elim (b == 39) as (λ t. 0 + from_tags bs + ((1 + reach (cond t single outside) bs) + ((1 + reach (cond t outside single) bs) + (1 + reach double bs))) ≤ 3 * suc (length bs)) [
              | true ↦ omega (arith, ih)
              | false ↦ omega (arith, ih)
            ]
          ] refl
    ] refl

pub tags-ahead-within : (bs : List ℕ) → tags_ahead bs ≤ 6 * length bs
tags-ahead-within bs = omega (arith, thrice bs)
