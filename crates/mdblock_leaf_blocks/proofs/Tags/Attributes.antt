-- What comes behind the name of an opening tag, byte by byte: the definition of attributes says the same.
use Rattle.markdown_base.proofs.Facts.Lists.{Fits, drop-fits, fits-more, either-fits}
use Rattle.mdblock_leaf_blocks.proofs.Prelude.{Bool, List, None, Option, Some, [], ap, arith, cond, drop, false, le_trans, length, not, one-add, refl, suc, sym, true, zero, ℕ, ◌&&◌, ◌+◌, ◌<◌, ◌==◌, ◌||◌, ◌∙◌, ◌∷◌, ◌≡◌, ◌≤◌, eqb-true, prefix_len, begins_attribute, behind_attribute, behind_quote, behind_value, ends_open_tag, ends_tag, first_passes, goes_on_attribute, is_bare, is_white, cond-same, unlike}
use Rattle.mdblock_leaf_blocks.proofs.Looks.ByteClasses.{no_bare, no_value, begins-goes-on}
use Rattle.mdblock_leaf_blocks.specs.HtmlLines.{is_blank_line, unindented}

-- Where the look is: behind a tag; behind its slash; behind the name of a closing tag; before an attribute, in its name, behind it; before a
-- value, in a quoted one, behind that; in a value without quotes
pub data Place : Type 0 where
  after : Place
  slashed : Place
  closing : Place
  before : Place
  name : Place
  named : Place
  value : Place
  quoted : (quote : ℕ) → Place
  behind : Place
  bare : Place

-- from such a place on these bytes are the rest of a complete tag
abbrev pub goes : List ℕ → Place → Bool
goes [] after = true
goes [] place = false
goes (b ∷ bs) after = cond (is_white b) (goes bs after) false
goes (b ∷ bs) slashed = cond (b == 62) (goes bs after) false
goes (b ∷ bs) closing = cond (is_white b) (goes bs closing) (cond (b == 62) (goes bs after) false)
goes (b ∷ bs) before =
    cond (is_white b) (goes bs before) (cond (begins_attribute b) (goes bs name) (cond (b == 47) (goes bs slashed) (cond (b == 62) (goes bs after) false)))
goes (b ∷ bs) name =
    cond (goes_on_attribute b) (goes bs name)
    (cond (is_white b) (goes bs named) (cond (b == 61) (goes bs value) (cond (b == 47) (goes bs slashed) (cond (b == 62) (goes bs after) false))))
goes (b ∷ bs) named =
    cond (is_white b) (goes bs named)
    (cond (b == 61) (goes bs value) (cond (begins_attribute b) (goes bs name) (cond (b == 47) (goes bs slashed) (cond (b == 62) (goes bs after) false))))
goes (b ∷ bs) value = cond (is_white b) (goes bs value) (cond (b == 34) (goes bs (quoted 34)) (cond (b == 39) (goes bs (quoted 39)) (cond (no_value b) false (goes bs bare))))
goes (b ∷ bs) (quoted m) = cond ((b == 34) || (b == 39)) (cond (b == m) (goes bs behind) (goes bs (quoted m))) (goes bs (quoted m))
goes (b ∷ bs) behind = cond (is_white b) (goes bs before) (cond (b == 47) (goes bs slashed) (cond (b == 62) (goes bs after) false))
goes (b ∷ bs) bare = cond (is_white b) (goes bs before) (cond (b == 62) (goes bs after) (cond (no_bare b) false (goes bs bare)))

and-cond : (t a b : Bool) → a ≡ b → cond t a false ≡ (t && b)
and-cond true a b h = h
and-cond false a b h = refl

-- what is behind a run of bytes
pub drop-run : (p : ℕ → Bool) (b : ℕ) (bs : List ℕ) → drop (prefix_len p (b ∷ bs)) (b ∷ bs) ≡ cond (p b) (drop (prefix_len p bs) bs) (b ∷ bs)
drop-run p b bs = elim (p b) as (λ t. drop (cond t (1 + prefix_len p bs) 0) (b ∷ bs) ≡ cond t (drop (prefix_len p bs) bs) (b ∷ bs)) [
  | true ↦ ap (λ n. drop n (b ∷ bs)) (one-add (prefix_len p bs))
  | false ↦ refl
]

first-not : (p : ℕ → Bool) (t : List ℕ) → first_passes p (drop (prefix_len p t) t) ≡ false
first-not p [] = refl
first-not p (b ∷ bs) =
    ap (first_passes p) (drop-run p b bs)
    ∙ elim (p b) as (λ t. p b ≡ t → first_passes p (cond t (drop (prefix_len p bs) bs) (b ∷ bs)) ≡ false) [
      | true ↦ λ e. first-not p bs
      | false ↦ λ e. e
    ] refl

run-skipped : (p : ℕ → Bool) (place : Place) → ((b : ℕ) (bs : List ℕ) → p b ≡ true → goes (b ∷ bs) place ≡ goes bs place)
    → (t : List ℕ) → goes t place ≡ goes (drop (prefix_len p t) t) place
run-skipped p place h [] = refl
run-skipped p place h (b ∷ bs) =
    elim (p b) as (λ t. p b ≡ t → goes (b ∷ bs) place ≡ goes (cond t (drop (prefix_len p bs) bs) (b ∷ bs)) place) [
      | true ↦ λ e. h b bs e ∙ run-skipped p place h bs
      | false ↦ λ e. refl
    ] refl
    ∙ sym (ap (λ l. goes l place) (drop-run p b bs))

-- the end of a tag
pub after-is : (t : List ℕ) → goes t after ≡ is_blank_line t
after-is [] = refl
after-is (b ∷ bs) = and-cond (is_white b) (goes bs after) (is_blank_line bs) (after-is bs)

pub slashed-is : (t : List ℕ) → goes t slashed ≡ ends_tag t
slashed-is [] = refl
slashed-is (b ∷ bs) = and-cond (b == 62) (goes bs after) (is_blank_line bs) (after-is bs)

pub closing-is : (t : List ℕ) → goes t closing ≡ ends_tag (unindented t)
closing-is [] = refl
closing-is (b ∷ bs) =
    elim (is_white b) as (λ w. cond w (goes bs closing) (cond (b == 62) (goes bs after) false) ≡ ends_tag (cond w (unindented bs) (b ∷ bs))) [
      | true ↦ closing-is bs
      | false ↦ slashed-is (b ∷ bs)
    ]
    ∙ sym (ap ends_tag (drop-run is_white b bs))

-- what is behind, if there is something
abbrev then_on : Option (List ℕ) → Bool
then_on None = false
then_on (Some rest) = goes rest behind

quoted-is : (m : ℕ) → ((m == 34) || (m == 39)) ≡ true → (t : List ℕ) → goes t (quoted m) ≡ then_on (behind_quote m t)
quoted-is m is [] = refl
quoted-is m is (b ∷ bs) = elim (b == m) as (λ t. (b == m) ≡ t → cond ((b == 34) || (b == 39)) (cond t (goes bs behind) (goes bs (quoted m))) (goes bs (quoted m)) ≡ then_on (cond t (Some bs) (behind_quote m bs))) [
  | true ↦ λ e. ap (λ t. cond t (goes bs behind) (goes bs (quoted m))) (ap (λ n. (n == 34) || (n == 39)) (eqb-true b m e) ∙ is)
  | false ↦ λ e. cond-same ((b == 34) || (b == 39)) (goes bs (quoted m)) ∙ quoted-is m is bs
] refl

-- bytes of values without quotes, by tests of theirs: white space, two quotation marks, an equals sign, less-than, greater-than, a grave accent
bare-on : (w d s e l g t : Bool) (x y z : Bool) → not (w || (d || (s || (e || (l || (g || t)))))) ≡ true → cond w x (cond g y (cond (l || (e || (t || (d || s)))) false z)) ≡ z
bare-on false false false false false false false x y z h = refl
bare-on w d s e l g t x y z h = absurd (cc)

bare-ends : (w g l e t d s slash : Bool) (x y z v : Bool) → not (w || (d || (s || (e || (l || (g || t)))))) ≡ false → slash ≡ false
    → cond w x (cond g y (cond (l || (e || (t || (d || s)))) false z)) ≡ cond w x (cond slash v (cond g y false))
bare-ends w g l e t d s true x y z v h k = absurd (cc)
bare-ends false false false false false false false false x y z v h k = absurd (cc)
bare-ends w g l e t d s slash x y z v h k = refl

begins-bare : (w d s e l g t : Bool) (z : Bool) → w ≡ false → d ≡ false → s ≡ false → cond (l || (e || (g || t))) false z ≡ cond (not (w || (d || (s || (e || (l || (g || t))))))) z false
begins-bare true d s e l g t z h i j = absurd (cc)
begins-bare false true s e l g t z h i j = absurd (cc)
begins-bare false false true e l g t z h i j = absurd (cc)
begins-bare false false false true true g t z h i j = refl
begins-bare false false false false false false false z h i j = refl
begins-bare w d s e l g t z h i j = refl

no-slash : (b : ℕ) → is_bare b ≡ false → (b == 47) ≡ false
no-slash b off = elim (b == 47) as (λ t. (b == 47) ≡ t → t ≡ false) [
  | true ↦ λ e. sym (ap is_bare (eqb-true b 47 e)) ∙ off
  | false ↦ λ e. refl
] refl

bare-goes-on : (b : ℕ) (bs : List ℕ) → is_bare b ≡ true → goes (b ∷ bs) bare ≡ goes bs bare
bare-goes-on b bs e = bare-on (is_white b) (b == 34) (b == 39) (b == 61) (b == 60) (b == 62) (b == 96) (goes bs before) (goes bs after) (goes bs bare) e

bare-is : (t : List ℕ) → goes t bare ≡ goes (drop (prefix_len is_bare t) t) behind
bare-is [] = refl
bare-is (b ∷ bs) =
    elim (is_bare b) as (λ t. is_bare b ≡ t → goes (b ∷ bs) bare ≡ goes (cond t (drop (prefix_len is_bare bs) bs) (b ∷ bs)) behind) [
      | true ↦ λ e. bare-goes-on b bs e ∙ bare-is bs
      | false ↦ λ e. bare-ends (is_white b) (b == 62) (b == 60) (b == 61) (b == 96) (b == 34) (b == 39) (b == 47) (goes bs before) (goes bs after) (goes bs bare) (goes bs slashed) e (no-slash b e)
    ] refl
    ∙ sym (ap (λ l. goes l behind) (drop-run is_bare b bs))

-- a value
value-begins : (b : ℕ) (bs : List ℕ) → is_white b ≡ false → (b == 34) ≡ false → (b == 39) ≡ false
    → cond (no_value b) false (goes bs bare) ≡ then_on (cond (is_bare b) (Some (drop (prefix_len is_bare (b ∷ bs)) (b ∷ bs))) None)
value-begins b bs w d s =
    begins-bare (is_white b) (b == 34) (b == 39) (b == 61) (b == 60) (b == 62) (b == 96) (goes bs bare) w d s
    ∙ elim (is_bare b) as (λ t. is_bare b ≡ t → cond t (goes bs bare) false ≡ then_on (cond t (Some (drop (prefix_len is_bare (b ∷ bs)) (b ∷ bs))) None)) [
      | true ↦ λ e. sym (bare-goes-on b bs e) ∙ bare-is (b ∷ bs)
      | false ↦ λ e. refl
    ] refl

value-at : (t : List ℕ) → first_passes is_white t ≡ false → goes t value ≡ then_on (behind_value t)
value-at [] h = refl
value-at (b ∷ bs) h =
    ap (λ w. cond w (goes bs value) (cond (b == 34) (goes bs (quoted 34)) (cond (b == 39) (goes bs (quoted 39)) (cond (no_value b) false (goes bs bare))))) h
    ∙ elim (b == 34) as (λ d. (b == 34) ≡ d → cond d (goes bs (quoted 34)) (cond (b == 39) (goes bs (quoted 39)) (cond (no_value b) false (goes bs bare)))
    ≡ then_on (cond d (behind_quote 34 bs) (cond (b == 39) (behind_quote 39 bs) (cond (is_bare b) (Some (drop (prefix_len is_bare (b ∷ bs)) (b ∷ bs))) None)))) [
      | true ↦ λ d. quoted-is 34 refl bs
      | false ↦ λ d. elim (b == 39) as (λ s. (b == 39) ≡ s → cond s (goes bs (quoted 39)) (cond (no_value b) false (goes bs bare))
          ≡ then_on (cond s (behind_quote 39 bs) (cond (is_bare b) (Some (drop (prefix_len is_bare (b ∷ bs)) (b ∷ bs))) None))) [
            | true ↦ λ s. quoted-is 39 refl bs
            | false ↦ λ s. value-begins b bs h d s
          ] refl
    ] refl

value-is : (t : List ℕ) → goes t value ≡ then_on (behind_value (unindented t))
value-is t = run-skipped is_white value (λ b bs e. rw e refl) t ∙ value-at (unindented t) (first-not is_white t)

-- an attribute's name, and what is behind it
abbrev is_equals_sign : ℕ → Bool
is_equals_sign b = b == 61

abbrev with_value : (more : List ℕ) → (without : Bool) → Bool
with_value more without = cond (first_passes is_equals_sign more) (goes (drop 1 more) value) without

named-is : (t : List ℕ) → goes t named ≡ with_value (unindented t) (goes t before)
named-is [] = refl
named-is (b ∷ bs) =
    elim (is_white b) as (λ w. is_white b ≡ w → goes (b ∷ bs) named ≡ with_value (cond w (unindented bs) (b ∷ bs)) (goes (b ∷ bs) before)) [
      | true ↦ λ e. rw e (named-is bs)
      | false ↦ λ e. rw e refl
    ] refl
    ∙ sym (ap (λ l. with_value l (goes (b ∷ bs) before)) (drop-run is_white b bs))

name-ends : (t : List ℕ) → first_passes goes_on_attribute t ≡ false → goes t name ≡ with_value (unindented t) (goes t behind)
name-ends [] h = refl
name-ends (b ∷ bs) h =
    ap (λ go. cond go (goes bs name) (cond (is_white b) (goes bs named) (cond (b == 61) (goes bs value) (cond (b == 47) (goes bs slashed) (cond (b == 62) (goes bs after) false))))) h
    ∙ elim (is_white b) as (λ w. cond w (goes bs named) (cond (b == 61) (goes bs value) (cond (b == 47) (goes bs slashed) (cond (b == 62) (goes bs after) false)))
    ≡ with_value (cond w (unindented bs) (b ∷ bs)) (cond w (goes bs before) (cond (b == 47) (goes bs slashed) (cond (b == 62) (goes bs after) false)))) [
      | true ↦ named-is bs
      | false ↦ refl
    ]
    ∙ sym (ap (λ l. with_value l (goes (b ∷ bs) behind)) (drop-run is_white b bs))

name-goes-on : (b : ℕ) (bs : List ℕ) → goes_on_attribute b ≡ true → goes (b ∷ bs) name ≡ goes bs name
name-goes-on b bs e = rw e refl

-- what is behind an attribute, by whether its first byte begins one
abbrev behind_name : Bool → List ℕ → Option (List ℕ)
behind_name begins t =
    let rest = drop (prefix_len goes_on_attribute t) t in
    let more = unindented rest in
    cond begins (cond (first_passes is_equals_sign more) (behind_value (unindented (drop 1 more))) (Some rest)) None

attribute-is : (b : ℕ) (bs : List ℕ) → begins_attribute b ≡ true → goes bs name ≡ then_on (behind_attribute (b ∷ bs))
attribute-is b bs e =
    let all = b ∷ bs in
    let rest = drop (prefix_len goes_on_attribute all) all in
    let more = unindented rest in
    sym (name-goes-on b bs (begins-goes-on b e))
    ∙ run-skipped goes_on_attribute name name-goes-on all
    ∙ name-ends rest (first-not goes_on_attribute all)
    ∙ elim (first_passes is_equals_sign more) as (λ t. cond t (goes (drop 1 more) value) (goes rest behind) ≡ then_on (cond t (behind_value (unindented (drop 1 more))) (Some rest))) [
      | true ↦ value-is (drop 1 more)
      | false ↦ refl
    ]
    ∙ sym (ap (λ t. then_on (behind_name t all)) e)

no-attribute : (b : ℕ) (bs : List ℕ) → begins_attribute b ≡ false → then_on (behind_attribute (b ∷ bs)) ≡ false
no-attribute b bs e = ap (λ t. then_on (behind_name t (b ∷ bs))) e

-- before an attribute, or before the end of the tag
abbrev at_slash : List ℕ → Bool
at_slash t = first_passes (λ b. b == 47) t

abbrev at_greater : List ℕ → Bool
at_greater t = first_passes (λ b. b == 62) t

before-at : (t : List ℕ) → first_passes is_white t ≡ false
    → goes t before ≡ cond (at_slash t) (ends_tag (drop 1 t)) (cond (at_greater t) (ends_tag t) (then_on (behind_attribute t)))
before-at [] h = refl
before-at (b ∷ bs) h =
    ap (λ w. cond w (goes bs before) (cond (begins_attribute b) (goes bs name) (cond (b == 47) (goes bs slashed) (cond (b == 62) (goes bs after) false)))) h
    ∙ elim (begins_attribute b) as (λ t. begins_attribute b ≡ t → cond t (goes bs name) (cond (b == 47) (goes bs slashed) (cond (b == 62) (goes bs after) false))
    ≡ cond (b == 47) (ends_tag bs) (cond (b == 62) (ends_tag (b ∷ bs)) (then_on (behind_attribute (b ∷ bs))))) [
      | true ↦ λ e. rw (unlike begins_attribute 47 refl b e, unlike begins_attribute 62 refl b e) (attribute-is b bs e)
      | false ↦ λ e.
          ap (λ r. cond (b == 47) r (cond (b == 62) (goes bs after) false)) (slashed-is bs)
          ∙ ap (λ r. cond (b == 47) (ends_tag bs) r) (elim (b == 62) as (λ t. cond t (goes bs after) false ≡ cond t (t && is_blank_line bs) (then_on (behind_attribute (b ∷ bs)))) [
            | true ↦ after-is bs
            | false ↦ sym (no-attribute b bs e)
          ])
    ] refl

before-is : (t : List ℕ) → let more = unindented t in goes t before ≡ cond (at_slash more) (ends_tag (drop 1 more)) (cond (at_greater more) (ends_tag more) (then_on (behind_attribute more)))
before-is t = run-skipped is_white before (λ b bs e. rw e refl) t ∙ before-at (unindented t) (first-not is_white t)

quote-fits : (m : ℕ) (t : List ℕ) → Fits (length t) (behind_quote m t)
quote-fits m [] = tt
quote-fits m (b ∷ bs) = either-fits (b == m) (suc (length bs)) (Some bs) (behind_quote m bs) (omega arith) (fits-more (behind_quote m bs) (length bs) (suc (length bs)) (omega arith) (quote-fits m bs))

value-fits : (t : List ℕ) → Fits (length t) (behind_value t)
value-fits t =
    let fewer = drop-fits 1 t in
    let rest = drop 1 t in
    let bare_part = cond (first_passes is_bare t) (Some (drop (prefix_len is_bare t) t)) None in
    let single_part = cond (first_passes (λ b. b == 39) t) (behind_quote 39 rest) bare_part in
    either-fits (first_passes (λ b. b == 34) t) (length t) (behind_quote 34 rest) single_part (fits-more (behind_quote 34 rest) (length rest) (length t) fewer (quote-fits 34 rest))
    (either-fits (first_passes (λ b. b == 39) t) (length t) (behind_quote 39 rest) bare_part (fits-more (behind_quote 39 rest) (length rest) (length t) fewer (quote-fits 39 rest))
    (either-fits (first_passes is_bare t) (length t) (Some (drop (prefix_len is_bare t) t)) None (drop-fits (prefix_len is_bare t) t) tt))

attribute-fits : (t : List ℕ) → Fits (length t) (behind_attribute t)
attribute-fits t =
    let rest = drop (prefix_len goes_on_attribute t) t in
    let more = unindented rest in
    let at = unindented (drop 1 more) in
    let shorter : length at ≤ length t = le_trans (drop-fits (prefix_len is_white (drop 1 more)) (drop 1 more)) (le_trans (drop-fits 1 more) (le_trans (drop-fits (prefix_len is_white rest) rest) (drop-fits (prefix_len goes_on_attribute t) t))) in
    let with = cond (first_passes is_equals_sign more) (behind_value at) (Some rest) in
    either-fits (first_passes begins_attribute t) (length t) with None
    (either-fits (first_passes is_equals_sign more) (length t) (behind_value at) (Some rest) (fits-more (behind_value at) (length at) (length t) shorter (value-fits at)) (drop-fits (prefix_len goes_on_attribute t) t)) tt

-- what is behind the name of an opening tag
abbrev open_on : ℕ → Option (List ℕ) → Bool
open_on n None = false
open_on n (Some rest) = ends_open_tag n rest

pub open-is : (n : ℕ) (t : List ℕ) → length t < n → ends_open_tag n t ≡ goes t behind
open-is zero t low = absurd (omega arith)
open-is (suc n) [] low = refl
open-is (suc n) (b ∷ bs) low =
    let more = unindented bs in
    let on : open_on n (behind_attribute more) ≡ then_on (behind_attribute more) =
    elim (behind_attribute more) as (λ o. Fits (length bs) o → open_on n o ≡ then_on o) [
      | None ↦ λ fits. refl
      | Some rest ↦ λ fits. open-is n rest (omega (arith, fits, low))
    ] (fits-more (behind_attribute more) (length more) (length bs) (drop-fits (prefix_len is_white bs) bs) (attribute-fits more)) in
    let at = λ (l : List ℕ) (w : Bool). cond (at_slash l) (ends_tag (drop 1 l)) (cond (at_greater l) (ends_tag l) (cond w (open_on n (behind_attribute l)) false)) in
    let start : ends_open_tag (suc n) (b ∷ bs) ≡ at (unindented (b ∷ bs)) (is_white b) = refl in
    start ∙ ap (λ l. at l (is_white b)) (drop-run is_white b bs)
    ∙ elim (is_white b) as (λ w. at (cond w more (b ∷ bs)) w ≡ cond w (goes bs before) (cond (b == 47) (goes bs slashed) (cond (b == 62) (goes bs after) false))) [
      | true ↦ ap (λ r. cond (at_slash more) (ends_tag (drop 1 more)) (cond (at_greater more) (ends_tag more) r)) on ∙ sym (before-is bs)
      | false ↦
          ap (λ r. cond (b == 47) r (cond (b == 62) (ends_tag (b ∷ bs)) false)) (sym (slashed-is bs))
          ∙ ap (λ r. cond (b == 47) (goes bs slashed) r) (elim (b == 62) as (λ t. cond t (t && is_blank_line bs) false ≡ cond t (goes bs after) false) [
            | true ↦ sym (after-is bs)
            | false ↦ refl
          ])
    ]
