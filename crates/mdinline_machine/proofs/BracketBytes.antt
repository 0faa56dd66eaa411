-- Brackets and ends of labels by their bytes.
use Rattle.mdinline_labels.specs.declared.definitions.Stretch.{Stretch}
use Rattle.mdinline_labels.specs.declared.resources.Resource.{Resource}
use Rattle.mdinline_labels.specs.Definitions.{end_of, stretch_at, title_at}
use Rattle.mdinline_labels.specs.Resources.{closed_at, resource_at, resource_with}
use Rattle.mdinline_labels.specs.Tails.{begins_with, destination_size, gap}
use Rattle.std.specs.Option.{is_some, option_or}
use Rattle.mdinline_full_references.specs.FullReference.{full_reference_grammar, label_length}
use Rattle.mdinline_full_references.proofs.FullReferences.Sizes.{full-reference-sizes}
use Rattle.mdinline_machine.specs.Brackets.{are_brackets, collapsed_reference, is_open_bracket, is_wanted_at, no_tail, own_is_defined, own_tail, tail_of}
use Rattle.mdinline_machine.proofs.Prelude.{◌≡◌, not, ℕ, zero, suc, ◌+◌, ◌==◌, ◌<◌, ◌≤◌, length, OfOption, resource, subst, ◌&&◌, ◌||◌, List, [], ◌∷◌, Bool, true, false, cond, Option, Some, None, refl, sym, ap, ◌∙◌, arith, and-false, nat_tests, drop, option_map, Constructs, has_byte_at, is_white, is_line_feed, is_backtick, some_first, Found, item_length, or_else, resource_grammar, marked_grammars, is_delimiter, Bracket, Memory, begins_bracket, begins_end, begins_image, begins_link, bracket_at, end_at, end_of_last, image_bracket, is_image_bracket, is_of_bracket, label_end, link_bracket, lone_end}

-- which labels are defined, and the bytes of the document
module _ (defined : List ℕ → Bool) (doc : List ℕ) where
  -- the references that are there
  abbrev pub reference_of : Memory → (behind : List ℕ) → Option Found
  reference_of m behind = (full_reference_grammar (is_wanted_at defined doc m.ahead)).front behind

  -- What holds of resources, of full references, and of the two tails by a label of one's own holds of the tail that is there
  pub tail-holds : (P : Found → Type 0) (b : Bracket) (m : Memory) (behind : List ℕ) → ((tail : Found) → resource_grammar.front behind ≡ Some tail → P tail) → ((tail : Found) → reference_of m behind ≡ Some tail → P tail)
      → (are_brackets behind ≡ true → P collapsed_reference) → P no_tail → (tail : Found) → tail_of defined doc b m behind ≡ Some tail → P tail
  tail-holds P b m behind resource full collapsed none tail is =
      let own = not (is_some (label_length behind)) && own_is_defined defined doc b m in
      let last = cond own (Some (own_tail behind)) None in
      elim (resource_grammar.front behind) as (λ o. resource_grammar.front behind ≡ o → option_or o (option_or (reference_of m behind) last) ≡ Some tail → P tail) [
        | Some t ↦ λ there e. (let same : t ≡ tail = cc in subst P same (resource t there))
        | None ↦ λ there. elim (reference_of m behind) as (λ o. reference_of m behind ≡ o → option_or o last ≡ Some tail → P tail) [
          | Some t ↦ λ found e. (let same : t ≡ tail = cc in subst P same (full t found))
          | None ↦ λ found. elim own as (λ t. cond t (Some (own_tail behind)) None ≡ Some tail → P tail) [
            | false ↦ λ e. absurd (cc)
            | true ↦ λ e.
                let same : own_tail behind ≡ tail = cc in
                subst P same (elim (are_brackets behind) as (λ t. are_brackets behind ≡ t → P (cond t collapsed_reference no_tail)) [ true ↦ λ h. collapsed h | false ↦ λ h. none ] refl)
          ]
        ] refl
      ] refl is

-- What holds of each bracket and end, and of another thing, holds of what is there
module _ (P : Found → Type 0) (on : Constructs) (defined : List ℕ → Bool) (doc : List ℕ) where
  end-holds : (b : Bracket) (m : Memory) (behind : List ℕ) → P lone_end → ((tail : Found) → tail_of defined doc b m behind ≡ Some tail → P (label_end tail)) → P (end_of_last defined doc b m behind)
  end-holds b m behind lone made = elim b.inactive as (λ t. P (cond t lone_end (or_else (option_map label_end (tail_of defined doc b m behind)) lone_end))) [
    | true ↦ lone
    | false ↦ elim (tail_of defined doc b m behind) as (λ o. tail_of defined doc b m behind ≡ o → P (or_else (option_map label_end o) lone_end)) [
      | None ↦ λ e. lone
      | Some tail ↦ λ e. made tail e
    ] refl
  ]

  some-end-holds : (bs : List Bracket) (m : Memory) (behind : List ℕ) (other : Found) → P lone_end → ((b : Bracket) (tail : Found) → tail_of defined doc b m behind ≡ Some tail → P (label_end tail)) → P other
      → P (or_else (end_at defined doc bs m behind) other)
  some-end-holds [] m behind other lone made plain = plain
  some-end-holds (b ∷ bs) m behind other lone made plain = end-holds b m behind lone (made b)

  pub bracket-holds : (m : Memory) (text : List ℕ) (other : Found) → P link_bracket → (is_image_bracket on text ≡ true → P image_bracket) → P lone_end
      → ((b : Bracket) (tail : Found) → tail_of defined doc b m (drop 1 text) ≡ Some tail → P (label_end tail)) → P other → P (or_else (bracket_at on defined doc m text) other)
  bracket-holds m text other link image lone made plain =
      let ends = cond (has_byte_at text 0 (begins_end on)) (end_at defined doc m.waiting m (drop 1 text)) None in
      elim (has_byte_at text 0 (begins_link on)) as (λ t. P (or_else (cond t (Some link_bracket) (cond (is_image_bracket on text) (Some image_bracket) ends)) other)) [
        | true ↦ link
        | false ↦ elim (is_image_bracket on text) as (λ t. is_image_bracket on text ≡ t → P (or_else (cond t (Some image_bracket) ends) other)) [
          | true ↦ λ e. image e
          | false ↦ λ e. elim (has_byte_at text 0 (begins_end on)) as (λ t. P (or_else (cond t (end_at defined doc m.waiting m (drop 1 text)) None) other)) [
            | true ↦ some-end-holds m.waiting m (drop 1 text) other lone made plain
            | false ↦ plain
          ]
        ] refl
      ]

-- each is a byte at least
pub some-bracket : (on : Constructs) (defined : List ℕ → Bool) (doc : List ℕ) (m : Memory) (text : List ℕ) (other : Found) → 0 < item_length other → 0 < item_length (or_else (bracket_at on defined doc m text) other)
some-bracket on defined doc m text other some =
    bracket-holds (λ (i : Found). 0 < item_length i) on defined doc m text other (omega arith) (λ e. omega arith) (omega arith) (λ b tail e. omega arith) some

-- ---- none is longer than what is left

begins-inside : (c n : ℕ) (xs : List ℕ) → begins_with c (drop n xs) ≡ true → n + 1 ≤ length xs
begins-inside c zero [] h = absurd (cc)
begins-inside c (suc n) [] h = absurd (cc)
begins-inside c zero (x ∷ xs) h = omega arith
begins-inside c (suc n) (x ∷ xs) h = omega (arith, begins-inside c n xs h)

abbrev FitsIn : List ℕ → Option Resource → Type 0
FitsIn text o = OfOption (λ (r : Resource). r.size ≤ length text) o

closed-within : (text : List ℕ) (destination title : Option Stretch) (close : ℕ) → FitsIn text (closed_at text destination title close)
closed-within text destination title close =
    elim (begins_with 41 (drop close text)) as (λ t. begins_with 41 (drop close text) ≡ t → FitsIn text (cond t (Some (record { destination = destination; title = title; size = close + 1 })) None)) [
      | true ↦ λ e. begins-inside 41 close text e
      | false ↦ λ e. tt
    ] refl

with-within : (text : List ℕ) (from : ℕ) (o : Option ℕ) → FitsIn text (resource_with text from o)
with-within text from None = closed-within text None None from
with-within text from (Some size) =
    let title = title_at text (from + size) in
    let at = end_of title (stretch_at from size) in
    closed-within text (Some (stretch_at from size)) title (at + gap (drop at text))

resource-within : (text : List ℕ) → FitsIn text (resource_at text)
resource-within text =
    let from = 1 + gap (drop 1 text) in
    elim (begins_with 40 text) as (λ t. FitsIn text (cond t (resource_with text from (destination_size (drop from text))) None)) [ true ↦ with-within text from (destination_size (drop from text)) | false ↦ tt ]

pub resource-fits : (text : List ℕ) (tail : Found) → resource_grammar.front text ≡ Some tail → tail.size ≤ length text
resource-fits text tail is =
    elim (resource_at text) as (λ o. FitsIn text o → option_map resource o ≡ Some tail → tail.size ≤ length text) [
      | None ↦ λ h e. absurd (cc)
      | Some r ↦ λ h e. (let same : resource r ≡ tail = cc in subst (λ (i : Found). i.size ≤ length text) same h)
    ] (resource-within text) is

-- two brackets are two bytes
pub two-brackets : (behind : List ℕ) → are_brackets behind ≡ true → 2 ≤ length behind
two-brackets [] h = absurd (cc)
two-brackets (b ∷ []) h = absurd (let no : are_brackets (b ∷ []) ≡ false = and-false (is_open_bracket b) in let c : false ≡ true = sym no ∙ h in cc)
two-brackets (b ∷ c ∷ bs) h = omega arith

-- the tail that is there
pub tail-within : (defined : List ℕ → Bool) (doc : List ℕ) (b : Bracket) (m : Memory) (text : List ℕ) (tail : Found) → tail_of defined doc b m text ≡ Some tail → tail.size ≤ length text
tail-within defined doc b m text =
    tail-holds defined doc (λ (t : Found). t.size ≤ length text) b m text (resource-fits text) (λ tail is. (full-reference-sizes (is_wanted_at defined doc m.ahead) text tail is).fits) (two-brackets text) (omega arith)

-- an image's bracket has two bytes
two-bytes : (on : Constructs) (b : ℕ) (bs : List ℕ) → is_image_bracket on (b ∷ bs) ≡ true → 2 ≤ length (b ∷ bs)
two-bytes on b [] h = absurd (let no : is_image_bracket on (b ∷ []) ≡ false = and-false (begins_image on b) in let c : false ≡ true = sym no ∙ h in cc)
two-bytes on b (c ∷ bs) h = omega arith

pub bracket-within : (on : Constructs) (defined : List ℕ → Bool) (doc : List ℕ) (m : Memory) (b : ℕ) (bs : List ℕ) (other : Found) → item_length other ≤ length (b ∷ bs) → item_length (or_else (bracket_at on defined doc m (b ∷ bs)) other) ≤ length (b ∷ bs)
bracket-within on defined doc m b bs other fits =
    let whole = length (b ∷ bs) in
    bracket-holds (λ (i : Found). item_length i ≤ whole) on defined doc m (b ∷ bs) other (omega arith) (λ e. two-bytes on b bs e) (omega arith) (λ last tail e. omega (arith, tail-within defined doc last m bs tail e)) fits

-- ---- where none is
-- a byte of none of them
none-of : (x y : Bool) → y ≡ false → (x && y) ≡ false
none-of x y h = ap (λ t. x && t) h ∙ and-false x

pub begins-none : (on : Constructs) (b : ℕ) → is_of_bracket b ≡ false → (begins_link on b ≡ false) × (begins_image on b ≡ false) × (begins_end on b ≡ false)
begins-none on b h =
    let open_is : (b == 91) ≡ false = grind (arith, nat_tests) in
    let mark_is : (b == 33) ≡ false = grind (arith, nat_tests) in
    let close_is : (b == 93) ≡ false = grind (arith, nat_tests) in
    (none-of on.label_start_link (b == 91) open_is, none-of on.label_start_image (b == 33) mark_is, none-of on.label_end (b == 93) close_is)

pub begins-no-bracket : (on : Constructs) (b : ℕ) → is_of_bracket b ≡ false → begins_bracket on b ≡ false
begins-no-bracket on b h = let (link, image, ends) = begins-none on b h in (λ i. link i || (image i || ends i))

parts : (x y z : Bool) → (x || (y || z)) ≡ false → (x ≡ false) × (y ≡ false) × (z ≡ false)
parts true y z h = absurd (cc)
parts false true z h = absurd (cc)
parts false false z h = (refl, refl, h)

-- where none begins, none is there
pub no-bracket : (on : Constructs) (defined : List ℕ → Bool) (doc : List ℕ) (m : Memory) (b : ℕ) (bs : List ℕ) (other : Found) → begins_bracket on b ≡ false → or_else (bracket_at on defined doc m (b ∷ bs)) other ≡ other
no-bracket on defined doc m b bs other h =
    let (link, image, ends) = parts (begins_link on b) (begins_image on b) (begins_end on b) h in
    λ i. or_else (cond (link i) (Some link_bracket) (cond (image i && has_byte_at (b ∷ bs) 1 (λ c. c == 91)) (Some image_bracket) (cond (ends i) (end_at defined doc m.waiting m bs) None))) other

-- white space, a line ending, a delimiter and a byte with which a construct begins are of none
pub white-no-bracket : (b : ℕ) → is_white b ≡ true → is_of_bracket b ≡ false
white-no-bracket b h = grind (arith, nat_tests)

pub line-no-bracket : (b : ℕ) → is_line_feed b ≡ true → is_of_bracket b ≡ false
line-no-bracket b h = grind (arith, nat_tests)

pub run-no-bracket : (b : ℕ) → is_delimiter b ≡ true → is_of_bracket b ≡ false
run-no-bracket b h = grind (arith, nat_tests)

pub marked-no-bracket : (b : ℕ) → some_first marked_grammars b ≡ true → is_of_bracket b ≡ false
marked-no-bracket b h = grind (arith, nat_tests)

pub tick-no-bracket : (b : ℕ) → is_backtick b ≡ true → is_of_bracket b ≡ false
tick-no-bracket b h = grind (arith, nat_tests)
