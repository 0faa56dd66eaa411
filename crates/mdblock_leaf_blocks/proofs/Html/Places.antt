-- Where HTML of kinds 1 to 5 is in a line, by its bytes so far; and that a line is behind the end exactly if it holds the end.
use Rattle.mdblock_leaf_blocks.proofs.Prelude.{Bool, List, None, Option, Some, [], ap, cond, false, refl, sym, true, ℕ, ◌&&◌, ◌==◌, ◌||◌, ◌∙◌, ◌∷◌, ◌≡◌, eqb-true, is_ascii_alphabetic, html_raw_names, FlowByte, flow_byte, is_closing, is_dash, is_greater, is_less, is_question, is_slash, less, name_byte, is_number_in, no_name, one_byte_more, holds, starts_with, eq-flip}
use Rattle.mdblock_leaf_blocks.proofs.Looks.ByteClasses.{dash-is, greater-is, question-is, closing-is}

-- in the line; behind a dash or a bracket; where only a greater-than sign is missing; behind a less-than sign; in the name of a closing tag,
-- of this number; or behind the end
pub data Place : Type 0 where
  inside : Place
  dashed : Place
  bracketed : Place
  marked : Place
  opened : Place
  named : ℕ → Place
  closed : Place

abbrev pub is_closed : Place → Bool
is_closed closed = true
is_closed _ = false

-- the number of such a name with one byte more
abbrev pub raw_more : ℕ → ℕ → ℕ
raw_more n byte = cond (is_ascii_alphabetic byte) (one_byte_more n byte) no_name

-- behind one byte more, by its class
module _ (kind : ℕ) where
  abbrev pub from_inside : FlowByte → Place
  from_inside c =
      cond (is_less c) (cond (kind == 1) opened inside)
      (cond (is_dash c) (cond (kind == 2) dashed inside)
      (cond (is_question c) (cond (kind == 3) marked inside)
      (cond (is_greater c) (cond (kind == 4) closed inside)
      (cond (is_closing c) (cond (kind == 5) bracketed inside) inside))))

  abbrev pub from_mark : FlowByte → Place
  from_mark c =
      cond (is_greater c) closed
      (cond (is_dash c) (cond (kind == 2) marked (from_inside c))
      (cond (is_question c) (cond (kind == 3) marked (from_inside c))
      (cond (is_closing c) (cond (kind == 5) marked (from_inside c)) (from_inside c))))

  abbrev pub from_name : ℕ → FlowByte → Option ℕ → Place
  from_name n c (Some byte) = named (raw_more n byte)
  from_name n c None = cond (is_greater c) (cond (is_number_in html_raw_names n) closed (from_inside c)) (from_inside c)

  abbrev pub moved : Place → FlowByte → Place
  moved inside c = from_inside c
  moved dashed c = cond (is_dash c) marked (from_inside c)
  moved bracketed c = cond (is_closing c) marked (from_inside c)
  moved marked c = from_mark c
  moved opened c = cond (is_slash c) (named 0) (from_inside c)
  moved (named n) c = from_name n c (name_byte c)
  moved closed c = closed

  abbrev pub through : Place → List ℕ → Place
  through p [] = p
  through p (b ∷ bs) = through (moved p (flow_byte b)) bs

  pub stays-closed : (bs : List ℕ) → through closed bs ≡ closed
  stays-closed [] = refl
  stays-closed (b ∷ bs) = stays-closed bs

-- each kind has few of these moves
dash-moves : (c : FlowByte) → (moved 2 inside c ≡ cond (is_dash c) dashed inside) × (moved 2 dashed c ≡ cond (is_dash c) marked inside) × (moved 2 marked c ≡ cond (is_greater c) closed (cond (is_dash c) marked inside))
dash-moves less = (refl, refl, refl)
dash-moves c = (refl, refl, refl)

question-moves : (c : FlowByte) → (moved 3 inside c ≡ cond (is_question c) marked inside) × (moved 3 marked c ≡ cond (is_greater c) closed (cond (is_question c) marked inside))
question-moves less = (refl, refl)
question-moves c = (refl, refl)

greater-inside : (c : FlowByte) → moved 4 inside c ≡ cond (is_greater c) closed inside
greater-inside less = refl
greater-inside c = refl

bracket-moves : (c : FlowByte) → (moved 5 inside c ≡ cond (is_closing c) bracketed inside) × (moved 5 bracketed c ≡ cond (is_closing c) marked inside)
    × (moved 5 marked c ≡ cond (is_greater c) closed (cond (is_closing c) marked inside))
bracket-moves less = (refl, refl, refl)
bracket-moves c = (refl, refl, refl)

-- Two of a mark and a greater-than sign end comments and CDATA
module _ (kind m : ℕ) (is_mark : FlowByte → Bool) (mark-is : (b : ℕ) → is_mark (flow_byte b) ≡ (b == m)) (begun : Place)
    (moves : (c : FlowByte) → (moved kind inside c ≡ cond (is_mark c) begun inside) × (moved kind begun c ≡ cond (is_mark c) marked inside) × (moved kind marked c ≡ cond (is_greater c) closed (cond (is_mark c) marked inside))) where
  abbrev ends : List ℕ → Bool
  ends = holds (m ∷ m ∷ 62 ∷ [])

  abbrev to : List ℕ → Place → Bool
  to bs p = is_closed (through kind p bs)

  abbrev behind_one : ℕ → List ℕ → Bool → Bool
  behind_one b bs t = (t && starts_with (62 ∷ []) bs) || ((t && starts_with (m ∷ 62 ∷ []) bs) || ends bs)

  marks-end : (is_closed begun ≡ ends (m ∷ [])) × (false ≡ ends (m ∷ m ∷ [])) × ((bs : List ℕ) → ends (m ∷ m ∷ bs) ≡ ends (m ∷ m ∷ m ∷ bs)) → ((b : ℕ) (bs : List ℕ) → ends (m ∷ b ∷ bs) ≡ behind_one b bs (m == b))
      → ((b : ℕ) (bs : List ℕ) → ends (m ∷ m ∷ b ∷ bs) ≡ ((62 == b) && true) || behind_one b bs (m == b))
      → (bs : List ℕ) → (to bs inside ≡ ends bs) × (to bs begun ≡ ends (m ∷ bs)) × (to bs marked ≡ ends (m ∷ m ∷ bs))
  marks-end none one two [] = (refl, none.0, none.1)
  marks-end none one two (b ∷ bs) =
      let (within, once, twice) = marks-end none one two bs in
      let move = moves (flow_byte b) in
      let class = mark-is b in (
        ap (to bs) (move.0 ∙ ap (λ t. cond t begun inside) class) ∙ elim (b == m) as (λ t. (b == m) ≡ t → to bs (cond t begun inside) ≡ ends (b ∷ bs)) [
          | true ↦ λ e. once ∙ sym (ap (λ n. ends (n ∷ bs)) (eqb-true b m e))
          | false ↦ λ e. within ∙ sym (ap (λ t. (t && starts_with (m ∷ 62 ∷ []) bs) || ends bs) (eq-flip m b ∙ e))
        ] refl,
        ap (to bs) (move.1 ∙ ap (λ t. cond t marked inside) class) ∙ elim (b == m) as (λ t. (b == m) ≡ t → to bs (cond t marked inside) ≡ ends (m ∷ b ∷ bs)) [
          | true ↦ λ e. twice ∙ sym (ap (λ n. ends (m ∷ n ∷ bs)) (eqb-true b m e))
          | false ↦ λ e. within ∙ sym (one b bs ∙ ap (behind_one b bs) (eq-flip m b ∙ e))
        ] refl,
        ap (to bs) (move.2 ∙ ap (λ t. cond t closed (cond (is_mark (flow_byte b)) marked inside)) (greater-is b) ∙ ap (λ t. cond (b == 62) closed (cond t marked inside)) class)
            ∙ elim (b == 62) as (λ t. (b == 62) ≡ t → to bs (cond t closed (cond (b == m) marked inside)) ≡ ends (m ∷ m ∷ b ∷ bs)) [
              | true ↦ λ e. ap is_closed (stays-closed kind bs) ∙ sym (two 62 bs) ∙ sym (ap (λ n. ends (m ∷ m ∷ n ∷ bs)) (eqb-true b 62 e))
              | false ↦ λ g. elim (b == m) as (λ t. (b == m) ≡ t → to bs (cond t marked inside) ≡ ends (m ∷ m ∷ b ∷ bs)) [
                | true ↦ λ e. twice ∙ none.2 bs ∙ sym (ap (λ n. ends (m ∷ m ∷ n ∷ bs)) (eqb-true b m e))
                | false ↦ λ e. within ∙ sym (two b bs ∙ ap (λ t. (t && true) || behind_one b bs (m == b)) (eq-flip 62 b ∙ g) ∙ ap (behind_one b bs) (eq-flip m b ∙ e))
              ] refl
            ] refl,
      )

pub dash-ends : (bs : List ℕ) → is_closed (through 2 inside bs) ≡ holds (45 ∷ 45 ∷ 62 ∷ []) bs
dash-ends bs = (marks-end 2 45 is_dash dash-is dashed dash-moves (refl, refl, λ bs. refl) (λ b bs. refl) (λ b bs. refl) bs).0

pub bracket-ends : (bs : List ℕ) → is_closed (through 5 inside bs) ≡ holds (93 ∷ 93 ∷ 62 ∷ []) bs
bracket-ends bs = (marks-end 5 93 is_closing closing-is bracketed bracket-moves (refl, refl, λ bs. refl) (λ b bs. refl) (λ b bs. refl) bs).0

-- Instructions
pub question-ends : (bs : List ℕ) → (is_closed (through 3 inside bs) ≡ holds (63 ∷ 62 ∷ []) bs) × (is_closed (through 3 marked bs) ≡ holds (63 ∷ 62 ∷ []) (63 ∷ bs))
question-ends [] = (refl, refl)
question-ends (b ∷ bs) =
    let (within, once) = question-ends bs in
    let move = question-moves (flow_byte b) in
    let ends = holds (63 ∷ 62 ∷ []) in
    let to = λ (p : Place). is_closed (through 3 p bs) in
    let class : is_question (flow_byte b) ≡ (b == 63) = question-is b in (
      ap to (move.0 ∙ ap (λ t. cond t marked inside) class) ∙ elim (b == 63) as (λ t. (b == 63) ≡ t → to (cond t marked inside) ≡ ends (b ∷ bs)) [
        | true ↦ λ e. once ∙ sym (ap (λ n. ends (n ∷ bs)) (eqb-true b 63 e))
        | false ↦ λ e. within ∙ sym (ap (λ t. (t && starts_with (62 ∷ []) bs) || ends bs) (eq-flip 63 b ∙ e))
      ] refl,
      ap to (move.1 ∙ ap (λ t. cond t closed (cond (is_question (flow_byte b)) marked inside)) (greater-is b) ∙ ap (λ t. cond (b == 62) closed (cond t marked inside)) class)
          ∙ elim (b == 62) as (λ t. (b == 62) ≡ t → to (cond t closed (cond (b == 63) marked inside)) ≡ ends (63 ∷ b ∷ bs)) [
            | true ↦ λ e. ap is_closed (stays-closed 3 bs) ∙ sym (ap (λ n. ends (63 ∷ n ∷ bs)) (eqb-true b 62 e))
            | false ↦ λ g. elim (b == 63) as (λ t. (b == 63) ≡ t → to (cond t marked inside) ≡ ends (63 ∷ b ∷ bs)) [
              | true ↦ λ e. once ∙ sym (ap (λ n. ends (63 ∷ n ∷ bs)) (eqb-true b 63 e))
              | false ↦ λ e. within ∙ sym (ap (λ t. (t && true) || (((63 == b) && starts_with (62 ∷ []) bs) || ends bs)) (eq-flip 62 b ∙ g) ∙ ap (λ t. (t && starts_with (62 ∷ []) bs) || ends bs) (eq-flip 63 b ∙ e))
            ] refl
          ] refl,
    )

-- Declarations
pub greater-ends : (bs : List ℕ) → is_closed (through 4 inside bs) ≡ holds (62 ∷ []) bs
greater-ends [] = refl
greater-ends (b ∷ bs) =
    let to = λ (p : Place). is_closed (through 4 p bs) in
    ap to (greater-inside (flow_byte b) ∙ ap (λ t. cond t closed inside) (greater-is b)) ∙ elim (b == 62) as (λ t. (b == 62) ≡ t → to (cond t closed inside) ≡ holds (62 ∷ []) (b ∷ bs)) [
      | true ↦ λ e. ap is_closed (stays-closed 4 bs) ∙ sym (ap (λ n. holds (62 ∷ []) (n ∷ bs)) (eqb-true b 62 e))
      | false ↦ λ e. greater-ends bs ∙ sym (ap (λ t. (t && true) || holds (62 ∷ []) bs) (eq-flip 62 b ∙ e))
    ] refl
