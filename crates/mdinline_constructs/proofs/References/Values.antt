-- What is read of the value of a character reference, byte by byte, is a value where one is there.
use Rattle.mdinline_constructs.proofs.Prelude.{◌≡◌, ℕ, zero, suc, ◌+◌, ◌<◌, ◌≤◌, ◌++◌, ◌==◌, ◌&&◌, List, [], ◌∷◌, Bool, true, false, cond, nat_le, nat_lt, length, take, drop, refl, sym, ap, ◌∙◌, arith, inl, inr, length-append, and_parts, cases_lt, eqb-true, le-leb, le-ltb, lt-leb, lt-ltb, ltb-true, length-take-le, length-drop, take-append-drop, take-take, prefix_len-le-length, drop-next, is_ascii_alphanumeric, is_ascii_digit, is_ascii_hexdigit, prefix_len, is_some, option_map, unwrap_or, Option, Some, None, name_from, begins-so, found-so, no_characters, all_are_short, has_byte_at, Kind, named, decimal, hexadecimal, is_semicolon, value_at, reference, is_value, going_on, may_go_on, is_whole, name_behind}
use Rattle.std.proofs.Math.Bool.{and-false, and-true}
use Rattle.std.proofs.lemmas.Bool.{false_from_ne_true}
use Rattle.std.proofs.lemmas.List.{take_all}
use Rattle.mdinline_characters.specs.References.{characters_of}
use Rattle.mdinline_characters.specs.CharacterReferences.{character_references}

-- Of these bytes, behind n that were read, the value is read: how many bytes it has, if there is one with `;` behind it
abbrev pub walk : (marker : ℕ) (name : List ℕ) (n : ℕ) → List ℕ → Option ℕ
walk marker name n [] = None
walk marker name n (b ∷ bs) =
    cond (is_semicolon b) (cond (is_whole marker name n) (Some n) None) (cond (may_go_on marker name n b) (walk marker (name_behind marker name n (Some b)) (n + 1) bs) None)

-- the marker of a kind
abbrev pub marker_of : Kind → ℕ
marker_of named = 38
marker_of decimal = 35
marker_of hexadecimal = 120

-- a semicolon is in no value
apart : (p : ℕ → Bool) → p 59 ≡ false → (b : ℕ) → is_semicolon b ≡ true → p b ≡ false
apart p not b is = ap p (eqb-true b 59 is) ∙ not

-- what a test of a value's bytes says
module _ (p : ℕ → Bool) (whole : ℕ → Bool) where
  -- so many bytes, and `;` behind them
  abbrev ends : (n : ℕ) → List ℕ → Option ℕ
  ends n bs = let k = prefix_len p bs in cond (whole (n + k) && has_byte_at bs k is_semicolon) (Some (n + k)) None

  at-end : (n : ℕ) → None ≡ ends n []
  at-end n = ap (λ t. cond t (Some (n + 0)) None) (sym (and-false (whole (n + 0))))

  stops : (n b : ℕ) (bs : List ℕ) → p b ≡ false → cond (whole n && is_semicolon b) (Some n) None ≡ ends n (b ∷ bs)
  stops n b bs no_more =
      let same : n ≡ n + 0 = omega arith in
      ap (λ m. cond (whole m && is_semicolon b) (Some m) None) same
      ∙ ap (λ t. let k = cond t (1 + prefix_len p bs) 0 in cond (whole (n + k) && has_byte_at (b ∷ bs) k is_semicolon) (Some (n + k)) None) (sym no_more)

  goes : (n b : ℕ) (bs : List ℕ) → p b ≡ true → ends (n + 1) bs ≡ ends n (b ∷ bs)
  goes n b bs more =
      let k = prefix_len p bs in
      let same : n + 1 + k ≡ n + (1 + k) = omega arith in
      let one : suc k ≡ 1 + k = omega arith in
      ap (λ m. cond (whole m && has_byte_at bs k is_semicolon) (Some m) None) same
      ∙ ap (λ j. cond (whole (n + (1 + k)) && has_byte_at (b ∷ bs) j is_semicolon) (Some (n + (1 + k))) None) one
      ∙ ap (λ t. let k = cond t (1 + prefix_len p bs) 0 in cond (whole (n + k) && has_byte_at (b ∷ bs) k is_semicolon) (Some (n + k)) None) (sym more)

  -- none is there if no number of bytes from here on is whole
  none-further : (n b : ℕ) (bs : List ℕ) → ((k : ℕ) → n + 1 ≤ k → whole k ≡ false) → p b ≡ true → None ≡ ends n (b ∷ bs)
  none-further n b bs none more =
      let k = prefix_len p bs in
      ap (λ t. cond (t && has_byte_at bs k is_semicolon) (Some (n + 1 + k)) None) (sym (none (n + 1 + k) (omega arith))) ∙ goes n b bs more

-- Numbers: from 1 to this many digits
module _ (marker most : ℕ) (p : ℕ → Bool) (not : p 59 ≡ false) (goes_on : (name : List ℕ) (n b : ℕ) → may_go_on marker name n b ≡ (nat_lt n most && p b)) (whole_is : (name : List ℕ) (n : ℕ) → is_whole marker name n ≡ nat_le 1 n)
    (named_no : (name : List ℕ) (n : ℕ) (b : ℕ) → name_behind marker name n (Some b) ≡ name) where
  abbrev fits : ℕ → Bool
  fits n = nat_le 1 n && nat_le n most

  walk-number : (name : List ℕ) (n : ℕ) (bs : List ℕ) → n ≤ most → walk marker name n bs ≡ ends p fits n bs
  walk-number name n [] h = at-end p fits n
  walk-number name n (b ∷ bs) h = of (is_semicolon b) (p b) refl refl (walk-number (name_behind marker name n (Some b)) (n + 1) bs)
    where
      of : (t u : Bool) → is_semicolon b ≡ t → p b ≡ u → (n + 1 ≤ most → walk marker (name_behind marker name n (Some b)) (n + 1) bs ≡ ends p fits (n + 1) bs)
          → walk marker name n (b ∷ bs) ≡ ends p fits n (b ∷ bs)
      of true u e f rest =
          let short : nat_le n most ≡ true = le-leb n most h in
          let both : nat_le 1 n ≡ (fits n && true) = and-both (nat_le 1 n) (nat_le n most) short in
          ap (λ t. cond t (cond (is_whole marker name n) (Some n) None) (cond (may_go_on marker name n b) (walk marker (name_behind marker name n (Some b)) (n + 1) bs) None)) e
          ∙ ap (λ t. cond t (Some n) None) (whole_is name n ∙ both)
          ∙ ap (λ t. cond (fits n && t) (Some n) None) (sym e)
          ∙ stops p fits n b bs (apart p not b e)
        where
          and-both : (t u : Bool) → u ≡ true → t ≡ ((t && u) && true)
          and-both true u h = sym (ap (λ t. t && true) h)
          and-both false u h = refl
      of false true e f rest = elim (cases_lt n most) [
        | inl less ↦
            let goes_is : may_go_on marker name n b ≡ true = goes_on name n b ∙ (λ i. lt-ltb n most less i && f i) in
            ap (λ t. cond t (cond (is_whole marker name n) (Some n) None) (cond (may_go_on marker name n b) (walk marker (name_behind marker name n (Some b)) (n + 1) bs) None)) e
            ∙ ap (λ t. cond t (walk marker (name_behind marker name n (Some b)) (n + 1) bs) None) goes_is
            ∙ rest (omega (arith, less)) ∙ goes p fits n b bs f
        | inr more ↦
            let goes_is : may_go_on marker name n b ≡ false = goes_on name n b ∙ ap (λ t. t && p b) (le-ltb n most more) in
            ap (λ t. cond t (cond (is_whole marker name n) (Some n) None) (cond (may_go_on marker name n b) (walk marker (name_behind marker name n (Some b)) (n + 1) bs) None)) e
            ∙ ap (λ t. cond t (walk marker (name_behind marker name n (Some b)) (n + 1) bs) None) goes_is
            ∙ none-further p fits n b bs (λ k more_than. ap (λ t. nat_le 1 k && t) (lt-leb k most (omega (arith, more, more_than))) ∙ and-false (nat_le 1 k)) f
      ]
      of false false e f rest =
          let goes_is : may_go_on marker name n b ≡ false = goes_on name n b ∙ ap (λ t. nat_lt n most && t) f ∙ and-false (nat_lt n most) in
          ap (λ t. cond t (cond (is_whole marker name n) (Some n) None) (cond (may_go_on marker name n b) (walk marker (name_behind marker name n (Some b)) (n + 1) bs) None)) e
          ∙ ap (λ t. cond t (walk marker (name_behind marker name n (Some b)) (n + 1) bs) None) goes_is
          ∙ sym (ap (λ t. cond t (Some n) None) (ap (λ t. fits n && t) e ∙ and-false (fits n)))
          ∙ stops p fits n b bs f

-- one byte more
take-more : (n : ℕ) (text : List ℕ) (b : ℕ) (bs : List ℕ) → drop n text ≡ b ∷ bs → take (suc n) text ≡ take n text ++ (b ∷ [])
take-more zero [] b bs h = absurd (cc)
take-more zero (x ∷ xs) b bs h = (let same : x ≡ b = cc in ap (λ y. y ∷ []) same)
take-more (suc n) [] b bs h = absurd (cc)
take-more (suc n) (x ∷ xs) b bs h = ap (λ l. x ∷ l) (take-more n xs b bs h)

take-here : (n : ℕ) (name : List ℕ) (b : ℕ) → has_byte_at name n (λ c. c == b) ≡ true → take (suc n) name ≡ take n name ++ (b ∷ [])
take-here zero [] b h = absurd (cc)
take-here zero (x ∷ xs) b h = ap (λ y. y ∷ []) (eqb-true x b h)
take-here (suc n) [] b h = absurd (cc)
take-here (suc n) (x ∷ xs) b h = ap (λ l. x ∷ l) (take-here n xs b h)

-- a name that goes on begins with the bytes and this one
going-on : (name : List ℕ) (n b : ℕ) (further : List ℕ) → length (take n name) ≡ n → going_on name n b ≡ Some further → take (suc n) further ≡ take n name ++ (b ∷ [])
going-on name n b further size h = of (has_byte_at name n (λ c. c == b)) refl h
  where
    of : (t : Bool) → has_byte_at name n (λ c. c == b) ≡ t → cond t (Some name) (name_from (take n name ++ (b ∷ []))) ≡ Some further → take (suc n) further ≡ take n name ++ (b ∷ [])
    of true e is = (let same : name ≡ further = cc in ap (take (suc n)) (sym same) ∙ take-here n name b e)
    of false e is =
        let long : length (take n name ++ (b ∷ [])) ≡ suc n = omega (arith, length-append (take n name) (b ∷ []), size) in
        ap (λ m. take m further) (sym long) ∙ begins-so (take n name ++ (b ∷ [])) further is

-- where none goes on, no name begins so
no-name : (name : List ℕ) (n b : ℕ) → going_on name n b ≡ None → name_from (take n name ++ (b ∷ [])) ≡ None
no-name name n b h = of (has_byte_at name n (λ c. c == b)) h
  where
    of : (t : Bool) → cond t (Some name) (name_from (take n name ++ (b ∷ []))) ≡ None → name_from (take n name ++ (b ∷ [])) ≡ None
    of true is = absurd (cc)
    of false is = is

-- what is read at a byte, by the tests of it
abbrev goes_row : (name : List ℕ) (n b : ℕ) → List ℕ → Bool → Option ℕ
goes_row name n b bs t = cond t (walk 38 (name_behind 38 name n (Some b)) (n + 1) bs) None

abbrev whole_row : (name : List ℕ) (n b : ℕ) → List ℕ → Bool → Option ℕ
whole_row name n b bs t = cond t (cond (is_some (characters_of (take n name))) (Some n) None) (goes_row name n b bs (may_go_on 38 name n b))

-- Names: the bytes so far are the first of the name that is known
module _ (text : List ℕ) where
  abbrev is_name : ℕ → Bool
  is_name n = is_some (characters_of (take n text))

  -- no name has more than 31 bytes
  too-long : (n : ℕ) → 31 < n → n ≤ length text → is_name n ≡ false
  too-long n long within =
      let size : length (take n text) ≡ n = length-take-le n text within in
      ap is_some (no_characters (λ key. nat_le (length key) 31) (take n text) (lt-leb (length (take n text)) 31 (omega (arith, size, long))) all_are_short)

  longer : (n k : ℕ) → n < length text → n + 1 ≤ k → 31 ≤ n → is_name k ≡ false
  longer n k within more long = elim (cases_lt (length text) k) [
    | inl past ↦
        let all : take k text ≡ take (length text) text = take_all k text (omega (arith, past)) ∙ sym (take_all (length text) text (omega arith)) in
        ap (λ l. is_some (characters_of l)) all ∙ too-long (length text) (omega (arith, within, long)) (omega arith)
    | inr upto ↦ too-long k (omega (arith, more, long)) upto
  ]

  -- where no name begins with these bytes, no more of them are one
  none-begins : (n k : ℕ) → name_from (take (suc n) text) ≡ None → n + 1 ≤ k → is_name k ≡ false
  none-begins n k none more =
      let whole : take (suc n) (take k text) ++ drop (suc n) (take k text) ≡ take k text = take-append-drop (suc n) (take k text) in
      let front : take (suc n) (take k text) ≡ take (suc n) text = take-take (suc n) k text (omega (arith, more)) in
      false_from_ne_true (is_name k) (λ is.
      let found = found-so (take (suc n) (take k text)) (drop (suc n) (take k text)) (ap (λ l. is_some (characters_of l)) whole ∙ is) in
      let no : true ≡ false = sym found ∙ ap (λ l. is_some (name_from l)) front ∙ ap is_some none in absurd (cc))

  walk-name : (name : List ℕ) (n : ℕ) (bs : List ℕ) → drop n text ≡ bs → take n name ≡ take n text → n ≤ 31 → walk 38 name n bs ≡ ends is_ascii_alphanumeric is_name n bs
  walk-name name n [] at same h = at-end is_ascii_alphanumeric is_name n
  walk-name name n (b ∷ bs) at same h = of (is_semicolon b) (is_ascii_alphanumeric b) refl refl (walk-name (name_behind 38 name n (Some b)) (n + 1) bs)
    where
      within : n < length text
      within = omega (arith, ap length at, length-drop n text)

      some-is : (o : Option (List ℕ)) → is_some o ≡ true → o ≡ Some (unwrap_or o name)
      some-is None e = absurd (cc)
      some-is (Some x) e = refl

      none-is : (o : Option (List ℕ)) → is_some o ≡ false → o ≡ None
      none-is None e = refl
      none-is (Some x) e = absurd (cc)

      more-text : take (suc n) text ≡ take n text ++ (b ∷ [])
      more-text = take-more n text b bs at

      goes-further : (t : Bool) → n < 31 → is_ascii_alphanumeric b ≡ true → is_some (going_on name n b) ≡ t
          → (drop (n + 1) text ≡ bs → take (n + 1) (name_behind 38 name n (Some b)) ≡ take (n + 1) text → n + 1 ≤ 31 → walk 38 (name_behind 38 name n (Some b)) (n + 1) bs ≡ ends is_ascii_alphanumeric is_name (n + 1) bs)
          → goes_row name n b bs (may_go_on 38 name n b) ≡ ends is_ascii_alphanumeric is_name n (b ∷ bs)
      goes-further true less f found rest =
          let goes_is : may_go_on 38 name n b ≡ true = λ i. (lt-ltb n 31 less i && f i) && found i in
          let size : length (take n name) ≡ n = ap length same ∙ length-take-le n text (omega (arith, within)) in
          let further = going-on name n b (name_behind 38 name n (Some b)) size (some-is (going_on name n b) found) in
          let one : n + 1 ≡ suc n = omega arith in
          ap (goes_row name n b bs) goes_is
          ∙ rest (drop-next text n b bs at) (ap (λ m. take m (name_behind 38 name n (Some b))) one ∙ further ∙ ap (λ l. l ++ (b ∷ [])) same ∙ sym more-text ∙ ap (λ m. take m text) (sym one)) (omega (arith, less))
          ∙ goes is_ascii_alphanumeric is_name n b bs f
      goes-further false less f found rest =
          let goes_is : may_go_on 38 name n b ≡ false = ap (λ t. (nat_lt n 31 && is_ascii_alphanumeric b) && t) found ∙ and-false (nat_lt n 31 && is_ascii_alphanumeric b) in
          let none : name_from (take (suc n) text) ≡ None = ap name_from (more-text ∙ ap (λ l. l ++ (b ∷ [])) (sym same)) ∙ no-name name n b (none-is (going_on name n b) found) in
          ap (goes_row name n b bs) goes_is ∙ none-further is_ascii_alphanumeric is_name n b bs (λ k more. none-begins n k none more) f

      of : (t u : Bool) → is_semicolon b ≡ t → is_ascii_alphanumeric b ≡ u
          → (drop (n + 1) text ≡ bs → take (n + 1) (name_behind 38 name n (Some b)) ≡ take (n + 1) text → n + 1 ≤ 31 → walk 38 (name_behind 38 name n (Some b)) (n + 1) bs ≡ ends is_ascii_alphanumeric is_name (n + 1) bs)
          → walk 38 name n (b ∷ bs) ≡ ends is_ascii_alphanumeric is_name n (b ∷ bs)
      of true u e f rest =
          ap (whole_row name n b bs) e
          ∙ ap (λ l. cond (is_some (characters_of l)) (Some n) None) same
          ∙ ap (λ t. cond t (Some n) None) (sym (and-true (is_name n)) ∙ ap (λ t. is_name n && t) (sym e))
          ∙ stops is_ascii_alphanumeric is_name n b bs (apart is_ascii_alphanumeric refl b e)
      of false true e f rest = elim (cases_lt n 31) [
        | inl less ↦ ap (whole_row name n b bs) e ∙ goes-further (is_some (going_on name n b)) less f refl rest
        | inr more ↦
            let goes_is : may_go_on 38 name n b ≡ false = ap (λ t. (t && is_ascii_alphanumeric b) && is_some (going_on name n b)) (le-ltb n 31 more) in
            ap (whole_row name n b bs) e ∙ ap (goes_row name n b bs) goes_is ∙ none-further is_ascii_alphanumeric is_name n b bs (λ k further. longer n k within further more) f
      ]
      of false false e f rest =
          let goes_is : may_go_on 38 name n b ≡ false = ap (λ t. (nat_lt n 31 && t) && is_some (going_on name n b)) f ∙ ap (λ t. t && is_some (going_on name n b)) (and-false (nat_lt n 31)) in
          ap (whole_row name n b bs) e ∙ ap (goes_row name n b bs) goes_is
          ∙ sym (ap (λ t. cond t (Some n) None) (ap (λ t. is_name n && t) e ∙ and-false (is_name n)))
          ∙ stops is_ascii_alphanumeric is_name n b bs f

made-of : (kind : Kind) (t : Bool) (n : ℕ) → option_map (reference kind) (cond t (Some n) None) ≡ cond t (Some (reference kind n)) None
made-of kind true n = refl
made-of kind false n = refl

-- So what is read is a value of its kind, if one is there
pub walk-value : (kind : Kind) (name text : List ℕ) → option_map (reference kind) (walk (marker_of kind) name 0 text) ≡ value_at kind text
walk-value named name text =
    ap (option_map (reference named)) (walk-name text name 0 text refl refl (omega arith))
    ∙ made-of named (is_some (characters_of (take (0 + prefix_len is_ascii_alphanumeric text) text)) && has_byte_at text (prefix_len is_ascii_alphanumeric text) is_semicolon) (0 + prefix_len is_ascii_alphanumeric text)
    ∙ ap (λ k. cond (is_some (characters_of (take k text)) && has_byte_at text (prefix_len is_ascii_alphanumeric text) is_semicolon) (Some (reference named k)) None) (omega arith)
walk-value decimal name text =
    let k = prefix_len is_ascii_digit text in
    let size : 0 + k ≡ length (take k text) = omega (arith, length-take-le k text (prefix_len-le-length is_ascii_digit text)) in
    ap (option_map (reference decimal)) (walk-number 35 7 is_ascii_digit refl (λ name n b. refl) (λ name n. refl) (λ name n b. refl) name 0 text (omega arith))
    ∙ made-of decimal ((nat_le 1 (0 + k) && nat_le (0 + k) 7) && has_byte_at text k is_semicolon) (0 + k)
    ∙ ap (λ j. cond ((nat_le 1 j && nat_le j 7) && has_byte_at text k is_semicolon) (Some (reference decimal (0 + k))) None) size
    ∙ ap (λ j. cond (is_value decimal (take k text) && has_byte_at text k is_semicolon) (Some (reference decimal j)) None) (omega arith)
walk-value hexadecimal name text =
    let k = prefix_len is_ascii_hexdigit text in
    let size : 0 + k ≡ length (take k text) = omega (arith, length-take-le k text (prefix_len-le-length is_ascii_hexdigit text)) in
    ap (option_map (reference hexadecimal)) (walk-number 120 6 is_ascii_hexdigit refl (λ name n b. refl) (λ name n. refl) (λ name n b. refl) name 0 text (omega arith))
    ∙ made-of hexadecimal ((nat_le 1 (0 + k) && nat_le (0 + k) 6) && has_byte_at text k is_semicolon) (0 + k)
    ∙ ap (λ j. cond ((nat_le 1 j && nat_le j 6) && has_byte_at text k is_semicolon) (Some (reference hexadecimal (0 + k))) None) size
    ∙ ap (λ j. cond (is_value hexadecimal (take k text) && has_byte_at text k is_semicolon) (Some (reference hexadecimal j)) None) (omega arith)

no-empty-name : is_some (characters_of []) ≡ false
unfolding characters_of character_references
no-empty-name = refl

-- the first byte of a value is no semicolon
pub first-walk : (kind : Kind) (name : List ℕ) (b : ℕ) (bs : List ℕ)
    → walk (marker_of kind) name 0 (b ∷ bs) ≡ cond (may_go_on (marker_of kind) name 0 b) (walk (marker_of kind) (name_behind (marker_of kind) name 0 (Some b)) 1 bs) None
first-walk kind name b bs = of (is_semicolon b) refl (whole kind) (goes kind)
  where
    whole : (kind : Kind) → is_whole (marker_of kind) name 0 ≡ false
    whole named = no-empty-name
    whole decimal = refl
    whole hexadecimal = refl

    goes : (kind : Kind) → may_go_on (marker_of kind) name 0 59 ≡ false
    goes named = refl
    goes decimal = refl
    goes hexadecimal = refl

    of : (t : Bool) → is_semicolon b ≡ t → is_whole (marker_of kind) name 0 ≡ false → may_go_on (marker_of kind) name 0 59 ≡ false
        → cond (is_semicolon b) (cond (is_whole (marker_of kind) name 0) (Some 0) None) (cond (may_go_on (marker_of kind) name 0 b) (walk (marker_of kind) (name_behind (marker_of kind) name 0 (Some b)) 1 bs) None) ≡ cond (may_go_on (marker_of kind) name 0 b) (walk (marker_of kind) (name_behind (marker_of kind) name 0 (Some b)) 1 bs) None
    of true e none no_more =
        ap (λ t. cond t (cond (is_whole (marker_of kind) name 0) (Some 0) None) (cond (may_go_on (marker_of kind) name 0 b) (walk (marker_of kind) (name_behind (marker_of kind) name 0 (Some b)) 1 bs) None)) e
        ∙ ap (λ t. cond t (Some 0) None) none
        ∙ sym (ap (λ t. cond t (walk (marker_of kind) (name_behind (marker_of kind) name 0 (Some b)) 1 bs) None) (ap (may_go_on (marker_of kind) name 0) (eqb-true b 59 e) ∙ no_more))
    of false e none no_more = ap (λ t. cond t (cond (is_whole (marker_of kind) name 0) (Some 0) None) (cond (may_go_on (marker_of kind) name 0 b) (walk (marker_of kind) (name_behind (marker_of kind) name 0 (Some b)) 1 bs) None)) e

-- a value that goes on has room for a byte more
pub has-room : (kind : Kind) (name : List ℕ) (n b : ℕ) → may_go_on (marker_of kind) name n b ≡ true → n < 31
has-room named name n b h = ltb-true n 31 (and_parts (nat_lt n 31) (is_ascii_alphanumeric b) (and_parts (nat_lt n 31 && is_ascii_alphanumeric b) (is_some (going_on name n b)) h).0).0
has-room decimal name n b h = (let less = ltb-true n 7 (and_parts (nat_lt n 7) (is_ascii_digit b) h).0 in omega (arith, less))
has-room hexadecimal name n b h = (let less = ltb-true n 6 (and_parts (nat_lt n 6) (is_ascii_hexdigit b) h).0 in omega (arith, less))
