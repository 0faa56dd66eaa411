-- Domains, read byte by byte: labels with dots between them, up to `>`.
use Rattle.std.proofs.Math.Bool.{or-true}
use Rattle.markdown_base.proofs.Facts.Bools.{cond-same}
use Rattle.mdinline_constructs.proofs.Prelude.{before_first, between_dots, is_domain_byte, is_dot, is_hyphen, is_domain_label, is_label_byte, ends_with, has_byte_at, is_greater_than, Bool, List, None, Option, Some, [], ap, arith, cond, false, inl, inr, length, length-append, nat_le, nat_lt, not, refl, suc, sym, take, true, ℕ, ◌&&◌, ◌++◌, ◌+◌, ◌<◌, ◌||◌, ◌∙◌, ◌∷◌, ◌≡◌, ◌≤◌, and-false, and-true, and_parts, cases_lt, le-leb, le-ltb, lt-leb, lt-ltb, nat_tests, append-nil, append_assoc, is_ascii_alphanumeric, list_all, prefix_len}

-- what is read is one more
abbrev pub more : Option ℕ → Option ℕ
more None = None
more (Some n) = Some (1 + n)

-- how many bytes of a domain are left, where so many bytes of a label were read and the last was `-` or not, if the domain ends well
abbrev pub left_of_domain : (hyphen : Bool) → (read : ℕ) → List ℕ → Option ℕ
left_of_domain hyphen n [] = None
left_of_domain hyphen n (b ∷ bs) =
    cond (is_ascii_alphanumeric b && nat_lt n 63) (more (left_of_domain false (n + 1) bs))
    (cond (is_hyphen b && (nat_lt 0 n && nat_lt n 63)) (more (left_of_domain true (n + 1) bs))
    (cond hyphen None (cond (is_dot b && nat_lt 0 n) (more (left_of_domain false 0 bs)) (cond (is_greater_than b && nat_lt 0 n) (Some 0) None))))

-- bytes put before the first of some pieces
abbrev pub before_pieces : List ℕ → List (List ℕ) → List (List ℕ)
before_pieces read [] = read ∷ []
before_pieces read (piece ∷ pieces) = (read ++ piece) ∷ pieces

-- what a label may still become, of which these bytes were read
pub record IsBegun (hyphen : Bool) (n : ℕ) (read : List ℕ) : Type 0 where
  pub sized : length read ≡ n
  pub fits : n ≤ 63
  pub bytes : list_all is_label_byte read ≡ true
  pub first : 0 < n → has_byte_at read 0 is_ascii_alphanumeric ≡ true
  pub last : 0 < n → ends_with read is_ascii_alphanumeric ≡ not hyphen
  pub some : hyphen ≡ true → 0 < n

-- what is said of the rest of the text
abbrev pub rest_is : List ℕ → List ℕ → Option ℕ
rest_is read text =
    let d = prefix_len is_domain_byte text in cond (list_all is_domain_label (before_pieces read (between_dots (take d text))) && has_byte_at text d is_greater_than) (Some d) None

pub none-begun : IsBegun false 0 []
none-begun = record { sized = refl; fits = omega arith; bytes = refl; first = λ h. absurd (omega (arith, h)); last = λ h. absurd (omega (arith, h)); some = λ h. absurd (cc) }

all-append : (xs ys : List ℕ) → list_all is_label_byte xs ≡ true → list_all is_label_byte ys ≡ true → list_all is_label_byte (xs ++ ys) ≡ true
all-append [] ys h k = k
all-append (x ∷ xs) ys h k = let parts = and_parts (is_label_byte x) (list_all is_label_byte xs) h in ap (λ t. t && list_all is_label_byte (xs ++ ys)) parts.0 ∙ all-append xs ys parts.1 k

-- the last of bytes is the one that was put behind them
last-is : (xs : List ℕ) (b : ℕ) → ends_with (xs ++ b ∷ []) is_ascii_alphanumeric ≡ is_ascii_alphanumeric b
last-is [] b = refl
last-is (x ∷ []) b = refl
last-is (x ∷ y ∷ ys) b = last-is (y ∷ ys) b

-- one byte more of a label was read
begun-more : (hyphen h : Bool) (n : ℕ) (read : List ℕ) (b : ℕ) → IsBegun hyphen n read → n < 63 → is_label_byte b ≡ true → is_ascii_alphanumeric b ≡ not h → (h ≡ true → 0 < n) → IsBegun h (n + 1) (read ++ b ∷ [])
begun-more hyphen h n read b begun room label last some = record {
  sized = omega (arith, length-append read (b ∷ []), begun.sized);
  fits = omega (arith, room);
  bytes = all-append read (b ∷ []) begun.bytes (ap (λ t. t && true) label);
  first = λ k.
      elim read as (λ xs. length xs ≡ n → (0 < n → has_byte_at xs 0 is_ascii_alphanumeric ≡ true) → has_byte_at (xs ++ b ∷ []) 0 is_ascii_alphanumeric ≡ true) [
        | [] ↦ λ size f. elim h as (λ t. is_ascii_alphanumeric b ≡ not t → (t ≡ true → 0 < n) → is_ascii_alphanumeric b ≡ true) [
          | true ↦ λ e s. absurd (omega (arith, size, s refl))
          | false ↦ λ e s. e
        ] last some
        | x ∷ xs ↦ λ size f. f (omega (arith, size))
      ] begun.sized begun.first;
  last = λ k. last-is read b ∙ last;
  some = λ k. omega arith;
}

-- a byte moves from the first piece to what was read
pieces-moved : (read : List ℕ) (b : ℕ) (pieces : List (List ℕ)) → before_pieces read (before_first b pieces) ≡ before_pieces (read ++ b ∷ []) pieces
pieces-moved read b [] = refl
pieces-moved read b (piece ∷ pieces) = ap (λ xs. xs ∷ pieces) (sym (append_assoc read (b ∷ []) piece))

pub pieces-some : (text : List ℕ) → before_pieces [] (between_dots text) ≡ between_dots text
pieces-some [] = refl
pieces-some (b ∷ bs) = elim (is_dot b) as (λ t. before_pieces [] (cond t ([] ∷ between_dots bs) (before_first b (between_dots bs))) ≡ cond t ([] ∷ between_dots bs) (before_first b (between_dots bs))) [
  | true ↦ refl
  | false ↦ elim (between_dots bs) as (λ ps. before_pieces [] (before_first b ps) ≡ before_first b ps) [
    | [] ↦ refl
    | p ∷ ps ↦ refl
  ]
]

-- what was read is a label if it is no more than begun, and does not end with `-`
is-label : (hyphen : Bool) (n : ℕ) (read : List ℕ) → IsBegun hyphen n read → is_domain_label read ≡ (nat_lt 0 n && not hyphen)
is-label hyphen n [] begun = ap (λ k. nat_lt 0 k && not hyphen) begun.sized
is-label hyphen n (x ∷ xs) begun =
    let read = x ∷ xs in
    let some : 0 < n = omega (arith, begun.sized) in
    let fits : nat_le (length read) 63 ≡ true = le-leb (length read) 63 (omega (arith, begun.fits, begun.sized)) in
    (λ i. fits i && (begun.first some i && (begun.last some i && begun.bytes i)))
    ∙ and-true (not hyphen) ∙ ap (λ t. t && not hyphen) (sym (lt-ltb 0 n some))

-- a label that is too long, or begins with `-`, is none, whatever comes
too-long : (read rest : List ℕ) → 63 < length read → is_domain_label (read ++ rest) ≡ false
too-long read rest h =
    let long : nat_le (length (read ++ rest)) 63 ≡ false = lt-leb (length (read ++ rest)) 63 (omega (arith, h, length-append read rest)) in
    ap (λ t. t && (has_byte_at (read ++ rest) 0 is_ascii_alphanumeric && (ends_with (read ++ rest) is_ascii_alphanumeric && list_all is_label_byte (read ++ rest)))) long

no-pieces : (read : List ℕ) (pieces : List (List ℕ)) → ((rest : List ℕ) → is_domain_label (read ++ rest) ≡ false) → list_all is_domain_label (before_pieces read pieces) ≡ false
no-pieces read [] h = ap (λ t. t && true) (ap is_domain_label (sym (append-nil read)) ∙ h [])
no-pieces read (piece ∷ pieces) h = ap (λ t. t && list_all is_domain_label pieces) (h piece)

begins-badly : (b : ℕ) (rest : List ℕ) → is_ascii_alphanumeric b ≡ false → is_domain_label (b ∷ rest) ≡ false
begins-badly b rest h =
    ap (λ t. nat_le (length (b ∷ rest)) 63 && (t && (ends_with (b ∷ rest) is_ascii_alphanumeric && list_all is_label_byte (b ∷ rest)))) h ∙ and-false (nat_le (length (b ∷ rest)) 63)

-- nothing is there
no-rest : (a c : Bool) (d : ℕ) → a ≡ false → cond (a && c) (Some d) None ≡ None
no-rest a c d h = ap (λ t. cond (t && c) (Some d) None) h

more-there : (t : Bool) (d : ℕ) → more (cond t (Some d) None) ≡ cond t (Some (1 + d)) None
more-there true d = refl
more-there false d = refl

-- what is said behind a byte of a label, and behind a dot
at-label-byte : (read : List ℕ) (b : ℕ) (bs : List ℕ) → is_label_byte b ≡ true → is_dot b ≡ false → rest_is read (b ∷ bs) ≡ more (rest_is (read ++ b ∷ []) bs)
at-label-byte read b bs label other =
    let d = prefix_len is_domain_byte bs in
    let domain : is_domain_byte b ≡ true = ap (λ t. t || is_dot b) label in
    let one : 1 + d ≡ suc d = omega arith in
    let pieces : between_dots (take (1 + d) (b ∷ bs)) ≡ before_first b (between_dots (take d bs)) =
    ap (λ n. between_dots (take n (b ∷ bs))) one ∙ ap (λ t. cond t ([] ∷ between_dots (take d bs)) (before_first b (between_dots (take d bs)))) other in
    let last : has_byte_at (b ∷ bs) (1 + d) is_greater_than ≡ has_byte_at bs d is_greater_than = ap (λ n. has_byte_at (b ∷ bs) n is_greater_than) one in
    ap (λ t. let n = cond t (1 + d) 0 in cond (list_all is_domain_label (before_pieces read (between_dots (take n (b ∷ bs)))) && has_byte_at (b ∷ bs) n is_greater_than) (Some n) None) domain
    ∙ (λ i. cond (list_all is_domain_label (before_pieces read (pieces i)) && last i) (Some (1 + d)) None)
    ∙ ap (λ ps. cond (list_all is_domain_label ps && has_byte_at bs d is_greater_than) (Some (1 + d)) None) (pieces-moved read b (between_dots (take d bs)))
    ∙ sym (more-there (list_all is_domain_label (before_pieces (read ++ b ∷ []) (between_dots (take d bs))) && has_byte_at bs d is_greater_than) d)

at-dot : (hyphen : Bool) (n : ℕ) (read : List ℕ) (b : ℕ) (bs : List ℕ) → IsBegun hyphen n read → is_dot b ≡ true → rest_is read (b ∷ bs) ≡ cond (nat_lt 0 n && not hyphen) (more (rest_is [] bs)) None
at-dot hyphen n read b bs begun dot =
    let d = prefix_len is_domain_byte bs in
    let domain : is_domain_byte b ≡ true = ap (λ t. is_label_byte b || t) dot ∙ or-true (is_label_byte b) in
    let one : 1 + d ≡ suc d = omega arith in
    let pieces : between_dots (take (1 + d) (b ∷ bs)) ≡ [] ∷ between_dots (take d bs) =
    ap (λ n. between_dots (take n (b ∷ bs))) one ∙ ap (λ t. cond t ([] ∷ between_dots (take d bs)) (before_first b (between_dots (take d bs)))) dot in
    let last : has_byte_at (b ∷ bs) (1 + d) is_greater_than ≡ has_byte_at bs d is_greater_than = ap (λ n. has_byte_at (b ∷ bs) n is_greater_than) one in
    let others = list_all is_domain_label (between_dots (take d bs)) in
    let first : is_domain_label (read ++ []) ≡ (nat_lt 0 n && not hyphen) = ap is_domain_label (append-nil read) ∙ is-label hyphen n read begun in
    ap (λ t. let n = cond t (1 + d) 0 in cond (list_all is_domain_label (before_pieces read (between_dots (take n (b ∷ bs)))) && has_byte_at (b ∷ bs) n is_greater_than) (Some n) None) domain
    ∙ (λ i. cond (list_all is_domain_label (before_pieces read (pieces i)) && last i) (Some (1 + d)) None)
    ∙ ap (λ t. cond ((t && others) && has_byte_at bs d is_greater_than) (Some (1 + d)) None) first
    ∙ elim (nat_lt 0 n && not hyphen) as (λ t. cond ((t && others) && has_byte_at bs d is_greater_than) (Some (1 + d)) None ≡ cond t (more (rest_is [] bs)) None) [
      | true ↦
          sym (more-there (others && has_byte_at bs d is_greater_than) d)
          ∙ ap (λ ps. more (cond (list_all is_domain_label ps && has_byte_at bs d is_greater_than) (Some d) None)) (sym (pieces-some (take d bs)))
      | false ↦ refl
    ]

-- behind any other byte there is no more of it
at-other : (hyphen : Bool) (n : ℕ) (read : List ℕ) (b : ℕ) (bs : List ℕ) → IsBegun hyphen n read → is_domain_byte b ≡ false
    → rest_is read (b ∷ bs) ≡ cond ((nat_lt 0 n && not hyphen) && is_greater_than b) (Some 0) None
at-other hyphen n read b bs begun none =
    let d = prefix_len is_domain_byte bs in
    let first : is_domain_label (read ++ []) ≡ (nat_lt 0 n && not hyphen) = ap is_domain_label (append-nil read) ∙ is-label hyphen n read begun in
    ap (λ t. let n = cond t (1 + d) 0 in cond (list_all is_domain_label (before_pieces read (between_dots (take n (b ∷ bs)))) && has_byte_at (b ∷ bs) n is_greater_than) (Some n) None) none
    ∙ ap (λ t. cond (t && is_greater_than b) (Some 0) None) (and-true (is_domain_label (read ++ [])) ∙ first)

behind-dot : (hyphen some : Bool) (o : Option ℕ) → cond hyphen None (cond some o None) ≡ cond (some && not hyphen) o None
behind-dot true true o = refl
behind-dot true false o = refl
behind-dot false true o = refl
behind-dot false false o = refl

at-end : (hyphen some e : Bool) → cond {A = Option ℕ} hyphen None (cond (e && some) (Some 0) None) ≡ cond ((some && not hyphen) && e) (Some 0) None
at-end true true e = refl
at-end true false e = refl
at-end false true true = refl
at-end false true false = refl
at-end false false true = refl
at-end false false false = refl

-- So reading it byte by byte finds it
pub domain-left : (hyphen : Bool) (n : ℕ) (read : List ℕ) (text : List ℕ) → IsBegun hyphen n read → left_of_domain hyphen n text ≡ rest_is read text
domain-left hyphen n read [] begun = sym (ap (λ t. cond t (Some 0) None) (and-false (list_all is_domain_label (before_pieces read ([] ∷ [])))))
domain-left hyphen n read (b ∷ bs) begun =
    let all = λ (a y d e r z : Bool). cond (a && r) (more (left_of_domain false (n + 1) bs))
    (cond (y && (z && r)) (more (left_of_domain true (n + 1) bs)) (cond hyphen None (cond (d && z) (more (left_of_domain false 0 bs)) (cond (e && z) (Some 0) None)))) in
    let bad : is_label_byte b ≡ true → is_dot b ≡ false → ((rest : List ℕ) → is_domain_label ((read ++ b ∷ []) ++ rest) ≡ false) → cond hyphen None None ≡ rest_is read (b ∷ bs) =
    λ label other bad. cond-same hyphen None ∙ sym (at-label-byte read b bs label other ∙ ap more (no-rest _ _ _ (no-pieces (read ++ b ∷ []) _ bad))) in
    let longer : length (read ++ b ∷ []) ≡ n + 1 = omega (arith, length-append read (b ∷ []), begun.sized) in
    elim (is_ascii_alphanumeric b) as (λ t. is_ascii_alphanumeric b ≡ t → all t (is_hyphen b) (is_dot b) (is_greater_than b) (nat_lt n 63) (nat_lt 0 n) ≡ rest_is read (b ∷ bs)) [
      | true ↦ λ a.
          let y : is_hyphen b ≡ false = grind (arith, nat_tests) in
          let d : is_dot b ≡ false = grind (arith, nat_tests) in
          let e : is_greater_than b ≡ false = grind (arith, nat_tests) in
          let label : is_label_byte b ≡ true = ap (λ t. t || is_hyphen b) a in
          (λ i. all true (y i) (d i) (e i) (nat_lt n 63) (nat_lt 0 n))
          ∙ elim (cases_lt n 63) [
            | inl room ↦
                ap (λ r. all true false false false r (nat_lt 0 n)) (lt-ltb n 63 room)
                ∙ ap more (domain-left false (n + 1) (read ++ b ∷ []) bs (begun-more hyphen false n read b begun room label a (λ k. absurd (cc))))
                ∙ sym (at-label-byte read b bs label d)
            | inr full ↦ ap (λ r. all true false false false r (nat_lt 0 n)) (le-ltb n 63 full) ∙ bad label d (λ rest. too-long (read ++ b ∷ []) rest (omega (arith, longer, full)))
          ]
      | false ↦ λ a. elim (is_hyphen b) as (λ t. is_hyphen b ≡ t → all false t (is_dot b) (is_greater_than b) (nat_lt n 63) (nat_lt 0 n) ≡ rest_is read (b ∷ bs)) [
        | true ↦ λ y.
            let d : is_dot b ≡ false = grind (arith, nat_tests) in
            let e : is_greater_than b ≡ false = grind (arith, nat_tests) in
            let label : is_label_byte b ≡ true = ap (λ t. is_ascii_alphanumeric b || t) y ∙ or-true (is_ascii_alphanumeric b) in
            (λ i. all false true (d i) (e i) (nat_lt n 63) (nat_lt 0 n))
            ∙ elim (cases_lt 0 n) [
              | inl some ↦ ap (λ z. all false true false false (nat_lt n 63) z) (lt-ltb 0 n some)
                  ∙ elim (cases_lt n 63) [
                    | inl room ↦
                        ap (λ r. all false true false false r true) (lt-ltb n 63 room)
                        ∙ ap more (domain-left true (n + 1) (read ++ b ∷ []) bs (begun-more hyphen true n read b begun room label a (λ k. some)))
                        ∙ sym (at-label-byte read b bs label d)
                    | inr full ↦ ap (λ r. all false true false false r true) (le-ltb n 63 full) ∙ bad label d (λ rest. too-long (read ++ b ∷ []) rest (omega (arith, longer, full)))
                  ]
              | inr first ↦
                  ap (λ z. all false true false false (nat_lt n 63) z) (le-ltb 0 n first)
                  ∙ bad label d (λ rest.
                  elim read as (λ xs. length xs ≡ n → is_domain_label ((xs ++ b ∷ []) ++ rest) ≡ false) [
                    | [] ↦ λ size. begins-badly b rest a
                    | x ∷ xs ↦ λ size. absurd (omega (arith, size, first))
                  ] begun.sized)
            ]
        | false ↦ λ y. elim (is_dot b) as (λ t. is_dot b ≡ t → all false false t (is_greater_than b) (nat_lt n 63) (nat_lt 0 n) ≡ rest_is read (b ∷ bs)) [
          | true ↦ λ d.
              let e : is_greater_than b ≡ false = grind (arith, nat_tests) in
              ap (λ t. all false false true t (nat_lt n 63) (nat_lt 0 n)) e
              ∙ behind-dot hyphen (nat_lt 0 n) (more (left_of_domain false 0 bs))
              ∙ ap (λ o. cond (nat_lt 0 n && not hyphen) (more o) None) (domain-left false 0 [] bs none-begun)
              ∙ sym (at-dot hyphen n read b bs begun d)
          | false ↦ λ d.
              let none : is_domain_byte b ≡ false = (λ i. (a i || y i) || d i) in
              at-end hyphen (nat_lt 0 n) (is_greater_than b) ∙ sym (at-other hyphen n read b bs begun none)
        ] refl
      ] refl
    ] refl
