-- What a look that fails shows: behind its opening mark no other one of its kind ends before the place where it stops. So where it is known of
-- a kind that none ends, nothing is lost if none is opened.
use Rattle.mdinline_constructs.proofs.Prelude.{is_white, has_byte_at, more_than, size_b_grows, size_b_is, Bool, List, None, Option, Some, [], ap, arith, cond, false, nat_le, not, refl, subst, suc, sym, true, zero, ℕ, ◌&&◌, ◌==◌, ◌∙◌, ◌∷◌, ◌≡◌, ◌≤◌, and_parts, eqb-true, nat_tests, is_ascii_alphabetic, codes}
use Rattle.mdinline_constructs.proofs.HtmlMarks.Places.{Mark, MarkPlace, at_cdata, at_comment, at_declaration, at_inside, at_open, cdata-line, mark_byte, mark_move, mark_next, mark_times, nothing-left, nothing_before, nothing_known, of_cdata, of_comment, of_declaration, of_instruction, opens_unless}
use Rattle.mdinline_constructs.proofs.HtmlTexts.Walks.{Move, done, goes, moved, one_further, refused, walk}

-- nothing is further on, if nothing is one byte further on
pub none-further : (o : Option ℕ) → one_further o ≡ None → o ≡ None
none-further None h = refl
none-further (Some n) h = absurd (cc)

-- the kinds but this one
abbrev pub other_than : Mark → Mark → Bool
other_than kind k = not (mark_byte k == mark_byte kind)

-- how many bytes there are behind `<`, up to the end of a mark of this kind alone
abbrev pub of_kind : Mark → List ℕ → Option ℕ
of_kind kind bs = walk (mark_move (other_than kind)) bs false at_open

-- Behind an opening mark it is the same whatever is known
pub inside-same : (f g : Mark → Bool) (kind : Mark) (bs : List ℕ) (line : Bool) (n : ℕ) → walk (mark_move f) bs line (at_inside kind n) ≡ walk (mark_move g) bs line (at_inside kind n)
inside-same f g kind [] line n = refl
inside-same f g kind (b ∷ bs) line n =
    let F = λ (l : Bool). walk (mark_move f) bs l in
    let G = λ (l : Bool). walk (mark_move g) bs l in
    let nothing : (l : Bool) → moved (F l) (nothing_before kind n) ≡ moved (G l) (nothing_before kind n) =
    λ l. nothing-left kind n (F l) ∙ ap one_further (inside-same f g kind bs l 0) ∙ sym (nothing-left kind n (G l)) in
    let byte : (l : Bool) → moved (F l) (mark_move f (at_inside kind n) b) ≡ moved (G l) (mark_move g (at_inside kind n) b) =
    λ l. elim ((b == 62) && nat_le (mark_times kind) n) as (λ t.
    moved (F l) (cond t done (cond (b == mark_byte kind) (goes (Some size_b_grows) (at_inside kind (more_than n))) (nothing_before kind n)))
    ≡ moved (G l) (cond t done (cond (b == mark_byte kind) (goes (Some size_b_grows) (at_inside kind (more_than n))) (nothing_before kind n)))) [
      | true ↦ refl
      | false ↦ elim (b == mark_byte kind) as (λ t. moved (F l) (cond t (goes (Some size_b_grows) (at_inside kind (more_than n))) (nothing_before kind n))
          ≡ moved (G l) (cond t (goes (Some size_b_grows) (at_inside kind (more_than n))) (nothing_before kind n))) [
            | true ↦ ap one_further (inside-same f g kind bs l (more_than n))
            | false ↦ nothing l
          ]
    ] in
    λ i. cond (b == 10) (cond line None (byte true i)) (cond (line && is_white b) (one_further (inside-same f g kind bs true n i)) (byte false i))

-- fewer bytes of the closing mark directly before find no more
pub fewer-none : (kind : Mark) (bs : List ℕ) (line : Bool) (m n : ℕ) → m ≤ n → walk mark_next bs line (at_inside kind n) ≡ None → walk mark_next bs line (at_inside kind m) ≡ None
fewer-none kind [] line m n h e = refl
fewer-none kind (b ∷ bs) line m n h e =
    let W = λ (l : Bool). walk mark_next bs l in
    let nothing : (l : Bool) → moved (W l) (nothing_before kind n) ≡ None → moved (W l) (nothing_before kind m) ≡ None =
    λ l e. nothing-left kind m (W l) ∙ sym (nothing-left kind n (W l)) ∙ e in
    let all = λ (t u : Bool) (l : Bool) (i : ℕ). moved (W l) (cond t done (cond u (goes (Some size_b_grows) (at_inside kind (more_than i))) (nothing_before kind i))) in
    let byte : (l : Bool) → moved (W l) (mark_next (at_inside kind n) b) ≡ None → moved (W l) (mark_next (at_inside kind m) b) ≡ None =
    λ l. elim ((b == 62) && nat_le (mark_times kind) n) as (λ t. ((b == 62) && nat_le (mark_times kind) n) ≡ t → all t (b == mark_byte kind) l n ≡ None → moved (W l) (mark_next (at_inside kind m) b) ≡ None) [
      | true ↦ λ is e. absurd (cc)
      | false ↦ λ is.
          let few : ((b == 62) && nat_le (mark_times kind) m) ≡ false = grind (arith, nat_tests, is, h) in
          subst (λ t. all false (b == mark_byte kind) l n ≡ None → all t (b == mark_byte kind) l m ≡ None) (sym few)
          (elim (b == mark_byte kind) as (λ u. all false u l n ≡ None → all false u l m ≡ None) [
            | true ↦ λ e. ap one_further (fewer-none kind bs l (more_than m) (more_than n) (omega (arith, h)) (none-further (W l (at_inside kind (more_than n))) e))
            | false ↦ nothing l
          ])
    ] refl in
    elim (b == 10) as (λ t. cond t (cond line None (moved (W true) (mark_next (at_inside kind n) b))) (cond (line && is_white b) (one_further (W true (at_inside kind n))) (moved (W false) (mark_next (at_inside kind n) b))) ≡ None
    → cond t (cond line None (moved (W true) (mark_next (at_inside kind m) b))) (cond (line && is_white b) (one_further (W true (at_inside kind m))) (moved (W false) (mark_next (at_inside kind m) b))) ≡ None) [
      | true ↦ elim line as (λ t. cond t None (moved (W true) (mark_next (at_inside kind n) b)) ≡ None → cond t None (moved (W true) (mark_next (at_inside kind m) b)) ≡ None) [ true ↦ λ e. refl | false ↦ byte true ]
      | false ↦ elim (line && is_white b) as (λ t. cond t (one_further (W true (at_inside kind n))) (moved (W false) (mark_next (at_inside kind n) b)) ≡ None
          → cond t (one_further (W true (at_inside kind m))) (moved (W false) (mark_next (at_inside kind m) b)) ≡ None) [
            | true ↦ λ e. ap one_further (fewer-none kind bs true m n h (none-further (W true (at_inside kind n)) e))
            | false ↦ byte false
          ]
    ] e

-- at a byte that is none of the closing mark nothing of it is before
plain-next : (kind : Mark) (n b : ℕ) → (b == 62) ≡ false → (b == mark_byte kind) ≡ false → mark_next (at_inside kind n) b ≡ nothing_before kind n
plain-next kind n b last other = λ i. cond (last i && nat_le (mark_times kind) n) done (cond (other i) (goes (Some size_b_grows) (at_inside kind (more_than n))) (nothing_before kind n))

-- one byte further on
plain-none : (kind : Mark) (n b : ℕ) (bs : List ℕ) → (b == 10) ≡ false → (b == 62) ≡ false → (b == mark_byte kind) ≡ false
    → walk mark_next (b ∷ bs) false (at_inside kind n) ≡ None → walk mark_next bs false (at_inside kind 0) ≡ None
plain-none kind n b bs feed last other e =
    let W = walk mark_next bs in
    none-further (W false (at_inside kind 0))
    (sym (nothing-left kind n (W false)) ∙ sym (ap (moved (W false)) (plain-next kind n b last other))
    ∙ sym (ap (λ t. cond t (moved (W true) (mark_next (at_inside kind n) b)) (moved (W false) (mark_next (at_inside kind n) b))) feed) ∙ e)

-- at a byte of the closing mark
byte-none : (kind : Mark) (n b : ℕ) (bs : List ℕ) → (b == 10) ≡ false → (b == 62) ≡ false → (b == mark_byte kind) ≡ true
    → walk mark_next (b ∷ bs) false (at_inside kind n) ≡ None → walk mark_next bs false (at_inside kind (more_than n)) ≡ None
byte-none kind n b bs feed last is e =
    let W = walk mark_next bs in
    let next : mark_next (at_inside kind n) b ≡ goes (Some size_b_grows) (at_inside kind (more_than n)) =
    λ i. cond (last i && nat_le (mark_times kind) n) done (cond (is i) (goes (Some size_b_grows) (at_inside kind (more_than n))) (nothing_before kind n)) in
    none-further (W false (at_inside kind (more_than n)))
    (sym (ap (moved (W false)) next) ∙ sym (ap (λ t. cond t (moved (W true) (mark_next (at_inside kind n) b)) (moved (W false) (mark_next (at_inside kind n) b))) feed) ∙ e)

-- The opening mark is not yet read
abbrev pub IsOpening : MarkPlace → Type 0
IsOpening (at_inside kind n) = ⊥
IsOpening s = Unit {0}

-- then a line feed is refused
pub feed-refused : (known : Mark → Bool) (s : MarkPlace) → IsOpening s → mark_move known s 10 ≡ refused
feed-refused known at_open h = refl
feed-refused known at_declaration h = refl
feed-refused known at_comment h = refl
feed-refused known (at_cdata n) h = cdata-line known n
feed-refused known (at_inside kind n) h = absurd h

-- so a byte is read as any other
pub opening-front : (known : Mark → Bool) (b : ℕ) (bs : List ℕ) (s : MarkPlace) → IsOpening s → walk (mark_move known) (b ∷ bs) false s ≡ moved (walk (mark_move known) bs false) (mark_move known s b)
opening-front known b bs s h =
    let W = walk (mark_move known) bs in
    elim (b == 10) as (λ t. (b == 10) ≡ t → cond t (moved (W true) (mark_move known s b)) (moved (W false) (mark_move known s b)) ≡ moved (W false) (mark_move known s b)) [
      | true ↦ λ e.
          let no : mark_move known s b ≡ refused = ap (mark_move known s) (eqb-true b 10 e) ∙ feed-refused known s h in
          ap (moved (W true)) no ∙ sym (ap (moved (W false)) no)
      | false ↦ λ e. refl
    ] refl

-- ---- A look of the same kind that begins in a look that fails fails too: it is never further than that
abbrev pub IsBehind : Mark → MarkPlace → ℕ → Type 0
IsBehind kind at_open n = Unit {0}
IsBehind kind at_declaration n = Unit {0}
IsBehind kind at_comment n = (45 == mark_byte kind) ≡ true → 1 ≤ n
IsBehind kind (at_cdata i) n = Unit {0}
IsBehind kind (at_inside k m) n = (k ≡ kind) × (m ≤ n)

-- bytes of opening marks that are in no closing mark
no-bang : (kind : Mark) → (33 == mark_byte kind) ≡ false
no-bang of_comment = refl
no-bang of_instruction = refl
no-bang of_declaration = refl
no-bang of_cdata = refl

no-bracket : (kind : Mark) → (91 == mark_byte kind) ≡ false
no-bracket of_comment = refl
no-bracket of_instruction = refl
no-bracket of_declaration = refl
no-bracket of_cdata = refl

no-letter : (kind : Mark) (b : ℕ) → is_ascii_alphabetic b ≡ true → (b == mark_byte kind) ≡ false
no-letter of_comment b h = grind (arith, nat_tests)
no-letter of_instruction b h = grind (arith, nat_tests)
no-letter of_declaration b h = grind (arith, nat_tests)
no-letter of_cdata b h = grind (arith, nat_tests)

pub cdata-letter : (n b : ℕ) → has_byte_at (codes "CDATA") n (λ c. b == c) ≡ true → is_ascii_alphabetic b ≡ true
cdata-letter zero b h = ap is_ascii_alphabetic (eqb-true b 67 h)
cdata-letter (suc zero) b h = ap is_ascii_alphabetic (eqb-true b 68 h)
cdata-letter (suc (suc zero)) b h = ap is_ascii_alphabetic (eqb-true b 65 h)
cdata-letter (suc (suc (suc zero))) b h = ap is_ascii_alphabetic (eqb-true b 84 h)
cdata-letter (suc (suc (suc (suc zero)))) b h = ap is_ascii_alphabetic (eqb-true b 65 h)
cdata-letter (suc (suc (suc (suc (suc n))))) b h = absurd (cc)

-- a mark opens, of the kind or of another
module _ (kind : Mark) (bs : List ℕ) where
  abbrev F : MarkPlace → Option ℕ
  F = walk (mark_move (other_than kind)) bs false

  none-opens : (k : Mark) (n : ℕ) → ((mark_byte k == mark_byte kind) ≡ true → F (at_inside k n) ≡ None) → moved F (opens_unless (other_than kind k) k n) ≡ None
  none-opens k n h = elim (mark_byte k == mark_byte kind) as (λ t. ((t ≡ true) → F (at_inside k n) ≡ None) → moved F (opens_unless (not t) k n) ≡ None) [
    | true ↦ λ h. ap one_further (h refl)
    | false ↦ λ h. refl
  ] h

  -- by a test
  none-either : (t : Bool) (x y : Move MarkPlace) → (t ≡ true → moved F x ≡ None) → (t ≡ false → moved F y ≡ None) → moved F (cond t x y) ≡ None
  none-either true x y h i = h refl
  none-either false x y h i = i refl

-- kinds are told apart by the bytes of their closing marks
same-kind : (k kind : Mark) → (mark_byte k == mark_byte kind) ≡ true → k ≡ kind
same-kind of_comment of_comment h = refl
same-kind of_comment of_instruction h = absurd (cc)
same-kind of_comment of_declaration h = absurd (cc)
same-kind of_comment of_cdata h = absurd (cc)
same-kind of_instruction of_comment h = absurd (cc)
same-kind of_instruction of_instruction h = refl
same-kind of_instruction of_declaration h = absurd (cc)
same-kind of_instruction of_cdata h = absurd (cc)
same-kind of_declaration of_comment h = absurd (cc)
same-kind of_declaration of_instruction h = absurd (cc)
same-kind of_declaration of_declaration h = refl
same-kind of_declaration of_cdata h = absurd (cc)
same-kind of_cdata of_comment h = absurd (cc)
same-kind of_cdata of_instruction h = absurd (cc)
same-kind of_cdata of_declaration h = absurd (cc)
same-kind of_cdata of_cdata h = refl

pub behind-none : (kind : Mark) (bs : List ℕ) (s : MarkPlace) (n : ℕ) → IsBehind kind s n → walk mark_next bs false (at_inside kind n) ≡ None → walk (mark_move (other_than kind)) bs false s ≡ None
behind-none kind [] s n h e = refl
behind-none kind (b ∷ bs) (at_inside k m) n h e =
    inside-same (other_than kind) nothing_known k (b ∷ bs) false m
    ∙ subst (λ k. walk mark_next (b ∷ bs) false (at_inside k m) ≡ None) (sym h.0) (fewer-none kind (b ∷ bs) false m n h.1 e)
behind-none kind (b ∷ bs) at_open n h e =
    let f = other_than kind in
    let rest = cond (b == 33) (goes None at_declaration) refused in
    opening-front f b bs at_open tt
    ∙ none-either kind bs (b == 63) (opens_unless (f of_instruction) of_instruction 0) rest
    (λ is. none-opens kind bs of_instruction 0 (λ same.
    let feed : (b == 10) ≡ false = grind (arith, nat_tests) in
    let last : (b == 62) ≡ false = grind (arith, nat_tests) in
    let kinds = same-kind of_instruction kind same in
    let mine : (b == mark_byte kind) ≡ true = subst (λ k. (b == mark_byte k) ≡ true) kinds is in
    inside-same f nothing_known of_instruction bs false 0
    ∙ subst (λ k. walk mark_next bs false (at_inside k 0) ≡ None) (sym kinds) (fewer-none kind bs false 0 (more_than n) (omega arith) (byte-none kind n b bs feed last mine e))))
    (λ other. none-either kind bs (b == 33) (goes None at_declaration) refused
    (λ is.
    let feed : (b == 10) ≡ false = grind (arith, nat_tests) in
    let last : (b == 62) ≡ false = grind (arith, nat_tests) in
    let plain : (b == mark_byte kind) ≡ false = subst (λ b. (b == mark_byte kind) ≡ false) (sym (eqb-true b 33 is)) (no-bang kind) in
    ap one_further (behind-none kind bs at_declaration 0 tt (plain-none kind n b bs feed last plain e)))
    (λ none. refl))
behind-none kind (b ∷ bs) at_declaration n h e =
    let f = other_than kind in
    let third = cond (b == 91) (goes (Some (size_b_is 0)) (at_cdata 0)) refused in
    opening-front f b bs at_declaration tt
    ∙ none-either kind bs (is_ascii_alphabetic b) (opens_unless (f of_declaration) of_declaration 0) (cond (b == 45) (goes None at_comment) third)
    (λ is. none-opens kind bs of_declaration 0 (λ same.
    let feed : (b == 10) ≡ false = grind (arith, nat_tests) in
    let last : (b == 62) ≡ false = grind (arith, nat_tests) in
    let kinds = same-kind of_declaration kind same in
    inside-same f nothing_known of_declaration bs false 0
    ∙ subst (λ k. walk mark_next bs false (at_inside k 0) ≡ None) (sym kinds) (plain-none kind n b bs feed last (no-letter kind b is) e)))
    (λ other. none-either kind bs (b == 45) (goes None at_comment) third
    (λ is.
    let feed : (b == 10) ≡ false = grind (arith, nat_tests) in
    let last : (b == 62) ≡ false = grind (arith, nat_tests) in
    let at = eqb-true b 45 is in
    elim (45 == mark_byte kind) as (λ t. (45 == mark_byte kind) ≡ t → one_further (walk (mark_move f) bs false at_comment) ≡ None) [
      | true ↦ λ mine.
          ap one_further (behind-none kind bs at_comment (more_than n) (λ _. omega arith) (byte-none kind n b bs feed last (ap (λ b. b == mark_byte kind) at ∙ mine) e))
      | false ↦ λ mine.
          ap one_further (behind-none kind bs at_comment 0 (λ c. absurd (let no : true ≡ false = sym c ∙ mine in cc)) (plain-none kind n b bs feed last (ap (λ b. b == mark_byte kind) at ∙ mine) e))
    ] refl)
    (λ neither. none-either kind bs (b == 91) (goes (Some (size_b_is 0)) (at_cdata 0)) refused
    (λ is.
    let feed : (b == 10) ≡ false = grind (arith, nat_tests) in
    let last : (b == 62) ≡ false = grind (arith, nat_tests) in
    let plain : (b == mark_byte kind) ≡ false = subst (λ b. (b == mark_byte kind) ≡ false) (sym (eqb-true b 91 is)) (no-bracket kind) in
    ap one_further (behind-none kind bs (at_cdata 0) 0 tt (plain-none kind n b bs feed last plain e)))
    (λ none. refl)))
behind-none kind (b ∷ bs) at_comment n h e =
    let f = other_than kind in
    opening-front f b bs at_comment tt
    ∙ none-either kind bs (b == 45) (opens_unless (f of_comment) of_comment 2) refused
    (λ is. none-opens kind bs of_comment 2 (λ same.
    let feed : (b == 10) ≡ false = grind (arith, nat_tests) in
    let last : (b == 62) ≡ false = grind (arith, nat_tests) in
    let kinds = same-kind of_comment kind same in
    let mine : (b == mark_byte kind) ≡ true = subst (λ k. (b == mark_byte k) ≡ true) kinds is in
    let some : 1 ≤ n = h same in
    inside-same f nothing_known of_comment bs false 2
    ∙ subst (λ k. walk mark_next bs false (at_inside k 2) ≡ None) (sym kinds) (fewer-none kind bs false 2 (more_than n) (omega (arith, some)) (byte-none kind n b bs feed last mine e))))
    (λ none. refl)
behind-none kind (b ∷ bs) (at_cdata i) n h e =
    let f = other_than kind in
    let rest = cond ((i == 5) && (b == 91)) (opens_unless (f of_cdata) of_cdata 0) refused in
    opening-front f b bs (at_cdata i) tt
    ∙ none-either kind bs (has_byte_at (codes "CDATA") i (λ c. b == c)) (goes (Some size_b_grows) (at_cdata (more_than i))) rest
    (λ is.
    let letter = cdata-letter i b is in
    let feed : (b == 10) ≡ false = grind (arith, nat_tests) in
    let last : (b == 62) ≡ false = grind (arith, nat_tests) in
    ap one_further (behind-none kind bs (at_cdata (more_than i)) 0 tt (plain-none kind n b bs feed last (no-letter kind b letter) e)))
    (λ other. none-either kind bs ((i == 5) && (b == 91)) (opens_unless (f of_cdata) of_cdata 0) refused
    (λ is. none-opens kind bs of_cdata 0 (λ same.
    let at : b ≡ 91 = eqb-true b 91 (and_parts (i == 5) (b == 91) is).1 in
    let feed : (b == 10) ≡ false = ap (λ b. b == 10) at in
    let last : (b == 62) ≡ false = ap (λ b. b == 62) at in
    let plain : (b == mark_byte kind) ≡ false = subst (λ b. (b == mark_byte kind) ≡ false) (sym at) (no-bracket kind) in
    let kinds = same-kind of_cdata kind same in
    inside-same f nothing_known of_cdata bs false 0
    ∙ subst (λ k. walk mark_next bs false (at_inside k 0) ≡ None) (sym kinds) (plain-none kind n b bs feed last plain e)))
    (λ none. refl))
