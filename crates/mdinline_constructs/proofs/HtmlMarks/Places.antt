-- Places in raw HTML between marks, from byte to byte; and how many bytes there are from each on.
use Rattle.mdinline_constructs.proofs.Prelude.{Name, HtmlTextCdataOpenInside, HtmlTextCommentOpenInside, HtmlTextDeclarationOpen, HtmlTextMarkClose, HtmlTextMarkInside, HtmlTextMarkOpen, Configuration, Local, Sight, is_white, closed_by, none_upto, stopped_at, has_byte_at, more_than, size_b_grows, size_b_is, Bool, List, None, Option, Some, [], ap, arith, cond, false, inl, inr, nat_le, refl, subst, suc, sym, true, zero, ℕ, ◌&&◌, ◌+◌, ◌<◌, ◌==◌, ◌^◌, ◌∙◌, ◌∷◌, ◌≡◌, ◌≤◌, and-false, cases_lt, nat_tests, is_ascii_alphabetic, codes}
use Rattle.mdinline_constructs.proofs.HtmlMarks.Marks.{left-enough, left_to_mark}
use Rattle.mdinline_constructs.proofs.HtmlTexts.Walks.{GoesThroughLines, IsThrough, Move, OfLine, Stop, done, goes, moved, one_further, refused, run}

pub data Mark : Type 0 where
  of_comment : Mark
  of_instruction : Mark
  of_declaration : Mark
  of_cdata : Mark

-- the closing mark of each: a byte, so many times, and `>`
abbrev pub mark_byte : Mark → ℕ
mark_byte of_comment = 45
mark_byte of_instruction = 63
mark_byte of_declaration = 0
mark_byte of_cdata = 93

abbrev pub mark_times : Mark → ℕ
mark_times of_comment = 2
mark_times of_instruction = 1
mark_times of_declaration = 0
mark_times of_cdata = 2

-- Behind `<`; behind `<!`; behind `<!-`; behind `<![` and so many bytes of `CDATA[`; and behind the opening mark, where so many bytes of the
-- closing mark are directly before
pub data MarkPlace : Type 0 where
  at_open : MarkPlace
  at_declaration : MarkPlace
  at_comment : MarkPlace
  at_cdata : ℕ → MarkPlace
  at_inside : Mark → ℕ → MarkPlace

-- the mark is open, and so many of its bytes were read
abbrev pub opens : Mark → ℕ → Move MarkPlace
opens kind n = goes (Some (closed_by (mark_byte kind) (mark_times kind) n)) (at_inside kind n)

-- none of its bytes is directly before
abbrev pub nothing_before : Mark → ℕ → Move MarkPlace
nothing_before kind zero = goes None (at_inside kind 0)
nothing_before kind (suc n) = goes (Some (size_b_is 0)) (at_inside kind 0)

-- unless it is known that none of its kind ends
abbrev pub opens_unless : Bool → Mark → ℕ → Move MarkPlace
opens_unless known kind n = cond known refused (opens kind n)

-- what a byte does, by the kinds of which this is known
abbrev pub mark_move : (known : Mark → Bool) → MarkPlace → ℕ → Move MarkPlace
mark_move known at_open b = cond (b == 63) (opens_unless (known of_instruction) of_instruction 0) (cond (b == 33) (goes None at_declaration) refused)
mark_move known at_declaration b =
    cond (is_ascii_alphabetic b) (opens_unless (known of_declaration) of_declaration 0)
    (cond (b == 45) (goes None at_comment) (cond (b == 91) (goes (Some (size_b_is 0)) (at_cdata 0)) refused))
mark_move known at_comment b = cond (b == 45) (opens_unless (known of_comment) of_comment 2) refused
mark_move known (at_cdata n) b =
    cond (has_byte_at (codes "CDATA") n (λ c. b == c)) (goes (Some size_b_grows) (at_cdata (more_than n)))
    (cond ((n == 5) && (b == 91)) (opens_unless (known of_cdata) of_cdata 0) refused)
mark_move known (at_inside kind n) b =
    cond ((b == 62) && nat_le (mark_times kind) n) done
    (cond (b == mark_byte kind) (goes (Some size_b_grows) (at_inside kind (more_than n)))
    (nothing_before kind n))

-- of none
abbrev pub nothing_known : Mark → Bool
nothing_known kind = false

abbrev pub mark_next : MarkPlace → ℕ → Move MarkPlace
mark_next = mark_move nothing_known

-- the state of a place
abbrev pub mark_name : MarkPlace → Name
mark_name at_open = HtmlTextMarkOpen
mark_name at_declaration = HtmlTextDeclarationOpen
mark_name at_comment = HtmlTextCommentOpenInside
mark_name (at_cdata n) = HtmlTextCdataOpenInside
mark_name (at_inside kind zero) = HtmlTextMarkInside
mark_name (at_inside kind (suc n)) = HtmlTextMarkClose

-- behind some bytes of the closing mark it is the other one
name-behind : (kind : Mark) (n : ℕ) → 0 < n → mark_name (at_inside kind n) ≡ HtmlTextMarkClose
name-behind kind zero h = absurd (omega (arith, h))
name-behind kind (suc n) h = refl

pub name-more : (kind : Mark) (n : ℕ) → mark_name (at_inside kind (more_than n)) ≡ HtmlTextMarkClose
name-more kind n = let some : 0 < more_than n = omega arith in name-behind kind (more_than n) some

-- what is written where the end or a blank line stops a look: its kind does not end up to there. An opening mark is just not there
abbrev pub kind_fails : Mark → Sight → Configuration Unit Unit → Local Unit Unit
kind_fails kind s k = none_upto (mark_byte kind) (stopped_at s.current s.point.index) k

abbrev pub mark_gives_up : MarkPlace → Stop
mark_gives_up at_open = None
mark_gives_up at_declaration = None
mark_gives_up at_comment = None
mark_gives_up (at_cdata n) = None
mark_gives_up (at_inside kind n) = Some (kind_fails kind)

times-few : (kind : Mark) → mark_times kind ≤ 2
times-few of_comment = omega arith
times-few of_instruction = omega arith
times-few of_declaration = omega arith
times-few of_cdata = omega arith

-- from there on
pub nothing-left : (kind : Mark) (n : ℕ) (f : MarkPlace → Option ℕ) → moved f (nothing_before kind n) ≡ one_further (f (at_inside kind 0))
nothing-left kind zero f = refl
nothing-left kind (suc n) f = refl

-- from behind the opening mark on
pub inside-left : (kind : Mark) (text : List ℕ) (n : ℕ) → run mark_next text (at_inside kind n) ≡ left_to_mark (mark_byte kind) (mark_times kind) n text
inside-left kind [] n = refl
inside-left kind (b ∷ bs) n =
    let m = mark_byte kind in
    let c = mark_times kind in
    let few : c ≤ 2 = times-few kind in
    let grown : left_to_mark m c (more_than n) bs ≡ left_to_mark m c (n + 1) bs =
    elim (cases_lt (n + 1) (2 ^ 64)) [
      | inl room ↦ let same : more_than n ≡ n + 1 = omega (arith, room) in ap (λ k. left_to_mark m c k bs) same
      | inr full ↦ left-enough m c bs (more_than n) (n + 1) (omega (arith, full, few)) (omega (arith, full, few))
    ] in
    elim ((b == 62) && nat_le c n) as (λ t.
    moved (run mark_next bs) (cond t done (cond (b == m) (goes (Some size_b_grows) (at_inside kind (more_than n))) (nothing_before kind n)))
    ≡ cond t (Some 1) (one_further (left_to_mark m c (cond (b == m) (n + 1) 0) bs))) [
      | true ↦ refl
      | false ↦ elim (b == m) as (λ t. moved (run mark_next bs) (cond t (goes (Some size_b_grows) (at_inside kind (more_than n))) (nothing_before kind n))
          ≡ one_further (left_to_mark m c (cond t (n + 1) 0) bs)) [
            | true ↦ ap one_further (inside-left kind bs (more_than n) ∙ grown)
            | false ↦ nothing-left kind n (run mark_next bs) ∙ ap one_further (inside-left kind bs 0)
          ]
    ]

-- at a line feed: the mark is not yet open, or nothing of the closing mark is before
cdata-feed : (n : ℕ) → has_byte_at (codes "CDATA") n (λ c. 10 == c) ≡ false
cdata-feed zero = refl
cdata-feed (suc zero) = refl
cdata-feed (suc (suc zero)) = refl
cdata-feed (suc (suc (suc zero))) = refl
cdata-feed (suc (suc (suc (suc zero)))) = refl
cdata-feed (suc (suc (suc (suc (suc n))))) = refl

-- there are five letters in it
pub cdata-few : (n b : ℕ) → has_byte_at (codes "CDATA") n (λ c. b == c) ≡ true → n < 5
cdata-few zero b h = omega arith
cdata-few (suc zero) b h = omega arith
cdata-few (suc (suc zero)) b h = omega arith
cdata-few (suc (suc (suc zero))) b h = omega arith
cdata-few (suc (suc (suc (suc zero)))) b h = omega arith
cdata-few (suc (suc (suc (suc (suc n))))) b h = absurd (cc)

pub cdata-line : (known : Mark → Bool) (n : ℕ) → mark_move known (at_cdata n) 10 ≡ refused
cdata-line known n =
    let last : ((n == 5) && (10 == 91)) ≡ false = and-false (n == 5) in
    λ i. cond (cdata-feed n i) (goes (Some size_b_grows) (at_cdata (more_than n))) (cond (last i) (opens_unless (known of_cdata) of_cdata 0) refused)

pub no-feed : (kind : Mark) → (10 == mark_byte kind) ≡ false
no-feed of_comment = refl
no-feed of_instruction = refl
no-feed of_declaration = refl
no-feed of_cdata = refl

pub inside-line : (known : Mark → Bool) (kind : Mark) (n : ℕ) → mark_move known (at_inside kind n) 10 ≡ nothing_before kind n
inside-line known kind n = λ i. cond (no-feed kind i) (goes (Some size_b_grows) (at_inside kind (more_than n))) (nothing_before kind n)

pub white-other : (kind : Mark) (b : ℕ) → is_white b ≡ true → (b == mark_byte kind) ≡ false
white-other of_comment b h = grind (arith, nat_tests)
white-other of_instruction b h = grind (arith, nat_tests)
white-other of_declaration b h = grind (arith, nat_tests)
white-other of_cdata b h = grind (arith, nat_tests)

module _ (known : Mark → Bool) where
  -- there white space changes nothing
  through-white : (kind : Mark) → IsThrough (mark_move known) (at_inside kind 0)
  through-white kind b white =
      let last : (b == 62) ≡ false = grind (arith, nat_tests) in
      let others = white-other kind b white in
      λ i. cond (last i && nat_le (mark_times kind) 0) done (cond (others i) (goes (Some size_b_grows) (at_inside kind (more_than 0))) (goes None (at_inside kind 0)))

  nothing-through : (kind : Mark) (n : ℕ) → OfLine (mark_move known) (nothing_before kind n)
  nothing-through kind zero = through-white kind
  nothing-through kind (suc n) = through-white kind

  pub marks-go-through-lines : GoesThroughLines (mark_move known)
  marks-go-through-lines at_open = tt
  marks-go-through-lines at_declaration = tt
  marks-go-through-lines at_comment = tt
  marks-go-through-lines (at_cdata n) = subst (OfLine (mark_move known)) (sym (cdata-line known n)) tt
  marks-go-through-lines (at_inside kind n) = subst (OfLine (mark_move known)) (sym (inside-line known kind n)) (nothing-through kind n)
