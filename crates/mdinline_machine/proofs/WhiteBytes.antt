-- White space in inline text, by its bytes: whether it is spaces alone, what is there of the constructs that begin with it, and how data goes over it.
use Rattle.std.proofs.lemmas.Bool.{le-leb}
use Rattle.mdinline_machine.proofs.Prelude.{◌≡◌, ◌⊎◌, inl, inr, ℕ, suc, ◌+◌, ◌&&◌, ◌||◌, not, List, [], ◌∷◌, Bool, true, false, cond, Option, Some, None, refl, sym, ap, ◌∙◌, arith, and-false, nat_tests, drop, prefix_len, nat_le, slice_get, Constructs, EventName, HardBreakTrailing, SpaceOrTab, is_white, has_byte_at, is_line_feed, is_space, passes, Found, first_there, if_on, or_else, item_length, or-none, hard_break_trailing, trailing_break_at, is_white_left, white_space, white_space_at, ends_data_at, up_to, white_grammars, plain}
use Rattle.mdinline_machine.proofs.InlineApart.{white-plain}

-- What white space was read: one space, more spaces, or some with a tab
pub data White : Type 0 where
  one_space : White
  spaces : White
  tabbed : White

-- what it is with one byte more, a space or a tab
abbrev pub further : White → (space : Bool) → White
further one_space space = cond space spaces tabbed
further spaces space = cond space spaces tabbed
further tabbed space = tabbed

-- what a first byte is
abbrev pub first_white : ℕ → White
first_white b = cond (is_space b) one_space tabbed

-- with all the white space that comes next
abbrev pub whole : White → List ℕ → White
whole w [] = w
whole w (b ∷ bs) = cond (is_white b) (whole (further w (is_space b)) bs) w

-- two spaces or more, and no tab
abbrev pub are_spaces : White → Bool
are_spaces spaces = true
are_spaces _ = false

-- a tab stays in it
tabbed-stays : (bs : List ℕ) → whole tabbed bs ≡ tabbed
tabbed-stays [] = refl
tabbed-stays (b ∷ bs) = elim (is_white b) as (λ t. cond t (whole tabbed bs) tabbed ≡ tabbed) [ true ↦ tabbed-stays bs | false ↦ refl ]

-- a run at the front, with one byte more
pub run-more : (p : ℕ → Bool) (b : ℕ) (bs : List ℕ) (t : Bool) → p b ≡ t → prefix_len p (b ∷ bs) ≡ cond t (suc (prefix_len p bs)) 0
run-more p b bs true h = ap (λ t. cond t (1 + prefix_len p bs) 0) h ∙ (let one : 1 + prefix_len p bs ≡ suc (prefix_len p bs) = omega arith in one)
run-more p b bs false h = ap (λ t. cond t (1 + prefix_len p bs) 0) h

-- Behind a space white space is spaces up to its end; or a tab is in it, and then no line ending is behind its first spaces
abbrev SpacesOrTab : White → List ℕ → Type 0
SpacesOrTab w bs =
    ((prefix_len is_space bs ≡ prefix_len is_white bs) × (whole w bs ≡ cond (nat_le 1 (prefix_len is_space bs)) spaces w)) ⊎ ((whole w bs ≡ tabbed) × (has_byte_at bs (prefix_len is_space bs) is_line_feed ≡ false))

both-spaces : (t : Bool) → cond t spaces spaces ≡ spaces
both-spaces true = refl
both-spaces false = refl

two-is-one-more : (n : ℕ) → nat_le 2 (suc n) ≡ nat_le 1 n
two-is-one-more n = elim (nat_le 1 n) as (λ t. nat_le 1 n ≡ t → nat_le 2 (suc n) ≡ t) [ true ↦ λ e. grind (arith, nat_tests) | false ↦ λ e. grind (arith, nat_tests) ] refl

spaces-or-tab : (w : White) → ((s : Bool) → further w s ≡ cond s spaces tabbed) → (bs : List ℕ) → SpacesOrTab w bs
spaces-or-tab w next [] = inl (refl, refl)
spaces-or-tab w next (b ∷ bs) =
    elim (is_space b) as (λ t. is_space b ≡ t → SpacesOrTab w (b ∷ bs)) [
      | true ↦ λ e.
          let white : is_white b ≡ true = grind (arith, nat_tests) in
          let k = prefix_len is_space bs in
          let ps : prefix_len is_space (b ∷ bs) ≡ suc k = run-more is_space b bs true e in
          let pw : prefix_len is_white (b ∷ bs) ≡ suc (prefix_len is_white bs) = run-more is_white b bs true white in
          let more : whole w (b ∷ bs) ≡ whole spaces bs = ap (λ t. cond t (whole (further w (is_space b)) bs) w) white ∙ ap (λ v. whole v bs) (next (is_space b) ∙ ap (λ t. cond t spaces tabbed) e) in
          elim (spaces-or-tab spaces (λ s. refl) bs) [
            | inl (same, is) ↦ inl (
              ps ∙ ap suc same ∙ sym pw,
              more ∙ is ∙ both-spaces (nat_le 1 k) ∙ sym (ap (λ n. cond (nat_le 1 n) spaces w) ps ∙ ap (λ t. cond t spaces w) (le-leb 1 (suc k) (omega arith))),
            )
            | inr (is, none) ↦ inr (more ∙ is, ap (λ n. has_byte_at (b ∷ bs) n is_line_feed) ps ∙ none)
          ]
      | false ↦ λ other.
          let ps : prefix_len is_space (b ∷ bs) ≡ 0 = run-more is_space b bs false other in
          elim (is_white b) as (λ t. is_white b ≡ t → SpacesOrTab w (b ∷ bs)) [
            | true ↦ λ white.
                let line : is_line_feed b ≡ false = grind (arith, nat_tests) in
                let more : whole w (b ∷ bs) ≡ whole tabbed bs = ap (λ t. cond t (whole (further w (is_space b)) bs) w) white ∙ ap (λ v. whole v bs) (next (is_space b) ∙ ap (λ t. cond t spaces tabbed) other) in
                inr (more ∙ tabbed-stays bs, ap (λ n. has_byte_at (b ∷ bs) n is_line_feed) ps ∙ line)
            | false ↦ λ none.
                let pw : prefix_len is_white (b ∷ bs) ≡ 0 = run-more is_white b bs false none in
                let same : whole w (b ∷ bs) ≡ w = ap (λ t. cond t (whole (further w (is_space b)) bs) w) none in
                inl (ps ∙ sym pw, same ∙ sym (ap (λ n. cond (nat_le 1 n) spaces w) ps))
          ] refl
    ] refl

spaces-test : (t : Bool) → are_spaces (cond t spaces one_space) ≡ t
spaces-test true = refl
spaces-test false = refl

-- A hard break is there exactly if the white space is two spaces or more, and a line ending is behind it
pub break-is : (b : ℕ) (bs : List ℕ) → is_white b ≡ true
    → let n = prefix_len is_white (b ∷ bs) in trailing_break_at (b ∷ bs) ≡ cond (are_spaces (whole (first_white b) bs) && has_byte_at (b ∷ bs) n is_line_feed) (Some (hard_break_trailing n)) None
break-is b bs white =
    let n = prefix_len is_white (b ∷ bs) in
    let there : ℕ → Bool → Option Found = λ k t. cond (t && has_byte_at (b ∷ bs) k is_line_feed) (Some (hard_break_trailing k)) None in
    elim (is_space b) as (λ t. is_space b ≡ t → trailing_break_at (b ∷ bs) ≡ there n (are_spaces (whole (cond t one_space tabbed) bs))) [
      | true ↦ λ e.
          let k = prefix_len is_space bs in
          let ps : prefix_len is_space (b ∷ bs) ≡ suc k = run-more is_space b bs true e in
          let pw : n ≡ suc (prefix_len is_white bs) = run-more is_white b bs true white in
          elim (spaces-or-tab one_space (λ s. refl) bs) [
            | inl (same, is) ↦
                let all : suc k ≡ n = ap suc same ∙ sym pw in
                ap (λ j. there j (nat_le 2 j)) ps ∙ ap (λ t. there (suc k) t) (two-is-one-more k ∙ sym (spaces-test (nat_le 1 k)) ∙ sym (ap are_spaces is)) ∙ ap (λ j. there j (are_spaces (whole one_space bs))) all
            | inr (is, none) ↦
                let line : has_byte_at (b ∷ bs) (suc k) is_line_feed ≡ false = none in
                ap (λ j. there j (nat_le 2 j)) ps ∙ ap (λ t. cond (nat_le 2 (suc k) && t) (Some (hard_break_trailing (suc k))) None) line
                ∙ ap (λ t. cond t (Some (hard_break_trailing (suc k))) None) (and-false (nat_le 2 (suc k))) ∙ sym (ap (λ v. there n (are_spaces v)) is)
          ]
      | false ↦ λ tab.
          let ps : prefix_len is_space (b ∷ bs) ≡ 0 = run-more is_space b bs false tab in
          ap (λ j. there j (nat_le 2 j)) ps ∙ sym (ap (λ v. there n (are_spaces v)) (tabbed-stays bs))
    ] refl

-- the name of the span of white space at the end of a line: it is a hard break or not
abbrev pub white_name : Bool → EventName
white_name breaks = cond breaks HardBreakTrailing SpaceOrTab

-- and what is found
abbrev pub found_white : Bool → ℕ → Found
found_white breaks n = cond breaks (hard_break_trailing n) (white_space n)

pub found-size : (breaks : Bool) (n : ℕ) → item_length (found_white breaks n) ≡ n
found-size true n = refl
found-size false n = refl

-- nothing: no bytes, and no events
abbrev pub no_item : Found
no_item = record { size = 0; mark = plain; events = λ bytes seats. [] }

picked-so : (x y z : Bool) (n : ℕ) → or_else (if_on z (cond (x && y) (Some (hard_break_trailing n)) None)) (white_space n) ≡ found_white (x && (y && z)) n
picked-so true true true n = refl
picked-so true true false n = refl
picked-so true false true n = refl
picked-so true false false n = refl
picked-so false true true n = refl
picked-so false true false n = refl
picked-so false false true n = refl
picked-so false false false n = refl

-- where more of the line is left, no line ending follows
not-ended : (o : Option ℕ) → not (passes (λ c. not (is_line_feed c)) o) ≡ false → passes is_line_feed o ≡ false
not-ended None h = refl
not-ended (Some c) h = elim (is_line_feed c) as (λ t. not (not t) ≡ false → t ≡ false) [ true ↦ λ i. i | false ↦ λ i. refl ] h

-- white space changes nothing of what is left of a line
pub left-behind : (b : ℕ) (bs : List ℕ) → is_white b ≡ true → is_white_left (b ∷ bs) ≡ is_white_left bs
left-behind b bs is = ap (λ n. not (has_byte_at (b ∷ bs) n (λ c. not (is_line_feed c)))) (run-more is_white b bs true is)

module _ (on : Constructs) where
  -- what is there of the constructs that begin with white space, and else this
  abbrev pub white_or : List ℕ → Found → Found
  white_or bs other = first_there white_grammars on bs other

  -- whether the white space at the front is a hard break, by what it is and whether a line ending follows
  abbrev pub breaks_line : White → (line : Bool) → Bool
  breaks_line w line = are_spaces w && (line && on.hard_break_trailing)

  -- all of it, at the end of a line
  pub white-ends : (b : ℕ) (bs : List ℕ) (other : Found) → is_white b ≡ true → is_white_left (b ∷ bs) ≡ true
      → let n = prefix_len is_white (b ∷ bs) in white_or (b ∷ bs) other ≡ found_white (breaks_line (whole (first_white b) bs) (has_byte_at (b ∷ bs) n is_line_feed)) n
  white-ends b bs other is left =
      let n = prefix_len is_white (b ∷ bs) in
      let there : white_space_at (b ∷ bs) ≡ Some (white_space n) = (λ i. cond (is i && left i) (Some (white_space n)) None) in
      ap (λ o. or_else (if_on on.hard_break_trailing o) (or_else (white_space_at (b ∷ bs)) other)) (break-is b bs is)
      ∙ ap (λ o. or_else (if_on on.hard_break_trailing (cond (are_spaces (whole (first_white b) bs) && has_byte_at (b ∷ bs) n is_line_feed) (Some (hard_break_trailing n)) None)) (or_else o other)) there
      ∙ picked-so (are_spaces (whole (first_white b) bs)) (has_byte_at (b ∷ bs) n is_line_feed) on.hard_break_trailing n

  -- nothing, if more of the line is left
  pub white-goes-on : (b : ℕ) (bs : List ℕ) (other : Found) → is_white b ≡ true → is_white_left (b ∷ bs) ≡ false → white_or (b ∷ bs) other ≡ other
  white-goes-on b bs other is left =
      let n = prefix_len is_white (b ∷ bs) in
      let line : has_byte_at (b ∷ bs) n is_line_feed ≡ false = not-ended (slice_get (b ∷ bs) n) left in
      let spaces_there = are_spaces (whole (first_white b) bs) in
      let none : trailing_break_at (b ∷ bs) ≡ None = break-is b bs is ∙ ap (λ t. cond (spaces_there && t) (Some (hard_break_trailing n)) None) line ∙ ap (λ t. cond t (Some (hard_break_trailing n)) None) (and-false spaces_there) in
      let nothing : white_space_at (b ∷ bs) ≡ None = (λ i. cond (is i && left i) (Some (white_space n)) None) in
      or-none on.hard_break_trailing (trailing_break_at (b ∷ bs)) (or_else (white_space_at (b ∷ bs)) other) none ∙ ap (λ o. or_else o other) nothing

  -- nor at another byte
  pub white-none : (b : ℕ) (bs : List ℕ) (other : Found) → is_white b ≡ false → white_or (b ∷ bs) other ≡ other
  white-none b bs other h =
      let space : is_space b ≡ false = grind (arith, nat_tests) in
      let n = prefix_len is_white (b ∷ bs) in
      let none : trailing_break_at (b ∷ bs) ≡ None = ap (λ k. cond (nat_le 2 k && has_byte_at (b ∷ bs) k is_line_feed) (Some (hard_break_trailing k)) None) (run-more is_space b bs false space) in
      let nothing : white_space_at (b ∷ bs) ≡ None = ap (λ t. cond (t && is_white_left (b ∷ bs)) (Some (white_space n)) None) h in
      or-none on.hard_break_trailing (trailing_break_at (b ∷ bs)) (or_else (white_space_at (b ∷ bs)) other) none ∙ ap (λ o. or_else o other) nothing

  -- nor at the end
  pub white-last : (other : Found) → white_or [] other ≡ other
  white-last other = or-none on.hard_break_trailing None other refl

  -- data goes over white space that its line does not end with
  pub over-white : (bs : List ℕ) → is_white_left bs ≡ false → let n = prefix_len is_white bs in up_to (ends_data_at on) bs ≡ n + up_to (ends_data_at on) (drop n bs)
  over-white [] left = omega arith
  over-white (b ∷ bs) left =
      let ends = ends_data_at on in
      elim (is_white b) as (λ t. is_white b ≡ t → let n = prefix_len is_white (b ∷ bs) in up_to ends (b ∷ bs) ≡ n + up_to ends (drop n (b ∷ bs))) [
        | true ↦ λ is.
            let n = prefix_len is_white bs in
            let there : ends (b ∷ bs) ≡ false = (λ i. (white-plain on b is i) || (is i && left i)) in
            let more : up_to ends (b ∷ bs) ≡ 1 + up_to ends bs = ap (λ t. cond t 0 (1 + up_to ends bs)) there in
            let one : prefix_len is_white (b ∷ bs) ≡ suc n = run-more is_white b bs true is in
            let rest = over-white bs (sym (left-behind b bs is) ∙ left) in
            let sum : 1 + up_to ends bs ≡ suc n + up_to ends (drop n bs) = omega (arith, rest) in
            more ∙ sum ∙ sym (ap (λ k. k + up_to ends (drop k (b ∷ bs))) one)
        | false ↦ λ other.
            let none : prefix_len is_white (b ∷ bs) ≡ 0 = run-more is_white b bs false other in
            let sum : up_to ends (b ∷ bs) ≡ 0 + up_to ends (b ∷ bs) = omega arith in
            sum ∙ sym (ap (λ k. k + up_to ends (drop k (b ∷ bs))) none)
      ] refl
