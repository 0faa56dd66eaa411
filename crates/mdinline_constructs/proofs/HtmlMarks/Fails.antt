-- Where it is known of kinds that none ends, no mark is lost if they are not opened; and what is known once a look has failed.
use Rattle.mdinline_constructs.proofs.Prelude.{Configuration, Local, is_white, has_byte_at, more_than, size_b_grows, size_b_is, Bool, List, None, Option, Some, [], ap, arith, cond, false, inl, inr, nat_le, refl, subst, suc, sym, true, zero, ℕ, ◌&&◌, ◌-◌, ◌<◌, ◌==◌, ◌∙◌, ◌∷◌, ◌≡◌, ◌≤◌, ◌⊎◌, and_parts, eqb-true, nat_tests, is_ascii_alphabetic, codes}
use Rattle.mdinline_constructs.proofs.HtmlMarks.Known.{IsOpening, behind-none, cdata-letter, feed-refused, inside-same, none-further, of_kind, opening-front, other_than}
use Rattle.mdinline_constructs.proofs.HtmlMarks.Places.{Mark, MarkPlace, at_cdata, at_comment, at_declaration, at_inside, at_open, cdata-few, inside-line, kind_fails, mark_byte, mark_gives_up, mark_move, mark_next, mark_times, nothing-left, nothing_before, nothing_known, of_cdata, of_comment, of_declaration, of_instruction, opens, opens_unless}
use Rattle.mdinline_constructs.proofs.HtmlTexts.Walks.{Move, Stop, done, goes, gone_over, looked, moved, one_further, refused, stop_behind, stop_of, walk}

module _ (known : Mark → Bool) (bs : List ℕ) where
  -- what is left from a place on, by what is known; with nothing known; and of one kind alone
  abbrev V : MarkPlace → Option ℕ
  V = walk (mark_move known) bs false

  abbrev N : MarkPlace → Option ℕ
  N = walk mark_next bs false

  abbrev O : Mark → MarkPlace → Option ℕ
  O kind = walk (mark_move (other_than kind)) bs false

  -- a place from which nothing is lost, if the kinds of which it is known are not there
  abbrev IsRight : MarkPlace → Type 0
  IsRight s = ((kind : Mark) → known kind ≡ true → O kind s ≡ None) → V s ≡ N s

  -- so of a move, which is by what is known
  abbrev IsRightMove : ((Mark → Bool) → Move MarkPlace) → Type 0
  IsRightMove m = ((kind : Mark) → known kind ≡ true → moved (O kind) (m (other_than kind)) ≡ None) → moved V (m known) ≡ moved N (m nothing_known)

  either-right : (t : Bool) (x y : (Mark → Bool) → Move MarkPlace) → IsRightMove x → IsRightMove y → IsRightMove (λ f. cond t (x f) (y f))
  either-right true x y h i = h
  either-right false x y h i = i

  goes-right : (w : Option (Configuration Unit Unit → Local Unit Unit)) (s : MarkPlace) → IsRight s → IsRightMove (λ f. goes w s)
  goes-right w s h none = ap one_further (h (λ kind is. none-further (O kind s) (none kind is)))

  -- a mark that opens is there if nothing is known of its kind, and else nothing is
  opens-right : (k : Mark) (n : ℕ) → (other_than k k) ≡ false → IsRightMove (λ f. opens_unless (f k) k n)
  opens-right k n self none =
      elim (known k) as (λ t. known k ≡ t → moved V (opens_unless t k n) ≡ one_further (N (at_inside k n))) [
        | true ↦ λ is.
            let gone : one_further (O k (at_inside k n)) ≡ None = sym (ap (λ t. moved (O k) (opens_unless t k n)) self) ∙ none k is in
            sym (ap one_further (inside-same nothing_known (other_than k) k bs false n) ∙ gone)
        | false ↦ λ is. ap one_further (inside-same known nothing_known k bs false n)
      ] refl

-- from any place behind `<` on
right-from : (known : Mark → Bool) (bs : List ℕ) (s : MarkPlace) → IsRight known bs s
right-from known [] s none = refl
right-from known (b ∷ bs) (at_inside k n) none = inside-same known nothing_known k (b ∷ bs) false n
right-from known (b ∷ bs) at_open none =
    opening-front known b bs at_open tt
    ∙ either-right known bs (b == 63) (λ f. opens_unless (f of_instruction) of_instruction 0) (λ f. cond (b == 33) (goes None at_declaration) refused)
    (opens-right known bs of_instruction 0 refl)
    (either-right known bs (b == 33) (λ f. goes None at_declaration) (λ f. refused) (goes-right known bs None at_declaration (right-from known bs at_declaration)) (λ h. refl))
    (λ kind is. sym (opening-front (other_than kind) b bs at_open tt) ∙ none kind is)
    ∙ sym (opening-front nothing_known b bs at_open tt)
right-from known (b ∷ bs) at_declaration none =
    opening-front known b bs at_declaration tt
    ∙ either-right known bs (is_ascii_alphabetic b) (λ f. opens_unless (f of_declaration) of_declaration 0)
    (λ f. cond (b == 45) (goes None at_comment) (cond (b == 91) (goes (Some (size_b_is 0)) (at_cdata 0)) refused))
    (opens-right known bs of_declaration 0 refl)
    (either-right known bs (b == 45) (λ f. goes None at_comment) (λ f. cond (b == 91) (goes (Some (size_b_is 0)) (at_cdata 0)) refused) (goes-right known bs None at_comment (right-from known bs at_comment))
    (either-right known bs (b == 91) (λ f. goes (Some (size_b_is 0)) (at_cdata 0)) (λ f. refused) (goes-right known bs (Some (size_b_is 0)) (at_cdata 0) (right-from known bs (at_cdata 0))) (λ h. refl)))
    (λ kind is. sym (opening-front (other_than kind) b bs at_declaration tt) ∙ none kind is)
    ∙ sym (opening-front nothing_known b bs at_declaration tt)
right-from known (b ∷ bs) at_comment none =
    opening-front known b bs at_comment tt
    ∙ either-right known bs (b == 45) (λ f. opens_unless (f of_comment) of_comment 2) (λ f. refused) (opens-right known bs of_comment 2 refl) (λ h. refl)
    (λ kind is. sym (opening-front (other_than kind) b bs at_comment tt) ∙ none kind is)
    ∙ sym (opening-front nothing_known b bs at_comment tt)
right-from known (b ∷ bs) (at_cdata i) none =
    opening-front known b bs (at_cdata i) tt
    ∙ either-right known bs (has_byte_at (codes "CDATA") i (λ c. b == c)) (λ f. goes (Some size_b_grows) (at_cdata (more_than i))) (λ f. cond ((i == 5) && (b == 91)) (opens_unless (f of_cdata) of_cdata 0) refused)
    (goes-right known bs (Some size_b_grows) (at_cdata (more_than i)) (right-from known bs (at_cdata (more_than i))))
    (either-right known bs ((i == 5) && (b == 91)) (λ f. opens_unless (f of_cdata) of_cdata 0) (λ f. refused) (opens-right known bs of_cdata 0 refl) (λ h. refl))
    (λ kind is. sym (opening-front (other_than kind) b bs (at_cdata i) tt) ∙ none kind is)
    ∙ sym (opening-front nothing_known b bs (at_cdata i) tt)

-- So nothing is lost by what is known, if it is right
pub known-right : (known : Mark → Bool) (bs : List ℕ) → ((kind : Mark) → known kind ≡ true → of_kind kind bs ≡ None) → walk (mark_move known) bs false at_open ≡ walk mark_next bs false at_open
known-right known bs none = right-from known bs at_open none

-- ---- Among so many bytes at the front no mark of a kind begins that ends
abbrev pub NoneBegins : Mark → List ℕ → ℕ → Type 0
NoneBegins kind [] n = Unit {0}
NoneBegins kind (b ∷ bs) zero = Unit {0}
NoneBegins kind (b ∷ bs) (suc n) = ((b == 60) ≡ true → of_kind kind bs ≡ None) × NoneBegins kind bs n

-- what holds of a move to the place where none of it is before
nothing-failed : (kind : Mark) (n : ℕ) (P : Move MarkPlace → Type 0) → ((w : Option (Configuration Unit Unit → Local Unit Unit)) → P (goes w (at_inside kind 0))) → P (nothing_before kind n)
nothing-failed kind zero P h = h None
nothing-failed kind (suc n) P h = h (Some (size_b_is 0))

-- what is not there of any kind is not there of one
module _ (kind : Mark) (bs : List ℕ) where
  abbrev IsLess : (x y : Move MarkPlace) → Type 0
  IsLess x y = moved (walk mark_next bs false) x ≡ None → moved (walk (mark_move (other_than kind)) bs false) y ≡ None

  either-less : (t : Bool) (x y x' y' : Move MarkPlace) → IsLess x x' → IsLess y y' → IsLess (cond t x y) (cond t x' y')
  either-less true x y x' y' h i = h
  either-less false x y x' y' h i = i

  goes-less : (w : Option (Configuration Unit Unit → Local Unit Unit)) (s : MarkPlace) → (walk mark_next bs false s ≡ None → walk (mark_move (other_than kind)) bs false s ≡ None) → IsLess (goes w s) (goes w s)
  goes-less w s h e = ap one_further (h (none-further (walk mark_next bs false s) e))

  opens-less : (k : Mark) (n : ℕ) (t : Bool) → IsLess (opens k n) (opens_unless t k n)
  opens-less k n true e = refl
  opens-less k n false e = ap one_further (inside-same (other_than kind) nothing_known k bs false n) ∙ e

fewer-kinds : (bs : List ℕ) (s : MarkPlace) → IsOpening s → (kind : Mark) → walk mark_next bs false s ≡ None → walk (mark_move (other_than kind)) bs false s ≡ None
fewer-kinds bs (at_inside k n) opening kind e = absurd opening
fewer-kinds [] s opening kind e = refl
fewer-kinds (b ∷ bs) at_open opening kind e =
    let f = other_than kind in
    opening-front f b bs at_open tt
    ∙ either-less kind bs (b == 63) (opens of_instruction 0) (cond (b == 33) (goes None at_declaration) refused) (opens_unless (f of_instruction) of_instruction 0) (cond (b == 33) (goes None at_declaration) refused)
    (opens-less kind bs of_instruction 0 (f of_instruction))
    (either-less kind bs (b == 33) (goes None at_declaration) refused (goes None at_declaration) refused (goes-less kind bs None at_declaration (fewer-kinds bs at_declaration tt kind)) (λ e. refl))
    (sym (opening-front nothing_known b bs at_open tt) ∙ e)
fewer-kinds (b ∷ bs) at_declaration opening kind e =
    let f = other_than kind in
    let third = cond (b == 91) (goes (Some (size_b_is 0)) (at_cdata 0)) refused in
    opening-front f b bs at_declaration tt
    ∙ either-less kind bs (is_ascii_alphabetic b) (opens of_declaration 0) (cond (b == 45) (goes None at_comment) third) (opens_unless (f of_declaration) of_declaration 0) (cond (b == 45) (goes None at_comment) third)
    (opens-less kind bs of_declaration 0 (f of_declaration))
    (either-less kind bs (b == 45) (goes None at_comment) third (goes None at_comment) third (goes-less kind bs None at_comment (fewer-kinds bs at_comment tt kind))
    (either-less kind bs (b == 91) (goes (Some (size_b_is 0)) (at_cdata 0)) refused (goes (Some (size_b_is 0)) (at_cdata 0)) refused (goes-less kind bs (Some (size_b_is 0)) (at_cdata 0) (fewer-kinds bs (at_cdata 0) tt kind)) (λ e. refl)))
    (sym (opening-front nothing_known b bs at_declaration tt) ∙ e)
fewer-kinds (b ∷ bs) at_comment opening kind e =
    let f = other_than kind in
    opening-front f b bs at_comment tt
    ∙ either-less kind bs (b == 45) (opens of_comment 2) refused (opens_unless (f of_comment) of_comment 2) refused (opens-less kind bs of_comment 2 (f of_comment)) (λ e. refl)
    (sym (opening-front nothing_known b bs at_comment tt) ∙ e)
fewer-kinds (b ∷ bs) (at_cdata i) opening kind e =
    let f = other_than kind in
    let n = goes (Some size_b_grows) (at_cdata (more_than i)) in
    opening-front f b bs (at_cdata i) tt
    ∙ either-less kind bs (has_byte_at (codes "CDATA") i (λ c. b == c)) n (cond ((i == 5) && (b == 91)) (opens of_cdata 0) refused) n (cond ((i == 5) && (b == 91)) (opens_unless (f of_cdata) of_cdata 0) refused)
    (goes-less kind bs (Some size_b_grows) (at_cdata (more_than i)) (fewer-kinds bs (at_cdata (more_than i)) tt kind))
    (either-less kind bs ((i == 5) && (b == 91)) (opens of_cdata 0) refused (opens_unless (f of_cdata) of_cdata 0) refused (opens-less kind bs of_cdata 0 (f of_cdata)) (λ e. refl))
    (sym (opening-front nothing_known b bs (at_cdata i) tt) ∙ e)

-- behind so many bytes is the end, or a line feed
abbrev pub IsLineAt : List ℕ → ℕ → Type 0
IsLineAt [] n = Unit {0}
IsLineAt (b ∷ bs) zero = (b == 10) ≡ true
IsLineAt (b ∷ bs) (suc n) = IsLineAt bs n

-- what is known once a look for a kind has failed that went over so many bytes: that no mark of the kind among them ends, which is written; and it
-- stops at the end, or at a line feed
abbrev pub IsFailed : Mark → List ℕ → (over : ℕ) → Stop → Type 0
IsFailed kind bs over stop = NoneBegins kind bs over × IsLineAt bs over × (stop ≡ Some (kind_fails kind))

module _ (known : Mark → Bool) where
  abbrev move : MarkPlace → ℕ → Move MarkPlace
  move = mark_move known

  -- A look from behind an opening mark
  pub inside-fails : (kind : Mark) (bs : List ℕ) (line : Bool) (n : ℕ) → walk move bs line (at_inside kind n) ≡ None
      → IsFailed kind bs (looked move bs line (at_inside kind n)) (stop_of move mark_gives_up bs line (at_inside kind n))
  inside-fails kind [] line n e = (tt, tt, refl)
  inside-fails kind (b ∷ bs) line n e =
      let W = λ (l : Bool). walk move bs l in
      let L = λ (l : Bool). looked move bs l in
      let T = λ (l : Bool). stop_of move mark_gives_up bs l in
      let here = at_inside kind n in
      let Here = λ (l : Bool) (m : Move MarkPlace). IsFailed kind (b ∷ bs) (gone_over (L l) m) (stop_behind (T l) m) in
      let begins : (i : ℕ) → W false (at_inside kind i) ≡ None → of_kind kind bs ≡ None = λ i e. behind-none kind bs at_open i tt (inside-same nothing_known known kind bs false i ∙ e) in
      let all = λ (t u : Bool). cond t done (cond u (goes (Some size_b_grows) (at_inside kind (more_than n))) (nothing_before kind n)) in
      let on : (l : Bool) (i : ℕ) → ((b == 60) ≡ true → l ≡ false) → W l (at_inside kind i) ≡ None → IsFailed kind (b ∷ bs) (suc (L l (at_inside kind i))) (T l (at_inside kind i)) =
      λ l i only none.
      let (rest, lines, stop) = inside-fails kind bs l i none in
      ((λ at. begins i (subst (λ l. W l (at_inside kind i) ≡ None) (only at) none), rest), lines, stop) in
      let nothing : (l : Bool) → ((b == 60) ≡ true → l ≡ false) → moved (W l) (nothing_before kind n) ≡ None → Here l (nothing_before kind n) =
      λ l only e. nothing-failed kind n (λ m. IsFailed kind (b ∷ bs) (gone_over (L l) m) (stop_behind (T l) m)) (λ w. on l 0 only (none-further (W l (at_inside kind 0)) (sym (nothing-left kind n (W l)) ∙ e))) in
      elim (b == 10) as (λ t. (b == 10) ≡ t → cond t (cond line None (moved (W true) (move here b))) (cond (line && is_white b) (one_further (W true here)) (moved (W false) (move here b))) ≡ None
      → IsFailed kind (b ∷ bs) (cond t (cond line 0 (gone_over (L true) (move here b))) (cond (line && is_white b) (suc (L true here)) (gone_over (L false) (move here b))))
      (cond t (cond line (Some (kind_fails kind)) (stop_behind (T true) (move here b))) (cond (line && is_white b) (T true here) (stop_behind (T false) (move here b))))) [
        | true ↦ λ feed.
            let at = eqb-true b 10 feed in
            let no : (b == 60) ≡ true → true ≡ false = λ c. absurd (let x : false ≡ true = sym (ap (λ b. b == 60) at) ∙ c in cc) in
            let next : move here b ≡ nothing_before kind n = ap (move here) at ∙ inside-line known kind n in
            elim line as (λ t. cond t None (moved (W true) (move here b)) ≡ None
            → IsFailed kind (b ∷ bs) (cond t 0 (gone_over (L true) (move here b))) (cond t (Some (kind_fails kind)) (stop_behind (T true) (move here b)))) [
              | true ↦ λ e. (tt, feed, refl)
              | false ↦ λ e. subst (Here true) (sym next) (nothing true no (sym (ap (moved (W true)) next) ∙ e))
            ]
        | false ↦ λ plain. elim (line && is_white b) as (λ t. (line && is_white b) ≡ t → cond t (one_further (W true here)) (moved (W false) (move here b)) ≡ None
            → IsFailed kind (b ∷ bs) (cond t (suc (L true here)) (gone_over (L false) (move here b))) (cond t (T true here) (stop_behind (T false) (move here b)))) [
              | true ↦ λ white e.
                  let w : is_white b ≡ true = (and_parts line (is_white b) white).1 in
                  let no : (b == 60) ≡ false = grind (arith, nat_tests) in
                  on true n (λ at. absurd (let x : true ≡ false = sym at ∙ no in cc)) (none-further (W true here) e)
              | false ↦ λ other. elim ((b == 62) && nat_le (mark_times kind) n) as (λ t. moved (W false) (all t (b == mark_byte kind)) ≡ None → Here false (all t (b == mark_byte kind))) [
                | true ↦ λ e. absurd (cc)
                | false ↦ elim (b == mark_byte kind) as (λ t. moved (W false) (all false t) ≡ None → Here false (all false t)) [
                  | true ↦ λ e. on false (more_than n) (λ at. refl) (none-further (W false (at_inside kind (more_than n))) e)
                  | false ↦ nothing false (λ at. refl)
                ]
              ]
            ] refl
      ] refl e

  -- A look that fails writes nothing, and goes over few bytes; or it was for a kind that was not known, and fails for it
  abbrev pub Ended : (few : ℕ) → List ℕ → (over : ℕ) → Stop → Type 0
  Ended few bs over stop = ((stop ≡ None) × (over ≤ few)) ⊎ ((kind : Mark) × (known kind ≡ false) × IsFailed kind bs over stop)

  module _ (b : ℕ) (bs : List ℕ) (few : ℕ) where
    -- so behind a move
    abbrev MoveEnds : Move MarkPlace → Type 0
    MoveEnds m = moved (walk move bs false) m ≡ None → Ended few (b ∷ bs) (gone_over (looked move bs false) m) (stop_behind (stop_of move mark_gives_up bs false) m)

    either-ends : (t : Bool) (x y : Move MarkPlace) → (t ≡ true → MoveEnds x) → MoveEnds y → MoveEnds (cond t x y)
    either-ends true x y h i = h refl
    either-ends false x y h i = i

    goes-ends : (w : Option (Configuration Unit Unit → Local Unit Unit)) (s : MarkPlace) (fewer : ℕ) → suc fewer ≤ few → (b == 60) ≡ false
        → (walk move bs false s ≡ None → Ended fewer bs (looked move bs false s) (stop_of move mark_gives_up bs false s)) → MoveEnds (goes w s)
    goes-ends w s fewer fits other h none = elim (h (none-further (walk move bs false s) none)) [
      | inl silent ↦ inl (silent.0, omega (arith, fits, silent.1))
      | inr failed ↦ inr (failed.0, failed.1, ((λ at. absurd (let x : true ≡ false = sym at ∙ other in cc), failed.2.0), failed.2.1, failed.2.2))
    ]

    opens-ends : (kind : Mark) (n : ℕ) (t : Bool) → known kind ≡ t → (b == 60) ≡ false → MoveEnds (opens_unless t kind n)
    opens-ends kind n true is other none = inl (refl, omega arith)
    opens-ends kind n false is other none =
        let (rest, lines, stop) = inside-fails kind bs false n (none-further (walk move bs false (at_inside kind n)) none) in
        inr (kind, is, ((λ at. absurd (let x : true ≡ false = sym at ∙ other in cc), rest), lines, stop))

    -- a byte is gone over as it is read
    front-ends : (s : MarkPlace) → IsOpening s → MoveEnds (move s b)
        → walk move (b ∷ bs) false s ≡ None → Ended few (b ∷ bs) (looked move (b ∷ bs) false s) (stop_of move mark_gives_up (b ∷ bs) false s)
    front-ends s opening h none =
        elim (b == 10) as (λ t. (b == 10) ≡ t → Ended few (b ∷ bs) (cond t (gone_over (looked move bs true) (move s b)) (gone_over (looked move bs false) (move s b)))
        (cond t (stop_behind (stop_of move mark_gives_up bs true) (move s b)) (stop_behind (stop_of move mark_gives_up bs false) (move s b)))) [
          | true ↦ λ e.
              let no : move s b ≡ refused = ap (move s) (eqb-true b 10 e) ∙ feed-refused known s opening in
              inl (ap (stop_behind (stop_of move mark_gives_up bs true)) no, (let none : gone_over (looked move bs true) (move s b) ≡ 0 = ap (gone_over (looked move bs true)) no in omega (arith, none)))
          | false ↦ λ e. h (sym (opening-front known b bs s opening) ∙ none)
        ] refl

  -- so many bytes of an opening mark are gone over at most
  abbrev pub opening_room : MarkPlace → ℕ
  opening_room at_open = 8
  opening_room at_declaration = 7
  opening_room at_comment = 0
  opening_room (at_cdata n) = 6 - n
  opening_room (at_inside kind n) = 0

  pub opening-fails : (bs : List ℕ) (s : MarkPlace) → IsOpening s → walk move bs false s ≡ None → Ended (opening_room s) bs (looked move bs false s) (stop_of move mark_gives_up bs false s)
  opening-fails bs (at_inside kind n) opening none = absurd opening
  opening-fails [] at_open opening none = inl (refl, omega arith)
  opening-fails [] at_declaration opening none = inl (refl, omega arith)
  opening-fails [] at_comment opening none = inl (refl, omega arith)
  opening-fails [] (at_cdata n) opening none = inl (refl, omega arith)
  opening-fails (b ∷ bs) at_open opening none =
      front-ends b bs 8 at_open tt
      (either-ends b bs 8 (b == 63) (opens_unless (known of_instruction) of_instruction 0) (cond (b == 33) (goes None at_declaration) refused)
      (λ is. let other : (b == 60) ≡ false = grind (arith, nat_tests) in opens-ends b bs 8 of_instruction 0 (known of_instruction) refl other)
      (either-ends b bs 8 (b == 33) (goes None at_declaration) refused
      (λ is. let other : (b == 60) ≡ false = grind (arith, nat_tests) in goes-ends b bs 8 None at_declaration 7 (omega arith) other (opening-fails bs at_declaration tt)) (λ e. inl (refl, omega arith))))
      none
  opening-fails (b ∷ bs) at_declaration opening none =
      let third = cond (b == 91) (goes (Some (size_b_is 0)) (at_cdata 0)) refused in
      front-ends b bs 7 at_declaration tt
      (either-ends b bs 7 (is_ascii_alphabetic b) (opens_unless (known of_declaration) of_declaration 0) (cond (b == 45) (goes None at_comment) third)
      (λ is. let other : (b == 60) ≡ false = grind (arith, nat_tests) in opens-ends b bs 7 of_declaration 0 (known of_declaration) refl other)
      (either-ends b bs 7 (b == 45) (goes None at_comment) third
      (λ is. let other : (b == 60) ≡ false = grind (arith, nat_tests) in goes-ends b bs 7 None at_comment 0 (omega arith) other (opening-fails bs at_comment tt))
      (either-ends b bs 7 (b == 91) (goes (Some (size_b_is 0)) (at_cdata 0)) refused
      (λ is. let other : (b == 60) ≡ false = grind (arith, nat_tests) in goes-ends b bs 7 (Some (size_b_is 0)) (at_cdata 0) 6 (omega arith) other (opening-fails bs (at_cdata 0) tt)) (λ e. inl (refl, omega arith)))))
      none
  opening-fails (b ∷ bs) at_comment opening none =
      front-ends b bs 0 at_comment tt
      (either-ends b bs 0 (b == 45) (opens_unless (known of_comment) of_comment 2) refused
      (λ is. let other : (b == 60) ≡ false = grind (arith, nat_tests) in opens-ends b bs 0 of_comment 2 (known of_comment) refl other) (λ e. inl (refl, omega arith)))
      none
  opening-fails (b ∷ bs) (at_cdata i) opening none =
      front-ends b bs (6 - i) (at_cdata i) tt
      (either-ends b bs (6 - i) (has_byte_at (codes "CDATA") i (λ c. b == c)) (goes (Some size_b_grows) (at_cdata (more_than i))) (cond ((i == 5) && (b == 91)) (opens_unless (known of_cdata) of_cdata 0) refused)
      (λ is.
      let letter = cdata-letter i b is in
      let other : (b == 60) ≡ false = grind (arith, nat_tests) in
      (let few : i < 5 = cdata-few i b is in goes-ends b bs (6 - i) (Some size_b_grows) (at_cdata (more_than i)) (6 - more_than i) (omega (arith, few)) other (opening-fails bs (at_cdata (more_than i)) tt)))
      (either-ends b bs (6 - i) ((i == 5) && (b == 91)) (opens_unless (known of_cdata) of_cdata 0) refused
      (λ is.
      let at : b ≡ 91 = eqb-true b 91 (and_parts (i == 5) (b == 91) is).1 in
      opens-ends b bs (6 - i) of_cdata 0 (known of_cdata) refl (ap (λ b. b == 60) at)) (λ e. inl (refl, omega arith))))
      none

-- where nothing ends, no mark of fewer kinds does
pub less-none : (known : Mark → Bool) (bs : List ℕ) → walk (mark_move known) bs false at_open ≡ None → ((kind : Mark) → known kind ≡ true → of_kind kind bs ≡ None) → (kind : Mark) → of_kind kind bs ≡ None
less-none known bs none right kind =
    let all : walk mark_next bs false at_open ≡ None = sym (known-right known bs right) ∙ none in
    fewer-kinds bs at_open tt kind all
