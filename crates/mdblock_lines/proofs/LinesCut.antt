-- The lines of a document, one after another.
use Rattle.std.proofs.Common.{◌≡◌, ◌⊎◌, inl, inr, ℕ, zero, suc, ◌+◌, ◌<◌, Bool, true, false, cond, List, [], ◌∷◌, ◌++◌, ◌-◌, length, drop, refl, sym, ap, ◌∙◌, arith, append_assoc, length-append, eqb-true}
use Rattle.std.specs.Prelude.{◌==◌, ◌&&◌, not}
use Rattle.std.specs.List.{prefix_len}
use Rattle.std.proofs.Math.Nat.{mod-lt}
use Rattle.markdown_base.proofs.SeatCounts.{tab-length}
use Rattle.markdown_base.specs.Virtual.{Seat, begins_with_lf, end_in_tab, in_tab, point, line_feed, other_byte, tab_width, virtual_from}
use Rattle.mdconstructs_machines.specs.LineEvents.{is_line_ending, joined, lines_in}
use Rattle.mdblock_lines.specs.Lines.{LinesFollow, ending_seats, ending_size, is_in_line, is_no_ending, line_length}
use Rattle.mdblock_lines.proofs.SeatPlaces.{before_ending, ending_first, lf_first, no_ending_first}

-- seats have this first line and these behind it, or there are none
abbrev Cut : List Seat → List Seat → List (List Seat) → Type 0
Cut ss line rest = (lines_in ss ≡ line ∷ rest) ⊎ (lines_in ss ≡ []) × (line ≡ []) × (rest ≡ [])

-- one seat before them
longer : (s : Seat) (ss line : List Seat) (rest : List (List Seat)) → is_no_ending s ≡ true → Cut ss line rest → lines_in (s ∷ ss) ≡ (s ∷ line) ∷ rest
longer s ss line rest e (inl h) = by (is_line_ending s) e
  where
    by : (b : Bool) → not b ≡ true → cond b ((s ∷ []) ∷ lines_in ss) (joined s (lines_in ss)) ≡ (s ∷ line) ∷ rest
    by true e = absurd (cc)
    by false e = ap (joined s) h
longer s ss line rest e (inr h) = by (is_line_ending s) e
  where
    by : (b : Bool) → not b ≡ true → cond b ((s ∷ []) ∷ lines_in ss) (joined s (lines_in ss)) ≡ (s ∷ line) ∷ rest
    by true e = absurd (cc)
    by false e = ap (joined s) h.0 ∙ sym (ap (λ l. (s ∷ l) ∷ rest) h.1 ∙ ap (λ r. (s ∷ []) ∷ r) h.2)

-- a tab's seats before them
longer_by_tab : (n byte line column index vs : ℕ) (ss head : List Seat) (rest : List (List Seat)) → not (byte == 10) ≡ true → 0 < n → Cut ss head rest
    → lines_in (in_tab byte n line column index vs ++ ss) ≡ (in_tab byte n line column index vs ++ head) ∷ rest
longer_by_tab zero byte line column index vs ss head rest e some c = absurd (omega arith)
longer_by_tab (suc zero) byte line column index vs ss head rest e some c = longer _ ss head rest e c
longer_by_tab (suc (suc n)) byte line column index vs ss head rest e some c =
    longer _ (in_tab 32 (suc n) line (suc column) index (suc vs) ++ ss) (in_tab 32 (suc n) line (suc column) index (suc vs) ++ head) rest e
    (inl (longer_by_tab (suc n) 32 line (suc column) index (suc vs) ss head rest refl (omega arith) c))

tab_before_ending : (n byte line column index vs : ℕ) (ss : List Seat) → not (byte == 10) ≡ true → before_ending (in_tab byte n line column index vs ++ ss) ≡ in_tab byte n line column index vs ++ before_ending ss
tab_before_ending zero byte line column index vs ss e = refl
tab_before_ending (suc n) byte line column index vs ss e =
    no_ending_first _ (in_tab 32 n line (suc column) index (suc vs) ++ ss) e ∙ ap (λ l. record { byte = byte; point = point line column index vs; end = end_in_tab n line column index vs } ∷ l) (tab_before_ending n 32 line (suc column) index (suc vs) ss refl)

module _ (t : ℕ) (some : 0 < t) where
  -- the first line of bytes from any column on
  abbrev line_from : (line column index : ℕ) → List ℕ → List Seat
  line_from line column index bs =
      let text = before_ending (virtual_from t line column index bs) in
      let n = prefix_len is_in_line bs in
      text ++ ending_seats line (column + length text) (index + n) (ending_size (drop n bs))

  abbrev behind_line : (line index : ℕ) → List ℕ → List (List Seat)
  behind_line line index bs = lines_in (virtual_from t (suc line) 1 (index + line_length bs) (drop (line_length bs) bs))

  -- CR LF
  crlf : (line column index : ℕ) (bs : List ℕ) → begins_with_lf bs ≡ true
      → lines_in (virtual_from t line column index bs) ≡ (line_feed line column index ∷ []) ∷ lines_in (virtual_from t (suc line) 1 (suc index) (drop 1 bs))
  crlf line column index [] e = absurd (cc)
  crlf line column index (b ∷ bs) e = rw e refl

  module _ (line column index b : ℕ) (bs : List ℕ) where
    -- seats with their first line, by its parts
    module _ (ss : List Seat) (n e : ℕ) where
      abbrev IsCut : Type 0
      IsCut =
          lines_in ss ≡ (before_ending ss ++ ending_seats line (column + length (before_ending ss)) (index + n) e)
          ∷ lines_in (virtual_from t (suc line) 1 (index + (n + e)) (drop (n + e) (b ∷ bs)))

      assemble : {text : List Seat} {c i e0 m : ℕ} {r : List ℕ} → lines_in ss ≡ (text ++ ending_seats line c i e0) ∷ lines_in (virtual_from t (suc line) 1 m r)
          → text ≡ before_ending ss → c ≡ column + length (before_ending ss) → i ≡ index + n → e0 ≡ e → m ≡ index + (n + e) → r ≡ drop (n + e) (b ∷ bs) → IsCut
      assemble h ts cs is es ms rs = h ∙ (λ k. (ts k ++ ending_seats line (cs k) (is k) (es k)) ∷ lines_in (virtual_from t (suc line) 1 (ms k) (rs k)))

      -- a line ending of one byte comes
      by_ending : ss ≡ line_feed line column index ∷ virtual_from t (suc line) 1 (suc index) bs → n ≡ 0 → e ≡ 1 → IsCut
      by_ending is none one =
          let first : lines_in ss ≡ (line_feed line column index ∷ []) ∷ lines_in (virtual_from t (suc line) 1 (suc index) bs) = ap lines_in is in
          let here : index ≡ index + 0 = omega arith in
          let empty : [] ≡ before_ending ss = sym (ap before_ending is ∙ ending_first (line_feed line column index) (virtual_from t (suc line) 1 (suc index) bs) refl) in
          let on : column ≡ column + 0 = omega arith in
          let size : 1 ≡ n + e = omega (arith, none, one) in
          assemble (first ∙ ap (λ i. (line_feed line column i ∷ []) ∷ lines_in (virtual_from t (suc line) 1 (suc index) bs)) here)
          empty (on ∙ ap (λ l. column + length {A = Seat} l) empty) (omega (arith, none)) (sym one) (omega (arith, none, one)) (ap (λ k. drop k (b ∷ bs)) size)

      by_crlf : ss ≡ virtual_from t line column (suc index) bs → begins_with_lf bs ≡ true → n ≡ 0 → e ≡ 2 → IsCut
      by_crlf is lf none two =
          let first = ap lines_in is ∙ crlf line column (suc index) bs lf in
          let here : suc index ≡ index + 1 = omega arith in
          let empty : [] ≡ before_ending ss = sym (ap before_ending is ∙ lf_first t line column (suc index) bs lf) in
          let on : column ≡ column + 0 = omega arith in
          let size : 2 ≡ n + e = omega (arith, none, two) in
          assemble (first ∙ ap (λ i. (line_feed line column i ∷ []) ∷ lines_in (virtual_from t (suc line) 1 (suc (suc index)) (drop 1 bs))) here)
          empty (on ∙ ap (λ l. column + length {A = Seat} l) empty) (omega (arith, none)) (sym two) (omega (arith, none, two)) (ap (λ k. drop k (b ∷ bs)) size)

      -- seats of a byte that is no line ending, and those behind it
      by_byte : (front : List Seat) (width : ℕ) → ss ≡ front ++ virtual_from t line (column + width) (suc index) bs → length front ≡ width
          → lines_in ss ≡ (front ++ line_from line (column + width) (suc index) bs) ∷ behind_line line (suc index) bs
          → before_ending ss ≡ front ++ before_ending (virtual_from t line (column + width) (suc index) bs)
          → n ≡ 1 + prefix_len is_in_line bs → e ≡ ending_size (drop (prefix_len is_in_line bs) bs) → IsCut
      by_byte front width is wide cut before more size =
          let text = before_ending (virtual_from t line (column + width) (suc index) bs) in
          let long : length (front ++ text) ≡ length front + length text = length-append front text in
          let all : suc (line_length bs) ≡ n + e = omega (arith, more, size) in
          assemble (cut ∙ ap (λ l. l ∷ behind_line line (suc index) bs) (sym (append_assoc front text (ending_seats line (column + width + length text) (suc index + prefix_len is_in_line bs) (ending_size (drop (prefix_len is_in_line bs) bs))))))
          (sym before) (omega (arith, long, wide) ∙ ap (λ l. column + length {A = Seat} l) (sym before)) (omega (arith, more)) (sym size) (omega (arith, more, size)) (ap (λ k. drop k (b ∷ bs)) all)

    by_first : (lf cr tab lf_comes : Bool) (n e : ℕ) → (b == 10) ≡ lf → (b == 13) ≡ cr → (b == 9) ≡ tab → begins_with_lf bs ≡ lf_comes
        → n ≡ cond (not lf && not cr) (1 + prefix_len is_in_line bs) 0 → e ≡ cond (not lf && not cr) (ending_size (drop (prefix_len is_in_line bs) bs)) (cond (cr && lf_comes) 2 1)
        → Cut (virtual_from t line (column + tab_width t column) (suc index) bs) (line_from line (column + tab_width t column) (suc index) bs) (behind_line line (suc index) bs)
        → Cut (virtual_from t line (suc column) (suc index) bs) (line_from line (suc column) (suc index) bs) (behind_line line (suc index) bs)
        → IsCut (cond lf (line_feed line column index ∷ virtual_from t (suc line) 1 (suc index) bs)
        (cond cr (cond lf_comes (virtual_from t line column (suc index) bs) (line_feed line column index ∷ virtual_from t (suc line) 1 (suc index) bs))
        (cond tab (in_tab 9 (tab_width t column) line column index 0 ++ virtual_from t line (column + tab_width t column) (suc index) bs)
        (other_byte b line column index ∷ virtual_from t line (suc column) (suc index) bs)))) n e
    by_first true true tab lf_comes n e elf ecr etab el en ee after_tab after = absurd (omega (arith, eqb-true b 10 elf, eqb-true b 13 ecr))
    by_first true false tab lf_comes n e elf ecr etab el en ee after_tab after = by_ending _ n e refl en ee
    by_first false true tab true n e elf ecr etab el en ee after_tab after = by_crlf _ n e refl el en ee
    by_first false true tab false n e elf ecr etab el en ee after_tab after = by_ending _ n e refl en ee
    by_first false false true lf_comes n e elf ecr etab el en ee after_tab after =
        let w = tab_width t column in
        let some_of : 0 < w = omega (arith, mod-lt (column - 1) some) in
        let behind = virtual_from t line (column + w) (suc index) bs in
        by_byte _ n e (in_tab 9 w line column index 0) w refl (tab-length 9 w line column index 0) (longer_by_tab w 9 line column index 0 behind _ _ refl some_of after_tab)
        (tab_before_ending w 9 line column index 0 behind refl) en ee
    by_first false false false lf_comes n e elf ecr etab el en ee after_tab after =
        let seat = other_byte b line column index in
        let plain : is_no_ending seat ≡ true = ap not elf in
        let on : suc column ≡ column + 1 = omega arith in
        let same : virtual_from t line (suc column) (suc index) bs ≡ virtual_from t line (column + 1) (suc index) bs = ap (λ c. virtual_from t line c (suc index) bs) on in
        by_byte _ n e (seat ∷ []) 1 (ap (λ l. seat ∷ l) same) refl
        (longer seat (virtual_from t line (suc column) (suc index) bs) _ _ plain after ∙ ap (λ c. (seat ∷ line_from line c (suc index) bs) ∷ behind_line line (suc index) bs) on)
        (no_ending_first seat (virtual_from t line (suc column) (suc index) bs) plain ∙ ap (λ l. seat ∷ before_ending l) same) en ee

  size_of : (s : Bool) (n b : ℕ) (bs : List ℕ) → ending_size (drop (cond s (1 + n) 0) (b ∷ bs)) ≡ cond s (ending_size (drop n bs)) (cond ((b == 13) && begins_with_lf bs) 2 1)
  size_of true n b bs = let on : 1 + n ≡ suc n = omega arith in ap (λ k. ending_size (drop k (b ∷ bs))) on
  size_of false n b bs = refl

  cut_first : (line column index b : ℕ) (bs : List ℕ)
      → Cut (virtual_from t line (column + tab_width t column) (suc index) bs) (line_from line (column + tab_width t column) (suc index) bs) (behind_line line (suc index) bs)
      → Cut (virtual_from t line (suc column) (suc index) bs) (line_from line (suc column) (suc index) bs) (behind_line line (suc index) bs)
      → lines_in (virtual_from t line column index (b ∷ bs)) ≡ line_from line column index (b ∷ bs) ∷ behind_line line index (b ∷ bs)
  cut_first line column index b bs after_tab after =
      by_first line column index b bs (b == 10) (b == 13) (b == 9) (begins_with_lf bs) (prefix_len is_in_line (b ∷ bs)) (ending_size (drop (prefix_len is_in_line (b ∷ bs)) (b ∷ bs)))
      refl refl refl refl refl (size_of (not (b == 10) && not (b == 13)) (prefix_len is_in_line bs) b bs) after_tab after

  cut_from : (line column index : ℕ) (bs : List ℕ) → Cut (virtual_from t line column index bs) (line_from line column index bs) (behind_line line index bs)
  cut_from line column index [] = inr (refl, refl, refl)
  cut_from line column index (b ∷ bs) = inl (cut_first line column index b bs (cut_from line (column + tab_width t column) (suc index) bs) (cut_from line (suc column) (suc index) bs))

pub lines_follow : LinesFollow
lines_follow t line index [] some h = absurd (omega arith)
lines_follow t line index (b ∷ bs) some h =
    cut_first t some line 1 index b bs (cut_from t some line (1 + tab_width t 1) (suc index) bs) (cut_from t some line 2 (suc index) bs)
