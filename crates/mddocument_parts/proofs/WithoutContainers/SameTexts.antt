-- The leaf block at the front of lines is told by their texts: lines with the same texts, as many as it has at least, begin with the same block.
use Rattle.mddocument_parts.proofs.Prelude.{◌≡◌, ℕ, zero, suc, ◌+◌, ◌≤◌, ◌&&◌, ◌||◌, nat_le, nat_lt, List, [], ◌∷◌, ◌++◌, Bool, true, false, cond, not, Option, Some, None, length, take, drop, length-take, length-drop, refl, sym, ap, ◌∙◌, subst, arith, lt-ltb, ltb-true, ltb-false, is_some, prefix_len-le-length, Constructs, HtmlKind, ends, waits_for_blank, Line, LeafBlock, blank_line, break_line, atx_heading, paragraph, setext_heading, indented_code, fenced_code, html_block, block_of_kind, content_at, ends_text, interrupts, further_code, has_line, is_blank, is_indented, lines_through, lines_until, text_of, underlined, LineKind, indented, fence, html, text, closes, is_blank_line, line_kind, underline_rank}
use Rattle.std.proofs.Math.Seq.{take-append_seam}
use Rattle.std.proofs.lemmas.Bool.{le-leb}
use Rattle.std.proofs.lemmas.List.{take-append-drop}

-- lines have the texts of the first of others
abbrev pub Agree : List Line → List Line → Type 0
Agree [] xs = Unit {0}
Agree (y ∷ ys) [] = ⊥
Agree (y ∷ ys) (x ∷ xs) = (text_of y ≡ text_of x) × Agree ys xs

pub agree-self : (xs : List Line) → Agree xs xs
agree-self [] = tt
agree-self (x ∷ xs) = (refl, agree-self xs)

pub agree-take : (n : ℕ) (xs : List Line) → Agree (take n xs) xs
agree-take zero xs = tt
agree-take (suc n) [] = tt
agree-take (suc n) (x ∷ xs) = (refl, agree-take n xs)

pub agree-trans : (xs ys zs : List Line) → Agree xs ys → Agree ys zs → Agree xs zs
agree-trans [] ys zs h k = tt
agree-trans (x ∷ xs) [] zs h k = absurd h
agree-trans (x ∷ xs) (y ∷ ys) [] h k = absurd k
agree-trans (x ∷ xs) (y ∷ ys) (z ∷ zs) h k = (h.0 ∙ k.0, agree-trans xs ys zs h.1 k.1)

agree-drop : (n : ℕ) (ys xs : List Line) → Agree ys xs → Agree (drop n ys) (drop n xs)
agree-drop zero ys xs h = h
agree-drop (suc n) [] xs h = tt
agree-drop (suc n) (y ∷ ys) [] h = absurd h
agree-drop (suc n) (y ∷ ys) (x ∷ xs) h = agree-drop n ys xs h.1

agree-length : (ys xs : List Line) → Agree ys xs → length ys ≤ length xs
agree-length [] xs h = omega arith
agree-length (y ∷ ys) [] h = absurd h
agree-length (y ∷ ys) (x ∷ xs) h = let rest = agree-length ys xs h.1 in omega (arith, rest)

-- a block with other lines in place of its own
abbrev pub first_of : List Line → Line
first_of [] = []
first_of (line ∷ lines) = line

abbrev pub with_lines : LeafBlock → List Line → LeafBlock
with_lines (blank_line line) ms = blank_line (first_of ms)
with_lines (break_line line) ms = break_line (first_of ms)
with_lines (atx_heading line) ms = atx_heading (first_of ms)
with_lines (paragraph lines) ms = paragraph ms
with_lines (setext_heading rank lines below) ms = setext_heading rank (take (length lines) ms) (first_of (drop (length lines) ms))
with_lines (indented_code lines) ms = indented_code ms
with_lines (fenced_code f is_closed lines) ms = fenced_code f is_closed ms
with_lines (html_block kind is_closed lines) ms = html_block kind is_closed ms

module _ (test : List ℕ → Bool) where
  abbrev of_text : Line → Bool
  of_text line = test (text_of line)

  until-agree : (ys xs : List Line) → Agree ys xs → lines_until of_text xs ≤ length ys → lines_until of_text ys ≡ lines_until of_text xs
  until-agree [] xs h few = omega (arith, few)
  until-agree (y ∷ ys) [] h few = absurd h
  until-agree (y ∷ ys) (x ∷ xs) h few =
      ap (λ t. cond (not (test t)) (1 + lines_until of_text ys) 0) h.0
      ∙ elim (test (text_of x)) as (λ b. cond (not b) (1 + lines_until of_text xs) 0 ≤ suc (length ys) → cond (not b) (1 + lines_until of_text ys) 0 ≡ cond (not b) (1 + lines_until of_text xs) 0) [
        | true ↦ λ few. refl
        | false ↦ λ few. ap (λ n. 1 + n) (until-agree ys xs h.1 (omega (arith, few)))
      ] few

  abbrev AreSame : List Line → List Line → Type 0
  AreSame ys xs = (lines_through test ys ≡ lines_through test xs) × (has_line test ys ≡ has_line test xs)

  through-agree : (ys xs : List Line) → Agree ys xs → lines_through test xs ≤ length ys → AreSame ys xs
  through-agree ys xs h few =
      let u = lines_until of_text xs in
      let within = prefix_len-le-length (λ (l : Line). not (of_text l)) xs in
      let short = agree-length ys xs h in
      elim (nat_lt u (length xs)) as (λ b. nat_lt u (length xs) ≡ b → AreSame ys xs) [
        | true ↦ λ e.
            let less = ltb-true u (length xs) e in
            let same = until-agree ys xs h (omega (arith, few, less)) in
            (omega (arith, few, less, same, short), lt-ltb (lines_until of_text ys) (length ys) (omega (arith, few, less, same)) ∙ sym e)
        | false ↦ λ e.
            let all = ltb-false u (length xs) e in
            let same = until-agree ys xs h (omega (arith, few, all, within)) in
            let long : length ys ≡ length xs = omega (arith, few, all, within, short) in
            (omega (arith, same, long), (λ i. nat_lt (same i) (long i)))
      ] refl

-- a setext heading over the line behind these, if that is an underline, and else a paragraph; and of how many lines it is
abbrev pub by_rank : List Line → Line → Option ℕ → LeafBlock × ℕ
by_rank lines next rank = elim rank [ None ↦ (paragraph lines, length lines) | Some rank ↦ (setext_heading rank lines next, suc (length lines)) ]

module _ (on : Constructs) where
  bounded : (f m : ℕ) → cond (nat_le 1 f) (suc f) 0 ≤ suc m → f ≤ m
  bounded zero m h = omega arith
  bounded (suc f) m h = let some : nat_le 1 (suc f) ≡ true = le-leb 1 (suc f) (omega arith) in let k = subst (λ b. cond b (suc (suc f)) 0 ≤ suc m) some h in omega (arith, k)

  further-agree : (ys xs : List Line) → Agree ys xs → further_code on xs ≤ length ys → further_code on ys ≡ further_code on xs
  further-agree [] xs h few = omega (arith, few)
  further-agree (y ∷ ys) [] h few = absurd h
  further-agree (y ∷ ys) (x ∷ xs) h few =
      let f = further_code on ys in
      let g = further_code on xs in
      ap (λ t. cond (is_indented on (line_kind on t)) (suc f) (cond (is_blank on (line_kind on t) && nat_le 1 f) (suc f) 0)) h.0
      ∙ by (is_indented on (line_kind on (text_of x))) (is_blank on (line_kind on (text_of x))) (further-agree ys xs h.1) few
    where
      by : (b c : Bool) → (further_code on xs ≤ length ys → further_code on ys ≡ further_code on xs) → cond b (suc (further_code on xs)) (cond (c && nat_le 1 (further_code on xs)) (suc (further_code on xs)) 0) ≤ suc (length ys)
          → cond b (suc (further_code on ys)) (cond (c && nat_le 1 (further_code on ys)) (suc (further_code on ys)) 0) ≡ cond b (suc (further_code on xs)) (cond (c && nat_le 1 (further_code on xs)) (suc (further_code on xs)) 0)
      by true c more few = ap suc (more (omega (arith, few)))
      by false true more few = ap (λ f. cond (nat_le 1 f) (suc f) 0) (more (bounded (further_code on xs) (length ys) few))
      by false false more few = refl

  -- ---- a paragraph or a setext heading
  pub lines-back : (ms : List Line) (n : Line) (behind : List Line) → take (length ms) (take (suc (length ms)) (ms ++ n ∷ behind)) ≡ ms
  lines-back [] n behind = refl
  lines-back (m ∷ ms) n behind = ap (λ l. m ∷ l) (lines-back ms n behind)

  pub below-back : (ms : List Line) (n : Line) (behind : List Line) → first_of (drop (length ms) (take (suc (length ms)) (ms ++ n ∷ behind))) ≡ n
  below-back [] n behind = refl
  below-back (m ∷ ms) n behind = below-back ms n behind

  abbrev cut_of : LeafBlock → ℕ → LeafBlock × ℕ
  cut_of block n = (block, n)

  -- what a block is with the first of these lines
  abbrev with_front : LeafBlock × ℕ → List Line → LeafBlock × ℕ
  with_front c all = (with_lines c.0 (take c.1 all), c.1)

  underlined-agree : (ls ms bx by : List Line) → length ls ≡ length ms → Agree by bx → (underlined on ls bx).1 ≤ length ms + length by → underlined on ms by ≡ with_front (underlined on ls bx) (ms ++ by)
  underlined-agree ls ms [] [] e h few = ap (λ l. cut_of (paragraph l) (length ms)) (sym (take-append_seam ms [])) ∙ ap (λ n. cut_of (paragraph (take n (ms ++ []))) n) (sym e)
  underlined-agree ls ms [] (b ∷ by) e h few = absurd h
  underlined-agree ls ms (x ∷ bx) [] e h few = by-none (underline_rank on (text_of x)) few
    where
      by-none : (rank : Option ℕ) → (by_rank ls x rank).1 ≤ length ms + 0 → let u : LeafBlock × ℕ = (paragraph ms, length ms) in u ≡ with_front (by_rank ls x rank) (ms ++ [])
      by-none None few = ap (λ l. cut_of (paragraph l) (length ms)) (sym (take-append_seam ms [])) ∙ ap (λ n. cut_of (paragraph (take n (ms ++ []))) n) (sym e)
      by-none (Some rank) few = let more : suc (length ls) ≤ length ms + 0 = few in absurd (omega (arith, more, e))
  underlined-agree ls ms (x ∷ bx) (y ∷ by) e h few = ap (λ t. by_rank ms y (underline_rank on t)) h.0 ∙ by-both (underline_rank on (text_of x))
    where
      by-both : (rank : Option ℕ) → by_rank ms y rank ≡ with_front (by_rank ls x rank) (ms ++ y ∷ by)
      by-both None = ap (λ l. cut_of (paragraph l) (length ms)) (sym (take-append_seam ms (y ∷ by))) ∙ ap (λ n. cut_of (paragraph (take n (ms ++ y ∷ by))) n) (sym e)
      by-both (Some rank) =
          (λ i. cut_of (setext_heading rank (sym (lines-back ms y by) i) (sym (below-back ms y by) i)) (suc (length ms)))
          ∙ ap (λ n. cut_of (setext_heading rank (take n (take (suc n) (ms ++ y ∷ by))) (first_of (drop n (take (suc n) (ms ++ y ∷ by))))) (suc n)) (sym e)

  at-least : (lines behind : List Line) → length lines ≤ (underlined on lines behind).1
  at-least lines [] = omega arith
  at-least lines (x ∷ behind) = by-any (underline_rank on (text_of x))
    where
      by-any : (rank : Option ℕ) → length lines ≤ (by_rank lines x rank).1
      by-any None = omega arith
      by-any (Some rank) = omega arith

  content-agree : (x : Line) (xs : List Line) (y : Line) (ys : List Line) → Agree ys xs → (content_at on (x ∷ xs)).1 ≤ suc (length ys) → content_at on (y ∷ ys) ≡ with_front (content_at on (x ∷ xs)) (y ∷ ys)
  content-agree x xs y ys h few =
      let p = lines_until (ends_text on) xs in
      let n = suc p in
      let within = prefix_len-le-length (λ (l : Line). not (ends_text on l)) xs in
      let least = at-least (take n (x ∷ xs)) (drop n (x ∷ xs)) in
      let taken : length (take n (x ∷ xs)) ≡ n = omega (arith, within, length-take n (x ∷ xs)) in
      let room : p ≤ length ys = omega (arith, least, taken, few) in
      let there : length (take n (y ∷ ys)) ≡ n = omega (arith, room, length-take n (y ∷ ys)) in
      let left : length (take n (y ∷ ys)) + length (drop n (y ∷ ys)) ≡ suc (length ys) = omega (arith, there, room, length-drop n (y ∷ ys)) in
      let u = until-agree (λ t. is_some (underline_rank on t) || interrupts (line_kind on t)) ys xs h room in
      ap (λ k. underlined on (take (suc k) (y ∷ ys)) (drop (suc k) (y ∷ ys))) u
      ∙ underlined-agree (take n (x ∷ xs)) (take n (y ∷ ys)) (drop n (x ∷ xs)) (drop n (y ∷ ys)) (taken ∙ sym there) (agree-drop p ys xs h) (omega (arith, few, left))
      ∙ ap (with_front (content_at on (x ∷ xs))) (take-append-drop n (y ∷ ys))

  -- ---- HTML
  abbrev html_at : HtmlKind → Bool → List Line → LeafBlock × ℕ
  html_at kind b all = let n = cond b (lines_until (λ line. is_blank_line (text_of line)) all) (lines_through (ends kind) all) in (html_block kind (b || has_line (ends kind) all) (take n all), n)

  html-agree : (kind : HtmlKind) (b : Bool) (ys xs : List Line) → Agree ys xs → (html_at kind b xs).1 ≤ length ys → html_at kind b ys ≡ with_front (html_at kind b xs) ys
  html-agree kind true ys xs h few = let u = until-agree is_blank_line ys xs h few in (λ i. (html_block kind true (take (u i) ys), u i))
  html-agree kind false ys xs h few = let s = through-agree (ends kind) ys xs h few in (λ i. (html_block kind (s.1 i) (take (s.0 i) ys), s.0 i))

  -- ---- each block
  pub same-front : (kind : LineKind) (x : Line) (xs : List Line) (y : Line) (ys : List Line) → text_of y ≡ text_of x → Agree ys xs → (block_of_kind on kind x xs).1 ≤ suc (length ys)
      → block_of_kind on kind y ys ≡ (with_lines (block_of_kind on kind x xs).0 (take (block_of_kind on kind x xs).1 (y ∷ ys)), (block_of_kind on kind x xs).1)
  same-front indented x xs y ys e h few = let s = further-agree ys xs h (omega (arith, few)) in (λ i. (indented_code (take (suc (s i)) (y ∷ ys)), suc (s i)))
  same-front (fence f) x xs y ys e h few = let s = through-agree (closes on f) ys xs h (omega (arith, few)) in (λ i. (fenced_code f (s.1 i) (take (suc (s.0 i)) (y ∷ ys)), suc (s.0 i)))
  same-front (html kind) x xs y ys e h few = html-agree kind (waits_for_blank kind) (y ∷ ys) (x ∷ xs) (e, h) few
  same-front text x xs y ys e h few = content-agree x xs y ys h few
  same-front kind x xs y ys e h few = refl
