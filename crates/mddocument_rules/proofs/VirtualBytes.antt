-- What is written for the virtual bytes of a document: each but a line ending is a byte of it, or one of a tab, which is written once.
use Rattle.mddocument_rules.proofs.Prelude.{◌≡◌, ◌∙◌, ◌⊎◌, ℕ, zero, suc, ◌+◌, ◌-◌, ◌==◌, Bool, true, false, cond, List, [], ◌∷◌, ◌++◌, ap, arith, drop, flat_map, inl, inr, refl, subst, sym, take, false≢true, every-append, AllByRecursion, ◌&&◌, Seat, end_after, point, virtual}
use Rattle.std.proofs.Common.{ne_eqb}
use Rattle.std.proofs.lemmas.Bool.{eqb-true}
use Rattle.std.proofs.lemmas.List.{drop_more}
use Rattle.std.specs.List.{slice_range}
use Rattle.std.specs.Prelude.{◌≤◌, ◌<◌, slice_index}
use Rattle.markdown_base.specs.Places.{follows_cr, shown}
use Rattle.markdown_base.specs.Virtual.{begins_with_lf, in_tab, line_feed, other_byte, tab_width, virtual_from}
use Rattle.markdown_tokenizer.proofs.Positions.Seats.{drop-first, no-lf-there, width-pos}
use Rattle.mdinline_labels.specs.Labels.{is_label_white}
use Rattle.mddocument_rules.proofs.AlikeTexts.{AreWhite, AreWhole}
use Rattle.mddocument_rules.proofs.WrittenSpans.{AreInRow, slice-both, written}

module _ (bytes : List ℕ) where
  -- a virtual byte that is no line ending, shown at its own place
  pub record IsOwn (s : Seat) : Type 0 where
    pub line : (s.byte == 10) ≡ false
    pub from : shown bytes s.point ≡ s.point
    pub to : shown bytes s.end ≡ s.end
    pub few : s.point.index ≤ s.end.index

  -- virtual bytes from a place on, and whether the first is one of a tab that began before
  abbrev pub AreSpelt : (in_tab : Bool) → (index : ℕ) → List Seat → Type 0
  AreSpelt in_tab i [] = in_tab ≡ false
  AreSpelt in_tab i (s ∷ ss) =
      ((in_tab ≡ false) × (s.byte ≡ 10) × AreSpelt false s.end.index ss)
      ⊎ (IsOwn s × (s.point.index ≡ i) × (
      ((in_tab ≡ false) × (written bytes s ≡ s.byte ∷ []) × AreSpelt false s.end.index ss)
      ⊎ (((is_label_white s.byte ≡ true) × (written bytes s ≡ 9 ∷ []) × AreSpelt false s.end.index ss) ⊎ ((is_label_white s.byte ≡ true) × (written bytes s ≡ []) × AreSpelt true s.end.index ss))
      ))

  -- ---- one byte
  no-feed : (l c i v b : ℕ) → slice_index bytes i ≡ b → (b == 10) ≡ false → shown bytes (point l c i v) ≡ point l c i v
  no-feed l c i v b at other =
      let no : (slice_index bytes i == 10) ≡ false = ap (λ x. x == 10) at ∙ other in
      ap (λ x. cond (x && follows_cr bytes i) (point l c (i - 1) v) (point l c i v)) no

  no-pair : (l c i v b : ℕ) → slice_index bytes i ≡ b → (b == 13) ≡ false → shown bytes (point l c (suc i) v) ≡ point l c (suc i) v
  no-pair l c i v b at other = by (slice_index bytes (suc i) == 10) (slice_index bytes i == 13) (ap (λ x. x == 13) at ∙ other)
    where
      by : (x y : Bool) → y ≡ false → cond (x && y) (point l c (suc i - 1) v) (point l c (suc i) v) ≡ point l c (suc i) v
      by true y n = ap (λ z. cond z (point l c (suc i - 1) v) (point l c (suc i) v)) n
      by false y n = refl

  one-byte : (i b : ℕ) (bs : List ℕ) → drop i bytes ≡ b ∷ bs → slice_range bytes i (suc i) ≡ b ∷ []
  one-byte i b bs at = let one : suc i - i ≡ 1 = omega arith in (λ j. take (one j) (at j))

  no-byte : (i : ℕ) → slice_range bytes i i ≡ []
  no-byte i = let none : i - i ≡ 0 = omega arith in ap (λ n. take n (drop i bytes)) none

  -- ---- tabs
  spelt-tab : (n b l c i v : ℕ) (bs : List ℕ) (ss : List Seat) (before : Bool) → drop i bytes ≡ 9 ∷ bs → is_label_white b ≡ true → (b == 10) ≡ false → AreSpelt false (suc i) ss → 0 < n → AreSpelt before i (in_tab b n l c i v ++ ss)
  spelt-tab zero b l c i v bs ss before at white other rest some = absurd (omega (arith, some))
  spelt-tab (suc zero) b l c i v bs ss before at white other rest some =
      let here = (drop-first i bytes 9 bs at).1 in
      inr (record { line = other; from = no-feed l c i v 9 here refl; to = no-pair l (suc c) i 0 9 here refl; few = omega arith }, refl, inr (inl (white, one-byte i 9 bs at, rest)))
  spelt-tab (suc (suc n)) b l c i v bs ss before at white other rest some =
      let here = (drop-first i bytes 9 bs at).1 in
      inr (
        record { line = other; from = no-feed l c i v 9 here refl; to = no-feed l (suc c) i (suc v) 9 here refl; few = omega arith },
        refl,
        inr (inr (white, no-byte i, spelt-tab (suc n) 32 l (suc c) i (suc v) bs ss true at refl refl rest (omega arith))),
      )

  -- ---- a line ending of two bytes
  abbrev Feeds : List Seat → Type 0
  Feeds [] = ⊥
  Feeds (s ∷ ss) = s.byte ≡ 10

  first-feed : (t l c i : ℕ) (bs : List ℕ) → begins_with_lf bs ≡ true → Feeds (virtual_from t l c i bs)
  first-feed t l c i [] h = absurd (false≢true h)
  first-feed t l c i (b ∷ bs) h = subst (λ x. Feeds (cond x (line_feed l c i ∷ virtual_from t (suc l) 1 (suc i) bs) (cond (b == 13) (cond (begins_with_lf bs) (virtual_from t l c (suc i) bs) (line_feed l c i ∷ virtual_from t (suc l) 1 (suc i) bs))
      (cond (b == 9) (in_tab 9 (tab_width t c) l c i 0 ++ virtual_from t l (c + tab_width t c) (suc i) bs) (other_byte b l c i ∷ virtual_from t l (suc c) (suc i) bs))))) (sym h) refl

  feed-anywhere : (i j : ℕ) (ss : List Seat) → Feeds ss → AreSpelt false j ss → AreSpelt false i ss
  feed-anywhere i j [] f h = absurd f
  feed-anywhere i j (s ∷ ss) f (inl feed) = inl feed
  feed-anywhere i j (s ∷ ss) f (inr own) = absurd (false≢true (sym own.0.line ∙ ap (λ b. b == 10) f))

  -- ---- a document
  spelt-from : (t l c i : ℕ) (bs : List ℕ) → 0 < t → drop i bytes ≡ bs → AreSpelt false i (virtual_from t l c i bs)
  spelt-from t l c i [] some at = refl
  spelt-from t l c i (b ∷ bs) some at = by (b == 10) (b == 13) (begins_with_lf bs) (b == 9) refl refl refl refl (λ m d. spelt-from t m d (suc i) bs some (drop-first i bytes b bs at).2)
    where
      here : slice_index bytes i ≡ b
      here = (drop-first i bytes b bs at).1

      by : (feed carriage pair tab : Bool) → (b == 10) ≡ feed → (b == 13) ≡ carriage → begins_with_lf bs ≡ pair → (b == 9) ≡ tab → ((m d : ℕ) → AreSpelt false (suc i) (virtual_from t m d (suc i) bs))
          → AreSpelt false i (cond feed (line_feed l c i ∷ virtual_from t (suc l) 1 (suc i) bs) (cond carriage (cond pair (virtual_from t l c (suc i) bs) (line_feed l c i ∷ virtual_from t (suc l) 1 (suc i) bs))
          (cond tab (in_tab 9 (tab_width t c) l c i 0 ++ virtual_from t l (c + tab_width t c) (suc i) bs) (other_byte b l c i ∷ virtual_from t l (suc c) (suc i) bs))))
      by true carriage pair tab f r p w more = inl (refl, refl, more (suc l) 1)
      by false true true tab f r p w more = feed-anywhere i (suc i) (virtual_from t l c (suc i) bs) (first-feed t l c (suc i) bs p) (more l c)
      by false true false tab f r p w more = inl (refl, refl, more (suc l) 1)
      by false false pair true f r p w more =
          let nine : b ≡ 9 = eqb-true b 9 w in
          spelt-tab (tab_width t c) 9 l c i 0 bs (virtual_from t l (c + tab_width t c) (suc i) bs) false (at ∙ ap (λ x. x ∷ bs) nine) refl refl (more l (c + tab_width t c)) (width-pos t c some)
      by false false pair false f r p w more =
          inr (record { line = f; from = no-feed l c i 0 b here f; to = no-pair l (suc c) i 0 b here r; few = omega arith }, refl, inl (refl, one-byte i b bs at, more l (suc c)))

  pub spelt-virtual : (t : ℕ) → 0 < t → AreSpelt false 0 (virtual t bytes)
  spelt-virtual t some = spelt-from t 1 1 0 bytes some refl

  -- ---- what is written for a line ending
  pub record IsFeed (s : Seat) : Type 0 where
    pub first : ℕ
    pub others : List ℕ
    pub are : slice_range bytes (shown bytes s.point).index (shown bytes s.end).index ≡ first ∷ others
    pub white : AreWhite (first ∷ others)

  abbrev pub IfFeed : Seat → Type 0
  IfFeed s = (s.byte == 10) ≡ true → IsFeed s

  -- LF, alone or behind a CR
  lf-feed : (l c i : ℕ) (bs : List ℕ) → drop i bytes ≡ 10 ∷ bs → IsFeed (line_feed l c i)
  lf-feed l c i bs at = by i at (follows_cr bytes i) refl
    where
      ends : (i : ℕ) → drop i bytes ≡ 10 ∷ bs → shown bytes (point (suc l) 1 (suc i) 0) ≡ point (suc l) 1 (suc i) 0
      ends i at = no-pair (suc l) 1 i 0 10 (drop-first i bytes 10 bs at).1 refl

      by : (i : ℕ) → drop i bytes ≡ 10 ∷ bs → (x : Bool) → follows_cr bytes i ≡ x → IsFeed (line_feed l c i)
      by i at false e =
          let here = (drop-first i bytes 10 bs at).1 in
          let begins : shown bytes (point l c i 0) ≡ point l c i 0 = (λ j. cond ((here j == 10) && e j) (point l c (i - 1) 0) (point l c i 0)) in
          record { first = 10; others = []; are = (λ j. slice_range bytes (begins j).index (ends i at j).index) ∙ one-byte i 10 bs at; white = (refl, tt) }
      by zero at true e = absurd (false≢true e)
      by (suc k) at true e =
          let here = (drop-first (suc k) bytes 10 bs at).1 in
          let inside = (drop-first (suc k) bytes 10 bs at).0 in
          let down : suc k - 1 ≡ k = omega arith in
          let next : k + 1 ≡ suc k = omega arith in
          let begins : shown bytes (point l c (suc k) 0) ≡ point l c k 0 = (λ j. cond ((here j == 10) && e j) (point l c (suc k - 1) 0) (point l c (suc k) 0)) ∙ ap (λ n. point l c n 0) down in
          let before : drop k bytes ≡ 13 ∷ 10 ∷ bs = drop_more bytes k 0 (omega (arith, inside)) ∙ (λ j. eqb-true (slice_index bytes k) 13 e j ∷ drop (next j) bytes) ∙ ap (λ xs. 13 ∷ xs) at in
          record {
            first = 13;
            others = 10 ∷ [];
            are = (λ j. slice_range bytes (begins j).index (ends (suc k) at j).index)
                ∙ slice-both bytes k (suc k) (suc (suc k)) (omega arith) (omega arith)
                ∙ (λ j. one-byte k 13 (10 ∷ bs) before j ++ one-byte (suc k) 10 bs at j);
            white = (refl, (refl, tt));
          }

  -- a CR that no LF follows
  cr-feed : (l c i : ℕ) (bs : List ℕ) → drop i bytes ≡ 13 ∷ bs → begins_with_lf bs ≡ false → IsFeed (line_feed l c i)
  cr-feed l c i bs at plain =
      let first = drop-first i bytes 13 bs at in
      let begins : shown bytes (point l c i 0) ≡ point l c i 0 = no-feed l c i 0 13 first.1 refl in
      let other : (slice_index bytes (suc i) == 10) ≡ false = ne_eqb (slice_index bytes (suc i)) 10 (no-lf-there (suc i) bytes bs first.2 plain) in
      let ends : shown bytes (point (suc l) 1 (suc i) 0) ≡ point (suc l) 1 (suc i) 0 = ap (λ x. cond (x && follows_cr bytes (suc i)) (point (suc l) 1 (suc i - 1) 0) (point (suc l) 1 (suc i) 0)) other in
      record { first = 13; others = []; are = (λ j. slice_range bytes (begins j).index (ends j).index) ∙ one-byte i 13 bs at; white = (refl, tt) }

  no-feeds-in : (b n l c i v : ℕ) → (b == 10) ≡ false → AllByRecursion IfFeed (in_tab b n l c i v)
  no-feeds-in b zero l c i v other = tt
  no-feeds-in b (suc n) l c i v other = ((λ e. absurd (false≢true (sym other ∙ e))), no-feeds-in 32 n l (suc c) i (suc v) refl)

  feeds-from : (t l c i : ℕ) (bs : List ℕ) → drop i bytes ≡ bs → AllByRecursion IfFeed (virtual_from t l c i bs)
  feeds-from t l c i [] at = tt
  feeds-from t l c i (b ∷ bs) at = by (b == 10) (b == 13) (begins_with_lf bs) (b == 9) refl refl refl (λ m d. feeds-from t m d (suc i) bs (drop-first i bytes b bs at).2)
    where
      is : (n : ℕ) → (b == n) ≡ true → drop i bytes ≡ n ∷ bs
      is n e = at ∙ ap (λ x. x ∷ bs) (eqb-true b n e)

      by : (feed carriage pair tab : Bool) → (b == 10) ≡ feed → (b == 13) ≡ carriage → begins_with_lf bs ≡ pair → ((m d : ℕ) → AllByRecursion IfFeed (virtual_from t m d (suc i) bs))
          → AllByRecursion IfFeed
          (cond feed (line_feed l c i ∷ virtual_from t (suc l) 1 (suc i) bs)
          (cond carriage (cond pair (virtual_from t l c (suc i) bs) (line_feed l c i ∷ virtual_from t (suc l) 1 (suc i) bs))
          (cond tab (in_tab 9 (tab_width t c) l c i 0 ++ virtual_from t l (c + tab_width t c) (suc i) bs) (other_byte b l c i ∷ virtual_from t l (suc c) (suc i) bs))))
      by true carriage pair tab f r p more = ((λ e. lf-feed l c i bs (is 10 f)), more (suc l) 1)
      by false true true tab f r p more = more l c
      by false true false tab f r p more = ((λ e. cr-feed l c i bs (is 13 r) p), more (suc l) 1)
      by false false pair true f r p more = every-append IfFeed (in_tab 9 (tab_width t c) l c i 0) (virtual_from t l (c + tab_width t c) (suc i) bs) (no-feeds-in 9 (tab_width t c) l c i 0 refl) (more l (c + tab_width t c))
      by false false pair false f r p more = ((λ e. absurd (false≢true (sym f ∙ e))), more l (suc c))

  pub feeds-virtual : (t : ℕ) → AllByRecursion IfFeed (virtual t bytes)
  feeds-virtual t = feeds-from t 1 1 0 bytes refl

  -- ---- a stretch without line endings
  abbrev pub NoFeeds : List Seat → Type 0
  NoFeeds ss = AllByRecursion (λ (s : Seat). (s.byte == 10) ≡ false) ss

  -- what is behind others is spelt
  pub spelt-behind : (front : List Seat) (b : Bool) (i : ℕ) (ss : List Seat) → AreSpelt b i (front ++ ss) → (c : Bool) × (j : ℕ) × AreSpelt c j ss
  spelt-behind [] b i ss h = (b, i, h)
  spelt-behind (s ∷ front) b i ss (inl feed) = spelt-behind front false s.end.index ss feed.2
  spelt-behind (s ∷ front) b i ss (inr own) = elim own.2 as (λ _. (c : Bool) × (j : ℕ) × AreSpelt c j ss) [
    | inl byte ↦ spelt-behind front false s.end.index ss byte.2
    | inr tab ↦ elim tab as (λ _. (c : Bool) × (j : ℕ) × AreSpelt c j ss) [
      | inl last ↦ spelt-behind front false s.end.index ss last.2
      | inr inner ↦ spelt-behind front true s.end.index ss inner.2
    ]
  ]

  -- a virtual byte that is no line ending, and what is behind it
  pub record IsNext (s : Seat) (i : ℕ) (ss : List Seat) : Type 0 where
    pub own : IsOwn s
    pub here : s.point.index ≡ i
    pub in_tab : Bool
    pub rest : AreSpelt in_tab s.end.index ss

  pub next-own : (b : Bool) (i : ℕ) (s : Seat) (ss : List Seat) → (s.byte == 10) ≡ false → AreSpelt b i (s ∷ ss) → IsNext s i ss
  next-own b i s ss plain (inl feed) = absurd (false≢true (sym plain ∙ ap (λ b. b == 10) feed.1))
  next-own b i s ss plain (inr own) = elim own.2 as (λ _. IsNext s i ss) [
    | inl byte ↦ record { own = own.0; here = own.1; in_tab = false; rest = byte.2 }
    | inr tab ↦ elim tab as (λ _. IsNext s i ss) [
      | inl last ↦ record { own = own.0; here = own.1; in_tab = false; rest = last.2 }
      | inr inner ↦ record { own = own.0; here = own.1; in_tab = true; rest = inner.2 }
    ]
  ]

  -- its virtual bytes are in a row, and its end is shown at itself
  pub in-row : (b : Bool) (i : ℕ) (s : Seat) (ss rest : List Seat) → NoFeeds (s ∷ ss) → AreSpelt b i (s ∷ (ss ++ rest)) → AreInRow bytes s ss
  in-row b i s [] rest plain h = (next-own b i s rest plain.0 h).own.few
  in-row b i s (r ∷ rs) rest plain h =
      let n = next-own b i s (r ∷ (rs ++ rest)) plain.0 h in
      (n.own.few, (next-own n.in_tab s.end.index r (rs ++ rest) plain.1.0 n.rest).here, in-row n.in_tab s.end.index r rs rest plain.1 n.rest)

  pub end-shown : (b : Bool) (i : ℕ) (s : Seat) (ss rest : List Seat) → NoFeeds (s ∷ ss) → AreSpelt b i (s ∷ (ss ++ rest)) → shown bytes (end_after s.end ss) ≡ end_after s.end ss
  end-shown b i s [] rest plain h = (next-own b i s rest plain.0 h).own.to
  end-shown b i s (r ∷ rs) rest plain h = let n = next-own b i s (r ∷ (rs ++ rest)) plain.0 h in end-shown n.in_tab s.end.index r rs rest plain.1 n.rest

  -- what is written for white space is white space
  pub white-written : (b : Bool) (i : ℕ) (ss rest : List Seat) → NoFeeds ss → AllByRecursion (λ (s : Seat). is_label_white s.byte ≡ true) ss → AreSpelt b i (ss ++ rest) → AreWhite (flat_map (written bytes) ss)
  white-written b i [] rest plain white h = tt
  white-written b i (s ∷ ss) rest plain white (inl feed) = absurd (false≢true (sym plain.0 ∙ ap (λ b. b == 10) feed.1))
  white-written b i (s ∷ ss) rest plain white (inr own) =
      let W : ℕ → Type 0 = λ c. is_label_white c ≡ true in
      let more : List ℕ = flat_map (written bytes) ss in
      elim own.2 as (λ _. AreWhite (flat_map (written bytes) (s ∷ ss))) [
        | inl byte ↦ subst (λ l. AreWhite (l ++ more)) (sym byte.1) (white.0, white-written false s.end.index ss rest plain.1 white.1 byte.2)
        | inr tab ↦ elim tab as (λ _. AreWhite (flat_map (written bytes) (s ∷ ss))) [
          | inl last ↦ subst (λ l. AreWhite (l ++ more)) (sym last.1) (refl, white-written false s.end.index ss rest plain.1 white.1 last.2)
          | inr inner ↦ subst (λ l. AreWhite (l ++ more)) (sym inner.1) (white-written true s.end.index ss rest plain.1 white.1 inner.2)
        ]
      ]

  -- behind it is a line ending, or a byte that is no white space
  abbrev pub EndsTabs : List Seat → Type 0
  EndsTabs [] = Unit {0}
  EndsTabs (r ∷ rs) = ((r.byte == 10) ≡ true) ⊎ (is_label_white r.byte ≡ false)

  no-tab : (before : Bool) (i : ℕ) (rest : List Seat) → EndsTabs rest → AreSpelt before i rest → before ≡ false
  no-tab before i [] e h = h
  no-tab before i (r ∷ rs) e (inl feed) = feed.0
  no-tab before i (r ∷ rs) e (inr own) = elim e as (λ _. before ≡ false) [
    | inl ends ↦ absurd (false≢true (sym own.0.line ∙ ends))
    | inr other ↦ elim own.2 as (λ _. before ≡ false) [
      | inl byte ↦ byte.0
      | inr tab ↦ elim tab as (λ _. before ≡ false) [ inl last ↦ absurd (false≢true (sym other ∙ last.0)) | inr inner ↦ absurd (false≢true (sym other ∙ inner.0)) ]
    ]
  ]

  -- so it is whole
  pub stretch-whole : (before : Bool) (i : ℕ) (ss rest : List Seat) → NoFeeds ss → EndsTabs rest → AreSpelt before i (ss ++ rest) → AreWhole (written bytes) before ss
  stretch-whole before i [] rest lines e h = no-tab before i rest e h
  stretch-whole before i (s ∷ ss) rest lines e (inl feed) = absurd (false≢true (sym lines.0 ∙ ap (λ b. b == 10) feed.1))
  stretch-whole before i (s ∷ ss) rest lines e (inr own) = elim own.2 as (λ _. AreWhole (written bytes) before (s ∷ ss)) [
    | inl byte ↦ inl (byte.0, byte.1, stretch-whole false s.end.index ss rest lines.1 e byte.2)
    | inr tab ↦ elim tab as (λ _. AreWhole (written bytes) before (s ∷ ss)) [
      | inl last ↦ inr (inl (last.0, last.1, stretch-whole false s.end.index ss rest lines.1 e last.2))
      | inr inner ↦ inr (inr (inner.0, inner.1, stretch-whole true s.end.index ss rest lines.1 e inner.2))
    ]
  ]
