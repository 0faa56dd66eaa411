-- Raw HTML that is read byte by byte, from place to place: how many bytes it has, and that a blank line ends the reading.
use Rattle.mdinline_constructs.proofs.Prelude.{◌≡◌, ℕ, suc, ◌+◌, ◌==◌, ◌&&◌, ◌||◌, List, [], ◌∷◌, Bool, true, false, cond, Option, Some, None, take, refl, sym, ap, ◌∙◌, subst, one-add, prefix_len, eqb-true, Configuration, Local, Sight, is_white, has_byte_at, is_line_feed, has_blank_line}

-- What a byte does at a place: it is refused, it is the last one, or another place follows. What is written then, if anything, is for the reader
pub data Move (S : Type 0) : Type 0 where
  refused : Move S
  done : Move S
  goes : Option (Configuration Unit Unit → Local Unit Unit) → S → Move S

-- What is written where the end or a blank line stops a reader, if anything is, by what is seen there
abbrev pub Stop : Type 0
Stop = Option (Sight → Configuration Unit Unit → Local Unit Unit)

-- nothing is, at any place
abbrev pub never_writes : {S : Type 0} → S → Stop
never_writes s = None

-- one byte more
abbrev pub one_further : Option ℕ → Option ℕ
one_further None = None
one_further (Some n) = Some (suc n)

-- how many bytes there are up to the last one, by how many there are from the place that follows on
abbrev pub moved : {S : Type 0} → (S → Option ℕ) → Move S → Option ℕ
moved f refused = None
moved f done = Some 1
moved f (goes w s) = one_further (f s)

-- how many bytes are gone over, by how many there are from the place that follows on
abbrev pub gone_over : {S : Type 0} → (S → ℕ) → Move S → ℕ
gone_over f refused = 0
gone_over f done = 1
gone_over f (goes w s) = suc (f s)

-- what is written at the stop: nothing where a byte is refused
abbrev pub stop_behind : {S : Type 0} → (S → Stop) → Move S → Stop
stop_behind f refused = None
stop_behind f done = None
stop_behind f (goes w s) = f s

-- a blank line is ahead, behind a line ending
abbrev pub blank_ahead : List ℕ → Bool
blank_ahead bs = has_byte_at bs (prefix_len is_white bs) is_line_feed

-- there is a blank line, behind a line ending or behind none
abbrev pub has_blank : (line : Bool) → List ℕ → Bool
has_blank true bs = blank_ahead bs || has_blank_line bs
has_blank false bs = has_blank_line bs

-- so many bytes, if no blank line is among them
abbrev pub with_no_blank : (line : Bool) → List ℕ → Option ℕ → Option ℕ
with_no_blank line bs None = None
with_no_blank line bs (Some n) = cond (has_blank line (take n bs)) None (Some n)

-- any byte but a line feed begins no blank line
pub plain-front : (b : ℕ) (bs : List ℕ) → (b == 10) ≡ false → has_blank_line (b ∷ bs) ≡ has_blank_line bs
plain-front b bs h = ap (λ t. (t && has_byte_at (b ∷ bs) (1 + prefix_len is_white bs) is_line_feed) || has_blank_line bs) h

module _ {S : Type 0} (next : S → ℕ → Move S) where
  -- how many bytes there are from a place on
  abbrev pub run : List ℕ → S → Option ℕ
  run [] s = None
  run (b ∷ bs) s = moved (run bs) (next s b)

  -- the same as it is read: behind a line ending white space is passed, and a line ending is refused
  abbrev pub walk : List ℕ → (line : Bool) → S → Option ℕ
  walk [] line s = None
  walk (b ∷ bs) line s =
      cond (b == 10) (cond line None (moved (walk bs true) (next s b)))
      (cond (line && is_white b) (one_further (walk bs true s)) (moved (walk bs false) (next s b)))

  -- how many bytes it goes over, until it is done or stops
  abbrev pub looked : List ℕ → (line : Bool) → S → ℕ
  looked [] line s = 0
  looked (b ∷ bs) line s =
      cond (b == 10) (cond line 0 (gone_over (looked bs true) (next s b)))
      (cond (line && is_white b) (suc (looked bs true s)) (gone_over (looked bs false) (next s b)))

  -- what is written where it stops, by the place at which the end or a blank line stops it
  abbrev pub stop_of : (S → Stop) → List ℕ → (line : Bool) → S → Stop
  stop_of gives_up [] line s = gives_up s
  stop_of gives_up (b ∷ bs) line s =
      cond (b == 10) (cond line (gives_up s) (stop_behind (stop_of gives_up bs true) (next s b)))
      (cond (line && is_white b) (stop_of gives_up bs true s) (stop_behind (stop_of gives_up bs false) (next s b)))

  -- nothing is, if no place writes
  stays-unwritten : (move : Move S) (f : S → Stop) → ((s : S) → f s ≡ None) → stop_behind f move ≡ None
  stays-unwritten refused f h = refl
  stays-unwritten done f h = refl
  stays-unwritten (goes w s) f h = h s

  pub nothing-written : (bs : List ℕ) (line : Bool) (s : S) → stop_of never_writes bs line s ≡ None
  nothing-written [] line s = refl
  nothing-written (b ∷ bs) line s =
      elim (b == 10) as (λ t. cond t (cond line None (stop_behind (stop_of never_writes bs true) (next s b)))
      (cond (line && is_white b) (stop_of never_writes bs true s) (stop_behind (stop_of never_writes bs false) (next s b))) ≡ None) [
        | true ↦ elim line as (λ l. cond l None (stop_behind (stop_of never_writes bs true) (next s b)) ≡ None) [
          | true ↦ refl
          | false ↦ stays-unwritten (next s b) (stop_of never_writes bs true) (nothing-written bs true)
        ]
        | false ↦ elim (line && is_white b) as (λ l. cond l (stop_of never_writes bs true s) (stop_behind (stop_of never_writes bs false) (next s b)) ≡ None) [
          | true ↦ nothing-written bs true s
          | false ↦ stays-unwritten (next s b) (stop_of never_writes bs false) (nothing-written bs false)
        ]
      ]

  -- A place that may follow a line ending: white space changes nothing there
  abbrev pub IsThrough : S → Type 0
  IsThrough s = (b : ℕ) → is_white b ≡ true → next s b ≡ goes None s

  -- at a line ending HTML does not end, and such a place follows
  abbrev pub OfLine : Move S → Type 0
  OfLine refused = Unit {0}
  OfLine done = ⊥
  OfLine (goes w s) = IsThrough s

  abbrev pub GoesThroughLines : Type 0
  GoesThroughLines = (s : S) → OfLine (next s 10)

  -- a byte that begins no blank line
  one-more : (line after : Bool) (b : ℕ) (bs : List ℕ) (o : Option ℕ) → ((n : ℕ) → has_blank line (b ∷ take n bs) ≡ has_blank after (take n bs))
      → one_further (with_no_blank after bs o) ≡ with_no_blank line (b ∷ bs) (one_further o)
  one-more line after b bs None same = refl
  one-more line after b bs (Some n) same =
      elim (has_blank after (take n bs)) as (λ t. has_blank line (b ∷ take n bs) ≡ t → one_further (cond t None (Some n)) ≡ cond (has_blank line (b ∷ take n bs)) None (Some (suc n))) [
        | true ↦ λ e. sym (ap (λ t. cond t None (Some (suc n))) e)
        | false ↦ λ e. sym (ap (λ t. cond t None (Some (suc n))) e)
      ] (same n)

  -- white space changes nothing ahead
  white-ahead : (b : ℕ) (bs : List ℕ) → is_white b ≡ true → blank_ahead (b ∷ bs) ≡ blank_ahead bs
  white-ahead b bs h = ap (λ t. has_byte_at (b ∷ bs) (cond t (1 + prefix_len is_white bs) 0) is_line_feed) h ∙ ap (λ m. has_byte_at (b ∷ bs) m is_line_feed) (one-add (prefix_len is_white bs))

  -- nor is one ahead at any other byte
  none-ahead : (b : ℕ) (bs : List ℕ) → is_white b ≡ false → (b == 10) ≡ false → blank_ahead (b ∷ bs) ≡ false
  none-ahead b bs w h = ap (λ t. has_byte_at (b ∷ bs) (cond t (1 + prefix_len is_white bs) 0) is_line_feed) w ∙ h

  -- behind a line feed
  feed-front : (b : ℕ) (bs : List ℕ) → (b == 10) ≡ true → has_blank_line (b ∷ bs) ≡ has_blank true bs
  feed-front b bs h =
      ap (λ t. (t && has_byte_at (b ∷ bs) (1 + prefix_len is_white bs) is_line_feed) || has_blank_line bs) h
      ∙ ap (λ m. has_byte_at (b ∷ bs) m is_line_feed || has_blank_line bs) (one-add (prefix_len is_white bs))

  no-white : (b : ℕ) → (b == 10) ≡ true → is_white b ≡ false
  no-white b h = ap is_white (eqb-true b 10 h)

  -- at a byte that is no line feed, or white space behind one
  plain-step : (b : ℕ) (bs : List ℕ) (m : Move S) (line : Bool) → (b == 10) ≡ false → (line && is_white b) ≡ false
      → ((s : S) → walk bs false s ≡ with_no_blank false bs (run bs s)) → moved (walk bs false) m ≡ with_no_blank line (b ∷ bs) (moved (run bs) m)
  plain-step b bs refused line e w ih = refl
  plain-step b bs done false e w ih = sym (ap (λ t. cond t None (Some 1)) (plain-front b [] e))
  plain-step b bs done true e w ih = sym (ap (λ t. cond (t || has_blank_line (b ∷ [])) None (Some 1)) (none-ahead b [] w e) ∙ ap (λ t. cond t None (Some 1)) (plain-front b [] e))
  plain-step b bs (goes x s) false e w ih = ap one_further (ih s) ∙ one-more false false b bs (run bs s) (λ n. plain-front b (take n bs) e)
  plain-step b bs (goes x s) true e w ih =
      ap one_further (ih s) ∙ one-more true false b bs (run bs s) (λ n. ap (λ t. t || has_blank_line (b ∷ take n bs)) (none-ahead b (take n bs) w e) ∙ plain-front b (take n bs) e)

  -- at a line feed
  line-step : (b : ℕ) (bs : List ℕ) (m : Move S) → (b == 10) ≡ true → OfLine m
      → ((s : S) → IsThrough s → walk bs true s ≡ with_no_blank true bs (run bs s)) → moved (walk bs true) m ≡ with_no_blank false (b ∷ bs) (moved (run bs) m)
  line-step b bs refused e h ih = refl
  line-step b bs done e h ih = absurd h
  line-step b bs (goes w s) e h ih = ap one_further (ih s h) ∙ one-more false true b bs (run bs s) (λ n. feed-front b (take n bs) e)

  -- a second one
  blank-step : (b : ℕ) (bs : List ℕ) (o : Option ℕ) → (b == 10) ≡ true → None ≡ with_no_blank true (b ∷ bs) (one_further o)
  blank-step b bs None e = refl
  blank-step b bs (Some n) e =
      let front : blank_ahead (b ∷ take n bs) ≡ true =
      ap (λ t. has_byte_at (b ∷ take n bs) (cond t (1 + prefix_len is_white (take n bs)) 0) is_line_feed) (no-white b e) ∙ e in
      sym (ap (λ t. cond (t || has_blank_line (b ∷ take n bs)) None (Some (suc n))) front)

  blank-move : (b : ℕ) (bs : List ℕ) (m : Move S) → (b == 10) ≡ true → OfLine m → None ≡ with_no_blank true (b ∷ bs) (moved (run bs) m)
  blank-move b bs refused e h = refl
  blank-move b bs done e h = absurd h
  blank-move b bs (goes w s) e h = blank-step b bs (run bs s) e

  -- What is read is what there is, unless there is a blank line
  abbrev Walks : List ℕ → Type 0
  Walks bs = ((s : S) → walk bs false s ≡ with_no_blank false bs (run bs s)) × ((s : S) → IsThrough s → walk bs true s ≡ with_no_blank true bs (run bs s))

  pub walks : GoesThroughLines → (bs : List ℕ) → Walks bs
  walks through [] = (λ s. refl, λ s t. refl)
  walks through (b ∷ bs) =
      let ih = walks through bs in (
        λ s. elim (b == 10) as (λ t. (b == 10) ≡ t → cond t (moved (walk bs true) (next s b)) (moved (walk bs false) (next s b)) ≡ with_no_blank false (b ∷ bs) (moved (run bs) (next s b))) [
          | true ↦ λ e. line-step b bs (next s b) e (subst (λ c. OfLine (next s c)) (sym (eqb-true b 10 e)) (through s)) ih.1
          | false ↦ λ e. plain-step b bs (next s b) false e refl ih.0
        ] refl,
        λ s t. elim (b == 10) as (λ c. (b == 10) ≡ c → cond c None (cond (is_white b) (one_further (walk bs true s)) (moved (walk bs false) (next s b))) ≡ with_no_blank true (b ∷ bs) (moved (run bs) (next s b))) [
          | true ↦ λ e. blank-move b bs (next s b) e (subst (λ c. OfLine (next s c)) (sym (eqb-true b 10 e)) (through s))
          | false ↦ λ e. elim (is_white b) as (λ w. is_white b ≡ w → cond w (one_further (walk bs true s)) (moved (walk bs false) (next s b)) ≡ with_no_blank true (b ∷ bs) (moved (run bs) (next s b))) [
            | true ↦ λ w.
                ap one_further (ih.1 s t)
                ∙ one-more true true b bs (run bs s) (λ n. ap (λ x. x || has_blank_line (b ∷ take n bs)) (white-ahead b (take n bs) w) ∙ ap (λ x. blank_ahead (take n bs) || x) (plain-front b (take n bs) e))
                ∙ sym (ap (λ m. with_no_blank true (b ∷ bs) (moved (run bs) m)) (t b w))
            | false ↦ λ w. plain-step b bs (next s b) true e w ih.0
          ] refl
        ] refl,
      )
