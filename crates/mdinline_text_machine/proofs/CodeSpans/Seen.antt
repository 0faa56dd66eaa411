-- What it means that backtick strings of a text were seen, by a test `ahead` of lengths and indices: whether one that was seen does not begin before
-- an index.
use Rattle.mdinline_text_machine.proofs.Prelude.{◌⊎◌, ◌≡◌, ℕ, zero, suc, ◌+◌, ◌-◌, ◌<◌, ◌≤◌, ◌==◌, ◌&&◌, not, ◌∷◌, [], List, Bool, true, false, cond, refl, sym, ◌∙◌, ap, subst, inl, inr, Option, Some, None, arith, nat_tests, cases_lt, drop, drop-drop, drop-next, eqb-true, prefix_len, Seat, is_backtick, is_backtick_or_line_feed, backticks, bytes_of, passes, Given, Text, IsText}
use Rattle.std.proofs.lemmas.Bool.{eq-eqb, not-true}
use Rattle.markdown_base.proofs.Facts.Numbers.{unlike}
use Rattle.mdconstructs_tables.specs.Breaks.{is_white}
use Rattle.mdinline_text_machine.proofs.CodeSpans.Found.{first_run, further, further-further, no-further, no-run, no-tick}
use Rattle.mdinline_text_machine.proofs.CodeSpans.Parts.{data_length, is_code_byte}
use Rattle.mdinline_text_machine.proofs.CodeSpans.Ticks.{index-behind, index-upto}
use Rattle.mdinline_text_machine.proofs.Plain.Stretches.{first_byte, past, past-is, past-stops}

-- ---- lists
-- a backtick string begins here
abbrev starts : Bool → List ℕ → ℕ → Bool
starts f bytes j = not f && (backticks bytes == j)

-- what is found further on
behind-none : (b : Bool) (o : Option ℕ) → cond b (Some 0) (further 1 o) ≡ None → o ≡ None
behind-none true o h = absurd (cc)
behind-none false None h = refl
behind-none false (Some n) h = absurd (cc)

-- where no backtick waits it is not asked what was before
plain-run : (j : ℕ) → 0 < j → (f : Bool) (b : ℕ) (bs : List ℕ) → is_backtick b ≡ false → first_run j false (b ∷ bs) ≡ first_run j f (b ∷ bs)
plain-run j some f b bs other = no-run j some false b bs other ∙ sym (no-run j some f b bs other)

plain-front : (j : ℕ) → 0 < j → (l : List Seat) → passes is_backtick (first_byte l) ≡ false → first_run j true (bytes_of l) ≡ first_run j false (bytes_of l)
plain-front j some [] h = refl
plain-front j some (s ∷ ss) h = sym (plain-run j some true s.byte (bytes_of ss) h)

-- all bytes of a backtick string are backticks
ticks-inside : (l : List Seat) (i : ℕ) (t : Seat) (ts : List Seat) → i < backticks (bytes_of l) → drop i l ≡ t ∷ ts → is_backtick t.byte ≡ true
ticks-inside [] i t ts h at = absurd (omega (arith, h))
ticks-inside (s ∷ ss) zero t ts h at = elim (is_backtick s.byte) as (λ b. is_backtick s.byte ≡ b → zero < cond b (1 + backticks (bytes_of ss)) 0 → is_backtick t.byte ≡ true) [
  | true ↦ λ e k. let same : s ≡ t = cc in ap (λ (x : Seat). is_backtick x.byte) (sym same) ∙ e
  | false ↦ λ e k. absurd (omega (arith, k))
] refl h
ticks-inside (s ∷ ss) (suc i) t ts h at = elim (is_backtick s.byte) as (λ b. suc i < cond b (1 + backticks (bytes_of ss)) 0 → is_backtick t.byte ≡ true) [
  | true ↦ λ k. ticks-inside ss i t ts (omega (arith, k)) at
  | false ↦ λ k. absurd (omega (arith, k))
] h

module _ (xs : List Seat) where
  -- where no backtick waits from a place on, none of a length that is not found ahead was seen
  abbrev pub Sound : (ahead : ℕ → ℕ → Bool) (p : ℕ) → Type 0
  Sound ahead p = (j : ℕ) → 0 < j → (r : ℕ) (t : Seat) (ts : List Seat) → p ≤ r → drop r xs ≡ t ∷ ts → is_backtick t.byte ≡ false → first_run j false (bytes_of (t ∷ ts)) ≡ None → ahead j t.point.index ≡ false

  -- and one of a length of which none that was seen is ahead is not found
  abbrev pub Complete : (ahead : ℕ → ℕ → Bool) (p : ℕ) → Type 0
  Complete ahead p = (j : ℕ) → 0 < j → (r : ℕ) (t : Seat) (ts : List Seat) → p ≤ r → drop r xs ≡ t ∷ ts → is_backtick t.byte ≡ false → ahead j t.point.index ≡ false → first_run j false (bytes_of (t ∷ ts)) ≡ None

  -- All were seen from one place to another: what is looked for from between them is looked for from the second, if none that was seen is ahead
  pub record Tracks (ahead : ℕ → ℕ → Bool) (q0 q : ℕ) (f : Bool) : Type 0 where
    pub through : (j : ℕ) → 0 < j → (r : ℕ) (t : Seat) (ts : List Seat) → q0 ≤ r → r ≤ q → drop r xs ≡ t ∷ ts → is_backtick t.byte ≡ false → ahead j t.point.index ≡ false
        → first_run j false (bytes_of (t ∷ ts)) ≡ further (q - r) (first_run j f (bytes_of (drop q xs)))
    pub none : (j : ℕ) → 0 < j → (r : ℕ) (t : Seat) (ts : List Seat) → q0 ≤ r → r ≤ q → drop r xs ≡ t ∷ ts → is_backtick t.byte ≡ false
        → first_run j false (bytes_of (t ∷ ts)) ≡ None → first_run j f (bytes_of (drop q xs)) ≡ None

  -- at a place itself
  here-through : (q : ℕ) (f : Bool) (j : ℕ) → 0 < j → (r : ℕ) (t : Seat) (ts : List Seat) → r ≡ q → drop r xs ≡ t ∷ ts → is_backtick t.byte ≡ false
      → first_run j false (bytes_of (t ∷ ts)) ≡ further (q - r) (first_run j f (bytes_of (drop q xs)))
  here-through q f j some r t ts same at other =
      let list : drop q xs ≡ t ∷ ts = ap (λ n. drop n xs) (sym same) ∙ at in
      let nothing_left : q - r ≡ 0 = omega (arith, same) in
      plain-run j some f t.byte (bytes_of ts) other ∙ sym (no-further (first_run j f (bytes_of (t ∷ ts)))) ∙ ap (λ n. further n (first_run j f (bytes_of (t ∷ ts)))) (sym nothing_left)
      ∙ ap (λ l. further (q - r) (first_run j f (bytes_of l))) (sym list)

  here-none : (q : ℕ) (f : Bool) (j : ℕ) → 0 < j → (r : ℕ) (t : Seat) (ts : List Seat) → r ≡ q → drop r xs ≡ t ∷ ts → is_backtick t.byte ≡ false
      → first_run j false (bytes_of (t ∷ ts)) ≡ None → first_run j f (bytes_of (drop q xs)) ≡ None
  here-none q f j some r t ts same at other h =
      let list : drop q xs ≡ t ∷ ts = ap (λ n. drop n xs) (sym same) ∙ at in
      ap (λ l. first_run j f (bytes_of l)) list ∙ sym (plain-run j some f t.byte (bytes_of ts) other) ∙ h

  pub tracks-none : (ahead : ℕ → ℕ → Bool) (q : ℕ) → Tracks ahead q q false
  tracks-none ahead q = record {
    through = λ j some r t ts lo hi at other dark. here-through q false j some r t ts (omega (arith, lo, hi)) at other;
    none = λ j some r t ts lo hi at other h. here-none q false j some r t ts (omega (arith, lo, hi)) at other h;
  }

  -- a byte further on, with what was seen at it
  tracks-byte : (ahead ahead' : ℕ → ℕ → Bool) (q0 q : ℕ) (f : Bool) (s : Seat) (ss : List Seat) → drop q xs ≡ s ∷ ss → Tracks ahead q0 q f
      → ((j i : ℕ) → ahead' j i ≡ false → ahead j i ≡ false)
      → ((j : ℕ) → 0 < j → starts f (bytes_of (s ∷ ss)) j ≡ true → (r : ℕ) (t : Seat) (ts : List Seat) → q0 ≤ r → r ≤ q → drop r xs ≡ t ∷ ts → ahead' j t.point.index ≡ true)
      → Tracks ahead' q0 (q + 1) (s.byte == 96)
  tracks-byte ahead ahead' q0 q f s ss here tracks less noted =
      let next : drop (q + 1) xs ≡ ss = drop-next xs q s ss here in
      let unfolds : (j : ℕ) → first_run j f (bytes_of (drop q xs)) ≡ cond (starts f (bytes_of (s ∷ ss)) j) (Some 0) (further 1 (first_run j (s.byte == 96) (bytes_of ss))) =
      λ j. ap (λ l. first_run j f (bytes_of l)) here in
      record {
        through = λ j some r t ts lo hi at other dark. elim (cases_lt q r) [
          | inl later ↦ here-through (q + 1) (s.byte == 96) j some r t ts (omega (arith, later, hi)) at other
          | inr upto ↦
              let none_starts : starts f (bytes_of (s ∷ ss)) j ≡ false = elim (starts f (bytes_of (s ∷ ss)) j) as (λ b. starts f (bytes_of (s ∷ ss)) j ≡ b → b ≡ false) [
                | true ↦ λ e. let no : true ≡ false = sym (noted j some e r t ts lo upto at) ∙ dark in absurd (cc)
                | false ↦ λ e. refl
              ] refl in
              let place : q - r + 1 ≡ q + 1 - r = omega (arith, upto) in
              tracks.through j some r t ts lo upto at other (less j t.point.index dark)
              ∙ ap (further (q - r)) (unfolds j ∙ ap (λ b. cond b (Some 0) (further 1 (first_run j (s.byte == 96) (bytes_of ss)))) none_starts)
              ∙ further-further (q - r) 1 (first_run j (s.byte == 96) (bytes_of ss)) ∙ ap (λ n. further n (first_run j (s.byte == 96) (bytes_of ss))) place
              ∙ ap (λ l. further (q + 1 - r) (first_run j (s.byte == 96) (bytes_of l))) (sym next)
        ];
        none = λ j some r t ts lo hi at other h. elim (cases_lt q r) [
          | inl later ↦ here-none (q + 1) (s.byte == 96) j some r t ts (omega (arith, later, hi)) at other h
          | inr upto ↦
              ap (λ l. first_run j (s.byte == 96) (bytes_of l)) next
              ∙ behind-none (starts f (bytes_of (s ∷ ss)) j) (first_run j (s.byte == 96) (bytes_of ss)) (sym (unfolds j) ∙ tracks.none j some r t ts lo upto at other h)
        ];
      }

  -- and over bytes at which no backtick string begins
  tracks-over : (P : ℕ → Bool) (f : Bool) → ((b : ℕ) (bs : List ℕ) → P b ≡ true → ((b == 96) ≡ f) × ((j : ℕ) → 0 < j → starts f (b ∷ bs) j ≡ false))
      → (ahead : ℕ → ℕ → Bool) (q0 : ℕ) (l : List Seat) (q : ℕ) → drop q xs ≡ l → Tracks ahead q0 q f → Tracks ahead q0 (q + prefix_len P (bytes_of l)) f
  tracks-over P f none ahead q0 [] q at tracks = let same : q ≡ q + 0 = omega arith in subst (λ n. Tracks ahead q0 n f) same tracks
  tracks-over P f none ahead q0 (s ∷ ss) q at tracks = elim (P s.byte) as (λ t. P s.byte ≡ t → Tracks ahead q0 (q + cond t (1 + prefix_len P (bytes_of ss)) 0) f) [
    | true ↦ λ e.
        let it = none s.byte (bytes_of ss) e in
        let stepped : Tracks ahead q0 (q + 1) (s.byte == 96) =
        tracks-byte ahead ahead q0 q f s ss at tracks (λ j i h. h) (λ j some begins r t ts lo hi here. let no : true ≡ false = sym begins ∙ it.1 j some in absurd (cc)) in
        let place : q + 1 + prefix_len P (bytes_of ss) ≡ q + (1 + prefix_len P (bytes_of ss)) = omega arith in
        subst (λ n. Tracks ahead q0 n f) place (tracks-over P f none ahead q0 ss (q + 1) (drop-next xs q s ss at) (subst (Tracks ahead q0 (q + 1)) it.0 stepped))
    | false ↦ λ e. let same : q ≡ q + 0 = omega arith in subst (λ n. Tracks ahead q0 n f) same tracks
  ] refl

  -- where no backtick waits
  tracks-plain : (ahead : ℕ → ℕ → Bool) (q0 q : ℕ) (l : List Seat) → drop q xs ≡ l → passes is_backtick (first_byte l) ≡ false → Tracks ahead q0 q true → Tracks ahead q0 q false
  tracks-plain ahead q0 q l at other tracks =
      let same : (j : ℕ) → 0 < j → first_run j true (bytes_of (drop q xs)) ≡ first_run j false (bytes_of (drop q xs)) =
      λ j some. subst (λ l. first_run j true (bytes_of l) ≡ first_run j false (bytes_of l)) (sym at) (plain-front j some l other) in
      record {
        through = λ j some r t ts lo hi here plain dark. tracks.through j some r t ts lo hi here plain dark ∙ ap (further (q - r)) (same j some);
        none = λ j some r t ts lo hi here plain h. sym (same j some) ∙ tracks.none j some r t ts lo hi here plain h;
      }

  -- over data, and over a line ending
  other-starts : (b : ℕ) (bs : List ℕ) → (b == 96) ≡ false → ((b == 96) ≡ false) × ((j : ℕ) → 0 < j → starts false (b ∷ bs) j ≡ false)
  other-starts b bs e = (e, λ j some. let none : (0 == j) ≡ false = grind (arith, nat_tests) in ap (λ t. cond t (1 + backticks bs) 0 == j) e ∙ none)

  code-starts : (b : ℕ) (bs : List ℕ) → is_code_byte b ≡ true → ((b == 96) ≡ false) × ((j : ℕ) → 0 < j → starts false (b ∷ bs) j ≡ false)
  code-starts b bs h = let plain : is_backtick_or_line_feed b ≡ false = not-true (is_backtick_or_line_feed b) h in other-starts b bs (no-tick b plain)

  pub tracks-data : (ahead : ℕ → ℕ → Bool) (q0 : ℕ) (l : List Seat) (q : ℕ) → drop q xs ≡ l → Tracks ahead q0 q false → Tracks ahead q0 (q + data_length (bytes_of l)) false
  tracks-data = tracks-over is_code_byte false code-starts

  -- over white space
  white-starts : (b : ℕ) (bs : List ℕ) → is_white b ≡ true → ((b == 96) ≡ false) × ((j : ℕ) → 0 < j → starts false (b ∷ bs) j ≡ false)
  white-starts b bs h = other-starts b bs (unlike is_white 96 refl b h)

  pub tracks-white : (ahead : ℕ → ℕ → Bool) (q0 : ℕ) (l : List Seat) (q : ℕ) → drop q xs ≡ l → Tracks ahead q0 q false → Tracks ahead q0 (q + prefix_len is_white (bytes_of l)) false
  tracks-white = tracks-over is_white false white-starts

  pub tracks-line : (ahead : ℕ → ℕ → Bool) (q0 q : ℕ) (s : Seat) (ss : List Seat) → drop q xs ≡ s ∷ ss → (s.byte == 96) ≡ false → Tracks ahead q0 q false → Tracks ahead q0 (q + 1) false
  tracks-line ahead q0 q s ss at other tracks =
      subst (Tracks ahead q0 (q + 1)) other
      (tracks-byte ahead ahead q0 q false s ss at tracks (λ j i h. h)
      (λ j some begins r t ts lo hi here. let no : true ≡ false = sym begins ∙ (other-starts s.byte (bytes_of ss) other).1 j some in absurd (cc)))

  -- where no backtick waits it is behind a backtick string
  pub behind-run : (p r : ℕ) (t : Seat) (ts : List Seat) → drop r xs ≡ t ∷ ts → is_backtick t.byte ≡ false → p ≤ r → p + backticks (bytes_of (drop p xs)) ≤ r
  behind-run p r t ts at other h = elim (cases_lt r (p + backticks (bytes_of (drop p xs)))) [
    | inl before ↦
        let i = r - p in
        let place : p + i ≡ r = omega (arith, h) in
        let inside : drop i (drop p xs) ≡ t ∷ ts = drop-drop i p xs ∙ ap (λ n. drop n xs) place ∙ at in
        let no : true ≡ false = sym (ticks-inside (drop p xs) i t ts (omega (arith, before, h)) inside) ∙ other in absurd (cc)
    | inr behind ↦ behind
  ]

  -- a test that answers alike
  pub tracks-as : (ahead ahead' : ℕ → ℕ → Bool) (q0 q : ℕ) → ((j i : ℕ) → ahead' j i ≡ ahead j i) → Tracks ahead q0 q false → Tracks ahead' q0 q false
  tracks-as ahead ahead' q0 q alike tracks = record {
    through = λ j some r t ts lo hi here other dark. tracks.through j some r t ts lo hi here other (sym (alike j t.point.index) ∙ dark);
    none = λ j some r t ts lo hi here other h. tracks.none j some r t ts lo hi here other h;
  }

module _ (g : Given) (text : Text) (is : IsText g text) where
  -- Over a backtick string that is noted, and the data behind it
  pub tracks-run : (ahead ahead' : ℕ → ℕ → Bool) (q0 q : ℕ) (s : Seat) (ss : List Seat) → drop q text.seats ≡ s ∷ ss → is_backtick s.byte ≡ true → Tracks text.seats ahead q0 q false
      → ((j i : ℕ) → ahead' j i ≡ false → ahead j i ≡ false) → ((i : ℕ) → i ≤ s.point.index → ahead' (backticks (bytes_of (s ∷ ss))) i ≡ true)
      → Tracks text.seats ahead' q0 (q + (backticks (bytes_of (s ∷ ss)) + data_length (bytes_of (past is_backtick (s ∷ ss))))) false
  tracks-run ahead ahead' q0 q s ss at tick tracks less noted =
      let xs = text.seats in
      let l = s ∷ ss in
      let k = backticks (bytes_of l) in
      let rest = past is_backtick l in
      let first : Tracks xs ahead' q0 (q + 1) (s.byte == 96) =
      tracks-byte xs ahead ahead' q0 q false s ss at tracks less
      (λ j some begins r t ts lo hi here.
      let same : k ≡ j = eqb-true k j begins in
      subst (λ j. ahead' j t.point.index ≡ true) same (noted t.point.index (index-upto g text is r q t s ts ss here at hi))) in
      let ticks = tracks-over xs is_backtick true (λ b bs e. (e, λ j some. refl)) ahead' q0 ss (q + 1) (drop-next xs q s ss at) (subst (Tracks xs ahead' q0 (q + 1)) tick first) in
      let size : k ≡ 1 + backticks (bytes_of ss) = ap (λ t. cond t (1 + backticks (bytes_of ss)) 0) tick in
      let place : q + 1 + backticks (bytes_of ss) ≡ q + k = omega (arith, size) in
      let behind : drop (q + k) xs ≡ rest = sym (drop-drop k q xs) ∙ ap (drop k) at ∙ sym (past-is is_backtick l) in
      let plain = tracks-plain xs ahead' q0 (q + k) rest behind (past-stops is_backtick l) (subst (λ n. Tracks xs ahead' q0 n true) place ticks) in
      let whole : q + k + data_length (bytes_of rest) ≡ q + (k + data_length (bytes_of rest)) = omega arith in
      subst (λ n. Tracks xs ahead' q0 n false) whole (tracks-data xs ahead' q0 rest (q + k) behind plain)

  -- what was seen is still sound if it is noted
  pub sound-run : (ahead ahead' : ℕ → ℕ → Bool) (p q : ℕ) (s : Seat) (ss : List Seat) → drop q text.seats ≡ s ∷ ss → is_backtick s.byte ≡ true
      → Tracks text.seats ahead (p + backticks (bytes_of (drop p text.seats))) q false → Sound text.seats ahead p
      → ((j i : ℕ) → ahead' j i ≡ true → (ahead j i ≡ true) ⊎ ((j ≡ backticks (bytes_of (s ∷ ss))) × (i ≤ s.point.index))) → Sound text.seats ahead' p
  sound-run ahead ahead' p q s ss at tick tracks sound new j some r t ts lo here other none =
      let k = backticks (bytes_of (s ∷ ss)) in
      elim (ahead' j t.point.index) as (λ b. ahead' j t.point.index ≡ b → b ≡ false) [
        | true ↦ λ e. elim (new j t.point.index e) [
          | inl old ↦ let no : true ≡ false = sym old ∙ sound j some r t ts lo here other none in absurd (cc)
          | inr it ↦ elim (cases_lt q r) [
            | inl later ↦ absurd (omega (arith, it.1, index-behind g text is q r s t ss ts at tick here later))
            | inr upto ↦
                let left : first_run j false (bytes_of (s ∷ ss)) ≡ None =
                ap (λ l. first_run j false (bytes_of l)) (sym at) ∙ tracks.none j some r t ts (behind-run text.seats p r t ts here other lo) upto here other none in
                let found : first_run j false (bytes_of (s ∷ ss)) ≡ Some 0 =
                ap (λ b. cond b (Some 0) (further 1 (first_run j (s.byte == 96) (bytes_of ss)))) (eq-eqb k j (sym it.0)) in
                let no : Some zero ≡ None = sym found ∙ left in absurd (cc)
          ]
        ]
        | false ↦ λ e. refl
      ] refl
