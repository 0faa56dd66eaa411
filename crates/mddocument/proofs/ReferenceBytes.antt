-- Character references of a text are those of the document: their bytes stand side by side in it, as a gap is only where a line begins.
use Rattle.std.proofs.Common.{◌≡◌, ℕ, zero, suc, ◌+◌, ◌<◌, List, [], ◌∷◌, ◌++◌, Bool, true, false, cond, drop, inl, inr, Option, Some, None, refl, sym, ap, ◌∙◌, subst, arith, ◌==◌, take}
use Rattle.std.proofs.lemmas.Bool.{and_parts, eq-eqb, eqb-true, false≢true, or_cases}
use Rattle.std.proofs.lemmas.Bool.Decides.{nat_tests}
use Rattle.std.specs.List.{AllByRecursion, prefix_len}
use Rattle.std.specs.Option.{is_some}
use Rattle.std.specs.Prelude.{◌&&◌, ◌||◌, nat_lt, slice_get, slice_index}
use Rattle.markdown_base.proofs.Common.{drop-at}
use Rattle.markdown_base.specs.declared.event.Point.{Point}
use Rattle.markdown_base.specs.Places.{shown}
use Rattle.markdown_base.specs.Virtual.{Seat, begins_with_lf, in_tab, line_feed, other_byte, point, tab_width, virtual_from}
use Rattle.mdinline_emphasis.specs.Emphasis.{later}
use Rattle.mdconstructs_machines.specs.LineEvents.{is_line_ending}
use Rattle.mdblock_leaf_blocks.proofs.Marks.Courses.{Course}
use Rattle.mdblock_leaf_blocks.specs.ChunksJoin.{AcrossGap}
use Rattle.mdinline_text_machine.specs.Bytes.{has_byte_at, is_ampersand}
use Rattle.mdinline_text_machine.specs.Construct.{Found}
use Rattle.mdinline_constructs.specs.Reference.{Kind, body_at, decimal, hexadecimal, is_number_sign, is_semicolon, is_value, is_value_byte, is_x, named, number_at, reference, reference_at, value_at}
use Rattle.markdown_tokenizer.proofs.Positions.Chains.{shown-other}
use Rattle.mdinline_text_machine.specs.Parts.{bytes_of}

-- ---- a text and bytes that are the same, up to white space

-- a byte is no white space, and no control character
abbrev pub is_dark : ℕ → Bool
is_dark b = nat_lt 32 b

-- as long as bytes of a text are so, others are the same
abbrev pub Agrees : List ℕ → List ℕ → Type 0
Agrees [] raw = Unit {0}
Agrees (b ∷ bs) [] = is_dark b ≡ false
Agrees (b ∷ bs) (c ∷ cs) = is_dark b ≡ true → (c ≡ b) × Agrees bs cs

value-dark : (kind : Kind) (b : ℕ) → is_value_byte kind b ≡ true → is_dark b ≡ true
value-dark named b h = grind (arith, nat_tests)
value-dark kind b h = grind (arith, nat_tests)

semicolon-dark : (b : ℕ) → is_semicolon b ≡ true → is_dark b ≡ true
semicolon-dark b h = ap is_dark (eqb-true b 59 h)

-- others begin with this byte too, and go on the same
record IsFirstOf (b : ℕ) (bs raw : List ℕ) : Type 0 where
  more : List ℕ
  same : raw ≡ b ∷ more
  agrees : Agrees bs more

-- the first byte is there, and others begin with it
record IsFirst (text raw : List ℕ) : Type 0 where
  byte : ℕ
  behind : List ℕ
  is : text ≡ byte ∷ behind
  there : IsFirstOf byte behind raw

first-dark : (b : ℕ) (bs raw : List ℕ) → is_dark b ≡ true → Agrees (b ∷ bs) raw → IsFirstOf b bs raw
first-dark b bs [] h a = absurd (false≢true (sym a ∙ h))
first-dark b bs (c ∷ cs) h a = let r = a h in record { more = cs; same = ap (λ x. x ∷ cs) r.0; agrees = r.1 }

-- by a test that only dark bytes pass
first-passes : (test : ℕ → Bool) → ((b : ℕ) → test b ≡ true → is_dark b ≡ true) → (text raw : List ℕ) → Agrees text raw → has_byte_at text 0 test ≡ true → IsFirst text raw
first-passes test dark [] raw a h = absurd (false≢true h)
first-passes test dark (b ∷ bs) raw a h = record { byte = b; behind = bs; is = refl; there = first-dark b bs raw (dark b h) a }

-- a value with its semicolon
module _ (kind : Kind) where
  -- how many bytes it has, and these, are the same; and its first byte, or the semicolon, is there
  record IsSame (text raw : List ℕ) : Type 0 where
    first : IsFirst text raw
    size : prefix_len (is_value_byte kind) raw ≡ prefix_len (is_value_byte kind) text
    taken : take (prefix_len (is_value_byte kind) text) raw ≡ take (prefix_len (is_value_byte kind) text) text
    ends : has_byte_at raw (prefix_len (is_value_byte kind) text) is_semicolon ≡ true

  value-same : (text raw : List ℕ) → Agrees text raw → has_byte_at text (prefix_len (is_value_byte kind) text) is_semicolon ≡ true → IsSame text raw
  value-same [] raw a h = absurd (false≢true h)
  value-same (b ∷ bs) raw a h = by (value-same bs) (is_value_byte kind b) refl
    where
      p : ℕ → Bool
      p = is_value_byte kind

      by : ((more : List ℕ) → Agrees bs more → has_byte_at bs (prefix_len (is_value_byte kind) bs) is_semicolon ≡ true → IsSame bs more) → (x : Bool) → is_value_byte kind b ≡ x → IsSame (b ∷ bs) raw
      by further true e =
          let f = first-dark b bs raw (value-dark kind b e) a in
          let n = prefix_len p bs in
          let long : prefix_len p (b ∷ bs) ≡ suc n = ap (λ c. cond c (1 + n) 0) e ∙ omega arith in
          let more = further f.more f.agrees (subst (λ k. has_byte_at (b ∷ bs) k is_semicolon ≡ true) long h) in
          let same : raw ≡ b ∷ f.more = f.same in
          let other : prefix_len p (b ∷ f.more) ≡ suc n = ap (λ c. cond c (1 + prefix_len p f.more) 0) e ∙ ap (λ k. 1 + k) more.size ∙ omega arith in
          record {
            first = record { byte = b; behind = bs; is = refl; there = f };
            size = ap (prefix_len p) same ∙ other ∙ sym long;
            taken = (λ i. take (long i) (same i)) ∙ ap (λ l. b ∷ l) more.taken ∙ sym (ap (λ k. take k (b ∷ bs)) long);
            ends = (λ i. has_byte_at (same i) (long i) is_semicolon) ∙ more.ends;
          }
      by further false e =
          let none : prefix_len p (b ∷ bs) ≡ 0 = ap (λ c. cond c (1 + prefix_len p bs) 0) e in
          let here : is_semicolon b ≡ true = subst (λ k. has_byte_at (b ∷ bs) k is_semicolon ≡ true) none h in
          let f = first-dark b bs raw (semicolon-dark b here) a in
          let same : raw ≡ b ∷ f.more = f.same in
          record {
            first = record { byte = b; behind = bs; is = refl; there = f };
            size = ap (prefix_len p) same ∙ ap (λ c. cond c (1 + prefix_len p f.more) 0) e ∙ sym none;
            taken = (λ i. take (none i) raw) ∙ sym (ap (λ k. take k (b ∷ bs)) none);
            ends = (λ i. has_byte_at (same i) (none i) is_semicolon) ∙ here;
          }

pub some-cond : {A : Type 0} (b : Bool) (x : A) → is_some (cond b (Some x) None) ≡ true → b ≡ true
some-cond true x h = refl
some-cond false x h = absurd (false≢true h)

-- a value of a text is one of the other bytes
value-there : (kind : Kind) (text raw : List ℕ) → Agrees text raw → is_some (value_at kind text) ≡ true → IsFirst text raw × (value_at kind raw ≡ value_at kind text)
value-there kind text raw a h =
    let n = prefix_len (is_value_byte kind) text in
    let there : (is_value kind (take n text) && has_byte_at text n is_semicolon) ≡ true = some-cond _ (reference kind n) h in
    let both = and_parts (is_value kind (take n text)) (has_byte_at text n is_semicolon) there in
    let s = value-same kind text raw a both.1 in
    let value : is_value kind (take (prefix_len (is_value_byte kind) raw) raw) ≡ true = ap (λ k. is_value kind (take k raw)) s.size ∙ ap (is_value kind) s.taken ∙ both.0 in
    let ends : has_byte_at raw (prefix_len (is_value_byte kind) raw) is_semicolon ≡ true = ap (λ k. has_byte_at raw k is_semicolon) s.size ∙ s.ends in
    let found : value_at kind raw ≡ Some (reference kind n) = λ i. cond (value i && ends i) (Some (reference kind (s.size i))) None in
    (s.first, found ∙ sym (ap (λ b. cond b (Some (reference kind n)) None) there))

-- the first bytes are the same, so a test says the same
same-test : (test : ℕ → Bool) (text raw : List ℕ) → IsFirst text raw → has_byte_at raw 0 test ≡ has_byte_at text 0 test
same-test test text raw f = ap (λ l. has_byte_at l 0 test) f.there.same ∙ sym (ap (λ l. has_byte_at l 0 test) f.is)

behind-first : (text raw : List ℕ) → IsFirst text raw → Agrees (drop 1 text) (drop 1 raw)
behind-first text raw f = subst (λ l. Agrees (drop 1 l) (drop 1 raw)) (sym f.is) (subst (λ l. Agrees f.behind (drop 1 l)) (sym f.there.same) f.there.agrees)

x-dark : (b : ℕ) → is_x b ≡ true → is_dark b ≡ true
x-dark b h = elim (or_cases (b == 120) ((b == 88) || false) h) [
  | inl small ↦ ap is_dark (eqb-true b 120 small)
  | inr more ↦ elim (or_cases (b == 88) false more) [ inl large ↦ ap is_dark (eqb-true b 88 large) | inr none ↦ absurd (false≢true none) ]
]

sign-dark : (b : ℕ) → is_number_sign b ≡ true → is_dark b ≡ true
sign-dark b h = ap is_dark (eqb-true b 35 h)

ampersand-dark : (b : ℕ) → is_ampersand b ≡ true → is_dark b ≡ true
ampersand-dark b h = ap is_dark (eqb-true b 38 h)

-- what is found by one test of two lists, by which one the test takes
same-found : (b c : Bool) (x y z w : Option Found) → c ≡ b → (b ≡ true → z ≡ x) → (b ≡ false → w ≡ y) → cond c z w ≡ cond b x y
same-found true c x y z w same one other = ap (λ t. cond t z w) same ∙ one refl
same-found false c x y z w same one other = ap (λ t. cond t z w) same ∙ other refl

module _ (text raw : List ℕ) (a : Agrees text raw) where
  number-there : is_some (number_at text) ≡ true → IsFirst text raw × (number_at raw ≡ number_at text)
  number-there h = by (has_byte_at text 0 is_x) refl h
    where
      by : (x : Bool) → has_byte_at text 0 is_x ≡ x → is_some (cond x (value_at hexadecimal (drop 1 text)) (value_at decimal text)) ≡ true → IsFirst text raw × (number_at raw ≡ number_at text)
      by true e k =
          let f = first-passes is_x x-dark text raw a e in
          let more = value-there hexadecimal (drop 1 text) (drop 1 raw) (behind-first text raw f) k in
          (f, same-found _ _ _ _ _ _ (same-test is_x text raw f) (λ t. more.1) (λ t. absurd (false≢true (sym t ∙ e))))
      by false e k =
          let more = value-there decimal text raw a k in
          (more.0, same-found _ _ _ _ _ _ (same-test is_x text raw more.0) (λ t. absurd (false≢true (sym e ∙ t))) (λ t. more.1))

module _ (text raw : List ℕ) (a : Agrees text raw) where
  body-there : is_some (body_at text) ≡ true → body_at raw ≡ body_at text
  body-there h = by (has_byte_at text 0 is_number_sign) refl h
    where
      by : (x : Bool) → has_byte_at text 0 is_number_sign ≡ x → is_some (cond x (number_at (drop 1 text)) (value_at named text)) ≡ true → body_at raw ≡ body_at text
      by true e k =
          let f = first-passes is_number_sign sign-dark text raw a e in
          let more = number-there (drop 1 text) (drop 1 raw) (behind-first text raw f) k in
          same-found _ _ _ _ _ _ (same-test is_number_sign text raw f) (λ t. more.1) (λ t. absurd (false≢true (sym t ∙ e)))
      by false e k =
          let more = value-there named text raw a k in
          same-found _ _ _ _ _ _ (same-test is_number_sign text raw more.0) (λ t. absurd (false≢true (sym e ∙ t))) (λ t. more.1)

-- A reference of a text is one of the bytes that are the same
pub reference-there : (text raw : List ℕ) → Agrees text raw → is_some (reference_at text) ≡ true → reference_at raw ≡ reference_at text
reference-there text raw a h = by (has_byte_at text 0 is_ampersand) refl h
  where
    by : (x : Bool) → has_byte_at text 0 is_ampersand ≡ x → is_some (cond x (body_at (drop 1 text)) None) ≡ true → reference_at raw ≡ reference_at text
    by true e k =
        let f = first-passes is_ampersand ampersand-dark text raw a e in
        let more = body-there (drop 1 text) (drop 1 raw) (behind-first text raw f) k in
        same-found _ _ _ _ _ _ (same-test is_ampersand text raw f) (λ t. more) (λ t. absurd (false≢true (sym t ∙ e)))
    by false e k = absurd (false≢true k)

-- bytes up to the first that is not dark are the same
front-agrees : (bs : List ℕ) → Agrees bs (take (prefix_len is_dark bs) bs)
front-agrees [] = tt
front-agrees (b ∷ bs) = by (front-agrees bs) (is_dark b) refl
  where
    by : Agrees bs (take (prefix_len is_dark bs) bs) → (x : Bool) → is_dark b ≡ x → Agrees (b ∷ bs) (take (cond x (1 + prefix_len is_dark bs) 0) (b ∷ bs))
    by more true e = let z : 1 + prefix_len is_dark bs ≡ suc (prefix_len is_dark bs) = omega arith in subst (λ n. Agrees (b ∷ bs) (take n (b ∷ bs))) (sym z) (λ d. (refl, more))
    by more false e = e

-- so all bytes of a reference are dark
pub front-reference : (text : List ℕ) → is_some (reference_at text) ≡ true → reference_at (take (prefix_len is_dark text) text) ≡ reference_at text
front-reference text h = reference-there text (take (prefix_len is_dark text) text) (front-agrees text) h

-- ---- virtual bytes

get-of : (bs : List ℕ) (i b : ℕ) → slice_index bs i ≡ b → 0 < b → slice_get bs i ≡ Some b
get-of [] i b h some = absurd (omega (arith, h, some))
get-of (x ∷ bs) zero b h some = ap Some h
get-of (x ∷ bs) (suc i) b h some = get-of bs i b h some

module _ (bytes : List ℕ) where
  -- a dark byte is one of the document, and ends one column and one byte behind itself
  abbrev pub IsWritten : Seat → Type 0
  IsWritten s = is_dark s.byte ≡ true → (slice_index bytes s.point.index ≡ s.byte) × (s.end ≡ later 1 s.point)

  written-tab : (byte n line column index vs : ℕ) (rest : List Seat) → is_dark byte ≡ false → AllByRecursion IsWritten rest → AllByRecursion IsWritten (in_tab byte n line column index vs ++ rest)
  written-tab byte zero line column index vs rest other h = h
  written-tab byte (suc n) line column index vs rest other h = ((λ e. absurd (false≢true (sym other ∙ e))), written-tab 32 n line (suc column) index (suc vs) rest refl h)

  next-place : (line column index : ℕ) → point line (suc column) (suc index) 0 ≡ later 1 (point line column index 0)
  next-place line column index =
      let further : suc column ≡ column + 1 = omega arith in
      let more : suc index ≡ index + 1 = omega arith in
      λ i. point line (further i) (more i) 0

  pub written-virtual : (t line column index : ℕ) (bs : List ℕ) → ((k : ℕ) → slice_index bytes (index + k) ≡ slice_index bs k) → AllByRecursion IsWritten (virtual_from t line column index bs)
  written-virtual t line column index [] at = tt
  written-virtual t line column index (b ∷ bs) at =
      let more : (k : ℕ) → slice_index bytes (suc index + k) ≡ slice_index bs k = λ k. let z : suc index + k ≡ index + suc k = omega arith in ap (slice_index bytes) z ∙ at (suc k) in
      let here : slice_index bytes index ≡ b = let z : index ≡ index + 0 = omega arith in ap (slice_index bytes) z ∙ at 0 in
      by here (λ l c. written-virtual t l c (suc index) bs more) (b == 10) (b == 13) (begins_with_lf bs) (b == 9)
    where
      by : slice_index bytes index ≡ b → ((l c : ℕ) → AllByRecursion IsWritten (virtual_from t l c (suc index) bs)) → (p q r w : Bool)
          → AllByRecursion IsWritten
          (cond p (line_feed line column index ∷ virtual_from t (suc line) 1 (suc index) bs)
          (cond q (cond r (virtual_from t line column (suc index) bs) (line_feed line column index ∷ virtual_from t (suc line) 1 (suc index) bs))
          (cond w (in_tab 9 (tab_width t column) line column index 0 ++ virtual_from t line (column + tab_width t column) (suc index) bs)
          (other_byte b line column index ∷ virtual_from t line (suc column) (suc index) bs))))
      by here rest true q r w = ((λ e. absurd (false≢true e)), rest (suc line) 1)
      by here rest false true true w = rest line column
      by here rest false true false w = ((λ e. absurd (false≢true e)), rest (suc line) 1)
      by here rest false false r true = written-tab 9 (tab_width t column) line column index 0 (virtual_from t line (column + tab_width t column) (suc index) bs) refl (rest line (column + tab_width t column))
      by here rest false false r false = ((λ e. (here, next-place line column index)), rest line (suc column))

  dark-some : (b : ℕ) → is_dark b ≡ true → (0 < b) × ((b == 10) ≡ false)
  dark-some b h = (grind (arith, nat_tests), grind (arith, nat_tests))

  -- it is shown where it is
  pub dark-shown : (s : Seat) → IsWritten s → is_dark s.byte ≡ true → shown bytes s.point ≡ s.point
  dark-shown s w h = shown-other bytes s.point (λ feed. false≢true (sym (dark-some s.byte h).1 ∙ eq-eqb s.byte 10 (sym (w h).0 ∙ feed)))

  not-dark : (b : ℕ) (bs raw : List ℕ) → is_dark b ≡ false → Agrees (b ∷ bs) raw
  not-dark b bs [] h = h
  not-dark b bs (c ∷ cs) h = λ e. absurd (false≢true (sym h ∙ e))

  module _ (t : ℕ) where
    -- the next dark byte stands where one ends
    pub next-dark : (p : Point) (s r : Seat) (rs : List Seat) → Course AcrossGap t bytes p (s ∷ r ∷ rs) → IsWritten r → is_dark s.byte ≡ true → is_dark r.byte ≡ true → r.point ≡ s.end
    next-dark p s r rs c w e k =
        let plain : is_line_ending s ≡ false = (dark-some s.byte e).1 in
        let column = c.1.seat.in_line plain in
        elim c.2.1.meets.in_line [
          | inl same ↦ sym (dark-shown r w k) ∙ sym same
          | inr gap ↦ absurd (let first = gap.0 in omega (arith, column, first))
        ]

    first-agrees : (s : Seat) (ss : List Seat) → IsWritten s → (is_dark s.byte ≡ true → Agrees (bytes_of ss) (drop (suc s.point.index) bytes)) → Agrees (bytes_of (s ∷ ss)) (drop s.point.index bytes)
    first-agrees s ss w more = by (is_dark s.byte) refl
      where
        by : (x : Bool) → is_dark s.byte ≡ x → Agrees (bytes_of (s ∷ ss)) (drop s.point.index bytes)
        by true e =
            let at = drop-at bytes s.point.index s.byte (get-of bytes s.point.index s.byte (w e).0 (dark-some s.byte e).0) in
            subst (Agrees (bytes_of (s ∷ ss))) (sym at) (λ k. (refl, more e))
        by false e = not-dark s.byte (bytes_of ss) (drop s.point.index bytes) e

    next-agrees : (p : Point) (s r : Seat) (rs : List Seat) → Course AcrossGap t bytes p (s ∷ r ∷ rs) → IsWritten s → IsWritten r → is_dark s.byte ≡ true → Agrees (bytes_of (r ∷ rs)) (drop r.point.index bytes)
        → Agrees (bytes_of (r ∷ rs)) (drop (suc s.point.index) bytes)
    next-agrees p s r rs c v w e a = by (is_dark r.byte) refl
      where
        by : (x : Bool) → is_dark r.byte ≡ x → Agrees (bytes_of (r ∷ rs)) (drop (suc s.point.index) bytes)
        by true k =
            let next : s.point.index + 1 ≡ suc s.point.index = omega arith in
            subst (λ i. Agrees (bytes_of (r ∷ rs)) (drop i bytes)) (ap (λ (q : Point). q.index) (next-dark p s r rs c w e k ∙ (v e).1) ∙ next) a
        by false k = not-dark r.byte (bytes_of rs) (drop (suc s.point.index) bytes) k

    -- the bytes of a text from a virtual byte on are those of the document, up to white space
    pub text-agrees : (p : Point) (s : Seat) (ss : List Seat) → Course AcrossGap t bytes p (s ∷ ss) → AllByRecursion IsWritten (s ∷ ss) → Agrees (bytes_of (s ∷ ss)) (drop s.point.index bytes)
    text-agrees p s [] c w = first-agrees s [] w.0 (λ e. tt)
    text-agrees p s (r ∷ rs) c w = let more = text-agrees s.end r rs c.2 w.1 in first-agrees s (r ∷ rs) w.0 (λ e. next-agrees p s r rs c w.0 w.1.0 e more)
