-- Virtual bytes with no line ending but at their end, and events over such: data of each line, parts, and spans can be cut into atoms.
use Rattle.markdown_base.proofs.Facts.Numbers.{unlike}
use Rattle.mdinline_text_machine.proofs.Prelude.{◌≡◌, ℕ, zero, suc, ◌+◌, ◌-◌, ◌<◌, ◌≤◌, ◌==◌, ◌∷◌, ◌++◌, [], List, Bool, true, false, cond, not, refl, sym, ◌∙◌, ap, subst, arith, length, take, drop, max, flat_map, AllByRecursion, every-append, between, prefix_len, position_or_len, drop-drop, take-append-drop, drop-map, Event, Data, LineEnding, Seat, is_line_ending, joined, lines_in, line_text, ending_of, data_line, data_events, both, line_ending, plain_run, Found, part_length, item_length, has_byte_at, is_backtick, backticks, plain_length, part_at, bytes_of, cut, part_events, item_events}
use Rattle.std.proofs.Math.Seq.{take-add}
use Rattle.markdown_base.specs.declared.event.Name.{Name}
use Rattle.mdconstructs_machines.proofs.LineReads.Accounts.{lines-are-all}
use Rattle.mdconstructs_machines.specs.Spans.{span}
use Rattle.mdinline_text_machine.proofs.DeepSpans.Atoms.{OneLine, IsCut, cut-none, cut-append, cut-leaf, cut-span}
use Rattle.mdinline_text_machine.proofs.Texts.Cutting.{drop-less}

-- no line ending is among these
abbrev pub NoEnding : List Seat → Type 0
NoEnding l = AllByRecursion (λ s. is_line_ending s ≡ false) l

pub plain-line : (l : List Seat) → NoEnding l → OneLine l
plain-line [] h = tt
plain-line (s ∷ []) h = tt
plain-line (s ∷ r ∷ rs) h = (h.0, plain-line (r ∷ rs) h.1)

-- nor in the text of a line
text-plain : (l : List Seat) → NoEnding (line_text l)
text-plain [] = tt
text-plain (s ∷ ss) =
    elim (is_line_ending s) as (λ b. is_line_ending s ≡ b → NoEnding (cond (not b) (s ∷ line_text ss) (line_text ss))) [ true ↦ λ e. text-plain ss | false ↦ λ e. (e, text-plain ss) ] refl

-- a line has one line ending at most
abbrev EndsOnce : List Seat → Type 0
EndsOnce line = OneLine (ending_of line)

one-ending : (s : Seat) (b : Bool) → OneLine (cond b (s ∷ []) [])
one-ending s true = tt
one-ending s false = tt

joined-once : (s : Seat) (lines : List (List Seat)) → is_line_ending s ≡ false → AllByRecursion EndsOnce lines → AllByRecursion EndsOnce (joined s lines)
joined-once s [] e h = (one-ending s (is_line_ending s), tt)
joined-once s (line ∷ lines) e h = (subst (λ b. OneLine (cond b (s ∷ ending_of line) (ending_of line))) (sym e) h.0, h.1)

lines-once : (l : List Seat) → AllByRecursion EndsOnce (lines_in l)
lines-once [] = tt
lines-once (s ∷ ss) = elim (is_line_ending s) as (λ b. is_line_ending s ≡ b → AllByRecursion EndsOnce (cond b ((s ∷ []) ∷ lines_in ss) (joined s (lines_in ss)))) [
  | true ↦ λ e. (one-ending s (is_line_ending s), lines-once ss)
  | false ↦ λ e. joined-once s (lines_in ss) e (lines-once ss)
] refl

-- ---- stretches with no line ending

pub run-plain : (test : ℕ → Bool) → test 10 ≡ false → (l : List Seat) → NoEnding (take (prefix_len test (bytes_of l)) l)
run-plain test fails [] = tt
run-plain test fails (s ∷ ss) = elim (test s.byte) as (λ t. test s.byte ≡ t → NoEnding (take (cond t (1 + prefix_len test (bytes_of ss)) 0) (s ∷ ss))) [
  | true ↦ λ e.
      let one : suc (prefix_len test (bytes_of ss)) ≡ 1 + prefix_len test (bytes_of ss) = omega arith in
      subst (λ n. NoEnding (take n (s ∷ ss))) one (unlike test 10 fails s.byte e, run-plain test fails ss)
  | false ↦ λ e. tt
] refl

pub plain-add : (r d : ℕ) (l : List Seat) → NoEnding (take r l) → NoEnding (take d (drop r l)) → NoEnding (take (r + d) l)
plain-add r d l h k = subst NoEnding (sym (take-add r d l)) (every-append (λ s. is_line_ending s ≡ false) (take r l) (take d (drop r l)) h k)

-- from further on
pub run-behind : (test : ℕ → Bool) → test 10 ≡ false → (r : ℕ) (l : List Seat) → NoEnding (take (prefix_len test (drop r (bytes_of l))) (drop r l))
run-behind test fails r l = subst (λ bs. NoEnding (take (prefix_len test bs) (drop r l))) (sym (drop-map (λ (s : Seat). s.byte) r l)) (run-plain test fails (drop r l))

pub one-taken : (l : List Seat) → OneLine (take 1 l)
one-taken [] = tt
one-taken (s ∷ ss) = tt

-- at least one byte
pub first-plain : (k : ℕ) (s : Seat) (ss : List Seat) → (s.byte == 10) ≡ false → NoEnding (take k (s ∷ ss)) → NoEnding (take (max 1 k) (s ∷ ss))
first-plain zero s ss other h = (other, tt)
first-plain (suc k) s ss other h = let same : suc k ≡ max 1 (suc k) = omega arith in subst (λ n. NoEnding (take n (s ∷ ss))) same h

-- a byte that passes such a test
pub byte-plain : (test : ℕ → Bool) → test 10 ≡ false → (l : List Seat) (m : ℕ) → has_byte_at (bytes_of l) m test ≡ true → NoEnding (take 1 (drop m l))
byte-plain test fails [] m h = absurd (cc)
byte-plain test fails (s ∷ ss) zero h = (unlike test 10 fails s.byte h, tt)
byte-plain test fails (s ∷ ss) (suc m) h = byte-plain test fails ss m h

-- nor in plain text
pub text-run : (ends : ℕ → Bool) → ends 10 ≡ true → (s : Seat) (ss : List Seat) → (s.byte == 10) ≡ false → NoEnding (take (plain_length ends (bytes_of (s ∷ ss))) (s ∷ ss))
text-run ends feed s ss other =
    let text = bytes_of (s ∷ ss) in
    let r = max 1 (backticks text) in
    let first = first-plain (backticks text) s ss other (run-plain is_backtick refl (s ∷ ss)) in
    plain-add r (position_or_len ends (drop r text)) (s ∷ ss) first (run-behind (λ b. not (ends b)) (ap not feed) r (s ∷ ss))

module _ (bytes : List ℕ) where
  -- ---- data
  lines-cut : (lines : List (List Seat)) → AllByRecursion EndsOnce lines → IsCut bytes (flat_map (data_line bytes) lines) (flat_map both lines)
  lines-cut [] h = cut-none bytes
  lines-cut (line ∷ lines) h =
      cut-append bytes (cut-append bytes (cut-leaf bytes Data (line_text line) (plain-line (line_text line) (text-plain line))) (cut-leaf bytes LineEnding (ending_of line) h.0)) (lines-cut lines h.1)

  pub data-cut : (l : List Seat) → IsCut bytes (data_events bytes l) l
  data-cut l = subst (IsCut bytes (data_events bytes l)) (lines-are-all l) (lines-cut (lines_in l) (lines-once l))

  -- ---- what is cut from the front, element by element
  pub cuts : {A : Type 0} (front : List ℕ → A) (size : A → ℕ) (events_of : A × List Seat → List Event) → ((b : ℕ) (bs : List ℕ) → 0 < size (front (b ∷ bs)))
      → ((s : Seat) (ss : List Seat) → let a = front (bytes_of (s ∷ ss)) in IsCut bytes (events_of (a, take (size a) (s ∷ ss))) (take (size a) (s ∷ ss)))
      → (n : ℕ) (l : List Seat) → length l ≤ n → IsCut bytes (flat_map events_of (cut front size n l)) l
  cuts front size events_of positive each zero (s ∷ ss) few = absurd (omega (arith, few))
  cuts front size events_of positive each (suc n) (s ∷ ss) few =
      let a = front (bytes_of (s ∷ ss)) in
      let m = size a in
      let less : length (drop m (s ∷ ss)) ≤ length ss = drop-less m s ss (positive s.byte (bytes_of ss)) in
      let rest = drop m (s ∷ ss) in
      subst (IsCut bytes (events_of (a, take m (s ∷ ss)) ++ flat_map events_of (cut front size n rest))) (take-append-drop m (s ∷ ss))
      (cut-append bytes (each s ss) (cuts front size events_of positive each n rest (omega (arith, less, few))))
  cuts front size events_of positive each n l few = cut-none bytes

  -- a line ending, or plain text
  pub part-cut : (ends : ℕ → Bool) → ends 10 ≡ true → (name : Name) (s : Seat) (ss : List Seat)
      → let a = part_at ends (bytes_of (s ∷ ss)) in IsCut bytes (part_events bytes name (a, take (part_length a) (s ∷ ss))) (take (part_length a) (s ∷ ss))
  part-cut ends feed name s ss =
      let text = bytes_of (s ∷ ss) in
      elim (s.byte == 10) as (λ t. (s.byte == 10) ≡ t
      → let a = cond t line_ending (plain_run (plain_length ends text)) in IsCut bytes (part_events bytes name (a, take (part_length a) (s ∷ ss))) (take (part_length a) (s ∷ ss))) [
        | true ↦ λ e. cut-leaf bytes LineEnding (take 1 (s ∷ ss)) (one-taken (s ∷ ss))
        | false ↦ λ e. cut-leaf bytes name (take (plain_length ends text) (s ∷ ss)) (plain-line (take (plain_length ends text) (s ∷ ss)) (text-run ends feed s ss e))
      ] refl

  -- ---- an item at the front of virtual bytes: its events can be cut
  abbrev pub ItemCut : List Seat → Found → Type 0
  ItemCut seats item = IsCut bytes (item_events bytes (item, take (item_length item) seats)) (take (item_length item) seats)

  -- one in three stretches
  pub three-cut : {xs ys zs : List Event} (name : Name) (i n : ℕ) (l : List Seat) → IsCut bytes xs (take i l) → IsCut bytes ys (between i (i + n) l) → IsCut bytes zs (drop (i + n) l)
      → IsCut bytes (span bytes name l (xs ++ (ys ++ zs))) l
  three-cut {xs} {ys} {zs} name i n l first middle last =
      let size : i + n - i ≡ n = omega arith in
      let all : take i l ++ (between i (i + n) l ++ drop (i + n) l) ≡ l =
      (λ x. take i l ++ (take (size x) (drop i l) ++ sym (drop-drop n i l) x)) ∙ ap (λ r. take i l ++ r) (take-append-drop n (drop i l)) ∙ take-append-drop i l in
      cut-span bytes name l (xs ++ (ys ++ zs)) (subst (IsCut bytes (xs ++ (ys ++ zs))) all (cut-append bytes first (cut-append bytes middle last)))
