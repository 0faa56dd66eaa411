-- What a walk over the end of a line found is what thematic breaks are there.
use Rattle.std.proofs.Math.Bool.{and-false, or-true, or_comm}
use Rattle.std.proofs.Common.{◌≡◌, ◌≢◌, ℕ, zero, suc, ◌+◌, ◌-◌, ◌<◌, ◌≤◌, Bool, true, false, cond, List, [], ◌∷◌, length, drop, get_or, refl, sym, ap, ◌∙◌, arith, eqb-true, eq-eqb, ne_eqb, le-leb, le-ltb, lt-ltb}
use Rattle.std.proofs.lemmas.Bool.{eqb-false, false≢true, leb-true, leb-false, lt-leb, ltb-true, ltb-false}
use Rattle.std.specs.Prelude.{◌==◌, ◌&&◌, ◌||◌, nat_le, nat_lt, filter, None, Some, is_some, unwrap_or}
use Rattle.std.specs.List.{list_all, prefix_len}
use Rattle.std.proofs.lemmas.List.{drop_more, drop-drop, get_or-drop, length-drop}
use Rattle.std.proofs.Math.Dec.{leb-suc-zero}
use Rattle.std.proofs.Math.Seq.{drop-length}
use Rattle.mdconstructs_tables.specs.Breaks.{is_white}
use Rattle.mdblock_leaf_blocks.proofs.Looks.BreakLooks.{is_break_mark as is_looked_for, mark-no-white}
use Rattle.mdblock_leaf_blocks.specs.LineKinds.{indent, is_break_of_marks, is_thematic_break, unindented}
use Rattle.mdblock_lines.specs.declared.breaks.Walk.{Walk}
use Rattle.mdblock_lines.specs.Breaks.{is_break_mark, walked, with_byte}
use Rattle.mdblock_lines.specs.Views.{is_mark_or_white}

-- ---- the loop's walk is the definition's

pub walk_goes_on : (x : ℕ) (bs : List ℕ) (w v : Walk) → w ≡ walked bs → w.reach ≡ length bs → Some v ≡ with_byte w x → v ≡ walked (x ∷ bs)
walk_goes_on x bs w v same whole_walk longer =
    let here : ((walked bs).reach == length bs) ≡ true = eq-eqb (walked bs).reach (length bs) (sym (ap (λ (u : Walk). u.reach) same) ∙ whole_walk) in
    let next : unwrap_or (with_byte (walked bs) x) (walked bs) ≡ v = ap (λ u. unwrap_or (with_byte u x) u) (sym same) ∙ ap (λ o. unwrap_or o w) (sym longer) in
    sym (ap (λ o. cond o (unwrap_or (with_byte (walked bs) x) (walked bs)) (walked bs)) here ∙ next)

pub walk_stops : (x : ℕ) (bs : List ℕ) (w : Walk) → w ≡ walked bs → w.reach ≡ length bs → None ≡ with_byte w x → w ≡ walked (x ∷ bs)
walk_stops x bs w same whole_walk none =
    let here : ((walked bs).reach == length bs) ≡ true = eq-eqb (walked bs).reach (length bs) (sym (ap (λ (u : Walk). u.reach) same) ∙ whole_walk) in
    let next : unwrap_or (with_byte (walked bs) x) (walked bs) ≡ w = ap (λ u. unwrap_or (with_byte u x) u) (sym same) ∙ ap (λ o. unwrap_or o w) (sym none) in
    sym (ap (λ o. cond o (unwrap_or (with_byte (walked bs) x) (walked bs)) (walked bs)) here ∙ next)

with_byte_counts : (w v : Walk) (x : ℕ) → Some v ≡ with_byte w x → (v.reach ≡ w.reach + 1) × (v.marks ≤ w.marks + 1)
with_byte_counts w v x e = by (is_white x) (is_break_mark x && ((w.marks == 0) || (x == w.mark))) e
  where
    by : (white go : Bool) → Some v ≡ cond white (Some (record { mark = w.mark; marks = w.marks; reach = w.reach + 1; least = w.least }))
        (cond go (Some (record { mark = x; marks = w.marks + 1; reach = w.reach + 1; least = cond (w.marks == 2) (w.reach + 1) w.least })) None) → (v.reach ≡ w.reach + 1) × (v.marks ≤ w.marks + 1)
    by true go e = let is = ap (λ o. unwrap_or o v) e in (ap (λ (u : Walk). u.reach) is, let m : v.marks ≡ w.marks = ap (λ (u : Walk). u.marks) is in omega (arith, m))
    by false true e = let is = ap (λ o. unwrap_or o v) e in (ap (λ (u : Walk). u.reach) is, let m : v.marks ≡ w.marks + 1 = ap (λ (u : Walk). u.marks) is in omega (arith, m))
    by false false e = absurd (false≢true (sym (ap is_some e)))

-- a walk that has stopped goes no further
pub walk_has_stopped : (t : List ℕ) (i : ℕ) → i ≤ length t → (walked (drop i t)).reach < length t - i → walked t ≡ walked (drop i t)
walk_has_stopped t zero h less = refl
walk_has_stopped [] (suc i) h less = absurd (omega arith)
walk_has_stopped (b ∷ bs) (suc i) h less =
    let same = walk_has_stopped bs i (omega arith) (omega (arith, less)) in
    let reach : (walked bs).reach ≡ (walked (drop i bs)).reach = ap (λ (u : Walk). u.reach) same in
    let here : ((walked bs).reach == length bs) ≡ false = ne_eqb (walked bs).reach (length bs) (λ e. omega (arith, reach, less, e)) in
    ap (λ o. cond o (unwrap_or (with_byte (walked bs) b) (walked bs)) (walked bs)) here ∙ same

-- one byte more of a line in a loop
byte_before : (t : List ℕ) (n : ℕ) → n < length t → drop (length t - (n + 1)) t ≡ get_or t (length t - 1 - n) 0 ∷ drop (length t - n) t
byte_before t n h =
    let here : length t - (n + 1) ≡ length t - 1 - n = omega arith in
    let next : length t - 1 - n + 1 ≡ length t - n = omega (arith, h) in
    ap (λ k. drop k t) here ∙ drop_more t (length t - 1 - n) 0 (omega (arith, h)) ∙ ap (λ k. get_or t (length t - 1 - n) 0 ∷ drop k t) next

module _ (t : List ℕ) (n : ℕ) (w : Walk) (h : n < length t) (same : w ≡ walked (drop (length t - n) t)) (reach : w.reach ≡ n) where
  size : w.reach ≡ length (drop (length t - n) t)
  size = omega (arith, h, reach, length-drop (length t - n) t)

  pub walk_step : (v : Walk) → Some v ≡ with_byte w (get_or t (length t - 1 - n) 0) → v ≡ walked (drop (length t - (n + 1)) t)
  walk_step v longer = walk_goes_on (get_or t (length t - 1 - n) 0) (drop (length t - n) t) w v same size longer ∙ ap walked (sym (byte_before t n h))

  pub step_counts : (v : Walk) → w.marks ≤ w.reach → Some v ≡ with_byte w (get_or t (length t - 1 - n) 0) → (v.reach ≡ n + 1) × (v.marks ≤ v.reach)
  step_counts v few longer = let c = with_byte_counts w v (get_or t (length t - 1 - n) 0) longer in (omega (arith, c.0, reach), omega (arith, c.0, c.1, few))

  pub walk_end : None ≡ with_byte w (get_or t (length t - 1 - n) 0) → w ≡ walked t
  walk_end none =
      let i : ℕ = length t - (n + 1) in
      let here : w ≡ walked (drop i t) = walk_stops (get_or t (length t - 1 - n) 0) (drop (length t - n) t) w same size none ∙ ap walked (sym (byte_before t n h)) in
      let r : (walked (drop i t)).reach ≡ n = sym (ap (λ (u : Walk). u.reach) here) ∙ reach in
      let far : length t - (length t - (n + 1)) ≡ n + 1 = omega (arith, h) in
      here ∙ sym (walk_has_stopped t i (omega arith) (omega (arith, r, far)))

pub walk_start : (t : List ℕ) → record { mark = 0; marks = 0; reach = 0; least = 0 } ≡ walked (drop (length t - 0) t)
walk_start t = let all : length t - 0 ≡ length t = omega arith in sym (ap (λ k. walked (drop k t)) all ∙ ap walked (drop-length t))

pub walk_all : (t : List ℕ) (n : ℕ) (w : Walk) → length t ≤ n → w ≡ walked (drop (length t - n) t) → w ≡ walked t
walk_all t n w h same = let none : length t - n ≡ 0 = omega (arith, h) in same ∙ ap (λ k. walked (drop k t)) none

-- ---- what the walk knows

-- a byte that fails a test is not among those that all pass it
count_none : (test : ℕ → Bool) (q : ℕ) (r : List ℕ) → test q ≡ false → list_all test r ≡ true → length (filter (λ b. b == q) r) ≡ 0
count_none test q [] out all = refl
count_none test q (b ∷ bs) out all = by (b == q) (test b) refl refl all (count_none test q bs out)
  where
    by : (s p : Bool) → (b == q) ≡ s → test b ≡ p → (p && list_all test bs) ≡ true → (list_all test bs ≡ true → length (filter (λ c. c == q) bs) ≡ 0)
        → length (cond s (b ∷ filter (λ c. c == q) bs) (filter (λ c. c == q) bs)) ≡ 0
    by true true same passes h rest = absurd (false≢true (sym out ∙ ap test (sym (eqb-true b q same)) ∙ passes))
    by false true same passes h rest = rest h
    by s false same passes h rest = absurd (false≢true h)

all_white : (m : ℕ) (r : List ℕ) → list_all is_white r ≡ true → list_all (is_mark_or_white m) r ≡ true
all_white m [] h = refl
all_white m (b ∷ bs) h = by (b == m) (is_white b) h (all_white m bs)
  where
    by : (s p : Bool) → (p && list_all is_white bs) ≡ true → (list_all is_white bs ≡ true → list_all (is_mark_or_white m) bs ≡ true) → ((s || p) && list_all (is_mark_or_white m) bs) ≡ true
    by true true h rest = rest h
    by false true h rest = rest h
    by s false h rest = absurd (false≢true h)

-- the marks of a walk are those of the machine's look
same_marks : (m : ℕ) → is_looked_for m ≡ is_break_mark m
same_marks m = ap (λ t. (m == 42) || t) (or_comm (m == 95) (m == 45))

record Seen (w : Walk) (r : List ℕ) : Type 0 where
  pub within : w.reach ≤ length r
  pub least : w.least ≤ w.reach
  pub few : w.marks < 3 → w.least ≡ 0
  pub many : 3 ≤ w.marks → 1 ≤ w.least
  pub kind : 1 ≤ w.marks → is_break_mark w.mark ≡ true
  pub white : w.reach ≡ length r → w.marks ≡ 0 → list_all is_white r ≡ true
  pub only : w.reach ≡ length r → 1 ≤ w.marks → list_all (is_mark_or_white w.mark) r ≡ true
  pub count : w.reach ≡ length r → 1 ≤ w.marks → length (filter (λ b. b == w.mark) r) ≡ w.marks
  pub other : w.reach < length r → (m : ℕ) → is_break_mark m ≡ true → list_all (is_mark_or_white m) r ≡ false

module _ (b : ℕ) (bs : List ℕ) (w : Walk) (s : Seen w bs) where
  -- the walk stopped before
  stopped : w.reach < length bs → Seen w (b ∷ bs)
  stopped less = record {
    within = omega (arith, less);
    least = s.least;
    few = s.few;
    many = s.many;
    kind = s.kind;
    white = λ e. absurd (omega (arith, e, less));
    only = λ e. absurd (omega (arith, e, less));
    count = λ e. absurd (omega (arith, e, less));
    other = λ h m k. ap (λ x. is_mark_or_white m b && x) (s.other less m k) ∙ and-false (is_mark_or_white m b);
  }

  -- it goes over white space
  over_white : w.reach ≡ length bs → is_white b ≡ true → Seen (record { mark = w.mark; marks = w.marks; reach = w.reach + 1; least = w.least }) (b ∷ bs)
  over_white whole_walk is = record {
    within = omega (arith, whole_walk);
    least = omega (arith, s.least);
    few = s.few;
    many = s.many;
    kind = s.kind;
    white = λ e none. ap (λ x. x && list_all is_white bs) is ∙ s.white whole_walk none;
    only = λ e some. ap (λ x. ((b == w.mark) || x) && list_all (is_mark_or_white w.mark) bs) is ∙ ap (λ x. x && list_all (is_mark_or_white w.mark) bs) (or-true (b == w.mark)) ∙ s.only whole_walk some;
    count = λ e some. differs (b == w.mark) refl some ∙ s.count whole_walk some;
    other = λ h. absurd (omega (arith, h, whole_walk));
  }
    where
      differs : (x : Bool) → (b == w.mark) ≡ x → 1 ≤ w.marks → length (cond x (b ∷ filter (λ c. c == w.mark) bs) (filter (λ c. c == w.mark) bs)) ≡ length (filter (λ c. c == w.mark) bs)
      differs true e some = absurd (false≢true (sym (mark-no-white w.mark (same_marks w.mark ∙ s.kind some)) ∙ ap is_white (sym (eqb-true b w.mark e)) ∙ is))
      differs false e some = refl

  -- it goes over a mark
  over_mark : w.reach ≡ length bs → is_break_mark b ≡ true → list_all (is_mark_or_white b) bs ≡ true → length (filter (λ c. c == b) bs) ≡ w.marks
      → Seen (record { mark = b; marks = w.marks + 1; reach = w.reach + 1; least = cond (w.marks == 2) (w.reach + 1) w.least }) (b ∷ bs)
  over_mark whole_walk is only count = record {
    within = omega (arith, whole_walk);
    least = least (w.marks == 2);
    few = few (w.marks == 2) refl;
    many = many (w.marks == 2) refl;
    kind = λ some. is;
    white = λ e none. absurd (omega (arith, none));
    only = λ e some. ap (λ x. (x || is_white b) && list_all (is_mark_or_white b) bs) (eq-eqb b b refl) ∙ only;
    count = λ e some. ap (λ x. length (cond x (b ∷ filter (λ c. c == b) bs) (filter (λ c. c == b) bs))) (eq-eqb b b refl) ∙ ap suc count ∙ next w.marks;
    other = λ h. absurd (omega (arith, h, whole_walk));
  }
    where
      next : (n : ℕ) → suc n ≡ n + 1
      next n = omega arith

      least : (x : Bool) → cond x (w.reach + 1) w.least ≤ w.reach + 1
      least true = omega arith
      least false = omega (arith, s.least)

      few : (x : Bool) → (w.marks == 2) ≡ x → w.marks + 1 < 3 → cond x (w.reach + 1) w.least ≡ 0
      few true e h = absurd (omega (arith, eqb-true w.marks 2 e, h))
      few false e h = s.few (omega (arith, h))

      many : (x : Bool) → (w.marks == 2) ≡ x → 3 ≤ w.marks + 1 → 1 ≤ cond x (w.reach + 1) w.least
      many true e h = omega arith
      many false e h = s.many (omega (arith, h, eqb-false w.marks 2 e))

  -- it stops at another byte
  ends : w.reach ≡ length bs → is_white b ≡ false → (is_break_mark b ≡ true → (1 ≤ w.marks) × ((w.mark == b) ≡ false)) → Seen w (b ∷ bs)
  ends whole_walk black differs = record {
    within = omega (arith, whole_walk);
    least = s.least;
    few = s.few;
    many = s.many;
    kind = s.kind;
    white = λ e. absurd (omega (arith, e, whole_walk));
    only = λ e. absurd (omega (arith, e, whole_walk));
    count = λ e. absurd (omega (arith, e, whole_walk));
    other = λ h m k. ap (λ x. ((b == m) || x) && list_all (is_mark_or_white m) bs) black ∙ by m k (b == m) refl (list_all (is_mark_or_white m) bs) refl;
  }
    where
      by : (m : ℕ) → is_break_mark m ≡ true → (x : Bool) → (b == m) ≡ x → (y : Bool) → list_all (is_mark_or_white m) bs ≡ y → ((x || false) && y) ≡ false
      by m k false e y ey = refl
      by m k true e false ey = refl
      by m k true e true ey =
          let same : b ≡ m = eqb-true b m e in
          let d = differs (ap is_break_mark same ∙ k) in
          let out : is_mark_or_white m w.mark ≡ false = ap (λ x. (w.mark == x) || is_white w.mark) (sym same) ∙ ap (λ x. x || is_white w.mark) d.1 ∙ mark-no-white w.mark (same_marks w.mark ∙ s.kind d.0) in
          let none = count_none (is_mark_or_white m) w.mark bs out ey in
          absurd (omega (arith, d.0, none, s.count whole_walk d.0))

  step : (o white mark zero same : Bool) → (w.reach == length bs) ≡ o → is_white b ≡ white → is_break_mark b ≡ mark → (w.marks == 0) ≡ zero → (b == w.mark) ≡ same
      → Seen (cond o (unwrap_or (cond white (Some (record { mark = w.mark; marks = w.marks; reach = w.reach + 1; least = w.least }))
      (cond (mark && (zero || same)) (Some (record { mark = b; marks = w.marks + 1; reach = w.reach + 1; least = cond (w.marks == 2) (w.reach + 1) w.least })) None)) w) w) (b ∷ bs)
  step false white mark none same eo ew em ez es = stopped (omega (arith, eqb-false w.reach (length bs) eo, s.within))
  step true true mark none same eo ew em ez es = over_white (eqb-true w.reach (length bs) eo) ew
  step true false true true same eo ew em ez es =
      let whole_walk = eqb-true w.reach (length bs) eo in
      let none = eqb-true w.marks 0 ez in
      let white = s.white whole_walk none in
      over_mark whole_walk em (all_white b bs white) (count_none is_white b bs ew white ∙ sym none)
  step true false true false true eo ew em ez es =
      let whole_walk = eqb-true w.reach (length bs) eo in
      let some : 1 ≤ w.marks = omega (arith, eqb-false w.marks 0 ez) in
      let is : w.mark ≡ b = sym (eqb-true b w.mark es) in
      over_mark whole_walk em (ap (λ m. list_all (is_mark_or_white m) bs) (sym is) ∙ s.only whole_walk some) (ap (λ m. length (filter (λ c. c == m) bs)) (sym is) ∙ s.count whole_walk some)
  step true false true false false eo ew em ez es =
      let some : 1 ≤ w.marks = omega (arith, eqb-false w.marks 0 ez) in
      let apart : (w.mark == b) ≡ false = ne_eqb w.mark b (λ e. eqb-false b w.mark es (sym e)) in
      ends (eqb-true w.reach (length bs) eo) ew (λ h. (some, apart))
  step true false false none same eo ew em ez es = ends (eqb-true w.reach (length bs) eo) ew (λ h. absurd (false≢true (sym em ∙ h)))

seen : (r : List ℕ) → Seen (walked r) r
seen [] = record {
  within = omega arith;
  least = omega arith;
  few = λ h. refl;
  many = λ h. absurd (omega (arith, h));
  kind = λ h. absurd (omega (arith, h));
  white = λ e n. refl;
  only = λ e h. absurd (omega (arith, h));
  count = λ e h. absurd (omega (arith, h));
  other = λ h. absurd (omega (arith, h));
}
seen (b ∷ bs) = let w = walked bs in step b bs w (seen bs) (w.reach == length bs) (is_white b) (is_break_mark b) (w.marks == 0) (b == w.mark) refl refl refl refl refl

-- ---- whether an end of a line is a thematic break

-- an end of n bytes is one, by a walk
abbrev pub is_break_end : Walk → (n : ℕ) → Bool
is_break_end w n = nat_le 1 w.least && (nat_le w.least n && nat_le n w.reach)

module _ (b : ℕ) (bs : List ℕ) where
  -- one byte more before them changes nothing for ends
  steady : (w : Walk) → Seen w bs → (n : ℕ) → n ≤ length bs → (o white go : Bool) → (w.reach == length bs) ≡ o
      → is_break_end (cond o (unwrap_or (cond white (Some (record { mark = w.mark; marks = w.marks; reach = w.reach + 1; least = w.least }))
      (cond go (Some (record { mark = b; marks = w.marks + 1; reach = w.reach + 1; least = cond (w.marks == 2) (w.reach + 1) w.least })) None)) w) w) n
      ≡ is_break_end w n
  steady w s n h false white go eo = refl
  steady w s n h true true go eo = ap (λ x. nat_le 1 w.least && (nat_le w.least n && x)) (farther w s n h eo)
    where
      farther : (w : Walk) → Seen w bs → (n : ℕ) → n ≤ length bs → (w.reach == length bs) ≡ true → nat_le n (w.reach + 1) ≡ nat_le n w.reach
      farther w s n h eo = let whole_walk = eqb-true w.reach (length bs) eo in le-leb n (w.reach + 1) (omega (arith, whole_walk, h)) ∙ sym (le-leb n w.reach (omega (arith, whole_walk, h)))
  steady w s n h true false false eo = refl
  steady w s n h true false true eo = by (w.marks == 2) refl
    where
      whole_walk : w.reach ≡ length bs
      whole_walk = eqb-true w.reach (length bs) eo

      by : (x : Bool) → (w.marks == 2) ≡ x → (nat_le 1 (cond x (w.reach + 1) w.least) && (nat_le (cond x (w.reach + 1) w.least) n && nat_le n (w.reach + 1))) ≡ is_break_end w n
      by true e =
          let none : w.least ≡ 0 = s.few (omega (arith, eqb-true w.marks 2 e)) in
          let far : nat_le (w.reach + 1) n ≡ false = lt-leb (w.reach + 1) n (omega (arith, whole_walk, h)) in
          ap (λ x. nat_le 1 (w.reach + 1) && (x && nat_le n (w.reach + 1))) far ∙ and-false (nat_le 1 (w.reach + 1)) ∙ sym (ap (λ x. nat_le 1 x && (nat_le x n && nat_le n w.reach)) none)
      by false e = ap (λ x. nat_le 1 w.least && (nat_le w.least n && x)) (le-leb n (w.reach + 1) (omega (arith, whole_walk, h)) ∙ sym (le-leb n w.reach (omega (arith, whole_walk, h))))

  steady_walk : (n : ℕ) → n ≤ length bs → is_break_end (walked (b ∷ bs)) n ≡ is_break_end (walked bs) n
  steady_walk n h =
      let w = walked bs in steady w (seen bs) n h (w.reach == length bs) (is_white b) (is_break_mark b && ((w.marks == 0) || (b == w.mark))) refl

spread : (x y z v : Bool) → (x || (y || z)) ≡ true → ((x && v) || ((y && v) || (z && v))) ≡ v
spread true y z true h = refl
spread false true z true h = refl
spread false false true true h = refl
spread false false false true h = absurd (false≢true h)
spread x y z false h = ap (λ u. u || ((y && false) || (z && false))) (and-false x) ∙ ap (λ u. u || (z && false)) (and-false y) ∙ and-false z

-- bytes that begin with no white space
module _ (b : ℕ) (bs : List ℕ) (w : Walk) (s : Seen w (b ∷ bs)) (black : is_white b ≡ false) where
  abbrev all : List ℕ
  all = b ∷ bs

  mark_first : w.reach ≡ suc (length bs) → (1 ≤ w.marks) × (b ≡ w.mark)
  mark_first whole_walk = by w.marks refl
    where
      by : (n : ℕ) → w.marks ≡ n → (1 ≤ w.marks) × (b ≡ w.mark)
      by zero e = absurd (false≢true (sym (ap (λ x. x && list_all is_white bs) black) ∙ s.white whole_walk e))
      by (suc n) e = let some : 1 ≤ w.marks = omega (arith, e) in (some, same (b == w.mark) refl (s.only whole_walk some))
        where
          same : (x : Bool) → (b == w.mark) ≡ x → ((x || is_white b) && list_all (is_mark_or_white w.mark) bs) ≡ true → b ≡ w.mark
          same true e h = eqb-true b w.mark e
          same false e h = absurd (false≢true (sym (ap (λ x. x && list_all (is_mark_or_white w.mark) bs) black) ∙ h))

  one_of : w.reach ≡ suc (length bs) → (m : ℕ) → (x : Bool) → (b == m) ≡ x → (x && (list_all (is_mark_or_white m) all && nat_le 3 (length (filter (λ c. c == m) all)))) ≡ (x && nat_le 3 w.marks)
  one_of whole_walk m false e = refl
  one_of whole_walk m true e =
      let first = mark_first whole_walk in
      let same : w.mark ≡ m = sym first.1 ∙ eqb-true b m e in
      ap (λ x. x && nat_le 3 (length (filter (λ c. c == m) all))) (ap (λ k. list_all (is_mark_or_white k) all) (sym same) ∙ s.only whole_walk first.0)
      ∙ ap (nat_le 3) (ap (λ k. length (filter (λ c. c == k) all)) (sym same) ∙ s.count whole_walk first.0)

  enough : w.reach ≡ suc (length bs) → is_break_end w (suc (length bs)) ≡ nat_le 3 w.marks
  enough whole_walk = by (nat_le 3 w.marks) refl
    where
      by : (x : Bool) → nat_le 3 w.marks ≡ x → is_break_end w (suc (length bs)) ≡ x
      by true e =
          let many = s.many (leb-true 3 w.marks e) in
          ap (λ x. x && (nat_le w.least (suc (length bs)) && nat_le (suc (length bs)) w.reach)) (le-leb 1 w.least many)
          ∙ ap (λ x. x && nat_le (suc (length bs)) w.reach) (le-leb w.least (suc (length bs)) (omega (arith, whole_walk, s.least)))
          ∙ le-leb (suc (length bs)) w.reach (omega (arith, whole_walk))
      by false e =
          let none : w.least ≡ 0 = s.few (omega (arith, leb-false 3 w.marks e)) in
          ap (λ x. nat_le 1 x && (nat_le x (suc (length bs)) && nat_le (suc (length bs)) w.reach)) none

  whole : is_break_end w (suc (length bs)) ≡ is_thematic_break all
  whole = by (w.reach == suc (length bs)) refl
    where
      by : (o : Bool) → (w.reach == suc (length bs)) ≡ o → is_break_end w (suc (length bs)) ≡ is_thematic_break all
      by true eo =
          let whole_walk = eqb-true w.reach (suc (length bs)) eo in
          let first = mark_first whole_walk in
          let v = nat_le 3 w.marks in
          let kind : is_break_mark b ≡ true = ap is_break_mark first.1 ∙ s.kind first.0 in
          let x = one_of whole_walk 42 (b == 42) refl in
          let y = one_of whole_walk 45 (b == 45) refl in
          let z = one_of whole_walk 95 (b == 95) refl in
          enough whole_walk ∙ sym (spread (b == 42) (b == 45) (b == 95) v kind) ∙ sym (λ i. x i || (y i || z i))
      by false eo =
          let less : w.reach < suc (length bs) = omega (arith, eqb-false w.reach (suc (length bs)) eo, s.within) in
          let short : nat_le (suc (length bs)) w.reach ≡ false = lt-leb (suc (length bs)) w.reach less in
          let none : (m : ℕ) → is_break_mark m ≡ true → is_break_of_marks m all ≡ false = λ m k. ap (λ x. (b == m) && (x && nat_le 3 (length (filter (λ c. c == m) all)))) (s.other less m k) ∙ and-false (b == m) in
          let x = none 42 refl in
          let y = none 45 refl in
          let z = none 95 refl in
          ap (λ u. nat_le 1 w.least && (nat_le w.least (suc (length bs)) && u)) short ∙ ap (λ u. nat_le 1 w.least && u) (and-false (nat_le w.least (suc (length bs)))) ∙ and-false (nat_le 1 w.least)
          ∙ sym (λ i. x i || (y i || z i))

break_at : (t : List ℕ) (k : ℕ) → k < length t → is_white (get_or t k 0) ≡ false → is_break_end (walked t) (length t - k) ≡ is_thematic_break (drop k t)
break_at [] k h black = absurd (omega (arith, h))
break_at (b ∷ bs) zero h black =
    let all : suc (length bs) - 0 ≡ suc (length bs) = omega arith in
    ap (is_break_end (walked (b ∷ bs))) all ∙ whole b bs (walked (b ∷ bs)) (seen (b ∷ bs)) black
break_at (b ∷ bs) (suc k) h black =
    let less : suc (length bs) - suc k ≡ length bs - k = omega arith in
    ap (is_break_end (walked (b ∷ bs))) less ∙ steady_walk b bs (length bs - k) (omega arith) ∙ break_at bs k (omega (arith, h)) black

behind_white : (r : List ℕ) → prefix_len is_white r < length r → is_white (get_or r (prefix_len is_white r) 0) ≡ false
behind_white [] h = absurd (omega (arith, h))
behind_white (b ∷ bs) h = by (is_white b) refl h (behind_white bs)
  where
    by : (x : Bool) → is_white b ≡ x → cond x (1 + prefix_len is_white bs) 0 < suc (length bs) → (prefix_len is_white bs < length bs → is_white (get_or bs (prefix_len is_white bs) 0) ≡ false)
        → is_white (get_or (b ∷ bs) (cond x (1 + prefix_len is_white bs) 0) 0) ≡ false
    by true e h rest = let on : 1 + prefix_len is_white bs ≡ suc (prefix_len is_white bs) = omega arith in ap (λ k. is_white (get_or (b ∷ bs) k 0)) on ∙ rest (omega (arith, h))
    by false e h rest = e

few_white : (r : List ℕ) → prefix_len is_white r ≤ length r
few_white [] = omega arith
few_white (b ∷ bs) = by (is_white b) (few_white bs)
  where
    by : (x : Bool) → prefix_len is_white bs ≤ length bs → cond x (1 + prefix_len is_white bs) 0 ≤ suc (length bs)
    by true h = omega (arith, h)
    by false h = omega arith

none_at_end : (w : Walk) → is_break_end w 0 ≡ false
none_at_end w = by w.least
  where
    by : (n : ℕ) → (nat_le 1 n && (nat_le n 0 && nat_le 0 w.reach)) ≡ false
    by zero = refl
    by (suc n) = ap (λ x. nat_le 1 (suc n) && (x && nat_le 0 w.reach)) (leb-suc-zero n) ∙ and-false (nat_le 1 (suc n))

module _ (t : List ℕ) (at : ℕ) (h : at ≤ length t) where
  abbrev pub first : ℕ
  first = at + indent (drop at t)

  inside : first ≤ length t
  inside = omega (arith, few_white (drop at t), length-drop at t, h)

  rest : unindented (drop at t) ≡ drop first t
  rest = drop-drop (indent (drop at t)) at t

  pub end_is_break : is_break_end (walked t) (length t - first) ≡ is_thematic_break (unindented (drop at t))
  end_is_break = by (nat_lt first (length t)) refl ∙ ap is_thematic_break (sym rest)
    where
      by : (x : Bool) → nat_lt first (length t) ≡ x → is_break_end (walked t) (length t - first) ≡ is_thematic_break (drop first t)
      by true e =
          let less : first < length t = ltb-true first (length t) e in
          let more : prefix_len is_white (drop at t) < length (drop at t) = omega (arith, length-drop at t, less) in
          break_at t first less (ap is_white (sym (get_or-drop at t (indent (drop at t)) 0)) ∙ behind_white (drop at t) more)
      by false e =
          let all : first ≡ length t = omega (arith, ltb-false first (length t) e, inside) in
          let none : length t - first ≡ 0 = omega (arith, all) in
          ap (is_break_end (walked t)) none ∙ none_at_end (walked t) ∙ ap is_thematic_break (sym (ap (λ k. drop k t) all ∙ drop-length t))

  -- no end is one, if three marks were not found
  pub none_without_marks : (walked t).least ≡ 0 → is_thematic_break (unindented (drop at t)) ≡ false
  none_without_marks none = sym end_is_break ∙ ap (λ x. nat_le 1 x && (nat_le x (length t - first) && nat_le (length t - first) (walked t).reach)) none

  pub told : 1 ≤ (walked t).least → (nat_le (length t - (walked t).reach) first && nat_lt first (length t - (walked t).least + 1)) ≡ is_thematic_break (unindented (drop at t))
  told some =
      (λ i. from (nat_le (length t - first) (walked t).reach) refl i && to (nat_le (walked t).least (length t - first)) refl i)
      ∙ turned (nat_le (length t - first) (walked t).reach) (nat_le (walked t).least (length t - first))
      ∙ ap (λ x. x && (nat_le (walked t).least (length t - first) && nat_le (length t - first) (walked t).reach)) (sym (le-leb 1 (walked t).least some)) ∙ end_is_break
    where
      s : Seen (walked t) t
      s = seen t

      from : (x : Bool) → nat_le (length t - first) (walked t).reach ≡ x → nat_le (length t - (walked t).reach) first ≡ x
      from true e = le-leb (length t - (walked t).reach) first (omega (arith, leb-true (length t - first) (walked t).reach e))
      from false e = lt-leb (length t - (walked t).reach) first (omega (arith, leb-false (length t - first) (walked t).reach e, inside))

      to : (x : Bool) → nat_le (walked t).least (length t - first) ≡ x → nat_lt first (length t - (walked t).least + 1) ≡ x
      to true e = lt-ltb first (length t - (walked t).least + 1) (omega (arith, leb-true (walked t).least (length t - first) e, inside, some))
      to false e = le-ltb first (length t - (walked t).least + 1) (omega (arith, leb-false (walked t).least (length t - first) e, inside, s.within, s.least))

      turned : (q p : Bool) → (q && p) ≡ (true && (p && q))
      turned true true = refl
      turned true false = refl
      turned false true = refl
      turned false false = refl

-- what the parts of the answer are
module _ (t : List ℕ) (w : Walk) (same : w ≡ walked t) where
  pub reach_within : w.reach ≤ length t
  reach_within = let e : w.reach ≡ (walked t).reach = ap (λ (u : Walk). u.reach) same in omega (arith, e, (seen t).within)

  pub least_within : w.least ≤ length t
  least_within =
      let e : w.least ≡ (walked t).least = ap (λ (u : Walk). u.least) same in
      omega (arith, e, (seen t).within, (seen t).least)

  pub breaks_none : w.least ≡ 0 → (at from : ℕ) → at ≤ length t → (thematic : Bool)
      → (nat_le from (at + indent (drop at t)) && nat_lt (at + indent (drop at t)) 0) ≡ (thematic && is_thematic_break (unindented (drop at t)))
  breaks_none none at from h thematic =
      let e : (walked t).least ≡ 0 = sym (ap (λ (u : Walk). u.least) same) ∙ none in
      ap (λ x. nat_le from (at + indent (drop at t)) && x) (le-ltb (at + indent (drop at t)) 0 (omega arith)) ∙ and-false (nat_le from (at + indent (drop at t)))
      ∙ sym (ap (λ x. thematic && x) (none_without_marks t at h e) ∙ and-false thematic)

  pub breaks_told : (w.least ≢ 0) → (at : ℕ) → at ≤ length t → (thematic : Bool) → thematic ≡ true
      → (nat_le (length t - w.reach) (at + indent (drop at t)) && nat_lt (at + indent (drop at t)) (length t - w.least + 1)) ≡ (thematic && is_thematic_break (unindented (drop at t)))
  breaks_told some at h false e = absurd (false≢true e)
  breaks_told some at h true e =
      let l : w.least ≡ (walked t).least = ap (λ (u : Walk). u.least) same in
      (λ i. nat_le (length t - (same i).reach) (at + indent (drop at t)) && nat_lt (at + indent (drop at t)) (length t - (same i).least + 1)) ∙ told t at h (omega (arith, some, l))
