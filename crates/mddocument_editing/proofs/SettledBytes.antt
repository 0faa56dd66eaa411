-- Bytes in which a line ends: whatever comes behind them, they are a rest or they are none.
use Rattle.mddocument_editing.proofs.Prelude.{◌≡◌, ℕ, ◌<◌, ◌≤◌, Bool, true, List, [], ◌∷◌, ◌++◌, length, refl, sym, ap, ◌∙◌, arith, inl, inr, and_from, and_parts, cases_Bool, le-leb, leb-true, not_from_false, or_cases, or_left, or_right, length-append, ◌==◌, ◌||◌, not, begins_with_lf, begins_line, has_ending, is_settled, ◌&&◌, nat_le}
use Rattle.std.proofs.lemmas.List.{append_assoc}
use Rattle.mddocument_editing.proofs.Joined.{tells-all}

-- a line that ends in bytes ends in them with more behind
pub settled-more : (front more : List ℕ) → is_settled front ≡ true → is_settled (front ++ more) ≡ true
settled-more [] more h = absurd (cc)
settled-more (b ∷ front) more h =
    or-more (b == 10) ((b == 13) && nat_le 1 (length front)) ((b == 13) && nat_le 1 (length (front ++ more))) (is_settled front) (is_settled (front ++ more)) (at-cr b front more) (settled-more front more) h
  where
    or-more : (x y z v w : Bool) → (y ≡ true → z ≡ true) → (v ≡ true → w ≡ true) → (x || (y || v)) ≡ true → (x || (z || w)) ≡ true
    or-more x y z v w p q h = grind arith

    at-cr : (b : ℕ) (front more : List ℕ) → ((b == 13) && nat_le 1 (length front)) ≡ true → ((b == 13) && nat_le 1 (length (front ++ more))) ≡ true
    at-cr b front more h =
        let p = and_parts (b == 13) (nat_le 1 (length front)) h in
        and_from (b == 13) (nat_le 1 (length (front ++ more))) p.0 (le-leb 1 (length (front ++ more)) (omega (arith, length-append front more, leb-true 1 (length front) p.1)))

-- so does one that has a line feed or a carriage return, if there are some behind
pub ending-settled : (front more : List ℕ) → has_ending front ≡ true → 0 < length more → is_settled (front ++ more) ≡ true
ending-settled [] more h some = absurd (cc)
ending-settled (b ∷ front) more h some =
    by (b == 10) (b == 13) (has_ending front) (nat_le 1 (length (front ++ more))) (is_settled (front ++ more)) (le-leb 1 (length (front ++ more)) (omega (arith, length-append front more, some)))
    (λ ends. ending-settled front more ends some) h
  where
    by : (lf cr ends many settled : Bool) → many ≡ true → (ends ≡ true → settled ≡ true) → ((lf || cr) || ends) ≡ true → (lf || ((cr && many) || settled)) ≡ true
    by lf cr ends many settled more next h = grind arith

-- there are some
pub settled-some : (front : List ℕ) → is_settled front ≡ true → 0 < length front
settled-some [] h = absurd (cc)
settled-some (b ∷ front) h = omega arith

-- the first line of bytes in which a line ends, and what is behind it
pub record Lines (front : List ℕ) : Type 0 where
  pub line : List ℕ
  pub behind : List ℕ
  pub both : line ++ behind ≡ front
  pub some : 1 ≤ length line
  pub ends : (more : List ℕ) → begins_line (behind ++ more) line ≡ true

one-more : (b : ℕ) (front : List ℕ) → Lines front → Lines (b ∷ front)
one-more b front h = record {
  line = b ∷ h.line;
  behind = h.behind;
  both = ap (λ bs. b ∷ bs) h.both;
  some = omega arith;
  ends = λ more. longer b h.line (h.behind ++ more) h.some (h.ends more);
}
  where
    longer : (b : ℕ) (line behind : List ℕ) → 1 ≤ length line → begins_line behind line ≡ true → begins_line behind (b ∷ line) ≡ true
    longer b [] behind some h = absurd (omega arith)
    longer b (x ∷ line) behind some h = h

pub settled-lines : (front : List ℕ) → is_settled front ≡ true → Lines front
settled-lines [] h = absurd (cc)
settled-lines (b ∷ front) h =
    elim (or_cases (b == 10) (((b == 13) && nat_le 1 (length front)) || is_settled front) h) [
      | inl lf ↦ record { line = b ∷ []; behind = front; both = refl; some = omega arith; ends = λ more. or_left (b == 10) ((b == 13) && not (begins_with_lf (front ++ more))) lf }
      | inr other ↦ elim (or_cases ((b == 13) && nat_le 1 (length front)) (is_settled front) other) [
        | inl cr ↦
            let p = and_parts (b == 13) (nat_le 1 (length front)) cr in
            at-cr b front p.0 (leb-true 1 (length front) p.1)
        | inr behind ↦ one-more b front (settled-lines front behind)
      ]
    ]
  where
    at-cr : (b : ℕ) (front : List ℕ) → (b == 13) ≡ true → 1 ≤ length front → Lines (b ∷ front)
    at-cr b [] cr some = absurd (omega arith)
    at-cr b (x ∷ front) cr some = elim (cases_Bool (x == 10)) [
      | inl lf ↦ record { line = b ∷ x ∷ []; behind = front; both = refl; some = omega arith; ends = λ more. or_left (x == 10) ((x == 13) && not (begins_with_lf (front ++ more))) lf }
      | inr none ↦ record {
        line = b ∷ [];
        behind = x ∷ front;
        both = refl;
        some = omega arith;
        ends = λ more. or_right (b == 10) ((b == 13) && not (x == 10)) (and_from (b == 13) (not (x == 10)) cr (not_from_false (x == 10) none));
      }
    ]

module _ (rest : (a b : List ℕ) → Bool) (tells : (a b c : List ℕ) → 1 ≤ length b → begins_line c b ≡ true → begins_line b a ≡ true → rest a (b ++ c) ≡ rest a b) (begins : (a b : List ℕ) → rest a b ≡ true → begins_line b a ≡ true) where
  by-line : (a front more : List ℕ) (h : Lines front) → rest a (front ++ more) ≡ rest a h.line
  by-line a front more h =
      ap (λ bs. rest a (bs ++ more)) (sym h.both) ∙ ap (rest a) (append_assoc h.line h.behind more) ∙ tells-all rest tells begins a h.line (h.behind ++ more) h.some (h.ends more)

  pub settled-tells : (a front x y : List ℕ) → is_settled front ≡ true → rest a (front ++ x) ≡ rest a (front ++ y)
  settled-tells a front x y h = let lines = settled-lines front h in by-line a front x lines ∙ sym (by-line a front y lines)
