-- How far the parts of a definition go: they are in the text.
use Rattle.std.proofs.Common.{◌≡◌, ℕ, suc, ◌+◌, ◌<◌, ◌≤◌, Bool, true, false, cond, List, [], ◌∷◌, Option, Some, None, arith, drop, length, length-drop, refl, sym, ap, ◌∙◌}
use Rattle.std.specs.Prelude.{◌==◌, ◌||◌}
use Rattle.std.specs.List.{prefix_len}
use Rattle.std.specs.Option.{option_and_then, option_map, option_or}
use Rattle.std.proofs.lemmas.List.Sums.{prefix_len-le-length}
use Rattle.std.proofs.lemmas.Option.{cond_some, none-some, same_Some}
use Rattle.mdinline_labels.specs.declared.definitions.Definition.{Definition}
use Rattle.mdinline_labels.specs.declared.definitions.Stretch.{Stretch}
use Rattle.mdinline_labels.specs.Definitions.{end, end_of, ended, line_left, stretch_at, title_at, titled_or_not}
use Rattle.mdinline_labels.specs.Labels.{hides}
use Rattle.mdinline_labels.specs.Tails.{begins_with, destination_size, enclosed_size, gap, is_plain, is_white, line_ends, marked_size, one_more, raw_size, title_end, title_size}
use Rattle.mdinline_labels.proofs.Sizes.{marked-within, raw-within, begins-some}

-- one byte more, where a size is in what comes behind
byte-inside : (q : Bool) (o : Option ℕ) (n size : ℕ) → ((m : ℕ) → o ≡ Some m → m < size) → cond q None (one_more o) ≡ Some n → n < suc size
byte-inside true o n size ih e = absurd (none-some n e)
byte-inside false None n size ih e = absurd (none-some n e)
byte-inside false (Some m) n size ih e = let less = ih m refl in let same : m + 1 ≡ n = same_Some (m + 1) n e in omega (arith, less, same)

enclosed-inside : (hidden : Bool) (x : List ℕ) (n : ℕ) → enclosed_size hidden x ≡ Some n → n < length x
enclosed-inside hidden [] n e = absurd (none-some n e)
enclosed-inside hidden (b ∷ bs) n e = by (is_plain 62 hidden b) (byte-inside (is_plain 60 hidden b || (b == 10)) (enclosed_size (hides hidden b) bs) n (length bs) (enclosed-inside (hides hidden b) bs)) e
  where
    by : (p : Bool) → (cond (is_plain 60 hidden b || (b == 10)) None (one_more (enclosed_size (hides hidden b) bs)) ≡ Some n → n < suc (length bs))
        → cond p (Some 0) (cond (is_plain 60 hidden b || (b == 10)) None (one_more (enclosed_size (hides hidden b) bs))) ≡ Some n → n < suc (length bs)
    by true more e = let same : 0 ≡ n = same_Some 0 n e in omega (arith, same)
    by false more e = more e

pub destination-inside : (x : List ℕ) (n : ℕ) → destination_size x ≡ Some n → n ≤ length x
destination-inside [] n e = absurd (none-some n e)
destination-inside (b ∷ bs) n e = by (b == 60) (enclosed_size false bs) (raw_size 0 false (b ∷ bs)) (enclosed-inside false bs) (raw-within 0 false (b ∷ bs)) e
  where
    filled : (p : Bool) (m : ℕ) → m ≤ suc (length bs) → cond p None (Some m) ≡ Some n → n ≤ suc (length bs)
    filled true m h e = absurd (none-some n e)
    filled false m h e = let same : m ≡ n = same_Some m n e in omega (arith, h, same)

    by : (p : Bool) (o r : Option ℕ) → ((m : ℕ) → o ≡ Some m → m < length bs) → ((m : ℕ) → r ≡ Some m → m ≤ suc (length bs)) → cond p (option_map (λ k. k + 2) o) (option_and_then (λ k. cond (k == 0) None (Some k)) r) ≡ Some n → n ≤ suc (length bs)
    by true None r h k e = absurd (none-some n e)
    by true (Some m) r h k e = let less = h m refl in let same : m + 2 ≡ n = same_Some (m + 2) n e in omega (arith, less, same)
    by false o None h k e = absurd (none-some n e)
    by false o (Some m) h k e = filled (m == 0) m (k m refl) e

pub title-inside : (x : List ℕ) (n : ℕ) → title_size x ≡ Some n → n ≤ length x
title-inside [] n e = absurd (none-some n e)
title-inside (b ∷ bs) n e = by (title_end b) e
  where
    one : (o : Option ℕ) → ((m : ℕ) → o ≡ Some m → m < length bs) → option_map (λ k. k + 2) o ≡ Some n → n ≤ suc (length bs)
    one None h e = absurd (none-some n e)
    one (Some m) h e = let less = h m refl in let same : m + 2 ≡ n = same_Some (m + 2) n e in omega (arith, less, same)

    by : (o : Option ℕ) → option_and_then (λ close. option_map (λ k. k + 2) (marked_size b close false false bs)) o ≡ Some n → n ≤ suc (length bs)
    by None e = absurd (none-some n e)
    by (Some close) e = one (marked_size b close false false bs) (marked-within b close false false bs) e

pub gap-inside : (z : List ℕ) → gap z ≤ length z
gap-inside z = by (begins_with 10 (drop (prefix_len is_white z) z)) refl
  where
    few : prefix_len is_white z ≤ length z
    few = prefix_len-le-length is_white z

    by : (p : Bool) → begins_with 10 (drop (prefix_len is_white z) z) ≡ p → cond p (prefix_len is_white z + 1 + prefix_len is_white (drop (prefix_len is_white z + 1) z)) (prefix_len is_white z) ≤ length z
    by true e =
        let some = begins-some 10 (drop (prefix_len is_white z) z) e in
        let more = prefix_len-le-length is_white (drop (prefix_len is_white z + 1) z) in
        omega (arith, some, more, length-drop (prefix_len is_white z) z, length-drop (prefix_len is_white z + 1) z)
    by false e = few

-- ---- parts of a text

module _ (x : List ℕ) where
  -- the white space that is left of a line is in the text
  pub left-inside : (at n : ℕ) → line_left (drop at x) ≡ Some n → at ≤ length x → at + n ≤ length x
  left-inside at n left h =
      let parts = cond_some (line_ends (drop (prefix_len is_white (drop at x)) (drop at x))) (prefix_len is_white (drop at x)) n left in
      omega (arith, h, parts.1, prefix_len-le-length is_white (drop at x), length-drop at x)

  -- and so is a definition that ends there
  pub ended-inside : (l de : Stretch) (t : Option Stretch) (c : Definition) → ended x l de t ≡ Some c → end_of t de ≤ length x → (c.size ≤ length x) × (n : ℕ) × (line_left (drop (end_of t de) x) ≡ Some n) × (c.size ≡ end_of t de + n)
  ended-inside l de t c is h = by (line_left (drop (end_of t de) x)) refl is
    where
      by : (o : Option ℕ) → line_left (drop (end_of t de) x) ≡ o → option_map {T = ℕ} {U = Definition} (λ n. record { label = l; destination = de; title = t; size = end_of t de + n }) o ≡ Some c
          → (c.size ≤ length x) × (n : ℕ) × (line_left (drop (end_of t de) x) ≡ Some n) × (c.size ≡ end_of t de + n)
      by None left is = absurd (none-some c is)
      by (Some n) left is =
          let same : record { label = l; destination = de; title = t; size = end_of t de + n } ≡ c = same_Some _ c is in
          let size : end_of t de + n ≡ c.size = ap (λ (y : Definition). y.size) same in
          let few = left-inside (end_of t de) n left h in
          (omega (arith, size, few), n, left, sym size)

  -- and a title
  title-few : (at : ℕ) (t : Stretch) → at ≤ length x → title_at x at ≡ Some t → end t ≤ length x
  title-few at t h is = by (gap (drop at x) == 0) (title_size (drop (at + gap (drop at x)) x)) refl is
    where
      by : (b : Bool) (o : Option ℕ) → title_size (drop (at + gap (drop at x)) x) ≡ o → cond b None (option_map (stretch_at (at + gap (drop at x))) o) ≡ Some t → end t ≤ length x
      by true o size is = absurd (none-some t is)
      by false None size is = absurd (none-some t is)
      by false (Some n) size is =
          let same : stretch_at (at + gap (drop at x)) n ≡ t = same_Some (stretch_at (at + gap (drop at x)) n) t is in
          let ends : at + gap (drop at x) + n ≡ end t = ap end same in
          let within : at + gap (drop at x) ≤ length x = omega (arith, h, gap-inside (drop at x), length-drop at x) in
          omega (arith, title-inside (drop (at + gap (drop at x)) x) n size, ends, within, length-drop (at + gap (drop at x)) x)

  pub title-ends : (de : Stretch) (o : Option Stretch) → end de ≤ length x → title_at x (end de) ≡ o → end_of o de ≤ length x
  title-ends de None h is = h
  title-ends de (Some t) h is = title-few (end de) t h is

  pub or-inside : (d : Definition) (l de : Stretch) (t : Option Stretch) → end de ≤ length x → end_of t de ≤ length x → titled_or_not x l de t ≡ Some d → d.size ≤ length x
  or-inside d l de t h k is = by (ended x l de t) refl is
    where
      by : (o : Option Definition) → ended x l de t ≡ o → option_or o (ended x l de None) ≡ Some d → d.size ≤ length x
      by None same is = (ended-inside l de None d is h).0
      by (Some c) same is = let equal : c ≡ d = same_Some c d is in (ended-inside l de t d (same ∙ ap (λ y. Some y) equal) k).0
