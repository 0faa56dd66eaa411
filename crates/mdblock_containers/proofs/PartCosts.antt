-- Lemmas on what a part costs that is written: its columns pay for it, and for what is kept open behind it.
use Rattle.std.proofs.Common.{◌≡◌, ◌⊎◌, inl, inr, ℕ, suc, ◌+◌, ◌-◌, ◌*◌, ◌≤◌, Bool, true, false, cond, List, [], ◌∷◌, length, drop, min, refl, sym, ap, ◌∙◌, subst, arith}
use Rattle.std.specs.Prelude.{◌&&◌, max, nat_le}
use Rattle.std.proofs.lemmas.Bool.{false≢true}
use Rattle.std.proofs.lemmas.List.{length-map}
use Rattle.markdown_base.proofs.Common.{and-right}
use Rattle.markdown_base.proofs.Facts.Bools.{and-left}
use Rattle.mdblock_lines.specs.declared.containers.Prefix.{Prefix as CodePrefix}
use Rattle.mdblock_lines.specs.Containers.{Prefix}
use Rattle.mdblock_lines.specs.Views.{prefix_of}
use Rattle.mdblock_containers.specs.declared.ahead.Ahead.{Ahead}
use Rattle.mdblock_containers.specs.declared.rows.Row.{Row as CodeRow}
use Rattle.mdblock_containers.specs.Ahead.{ahead_of}
use Rattle.mdblock_containers.specs.Costs.{ArePaid, FirstIsNotLazy, Follows, IsAsked, IsEnough, is_bare}
use Rattle.mdblock_containers.specs.Rows.{Row, has_none}
use Rattle.mdblock_containers.specs.Skeleton.{going_on_at}
use Rattle.mdblock_containers.specs.Views.{IsRow, begun_of}
use Rattle.mdblock_containers.proofs.CostLemmas.{after_further, asks_few, bare_paid, bare_turned, other_paid, other_turned}
use Rattle.mdblock_containers.proofs.FrameFacts.{none_is}

pub none_same : (list number : ℕ) (xs : List CodePrefix) (ps : List Prefix) → begun_of list number xs ≡ ps → has_none xs ≡ has_none ps
none_same list number [] ps e = ap has_none e
none_same list number (x ∷ xs) ps e = ap has_none e

pub begun_same : (list number : ℕ) (xs : List CodePrefix) (ps : List Prefix) → begun_of list number xs ≡ ps → length xs ≡ length ps
begun_same list number [] ps e = ap (λ (l : List Prefix). length l) e
begun_same list number (x ∷ xs) ps e = ap suc (sym (length-map xs (prefix_of number))) ∙ ap (λ (l : List Prefix). length l) e

-- ---- the next line

pub asked_all : (ys : List Row) (asked from to opens : ℕ) → FirstIsNotLazy ys → opens ≤ asked → IsAsked asked from to opens ys
asked_all [] asked from to opens f h = tt
asked_all (y ∷ ys) asked from to opens f h = (f, inl h)

pub asked_bare : (r : Row) (ys : List Row) (st all from to opens : ℕ) → FirstIsNotLazy ys → Follows r ys → is_bare r ≡ true → length r.went_on ≤ all → min all (going_on_at ys) ≤ st → from ≡ st → to ≡ all → IsAsked st from to opens ys
asked_bare r [] st all from to opens f follows bare few least ef et = tt
asked_bare r (y ∷ ys) st all from to opens f follows bare few least ef et =
    let fewer = follows.1 bare in
    let going : length y.went_on ≤ to = omega (arith, fewer, few, et) in
    let within : min to (going_on_at (y ∷ ys)) ≤ from = omega (arith, least, ef, et) in
    (f, inr (sym ef, going, within))

pub first_behind : (r : Row) (rs : List Row) → Follows r rs → r.is_blank ≡ true → FirstIsNotLazy rs
first_behind r [] follows h = tt
first_behind r (s ∷ rs) follows h = follows.0 h

module _ (r : Row) (rs : List Row) (paid : ArePaid (r ∷ rs)) (n : ℕ) (x : CodeRow) (is : IsRow n x r) (size : ℕ) (small : r.columns ≤ size) where
  abbrev pub bare : Bool
  bare = x.is_blank && has_none x.begun.items

  pub bare_is : bare ≡ is_bare r
  bare_is = λ i. is.is_blank i && none_same x.list n x.begun.items r.begun is.begun i

  pub nothing_begun : bare ≡ true → length x.begun.items ≡ 0
  nothing_begun e = ap (λ (l : List CodePrefix). length l) (none_is x.begun.items (and-right x.is_blank (has_none x.begun.items) e))

  pub counted : bare ≡ false → x.many + length x.begun.items ≤ size
  counted e = let columns = paid.0.columns (sym bare_is ∙ e) in let begun = begun_same x.list n x.begun.items r.begun is.begun in omega (arith, columns, begun, is.many, small)

  pub not_left : bare ≡ false → x.is_left_blank ≡ false
  not_left e = by x.is_left_blank refl
    where
      by : (b : Bool) → x.is_left_blank ≡ b → x.is_left_blank ≡ false
      by true q = absurd (false≢true (sym e ∙ bare_is ∙ paid.0.left (sym is.is_left_blank ∙ q)))
      by false q = q

  module _ (t0 budget fl sc from to opens : ℕ) (before : IsEnough t0 budget fl sc from to opens (r ∷ rs)) (t1 w t2 : ℕ) (one : t1 + w ≤ t0 + sc) (two : t2 ≤ t1 + length x.begun.items) where
    pub part_open : t2 ≤ budget + size
    part_open = by bare refl
      where
        start : t0 + (fl + (sc + (before.asked + 4 * (before.asked - sc)))) ≤ budget
        start = before.enough

        by : (b : Bool) → bare ≡ b → t2 ≤ budget + size
        by true e = let none = nothing_begun e in let s = start in omega (arith, s, one, two, none)
        by false e = let c = counted e in let s = start in omega (arith, s, one, two, c)

    module _ (few : x.many ≤ opens) (least_w : min sc x.many ≤ w) (all : ℕ) (most : all ≤ x.many + length x.begun.items) (least_all : x.many ≤ all) (ahead : Ahead) (ahead_is : ahead ≡ ahead_of rs)
        (seen : ℕ) (seen_is : seen ≡ cond (has_none x.begun.items && nat_le all to) from all) (t3 st : ℕ) (three : t3 + st ≤ t2 + all) (asks : x.is_blank ≡ true → t3 + st ≤ t2 + max seen ahead.many)
        (below : x.is_blank ≡ true → st ≤ max seen ahead.many) (within : st ≤ all) (t4 k : ℕ) (four : t4 + k ≤ t3 + w) (least_k : min w st ≤ k) where
      -- behind a bare line
      module _ (e : bare ≡ true) where
        pub blank : x.is_blank ≡ true
        blank = and-left x.is_blank (has_none x.begun.items) e

        pub all_is : all ≡ x.many
        all_is = let none = nothing_begun e in omega (arith, most, least_all, none)

        pub ahead_many : (going_on_at (r ∷ rs) ≡ ahead.many) ⊎ (going_on_at (r ∷ rs) ≡ all)
        ahead_many = by r.is_left_blank
          where
            by : (b : Bool) → (cond b (going_on_at rs) (length r.went_on) ≡ ahead.many) ⊎ (cond b (going_on_at rs) (length r.went_on) ≡ all)
            by true = inl (sym (ap (λ (a : Ahead). a.many) ahead_is))
            by false = inr (let same = all_is in omega (arith, same, is.many))

        pub asked_is : (opens ≤ before.asked) ⊎ ((before.asked ≡ from) × (all ≤ to) × (min to (going_on_at (r ∷ rs)) ≤ from))
        asked_is = elim before.are.1 [
          | inl h ↦ inl h
          | inr h ↦ inr (h.0, (let same = all_is in let fit : length r.went_on ≤ to = h.1 in omega (arith, same, fit, is.many)), h.2)
        ]

        pub asks_asked : t3 + st ≤ t2 + before.asked
        asks_asked =
            let all_few : all ≤ opens = let same = all_is in omega (arith, same, few) in
            asks_few before.asked from to opens all (going_on_at (r ∷ rs)) asked_is all_few (has_none x.begun.items) seen ahead.many t2 (t3 + st) (and-right x.is_blank (has_none x.begun.items) e) ahead_many seen_is three (asks blank)

        pub stands_asked : st ≤ before.asked
        stands_asked =
            let all_few : all ≤ opens = let same = all_is in omega (arith, same, few) in
            let most_st : st ≤ max seen ahead.many = below blank in
            let h = asks_few before.asked from to opens all (going_on_at (r ∷ rs)) asked_is all_few (has_none x.begun.items) seen ahead.many 0 st (and-right x.is_blank (has_none x.begun.items) e) ahead_many seen_is (omega (arith, within)) (omega (arith, most_st)) in
            omega (arith, h)

        pub front : st ≤ x.many
        front = let same = all_is in omega (arith, same, within)

      pub part_turned : (t5 : ℕ) → t5 ≤ t4 + fl + (st - k) → t5 ≤ budget + 3 * size
      part_turned t5 h = by bare refl
        where
          by : (b : Bool) → bare ≡ b → t5 ≤ budget + 3 * size
          by true e =
              let turned = bare_turned budget t0 t1 t2 t3 t4 sc fl before.asked w k st (length x.begun.items) x.many size before.enough one two four least_w least_k (nothing_begun e) (asks_asked e) (stands_asked e) (front e) t5 h in
              omega (arith, turned)
          by false e =
              let turned = other_turned budget t0 t1 t2 t3 t4 sc fl before.asked w k st (length x.begun.items) x.many size before.enough one two four least_w least_k all three within (counted e) most in
              omega (arith, turned, h)

      pub part_paid : (least_st : x.is_blank ≡ true → min all ahead.many ≤ st) (now first last lines fn t5 t6 extra : ℕ) → (x.is_left_blank ≡ false → x.is_lazy ≡ false → all ≡ now) → first ≡ cond bare st 0 → last ≡ cond bare all 0 → lines ≡ cond x.is_blank 0 ahead.further
          → t5 + fn ≤ t4 + fl + 3 * (st - k) + 1 → t6 ≤ t5 + extra → IsEnough t6 (budget + (7 * size + 1 + extra)) fn st first last now (drop lines rs)
      part_paid least_st now first last lines fn t5 t6 extra whole ef el en h more =
          subst (λ (m : ℕ). IsEnough t6 (budget + (7 * size + 1 + extra)) fn st first last now (drop m rs)) (sym en) (by bare refl ef el)
        where
          not_lazy : FirstIsNotLazy (drop (cond x.is_blank 0 ahead.further) rs)
          not_lazy = next x.is_blank refl
            where
              next : (b : Bool) → x.is_blank ≡ b → FirstIsNotLazy (drop (cond b 0 ahead.further) rs)
              next true e = first_behind r rs paid.1 (sym is.is_blank ∙ e)
              next false e = subst (λ (m : ℕ). FirstIsNotLazy (drop m rs)) (sym (ap (λ (a : Ahead). a.further) ahead_is)) (after_further rs paid.2)

          by : (b : Bool) → bare ≡ b → first ≡ cond b st 0 → last ≡ cond b all 0 → IsEnough t6 (budget + (7 * size + 1 + extra)) fn st first last now (drop (cond x.is_blank 0 ahead.further) rs)
          by true e f l =
              let none : cond x.is_blank 0 ahead.further ≡ 0 = ap (λ b. cond b 0 ahead.further) (blank e) in
              let same = all_is e in
              let least : min all (going_on_at rs) ≤ st = let h = least_st (blank e) in let m = ap (λ (a : Ahead). a.many) ahead_is in omega (arith, h, m) in
              let enough = bare_paid budget t0 t1 t2 t3 t4 sc fl before.asked w k st (length x.begun.items) x.many size before.enough one two four least_w least_k (nothing_begun e) (asks_asked e) (stands_asked e) (front e) t5 fn h in
              record {
                asked = st;
                are = subst (λ (m : ℕ). IsAsked st first last now (drop m rs)) (sym none)
                    (asked_bare r rs st all first last now (subst (λ (m : ℕ). FirstIsNotLazy (drop m rs)) none not_lazy) paid.1 (sym bare_is ∙ e) (omega (arith, same, is.many)) least f l);
                enough = let all : t6 + (fn + (st + (st + 4 * (st - st)))) ≤ budget + (7 * size + 1 + extra) = omega (arith, enough, more) in all;
              }
          by false e f l =
              let enough = other_paid budget t0 t1 t2 t3 t4 sc fl before.asked w k st (length x.begun.items) x.many size before.enough one two four least_w least_k all three within (counted e) most t5 fn h in
              let all_now = whole (not_left e) (is.is_lazy ∙ before.are.0) in
              record { asked = all; are = asked_all (drop (cond x.is_blank 0 ahead.further) rs) all first last now not_lazy (omega (arith, all_now)); enough = let whole_turns : t6 + (fn + (st + (all + 4 * (all - st)))) ≤ budget + (7 * size + 1 + extra) = omega (arith, enough, more) in whole_turns }
