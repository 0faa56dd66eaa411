-- Of a text of definitions alone, and lines behind it that begin with neither a bracket nor a title, these lines are left.
use Rattle.std.proofs.Common.{◌≡◌, inl, inr, ℕ, zero, suc, ◌+◌, ◌<◌, ◌≤◌, true, false, List, [], ◌∷◌, ◌++◌, Option, Some, None, arith, drop, length, length-drop, refl, sym, ap, subst, ◌∙◌}
use Rattle.std.specs.Prelude.{◌==◌, is_some}
use Rattle.std.specs.List.{prefix_len}
use Rattle.std.specs.Prelude.{IfSome}
use Rattle.std.proofs.lemmas.Bool.{cases_lt, false≢true}
use Rattle.std.proofs.lemmas.List.{drop-drop, drop_all}
use Rattle.markdown_base.specs.declared.configuration.Constructs.{Constructs}
use Rattle.mdblock_leaf_blocks.specs.LineKinds.{underline_rank, unindented}
use Rattle.mdblock_containers.specs.Rows.{has_none}
use Rattle.mdblock_containers.proofs.FrameFacts.{none_is}
use Rattle.mdblock_containers.proofs.LazyLemmas.{underline_some}
use Rattle.mdblock_containers.proofs.PlainLetters.{begins_underline}
use Rattle.mdinline_labels.specs.declared.definitions.Definition.{Definition}
use Rattle.mdinline_labels.specs.Definitions.{definition_at, rest}
use Rattle.mdinline_labels.specs.Tails.{is_white, line_ends, title_size}
use Rattle.mdinline_labels.specs.Tails as tails
use Rattle.mdinline_labels.proofs.Fronts.{no-rest, rest-more}
use Rattle.mdblock_definitions.specs.Rows.{is_used_up}
use Rattle.mdblock_definitions.proofs.Longer.{definition-longer, drop-longer}
use Rattle.mdblock_definitions.proofs.Shorter.{line-ends-there}
use Rattle.mdblock_definitions.proofs.Underlined.{front-white, other-mark}

-- a text ends in a byte that is no line feed
pub record EndsFull (text : List ℕ) : Type 0 where
  pub front : List ℕ
  pub last : ℕ
  pub is : text ≡ front ++ (last ∷ [])
  pub full : (last == 10) ≡ false

none-full : EndsFull [] → ⊥
none-full h = by h.front h.is
  where
    by : (xs : List ℕ) → [] ≡ xs ++ (h.last ∷ []) → ⊥
    by [] e = absurd (cc)
    by (x ∷ xs) e = absurd (cc)

-- so does what is left of it
full-tail : (x : ℕ) (xs : List ℕ) → has_none xs ≡ false → EndsFull (x ∷ xs) → EndsFull xs
full-tail x xs some h = by h.front h.is
  where
    by : (ys : List ℕ) → x ∷ xs ≡ ys ++ (h.last ∷ []) → EndsFull xs
    by [] e = let none : xs ≡ [] = cc in absurd (false≢true (sym some ∙ ap has_none none))
    by (y ∷ ys) e = record { front = ys; last = h.last; is = cc; full = h.full }

full-behind : (n : ℕ) (xs : List ℕ) → has_none (drop n xs) ≡ false → EndsFull xs → EndsFull (drop n xs)
full-behind zero xs some h = h
full-behind (suc n) [] some h = h
full-behind (suc n) (x ∷ xs) some h = full-behind n xs some (full-tail x xs (by xs some) h)
  where
    by : (xs : List ℕ) → has_none (drop n xs) ≡ false → has_none xs ≡ false
    by [] some = by-none n some
      where
        by-none : (n : ℕ) → let no : List ℕ = [] in has_none (drop n no) ≡ false → true ≡ false
        by-none zero e = e
        by-none (suc n) e = e
    by (y ∷ ys) some = refl

-- no line ends before its last byte
full-last : (x : ℕ) → EndsFull (x ∷ []) → line_ends (x ∷ []) ≡ true → ⊥
full-last x h e = by h.front h.is
  where
    by : (ys : List ℕ) → x ∷ [] ≡ ys ++ (h.last ∷ []) → ⊥
    by [] k = let same : x ≡ h.last = cc in false≢true (sym h.full ∙ ap (λ b. b == 10) (sym same) ∙ e)
    by (y ∷ []) k = absurd (cc)
    by (y ∷ z ∷ ys) k = absurd (cc)

module _ (w : List ℕ) (no-title : title_size (drop (prefix_len is_white w) w) ≡ None) (no-bracket : tails.begins_with 91 (drop (prefix_len is_white w) w) ≡ false) where
  pub lines-are-left : (n : ℕ) (x : List ℕ) → length x ≤ n → EndsFull x → rest x ≡ [] → rest (x ++ 10 ∷ w) ≡ w
  lines-are-left n [] h full used = absurd (none-full full)
  lines-are-left zero (b ∷ bs) h full used = absurd (omega (arith, h))
  lines-are-left (suc n) (b ∷ bs) h full used = by (λ y few whole none. lines-are-left n y few whole none) (definition_at (b ∷ bs)) refl (line-ends-there (b ∷ bs))
    where
      x : List ℕ
      x = b ∷ bs

      some : 0 < length (b ∷ bs)
      some = omega arith

      by : ((y : List ℕ) → length y ≤ n → EndsFull y → rest y ≡ [] → rest (y ++ 10 ∷ w) ≡ w) → (o : Option Definition) → definition_at (b ∷ bs) ≡ o → IfSome o (λ d. line_ends (drop d.size (b ∷ bs)) ≡ true) → rest ((b ∷ bs) ++ 10 ∷ w) ≡ w
      by shorter None e ends = absurd (false≢true (ap has_none (sym (no-rest (b ∷ bs) e)) ∙ ap has_none used))
      by shorter (Some d) e ends =
          let long = definition-longer w no-title (b ∷ bs) d used some e in
          let on = rest-more ((b ∷ bs) ++ 10 ∷ w) d (omega arith) long.0 in
          elim (cases_lt d.size (length (b ∷ bs))) [
            | inl less ↦
                on ∙ ap rest (drop-longer w (d.size + 1) (b ∷ bs) (omega (arith, less)))
                ∙ shorter (drop (d.size + 1) (b ∷ bs)) (omega (arith, h, length-drop (d.size + 1) (b ∷ bs))) (full-behind (d.size + 1) (b ∷ bs) (more d.size less ends) full) (sym (rest-more (b ∷ bs) d some e) ∙ used)
            | inr all ↦
                let size : d.size + 1 ≡ length (b ∷ bs) + 1 = omega (arith, all, long.1) in
                let behind : drop (d.size + 1) ((b ∷ bs) ++ 10 ∷ w) ≡ w =
                ap (λ k. drop k ((b ∷ bs) ++ 10 ∷ w)) size ∙ sym (drop-drop 1 (length (b ∷ bs)) ((b ∷ bs) ++ 10 ∷ w))
                ∙ ap (drop 1) (drop-longer w (length (b ∷ bs)) (b ∷ bs) (omega arith) ∙ ap (λ v. v ++ 10 ∷ w) (drop_all (length (b ∷ bs)) (b ∷ bs) (omega arith))) in
                on ∙ ap rest behind ∙ no-rest w (rw no-bracket refl)
          ]
        where
          -- a line ending is not the last byte
          more : (n : ℕ) → n < length (b ∷ bs) → line_ends (drop n (b ∷ bs)) ≡ true → has_none (drop (n + 1) (b ∷ bs)) ≡ false
          more n less ends = two (drop n (b ∷ bs)) refl (drop (n + 1) (b ∷ bs)) refl
            where
              two : (v : List ℕ) → drop n (b ∷ bs) ≡ v → (u : List ℕ) → drop (n + 1) (b ∷ bs) ≡ u → has_none u ≡ false
              two [] k u q = let size = ap (λ (l : List ℕ). length l) k in absurd (omega (arith, size, less, length-drop n (b ∷ bs)))
              two v k (c ∷ u) q = refl
              two (a ∷ v) k [] q =
                  let none : v ≡ [] = sym (ap (drop 1) k) ∙ drop-drop 1 n (b ∷ bs) ∙ q in
                  let one : drop n (b ∷ bs) ≡ a ∷ [] = k ∙ ap (λ l. a ∷ l) none in
                  absurd (full-last a (subst EndsFull one (full-behind n (b ∷ bs) (ap has_none one) full)) (sym (ap line_ends one) ∙ ends))

-- Of a text of definitions alone, and an underline behind it, the line is left that would be one, with what comes behind it
pub underline-is-left : (on : Constructs) (text line more : List ℕ) → is_used_up text ≡ true → EndsFull text → is_some (underline_rank on line) ≡ true → rest (text ++ 10 ∷ (line ++ more)) ≡ line ++ more
underline-is-left on text line more used full underline =
    let w = line ++ more in
    let some : 0 < length (unindented line) = omega (arith, underline_some on line underline) in
    let place : drop (prefix_len is_white w) w ≡ unindented line ++ more = front-white line more some in
    let mark : (title_size (unindented line ++ more) ≡ None) × (tails.begins_with 91 (unindented line ++ more) ≡ false) =
    elim (begins_underline on line underline) [ inl a ↦ other-mark 61 (unindented line) more a refl refl | inr a ↦ other-mark 45 (unindented line) more a refl refl ] in
    lines-are-left w (ap title_size place ∙ mark.0) (ap (tails.begins_with 91) place ∙ mark.1) (length text) text (omega arith) full (none_is (rest text) used)
