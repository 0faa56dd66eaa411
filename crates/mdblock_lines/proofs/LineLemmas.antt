-- Lemmas on the definitions of lines: by induction on the line, and one byte on in a loop.
use Rattle.std.proofs.Common.{◌≡◌, ℕ, zero, suc, ◌+◌, ◌-◌, ◌<◌, ◌≤◌, Bool, true, false, cond, List, [], ◌∷◌, length, take, drop, get_or, Bor, refl, sym, ap, ◌∙◌, arith, eq-eqb, eqb-true, ne_eqb, length-drop}
use Rattle.std.specs.Prelude.{◌==◌, ◌&&◌, ◌||◌, not, nat_le, map, Option, Some, None}
use Rattle.std.specs.List.{list_all, prefix_len}
use Rattle.std.proofs.lemmas.Bool.Decides.{nat_tests}
use Rattle.std.proofs.lemmas.List.{drop_more, drop-drop}
use Rattle.std.proofs.Math.Dec.{eqb-suc-suc}
use Rattle.std.proofs.lemmas.Bool.{false≢true}
use Rattle.std.proofs.Math.Seq.{drop-length}
use Rattle.mdconstructs_tables.specs.Breaks.{is_white}
use Rattle.mdblock_leaf_blocks.specs.LineWords.{starts_with, holds, lower, first_passes, is_blank_line, indent, unindented}
use Rattle.mdblock_leaf_blocks.specs.LineKinds.{begins_with, blank, indented, is_far, kind_of_rest, line_kind}
use Rattle.markdown_base.specs.declared.configuration.Constructs.{Constructs}
use Rattle.mdblock_leaf_blocks.specs.HtmlLines.{is_named, behind_quote, ends_open_tag, behind_attribute, ends_tag}
use Rattle.mdblock_lines.specs.Containers.{Prefix, first_byte, digits, is_footnote, is_marker, label_size, may_begin_item, item_at}
use Rattle.mdblock_lines.specs.Views.{is_name, next_in_tag, closes_tag, may_stand, is_marker_behind, prefix_behind, prefix_by}

-- as many as there are pass a test, or all do
pub all_by_prefix : (p : ℕ → Bool) (xs : List ℕ) → (prefix_len p xs == length xs) ≡ list_all p xs
all_by_prefix p [] = refl
all_by_prefix p (x ∷ xs) = by (p x) (all_by_prefix p xs)
  where
    by : (b : Bool) → (prefix_len p xs == length xs) ≡ list_all p xs → (cond b (1 + prefix_len p xs) 0 == suc (length xs)) ≡ (b && list_all p xs)
    by true e = let on : 1 + prefix_len p xs ≡ suc (prefix_len p xs) = omega arith in ap (λ k. k == suc (length xs)) on ∙ eqb-suc-suc (prefix_len p xs) (length xs) ∙ e
    by false e = ne_eqb 0 (suc (length xs)) (λ q. omega arith)

-- behind some of those that pass, the others come
pub prefix_rest : (p : ℕ → Bool) (xs : List ℕ) (k : ℕ) → k ≤ prefix_len p xs → prefix_len p xs ≡ k + prefix_len p (drop k xs)
prefix_rest p xs zero h = omega arith
prefix_rest p [] (suc k) h = absurd (omega arith)
prefix_rest p (x ∷ xs) (suc k) h = by (p x) (prefix_rest p xs k) h
  where
    by : (b : Bool) → (k ≤ prefix_len p xs → prefix_len p xs ≡ k + prefix_len p (drop k xs)) → suc k ≤ cond b (1 + prefix_len p xs) 0 → cond b (1 + prefix_len p xs) 0 ≡ suc k + prefix_len p (drop k xs)
    by true e l = let r = e (omega arith) in omega arith
    by false e l = absurd (omega arith)

pub first_stays : (t : List ℕ) (from at first : ℕ) → from ≤ at → at ≤ first → first ≡ from + indent (drop from t) → first ≡ at + indent (drop at t)
first_stays t from at first order before is =
    let k : from + (at - from) ≡ at = omega arith in
    let on : drop (at - from) (drop from t) ≡ drop at t = drop-drop (at - from) from t ∙ ap (λ n. drop n t) k in
    let r = prefix_rest is_white (drop from t) (at - from) (omega arith) in
    let e : indent (drop (at - from) (drop from t)) ≡ indent (drop at t) = ap indent on in
    omega arith

-- behind a byte: it is the first, or not
pub drop_one : (n : ℕ) (t : List ℕ) → drop 1 (drop n t) ≡ drop (n + 1) t
drop_one n t = drop-drop 1 n t

pub first_byte_at : (t : List ℕ) (n : ℕ) → n < length t → first_byte (drop n t) ≡ get_or t n 0
first_byte_at t n h = ap first_byte (drop_more t n 0 h)

-- up to a quote
pub quote_found : (q : ℕ) (t : List ℕ) → prefix_len (λ b. not (b == q)) t < length t → Some (drop (prefix_len (λ b. not (b == q)) t + 1) t) ≡ behind_quote q t
quote_found q [] h = absurd (omega arith)
quote_found q (x ∷ xs) h = by (x == q) (quote_found q xs) h
  where
    n : ℕ
    n = prefix_len (λ b. not (b == q)) xs

    by : (b : Bool) → (prefix_len (λ b. not (b == q)) xs < length xs → Some (drop (prefix_len (λ b. not (b == q)) xs + 1) xs) ≡ behind_quote q xs) → cond (not b) (1 + prefix_len (λ b. not (b == q)) xs) 0 < suc (length xs)
        → Some (drop (cond (not b) (1 + prefix_len (λ b. not (b == q)) xs) 0 + 1) (x ∷ xs)) ≡ cond b (Some xs) (behind_quote q xs)
    by true e l = refl
    by false e l =
        let on : 1 + prefix_len (λ b. not (b == q)) xs + 1 ≡ suc (prefix_len (λ b. not (b == q)) xs + 1) = omega arith in
        ap (λ k. Some (drop k (x ∷ xs))) on ∙ e (omega arith)

pub quote_missing : (q : ℕ) (t : List ℕ) → length t ≤ prefix_len (λ b. not (b == q)) t → None ≡ behind_quote q t
quote_missing q [] h = refl
quote_missing q (x ∷ xs) h = by (x == q) (quote_missing q xs) h
  where
    by : (b : Bool) → (length xs ≤ prefix_len (λ b. not (b == q)) xs → None ≡ behind_quote q xs) → suc (length xs) ≤ cond (not b) (1 + prefix_len (λ b. not (b == q)) xs) 0 → None ≡ cond b (Some xs) (behind_quote q xs)
    by true e l = absurd (omega arith)
    by false e l = e (omega arith)

-- text that is too short
pub begins_short : (what t : List ℕ) → length t < length what → starts_with what t ≡ false
begins_short [] t h = absurd (omega arith)
begins_short (b ∷ bs) [] h = refl
begins_short (b ∷ bs) (c ∷ cs) h = by (b == c) (begins_short bs cs (omega arith))
  where
    by : (s : Bool) → starts_with bs cs ≡ false → (s && starts_with bs cs) ≡ false
    by true e = e
    by false e = refl

pub starts_short : (what t : List ℕ) → length t < length what → starts_with what (map lower t) ≡ false
starts_short [] t h = absurd (omega arith)
starts_short (b ∷ bs) [] h = refl
starts_short (b ∷ bs) (c ∷ cs) h = by (b == lower c) (starts_short bs cs (omega arith))
  where
    by : (s : Bool) → starts_with bs (map lower cs) ≡ false → (s && starts_with bs (map lower cs)) ≡ false
    by true e = e
    by false e = refl

drop_past : (xs : List ℕ) (n : ℕ) → length xs ≤ n → drop n xs ≡ []
drop_past [] zero h = refl
drop_past [] (suc n) h = refl
drop_past (x ∷ xs) zero h = absurd (omega arith)
drop_past (x ∷ xs) (suc n) h = drop_past xs n (omega arith)

-- one byte on
module _ (what t : List ℕ) (n : ℕ) (w : n < length what) (h : n < length t) where
  begins_step : starts_with (drop n what) (drop n t) ≡ ((get_or what n 0 == get_or t n 0) && starts_with (drop (n + 1) what) (drop (n + 1) t))
  begins_step = λ k. starts_with (drop_more what n 0 w k) (drop_more t n 0 h k)

  pub begins_yes : get_or t n 0 ≡ get_or what n 0 → starts_with (drop n what) (drop n t) ≡ starts_with (drop (n + 1) what) (drop (n + 1) t)
  begins_yes e = begins_step ∙ ap (λ s. s && starts_with (drop (n + 1) what) (drop (n + 1) t)) (eq-eqb _ _ (sym e))

  pub begins_no : (get_or t n 0 ≡ get_or what n 0 → ⊥) → starts_with (drop n what) (drop n t) ≡ false
  begins_no e = begins_step ∙ ap (λ s. s && starts_with (drop (n + 1) what) (drop (n + 1) t)) (ne_eqb _ _ (λ q. e (sym q)))

  starts_step : starts_with (drop n what) (map lower (drop n t)) ≡ ((get_or what n 0 == lower (get_or t n 0)) && starts_with (drop (n + 1) what) (map lower (drop (n + 1) t)))
  starts_step = λ k. starts_with (drop_more what n 0 w k) (map lower (drop_more t n 0 h k))

  pub starts_yes : lower (get_or t n 0) ≡ get_or what n 0 → starts_with (drop n what) (map lower (drop n t)) ≡ starts_with (drop (n + 1) what) (map lower (drop (n + 1) t))
  starts_yes e = starts_step ∙ ap (λ s. s && starts_with (drop (n + 1) what) (map lower (drop (n + 1) t))) (eq-eqb _ _ (sym e))

  pub starts_no : (lower (get_or t n 0) ≡ get_or what n 0 → ⊥) → starts_with (drop n what) (map lower (drop n t)) ≡ false
  starts_no e = starts_step ∙ ap (λ s. s && starts_with (drop (n + 1) what) (map lower (drop (n + 1) t))) (ne_eqb _ _ (λ q. e (sym q)))

pub begins_end : (what t : List ℕ) (n : ℕ) → length what ≤ n → starts_with (drop n what) (drop n t) ≡ true
begins_end what t n h = ap (λ l. starts_with l (drop n t)) (drop_past what n h)

pub starts_end : (what t : List ℕ) (n : ℕ) → length what ≤ n → starts_with (drop n what) (map lower (drop n t)) ≡ true
starts_end what t n h = ap (λ l. starts_with l (map lower (drop n t))) (drop_past what n h)

-- bytes that a text holds, from an index on
module _ (what t : List ℕ) (n : ℕ) (h : n < length t) where
  pub holds_here : starts_with what (drop n t) ≡ true → holds what (drop n t) ≡ true
  holds_here e = (λ k. holds what (drop_more t n 0 h k)) ∙ ap (λ s. s || holds what (drop (n + 1) t)) (sym (λ k. starts_with what (drop_more t n 0 h k)) ∙ e)

  pub holds_later : starts_with what (drop n t) ≡ false → holds what (drop n t) ≡ holds what (drop (n + 1) t)
  holds_later e = (λ k. holds what (drop_more t n 0 h k)) ∙ ap (λ s. s || holds what (drop (n + 1) t)) (sym (λ k. starts_with what (drop_more t n 0 h k)) ∙ e)

  pub holds_here_lower : starts_with what (map lower (drop n t)) ≡ true → holds what (map lower (drop n t)) ≡ true
  holds_here_lower e = (λ k. holds what (map lower (drop_more t n 0 h k))) ∙ ap (λ s. s || holds what (map lower (drop (n + 1) t))) (sym (λ k. starts_with what (map lower (drop_more t n 0 h k))) ∙ e)

  pub holds_later_lower : starts_with what (map lower (drop n t)) ≡ false → holds what (map lower (drop n t)) ≡ holds what (map lower (drop (n + 1) t))
  holds_later_lower e = (λ k. holds what (map lower (drop_more t n 0 h k))) ∙ ap (λ s. s || holds what (map lower (drop (n + 1) t))) (sym (λ k. starts_with what (map lower (drop_more t n 0 h k))) ∙ e)

holds_nothing : (what : List ℕ) → 0 < length what → holds what [] ≡ false
holds_nothing [] h = absurd (omega arith)
holds_nothing (b ∷ bs) h = refl

pub holds_end : (what t : List ℕ) (n : ℕ) → 0 < length what → n ≡ length t → holds what (drop n t) ≡ false
holds_end what t n h e = ap (λ k. holds what (drop k t)) e ∙ ap (holds what) (drop-length t) ∙ holds_nothing what h

pub holds_end_lower : (what t : List ℕ) (n : ℕ) → 0 < length what → n ≡ length t → holds what (map lower (drop n t)) ≡ false
holds_end_lower what t n h e = ap (λ k. holds what (map lower (drop k t))) e ∙ ap (λ l. holds what (map lower l)) (drop-length t) ∙ holds_nothing what h

-- names, from an index on
module _ (names : List (Bor (List ℕ))) (name : List ℕ) (i : ℕ) (d : Bor (List ℕ)) (h : i < length names) where
  pub named_here : is_name (get_or names i d).now name ≡ true → is_named (map (λ listed. listed.now) (drop i names)) name ≡ true
  named_here e = (λ k. is_named (map (λ listed. listed.now) (drop_more names i d h k)) name) ∙ ap (λ s. s || is_named (map (λ listed. listed.now) (drop (i + 1) names)) name) e

  pub named_later : is_name (get_or names i d).now name ≡ false → is_named (map (λ listed. listed.now) (drop i names)) name ≡ is_named (map (λ listed. listed.now) (drop (i + 1) names)) name
  named_later e = (λ k. is_named (map (λ listed. listed.now) (drop_more names i d h k)) name) ∙ ap (λ s. s || is_named (map (λ listed. listed.now) (drop (i + 1) names)) name) e

pub named_end : (names : List (Bor (List ℕ))) (name : List ℕ) → is_named (map (λ listed. listed.now) (drop (length names) names)) name ≡ false
named_end names name = ap (λ l. is_named (map (λ listed. listed.now) l) name) (drop-length names)

-- one step in a tag
pub tag_goes_on : (bound : ℕ) (t rest : List ℕ) → next_in_tag t ≡ Some rest → ends_open_tag (suc bound) t ≡ ends_open_tag bound rest
tag_goes_on bound t rest e = by (first_passes (λ b. b == 47) (unindented t)) (first_passes (λ b. b == 62) (unindented t)) (first_passes is_white t) (behind_attribute (unindented t)) e
  where
    by : (a b w : Bool) (o : Option (List ℕ)) → cond (a || b) None (cond w o None) ≡ Some rest
        → cond a (ends_tag (drop 1 (unindented t))) (cond b (ends_tag (unindented t)) (cond w (elim o [ None ↦ false | Some r ↦ ends_open_tag bound r ]) false)) ≡ ends_open_tag bound rest
    by true b w o e = absurd (cc)
    by false true w o e = absurd (cc)
    by false false true None e = absurd (cc)
    by false false true (Some r) e = let same : r ≡ rest = cc in ap (ends_open_tag bound) same
    by false false false o e = absurd (cc)

pub tag_stops : (bound : ℕ) (t : List ℕ) → next_in_tag t ≡ None → ends_open_tag (suc bound) t ≡ closes_tag t
tag_stops bound t e = by (first_passes (λ b. b == 47) (unindented t)) (first_passes (λ b. b == 62) (unindented t)) (first_passes is_white t) (behind_attribute (unindented t)) e
  where
    by : (a b w : Bool) (o : Option (List ℕ)) → cond (a || b) None (cond w o None) ≡ None
        → cond a (ends_tag (drop 1 (unindented t))) (cond b (ends_tag (unindented t)) (cond w (elim o [ None ↦ false | Some r ↦ ends_open_tag bound r ]) false)) ≡ cond a (ends_tag (drop 1 (unindented t))) (cond b (ends_tag (unindented t)) false)
    by true b w o e = refl
    by false true w o e = refl
    by false false true None e = refl
    by false false true (Some r) e = absurd (cc)
    by false false false o e = refl

-- the walk over a tag: a bound that suffices, at which the answer is the same
pub record IsSameTag (whole rest : List ℕ) : Type 0 where
  pub bound : ℕ
  pub enough : length rest < bound
  pub same : ends_open_tag (suc (length whole)) whole ≡ ends_open_tag bound rest

pub tag_begins : (t : List ℕ) → IsSameTag t t
tag_begins t = record { bound = suc (length t); enough = omega arith; same = refl }

pub tag_step : (whole t rest : List ℕ) → next_in_tag t ≡ Some rest → length rest < length t → IsSameTag whole t → IsSameTag whole rest
tag_step whole t rest e shorter w =
    let more : w.bound ≡ suc (w.bound - 1) = omega (arith, w.enough) in
    record { bound = w.bound - 1; enough = omega (arith, w.enough); same = w.same ∙ ap (λ b. ends_open_tag b t) more ∙ tag_goes_on (w.bound - 1) t rest e }

pub tag_ends : (whole t : List ℕ) → next_in_tag t ≡ None → IsSameTag whole t → ends_open_tag (suc (length whole)) whole ≡ closes_tag t
tag_ends whole t e w =
    let more : w.bound ≡ suc (w.bound - 1) = omega (arith, w.enough) in
    w.same ∙ ap (λ b. ends_open_tag b t) more ∙ tag_stops (w.bound - 1) t e

-- footnote definitions
pub starts_long : (what t : List ℕ) → starts_with what t ≡ true → length what ≤ length t
starts_long [] t e = omega arith
starts_long (b ∷ bs) [] e = absurd (cc)
starts_long (b ∷ bs) (c ∷ cs) e = by (b == c) (starts_long bs cs) e
  where
    by : (s : Bool) → (starts_with bs cs ≡ true → length bs ≤ length cs) → (s && starts_with bs cs) ≡ true → suc (length bs) ≤ suc (length cs)
    by true more q = let w = more q in omega (arith, w)
    by false more q = absurd (cc)

-- a label is not empty, and brackets, the mark and a colon are around it
module _ (r : List ℕ) where
  abbrev n : ℕ
  n = label_size (drop 2 r)

  pub footnote_some : is_footnote r ≡ true → 1 ≤ label_size (drop 2 r)
  footnote_some e = by (starts_with (91 ∷ 94 ∷ []) r) (nat_le 1 n) (starts_with (93 ∷ 58 ∷ []) (drop (n + 2) r)) refl e
    where
      by : (a b c : Bool) → nat_le 1 n ≡ b → (a && (b && c)) ≡ true → 1 ≤ n
      by true true c s h = grind (arith, nat_tests)
      by true false c s h = absurd (cc)
      by false b c s h = absurd (cc)

  pub footnote_long : is_footnote r ≡ true → label_size (drop 2 r) + 4 ≤ length r
  footnote_long e = by (starts_with (91 ∷ 94 ∷ []) r) (nat_le 1 n) (starts_with (93 ∷ 58 ∷ []) (drop (n + 2) r)) refl e
    where
      by : (a b c : Bool) → starts_with (93 ∷ 58 ∷ []) (drop (n + 2) r) ≡ c → (a && (b && c)) ≡ true → n + 4 ≤ length r
      by true true true s h =
          let two = starts_long (93 ∷ 58 ∷ []) (drop (n + 2) r) s in
          let left : length (drop (n + 2) r) ≡ length r - (n + 2) = length-drop (n + 2) r in
          omega (arith, two, left)
      by true true false s h = absurd (cc)
      by true false c s h = absurd (cc)
      by false b c s h = absurd (cc)

-- what begins with a bracket is no item, and what does not is no footnote definition
pub bracket_is_no_item : (in_paragraph : Bool) (r : List ℕ) → begins_with 91 r ≡ true → may_begin_item in_paragraph r ≡ false
bracket_is_no_item in_paragraph [] e = absurd (cc)
bracket_is_no_item in_paragraph (b ∷ bs) e = ap (λ c. may_begin_item in_paragraph (c ∷ bs)) (eqb-true b 91 e)

pub no_bracket_no_footnote : (r : List ℕ) → begins_with 91 r ≡ false → is_footnote r ≡ false
no_bracket_no_footnote [] e = refl
no_bracket_no_footnote (b ∷ bs) e = by (91 == b) refl
  where
    by : (s : Bool) → (91 == b) ≡ s → (s && starts_with (94 ∷ []) bs && (let n = label_size (drop 2 (b ∷ bs)) in nat_le 1 n && starts_with (93 ∷ 58 ∷ []) (drop (n + 2) (b ∷ bs)))) ≡ false
    by false q = refl
    by true q = absurd (false≢true (sym e ∙ eq-eqb b 91 (sym (eqb-true 91 b q))))

-- items
module _ (in_paragraph : Bool) (number : ℕ) (t : List ℕ) where
  pub item_none : is_marker (unindented t) ≡ false → cond (may_begin_item in_paragraph (unindented t)) (Some (item_at number t)) None ≡ None
  item_none e = ap (λ s. cond (s && may_stand in_paragraph (digits (unindented t)) (take (digits (unindented t)) (unindented t)) (drop (suc (digits (unindented t))) (unindented t))) (Some (item_at number t)) None) e

  pub item_some : (columns n : ℕ) (r : List ℕ) → columns ≡ indent t → r ≡ unindented t → n ≡ digits r → n < length r → is_marker_behind n (get_or r n 0) ≡ true
      → prefix_behind in_paragraph number columns n (get_or r n 0) r (n + 1) ≡ cond (may_begin_item in_paragraph (unindented t)) (Some (item_at number t)) None
  item_some columns n r ec er en inside is =
      let next : suc n ≡ n + 1 = omega arith in
      let b = first_byte_at r n inside in
      let at : prefix_behind in_paragraph number columns n (get_or r n 0) r (n + 1) ≡ F columns n r (n + 1) (get_or r n 0) = sym (ap (λ s. cond (s && may_stand in_paragraph n (take n r) (drop (n + 1) r)) (Some (prefix_by number (columns + (n + 1)) (get_or r n 0) n (drop (n + 1) r))) None) is) in
      let here : F columns n r (suc n) (first_byte (drop n r)) ≡ F columns n r (n + 1) (get_or r n 0) = λ k. F columns n r (next k) (b k) in
      let there : F columns n r (suc n) (first_byte (drop n r)) ≡ F (indent t) (digits (unindented t)) (unindented t) (suc (digits (unindented t))) (first_byte (drop (digits (unindented t)) (unindented t))) =
      (λ k. F (ec k) (en k) r (suc (en k)) (first_byte (drop (en k) r))) ∙ (λ k. F (indent t) (digits (er k)) (er k) (suc (digits (er k))) (first_byte (drop (digits (er k)) (er k)))) in
      at ∙ sym here ∙ there
    where
      F : (columns n : ℕ) (r : List ℕ) (m y : ℕ) → Option Prefix
      F columns n r m y = cond (is_marker_behind n y && may_stand in_paragraph n (take n r) (drop m r)) (Some (prefix_by number (columns + m) y n (drop m r))) None

pub marker_missing : (r : List ℕ) → digits r ≡ length r → is_marker r ≡ false
marker_missing r e = ap (λ k. is_marker_behind (digits r) (first_byte (drop k r))) e ∙ ap (λ l. is_marker_behind (digits r) (first_byte l)) (drop-length r) ∙ by (digits r == 0) (nat_le (digits r) 9)
  where
    by : (z k : Bool) → cond z ((0 == 42) || ((0 == 43) || (0 == 45))) (k && ((0 == 46) || (0 == 41))) ≡ false
    by true k = refl
    by false true = refl
    by false false = refl

pub marker_wrong : (r : List ℕ) (n : ℕ) → n ≡ digits r → n < length r → is_marker_behind n (get_or r n 0) ≡ false → is_marker r ≡ false
marker_wrong r n e inside not_one = sym (λ k. is_marker_behind (e k) (first_byte (drop (e k) r))) ∙ ap (is_marker_behind n) (first_byte_at r n inside) ∙ not_one

pub line_kind_rest : (on : Constructs) (t r : List ℕ) (columns : ℕ) → is_blank_line t ≡ false → is_far on t ≡ false → columns ≡ indent t → r ≡ unindented t → kind_of_rest on columns r ≡ line_kind on t
line_kind_rest on t r columns some near ec er =
    (λ k. kind_of_rest on (ec k) (er k))
    ∙ sym (ap (λ s. cond s blank (cond (is_far on t) indented (kind_of_rest on (indent t) (unindented t)))) some ∙ ap (λ s. cond s indented (kind_of_rest on (indent t) (unindented t))) near)

-- turns of walks

-- behind so many bytes, so much white space is left at least
pub white_left : (t : List ℕ) (k : ℕ) → indent t ≤ k + indent (drop k t)
white_left t zero = omega arith
white_left [] (suc k) = omega arith
white_left (x ∷ xs) (suc k) = by (is_white x) (white_left xs k)
  where
    by : (b : Bool) → indent xs ≤ k + indent (drop k xs) → cond b (1 + indent xs) 0 ≤ suc k + indent (drop k xs)
    by true e = omega (arith, e)
    by false e = omega arith

-- a prefix pays for the white space behind its marker, but for what it leaves
pub item_paid : (r after : List ℕ) (columns n size white : ℕ) → after ≡ drop (n + 1) r → white ≡ indent after → columns + (n + 1) ≤ size
    → white + (columns + n + 1) ≤ size + indent (drop (size - columns) r)
item_paid r after columns n size white ea ew least =
    let k = size - (columns + (n + 1)) in
    let on : (n + 1) + k ≡ size - columns = omega (arith, least) in
    let left = white_left after k in
    let same : indent (drop k after) ≡ indent (drop (size - columns) r) = ap (λ l. indent (drop k l)) ea ∙ ap indent (drop-drop k (n + 1) r) ∙ ap (λ m. indent (drop m r)) on in
    omega (arith, left, same, ew, least, on)

pub behind_prefix : (t : List ℕ) (columns size : ℕ) → columns ≤ size → drop (size - columns) (drop columns t) ≡ drop size t
behind_prefix t columns size h = let on : columns + (size - columns) ≡ size = omega (arith, h) in drop-drop (size - columns) columns t ∙ ap (λ n. drop n t) on
