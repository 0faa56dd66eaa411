-- Lemmas on containers that go on with a line and that begin in it.
use Rattle.std.proofs.Common.{◌≡◌, ℕ, zero, suc, ◌+◌, ◌-◌, ◌<◌, ◌≤◌, Bool, true, false, cond, List, [], ◌∷◌, ◌++◌, length, take, drop, map, min, refl, sym, ap, ◌∙◌, subst, arith, length-drop, append_assoc, get_or}
use Rattle.std.specs.Prelude.{◌==◌, ◌&&◌, ◌||◌, not, nat_le, Option, Some, None, option_map, IfSome}
use Rattle.std.specs.List.{prefix_len}
use Rattle.std.proofs.lemmas.List.{append-nil, drop-drop, drop_more, map-append}
use Rattle.std.proofs.lemmas.List.Sums.{sum_by_push, sum_by-cons}
use Rattle.std.proofs.lemmas.Bool.{false≢true}
use Rattle.mdconstructs_tables.specs.Breaks.{is_white}
use Rattle.markdown_base.specs.declared.configuration.Constructs.{Constructs}
use Rattle.mdblock_leaf_blocks.specs.LineKinds.{indent, unindented, is_blank_line, is_thematic_break, begins_with}
use Rattle.mdblock_lines.specs.declared.containers.Prefix.{Prefix as CodePrefix}
use Rattle.mdblock_lines.specs.Containers.{Container, quote, item, footnote, footnote_at, is_footnote, label_size, Prefix, goes_on, begins, quote_size, item_at, is_marker, padding, digits, first_byte, may_begin_item}
use Rattle.mdblock_lines.specs.Views.{prefix_of}
use Rattle.mdblock_containers.specs.declared.going.Open.{Open}
use Rattle.mdblock_containers.specs.declared.going.Open.{Open}
use Rattle.mdblock_containers.specs.Prefixes.{going_on, columns_of, containers_of, beginning}
use Rattle.mdblock_containers.specs.Views.{open_of}
use Rattle.mdblock_containers.specs.Views.{open_of}
use Rattle.markdown_base.proofs.Common.{and-right}
use Rattle.mdblock_lines.proofs.LineLemmas.{footnote_long}

-- a front is no longer than the whole
pub prefix_within : (p : ℕ → Bool) (xs : List ℕ) → prefix_len p xs ≤ length xs
prefix_within p [] = omega arith
prefix_within p (x ∷ xs) = by (p x) (prefix_within p xs)
  where
    by : (b : Bool) → prefix_len p xs ≤ length xs → cond b (1 + prefix_len p xs) 0 ≤ suc (length xs)
    by true e = omega arith
    by false e = omega arith

-- a byte that is there
pub begins_some : (byte : ℕ) (t : List ℕ) → begins_with byte t ≡ true → 1 ≤ length t
begins_some byte [] e = absurd (cc)
begins_some byte (b ∷ bs) e = omega arith

quote_within : (t : List ℕ) → begins_with 62 (unindented t) ≡ true → quote_size t ≤ length t
quote_within t e =
    let some = begins_some 62 (unindented t) e in
    let front : indent t ≤ length t = prefix_within is_white t in
    let more : indent (drop 1 (unindented t)) ≤ length (drop 1 (unindented t)) = prefix_within is_white (drop 1 (unindented t)) in
    let n : length (unindented t) ≡ length t - indent t = length-drop (indent t) t in
    let m : length (drop 1 (unindented t)) ≡ length (unindented t) - 1 = length-drop 1 (unindented t) in
    omega arith

-- a container goes on with no more than is there
pub goes_on_within : (c : Container) (number : ℕ) (t : List ℕ) (n : ℕ) → goes_on c number t ≡ Some n → n ≤ length t
goes_on_within (quote q) number t n e = by (begins_with 62 (unindented t)) (not (q.is_near && nat_le 4 (indent t))) refl e
  where
    by : (a b : Bool) → begins_with 62 (unindented t) ≡ a → cond (a && b) (Some (quote_size t)) None ≡ Some n → n ≤ length t
    by true true s q = let w = quote_within t s in let same : quote_size t ≡ n = cc in omega arith
    by true false s q = absurd (cc)
    by false b s q = absurd (cc)
goes_on_within (footnote f) number t n e = by (is_blank_line t) (nat_le 4 (indent t)) refl e
  where
    front : indent t ≤ length t
    front = prefix_within is_white t

    by : (a c : Bool) → nat_le 4 (indent t) ≡ c → cond a (Some (min 4 (indent t))) (cond c (Some 4) None) ≡ Some n → n ≤ length t
    by true c s q = let same : min 4 (indent t) ≡ n = cc in let w = front in omega arith
    by false true s q = let same : 4 ≡ n = cc in let w = front in let le : 4 ≤ indent t = grind (arith) in omega arith
    by false false s q = absurd (cc)
goes_on_within (item i) number t n e = by (is_blank_line t) (i.is_empty && (number == suc i.line)) (nat_le i.size (indent t)) refl e
  where
    front : indent t ≤ length t
    front = prefix_within is_white t

    by : (a b c : Bool) → nat_le i.size (indent t) ≡ c → cond a (cond b None (Some (min i.size (indent t)))) (cond c (Some i.size) None) ≡ Some n → n ≤ length t
    by true true c s q = absurd (cc)
    by true false c s q = let same : min i.size (indent t) ≡ n = cc in let f = front in omega arith
    by false b true s q = let same : i.size ≡ n = cc in let f = front in let le : i.size ≤ indent t = grind (arith) in omega arith
    by false b false s q = absurd (cc)

-- one container that goes on, and the others
pub going_more : (c : Container) (cs : List Container) (number at size : ℕ) (t : List ℕ) → goes_on c number (drop at t) ≡ Some size
    → going_on (c ∷ cs) number (drop at t) ≡ record { container = c; size = size } ∷ going_on cs number (drop (at + size) t)
going_more c cs number at size t e = by (goes_on c number (drop at t)) e
  where
    by : (o : Option ℕ) → o ≡ Some size
        → (elim o as (λ _. List Prefix) [ None ↦ [] | Some n ↦ record { container = c; size = n } ∷ going_on cs number (drop n (drop at t)) ]) ≡ record { container = c; size = size } ∷ going_on cs number (drop (at + size) t)
    by None q = absurd (cc)
    by (Some n) q = let same : n ≡ size = cc in (λ k. record { container = c; size = same k } ∷ going_on cs number (drop (same k) (drop at t))) ∙ ap (λ l. record { container = c; size = size } ∷ going_on cs number l) (drop-drop size at t)

pub going_stops : (c : Container) (cs : List Container) (number : ℕ) (t : List ℕ) → goes_on c number t ≡ None → going_on (c ∷ cs) number t ≡ []
going_stops c cs number t e = by (goes_on c number t) e
  where
    by : (o : Option ℕ) → o ≡ None → (elim o as (λ _. List Prefix) [ None ↦ [] | Some n ↦ record { container = c; size = n } ∷ going_on cs number (drop n t) ]) ≡ []
    by None q = refl
    by (Some n) q = absurd (cc)

-- those that go on are the first of the open ones
pub going_front : (cs : List Container) (number : ℕ) (t : List ℕ) → containers_of (going_on cs number t) ≡ take (length (going_on cs number t)) cs
going_front [] number t = refl
going_front (c ∷ cs) number t = by (goes_on c number t) (λ n. going_front cs number (drop n t))
  where
    by : (o : Option ℕ) → ((n : ℕ) → containers_of (going_on cs number (drop n t)) ≡ take (length (going_on cs number (drop n t))) cs)
        → containers_of (elim o as (λ _. List Prefix) [ None ↦ [] | Some n ↦ record { container = c; size = n } ∷ going_on cs number (drop n t) ]) ≡ take (length (elim o as (λ _. List Prefix) [ None ↦ [] | Some n ↦ record { container = c; size = n } ∷ going_on cs number (drop n t) ])) (c ∷ cs)
    by None h = refl
    by (Some n) h = ap (λ l. c ∷ l) (h n)

pub goes_on_within_size : (c : Container) (number : ℕ) (t : List ℕ) (o : Option ℕ) → o ≡ goes_on c number t → IfSome o (λ n. n ≤ length t)
goes_on_within_size c number t None e = tt
goes_on_within_size c number t (Some n) e = goes_on_within c number t n (sym e)

-- the open containers from one on
module _ (stack : List Open) (number : ℕ) (t rest : List ℕ) (i at : ℕ) (d : Open) (here : i < length stack) (is : rest ≡ drop at t) where
  pub going_step : (size : ℕ) → Some size ≡ goes_on (open_of (get_or stack i d)) number rest
      → going_on (map open_of (drop i stack)) number (drop at t) ≡ record { container = open_of (get_or stack i d); size = size } ∷ going_on (map open_of (drop (i + 1) stack)) number (drop (at + size) t)
  going_step size e = (λ k. going_on (map open_of (drop_more stack i d here k)) number (drop at t)) ∙ going_more (open_of (get_or stack i d)) (map open_of (drop (i + 1) stack)) number at size t (sym (e ∙ ap (λ l. goes_on (open_of (get_or stack i d)) number l) is))

  pub going_columns : (size : ℕ) → Some size ≡ goes_on (open_of (get_or stack i d)) number rest
      → columns_of (going_on (map open_of (drop i stack)) number (drop at t)) ≡ size + columns_of (going_on (map open_of (drop (i + 1) stack)) number (drop (at + size) t))
  going_columns size e =
      let p : Prefix = record { container = open_of (get_or stack i d); size = size } in
      ap columns_of (going_step size e) ∙ sum_by-cons (λ (q : Prefix). q.size) p (going_on (map open_of (drop (i + 1) stack)) number (drop (at + size) t))

  pub going_end : None ≡ goes_on (open_of (get_or stack i d)) number rest → going_on (map open_of (drop i stack)) number (drop at t) ≡ []
  going_end e = (λ k. going_on (map open_of (drop_more stack i d here k)) number (drop at t)) ∙ going_stops (open_of (get_or stack i d)) (map open_of (drop (i + 1) stack)) number (drop at t) (sym (e ∙ ap (λ l. goes_on (open_of (get_or stack i d)) number l) is))

-- an item's marker is there
abbrev is_marker_of : (n : ℕ) → List ℕ → Bool
is_marker_of n l = cond (n == 0) ((first_byte l == 42) || ((first_byte l == 43) || (first_byte l == 45))) (nat_le n 9 && ((first_byte l == 46) || (first_byte l == 41)))

no_marker : (a b : Bool) → cond a false (b && false) ≡ true → ⊥
no_marker true b h = false≢true h
no_marker false true h = false≢true h
no_marker false false h = false≢true h

marker_within : (r : List ℕ) → is_marker r ≡ true → digits r + 1 ≤ length r
marker_within r e = by (drop (digits r) r) refl
  where
    by : (l : List ℕ) → drop (digits r) r ≡ l → digits r + 1 ≤ length r
    by [] q = absurd (no_marker (digits r == 0) (nat_le (digits r) 9) (sym (ap (λ l. is_marker_of (digits r) l) q) ∙ e))
    by (x ∷ xs) q = let long : length (drop (digits r) r) ≡ suc (length xs) = ap length q in let d : length (drop (digits r) r) ≡ length r - digits r = length-drop (digits r) r in omega arith

padding_within : (t : List ℕ) → is_blank_line t ≡ false → padding t ≤ length t
padding_within [] e = absurd (cc)
padding_within (b ∷ bs) e = by (not (is_blank_line (b ∷ bs)) && nat_le (indent (b ∷ bs)) 4)
  where
    by : (s : Bool) → cond s (indent (b ∷ bs)) 1 ≤ length (b ∷ bs)
    by true = prefix_within is_white (b ∷ bs)
    by false = omega arith

item_within : (number : ℕ) (t : List ℕ) → is_marker (unindented t) ≡ true → (1 ≤ (item_at number t).size) × ((item_at number t).size ≤ length t)
item_within number t e =
    let m = marker_within (unindented t) e in
    let d : length (unindented t) ≡ length t - indent t = length-drop (indent t) t in
    let front : indent t ≤ length t = prefix_within is_white t in
    by (is_blank_line (drop (suc (digits (unindented t))) (unindented t))) refl m d front
  where
    n : ℕ
    n = digits (unindented t)

    after : List ℕ
    after = drop (suc n) (unindented t)

    by : (s : Bool) → is_blank_line (drop (suc (digits (unindented t))) (unindented t)) ≡ s → digits (unindented t) + 1 ≤ length (unindented t) → length (unindented t) ≡ length t - indent t → indent t ≤ length t
        → (1 ≤ cond s (indent t + suc (digits (unindented t))) (indent t + suc (digits (unindented t)) + padding (drop (suc (digits (unindented t))) (unindented t)))) × (cond s (indent t + suc (digits (unindented t))) (indent t + suc (digits (unindented t)) + padding (drop (suc (digits (unindented t))) (unindented t))) ≤ length t)
    by true q m d f = (omega arith, omega arith)
    by false q m d f =
        let p : padding (drop (suc (digits (unindented t))) (unindented t)) ≤ length (drop (suc (digits (unindented t))) (unindented t)) = padding_within (drop (suc (digits (unindented t))) (unindented t)) q in
        let l : length (drop (suc (digits (unindented t))) (unindented t)) ≡ length (unindented t) - suc (digits (unindented t)) = length-drop (suc (digits (unindented t))) (unindented t) in
        (omega arith, omega arith)

-- the prefix of a footnote definition has its label, and is within the line
pub footnote_within : (number : ℕ) (t : List ℕ) → is_footnote (unindented t) ≡ true
    → (indent t + label_size (drop 2 (unindented t)) + 4 ≤ (footnote_at number t).size) × ((footnote_at number t).size ≤ length t)
footnote_within number t e =
    let r = unindented t in
    let n = label_size (drop 2 r) in
    let long : n + 4 ≤ length r = footnote_long r e in
    let d : length r ≡ length t - indent t = length-drop (indent t) t in
    let front : indent t ≤ length t = prefix_within is_white t in
    let after : indent (drop (n + 4) r) ≤ length (drop (n + 4) r) = prefix_within is_white (drop (n + 4) r) in
    let left : length (drop (n + 4) r) ≡ length r - (n + 4) = length-drop (n + 4) r in
    (omega arith, omega arith)

abbrev size_or : Option Prefix → ℕ
size_or None = 0
size_or (Some p) = p.size

item_case : (number : ℕ) (t : List ℕ) (q : Prefix) (l m rest : Bool) → is_marker (unindented t) ≡ m → cond (l && (m && rest)) (Some (item_at number t)) None ≡ Some q → (1 ≤ q.size) × (q.size ≤ length t)
item_case number t q true true true em h = let w = item_within number t em in let size : (item_at number t).size ≡ q.size = ap size_or h in (omega (arith, w.0), omega (arith, w.1))
item_case number t q true true false em h = absurd (cc)
item_case number t q true false rest em h = absurd (cc)
item_case number t q false m rest em h = absurd (cc)

footnote_case : (number : ℕ) (t : List ℕ) (q : Prefix) → is_footnote (unindented t) ≡ true → Some (footnote_at number t) ≡ Some q → (1 ≤ q.size) × (q.size ≤ length t)
footnote_case number t q is h = let w = footnote_within number t is in let size : (footnote_at number t).size ≡ q.size = ap size_or h in (omega (arith, w.0), omega (arith, w.1))

-- a container that begins has a prefix, within the line
pub begins_within : (on : Constructs) (number : ℕ) (in_paragraph : Bool) (t : List ℕ) (q : Prefix) → begins on number in_paragraph t ≡ Some q → (1 ≤ q.size) × (q.size ≤ length t)
begins_within on number in_paragraph t q e =
    by ((on.code_indented && nat_le 4 (indent t)) || (is_blank_line t || (on.thematic_break && is_thematic_break (unindented t)))) on.block_quote (begins_with 62 (unindented t)) on.list_item (on.gfm_footnote_definition && is_footnote (unindented t)) (is_marker (unindented t)) _ refl (and-right on.gfm_footnote_definition (is_footnote (unindented t))) refl e
  where
    by : (past b x l f m rest : Bool) → begins_with 62 (unindented t) ≡ x → (f ≡ true → is_footnote (unindented t) ≡ true) → is_marker (unindented t) ≡ m
        → cond past None (cond (b && x) (Some (record { container = quote (record { line = number; is_near = on.code_indented }); size = quote_size t })) (cond f (Some (footnote_at number t)) (cond (l && (m && rest)) (Some (item_at number t)) None))) ≡ Some q → (1 ≤ q.size) × (q.size ≤ length t)
    by true b x l f m rest ex ef em h = absurd (cc)
    by false true true l f m rest ex ef em h = let w = quote_within t ex in let size : quote_size t ≡ q.size = ap size_or h in (omega arith, omega arith)
    by false true false l true m rest ex ef em h = footnote_case number t q (ef refl) h
    by false true false l false m rest ex ef em h = item_case number t q l m rest em h
    by false false x l true m rest ex ef em h = footnote_case number t q (ef refl) h
    by false false x l false m rest ex ef em h = item_case number t q l m rest em h

item_front : (number : ℕ) (t : List ℕ) → indent t + 1 ≤ (item_at number t).size
item_front number t = by (is_blank_line (drop (suc (digits (unindented t))) (unindented t)))
  where
    by : (s : Bool) → indent t + 1 ≤ cond s (indent t + suc (digits (unindented t))) (indent t + suc (digits (unindented t)) + padding (drop (suc (digits (unindented t))) (unindented t)))
    by true = omega arith
    by false = omega arith

-- the white space is in its prefix, and a marker
pub begins_front : (on : Constructs) (number : ℕ) (in_paragraph : Bool) (t : List ℕ) (q : Prefix) → begins on number in_paragraph t ≡ Some q → indent t + 1 ≤ q.size
begins_front on number in_paragraph t q e =
    by ((on.code_indented && nat_le 4 (indent t)) || (is_blank_line t || (on.thematic_break && is_thematic_break (unindented t)))) (on.block_quote && begins_with 62 (unindented t)) (on.gfm_footnote_definition && is_footnote (unindented t)) (on.list_item && may_begin_item in_paragraph (unindented t)) (and-right on.gfm_footnote_definition (is_footnote (unindented t))) e
  where
    by : (past b f l : Bool) → (f ≡ true → is_footnote (unindented t) ≡ true) → cond past None (cond b (Some (record { container = quote (record { line = number; is_near = on.code_indented }); size = quote_size t })) (cond f (Some (footnote_at number t)) (cond l (Some (item_at number t)) None))) ≡ Some q → indent t + 1 ≤ q.size
    by true b f l ef h = absurd (cc)
    by false true f l ef h = let size : quote_size t ≡ q.size = ap size_or h in omega arith
    by false false true l ef h = let w = footnote_within number t (ef refl) in let size : (footnote_at number t).size ≡ q.size = ap size_or h in omega (arith, w.0)
    by false false false true ef h = let size : (item_at number t).size ≡ q.size = ap size_or h in let front = item_front number t in omega arith
    by false false false false ef h = absurd (cc)

pub begins_some_size : (on : Constructs) (number : ℕ) (in_paragraph : Bool) (t : List ℕ) (o : Option CodePrefix) → option_map (prefix_of number) o ≡ begins on number in_paragraph t → IfSome o (λ p. 1 ≤ p.size)
begins_some_size on number in_paragraph t None e = tt
begins_some_size on number in_paragraph t (Some p) e = (begins_within on number in_paragraph t (prefix_of number p) (sym e)).0

pub begins_within_size : (on : Constructs) (number : ℕ) (in_paragraph : Bool) (t : List ℕ) (o : Option CodePrefix) → option_map (prefix_of number) o ≡ begins on number in_paragraph t → IfSome o (λ p. p.size ≤ length t)
begins_within_size on number in_paragraph t None e = tt
begins_within_size on number in_paragraph t (Some p) e = (begins_within on number in_paragraph t (prefix_of number p) (sym e)).1

-- Containers that begin in a line, up to a column: those that were found, and those that begin behind them
pub record AreBegun (on : Constructs) (number : ℕ) (in_paragraph : Bool) (t : List ℕ) (begun : List Prefix) (at : ℕ) (may_go_on : Bool) : Type 0 where
  pub bound : ℕ
  pub enough : length t ≤ bound + at
  pub same : beginning on (length t) number in_paragraph t ≡ begun ++ beginning on bound number may_go_on (drop at t)
  pub columns : columns_of begun ≡ at
  pub within : at ≤ length t

module _ (on : Constructs) (number : ℕ) (in_paragraph : Bool) (t : List ℕ) where
  pub begun_init : AreBegun on number in_paragraph t [] 0 in_paragraph
  begun_init = record { bound = length t; enough = omega arith; same = refl; columns = refl; within = omega arith }

  begun_head : (b at : ℕ) (p : Prefix) (o : Option Prefix) → o ≡ Some p
      → (elim o as (λ _. List Prefix) [ None ↦ [] | Some q ↦ q ∷ beginning on b number false (drop q.size (drop at t)) ]) ≡ p ∷ beginning on b number false (drop (at + p.size) t)
  begun_head b at p None q = absurd (cc)
  begun_head b at p (Some x) q = let same : x ≡ p = cc in (λ k. same k ∷ beginning on b number false (drop (same k).size (drop at t))) ∙ ap (λ l. p ∷ beginning on b number false l) (drop-drop p.size at t)

  begun_step : (begun : List Prefix) (at : ℕ) (may_go_on : Bool) (p : Prefix) → AreBegun on number in_paragraph t begun at may_go_on → begins on number may_go_on (drop at t) ≡ Some p
      → AreBegun on number in_paragraph t (begun ++ p ∷ []) (at + p.size) false
  begun_step begun at may_go_on p w e =
      let size = begins_within on number may_go_on (drop at t) p e in
      let rest : length (drop at t) ≡ length t - at = length-drop at t in
      let more : w.bound ≡ suc (w.bound - 1) = omega (arith, w.enough, w.within, size.0, size.1) in
      record {
        bound = w.bound - 1;
        enough = omega (arith, w.enough, size.0, size.1, w.within);
        same = w.same ∙ ap (λ b. begun ++ beginning on b number may_go_on (drop at t)) more ∙ ap (λ l. begun ++ l) (begun_head (w.bound - 1) at p (begins on number may_go_on (drop at t)) e) ∙ sym (append_assoc begun (p ∷ []) (beginning on (w.bound - 1) number false (drop (at + p.size) t)));
        columns = sum_by_push (λ (q : Prefix). q.size) begun p ∙ ap (λ n. n + p.size) w.columns;
        within = omega (arith, w.within, size.1);
      }

  begun_tail : (b at : ℕ) (o : Option Prefix) → o ≡ None → (elim o as (λ _. List Prefix) [ None ↦ [] | Some q ↦ q ∷ beginning on b number false (drop q.size (drop at t)) ]) ≡ []
  begun_tail b at None q = refl
  begun_tail b at (Some x) q = absurd (cc)

  begun_none : (b at : ℕ) (may_go_on : Bool) → begins on number may_go_on (drop at t) ≡ None → beginning on b number may_go_on (drop at t) ≡ []
  begun_none zero at may_go_on e = refl
  begun_none (suc b) at may_go_on e = begun_tail b at (begins on number may_go_on (drop at t)) e

  -- one container more, by the code's values
  pub begun_push : (xs ys : List CodePrefix) (p : CodePrefix) (at : ℕ) (may_go_on : Bool) (rest : List ℕ) → ys ≡ xs ++ p ∷ [] → AreBegun on number in_paragraph t (map (prefix_of number) xs) at may_go_on → rest ≡ drop at t
      → Some (prefix_of number p) ≡ begins on number may_go_on rest → AreBegun on number in_paragraph t (map (prefix_of number) ys) (at + p.size) false
  begun_push xs ys p at may_go_on rest e w er b =
      let items : map (prefix_of number) ys ≡ map (prefix_of number) xs ++ prefix_of number p ∷ [] = ap (map (prefix_of number)) e ∙ map-append (prefix_of number) xs (p ∷ []) in
      subst (λ (l : List Prefix). AreBegun on number in_paragraph t l (at + p.size) false) (sym items) (begun_step (map (prefix_of number) xs) at may_go_on (prefix_of number p) w (sym (b ∙ ap (begins on number may_go_on) er)))

  pub begun_end : (begun : List Prefix) (at : ℕ) (may_go_on : Bool) (rest : List ℕ) → AreBegun on number in_paragraph t begun at may_go_on → rest ≡ drop at t → None ≡ begins on number may_go_on rest
      → (begun ≡ beginning on (length t) number in_paragraph t) × (at ≡ columns_of (beginning on (length t) number in_paragraph t))
  begun_end begun at may_go_on rest w er e =
      let none : begins on number may_go_on (drop at t) ≡ None = sym (e ∙ ap (begins on number may_go_on) er) in
      let all : begun ≡ beginning on (length t) number in_paragraph t = sym (w.same ∙ ap (λ l. begun ++ l) (begun_none w.bound at may_go_on none) ∙ append-nil begun) in
      (all, sym w.columns ∙ ap columns_of all)
