-- Lemmas on what skeletons cost: the columns of lines pay for containers.
use Rattle.std.proofs.Common.{◌≡◌, ◌⊎◌, inl, inr, ℕ, zero, suc, ◌+◌, ◌-◌, ◌*◌, ◌<◌, ◌≤◌, Bool, true, false, cond, List, [], ◌∷◌, ◌++◌, length, take, drop, map, min, refl, sym, ap, ◌∙◌, subst, arith, get_or, length-append, length-drop, eq-eqb, ne_eqb}
use Rattle.std.specs.Prelude.{◌==◌, ◌&&◌, not, max, nat_le, is_some, option_map, IfSome, Option, Some, None}
use Rattle.std.specs.List.{AllByRecursion, flat_map}
use Rattle.std.proofs.lemmas.Bool.{cases_lt, eqb-true, false≢true}
use Rattle.std.proofs.lemmas.Bool.Decides.{nat_tests}
use Rattle.std.proofs.lemmas.List.{drop_all, drop-drop, length-map, length-take-le, take-append-le}
use Rattle.std.proofs.lemmas.List.Sums.{sum_by-cons}
use Rattle.markdown_base.specs.declared.configuration.Constructs.{Constructs}
use Rattle.markdown_base.proofs.Common.{and-right, every-take}
use Rattle.markdown_base.proofs.Facts.Bools.{and-left}
use Rattle.mdconstructs_tables.specs.Breaks.{is_white}
use Rattle.mdblock_leaf_blocks.specs.HtmlLines.{ends, waits_for_blank}
use Rattle.mdblock_leaf_blocks.specs.LeafBlocks.{Line, interrupts, text_of}
use Rattle.mdblock_leaf_blocks.specs.LineKinds.{begins_with, blank, closes, indent, indented, is_blank_line, is_far, kind_of_rest, line_kind, underline_rank, unindented}
use Rattle.mdblock_lines.specs.declared.containers.Prefix.{Prefix as CodePrefix}
use Rattle.mdblock_lines.specs.Containers.{Container, Prefix, begins, footnote, goes_on, item, quote, quote_size}
use Rattle.mdblock_lines.specs.Views.{prefix_of}
use Rattle.mdblock_lines.proofs.LineLemmas.{all_by_prefix}
use Rattle.mdblock_containers.specs.declared.frames.Frame.{Frame as CodeFrame}
use Rattle.mdblock_containers.specs.declared.going.Open.{Open}
use Rattle.mdblock_containers.specs.declared.rows.Row.{Row as CodeRow}
use Rattle.mdblock_containers.specs.Costs.{ArePaid, FirstIsNotLazy, HasSize, HaveSizes, IsAsked, IsEnough, IsPaid, is_bare}
use Rattle.mdblock_containers.specs.Frames.{frame_of, frames_in}
use Rattle.mdblock_containers.specs.Prefixes.{columns_of, containers_of, going_on}
use Rattle.mdblock_containers.specs.Rows.{Before, Leaf, Row, closed, has_none, is_paragraph, known_after, leaf_after, open_fence, open_html, open_paragraph, opened_by, row_of, open_table}
use Rattle.mdblock_containers.specs.Skeleton.{Frame, frames_of, further}
use Rattle.mdblock_containers.specs.Views.{IsRow, begun_of, open_of}
use Rattle.mdblock_containers.proofs.FrameFacts.{lazy_is, lazy_stays, left_is, none_is}
use Rattle.mdblock_containers.proofs.GoingLemmas.{begins_front, prefix_within}
use Rattle.mdblock_containers.proofs.RowFacts.{BeganBefore, begun_sizes, columns_within}

-- ---- containers, and the columns of their prefixes

pub began_sizes : (n : ℕ) (cs : List Container) → AllByRecursion (BeganBefore n) cs → HaveSizes cs
began_sizes n [] h = tt
began_sizes n (quote q ∷ cs) h = (tt, began_sizes n cs h.1)
began_sizes n (item i ∷ cs) h = (h.0.1.sized, began_sizes n cs h.1)
began_sizes n (footnote f ∷ cs) h = (tt, began_sizes n cs h.1)

-- a container goes on with a column, if one is left
pub some_size : (c : Container) (number : ℕ) (t : List ℕ) (n : ℕ) → HasSize c → 0 < length t → goes_on c number t ≡ Some n → 1 ≤ n
some_size (quote q) number t n s h e = by (begins_with 62 (unindented t) && not (q.is_near && nat_le 4 (indent t))) e
  where
    by : (a : Bool) → cond a (Some (quote_size t)) None ≡ Some n → 1 ≤ n
    by true q = let same : quote_size t ≡ n = cc in omega arith
    by false q = absurd (cc)
some_size (item i) number t n s h e = by (is_blank_line t) (i.is_empty && (number == suc i.line)) (nat_le i.size (indent t)) refl e
  where
    all : is_blank_line t ≡ true → indent t ≡ length t
    all b = eqb-true (indent t) (length t) (all_by_prefix is_white t ∙ b)

    by : (a b c : Bool) → is_blank_line t ≡ a → cond a (cond b None (Some (min i.size (indent t)))) (cond c (Some i.size) None) ≡ Some n → 1 ≤ n
    by true true c is q = absurd (cc)
    by true false c is q = let same : min i.size (indent t) ≡ n = cc in let long = all is in let size : 1 ≤ i.size = s in omega (arith, h, size, long, same)
    by false b true is q = let same : i.size ≡ n = cc in let size : 1 ≤ i.size = s in omega (arith, size, same)
    by false b false is q = absurd (cc)
some_size (footnote f) number t n s h e = by (is_blank_line t) (nat_le 4 (indent t)) refl e
  where
    all : is_blank_line t ≡ true → indent t ≡ length t
    all b = eqb-true (indent t) (length t) (all_by_prefix is_white t ∙ b)

    by : (a c : Bool) → is_blank_line t ≡ a → cond a (Some (min 4 (indent t))) (cond c (Some 4) None) ≡ Some n → 1 ≤ n
    by true c is q = let same : min 4 (indent t) ≡ n = cc in let long = all is in omega (arith, h, long, same)
    by false true is q = let same : 4 ≡ n = cc in omega (arith, same)
    by false false is q = absurd (cc)

-- if something is left of a line, each container that goes on with it takes a column
pub went_few : (cs : List Container) (number : ℕ) (t : List ℕ) → HaveSizes cs → columns_of (going_on cs number t) < length t → length (going_on cs number t) ≤ columns_of (going_on cs number t)
went_few [] number t s h = omega arith
went_few (c ∷ cs) number t s h = by (λ u. went_few cs number u s.1) (goes_on c number t) refl h
  where
    by : ((u : List ℕ) → columns_of (going_on cs number u) < length u → length (going_on cs number u) ≤ columns_of (going_on cs number u)) → (o : Option ℕ) → goes_on c number t ≡ o
        → columns_of (elim o as (λ _. List Prefix) [ None ↦ [] | Some n ↦ record { container = c; size = n } ∷ going_on cs number (drop n t) ]) < length t
        → length (elim o as (λ _. List Prefix) [ None ↦ [] | Some n ↦ record { container = c; size = n } ∷ going_on cs number (drop n t) ]) ≤ columns_of (elim o as (λ _. List Prefix) [ None ↦ [] | Some n ↦ record { container = c; size = n } ∷ going_on cs number (drop n t) ])
    by more None e l = omega arith
    by more (Some n) e l =
        let p : Prefix = record { container = c; size = n } in
        let all : columns_of (p ∷ going_on cs number (drop n t)) ≡ n + columns_of (going_on cs number (drop n t)) = sum_by-cons (λ (q : Prefix). q.size) p (going_on cs number (drop n t)) in
        let some = some_size c number t n s.0 (omega (arith, l)) e in
        let left : length (drop n t) ≡ length t - n = length-drop n t in
        let rest = more (drop n t) (omega (arith, l, all, left)) in
        omega (arith, rest, some, all)

pub sizes_few : (ps : List Prefix) → AllByRecursion (λ (q : Prefix). 1 ≤ q.size) ps → length ps ≤ columns_of ps
sizes_few [] h = omega arith
sizes_few (p ∷ ps) h =
    let all : columns_of (p ∷ ps) ≡ p.size + columns_of ps = sum_by-cons (λ (q : Prefix). q.size) p ps in
    let more = sizes_few ps h.1 in
    omega (arith, h.0, all, more)

-- ---- lines

-- no paragraph goes on behind a blank line
pub blank_kind : (on : Constructs) (t : List ℕ) → is_blank_line t ≡ true → line_kind on t ≡ blank
blank_kind on t h = ap (λ x. cond x blank (cond (is_far on t) indented (kind_of_rest on (indent t) (unindented t)))) h

pub blank_leaf : (on : Constructs) (leaf : Leaf) (t : List ℕ) → is_blank_line t ≡ true → is_paragraph (leaf_after on leaf t) ≡ false
blank_leaf on closed t h = ap (λ k. is_paragraph (opened_by on k t)) (blank_kind on t h)
blank_leaf on open_table t h = ap (λ k. is_paragraph (opened_by on k t)) (blank_kind on t h)
blank_leaf on open_paragraph t h =
    (λ i. is_paragraph (cond (is_some (underline_rank on t)) closed (cond (interrupts (blank_kind on t h i)) (opened_by on (blank_kind on t h i) t) open_paragraph))) ∙ by (is_some (underline_rank on t))
  where
    by : (x : Bool) → is_paragraph (cond x closed closed) ≡ false
    by true = refl
    by false = refl
blank_leaf on (open_fence f) t h = by (closes on f t)
  where
    by : (x : Bool) → is_paragraph (cond x closed (open_fence f)) ≡ false
    by true = refl
    by false = refl
blank_leaf on (open_html kind) t h = by (cond (waits_for_blank kind) (is_blank_line t) (ends kind t))
  where
    by : (x : Bool) → is_paragraph (cond x closed (open_html kind)) ≡ false
    by true = refl
    by false = refl

module _ (on : Constructs) (b : Before) (n : ℕ) (line : Line) where
  abbrev pub r : Row
  r = row_of on b n line

  pub blank_not_lazy : r.is_blank ≡ true → r.is_lazy ≡ false
  blank_not_lazy h = by (not (length r.went_on == b.depth)) (has_none r.begun) (is_paragraph b.leaf) (interrupts (line_kind on (drop r.columns (text_of line)))) (ap interrupts (blank_kind on (drop r.columns (text_of line)) h))
    where
      by : (a c d k : Bool) → k ≡ true → (a && (c && (d && not k))) ≡ false
      by false c d k e = refl
      by true false d k e = refl
      by true true false k e = refl
      by true true true true e = refl
      by true true true false e = absurd (false≢true e)

  pub not_lazy : is_paragraph b.leaf ≡ false → r.is_lazy ≡ false
  not_lazy h = by r.is_lazy refl
    where
      by : (x : Bool) → r.is_lazy ≡ x → r.is_lazy ≡ false
      by true e = absurd (false≢true (sym h ∙ (lazy_is on b n line e).1))
      by false e = e

  pub leaf_behind : r.is_blank ≡ true → is_paragraph (known_after on b r).leaf ≡ false
  leaf_behind h = by r.is_left_blank r.is_lazy r.stays (blank_not_lazy h)
    where
      rest : List ℕ
      rest = drop r.columns (text_of line)

      by : (left lazy stays : Bool) → lazy ≡ false
          → is_paragraph (cond left (record b { depth = length r.went_on; leaf = closed }) (cond lazy (record b { leaf = cond left closed (cond lazy open_paragraph (leaf_after on (cond stays b.leaf closed) rest)) })
          (record { stack = containers_of r.went_on ++ containers_of r.begun; depth = length (containers_of r.went_on ++ containers_of r.begun); leaf = cond left closed (cond lazy open_paragraph (leaf_after on (cond stays b.leaf closed) rest)) }))).leaf ≡ false
      by true lazy stays e = refl
      by false true stays e = absurd (false≢true (sym e))
      by false false stays e = blank_leaf on (cond stays b.leaf closed) rest h

  pub depth_behind : is_bare r ≡ true → (known_after on b r).depth ≡ length r.went_on
  depth_behind h = by r.is_left_blank r.is_lazy (blank_not_lazy (and-left r.is_blank (has_none r.begun) h))
    where
      size : length (containers_of r.went_on ++ containers_of r.begun) ≡ length r.went_on
      size =
          let none : length (containers_of r.begun) ≡ 0 = ap (λ (ps : List Prefix). length (containers_of ps)) (none_is r.begun (and-right r.is_blank (has_none r.begun) h)) in
          let went = length-map r.went_on (λ (p : Prefix). p.container) in
          let all = length-append (containers_of r.went_on) (containers_of r.begun) in
          omega (arith, none, went, all)

      by : (left lazy : Bool) → lazy ≡ false
          → (cond left (record b { depth = length r.went_on; leaf = closed }) (cond lazy (record b { leaf = r.leaf }) (record { stack = containers_of r.went_on ++ containers_of r.begun; depth = length (containers_of r.went_on ++ containers_of r.begun); leaf = r.leaf }))).depth ≡ length r.went_on
      by true lazy e = refl
      by false true e = absurd (false≢true (sym e))
      by false false e = size

  pub is_paid : HaveSizes b.stack → IsPaid r
  is_paid sizes = record { columns = by (cases_lt (columns_of r.went_on) (length (text_of line))); lazy = λ e. (lazy_stays on b n line e, not_left e r.is_left_blank refl); left = λ e. let both = left_is on b n line e in (λ k. both.0 k && both.1 k) }
    where
      begun : length r.begun ≤ columns_of r.begun
      begun = sizes_few r.begun (begun_sizes on b n line)

      by : (columns_of r.went_on < length (text_of line)) ⊎ (length (text_of line) ≤ columns_of r.went_on) → is_bare r ≡ false → length r.went_on + length r.begun ≤ r.columns
      by (inl less) bare =
          let few : length r.went_on ≤ columns_of r.went_on = went_few (take b.depth b.stack) n (text_of line) (every-take HasSize b.depth b.stack sizes) less in
          let more = begun in
          let sum : r.columns ≡ columns_of r.went_on + columns_of r.begun = refl in
          omega (arith, few, more, sum)
      by (inr all) bare =
          let within = columns_within on b n line in
          let more = begun in
          let sum : r.columns ≡ columns_of r.went_on + columns_of r.begun = refl in
          let nothing : is_blank_line (drop r.columns (text_of line)) ≡ true = ap is_blank_line (drop_all r.columns (text_of line) (omega (arith, all, sum))) in
          absurd (false≢true (sym bare ∙ (λ k. nothing k && none r.begun (omega (arith, within, more, all)) k)))
        where
          none : (ps : List Prefix) → length ps ≡ 0 → has_none ps ≡ true
          none [] e = refl
          none (p ∷ ps) e = absurd (omega (arith, e))

      not_left : r.is_lazy ≡ true → (x : Bool) → r.is_left_blank ≡ x → r.is_left_blank ≡ false
      not_left e true q = absurd (false≢true (sym (blank_not_lazy (left_is on b n line q).0) ∙ e))
      not_left e false q = q

pub paid_behind : (k : ℕ) (rs : List Row) → ArePaid rs → ArePaid (drop k rs)
paid_behind zero rs h = h
paid_behind (suc k) [] h = tt
paid_behind (suc k) (r ∷ rs) h = paid_behind k rs h.2

-- ---- turns

pub next_one : (n : ℕ) → 1 + n ≡ suc n
next_one n = omega arith

-- one turn more
pub enough_before : (turns more budget spans containers from to opens : ℕ) (rs qs : List Row) → more ≡ turns + 1 → rs ≡ qs → IsEnough turns budget spans containers from to opens rs → IsEnough more (budget + 1) spans containers from to opens qs
enough_before turns more budget spans containers from to opens rs qs e is h = record { asked = h.asked; are = subst (IsAsked h.asked from to opens) is h.are; enough = omega (arith, e, h.enough) }

-- ---- the line behind a stretch

pub after_further : (rs : List Row) → ArePaid rs → FirstIsNotLazy (drop (further rs) rs)
after_further [] p = tt
after_further (r ∷ rs) p = by r.is_left_blank r.stays (nat_le 1 (further rs)) refl refl (after_further rs p.2)
  where
    not_so : (x : Bool) → r.is_lazy ≡ x → (r.is_lazy ≡ true → false ≡ true) → r.is_lazy ≡ false
    not_so true e f = absurd (false≢true (f e))
    not_so false e f = e

    by : (left stays some : Bool) → r.is_left_blank ≡ left → r.stays ≡ stays → FirstIsNotLazy (drop (further rs) rs) → FirstIsNotLazy (drop (cond left (cond some (suc (further rs)) 0) (cond stays (suc (further rs)) 0)) (r ∷ rs))
    by true stays true el es q = q
    by true stays false el es q = not_so r.is_lazy refl (λ e. sym ((p.0.lazy e).1) ∙ el)
    by false true some el es q = q
    by false false some el es q = not_so r.is_lazy refl (λ e. sym es ∙ (p.0.lazy e).0)

-- ---- what a part costs

module _ (asked from to opens all m : ℕ) (is : (opens ≤ asked) ⊎ ((asked ≡ from) × (all ≤ to) × (min to m ≤ from))) (few : all ≤ opens) where
  -- a bare line asks only as many containers as were left, of `all` of its own, if `ahead` go on behind it
  pub asks_few : (x : Bool) (seen ahead before after : ℕ) → x ≡ true → (m ≡ ahead) ⊎ (m ≡ all) → seen ≡ cond (x && nat_le all to) from all → after ≤ before + all → after ≤ before + max seen ahead → after ≤ before + asked
  asks_few x seen ahead before after ex em es one two =
      elim is [
        | inl h ↦ omega (arith, h, few, one)
        | inr h ↦
            let known : nat_le all to ≡ true = fits h.1 in
            let same : seen ≡ from = es ∙ (λ k. cond (ex k && known k) from all) in
            let is_from : asked ≡ from = h.0 in
            let within : all ≤ to = h.1 in
            let least : min to m ≤ from = h.2 in
            elim em [
              | inl e ↦ omega (arith, same, is_from, within, least, e, one, two)
              | inr e ↦ omega (arith, same, is_from, within, least, e, one, two)
            ]
      ]
    where
      fits : all ≤ to → nat_le all to ≡ true
      fits le = grind (arith, nat_tests)

-- turns, one step after the other: `w` and `k` are the containers that are left, `st` those in which the part stands, and `b` those that begin
module _ (budget t0 t1 t2 t3 t4 sc fl asked w k st b many size : ℕ) (start : t0 + (fl + (sc + (asked + 4 * (asked - sc)))) ≤ budget) (one : t1 + w ≤ t0 + sc) (two : t2 ≤ t1 + b) (four : t4 + k ≤ t3 + w) (least_w : min sc many ≤ w) (least_k : min w st ≤ k) where
  -- behind a bare line
  module _ (none : b ≡ 0) (three : t3 + st ≤ t2 + asked) (below : st ≤ asked) (front : st ≤ many) where
    pub entered : st - k ≤ asked - sc
    entered = omega (arith, least_w, least_k, below, front)

    pub to_fourth : t4 + (k + st) ≤ t0 + (sc + asked)
    to_fourth = omega (arith, one, two, three, four, none)

    pub bare_turned : (t5 : ℕ) → t5 ≤ t4 + fl + (st - k) → t5 ≤ budget
    bare_turned t5 h = let e = entered in let f = to_fourth in omega (arith, start, h, e, f)

    pub bare_paid : (t5 fn : ℕ) → t5 + fn ≤ t4 + fl + 3 * (st - k) + 1 → t5 + (fn + (st + (st + 4 * (st - st)))) ≤ budget + 1
    bare_paid t5 fn h = let e = entered in let f = to_fourth in omega (arith, start, h, e, f)

  -- behind another line
  module _ (all : ℕ) (three : t3 + st ≤ t2 + all) (below : st ≤ all) (paid : many + b ≤ size) (most : all ≤ many + b) where
    pub other_turned : t4 + fl + (st - k) ≤ budget + 3 * size
    other_turned = omega (arith, start, one, two, three, four, paid, most, below)

    pub other_paid : (t5 fn : ℕ) → t5 + fn ≤ t4 + fl + 3 * (st - k) + 1 → t5 + (fn + (st + (all + 4 * (all - st)))) ≤ budget + 7 * size + 1
    other_paid t5 fn h = omega (arith, start, one, two, three, four, paid, most, below, h)

-- ---- walks over containers

pub size_at : (stack : List Open) (k : ℕ) (d : Open) → HaveSizes (map open_of stack) → k < length stack → HasSize (open_of (get_or stack k d))
size_at [] k d s h = absurd (omega (arith, h))
size_at (x ∷ xs) zero d s h = s.0
size_at (x ∷ xs) (suc k) d s h = size_at xs k d s.1 (omega (arith, h))

-- one that goes on with what is left of a line takes a column
pub some_size_at : (stack : List Open) (k : ℕ) (d : Open) (number : ℕ) (rest : List ℕ) (n : ℕ) → HaveSizes (map open_of stack) → k < length stack → 0 < length rest → Some n ≡ goes_on (open_of (get_or stack k d)) number rest → 1 ≤ n
some_size_at stack k d number rest n s h some e = some_size (open_of (get_or stack k d)) number rest n (size_at stack k d s h) some (sym e)

pub first_within : (t : List ℕ) (at first : ℕ) → at ≤ length t → first ≡ at + indent (drop at t) → first ≤ length t
first_within t at first h e =
    let white : indent (drop at t) ≤ length (drop at t) = prefix_within is_white (drop at t) in
    let left : length (drop at t) ≡ length t - at = length-drop at t in
    omega (arith, h, e, white, left)

-- one container more that goes on: so many did while something was left, and the others were known to go on
pub over_walk : (len over at from many size next : ℕ) → from ≤ at → at ≤ len → (many ≤ from) ⊎ ((len ≤ at) × (many ≤ over)) → (at < len → 1 ≤ size) → ((at == len) && nat_le over many) ≡ false → next ≡ cond (at == len) from (many + 1)
    → (next ≤ at + size) × ((many + 1 ≤ next) ⊎ ((len ≤ at + size) × (many + 1 ≤ over)))
over_walk len over at from many size next filled within stopped some not_over is = by (cases_lt at len)
  where
    known : over ≤ many → nat_le over many ≡ true
    known h = grind (arith, nat_tests)

    by : (at < len) ⊎ (len ≤ at) → (next ≤ at + size) × ((many + 1 ≤ next) ⊎ ((len ≤ at + size) × (many + 1 ≤ over)))
    by (inl less) =
        let one : next ≡ many + 1 = is ∙ ap (λ b. cond b from (many + 1)) (ne_eqb at len (λ e. omega (arith, less, e))) in
        let column = some less in
        let few : many ≤ at = elim stopped [ inl h ↦ omega (arith, h, filled) | inr h ↦ absurd (let all : len ≤ at = h.0 in omega (arith, all, less)) ] in
        (omega (arith, one, column, few), inl (omega (arith, one)))
    by (inr all) =
        let end : (at == len) ≡ true = eq-eqb at len (omega (arith, all, within)) in
        let same : next ≡ from = is ∙ ap (λ b. cond b from (many + 1)) end in
        let more : nat_le over many ≡ false = (λ k. sym end k && nat_le over many) ∙ not_over in
        let less : many < over = elim (cases_lt many over) [ inl h ↦ h | inr h ↦ absurd (false≢true (sym more ∙ known h)) ] in
        (omega (arith, same, filled), inr (omega (arith, all), omega (arith, less)))

pub going_paid : (old now after first at from many over len : ℕ) (t : List ℕ) → from ≤ at → at ≤ length t → first ≡ at + indent (drop at t) → len ≡ length t → (many ≤ from) ⊎ ((length t ≤ at) × (many ≤ over)) → now ≤ old + 1 + first + many → after ≡ now + 1
    → (after + from ≤ old + over + 3 * len + 2) × (at < len → after ≤ old + 3 * len + 2)
going_paid old now after first at from many over len t filled within is size stopped paid one =
    let white = first_within t at first within is in
    elim stopped [
      | inl h ↦ (omega (arith, white, filled, within, size, h, paid, one), λ less. omega (arith, white, filled, within, size, h, paid, one))
      | inr h ↦ let all : length t ≤ at = h.0 in let few : many ≤ over = h.1 in (omega (arith, white, filled, within, size, few, paid, one), λ less. absurd (omega (arith, all, less, size)))
    ]

-- a container that begins is paid by its columns, and by the white space behind it
pub begun_paid : (on : Constructs) (number : ℕ) (in_paragraph : Bool) (t rest : List ℕ) (at columns t0 t1 t2 : ℕ) (o : Option CodePrefix) → rest ≡ drop at t → columns ≡ indent rest → t1 ≤ t0 + columns + 1
    → option_map (prefix_of number) o ≡ begins on number in_paragraph rest → IfSome o (λ p. t2 + columns ≤ t1 + 2 * p.size + indent (drop p.size rest) + 1) → IfSome o (λ p. t2 + indent (drop at t) ≤ t0 + 3 * p.size + indent (drop (at + p.size) t) + 1)
begun_paid on number in_paragraph t rest at columns t0 t1 t2 None er ec one e h = tt
begun_paid on number in_paragraph t rest at columns t0 t1 t2 (Some p) er ec one e h =
    let front : indent rest + 1 ≤ p.size = begins_front on number in_paragraph rest (prefix_of number p) (sym e) in
    let white : indent rest ≡ indent (drop at t) = ap indent er in
    let behind : indent (drop p.size rest) ≡ indent (drop (at + p.size) t) = ap indent (ap (drop p.size) er ∙ drop-drop p.size at t) in
    let paid : t2 + columns ≤ t1 + 2 * p.size + indent (drop p.size rest) + 1 = h in
    omega (arith, front, white, behind, paid, one, ec)

-- ---- spans

pub spans_few : (cs : List Container) → length (flat_map frames_of cs) ≤ 2 * length cs
spans_few [] = omega arith
spans_few (quote q ∷ cs) = let more = spans_few cs in let one : length (flat_map frames_of (quote q ∷ cs)) ≡ suc (length (flat_map frames_of cs)) = refl in omega (arith, more, one)
spans_few (footnote f ∷ cs) = let more = spans_few cs in let one : length (flat_map frames_of (footnote f ∷ cs)) ≡ suc (length (flat_map frames_of cs)) = refl in omega (arith, more, one)
spans_few (item i ∷ cs) = let more = spans_few cs in let one : length (flat_map frames_of (item i ∷ cs)) ≡ suc (suc (length (flat_map frames_of cs))) = refl in omega (arith, more, one)

pub list_few : (o : Option CodeFrame) → length (frames_in o) ≤ 1
list_few None = omega arith
list_few (Some f) = omega arith

pub turned_few : (next : List CodeFrame) (stack : List Container) (n : ℕ) (list : Option CodeFrame) → map frame_of next ≡ flat_map frames_of (drop n stack) ++ frames_in list → length next ≤ 2 * (length stack - n) + 1
turned_few next stack n list e =
    let size = length-map next frame_of in
    let all = ap (λ (l : List Frame). length l) e in
    let parts = length-append (flat_map frames_of (drop n stack)) (frames_in list) in
    let few = spans_few (drop n stack) in
    let left : length (drop n stack) ≡ length stack - n = length-drop n stack in
    let one = list_few list in
    omega (arith, size, all, parts, few, left, one)

-- ---- what is known behind a line

pub begun_size : (list number : ℕ) (xs : List CodePrefix) → length (containers_of (begun_of list number xs)) ≡ length xs
begun_size list number [] = refl
begun_size list number (x ∷ xs) = ap suc (length-map (map (prefix_of number) xs) (λ (p : Prefix). p.container) ∙ length-map xs (prefix_of number))

pub over_left : (left : Bool) (m x : ℕ) → left ≡ true → m ≤ cond left m x
over_left true m x e = omega arith
over_left false m x e = absurd (false≢true e)

pub over_lazy : (left lazy : Bool) (o m x : ℕ) → left ≡ false → lazy ≡ true → o ≤ cond left m (cond lazy o x)
over_lazy true lazy o m x e f = absurd (false≢true (sym e))
over_lazy false true o m x e f = omega arith
over_lazy false false o m x e f = absurd (false≢true f)

pub over_none : (left lazy none : Bool) (o m x : ℕ) → left ≡ false → lazy ≡ false → none ≡ true → m ≤ cond left m (cond lazy o (cond none m x))
over_none true lazy none o m x e f h = absurd (false≢true (sym e))
over_none false true none o m x e f h = absurd (false≢true (sym f))
over_none false false true o m x e f h = omega arith
over_none false false false o m x e f h = absurd (false≢true h)

pub over_begun : (left lazy none : Bool) (o m x n : ℕ) → left ≡ false → lazy ≡ false → none ≡ false → n ≤ x → n ≤ cond left m (cond lazy o (cond none m x))
over_begun true lazy none o m x n e f h le = absurd (false≢true (sym e))
over_begun false true none o m x n e f h le = absurd (false≢true (sym f))
over_begun false false true o m x n e f h le = absurd (false≢true (sym h))
over_begun false false false o m x n e f h le = le

-- what a line costs, and what is kept over behind it
pub next_in_numbers : (left lazy none : Bool) (t0 t1 t2 t3 o ro now going many nb len : ℕ) → t1 ≤ t0 + 4 * len + 2 → t2 + ro ≤ t1 + o + 142 * len + 1649 → (going < len → t2 ≤ t1 + 142 * len + 1649) → t3 ≤ t2 + nb → nb ≤ len
    → now ≤ cond left ro (cond lazy o (cond none ro (many + nb))) → (lazy ≡ true → going < len) → (none ≡ false → many + nb ≤ len) → t3 + now ≤ t0 + o + 148 * len + 1651
next_in_numbers true lazy none t0 t1 t2 t3 o ro now going many nb len a b full c d e f g = omega (arith, a, b, c, d, e)
next_in_numbers false true none t0 t1 t2 t3 o ro now going many nb len a b full c d e f g = let plain = full (f refl) in omega (arith, a, plain, c, d, e)
next_in_numbers false false true t0 t1 t2 t3 o ro now going many nb len a b full c d e f g = omega (arith, a, b, c, d, e)
next_in_numbers false false false t0 t1 t2 t3 o ro now going many nb len a b full c d e f g = let begun = g refl in omega (arith, a, b, c, d, e, begun)

module _ (on : Constructs) (b : Before) (n : ℕ) (line : Line) (sizes : HaveSizes b.stack) (row : CodeRow) (is : IsRow n row (row_of on b n line)) where
  pub begun_is : length row.begun.items ≡ length (row_of on b n line).begun
  begun_is = sym (begun_length row.list n row.begun.items) ∙ ap (λ (l : List Prefix). length l) is.begun
    where
      begun_length : (list number : ℕ) (xs : List CodePrefix) → length (begun_of list number xs) ≡ length xs
      begun_length list number [] = refl
      begun_length list number (x ∷ xs) = ap suc (length-map xs (prefix_of number))

  pub next_begun : length row.begun.items ≤ length (text_of line)
  next_begun = let few = sizes_few (row_of on b n line).begun (begun_sizes on b n line) in let within = columns_within on b n line in let same = begun_is in omega (arith, few, within, same)

  pub lazy_left : row.is_lazy ≡ true → row.going < length (text_of line)
  lazy_left e = by (cases_lt (columns_of (row_of on b n line).went_on) (length (text_of line)))
    where
      lazy : (row_of on b n line).is_lazy ≡ true
      lazy = sym is.is_lazy ∙ e

      by : (columns_of (row_of on b n line).went_on < length (text_of line)) ⊎ (length (text_of line) ≤ columns_of (row_of on b n line).went_on) → row.going < length (text_of line)
      by (inl less) = omega (arith, less, is.going)
      by (inr all) =
          let sum : (row_of on b n line).columns ≡ columns_of (row_of on b n line).went_on + columns_of (row_of on b n line).begun = refl in
          let nothing : (row_of on b n line).is_blank ≡ true = ap is_blank_line (drop_all (row_of on b n line).columns (text_of line) (omega (arith, all, sum))) in
          absurd (false≢true (sym (blank_not_lazy on b n line nothing) ∙ lazy))

  pub some_begun : has_none row.begun.items ≡ false → row.many + length row.begun.items ≤ length (text_of line)
  some_begun e =
      let paid = (is_paid on b n line sizes).columns (by (row_of on b n line).is_blank (row_of on b n line).begun (omega (arith, some row.begun.items e, begun_is))) in
      let within = columns_within on b n line in
      let same = begun_is in
      let sum : (row_of on b n line).columns ≡ columns_of (row_of on b n line).went_on + columns_of (row_of on b n line).begun = refl in
      omega (arith, paid, within, same, is.many, sum)
    where
      some : (xs : List CodePrefix) → has_none xs ≡ false → 0 < length xs
      some [] h = absurd (false≢true (sym h))
      some (x ∷ xs) h = omega arith

      by : (x : Bool) (ps : List Prefix) → 0 < length ps → (x && has_none ps) ≡ false
      by x [] h = absurd (omega (arith, h))
      by true (p ∷ ps) h = refl
      by false (p ∷ ps) h = refl

  pub next_paid : (t0 t1 t2 t3 o now : ℕ) → t1 ≤ t0 + 4 * length (text_of line) + 2 → t2 + row.over ≤ t1 + o + 142 * length (text_of line) + 1649 → (row.going < length (text_of line) → t2 ≤ t1 + 142 * length (text_of line) + 1649) → t3 ≤ t2 + length row.begun.items
      → now ≤ cond row.is_left_blank row.over (cond row.is_lazy o (cond (has_none row.begun.items) row.over (row.many + length row.begun.items))) → t3 + now ≤ t0 + o + 148 * length (text_of line) + 1651
  next_paid t0 t1 t2 t3 o now a c full d e =
      next_in_numbers row.is_left_blank row.is_lazy (has_none row.begun.items) t0 t1 t2 t3 o row.over now row.going row.many (length row.begun.items) (length (text_of line)) a c full d next_begun e lazy_left some_begun

-- the containers that go on with a part are some of those that were open
pub going_sizes : (going own went begun stack : List Container) (st many : ℕ) → going ≡ take (min st many) own → own ≡ went ++ begun → went ≡ take many stack → many ≤ length stack → HaveSizes stack → HaveSizes going
going_sizes going own went begun stack st many eg eo ew few sizes =
    let long : length went ≡ many = ap (λ (l : List Container). length l) ew ∙ length-take-le many stack few in
    let front : take (min st many) own ≡ take (min st many) (take many stack) = ap (take (min st many)) eo ∙ take-append-le (min st many) went begun (omega (arith, long)) ∙ ap (take (min st many)) ew in
    subst HaveSizes (sym (eg ∙ front)) (every-take HasSize (min st many) (take many stack) (every-take HasSize many stack sizes))
