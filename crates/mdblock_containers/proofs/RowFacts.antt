-- Facts of lines with their containers: which containers go on and which begin, in which lists, and how much of the line their prefixes are.
use Rattle.std.proofs.Common.{◌≡◌, ℕ, zero, suc, ◌+◌, ◌-◌, ◌<◌, ◌≤◌, Bool, true, false, cond, List, [], ◌∷◌, ◌++◌, length, take, drop, length-drop, length-take, refl, sym, ap, ◌∙◌, subst, arith, append_assoc, ne_eqb}
use Rattle.std.specs.Prelude.{◌==◌, ◌&&◌, ◌||◌, nat_le, nat_lt, Option, Some, None, is_some, unwrap_or}
use Rattle.std.specs.List.{AllByRecursion, flat_map}
use Rattle.std.proofs.lemmas.Bool.{false≢true, eqb-true}
use Rattle.std.proofs.lemmas.Bool.Decides.{nat_tests}
use Rattle.std.proofs.lemmas.List.{append-nil}
use Rattle.std.proofs.lemmas.List.Sums.{sum_by-cons}
use Rattle.markdown_base.specs.declared.configuration.Constructs.{Constructs}
use Rattle.markdown_base.specs.declared.event.Name.TheVariants as name
use Rattle.mdblock_leaf_blocks.specs.LeafBlocks.{Line, text_of}
use Rattle.mdblock_leaf_blocks.specs.LineKinds.{begins_with, indent, is_blank_line, is_thematic_break, unindented}
use Rattle.mdblock_lines.specs.Containers.{Container, Item, Prefix, begins, digits, footnote, footnote_at, is_footnote, first_byte, goes_on, is_marker, item, item_at, quote, quote_size}
use Rattle.mdblock_containers.proofs.DocumentRows.{going_few, take_of_take}
use Rattle.mdblock_containers.proofs.GoingLemmas.{begins_within, goes_on_within, going_front}
use Rattle.mdblock_containers.specs.Prefixes.{beginning, columns_of, containers_of, going_on, in_place_of, with_list}
use Rattle.mdblock_containers.specs.Rows.{Before, Row, is_paragraph, is_raw, row_of}
use Rattle.mdblock_containers.specs.Skeleton.{Frame, frames_of, list_begun, list_name}
use Rattle.markdown_base.proofs.Common.{and-right, every-drop}

-- ---- fronts of lists

abbrev pub IsFront : {A : Type 0} → List A → List A → Type 0
IsFront {A} xs ys = (zs : List A) × (ys ≡ xs ++ zs)

pub front_none : {A : Type 0} (ys : List A) → IsFront [] ys
front_none ys = (ys, refl)

pub front_all : {A : Type 0} (ys : List A) → IsFront ys ys
front_all ys = ([], sym (append-nil ys))

pub front_trans : {A : Type 0} (xs ys zs : List A) → IsFront xs ys → IsFront ys zs → IsFront xs zs
front_trans xs ys zs h k = (h.0 ++ k.0, k.1 ∙ ap (λ l. l ++ k.0) h.1 ∙ append_assoc xs h.0 k.0)

pub front_more : {A : Type 0} (ws xs ys : List A) → IsFront xs ys → IsFront (ws ++ xs) (ws ++ ys)
front_more ws xs ys h = (h.0, ap (λ l. ws ++ l) h.1 ∙ sym (append_assoc ws xs h.0))

pub front_append : {A : Type 0} (xs ys : List A) → IsFront xs (xs ++ ys)
front_append xs ys = (ys, refl)

-- ---- containers

-- a list's marker is that of an ordered one
abbrev pub is_ordered : ℕ → Bool
is_ordered m = (m == 46) || (m == 41)

-- an item stands in a list that began no later, is ordered by its marker, and has columns
pub record ItemIs (i : Item) : Type 0 where
  pub list : i.list ≤ i.line
  pub ordered : nat_le 1 i.digits ≡ is_ordered i.marker
  pub sized : 1 ≤ i.size

-- a container began in a line before this one
abbrev pub BeganBefore : ℕ → Container → Type 0
BeganBefore n (quote q) = q.line < n
BeganBefore n (item i) = (i.line < n) × ItemIs i
BeganBefore n (footnote f) = f.line < n

-- a container begins in this line
abbrev pub BeginsIn : ℕ → Container → Type 0
BeginsIn n (quote q) = q.line ≡ n
BeginsIn n (item i) = (i.line ≡ n) × ItemIs i
BeginsIn n (footnote f) = f.line ≡ n

-- and its list, if it is an item
abbrev pub BeginsList : Container → Type 0
BeginsList (quote q) = Unit {0}
BeginsList (item i) = i.list ≡ i.line
BeginsList (footnote f) = Unit {0}

-- of containers that begin in this line, only the first may stand in a list that began before
abbrev pub BeginHere : ℕ → List Prefix → Type 0
BeginHere n [] = Unit {0}
BeginHere n (p ∷ ps) = BeginsIn n p.container × AllByRecursion (λ (q : Prefix). BeginsIn n q.container × BeginsList q.container) ps

-- a marker is ordered if digits come before it
module _ (r : List ℕ) where
  pub marker_ordered : is_marker r ≡ true → nat_le 1 (digits r) ≡ is_ordered (first_byte (drop (digits r) r))
  marker_ordered h = by (digits r) (first_byte (drop (digits r) r)) h
    where
      unordered : (m : ℕ) → ((m == 42) || ((m == 43) || (m == 45))) ≡ true → false ≡ is_ordered m
      unordered m h = by (m == 42) (m == 43) (m == 45) refl refl refl h
        where
          by : (x y z : Bool) → (m == 42) ≡ x → (m == 43) ≡ y → (m == 45) ≡ z → (x || (y || z)) ≡ true → false ≡ is_ordered m
          by true y z ex ey ez h = sym (ap is_ordered (eqb-true m 42 ex))
          by false true z ex ey ez h = sym (ap is_ordered (eqb-true m 43 ey))
          by false false true ex ey ez h = sym (ap is_ordered (eqb-true m 45 ez))
          by false false false ex ey ez h = absurd (false≢true h)

      by : (n m : ℕ) → cond (n == 0) ((m == 42) || ((m == 43) || (m == 45))) (nat_le n 9 && ((m == 46) || (m == 41))) ≡ true → nat_le 1 n ≡ is_ordered m
      by zero m h = unordered m h
      by (suc n) m h =
          let some : (suc n == 0) ≡ false = ne_eqb (suc n) 0 (λ e. omega (arith, e)) in
          let one : nat_le 1 (suc n) ≡ true = grind (arith, nat_tests) in
          one ∙ sym (and-right (nat_le (suc n) 9) (is_ordered m) (sym (ap (λ b. cond b ((m == 42) || ((m == 43) || (m == 45))) (nat_le (suc n) 9 && ((m == 46) || (m == 41)))) some) ∙ h))

module _ (on : Constructs) (n : ℕ) where
  pub begins_here : (in_paragraph : Bool) (t : List ℕ) (p : Prefix) → begins on n in_paragraph t ≡ Some p → BeginsIn n p.container × BeginsList p.container
  begins_here in_paragraph t p e =
      by ((on.code_indented && nat_le 4 (indent t)) || (is_blank_line t || (on.thematic_break && is_thematic_break (unindented t)))) (on.block_quote && begins_with 62 (unindented t)) (on.gfm_footnote_definition && is_footnote (unindented t)) on.list_item (is_marker (unindented t)) _ refl e
    where
      by : (past q f l m rest : Bool) → is_marker (unindented t) ≡ m
          → cond past None (cond q (Some (record { container = quote (record { line = n; is_near = on.code_indented }); size = quote_size t })) (cond f (Some (footnote_at n t)) (cond (l && (m && rest)) (Some (item_at n t)) None))) ≡ Some p → BeginsIn n p.container × BeginsList p.container
      by true q f l m rest em h = absurd (false≢true (ap is_some h))
      by false true f l m rest em h = subst (λ (x : Option Prefix). BeginsIn n (unwrap_or x p).container × BeginsList (unwrap_or x p).container) h (refl, tt)
      by false false true l m rest em h = subst (λ (x : Option Prefix). BeginsIn n (unwrap_or x p).container × BeginsList (unwrap_or x p).container) h (refl, tt)
      by false false false true true true em h =
          subst (λ (x : Option Prefix). BeginsIn n (unwrap_or x p).container × BeginsList (unwrap_or x p).container) h ((refl, record { list = omega arith; ordered = marker_ordered (unindented t) em; sized = omega arith }), refl)
      by false false false false m rest em h = absurd (false≢true (ap is_some h))
      by false false false true false rest em h = absurd (false≢true (ap is_some h))
      by false false false true true false em h = absurd (false≢true (ap is_some h))

  pub all_begin_here : (bound : ℕ) (in_paragraph : Bool) (t : List ℕ) → AllByRecursion (λ (q : Prefix). BeginsIn n q.container × BeginsList q.container) (beginning on bound n in_paragraph t)
  all_begin_here zero in_paragraph t = tt
  all_begin_here (suc bound) in_paragraph t = by (all_begin_here bound false) (begins on n in_paragraph t) refl
    where
      by : ((u : List ℕ) → AllByRecursion (λ (q : Prefix). BeginsIn n q.container × BeginsList q.container) (beginning on bound n false u)) → (o : Option Prefix) → begins on n in_paragraph t ≡ o
          → AllByRecursion (λ (q : Prefix). BeginsIn n q.container × BeginsList q.container) (elim o as (λ _. List Prefix) [ None ↦ [] | Some p ↦ p ∷ beginning on bound n false (drop p.size t) ])
      by rest None e = tt
      by rest (Some p) e = (begins_here in_paragraph t p e, rest (drop p.size t))

  pub begun_within : (bound : ℕ) (in_paragraph : Bool) (t : List ℕ) → columns_of (beginning on bound n in_paragraph t) ≤ length t
  begun_within zero in_paragraph t = omega arith
  begun_within (suc bound) in_paragraph t = by (begun_within bound false) (begins on n in_paragraph t) refl
    where
      by : ((u : List ℕ) → columns_of (beginning on bound n false u) ≤ length u) → (o : Option Prefix) → begins on n in_paragraph t ≡ o → columns_of (elim o as (λ _. List Prefix) [ None ↦ [] | Some p ↦ p ∷ beginning on bound n false (drop p.size t) ]) ≤ length t
      by behind None e = omega arith
      by behind (Some p) e =
          let here = (begins_within on n in_paragraph t p e).1 in
          let rest = behind (drop p.size t) in
          let left : length (drop p.size t) ≡ length t - p.size = length-drop p.size t in
          let all : columns_of (p ∷ beginning on bound n false (drop p.size t)) ≡ p.size + columns_of (beginning on bound n false (drop p.size t)) = sum_by-cons (λ (q : Prefix). q.size) p (beginning on bound n false (drop p.size t)) in
          omega (arith, here, rest, left, all)

  pub sizes_of : (bound : ℕ) (in_paragraph : Bool) (t : List ℕ) → AllByRecursion (λ (q : Prefix). 1 ≤ q.size) (beginning on bound n in_paragraph t)
  sizes_of zero in_paragraph t = tt
  sizes_of (suc bound) in_paragraph t = by (sizes_of bound false) (begins on n in_paragraph t) refl
    where
      by : ((u : List ℕ) → AllByRecursion (λ (q : Prefix). 1 ≤ q.size) (beginning on bound n false u)) → (o : Option Prefix) → begins on n in_paragraph t ≡ o
          → AllByRecursion (λ (q : Prefix). 1 ≤ q.size) (elim o as (λ _. List Prefix) [ None ↦ [] | Some p ↦ p ∷ beginning on bound n false (drop p.size t) ])
      by rest None e = tt
      by rest (Some p) e = ((begins_within on n in_paragraph t p e).0, rest (drop p.size t))

  -- those that go on are no longer than the line
  pub going_within : (cs : List Container) (t : List ℕ) → columns_of (going_on cs n t) ≤ length t
  going_within [] t = omega arith
  going_within (c ∷ cs) t = by (going_within cs) (goes_on c n t) refl
    where
      by : ((u : List ℕ) → columns_of (going_on cs n u) ≤ length u) → (o : Option ℕ) → goes_on c n t ≡ o → columns_of (elim o as (λ _. List Prefix) [ None ↦ [] | Some k ↦ record { container = c; size = k } ∷ going_on cs n (drop k t) ]) ≤ length t
      by behind None e = omega arith
      by behind (Some k) e =
          let here = goes_on_within c n t k e in
          let rest = behind (drop k t) in
          let left : length (drop k t) ≡ length t - k = length-drop k t in
          let p : Prefix = record { container = c; size = k } in
          let all : columns_of (p ∷ going_on cs n (drop k t)) ≡ k + columns_of (going_on cs n (drop k t)) = sum_by-cons (λ (q : Prefix). q.size) p (going_on cs n (drop k t)) in
          omega (arith, here, rest, left, all)

-- ---- a container in the place of one that ended

pub columns_listed : (ended : List Container) (ps : List Prefix) → columns_of (with_list ended ps) ≡ columns_of ps
columns_listed [] ps = refl
columns_listed (c ∷ cs) [] = refl
columns_listed (c ∷ cs) (p ∷ ps) =
    let q : Prefix = record p { container = in_place_of c p.container } in
    sum_by-cons (λ (x : Prefix). x.size) q ps ∙ sym (sum_by-cons (λ (x : Prefix). x.size) p ps)

module _ (n : ℕ) where
  -- the item is in the list of one with the same marker
  pub same_list : (old new : Item) → (old.line < n) × ItemIs old → (new.line ≡ n) × ItemIs new → new.list ≡ new.line → (x : Bool) → (old.marker == new.marker) ≡ x
      → let i : Item = cond x (record new { list = old.list }) new in ((i.line ≡ n) × ItemIs i) × IsFront (cond (nat_lt i.list i.line) (record { name = list_name i; line = i.list } ∷ []) []) (frames_of (item old))
  same_list old new h k l true e =
      let before = h.0 in
      let list = h.1.list in
      let here = k.0 in
      let markers : old.marker ≡ new.marker = eqb-true old.marker new.marker e in
      let names : list_name new ≡ list_name old =
      ap (λ b. cond b name.ListOrdered name.ListUnordered) (k.1.ordered ∙ ap is_ordered (sym markers) ∙ sym h.1.ordered) in
      ((here, record { list = omega (arith, before, list, here); ordered = k.1.ordered; sized = k.1.sized }), by (nat_lt old.list new.line) names)
    where
      by : (x : Bool) → list_name new ≡ list_name old → IsFront (cond x (record { name = list_name new; line = old.list } ∷ []) []) (frames_of (item old))
      by true names = (record { name = name.ListItem; line = old.line } ∷ [], (λ k. record { name = sym names k; line = old.list } ∷ record { name = name.ListItem; line = old.line } ∷ []))
      by false names = front_none (frames_of (item old))
  same_list old new h k l false e =
      let none : nat_lt new.list new.line ≡ false = grind (arith, nat_tests) in
      (k, (frames_of (item old), ap (λ b. cond b (record { name = list_name new; line = new.list } ∷ []) [] ++ frames_of (item old)) (sym none)))

  pub none_listed : (ps : List Prefix) → AllByRecursion (λ (q : Prefix). BeginsIn n q.container × BeginsList q.container) ps → BeginHere n ps × (list_begun ps ≡ [])
  none_listed [] h = (tt, refl)
  none_listed (p ∷ ps) h = ((h.0.0, h.1), by p.container h.0)
    where
      by : (c : Container) → BeginsIn n c × BeginsList c → (elim c as (λ _. List Frame) [ quote q ↦ [] | item i ↦ cond (nat_lt i.list i.line) (record { name = list_name i; line = i.list } ∷ []) [] | footnote f ↦ [] ]) ≡ []
      by (quote q) k = refl
      by (footnote f) k = refl
      by (item i) k = let is = k.1 in let none : nat_lt i.list i.line ≡ false = grind (arith, nat_tests) in ap (λ b. cond b (record { name = list_name i; line = i.list } ∷ []) []) none

  -- what begins in a line, and the list that it is in, among containers that ended
  pub listed : (ended : List Container) (ps : List Prefix) → AllByRecursion (BeganBefore n) ended → AllByRecursion (λ (q : Prefix). BeginsIn n q.container × BeginsList q.container) ps
      → BeginHere n (with_list ended ps) × IsFront (list_begun (with_list ended ps)) (flat_map frames_of ended)
  listed [] ps h k = let none = none_listed ps k in (none.0, ([], sym none.1 ∙ sym (append-nil (list_begun ps))))
  listed (c ∷ cs) [] h k = (tt, front_none (flat_map frames_of (c ∷ cs)))
  listed (item old ∷ cs) (p ∷ ps) h k = by p.container k.0
    where
      rest : AllByRecursion (λ (q : Prefix). BeginsIn n q.container × BeginsList q.container) ps
      rest = k.1

      by : (new : Container) → BeginsIn n new × BeginsList new
          → BeginHere n (record { container = in_place_of (item old) new; size = p.size } ∷ ps) × IsFront (list_begun (record { container = in_place_of (item old) new; size = p.size } ∷ ps)) (flat_map frames_of (item old ∷ cs))
      by (quote q) m = ((m.0, k.1), front_none (flat_map frames_of (item old ∷ cs)))
      by (footnote f) m = ((m.0, k.1), front_none (flat_map frames_of (item old ∷ cs)))
      by (item new) m =
          let s = same_list old new h.0 m.0 m.1 (old.marker == new.marker) refl in
          ((s.0, k.1), front_trans _ (frames_of (item old)) (flat_map frames_of (item old ∷ cs)) s.1 (front_append (frames_of (item old)) (flat_map frames_of cs)))
  listed (footnote f ∷ cs) (p ∷ ps) h k = by p.container k.0
    where
      by : (new : Container) → BeginsIn n new × BeginsList new
          → BeginHere n (record { container = in_place_of (footnote f) new; size = p.size } ∷ ps) × IsFront (list_begun (record { container = in_place_of (footnote f) new; size = p.size } ∷ ps)) (flat_map frames_of (footnote f ∷ cs))
      by (quote q) m = ((m.0, k.1), front_none (flat_map frames_of (footnote f ∷ cs)))
      by (footnote more) m = ((m.0, k.1), front_none (flat_map frames_of (footnote f ∷ cs)))
      by (item new) m = let none = none_listed (record { container = item new; size = p.size } ∷ ps) (m, k.1) in (none.0, (flat_map frames_of (footnote f ∷ cs), ap (λ (l : List Frame). l ++ flat_map frames_of (footnote f ∷ cs)) (sym none.1)))
  listed (quote q ∷ cs) (p ∷ ps) h k = by p.container k.0
    where
      by : (new : Container) → BeginsIn n new × BeginsList new
          → BeginHere n (record { container = in_place_of (quote q) new; size = p.size } ∷ ps) × IsFront (list_begun (record { container = in_place_of (quote q) new; size = p.size } ∷ ps)) (flat_map frames_of (quote q ∷ cs))
      by (quote more) m = ((m.0, k.1), front_none (flat_map frames_of (quote q ∷ cs)))
      by (footnote f) m = ((m.0, k.1), front_none (flat_map frames_of (quote q ∷ cs)))
      by (item new) m = let none = none_listed (record { container = item new; size = p.size } ∷ ps) (m, k.1) in (none.0, (flat_map frames_of (quote q ∷ cs), ap (λ (l : List Frame). l ++ flat_map frames_of (quote q ∷ cs)) (sym none.1)))

-- ---- a line

module _ (on : Constructs) (b : Before) (n : ℕ) (line : Line) where
  abbrev pub row : Row
  row = row_of on b n line

  pub went_are : containers_of row.went_on ≡ take (length row.went_on) b.stack
  went_are =
      going_front (take b.depth b.stack) n (text_of line) ∙ take_of_take (length (going_on (take b.depth b.stack) n (text_of line))) b.depth b.stack (going_few (take b.depth b.stack) n (text_of line))

  pub went_within : (length row.went_on ≤ b.depth) × (length row.went_on ≤ length b.stack)
  went_within =
      let few = going_few (take b.depth b.stack) n (text_of line) in
      let all = length-take b.depth b.stack in
      (omega (arith, few, all), omega (arith, few, all))

  -- what is behind the prefixes of containers that go on, and what begins there
  abbrev pub left : List ℕ
  left = drop (columns_of row.went_on) (text_of line)

  abbrev pub new : List Prefix
  new = beginning on (length left) n ((length row.went_on == b.depth) && is_paragraph b.leaf) left

  pub begun_are : AllByRecursion (BeganBefore n) b.stack → BeginHere n row.begun × IsFront (list_begun row.begun) (flat_map frames_of (drop (length row.went_on) b.stack))
  begun_are old =
      by ((length row.went_on == b.depth) && is_raw b.leaf)
      (listed n (drop (length row.went_on) b.stack) new (every-drop (BeganBefore n) (length row.went_on) b.stack old) (all_begin_here on n (length left) ((length row.went_on == b.depth) && is_paragraph b.leaf) left))
    where
      by : (x : Bool) → BeginHere n (with_list (drop (length row.went_on) b.stack) new) × IsFront (list_begun (with_list (drop (length row.went_on) b.stack) new)) (flat_map frames_of (drop (length row.went_on) b.stack))
          → BeginHere n (cond x [] (with_list (drop (length row.went_on) b.stack) new)) × IsFront (list_begun (cond x [] (with_list (drop (length row.went_on) b.stack) new))) (flat_map frames_of (drop (length row.went_on) b.stack))
      by true h = (tt, front_none (flat_map frames_of (drop (length row.went_on) b.stack)))
      by false h = h

  pub columns_within : columns_of row.went_on + columns_of row.begun ≤ length (text_of line)
  columns_within =
      let going = going_within on n (take b.depth b.stack) (text_of line) in
      let size : length left ≡ length (text_of line) - columns_of row.went_on = length-drop (columns_of row.went_on) (text_of line) in
      let few = begun_within on n (length left) ((length row.went_on == b.depth) && is_paragraph b.leaf) left in
      let begun = by ((length row.went_on == b.depth) && is_raw b.leaf) few in
      omega (arith, going, size, begun)
    where
      by : (x : Bool) → columns_of new ≤ length left → columns_of (cond x [] (with_list (drop (length row.went_on) b.stack) new)) ≤ length left
      by true h = omega arith
      by false h = let same = columns_listed (drop (length row.went_on) b.stack) new in omega (arith, h, same)

  -- each prefix that begins has columns
  pub begun_sizes : AllByRecursion (λ (q : Prefix). 1 ≤ q.size) row.begun
  begun_sizes = by ((length row.went_on == b.depth) && is_raw b.leaf) (drop (length row.went_on) b.stack) (sizes_of on n (length left) ((length row.went_on == b.depth) && is_paragraph b.leaf) left)
    where
      listed_sizes : (ended : List Container) (ps : List Prefix) → AllByRecursion (λ (q : Prefix). 1 ≤ q.size) ps → AllByRecursion (λ (q : Prefix). 1 ≤ q.size) (with_list ended ps)
      listed_sizes [] ps h = h
      listed_sizes (c ∷ cs) [] h = tt
      listed_sizes (c ∷ cs) (p ∷ ps) h = h

      by : (x : Bool) (ended : List Container) → AllByRecursion (λ (q : Prefix). 1 ≤ q.size) new → AllByRecursion (λ (q : Prefix). 1 ≤ q.size) (cond x [] (with_list ended new))
      by true ended h = tt
      by false ended h = listed_sizes ended new h
