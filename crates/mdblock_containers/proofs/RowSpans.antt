-- Lemmas on the lines of a document: what the code needs to know of each.
use Rattle.std.proofs.Common.{◌≡◌, ℕ, zero, suc, ◌+◌, ◌<◌, ◌≤◌, Bool, true, false, cond, List, [], ◌∷◌, ◌++◌, length, take, drop, map, length-drop, refl, sym, ap, ◌∙◌, subst, arith, eqb-true}
use Rattle.std.specs.Prelude.{◌==◌, ◌&&◌, ◌||◌, nat_le, Option, Some, None}
use Rattle.std.specs.List.{AllByRecursion, prefix_len}
use Rattle.markdown_base.specs.declared.configuration.Constructs.{Constructs}
use Rattle.mdconstructs_tables.specs.Breaks.{is_white}
use Rattle.mdblock_leaf_blocks.specs.LeafBlocks.{Line, text_of}
use Rattle.mdblock_leaf_blocks.specs.LineKinds.{begins_with, indent, is_blank_line, is_thematic_break, unindented}
use Rattle.mdblock_lines.specs.declared.containers.Prefix.{Prefix as CodePrefix}
use Rattle.mdblock_lines.specs.Containers.{Container, quote, item, footnote, footnote_at, is_footnote, Prefix, goes_on, begins, digits, item_at, may_begin_item, padding, quote_size}
use Rattle.mdblock_lines.specs.Lines.{is_in_line, line_at}
use Rattle.mdblock_lines.specs.declared.containers.ContainerKind.{ContainerKind}
use Rattle.mdblock_lines.specs.Views.{container_by, container_of, prefix_of}
use Rattle.mdblock_containers.specs.declared.spans.RowAt.{RowAt}
use Rattle.mdblock_containers.specs.Ahead.{AreRows}
use Rattle.mdblock_containers.specs.Parts.{open_behind}
use Rattle.mdblock_containers.specs.Prefixes.{going_on, beginning, columns_of, containers_of, in_place_of, with_list}
use Rattle.mdblock_containers.specs.Rows.{Before, Row, closed, has_none, is_paragraph, is_raw, row_of, known_after}
use Rattle.mdblock_containers.specs.SeatPlaces.{AreInside, IsInside}
use Rattle.mdblock_containers.specs.Costs.{HaveSizes}
use Rattle.mdblock_containers.specs.Spans.{IsPlaced, ArePlaced, IsRowIn, AreRowsIn}
use Rattle.mdblock_containers.specs.Views.{begun_of, IsRow}
use Rattle.mdblock_containers.proofs.DocumentRows.{rows_left, rows_left_step, take_of_take, going_few, went_few, next_is}
use Rattle.mdblock_containers.proofs.GoingLemmas.{begins_within, footnote_within}
use Rattle.mdblock_containers.proofs.PrefixLemmas.{prefix_take}
use Rattle.markdown_base.proofs.Common.{and-right}
use Rattle.markdown_base.proofs.Facts.Bools.{and-left}
use Rattle.mdblock_containers.proofs.CostLemmas.{began_sizes}
use Rattle.mdblock_containers.proofs.FrameFacts.{none_is, old_after}
use Rattle.mdblock_containers.proofs.RowFacts.{BeganBefore}
use Rattle.mdblock_lines.proofs.LineLemmas.{footnote_some}

-- ---- prefixes with which containers begin have their bytes

abbrev pub IsFitting : Container → (size : ℕ) → List ℕ → Type 0
IsFitting (quote q) size u = indent u + 1 ≤ size
IsFitting (item i) size u = indent u + i.digits + 1 ≤ size
IsFitting (footnote f) size u = (1 ≤ f.label) × (indent u + f.label + 4 ≤ size)

abbrev pub AreFitting : List Prefix → List ℕ → Type 0
AreFitting [] t = Unit {0}
AreFitting (p ∷ ps) t = (p.size ≤ length t) × IsFitting p.container p.size (take p.size t) × AreFitting ps (drop p.size t)

pub begins_fitting : (on : Constructs) (number : ℕ) (in_paragraph : Bool) (t : List ℕ) (q : Prefix) → begins on number in_paragraph t ≡ Some q → IsFitting q.container q.size (take q.size t)
begins_fitting on number in_paragraph t q e =
    by ((on.code_indented && nat_le 4 (indent t)) || (is_blank_line t || (on.thematic_break && is_thematic_break (unindented t)))) (on.block_quote && begins_with 62 (unindented t)) (on.gfm_footnote_definition && is_footnote (unindented t)) (on.list_item && may_begin_item in_paragraph (unindented t)) (and-right on.gfm_footnote_definition (is_footnote (unindented t))) e
  where
    quote_is : IsFitting (quote (record { line = number; is_near = on.code_indented })) (quote_size t) (take (quote_size t) t)
    quote_is = let f : indent (take (quote_size t) t) ≤ indent t = prefix_take is_white (quote_size t) t in omega arith

    item_is : IsFitting (item_at number t).container (item_at number t).size (take (item_at number t).size t)
    item_is =
        let n = digits (unindented t) in
        let f : indent (take (item_at number t).size t) ≤ indent t = prefix_take is_white (item_at number t).size t in
        let s : indent t + suc n ≤ (item_at number t).size = size (is_blank_line (drop (suc n) (unindented t))) in
        omega arith
      where
        size : (b : Bool) → indent t + suc (digits (unindented t)) ≤ cond b (indent t + suc (digits (unindented t))) (indent t + suc (digits (unindented t)) + padding (drop (suc (digits (unindented t))) (unindented t)))
        size true = omega arith
        size false = omega arith

    footnote_is : is_footnote (unindented t) ≡ true → IsFitting (footnote_at number t).container (footnote_at number t).size (take (footnote_at number t).size t)
    footnote_is is =
        let f : indent (take (footnote_at number t).size t) ≤ indent t = prefix_take is_white (footnote_at number t).size t in
        let w = footnote_within number t is in
        (footnote_some (unindented t) is, omega (arith, f, w.0))

    by : (a b f c : Bool) → (f ≡ true → is_footnote (unindented t) ≡ true)
        → cond a None (cond b (Some (record { container = quote (record { line = number; is_near = on.code_indented }); size = quote_size t })) (cond f (Some (footnote_at number t)) (cond c (Some (item_at number t)) None))) ≡ Some q → IsFitting q.container q.size (take q.size t)
    by true b f c ef r = absurd (cc)
    by false false true c ef r = let same : footnote_at number t ≡ q = cc in subst (λ (p : Prefix). IsFitting p.container p.size (take p.size t)) same (footnote_is (ef refl))
    by false true f c ef r = let same : record { container = quote (record { line = number; is_near = on.code_indented }); size = quote_size t } ≡ q = cc in subst (λ (p : Prefix). IsFitting p.container p.size (take p.size t)) same quote_is
    by false false false true ef r = let same : item_at number t ≡ q = cc in subst (λ (p : Prefix). IsFitting p.container p.size (take p.size t)) same item_is
    by false false false false ef r = absurd (cc)

pub beginning_fitting : (on : Constructs) (bound number : ℕ) (in_paragraph : Bool) (t : List ℕ) → AreFitting (beginning on bound number in_paragraph t) t
beginning_fitting on zero number in_paragraph t = tt
beginning_fitting on (suc bound) number in_paragraph t = by (begins on number in_paragraph t) refl (λ p. beginning_fitting on bound number false (drop p.size t))
  where
    by : (o : Option Prefix) → begins on number in_paragraph t ≡ o → ((p : Prefix) → AreFitting (beginning on bound number false (drop p.size t)) (drop p.size t))
        → AreFitting (elim o as (λ _. List Prefix) [ None ↦ [] | Some p ↦ p ∷ beginning on bound number false (drop p.size t) ]) t
    by None e more = tt
    by (Some p) e more = ((begins_within on number in_paragraph t p e).1, begins_fitting on number in_paragraph t p e, more p)

pub in_place_fitting : (old new : Container) (size : ℕ) (u : List ℕ) → IsFitting new size u → IsFitting (in_place_of old new) size u
in_place_fitting (quote l) (quote m) size u h = h
in_place_fitting (quote l) (item j) size u h = h
in_place_fitting (quote l) (footnote g) size u h = h
in_place_fitting (footnote f) (quote m) size u h = h
in_place_fitting (footnote f) (item j) size u h = h
in_place_fitting (footnote f) (footnote g) size u h = h
in_place_fitting (item i) (quote m) size u h = h
in_place_fitting (item i) (footnote g) size u h = h
in_place_fitting (item i) (item j) size u h = by (i.marker == j.marker)
  where
    by : (b : Bool) → IsFitting (item (cond b (record j { list = i.list }) j)) size u
    by true = h
    by false = h

pub with_list_fitting : (ended : List Container) (ps : List Prefix) (t : List ℕ) → AreFitting ps t → AreFitting (with_list ended ps) t
with_list_fitting [] [] t h = h
with_list_fitting [] (p ∷ ps) t h = h
with_list_fitting (c ∷ cs) [] t h = h
with_list_fitting (c ∷ cs) (p ∷ ps) t h = (h.0, in_place_fitting c p.container p.size (take p.size t) h.1, h.2)

pub one_inside : (list : ℕ) (p : CodePrefix) (t : List ℕ) → p.size ≤ length t → IsFitting (container_of list p.container) p.size (take p.size t) → IsInside p t
one_inside list p t w h = record { within = w; of_quote = λ e. fits _ e; of_item = λ e. fits _ e; of_footnote = λ e. fits _ e }
  where
    fits : (k : ContainerKind) → p.container.kind ≡ k → IsFitting (container_by k list p.container) p.size (take p.size t)
    fits k e = subst (λ (k : ContainerKind). IsFitting (container_by k list p.container) p.size (take p.size t)) e h

pub same_inside : (number : ℕ) (xs : List CodePrefix) (t : List ℕ) → AreFitting (map (prefix_of number) xs) t → AreInside xs t
same_inside number [] t h = tt
same_inside number (x ∷ xs) t h = (one_inside number x t h.0 h.1, same_inside number xs (drop x.size t) h.2)

pub begun_inside : (list number : ℕ) (xs : List CodePrefix) (t : List ℕ) → AreFitting (begun_of list number xs) t → AreInside xs t
begun_inside list number [] t h = tt
begun_inside list number (x ∷ xs) t h = (one_inside list x t h.0 h.1, same_inside number xs (drop x.size t) h.2)

-- ---- one line

-- those that go on are those that go on of the first
pub going_again : (cs : List Container) (number : ℕ) (t : List ℕ) → going_on (take (length (going_on cs number t)) cs) number t ≡ going_on cs number t
going_again [] number t = refl
going_again (c ∷ cs) number t = by (goes_on c number t) refl (λ n. going_again cs number (drop n t))
  where
    more : (n : ℕ) (o : Option ℕ) → o ≡ Some n → going_on (take (length (going_on cs number (drop n t))) cs) number (drop n t) ≡ going_on cs number (drop n t) → (elim o as (λ _. List Prefix) [ None ↦ [] | Some m ↦ record { container = c; size = m } ∷ going_on (take (length (going_on cs number (drop n t))) cs) number (drop m t) ]) ≡ record { container = c; size = n } ∷ going_on cs number (drop n t)
    more n None e h = absurd (cc)
    more n (Some m) e h = let same : m ≡ n = cc in (λ k. record { container = c; size = same k } ∷ going_on (take (length (going_on cs number (drop n t))) cs) number (drop (same k) t)) ∙ ap (λ l. record { container = c; size = n } ∷ l) h

    by : (o : Option ℕ) → goes_on c number t ≡ o → ((n : ℕ) → going_on (take (length (going_on cs number (drop n t))) cs) number (drop n t) ≡ going_on cs number (drop n t)) → going_on (take (length (elim o as (λ _. List Prefix) [ None ↦ [] | Some n ↦ record { container = c; size = n } ∷ going_on cs number (drop n t) ])) (c ∷ cs)) number t ≡ (elim o as (λ _. List Prefix) [ None ↦ [] | Some n ↦ record { container = c; size = n } ∷ going_on cs number (drop n t) ])
    by None e h = refl
    by (Some n) e h = more n (goes_on c number t) e (h n)

pub cond_fitting : (b : Bool) (ps : List Prefix) (t : List ℕ) → AreFitting ps t → AreFitting (cond b [] ps) t
cond_fitting true ps t h = tt
cond_fitting false ps t h = h

module _ (on : Constructs) (b : Before) (number : ℕ) (line : Line) where
  abbrev pub row : Row
  row = row_of on b number line

  pub begun_fitting : AreFitting row.begun (drop (columns_of row.went_on) (text_of line))
  begun_fitting =
      let went = going_on (take b.depth b.stack) number (text_of line) in
      let all = length went == b.depth in
      let rest = drop (columns_of went) (text_of line) in
      cond_fitting (all && is_raw b.leaf) (with_list (drop (length went) b.stack) (beginning on (length rest) number (all && is_paragraph b.leaf) rest)) rest
      (with_list_fitting (drop (length went) b.stack) (beginning on (length rest) number (all && is_paragraph b.leaf) rest) rest (beginning_fitting on (length rest) number (all && is_paragraph b.leaf) rest))

  pub went_again : (many : ℕ) → many ≡ length row.went_on → row.went_on ≡ going_on (take many b.stack) number (text_of line)
  went_again many e =
      let cs = take b.depth b.stack in
      let few = going_few cs number (text_of line) in
      sym (going_again cs number (text_of line)) ∙ (λ k. going_on (take_of_take (length (going_on cs number (text_of line))) b.depth b.stack few k) number (text_of line)) ∙ (λ k. going_on (take (sym e k) b.stack) number (text_of line))

  pub whole : row.stays ≡ true → row.is_lazy ≡ false → length row.went_on ≡ length b.stack
  whole s l =
      let went = going_on (take b.depth b.stack) number (text_of line) in
      let rest = and-right (has_none row.begun) (row.is_lazy || ((length went == b.depth) && (length b.stack == b.depth))) s in
      let both : ((length went == b.depth) && (length b.stack == b.depth)) ≡ true = (λ k. sym l k || ((length went == b.depth) && (length b.stack == b.depth))) ∙ rest in
      let first = eqb-true (length went) b.depth (and-left (length went == b.depth) (length b.stack == b.depth) both) in
      let second = eqb-true (length b.stack) b.depth (and-right (length went == b.depth) (length b.stack == b.depth) both) in
      first ∙ sym second

  pub row_facts : (t : ℕ) (bytes : List ℕ) (start : ℕ) (x : RowAt) → line ≡ line_at t number start (drop start bytes) → IsRow number x.row row → IsPlaced t bytes number start x → HaveSizes b.stack → IsRowIn t bytes b.stack number start x row
  row_facts t bytes start x el is placed sizes = record {
    is = is;
    placed = placed;
    line = el;
    went = went_again x.row.many is.many;
    many = went_few on b number line x.row.many is.many;
    sizes = sizes;
    sum = refl;
    stays = λ e. none_is row.begun (and-left (has_none row.begun) _ e);
    left = λ e. none_is row.begun (and-left (has_none row.begun) _ (and-right _ _ e));
    lazy = λ e. none_is row.begun (and-left (has_none row.begun) _ (and-right _ _ e));
    whole = λ s l. is.many ∙ whole s l;
    fits = subst (λ (n : ℕ). AreInside x.row.begun.items (drop n (text_of line))) (sym is.going) (begun_inside x.row.list number x.row.begun.items _ (subst (λ (l : List Prefix). AreFitting l (drop (columns_of row.went_on) (text_of line))) (sym is.begun) begun_fitting));
  }

  pub stack_behind : (known_after on b row).stack ≡ open_behind b.stack row
  stack_behind = by row.is_left_blank row.is_lazy
    where
      by : (left lazy : Bool) → (cond left (record b { depth = length row.went_on; leaf = closed }) (cond lazy (record b { leaf = row.leaf }) (record { stack = containers_of row.went_on ++ containers_of row.begun; depth = length (containers_of row.went_on ++ containers_of row.begun); leaf = row.leaf }))).stack
          ≡ cond (left || lazy) b.stack (containers_of row.went_on ++ containers_of row.begun)
      by true lazy = refl
      by false true = refl
      by false false = refl

-- ---- all lines

pub head_same : {A : Type 0} (x y : A) (xs ys : List A) → x ∷ xs ≡ y ∷ ys → (x ≡ y) × (xs ≡ ys)
head_same x y xs ys e = (cc, cc)

pub rows_in : (on : Constructs) (t : ℕ) (bytes : List ℕ) (some : 0 < t) (b : Before) (number start : ℕ) (xs : List RowAt) (all : List Row) → all ≡ rows_left on t bytes b number start → AreRows xs all → ArePlaced t bytes number start xs (length bytes) → AllByRecursion (BeganBefore number) b.stack
    → AreRowsIn t bytes b.stack number start xs all
rows_in on t bytes some b number start [] [] e h p began = p
rows_in on t bytes some b number start [] (r ∷ rs) e h p began = absurd h
rows_in on t bytes some b number start (x ∷ xs) [] e h p began = absurd h
rows_in on t bytes some b number start (x ∷ xs) (r ∷ rs) e h p began =
    let line = line_at t number start (drop start bytes) in
    let row = row_of on b number line in
    let left : 0 < length (drop start bytes) = omega (arith, length-drop start bytes, p.0.inside) in
    let end : x.span.end ≡ start + prefix_len is_in_line (drop start bytes) = p.0.end_is in
    let next = next_is bytes start x.span.end x.span.next end p.0.next_is in
    let step = head_same r row rs _ (e ∙ rows_left_step on t bytes some b number start x.span.next left next) in
    let same : IsRow number x.row row = subst (λ (n : ℕ). IsRow n x.row row) p.0.number_is (subst (IsRow x.span.number x.row) step.0 h.0) in
    let here : IsRowIn t bytes b.stack number start x r = subst (IsRowIn t bytes b.stack number start x) (sym step.0) (row_facts on b number line t bytes start x refl same p.0 (began_sizes number b.stack began)) in
    let behind = rows_in on t bytes some (known_after on b row) (suc number) x.span.next xs rs step.1 h.1 p.1 (old_after on b number line began) in
    (here, subst (λ (s : List Container). AreRowsIn t bytes s (suc number) x.span.next xs rs) (stack_behind on b number line ∙ ap (open_behind b.stack) (sym step.0)) behind)
