-- Lemmas on lines with their containers.
use Rattle.std.proofs.Common.{◌≡◌, ℕ, ◌+◌, ◌<◌, Bool, true, false, cond, List, [], ◌∷◌, ◌++◌, length, take, drop, map, get_or, refl, sym, ap, ◌∙◌, append_assoc}
use Rattle.std.specs.Prelude.{◌==◌, ◌&&◌, ◌||◌, not}
use Rattle.std.proofs.lemmas.List.{drop_more, map-append}
use Rattle.std.proofs.lemmas.List.Sums.{sum_by-cons}
use Rattle.markdown_base.specs.declared.configuration.Constructs.{Constructs}
use Rattle.mdblock_leaf_blocks.specs.LeafBlocks.{Line, text_of}
use Rattle.mdblock_leaf_blocks.specs.LineKinds.{is_blank_line}
use Rattle.mdblock_lines.specs.declared.containers.Prefix.{Prefix as CodePrefix}
use Rattle.mdblock_lines.specs.Containers.{Container, Prefix}
use Rattle.mdblock_lines.specs.Views.{prefix_of}
use Rattle.mdblock_containers.specs.declared.rows.Row.{Row as CodeRow}
use Rattle.mdblock_containers.specs.declared.going.Open.{Open}
use Rattle.mdblock_containers.specs.Prefixes.{going_on, beginning, with_list, columns_of, containers_of}
use Rattle.mdblock_containers.specs.Rows.{Before, Leaf, Row, closed, open_paragraph, is_raw, is_paragraph, holds_ending, has_none, leaf_after, is_lazily, row_with, row_of, known_after}
use Rattle.mdblock_containers.specs.Views.{begun_of, leaf_of, open_of, IsRow}

pub has_none_begun : (list number : ℕ) (xs : List CodePrefix) → has_none xs ≡ has_none (begun_of list number xs)
has_none_begun list number [] = refl
has_none_begun list number (x ∷ xs) = refl

pub columns_begun : (list number : ℕ) (xs : List CodePrefix) → columns_of (map (prefix_of number) xs) ≡ columns_of (begun_of list number xs)
columns_begun list number [] = refl
columns_begun list number (x ∷ xs) =
    sum_by-cons (λ (p : Prefix). p.size) (prefix_of number x) (map (prefix_of number) xs) ∙ sym (sum_by-cons (λ (p : Prefix). p.size) (prefix_of list x) (map (prefix_of number) xs))

pub with_list_none : (ended : List Container) → with_list ended [] ≡ []
with_list_none [] = refl
with_list_none (c ∷ cs) = refl

pub with_list_cond : (ended : List Container) (b : Bool) (ps : List Prefix) → with_list ended (cond b [] ps) ≡ cond b [] (with_list ended ps)
with_list_cond ended true ps = with_list_none ended
with_list_cond ended false ps = refl

module _ (on : Constructs) (b : Before) (number : ℕ) (line : Line) (t : List ℕ) (text : text_of line ≡ t) where
  pub went : List ℕ → List Prefix
  went u = going_on (take b.depth b.stack) number u

  pub begun_by : (many columns : ℕ) → List ℕ → List Prefix
  begun_by many columns u =
      cond ((many == b.depth) && is_raw b.leaf) [] (with_list (drop many b.stack) (beginning on (length (drop columns u)) number ((many == b.depth) && is_paragraph b.leaf) (drop columns u)))

  pub row_parts : (many columns list : ℕ) (after : List ℕ) (xs : List CodePrefix) → many ≡ length (going_on (take b.depth b.stack) number t) → columns ≡ columns_of (going_on (take b.depth b.stack) number t) → after ≡ drop columns t
      → map (prefix_of number) xs ≡ cond ((many == b.depth) && is_raw b.leaf) [] (beginning on (length after) number ((many == b.depth) && is_paragraph b.leaf) after)
      → begun_of list number xs ≡ with_list (drop many b.stack) (map (prefix_of number) xs)
      → row_of on b number line ≡ row_with on b number line (going_on (take b.depth b.stack) number t) (begun_of list number xs)
  unfolding went begun_by
  row_parts many columns list after xs em ec ea eb el =
      let begun : begun_of list number xs ≡ begun_by many columns t =
      el ∙ ap (with_list (drop many b.stack)) eb ∙ with_list_cond (drop many b.stack) ((many == b.depth) && is_raw b.leaf) (beginning on (length after) number ((many == b.depth) && is_paragraph b.leaf) after)
      ∙ (λ k. cond ((many == b.depth) && is_raw b.leaf) [] (with_list (drop many b.stack) (beginning on (length (ea k)) number ((many == b.depth) && is_paragraph b.leaf) (ea k)))) in
      let same : begun_of list number xs ≡ begun_by (length (went t)) (columns_of (went t)) t = begun ∙ (λ k. begun_by (em k) (ec k) t) in
      (λ k. row_with on b number line (went (text k)) (begun_by (length (went (text k))) (columns_of (went (text k))) (text k))) ∙ ap (row_with on b number line (went t)) (sym same)

  pub row_is : (went begun : List Prefix) (r : CodeRow) (many going columns : ℕ) (xs : List CodePrefix) (list : ℕ)
      → many ≡ length went → going ≡ columns_of went → columns ≡ columns_of (map (prefix_of number) xs) → begun_of list number xs ≡ begun
      → r.many ≡ many → r.going ≡ going → r.list ≡ list → r.begun.items ≡ xs → r.columns ≡ going + columns
      → r.is_lazy ≡ is_lazily on b (many == b.depth) (has_none xs) (drop (going + columns) t)
      → r.stays ≡ (has_none xs && (r.is_lazy || ((many == b.depth) && (length b.stack == b.depth))))
      → r.is_blank ≡ is_blank_line (drop (going + columns) t)
      → r.is_left_blank ≡ (r.is_blank && (has_none xs && not (r.stays && holds_ending b.leaf)))
      → leaf_of r.leaf ≡ cond r.is_left_blank closed (cond r.is_lazy open_paragraph (leaf_after on (cond r.stays b.leaf closed) (drop (going + columns) t)))
      → IsRow number r (row_with on b number line went begun)
  row_is went begun r many going columns xs list em eg ec eb rm rg rl rx rc lazy stays blank left leaf =
      let none : has_none xs ≡ has_none begun = has_none_begun list number xs ∙ ap has_none eb in
      let cols : going + columns ≡ columns_of went + columns_of begun = (λ k. eg k + (ec ∙ columns_begun list number xs ∙ ap columns_of eb) k) in
      let rest : drop (going + columns) t ≡ drop (columns_of went + columns_of begun) (text_of line) = (λ k. drop (cols k) (sym text k)) in
      let is_lazy : r.is_lazy ≡ is_lazily on b (length went == b.depth) (has_none begun) (drop (columns_of went + columns_of begun) (text_of line)) = lazy ∙ (λ k. is_lazily on b (em k == b.depth) (none k) (rest k)) in
      let is_staying : r.stays ≡ (has_none begun && (is_lazily on b (length went == b.depth) (has_none begun) (drop (columns_of went + columns_of begun) (text_of line)) || ((length went == b.depth) && (length b.stack == b.depth)))) =
      stays ∙ (λ k. none k && (is_lazy k || ((em k == b.depth) && (length b.stack == b.depth)))) in
      let is_blank : r.is_blank ≡ is_blank_line (drop (columns_of went + columns_of begun) (text_of line)) = blank ∙ ap is_blank_line rest in
      let is_left : r.is_left_blank ≡ (row_with on b number line went begun).is_left_blank = left ∙ (λ k. is_blank k && (none k && not (is_staying k && holds_ending b.leaf))) in
      record {
        number_is = refl;
        many = rm ∙ em;
        going = rg ∙ eg;
        begun = (λ k. begun_of (rl k) number (rx k)) ∙ eb;
        columns = rc ∙ cols;
        is_blank = is_blank;
        is_lazy = is_lazy;
        stays = is_staying;
        is_left_blank = is_left;
        leaf = leaf ∙ (λ k. cond (is_left k) closed (cond (is_lazy k) open_paragraph (leaf_after on (cond (is_staying k) b.leaf closed) (rest k))));
      }

-- what is known behind a line, by its three cases
module _ (on : Constructs) (b : Before) (r : Row) where
  pub known_by : (left lazy : Bool) → Before
  known_by left lazy =
      cond left (record b { depth = length r.went_on; leaf = closed })
      (cond lazy (record b { leaf = r.leaf }) (record { stack = containers_of r.went_on ++ containers_of r.begun; depth = length (containers_of r.went_on ++ containers_of r.begun); leaf = r.leaf }))

  pub known_blank : (leaf : Leaf) (n : ℕ) → r.is_left_blank ≡ true → n ≡ length r.went_on → leaf ≡ closed → record b { depth = n; leaf = leaf } ≡ known_after on b r
  unfolding known_by
  known_blank leaf n left en el = (λ k. record b { depth = en k; leaf = el k }) ∙ (λ k. known_by (sym left k) r.is_lazy)

  pub known_lazy : (leaf : Leaf) → r.is_left_blank ≡ false → r.is_lazy ≡ true → leaf ≡ r.leaf → record b { leaf = leaf } ≡ known_after on b r
  unfolding known_by
  known_lazy leaf left lazy el = (λ k. record b { leaf = el k }) ∙ (λ k. known_by (sym left k) (sym lazy k))

  pub known_next : (stack : List Container) (n : ℕ) (leaf : Leaf) → r.is_left_blank ≡ false → r.is_lazy ≡ false → stack ≡ containers_of r.went_on ++ containers_of r.begun → n ≡ length stack → leaf ≡ r.leaf
      → record { stack = stack; depth = n; leaf = leaf } ≡ known_after on b r
  unfolding known_by
  known_next stack n leaf left lazy es en el = (λ k. record { stack = es k; depth = (en ∙ ap (λ (l : List Container). length l) es) k; leaf = el k }) ∙ (λ k. known_by (sym left k) (sym lazy k))

pub begun_same : (number : ℕ) (xs : List CodePrefix) → begun_of number number xs ≡ map (prefix_of number) xs
begun_same number [] = refl
begun_same number (x ∷ xs) = refl

-- one container that begins is open
pub open_step : (stack after : List Open) (begun : List CodePrefix) (i list number : ℕ) (d : CodePrefix) → i < length begun → after ≡ stack ++ record { container = (get_or begun i d).container; list = list } ∷ []
    → map open_of after ++ containers_of (begun_of number number (drop (i + 1) begun)) ≡ map open_of stack ++ containers_of (begun_of list number (drop i begun))
open_step stack after begun i list number d h e =
    let new : Open = record { container = (get_or begun i d).container; list = list } in
    let front : map open_of after ≡ map open_of stack ++ open_of new ∷ [] = ap (map open_of) e ∙ map-append open_of stack (new ∷ []) in
    (λ k. front k ++ containers_of (begun_same number (drop (i + 1) begun) k))
    ∙ append_assoc (map open_of stack) (open_of new ∷ []) (containers_of (map (prefix_of number) (drop (i + 1) begun)))
    ∙ (λ k. map open_of stack ++ containers_of (begun_of list number (sym (drop_more begun i d h) k)))
