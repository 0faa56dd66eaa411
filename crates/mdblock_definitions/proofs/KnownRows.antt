-- The lines of a document, where paragraphs may begin with definitions, have places as those of containers do: their leaf blocks alone differ.
use Rattle.std.proofs.Common.{◌≡◌, ℕ, suc, ◌+◌, ◌<◌, List, [], ◌∷◌, arith, drop, length, length-drop, refl, sym, ap, subst, ◌∙◌}
use Rattle.std.specs.List.{AllByRecursion, prefix_len}
use Rattle.markdown_base.specs.declared.configuration.Constructs.{Constructs}
use Rattle.markdown_base.proofs.Common.{and-right}
use Rattle.markdown_base.proofs.Facts.Bools.{and-left}
use Rattle.mdblock_leaf_blocks.specs.LeafBlocks.{Line, text_of}
use Rattle.mdblock_lines.specs.Containers.{Container, Prefix}
use Rattle.mdblock_lines.specs.Lines.{is_in_line, line_at}
use Rattle.mdblock_containers.specs.declared.spans.RowAt.{RowAt}
use Rattle.mdblock_containers.specs.Ahead.{AreRows}
use Rattle.mdblock_containers.specs.Costs.{HaveSizes}
use Rattle.mdblock_containers.specs.Parts.{open_behind}
use Rattle.mdblock_containers.specs.Prefixes.{columns_of}
use Rattle.mdblock_containers.specs.Rows.{Row, has_none}
use Rattle.mdblock_containers.specs.Rows as without
use Rattle.mdblock_containers.specs.SeatPlaces.{AreInside}
use Rattle.mdblock_containers.specs.Spans.{ArePlaced, AreRowsIn, IsPlaced, IsRowIn}
use Rattle.mdblock_containers.specs.Views.{IsRow}
use Rattle.mdblock_containers.proofs.CostLemmas.{began_sizes}
use Rattle.mdblock_containers.proofs.DocumentRows.{next_is, went_few}
use Rattle.mdblock_containers.proofs.FrameFacts.{none_is}
use Rattle.mdblock_containers.proofs.RowFacts.{BeganBefore}
use Rattle.mdblock_containers.proofs.RowSpans.{AreFitting, begun_fitting, begun_inside, head_same, stack_behind, went_again, whole}
use Rattle.mdblock_definitions.specs.Rows.{Known, known_after, row_of}
use Rattle.mdblock_containers.proofs.RowReads.{old_behind, same_stack}
use Rattle.mdblock_definitions.proofs.KnownReads.{known-reads}
use Rattle.mdblock_definitions.proofs.KnownLemmas.{known-left-step, known_left}

-- ---- one line

module _ (on : Constructs) (k : Known) (n : ℕ) (line : Line) where
  abbrev plain : Row
  plain = without.row_of on k.before n line

  abbrev changed : Row
  changed = row_of on k n line

  pub changed-facts : (t : ℕ) (bytes : List ℕ) (start : ℕ) (x : RowAt) → line ≡ line_at t n start (drop start bytes) → IsRow n x.row changed → IsPlaced t bytes n start x → HaveSizes k.before.stack → IsRowIn t bytes k.before.stack n start x changed
  changed-facts t bytes start x el is placed sizes = record {
    is = is;
    placed = placed;
    line = el;
    went = went_again on k.before n line x.row.many is.many;
    many = went_few on k.before n line x.row.many is.many;
    sizes = sizes;
    sum = refl;
    stays = λ e. none_is plain.begun (and-left (has_none plain.begun) _ e);
    left = λ e. none_is plain.begun (and-left (has_none plain.begun) _ (and-right _ _ e));
    lazy = λ e. none_is plain.begun (and-left (has_none plain.begun) _ (and-right _ _ e));
    whole = λ s l. is.many ∙ whole on k.before n line s l;
    fits = subst (λ (m : ℕ). AreInside x.row.begun.items (drop m (text_of line))) (sym is.going) (begun_inside x.row.list n x.row.begun.items _ (subst (λ (l : List Prefix). AreFitting l (drop (columns_of plain.went_on) (text_of line))) (sym is.begun) (begun_fitting on k.before n line)));
  }

  pub changed-stack : (known_after on k changed).before.stack ≡ open_behind k.before.stack changed
  changed-stack = same_stack on (known-reads on) k n line ∙ stack_behind on k.before n line

-- ---- all lines

pub known-in : (on : Constructs) (t : ℕ) (bytes : List ℕ) (some : 0 < t) (k : Known) (number start : ℕ) (xs : List RowAt) (all : List Row) → all ≡ known_left on t bytes k number start → AreRows xs all → ArePlaced t bytes number start xs (length bytes)
    → AllByRecursion (BeganBefore number) k.before.stack → AreRowsIn t bytes k.before.stack number start xs all
known-in on t bytes some k number start [] [] e h p began = p
known-in on t bytes some k number start [] (r ∷ rs) e h p began = absurd h
known-in on t bytes some k number start (x ∷ xs) [] e h p began = absurd h
known-in on t bytes some k number start (x ∷ xs) (r ∷ rs) e h p began =
    let line = line_at t number start (drop start bytes) in
    let row = row_of on k number line in
    let left : 0 < length (drop start bytes) = omega (arith, length-drop start bytes, p.0.inside) in
    let end : x.span.end ≡ start + prefix_len is_in_line (drop start bytes) = p.0.end_is in
    let next = next_is bytes start x.span.end x.span.next end p.0.next_is in
    let step = head_same r row rs _ (e ∙ known-left-step on t bytes some k number start x.span.next left next) in
    let same : IsRow number x.row row = subst (λ (n : ℕ). IsRow n x.row row) p.0.number_is (subst (IsRow x.span.number x.row) step.0 h.0) in
    let here : IsRowIn t bytes k.before.stack number start x r = subst (IsRowIn t bytes k.before.stack number start x) (sym step.0) (changed-facts on k number line t bytes start x refl same p.0 (began_sizes number k.before.stack began)) in
    let behind = known-in on t bytes some (known_after on k row) (suc number) x.span.next xs rs step.1 h.1 p.1 (old_behind on (known-reads on) k number line began) in
    (here, subst (λ (s : List Container). AreRowsIn t bytes s (suc number) x.span.next xs rs) (changed-stack on k number line ∙ ap (open_behind k.before.stack) (sym step.0)) behind)
