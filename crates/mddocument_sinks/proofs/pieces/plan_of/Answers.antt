use Rattle.std.proofs.Common.{Bool, [], ◌∙◌, ◌∷◌, List, ap, arith, subst, sym, take, ℕ}
use Rattle.std.proofs.Math.Bool.{or_comm}
use Rattle.std.proofs.lemmas.List.{take_all}
use Rattle.std.proofs.lemmas.List.Elements.{All-append, All-from_recursion}
use Rattle.std.proofs.lemmas.List.Folds.{list_any-append}
use Rattle.std.specs.Prelude.{All, ◌||◌}
use Rattle.markdown_base.specs.Virtual.{virtual}
use Rattle.mdblock_definitions.specs.Labelled.{is_one_of}
use Rattle.mdblock_definitions.specs.Skeleton.{written_labels}
use Rattle.mdinline_labels.specs.Defined.{is_same}
use Rattle.mddocument.proofs.DefinedLabels.{labels-are-defined}
use Rattle.mddocument.specs.Documents.{document}
use Rattle.mddocument_editing.proofs.Below.{labels-none}
use Rattle.mddocument_sinks.proofs.PieceEvents.{of-piece}
use Rattle.mddocument_sinks.specs.Seams.{IsSeam}
use Rattle.mddocument_sinks.proofs.Seams.{labels-on, piece, seam-first}
use Rattle.mddocument_sinks.proofs.pieces.plan_of.Goals as goal

pub loop-start-init : goal.loop-start-init
loop-start-init c =
    let options = c.args.options.now in
    let bytes = c.args.bytes.now in
    record {
      seam = seam-first options bytes;
      labels = λ label. c.new-labels.ensures label ∙ ap (λ ls. is_one_of ls label) (sym (labels-none options.constructs options.tab_size));
      seams = subst (All (IsSeam options bytes)) (sym c.new-seams.ensures.items) (λ k d less. absurd (omega (arith, less)));
    }

pub define_labels-requires : goal.define_labels-requires
define_labels-requires c =
    let is = of-piece c.args.options.now c.args.bytes.now c.requires.document c.loop-start.start c.in_ok-end.end (omega (arith, c.in_ok-end.ensures.some)) in
    record { limit = is.limit }

pub loop-start-preserved : goal.loop-start-preserved
loop-start-preserved c =
    let options = c.args.options.now in
    let bytes = c.args.bytes.now in
    let from = c.loop-start.start in
    let to = c.in_ok-end.end in
    let before = c.loop-start.invariant in
    let e = c.in_ok-end.ensures in
    let of = λ (part : List ℕ). written_labels options.constructs (virtual options.tab_size part) in
    let this = piece options bytes from to in
    record {
      seam = e.seam;
      labels = λ label.
          c.in_ok-define_labels.ensures label
          ∙ ap (λ b. is_one_of (of this) label || b) (before.labels label)
          ∙ or_comm (is_one_of (of this) label) (is_one_of (of (take from bytes)) label)
          ∙ sym (list_any-append (λ one. is_same label one) (of (take from bytes)) (of this))
          ∙ ap (λ all. is_one_of all label) (sym (labels-on options bytes from to before.seam e.seam e.some));
      seams = subst (All (IsSeam options bytes)) (sym c.in_ok-push.ensures.items)
          (All-append (IsSeam options bytes) c.loop-start.seams.items (to ∷ []) before.seams (All-from_recursion (IsSeam options bytes) (to ∷ []) (e.seam, tt)));
    }

pub returns-clause-labels : goal.returns-clause-labels
returns-clause-labels c label =
    let options = c.args.options.now in
    let bytes = c.args.bytes.now in
    c.loop-start.invariant.labels label
    ∙ ap (λ (part : List ℕ). is_one_of (written_labels options.constructs (virtual options.tab_size part)) label) (take_all c.loop-start.start bytes c.loop-start-test.false)
    ∙ ap (λ (is : List ℕ → Bool). is label) (sym (labels-are-defined (document options bytes)))
