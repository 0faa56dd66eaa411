use Rattle.std.proofs.Common.{rules, ◌≡◌, ℕ, Bool, true, false, ◌<◌, List, [], ◌∷◌, subst, sym}
use Rattle.std.specs.Bool.{OnTrue}
use Rattle.std.specs.Prelude.{All, get_or}
use Rattle.markdown_base.specs.declared.state.Name.{Name}
use Rattle.markdown_base.specs.declared.state.TheConstants.Name.{ParagraphInside, RawFlowContentChunk}
use Rattle.markdown_tokenizer.specs.Over.{IsByteOver}
use Rattle.mdblock_leaf_rows.specs.FlowKnows.{flow_rules}
use Rattle.mdblock_leaf_machine.proofs.LineBytes.{line-class}
use Rattle.mdblock_leaf_machine.proofs.flow.FlowMachine.reads_over_all.Goals as goal

-- a state of this name reads over each byte of a line, so it reads over blocks of them
blocks-over : (name known : Name) → name.number ≡ known.number → ((byte : ℕ) → 13 < byte → IsByteOver flow_rules known byte) → (all : Bool) (xs : List ℕ)
    → OnTrue all (All (λ byte. 13 < byte) xs) → OnTrue all (All (IsByteOver flow_rules name) xs)
blocks-over name known e over true xs h = λ k d less. subst (λ (n : ℕ). IsByteOver flow_rules (record { number = n }) (get_or xs k d)) (sym e) (over _ (h k d less))
blocks-over name known e over false xs h = tt

paragraph-over : (byte : ℕ) → 13 < byte → IsByteOver flow_rules ParagraphInside byte
paragraph-over byte h = let class = line-class byte h in search (rules, class)

code-over : (byte : ℕ) → 13 < byte → IsByteOver flow_rules RawFlowContentChunk byte
code-over byte h = let class = line-class byte h in search (rules, class)

pub returns-in-ParagraphInside : goal.returns-in-ParagraphInside
returns-in-ParagraphInside c = blocks-over c.args.name ParagraphInside (search rules) paragraph-over c.are_in_line.result c.args.block.now c.are_in_line.ensures

pub returns-in-RawFlowContentChunk : goal.returns-in-RawFlowContentChunk
returns-in-RawFlowContentChunk c =
    blocks-over c.args.name RawFlowContentChunk (search rules) code-over c.are_in_line-in-RawFlowContentChunk.result c.args.block.now c.are_in_line-in-RawFlowContentChunk.ensures
