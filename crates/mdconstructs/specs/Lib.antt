pub use Rattle.mdconstructs_tables.specs.Breaks
pub use Rattle.mdconstructs_tables.specs.Calm
pub use Rattle.mdconstructs_tables.specs.Cases
pub use Rattle.mdconstructs_tables.specs.Chunks
pub use Rattle.mdconstructs_tables.specs.DataRows
pub use Rattle.mdconstructs_tables.specs.DeepLooks
pub use Rattle.mdconstructs_tables.specs.Fitting
pub use Rattle.mdconstructs_tables.specs.Folds
pub use Rattle.mdconstructs_tables.specs.Joined
pub use Rattle.mdconstructs_tables.specs.Knowledge
pub use Rattle.mdconstructs_tables.specs.Late
pub use Rattle.mdconstructs_tables.specs.LinkShapes
pub use Rattle.mdconstructs_tables.specs.LookKnowledge
pub use Rattle.mdconstructs_tables.specs.Looks
pub use Rattle.mdconstructs_tables.specs.Markers
pub use Rattle.mdconstructs_tables.specs.Misfits
pub use Rattle.mdconstructs_tables.specs.NoFurther
pub use Rattle.mdconstructs_tables.specs.Numbers
pub use Rattle.mdconstructs_tables.specs.Over
pub use Rattle.mdconstructs_tables.specs.Paragraphs
pub use Rattle.mdconstructs_tables.specs.PlainTables
pub use Rattle.mdconstructs_tables.specs.PlainWrites
pub use Rattle.mdconstructs_tables.specs.Plans
pub use Rattle.mdconstructs_tables.specs.Quiet
pub use Rattle.mdconstructs_tables.specs.Refusals
pub use Rattle.mdconstructs_tables.specs.RowInvariant
pub use Rattle.mdconstructs_tables.specs.RowTest
pub use Rattle.mdconstructs_tables.specs.Rows
pub use Rattle.mdconstructs_tables.specs.Stretches
pub use Rattle.mdconstructs_tables.specs.Tables
pub use Rattle.mdconstructs_tables.specs.Twins
pub use Rattle.mdconstructs_tables.specs.Unlinked
pub use Rattle.mdconstructs_machines.specs.Back
pub use Rattle.mdconstructs_machines.specs.Costs
pub use Rattle.mdconstructs_machines.specs.Deep
pub use Rattle.mdconstructs_machines.specs.Fail
pub use Rattle.mdconstructs_machines.specs.Innermost
pub use Rattle.mdconstructs_machines.specs.Laws
pub use Rattle.mdconstructs_machines.specs.LineEvents
pub use Rattle.mdconstructs_machines.specs.Lines
pub use Rattle.mdconstructs_machines.specs.Messages
pub use Rattle.mdconstructs_machines.specs.ParagraphEvents
pub use Rattle.mdconstructs_machines.specs.Peek
pub use Rattle.mdconstructs_machines.specs.ReadAs
pub use Rattle.mdconstructs_machines.specs.Save
pub use Rattle.mdconstructs_machines.specs.Spans
pub use Rattle.mdconstructs_machines.specs.Unfit
pub use Rattle.mdconstructs_machines.specs.WholeLooks
pub use Rattle.mdconstructs_machines.specs.Words
pub use Rattle.mdconstructs_machines.specs.Wrap
pub use Rattle.mdinline_text_machine.specs.Autolink
pub use Rattle.mdinline_text_machine.specs.AutolinkRows
pub use Rattle.mdinline_text_machine.specs.Bytes
pub use Rattle.mdinline_text_machine.specs.ChainTexts
pub use Rattle.mdinline_text_machine.specs.CodeSpan
pub use Rattle.mdinline_text_machine.specs.CodeSpanRows
pub use Rattle.mdinline_text_machine.specs.Construct
pub use Rattle.mdinline_text_machine.specs.Escape
pub use Rattle.mdinline_text_machine.specs.EscapeRows
pub use Rattle.mdinline_text_machine.specs.Items
pub use Rattle.mdinline_text_machine.specs.Laws as TextLaws
pub use Rattle.mdinline_text_machine.specs.ParagraphTexts
pub use Rattle.mdinline_text_machine.specs.Parts
pub use Rattle.mdinline_text_machine.specs.ReadChains
pub use Rattle.mdinline_text_machine.specs.TextBytes
pub use Rattle.mdinline_text_machine.specs.TextCosts
pub use Rattle.mdinline_text_machine.specs.TextEvents
pub use Rattle.mdinline_text_machine.specs.TextRules
pub use Rattle.mdinline_text_machine.specs.TextSizes
pub use Rattle.mdinline_text_machine.specs.TextTable
pub use Rattle.mdinline_labels.specs.Costs as LabelCosts
pub use Rattle.mdinline_labels.specs.Defined
pub use Rattle.mdinline_labels.specs.Definitions
pub use Rattle.mdinline_labels.specs.Labels as NormalLabels
pub use Rattle.mdinline_labels.specs.Resources
pub use Rattle.mdinline_labels.specs.Tails
pub use Rattle.mdinline_emphasis.specs.Beside
pub use Rattle.mdinline_emphasis.specs.Classes
pub use Rattle.mdinline_emphasis.specs.Costs as PairCosts
pub use Rattle.mdinline_emphasis.specs.Emphasis as EmphasisEvents
pub use Rattle.mdinline_emphasis.specs.InTurn
pub use Rattle.mdinline_emphasis.specs.LawStatements as EmphasisLawStatements
pub use Rattle.mdinline_emphasis.specs.Places as RunPlaces
pub use Rattle.mdinline_emphasis.specs.RunEdits
pub use Rattle.mdinline_emphasis.specs.Runs as DelimiterRuns
pub use Rattle.mdinline_emphasis.specs.Searches
pub use Rattle.mdinline_emphasis.specs.Struck
pub use Rattle.mdinline_emphasis.specs.Unicode
pub use Rattle.mdinline_characters.specs.CharacterReferences
pub use Rattle.mdinline_characters.specs.References
pub use Rattle.mdinline_constructs.specs.Email
pub use Rattle.mdinline_constructs.specs.EmailRows
pub use Rattle.mdinline_constructs.specs.HardBreak
pub use Rattle.mdinline_constructs.specs.HardBreakRows
pub use Rattle.mdinline_constructs.specs.HtmlMarked
pub use Rattle.mdinline_constructs.specs.HtmlMarkedRows
pub use Rattle.mdinline_constructs.specs.HtmlTag
pub use Rattle.mdinline_constructs.specs.HtmlTagRows
pub use Rattle.mdinline_constructs.specs.HtmlText
pub use Rattle.mdinline_constructs.specs.HtmlTextRows
pub use Rattle.mdinline_constructs.specs.LinedCode
pub use Rattle.mdinline_constructs.specs.Reference
pub use Rattle.mdinline_constructs.specs.ReferenceRows
pub use Rattle.mdinline_constructs.specs.RememberedCode
pub use Rattle.mdinline_constructs.specs.StringItems
pub use Rattle.mdinline_constructs.specs.WhiteSpace
pub use Rattle.mdinline_link_strings.specs.Costs as StringCosts
pub use Rattle.mdinline_link_strings.specs.Laid
pub use Rattle.mdinline_link_strings.specs.Laws as StringLaws
pub use Rattle.mdinline_link_strings.specs.Reached
pub use Rattle.mdinline_link_strings.specs.Strings
pub use Rattle.mdinline_machine.specs.Beginnings
pub use Rattle.mdinline_machine.specs.BracketRows
pub use Rattle.mdinline_machine.specs.Brackets
pub use Rattle.mdinline_machine.specs.InlineChains
pub use Rattle.mdinline_machine.specs.InlineEvents
pub use Rattle.mdinline_machine.specs.InlineRules
pub use Rattle.mdinline_machine.specs.InlineTable
pub use Rattle.mdinline_machine.specs.LawStatements as InlineLawStatements
pub use Rattle.mdinline_machine.specs.Laws as InlineLaws
pub use Rattle.mdinline_machine.specs.Over as InlinesOver
pub use Rattle.mdinline_machine.specs.Registered
pub use Rattle.mdinline_machine.specs.RunRows
pub use Rattle.mdinline_machine.specs.StringEvents
pub use Rattle.mdinline_machine.specs.StringTable
pub use Rattle.mdblock_leaf_rows.specs.BlankLine
pub use Rattle.mdblock_leaf_rows.specs.ChunkRows
pub use Rattle.mdblock_leaf_rows.specs.CodeFenced
pub use Rattle.mdblock_leaf_rows.specs.CodeIndented
pub use Rattle.mdblock_leaf_rows.specs.Flow as FlowStates
pub use Rattle.mdblock_leaf_rows.specs.FlowBytes
pub use Rattle.mdblock_leaf_rows.specs.FlowCosts
pub use Rattle.mdblock_leaf_rows.specs.FlowKnows
pub use Rattle.mdblock_leaf_rows.specs.FlowTable
pub use Rattle.mdblock_leaf_rows.specs.FlowWrites
pub use Rattle.mdblock_leaf_rows.specs.HeadingAtx
pub use Rattle.mdblock_leaf_rows.specs.HeadingEdits
pub use Rattle.mdblock_leaf_rows.specs.HeadingSetext
pub use Rattle.mdblock_leaf_rows.specs.HtmlFlow
pub use Rattle.mdblock_leaf_rows.specs.HtmlNames
pub use Rattle.mdblock_leaf_rows.specs.HtmlTags
pub use Rattle.mdblock_leaf_rows.specs.HtmlWrites
pub use Rattle.mdblock_leaf_rows.specs.LawStatements as FlowLawStatements
pub use Rattle.mdblock_leaf_rows.specs.Laws as FlowLaws
pub use Rattle.mdblock_leaf_rows.specs.Look
pub use Rattle.mdblock_leaf_rows.specs.Over as FlowOver
pub use Rattle.mdblock_leaf_rows.specs.Paragraph
pub use Rattle.mdblock_leaf_rows.specs.QuietLooks
pub use Rattle.mdblock_leaf_rows.specs.Renamings
pub use Rattle.mdblock_leaf_rows.specs.Steps as FlowSteps
pub use Rattle.mdblock_leaf_rows.specs.ThematicBreak
pub use Rattle.mdblock_leaf_machine.specs.ReadOver
pub use Rattle.mdblock_leaf_blocks.specs.BlockLines
pub use Rattle.mdblock_leaf_blocks.specs.BlocksFormed
pub use Rattle.mdblock_leaf_blocks.specs.BlocksRead
pub use Rattle.mdblock_leaf_blocks.specs.BlocksTold
pub use Rattle.mdblock_leaf_blocks.specs.ChunksJoin
pub use Rattle.mdblock_leaf_blocks.specs.FlowAccounts
pub use Rattle.mdblock_leaf_blocks.specs.FlowEnds
pub use Rattle.mdblock_leaf_blocks.specs.FlowRead
pub use Rattle.mdblock_leaf_blocks.specs.HtmlLines
pub use Rattle.mdblock_leaf_blocks.specs.LeafBlocks
pub use Rattle.mdblock_leaf_blocks.specs.LeafEvents
pub use Rattle.mdblock_leaf_blocks.specs.LineKinds
pub use Rattle.mdblock_leaf_blocks.specs.LineWords
pub use Rattle.mdblock_leaf_blocks.specs.LooksFind
pub use Rattle.mdblock_leaf_blocks.specs.SeenKinds
pub use Rattle.mdblock_leaf_blocks.specs.ToldChunks
pub use Rattle.mdblock_leaf_blocks.specs.ToldMarks
pub use Rattle.mdblock_lines.specs.Breaks as LineBreaks
pub use Rattle.mdblock_lines.specs.Containers
pub use Rattle.mdblock_lines.specs.Lines as LineFunctions
pub use Rattle.mdblock_lines.specs.Views as ContainerViews
pub use Rattle.mdblock_containers.specs.Ahead
pub use Rattle.mdblock_containers.specs.Blocks
pub use Rattle.mdblock_containers.specs.Chunks as ContentChunks
pub use Rattle.mdblock_containers.specs.Costs as ContainerCosts
pub use Rattle.mdblock_containers.specs.Examples
pub use Rattle.mdblock_containers.specs.Frames
pub use Rattle.mdblock_containers.specs.Letters
pub use Rattle.mdblock_containers.specs.ListExamples
pub use Rattle.mdblock_containers.specs.ListSeen
pub use Rattle.mdblock_containers.specs.ListShapes
pub use Rattle.mdblock_containers.specs.ListWalks
pub use Rattle.mdblock_containers.specs.Lists
pub use Rattle.mdblock_containers.specs.Over as ContainersOver
pub use Rattle.mdblock_containers.specs.Parts as ContainerParts
pub use Rattle.mdblock_containers.specs.PlaceEvents
pub use Rattle.mdblock_containers.specs.Prefixes
pub use Rattle.mdblock_containers.specs.Rest
pub use Rattle.mdblock_containers.specs.Rows as ContainerRows
pub use Rattle.mdblock_containers.specs.SeatPlaces
pub use Rattle.mdblock_containers.specs.Skeleton
pub use Rattle.mdblock_containers.specs.SkeletonLaws
pub use Rattle.mdblock_containers.specs.SkeletonSpans
pub use Rattle.mdblock_containers.specs.Spans as ContainerSpans
pub use Rattle.mdblock_containers.specs.Stood
pub use Rattle.mdblock_containers.specs.Stretches as ContainerStretches
pub use Rattle.mdblock_containers.specs.Views as RowViews
pub use Rattle.mdblock_containers.specs.Written
pub use Rattle.mddocument.specs.BlockChains
pub use Rattle.mddocument.specs.ByteRanges
pub use Rattle.mddocument.specs.Choices
pub use Rattle.mddocument.specs.DocumentEvents
pub use Rattle.mddocument.specs.Documents
pub use Rattle.mddocument.specs.FlowTextLaws
pub use Rattle.mddocument.specs.FlowTexts
pub use Rattle.mddocument.specs.Runs
pub use Rattle.mddocument.specs.Tiles
pub use Rattle.mddocument_costs.specs.Chains as ChainCosts
pub use Rattle.mddocument_costs.specs.Documents as DocumentCosts
pub use Rattle.mddocument_costs.specs.Examples as CostExamples
pub use Rattle.mddocument_laws.specs.BlockPlaces
pub use Rattle.mddocument_laws.specs.EmphasisLaws
pub use Rattle.mddocument_laws.specs.EmphasisSpans
pub use Rattle.mddocument_laws.specs.LineStarts
pub use Rattle.mddocument_laws.specs.Names
pub use Rattle.mddocument_laws.specs.NamesOff
pub use Rattle.mddocument_laws.specs.PairedApart
pub use Rattle.mddocument_laws.specs.Ranks
pub use Rattle.mddocument_laws.specs.ReferencePlaces
pub use Rattle.mddocument_parts.specs.Asked
pub use Rattle.mddocument_parts.specs.BothDocuments
pub use Rattle.mddocument_parts.specs.DocumentLabels
pub use Rattle.mddocument_parts.specs.DocumentRests
pub use Rattle.mddocument_parts.specs.JoinedStretches
pub use Rattle.mddocument_parts.specs.Moved
pub use Rattle.mddocument_parts.specs.MovedSections
pub use Rattle.mddocument_parts.specs.ReadTexts
pub use Rattle.mddocument_parts.specs.Rests
pub use Rattle.mddocument_parts.specs.Sections
pub use Rattle.mddocument_parts.specs.WithoutContainers
pub use Rattle.mddocument_link_targets.specs.Costs as TargetCosts
pub use Rattle.mddocument_link_targets.specs.Defined as DefinedAt
pub use Rattle.mddocument_link_targets.specs.Examples as TargetExamples
pub use Rattle.mddocument_link_targets.specs.Spans as SpansInside
pub use Rattle.mddocument_link_targets.specs.Strings as StringTexts
pub use Rattle.mddocument_link_targets.specs.Targets
pub use Rattle.mddocument_editing.specs.Asking
pub use Rattle.mddocument_editing.specs.Cuts
pub use Rattle.mddocument_editing.specs.Divided
pub use Rattle.mddocument_editing.specs.Edits
pub use Rattle.mddocument_editing.specs.Exits
pub use Rattle.mddocument_editing.specs.Finds
pub use Rattle.mddocument_editing.specs.FirstRest
pub use Rattle.mddocument_editing.specs.Fits
pub use Rattle.mddocument_editing.specs.Fronts
pub use Rattle.mddocument_editing.specs.InBrackets
pub use Rattle.mddocument_editing.specs.Kept
pub use Rattle.mddocument_editing.specs.Known
pub use Rattle.mddocument_editing.specs.Leading
pub use Rattle.mddocument_editing.specs.Listed
pub use Rattle.mddocument_editing.specs.Lookups
pub use Rattle.mddocument_editing.specs.Packed
pub use Rattle.mddocument_editing.specs.PackedEvents
pub use Rattle.mddocument_editing.specs.PositionParts
pub use Rattle.mddocument_editing.specs.Positions
pub use Rattle.mddocument_editing.specs.Put
pub use Rattle.mddocument_editing.specs.Said
pub use Rattle.mddocument_editing.specs.Seams
pub use Rattle.mddocument_editing.specs.Seen
pub use Rattle.mddocument_editing.specs.Settled
pub use Rattle.mddocument_editing.specs.Told
pub use Rattle.mddocument_editing.specs.Trims
pub use Rattle.mddocument_editing.specs.Undefined
