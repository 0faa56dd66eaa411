-- Examples of spans of emphasis in documents, among their events and by the pairs of their texts, computed from the definitions.
use Rattle.std.proofs.Common.{◌≡◌, ◌+◌, ℕ, List, [], ◌∷◌, ◌++◌, refl, false, true}
use lib.Utf8.{encode}
use Rattle.std.specs.List.{flat_map}
use Rattle.std.specs.Prelude.{codes}
use Rattle.std.specs.Str.{chars, is_utf8}
use Rattle.markdown_base.specs.declared.configuration.Constructs.{Constructs}
use Rattle.markdown_base.specs.declared.event.Name.{Name}
use Rattle.markdown_base.specs.declared.event.Name.TheVariants.{Emphasis, GfmStrikethrough}
use Rattle.markdown_base.specs.Presets.{default_constructs, default_parse_options}
use Rattle.markdown_tokenizer.specs.Text.{Given}
use Rattle.mdinline_emphasis.specs.Unicode.{punctuation, white_space}
use Rattle.mdblock_text_lines.specs.DocumentBlocks.{document_blocks}
use Rattle.mdinline_machine.specs.InlineEvents.{read_events}
use Rattle.mdinline_text_machine.specs.ChainTexts.{chain_text}
use Rattle.mddocument.specs.DocumentEvents.{document_events, is_defined_in}
use Rattle.mddocument_laws.specs.EmphasisLaws.{text_starts}
use Rattle.mddocument_laws.specs.EmphasisSpans.{EmphasisSpan, emphasis_spans}
use Rattle.mddocument_laws.specs.PairedApart.{spans_of_text}

abbrev document_with : Constructs → List ℕ → Given
document_with on bytes = record { bytes = bytes; options = record default_parse_options { constructs = on }; tab = 4 }

abbrev document : List ℕ → Given
document bytes = document_with default_constructs bytes

abbrev of_events : Given → List EmphasisSpan
of_events g = emphasis_spans (document_events g)

abbrev of_pairs : Given → List EmphasisSpan
of_pairs g = flat_map (λ c. spans_of_text g.options.gfm_strikethrough_single_tilde g.bytes (read_events (is_defined_in g) g (chain_text g (document_blocks g) c))) (text_starts g)

abbrev named : Name → (start end : ℕ) → EmphasisSpan
named name start end = record { start = record { line = 1; column = start + 1; index = start; vs = 0 }; end = record { line = 1; column = end + 1; index = end; vs = 0 }; name = name }

abbrev over : (start end : ℕ) → EmphasisSpan
over start end = named Emphasis start end

-- over two lines of a block quote, whose prefixes lie between
abbrev quote : Given
quote = document (codes "> *a" ++ 10 ∷ codes "> b*")

abbrev over-quote : EmphasisSpan
over-quote = record { start = record { line = 1; column = 3; index = 2; vs = 0 }; end = record { line = 2; column = 5; index = 9; vs = 0 }; name = Emphasis }

quote-events : of_events quote ≡ over-quote ∷ []
unfolding is_utf8 chars encode white_space punctuation
quote-events = refl

quote-pairs : of_pairs quote ≡ over-quote ∷ []
unfolding is_utf8 chars encode white_space punctuation
quote-pairs = refl

-- in a link and around it
abbrev link : Given
link = document (codes "*[*a*](b)*")

link-events : of_events link ≡ over 2 5 ∷ over 0 10 ∷ []
unfolding is_utf8 chars encode white_space punctuation
link-events = refl

link-pairs : of_pairs link ≡ over 2 5 ∷ over 0 10 ∷ []
unfolding is_utf8 chars encode white_space punctuation
link-pairs = refl

-- with strikethrough on; and without it, a tilde is text
abbrev with_tildes : List ℕ
with_tildes = codes "~a *b* c~"

abbrev struck : Given
struck = document_with (record default_constructs { gfm_strikethrough = true }) with_tildes

struck-events : of_events struck ≡ over 3 6 ∷ named GfmStrikethrough 0 9 ∷ []
unfolding is_utf8 chars encode white_space punctuation
struck-events = refl

struck-pairs : of_pairs struck ≡ over 3 6 ∷ named GfmStrikethrough 0 9 ∷ []
unfolding is_utf8 chars encode white_space punctuation
struck-pairs = refl

-- by its option one tilde does not count, and two do
abbrev strict : List ℕ → Given
strict bytes = record { bytes = bytes; options = record default_parse_options { constructs = record default_constructs { gfm_strikethrough = true }; gfm_strikethrough_single_tilde = false }; tab = 4 }

strict-events : of_events (strict (codes "~a ~~b~~ c~")) ≡ named GfmStrikethrough 3 8 ∷ []
unfolding is_utf8 chars encode white_space punctuation
strict-events = refl

strict-pairs : of_pairs (strict (codes "~a ~~b~~ c~")) ≡ named GfmStrikethrough 3 8 ∷ []
unfolding is_utf8 chars encode white_space punctuation
strict-pairs = refl

plain-events : of_events (document with_tildes) ≡ over 3 6 ∷ []
unfolding is_utf8 chars encode white_space punctuation
plain-events = refl
