-- What is promised of emphasis and strikethrough: their spans, by the pairs of delimiter runs.
use Rattle.std.specs.Prelude.{◌≡◌, ℕ, Bool, ◌+◌, ◌<◌, ◌≤◌, ◌==◌, All, List, Some, false, flat_map, length, slice_get}
use Rattle.std.specs.List.Sorted.{IsPermutation}
use Rattle.markdown_base.specs.declared.event.Content.TheVariants.{Text as TextContent}
use Rattle.markdown_base.specs.declared.event.Event.{Event}
use Rattle.markdown_base.specs.declared.event.Name.TheVariants.{GfmStrikethrough}
use Rattle.markdown_tokenizer.specs.Text.{Given, IsDocument}
use Rattle.markdown_children.specs.Chains.{fitting_starts}
use Rattle.mdinline_emphasis.specs.declared.pairs.Marker.TheVariants.{Tilde}
use Rattle.mdinline_emphasis.specs.Emphasis.{Pair, Run, markers_of, outer_name, pairs}
use Rattle.mdinline_emphasis.specs.Runs.{runs_in}
use Rattle.mdinline_machine.specs.InlineEvents.{inline_events, read_events}
use Rattle.mdinline_links.specs.Laid.{AreAscending}
use Rattle.mdinline_links.specs.Linked.{with_links}
use Rattle.mdinline_text_machine.specs.ChainTexts.{chain_text}
use Rattle.mdblock_text_lines.specs.DocumentBlocks.{document_blocks}
use Rattle.mddocument.specs.DocumentEvents.{document_events, is_defined_in}
use Rattle.mddocument_laws.specs.EmphasisSpans.{emphasis_spans, is_emphasis, markers_given}
use Rattle.mddocument_laws.specs.PairedApart.{runs_apart, spans_of_text}

-- Pairs are of two runs each, and the opener comes first
abbrev pub PairsAreOfRuns : Type 0
PairsAreOfRuns = (rs : List Run) → All (λ p. (p.opener < p.closer) × (p.closer < length rs)) (pairs rs)

-- A pair of two runs of tildes takes all that they have: as many of the one as of the other
pub record IsOfTildes (rs : List Run) (p : Pair) : Type 0 where
  pub opener : Run
  pub closer : Run
  pub opens : slice_get rs p.opener ≡ Some opener
  pub closes : slice_get rs p.closer ≡ Some closer
  pub tildes : (opener.marker ≡ Tilde) × (closer.marker ≡ Tilde)
  pub all : (opener.left ≡ markers_of p.style) × (closer.left ≡ markers_of p.style)

-- Each pair of the runs of a text that makes strikethrough is one of tildes: "any text wrapped in a matching pair of one or two tildes" (GFM 0.29, 6.5); of two,
-- if one does not count
abbrev pub StrikethroughIsOfTildes : Type 0
StrikethroughIsOfTildes = (one_tilde : Bool) (bytes : List ℕ) (es : List Event)
    → All (λ rs. All (λ p. outer_name p.style ≡ GfmStrikethrough → IsOfTildes rs p × (one_tilde ≡ false → markers_of p.style ≡ 2)) (pairs rs)) (runs_apart one_tilde bytes es)

-- A run has the markers that its pairs take: so the sequences of a pair are bytes of its two runs, and no byte is in two of them
abbrev pub RunsHaveMarkers : Type 0
RunsHaveMarkers = (rs : List Run) (n : ℕ) (r : Run) → slice_get rs n ≡ Some r → markers_given (λ p. p.closer == n) (pairs rs) + markers_given (λ p. p.opener == n) (pairs rs) ≤ r.left

-- Parts of the runs of a text hold each run, and each once: the runs are all different, and together the parts are the runs, up to order. In each part
-- they stand in their order
pub record AreTakenApart (runs : List Run) (parts : List (List Run)) : Type 0 where
  pub different : AreAscending runs
  pub all : IsPermutation (flat_map (λ rs. rs) parts) runs
  pub in_order : All AreAscending parts

-- so links and images take the runs of any text apart
abbrev pub RunsAreApart : Type 0
RunsAreApart = (one_tilde : Bool) (bytes : List ℕ) (es : List Event) → AreTakenApart (runs_in one_tilde bytes es) (runs_apart one_tilde bytes es)

-- Links, images and emphasis have a span of emphasis or strikethrough for each pair of the runs of a text, and no other, if the text had none before
abbrev pub TextsHaveSpansOfPairs : Type 0
TextsHaveSpansOfPairs = (one_tilde : Bool) (bytes : List ℕ) (es : List Event) → All (λ e. is_emphasis e.name ≡ false) es
    → IsPermutation (emphasis_spans (with_links one_tilde bytes es)) (spans_of_text one_tilde bytes es)

-- the first chunks of the texts of a document, in order: of each chain of text of its blocks
abbrev pub text_starts : Given → List ℕ
text_starts g = fitting_starts (Some TextContent) (document_blocks g)

-- The spans of emphasis of a document are those of its texts, one text behind another
abbrev pub DocumentsHaveSpansOfTexts : Type 0
DocumentsHaveSpansOfTexts = (g : Given) → IsDocument g
    → emphasis_spans (document_events g) ≡ flat_map (λ c. emphasis_spans (inline_events (is_defined_in g) g (chain_text g (document_blocks g) c))) (text_starts g)

-- So they are those of the pairs of each text
abbrev pub DocumentsHaveSpansOfPairs : Type 0
DocumentsHaveSpansOfPairs = (g : Given) → IsDocument g
    → IsPermutation (emphasis_spans (document_events g)) (flat_map (λ c. spans_of_text g.options.gfm_strikethrough_single_tilde g.bytes (read_events (is_defined_in g) g (chain_text g (document_blocks g) c))) (text_starts g))
