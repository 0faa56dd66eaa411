use Rattle.mdinline_text_machine.proofs.Prelude.{inl, inr, refl, rules, sym, subst, FlowStart, ParagraphLineStart, ParagraphStart, ParagraphInside, TextStart, TextBefore, TextBeforeData, DataAtBreak, DataInside, RawTextStart, RawTextSequenceOpen, RawTextBetween, RawTextData, RawTextSequenceClose, RawTextAfter, RawTextBackticksStart, RawTextBackticksInside, AutolinkStart, AutolinkOpen, AutolinkSchemeInsideOrEmailAtext, AutolinkUrlInside, CharacterEscapeStart, CharacterEscapeInside, begun, callable, never-called, counts, flow_start, paragraph_line_start, paragraph_start, paragraph_inside, CanLinkChunk, known-before, can-follow, texts, text_start, text_before, text_before_data, data_at_break, data_inside, raw_text_start, raw_text_sequence_open, raw_text_between, raw_text_data, raw_text_sequence_close, raw_text_after, raw_text_backticks_start, raw_text_backticks_inside, autolink_start, autolink_open, autolink_scheme, autolink_url, escape_start, escape_inside, flow, in-paragraphs, in-text}
use Rattle.mdinline_text_machine.proofs.text.TextMachine.call.Goals as goal

pub flow_start-requires : goal.flow_start-requires
flow_start-requires c = callable flow counts (λ local. refl) c.args.name flow_start _ _ (search rules) refl (in-paragraphs c.args.t.now c.args.name FlowStart.number (search rules) refl c.requires.invariant).holds c.begin.ensures

pub paragraph_line_start-requires : goal.paragraph_line_start-requires
paragraph_line_start-requires c = callable flow counts (λ local. refl) c.args.name paragraph_line_start _ _ (search rules) refl (in-paragraphs c.args.t.now c.args.name ParagraphLineStart.number (search rules) refl c.requires.invariant).holds c.begin.ensures

pub paragraph_start-requires : goal.paragraph_start-requires
paragraph_start-requires c =
    let there = in-paragraphs c.args.t.now c.args.name ParagraphStart.number (search rules) refl c.requires.invariant in
    record {
      called = callable flow counts (λ local. refl) c.args.name paragraph_start _ _ (search rules) refl there.holds c.begin.ensures;
      chunk = subst CanLinkChunk (sym c.begin.ensures)
          (can-follow (begun counts c.args.t.now) (known-before c.args.t.now.configuration.events c.args.t.now.configuration.local c.args.t.now.choices c.args.name.number (search rules) there.known));
    }

pub paragraph_inside-requires : goal.paragraph_inside-requires
paragraph_inside-requires c = callable flow counts (λ local. refl) c.args.name paragraph_inside _ _ (search rules) refl (in-paragraphs c.args.t.now c.args.name ParagraphInside.number (search rules) refl c.requires.invariant).holds c.begin.ensures

pub text_start-requires : goal.text_start-requires
text_start-requires c = callable texts counts (λ local. refl) c.args.name text_start _ _ (search rules) refl (in-text c.args.t.now c.args.name TextStart.number (search rules) refl c.requires.invariant) c.begin.ensures

pub text_before-requires : goal.text_before-requires
text_before-requires c = callable texts counts (λ local. refl) c.args.name text_before _ _ (search rules) refl (in-text c.args.t.now c.args.name TextBefore.number (search rules) refl c.requires.invariant) c.begin.ensures

pub text_before_data-requires : goal.text_before_data-requires
text_before_data-requires c = callable texts counts (λ local. refl) c.args.name text_before_data _ _ (search rules) refl (in-text c.args.t.now c.args.name TextBeforeData.number (search rules) refl c.requires.invariant) c.begin.ensures

pub data_at_break-requires : goal.data_at_break-requires
data_at_break-requires c = callable texts counts (λ local. refl) c.args.name data_at_break _ _ (search rules) refl (in-text c.args.t.now c.args.name DataAtBreak.number (search rules) refl c.requires.invariant) c.begin.ensures

pub data_inside-requires : goal.data_inside-requires
data_inside-requires c = callable texts counts (λ local. refl) c.args.name data_inside _ _ (search rules) refl (in-text c.args.t.now c.args.name DataInside.number (search rules) refl c.requires.invariant) c.begin.ensures

pub raw_text_start-requires : goal.raw_text_start-requires
raw_text_start-requires c = callable texts counts (λ local. refl) c.args.name raw_text_start _ _ (search rules) refl (in-text c.args.t.now c.args.name RawTextStart.number (search rules) refl c.requires.invariant) c.begin.ensures

pub raw_text_sequence_open-requires : goal.raw_text_sequence_open-requires
raw_text_sequence_open-requires c = callable texts counts (λ local. refl) c.args.name raw_text_sequence_open _ _ (search rules) refl (in-text c.args.t.now c.args.name RawTextSequenceOpen.number (search rules) refl c.requires.invariant) c.begin.ensures

pub raw_text_between-requires : goal.raw_text_between-requires
raw_text_between-requires c = callable texts counts (λ local. refl) c.args.name raw_text_between _ _ (search rules) refl (in-text c.args.t.now c.args.name RawTextBetween.number (search rules) refl c.requires.invariant) c.begin.ensures

pub raw_text_data-requires : goal.raw_text_data-requires
raw_text_data-requires c = callable texts counts (λ local. refl) c.args.name raw_text_data _ _ (search rules) refl (in-text c.args.t.now c.args.name RawTextData.number (search rules) refl c.requires.invariant) c.begin.ensures

pub raw_text_sequence_close-requires : goal.raw_text_sequence_close-requires
raw_text_sequence_close-requires c = callable texts counts (λ local. refl) c.args.name raw_text_sequence_close _ _ (search rules) refl (in-text c.args.t.now c.args.name RawTextSequenceClose.number (search rules) refl c.requires.invariant) c.begin.ensures

pub raw_text_after-requires : goal.raw_text_after-requires
raw_text_after-requires c = callable texts counts (λ local. refl) c.args.name raw_text_after _ _ (search rules) refl (in-text c.args.t.now c.args.name RawTextAfter.number (search rules) refl c.requires.invariant) c.begin.ensures

pub raw_text_backticks_start-requires : goal.raw_text_backticks_start-requires
raw_text_backticks_start-requires c = callable texts counts (λ local. refl) c.args.name raw_text_backticks_start _ _ (search rules) refl (in-text c.args.t.now c.args.name RawTextBackticksStart.number (search rules) refl c.requires.invariant) c.begin.ensures

pub raw_text_backticks_inside-requires : goal.raw_text_backticks_inside-requires
raw_text_backticks_inside-requires c = callable texts counts (λ local. refl) c.args.name raw_text_backticks_inside _ _ (search rules) refl (in-text c.args.t.now c.args.name RawTextBackticksInside.number (search rules) refl c.requires.invariant) c.begin.ensures

pub autolink_start-requires : goal.autolink_start-requires
autolink_start-requires c = callable texts counts (λ local. refl) c.args.name autolink_start _ _ (search rules) refl (in-text c.args.t.now c.args.name AutolinkStart.number (search rules) refl c.requires.invariant) c.begin.ensures

pub autolink_open-requires : goal.autolink_open-requires
autolink_open-requires c = callable texts counts (λ local. refl) c.args.name autolink_open _ _ (search rules) refl (in-text c.args.t.now c.args.name AutolinkOpen.number (search rules) refl c.requires.invariant) c.begin.ensures

pub autolink_scheme-requires : goal.autolink_scheme-requires
autolink_scheme-requires c = callable texts counts (λ local. refl) c.args.name autolink_scheme _ _ (search rules) refl (in-text c.args.t.now c.args.name AutolinkSchemeInsideOrEmailAtext.number (search rules) refl c.requires.invariant) c.begin.ensures

pub autolink_url-requires : goal.autolink_url-requires
autolink_url-requires c = callable texts counts (λ local. refl) c.args.name autolink_url _ _ (search rules) refl (in-text c.args.t.now c.args.name AutolinkUrlInside.number (search rules) refl c.requires.invariant) c.begin.ensures

pub escape_start-requires : goal.escape_start-requires
escape_start-requires c = callable texts counts (λ local. refl) c.args.name escape_start _ _ (search rules) refl (in-text c.args.t.now c.args.name CharacterEscapeStart.number (search rules) refl c.requires.invariant) c.begin.ensures

pub escape_inside-requires : goal.escape_inside-requires
escape_inside-requires c = callable texts counts (λ local. refl) c.args.name escape_inside _ _ (search rules) refl (in-text c.args.t.now c.args.name CharacterEscapeInside.number (search rules) refl c.requires.invariant) c.begin.ensures

pub unreachable-requires : goal.unreachable-requires
unreachable-requires c = elim c.requires.invariant [
  | inl h ↦ never-called flow c.args.name c.args.t.now (search rules) h.holds
  | inr h ↦ never-called texts c.args.name c.args.t.now (search rules) h.1.0
]
