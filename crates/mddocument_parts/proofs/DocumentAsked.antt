-- Which labels the texts of a document ask for, and that only these decide.
use Rattle.std.proofs.Common.{Bool, List, None, Option, Some, [], ap, cond, drop, false, length, not, refl, suc, take, true, zero, ℕ, ◌&&◌, ◌++◌, ◌∙◌, ◌∷◌, ◌≡◌}
use Rattle.std.specs.List.{flat_map, prefix_len}
use Rattle.std.specs.Option.{is_some, option_and_then, option_or}
use Rattle.std.specs.Prelude.{map, option_map}
use Rattle.markdown_base.specs.Virtual.{Seat}
use Rattle.markdown_base.specs.declared.configuration.Constructs.{Constructs}
use Rattle.markdown_base.specs.declared.configuration.ParseOptions.{ParseOptions}
use Rattle.markdown_base.specs.declared.event.Content.TheVariants as content
use Rattle.markdown_base.specs.declared.event.Event.{Event}
use Rattle.markdown_tokenizer.proofs.Positions.Order.{every-back, every-front}
use Rattle.markdown_tokenizer.specs.Text.{Given}
use Rattle.markdown_children.specs.Chains.{fitting_starts}
use Rattle.markdown_children.specs.Children.{with_children}
use Rattle.mdconstructs_tables.specs.Breaks.{is_white}
use Rattle.mdinline_text_machine.specs.Bytes.{has_byte_at}
use Rattle.mdinline_text_machine.specs.Construct.{Found, first_there, or_else}
use Rattle.mdinline_text_machine.specs.Items.{item_length}
use Rattle.mdinline_text_machine.specs.Parts.{bytes_of, cut_remembering}
use Rattle.mdinline_text_machine.specs.ReadChains.{chain_text}
use Rattle.mdinline_text_machine.specs.TextEvents.{item_events}
use Rattle.mdinline_labels.specs.Labels.{is_label}
use Rattle.mdinline_links.specs.Linked.{with_links}
use Rattle.mdinline_constructs.specs.WhiteSpace.{white_space}
use Rattle.mdinline_link_strings.specs.Strings.{with_strings}
use Rattle.mdinline_link_tails.specs.Resource.{resource_grammar}
use Rattle.mdinline_full_references.specs.FullReference.{full_reference, label_length, label_text}
use Rattle.mdinline_machine.specs.Brackets.{Bracket, Memory, after_item, begins_end, begins_link, end_at, has_bracket, image_bracket, is_image_bracket, is_wanted_at, label_end, link_bracket, lone_end, nothing_read, own_is_defined, own_tail}
use Rattle.mdinline_machine.specs.InlineChains.{with_strings as with_string_chunks}
use Rattle.mdinline_machine.specs.InlineEvents.{inline_events, inline_grammars, inline_item_at, inline_items, run_or_part}
use Rattle.mddocument.specs.Documents.{document}
use Rattle.mddocument_parts.specs.Asked.{Agree, asked_from, asked_labels, if_label, label_ahead, label_behind, labels_at, looked_up, own_label}
use Rattle.mddocument_parts.specs.BothDocuments.{DocumentLabelsDecide, blocks_of}

-- ==== Which labels are defined matters for those alone that are looked up.
module _ (bytes : List ℕ) (on : Constructs) (defined others : List ℕ → Bool) where
  abbrev Same : List ℕ → Type 0
  Same label = others label ≡ defined label

  label-agrees : (label : List ℕ) → Agree defined others (if_label label) → (is_label label && others label) ≡ (is_label label && defined label)
  label-agrees label h = by (is_label label) h
    where
      by : (c : Bool) → Agree defined others (cond c (label ∷ []) []) → (c && others label) ≡ (c && defined label)
      by true h = h.0
      by false h = refl

  own-agrees : (b : Bracket) (m : Memory) → Agree defined others (if_label (own_label bytes b m)) → own_is_defined others bytes b m ≡ own_is_defined defined bytes b m
  own-agrees b m h = ap (λ d. not (has_bracket (drop b.count m.events)) && d) (label-agrees (own_label bytes b m) h)

  abbrev full_with : (wanted : List ℕ → Bool) → (behind : List ℕ) → Option ℕ → Option Found
  full_with wanted behind o = option_and_then (λ n. cond (wanted (label_text n behind)) (Some (full_reference n)) None) o

  full-agrees : (ahead : List Seat) (behind : List ℕ) (o : Option ℕ) → Agree defined others (label_behind bytes ahead behind o)
      → full_with (is_wanted_at others bytes ahead) behind o ≡ full_with (is_wanted_at defined bytes ahead) behind o
  full-agrees ahead behind None h = refl
  full-agrees ahead behind (Some n) h = ap (λ d. cond d (Some (full_reference n)) None) (label-agrees (label_ahead bytes ahead (label_text n behind)) h)

  end-agrees : (bs : List Bracket) (m : Memory) (behind : List ℕ) → Agree defined others (labels_at bytes bs m behind) → end_at others bytes bs m behind ≡ end_at defined bytes bs m behind
  end-agrees [] m behind h = refl
  end-agrees (b ∷ bs) m behind h =
      let own = if_label (own_label bytes b m) in
      let full_one = label_behind bytes m.ahead behind (label_length behind) in
      let full = full-agrees m.ahead behind (label_length behind) (every-back Same own full_one h) in
      let own = own-agrees b m (every-front Same own full_one h) in
      (λ i.
      let tail = option_or (resource_grammar.front behind) (option_or (full i) (cond (not (is_some (label_length behind)) && own i) (Some (own_tail behind)) None)) in
      Some (cond b.inactive lone_end (or_else (option_map label_end tail) lone_end)))

  item-agrees : (m : Memory) (text : List ℕ) → Agree defined others (looked_up bytes on m text) → inline_item_at on others bytes m text ≡ inline_item_at on defined bytes m text
  item-agrees m text h =
      ap (λ end.
      let bracket = cond (has_byte_at text 0 (begins_link on)) (Some link_bracket) (cond (is_image_bracket on text) (Some image_bracket) end) in
      first_there inline_grammars on text (or_else bracket (run_or_part on text)))
      (by (has_byte_at text 0 (begins_end on)) h)
    where
      by : (c : Bool) → Agree defined others (cond c (labels_at bytes m.waiting m (drop 1 text)) []) → cond c (end_at others bytes m.waiting m (drop 1 text)) None ≡ cond c (end_at defined bytes m.waiting m (drop 1 text)) None
      by true h = end-agrees m.waiting m (drop 1 text) h
      by false h = refl

  -- the items are the same, and the same labels are looked up
  items-agree : (n : ℕ) (m : Memory) (seats : List Seat) → Agree defined others (asked_from bytes on defined n m seats)
      → (cut_remembering (after_item bytes) (inline_item_at on others bytes) item_length n m seats ≡ cut_remembering (after_item bytes) (inline_item_at on defined bytes) item_length n m seats)
      × (asked_from bytes on others n m seats ≡ asked_from bytes on defined n m seats)
  items-agree zero m seats h = (refl, refl)
  items-agree (suc n) m [] h = (refl, refl)
  items-agree (suc n) m (s ∷ ss) h =
      let text = bytes_of (s ∷ ss) in
      let here = looked_up bytes on m text in
      let item = inline_item_at on defined bytes m text in
      let rest = asked_from bytes on defined n (after_item bytes m item) (drop item.size (s ∷ ss)) in
      let same = item-agrees m text (every-front (λ label. others label ≡ defined label) here rest h) in
      let more = items-agree n (after_item bytes m item) (drop item.size (s ∷ ss)) (every-back (λ label. others label ≡ defined label) here rest h) in (
        ap (λ (i : Found). (i, take (item_length i) (s ∷ ss)) ∷ cut_remembering (after_item bytes) (inline_item_at on others bytes) item_length n (after_item bytes m i) (drop (item_length i) (s ∷ ss))) same
            ∙ ap (λ items. (item, take (item_length item) (s ∷ ss)) ∷ items) more.0,
        ap (λ (i : Found). here ++ asked_from bytes on others n (after_item bytes m i) (drop i.size (s ∷ ss))) same ∙ ap (λ labels. here ++ labels) more.1,
      )

  pub labels-decide : (one : Bool) (seats : List Seat) → Agree defined others (asked_labels bytes on defined seats)
      → (with_links one bytes (flat_map (item_events bytes) (inline_items on others bytes seats)) ≡ with_links one bytes (flat_map (item_events bytes) (inline_items on defined bytes seats)))
      × (asked_labels bytes on others seats ≡ asked_labels bytes on defined seats)
  labels-decide one seats h =
      let n = prefix_len is_white (bytes_of seats) in
      let all = items-agree (length seats) (after_item bytes (nothing_read seats) (white_space n)) (drop n seats) h in
      (ap (λ items. with_links one bytes (flat_map (item_events bytes) ((white_space n, take n seats) ∷ items))) all.0, all.1)

-- ==== Which labels the events of a document depend on: those that are looked up in its texts.
module _ (defined others : List ℕ → Bool) (options : ParseOptions) (bytes : List ℕ) where
  abbrev g : Given
  g = document options bytes

  abbrev blocks : List Event
  blocks = blocks_of options bytes

  abbrev asked : (List ℕ → Bool) → ℕ → List (List ℕ)
  asked labels c = asked_labels bytes options.constructs labels (chain_text g blocks c).seats

  texts-agree : (cs : List ℕ) → Agree defined others (flat_map (asked defined) cs)
      → (map (λ c. inline_events others g (chain_text g blocks c)) cs ≡ map (λ c. inline_events defined g (chain_text g blocks c)) cs) × (flat_map (asked others) cs ≡ flat_map (asked defined) cs)
  texts-agree [] h = (refl, refl)
  texts-agree (c ∷ cs) h =
      let Same = λ (label : List ℕ). others label ≡ defined label in
      let here = labels-decide bytes options.constructs defined others options.gfm_strikethrough_single_tilde (chain_text g blocks c).seats (every-front Same (asked defined c) (flat_map (asked defined) cs) h) in
      let rest = texts-agree cs (every-back Same (asked defined c) (flat_map (asked defined) cs) h) in
      ((λ i. here.0 i ∷ rest.0 i), (λ i. here.1 i ++ rest.1 i))

pub document-labels-decide : DocumentLabelsDecide
document-labels-decide defined others options bytes h =
    let g = document options bytes in
    let blocks = blocks_of options bytes in
    let same = texts-agree defined others options bytes (fitting_starts (Some content.Text) blocks) h in
    (ap (λ children. with_strings options.constructs options.tab_size bytes (with_string_chunks g (with_children (Some content.Text) blocks children))) same.0, same.1)
