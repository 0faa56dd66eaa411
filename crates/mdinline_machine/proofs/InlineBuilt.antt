-- What is read of inline text is balanced, and no event of it has a link: that holds of each item.
use Rattle.mdinline_machine.proofs.Prelude.{◌≡◌, ℕ, zero, suc, ◌-◌, Bool, List, [], ◌∷◌, ◌++◌, false, true, cond, take, drop, length, refl, flat_map, prefix_len, Constructs, Event, Enter, Exit, AttentionSequence, Data, LineEnding, SpaceOrTab, IsBalanced, empty, balanced_span, Seat, end_after, IsBalanced-append, HaveNoLinks, Given, Text, is_white, has_byte_at, is_line_feed, item_length, bytes_of, Found, Memory, Some, after_item, bracket_or_part, cut_remembering, label_end, nothing_read, event, leaf, span, item_events, autolink-built, lined-code-built, EachThere, there-holds, escape-built, IsKeptBySpans, IsBuilt, links-kept, email-built, html-mark-built, html-tag-built, break-escape-built, trailing-break-built, reference-built, white-space-built, begins_run, data_length, data_run, delimiter_run, inline_grammars, inline_item_at, inline_items, line_break, read_events, run_length, run_or_part}
use Rattle.markdown_base.specs.declared.event.Name.{Name}
use Rattle.markdown_base.specs.declared.event.Name.TheVariants.{LabelEnd, LabelImage, LabelImageMarker, LabelLink, LabelMarker, Reference, ReferenceMarker}
use Rattle.mdinline_link_tails.proofs.Resources.Built.{resource-built}
use Rattle.mdinline_full_references.proofs.FullReferences.Built.{full-reference-built}
use Rattle.mdinline_constructs.specs.WhiteSpace.{white_space}
use Rattle.mdinline_machine.specs.Brackets.{Bracket, collapsed_reference, is_wanted_at, tail_of}
use Rattle.mdinline_machine.proofs.BracketBytes.{bracket-holds, tail-holds}

module _ (bytes : List ℕ) (P : List Event → Type 0) (kept : IsKeptBySpans bytes P) (on : Constructs) where
  other-built : (text : List ℕ) → IsBuilt bytes P kept (run_or_part on text)
  other-built text = elim (has_byte_at text 0 (begins_run on)) as (λ t. IsBuilt bytes P kept (cond t (delimiter_run (run_length text)) (cond (has_byte_at text 0 is_line_feed) (line_break (prefix_len is_white (drop 1 text))) (data_run (data_length on text))))) [
    | true ↦ λ seats. kept.alone AttentionSequence seats
    | false ↦ elim (has_byte_at text 0 is_line_feed) as (λ t. IsBuilt bytes P kept (cond t (line_break (prefix_len is_white (drop 1 text))) (data_run (data_length on text)))) [
      | true ↦ λ seats. kept.both (leaf bytes LineEnding (take 1 seats)) (leaf bytes SpaceOrTab (drop 1 seats)) (kept.alone LineEnding (take 1 seats)) (kept.alone SpaceOrTab (drop 1 seats))
      | false ↦ λ seats. kept.alone Data seats
    ]
  ]

  -- of what each construct has at the front of a text
  each-built : (text : List ℕ) → EachThere (IsBuilt bytes P kept) inline_grammars text
  each-built text = (
    lined-code-built bytes P kept text,
    (autolink-built bytes P kept text, (email-built bytes P kept text, (html-mark-built bytes P kept text, (html-tag-built bytes P kept text, (escape-built bytes P kept text, (break-escape-built bytes P kept text, (reference-built bytes P kept text, (trailing-break-built bytes P kept text, (white-space-built bytes P kept text, tt))))))))),
  )

  -- of tails
  collapsed-built : IsBuilt bytes P kept collapsed_reference
  collapsed-built seats =
      let first = leaf bytes ReferenceMarker (take 1 seats) in
      let last = leaf bytes ReferenceMarker (drop (length seats - 1) seats) in
      kept.around Reference seats (first ++ ([] ++ last)) refl (kept.both first ([] ++ last) (kept.alone ReferenceMarker (take 1 seats)) (kept.alone ReferenceMarker (drop (length seats - 1) seats)))

  -- which labels are defined, and the bytes of the document
  module _ (defined : List ℕ → Bool) (doc : List ℕ) where
    tail-built : (b : Bracket) (m : Memory) (text : List ℕ) (tail : Found) → tail_of defined doc b m text ≡ Some tail → IsBuilt bytes P kept tail
    tail-built b m text =
        tail-holds defined doc (IsBuilt bytes P kept) b m text (resource-built bytes P kept text) (full-reference-built bytes P kept (is_wanted_at defined doc m.ahead) text) (λ e. collapsed-built) (λ seats. kept.none)

    -- of brackets and ends
    end-built : (m : Memory) (text : List ℕ) (b : Bracket) (tail : Found) → tail_of defined doc b m text ≡ Some tail → IsBuilt bytes P kept (label_end tail)
    end-built m text b tail is seats =
        kept.both (span bytes LabelEnd (take 1 seats) (leaf bytes LabelMarker (take 1 seats))) (tail.events bytes (drop 1 seats)) (kept.around LabelEnd (take 1 seats) (leaf bytes LabelMarker (take 1 seats)) refl (kept.alone LabelMarker (take 1 seats)))
        (tail-built b m text tail is (drop 1 seats))

    bracket-built : (m : Memory) (text : List ℕ) → IsBuilt bytes P kept (bracket_or_part on defined doc m text)
    bracket-built m text =
        bracket-holds (IsBuilt bytes P kept) on defined doc m text (run_or_part on text) (λ seats. kept.around LabelLink seats (leaf bytes LabelMarker seats) refl (kept.alone LabelMarker seats))
        (λ e seats. kept.around LabelImage seats (leaf bytes LabelImageMarker (take 1 seats) ++ leaf bytes LabelMarker (drop 1 seats)) refl
        (kept.both (leaf bytes LabelImageMarker (take 1 seats)) (leaf bytes LabelMarker (drop 1 seats)) (kept.alone LabelImageMarker (take 1 seats)) (kept.alone LabelMarker (drop 1 seats))))
        (λ seats. kept.alone LabelMarker seats) (end-built m (drop 1 text)) (other-built text)

    item-built : (m : Memory) (text : List ℕ) → IsBuilt bytes P kept (inline_item_at on defined doc m text)
    item-built m text = there-holds (IsBuilt bytes P kept) inline_grammars on text (bracket_or_part on defined doc m text) (each-built text) (bracket-built m text)

    pub items-built : (n : ℕ) (q : Memory) (seats : List Seat) → P (flat_map (item_events bytes) (cut_remembering (after_item doc) (inline_item_at on defined doc) item_length n q seats))
    items-built zero q seats = kept.none
    items-built (suc n) q [] = kept.none
    items-built (suc n) q (s ∷ ss) =
        let item = inline_item_at on defined doc q (bytes_of (s ∷ ss)) in
        let m = item_length item in
        let behind = after_item doc q item in
        kept.both (item_events bytes (item, take m (s ∷ ss))) (flat_map (item_events bytes) (cut_remembering (after_item doc) (inline_item_at on defined doc) item_length n behind (drop m (s ∷ ss))))
        (item-built q (bytes_of (s ∷ ss)) (take m (s ∷ ss))) (items-built n behind (drop m (s ∷ ss)))

    -- and so of the events of all items
    pub all-built : (seats : List Seat) → P (flat_map (item_events bytes) (inline_items on defined doc seats))
    all-built seats =
        let n = prefix_len is_white (bytes_of seats) in
        let q = after_item doc (nothing_read seats) (white_space n) in
        kept.both (leaf bytes SpaceOrTab (take n seats)) (flat_map (item_events bytes) (cut_remembering (after_item doc) (inline_item_at on defined doc) item_length (length seats) q (drop n seats))) (kept.alone SpaceOrTab (take n seats))
        (items-built (length seats) q (drop n seats))

module _ (bytes : List ℕ) where
  pub span-balanced : (name : Name) (seats : List Seat) (es : List Event) → IsBalanced es → IsBalanced (span bytes name seats es)
  span-balanced name [] es h = h
  span-balanced name (s ∷ ss) es h = balanced_span (event bytes Enter name s.point) (event bytes Exit name (end_after s.end ss)) es [] refl refl refl refl h empty

  pub balance-kept : IsKeptBySpans bytes IsBalanced
  balance-kept = record {
    none = empty;
    both = IsBalanced-append;
    alone = λ name seats. span-balanced name seats [] empty;
    around = λ name seats es other h. span-balanced name seats es h;
  }

-- the events that are read of a text
pub read-balanced : (defined : List ℕ → Bool) (g : Given) (text : Text) → IsBalanced (read_events defined g text)
read-balanced defined g text = all-built g.bytes IsBalanced (balance-kept g.bytes) g.options.constructs defined g.bytes text.seats

pub read-alone : (defined : List ℕ → Bool) (g : Given) (text : Text) → HaveNoLinks (read_events defined g text)
read-alone defined g text = all-built g.bytes HaveNoLinks (links-kept g.bytes) g.options.constructs defined g.bytes text.seats
