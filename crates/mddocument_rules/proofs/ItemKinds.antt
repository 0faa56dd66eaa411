-- Items of inline text by the names of their events: none has a name of links and of their labels; and those that make nothing have no end, and no tail.
use Rattle.mddocument_rules.proofs.Prelude.{◌≡◌, ℕ, zero, suc, Bool, true, false, cond, List, [], ◌∷◌, Option, Some, None, drop, refl, take, inl, inr, ◌⊎◌, false_from_ne_true, false≢true, flat_map, length, every-append, AllByRecursion, Constructs, Event, Name, Seat, is_wanted, same_name}
use Rattle.std.proofs.lemmas.Bool.{or_parts}
use Rattle.std.specs.List.{prefix_len}
use Rattle.markdown_base.specs.declared.event.Name.TheVariants as name
use Rattle.mdconstructs_tables.specs.Breaks.{is_white}
use Rattle.mdinline_constructs.specs.WhiteSpace.{white_space}
use Rattle.mdinline_machine.proofs.BracketBytes.{bracket-holds}
use Rattle.mdinline_machine.specs.Brackets.{Bracket, Memory, after_item, image_bracket, label_end, link_bracket, lone_end, nothing_read, tail_of}
use Rattle.mdinline_machine.specs.InlineEvents.{bracket_or_part, data_length, data_run, delimiter_run, inline_grammars, inline_item_at, inline_items, line_break, run_length, run_or_part}
use Rattle.mdinline_machine.specs.RunRows.{begins_run}
use Rattle.mdinline_text_machine.proofs.Constructs.Apart.{EachThere, OfOption, there-holds}
use Rattle.mdinline_text_machine.specs.Bytes.{has_byte_at, is_line_feed}
use Rattle.mdinline_text_machine.specs.Construct.{Found, Grammar, makes}
use Rattle.mdinline_text_machine.specs.Items.{item_length}
use Rattle.mdinline_text_machine.specs.Parts.{bytes_of, cut_remembering}
use Rattle.mdinline_text_machine.specs.TextEvents.{item_events}
use Rattle.mddocument_laws.proofs.ItemNames.{Fits, IfItem, inlines-fit}
use Rattle.mddocument_laws.proofs.Named.{Named, and, leafed, spanned, weaker}
use Rattle.mddocument_laws.proofs.PlainNames.{plain-may}
use Rattle.mddocument_laws.specs.Names.{may_be_named}
use Rattle.mddocument_rules.proofs.Places.{by-wanted}
use Rattle.mddocument_rules.proofs.QuietItems.{IsQuiet, strange_names, tail-quiet, without}

-- ---- names that no item has
abbrev pub IsKnown : Name → Type 0
IsKnown n = is_wanted strange_names n ≡ false

quiet-known : (n : Name) → IsQuiet n → IsKnown n
quiet-known n q =
    let a = or_parts (same_name name.LabelLink n) (is_wanted (name.LabelImage ∷ name.LabelEnd ∷ name.LabelMarker ∷ strange_names) n) q in
    let b = or_parts (same_name name.LabelImage n) (is_wanted (name.LabelEnd ∷ name.LabelMarker ∷ strange_names) n) a.1 in
    let c = or_parts (same_name name.LabelEnd n) (is_wanted (name.LabelMarker ∷ strange_names) n) b.1 in
    (or_parts (same_name name.LabelMarker n) (is_wanted strange_names n) c.1).1

-- those, and names of ends and of tails
abbrev pub ending_names : List Name
ending_names = name.LabelEnd ∷ name.Resource ∷ name.Reference ∷ strange_names

abbrev pub IsCalm : Name → Type 0
IsCalm n = is_wanted ending_names n ≡ false

calm-known : (n : Name) → IsCalm n → IsKnown n
calm-known n q =
    let a = or_parts (same_name name.LabelEnd n) (is_wanted (name.Resource ∷ name.Reference ∷ strange_names) n) q in
    let b = or_parts (same_name name.Resource n) (is_wanted (name.Reference ∷ strange_names) n) a.1 in
    (or_parts (same_name name.Reference n) (is_wanted strange_names n) b.1).1

calm-name : (n : Name) → may_be_named without n ≡ true → IsCalm n
calm-name n may =
    false_from_ne_true (is_wanted ending_names n)
    (λ e. by-wanted (λ m. may_be_named without m ≡ true → ⊥) ending_names n
    ((λ f. false≢true f), ((λ f. false≢true f), ((λ f. false≢true f), ((λ f. false≢true f), ((λ f. false≢true f), ((λ f. false≢true f), ((λ f. false≢true f), ((λ f. false≢true f), tt)))))))) e may)

-- ---- items
module _ (bytes : List ℕ) where
  -- what is found has known names; and it makes something of a bracket, or has calm names
  pub record IsSorted (f : Found) : Type 0 where
    pub known : (seats : List Seat) → Named IsKnown (f.events bytes seats)
    pub calm : (f.mark ≡ makes) ⊎ ((seats : List Seat) → Named IsCalm (f.events bytes seats))

  calm-sorted : (f : Found) → ((seats : List Seat) → Named IsCalm (f.events bytes seats)) → IsSorted f
  calm-sorted f h = record { known = λ seats. weaker calm-known (f.events bytes seats) (h seats); calm = inr h }

  -- constructs
  of-option : (o : Option Found) → IfItem without o → OfOption IsSorted o
  of-option None h = tt
  of-option (Some f) h = calm-sorted f (λ seats. weaker (λ n may. calm-name n (plain-may without n may)) (f.events bytes seats) (h.names bytes seats).named)

  each-sorted : (grammars : List (Grammar Found)) (text : List ℕ) → AllByRecursion (Fits without) grammars → AllByRecursion (λ (g : Grammar Found). g.on without ≡ true) grammars → EachThere IsSorted grammars text
  each-sorted [] text h k = tt
  each-sorted (g ∷ grammars) text h k = (of-option (g.front text) (h.0 k.0 text), each-sorted grammars text h.1 k.1)

  -- runs, line endings and data
  run-sorted : (on : Constructs) (text : List ℕ) → IsSorted (run_or_part on text)
  run-sorted on text =
      let line = line_break (prefix_len is_white (drop 1 text)) in
      elim (has_byte_at text 0 (begins_run on)) as (λ x. IsSorted (cond x (delimiter_run (run_length text)) (cond (has_byte_at text 0 is_line_feed) line (data_run (data_length on text))))) [
        | true ↦ calm-sorted (delimiter_run (run_length text)) (λ seats. leafed bytes name.AttentionSequence seats refl)
        | false ↦ elim (has_byte_at text 0 is_line_feed) as (λ x. IsSorted (cond x line (data_run (data_length on text)))) [
          | true ↦ calm-sorted line (λ seats. and (leafed bytes name.LineEnding (take 1 seats) refl) (leafed bytes name.SpaceOrTab (drop 1 seats) refl))
          | false ↦ calm-sorted (data_run (data_length on text)) (λ seats. leafed bytes name.Data seats refl)
        ]
      ]

  module _ (on : Constructs) (defined : List ℕ → Bool) where
    -- an end, with its tail
    end-sorted : (b : Bracket) (m : Memory) (text : List ℕ) (tail : Found) → tail_of defined bytes b m text ≡ Some tail → IsSorted (label_end tail)
    end-sorted b m text tail is = record {
      known = λ seats.
          and (spanned bytes name.LabelEnd (take 1 seats) refl (leafed bytes name.LabelMarker (take 1 seats) refl))
          (weaker quiet-known (tail.events bytes (drop 1 seats)) (tail-quiet bytes defined b m text tail is (drop 1 seats)));
      calm = inl refl;
    }

    item-sorted : (m : Memory) (text : List ℕ) → IsSorted (inline_item_at on defined bytes m text)
    item-sorted m text =
        there-holds IsSorted inline_grammars on text (bracket_or_part on defined bytes m text) (each-sorted inline_grammars text (inlines-fit without) (refl, (refl, (refl, (refl, (refl, (refl, (refl, (refl, (refl, (refl, tt)))))))))))
        (bracket-holds IsSorted on defined bytes m text (run_or_part on text)
        (calm-sorted link_bracket (λ seats. spanned bytes name.LabelLink seats refl (leafed bytes name.LabelMarker seats refl)))
        (λ e. calm-sorted image_bracket (λ seats. spanned bytes name.LabelImage seats refl (and (leafed bytes name.LabelImageMarker (take 1 seats) refl) (leafed bytes name.LabelMarker (drop 1 seats) refl))))
        (calm-sorted lone_end (λ seats. leafed bytes name.LabelMarker seats refl))
        (λ b tail is. end-sorted b m (drop 1 text) tail is) (run-sorted on text))

    abbrev pub AreSorted : List (Found × List Seat) → Type 0
    AreSorted items = AllByRecursion (λ (i : Found × List Seat). IsSorted i.0) items

    cut-sorted : (bound : ℕ) (m : Memory) (seats : List Seat) → AreSorted (cut_remembering (after_item bytes) (inline_item_at on defined bytes) item_length bound m seats)
    cut-sorted zero m seats = tt
    cut-sorted (suc bound) m [] = tt
    cut-sorted (suc bound) m (s ∷ ss) = let f = inline_item_at on defined bytes m (bytes_of (s ∷ ss)) in (item-sorted m (bytes_of (s ∷ ss)), cut-sorted bound (after_item bytes m f) (drop f.size (s ∷ ss)))

    -- So it is of all items of a text
    pub items-sorted : (seats : List Seat) → AreSorted (inline_items on defined bytes seats)
    items-sorted seats =
        let n = prefix_len is_white (bytes_of seats) in
        (calm-sorted (white_space n) (λ seats. leafed bytes name.SpaceOrTab seats refl), cut-sorted (length seats) (after_item bytes (nothing_read seats) (white_space n)) (drop n seats))

    -- and their events have known names
    pub known-events : (items : List (Found × List Seat)) → AreSorted items → AllByRecursion (λ (e : Event). IsKnown e.name) (flat_map (item_events bytes) items)
    known-events [] h = tt
    known-events (i ∷ items) h = every-append (λ (e : Event). IsKnown e.name) (i.0.events bytes i.1) (flat_map (item_events bytes) items) (h.0.known i.1).all (known-events items h.1)
