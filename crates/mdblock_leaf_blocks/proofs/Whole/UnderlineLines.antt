-- A line that could be an underline, where no paragraph comes before it: unless it is a thematic break, a paragraph begins there.
use Rattle.mdblock_leaf_blocks.proofs.Prelude.{◌≡◌, ℕ, ◌==◌, ◌&&◌, nat_le, List, [], ◌∷◌, true, false, cond, Option, Some, ◌⊎◌, inl, inr, drop, refl, sym, ap, ◌∙◌, eqb-true, and_parts, Constructs, HeadingSetextUnderline, Retry, FlowBeforeContent, FlowBlankLineAfter, Seat, Byte, with_local, Configuration, sight, Given, Text, goes-called, Row, Rows, row, picked, step_of, table_step, is_white, blank_begins_line, flow_blank_line_after, mark_begins_line, FlowByte, blank, dash, equals, flow_byte, word_byte, line_feed, flow, unchanged, begins_with, unindented, underline, seen_kind}
use Rattle.mdblock_leaf_blocks.proofs.Lines.{called-row, class-here, says}
use Rattle.mdblock_leaf_blocks.proofs.Whole.Told.{ToldTo, told-none}

-- the class of the first byte of such a line
underline-class : (on : Constructs) (b : ℕ) (bs : List ℕ) → (b == 10) ≡ false → seen_kind on (b ∷ bs) ≡ underline → (flow_byte b ≡ blank) ⊎ ((flow_byte b ≡ equals) ⊎ (flow_byte b ≡ dash))
underline-class on b bs other is =
    elim (is_white b) as (λ w. is_white b ≡ w → (flow_byte b ≡ blank) ⊎ ((flow_byte b ≡ equals) ⊎ (flow_byte b ≡ dash))) [
      | true ↦ λ white. inl (ap (λ f. cond f line_feed (cond (is_white b) blank (word_byte b))) other ∙ ap (λ w. cond w blank (word_byte b)) white)
      | false ↦ λ plain.
          let here : unindented (b ∷ bs) ≡ b ∷ bs = rw plain refl in
          elim (says on (b ∷ bs) is).1 [
            | inl e ↦ let e61 : b ≡ 61 = eqb-true b 61 (sym (ap (begins_with 61) here) ∙ (and_parts (begins_with 61 (unindented (b ∷ bs))) _ e).0) in inr (inl (ap flow_byte e61))
            | inr e ↦ let e45 : b ≡ 45 = eqb-true b 45 (sym (ap (begins_with 45) here) ∙ (and_parts (begins_with 45 (unindented (b ∷ bs))) _ e).0) in inr (inr (ap flow_byte e45))
          ]
    ] refl

-- A paragraph begins there
module _ (g : Given) (t : Text) (k : Configuration Unit Unit) (s : Seat) (ss : List Seat) (at : drop k.position t.seats ≡ s ∷ ss) (waits : k.waiting ≡ Byte)
    (kind : k.local.tokenize_state.token_1 ≡ HeadingSetextUnderline) (no_break : (g.options.constructs.thematic_break && ((k.local.tokenize_state.marker == 45) && nat_le 3 k.local.tokenize_state.size_b)) ≡ false) where
  abbrev pub after : Configuration Unit Unit
  after = with_local k (unchanged k.local)

  abbrev nothing : Row Unit Unit
  nothing = record { acts = []; answer = Retry FlowBeforeContent }

  goes-by : (w : FlowByte) → flow_byte s.byte ≡ w → (rows : Rows Unit Unit) → ((previous : Option FlowByte) → flow_blank_line_after.rows previous (Some w) ≡ rows)
      → picked rows g (sight g t k) after ≡ nothing → ToldTo g t k (Retry FlowBlankLineAfter) [] after (Retry FlowBeforeContent)
  goes-by w of_class rows row_is is =
      let step = called-row g t k FlowBlankLineAfter flow_blank_line_after refl (Some w) (class-here g t k (s ∷ ss) at waits ∙ ap Some of_class) rows row_is in
      told-none g t k after (Retry FlowBlankLineAfter) (Retry FlowBeforeContent) 1 refl (record { edits = refl; resolvers = refl })
      (λ cs calls z h. (goes-called g (table_step flow g) t k FlowBlankLineAfter after (Retry FlowBeforeContent) (step ∙ ap (λ r. step_of r (sight g t k) after) is)).leads cs calls z h)

  pub underline-goes : (s.byte == 10) ≡ false → (bs : List ℕ) → seen_kind g.options.constructs (s.byte ∷ bs) ≡ underline
      → ToldTo g t k (Retry FlowBlankLineAfter) [] after (Retry FlowBeforeContent)
  underline-goes other bs is = elim (underline-class g.options.constructs s.byte bs other is) [
    | inl white ↦ goes-by blank white blank_begins_line (λ previous. refl) (rw (kind, no_break) refl)
    | inr marks ↦ elim marks [
      | inl e61 ↦ goes-by equals e61 (row [] (Retry FlowBeforeContent)) (λ previous. refl) refl
      | inr e45 ↦ goes-by dash e45 mark_begins_line (λ previous. refl) (rw (kind, no_break) refl)
    ]
  ]
