-- The calls of a paragraph's states in which it, or a chunk of it, begins; and the bytes of a line.
use Rattle.mdblock_leaf_blocks.proofs.Prelude.{Bool, List, Some, [], ap, cond, false, refl, true, ◌==◌, ◌∙◌, ◌∷◌, ◌≡◌, Seat, Data, Paragraph, Point, Next, Retry, FlowAfter, FlowBeforeContent, ParagraphInside, ParagraphLineStart, ParagraphStart, Configuration, Sight, byte_of, seat_before, Given, Text, Check, flow_byte, paragraph_begins, ParagraphLineAfter, ParagraphLookStart, text_link, chunk_before, connected, is_connected, last_event, Act, Row, Rows, choose, chooses, does, enter, enter_link, exit, links, picked, row, when, write, sight_before}
use Rattle.mdconstructs_tables.specs.Chunks.{alone}
use Rattle.mdblock_leaf_blocks.proofs.Lines.{IsAt, Keeping, Leads, Runs, counted, is_in_line, line-runs, row-leads}
use Rattle.mdblock_leaf_blocks.proofs.Looks.ByteClasses.{feed-is}

-- nothing that states share changes
abbrev pub same_kept : Keeping
same_kept = record { kept = λ a b. b ≡ a; same = λ l. refl; on = λ a b c h k. k ∙ h }

pub inside_runs : Runs ParagraphInside is_in_line
inside_runs = line-runs ParagraphInside (row (choose Check (Next ParagraphLineStart) (Next ParagraphLineAfter) ∷ []) (Retry ParagraphLookStart)) (λ b c. refl)

-- what begins a paragraph, and a chunk: linked to the one before, or alone
abbrev paragraph_acts : List (Act Unit Unit)
paragraph_acts = enter Paragraph ∷ write alone ∷ write paragraph_begins ∷ []

abbrev chunk_acts : (linked : Bool) → List (Act Unit Unit)
chunk_acts true = enter_link Data text_link ∷ links chunk_before last_event ∷ write connected ∷ []
chunk_acts false = enter_link Data text_link ∷ write connected ∷ []

module _ (g : Given) (t : Text) (k : Configuration Unit Unit) (p : Point) (s : Seat) (rest : List Seat) where
  abbrev sight : Sight
  sight = sight_before g t.end p (byte_of (seat_before t k.position)) (s ∷ rest)

  abbrev pub opened : Configuration Unit Unit
  opened = does paragraph_acts sight (counted k)

  abbrev pub begun : (linked : Bool) → Configuration Unit Unit
  begun linked = does (chunk_acts linked) sight (counted k)

  module _ (at : IsAt t k p (s ∷ rest)) where
    pub opens : Leads g t k (Retry FlowBeforeContent) opened (Retry ParagraphStart)
    opens = row-leads g t k FlowBeforeContent p (s ∷ rest) (Some (flow_byte s.byte)) paragraph_acts (Retry ParagraphStart) at refl refl refl

    pub begins : (linked : Bool) → k.local.tokenize_state.connect ≡ linked → (s.byte == 10) ≡ false → Leads g t k (Retry ParagraphStart) (begun linked) (Retry ParagraphInside)
    begins linked is in_line =
        let rows : Bool → Rows Unit Unit = λ linked. row (chunk_acts linked) (Retry ParagraphInside) in
        let by : Bool → Row Unit Unit = λ linked. record { acts = chunk_acts linked; answer = Retry ParagraphInside } in
        row-leads g t k ParagraphStart p (s ∷ rest) (Some (flow_byte s.byte)) (chunk_acts linked) (Retry ParagraphInside) at refl
        (ap (λ b. picked (cond b (row (exit Paragraph ∷ []) (Retry FlowAfter)) (when is_connected (rows true) (rows false))) g sight (counted k)) (feed-is s.byte ∙ in_line)
        ∙ ap (λ b. cond b (by true) (by false)) is ∙ (elim linked as (λ b. cond b (by true) (by false) ≡ by b) [ true ↦ refl | false ↦ refl ]))
        (elim linked as (λ b. chooses (chunk_acts b) sight (counted k) [] ≡ []) [ true ↦ refl | false ↦ refl ])
