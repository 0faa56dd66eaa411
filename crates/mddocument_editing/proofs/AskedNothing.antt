-- Bytes without `]` look up no label.
use Rattle.mddocument_editing.proofs.Prelude.{Bool, List, Some, [], ap, cond, drop, eqb-true, false, length, refl, subst, suc, sym, true, zero, ℕ, ◌&&◌, ◌++◌, ◌+◌, ◌∙◌, ◌∷◌, ◌≡◌, and-false, or_parts, AllByRecursion, flat_map, list_any, prefix_len, every-append, every-drop, every-filter, Constructs, ParseOptions, Event, in_range, Seat, begins_with_lf, in_tab, line_feed, other_byte, tab_width, virtual, virtual_from, chain_of, fitting_starts, Given, document, white_space, Memory, after_item, nothing_read, inline_item_at, is_white, asked_from, asked_labels, labels_at, looked_up, blocks_of, BytesWithoutEndAskNothing, has_end, chain_text, ◌==◌}
use Rattle.markdown_base.specs.declared.event.Content.TheVariants as content
use Rattle.markdown_children.specs.Ready.{place_at}
use Rattle.mddocument_parts.proofs.TextsOfBoth.{seats-of}
use Rattle.mdinline_text_machine.proofs.DeepSpans.Chunks.{chunk_seats}
use Rattle.mdinline_text_machine.specs.Parts.{bytes_of}

-- ---- virtual bytes are bytes, line feeds and spaces

module _ (P : ℕ → Type 0) (feed : P 10) (space : P 32) where
  abbrev IsOfByte : Seat → Type 0
  IsOfByte s = P s.byte

  every-in-tab : (byte n line column index vs : ℕ) → P byte → AllByRecursion IsOfByte (in_tab byte n line column index vs)
  every-in-tab byte zero line column index vs h = tt
  every-in-tab byte (suc n) line column index vs h = (h, every-in-tab 32 n line (suc column) index (suc vs) space)

  -- what holds of each byte, of a line feed and of a space holds of each virtual byte
  pub every-virtual : (t line column index : ℕ) (bytes : List ℕ) → AllByRecursion P bytes → AllByRecursion IsOfByte (virtual_from t line column index bytes)
  every-virtual t line column index [] h = tt
  every-virtual t line column index (b ∷ bs) h = by (λ l c. every-virtual t l c (suc index) bs h.1) (b == 10) (b == 13) (begins_with_lf bs) (b == 9) refl
    where
      by : ((l c : ℕ) → AllByRecursion IsOfByte (virtual_from t l c (suc index) bs)) → (p q r w : Bool) → (b == 9) ≡ w
          → AllByRecursion IsOfByte
          (cond p (line_feed line column index ∷ virtual_from t (suc line) 1 (suc index) bs)
          (cond q (cond r (virtual_from t line column (suc index) bs) (line_feed line column index ∷ virtual_from t (suc line) 1 (suc index) bs))
          (cond w (in_tab 9 (tab_width t column) line column index 0 ++ virtual_from t line (column + tab_width t column) (suc index) bs)
          (other_byte b line column index ∷ virtual_from t line (suc column) (suc index) bs))))
      by rest true q r w e = (feed, rest (suc line) 1)
      by rest false true true w e = rest line column
      by rest false true false w e = (feed, rest (suc line) 1)
      by rest false false r true e =
          every-append IsOfByte (in_tab 9 (tab_width t column) line column index 0) (virtual_from t line (column + tab_width t column) (suc index) bs)
          (every-in-tab 9 (tab_width t column) line column index 0 (subst P (eqb-true b 9 e) h.0)) (rest line (column + tab_width t column))
      by rest false false r false e = (h.0, rest line (suc column))

-- what holds of each virtual byte of a document holds of those of a chain's text
module _ (P : Seat → Type 0) (g : Given) (events : List Event) (all : AllByRecursion P (virtual g.tab g.bytes)) where
  every-chunk : (ks : List ℕ) → AllByRecursion P (flat_map (chunk_seats g events) ks)
  every-chunk [] = tt
  every-chunk (k ∷ ks) =
      every-append P (chunk_seats g events k) (flat_map (chunk_seats g events) ks)
      (every-filter P (in_range (place_at events k) (place_at events (k + 1))) (virtual g.tab g.bytes) all) (every-chunk ks)

  pub every-chain : (c : ℕ) → AllByRecursion P (chain_text g events c).seats
  every-chain c = subst (AllByRecursion P) (sym (seats-of g events (chain_of events c))) (every-chunk (chain_of events c))

-- ---- texts without `]`

-- a virtual byte is no `]`
abbrev IsNoEnd : Seat → Type 0
IsNoEnd s = (s.byte == 93) ≡ false

none-is : (test : ℕ → Bool) (bytes : List ℕ) → list_any test bytes ≡ false → AllByRecursion (λ b. test b ≡ false) bytes
none-is test [] h = tt
none-is test (b ∷ bs) h = let both = or_parts (test b) (list_any test bs) h in (both.0, none-is test bs both.1)

module _ (bytes : List ℕ) (on : Constructs) (defined : List ℕ → Bool) where
  none-looked-up : (m : Memory) (s : Seat) (ss : List Seat) → IsNoEnd s → looked_up bytes on m (bytes_of (s ∷ ss)) ≡ []
  none-looked-up m s ss h = ap (λ b. cond b (labels_at bytes m.waiting m (bytes_of ss)) []) (ap (λ b. on.label_end && b) h ∙ and-false on.label_end)

  none-asked : (n : ℕ) (m : Memory) (seats : List Seat) → AllByRecursion IsNoEnd seats → asked_from bytes on defined n m seats ≡ []
  none-asked zero m seats h = refl
  none-asked (suc n) m [] h = refl
  none-asked (suc n) m (s ∷ ss) h =
      let item = inline_item_at on defined bytes m (bytes_of (s ∷ ss)) in
      let here = none-looked-up m s ss h.0 in
      let rest = none-asked n (after_item bytes m item) (drop item.size (s ∷ ss)) (every-drop IsNoEnd item.size (s ∷ ss) h) in
      (λ i. here i ++ rest i)

  -- virtual bytes without `]` look up no label
  pub labels-none : (seats : List Seat) → AllByRecursion IsNoEnd seats → asked_labels bytes on defined seats ≡ []
  labels-none seats h =
      let n = prefix_len is_white (bytes_of seats) in
      none-asked (length seats) (after_item bytes (nothing_read seats) (white_space n)) (drop n seats) (every-drop IsNoEnd n seats h)

-- nor do bytes without `]`
module _ (options : ParseOptions) (defined : List ℕ → Bool) (bytes : List ℕ) (h : has_end bytes ≡ false) where
  chains-ask-nothing : (blocks : List Event) (cs : List ℕ) → flat_map (λ c. asked_labels bytes options.constructs defined (chain_text (document options bytes) blocks c).seats) cs ≡ []
  chains-ask-nothing blocks [] = refl
  chains-ask-nothing blocks (c ∷ cs) =
      let g = document options bytes in
      let seats = every-virtual (λ b. (b == 93) ≡ false) refl refl options.tab_size 1 1 0 bytes (none-is (λ byte. byte == 93) bytes h) in
      let here = labels-none bytes options.constructs defined (chain_text g blocks c).seats (every-chain IsNoEnd g blocks seats c) in
      let rest = chains-ask-nothing blocks cs in
      (λ i. here i ++ rest i)

pub asks-nothing : BytesWithoutEndAskNothing
asks-nothing options defined bytes h = let blocks = blocks_of options bytes in chains-ask-nothing options defined bytes h blocks (fitting_starts (Some content.Text) blocks)
