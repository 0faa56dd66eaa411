-- The calls that read an ATX heading: by its white space, its number signs and its text.
use Rattle.mdblock_leaf_blocks.proofs.Prelude.{List, Some, [], ap, arith, cond, false, le-ltb, lt-ltb, min, refl, suc, ℕ, ◌++◌, ◌+◌, ◌-◌, ◌<◌, ◌==◌, ◌^◌, ◌∙◌, ◌∷◌, ◌≡◌, eqb-true, Seat, Enter, Data, HeadingAtx, HeadingAtxSequence, HeadingAtxText, SpaceOrTab, Point, Next, Retry, FlowAfter, FlowBlankLineAfter, HeadingAtxAtBreak, HeadingAtxBefore, HeadingAtxData, HeadingAtxSequenceOpen, HeadingAtxStart, Configuration, Local, Given, Text, blank, flow_byte, is_blank, is_sign_class, sign, count_becomes, count_grows, size_becomes, text_goes_on, text_or_signs, IsReadAs, KeepsEdits, alone, is_white, text_link, event, Rows, consume, enter, enter_link, exit, picked, row, write}
use Rattle.markdown_base.specs.declared.event.Content.TheVariants as content
use Rattle.mdblock_leaf_blocks.proofs.Looks.ByteClasses.{blank-is, feed-is, sign-is}
use Rattle.mdblock_leaf_blocks.proofs.Blocks.HeadingParts.{IsSign}
use Rattle.mdblock_leaf_blocks.proofs.Lines.{Goes, IsAt, IsUnwritten, IsWhite, Reads, all_kept, comes, counted, goes, goes-by, row-stays, row-takes-on, seen, unwritten, white-is-blank}
use Rattle.mdblock_leaf_blocks.proofs.Looks.HeadingTexts.{is_sign}

pub sign-class : (s : Seat) → IsSign s → flow_byte s.byte ≡ sign
sign-class s h = ap flow_byte (eqb-true s.byte 35 h)

-- In the text: so many bytes it has, and so many were read
pub record InText (size count : ℕ) (before after : Local Unit Unit) : Type 0 where
  pub keeps : KeepsEdits before after
  pub size_is : after.tokenize_state.size_b ≡ size
  pub count_is : after.tokenize_state.space_or_tab_size ≡ count

-- Behind the text none is left
pub record BehindText (before after : Local Unit Unit) : Type 0 where
  pub keeps : KeepsEdits before after
  pub size_is : after.tokenize_state.size_b ≡ 0

pub white_goes : Goes HeadingAtxBefore is_white (SpaceOrTab ∷ []) HeadingAtxAtBreak
white_goes = goes-by HeadingAtxBefore (SpaceOrTab ∷ []) HeadingAtxAtBreak (λ b. refl) is_blank is_white (λ b c. refl) blank-is

pub signs_go : Goes HeadingAtxSequenceOpen is_sign (HeadingAtxSequence ∷ []) HeadingAtxAtBreak
signs_go = goes-by HeadingAtxSequenceOpen (HeadingAtxSequence ∷ []) HeadingAtxAtBreak (λ b. refl) is_sign_class is_sign (λ b c. refl) sign-is

module _ (g : Given) (t : Text) where
  module _ (k : Configuration Unit Unit) (p : Point) where
    -- the first byte of the line, whose kind is known
    pub begins-white : (s : Seat) (rest : List Seat) → k.local.tokenize_state.token_1 ≡ HeadingAtx → IsWhite s → IsAt t k p (s ∷ rest) → Reads g t all_kept k FlowBlankLineAfter (s ∷ []) rest (comes g t HeadingAtx s ++ comes g t SpaceOrTab s) HeadingAtxStart
    begins-white s rest kind is at = row-takes-on g t IsUnwritten k FlowBlankLineAfter p s rest blank (enter HeadingAtx ∷ enter SpaceOrTab ∷ consume ∷ []) HeadingAtxStart at (white-is-blank s.byte is) (rw kind refl) tt refl (unwritten k.local)

    pub begins-sign : (s : Seat) (rest : List Seat) → IsSign s → IsAt t k p (s ∷ rest) → Reads g t all_kept k FlowBlankLineAfter (s ∷ []) rest (comes g t HeadingAtx s ++ comes g t HeadingAtxSequence s) HeadingAtxSequenceOpen
    begins-sign s rest is at = row-takes-on g t IsUnwritten k FlowBlankLineAfter p s rest sign (enter HeadingAtx ∷ enter HeadingAtxSequence ∷ consume ∷ []) HeadingAtxSequenceOpen at (sign-class s is) refl tt refl (unwritten k.local)

    pub start-sign : (s : Seat) (rest : List Seat) → IsSign s → IsAt t k p (s ∷ rest) → Reads g t all_kept k HeadingAtxStart (s ∷ []) rest (goes g t SpaceOrTab p ++ comes g t HeadingAtxSequence s) HeadingAtxSequenceOpen
    start-sign s rest is at = row-takes-on g t IsUnwritten k HeadingAtxStart p s rest sign (exit SpaceOrTab ∷ enter HeadingAtxSequence ∷ consume ∷ []) HeadingAtxSequenceOpen at (sign-class s is) refl tt refl (unwritten k.local)

    pub signs-begin : (s : Seat) (rest : List Seat) → k.local.tokenize_state.size_b ≡ 0 → IsSign s → IsAt t k p (s ∷ rest) → Reads g t all_kept k HeadingAtxAtBreak (s ∷ []) rest (comes g t HeadingAtxSequence s) HeadingAtxSequenceOpen
    signs-begin s rest size is at = row-takes-on g t IsUnwritten k HeadingAtxAtBreak p s rest sign (enter HeadingAtxSequence ∷ consume ∷ []) HeadingAtxSequenceOpen at (sign-class s is) (rw size refl) tt refl (unwritten k.local)

    -- the text begins, goes g t on, and ends before other bytes
    pub text-begins : (s : Seat) (rest : List Seat) (n : ℕ) → k.local.tokenize_state.size_b ≡ suc n → (s.byte == 10) ≡ false → is_white s.byte ≡ false → IsAt t k p (s ∷ rest)
        → IsReadAs g t (InText (suc n) 1) k HeadingAtxAtBreak (s ∷ []) rest (comes g t HeadingAtxText s ++ (event g.bytes Enter Data s.point, alone content.Text) ∷ []) (Retry HeadingAtxData)
    text-begins s rest n size in_line dark at =
        let sight = seen g t (InText (suc n) 1) k HeadingAtxAtBreak p (s ∷ rest) in
        let end : Rows Unit Unit = row (exit HeadingAtx ∷ []) (Retry FlowAfter) in
        let blank : Rows Unit Unit = row (enter SpaceOrTab ∷ consume ∷ []) (Next HeadingAtxBefore) in
        row-takes-on g t (InText (suc n) 1) k HeadingAtxAtBreak p s rest (flow_byte s.byte) (enter HeadingAtxText ∷ enter_link Data text_link ∷ write (count_becomes 1) ∷ consume ∷ []) HeadingAtxData at refl
        (ap (λ b. picked (cond b end (cond (is_blank (flow_byte s.byte)) blank text_or_signs)) g sight (counted k)) (feed-is s.byte ∙ in_line)
        ∙ ap (λ b. picked (cond b blank text_or_signs) g sight (counted k)) (blank-is s.byte ∙ dark) ∙ rw (size, lt-ltb 0 (suc n) (omega arith)) refl)
        (refl, tt) refl (record { keeps = record { edits = refl; resolvers = refl }; size_is = size; count_is = refl })

    pub text-on : (s : Seat) (rest : List Seat) (n j : ℕ) → k.local.tokenize_state.size_b ≡ n → k.local.tokenize_state.space_or_tab_size ≡ j → j < n → n < 2 ^ 64 - 1 → (s.byte == 10) ≡ false → IsAt t k p (s ∷ rest)
        → IsReadAs g t (InText n (j + 1)) k HeadingAtxData (s ∷ []) rest [] (Retry HeadingAtxData)
    text-on s rest n j size count more room in_line at =
        let sight = seen g t (InText n (j + 1)) k HeadingAtxData p (s ∷ rest) in
        let end : Rows Unit Unit = row (exit Data ∷ exit HeadingAtxText ∷ exit HeadingAtx ∷ []) (Retry FlowAfter) in
        let grown : min (j + 1) (2 ^ 64 - 1) ≡ j + 1 = omega arith in
        row-takes-on g t (InText n (j + 1)) k HeadingAtxData p s rest (flow_byte s.byte) (write count_grows ∷ consume ∷ []) HeadingAtxData at refl
        (ap (λ b. picked (cond b end text_goes_on) g sight (counted k)) (feed-is s.byte ∙ in_line) ∙ rw (count, size, lt-ltb j n more) refl)
        tt refl (record { keeps = record { edits = refl; resolvers = refl }; size_is = size; count_is = ap (λ c. min (c + 1) (2 ^ 64 - 1)) count ∙ grown })

    pub text-ends : (s : Seat) (rest : List Seat) (n : ℕ) → k.local.tokenize_state.size_b ≡ n → k.local.tokenize_state.space_or_tab_size ≡ n → (s.byte == 10) ≡ false → IsAt t k p (s ∷ rest)
        → IsReadAs g t BehindText k HeadingAtxData [] (s ∷ rest) (goes g t Data p ++ goes g t HeadingAtxText p) (Retry HeadingAtxAtBreak)
    text-ends s rest n size count in_line at =
        let sight = seen g t BehindText k HeadingAtxData p (s ∷ rest) in
        let end : Rows Unit Unit = row (exit Data ∷ exit HeadingAtxText ∷ exit HeadingAtx ∷ []) (Retry FlowAfter) in
        row-stays g t BehindText k HeadingAtxData p (s ∷ rest) (Some (flow_byte s.byte)) (exit Data ∷ exit HeadingAtxText ∷ write (size_becomes 0) ∷ []) (Retry HeadingAtxAtBreak) at refl
        (ap (λ b. picked (cond b end text_goes_on) g sight (counted k)) (feed-is s.byte ∙ in_line) ∙ rw (count, size, le-ltb n n (omega arith)) refl)
        tt refl refl (record { keeps = record { edits = refl; resolvers = refl }; size_is = refl })
