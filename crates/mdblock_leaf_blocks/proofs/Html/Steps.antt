-- HTML along a line: which byte leads from which place to which, by the rows of the places' states.
use Rattle.mdblock_leaf_blocks.proofs.Prelude.{Bool, List, None, Some, [], ap, cond, false, refl, subst, sym, true, ℕ, ◌++◌, ◌==◌, ◌∙◌, ◌∷◌, ◌≡◌, html_raw_names, Seat, Point, Name, Next, Retry, HtmlFlowContinuation, HtmlFlowContinuationCdataInside, HtmlFlowContinuationClose, HtmlFlowContinuationCommentInside, HtmlFlowContinuationDeclarationInside, HtmlFlowContinuationRawEndTag, HtmlFlowContinuationRawTagOpen, Configuration, Local, Sight, Given, Text, FlowByte, by_byte, flow_byte, is_closing, is_dash, is_greater, is_less, is_line_feed, is_question, is_slash, name_byte, flow, size_becomes, html_flow_continuation_raw_end_tag_goes_on, html_flow_continuation_raw_end_tag_rows, is_number_in, html_is, is_raw_tag, raw_name_grows, IsReadAs, bytes_of, IsInLine, rows_in, Row, Rows, class_of, consume, named, picked, row, when, write}
use Rattle.mdblock_leaf_blocks.proofs.Looks.ByteClasses.{feed-is}
use Rattle.mdblock_leaf_blocks.proofs.Html.Places.{Place, inside, dashed, bracketed, marked, opened, named as in_name, closed, from_inside, from_name, moved, raw_more, through}
use Rattle.mdblock_leaf_blocks.proofs.Lines.{IsAt, Keeping, counted, reads-nothing, reads-on, row-stays, row-takes-on, rows_of, seen}

abbrev pub Config : Type 0
Config = Configuration Unit Unit

-- the state of each place
abbrev pub name_of : Place → Name
name_of inside = HtmlFlowContinuation
name_of dashed = HtmlFlowContinuationCommentInside
name_of bracketed = HtmlFlowContinuationCdataInside
name_of marked = HtmlFlowContinuationDeclarationInside
name_of opened = HtmlFlowContinuationRawTagOpen
name_of (in_name n) = HtmlFlowContinuationRawEndTag
name_of closed = HtmlFlowContinuationClose

-- in a name, its number
abbrev pub Numbered : Place → Local Unit Unit → Type 0
Numbered (in_name n) l = l.tokenize_state.size_b ≡ n
Numbered _ l = Unit {0}

-- what HTML leaves as it was
pub record Kept (before after : Local Unit Unit) : Type 0 where
  pub edits : after.map ≡ before.map
  pub resolvers : after.resolvers ≡ before.resolvers
  pub kind : after.tokenize_state.marker_b ≡ before.tokenize_state.marker_b

pub kept-same : (l : Local Unit Unit) → Kept l l
kept-same l = record { edits = refl; resolvers = refl; kind = refl }

pub kept-on : (a b c : Local Unit Unit) → Kept a b → Kept b c → Kept a c
kept-on a b c h k = record { edits = k.edits ∙ h.edits; resolvers = k.resolvers ∙ h.resolvers; kind = k.kind ∙ h.kind }

abbrev pub html_kept : Keeping
html_kept = record { kept = Kept; same = kept-same; on = kept-on }

abbrev pub kind_in : Config → ℕ
kind_in k = k.local.tokenize_state.marker_b

-- so it leads to this place
abbrev pub To : Place → (before after : Local Unit Unit) → Type 0
To p before after = Kept before after × Numbered p after

module _ (g : Given) (t : Text) where
  -- ---- a byte
  module _ (s : Seat) (rest : List Seat) (in_line : (s.byte == 10) ≡ false) where
    abbrev c : FlowByte
    c = flow_byte s.byte

    -- it is read, and leads there
    abbrev IsRead : Config → Name → Place → Type 0
    IsRead k name p = IsReadAs g t (To p) k name (s ∷ []) rest [] (Retry (name_of p))

    module _ (k : Config) (p : Point) (at : IsAt t k p (s ∷ rest)) (name : Name) where
      abbrev sight : Sight
      sight = seen g t Kept k name p (s ∷ rest)

      abbrev picks : Rows Unit Unit → Row Unit Unit
      picks rows = picked rows g sight (counted k)

      -- it does by these rows
      record Takes (rows : Rows Unit Unit) (to : Place) : Type 0 where
        by : picks (rows_of (named flow.states name) (class_of flow_byte sight.previous) (Some c)) ≡ picks rows → IsRead k name to

      by-test : (b : Bool) (x y : Rows Unit Unit) (q r : Place) → Takes x q → Takes y r → Takes (cond b x y) (cond b q r)
      by-test true x y q r h i = h
      by-test false x y q r h i = i

      by-when : (f : Given → Sight → Config → Bool) (x y : Rows Unit Unit) (q r : Place) → Takes x q → Takes y r → Takes (when f x y) (cond (f g sight (counted k)) q r)
      by-when f x y q r h i = record { by = elim (f g sight (counted k)) as (λ b. picks (rows_of (named flow.states name) (class_of flow_byte sight.previous) (Some c)) ≡ cond b (picks x) (picks y) → IsRead k name (cond b q r)) [ true ↦ h.by | false ↦ i.by ] }

      takes : (to : Place) → Numbered to k.local → Takes (row (consume ∷ []) (Next (name_of to))) to
      takes to numbered = record { by = λ is. row-takes-on g t (To to) k name p s rest c (consume ∷ []) (name_of to) at refl is tt refl (kept-same k.local, numbered) }

      -- a byte of a line is no line ending
      no-feed : (x y : Rows Unit Unit) (to : Place) → Takes y to → Takes (cond (is_line_feed c) x y) to
      no-feed x y to h = subst (λ b. Takes (cond b x y) to) (sym (feed-is s.byte ∙ in_line)) h

    from-inside : (k : Config) (p : Point) → IsAt t k p (s ∷ rest) → IsRead k HtmlFlowContinuation (from_inside (kind_in k) c)
    from-inside k p at =
        let name = HtmlFlowContinuation in
        let on = takes k p at name inside tt in
        (no-feed k p at name _ _ _
        (by-test k p at name (is_less c) _ _ _ _ (by-when k p at name (html_is 1) _ _ opened inside (takes k p at name opened tt) on)
        (by-test k p at name (is_dash c) _ _ _ _ (by-when k p at name (html_is 2) _ _ dashed inside (takes k p at name dashed tt) on)
        (by-test k p at name (is_question c) _ _ _ _ (by-when k p at name (html_is 3) _ _ marked inside (takes k p at name marked tt) on)
        (by-test k p at name (is_greater c) _ _ _ _ (by-when k p at name (html_is 4) _ _ closed inside (takes k p at name closed tt) on)
        (by-test k p at name (is_closing c) _ _ _ _ (by-when k p at name (html_is 5) _ _ bracketed inside (takes k p at name bracketed tt) on) on)))))).by refl

    module _ (k : Config) (p : Point) (at : IsAt t k p (s ∷ rest)) (name : Name) where
      -- it is read as inside
      back : Takes k p at name (row [] (Retry HtmlFlowContinuation)) (from_inside (kind_in k) c)
      back = record {
        by = λ is.
            let to = from_inside (kind_in k) c in
            reads-on g t Kept (To to) (To to) (λ a b d h i. (kept-on a b d h i.0, i.1)) k p name HtmlFlowContinuation [] (s ∷ []) rest [] [] (Retry (name_of to)) at
            (row-stays g t Kept k name p (s ∷ rest) (Some c) [] (Retry HtmlFlowContinuation) at refl is tt refl refl (kept-same k.local))
            (λ k' at' kept. subst (λ kind. IsRead k' HtmlFlowContinuation (from_inside kind c)) kept.kind (from-inside k' p at'));
      }

      mark-or-back : (kind : ℕ) → Takes k p at name (when (html_is kind) (row (consume ∷ []) (Next HtmlFlowContinuationDeclarationInside)) (row [] (Retry HtmlFlowContinuation))) (cond (kind_in k == kind) marked (from_inside (kind_in k) c))
      mark-or-back kind = by-when k p at name (html_is kind) _ _ marked _ (takes k p at name marked tt) back

    moves : (from : Place) (k : Config) (p : Point) → Numbered from k.local → IsAt t k p (s ∷ rest) → IsRead k (name_of from) (moved (kind_in k) from c)
    moves inside k p is at = from-inside k p at
    moves dashed k p is at = let name = HtmlFlowContinuationCommentInside in (by-test k p at name (is_dash c) _ _ _ _ (takes k p at name marked tt) (back k p at name)).by refl
    moves bracketed k p is at = let name = HtmlFlowContinuationCdataInside in (by-test k p at name (is_closing c) _ _ _ _ (takes k p at name marked tt) (back k p at name)).by refl
    moves marked k p is at =
        let name = HtmlFlowContinuationDeclarationInside in
        (by-test k p at name (is_greater c) _ _ _ _ (takes k p at name closed tt)
        (by-test k p at name (is_dash c) _ _ _ _ (mark-or-back k p at name 2)
        (by-test k p at name (is_question c) _ _ _ _ (mark-or-back k p at name 3)
        (by-test k p at name (is_closing c) _ _ _ _ (mark-or-back k p at name 5) (back k p at name))))).by refl
    moves opened k p is at =
        let name = HtmlFlowContinuationRawTagOpen in
        (by-test k p at name (is_slash c) _ _ (in_name 0) _
        (record { by = λ row_is. row-takes-on g t (To (in_name 0)) k name p s rest c (write (size_becomes 0) ∷ consume ∷ []) HtmlFlowContinuationRawEndTag at refl row_is tt refl (record { edits = refl; resolvers = refl; kind = refl }, refl) })
        (back k p at name)).by refl
    moves (in_name n) k p is at =
        let name = HtmlFlowContinuationRawEndTag in
        let rows = html_flow_continuation_raw_end_tag_rows {R = Unit {0}} {D = Unit {0}} in
        let ends : Takes k p at name (rows_in rows.cases rows.rest c) (from_name (kind_in k) n c None) =
        by-test k p at name (is_greater c) _ _ _ _
        (subst (λ n. Takes k p at name (when is_raw_tag (row (consume ∷ []) (Next HtmlFlowContinuationClose)) (row [] (Retry HtmlFlowContinuation))) (cond (is_number_in html_raw_names n) closed (from_inside (kind_in k) c))) is
        (by-when k p at name is_raw_tag _ _ closed _ (takes k p at name closed tt) (back k p at name)))
        (back k p at name) in
        (elim (name_byte c) as (λ o. Takes k p at name (by_byte o html_flow_continuation_raw_end_tag_goes_on (rows_in rows.cases rows.rest c)) (from_name (kind_in k) n c o)) [
          | Some byte ↦ record {
            by = λ row_is.
                row-takes-on g t (To (in_name (raw_more n byte))) k name p s rest c (write (raw_name_grows byte) ∷ consume ∷ []) name at refl row_is tt refl (record { edits = refl; resolvers = refl; kind = refl }, ap (λ n. raw_more n byte) is);
          }
          | None ↦ ends
        ]).by refl
    moves closed k p is at = let name = HtmlFlowContinuationClose in (no-feed k p at name _ _ _ (takes k p at name closed tt)).by refl

  -- ---- bytes of a line
  pub along : (kind : ℕ) (line rest : List Seat) → IsInLine line → (from : Place) (k : Config) (p : Point) → kind_in k ≡ kind → Numbered from k.local → IsAt t k p (line ++ rest)
      → let to = through kind from (bytes_of line) in IsReadAs g t (To to) k (name_of from) line rest [] (Retry (name_of to))
  along kind [] rest all from k p is numbered at = reads-nothing g t (To from) k (name_of from) rest at.waits (kept-same k.local, numbered)
  along kind (s ∷ ss) rest all from k p is numbered at =
      let mid = moved kind from (flow_byte s.byte) in
      let to = through kind mid (bytes_of ss) in
      reads-on g t (To mid) (To to) (To to) (λ a b c h i. (kept-on a b c h.0 i.0, i.1)) k p (name_of from) (name_of mid) (s ∷ []) ss rest [] [] (Retry (name_of to)) at
      (subst (λ kind. IsRead s (ss ++ rest) all.0 k (name_of from) (moved kind from (flow_byte s.byte))) is (moves s (ss ++ rest) all.0 from k p numbered at))
      (λ k' at' h. along kind ss rest all.1 mid k' s.end (h.0.kind ∙ is) h.1 at')
