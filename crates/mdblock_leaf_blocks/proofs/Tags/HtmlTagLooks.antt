-- The look behind a less-than sign finds the kind of HTML that the line begins: names, comments, declarations and the rest.
use Rattle.mdblock_leaf_blocks.proofs.Prelude.{◌≡◌, ℕ, ◌+◌, ◌==◌, ◌&&◌, not, List, [], ◌∷◌, ◌++◌, Bool, true, false, cond, Option, Some, None, drop, refl, sym, ap, ◌∙◌, subst, is_ascii_alphabetic, is_ascii_alphanumeric, Event, EventName, Name, Next, Retry, Ok, Nok, HtmlFlowBasicSelfClosing, HtmlFlowCdataOpenInside, HtmlFlowCommentOpenInside, HtmlFlowDeclarationOpen, HtmlFlowOpen, HtmlFlowTagCloseStart, HtmlFlowTagName, Seat, drop-next, Local, byte_of, Given, Text, at-front, told, rows_in, Glance, glance, goes_on, is_over, Look, looked_on, scan, shows, unfed_look, consume, write, Rows, row, when, is_white, one_more, FlowByte, Cased, by_byte, line_feed, flow_byte, name_byte, is_line_feed, is_blank, is_greater, is_slash, is_dash, is_letter, is_opening, is_bang, is_question, flow, unchanged, size_becomes, size_grows, is_byte, no_name, one_byte_more, html_flow_basic_self_closing_rows, html_flow_cdata_open_inside_rows, html_flow_comment_open_inside_rows, html_flow_declaration_open_rows, html_flow_open_rows, html_flow_tag_close_start_rows, html_flow_tag_name_goes_on, html_flow_tag_name_rows, at_cdata, cdata_byte, closes_tag, html_becomes, is_block_tag, name_grows, opens_raw, tag_closes, first_passes, bytes_of, FindsHtml, HtmlIsSeen, IsInLine, LineEnds}
use Rattle.mdconstructs_tables.specs.Looks.{one_more as one_call_more}
use Rattle.mdblock_leaf_blocks.proofs.Tags.HtmlNumbers.{number-is}
use Rattle.mdblock_leaf_blocks.proofs.Tags.Attributes.{Place, after, slashed, closing, before, goes}
use Rattle.mdblock_leaf_blocks.proofs.Looks.ByteClasses.{bang-is, dash-is, feed-is, greater-is, letter-is, name-byte-is, opening-is, question-is, slash-is, blank-is}
use Rattle.mdblock_leaf_blocks.proofs.Tags.HtmlKinds.{is_block, is_raw, listed, tagged, whole}
use Rattle.mdblock_leaf_blocks.proofs.Tags.HtmlOpenings.{begun, begun-is, declared, in_cdata, tag_closed}
use Rattle.mdblock_leaf_blocks.proofs.Tags.HtmlLooks.{At, Is, Marks, depends, either, past_by, state_of, tag-looks}

-- The other states: behind the slash of a tag with a listed name, behind `<`, `</`, `<!`, `<!-`, and in `<![CDATA[`
data Spot : Type 0 where
  listed_slash : Spot
  less : Spot
  less_slash : Spot
  less_bang : Spot
  less_bang_dash : Spot
  character_data : Spot

abbrev spot_state : Spot → Name
spot_state listed_slash = HtmlFlowBasicSelfClosing
spot_state less = HtmlFlowOpen
spot_state less_slash = HtmlFlowTagCloseStart
spot_state less_bang = HtmlFlowDeclarationOpen
spot_state less_bang_dash = HtmlFlowCommentOpenInside
spot_state character_data = HtmlFlowCdataOpenInside

abbrev spot_rows : Spot → Cased Unit Unit
spot_rows listed_slash = html_flow_basic_self_closing_rows
spot_rows less = html_flow_open_rows
spot_rows less_slash = html_flow_tag_close_start_rows
spot_rows less_bang = html_flow_declaration_open_rows
spot_rows less_bang_dash = html_flow_comment_open_inside_rows
spot_rows character_data = html_flow_cdata_open_inside_rows

-- one more call at a place finds the same
one-call-more : (g : Given) (t : Text) (stack : List EventName) (events : List Event) (rest : Local Unit Unit → Name → Look Unit Unit) (l : List Seat) (mark : Bool) (kind : ℕ) (local : Local Unit Unit) (glance : Glance Unit Unit)
    → Is kind local (looked_on flow g t stack events rest l mark glance) → Is kind local (looked_on flow g t stack events rest l mark (one_call_more glance))
one-call-more g t stack events rest l mark kind local (goes_on local' n calls) h = h
one-call-more g t stack events rest l mark kind local (is_over true local' answer calls) h = h
one-call-more g t stack events rest l mark kind local (is_over false local' answer calls) h = h

-- the look ends with this kind
abbrev kind_of : ℕ → Rows Unit Unit
kind_of kind = row (write (html_becomes kind) ∷ []) Ok

module _ (g : Given) (t : Text) (stack : List EventName) (events : List Event) where
  -- the kind of a tag by its name
  module _ (bound : ℕ) (rest : Local Unit Unit → Name → Look Unit Unit) (l : List Seat) (previous : Option ℕ) (q : ℕ) (mark : Bool) (local : Local Unit Unit) where
    abbrev Finds : ℕ → Rows Unit Unit → Type 0
    Finds kind rows = At g t stack events bound rest l previous q mark local HtmlFlowTagName kind rows

    abbrev closes : Bool
    closes = local.tokenize_state.seen

    abbrev number : ℕ
    number = local.tokenize_state.size_b

    by-test : (x y : Bool) → x ≡ y → (k m : ℕ) (a b : Rows Unit Unit) → Finds k a → Finds m b → Finds (cond y k m) (cond x a b)
    by-test = either g t stack events bound rest l previous q mark local HtmlFlowTagName

    by-block : (k m : ℕ) (a b : Rows Unit Unit) → Finds k a → Finds m b → Finds (cond (is_block number) k m) (when is_block_tag a b)
    by-block = depends g t stack events bound rest l previous q mark local HtmlFlowTagName is_block_tag (is_block number) refl

    by-closes : (k m : ℕ) (a b : Rows Unit Unit) → Finds k a → Finds m b → Finds (cond closes k m) (when closes_tag a b)
    by-closes = depends g t stack events bound rest l previous q mark local HtmlFlowTagName closes_tag closes refl

    by-list : (k : ℕ) (a : Rows Unit Unit) → Finds k a → Finds (listed closes (is_raw number) (is_block number) k) (when opens_raw (kind_of 1) (when is_block_tag (kind_of 6) a))
    by-list k a h =
        depends g t stack events bound rest l previous q mark local HtmlFlowTagName opens_raw (not closes && is_raw number) refl 1 (cond (is_block number) 6 k) (kind_of 1) (when is_block_tag (kind_of 6) a)
        (refl, refl, refl, refl, refl, (refl, refl, refl)) (by-block 6 k (kind_of 6) a (refl, refl, refl, refl, refl, (refl, refl, refl)) h)

    none : Finds 0 (row [] Nok)
    none = (refl, refl, refl, refl, refl, refl)

  abbrev name_rows : FlowByte → Rows Unit Unit
  name_rows c = by_byte (name_byte c) html_flow_tag_name_goes_on (rows_in html_flow_tag_name_rows.cases html_flow_tag_name_rows.rest c)

  -- at a byte of a line, if it is known how the look goes on behind it
  module _ (bound : ℕ) (s : Seat) (ss rest : List Seat) (previous : Option ℕ) (q : ℕ) (mark : Bool) (local : Local Unit Unit) (in_line : (s.byte == 10) ≡ false)
      (on : (local' : Local Unit Unit) (place : Place) → Marks place local' → Is (whole (goes (bytes_of ss) place)) local' (scan flow g t stack events 2 (ss ++ rest) (Some s.byte) (q + 1) false local' (state_of place)))
      (on_end : (local' : Local Unit Unit) → Is (cond (first_passes (λ c. c == 62) (bytes_of ss)) 6 0) local' (scan flow g t stack events 2 (ss ++ rest) (Some s.byte) (q + 1) false local' HtmlFlowBasicSelfClosing))
      (on_name : (local' : Local Unit Unit) → Is (tagged local'.tokenize_state.seen local'.tokenize_state.size_b (bytes_of ss)) local' (scan flow g t stack events 2 (ss ++ rest) (Some s.byte) (q + 1) false local' HtmlFlowTagName)) where
    abbrev b : ℕ
    b = s.byte

    abbrev bs : List ℕ
    bs = bytes_of ss

    abbrev more : Local Unit Unit → Name → Look Unit Unit
    more = scan flow g t stack events 2 (ss ++ rest) (Some s.byte) (q + 1) false

    abbrev l : List Seat
    l = s ∷ (ss ++ rest)

    abbrev to : Name → Rows Unit Unit
    to n = row (consume ∷ []) (Next n)

    abbrev Here : ℕ → Rows Unit Unit → Type 0
    Here = Finds bound more l previous q mark local

    abbrev its_number : ℕ
    its_number = local.tokenize_state.size_b

    abbrev its_closes : Bool
    its_closes = local.tokenize_state.seen

    abbrev behind_name : ℕ
    behind_name =
        cond (is_white b) (listed its_closes (is_raw its_number) (is_block its_number) (cond its_closes (whole (goes bs closing)) (whole (goes bs before))))
        (cond (b == 62) (listed its_closes (is_raw its_number) (is_block its_number) (whole (goes bs after)))
        (cond (b == 47) (cond (is_block its_number) (cond (first_passes (λ c. c == 62) bs) 6 0) (cond its_closes 0 (whole (goes bs slashed))))
        (cond (b == 45) (tagged its_closes no_name bs) 0)))

    abbrev attributes : Rows Unit Unit
    attributes = when closes_tag (to (state_of closing)) (to (state_of before))

    abbrev slash_end : Rows Unit Unit
    slash_end = when closes_tag (row [] Nok) (to (state_of slashed))

    -- behind white space, behind a slash, and behind a dash
    at-white : Here (listed its_closes (is_raw its_number) (is_block its_number) (cond its_closes (whole (goes bs closing)) (whole (goes bs before)))) (when opens_raw (kind_of 1) (when is_block_tag (kind_of 6) attributes))
    at-white =
        by-list bound more l previous q mark local _ attributes
        (by-closes bound more l previous q mark local (whole (goes bs closing)) (whole (goes bs before)) (to (state_of closing)) (to (state_of before)) (on (unchanged local) closing tt) (on (unchanged local) before tt))

    at-slash : Here (cond (is_block its_number) (cond (first_passes (λ c. c == 62) bs) 6 0) (cond its_closes 0 (whole (goes bs slashed)))) (when is_block_tag (to HtmlFlowBasicSelfClosing) slash_end)
    at-slash =
        by-block bound more l previous q mark local _ _ (to HtmlFlowBasicSelfClosing) slash_end (on_end (unchanged local))
        (by-closes bound more l previous q mark local 0 (whole (goes bs slashed)) (row [] Nok) (to (state_of slashed)) (none bound more l previous q mark local) (on (unchanged local) slashed tt))

    at-dash : Here (cond (b == 45) (tagged its_closes no_name bs) 0) (cond (is_dash (flow_byte b)) (row (write (size_becomes no_name) ∷ consume ∷ []) (Next HtmlFlowTagName)) (row [] Nok))
    at-dash =
        by-test bound more l previous q mark local (is_dash (flow_byte b)) (b == 45) (dash-is b) (tagged its_closes no_name bs) 0 (row (write (size_becomes no_name) ∷ consume ∷ []) (Next HtmlFlowTagName)) (row [] Nok)
        (on_name (size_becomes no_name (shows stack events l q mark (unchanged local)))) (none bound more l previous q mark local)

    name-ends : Here behind_name (rows_in html_flow_tag_name_rows.cases html_flow_tag_name_rows.rest (flow_byte b))
    name-ends =
        past_by g t stack events bound more l previous q mark local HtmlFlowTagName (is_line_feed (flow_byte b)) (feed-is b ∙ in_line) behind_name _ _
        (by-test bound more l previous q mark local (is_blank (flow_byte b)) (is_white b) (blank-is b) _ _ _ _ at-white
        (by-test bound more l previous q mark local (is_greater (flow_byte b)) (b == 62) (greater-is b) _ _ _ _
        (by-list bound more l previous q mark local (whole (goes bs after)) (to (state_of after)) (on (unchanged local) after tt))
        (by-test bound more l previous q mark local (is_slash (flow_byte b)) (b == 47) (slash-is b) _ _ _ _ at-slash at-dash)))

    name-goes : Here (tagged its_closes its_number (b ∷ bs)) (name_rows (flow_byte b))
    name-goes =
        let others = rows_in html_flow_tag_name_rows.cases html_flow_tag_name_rows.rest (flow_byte b) in
        subst (λ o. Here (tagged its_closes its_number (b ∷ bs)) (by_byte o html_flow_tag_name_goes_on others)) (sym (name-byte-is b))
        (elim (is_ascii_alphanumeric b) as (λ x. Here (cond x (tagged its_closes (one_byte_more its_number b) bs) behind_name) (by_byte (cond x (Some b) None) html_flow_tag_name_goes_on others)) [
          | true ↦ on_name (name_grows b (shows stack events l q mark (unchanged local)))
          | false ↦ name-ends
        ])

  -- at the end of a line these states find nothing
  abbrev spot_here : List Seat → Seat → Option ℕ → ℕ → Bool → Local Unit Unit → Spot → FlowByte → Look Unit Unit
  spot_here ss s previous q mark local spot c =
      told flow (λ r. r) g t stack events 1 (scan flow g t stack events 2 ss (Some s.byte) (q + 1) false) (s ∷ ss) previous q mark local (spot_state spot) (rows_in (spot_rows spot).cases (spot_rows spot).rest c)

  spot-opens : (spot : Spot) (ss : List Seat) (s : Seat) (previous : Option ℕ) (q : ℕ) (mark : Bool) (local : Local Unit Unit)
      → scan flow g t stack events 2 (s ∷ ss) previous q mark local (spot_state spot) ≡ spot_here ss s previous q mark local spot (flow_byte s.byte)
  spot-opens listed_slash ss s previous q mark local = refl
  spot-opens spot ss s previous q mark local = refl

  spot-feed : (spot : Spot) (ss : List Seat) (s : Seat) (previous : Option ℕ) (q : ℕ) (mark : Bool) (local : Local Unit Unit) → Is 0 local (spot_here ss s previous q mark local spot line_feed)
  spot-feed listed_slash ss s previous q mark local = (refl, refl, refl, refl, refl, refl)
  spot-feed spot ss s previous q mark local = (refl, refl, refl, refl, refl, refl)

  spot-nothing : (spot : Spot) (previous : Option ℕ) (q : ℕ) (mark : Bool) (local : Local Unit Unit) → Is 0 local (scan flow g t stack events 2 [] previous q mark local (spot_state spot))
  spot-nothing listed_slash previous q mark local = (refl, refl, refl, refl, refl, refl)
  spot-nothing spot previous q mark local = (refl, refl, refl, refl, refl, refl)

  spot-over : (spot : Spot) (rest : List Seat) → LineEnds rest → (previous : Option ℕ) (q : ℕ) (mark : Bool) (local : Local Unit Unit) → Is 0 local (scan flow g t stack events 2 rest previous q mark local (spot_state spot))
  spot-over spot [] ends previous q mark local = spot-nothing spot previous q mark local
  spot-over spot (s ∷ ss) ends previous q mark local =
      subst (Is 0 local) (sym (spot-opens spot ss s previous q mark local))
      (subst (λ c. Is 0 local (spot_here ss s previous q mark local spot c)) (sym (ap flow_byte ends)) (spot-feed spot ss s previous q mark local))

  -- and so does the name, but a listed one
  name-over : (rest : List Seat) → LineEnds rest → (previous : Option ℕ) (q : ℕ) (mark : Bool) (local : Local Unit Unit)
      → Is (tagged local.tokenize_state.seen local.tokenize_state.size_b []) local (scan flow g t stack events 2 rest previous q mark local HtmlFlowTagName)
  name-over [] ends previous q mark local =
      let rest = unfed_look flow g t stack events in by-list 1 rest [] previous q mark local 0 (row [] Nok) (none 1 rest [] previous q mark local)
  name-over (s ∷ ss) ends previous q mark local =
      let rest = scan flow g t stack events 2 ss (Some s.byte) (q + 1) false in
      subst (λ c. Finds 1 rest (s ∷ ss) previous q mark local (tagged local.tokenize_state.seen local.tokenize_state.size_b []) (name_rows c)) (sym (ap flow_byte ends))
      (by-list 1 rest (s ∷ ss) previous q mark local 0 (row [] Nok) (none 1 rest (s ∷ ss) previous q mark local))

  -- a byte decides
  abbrev SpotAt : (s : Seat) (ss rest : List Seat) (previous : Option ℕ) (q : ℕ) (mark : Bool) (local : Local Unit Unit) → Spot → ℕ → Rows Unit Unit → Type 0
  SpotAt s ss rest previous q mark local spot kind rows =
      At g t stack events 1 (scan flow g t stack events 2 (ss ++ rest) (Some s.byte) (q + 1) false) (s ∷ (ss ++ rest)) previous q mark local (spot_state spot) kind rows

  spot-test : (s : Seat) (ss rest : List Seat) (previous : Option ℕ) (q : ℕ) (mark : Bool) (local : Local Unit Unit) (spot : Spot) (x y : Bool) → x ≡ y → (k m : ℕ) (a b : Rows Unit Unit)
      → SpotAt s ss rest previous q mark local spot k a → SpotAt s ss rest previous q mark local spot m b → SpotAt s ss rest previous q mark local spot (cond y k m) (cond x a b)
  spot-test s ss rest previous q mark local spot =
      either g t stack events 1 (scan flow g t stack events 2 (ss ++ rest) (Some s.byte) (q + 1) false) (s ∷ (ss ++ rest)) previous q mark local (spot_state spot)

  slash-looks : (line rest : List Seat) → LineEnds rest → (previous : Option ℕ) (q : ℕ) (mark : Bool) (local : Local Unit Unit)
      → Is (cond (first_passes (λ c. c == 62) (bytes_of line)) 6 0) local (scan flow g t stack events 2 (line ++ rest) previous q mark local HtmlFlowBasicSelfClosing)
  slash-looks [] rest ends previous q mark local = spot-over listed_slash rest ends previous q mark local
  slash-looks (s ∷ ss) rest ends previous q mark local =
      spot-test s ss rest previous q mark local listed_slash (is_greater (flow_byte s.byte)) (s.byte == 62) (greater-is s.byte) 6 0 (kind_of 6) (row [] Nok)
      (refl, refl, refl, refl, refl, (refl, refl, refl)) (refl, refl, refl, refl, refl, refl)

  dash-looks : (line rest : List Seat) → LineEnds rest → (previous : Option ℕ) (q : ℕ) (mark : Bool) (local : Local Unit Unit)
      → Is (cond (first_passes (λ c. c == 45) (bytes_of line)) 2 0) local (scan flow g t stack events 2 (line ++ rest) previous q mark local HtmlFlowCommentOpenInside)
  dash-looks [] rest ends previous q mark local = spot-over less_bang_dash rest ends previous q mark local
  dash-looks (s ∷ ss) rest ends previous q mark local =
      spot-test s ss rest previous q mark local less_bang_dash (is_dash (flow_byte s.byte)) (s.byte == 45) (dash-is s.byte) 2 0 (kind_of 2) (row [] Nok)
      (refl, refl, refl, refl, refl, (refl, refl, refl)) (refl, refl, refl, refl, refl, refl)

  cdata-looks : (line rest : List Seat) (q : ℕ) → drop q t.seats ≡ line ++ rest → LineEnds rest → (previous : Option ℕ) (mark : Bool) (local : Local Unit Unit)
      → Is (in_cdata local.tokenize_state.size_b (bytes_of line)) local (scan flow g t stack events 2 (line ++ rest) previous q mark local HtmlFlowCdataOpenInside)
  cdata-looks [] rest q here ends previous mark local = spot-over character_data rest ends previous q mark local
  cdata-looks (s ∷ ss) rest q here ends previous mark local =
      let more = scan flow g t stack events 2 (ss ++ rest) (Some s.byte) (q + 1) false in
      let l = s ∷ (ss ++ rest) in
      let n = local.tokenize_state.size_b in
      let grow : Rows Unit Unit = row (write size_grows ∷ consume ∷ []) (Next HtmlFlowCdataOpenInside) in
      let done : Rows Unit Unit = kind_of 5 in
      let no : Rows Unit Unit = row [] Nok in
      let is = ap (λ o. is_byte (cdata_byte n) (byte_of o)) (at-front t.seats q s (ss ++ rest) here) in
      let on = cdata-looks ss rest (q + 1) (drop-next t.seats q s (ss ++ rest) here) ends (Some s.byte) false (size_grows (shows stack events l q mark (unchanged local))) in
      let asks = depends g t stack events 1 more l previous q mark local HtmlFlowCdataOpenInside at_cdata (s.byte == cdata_byte n) is in
      spot-test s ss rest previous q mark local character_data (is_letter (flow_byte s.byte)) (is_ascii_alphabetic s.byte) (letter-is s.byte) _ _ (when at_cdata grow no) (cond (is_opening (flow_byte s.byte)) (when at_cdata done no) no)
      (asks (in_cdata (one_more n) (bytes_of ss)) 0 grow no on (refl, refl, refl, refl, refl, refl))
      (spot-test s ss rest previous q mark local character_data (is_opening (flow_byte s.byte)) (s.byte == 91) (opening-is s.byte) _ _ (when at_cdata done no) no
      (asks 5 0 done no (refl, refl, refl, refl, refl, (refl, refl, refl)) (refl, refl, refl, refl, refl, refl)) (refl, refl, refl, refl, refl, refl))

  bang-looks : (line rest : List Seat) (q : ℕ) → drop q t.seats ≡ line ++ rest → LineEnds rest → (previous : Option ℕ) (mark : Bool) (local : Local Unit Unit)
      → Is (declared (bytes_of line)) local (scan flow g t stack events 2 (line ++ rest) previous q mark local HtmlFlowDeclarationOpen)
  bang-looks [] rest q here ends previous mark local = spot-over less_bang rest ends previous q mark local
  bang-looks (s ∷ ss) rest q here ends previous mark local =
      let l = s ∷ (ss ++ rest) in
      let no : Rows Unit Unit = row [] Nok in
      let letters : Rows Unit Unit = kind_of 4 in
      let dashes : Rows Unit Unit = row (consume ∷ []) (Next HtmlFlowCommentOpenInside) in
      let brackets : Rows Unit Unit = row (write (size_becomes 0) ∷ consume ∷ []) (Next HtmlFlowCdataOpenInside) in
      let test = spot-test s ss rest previous q mark local less_bang in
      test (is_letter (flow_byte s.byte)) (is_ascii_alphabetic s.byte) (letter-is s.byte) 4 _ letters (cond (is_dash (flow_byte s.byte)) dashes (cond (is_opening (flow_byte s.byte)) brackets no))
      (refl, refl, refl, refl, refl, (refl, refl, refl))
      (test (is_dash (flow_byte s.byte)) (s.byte == 45) (dash-is s.byte) _ _ dashes (cond (is_opening (flow_byte s.byte)) brackets no) (dash-looks ss rest ends (Some s.byte) (q + 1) false (unchanged local))
      (test (is_opening (flow_byte s.byte)) (s.byte == 91) (opening-is s.byte) _ 0 brackets no
      (cdata-looks ss rest (q + 1) (drop-next t.seats q s (ss ++ rest) here) ends (Some s.byte) false (size_becomes 0 (shows stack events l q mark (unchanged local)))) (refl, refl, refl, refl, refl, refl)))

  name-looks : (line rest : List Seat) (q : ℕ) → drop q t.seats ≡ line ++ rest → IsInLine line → LineEnds rest → (previous : Option ℕ) (mark : Bool) (local : Local Unit Unit)
      → Is (tagged local.tokenize_state.seen local.tokenize_state.size_b (bytes_of line)) local (scan flow g t stack events 2 (line ++ rest) previous q mark local HtmlFlowTagName)
  name-looks [] rest q here in_line ends previous mark local = name-over rest ends previous q mark local
  name-looks (s ∷ ss) rest q here in_line ends previous mark local =
      let there = drop-next t.seats q s (ss ++ rest) here in
      name-goes 1 s ss rest previous q mark local in_line.0
      (tag-looks g t stack events ss rest (q + 1) there in_line.1 ends (Some s.byte) false)
      (slash-looks ss rest ends (Some s.byte) (q + 1) false)
      (name-looks ss rest (q + 1) there in_line.1 ends (Some s.byte) false)

  -- the first letter of a name is looked at twice
  name-begins : (s : Seat) (ss rest : List Seat) (q : ℕ) → drop q t.seats ≡ s ∷ (ss ++ rest) → IsInLine (s ∷ ss) → LineEnds rest → (previous : Option ℕ) (mark : Bool) (local : Local Unit Unit) (spot : Spot) (closes : Bool)
      → SpotAt s ss rest previous q mark local spot (tagged closes 0 (bytes_of (s ∷ ss))) (row (write (tag_closes closes) ∷ write (size_becomes 0) ∷ []) (Retry HtmlFlowTagName))
  name-begins s ss rest q here in_line ends previous mark local spot closes =
      let more = scan flow g t stack events 2 (ss ++ rest) (Some s.byte) (q + 1) false in
      let l = s ∷ (ss ++ rest) in
      let there = drop-next t.seats q s (ss ++ rest) here in
      let closing_set = tag_closes closes (shows stack events l q mark (unchanged local)) in
      let local' = size_becomes 0 (shows stack events l q mark closing_set) in
      one-call-more g t stack events more l mark (tagged closes 0 (bytes_of (s ∷ ss))) local (glance flow g t stack events 1 previous l q mark local' HtmlFlowTagName)
      (name-goes 0 s ss rest previous q mark local' in_line.0
      (tag-looks g t stack events ss rest (q + 1) there in_line.1 ends (Some s.byte) false)
      (slash-looks ss rest ends (Some s.byte) (q + 1) false)
      (name-looks ss rest (q + 1) there in_line.1 ends (Some s.byte) false))

  close-looks : (line rest : List Seat) (q : ℕ) → drop q t.seats ≡ line ++ rest → IsInLine line → LineEnds rest → (previous : Option ℕ) (mark : Bool) (local : Local Unit Unit)
      → Is (tag_closed (bytes_of line)) local (scan flow g t stack events 2 (line ++ rest) previous q mark local HtmlFlowTagCloseStart)
  close-looks [] rest q here in_line ends previous mark local = spot-over less_slash rest ends previous q mark local
  close-looks (s ∷ ss) rest q here in_line ends previous mark local =
      spot-test s ss rest previous q mark local less_slash (is_letter (flow_byte s.byte)) (is_ascii_alphabetic s.byte) (letter-is s.byte) (tagged true 0 (bytes_of (s ∷ ss))) 0
      (row (write (tag_closes true) ∷ write (size_becomes 0) ∷ []) (Retry HtmlFlowTagName)) (row [] Nok)
      (name-begins s ss rest q here in_line ends previous mark local less_slash true) (refl, refl, refl, refl, refl, refl)

  pub html-looks : (line rest : List Seat) (q : ℕ) → drop q t.seats ≡ line ++ rest → IsInLine line → LineEnds rest → (previous : Option ℕ) (mark : Bool) (local : Local Unit Unit)
      → Is (begun (bytes_of line)) local (scan flow g t stack events 2 (line ++ rest) previous q mark local HtmlFlowOpen)
  html-looks [] rest q here in_line ends previous mark local = spot-over less rest ends previous q mark local
  html-looks (s ∷ ss) rest q here in_line ends previous mark local =
      let there = drop-next t.seats q s (ss ++ rest) here in
      let c = flow_byte s.byte in
      let no : Rows Unit Unit = row [] Nok in
      let letters : Rows Unit Unit = row (write (tag_closes false) ∷ write (size_becomes 0) ∷ []) (Retry HtmlFlowTagName) in
      let slashes : Rows Unit Unit = row (consume ∷ []) (Next HtmlFlowTagCloseStart) in
      let bangs : Rows Unit Unit = row (consume ∷ []) (Next HtmlFlowDeclarationOpen) in
      let questions : Rows Unit Unit = kind_of 3 in
      let test = spot-test s ss rest previous q mark local less in
      test (is_letter c) (is_ascii_alphabetic s.byte) (letter-is s.byte) _ _ letters (cond (is_slash c) slashes (cond (is_bang c) bangs (cond (is_question c) questions no)))
      (name-begins s ss rest q here in_line ends previous mark local less false)
      (test (is_slash c) (s.byte == 47) (slash-is s.byte) _ _ slashes (cond (is_bang c) bangs (cond (is_question c) questions no)) (close-looks ss rest (q + 1) there in_line.1 ends (Some s.byte) false (unchanged local))
      (test (is_bang c) (s.byte == 33) (bang-is s.byte) _ _ bangs (cond (is_question c) questions no) (bang-looks ss rest (q + 1) there ends (Some s.byte) false (unchanged local))
      (test (is_question c) (s.byte == 63) (question-is s.byte) 3 0 questions no (refl, refl, refl, refl, refl, (refl, refl, refl)) (refl, refl, refl, refl, refl, refl))))

pub html-is-seen : HtmlIsSeen
html-is-seen g t stack events line rest previous q mark local here in_line ends =
    let (edits, resolvers, start, end, connect, finds) = html-looks g t stack events line rest q here in_line ends previous mark local in
    let r = scan flow g t stack events 2 (line ++ rest) previous q mark local HtmlFlowOpen in
    (record { edits = edits; resolvers = resolvers; start = start; end = end; connect = connect }, subst (λ kind. FindsHtml kind r.local r.answer) (sym (number-is (60 ∷ bytes_of line) ∙ begun-is (bytes_of line))) finds)
