-- How a machine reads tags: if one is there, with no blank line in it, it is read whole, with its events; if not, what was tried leaves nothing. And
-- within how many calls.
use Rattle.mdinline_constructs.proofs.Prelude.{◌≡◌, ℕ, ◌+◌, ◌*◌, ◌==◌, List, [], ◌∷◌, ◌++◌, Bool, true, false, not, None, slice_get, sym, ap, ◌∙◌, subst, drop, arith, eqb-true, drop-next, Event, Enter, HtmlText, HtmlTextData, Name, Next, Retry, HtmlTextStart, HtmlTextOpen, HtmlTextLineEndingAfter, HtmlTextLineEndingAfterPrefix, Seat, Local, point_or, Given, Text, Byte, at-front, place-behind, goes-next, shows, after-call, counts, row, enter, consume, Between, bytes_of, event, outer, ReadsIn, TriedIn, decides-in, decides-more, Plays, between_items, leads-row, tag_length, html_tags, html_of}
use Rattle.mdinline_text_machine.proofs.Texts.Leads.{EndsWith}
use Rattle.mdinline_constructs.proofs.HtmlTags.Calls.{tag_calls}
use Rattle.mdinline_constructs.proofs.HtmlTags.Grammar.{tag-is}
use Rattle.mdinline_constructs.proofs.HtmlTags.Places.{opened, next, length_to, length-more, run-is, tags-go-through-lines}
use Rattle.mdinline_constructs.proofs.HtmlTags.Rows.{PlaysTags, state_of, returns_to, KnowsQuote, FollowsLine, plays-html}
use Rattle.mdinline_constructs.proofs.HtmlTexts.Pieces.{pieces_events}
use Rattle.mdinline_constructs.proofs.HtmlTexts.Reads.{Decided, in_html_data, reads}
use Rattle.mdinline_constructs.proofs.HtmlTexts.Through.{html_option, html-is, walk-within, html-decided, gives-up-in}
use Rattle.mdinline_constructs.proofs.HtmlTexts.Walks.{looked, never_writes, nothing-written, one_further, run, walk, walks}

-- A tag is there if its places are gone through, and there is no blank line
pub tag-there : (b : ℕ) (bs : List ℕ) → (b == 60) ≡ true → html_of (b ∷ bs) (tag_length (b ∷ bs)) ≡ html_option (one_further (walk next bs false opened))
tag-there b bs less =
    let plain : (b == 10) ≡ false = ap (λ c. c == 10) (eqb-true b 60 less) in
    ap (λ o. html_of (b ∷ bs) (length_to (b ∷ bs) o)) (tag-is b bs less)
    ∙ ap (html_of (b ∷ bs)) (sym (length-more b bs opened) ∙ ap one_further (sym (run-is bs opened)))
    ∙ html-is b bs (run next bs opened) plain
    ∙ ap (λ o. html_option (one_further o)) (sym ((walks next tags-go-through-lines bs).0 opened))

module _ (g : Given) (text : Text) (m : Plays g text) (tags : PlaysTags g text m.step) (names : Between) where
  -- from `<` on
  tries-tag : (nok : Name) (p : ℕ) (ended : Bool) (events : List Event) (local : Local Unit Unit) (s : Seat) (ss : List Seat) → drop p text.seats ≡ s ∷ ss → (s.byte == 60) ≡ true
      → TriedIn g text m names (2 + 2 * looked next (bytes_of ss) false opened) HtmlTextStart nok p ended events local (s ∷ ss) (html_option (one_further (walk next (bytes_of ss) false opened)))
  tries-tag nok p ended events local s ss here less =
      let waits = outer names.home nok p ended events ∷ [] in
      let front = at-front text.seats p s ss here in
      let next_at = drop-next text.seats p s ss here in
      let enters = event g.bytes Enter HtmlText s.point in
      let begun = (events ++ enters ∷ []) ++ event g.bytes Enter HtmlTextData s.point ∷ [] in
      let made = (events ++ event g.bytes Enter HtmlText (point_or text.end (slice_get text.seats p)) ∷ []) ++ event g.bytes Enter HtmlTextData (point_or text.end (slice_get text.seats p)) ∷ [] in
      let same : made ≡ begun = ap (λ o. (events ++ event g.bytes Enter HtmlText (point_or text.end o) ∷ []) ++ event g.bytes Enter HtmlTextData (point_or text.end o) ∷ []) front in
      let k = between_items p Byte ended events local in
      let k' = shows ss in_html_data (p + 1) begun (counts local) in
      let o = walk next (bytes_of ss) false opened in
      let plain : (s.byte == 10) ≡ false = ap (λ c. c == 10) (eqb-true s.byte 60 less) in
      let over = looked next (bytes_of ss) false opened in
      let read = html-decided g text m names 1 nok p ended events s ss k' (Retry HtmlTextOpen) over None o here (walk-within next (bytes_of ss) false opened)
      (subst (λ w. Decided g text m.step 1 k' waits (Retry HtmlTextOpen) ss (p + 1) (events ++ enters ∷ []) (λ y. pieces_events g.bytes (s ∷ y)) over w o) (nothing-written next (bytes_of ss) false opened)
      ((reads g text m.step next state_of returns_to never_writes HtmlTextLineEndingAfter HtmlTextLineEndingAfterPrefix (λ s q local. KnowsQuote s local) FollowsLine (plays-html g text m.step tags) waits ss).0 opened (p + 1) (counts local)
      (events ++ enters ∷ []) s [] next_at tt (ap not plain, tt) (place-behind text p s front))) in
      decides-more g text m names (1 + (1 + 2 * over)) (2 + 2 * over) nok p ended events (s ∷ ss) k waits (Retry HtmlTextStart) (html_option (one_further o)) (omega arith)
      (decides-in g text m names 1 (1 + 2 * over) nok p ended events (s ∷ ss) k k' waits waits (Retry HtmlTextStart) (Retry HtmlTextOpen) (html_option (one_further o)) (after-call local)
      (λ es h.
      leads-row g text m (row (enter HtmlText ∷ enter HtmlTextData ∷ consume ∷ []) (Next HtmlTextOpen)) k waits HtmlTextStart es (tags.start _)
      (goes-next g text m ss in_html_data (p + 1) made (counts local) waits HtmlTextOpen next_at es
      (subst (λ e. EndsWith g text m.step (shows ss in_html_data (p + 1) e (counts local)) waits (Retry HtmlTextOpen) es) (sym same) h)))
      (gives-up-in g text m names (1 + 2 * over) nok p ended events (s ∷ ss) k' waits (Retry HtmlTextOpen) (drop over ss) (p + 1 + over) (html_option (one_further o)) read))

  -- The theorem of tags, within so many calls
  pub html-tags-read-in : ReadsIn g text m names tag_calls html_tags
  html-tags-read-in nok p ended events local s ss here first =
      subst (TriedIn g text m names (tag_calls (bytes_of (s ∷ ss))) HtmlTextStart nok p ended events local (s ∷ ss)) (sym (tag-there s.byte (bytes_of ss) first))
      (tries-tag nok p ended events local s ss here first)
