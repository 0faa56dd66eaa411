-- How a machine reads raw HTML between marks: if it is there, with no blank line in it, it is read whole, with its events; if not, what was tried
-- leaves nothing but what is remembered of the kind that does not end, which is right.
use Rattle.mdinline_constructs.proofs.Prelude.{drop-next, Seat, Event, Enter, HtmlText, HtmlTextData, Name, State, Next, Retry, HtmlTextMarkLine, HtmlTextMarkOpen, HtmlTextMarkStart, HtmlTextMarkWhite, Choice, Configuration, Local, point_or, Given, IsText, Text, Byte, Nothing, at-front, place-behind, counts, html_mark_grammar, marked, none_upto, html_of, consume, enter, row, OfOption, outer, decides-in, goes-next, shows, IsAfter, Remembered, after-call, after-more, remembered, spent, Plays, between_items, leads-row, Between, Found, item_length, bytes_of, event, item_events, Bool, List, [], None, Option, Some, ap, arith, drop, false, inl, inr, length, not, refl, slice_get, subst, sym, take, true, ℕ, ◌*◌, ◌++◌, ◌+◌, ◌==◌, ◌∙◌, ◌∷◌, ◌≡◌, ◌≤◌, ◌⊎◌, eqb-true, length-map}
use Rattle.mdinline_constructs.proofs.HtmlMarks.Fails.{Ended, IsLineAt, known-right, less-none, opening-fails}
use Rattle.mdinline_constructs.proofs.HtmlMarks.Found.{marked-is}
use Rattle.mdinline_constructs.proofs.HtmlMarks.Known.{of_kind}
use Rattle.mdinline_constructs.proofs.HtmlMarks.Places.{Mark, at_open, mark_byte, mark_gives_up, mark_move, mark_name, mark_next, marks-go-through-lines, nothing_known}
use Rattle.mdinline_constructs.proofs.HtmlMarks.Remembered.{KnowsMarks, NoneUpto, known-opens, none-upto-stop, stop_index, written-known}
use Rattle.mdinline_constructs.proofs.HtmlMarks.Rows.{FollowsMark, KnowsMark, PlaysMarks, known_upto, knows_of, mark_returns, opening_length, plays-marks}
use Rattle.mdinline_constructs.proofs.HtmlTexts.Reads.{called, in_html_data, reads}
use Rattle.mdinline_constructs.proofs.HtmlTexts.Through.{GivesUp, IsLooked, IsWithin, html_option, html-is, walk-looked, walk-within, html-decided}
use Rattle.mdinline_constructs.proofs.HtmlTexts.Walks.{Stop, looked, one_further, run, stop_of, walk, walks}
use Rattle.mdinline_text_machine.proofs.Texts.Leads.{EndsWith, Leads}

-- It is there if its places are gone through, and there is no blank line
pub mark-there : (b : ℕ) (bs : List ℕ) → (b == 60) ≡ true → html_of (b ∷ bs) (marked (b ∷ bs)) ≡ html_option (one_further (walk mark_next bs false at_open))
mark-there b bs less =
    let plain : (b == 10) ≡ false = ap (λ c. c == 10) (eqb-true b 60 less) in
    ap (html_of (b ∷ bs)) (marked-is b bs less)
    ∙ html-is b bs (run mark_next bs at_open) plain
    ∙ ap (λ o. html_option (one_further o)) (sym ((walks mark_next (marks-go-through-lines nothing_known) bs).0 at_open))

-- What was written of marks in a look: nothing, behind few bytes; or that no mark of a kind of which this was not known ends up to where the look stopped. The rest of
-- what is remembered is as it was
abbrev pub IsWritten : Given → Text → (p : ℕ) → List Seat → (known : Mark → Bool) → (over : ℕ) → (local after : Local Unit Unit) → Type 0
IsWritten g text p ss known over local after =
    ((remembered after ≡ remembered local) × (over ≤ 8))
    ⊎ ((kind : Mark) × (known kind ≡ false) × IsLineAt (bytes_of ss) over × (k : Configuration Unit Unit) × (remembered k.local ≡ remembered local)
    × (remembered after ≡ remembered (none_upto (mark_byte kind) (stop_index g text (drop over ss) (p + 1 + over)) k)))

-- what is known of the kinds where a look begins
abbrev pub known_at : Text → ℕ → Remembered → Mark → Bool
known_at text p r kind = knows_of r kind (slice_get text.seats (p + opening_length kind))

-- how many bytes a look goes over behind its `<`
abbrev pub looked_over : Text → ℕ → Remembered → List Seat → ℕ
looked_over text p r ss = looked (mark_move (known_at text p r)) (bytes_of ss) false at_open

-- the calls of a look
abbrev pub look_calls : Text → ℕ → Remembered → List Seat → ℕ
look_calls text p r ss = 1 + (1 + 2 * looked_over text p r ss)

module _ (g : Given) (text : Text) (m : Plays g text) (names : Between) where
  -- Raw HTML between marks is decided: within the calls of its look; and what is remembered is right if it is not there, and as it was if it is
  abbrev pub MarksDecided : (nok : Name) (p : ℕ) (ended : Bool) (events : List Event) (local : Local Unit Unit) (s : Seat) (ss : List Seat) → Configuration Unit Unit → List Choice → State → Option Found → Type 0
  MarksDecided nok p ended events local s ss k cs st None =
      (after : Local Unit Unit) × KnowsMarks text p (remembered after) × (spent after ≤ spent local + look_calls text p (remembered local) ss)
      × IsWritten g text p ss (known_at text p (remembered local)) (looked_over text p (remembered local) ss) local after
      × Leads g text m.step k cs st (between_items p Nothing ended events after) [] (Next nok)
  MarksDecided nok p ended events local s ss k cs st (Some item) =
      (ended_after : Bool) × (after : Local Unit Unit) × IsAfter (look_calls text p (remembered local) ss) local after
      × Leads g text m.step k cs st (between_items (p + item_length item) Nothing ended_after (events ++ item_events g.bytes (item, take (item_length item) (s ∷ ss))) after) [] (Next names.home)

  -- what is given up further on is given up here, with the calls up to there
  gives-up-before : (n n' : ℕ) (nok : Name) (p : ℕ) (ended : Bool) (events : List Event) (seats : List Seat) (k k' : Configuration Unit Unit) (cs cs' : List Choice) (s s' : State) (rest : List Seat) (stop : ℕ) (w : Stop) (o : Option Found)
      → IsAfter n k.local k'.local → Leads g text m.step k cs s k' cs' s' → GivesUp g text m names n' nok p ended events seats k' cs' s' rest stop w o → GivesUp g text m names (n + n') nok p ended events seats k cs s rest stop w o
  gives-up-before n n' nok p ended events seats k k' cs cs' s s' rest stop w None first leads d =
      (d.0, d.1, d.2, after-more n n' k.local k'.local (counts d.2) first d.3, λ es h. leads es (d.4 es h))
  gives-up-before n n' nok p ended events seats k k' cs cs' s s' rest stop w (Some item) first leads d =
      decides-in g text m names n n' nok p ended events seats k k' cs cs' s s' (Some item) first leads d

  module _ (marks : PlaysMarks g text m.step) (is : IsText g text) (nok : Name) (p : ℕ) (ended : Bool) (events : List Event) (local : Local Unit Unit) (s : Seat) (ss : List Seat) (here : drop p text.seats ≡ s ∷ ss)
      (less : (s.byte == 60) ≡ true) (knows : KnowsMarks text p (remembered local)) where
    abbrev r : Remembered
    r = remembered local

    abbrev known : Mark → Bool
    known = known_at text p r

    abbrev over : ℕ
    over = looked_over text p r ss

    abbrev k : Configuration Unit Unit
    k = between_items p Byte ended events local

    abbrev waits : List Choice
    waits = outer names.home nok p ended events ∷ []

    abbrev there : Option ℕ
    there = walk (mark_move known) (bytes_of ss) false at_open

    abbrev stop : Stop
    stop = stop_of (mark_move known) mark_gives_up (bytes_of ss) false at_open

    right : (kind : Mark) → known kind ≡ true → of_kind kind (bytes_of ss) ≡ None
    right = known-opens g text is p r knows s ss here less

    -- from `<` on
    tries-mark : GivesUp g text m names (look_calls text p r ss) nok p ended events (s ∷ ss) k waits (Retry HtmlTextMarkStart) (drop over ss) (p + 1 + over) stop (html_option (one_further there))
    tries-mark =
        let front = at-front text.seats p s ss here in
        let next_at = drop-next text.seats p s ss here in
        let enters = event g.bytes Enter HtmlText s.point in
        let begun = (events ++ enters ∷ []) ++ event g.bytes Enter HtmlTextData s.point ∷ [] in
        let made = (events ++ event g.bytes Enter HtmlText (point_or text.end (slice_get text.seats p)) ∷ []) ++ event g.bytes Enter HtmlTextData (point_or text.end (slice_get text.seats p)) ∷ [] in
        let same : made ≡ begun = ap (λ o. (events ++ event g.bytes Enter HtmlText (point_or text.end o) ∷ []) ++ event g.bytes Enter HtmlTextData (point_or text.end o) ∷ []) front in
        let k' = shows ss in_html_data (p + 1) begun (counts local) in
        let plain : (s.byte == 10) ≡ false = ap (λ c. c == 10) (eqb-true s.byte 60 less) in
        gives-up-before 1 (1 + 2 * over) nok p ended events (s ∷ ss) k k' waits waits (Retry HtmlTextMarkStart) (Retry HtmlTextMarkOpen) (drop over ss) (p + 1 + over) stop (html_option (one_further there)) (after-call local)
        (λ es h.
        leads-row g text m (row (enter HtmlText ∷ enter HtmlTextData ∷ consume ∷ []) (Next HtmlTextMarkOpen)) k waits HtmlTextMarkStart es (marks.start _)
        (goes-next g text m ss in_html_data (p + 1) made (counts local) waits HtmlTextMarkOpen next_at es
        (subst (λ e. EndsWith g text m.step (shows ss in_html_data (p + 1) e (counts local)) waits (Retry HtmlTextMarkOpen) es) (sym same) h)))
        (html-decided g text m names 1 nok p ended events s ss k' (Retry HtmlTextMarkOpen) over stop there here (walk-within (mark_move known) (bytes_of ss) false at_open)
        ((reads g text m.step (mark_move known) mark_name mark_returns mark_gives_up HtmlTextMarkLine HtmlTextMarkWhite (KnowsMark text p known) FollowsMark (plays-marks g text m.step marks p known) waits ss).0 at_open (p + 1)
        (counts local) (events ++ enters ∷ []) s [] next_at (refl, λ kind. refl) (ap not plain, tt) (place-behind text p s front)))

    -- what is not there leaves what is remembered right
    not-there : there ≡ None → (w : Stop) → Ended known 8 (bytes_of ss) over w
        → GivesUp g text m names (look_calls text p r ss) nok p ended events (s ∷ ss) k waits (Retry HtmlTextMarkStart) (drop over ss) (p + 1 + over) w None
        → MarksDecided nok p ended events local s ss k waits (Retry HtmlTextMarkStart) None
    not-there none w (inl (silent, few)) given =
        let d = subst (λ w. GivesUp g text m names (look_calls text p r ss) nok p ended events (s ∷ ss) k waits (Retry HtmlTextMarkStart) (drop over ss) (p + 1 + over) w None) silent given in
        (counts d.2, subst (KnowsMarks text p) (sym d.3.same) knows, d.3.calls, inl (d.3.same, few), d.4)
    not-there none w (inr (kind, unknown, (among, lines, writes))) given =
        let d = subst (λ w. GivesUp g text m names (look_calls text p r ss) nok p ended events (s ∷ ss) k waits (Retry HtmlTextMarkStart) (drop over ss) (p + 1 + over) w None) writes given in
        let k1 = called (shows (drop over ss) d.0 (p + 1 + over) d.1 d.2) in
        let i = stop_index g text (drop over ss) (p + 1 + over) in
        let gone : of_kind kind (bytes_of ss) ≡ None = less-none known (bytes_of ss) none right kind in (
          none_upto (mark_byte kind) i k1,
          written-known (λ m i. NoneUpto text m p i) kind i k1 (none-upto-stop g text is kind p s ss over here ((λ at. gone), among)) (λ m. subst (NoneUpto text m p) (ap (known_upto m) (sym d.3.same)) (knows m)),
          d.3.calls,
          inr (kind, unknown, lines, k1, d.3.same, refl),
          d.4,
        )

    -- a mark that is there has as many bytes as are gone over, and no more than there are
    there-paid : (o : Option ℕ) → IsLooked over o → OfOption (λ item. look_calls text p r ss ≤ 2 * item_length item) (html_option (one_further o))
    there-paid None h = tt
    there-paid (Some n) h = omega (arith, h)

    there-within : (o : Option ℕ) → IsWithin (bytes_of ss) o → OfOption (λ item. item_length item ≤ length (s ∷ ss)) (html_option (one_further o))
    there-within None h = tt
    there-within (Some n) h = omega (arith, h, length-map ss (λ (s : Seat). s.byte))

    -- so of what is said to be there
    front-is : html_option (one_further there) ≡ html_mark_grammar.front (bytes_of (s ∷ ss))
    front-is = ap (λ o. html_option (one_further o)) (known-right known (bytes_of ss) right) ∙ sym (mark-there s.byte (bytes_of ss) less)

    pub mark-paid : OfOption (λ item. look_calls text p r ss ≤ 2 * item_length item) (html_mark_grammar.front (bytes_of (s ∷ ss)))
    mark-paid =
        subst (OfOption (λ item. look_calls text p r ss ≤ 2 * item_length item)) front-is (there-paid there (walk-looked (mark_move known) (bytes_of ss) false at_open))

    pub mark-within : OfOption (λ item. item_length item ≤ length (s ∷ ss)) (html_mark_grammar.front (bytes_of (s ∷ ss)))
    mark-within = subst (OfOption (λ item. item_length item ≤ length (s ∷ ss))) front-is (there-within there (walk-within (mark_move known) (bytes_of ss) false at_open))

    decided : (o : Option ℕ) → there ≡ o
        → GivesUp g text m names (look_calls text p r ss) nok p ended events (s ∷ ss) k waits (Retry HtmlTextMarkStart) (drop over ss) (p + 1 + over) stop (html_option (one_further o))
        → MarksDecided nok p ended events local s ss k waits (Retry HtmlTextMarkStart) (html_option (one_further o))
    decided None e given = not-there e stop (opening-fails known (bytes_of ss) at_open tt e) given
    decided (Some n) e given = given

    -- The theorem of raw HTML between marks, by what is remembered
    pub html-marks-read : MarksDecided nok p ended events local s ss k waits (Retry HtmlTextMarkStart) (html_mark_grammar.front (bytes_of (s ∷ ss)))
    html-marks-read =
        subst (MarksDecided nok p ended events local s ss k waits (Retry HtmlTextMarkStart))
        front-is (decided there refl tries-mark)
