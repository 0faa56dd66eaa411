-- Raw HTML behind its `<`: it is read as what there is, if no blank line is in it; and if it is not there, what was tried leaves nothing. The calls
-- are bounded by the bytes that are gone over.
use Rattle.mdinline_constructs.proofs.Prelude.{◌≡◌, ℕ, suc, ◌+◌, ◌*◌, ◌≤◌, ◌==◌, ◌&&◌, List, [], ◌∷◌, ◌++◌, Bool, true, false, cond, Option, Some, None, length, take, drop, refl, ap, ◌∙◌, arith, append_assoc, length-map, take_at, Event, Enter, Exit, EventName, HtmlText, Name, State, Next, Seat, Choice, Configuration, Local, end_place, Given, Text, Nothing, counts, is_white, Found, Between, bytes_of, event, item_events, OfOption, outer, DecidesIn, puts-back, end-behind, shows, IsAfter, Leads, Plays, between_items, leads-ok, html, html_of, has_blank_line}
use Rattle.mdinline_constructs.proofs.HtmlTexts.Pieces.{pieces_events}
use Rattle.mdinline_constructs.proofs.HtmlTexts.Reads.{Decided, given_up}
use Rattle.mdinline_constructs.proofs.HtmlTexts.Walks.{Move, refused, done, goes, moved, gone_over, looked, one_further, with_no_blank, walk, Stop, plain-front}

-- raw HTML of so many bytes, if there is some
abbrev pub html_option : Option ℕ → Option Found
html_option None = None
html_option (Some n) = Some (html n)

-- raw HTML behind a byte that is no line feed: a blank line may be behind that byte only
pub html-is : (b : ℕ) (bs : List ℕ) (o : Option ℕ) → (b == 10) ≡ false → html_of (b ∷ bs) (one_further o) ≡ html_option (one_further (with_no_blank false bs o))
html-is b bs None plain = refl
html-is b bs (Some n) plain =
    ap (λ t. cond t None (Some (html (suc n)))) (plain-front b (take n bs) plain)
    ∙ elim (has_blank_line (take n bs)) as (λ t. cond t None (Some (html (suc n))) ≡ html_option (one_further (cond t None (Some n)))) [ true ↦ refl | false ↦ refl ]

-- no more bytes are read than there are
abbrev pub IsWithin : List ℕ → Option ℕ → Type 0
IsWithin bs o = OfOption (λ n. n ≤ length bs) o

more-within : (b : ℕ) (bs : List ℕ) (o : Option ℕ) → IsWithin bs o → IsWithin (b ∷ bs) (one_further o)
more-within b bs None h = tt
more-within b bs (Some n) h = omega (arith, h)

either-within : (bs : List ℕ) (t : Bool) (x y : Option ℕ) → IsWithin bs x → IsWithin bs y → IsWithin bs (cond t x y)
either-within bs true x y h k = h
either-within bs false x y h k = k

module _ {S : Type 0} (next : S → ℕ → Move S) where
  move-within : (b : ℕ) (bs : List ℕ) (line : Bool) (m : Move S) → ((s : S) → IsWithin bs (walk next bs line s)) → IsWithin (b ∷ bs) (moved (walk next bs line) m)
  move-within b bs line refused h = tt
  move-within b bs line done h = omega arith
  move-within b bs line (goes w s) h = more-within b bs (walk next bs line s) (h s)

  pub walk-within : (bs : List ℕ) (line : Bool) (s : S) → IsWithin bs (walk next bs line s)
  walk-within [] line s = tt
  walk-within (b ∷ bs) line s =
      either-within (b ∷ bs) (b == 10) _ _ (either-within (b ∷ bs) line None (moved (walk next bs true) (next s b)) tt (move-within b bs true (next s b) (walk-within bs true)))
      (either-within (b ∷ bs) (line && is_white b) _ _ (more-within b bs (walk next bs true s) (walk-within bs true s)) (move-within b bs false (next s b) (walk-within bs false)))

-- as many bytes are gone over as are there
abbrev pub IsLooked : (over : ℕ) → Option ℕ → Type 0
IsLooked over o = OfOption (λ n. over ≡ n) o

further-looked : (over : ℕ) (o : Option ℕ) → IsLooked over o → IsLooked (suc over) (one_further o)
further-looked over None h = tt
further-looked over (Some n) h = ap suc h

module _ {S : Type 0} (next : S → ℕ → Move S) where
  move-looked : (bs : List ℕ) (line : Bool) (m : Move S) → ((s : S) → IsLooked (looked next bs line s) (walk next bs line s)) → IsLooked (gone_over (looked next bs line) m) (moved (walk next bs line) m)
  move-looked bs line refused h = tt
  move-looked bs line done h = refl
  move-looked bs line (goes w s) h = further-looked (looked next bs line s) (walk next bs line s) (h s)

  pub walk-looked : (bs : List ℕ) (line : Bool) (s : S) → IsLooked (looked next bs line s) (walk next bs line s)
  walk-looked [] line s = tt
  walk-looked (b ∷ bs) line s =
      elim (b == 10) as (λ t. IsLooked (cond t (cond line 0 (gone_over (looked next bs true) (next s b))) (cond (line && is_white b) (suc (looked next bs true s)) (gone_over (looked next bs false) (next s b))))
      (cond t (cond line None (moved (walk next bs true) (next s b))) (cond (line && is_white b) (one_further (walk next bs true s)) (moved (walk next bs false) (next s b))))) [
        | true ↦ elim line as (λ l. IsLooked (cond l 0 (gone_over (looked next bs true) (next s b))) (cond l None (moved (walk next bs true) (next s b)))) [
          | true ↦ tt
          | false ↦ move-looked bs true (next s b) (walk-looked bs true)
        ]
        | false ↦ elim (line && is_white b) as (λ l. IsLooked (cond l (suc (looked next bs true s)) (gone_over (looked next bs false) (next s b))) (cond l (one_further (walk next bs true s)) (moved (walk next bs false) (next s b)))) [
          | true ↦ further-looked (looked next bs true s) (walk next bs true s) (walk-looked bs true s)
          | false ↦ move-looked bs false (next s b) (walk-looked bs false)
        ]
      ]

module _ (g : Given) (text : Text) (m : Plays g text) (names : Between) where
  -- Where raw HTML is tried, within so many calls: if it is there, it is read; if not, it is given up in front of these seats, at this position,
  -- with what is written there
  abbrev pub GivesUp : (n : ℕ) (nok : Name) (p : ℕ) (ended : Bool) (events : List Event) → List Seat → Configuration Unit Unit → List Choice → State → (rest : List Seat) (stop : ℕ) → Stop → Option Found → Type 0
  GivesUp n nok p ended events seats k cs s rest stop w None =
      (stack : List EventName) × (made : List Event) × (local : Local Unit Unit) × IsAfter n k.local (counts local)
      × Leads g text m k cs s (between_items p Nothing ended events (given_up g text m.step (shows rest stack stop made local) w).local) [] (Next nok)
  GivesUp n nok p ended events seats k cs s rest stop w (Some item) = DecidesIn g text m names n nok p ended events seats k cs s (Some item)

  -- so it is decided, if nothing is written
  pub gives-up-in : (n : ℕ) (nok : Name) (p : ℕ) (ended : Bool) (events : List Event) (seats : List Seat) (k : Configuration Unit Unit) (cs : List Choice) (s : State) (rest : List Seat) (stop : ℕ) (o : Option Found)
      → GivesUp n nok p ended events seats k cs s rest stop None o → DecidesIn g text m names n nok p ended events seats k cs s o
  gives-up-in n nok p ended events seats k cs s rest stop None d = (counts d.2, d.3, d.4)
  gives-up-in n nok p ended events seats k cs s rest stop (Some item) d = d

  -- what is given up behind the first byte is given up there
  pub html-decided : (c : ℕ) (nok : Name) (p : ℕ) (ended : Bool) (events : List Event) (x : Seat) (ss : List Seat) (k : Configuration Unit Unit) (s : State) (over : ℕ) (w : Stop) (o : Option ℕ) → drop p text.seats ≡ x ∷ ss
      → IsWithin (bytes_of ss) o
      → Decided g text m.step c k (outer names.home nok p ended events ∷ []) s ss (p + 1) (events ++ event g.bytes Enter HtmlText x.point ∷ []) (λ y. pieces_events g.bytes (x ∷ y)) over w o
      → GivesUp (c + 2 * over) nok p ended events (x ∷ ss) k (outer names.home nok p ended events ∷ []) s (drop over ss) (p + 1 + over) w (html_option (one_further o))
  html-decided c nok p ended events x ss k s over w None at within d =
      let made = (events ++ event g.bytes Enter HtmlText x.point ∷ []) ++ d.1 in (
        d.0,
        made,
        d.2,
        d.3,
        λ es h. d.4 es (puts-back g text m names nok p ended events (given_up g text m.step (shows (drop over ss) d.0 (p + 1 + over) made d.2) w)
            (ap (take (length events)) (append_assoc events (event g.bytes Enter HtmlText x.point ∷ []) d.1) ∙ take_at events (event g.bytes Enter HtmlText x.point ∷ d.1) (length events) refl) es h),
      )
  html-decided c nok p ended events x ss k s over w (Some n) at within d =
      let enters = event g.bytes Enter HtmlText x.point in
      let inside = pieces_events g.bytes (x ∷ take n ss) in
      let exits = event g.bytes Exit HtmlText (end_place text (p + 1 + n)) in
      let made = ((events ++ enters ∷ []) ++ inside) ++ exits ∷ [] in
      let place : p + 1 + n ≡ p + suc n = omega arith in
      let few : n ≤ length ss = omega (arith, within, length-map ss (λ (s : Seat). s.byte)) in
      let read : enters ∷ (inside ++ exits ∷ []) ≡ item_events g.bytes (html (suc n), x ∷ take n ss) =
      ap (λ q. enters ∷ (inside ++ event g.bytes Exit HtmlText (end_place text q) ∷ [])) place
      ∙ ap (λ q. enters ∷ (inside ++ event g.bytes Exit HtmlText q ∷ [])) (end-behind text n p x ss at few) in
      let same : made ≡ events ++ item_events g.bytes (html (suc n), x ∷ take n ss) =
      ap (λ e. e ++ exits ∷ []) (append_assoc events (enters ∷ []) inside) ∙ append_assoc events (enters ∷ inside) (exits ∷ []) ∙ ap (λ e. events ++ e) read in (
        false,
        d.0,
        d.1,
        λ es h. d.2 es (leads-ok g text m (between_items (p + 1 + n) Nothing false made d.0) (outer names.home nok p ended events) [] es (rw (same, place) h)),
      )
