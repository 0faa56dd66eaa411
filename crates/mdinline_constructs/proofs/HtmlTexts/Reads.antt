-- A machine that reads raw HTML byte by byte, from place to place, reads what there is, with its events; and it refuses a blank line. It makes two
-- calls at most for each byte that it goes over, and two more.
use Rattle.mdinline_constructs.proofs.Prelude.{◌≡◌, ℕ, zero, suc, ◌+◌, ◌*◌, ◌≤◌, ◌==◌, List, [], ◌∷◌, ◌++◌, true, false, cond, not, Option, Some, None, take, drop, slice_get, refl, sym, ap, ◌∙◌, subst, arith, eqb-true, append_assoc, append-nil, drop-next, end-after-one, Event, Enter, Exit, EventName, HtmlText, HtmlTextData, LineEnding, SpaceOrTab, Name, State, Next, Retry, Ok, Nok, Seat, end_after, with_local, Choice, Configuration, Local, Step, Sight, sight, byte_of, end_or, end_place, point_or, Given, Text, Byte, End, Nothing, row_step, at-front, held, place-behind, shows, IsAfter, after-call, after-more, after-within, remembered, next-fed, as_asked, leads-step, spent, is_white, counts, Act, Rows, row, enter, exit, consume, write, writes, shown_sight, passes, bytes_of, leaf}
use Rattle.mdinline_text_machine.proofs.Texts.Leads.{EndsWith, Leads}
use Rattle.mdconstructs_machines.specs.Spans.{event}
use Rattle.mdinline_constructs.proofs.HtmlTexts.Pieces.{AllPass, StopsAt, is_no_line_feed, one-passes-more, pieces_events, line_events, data-piece, line-piece, white-piece}
use Rattle.mdinline_constructs.proofs.HtmlTexts.Walks.{Move, refused, done, goes, moved, one_further, walk, looked, gone_over, Stop, stop_of, stop_behind, OfLine, GoesThroughLines}

-- the spans that are open: in raw HTML, in its data, and in white space
abbrev pub in_html : List EventName
in_html = HtmlText ∷ []

abbrev pub in_html_data : List EventName
in_html_data = HtmlText ∷ HtmlTextData ∷ []

abbrev pub in_html_white : List EventName
in_html_white = HtmlText ∷ SpaceOrTab ∷ []

-- what is written, if anything is
abbrev pub Writes : Type 0
Writes = Option (Configuration Unit Unit → Local Unit Unit)

abbrev pub wrote : Writes → Configuration Unit Unit → Local Unit Unit
wrote None k = k.local
wrote (Some f) k = f k

abbrev pub writes_then : Writes → List (Act Unit Unit) → List (Act Unit Unit)
writes_then None acts = acts
writes_then (Some f) acts = write f ∷ acts

-- a call that is counted
abbrev pub called : Configuration Unit Unit → Configuration Unit Unit
called k = with_local k (counts k.local)

-- the acts where the reader is stopped, and what states share behind them
abbrev pub stop_acts : Stop → List (Act Unit Unit)
stop_acts None = []
stop_acts (Some f) = writes f ∷ []

abbrev pub stopped : Stop → Sight → Configuration Unit Unit → Local Unit Unit
stopped None s k = k.local
stopped (Some f) s k = f (shown_sight s) k

-- a call that is counted, with a write of nothing that is remembered
pub written-counts : (local after : Local Unit Unit) → spent after ≡ spent (counts local) → remembered after ≡ remembered local → IsAfter 1 local after
written-counts local after one same = record { calls = omega (arith, one, (after-call local).calls); same = same }

module _ {S : Type 0} (name : S → Name) where
  -- the row of what a byte does
  abbrev pub row_of : Move S → Rows Unit Unit
  row_of refused = row [] Nok
  row_of done = row (consume ∷ exit HtmlTextData ∷ exit HtmlText ∷ []) Ok
  row_of (goes w s) = row (writes_then w (consume ∷ [])) (Next (name s))

  -- and of a line feed: data ends, and the state of this name follows
  abbrev pub line_row_of : (returns : S → Writes) → (after : Name) → Move S → Rows Unit Unit
  line_row_of returns after (goes w s) = row (exit HtmlTextData ∷ enter LineEnding ∷ consume ∷ exit LineEnding ∷ writes_then (returns s) []) (Next after)
  line_row_of returns after _ = row [] Nok

module _ (g : Given) (text : Text) (step : Sight → Configuration Unit Unit → Name → Step Unit Unit) where
  -- the step of a name is that of a row
  abbrev pub HasStep : Configuration Unit Unit → Name → Rows Unit Unit → Type 0
  HasStep k name rows = step (sight g text k) k name ≡ row_step g text k rows

  -- an event at a place
  abbrev enters : EventName → Seat → Event
  enters n s = event g.bytes Enter n s.point

  abbrev exits_at : EventName → ℕ → Event
  exits_at n q = event g.bytes Exit n (end_place text q)

  -- a configuration behind the call that gives up
  abbrev pub given_up : Configuration Unit Unit → Stop → Configuration Unit Unit
  given_up k w = let k1 = called k in with_local k1 (stopped w (sight g text k) k1)

  -- The reading is decided, within two calls for each byte that is gone over and so many more: so many bytes more are there, and are read with
  -- these events; or nothing is there, and behind the bytes that are gone over it is given up, and what was read before is kept
  abbrev pub Decided : (c : ℕ) → Configuration Unit Unit → List Choice → State → List Seat → ℕ → List Event → (List Seat → List Event) → (over : ℕ) → Stop → Option ℕ → Type 0
  Decided c k cs s l q before all over w None =
      (stack : List EventName) × (more : List Event) × (local : Local Unit Unit) × IsAfter (c + 2 * over) k.local (counts local)
      × Leads g text step k cs s (given_up (shows (drop over l) stack (q + over) (before ++ more) local) w) cs Nok
  Decided c k cs s l q before all over w (Some n) =
      (local : Local Unit Unit) × IsAfter (c + 2 * over) k.local local
      × Leads g text step k cs s (held [] (q + n) Nothing false ((before ++ all (take n l)) ++ exits_at HtmlText (q + n) ∷ []) local) cs Ok

  -- a state that is to come is called with what is fed
  goes-next : (l : List Seat) (stack : List EventName) (p : ℕ) (events : List Event) (local : Local Unit Unit) (cs : List Choice) (n : Name) → drop p text.seats ≡ l
      → Leads g text step (held stack p Nothing false events local) cs (Next n) (shows l stack p events local) cs (Retry n)
  goes-next [] stack p events local cs n at = next-fed g text step [] stack p false events local cs n at
  goes-next (s ∷ ss) stack p events local cs n at = next-fed g text step (s ∷ ss) stack p false events local cs n at

  -- from one byte further on
  decided-behind : (c c1 : ℕ) (k k1 : Configuration Unit Unit) (cs : List Choice) (s s1 : State) (x : Seat) (ss : List Seat) (q : ℕ) (before before1 : List Event) (all all1 : List Seat → List Event) (over : ℕ) (w : Stop) (o : Option ℕ)
      → c1 ≤ c + 1 → IsAfter 1 k.local k1.local
      → Leads g text step k cs s k1 cs s1 → (more : List Event) → before1 ≡ before ++ more → ((y : List Seat) → before1 ++ all1 y ≡ before ++ all (x ∷ y))
      → Decided c1 k1 cs s1 ss (q + 1) before1 all1 over w o → Decided c k cs s (x ∷ ss) q before all (suc over) w (one_further o)
  decided-behind c c1 k k1 cs s s1 x ss q before before1 all all1 over w None fits first leads more is same d =
      let place : q + suc over ≡ q + 1 + over = omega arith in
      let made : before ++ (more ++ d.1) ≡ before1 ++ d.1 = sym (ap (λ e. e ++ d.1) is ∙ append_assoc before more d.1) in
      let family = λ (p : ℕ) (e : List Event). given_up (shows (drop over ss) d.0 p e d.2) w in (
        d.0,
        more ++ d.1,
        d.2,
        after-within (1 + (c1 + 2 * over)) (c + 2 * suc over) k.local (counts d.2) (omega (arith, fits)) (after-more 1 (c1 + 2 * over) k.local k1.local (counts d.2) first d.3),
        λ es h. leads es (d.4 es (subst (λ p. EndsWith g text step (family p (before1 ++ d.1)) cs Nok es) place
            (subst (λ e. EndsWith g text step (family (q + suc over) e) cs Nok es) made h))),
      )
  decided-behind c c1 k k1 cs s s1 x ss q before before1 all all1 over w (Some n) fits first leads more is same d =
      let place : q + suc n ≡ q + 1 + n = omega arith in
      let family = λ (p : ℕ) (e : List Event). held [] p Nothing false (e ++ exits_at HtmlText p ∷ []) d.0 in (
        d.0,
        after-within (1 + (c1 + 2 * over)) (c + 2 * suc over) k.local d.0 (omega (arith, fits)) (after-more 1 (c1 + 2 * over) k.local k1.local d.0 first d.1),
        λ es h. leads es (d.2 es (subst (λ p. EndsWith g text step (family p (before1 ++ all1 (take n ss))) cs Ok es) place
            (subst (λ e. EndsWith g text step (family (q + suc n) e) cs Ok es) (sym (same (take n ss))) h))),
      )

  -- from the same byte on
  decided-here : (c c1 : ℕ) (k k1 : Configuration Unit Unit) (cs : List Choice) (s s1 : State) (l : List Seat) (q : ℕ) (before before1 : List Event) (all all1 : List Seat → List Event) (over : ℕ) (w : Stop) (o : Option ℕ)
      → 1 + c1 ≤ c → IsAfter 1 k.local k1.local
      → Leads g text step k cs s k1 cs s1 → (more : List Event) → before1 ≡ before ++ more → ((n : ℕ) → before1 ++ all1 (take n l) ≡ before ++ all (take n l))
      → Decided c1 k1 cs s1 l q before1 all1 over w o → Decided c k cs s l q before all over w o
  decided-here c c1 k k1 cs s s1 l q before before1 all all1 over w None fits first leads more is same d =
      let made : before ++ (more ++ d.1) ≡ before1 ++ d.1 = sym (ap (λ e. e ++ d.1) is ∙ append_assoc before more d.1) in (
        d.0,
        more ++ d.1,
        d.2,
        after-within (1 + (c1 + 2 * over)) (c + 2 * over) k.local (counts d.2) (omega (arith, fits)) (after-more 1 (c1 + 2 * over) k.local k1.local (counts d.2) first d.3),
        λ es h. leads es (d.4 es (subst (λ e. EndsWith g text step (given_up (shows (drop over l) d.0 (q + over) e d.2) w) cs Nok es) made h)),
      )
  decided-here c c1 k k1 cs s s1 l q before before1 all all1 over w (Some n) fits first leads more is same d = (
    d.0,
    after-within (1 + (c1 + 2 * over)) (c + 2 * over) k.local d.0 (omega (arith, fits)) (after-more 1 (c1 + 2 * over) k.local k1.local d.0 first d.1),
    λ es h. leads es (d.2 es (subst (λ e. EndsWith g text step (held [] (q + n) Nothing false (e ++ exits_at HtmlText (q + n) ∷ []) d.0) cs Ok es) (sym (same n)) h)),
  )

  module _ {S : Type 0} (next : S → ℕ → Move S) (name : S → Name) (returns : S → Writes) (gives_up : S → Stop) (after prefix : Name) (Knows : S → (q : ℕ) → Local Unit Unit → Type 0) (Follows : S → Local Unit Unit → Type 0) where
    -- A machine that reads raw HTML: at the names of places it does what their bytes do; one state is behind a line ending, and one in white space
    -- behind that. What states share says more of a place, and which place follows the line ending
    pub record PlaysHtml : Type 0 where
      pub through : GoesThroughLines next
      pub kept : (s s' : S) (b : ℕ) (w : Writes) → next s b ≡ goes w s' → (k : Configuration Unit Unit) → Knows s k.position k.local → Knows s' (k.position + 1) (wrote w (called k))
      pub follows : (s s' : S) (w : Writes) → next s 10 ≡ goes w s' → (q : ℕ) (k : Configuration Unit Unit) → Knows s q k.local → Follows s' (wrote (returns s') (called k))
      pub after_move : (s s' : S) (b : ℕ) (w : Writes) → next s b ≡ goes w s' → (k : Configuration Unit Unit) → IsAfter 1 k.local (wrote w (called k))
      pub after_return : (s : S) (k : Configuration Unit Unit) → IsAfter 1 k.local (wrote (returns s) (called k))
      pub counted : (s : S) (local : Local Unit Unit) → Follows s local → Follows s (counts local)
      pub known : (s : S) (q : ℕ) (local : Local Unit Unit) → Follows s local → Knows s q local
      pub at_end : (s : S) (k : Configuration Unit Unit) → (sight g text k).current ≡ None → Knows s k.position k.local → HasStep k (name s) (row (stop_acts (gives_up s)) Nok)
      pub at_line : (s : S) (k : Configuration Unit Unit) → (sight g text k).current ≡ Some 10 → HasStep k (name s) (line_row_of name returns after (next s 10))
      pub at_byte : (s : S) (b : ℕ) (k : Configuration Unit Unit) → (sight g text k).current ≡ Some b → (b == 10) ≡ false → Knows s k.position k.local → HasStep k (name s) (row_of name (next s b))
      pub after_stops : (s : S) (k : Configuration Unit Unit) → passes is_no_line_feed (sight g text k).current ≡ false → Follows s k.local → HasStep k after (row (stop_acts (gives_up s)) Nok)
      pub after_white : (k : Configuration Unit Unit) (b : ℕ) → (sight g text k).current ≡ Some b → is_white b ≡ true → HasStep k after (row (enter SpaceOrTab ∷ consume ∷ []) (Next prefix))
      pub after_begins : (s : S) (k : Configuration Unit Unit) (b : ℕ) → (sight g text k).current ≡ Some b → (b == 10) ≡ false → is_white b ≡ false → Follows s k.local
          → HasStep k after (row (enter HtmlTextData ∷ []) (Retry (name s)))
      pub prefix_stops : (s : S) (k : Configuration Unit Unit) → passes is_no_line_feed (sight g text k).current ≡ false → Follows s k.local → HasStep k prefix (row (stop_acts (gives_up s)) Nok)
      pub prefix_white : (k : Configuration Unit Unit) (b : ℕ) → (sight g text k).current ≡ Some b → is_white b ≡ true → HasStep k prefix (row (consume ∷ []) (Next prefix))
      pub prefix_begins : (s : S) (k : Configuration Unit Unit) (b : ℕ) → (sight g text k).current ≡ Some b → (b == 10) ≡ false → is_white b ≡ false → Follows s k.local
          → HasStep k prefix (row (exit SpaceOrTab ∷ enter HtmlTextData ∷ []) (Retry (name s)))

    module _ (m : PlaysHtml) (cs : List Choice) where
      -- a call, by its row
      leads-row : (k : Configuration Unit Unit) (n : Name) (rows : Rows Unit Unit) → HasStep k n rows
          → let q = row_step g text k rows in Leads g text step k cs (Retry n) q.configuration (q.choices ++ cs) q.answer
      leads-row k n rows has = leads-step as_asked g text step k cs n (row_step g text k rows) has

      -- a call that gives up
      gives-up : (k : Configuration Unit Unit) (n : Name) (w : Stop) → HasStep k n (row (stop_acts w) Nok) → Leads g text step k cs (Retry n) (given_up k w) cs Nok
      gives-up k n None has = leads-row k n (row [] Nok) has
      gives-up k n (Some f) has = leads-row k n (row (writes f ∷ []) Nok) has

      refuses : (c : ℕ) (l : List Seat) (stack : List EventName) (q : ℕ) (events before more : List Event) (local : Local Unit Unit) (n : Name) (all : List Seat → List Event) (w : Stop)
          → 1 ≤ c → events ≡ before ++ more → HasStep (shows l stack q events local) n (row (stop_acts w) Nok)
          → Decided c (shows l stack q events local) cs (Retry n) l q before all 0 w None
      refuses c l stack q events before more local n all w some is has =
          let place : q + 0 ≡ q = omega arith in
          let family = λ (p : ℕ) (e : List Event). given_up (shows l stack p e local) w in (
            stack,
            more,
            local,
            after-within 1 (c + 2 * 0) local (counts local) (omega (arith, some)) (after-call local),
            λ es h. gives-up (shows l stack q events local) n w has es
                (subst (λ e. EndsWith g text step (family q e) cs Nok es) (sym is) (subst (λ p. EndsWith g text step (family p (before ++ more)) cs Nok es) place h)),
          )

      -- From a place in data, of which these bytes were read; from behind a line ending; and from white space behind it
      abbrev ReadsData : List Seat → Type 0
      ReadsData l =
          (s : S) (q : ℕ) (local : Local Unit Unit) (before : List Event) (f : Seat) (fs : List Seat) → drop q text.seats ≡ l → Knows s q local → AllPass is_no_line_feed (f ∷ fs)
          → end_place text q ≡ end_after f.end fs
          → Decided 1 (shows l in_html_data q (before ++ enters HtmlTextData f ∷ []) local) cs (Retry (name s)) l q before (λ y. pieces_events g.bytes ((f ∷ fs) ++ y))
          (looked next (bytes_of l) false s) (stop_of next gives_up (bytes_of l) false s) (walk next (bytes_of l) false s)

      abbrev ReadsLine : List Seat → Type 0
      ReadsLine l =
          (s : S) (q : ℕ) (local : Local Unit Unit) (before : List Event) → drop q text.seats ≡ l → Follows s local
          → Decided 2 (shows l in_html q before local) cs (Retry after) l q before (line_events g.bytes)
          (looked next (bytes_of l) true s) (stop_of next gives_up (bytes_of l) true s) (walk next (bytes_of l) true s)

      abbrev ReadsWhite : List Seat → Type 0
      ReadsWhite l =
          (s : S) (q : ℕ) (local : Local Unit Unit) (before : List Event) (f : Seat) (fs : List Seat) → drop q text.seats ≡ l → Follows s local → AllPass is_white (f ∷ fs)
          → end_place text q ≡ end_after f.end fs
          → Decided 2 (shows l in_html_white q (before ++ enters SpaceOrTab f ∷ []) local) cs (Retry prefix) l q before (λ y. line_events g.bytes ((f ∷ fs) ++ y))
          (looked next (bytes_of l) true s) (stop_of next gives_up (bytes_of l) true s) (walk next (bytes_of l) true s)

      -- one byte of data, by what it does; with it these bytes of data were read
      byte-does : (s : S) (x : Seat) (ss : List Seat) (q : ℕ) (local : Local Unit Unit) (before : List Event) (f : Seat) (fs : List Seat) (all : List Seat → List Event) (move : Move S) → next s x.byte ≡ move
          → drop q text.seats ≡ x ∷ ss → (x.byte == 10) ≡ false → Knows s q local → AllPass is_no_line_feed (f ∷ fs) → end_after f.end fs ≡ x.end
          → ((y : List Seat) → all (x ∷ y) ≡ pieces_events g.bytes ((f ∷ fs) ++ y)) → ReadsData ss
          → let k = held in_html_data q Byte false (before ++ enters HtmlTextData f ∷ []) local in HasStep k (name s) (row_of name move)
          → Decided 1 k cs (Retry (name s)) (x ∷ ss) q before all (gone_over (looked next (bytes_of ss) false) move) (stop_behind (stop_of next gives_up (bytes_of ss) false) move) (moved (walk next (bytes_of ss) false) move)
      byte-does s x ss q local before f fs all refused is at plain knows pass end same further has =
          refuses 1 (x ∷ ss) in_html_data q (before ++ enters HtmlTextData f ∷ []) before (enters HtmlTextData f ∷ []) local (name s) all None (omega arith) refl has
      byte-does s x ss q local before f fs all done is at plain knows pass end same further has =
          let front = at-front text.seats q x ss at in
          let k = held in_html_data q Byte false (before ++ enters HtmlTextData f ∷ []) local in
          let z = event g.bytes Exit HtmlTextData (end_or text.end (slice_get text.seats q)) in
          let y = event g.bytes Exit HtmlText (end_or text.end (slice_get text.seats q)) in
          let z-is : z ≡ event g.bytes Exit HtmlTextData (end_after f.end fs) = ap (λ o. event g.bytes Exit HtmlTextData (end_or text.end o)) front ∙ ap (event g.bytes Exit HtmlTextData) (sym end) in
          let y-is : y ≡ exits_at HtmlText (q + 1) = ap (λ o. event g.bytes Exit HtmlText (end_or text.end o)) front ∙ ap (event g.bytes Exit HtmlText) (sym (place-behind text q x front)) in
          let read : leaf g.bytes HtmlTextData (f ∷ fs) ≡ all (x ∷ []) = sym (append-nil (leaf g.bytes HtmlTextData (f ∷ fs))) ∙ sym (data-piece g.bytes f fs [] pass refl) ∙ sym (same []) in
          let made : ((before ++ enters HtmlTextData f ∷ []) ++ z ∷ []) ++ y ∷ [] ≡ (before ++ all (x ∷ [])) ++ exits_at HtmlText (q + 1) ∷ [] =
          ap (λ e. e ++ y ∷ []) (append_assoc before (enters HtmlTextData f ∷ []) (z ∷ []) ∙ ap (λ e. before ++ enters HtmlTextData f ∷ e ∷ []) z-is ∙ ap (λ e. before ++ e) read)
          ∙ ap (λ e. (before ++ all (x ∷ [])) ++ e ∷ []) y-is in (
            counts local,
            after-within 1 (1 + 2 * 1) local (counts local) (omega arith) (after-call local),
            λ es h. leads-row k (name s) (row_of name done) has es (subst (λ e. EndsWith g text step (held [] (q + 1) Nothing false e (counts local)) cs Ok es) (sym made) h),
          )
      byte-does s x ss q local before f fs all (goes None s') is at plain knows pass end same further has =
          let k = held in_html_data q Byte false (before ++ enters HtmlTextData f ∷ []) local in
          let next_at = drop-next text.seats q x ss at in
          let front = at-front text.seats q x ss at in
          let local1 = wrote None (called k) in
          decided-behind 1 1 k (shows ss in_html_data (q + 1) (before ++ enters HtmlTextData f ∷ []) local1) cs (Retry (name s)) (Retry (name s')) x ss q before before all
          (λ y. pieces_events g.bytes ((f ∷ fs) ++ y)) (looked next (bytes_of ss) false s') (stop_of next gives_up (bytes_of ss) false s') (walk next (bytes_of ss) false s')
          (omega arith) (m.after_move s s' x.byte None is k)
          (λ es h. leads-row k (name s) (row_of name (goes None s')) has es (goes-next ss in_html_data (q + 1) (before ++ enters HtmlTextData f ∷ []) local1 cs (name s') next_at es h))
          [] (sym (append-nil before)) (λ y. ap (λ e. before ++ e) (sym (same y)))
          (further s' (q + 1) local1 before f fs next_at (m.kept s s' x.byte None is k knows) pass (place-behind text q x front ∙ sym end))
      byte-does s x ss q local before f fs all (goes (Some w) s') is at plain knows pass end same further has =
          let k = held in_html_data q Byte false (before ++ enters HtmlTextData f ∷ []) local in
          let next_at = drop-next text.seats q x ss at in
          let front = at-front text.seats q x ss at in
          let local1 = wrote (Some w) (called k) in
          decided-behind 1 1 k (shows ss in_html_data (q + 1) (before ++ enters HtmlTextData f ∷ []) local1) cs (Retry (name s)) (Retry (name s')) x ss q before before all
          (λ y. pieces_events g.bytes ((f ∷ fs) ++ y)) (looked next (bytes_of ss) false s') (stop_of next gives_up (bytes_of ss) false s') (walk next (bytes_of ss) false s')
          (omega arith) (m.after_move s s' x.byte (Some w) is k)
          (λ es h. leads-row k (name s) (row_of name (goes (Some w) s')) has es (goes-next ss in_html_data (q + 1) (before ++ enters HtmlTextData f ∷ []) local1 cs (name s') next_at es h))
          [] (sym (append-nil before)) (λ y. ap (λ e. before ++ e) (sym (same y)))
          (further s' (q + 1) local1 before f fs next_at (m.kept s s' x.byte (Some w) is k knows) pass (place-behind text q x front ∙ sym end))

      -- the call at a line feed: data ends, and the line ending is read
      line-called : (w : Writes) (n : Name) (ss : List Seat) (q : ℕ) (before : List Event) (local : Local Unit Unit) → drop (q + 1) text.seats ≡ ss
          → let k = held in_html_data q Byte false before local in
          let made = ((before ++ exits_at HtmlTextData q ∷ []) ++ event g.bytes Enter LineEnding (point_or text.end (slice_get text.seats q)) ∷ []) ++ event g.bytes Exit LineEnding (end_or text.end (slice_get text.seats q)) ∷ [] in
          HasStep k n (row (exit HtmlTextData ∷ enter LineEnding ∷ consume ∷ exit LineEnding ∷ writes_then w []) (Next after))
          → Leads g text step k cs (Retry n) (shows ss in_html (q + 1) made (wrote w (called (held in_html (q + 1) Nothing false made local)))) cs (Retry after)
      line-called None n ss q before local at has es h =
          let k = held in_html_data q Byte false before local in
          leads-row k n (row (exit HtmlTextData ∷ enter LineEnding ∷ consume ∷ exit LineEnding ∷ []) (Next after)) has es (goes-next ss in_html (q + 1) _ _ cs after at es h)
      line-called (Some w) n ss q before local at has es h =
          let k = held in_html_data q Byte false before local in
          leads-row k n (row (exit HtmlTextData ∷ enter LineEnding ∷ consume ∷ exit LineEnding ∷ write w ∷ []) (Next after)) has es (goes-next ss in_html (q + 1) _ _ cs after at es h)

      -- a line feed that ends data, by what it does
      line-does : (s : S) (x : Seat) (ss : List Seat) (q : ℕ) (local : Local Unit Unit) (before : List Event) (f : Seat) (fs : List Seat) (move : Move S) → next s 10 ≡ move
          → drop q text.seats ≡ x ∷ ss → (x.byte == 10) ≡ true → Knows s q local → AllPass is_no_line_feed (f ∷ fs) → end_place text q ≡ end_after f.end fs → ReadsLine ss
          → let k = held in_html_data q Byte false (before ++ enters HtmlTextData f ∷ []) local in HasStep k (name s) (line_row_of name returns after move)
          → Decided 1 k cs (Retry (name s)) (x ∷ ss) q before (λ y. pieces_events g.bytes ((f ∷ fs) ++ y))
          (gone_over (looked next (bytes_of ss) true) move) (stop_behind (stop_of next gives_up (bytes_of ss) true) move) (moved (walk next (bytes_of ss) true) move)
      line-does s x ss q local before f fs refused is at feed knows pass end further has =
          refuses 1 (x ∷ ss) in_html_data q (before ++ enters HtmlTextData f ∷ []) before (enters HtmlTextData f ∷ []) local (name s) (λ y. pieces_events g.bytes ((f ∷ fs) ++ y)) None (omega arith) refl has
      line-does s x ss q local before f fs done is at feed knows pass end further has = absurd (subst (OfLine next) is (m.through s))
      line-does s x ss q local before f fs (goes w s') is at feed knows pass end further has =
          let begun = before ++ enters HtmlTextData f ∷ [] in
          let k = held in_html_data q Byte false begun local in
          let next_at = drop-next text.seats q x ss at in
          let front = at-front text.seats q x ss at in
          let z = exits_at HtmlTextData q in
          let a = event g.bytes Enter LineEnding (point_or text.end (slice_get text.seats q)) in
          let b = event g.bytes Exit LineEnding (end_or text.end (slice_get text.seats q)) in
          let made = ((begun ++ z ∷ []) ++ a ∷ []) ++ b ∷ [] in
          let k2 = held in_html (q + 1) Nothing false made local in
          let local1 = wrote (returns s') (called k2) in
          let dt = leaf g.bytes HtmlTextData (f ∷ fs) in
          let le = leaf g.bytes LineEnding (x ∷ []) in
          let first : begun ++ z ∷ [] ≡ before ++ dt =
          append_assoc before (enters HtmlTextData f ∷ []) (z ∷ []) ∙ ap (λ p. before ++ enters HtmlTextData f ∷ event g.bytes Exit HtmlTextData p ∷ []) end in
          let ending : a ∷ b ∷ [] ≡ le = ap (λ o. event g.bytes Enter LineEnding (point_or text.end o) ∷ event g.bytes Exit LineEnding (end_or text.end o) ∷ []) front in
          let made-is : made ≡ before ++ (dt ++ le) =
          append_assoc (begun ++ z ∷ []) (a ∷ []) (b ∷ []) ∙ (λ i. first i ++ ending i) ∙ append_assoc before dt le in
          decided-behind 1 2 k (shows ss in_html (q + 1) made local1) cs (Retry (name s)) (Retry after) x ss q before made
          (λ y. pieces_events g.bytes ((f ∷ fs) ++ y)) (line_events g.bytes) (looked next (bytes_of ss) true s') (stop_of next gives_up (bytes_of ss) true s') (walk next (bytes_of ss) true s')
          (omega arith) (m.after_return s' k2)
          (line-called (returns s') (name s) ss q begun local next_at has)
          (dt ++ le) made-is
          (λ y. ap (λ e. e ++ line_events g.bytes y) made-is ∙ append_assoc before (dt ++ le) (line_events g.bytes y)
          ∙ ap (λ e. before ++ e) (append_assoc dt le (line_events g.bytes y) ∙ ap (λ e. dt ++ e) (sym (line-piece g.bytes x y feed)) ∙ sym (data-piece g.bytes f fs (x ∷ y) pass (ap not feed))))
          (further s' (q + 1) local1 made next_at (m.follows s s' w is q k2 knows))

      -- in data, at the bytes that are left
      data-step : (x : Seat) (ss : List Seat) → ReadsData ss → ReadsLine ss → ReadsData (x ∷ ss)
      data-step x ss further line s q local before f fs at knows pass end =
          let k = held in_html_data q Byte false (before ++ enters HtmlTextData f ∷ []) local in
          let front = at-front text.seats q x ss at in
          let sees = ap byte_of front in
          let all = λ (y : List Seat). pieces_events g.bytes ((f ∷ fs) ++ y) in
          let Here = λ (over : ℕ) (w : Stop) (o : Option ℕ). Decided 1 k cs (Retry (name s)) (x ∷ ss) q before all over w o in
          elim (x.byte == 10) as (λ t. (x.byte == 10) ≡ t
          → Here (cond t (gone_over (looked next (bytes_of ss) true) (next s x.byte)) (gone_over (looked next (bytes_of ss) false) (next s x.byte)))
          (cond t (stop_behind (stop_of next gives_up (bytes_of ss) true) (next s x.byte)) (stop_behind (stop_of next gives_up (bytes_of ss) false) (next s x.byte)))
          (cond t (moved (walk next (bytes_of ss) true) (next s x.byte)) (moved (walk next (bytes_of ss) false) (next s x.byte)))) [
            | true ↦ λ feed.
                let is = eqb-true x.byte 10 feed in
                subst (λ b. Here (gone_over (looked next (bytes_of ss) true) (next s b)) (stop_behind (stop_of next gives_up (bytes_of ss) true) (next s b)) (moved (walk next (bytes_of ss) true) (next s b))) (sym is)
                (line-does s x ss q local before f fs (next s 10) refl at feed knows pass end line (m.at_line s k (sees ∙ ap Some is)))
            | false ↦ λ plain.
                byte-does s x ss q local before f (fs ++ x ∷ []) all (next s x.byte) refl at plain knows (one-passes-more is_no_line_feed (f ∷ fs) x pass (ap not plain)) (end-after-one f.end fs x)
                (λ y. ap (pieces_events g.bytes) (sym (append_assoc (f ∷ fs) (x ∷ []) y))) further (m.at_byte s x.byte k sees plain knows)
          ] refl

      -- data begins in a line, with events before it
      begins-data : (x : Seat) (ss : List Seat) → ReadsData ss → (s : S) (q : ℕ) (local : Local Unit Unit) (before : List Event) → drop q text.seats ≡ x ∷ ss → (x.byte == 10) ≡ false → Knows s q local
          → Decided 1 (held in_html_data q Byte false (before ++ enters HtmlTextData x ∷ []) local) cs (Retry (name s)) (x ∷ ss) q before (pieces_events g.bytes)
          (gone_over (looked next (bytes_of ss) false) (next s x.byte)) (stop_behind (stop_of next gives_up (bytes_of ss) false) (next s x.byte)) (moved (walk next (bytes_of ss) false) (next s x.byte))
      begins-data x ss further s q local before at plain knows =
          byte-does s x ss q local before x [] (pieces_events g.bytes) (next s x.byte) refl at plain knows (ap not plain, tt) refl (λ y. refl) further
          (m.at_byte s x.byte (held in_html_data q Byte false (before ++ enters HtmlTextData x ∷ []) local) (ap byte_of (at-front text.seats q x ss at)) plain knows)

      -- of bytes whose first is no white space
      no-white : (x : Seat) (ss : List Seat) (n : ℕ) → is_white x.byte ≡ false → StopsAt is_white (take n (x ∷ ss))
      no-white x ss zero h = refl
      no-white x ss (suc n) h = h

      -- behind a line ending white space begins, or data does
      line-step : (x : Seat) (ss : List Seat) → ReadsData ss → ReadsWhite ss → ReadsLine (x ∷ ss)
      line-step x ss further white s q local before at follows =
          let k = held in_html q Byte false before local in
          let front = at-front text.seats q x ss at in
          let sees = ap byte_of front in
          let next_at = drop-next text.seats q x ss at in
          let is_place = λ (n : EventName). ap (λ o. event g.bytes Enter n (point_or text.end o)) front in
          let Here = λ (over : ℕ) (w : Stop) (o : Option ℕ). Decided 2 k cs (Retry after) (x ∷ ss) q before (line_events g.bytes) over w o in
          elim (x.byte == 10) as (λ t. (x.byte == 10) ≡ t
          → Here (cond t 0 (cond (is_white x.byte) (suc (looked next (bytes_of ss) true s)) (gone_over (looked next (bytes_of ss) false) (next s x.byte))))
          (cond t (gives_up s) (cond (is_white x.byte) (stop_of next gives_up (bytes_of ss) true s) (stop_behind (stop_of next gives_up (bytes_of ss) false) (next s x.byte))))
          (cond t None (cond (is_white x.byte) (one_further (walk next (bytes_of ss) true s)) (moved (walk next (bytes_of ss) false) (next s x.byte))))) [
            | true ↦ λ feed.
                refuses 2 (x ∷ ss) in_html q before before [] local after (line_events g.bytes) (gives_up s) (omega arith) (sym (append-nil before))
                (m.after_stops s k (ap (passes is_no_line_feed) sees ∙ ap not feed) follows)
            | false ↦ λ plain. elim (is_white x.byte) as (λ w. is_white x.byte ≡ w
                → Here (cond w (suc (looked next (bytes_of ss) true s)) (gone_over (looked next (bytes_of ss) false) (next s x.byte)))
                (cond w (stop_of next gives_up (bytes_of ss) true s) (stop_behind (stop_of next gives_up (bytes_of ss) false) (next s x.byte)))
                (cond w (one_further (walk next (bytes_of ss) true s)) (moved (walk next (bytes_of ss) false) (next s x.byte)))) [
                  | true ↦ λ w.
                      let begun = before ++ enters SpaceOrTab x ∷ [] in
                      let made : before ++ event g.bytes Enter SpaceOrTab (point_or text.end (slice_get text.seats q)) ∷ [] ≡ begun = ap (λ e. before ++ e ∷ []) (is_place SpaceOrTab) in
                      decided-behind 2 2 k (shows ss in_html_white (q + 1) begun (counts local)) cs (Retry after) (Retry prefix) x ss q before before (line_events g.bytes)
                      (λ y. line_events g.bytes (x ∷ y)) (looked next (bytes_of ss) true s) (stop_of next gives_up (bytes_of ss) true s) (walk next (bytes_of ss) true s)
                      (omega arith) (after-call local)
                      (λ es h.
                      leads-row k after (row (enter SpaceOrTab ∷ consume ∷ []) (Next prefix)) (m.after_white k x.byte sees w) es
                      (goes-next ss in_html_white (q + 1) _ (counts local) cs prefix next_at es
                      (subst (λ e. EndsWith g text step (shows ss in_html_white (q + 1) e (counts local)) cs (Retry prefix) es) (sym made) h)))
                      [] (sym (append-nil before)) (λ y. refl)
                      (white s (q + 1) (counts local) before x [] next_at (m.counted s local follows) (w, tt) (place-behind text q x front))
                  | false ↦ λ w.
                      let begun = before ++ enters HtmlTextData x ∷ [] in
                      let made : before ++ event g.bytes Enter HtmlTextData (point_or text.end (slice_get text.seats q)) ∷ [] ≡ begun = ap (λ e. before ++ e ∷ []) (is_place HtmlTextData) in
                      decided-here 2 1 k (held in_html_data q Byte false begun (counts local)) cs (Retry after) (Retry (name s)) (x ∷ ss) q before before (line_events g.bytes)
                      (pieces_events g.bytes) (gone_over (looked next (bytes_of ss) false) (next s x.byte)) (stop_behind (stop_of next gives_up (bytes_of ss) false) (next s x.byte)) (moved (walk next (bytes_of ss) false) (next s x.byte))
                      (omega arith) (after-call local)
                      (λ es h.
                      leads-row k after (row (enter HtmlTextData ∷ []) (Retry (name s))) (m.after_begins s k x.byte sees plain w follows) es
                      (subst (λ e. EndsWith g text step (held in_html_data q Byte false e (counts local)) cs (Retry (name s)) es) (sym made) h))
                      [] (sym (append-nil before))
                      (λ n. ap (λ e. before ++ e) (sym (white-piece g.bytes [] (take n (x ∷ ss)) tt (no-white x ss n w))))
                      (begins-data x ss further s q (counts local) before at plain (m.known s q (counts local) (m.counted s local follows)))
                ] refl
          ] refl

      -- white space goes on, or data begins
      white-step : (x : Seat) (ss : List Seat) → ReadsData ss → ReadsWhite ss → ReadsWhite (x ∷ ss)
      white-step x ss further white s q local before f fs at follows pass end =
          let open_white = before ++ enters SpaceOrTab f ∷ [] in
          let k = held in_html_white q Byte false open_white local in
          let front = at-front text.seats q x ss at in
          let sees = ap byte_of front in
          let next_at = drop-next text.seats q x ss at in
          let all = λ (y : List Seat). line_events g.bytes ((f ∷ fs) ++ y) in
          let Here = λ (over : ℕ) (w : Stop) (o : Option ℕ). Decided 2 k cs (Retry prefix) (x ∷ ss) q before all over w o in
          elim (x.byte == 10) as (λ t. (x.byte == 10) ≡ t
          → Here (cond t 0 (cond (is_white x.byte) (suc (looked next (bytes_of ss) true s)) (gone_over (looked next (bytes_of ss) false) (next s x.byte))))
          (cond t (gives_up s) (cond (is_white x.byte) (stop_of next gives_up (bytes_of ss) true s) (stop_behind (stop_of next gives_up (bytes_of ss) false) (next s x.byte))))
          (cond t None (cond (is_white x.byte) (one_further (walk next (bytes_of ss) true s)) (moved (walk next (bytes_of ss) false) (next s x.byte))))) [
            | true ↦ λ feed.
                refuses 2 (x ∷ ss) in_html_white q open_white before (enters SpaceOrTab f ∷ []) local prefix all (gives_up s) (omega arith) refl
                (m.prefix_stops s k (ap (passes is_no_line_feed) sees ∙ ap not feed) follows)
            | false ↦ λ plain. elim (is_white x.byte) as (λ w. is_white x.byte ≡ w
                → Here (cond w (suc (looked next (bytes_of ss) true s)) (gone_over (looked next (bytes_of ss) false) (next s x.byte)))
                (cond w (stop_of next gives_up (bytes_of ss) true s) (stop_behind (stop_of next gives_up (bytes_of ss) false) (next s x.byte)))
                (cond w (one_further (walk next (bytes_of ss) true s)) (moved (walk next (bytes_of ss) false) (next s x.byte)))) [
                  | true ↦ λ w.
                      decided-behind 2 2 k (shows ss in_html_white (q + 1) open_white (counts local)) cs (Retry prefix) (Retry prefix) x ss q before before all
                      (λ y. line_events g.bytes ((f ∷ (fs ++ x ∷ [])) ++ y)) (looked next (bytes_of ss) true s) (stop_of next gives_up (bytes_of ss) true s) (walk next (bytes_of ss) true s)
                      (omega arith) (after-call local)
                      (λ es h.
                      leads-row k prefix (row (consume ∷ []) (Next prefix)) (m.prefix_white k x.byte sees w) es
                      (goes-next ss in_html_white (q + 1) open_white (counts local) cs prefix next_at es h))
                      [] (sym (append-nil before)) (λ y. ap (λ l. before ++ line_events g.bytes l) (append_assoc (f ∷ fs) (x ∷ []) y))
                      (white s (q + 1) (counts local) before f (fs ++ x ∷ []) next_at (m.counted s local follows) (one-passes-more is_white (f ∷ fs) x pass w)
                      (place-behind text q x front ∙ sym (end-after-one f.end fs x)))
                  | false ↦ λ w.
                      let wl = leaf g.bytes SpaceOrTab (f ∷ fs) in
                      let closed = before ++ wl in
                      let begun = closed ++ enters HtmlTextData x ∷ [] in
                      let made : (open_white ++ exits_at SpaceOrTab q ∷ []) ++ event g.bytes Enter HtmlTextData (point_or text.end (slice_get text.seats q)) ∷ [] ≡ begun =
                      ap (λ o. (open_white ++ exits_at SpaceOrTab q ∷ []) ++ event g.bytes Enter HtmlTextData (point_or text.end o) ∷ []) front
                      ∙ ap (λ e. e ++ enters HtmlTextData x ∷ []) (append_assoc before (enters SpaceOrTab f ∷ []) (exits_at SpaceOrTab q ∷ []) ∙ ap (λ p. before ++ enters SpaceOrTab f ∷ event g.bytes Exit SpaceOrTab p ∷ []) end) in
                      decided-here 2 1 k (held in_html_data q Byte false begun (counts local)) cs (Retry prefix) (Retry (name s)) (x ∷ ss) q before closed all
                      (pieces_events g.bytes) (gone_over (looked next (bytes_of ss) false) (next s x.byte)) (stop_behind (stop_of next gives_up (bytes_of ss) false) (next s x.byte)) (moved (walk next (bytes_of ss) false) (next s x.byte))
                      (omega arith) (after-call local)
                      (λ es h.
                      leads-row k prefix (row (exit SpaceOrTab ∷ enter HtmlTextData ∷ []) (Retry (name s))) (m.prefix_begins s k x.byte sees plain w follows) es
                      (subst (λ e. EndsWith g text step (held in_html_data q Byte false e (counts local)) cs (Retry (name s)) es) (sym made) h))
                      wl refl
                      (λ n. append_assoc before wl (pieces_events g.bytes (take n (x ∷ ss))) ∙ ap (λ e. before ++ e) (sym (white-piece g.bytes (f ∷ fs) (take n (x ∷ ss)) pass (no-white x ss n w))))
                      (begins-data x ss further s q (counts local) closed at plain (m.known s q (counts local) (m.counted s local follows)))
                ] refl
          ] refl

      -- So each of them is read
      pub reads : (l : List Seat) → ReadsData l × ReadsLine l × ReadsWhite l
      reads [] = (
        λ s q local before f fs at knows pass end.
            refuses 1 [] in_html_data q (before ++ enters HtmlTextData f ∷ []) before (enters HtmlTextData f ∷ []) local (name s) (λ y. pieces_events g.bytes ((f ∷ fs) ++ y)) (gives_up s) (omega arith) refl
            (m.at_end s (held in_html_data q End true (before ++ enters HtmlTextData f ∷ []) local) refl knows),
        λ s q local before at follows.
            refuses 2 [] in_html q before before [] local after (line_events g.bytes) (gives_up s) (omega arith) (sym (append-nil before)) (m.after_stops s (held in_html q End true before local) refl follows),
        λ s q local before f fs at follows pass end.
            refuses 2 [] in_html_white q (before ++ enters SpaceOrTab f ∷ []) before (enters SpaceOrTab f ∷ []) local prefix (λ y. line_events g.bytes ((f ∷ fs) ++ y)) (gives_up s) (omega arith) refl
            (m.prefix_stops s (held in_html_white q End true (before ++ enters SpaceOrTab f ∷ []) local) refl follows),
      )
      reads (x ∷ ss) = let ih = reads ss in (data-step x ss ih.0 ih.1, line-step x ss ih.0 ih.2, white-step x ss ih.0 ih.2)
