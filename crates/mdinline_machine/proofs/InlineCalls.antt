-- In how many calls the machine of inline text reads a text: at most so many for each virtual byte, and those of looks for tails.
use Rattle.mdinline_constructs.specs.HtmlTag.{tag_length}
use Rattle.mdinline_machine.proofs.Prelude.{◌≡◌, ℕ, ◌+◌, ◌*◌, ◌<◌, ◌≤◌, List, [], ◌∷◌, ◌++◌, Bool, true, false, Option, Some, None, refl, sym, ap, ◌∙◌, subst, arith, length, take, drop, nat_tests, length-drop, length-map, prefix_len-le-length, prefix_len, Constructs, Event, Name, SpaceOrTab, State, Next, Retry, TextBefore, TextStart, TextLineStart, Seat, Byte, Nothing, Choice, Configuration, Local, start_configuration, Given, IsText, Text, is_white, backticks, is_backtick, Construct, Found, between_texts, item_length, bytes_of, leaf, TextByte, item_events, autolinks-apart, autolink-paid, autolink-within, from-less-ahead, from-less-within, from_less, link-missed, link_calls, autolinks-reads-in, Knowledge, outer, escapes-apart, escape-paid, escape-within, escape_calls, escapes-reads-in, goes-next, IsAfter, Remembered, after-call, remembered, Ending, spent, EndsWith, Leads, Plays, between_items, break_escapes, html_tags, references, emails-apart, email-paid, email-within, emails-reads-in, break-escapes-apart, break-escape-paid, break-escape-within, break_escape_calls, break-escapes-read-in, html-tags-apart, tag-paid, tag-within, tag-missed, tag_calls, tags-ahead-later, tags-ahead-within, tags_ahead, html-tags-read-in, references-apart, reference-within, reference_calls, references-read-in, read_events, Memory, behind_autolinks, behind_emails, behind_escapes, behind_marks, inline_constructs}
use Rattle.mdinline_machine.proofs.BracketCalls.{data-is, own-is}
use Rattle.mdinline_machine.proofs.Budgets.{DecidesPaid, GoDown, IsSound, Potential, Prices, ReadsPaid, Tries, TriesNone, budget-kept, budgeted, reads-budgeted, reads-within, total, total-behind, total-down, total-drop, try-all, try-none}
use Rattle.mdinline_machine.proofs.InlineListed.{ReadsParts, first_memory, inlines-from, then_breaks, then_data, then_emails, then_html, then_tags}
use Rattle.mdinline_machine.proofs.InlinePrices.{IsRemembered, IsTextMemory, TextMemory, code_toll, found-paid, inline-down, inline-sound, inline_budget, inline_prices, inline_toll, links_left, looks-drop, mark_toll, none-run, pays-enough, plain-behind, tags_left, weaker}
use Rattle.mdinline_machine.proofs.JoinedItems.{joined_item_at, joined_other}
use Rattle.mdinline_machine.proofs.LineReads.{start-read-in}
use Rattle.mdinline_machine.proofs.PlainItems.{IsPlain, autolink-plain, break-plain, email-plain, escape-plain, html-plain, reference-plain}
use Rattle.mdinline_machine.proofs.Playing.{inlines_play, inlines_play_break_escapes, inlines_play_emails, inlines_play_references, inlines_play_tags}
use Rattle.mdinline_machine.proofs.Starts.{from-registering-in, start_local}

module _ (defined : List ℕ → Bool) (g : Given) (text : Text) (memory : TextMemory) (is : IsTextMemory memory) (budget : ℕ) where
  abbrev on : Constructs
  on = g.options.constructs

  abbrev m : Plays g text
  m = inlines_play defined g text

  abbrev x : Prices Memory
  x = inline_prices defined g text memory

  abbrev down : GoDown x.potentials
  down = inline-down defined g text memory is budget

  abbrev sound : IsSound g text x
  sound = inline-sound defined g text memory is budget

  -- ---- the constructs
  abbrev known : Knowledge Found TextByte Memory
  known = budgeted text on x budget

  abbrev Paid : Memory → Construct Found TextByte Unit Unit → List (Construct Found TextByte Unit Unit) → Type 0
  Paid q c rest = ReadsPaid g text m between_texts x budget down sound q c rest

  autolinks-are-paid : (q : Memory) → IsText g text → Paid q then_emails behind_autolinks
  autolinks-are-paid q is-text =
      reads-within g text m between_texts x budget down sound q then_emails behind_autolinks link_calls (autolinks-reads-in g text m between_texts is-text)
      (λ s ss first none r. (let missed = link-missed s.byte (bytes_of ss) first in omega (arith, missed)))
      (λ s ss first.
      let tick : is_backtick s.byte ≡ false = grind (arith, nat_tests) in
      let n = link_calls (bytes_of (s ∷ ss)) in
      let o = then_emails.grammar.front (bytes_of (s ∷ ss)) in
      found-paid defined g text memory is budget n s ss o (autolinks-apart.some s.byte (bytes_of ss)) (autolink-within s.byte (bytes_of ss)) (none-run defined g text memory is budget s ss tick o)
      (weaker (λ (i : Found). n ≤ item_length i) (λ (i : Found). n ≤ 7 * item_length i + 28) (λ i h. omega (arith, h)) o (autolink-paid s.byte (bytes_of ss))) (autolink-plain (bytes_of (s ∷ ss))))

  emails-are-paid : (q : Memory) → IsText g text → Paid q then_html behind_emails
  emails-are-paid q is-text =
      reads-within g text m between_texts x budget down sound q then_html behind_emails link_calls (emails-reads-in g text m (inlines_play_emails defined g text) between_texts is-text)
      (λ s ss first none r. (let missed = link-missed s.byte (bytes_of ss) first in omega (arith, missed)))
      (λ s ss first.
      let tick : is_backtick s.byte ≡ false = grind (arith, nat_tests) in
      let n = link_calls (bytes_of (s ∷ ss)) in
      let o = then_html.grammar.front (bytes_of (s ∷ ss)) in
      found-paid defined g text memory is budget n s ss o (emails-apart.some s.byte (bytes_of ss)) (email-within s.byte (bytes_of ss)) (none-run defined g text memory is budget s ss tick o)
      (weaker (λ (i : Found). n ≤ item_length i) (λ (i : Found). n ≤ 7 * item_length i + 28) (λ i h. omega (arith, h)) o (email-paid s.byte (bytes_of ss))) (email-plain (bytes_of (s ∷ ss))))

  tags-are-paid : (q : Memory) → Paid q html_tags (then_breaks ∷ behind_escapes)
  tags-are-paid q =
      reads-within g text m between_texts x budget down sound q html_tags (then_breaks ∷ behind_escapes) tag_calls (html-tags-read-in g text m (inlines_play_tags defined g text) between_texts)
      (λ s ss first none r. (let missed = tag-missed s.byte (bytes_of ss) first in omega (arith, missed)))
      (λ s ss first.
      let tick : is_backtick s.byte ≡ false = grind (arith, nat_tests) in
      let n = tag_calls (bytes_of (s ∷ ss)) in
      let o = (html_tags {R = Unit {0}} {D = Unit {0}}).grammar.front (bytes_of (s ∷ ss)) in
      found-paid defined g text memory is budget n s ss o (html-tags-apart.some s.byte (bytes_of ss)) (tag-within s.byte (bytes_of ss) first) (none-run defined g text memory is budget s ss tick o)
      (weaker (λ (i : Found). n ≤ 2 * item_length i) (λ (i : Found). n ≤ 7 * item_length i + 28) (λ i h. omega (arith, h)) o (tag-paid s.byte (bytes_of ss) first)) (html-plain (bytes_of (s ∷ ss)) (tag_length (bytes_of (s ∷ ss)))))

  escapes-are-paid : (q : Memory) → Paid q then_breaks behind_escapes
  escapes-are-paid q =
      reads-within g text m between_texts x budget down sound q then_breaks behind_escapes escape_calls (escapes-reads-in g text m between_texts)
      (λ s ss first none r. omega arith)
      (λ s ss first.
      let tick : is_backtick s.byte ≡ false = grind (arith, nat_tests) in
      let n = escape_calls (bytes_of (s ∷ ss)) in
      let o = then_breaks.grammar.front (bytes_of (s ∷ ss)) in
      found-paid defined g text memory is budget n s ss o (escapes-apart.some s.byte (bytes_of ss)) (escape-within s.byte (bytes_of ss)) (none-run defined g text memory is budget s ss tick o)
      (weaker (λ (i : Found). n ≤ item_length i) (λ (i : Found). n ≤ 7 * item_length i + 28) (λ i h. omega (arith, h)) o (escape-paid s.byte (bytes_of ss))) (escape-plain (bytes_of (s ∷ ss))))

  break-escapes-are-paid : (q : Memory) → Paid q break_escapes (references ∷ [])
  break-escapes-are-paid q =
      reads-within g text m between_texts x budget down sound q break_escapes (references ∷ []) break_escape_calls (break-escapes-read-in g text m (inlines_play_break_escapes defined g text) between_texts)
      (λ s ss first none r. omega arith)
      (λ s ss first.
      let tick : is_backtick s.byte ≡ false = grind (arith, nat_tests) in
      let n = break_escape_calls (bytes_of (s ∷ ss)) in
      let o = (break_escapes {R = Unit {0}} {D = Unit {0}}).grammar.front (bytes_of (s ∷ ss)) in
      found-paid defined g text memory is budget n s ss o (break-escapes-apart.some s.byte (bytes_of ss)) (break-escape-within s.byte (bytes_of ss)) (none-run defined g text memory is budget s ss tick o)
      (weaker (λ (i : Found). n ≤ item_length i + 1) (λ (i : Found). n ≤ 7 * item_length i + 28) (λ i h. omega (arith, h)) o (break-escape-paid s.byte (bytes_of ss))) (break-plain (bytes_of (s ∷ ss))))

  references-are-paid : (q : Memory) → Paid q references []
  references-are-paid q =
      reads-within g text m between_texts x budget down sound q references [] reference_calls (references-read-in g text m (inlines_play_references defined g text) between_texts)
      (λ s ss first none r. omega arith)
      (λ s ss first.
      let tick : is_backtick s.byte ≡ false = grind (arith, nat_tests) in
      let n = reference_calls (bytes_of (s ∷ ss)) in
      let o = (references {R = Unit {0}} {D = Unit {0}}).grammar.front (bytes_of (s ∷ ss)) in
      let some = references-apart.some s.byte (bytes_of ss) in
      found-paid defined g text memory is budget n s ss o some (reference-within s.byte (bytes_of ss)) (none-run defined g text memory is budget s ss tick o)
      (weaker (λ (i : Found). 0 < item_length i) (λ (i : Found). n ≤ 7 * item_length i + 28) (λ i h. omega (arith, h)) o some) (reference-plain (bytes_of (s ∷ ss))))

  -- ---- the constructs that remember
  -- How one of them is decided, by what it may cost and by what the other may: what is known holds, the other costs what it did, and its calls are paid
  -- by what it may cost; if it is there, by its bytes too
  abbrev pub DecidedSo : (own other : Potential) (toll : List ℕ → ℕ) (nok : Name) (p : ℕ) (ended : Bool) (events : List Event) → Local Unit Unit → Seat → List Seat → Configuration Unit Unit → List Choice → State → Option Found → Type 0
  DecidedSo own other toll nok p ended events local s ss k cs st None =
      (after : Local Unit Unit) × memory.sound p (remembered after) × ((remembered after).starts ≡ (remembered local).starts) × ((l : List Seat) → other (remembered after) l ≡ other (remembered local) l)
      × (spent after + own (remembered after) ss ≤ spent local + own (remembered local) (s ∷ ss) + toll (bytes_of (s ∷ ss)))
      × Leads g text m k cs st (between_items p Nothing ended events after) [] (Next nok)
  DecidedSo own other toll nok p ended events local s ss k cs st (Some item) =
      let size = item_length item in
      (ended_after : Bool) × (after : Local Unit Unit) × memory.sound (p + size) (remembered after) × ((remembered after).starts ≡ (remembered local).starts) × ((l : List Seat) → other (remembered after) l ≡ other (remembered local) l)
      × (spent after + own (remembered after) (drop size (s ∷ ss)) ≤ spent local + own (remembered local) (s ∷ ss) + (7 * size + 28))
      × (0 < size) × IsPlain item × (size ≤ length (s ∷ ss)) × (backticks (bytes_of (s ∷ ss)) ≤ size)
      × Leads g text m k cs st (between_items (p + size) Nothing ended_after (events ++ item_events g.bytes (item, take size (s ∷ ss))) after) [] (Next TextBefore)

  abbrev pub RemembersSo : (own other : Potential) → (toll : List ℕ → ℕ) → Construct Found TextByte Unit Unit → Type 0
  RemembersSo own other toll c =
      (nok : Name) (p : ℕ) (ended : Bool) (events : List Event) (local : Local Unit Unit) (s : Seat) (ss : List Seat) → drop p text.seats ≡ s ∷ ss → c.grammar.first s.byte ≡ true → memory.sound p (remembered local)
      → DecidedSo own other toll nok p ended events local s ss (between_items p Byte ended events local) (outer TextBefore nok p ended events ∷ []) (Retry c.start) (c.grammar.front (bytes_of (s ∷ ss)))

  -- what others cost that remember nothing, and one of the two
  abbrev beside : Potential → List Potential
  beside v = tags_left ∷ v ∷ links_left ∷ links_left ∷ []

  beside-down : (v : Potential) → ((r : Remembered) (s : Seat) (ss : List Seat) → v r ss ≤ v r (s ∷ ss)) → GoDown (beside v)
  beside-down v down =
      let links : (r : Remembered) (s : Seat) (ss : List Seat) → from_less (bytes_of ss) ≤ from_less (bytes_of (s ∷ ss)) = λ r s ss. from-less-ahead s.byte (bytes_of ss) in
      let tags : (r : Remembered) (s : Seat) (ss : List Seat) → tags_ahead (bytes_of ss) ≤ tags_ahead (bytes_of (s ∷ ss)) = λ r s ss. tags-ahead-later s.byte (bytes_of ss) in
      (tags, (down, (links, (links, tt))))

  -- what is known of what is remembered holds if the brackets that are kept are as they were, and behind a plain item too
  kept-there : (q : Memory) (p : ℕ) (events : List Event) (local after : Local Unit Unit) → (remembered after).starts ≡ (remembered local).starts → IsRemembered text q p events (remembered local).starts
      → IsRemembered text q p events (remembered after).starts
  kept-there q p events local after same h = subst (IsRemembered text q p events) (sym same) h

  code-decided : (q : Memory) (nok : Name) (p : ℕ) (ended : Bool) (events : List Event) (local : Local Unit Unit) (s : Seat) (ss : List Seat) → drop p text.seats ≡ s ∷ ss → IsRemembered text q p events (remembered local).starts
      → (cs : List Choice) (st : State) (o : Option Found) → DecidedSo memory.code memory.marks code_toll nok p ended events local s ss (between_items p Byte ended events local) cs st o
      → DecidesPaid g text m between_texts x budget down sound q (then_emails ∷ behind_autolinks) nok p ended events (s ∷ ss) (between_items p Byte ended events local) cs st o
  code-decided q nok p ended events local s ss here keeps cs st None d = (d.0, (d.1, kept-there q p events local d.0 d.2 keeps), omega (arith, d.3 (s ∷ ss), d.4), d.5)
  code-decided q nok p ended events local s ss here keeps cs st (Some item) d =
      let size = item_length item in
      let l = s ∷ ss in
      let pays = pays-enough defined g text memory is budget (7 * size + 28) size l d.6 d.8 d.9 (omega arith) in
      let others = total-drop (beside memory.marks) (beside-down memory.marks is.marks_down) size (remembered local) l in
      (d.0, d.1, (d.2, plain-behind g.bytes text q p events (remembered d.1).starts s ss item here d.7 (kept-there q p events local d.1 d.3 keeps)), omega (arith, d.4 (drop size l), d.5, pays.1, others), d.10)

  pub code-so : RemembersSo memory.code memory.marks code_toll then_data → (q : Memory) → Paid q then_data (then_emails ∷ behind_autolinks)
  code-so reads q nok p ended events local s ss here first is_on there =
      code-decided q nok p ended events local s ss here there.1 (outer TextBefore nok p ended events ∷ []) (Retry then_data.start) (then_data.grammar.front (bytes_of (s ∷ ss))) (reads nok p ended events local s ss here first there.0)

  marks-decided : (q : Memory) (nok : Name) (p : ℕ) (ended : Bool) (events : List Event) (local : Local Unit Unit) (s : Seat) (ss : List Seat) → drop p text.seats ≡ s ∷ ss → IsRemembered text q p events (remembered local).starts
      → (cs : List Choice) (st : State) (o : Option Found) → DecidedSo memory.marks memory.code mark_toll nok p ended events local s ss (between_items p Byte ended events local) cs st o
      → DecidesPaid g text m between_texts x budget down sound q behind_marks nok p ended events (s ∷ ss) (between_items p Byte ended events local) cs st o
  marks-decided q nok p ended events local s ss here keeps cs st None d = (d.0, (d.1, kept-there q p events local d.0 d.2 keeps), omega (arith, d.3 ss, d.4), d.5)
  marks-decided q nok p ended events local s ss here keeps cs st (Some item) d =
      let size = item_length item in
      let l = s ∷ ss in
      let r = remembered local in
      let pays = pays-enough defined g text memory is budget (7 * size + 28) size l d.6 d.8 d.9 (omega arith) in
      let others = total-behind (beside memory.code) (beside-down memory.code is.code_down) size r s ss d.6 in
      (d.0, d.1, (d.2, plain-behind g.bytes text q p events (remembered d.1).starts s ss item here d.7 (kept-there q p events local d.1 d.3 keeps)), omega (arith, d.4 (drop size l), d.5, pays.1, others, tags-ahead-later s.byte (bytes_of ss)), d.10)

  pub marks-so : RemembersSo memory.marks memory.code mark_toll then_tags → (q : Memory) → Paid q then_tags behind_marks
  marks-so reads q nok p ended events local s ss here first is_on there =
      marks-decided q nok p ended events local s ss here there.1 (outer TextBefore nok p ended events ∷ []) (Retry then_tags.start) (then_tags.grammar.front (bytes_of (s ∷ ss))) (reads nok p ended events local s ss here first there.0)

  -- ---- the sum
  module _ (code-paid : (q : Memory) → Paid q then_data (then_emails ∷ behind_autolinks)) (marks-paid : (q : Memory) → Paid q then_tags behind_marks) (is-text : IsText g text) where
    parts-are : ReadsParts defined g text known (budget + 1)
    parts-are = record {
      begins = λ q p events local s ss here plain knows.
          let l = s ∷ ss in
          let r = remembered local in
          let paid = subst (λ l. spent local + (total x.potentials r l + x.fixed l) ≤ budget) here knows.1 in
          (knows.0, subst (λ l. Tries text on x budget q inline_constructs r (spent local) l) (sym here) (refl, omega (arith, paid, try-all x.potentials (inline_toll l) r l)));
      counted = λ q p events local knows. (let once = after-call local in omega (arith, once.calls, knows.1));
      code_spans_are = λ q. reads-budgeted g text m between_texts x budget down sound q then_data (then_emails ∷ behind_autolinks) (code-paid q);
      autolinks_are = λ q. reads-budgeted g text m between_texts x budget down sound q then_emails behind_autolinks (autolinks-are-paid q is-text);
      emails_are = λ q. reads-budgeted g text m between_texts x budget down sound q then_html behind_emails (emails-are-paid q is-text);
      marks_are = λ q. reads-budgeted g text m between_texts x budget down sound q then_tags behind_marks (marks-paid q);
      tags_are = λ q. reads-budgeted g text m between_texts x budget down sound q html_tags (then_breaks ∷ behind_escapes) (tags-are-paid q);
      escapes_are = λ q. reads-budgeted g text m between_texts x budget down sound q then_breaks behind_escapes (escapes-are-paid q);
      break_escapes_are = λ q. reads-budgeted g text m between_texts x budget down sound q break_escapes (references ∷ []) (break-escapes-are-paid q);
      references_are = λ q. reads-budgeted g text m between_texts x budget down sound q references [] (references-are-paid q);
      data_is = λ q p ended events local s ss here plain knows.
          let at = subst (TriesNone text on x budget q (remembered local) (spent local)) here knows.1 in
          data-is defined g text is-text memory is budget q p ended events local s ss here plain knows.0 at.1;
      skips = λ q cs p events local s ss here none knows.
          let bytes = bytes_of (s ∷ ss) in
          let r = remembered local in
          let at = subst (λ l. Tries text on x budget q cs r (spent local) l) here knows.1 in
          let there : joined_other on defined g.bytes q bytes ≡ joined_item_at on defined g.bytes q bytes = sym none ∙ at.0 in
          (knows.0, subst (TriesNone text on x budget q r (spent local)) (sym here) (there, omega (arith, at.1, try-none x.potentials down (inline_toll (s ∷ ss)) (length cs) r s ss)));
      own_is = λ q p ended events local s ss here own knows.
          let r = remembered local in
          let paid = subst (λ l. spent local + (total x.potentials r l + x.fixed l) ≤ budget) here knows.1 in
          own-is defined g text is-text memory is budget q p ended events local s ss here own knows.0 (omega (arith, paid, total-down x.potentials down r s ss));
    }

    -- behind the first call
    from-line : inline_budget on text.seats ≤ budget → (flag : Bool) (local : Local Unit Unit) → IsAfter 1 (start_local flag) local
        → EndsWith g text m (between_items 0 Nothing false [] local) [] (Next TextLineStart) (record { events = read_events defined g text; spent = budget + 1 })
    from-line enough flag local once =
        let e : Ending = record { events = read_events defined g text; spent = budget + 1 } in
        let n = prefix_len is_white (bytes_of text.seats) in
        let l = drop n text.seats in
        let read = start-read-in defined g text text.seats 0 [] local refl in
        let after = read.0 in
        let r = remembered (start_local flag) in
        let alike : remembered after ≡ r = read.1.same ∙ once.same in
        let place : drop n text.seats ≡ drop (0 + n) text.seats = (let same : n ≡ 0 + n = omega arith in ap (λ k. drop k text.seats) same) in
        let none : spent (start_local flag) ≡ 0 = refl in
        let further : 0 ≤ 0 + n = omega arith in
        let inside : n ≤ length text.seats = omega (arith, prefix_len-le-length is_white (bytes_of text.seats), length-map text.seats (λ (s : Seat). s.byte)) in
        let rest : length l + n ≡ length text.seats = omega (arith, length-drop n text.seats, inside) in
        let bytes : length (bytes_of l) ≡ length l = length-map l (λ (s : Seat). s.byte) in
        let paid : spent after + (total x.potentials r l + x.fixed l) ≤ budget =
        omega (arith, enough, none, once.calls, read.1.calls, rest, bytes, tags-ahead-within (bytes_of l), from-less-within (bytes_of l), is.code_within r l, is.marks_within r l, looks-drop on n text.seats) in
        let q = first_memory defined g text known (budget-kept g text m between_texts x budget down sound) (budget + 1) parts-are in
        let none_waits : IsRemembered text q (0 + n) (leaf g.bytes SpaceOrTab (take n text.seats)) r.starts = record { keeps = tt; events_are = refl; ahead_is = place } in
        let knows : known.knows q (0 + n) (leaf g.bytes SpaceOrTab (take n text.seats)) after = (
          (subst (memory.sound (0 + n)) (sym alike) (is.later 0 (0 + n) r further (is.begins flag)), subst (λ (r : Remembered). IsRemembered text q (0 + n) (leaf g.bytes SpaceOrTab (take n text.seats)) r.starts) (sym alike) none_waits),
          subst (λ r'. spent after + (total x.potentials r' (drop (0 + n) text.seats) + x.fixed (drop (0 + n) text.seats)) ≤ budget) (sym alike)
              (subst (λ l. spent after + (total x.potentials r l + x.fixed l) ≤ budget) place paid),
        ) in
        goes-next g text m text.seats [] 0 [] local [] TextLineStart refl e (read.2 e (inlines-from defined g text known (budget-kept g text m between_texts x budget down sound) (budget + 1) parts-are refl after knows))

    -- So inline text is read item by item from its start, in so many calls
    pub inlines-within : inline_budget on text.seats ≤ budget → (flag : Bool) → EndsWith g text m (start_configuration flag) [] (Next TextStart) (record { events = read_events defined g text; spent = budget + 1 })
    inlines-within enough flag = from-registering-in g text m TextStart TextLineStart (λ k. refl) (record { events = read_events defined g text; spent = budget + 1 }) flag (from-line enough flag)
