-- The machine of inline text is the list of its constructs with a mark, whatever is known while it reads: of that it needs how each construct, data, line
-- endings, runs and white space are read.
use Rattle.std.proofs.lemmas.Bool.{or_parts}
use Rattle.mdinline_machine.proofs.Prelude.{◌≡◌, ℕ, ◌+◌, ◌≤◌, ◌&&◌, ◌||◌, List, [], ◌∷◌, ◌++◌, Bool, true, false, refl, sym, ap, ◌∙◌, subst, arith, drop, length, take, flat_map, prefix_len, length-drop, eqb-true, nat_tests, Constructs, Event, Name, SpaceOrTab, Next, Retry, TextBefore, TextBeforeData, TextBeforeHardBreakEscape, TextBeforeHtml, TextBeforeEmail, TextBeforeTag, Seat, Byte, Nothing, Configuration, Local, sight, Sight, Given, Text, class_of, is_white, counts, row_step, autolinks, is_line_feed, remembered_code_spans, Construct, Found, between_texts, first_there, grammars_of, some_first, tried_at, escapes, item_length, bytes_of, leaf, TextByte, backslash, less, text_byte, item_events, AreApart, none-there, AddsFrom, AreTried, IsKept, IsListed, IsTried, Knowledge, Reads, ReadsFrom, items-read, listed, cut_remembering, spent, EndsWith, Plays, between_items, emails, html_marks, html_tags, break_escapes, references, begins_run, read_events, behind_autolinks, behind_emails, behind_escapes, behind_marks, inline_before_rows, inline_constructs, is_delimiter, marked_grammars, Memory, after_item, nothing_read}
use Rattle.mdinline_machine.proofs.RunBytes.{no-run}
use Rattle.mdinline_constructs.specs.WhiteSpace.{white_space}
use Rattle.mdinline_machine.proofs.BracketBytes.{begins-no-bracket, marked-no-bracket}
use Rattle.mdinline_machine.proofs.InlineApart.{behind-autolinks-apart, behind-emails-apart, behind-escapes-apart, behind-marks-apart, begins_mark, inline-apart}
use Rattle.mdinline_machine.proofs.JoinedItems.{joined-same, joined_item_at, joined_other, some-other}
use Rattle.mdinline_machine.proofs.PartReads.{is_own}
use Rattle.mdinline_machine.proofs.Playing.{inlines_play, tried-between}

-- at the byte of a construct no run begins
no-delimiter : (b : ℕ) → some_first marked_grammars b ≡ true → is_delimiter b ≡ false
no-delimiter b h = grind (arith, nat_tests)

-- the constructs as they stand in the list, each with the name of the state that follows it
abbrev pub then_data : Construct Found TextByte Unit Unit
then_data = remembered_code_spans

abbrev pub then_breaks : Construct Found TextByte Unit Unit
then_breaks = record escapes { otherwise = TextBeforeHardBreakEscape }

abbrev pub then_tags : Construct Found TextByte Unit Unit
then_tags = record html_marks { otherwise = TextBeforeTag }

abbrev pub then_html : Construct Found TextByte Unit Unit
then_html = record emails { otherwise = TextBeforeHtml }

abbrev pub then_emails : Construct Found TextByte Unit Unit
then_emails = record autolinks { otherwise = TextBeforeEmail }

module _ (defined : List ℕ → Bool) (g : Given) (text : Text) (known : Knowledge Found TextByte Memory) where
  -- a construct before others is read, with what is known, by the brackets that wait
  abbrev pub ReadsBefore : Memory → Construct Found TextByte Unit Unit → List (Construct Found TextByte Unit Unit) → Type 0
  ReadsBefore q c cs = Reads g text (inlines_play defined g text).step between_texts text_byte item_length (item_events g.bytes) known q c cs

  -- What is read, with what is known: before an item all constructs may be tried, and no more calls are counted than so many; each construct; data, and
  -- where nothing of the constructs is there that may still be tried; line endings, runs and white space
  pub record ReadsParts (within : ℕ) : Type 0 where
    pub begins : (q : Memory) (p : ℕ) (events : List Event) (local : Local Unit Unit) (s : Seat) (ss : List Seat) → drop p text.seats ≡ s ∷ ss → is_own g.options.constructs s.byte ≡ false → known.knows q p events local → known.tries q inline_constructs p events local
    pub counted : (q : Memory) (p : ℕ) (events : List Event) (local : Local Unit Unit) → known.knows q p events local → spent (counts local) ≤ within
    pub code_spans_are : (q : Memory) → ReadsBefore q then_data (then_emails ∷ behind_autolinks)
    pub autolinks_are : (q : Memory) → ReadsBefore q then_emails behind_autolinks
    pub emails_are : (q : Memory) → ReadsBefore q then_html behind_emails
    pub marks_are : (q : Memory) → ReadsBefore q then_tags behind_marks
    pub tags_are : (q : Memory) → ReadsBefore q html_tags (then_breaks ∷ behind_escapes)
    pub escapes_are : (q : Memory) → ReadsBefore q then_breaks behind_escapes
    pub break_escapes_are : (q : Memory) → ReadsBefore q break_escapes (references ∷ [])
    pub references_are : (q : Memory) → ReadsBefore q references []
    pub data_is : (q : Memory) → ReadsFrom g text (inlines_play defined g text).step between_texts text_byte item_length (item_events g.bytes) known q (known.at_data q) TextBeforeData (λ b. is_own g.options.constructs b ≡ false) (joined_other g.options.constructs defined g.bytes q)
    pub skips : (q : Memory) (cs : List (Construct Found TextByte Unit Unit)) (p : ℕ) (events : List Event) (local : Local Unit Unit) (s : Seat) (ss : List Seat) → drop p text.seats ≡ s ∷ ss
        → first_there (grammars_of cs) g.options.constructs (bytes_of (s ∷ ss)) (joined_other g.options.constructs defined g.bytes q (bytes_of (s ∷ ss))) ≡ joined_other g.options.constructs defined g.bytes q (bytes_of (s ∷ ss)) → known.tries q cs p events local → known.at_data q p events local
    pub own_is : (q : Memory) → ReadsFrom g text (inlines_play defined g text).step between_texts text_byte item_length (item_events g.bytes) known q (known.knows q) TextBefore (λ b. is_own g.options.constructs b ≡ true) (joined_other g.options.constructs defined g.bytes q)

module _ (defined : List ℕ → Bool) (g : Given) (text : Text) (known : Knowledge Found TextByte Memory) (kept : IsKept g text known) (within : ℕ) (parts : ReadsParts defined g text known within) where
  abbrev on : Constructs
  on = g.options.constructs

  abbrev m : Plays g text
  m = inlines_play defined g text

  own-alone : (b : ℕ) → is_own on b ≡ true → some_first marked_grammars b ≡ false
  own-alone b h = elim (some_first marked_grammars b) as (λ t. some_first marked_grammars b ≡ t → t ≡ false) [
    | true ↦ λ e.
        let run : begins_run on b ≡ false = no-run on b (no-delimiter b e) in
        let bracket = begins-no-bracket on b (marked-no-bracket b e) in
        let line : is_line_feed b ≡ false = grind (arith, nat_tests) in
        let white : is_white b ≡ false = grind (arith, nat_tests) in
        absurd (let c : false ≡ true = sym (λ i. line i || ((run i || bracket i) || white i)) ∙ h in cc)
    | false ↦ λ e. refl
  ] refl

  -- ---- the list of constructs
  abbrev Tried : Memory → Construct Found TextByte Unit Unit → List (Construct Found TextByte Unit Unit) → Type 0
  Tried q c cs = IsTried g text m.step between_texts text_byte item_length (item_events g.bytes) known (is_own on) (joined_other on defined g.bytes) q c cs

  abbrev AllTried : Memory → List (Construct Found TextByte Unit Unit) → Type 0
  AllTried q cs = AreTried g text m.step between_texts text_byte item_length (item_events g.bytes) known (is_own on) (joined_other on defined g.bytes) q cs

  abbrev Adds : Memory → (p : ℕ) (ended : Bool) (events : List Event) (local : Local Unit Unit) → List Seat → Name → Found → Type 0
  Adds q p ended events local l name item = AddsFrom g text m.step between_texts text_byte item_length (item_events g.bytes) known q (between_items p Byte ended events local) (Retry name) p events l item

  -- a construct needs no more than its option
  abbrev NeedsOption : Construct Found TextByte Unit Unit → Type 0
  NeedsOption c = (s : Sight) (k : Configuration Unit Unit) → c.allowed g s k ≡ c.grammar.on on

  -- data follows a construct, if the others in the list begin at other bytes
  then-data : (q : Memory) (c : Construct Found TextByte Unit Unit) (cs : List (Construct Found TextByte Unit Unit)) → NeedsOption c → c.otherwise ≡ TextBeforeData → AreApart text_byte item_length cs
      → ((b : ℕ) → c.grammar.first b ≡ true → some_first (grammars_of cs) b ≡ false) → ReadsBefore defined g text known q c cs → Tried q c cs
  then-data q c cs option is apart alone reads = record {
    allows = λ p ended events local s ss here first knows. option _ _;
    reads = reads;
    follows = λ p ended events local s ss here at knows.
        let bytes = bytes_of (s ∷ ss) in
        let none = none-there text_byte item_length cs apart on s.byte (bytes_of ss) (joined_other on defined g.bytes q bytes) (alone s.byte at.1) in
        subst (λ name. Adds q p ended events local (s ∷ ss) name (first_there (grammars_of cs) on bytes (joined_other on defined g.bytes q bytes))) (sym is)
        (subst (Adds q p ended events local (s ∷ ss) TextBeforeData) (sym none) (parts.data_is q p ended events local s ss here at.0 (parts.skips q cs p events local s ss here none knows)));
  }

  -- or a state that tries the others
  then-others : (q : Memory) (c : Construct Found TextByte Unit Unit) (cs : List (Construct Found TextByte Unit Unit)) (w : TextByte) → NeedsOption c → ((b : ℕ) → c.grammar.first b ≡ true → text_byte b ≡ w) → AreApart text_byte item_length cs → AllTried q cs
      → ((k : Configuration Unit Unit) → m.step (sight g text k) k c.otherwise ≡ row_step g text k (tried_at between_texts cs w)) → ReadsBefore defined g text known q c cs → Tried q c cs
  then-others q c cs w option class apart tried has reads = record {
    allows = λ p ended events local s ss here first knows. option _ _;
    reads = reads;
    follows = λ p ended events local s ss here at knows.
        listed g text m.step between_texts text_byte item_length (item_events g.bytes) known (is_own on) (joined_other on defined g.bytes) kept q (parts.data_is q) p ended events s ss here at.0 cs tried apart local knows c.otherwise
        (has (between_items p Byte ended events local) ∙ ap (λ v. row_step g text (between_items p Byte ended events local) (tried_at between_texts cs v)) (sym (class s.byte at.1)));
  }

  behind-escapes-tried : (q : Memory) → AllTried q behind_escapes
  behind-escapes-tried q = (
    then-data q break_escapes (references ∷ []) (λ s k. refl) refl behind-escapes-apart.1 (λ b h. (let e : b ≡ 92 = eqb-true b 92 h in rw e refl)) (parts.break_escapes_are q),
    (then-data q references [] (λ s k. refl) refl tt (λ b h. refl) (parts.references_are q), tt),
  )

  behind-marks-tried : (q : Memory) → AllTried q behind_marks
  behind-marks-tried q = (
    then-data q html_tags (then_breaks ∷ behind_escapes) (λ s k. refl) refl behind-marks-apart.1 (λ b h. (let e : b ≡ 60 = eqb-true b 60 h in rw e refl)) (parts.tags_are q),
    (then-others q then_breaks behind_escapes backslash (λ s k. refl) (λ b h. (let e : b ≡ 92 = eqb-true b 92 h in ap text_byte e)) behind-escapes-apart (behind-escapes-tried q) (λ k. refl) (parts.escapes_are q), behind-escapes-tried q),
  )

  behind-emails-tried : (q : Memory) → AllTried q behind_emails
  behind-emails-tried q =
      (then-others q then_tags behind_marks less (λ s k. refl) (λ b h. (let e : b ≡ 60 = eqb-true b 60 h in ap text_byte e)) behind-marks-apart (behind-marks-tried q) (λ k. refl) (parts.marks_are q), behind-marks-tried q)

  behind-autolinks-tried : (q : Memory) → AllTried q behind_autolinks
  behind-autolinks-tried q =
      (then-others q then_html behind_emails less (λ s k. refl) (λ b h. (let e : b ≡ 60 = eqb-true b 60 h in ap text_byte e)) behind-emails-apart (behind-emails-tried q) (λ k. refl) (parts.emails_are q), behind-emails-tried q)

  inline-tried : (q : Memory) → AllTried q inline_constructs
  inline-tried q = (
    then-data q then_data (then_emails ∷ behind_autolinks) (λ s k. refl) refl inline-apart.1 (λ b h. (let e : b ≡ 96 = eqb-true b 96 h in rw e refl)) (parts.code_spans_are q),
    (
      then-others q then_emails behind_autolinks less (λ s k. refl) (λ b h. (let e : b ≡ 60 = eqb-true b 60 h in ap text_byte e)) behind-autolinks-apart (behind-autolinks-tried q) (λ k. refl) (parts.autolinks_are q),
      behind-autolinks-tried q,
    ),
  )

  pub inlines-listed : IsListed g text m.step between_texts text_byte item_length (item_events g.bytes) known (is_own on) (joined_other on defined g.bytes) (λ q. inline_constructs) within
  inlines-listed = record {
    at_byte = λ q k b at plain.
        let (line, rest) = or_parts (is_line_feed b) (begins_mark on b || is_white b) plain in
        let (none, white) = or_parts (begins_mark on b) (is_white b) rest in
        tried-between defined g text k b at line none white;
    at_end = λ k at. ap (λ o. row_step g text k (inline_before_rows (class_of text_byte (sight g text k).previous) (class_of text_byte o))) at;
    begins = parts.begins;
    counted = parts.counted;
    lines_alone = λ q b h. own-alone b h;
    apart = λ q. inline-apart;
    tried = inline-tried;
    reads_data = parts.data_is;
    reads_lines = parts.own_is;
    some = λ q b bs. some-other on defined g.bytes q b bs;
  }

  -- Behind the white space that the text begins with all items are to be read
  abbrev pub first_memory : Memory
  first_memory = after_item g.bytes (nothing_read text.seats) (white_space (prefix_len is_white (bytes_of text.seats)))

  pub inlines-from : known.after_item ≡ after_item g.bytes → (local : Local Unit Unit)
      → let n = prefix_len is_white (bytes_of text.seats) in known.knows first_memory (0 + n) (leaf g.bytes SpaceOrTab (take n text.seats)) local
      → EndsWith g text m (between_items (0 + n) Nothing false (leaf g.bytes SpaceOrTab (take n text.seats)) local) [] (Next TextBefore) (record { events = read_events defined g text; spent = within })
  inlines-from memory local knows =
      let n = prefix_len is_white (bytes_of text.seats) in
      let first = leaf g.bytes SpaceOrTab (take n text.seats) in
      let same : 0 + n ≡ n = omega arith in
      let few : length (drop n text.seats) ≤ length text.seats = omega (arith, length-drop n text.seats) in
      subst (λ (es : List Event). EndsWith g text m (between_items (0 + n) Nothing false first local) [] (Next TextBefore) (record { events = first ++ es; spent = within })) (joined-same on defined g.bytes (length text.seats) first_memory (drop n text.seats) refl few)
      (subst (λ (after : Memory → Found → Memory).
      EndsWith g text m (between_items (0 + n) Nothing false first local) [] (Next TextBefore)
      (record { events = first ++ flat_map (item_events g.bytes) (cut_remembering after (joined_item_at on defined g.bytes) item_length (length text.seats) first_memory (drop n text.seats)); spent = within })) memory
      (items-read g text m.step between_texts text_byte item_length (item_events g.bytes) known (is_own on) (joined_other on defined g.bytes) kept (λ q. inline_constructs) within inlines-listed
      (length text.seats) (0 + n) first_memory false first local (drop n text.seats) (ap (λ k. drop k text.seats) same) few knows))
