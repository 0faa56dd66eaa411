-- Strings, as the machine of inline text reads them: item by item, from their start.
use Rattle.mdinline_constructs.proofs.StringItems.{some-part}
use Rattle.mdinline_machine.proofs.Prelude.{◌≡◌, ℕ, ◌+◌, ◌||◌, not, List, [], ◌∷◌, Bool, true, false, cond, Option, Some, None, refl, sym, ap, ◌∙◌, subst, arith, drop, length, ◌≤◌, flat_map, eqb-true, not-false, Data, LineEnding, Event, Name, Next, Retry, DataStart, StringBefore, StringBeforeData, StringStart, Seat, drop-next, Byte, Nothing, Configuration, Local, start_configuration, sight, Given, Text, Rows, class_of, consume, enter, exit, row, counts, row_step, is_line_feed, passes, Construct, Found, first_there, grammars_of, some_begins, some_first, tried_at, escapes, item_length, bytes_of, line_ending, part, TextByte, is_line_feed_class, text_byte, item_events, AreApart, begins-classed, none-there, AddsFrom, IsListed, Knowledge, Reads, ReadsFrom, items-read, escapes-apart, escapes-read, AddsItemIn, adds-more, adds-of, entered_data, reads-begun, goes-next, line-classed, cut-same, after-call, after-within, reads-line-in, counted-most, ending, most, spent, ReadsItems, nothing-kept, nothing_known, reads-before, EndsWith, HasRow, Plays, PlaysData, between_items, leads-row, references, references-apart, references-read, is_string_special, string_data, string_events, string_item_at, string_part, between_strings, string_before_rows, string_constructs, string_data_rows}
use Rattle.mdinline_machine.proofs.Playing.{inlines_play, inlines_play_references}
use Rattle.mdinline_machine.proofs.Starts.{from-registering}

-- the two constructs of strings, with data behind them
abbrev pub string_escapes : Construct Found TextByte Unit Unit
string_escapes = record escapes { otherwise = StringBeforeData }

abbrev pub string_references : Construct Found TextByte Unit Unit
string_references = record references { otherwise = StringBeforeData }

pub string-apart : AreApart text_byte item_length string_constructs
string-apart = (
  record { classed = escapes-apart.classed; nowhere = escapes-apart.nowhere; some = escapes-apart.some },
  (record { classed = references-apart.classed; nowhere = references-apart.nowhere; some = references-apart.some }, tt),
)

-- a class ends data exactly if the byte does
pub string-special-classed : (b : ℕ) → (is_line_feed_class (text_byte b) || some_begins string_constructs (text_byte b)) ≡ is_string_special b
string-special-classed b = λ i. line-classed b i || begins-classed text_byte item_length string_constructs string-apart b i

abbrev pub string_data_row : Bool → Rows Unit Unit
string_data_row ends = cond ends (row (exit Data ∷ []) (Retry StringBefore)) (row (consume ∷ []) (Next DataStart))

module _ (defined : List ℕ → Bool) (g : Given) (text : Text) where
  abbrev m : Plays g text
  m = inlines_play defined g text

  -- the class of the byte before
  abbrev behind : Configuration Unit Unit → Option TextByte
  behind k = class_of text_byte (sight g text k).previous

  pub string-data-over : (k : Configuration Unit Unit) (o : Option ℕ) → (sight g text k).current ≡ o → passes (λ b. not (is_string_special b)) o ≡ false
      → HasRow g text m.step k DataStart (row (exit Data ∷ []) (Retry StringBefore))
  string-data-over k None at ends = ap (λ o. row_step g text k (string_data_rows (behind k) (class_of text_byte o))) at
  string-data-over k (Some b) at ends =
      ap (λ o. row_step g text k (string_data_rows (behind k) (class_of text_byte o))) at
      ∙ ap (λ t. row_step g text k (string_data_row t)) (string-special-classed b ∙ not-false (is_string_special b) ends)

  -- line endings and data of strings
  abbrev pub strings_play_data : PlaysData g text m between_strings
  strings_play_data = record {
    special = is_string_special;
    line_ends = λ k at. ap (λ o. row_step g text k (string_before_rows (behind k) (class_of text_byte o))) at;
    data_goes_on = λ k b at plain.
        ap (λ o. row_step g text k (string_data_rows (behind k) (class_of text_byte o))) at ∙ ap (λ t. row_step g text k (string_data_row t)) (string-special-classed b ∙ plain);
    data_ends = λ k ends. string-data-over k (sight g text k).current refl ends;
  }

  -- a part of a string is read in three calls more than it has bytes
  abbrev PartRead : Name → (p : ℕ) (ended : Bool) (events : List Event) (local : Local Unit Unit) → List Seat → Found → Type 0
  PartRead name p ended events local l item = AddsItemIn g text m between_strings (item_length item + 3) (between_items p Byte ended events local) (Retry name) p events l item

  pub data-read-in : (p : ℕ) (ended : Bool) (events : List Event) (local : Local Unit Unit) (s : Seat) (ss : List Seat) → drop p text.seats ≡ s ∷ ss → is_line_feed s.byte ≡ false
      → PartRead StringBeforeData p ended events local (s ∷ ss) (string_part (bytes_of (s ∷ ss)))
  data-read-in p ended events local s ss here plain =
      let bytes = bytes_of (s ∷ ss) in
      subst (PartRead StringBeforeData p ended events local (s ∷ ss)) (ap (λ t. cond t (part line_ending) (string_data bytes)) (sym plain))
      (reads-begun g text m between_strings strings_play_data p ended events local s ss here 1 (omega arith) (omega arith) (
        counts local,
        after-within 1 (1 + 2) local (counts local) (omega arith) (after-call local),
        λ es h.
            leads-row g text m (row (enter Data ∷ consume ∷ []) (Next DataStart)) (between_items p Byte ended events local) [] StringBeforeData es refl
            (goes-next g text m ss (Data ∷ []) (p + 1) (entered_data g text m between_strings events p) (counts local) [] DataStart (drop-next text.seats p s ss here) es h),
      ))

  pub line-read-in : (p : ℕ) (ended : Bool) (events : List Event) (local : Local Unit Unit) (s : Seat) (ss : List Seat) → drop p text.seats ≡ s ∷ ss → is_line_feed s.byte ≡ true
      → PartRead StringBefore p ended events local (s ∷ ss) (string_part (bytes_of (s ∷ ss)))
  line-read-in p ended events local s ss here line =
      subst (PartRead StringBefore p ended events local (s ∷ ss)) (ap (λ t. cond t (part line_ending) (string_data (bytes_of (s ∷ ss)))) (sym line))
      (adds-more g text m between_strings 1 (1 + 3) (between_items p Byte ended events local) (Retry StringBefore) p events (s ∷ ss) (part line_ending) (omega arith)
      (reads-line-in g text m between_strings strings_play_data p ended events local s ss here (eqb-true s.byte 10 line)))

  data-read : ReadsItems g text m between_strings StringBeforeData (λ b. is_line_feed b ≡ false) string_part
  data-read p ended events local s ss here plain knows =
      let item = string_part (bytes_of (s ∷ ss)) in
      adds-of g text m between_strings (item_length item + 3) (between_items p Byte ended events local) (Retry StringBeforeData) p events (s ∷ ss) item (data-read-in p ended events local s ss here plain)

  line-read : ReadsItems g text m between_strings StringBefore (λ b. is_line_feed b ≡ true) string_part
  line-read p ended events local s ss here line knows =
      let item = string_part (bytes_of (s ∷ ss)) in
      adds-of g text m between_strings (item_length item + 3) (between_items p Byte ended events local) (Retry StringBefore) p events (s ∷ ss) item (line-read-in p ended events local s ss here line)

  -- data follows a construct, if the others in the list begin at other bytes
  module _ (known : Knowledge Found TextByte (Unit {0})) where
    abbrev pub ReadsKnown : (Knows : ℕ → List Event → Local Unit Unit → Type 0) → Name → (At : ℕ → Type 0) → (List ℕ → Found) → Type 0
    ReadsKnown Knows name At front = ReadsFrom g text m.step between_strings text_byte item_length (item_events g.bytes) known tt Knows name At front

    -- the theorem of a construct before others
    abbrev pub ReadsBefore : Construct Found TextByte Unit Unit → List (Construct Found TextByte Unit Unit) → Type 0
    ReadsBefore c cs = Reads g text m.step between_strings text_byte item_length (item_events g.bytes) known tt c cs

    pub data-follows : (Knows : ℕ → List Event → Local Unit Unit → Type 0) → ReadsKnown Knows StringBeforeData (λ b. is_line_feed b ≡ false) string_part
        → (c : Construct Found TextByte Unit Unit) (cs : List (Construct Found TextByte Unit Unit)) → AreApart text_byte item_length cs → ((b : ℕ) → c.grammar.first b ≡ true → some_first (grammars_of cs) b ≡ false)
        → ReadsKnown Knows StringBeforeData (λ b. (is_line_feed b ≡ false) × (c.grammar.first b ≡ true)) (λ bs. first_there (grammars_of cs) g.options.constructs bs (string_part bs))
    data-follows Knows reads c cs apart alone p ended events local s ss here at knows =
        subst (AddsFrom g text m.step between_strings text_byte item_length (item_events g.bytes) known tt (between_items p Byte ended events local) (Retry StringBeforeData) p events (s ∷ ss))
        (sym (none-there text_byte item_length cs apart g.options.constructs s.byte (bytes_of ss) (string_part (bytes_of (s ∷ ss))) (alone s.byte at.1)))
        (reads p ended events local s ss here at.0 knows)

  -- the list of constructs, whatever is known
  pub strings-listed : (known : Knowledge Found TextByte (Unit {0})) (within : ℕ)
      → ((p : ℕ) (events : List Event) (local : Local Unit Unit) (s : Seat) (ss : List Seat) → drop p text.seats ≡ s ∷ ss → is_line_feed s.byte ≡ false → known.knows tt p events local → known.tries tt string_constructs p events local)
      → ((p : ℕ) (events : List Event) (local : Local Unit Unit) → known.knows tt p events local → spent (counts local) ≤ within)
      → ReadsBefore known string_escapes (string_references ∷ []) → ReadsBefore known string_references []
      → ((cs : List (Construct Found TextByte Unit Unit)) → ReadsKnown known (known.tries tt cs) StringBeforeData (λ b. is_line_feed b ≡ false) string_part)
      → ReadsKnown known (known.at_data tt) StringBeforeData (λ b. is_line_feed b ≡ false) string_part → ReadsKnown known (known.knows tt) StringBefore (λ b. is_line_feed b ≡ true) string_part
      → IsListed g text m.step between_strings text_byte item_length (item_events g.bytes) known is_line_feed (λ m. string_part) (λ m. string_constructs) within
  strings-listed known within begins counted escapes-are references-are follows data-is line-is = record {
    at_byte = λ n k b at plain.
        ap (λ o. row_step g text k (string_before_rows (behind k) (class_of text_byte o))) at
        ∙ ap (λ t. row_step g text k (cond t (row (enter LineEnding ∷ consume ∷ exit LineEnding ∷ []) (Next StringBefore)) (tried_at between_strings string_constructs (text_byte b)))) (line-classed b ∙ plain);
    at_end = λ k at. ap (λ o. row_step g text k (string_before_rows (behind k) (class_of text_byte o))) at;
    begins = λ n. begins;
    counted = λ n. counted;
    lines_alone = λ n b h. (let e : b ≡ 10 = eqb-true b 10 h in rw e refl);
    apart = λ n. string-apart;
    tried = λ n. (
      record {
        allows = λ p ended events local s ss here first knows. refl;
        reads = escapes-are;
        follows = data-follows known (known.tries tt (string_references ∷ [])) (follows (string_references ∷ [])) string_escapes (string_references ∷ []) string-apart.1 (λ b h. (let e : b ≡ 92 = eqb-true b 92 h in rw e refl));
      },
      (record { allows = λ p ended events local s ss here first knows. refl; reads = references-are; follows = data-follows known (known.tries tt []) (follows []) string_references [] tt (λ b h. refl) }, tt),
    );
    reads_data = λ n. data-is;
    reads_lines = λ n. line-is;
    some = λ n b bs. some-part b bs;
  }

  -- nothing needs to be known
  listed : IsListed g text m.step between_strings text_byte item_length (item_events g.bytes) nothing_known is_line_feed (λ m. string_part) (λ m. string_constructs) most
  listed =
      strings-listed nothing_known most (λ p events local s ss here plain knows. tt) (λ p events local knows. counted-most local)
      (reads-before g text m between_strings string_escapes (string_references ∷ []) (escapes-read g text m between_strings))
      (reads-before g text m between_strings string_references [] (references-read g text m (inlines_play_references defined g text) between_strings)) (λ cs. data-read) data-read line-read

  -- between constructs, before the first byte, all items are to be read
  from-between : (local : Local Unit Unit) → EndsWith g text m (between_items 0 Nothing false [] local) [] (Next StringBefore) (ending (string_events g text))
  from-between local =
      subst (λ items. EndsWith g text m (between_items 0 Nothing false [] local) [] (Next StringBefore) (ending (flat_map (item_events g.bytes) items)))
      (cut-same (string_item_at g.options.constructs) item_length (length text.seats) tt text.seats)
      (items-read g text m.step between_strings text_byte item_length (item_events g.bytes) nothing_known is_line_feed (λ n. string_part) nothing-kept (λ n. string_constructs) most listed
      (length text.seats) 0 tt false [] local text.seats refl (omega arith) tt)

  -- So a string is read item by item from its start
  pub strings-from-start : (flag : Bool) → EndsWith g text m (start_configuration flag) [] (Next StringStart) (ending (string_events g text))
  strings-from-start = from-registering g text m StringStart StringBefore (λ k. refl) (ending (string_events g text)) from-between
