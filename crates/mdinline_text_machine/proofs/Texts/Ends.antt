-- What reading a text from its start ends in, for a machine that leaves nothing to resolve; and so for the machine of texts, whose items are read one by one.
use Rattle.mdinline_text_machine.proofs.Prelude.{◌+◌, ◌++◌, Some, LineEnding, consume, enter, exit, tried_at, class_of, data_inside_rows, text_before_rows, Bool, Byte, Configuration, Construct, Contains, EndsIn, Ending, EndsWith, Event, Found, Given, IsResolved, IsText, KeepsInvariant, LeavesEvents, List, Name, Next, Nothing, Ok, Reading, Retry, Rules, Sight, State, Step, Subresult, Text, TextBefore, TextBeforeData, TextByte, TextStart, [], ap, arith, autolinks, between_texts, bytes_of, code_spans, cond, counts, done, edited, edited-none, edited-same, edits_made, ending, eqb-true, escapes, false, fed, first_there, flat_map, found, grammars_of, holds-at-start, inl, inr, is_line_feed, is_special, item_at, item_events, item_length, kept-well, lawful-kept, length, line_ending, nat_lt, one-end, part, part_at, plain_length, plain_run, refl, resolved_by, row, row_step, sight, some_first, start_configuration, subst, sym, taken, text-lawful, text_byte, text_constructs, text_events, text_rules, true, with_local, with_resolvers, ℕ, ◌∙◌, ◌∷◌, ◌≡◌}
use Rattle.markdown_tokenizer.proofs.Readings.Bounds.{called-ends, fed-ends}
use Rattle.mdinline_text_machine.proofs.Texts.Leads.{counted-most, most}
use Rattle.mdinline_text_machine.proofs.Autolinks.Readings.{autolinks-read}
use Rattle.mdinline_text_machine.proofs.CodeSpans.FoundParts.{piece-positive}
use Rattle.mdinline_text_machine.proofs.CodeSpans.Items.{code-spans-read}
use Rattle.mdinline_text_machine.proofs.CodeSpans.Plays.{PlaysCodeSpans, between-plain, forgetful, opening-plain}
use Rattle.mdinline_text_machine.proofs.Constructs.Apart.{AreApart, none-there}
use Rattle.mdinline_text_machine.proofs.Constructs.Listed.{IsListed, items-read}
use Rattle.mdinline_text_machine.proofs.Escapes.Readings.{escapes-read}
use Rattle.mdinline_text_machine.proofs.Plain.Items.{reads-data}
use Rattle.mdinline_text_machine.proofs.Plain.Stretches.{seen}
use Rattle.mdinline_text_machine.proofs.Texts.Apart.{data-ends, data-goes-on, line-classed, text-apart}
use Rattle.mdinline_text_machine.proofs.Texts.Cutting.{cut-same}
use Rattle.mdinline_text_machine.proofs.Texts.LineEndings.{reads-line}
use Rattle.mdinline_text_machine.proofs.Texts.Reads.{AddsItem, ReadsItems, nothing-kept, nothing_known, reads-before}
use Rattle.mdinline_text_machine.proofs.Texts.Steps.{BeginsData, Plays, PlaysData, between_items, text_step}

-- What is read of a text from a start, and what is left where all is resolved, has these events
abbrev pub ReadsTextsFrom : (start : Name) → (g : Given) → (Given → Rules Unit Unit) → (Text → List Event) → Type 0
ReadsTextsFrom start g rules events_of =
    (text : Text) → IsText g text → (flag : Bool) (r : Reading Unit Unit) → EndsIn g (rules g).step text 0 (start_configuration flag) [] (Next start) r → r.answer ≡ Ok
    → (final : Configuration Unit Unit) (found : Subresult) → IsResolved (rules g).resolver g text true r.configuration final found → final.events ≡ events_of text

-- the same from the start of texts
abbrev pub ReadsTexts : (g : Given) → (Given → Rules Unit Unit) → (Text → List Event) → Type 0
ReadsTexts = ReadsTextsFrom TextStart

module _ (g : Given) (text : Text) (step : Sight → Configuration Unit Unit → Name → Step Unit Unit) where
  -- there is a reading from this state that ends in Ok with these events
  abbrev pub ComesTo : Configuration Unit Unit → State → List Event → Type 0
  ComesTo k s es = (r : Reading Unit Unit) × (EndsIn g step text 0 k [] s r × (r.answer ≡ Ok) × (r.configuration.events ≡ es))

  -- then it ends in no other way
  pub comes-alone : (k : Configuration Unit Unit) (s : State) (es : List Event) → ComesTo k s es → (r : Reading Unit Unit) → EndsIn g step text 0 k [] s r
      → (r.answer ≡ Ok) × (r.configuration.events ≡ es)
  comes-alone k s es there r ends =
      let same = one-end g step text 0 k [] s r there.0 ends there.1.0 in
      (ap (λ (q : Reading Unit Unit). q.answer) same ∙ there.1.1, ap (λ (q : Reading Unit Unit). q.configuration.events) same ∙ there.1.2)

  -- as is a reading that ends as is asked
  pub comes-so : (k : Configuration Unit Unit) (s : State) (e : Ending) → EndsWith g text step k [] s e → ComesTo k s e.events
  comes-so k s e h = let there = h 0 in (there.0, (there.1.0, there.1.1, there.1.2.0))

  pub ends-so : (k : Configuration Unit Unit) (s : State) (e : Ending) → EndsWith g text step k [] s e → (r : Reading Unit Unit) → EndsIn g step text 0 k [] s r
      → (r.answer ≡ Ok) × (r.configuration.events ≡ e.events)
  ends-so k s e h = comes-alone k s e.events (comes-so k s e h)

  -- a start that only goes on with a state is read as that state is
  pub on-start : (start name : Name) → ((k : Configuration Unit Unit) → step (sight g text k) k start ≡ row_step g text k (row [] (Retry name))) → (k : Configuration Unit Unit) (calls : ℕ) (r : Reading Unit Unit)
      → EndsIn g step text (calls + 1) (with_local k (counts k.local)) [] (Next name) r → EndsIn g step text calls k [] (Next start) r
  on-start start name has k calls r ends =
      let k1 = with_local k (counts k.local) in
      let same = elim (nat_lt k.position (length text.seats)) as (λ b. seen b k1 ≡ with_local (seen b k) (counts (seen b k).local)) [ true ↦ refl | false ↦ refl ] in
      let called : EndsIn g step text (calls + 1) (fed text k1) [] (Retry name) r = (fed-ends g step text (calls + 1) k1 [] name r).1 ends in
      (fed-ends g step text calls k [] start r).0
      ((called-ends g step text calls (fed text k) [] start r).0
      (subst (λ (q : Step Unit Unit). EndsIn g step text (calls + 1) q.configuration (q.choices ++ []) q.answer r) (sym (has (fed text k)))
      (subst (λ k. EndsIn g step text (calls + 1) k [] (Retry name) r) same called)))

  pub leads-on : (start name : Name) → ((k : Configuration Unit Unit) → step (sight g text k) k start ≡ row_step g text k (row [] (Retry name))) → (k : Configuration Unit Unit) (e : Ending)
      → EndsWith g text step (with_local k (counts k.local)) [] (Next name) e → EndsWith g text step k [] (Next start) e
  leads-on start name has k e h calls = let it = h (calls + 1) in (it.0, (on-start start name has k calls it.0 it.1.0, it.1.1, it.1.2))

module _ (g : Given) (rules : Given → Rules Unit Unit) (law : KeepsInvariant g (rules g)) where
  -- a lawful machine ends where its invariant holds
  pub holds-at-end : (start : Name) → Contains (rules g).starts start → (text : Text) → IsText g text → (flag : Bool) (r : Reading Unit Unit)
      → EndsIn g (rules g).step text 0 (start_configuration flag) [] (Next start) r → r.answer ≡ Ok → (rules g).holds text r.configuration [] Ok
  holds-at-end start among text is flag r ends well =
      kept-well g (rules g).step text (λ k cs s. (rules g).holds text k cs s) (lawful-kept g (rules g) law text is) 0 (start_configuration flag) (Next start) r
      (holds-at-start g (rules g) law text is flag start among) ends well

  -- if that leaves nothing to resolve, it leaves the events that it reads
  pub reads-so : (events_of : Text → List Event) → Contains (rules g).starts TextStart
      → ((text : Text) (k : Configuration Unit Unit) → (rules g).holds text k [] Ok → (k.local.resolvers ≡ []) × (k.local.map ≡ []) × (edited [] k.events ≡ k.events))
      → ((text : Text) → IsText g text → (flag : Bool) → ComesTo g text (rules g).step (start_configuration flag) (Next TextStart) (events_of text)) → ReadsTexts g rules events_of
  reads-so events_of among plain from text is flag r ends well final sub resolved =
      let k = r.configuration in
      let left = plain text k (holds-at-end TextStart among text is flag r ends well) in
      let e : done (edits_made (with_resolvers (taken k) [])) (Some (found k)) ≡ done final (Some sub) =
      sym (ap (λ (rs : List Unit). resolved_by (rules g).resolver g text rs (with_resolvers (taken k) []) (found k)) left.0) ∙ resolved in
      let last : edits_made (with_resolvers (taken k) []) ≡ final = cc in
      sym (ap (λ (q : Configuration Unit Unit). q.events) last) ∙ ap (λ es. edited es k.events) left.1 ∙ left.2
      ∙ (comes-alone g text (rules g).step (start_configuration flag) (Next TextStart) (events_of text) (from text is flag) r ends).1

-- The machine of texts is the list of its constructs. After each, data is read: no other begins at its byte.
module _ (g : Given) (text : Text) where
  abbrev pub text_plays : Plays g text
  text_plays = record {
    step = text_step g;
    autolink_start = λ k. refl;
    autolink_open = λ k. refl;
    autolink_scheme = λ k. refl;
    autolink_url = λ k. refl;
    escape_start = λ k. refl;
    escape_inside = λ k. refl;
  }

  abbrev pub text_plays_code_spans : PlaysCodeSpans g text text_plays forgetful
  text_plays_code_spans = record {
    raw_text_start = λ k. refl;
    raw_text_sequence_open = λ k. opening-plain g text k (class_of text_byte (sight g text k).previous) (class_of text_byte (sight g text k).current);
    raw_text_between = λ k. between-plain g text k (class_of text_byte (sight g text k).previous) (class_of text_byte (sight g text k).current);
    raw_text_data = λ k. refl;
    raw_text_sequence_close = λ k. refl;
    raw_text_after = λ k. refl;
    raw_text_backticks_start = λ k. refl;
    raw_text_backticks_inside = λ k. refl;
    keeps = λ events local. refl;
  }

  abbrev pub text_plays_data : PlaysData g text text_plays between_texts
  text_plays_data = record {
    special = is_special;
    line_ends = λ k at. ap (λ o. row_step g text k (text_before_rows (class_of text_byte (sight g text k).previous) (class_of text_byte o))) at;
    data_goes_on = λ k b at plain.
        let before = class_of text_byte (sight g text k).previous in
        ap (λ o. row_step g text k (data_inside_rows before (class_of text_byte o))) at ∙ ap (row_step g text k) (data-goes-on before b plain);
    data_ends = λ k ends. ap (row_step g text k) (data-ends (class_of text_byte (sight g text k).previous) (sight g text k).current ends);
  }

  abbrev pub text_begins_data : BeginsData g text text_plays
  text_begins_data = record { text_before_data = λ k. refl; data_at_break = λ k. refl }

module _ (g : Given) (text : Text) (is-text : IsText g text) where
  abbrev m : Plays g text
  m = text_plays g text

  abbrev other : List ℕ → Found
  other bs = part (part_at is_special bs)

  data-read : ReadsItems g text m between_texts TextBeforeData (λ b. is_line_feed b ≡ false) other
  data-read p ended events local s ss here plain knows =
      subst (AddsItem g text m between_texts (between_items p Byte ended events local) (Retry TextBeforeData) p events (s ∷ ss))
      (ap (λ t. part (cond t line_ending (plain_run (plain_length is_special (bytes_of (s ∷ ss)))))) (sym plain)) (reads-data g text m (text_plays_data g text) (text_begins_data g text) p ended events local s ss here)

  line-read : ReadsItems g text m between_texts TextBefore (λ b. is_line_feed b ≡ true) other
  line-read p ended events local s ss here line knows =
      subst (AddsItem g text m between_texts (between_items p Byte ended events local) (Retry TextBefore) p events (s ∷ ss))
      (ap (λ t. part (cond t line_ending (plain_run (plain_length is_special (bytes_of (s ∷ ss)))))) (sym line)) (reads-line g text m between_texts (text_plays_data g text) p ended events local s ss here (eqb-true s.byte 10 line))

  -- data follows a construct, if the others in the list begin at other bytes
  data-follows : (c : Construct Found TextByte Unit Unit) (cs : List (Construct Found TextByte Unit Unit)) → AreApart text_byte item_length cs
      → ((b : ℕ) → c.grammar.first b ≡ true → some_first (grammars_of cs) b ≡ false)
      → ReadsItems g text m between_texts TextBeforeData (λ b. (is_line_feed b ≡ false) × (c.grammar.first b ≡ true)) (λ bs. first_there (grammars_of cs) g.options.constructs bs (other bs))
  data-follows c cs apart alone p ended events local s ss here at knows =
      subst (AddsItem g text m between_texts (between_items p Byte ended events local) (Retry TextBeforeData) p events (s ∷ ss))
      (sym (none-there text_byte item_length cs apart g.options.constructs s.byte (bytes_of ss) (other (bytes_of (s ∷ ss))) (alone s.byte at.1)))
      (data-read p ended events local s ss here at.0 knows)

  text-listed : IsListed g text (text_step g) between_texts text_byte item_length (item_events g.bytes) nothing_known is_line_feed (λ m. other) (λ m. text_constructs) most
  text-listed = record {
    at_byte = λ n k b at plain.
        let before = class_of text_byte (sight g text k).previous in
        ap (λ o. row_step g text k (text_before_rows before (class_of text_byte o))) at
        ∙ ap (λ t. row_step g text k (cond t (row (enter LineEnding ∷ consume ∷ exit LineEnding ∷ []) (Next TextBefore)) (tried_at between_texts text_constructs (text_byte b)))) (line-classed b ∙ plain);
    at_end = λ k at. ap (λ o. row_step g text k (text_before_rows (class_of text_byte (sight g text k).previous) (class_of text_byte o))) at;
    begins = λ n p events local s ss here plain knows. tt;
    counted = λ n p events local knows. counted-most local;
    lines_alone = λ n b h. (let e : b ≡ 10 = eqb-true b 10 h in rw e refl);
    apart = λ n. text-apart;
    tried = λ n. (
      record { allows = λ p ended events local s ss here first knows. refl; reads = reads-before g text m between_texts code_spans (autolinks ∷ escapes ∷ []) (code-spans-read g text (text_plays g text) (text_plays_code_spans g text) between_texts is-text); follows = data-follows code_spans (autolinks ∷ escapes ∷ []) text-apart.1 (λ b h. (let e : b ≡ 96 = eqb-true b 96 h in rw e refl)) },
      (
        record { allows = λ p ended events local s ss here first knows. refl; reads = reads-before g text m between_texts autolinks (escapes ∷ []) (autolinks-read g text (text_plays g text) between_texts is-text); follows = data-follows autolinks (escapes ∷ []) text-apart.1.1 (λ b h. (let e : b ≡ 60 = eqb-true b 60 h in rw e refl)) },
        (record { allows = λ p ended events local s ss here first knows. refl; reads = reads-before g text m between_texts escapes [] (escapes-read g text (text_plays g text) between_texts); follows = data-follows escapes [] tt (λ b h. refl) }, tt),
      ),
    );
    reads_data = λ n. data-read;
    reads_lines = λ n. line-read;
    some = λ n b bs. piece-positive is_special b bs;
  }

  -- so it reads a text item by item from the start, in the first paragraph of a list item or not
  pub from-start : (flag : Bool) → EndsWith g text (text_step g) (start_configuration flag) [] (Next TextStart) (ending (text_events g text))
  from-start flag =
      let k : Configuration Unit Unit = start_configuration flag in
      let on = g.options.constructs in
      leads-on g text (text_step g) TextStart TextBefore (λ k. refl) k (ending (text_events g text))
      (subst (λ items. EndsWith g text (text_step g) (between_items 0 Nothing false [] (counts k.local)) [] (Next TextBefore) (ending (flat_map (item_events g.bytes) items)))
      (cut-same (item_at on) item_length (length text.seats) tt text.seats)
      (items-read g text (text_step g) between_texts text_byte item_length (item_events g.bytes) nothing_known is_line_feed (λ m. other) nothing-kept (λ m. text_constructs) most text-listed
      (length text.seats) 0 tt false [] (counts k.local) text.seats refl (omega arith) tt))

-- The machine of texts leaves nothing to resolve
pub texts-unresolved : (g : Given) (text : Text) → IsText g text → (flag : Bool) (r : Reading Unit Unit) → EndsIn g (text_rules g).step text 0 (start_configuration flag) [] (Next TextStart) r → r.answer ≡ Ok
    → LeavesEvents true r.configuration
texts-unresolved g text is flag r ends well = elim (holds-at-end g text_rules (text-lawful g).invariant_kept TextStart (1, omega arith, (cc)) text is flag r ends well) [
  | inl h ↦ (h.known.resolvers, h.known.edits)
  | inr h ↦ (h.0.0, h.0.1)
]

-- The machine of texts reads a text as its items, and so it is where all is resolved
pub reads-items : (g : Given) → ReadsTexts g text_rules (text_events g)
reads-items g =
    reads-so g text_rules (text-lawful g).invariant_kept (text_events g) (1, omega arith, (cc))
    (λ text k h. elim h [ inl h ↦ (h.known.resolvers, h.known.edits, edited-none k.events h.known.shape.inside) | inr h ↦ (h.0.0, h.0.1, edited-same k.events h.0.2) ]) (λ text is flag. comes-so g text (text_rules g).step (start_configuration flag) (Next TextStart) (ending (text_events g text)) (from-start g text is flag))
