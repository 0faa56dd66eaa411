-- What reading inline text may cost, and what is known while it is read: of code spans and raw HTML between marks by what is remembered, of brackets by those
-- that wait; all else is paid by the bytes that are read, and looks for tags, autolinks, emails and tails by those up to where they end.
use Rattle.mdinline_machine.proofs.Prelude.{◌≡◌, ℕ, zero, suc, ◌+◌, ◌-◌, ◌*◌, ◌<◌, ◌≤◌, List, [], ◌∷◌, ◌++◌, take, drop-drop, item_events, Bool, true, false, cond, Option, Some, None, sym, ap, ◌∙◌, subst, arith, length, drop, length-drop, length-map, Constructs, Event, Seat, Given, Text, backticks, is_backtick, Found, item_length, bytes_of, from-less-ahead, from_less, OfOption, Remembered, Plays, tags-ahead-later, tags_ahead, Memory, after_item, begins_end, waiting_behind, remembered}
use Rattle.markdown_tokenizer.specs.declared.tokenizer.state.LabelStart.{LabelStart}
use Rattle.mdinline_machine.proofs.BracketReads.{unstarted}
use Rattle.mdinline_machine.proofs.Budgets.{GoDown, IsSound, Pays, Potential, Prices}
use Rattle.mdinline_machine.proofs.FrontRuns.{no-backticks}
use Rattle.mdinline_machine.proofs.JoinedItems.{joined_item_at, joined_other}
use Rattle.mdinline_machine.proofs.PlainItems.{IsPlain}
use Rattle.mdinline_machine.proofs.Playing.{inlines_play}
use Rattle.mdinline_machine.proofs.Starts.{start_local}
use Rattle.mdinline_machine.proofs.TailLooks.{look_calls, tail_looks}
use Rattle.mdinline_machine.proofs.Waiting.{Keeps}

-- What is remembered of a text: what is known of it, by the place; and what code spans and raw HTML between marks may still cost
pub record TextMemory : Type 1 where
  pub sound : ℕ → Remembered → Type 0
  pub code : Potential
  pub marks : Potential

-- what is known holds further on, of a text that is begun, and whatever brackets wait; and these looks cost at most so many calls for each byte
pub record IsTextMemory (x : TextMemory) : Type 0 where
  pub unstarted_code : (r q : Remembered) → unstarted q ≡ unstarted r → (l : List Seat) → x.code q l ≡ x.code r l
  pub unstarted_marks : (r q : Remembered) → unstarted q ≡ unstarted r → (l : List Seat) → x.marks q l ≡ x.marks r l
  pub unstarted_sound : (r q : Remembered) → unstarted q ≡ unstarted r → (p : ℕ) → x.sound p r → x.sound p q
  pub later : (p q : ℕ) (r : Remembered) → p ≤ q → x.sound p r → x.sound q r
  pub begins : (flag : Bool) → x.sound 0 (remembered (start_local flag))
  pub code_down : (r : Remembered) (s : Seat) (ss : List Seat) → x.code r ss ≤ x.code r (s ∷ ss)
  pub marks_down : (r : Remembered) (s : Seat) (ss : List Seat) → x.marks r ss ≤ x.marks r (s ∷ ss)
  pub code_within : (r : Remembered) (l : List Seat) → x.code r l ≤ 7 * length l
  pub marks_within : (r : Remembered) (l : List Seat) → x.marks r l ≤ 8 * length l

-- looks that cost nothing beside, for an autolink or an email, and for a tag
abbrev pub free : Potential
free r l = 0

abbrev pub links_left : Potential
links_left r l = from_less (bytes_of l)

abbrev pub tags_left : Potential
tags_left r l = tags_ahead (bytes_of l)

-- what a look at a backtick string costs beside if it begins no code span, and one at raw HTML between marks
abbrev pub code_toll : List ℕ → ℕ
code_toll bs = 7 * backticks bs + 3

abbrev pub mark_toll : List ℕ → ℕ
mark_toll bs = 18

-- What a try of each construct costs beside, the last of the list first: references, hard breaks by a backslash, escapes, tags, raw HTML between marks,
-- emails, autolinks, code spans
abbrev pub one_toll : List ℕ → ℕ → ℕ
one_toll [] n = 0
one_toll (t ∷ ts) zero = t
one_toll (t ∷ ts) (suc n) = one_toll ts n

abbrev pub inline_toll : List Seat → ℕ → ℕ
inline_toll l =
    let bs = bytes_of l in
    one_toll (36 ∷ 3 ∷ 3 ∷ 3 ∷ (mark_toll bs + 1) ∷ 2 ∷ 2 ∷ (code_toll bs + 1) ∷ [])

-- what each byte pays for
abbrev pub calls_a_byte : ℕ
calls_a_byte = 115

-- what looks for tails pay for
abbrev pub looks_left : Constructs → List Seat → ℕ
looks_left on l = tail_looks on (bytes_of l)

-- so many calls are enough for a text
abbrev pub inline_budget : Constructs → List Seat → ℕ
inline_budget on l = 138 * length l + 3 + looks_left on l

-- What is known of what is remembered of the items that were read: the brackets that wait are those that are kept; and the events so far, and the virtual
-- bytes that are left, are those of the text
pub record IsRemembered (text : Text) (q : Memory) (p : ℕ) (events : List Event) (starts : List LabelStart) : Type 0 where
  pub keeps : Keeps q.waiting starts
  pub events_are : q.events ≡ events
  pub ahead_is : q.ahead ≡ drop p text.seats

-- so it is behind an item, if these brackets are kept then
pub remembered-behind : (bytes : List ℕ) (text : Text) (q : Memory) (p : ℕ) (events : List Event) (starts after : List LabelStart) (s : Seat) (ss : List Seat) (item : Found) → drop p text.seats ≡ s ∷ ss
    → IsRemembered text q p events starts → let more = events ++ item_events bytes (item, take (item_length item) (s ∷ ss)) in Keeps (waiting_behind item.mark (length more) q.waiting) after
    → IsRemembered text (after_item bytes q item) (p + item_length item) more after
remembered-behind bytes text q p events starts after s ss item here h keeps =
    let size = item_length item in
    let ahead : q.ahead ≡ s ∷ ss = h.ahead_is ∙ here in
    let more : q.events ++ item.events bytes (take size q.ahead) ≡ events ++ item.events bytes (take size (s ∷ ss)) = λ i. h.events_are i ++ item.events bytes (take size (ahead i)) in
    record {
      keeps = subst (λ es. Keeps (waiting_behind item.mark (length es) q.waiting) after) (sym more) keeps;
      events_are = more;
      ahead_is = ap (drop size) h.ahead_is ∙ drop-drop size p text.seats;
    }

-- a plain item leaves the brackets that wait as they are
pub plain-behind : (bytes : List ℕ) (text : Text) (q : Memory) (p : ℕ) (events : List Event) (starts : List LabelStart) (s : Seat) (ss : List Seat) (item : Found) → drop p text.seats ≡ s ∷ ss → IsPlain item
    → IsRemembered text q p events starts → IsRemembered text (after_item bytes q item) (p + item_length item) (events ++ item_events bytes (item, take (item_length item) (s ∷ ss))) starts
plain-behind bytes text q p events starts s ss item here plain h =
    let more = events ++ item_events bytes (item, take (item_length item) (s ∷ ss)) in
    remembered-behind bytes text q p events starts starts s ss item here h (subst (λ mark. Keeps (waiting_behind mark (length more) q.waiting) starts) (sym plain) h.keeps)

-- what is known depends on the brackets that wait
abbrev pub inline_prices : (defined : List ℕ → Bool) → Given → Text → TextMemory → Prices Memory
inline_prices defined g text x = let on = g.options.constructs in record {
  potentials = free ∷ free ∷ free ∷ tags_left ∷ x.marks ∷ links_left ∷ links_left ∷ x.code ∷ [];
  toll = inline_toll;
  fixed = λ l. calls_a_byte * length l + looks_left on l;
  after = after_item g.bytes;
  sound = λ m p events r. x.sound p r × IsRemembered text m p events r.starts;
  trying = λ m cs p events r. x.sound p r × IsRemembered text m p events r.starts;
  plain = IsPlain;
  other = joined_other on defined g.bytes;
  item = joined_item_at on defined g.bytes;
}

-- what holds of a thing that is there, where less is asked
pub weaker : {A : Type 0} (P Q : A → Type 0) → ((a : A) → P a → Q a) → (o : Option A) → OfOption P o → OfOption Q o
weaker P Q f None h = tt
weaker P Q f (Some a) h = f a h

-- the sum for an item: each of its bytes pays for some calls, for the looks at the backtick string at its front, and for the tries
pays-sum : (n size whole rest ticks : ℕ) → 0 < size → rest + size ≡ whole → ticks ≤ size → n ≤ 7 * size + 28
    → n + 1 + (36 + (3 + (3 + (3 + (18 + 1 + (2 + (2 + (7 * ticks + 3 + 1 + 0)))))))) + 115 * rest ≤ 115 * whole
pays-sum n size whole rest ticks some cut run few = omega (arith, some, cut, run, few)

-- looks that are left behind so many bytes are no more
pub looks-drop : (on : Constructs) (n : ℕ) (l : List Seat) → looks_left on (drop n l) ≤ looks_left on l
looks-drop on zero l = omega arith
looks-drop on (suc n) [] = omega arith
looks-drop on (suc n) (s ∷ ss) = omega (arith, looks-drop on n ss)

module _ (defined : List ℕ → Bool) (g : Given) (text : Text) (memory : TextMemory) (is : IsTextMemory memory) (budget : ℕ) where
  abbrev pub on : Constructs
  on = g.options.constructs

  abbrev pub m : Plays g text
  m = inlines_play defined g text

  abbrev pub x : Prices Memory
  x = inline_prices defined g text memory

  pub inline-down : GoDown x.potentials
  inline-down =
      let nothing : (r : Remembered) (s : Seat) (ss : List Seat) → 0 ≤ 0 = λ r s ss. omega arith in
      let links : (r : Remembered) (s : Seat) (ss : List Seat) → from_less (bytes_of ss) ≤ from_less (bytes_of (s ∷ ss)) = λ r s ss. from-less-ahead s.byte (bytes_of ss) in
      let tags : (r : Remembered) (s : Seat) (ss : List Seat) → tags_ahead (bytes_of ss) ≤ tags_ahead (bytes_of (s ∷ ss)) = λ r s ss. tags-ahead-later s.byte (bytes_of ss) in
      (nothing, (nothing, (nothing, (tags, (is.marks_down, (links, (links, (is.code_down, tt))))))))

  pub inline-sound : IsSound g text x
  inline-sound = record {
    passes = λ m c cs p events r s ss here none h. h;
    holds = λ m cs p events r h. h;
    later = λ q p events r s ss item here plain h. (is.later p (p + item_length item) r (omega arith) h.0, plain-behind g.bytes text q p events r.starts s ss item here plain h.1);
  }

  -- ---- what its bytes pay for
  -- an item that has the backtick string at its front whole pays for this many calls
  pub pays-enough : (n size : ℕ) (l : List Seat) → 0 < size → size ≤ length l → backticks (bytes_of l) ≤ size → n ≤ 7 * size + 28 → Pays text on x budget n size l
  pays-enough n size l some within run few =
      let rest : length (drop size l) + size ≡ length l = omega (arith, length-drop size l, within) in
      let sum = pays-sum n size (length l) (length (drop size l)) (backticks (bytes_of l)) some rest run few in
      (some, omega (arith, sum, looks-drop on size l))

  -- an end of a label pays for a look too
  pub pays-look : (n size : ℕ) (s : Seat) (ss : List Seat) → 0 < size → size ≤ length (s ∷ ss) → is_backtick s.byte ≡ false → begins_end on s.byte ≡ true → n ≤ 7 * size + 28 + look_calls (bytes_of ss) → Pays text on x budget n size (s ∷ ss)
  pays-look n zero s ss some within tick ends few = absurd (omega (arith, some))
  pays-look n (suc k) s ss some within tick ends few =
      let l = s ∷ ss in
      let look = look_calls (bytes_of ss) in
      let rest : length (drop k ss) + suc k ≡ length l = omega (arith, length-drop k ss, within) in
      let none : backticks (bytes_of l) ≡ 0 = no-backticks s.byte (bytes_of ss) tick in
      let sum = pays-sum (n - look) (suc k) (length l) (length (drop k ss)) 0 some rest (omega arith) (omega (arith, few)) in
      let one : looks_left on l ≡ look + looks_left on ss = ap (λ t. cond t look 0 + looks_left on ss) ends in
      (some, omega (arith, sum, one, none, looks-drop on k ss))

  -- a construct that is there pays, if it is long enough
  pub found-paid : (n : ℕ) (s : Seat) (ss : List Seat) (o : Option Found) → OfOption (λ (i : Found). 0 < item_length i) o → OfOption (λ (i : Found). item_length i ≤ length (bytes_of (s ∷ ss))) o
      → OfOption (λ (i : Found). backticks (bytes_of (s ∷ ss)) ≤ item_length i) o → OfOption (λ (i : Found). n ≤ 7 * item_length i + 28) o → OfOption IsPlain o → (item : Found) → o ≡ Some item → x.plain item × Pays text on x budget n (item_length item) (s ∷ ss)
  found-paid n s ss None some within run few plain item there = absurd (cc)
  found-paid n s ss (Some i) some within run few plain item there =
      let same : i ≡ item = cc in
      let inside : item_length i ≤ length (s ∷ ss) = omega (arith, within, length-map (s ∷ ss) (λ (s : Seat). s.byte)) in
      (subst IsPlain same plain, subst (λ (i : Found). Pays text on x budget n (item_length i) (s ∷ ss)) same (pays-enough n (item_length i) (s ∷ ss) some inside run (omega (arith, few))))

  -- where no backtick is
  pub none-run : (s : Seat) (ss : List Seat) → is_backtick s.byte ≡ false → (o : Option Found) → OfOption (λ (i : Found). backticks (bytes_of (s ∷ ss)) ≤ item_length i) o
  none-run s ss tick None = tt
  none-run s ss tick (Some i) = omega (arith, no-backticks s.byte (bytes_of ss) tick)
