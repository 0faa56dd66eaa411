-- The main law of a machine that is a list of constructs, once for all lists. Each construct is read if it is there, and else leaves nothing, and
-- what follows it reads the rest of the list. So the machine reads a text item by item. What is there may depend on a memory of what was read.
use Rattle.mdconstructs_machines.proofs.LineReads.Onward.{leads-step}
use Rattle.mdinline_text_machine.proofs.Prelude.{at-front, ◌≡◌, ℕ, zero, suc, ◌+◌, ◌<◌, ◌≤◌, ◌∷◌, ◌++◌, [], List, Bool, true, false, cond, refl, sym, ◌∙◌, ap, subst, Option, Some, None, arith, length, take, drop, cut_remembering, drop-drop, append-nil, append_assoc, flat_map, Event, Name, State, Next, Retry, Ok, Seat, Waits, Nothing, Byte, End, Given, Text, Configuration, Local, Choice, Step, Sight, sight, byte_of, with_local, counts, if_on, or_else, Rows, row, when, row_step, bytes_of, held, EndsWith, goes-next, picked, step_of, Between, Construct, first_there, grammars_of, some_first, tried_at, choose, Attempt}
use Rattle.mdinline_text_machine.proofs.Texts.Leads.{Ending, Leads, spent, ended as ended-so, as_asked}
use Rattle.mdinline_text_machine.proofs.Constructs.Apart.{AreApart, IsApart, none-there, or-none, positive}
use Rattle.mdinline_text_machine.proofs.Texts.Cutting.{drop-less}

-- a configuration between items
abbrev pub between : ℕ → Waits → Bool → List Event → Local Unit Unit → Configuration Unit Unit
between p waits ended events local = held [] p waits ended events local

-- The choice that is made there: if the construct is not there, all is put back, and the state of this name follows
abbrev pub outer : (home nok : Name) → ℕ → Bool → List Event → Choice
outer home nok p ended events = record { kind = Attempt; ok = Next home; nok = Next nok; saved = Some (record { position = p; ended = ended; events = length events; stack = [] }) }

-- What is known while a machine reads items, by a memory, the place, the events so far and what states share: before an item; where some
-- constructs may still be tried; and where data is read. After an item the memory is another
pub record Knowledge (A W M : Type 0) : Type 1 where
  pub after_item : M → A → M
  pub knows : M → ℕ → List Event → Local Unit Unit → Type 0
  pub tries : M → List (Construct A W Unit Unit) → ℕ → List Event → Local Unit Unit → Type 0
  pub at_data : M → ℕ → List Event → Local Unit Unit → Type 0

-- What is known is kept where a construct is passed over, as nothing of it is there, and where data is called
pub record IsKept {A W M : Type 0} (g : Given) (text : Text) (known : Knowledge A W M) : Type 0 where
  pub passes : (m : M) (c : Construct A W Unit Unit) (cs : List (Construct A W Unit Unit)) (p : ℕ) (events : List Event) (local : Local Unit Unit) (s : Seat) (ss : List Seat) → drop p text.seats ≡ s ∷ ss
      → ((a : A) → or_else (if_on (c.grammar.on g.options.constructs) (c.grammar.front (bytes_of (s ∷ ss)))) a ≡ a) → known.tries m (c ∷ cs) p events local → known.tries m cs p events local
  pub to_data : (m : M) (p : ℕ) (events : List Event) (local : Local Unit Unit) → known.tries m [] p events local → known.at_data m p events (counts local)

-- Items have a number of bytes, and events over them.
module _ {A W M : Type 0} (g : Given) (text : Text) (step : Sight → Configuration Unit Unit → Name → Step Unit Unit) (names : Between) (class : ℕ → W) (size : A → ℕ) (events_of : (A × List Seat) → List Event)
    (known : Knowledge A W M) where
  -- An item is read from a state, with its events
  abbrev pub AddsFrom : M → Configuration Unit Unit → State → (p : ℕ) (events : List Event) → List Seat → A → Type 0
  AddsFrom m k s p events seats a =
      (ended_after : Bool) × (after : Local Unit Unit) × known.knows (known.after_item m a) (p + size a) (events ++ events_of (a, take (size a) seats)) after
      × Leads g text step k [] s (between (p + size a) Nothing ended_after (events ++ events_of (a, take (size a) seats)) after) [] (Next names.home)

  -- From where a construct is tried: if it is there, it is read, with its events; if not, the state of this name follows at the byte, and what was
  -- tried leaves nothing. Then these constructs may still be tried
  abbrev pub DecidesTo : M → (rest : List (Construct A W Unit Unit)) → (nok : Name) (p : ℕ) (ended : Bool) (events : List Event) → List Seat → Configuration Unit Unit → List Choice → State → Option A → Type 0
  DecidesTo m rest nok p ended events seats k cs s None = (after : Local Unit Unit) × known.tries m rest p events after × Leads g text step k cs s (between p Nothing ended events after) [] (Next nok)
  DecidesTo m rest nok p ended events seats k cs s (Some a) =
      (ended_after : Bool) × (after : Local Unit Unit) × known.knows (known.after_item m a) (p + size a) (events ++ events_of (a, take (size a) seats)) after
      × Leads g text step k cs s (between (p + size a) Nothing ended_after (events ++ events_of (a, take (size a) seats)) after) [] (Next names.home)

  -- The theorem of a construct before others: if it is on, and tried by a call at a byte at which it may begin, it is decided, whatever state
  -- follows if it is not there
  abbrev pub Reads : M → Construct A W Unit Unit → List (Construct A W Unit Unit) → Type 0
  Reads m c rest =
      (nok : Name) (p : ℕ) (ended : Bool) (events : List Event) (local : Local Unit Unit) (s : Seat) (ss : List Seat) → drop p text.seats ≡ s ∷ ss → c.grammar.first s.byte ≡ true
      → c.grammar.on g.options.constructs ≡ true → known.tries m (c ∷ rest) p events local
      → DecidesTo m rest nok p ended events (s ∷ ss) (between p Byte ended events (counts local)) (outer names.home nok p ended events ∷ []) (Retry c.start) (c.grammar.front (bytes_of (s ∷ ss)))

  -- What is known says whether a construct is tried: it is, if it is on
  abbrev pub Allows : M → Construct A W Unit Unit → List (Construct A W Unit Unit) → Type 0
  Allows m c rest =
      (p : ℕ) (ended : Bool) (events : List Event) (local : Local Unit Unit) (s : Seat) (ss : List Seat) → drop p text.seats ≡ s ∷ ss → c.grammar.first s.byte ≡ true → known.tries m (c ∷ rest) p events local
      → let k = between p Byte ended events local in c.allowed g (sight g text k) (with_local k (counts local)) ≡ c.grammar.on g.options.constructs

  -- The theorem of a state between constructs, as of data: called at such a byte, it reads the item that is there
  abbrev pub ReadsFrom : M → (Knows : ℕ → List Event → Local Unit Unit → Type 0) → Name → (At : ℕ → Type 0) → (List ℕ → A) → Type 0
  ReadsFrom m Knows name At front =
      (p : ℕ) (ended : Bool) (events : List Event) (local : Local Unit Unit) (s : Seat) (ss : List Seat) → drop p text.seats ≡ s ∷ ss → At s.byte → Knows p events local
      → AddsFrom m (between p Byte ended events local) (Retry name) p events (s ∷ ss) (front (bytes_of (s ∷ ss)))

  module _ (is_line : ℕ → Bool) (other : M → List ℕ → A) where
    -- what is there of some constructs, and else of none
    abbrev pub rest_of : M → List (Construct A W Unit Unit) → List ℕ → A
    rest_of m cs bs = first_there (grammars_of cs) g.options.constructs bs (other m bs)

    -- A construct before others in the list: that it is tried if it is on, its theorem, and that what follows it if it is not there reads the
    -- others
    pub record IsTried (m : M) (c : Construct A W Unit Unit) (cs : List (Construct A W Unit Unit)) : Type 0 where
      pub allows : Allows m c cs
      pub reads : Reads m c cs
      pub follows : ReadsFrom m (known.tries m cs) c.otherwise (λ b. (is_line b ≡ false) × (c.grammar.first b ≡ true)) (rest_of m cs)

    abbrev pub AreTried : M → List (Construct A W Unit Unit) → Type 0
    AreTried m [] = Unit {0}
    AreTried m (c ∷ cs) = IsTried m c cs × AreTried m cs

    module _ (cs : M → List (Construct A W Unit Unit)) (within : ℕ) where
      -- What the machine of a list owes: the rows of the state between constructs, and what its parts read; what is known before an item lets all of
      -- them be tried, and no more calls are counted than so many
      pub record IsListed : Type 0 where
        pub begins : (m : M) (p : ℕ) (events : List Event) (local : Local Unit Unit) (s : Seat) (ss : List Seat) → drop p text.seats ≡ s ∷ ss → is_line s.byte ≡ false → known.knows m p events local → known.tries m (cs m) p events local
        pub counted : (m : M) (p : ℕ) (events : List Event) (local : Local Unit Unit) → known.knows m p events local → spent (counts local) ≤ within
        pub at_byte : (m : M) (k : Configuration Unit Unit) (b : ℕ) → (sight g text k).current ≡ Some b → is_line b ≡ false → step (sight g text k) k names.home ≡ row_step g text k (tried_at names (cs m) (class b))
        pub at_end : (k : Configuration Unit Unit) → (sight g text k).current ≡ None → step (sight g text k) k names.home ≡ row_step g text k (row [] Ok)
        pub lines_alone : (m : M) (b : ℕ) → is_line b ≡ true → some_first (grammars_of (cs m)) b ≡ false
        pub apart : (m : M) → AreApart class size (cs m)
        pub tried : (m : M) → AreTried m (cs m)
        pub reads_data : (m : M) → ReadsFrom m (known.at_data m) names.before_data (λ b. is_line b ≡ false) (other m)
        pub reads_lines : (m : M) → ReadsFrom m (known.knows m) names.home (λ b. is_line b ≡ true) (other m)
        pub some : (m : M) (b : ℕ) (bs : List ℕ) → 0 < size (other m (b ∷ bs))

    module _ (kept : IsKept g text known) where
      -- reading goes on by this row
      goes : (k : Configuration Unit Unit) (cs : List Choice) (name : Name) (rows : Rows Unit Unit) → step (sight g text k) k name ≡ row_step g text k rows
          → let q = row_step g text k rows in Leads g text step k cs (Retry name) q.configuration (q.choices ++ cs) q.answer
      goes k cs name rows has es h = leads-step as_asked g text step k cs name (row_step g text k rows) has es h

      module _ (m : M) (data-reads : ReadsFrom m (known.at_data m) names.before_data (λ b. is_line b ≡ false) (other m)) (p : ℕ) (ended : Bool) (events : List Event) (s : Seat) (ss : List Seat)
          (here : drop p text.seats ≡ s ∷ ss) (plain : is_line s.byte ≡ false) where
        abbrev HasRow : Local Unit Unit → Name → Rows Unit Unit → Type 0
        HasRow local name rows = let k = between p Byte ended events local in step (sight g text k) k name ≡ row_step g text k rows

        abbrev Adds : Local Unit Unit → Name → List (Construct A W Unit Unit) → Type 0
        Adds local name cs = AddsFrom m (between p Byte ended events local) (Retry name) p events (s ∷ ss) (rest_of m cs (bytes_of (s ∷ ss)))

        abbrev attempt : Construct A W Unit Unit → Rows Unit Unit
        attempt c = row (choose Attempt (Next names.home) (Next c.otherwise) ∷ []) (Retry c.start)

        -- its test picks one of two rows
        picks : (local : Local Unit Unit) (c : Construct A W Unit Unit) (a b : Rows Unit Unit) (t : Bool) → (let k = between p Byte ended events local in c.allowed g (sight g text k) (with_local k (counts local)) ≡ t)
            → let k = between p Byte ended events local in row_step g text k (when c.allowed a b) ≡ row_step g text k (cond t a b)
        picks local c a b true e =
            let k = between p Byte ended events local in let k1 = with_local k (counts local) in ap (λ x. step_of (cond x (picked a g (sight g text k) k1) (picked b g (sight g text k) k1)) (sight g text k) k1) e
        picks local c a b false e =
            let k = between p Byte ended events local in let k1 = with_local k (counts local) in ap (λ x. step_of (cond x (picked a g (sight g text k) k1) (picked b g (sight g text k) k1)) (sight g text k) k1) e

        -- a construct that is on is tried: it is there, or what follows it reads the others
        on-tried : (c : Construct A W Unit Unit) (cs : List (Construct A W Unit Unit)) → IsTried m c cs → c.grammar.first s.byte ≡ true → (local : Local Unit Unit) → (name : Name)
            → HasRow local name (attempt c) → (o : Option A)
            → DecidesTo m cs c.otherwise p ended events (s ∷ ss) (between p Byte ended events (counts local)) (outer names.home c.otherwise p ended events ∷ []) (Retry c.start) o
            → AddsFrom m (between p Byte ended events local) (Retry name) p events (s ∷ ss) (or_else o (rest_of m cs (bytes_of (s ∷ ss))))
        on-tried c cs is first local name has None read =
            let further = is.follows p ended events read.0 s ss here (plain, first) read.1 in (
              further.0,
              further.1,
              further.2,
              λ es h.
                  goes (between p Byte ended events local) [] name (attempt c) has es
                  (read.2 es (goes-next g text step (s ∷ ss) [] p ended events read.0 [] c.otherwise here es (further.3 es h))),
            )
        on-tried c cs is first local name has (Some a) read =
            (read.0, read.1, read.2, λ es h. goes (between p Byte ended events local) [] name (attempt c) has es (read.3 es h))

        -- the first of a list: it is tried if it may begin here and is on, and else passed over
        list-step : (c : Construct A W Unit Unit) (cs : List (Construct A W Unit Unit)) (t u : Bool) → c.grammar.first s.byte ≡ t → c.grammar.on g.options.constructs ≡ u → IsTried m c cs
            → IsApart class size c → ((local : Local Unit Unit) → known.tries m cs p events local → (name : Name) → HasRow local name (tried_at names cs (class s.byte)) → Adds local name cs)
            → (local : Local Unit Unit) → known.tries m (c ∷ cs) p events local → (name : Name) → HasRow local name (tried_at names (c ∷ cs) (class s.byte)) → Adds local name (c ∷ cs)
        list-step c cs false u e f is apart further local knows name has =
            let k = between p Byte ended events local in
            let w = class s.byte in
            let none = or-none (c.grammar.on g.options.constructs) (c.grammar.front (bytes_of (s ∷ ss))) (rest_of m cs (bytes_of (s ∷ ss))) (apart.nowhere s.byte (bytes_of ss) e) in
            let row_is = ap (λ b. cond b (when c.allowed (attempt c) (tried_at names cs w)) (tried_at names cs w)) (apart.classed s.byte ∙ e) in
            subst (AddsFrom m k (Retry name) p events (s ∷ ss)) (sym none)
            (further local (kept.passes m c cs p events local s ss here (λ a. or-none (c.grammar.on g.options.constructs) (c.grammar.front (bytes_of (s ∷ ss))) a (apart.nowhere s.byte (bytes_of ss) e)) knows) name (has ∙ ap (row_step g text k) row_is))
        list-step c cs true false e f is apart further local knows name has =
            let k = between p Byte ended events local in
            let w = class s.byte in
            let row_is = ap (λ b. cond b (when c.allowed (attempt c) (tried_at names cs w)) (tried_at names cs w)) (apart.classed s.byte ∙ e) in
            subst (λ b. AddsFrom m k (Retry name) p events (s ∷ ss) (or_else (if_on b (c.grammar.front (bytes_of (s ∷ ss)))) (rest_of m cs (bytes_of (s ∷ ss))))) (sym f)
            (further local (kept.passes m c cs p events local s ss here (λ a. ap (λ b. or_else (if_on b (c.grammar.front (bytes_of (s ∷ ss)))) a) f) knows) name (has ∙ ap (row_step g text k) row_is ∙ picks local c (attempt c) (tried_at names cs w) false (is.allows p ended events local s ss here e knows ∙ f)))
        list-step c cs true true e f is apart further local knows name has =
            let k = between p Byte ended events local in
            let w = class s.byte in
            let row_is = ap (λ b. cond b (when c.allowed (attempt c) (tried_at names cs w)) (tried_at names cs w)) (apart.classed s.byte ∙ e) in
            subst (λ b. AddsFrom m k (Retry name) p events (s ∷ ss) (or_else (if_on b (c.grammar.front (bytes_of (s ∷ ss)))) (rest_of m cs (bytes_of (s ∷ ss))))) (sym f)
            (on-tried c cs is e local name (has ∙ ap (row_step g text k) row_is ∙ picks local c (attempt c) (tried_at names cs w) true (is.allows p ended events local s ss here e knows ∙ f)) (c.grammar.front (bytes_of (s ∷ ss)))
            (is.reads c.otherwise p ended events local s ss here e f knows))

        -- One item is read by a state that tries these constructs in turn
        pub listed : (cs : List (Construct A W Unit Unit)) → AreTried m cs → AreApart class size cs → (local : Local Unit Unit) → known.tries m cs p events local → (name : Name)
            → HasRow local name (tried_at names cs (class s.byte)) → Adds local name cs
        listed [] tried apart local knows name has =
            let read = data-reads p ended events (counts local) s ss here plain (kept.to_data m p events local knows) in
            (read.0, read.1, read.2, λ es h. goes (between p Byte ended events local) [] name (row [] (Retry names.before_data)) has es (read.3 es h))
        listed (c ∷ cs) tried apart local knows name has =
            list-step c cs (c.grammar.first s.byte) (c.grammar.on g.options.constructs) refl refl tried.0 apart.0 (listed cs tried.1 apart.1) local knows name has

      module _ (cs : M → List (Construct A W Unit Unit)) (within : ℕ) (is : IsListed cs within) where
        row-here : (m : M) (p : ℕ) (ended : Bool) (events : List Event) (local : Local Unit Unit) (s : Seat) (ss : List Seat) → drop p text.seats ≡ s ∷ ss → is_line s.byte ≡ false
            → let k = between p Byte ended events local in step (sight g text k) k names.home ≡ row_step g text k (tried_at names (cs m) (class s.byte))
        row-here m p ended events local s ss here plain = is.at_byte m (between p Byte ended events local) s.byte (ap byte_of (at-front text.seats p s ss here)) plain

        -- One item is read, from before it to behind it
        item-read : (m : M) (p : ℕ) (ended : Bool) (events : List Event) (local : Local Unit Unit) (s : Seat) (ss : List Seat) → drop p text.seats ≡ s ∷ ss → known.knows m p events local → (t : Bool) → is_line s.byte ≡ t
            → AddsFrom m (between p Byte ended events local) (Retry names.home) p events (s ∷ ss) (rest_of m (cs m) (bytes_of (s ∷ ss)))
        item-read m p ended events local s ss here knows true e =
            subst (AddsFrom m (between p Byte ended events local) (Retry names.home) p events (s ∷ ss))
            (sym (none-there class size (cs m) (is.apart m) g.options.constructs s.byte (bytes_of ss) (other m (bytes_of (s ∷ ss))) (is.lines_alone m s.byte e)))
            (is.reads_lines m p ended events local s ss here e knows)
        item-read m p ended events local s ss here knows false e =
            listed m (is.reads_data m) p ended events s ss here e (cs m) (is.tried m) (is.apart m) local (is.begins m p events local s ss here e knows) names.home (row-here m p ended events local s ss here e)

        -- The main law: from any place between items the machine adds the events of the items that are left
        pub items-read : (n p : ℕ) (m : M) (ended : Bool) (events : List Event) (local : Local Unit Unit) (l : List Seat) → drop p text.seats ≡ l → length l ≤ n → known.knows m p events local
            → EndsWith g text step (between p Nothing ended events local) [] (Next names.home)
            (record { events = events ++ flat_map events_of (cut_remembering known.after_item (λ m. rest_of m (cs m)) size n m l); spent = within })
        items-read zero p m ended events local (s ∷ ss) at h knows = absurd (omega (arith, h))
        items-read (suc n) p m ended events local (s ∷ ss) at h knows =
            let item = rest_of m (cs m) (bytes_of (s ∷ ss)) in
            let i = size item in
            let one = events_of (item, take i (s ∷ ss)) in
            let others = flat_map events_of (cut_remembering known.after_item (λ m. rest_of m (cs m)) size n (known.after_item m item) (drop i (s ∷ ss))) in
            let less : length (drop i (s ∷ ss)) ≤ length ss =
            drop-less i s ss (positive class size (cs m) (is.apart m) g.options.constructs s.byte (bytes_of ss) (other m (bytes_of (s ∷ ss))) (is.some m s.byte (bytes_of ss))) in
            let added = item-read m p ended events local s ss at knows (is_line s.byte) refl in
            let behind : drop (p + i) text.seats ≡ drop i (s ∷ ss) = sym (drop-drop i p text.seats) ∙ ap (drop i) at in
            let e : Ending = record { events = events ++ (one ++ others); spent = within } in
            goes-next g text step (s ∷ ss) [] p ended events local [] names.home at e
            (added.3 e
            (subst (λ es. EndsWith g text step (between (p + i) Nothing added.0 (events ++ one) added.1) [] (Next names.home) (record { events = es; spent = within })) (append_assoc events one others)
            (items-read n (p + i) (known.after_item m item) added.0 (events ++ one) added.1 (drop i (s ∷ ss)) behind (omega (arith, less, h)) added.2)))
        items-read n p m ended events local l at h knows =
            let k = between p End true events local in
            subst (λ es. EndsWith g text step (between p Nothing ended events local) [] (Next names.home) (record { events = es; spent = within })) (sym (append-nil events))
            (goes-next g text step [] [] p ended events local [] names.home at (record { events = events; spent = within })
            (goes k [] names.home (row [] Ok) (is.at_end k refl) (record { events = events; spent = within }) (ended-so g text step (between p End true events (counts local)) within (is.counted m p events local knows))))
