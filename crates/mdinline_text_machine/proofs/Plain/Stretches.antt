-- How the machine of texts reads on over bytes that one state reads, one after another, and what is behind them.
use Rattle.mdinline_text_machine.proofs.Prelude.{at-front, ◌≡◌, ℕ, zero, suc, ◌+◌, ◌^◌, ◌<◌, ◌≤◌, ◌∷◌, ◌++◌, [], List, Bool, true, false, cond, refl, sym, ◌∙◌, ap, subst, Option, Some, None, arith, length, take, drop, slice_get, drop-drop, prefix_len, drop-next, Event, Enter, Exit, Name, Next, Retry, Seat, end_after, Waits, Nothing, Byte, End, Given, Text, Configuration, Local, Choice, byte_of, point_or, end_or, end_place, current_of, fed, passes, Rows, TextByte, text_byte, bytes_of, event, leaf, held}
use Rattle.markdown_base.specs.declared.event.Name.{Name as EventName}
use Rattle.mdconstructs_machines.proofs.LineReads.Onward.{stands as fed_as}
use Rattle.mdinline_text_machine.specs.Parts.{span}
use Rattle.mdconstructs_machines.proofs.LineReads.Onward.{leads-unfed as step-unfed}
use Rattle.mdinline_text_machine.proofs.Texts.Leads.{as_asked}
use Rattle.mdinline_text_machine.proofs.Texts.Steps.{Plays, EndsWith, Leads, leads-fed, before_class}

-- what waits where these virtual bytes are left: the first of them, or the end
abbrev pub waits_at : List Seat → Waits
waits_at [] = End
waits_at (s ∷ ss) = Byte

abbrev pub is_end : List Seat → Bool
is_end [] = true
is_end (s ∷ ss) = false

abbrev pub shows : List Seat → List EventName → ℕ → List Event → Local Unit Unit → Configuration Unit Unit
shows l stack q events local = held stack q (waits_at l) (is_end l) events local

-- a configuration to which a byte is fed, or the end
abbrev pub seen : Bool → Configuration Unit Unit → Configuration Unit Unit
seen b k = cond b (record k { waiting = Byte }) (record k { waiting = End; ended = true })

abbrev pub first_byte : List Seat → Option ℕ
first_byte [] = None
first_byte (s ∷ ss) = Some s.byte

-- what is left behind the bytes that pass
abbrev pub past : (ℕ → Bool) → List Seat → List Seat
past p [] = []
past p (s ∷ ss) = cond (p s.byte) (past p ss) (s ∷ ss)

-- what is written over them
abbrev pub passed : (ℕ → Bool) → (Local Unit Unit → Local Unit Unit) → List Seat → Local Unit Unit → Local Unit Unit
passed p f [] local = local
passed p f (s ∷ ss) local = cond (p s.byte) (passed p f ss (f local)) local

-- behind the bytes that pass, none does
pub past-stops : (p : ℕ → Bool) (l : List Seat) → passes p (first_byte (past p l)) ≡ false
past-stops p [] = refl
past-stops p (s ∷ ss) = elim (p s.byte) as (λ t. p s.byte ≡ t → passes p (first_byte (cond t (past p ss) (s ∷ ss))) ≡ false) [
  | true ↦ λ e. past-stops p ss
  | false ↦ λ e. e
] refl

-- how many they are
pub past-is : (p : ℕ → Bool) (l : List Seat) → past p l ≡ drop (prefix_len p (bytes_of l)) l
past-is p [] = refl
past-is p (s ∷ ss) = elim (p s.byte) as (λ t. cond t (past p ss) (s ∷ ss) ≡ drop (cond t (1 + prefix_len p (bytes_of ss)) 0) (s ∷ ss)) [
  | true ↦ let one : suc (prefix_len p (bytes_of ss)) ≡ 1 + prefix_len p (bytes_of ss) = omega arith in past-is p ss ∙ ap (λ n. drop n (s ∷ ss)) one
  | false ↦ refl
]

-- what is written leaves a number as it is
pub passed-keeps : (φ : Local Unit Unit → ℕ) (f : Local Unit Unit → Local Unit Unit) → ((local : Local Unit Unit) → φ (f local) ≡ φ local)
    → (p : ℕ → Bool) (l : List Seat) (local : Local Unit Unit) → φ (passed p f l local) ≡ φ local
passed-keeps φ f keeps p [] local = refl
passed-keeps φ f keeps p (s ∷ ss) local = elim (p s.byte) as (λ t. φ (cond t (passed p f ss (f local)) local) ≡ φ local) [
  | true ↦ passed-keeps φ f keeps p ss (f local) ∙ keeps local
  | false ↦ refl
]

-- or counts the bytes
pub passed-counts : (φ : Local Unit Unit → ℕ) (f : Local Unit Unit → Local Unit Unit) → ((local : Local Unit Unit) → φ local + 1 < 2 ^ 64 → φ (f local) ≡ φ local + 1)
    → (p : ℕ → Bool) (l : List Seat) (local : Local Unit Unit) → φ local + prefix_len p (bytes_of l) < 2 ^ 64 → φ (passed p f l local) ≡ φ local + prefix_len p (bytes_of l)
passed-counts φ f grows p [] local h = omega arith
passed-counts φ f grows p (s ∷ ss) local h =
    elim (p s.byte) as (λ t. φ local + cond t (1 + prefix_len p (bytes_of ss)) 0 < 2 ^ 64 → φ (cond t (passed p f ss (f local)) local) ≡ φ local + cond t (1 + prefix_len p (bytes_of ss)) 0) [
      | true ↦ λ i.
          let once : φ (f local) ≡ φ local + 1 = grows local (omega (arith, i)) in
          omega (arith, once, passed-counts φ f grows p ss (f local) (omega (arith, i, once)))
      | false ↦ λ i. omega arith
    ] h

-- the byte so far behind a position
first-behind : (l : List Seat) (n : ℕ) → slice_get (bytes_of l) n ≡ first_byte (drop n l)
first-behind [] zero = refl
first-behind [] (suc n) = refl
first-behind (s ∷ ss) zero = refl
first-behind (s ∷ ss) (suc n) = first-behind ss n

pub byte-behind : (xs : List Seat) (p n : ℕ) (l rest : List Seat) → drop p xs ≡ l → drop (p + n) xs ≡ rest → slice_get (bytes_of l) n ≡ first_byte rest
byte-behind xs p n l rest h i = first-behind l n ∙ ap first_byte (ap (drop n) (sym h) ∙ drop-drop n p xs ∙ i)

module _ (text : Text) where
  -- the place at which the byte before ends
  pub end-behind : (m p : ℕ) (s : Seat) (ss : List Seat) → drop p text.seats ≡ s ∷ ss → m ≤ length ss → end_place text (p + suc m) ≡ end_after s.end (take m ss)
  end-behind zero p s ss h l =
      let one : p + suc zero ≡ suc p = omega arith in
      ap (end_place text) one ∙ ap (end_or text.start) (at-front text.seats p s ss h)
  end-behind (suc m) p s [] h l = absurd (omega (arith, l))
  end-behind (suc m) p s (r ∷ rs) h l =
      let further : p + suc (suc m) ≡ p + 1 + suc m = omega arith in
      ap (end_place text) further ∙ end-behind m (p + 1) r rs (drop-next text.seats p s (r ∷ rs) h) (omega (arith, l))

  -- a span that began at a byte, and ends with the previous byte, is a span over the bytes that were read, with events in it or with none
  pub span-read : (bytes : List ℕ) (name : EventName) (inside : List Event) (n p : ℕ) (s : Seat) (ss : List Seat) → drop p text.seats ≡ s ∷ ss → 0 < n → n ≤ suc (length ss)
      → event bytes Enter name (point_or text.end (slice_get text.seats p)) ∷ (inside ++ event bytes Exit name (end_place text (p + n)) ∷ []) ≡ span bytes name (take n (s ∷ ss)) inside
  span-read bytes name inside zero p s ss h l m = absurd (omega (arith, l))
  span-read bytes name inside (suc n) p s ss h l m =
      ap (λ o. event bytes Enter name (point_or text.end o) ∷ (inside ++ event bytes Exit name (end_place text (p + suc n)) ∷ [])) (at-front text.seats p s ss h)
      ∙ ap (λ q. event bytes Enter name s.point ∷ (inside ++ event bytes Exit name q ∷ [])) (end-behind n p s ss h (omega (arith, m)))

  pub leaf-read : (bytes : List ℕ) (name : EventName) (n p : ℕ) (s : Seat) (ss : List Seat) → drop p text.seats ≡ s ∷ ss → 0 < n → n ≤ suc (length ss)
      → event bytes Enter name (point_or text.end (slice_get text.seats p)) ∷ event bytes Exit name (end_place text (p + n)) ∷ [] ≡ leaf bytes name (take n (s ∷ ss))
  leaf-read bytes name n p s ss h l m = span-read bytes name [] n p s ss h l m

module _ (g : Given) (text : Text) (m : Plays g text) where
  -- the seats behind the bytes that pass
  pub past-at : (p : ℕ → Bool) (l : List Seat) (q q' : ℕ) → drop q text.seats ≡ l → q' ≡ q + prefix_len p (bytes_of l) → drop q' text.seats ≡ past p l
  past-at p l q q' at is =
      ap (λ n. drop n text.seats) is ∙ sym (drop-drop (prefix_len p (bytes_of l)) q text.seats) ∙ ap (drop (prefix_len p (bytes_of l))) at ∙ sym (past-is p l)

  -- what is fed, and what is fed once more
  stands : (l : List Seat) (stack : List EventName) (q : ℕ) (events : List Event) (local : Local Unit Unit) → drop q text.seats ≡ l
      → fed text (held stack q Nothing false events local) ≡ shows l stack q events local
  stands [] stack q events local at = fed_as g text [] stack q false events local at
  stands (s ∷ ss) stack q events local at = fed_as g text (s ∷ ss) stack q false events local at

  pub shown-fed : (l : List Seat) (stack : List EventName) (q : ℕ) (events : List Event) (local : Local Unit Unit) → drop q text.seats ≡ l
      → fed text (held stack q Nothing (is_end l) events local) ≡ shows l stack q events local
  shown-fed [] stack q events local at = fed_as g text [] stack q true events local at
  shown-fed (s ∷ ss) stack q events local at = stands (s ∷ ss) stack q events local at

  -- a state that is to come is called with what is fed
  pub goes-next : (l : List Seat) (stack : List EventName) (q : ℕ) (events : List Event) (local : Local Unit Unit) (cs : List Choice) (name : Name) → drop q text.seats ≡ l
      → Leads g text m (held stack q Nothing false events local) cs (Next name) (shows l stack q events local) cs (Retry name)
  goes-next l stack q events local cs name at es h =
      leads-fed g text m (held stack q Nothing false events local) cs name es (subst (λ k. EndsWith g text m k cs (Retry name) es) (sym (stands l stack q events local at)) h)

  -- feeding may come later
  pub leads-unfed : (k : Configuration Unit Unit) (cs : List Choice) (n : Name) → Leads g text m (fed text k) cs (Retry n) k cs (Next n)
  leads-unfed k cs n e h = step-unfed as_asked g text m.step k cs n e h

  pub goes-back : (l : List Seat) (stack : List EventName) (q : ℕ) (events : List Event) (local : Local Unit Unit) (cs : List Choice) (name : Name) → drop q text.seats ≡ l
      → Leads g text m (shows l stack q events local) cs (Retry name) (held stack q Nothing false events local) cs (Next name)
  goes-back l stack q events local cs name at es h =
      subst (λ k. EndsWith g text m k cs (Retry name) es) (stands l stack q events local at) (leads-unfed (held stack q Nothing false events local) cs name es h)

  -- the rows at a byte of a class
  pub class-rows : (rows : Option TextByte → Option TextByte → Rows Unit Unit) (q : ℕ) (s : Seat) (w : TextByte) → text_byte s.byte ≡ w
      → rows (before_class g text q) (Some (text_byte s.byte)) ≡ rows (before_class g text q) (Some w)
  class-rows rows q s w is = ap (λ v. rows (before_class g text q) (Some v)) is

  -- the byte that is seen
  pub sees : (l : List Seat) (q : ℕ) → drop q text.seats ≡ l → current_of text q (waits_at l) ≡ first_byte l
  sees [] q at = refl
  sees (s ∷ ss) q at = ap byte_of (at-front text.seats q s ss at)

module _ (g : Given) (text : Text) (m : Plays g text) (stack : List EventName) (cs : List Choice) (name : Name) (p : ℕ → Bool) (f : Local Unit Unit → Local Unit Unit) where
  -- the state reads a byte that passes, and goes on with itself
  abbrev pub Reads : Type 0
  Reads = (q : ℕ) (ended : Bool) (events : List Event) (local : Local Unit Unit) (s : Seat) → slice_get text.seats q ≡ Some s → p s.byte ≡ true
      → Leads g text m (held stack q Byte ended events local) cs (Retry name) (held stack (q + 1) Nothing false events (f local)) cs (Next name)

  -- if none passes, the machine stays there
  stays : (l : List Seat) (q q' : ℕ) (events : List Event) (local : Local Unit Unit) → q ≡ q'
      → Leads g text m (shows l stack q events local) cs (Retry name) (shows l stack q' events local) cs (Retry name)
  stays l q q' events local same = subst (λ n. Leads g text m (shows l stack q events local) cs (Retry name) (shows l stack n events local) cs (Retry name)) same (λ es h. h)

  -- and so it comes behind all that pass
  pub loops : Reads → (l : List Seat) (q q' : ℕ) (events : List Event) (local : Local Unit Unit) → drop q text.seats ≡ l → q' ≡ q + prefix_len p (bytes_of l)
      → Leads g text m (shows l stack q events local) cs (Retry name) (shows (past p l) stack q' events (passed p f l local)) cs (Retry name)
  loops reads [] q q' events local at is = stays [] q q' events local (omega (arith, is))
  loops reads (s ∷ ss) q q' events local at is =
      elim (p s.byte) as (λ t. p s.byte ≡ t → q' ≡ q + cond t (1 + prefix_len p (bytes_of ss)) 0
      → Leads g text m (shows (s ∷ ss) stack q events local) cs (Retry name) (shows (cond t (past p ss) (s ∷ ss)) stack q' events (cond t (passed p f ss (f local)) local)) cs (Retry name)) [
        | true ↦ λ e i. λ es h.
            let next = drop-next text.seats q s ss at in
            reads q false events local s (at-front text.seats q s ss at) e es
            (goes-next g text m ss stack (q + 1) events (f local) cs name next es (loops reads ss (q + 1) q' events (f local) next (omega (arith, i)) es h))
        | false ↦ λ e i. stays (s ∷ ss) q q' events local (omega (arith, i))
      ] refl is

  -- from a byte that passes it does, whatever was said of the end
  pub loops-from : Reads → (s : Seat) (ss : List Seat) (q q' : ℕ) (ended : Bool) (events : List Event) (local : Local Unit Unit) → drop q text.seats ≡ s ∷ ss → p s.byte ≡ true
      → q' ≡ q + prefix_len p (bytes_of (s ∷ ss))
      → Leads g text m (held stack q Byte ended events local) cs (Retry name) (shows (past p (s ∷ ss)) stack q' events (passed p f (s ∷ ss) local)) cs (Retry name)
  loops-from reads s ss q q' ended events local at passing is =
      elim (p s.byte) as (λ t. t ≡ true → q' ≡ q + cond t (1 + prefix_len p (bytes_of ss)) 0
      → Leads g text m (held stack q Byte ended events local) cs (Retry name) (shows (cond t (past p ss) (s ∷ ss)) stack q' events (cond t (passed p f ss (f local)) local)) cs (Retry name)) [
        | true ↦ λ e i. λ es h.
            let next = drop-next text.seats q s ss at in
            reads q ended events local s (at-front text.seats q s ss at) passing es
            (goes-next g text m ss stack (q + 1) events (f local) cs name next es (loops reads ss (q + 1) q' events (f local) next (omega (arith, i)) es h))
        | false ↦ λ e i. absurd (cc)
      ] passing is
