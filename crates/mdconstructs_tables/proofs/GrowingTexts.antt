-- Texts to which a piece is added, and events to which one is added.
use Rattle.mdconstructs_tables.proofs.Prelude.{◌≡◌, ℕ, zero, suc, ◌+◌, ◌≤◌, ◌<◌, List, [], ◌∷◌, ◌++◌, Bool, true, false, cond, Option, Some, length, refl, sym, ap, ◌∙◌, arith, inl, inr, add-one, length-append, slice_get, nat_lt, filter, last_or, slice_get_cases, append-nil, Event, Point, Seat, virtual, denotes_same, open_after, open_events_from, Waits, Nothing, Byte, End, Given, Text, Piece, pushed, passed, followed_by, in_range, Configuration, sight_in, end_place, fed, IsFed, get-front}

-- the seat of a byte that waits
abbrev pub SeatAt : Text → ℕ → Type 0
SeatAt text p = (s : Seat) × (slice_get text.seats p ≡ Some s)

pub seat-at : (text : Text) (p : ℕ) → p < length text.seats → SeatAt text p
seat-at text p h = elim (slice_get_cases text.seats p).1 [ inl there ↦ (there.0, there.2) | inr past ↦ absurd (omega (arith, past.0)) ]

-- one more event
pub open-more : (before es : List Event) (e : Event) → open_events_from before (es ++ e ∷ []) ≡ open_after e.kind e (open_events_from before es)
open-more before [] e = refl
open-more before (x ∷ es) e = open-more (open_after x.kind x before) es e

pub last-more : {A : Type 0} → (o : Option A) (xs : List A) (x : A) → last_or o (xs ++ x ∷ []) ≡ Some x
last-more o [] x = refl
last-more o (y ∷ ys) x = last-more (Some y) ys x

-- the byte that waits ends where the next byte is
pub next-is-left : (g : Given) (text : Text) (p : ℕ) (w : Waits) → p < length text.seats → (sight_in g text p Byte).next ≡ (sight_in g text (p + 1) w).exit_place
next-is-left g text p w h = let (s, is) = seat-at text p h in rw (add-one, is) refl

pub fed-position : {R D : Type 0} (text : Text) (k : Configuration R D) → (fed text k).position ≡ k.position
fed-position {R} {D} text k = elim (nat_lt k.position (length text.seats)) as (λ b. (cond {A = Configuration R D} b (record { position = k.position; waiting = Byte; ended = k.ended; events = k.events; stack = k.stack; local = k.local }) (record { position = k.position; waiting = End; ended = true; events = k.events; stack = k.stack; local = k.local })).position ≡ k.position) [ true ↦ refl | false ↦ refl ]

-- a text that a piece was added to
pub record Extends (text longer : Text) : Type 0 where
  pub more : List Seat
  pub start : longer.start ≡ text.start
  pub seats : longer.seats ≡ text.seats ++ more

pub extends-at : (b : Bool) (text : Text) (p : Point) → Extends text (cond b text (record { start = text.start; seats = text.seats; end = p }))
extends-at true text p = record { more = []; start = refl; seats = sym (append-nil text.seats) }
extends-at false text p = record { more = []; start = refl; seats = sym (append-nil text.seats) }

pub extends : (g : Given) (text : Text) (piece : Piece) → Extends text (followed_by g text piece)
extends g text (pushed from to) = record { more = filter (in_range from to) (virtual g.tab g.bytes); start = refl; seats = refl }
extends g text (passed p) = extends-at (denotes_same g.tab g.bytes p text.end) text p

pub seat-kept : (text longer : Text) (i : ℕ) → Extends text longer → i < length text.seats → slice_get longer.seats i ≡ slice_get text.seats i
seat-kept text longer i e h = rw e.seats (get-front text.seats e.more i h)

pub left-kept : (text longer : Text) (p : ℕ) → Extends text longer → p ≤ length text.seats → end_place longer p ≡ end_place text p
left-kept text longer zero e h = e.start
left-kept text longer (suc q) e h =
    rw (seat-kept text longer q e (omega arith), e.start) refl

-- what a state sees is the same where a byte waits that was there before
pub sight-kept : (g : Given) (text longer : Text) (p : ℕ) → Extends text longer → p < length text.seats → sight_in g longer p Byte ≡ sight_in g text p Byte
sight-kept g text longer zero e h =
    let (s, is) = seat-at text 0 h in
    rw (seat-kept text longer 0 e h, is, e.start) refl
sight-kept g text longer (suc q) e h =
    let (s, is) = seat-at text (suc q) h in
    rw (seat-kept text longer (suc q) e h, is, seat-kept text longer q e (omega arith), e.start) refl

-- if a piece is added before the end is fed, the same waits, and a state sees the same
pub waits-longer : (g : Given) (text longer : Text) (p : ℕ) (ended : Bool) (w : Waits) → Extends text longer → ended ≡ false → IsFed w p ended text
    → IsFed w p ended longer × (sight_in g longer p w ≡ sight_in g text p w)
waits-longer g text longer p ended Nothing e fresh waits = absurd waits
waits-longer g text longer p ended Byte e fresh waits = (omega (arith, ap length e.seats, length-append text.seats e.more), sight-kept g text longer p e waits)
waits-longer g text longer p ended End e fresh waits = absurd (let c : true ≡ false = sym waits.0 ∙ fresh in cc)
