-- Each step of the work leads on.
use Rattle.markdown_tokenizer.proofs.Prelude.{◌≡◌, ◌≢◌, ◌≤◌, ◌<◌, ℕ, zero, suc, List, [], ◌∷◌, ◌++◌, Bool, true, false, cond, Option, None, length, refl, sym, ap, ◌∙◌, arith, subst, append_assoc, length-append, lt-ltb, append-nil, filter, slice_get, slice_get-get_or, IsSome, Message, State, Next, Ok, Nok, Error, Seat, virtual, denotes_same, get-front, AttemptKind, Attempt, Check, Waits, Nothing, Byte, End, Given, Text, Piece, pushed, passed, in_range, empty_text, followed_by, followed_by_all, CanFollow, IsText, Configuration, Choice, TokenizerValue, Saved, sight_in, seat_before, fed, settled_at, Rules, KeepsInvariant, IsLawful, LeadsOn, LeadsAll, settled_all, settled_to, OnlyWorked, answer_in, ComesTo, Name, Step, Sight, Stand, Turns, false≢true}
use Rattle.markdown_tokenizer.proofs.Readings.Bounds.{settled-ok-ends, settled-nok-ends}
use Rattle.markdown_tokenizer.proofs.Readings.Turns.{seen-waits, turns-kept}

-- A text that continues another has its seats in front, and begins where it does
pub record Continues (text w : Text) : Type 0 where
  pub starts : w.start ≡ text.start
  pub more : List Seat
  pub seats : w.seats ≡ text.seats ++ more

continues-piece : (given : Given) (text : Text) (piece : Piece) → Continues text (followed_by given text piece)
continues-piece given text (pushed from to) = record { starts = refl; more = filter (in_range from to) (virtual given.tab given.bytes); seats = refl }
continues-piece given text (passed p) = elim (denotes_same given.tab given.bytes p text.end) as (λ b. Continues text (cond b text (record text { end = p }))) [
  | true ↦ record { starts = refl; more = []; seats = sym (append-nil text.seats) }
  | false ↦ record { starts = refl; more = []; seats = sym (append-nil text.seats) }
]

pub continues-all : (given : Given) (text : Text) (rest : List Piece) → Continues text (followed_by_all given text rest)
continues-all given text [] = record { starts = refl; more = []; seats = sym (append-nil text.seats) }
continues-all given text (piece ∷ rest) =
    let one = continues-piece given text piece in
    let all = continues-all given (followed_by given text piece) rest in
    record {
      starts = all.starts ∙ one.starts;
      more = one.more ++ all.more;
      seats = all.seats ∙ ap (λ (s : List Seat). s ++ all.more) one.seats ∙ append_assoc text.seats one.more all.more;
    }

follow-append : (given : Given) (text : Text) (xs ys : List Piece) → CanFollow given text xs → CanFollow given (followed_by_all given text xs) ys → CanFollow given text (xs ++ ys)
follow-append given text [] ys h can = can
follow-append given text (x ∷ xs) ys h can = (h.0, follow-append given (followed_by given text x) xs ys h.1 can)

followed-append : (given : Given) (text : Text) (xs ys : List Piece) → followed_by_all given text (xs ++ ys) ≡ followed_by_all given (followed_by_all given text xs) ys
followed-append given text [] ys = refl
followed-append given text (x ∷ xs) ys = followed-append given (followed_by given text x) xs ys

-- a text with pieces put at its end is a text
pub text-on : (given : Given) (text : Text) (rest : List Piece) → IsText given text → CanFollow given text rest → IsText given (followed_by_all given text rest)
text-on given text rest h can =
    let starts = (continues-all given text rest).starts in
    record {
      document = h.document;
      starts = rw starts h.starts;
      pieces = h.pieces ++ rest;
      follow = rw starts (follow-append given (empty_text text.start) h.pieces rest h.follow (subst (λ (q : Text). CanFollow given q rest) h.is can));
      is = rw starts (ap (λ (q : Text). followed_by_all given q rest) h.is ∙ sym (followed-append given (empty_text text.start) h.pieces rest));
    }

-- if the end is not fed, a text followed by more is fed and seen like the text itself; if it is, nothing follows
module _ (given : Given) (text : Text) (rest : List Piece) where
  pub fed-agrees : {R D : Type 0} (flush : Bool) (k : Configuration R D) → (flush ≡ true → rest ≡ []) → (flush ≡ false → k.position < length text.seats)
      → fed (followed_by_all given text rest) k ≡ fed text k
  fed-agrees true k only more = rw (only refl) refl
  fed-agrees false k only more =
      let c = continues-all given text rest in
      let longer : k.position < length (followed_by_all given text rest).seats = omega (arith, more refl, ap length c.seats, length-append text.seats c.more) in
      rw (lt-ltb k.position (length (followed_by_all given text rest).seats) longer, lt-ltb k.position (length text.seats) (more refl)) refl

  before-same : (p : ℕ) → p ≤ length text.seats → seat_before (followed_by_all given text rest) p ≡ seat_before text p
  before-same zero h = refl
  before-same (suc q) h = let c = continues-all given text rest in ap (λ (s : List Seat). slice_get s q) c.seats ∙ get-front text.seats c.more q (omega arith)

  pub sight-agrees : (flush : Bool) (p : ℕ) (waits : Waits) → (flush ≡ true → rest ≡ []) → p ≤ length text.seats → (waits ≡ Byte → p < length text.seats) → (flush ≡ false → waits ≢ End)
      → sight_in given (followed_by_all given text rest) p waits ≡ sight_in given text p waits
  sight-agrees true p waits only within byte no_end = rw (only refl) refl
  sight-agrees false p Nothing only within byte no_end =
      let before = before-same p within in let starts = (continues-all given text rest).starts in
      rw (before, starts) refl
  sight-agrees false p Byte only within byte no_end =
      let c = continues-all given text rest in
      let before = before-same p within in let starts = c.starts in
      let there = ap (λ (s : List Seat). slice_get s p) c.seats ∙ get-front text.seats c.more p (byte refl) in
      rw (before, starts, there, slice_get-get_or text.seats p (record { byte = 0; point = text.start; end = text.start }) (byte refl)) refl
  sight-agrees false p End only within byte no_end = absurd (no_end refl refl)

-- turns on a text are turns on the text followed by a piece
pub turns-followed : {R D : Type 0} (given : Given) (step : Sight → Configuration R D → Name → Step R D) (text : Text) (piece : Piece) {a b : Stand R D}
    → Turns given step text a b → Turns given step (followed_by given text piece) a b
turns-followed given step text piece turns = turns-kept given given step step text (followed_by given text piece) (record {
  longer = let c = continues-piece given text piece in omega (arith, ap length c.seats, length-append text.seats c.more);
  alike = λ k name sees.
      let waits = seen-waits text k.position k.waiting sees in
      let same = sight-agrees given text (piece ∷ []) false k.position k.waiting (λ f. absurd (false≢true f)) (omega (arith, waits.1)) (λ _. waits.1)
      (λ _ ends. let f : Byte ≡ End = sym waits.0 ∙ ends in absurd cc) in
      ap (λ (q : Sight). step q k name) (sym same);
}) turns

module _ {M R D : Type 0} (given : Given) (rules : Rules R D) where
  pub leads-refl : (w : Text) (t : TokenizerValue M R D) (s : State) → rules.holds w t.configuration t.choices s → LeadsOn given rules w t s t s
  leads-refl w t s h = record { kept = h; same = λ r. ((λ e. e), (λ e. e)); paid = omega arith }

  pub leads-trans : (w : Text) (t u v : TokenizerValue M R D) (a b d : State) → LeadsOn given rules w t a u b → LeadsOn given rules w u b v d → LeadsOn given rules w t a v d
  leads-trans w t u v a b d h k = record {
    kept = k.kept;
    same = λ r. ((λ e. (h.same r).0 ((k.same r).0 e)), (λ e. (k.same r).1 ((h.same r).1 e)));
    paid = omega (arith, h.paid, k.paid);
  }

  -- choices end, until one goes on with a state, or none is left
  pub leads-settled : IsLawful given rules → (w : Text) → IsText given w → (t : TokenizerValue M R D) (k : Configuration R D) (cs : List Choice) (s : State) → rules.holds w k cs s
      → (let e = settled_all k cs s in LeadsOn given rules w (settled_to t (record { configuration = k; choices = cs; answer = s })) s (settled_to t e) e.answer)
  leads-settled laws w is t k cs (Next name) h = leads-refl w (settled_to t (record { configuration = k; choices = cs; answer = Next name })) (Next name) h
  leads-settled laws w is t k (c ∷ cs) Ok h =
      let rest = leads-settled laws w is t (settled_at c.kind c.saved Ok k) cs c.ok (laws.invariant_kept.by_ok w k c cs is h) in
      let pays = laws.cost_pays.for_ok w k c cs is h in record {
        kept = rest.kept;
        same = λ r. let one = settled-ok-ends given rules.step w t.calls k c cs r in ((λ e. one.0 ((rest.same r).0 e)), (λ e. (rest.same r).1 (one.1 e)));
        paid = omega (arith, pays, rest.paid);
      }
  leads-settled laws w is t k (c ∷ cs) Nok h =
      let rest = leads-settled laws w is t (settled_at c.kind c.saved Nok k) cs c.nok (laws.invariant_kept.by_nok w k c cs is h) in
      let pays = laws.cost_pays.for_nok w k c cs is h in record {
        kept = rest.kept;
        same = λ r. let one = settled-nok-ends given rules.step w t.calls k c cs r in ((λ e. one.0 ((rest.same r).0 e)), (λ e. (rest.same r).1 (one.1 e)));
        paid = omega (arith, pays, rest.paid);
      }
  leads-settled laws w is t k cs s h = leads-refl w (settled_to t (record { configuration = k; choices = cs; answer = s })) s h

-- if the reading ends, no choice is left
pub settled-ends : {R D : Type 0} (k : Configuration R D) (cs : List Choice) (s : State) → IsSome (answer_in (settled_all k cs s).answer) → (settled_all k cs s).choices ≡ []
settled-ends k cs (Next name) h = absurd cc
settled-ends k (c ∷ cs) Ok h = settled-ends (settled_at c.kind c.saved Ok k) cs c.ok h
settled-ends k (c ∷ cs) Nok h = settled-ends (settled_at c.kind c.saved Nok k) cs c.nok h
settled-ends k [] s h = refl
settled-ends k cs s h = absurd cc

settled-waits : {R D : Type 0} (kind : AttemptKind) (saved : Option Saved) (answer : State) (k : Configuration R D) → (settled_at kind saved answer k).waiting ≡ Nothing
settled-waits Check None answer k = refl
settled-waits Attempt saved Ok k = refl
settled-waits Attempt None answer k = refl
settled-waits kind saved answer k = refl

-- no end waits that did not before
pub settled-end : {R D : Type 0} (k : Configuration R D) (cs : List Choice) (s : State) → (settled_all k cs s).configuration.waiting ≡ End → k.waiting ≡ End
settled-end k cs (Next name) h = h
settled-end k (c ∷ cs) Ok h = let e = settled-end (settled_at c.kind c.saved Ok k) cs c.ok h in let f : Nothing ≡ End = sym (settled-waits c.kind c.saved Ok k) ∙ e in absurd cc
settled-end k (c ∷ cs) Nok h = let e = settled-end (settled_at c.kind c.saved Nok k) cs c.nok h in let f : Nothing ≡ End = sym (settled-waits c.kind c.saved Nok k) ∙ e in absurd cc
settled-end k cs s h = h

-- what the work keeps from turn to turn
pub record Kept {M R D : Type 0} (given : Given) (rules : Rules R D) (flush : Bool) (old : TokenizerValue M R D) (state : State) (new : TokenizerValue M R D) (answer : State) : Type 0 where
  pub same : OnlyWorked old new
  pub waits : flush ≡ false → new.configuration.waiting ≢ End
  pub leads : LeadsAll given rules flush old state new answer
  pub comes : ComesTo given rules flush old state new answer
  pub message : (m : Message) → state ≡ Error m → (answer ≡ Error m) × (new ≡ old)

-- the text stays if only work was done
pub text-worked : {M R D : Type 0} (given : Given) (t u : TokenizerValue M R D) → IsText given t.text → OnlyWorked t u → IsText given u.text
text-worked given t u is only = subst (λ (q : Text). IsText given q) (sym only.text) is

-- the invariant holds on every text that continues, before the end is fed
pub holds-on : {R D : Type 0} (given : Given) (rules : Rules R D)
    → KeepsInvariant given rules
    → (text : Text) (rest : List Piece) (k : Configuration R D) (cs : List Choice) (s : State)
    → IsText given text → CanFollow given text rest → k.ended ≡ false → rules.holds text k cs s → rules.holds (followed_by_all given text rest) k cs s
holds-on given rules keeps text [] k cs s is can fresh h = h
holds-on given rules keeps text (piece ∷ rest) k cs s is can fresh h =
    holds-on given rules keeps (followed_by given text piece) rest k cs s (text-on given text (piece ∷ []) is (can.0, tt)) can.1 fresh
    (keeps.by_pieces text piece k cs s is can.0 fresh h)
