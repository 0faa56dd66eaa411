-- What was read before the outermost waiting choice stays until the reading ends.
use Rattle.markdown_tokenizer.proofs.Prelude.{◌≡◌, ◌+◌, ◌≤◌, ℕ, zero, suc, List, [], ◌∷◌, ◌++◌, Option, Some, None, refl, ap, ◌∙◌, subst, arith, take, length, map, cond, true, false, nat_lt, IfSome, AllByRecursion, every-append, Name, State, Next, Retry, Ok, Nok, Error, AttemptKind, Attempt, Check, Byte, End, Event, unlinked, HasFrontUpToLinkEnds, Later, added, here, Given, Text, IsText, Configuration, Choice, Saved, sight, fed, settled_at, restored, more_calls, read, EndsIn, Rules, IsLawful, SavesEvents}
use Rattle.std.proofs.lemmas.List.Elements.{recursion_from_All}
use Rattle.std.proofs.lemmas.List.{take-take, length-take, take_min}
use Rattle.std.proofs.Math.Seq.{take-length}
use Rattle.markdown_tokenizer.specs.Reading.{Reading}
use Rattle.markdown_tokenizer.specs.Stays.{StayBeforeChoices, WhatWasReadStays}
use Rattle.markdown_tokenizer.proofs.Runs.Later.{later-kept}
use Rattle.markdown_tokenizer.proofs.Readings.Bounds.{fed-ends, called-ends, settled-ok-ends, settled-nok-ends, one-end}
use Rattle.markdown_tokenizer.proofs.Readings.Ends.{error-stays}

front-longer : (l m : List Event) → HasFrontUpToLinkEnds l m → length m ≤ length l
front-longer l [] h = omega arith
front-longer [] (x ∷ m) h = absurd (cc)
front-longer (y ∷ l) (x ∷ m) h =
    let rest : HasFrontUpToLinkEnds l m = cc in
    let n = front-longer l m rest in omega (arith, n)

-- a choice that saved so many events saved fewer too
saves-fewer : (m n : ℕ) (saved : Option Saved) → m ≤ n → IfSome saved (λ s. n ≤ s.events) → IfSome saved (λ s. m ≤ s.events)
saves-fewer m n None h k = tt
saves-fewer m n (Some s) h k = omega (arith, h, k)

all-save : (m n : ℕ) (cs : List Choice) → m ≤ n → AllByRecursion (SavesEvents n) cs → AllByRecursion (SavesEvents m) cs
all-save m n [] h k = tt
all-save m n (c ∷ cs) h k = (saves-fewer m n c.saved h k.0, all-save m n cs h k.1)

module _ {R D : Type 0} where
  front-on : (new k : Configuration R D) (m : List Event) → HasFrontUpToLinkEnds k.events m → HasFrontUpToLinkEnds new.events k.events → HasFrontUpToLinkEnds new.events m
  front-on new k m h more =
      let made : Configuration R D = record k { events = m } in
      let first : Later made k = added here h in
      let all : Later made new = added first more in
      later-kept all

  restored-front : (saved : Option Saved) (k : Configuration R D) (m : List Event) → IfSome saved (λ s. length m ≤ s.events) → HasFrontUpToLinkEnds k.events m → HasFrontUpToLinkEnds (restored saved k).events m
  restored-front None k m s h = h
  restored-front (Some saved) k m s h = ap (map unlinked) (take-take (length m) saved.events k.events s) ∙ h

  ok-front : (kind : AttemptKind) (saved : Option Saved) (k : Configuration R D) (m : List Event) → IfSome saved (λ s. length m ≤ s.events) → HasFrontUpToLinkEnds k.events m
      → HasFrontUpToLinkEnds (settled_at kind saved Ok k).events m
  ok-front Check saved k m s h = restored-front saved k m s h
  ok-front Attempt saved k m s h = h

  nok-front : (kind : AttemptKind) (saved : Option Saved) (k : Configuration R D) (m : List Event) → IfSome saved (λ s. length m ≤ s.events) → HasFrontUpToLinkEnds k.events m
      → HasFrontUpToLinkEnds (settled_at kind saved Nok k).events m
  nok-front Check saved k m s h = restored-front saved k m s h
  nok-front Attempt saved k m s h = restored-front saved k m s h

  fed-front : (w : Text) (k : Configuration R D) (m : List Event) → HasFrontUpToLinkEnds k.events m → HasFrontUpToLinkEnds (fed w k).events m
  fed-front w k m h = elim (nat_lt k.position (length w.seats)) as (λ b. HasFrontUpToLinkEnds (cond b (record k { waiting = Byte }) (record k { waiting = End; ended = true })).events m) [ true ↦ h | false ↦ h ]

module _ {R D : Type 0} (given : Given) (rules : Rules R D) (lawful : IsLawful given rules) (w : Text) (is : IsText given w) (m : List Event) where
  abbrev AllSave : List Choice → Type 0
  AllSave cs = AllByRecursion (SavesEvents (length m)) cs

  abbrev Stays : ℕ → Configuration R D → List Choice → State → Type 0
  Stays n k cs s = (r : Reading R D) × EndsIn given rules.step w n k cs s r × HasFrontUpToLinkEnds r.configuration.events m

  -- what costs less than a number stays
  abbrev StaysBelow : ℕ → Type 0
  StaysBelow n = (b : ℕ) (k : Configuration R D) (cs : List Choice) (s : State) → rules.holds w k cs s → HasFrontUpToLinkEnds k.events m → AllSave cs
      → suc (rules.cost w k cs s) ≤ n → Stays b k cs s

  called-stays : (n : ℕ) → StaysBelow n → (b : ℕ) (k : Configuration R D) (cs : List Choice) (name : Name) → rules.holds w k cs (Retry name) → HasFrontUpToLinkEnds k.events m → AllSave cs
      → rules.cost w k cs (Retry name) ≤ n → Stays b k cs (Retry name)
  called-stays n below b k cs name h front leave l =
      let s = rules.step (sight given w k) k name in
      let paid = lawful.cost_pays.for_calls w k cs name is h in
      let more = front-on s.configuration k m front (lawful.only_adds.events w k cs name is h) in
      let made = recursion_from_All (SavesEvents (length k.events)) s.choices (lawful.only_adds.choices w k cs name is h) in
      let all = every-append (SavesEvents (length m)) s.choices cs (all-save (length m) (length k.events) s.choices (front-longer k.events m front) made) leave in
      let e = below (b + 1) s.configuration (s.choices ++ cs) s.answer (lawful.invariant_kept.by_calls w k cs name is h) more all (omega arith) in
      (e.0, (called-ends given rules.step w b k cs name e.0).0 e.1, e.2)

  stays-within : (n : ℕ) → StaysBelow n → (cs : List Choice) (b : ℕ) (k : Configuration R D) (s : State) → rules.holds w k cs s → HasFrontUpToLinkEnds k.events m → AllSave cs
      → rules.cost w k cs s ≤ n → Stays b k cs s
  stays-within n below cs b k (Next name) h front leave l =
      let paid = lawful.cost_pays.for_feeding w k cs name is h in
      let e = called-stays n below b (fed w k) cs name (lawful.invariant_kept.by_feeding w k cs name is h) (fed-front w k m front) leave (omega arith) in
      (e.0, (fed-ends given rules.step w b k cs name e.0).0 e.1, e.2)
  stays-within n below cs b k (Retry name) h front leave l = called-stays n below b k cs name h front leave l
  stays-within n below (c ∷ cs) b k Ok h front leave l =
      let paid = lawful.cost_pays.for_ok w k c cs is h in
      let e = stays-within n below cs b (settled_at c.kind c.saved Ok k) c.ok (lawful.invariant_kept.by_ok w k c cs is h) (ok-front c.kind c.saved k m leave.0 front) leave.1 (omega arith) in
      (e.0, (settled-ok-ends given rules.step w b k c cs e.0).0 e.1, e.2)
  stays-within n below (c ∷ cs) b k Nok h front leave l =
      let paid = lawful.cost_pays.for_nok w k c cs is h in
      let e = stays-within n below cs b (settled_at c.kind c.saved Nok k) c.nok (lawful.invariant_kept.by_nok w k c cs is h) (nok-front c.kind c.saved k m leave.0 front) leave.1 (omega arith) in
      (e.0, (settled-nok-ends given rules.step w b k c cs e.0).0 e.1, e.2)
  stays-within n below cs b k (Error message) h front leave l =
      (record { configuration = k; answer = Error message; calls = b + 0 }, record { bound = zero; is = ap (more_calls b) (error-stays (read given rules.step w zero) cs k message 0) }, front)
  stays-within n below [] b k s h front leave l = (record { configuration = k; answer = s; calls = b + 0 }, record { bound = zero; is = refl }, front)

  stays-by : (n : ℕ) → StaysBelow n
  stays-by zero b k cs s h front leave l = absurd (omega arith)
  stays-by (suc n) b k cs s h front leave l = stays-within n (stays-by n) cs b k s h front leave (omega arith)

  -- the one end begins so
  stays : (calls : ℕ) (k : Configuration R D) (cs : List Choice) (s : State) (r : Reading R D) → rules.holds w k cs s → HasFrontUpToLinkEnds k.events m → AllSave cs
      → EndsIn given rules.step w calls k cs s r → HasFrontUpToLinkEnds r.configuration.events m
  stays calls k cs s r h front save ends =
      let e = stays-by (suc (rules.cost w k cs s)) calls k cs s h front save (omega arith) in
      let same : e.0 ≡ r = one-end given rules.step w calls k cs s e.0 r e.1 ends in
      subst (λ (q : Reading R D). HasFrontUpToLinkEnds q.configuration.events m) same e.2

pub stay-before-choices : {R D : Type 0} (g : Given) (rules : Rules R D) → IsLawful g rules → StayBeforeChoices g rules
stay-before-choices g rules lawful text calls k choices state r n is h saved ends =
    let m : List Event = take n k.events in
    stays g rules lawful text is m calls k choices state r h (ap (map unlinked) (ap (λ i. take i k.events) (length-take n k.events) ∙ take_min n k.events))
    (all-save (length m) n choices (omega (arith, length-take n k.events)) (recursion_from_All (SavesEvents n) choices saved)) ends

pub what-was-read-stays : {R D : Type 0} (g : Given) (rules : Rules R D) → IsLawful g rules → WhatWasReadStays g rules
what-was-read-stays g rules lawful text calls k state r is h ends =
    stays g rules lawful text is k.events calls k [] state r h (ap (map unlinked) (take-length k.events)) tt ends
