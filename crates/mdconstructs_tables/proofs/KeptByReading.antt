-- What calls, feeding and the ends of choices keep holds where a reading ends, if it holds where the reading begins.
use Rattle.mdconstructs_tables.proofs.Prelude.{◌≡◌, ℕ, zero, suc, ◌+◌, List, [], ◌∷◌, ◌++◌, Bool, Option, Some, None, refl, sym, subst, Contains, Message, Name, State, Next, Retry, Ok, Nok, Error, Given, Text, IsText, empty_text, Configuration, Choice, Step, start_configuration, Rules, KeepsInvariant, holds-on, Sight, sight, Reading, EndsIn, fed, settled_at, more_calls, settle, after_choices, read}

-- Calls, feeding and the ends of choices keep this of a configuration, the choices that wait and the state at hand
pub record IsKept {R D : Type 0} (g : Given) (step : Sight → Configuration R D → Name → Step R D) (text : Text) (P : Configuration R D → List Choice → State → Type 0) : Type 0 where
  pub by_feeding : (k : Configuration R D) (cs : List Choice) (name : Name) → P k cs (Next name) → P (fed text k) cs (Retry name)
  pub by_calls : (k : Configuration R D) (cs : List Choice) (name : Name) → P k cs (Retry name) → let s = step (sight g text k) k name in P s.configuration (s.choices ++ cs) s.answer
  pub by_ok : (k : Configuration R D) (c : Choice) (cs : List Choice) → P k (c ∷ cs) Ok → P (settled_at c.kind c.saved Ok k) cs c.ok
  pub by_nok : (k : Configuration R D) (c : Choice) (cs : List Choice) → P k (c ∷ cs) Nok → P (settled_at c.kind c.saved Nok k) cs c.nok

module _ {R D : Type 0} (g : Given) (step : Sight → Configuration R D → Name → Step R D) (text : Text) (P : Configuration R D → List Choice → State → Type 0) (kept : IsKept g step text P) where
  -- it holds where something ended with these choices below it. A message ends at once, with whatever choices wait.
  abbrev HoldsIn : List Choice → Configuration R D → State → Type 0
  HoldsIn cs k Ok = P k cs Ok
  HoldsIn cs k Nok = P k cs Nok
  HoldsIn cs k (Error m) = (ds : List Choice) × P k ds (Error m)
  HoldsIn cs k _ = Unit {0}

  abbrev HoldsOf : List Choice → Reading R D → Type 0
  HoldsOf cs r = HoldsIn cs r.configuration r.answer

  -- if it holds before, it holds after what such a function reads
  abbrev Keeps : (Configuration R D → State → Option (Reading R D)) → Type 0
  Keeps f = (k : Configuration R D) (s : State) (cs : List Choice) (r : Reading R D) → P k cs s → f k s ≡ Some r → HoldsOf cs r

  of-some : (cs : List Choice) (q r : Reading R D) → HoldsOf cs q → Some q ≡ Some r → HoldsOf cs r
  of-some cs q r h e = let same : q ≡ r = cc in subst (HoldsOf cs) same h

  of-more : (n : ℕ) (cs : List Choice) (o : Option (Reading R D)) (r : Reading R D) → ((q : Reading R D) → o ≡ Some q → HoldsOf cs q) → more_calls n o ≡ Some r → HoldsOf cs r
  of-more n cs None r h e = absurd (cc)
  of-more n cs (Some q) r h e = of-some cs (record { configuration = q.configuration; answer = q.answer; calls = n + q.calls }) r (h q refl) e

  -- a choice that ends, and then those below it
  of-settled : (f : Configuration R D → State → Option (Reading R D)) → Keeps f → (c : Choice) (cs : List Choice) (k : Configuration R D) (s : State) (n : ℕ) (r : Reading R D) → HoldsIn (c ∷ cs) k s
      → settle f c (record { configuration = k; answer = s; calls = n }) ≡ Some r → HoldsOf cs r
  of-settled f keeps c cs k Ok n r h e = of-more n cs (f (settled_at c.kind c.saved Ok k) c.ok) r (λ q i. keeps (settled_at c.kind c.saved Ok k) c.ok cs q (kept.by_ok k c cs h) i) e
  of-settled f keeps c cs k Nok n r h e = of-more n cs (f (settled_at c.kind c.saved Nok k) c.nok) r (λ q i. keeps (settled_at c.kind c.saved Nok k) c.nok cs q (kept.by_nok k c cs h) i) e
  of-settled f keeps c cs k s n r h e = of-some cs (record { configuration = k; answer = s; calls = n }) r h e

  of-choices : (f : Configuration R D → State → Option (Reading R D)) → Keeps f → (xs cs : List Choice) (o : Option (Reading R D)) (r : Reading R D)
      → ((q : Reading R D) → o ≡ Some q → HoldsOf (xs ++ cs) q) → after_choices f xs o ≡ Some r → HoldsOf cs r
  of-choices f keeps [] cs o r h e = h r e
  of-choices f keeps (x ∷ xs) cs None r h e = absurd (cc)
  of-choices f keeps (x ∷ xs) cs (Some q) r h e =
      of-choices f keeps xs cs (settle f x q) r (λ p i. of-settled f keeps x (xs ++ cs) q.configuration q.answer q.calls p (h q refl) i) e

  of-call : (b : ℕ) → Keeps (read g step text b) → (k : Configuration R D) (name : Name) (cs : List Choice) (r : Reading R D) → P k cs (Retry name)
      → read g step text (suc b) k (Retry name) ≡ Some r → HoldsOf cs r
  of-call b keeps k name cs r h e =
      let s = step (sight g text k) k name in
      let f = read g step text b in
      of-more 1 cs (after_choices f s.choices (f s.configuration s.answer)) r
      (λ q i. of-choices f keeps s.choices cs (f s.configuration s.answer) q (λ p j. keeps s.configuration s.answer (s.choices ++ cs) p (kept.by_calls k cs name h) j) i) e

  reads : (b : ℕ) → Keeps (read g step text b)
  reads b k (Error m) cs r h e = of-some cs (record { configuration = k; answer = Error m; calls = 0 }) r (cs, h) e
  reads zero k (Next name) cs r h e = absurd (cc)
  reads zero k (Retry name) cs r h e = absurd (cc)
  reads (suc b) k (Next name) cs r h e = of-call b (reads b) (fed text k) name cs r (kept.by_feeding k cs name h) e
  reads (suc b) k (Retry name) cs r h e = of-call b (reads b) k name cs r h e
  reads b k s cs r h e = of-some cs (record { configuration = k; answer = s; calls = 0 }) r h e

  module _ (calls : ℕ) (k : Configuration R D) (s : State) (r : Reading R D) (h : P k [] s) (ends : EndsIn g step text calls k [] s r) where
    ended : HoldsOf [] r
    ended = of-more calls [] (read g step text ends.bound k s) r (λ q e. reads ends.bound k s [] q h e) ends.is

    -- if the reading ends in Ok
    pub kept-well : r.answer ≡ Ok → P r.configuration [] Ok
    kept-well well = subst (HoldsIn [] r.configuration) well ended

    -- and where it ends in a message
    pub kept-refused : (m : Message) → r.answer ≡ Error m → (ds : List Choice) × P r.configuration ds (Error m)
    kept-refused m is = subst (HoldsIn [] r.configuration) is ended

-- A lawful machine keeps its invariant, and it holds where a text is begun
module _ {R D : Type 0} (g : Given) (rules : Rules R D) (law : KeepsInvariant g rules) (text : Text) (is : IsText g text) where
  pub lawful-kept : IsKept g rules.step text (λ k cs s. rules.holds text k cs s)
  lawful-kept = record {
    by_feeding = λ k cs name h. law.by_feeding text k cs name is h;
    by_calls = λ k cs name h. law.by_calls text k cs name is h;
    by_ok = λ k c cs h. law.by_ok text k c cs is h;
    by_nok = λ k c cs h. law.by_nok text k c cs is h;
  }

  pub holds-at-start : (flag : Bool) (name : Name) → Contains rules.starts name → rules.holds text (start_configuration flag) [] (Next name)
  holds-at-start flag name among =
      let first : IsText g (empty_text text.start) = record { document = is.document; starts = is.starts; pieces = []; follow = tt; is = refl } in
      subst (λ (w : Text). rules.holds w (start_configuration flag) [] (Next name)) (sym is.is)
      (holds-on g rules law (empty_text text.start) is.pieces (start_configuration flag) [] (Next name) first is.follow refl (law.at_starts text.start flag name first among))
