-- The machine that replaces is lawful: each resolver leaves what the ones behind it need.
use Rattle.std.proofs.Common.{◌≡◌, ◌≢◌, ℕ, ◌+◌, ◌-◌, ◌≤◌, ◌<◌, ◌⊎◌, List, [], ◌∷◌, ◌++◌, map, Bool, true, false, cond, Option, Some, None, inl, inr, length, refl, sym, ap, subst, arith}
use Rattle.std.specs.Prelude.{nat_lt, All, IfSome, take}
use Rattle.std.proofs.Math.Seq.{take-length}
use Rattle.std.proofs.lemmas.Bool.{ltb-true, ltb-false}
use Rattle.markdown.specs.declared.event.Event.{Event}
use Rattle.markdown.specs.declared.event.Name.TheVariants.{Paragraph, BlockQuote}
use Rattle.markdown.specs.declared.event.Point.{Point}
use Rattle.markdown.specs.declared.state.Name.{Name}
use Rattle.markdown.specs.declared.state.State.{State}
use Rattle.markdown.specs.declared.state.State.TheVariants.{Next, Retry, Ok}
use Rattle.markdown.specs.declared.subtokenize.Subresult.{Subresult}
use Rattle.markdown_tokenizer.specs.declared.waiting.Waits.{Waits}
use Rattle.markdown_tokenizer.specs.declared.waiting.Waits.TheVariants.{Nothing, Byte, End}
use Rattle.markdown.specs.Events.{unlinked, empty, span, EndsBelow}
use Rattle.markdown.specs.Text.{Given, Text, Piece, followed_by}
use Rattle.markdown.specs.Configuration.{Configuration, Choice, Step}
use Rattle.markdown.specs.Sight.{Sight, sight, current_of}
use Rattle.markdown.specs.Calls.{consumed, registered, with_resolvers}
use Rattle.markdown.specs.Edits.{Edit, AreDisjoint, edit_at, added_after}
use Rattle.markdown.specs.Edited.{edited}
use Rattle.markdown.specs.Reading.{fed}
use Rattle.markdown.specs.Resolving.{done, edits_made, taken, IsInShape}
use Rattle.markdown.specs.Lawful.{ConsumesOnce, OnlyAdds, EndsWhenRead, KeepsInvariant, CostPays, ResolversKeep, IsAsFar, IsLawful, SavesEvents}
use Rattle.mdconstructs_tables.specs.RowInvariant.{IsFed}
use Rattle.markdown_tokenizer.proofs.Readings.Plain.{no-links-below, no-links-shape}
use Rattle.mdconstructs_tables.proofs.GrowingTexts.{seat-at, extends, fed-position, waits-longer}
use Rattle.mdtests_tables.specs.declared.resolvers.ReplacingResolver.{ReplacingResolver}
use Rattle.mdtests_tables.specs.declared.resolvers.ReplacingResolver.TheVariants.{First, Second}
use Rattle.mdtests_tables.specs.Replacing.{same_resolver, reads_on, span_at, replaced, replacing_resolver, IsBlank, replacing_holds, replacing_cost, replacing_resolves, replacing_rules}

-- at the end, or at a byte
at-call : (Q : Step ReplacingResolver Unit → Type 0) (text : Text) (k : Configuration ReplacingResolver Unit) (w : Waits) → k.waiting ≡ w → IsFed w k.position k.ended text
    → (k.ended ≡ true → Q (reads_on None k)) → ((byte : ℕ) → k.waiting ≡ Byte → k.position < length text.seats → Q (reads_on (Some byte) k))
    → Q (reads_on (current_of text k.position w) k)
at-call Q text k Nothing e fed one two = absurd fed
at-call Q text k Byte e fed one two = let (s, is) = seat-at text k.position fed in rw is (two s.byte e fed)
at-call Q text k End e fed one two = one fed.0

-- nothing is known of the tokenizer but what the invariant says
blank-on : (rs ss : List ReplacingResolver) (k q : Configuration ReplacingResolver Unit) (choices : List Choice) → IsBlank rs k choices → q.stack ≡ k.stack → q.events ≡ k.events → q.local.map ≡ k.local.map → q.local.resolvers ≡ ss
    → IsBlank ss q choices
blank-on rs ss k q choices h stack events edits resolvers =
    record { alone = h.alone; closed = rw stack h.closed; eventless = rw events h.eventless; unedited = rw edits h.unedited; registered_are = resolvers }

-- what a resolver leaves
abbrev IsPassed : Text → List ReplacingResolver → (k new : Configuration ReplacingResolver Unit) → Type 0
IsPassed text rs k new = replacing_resolves text rs new × IsAsFar new k × (new.stack ≡ k.stack)

-- the first sees no event
first-passed : (s : Sight) (text : Text) (k new : Configuration ReplacingResolver Unit) (more : Option Subresult) → replacing_resolves text (First ∷ Second ∷ []) k
    → replacing_resolver s k First ≡ done new more → IsPassed text (Second ∷ []) k new
first-passed s text k new more h e =
    let same : replaced Paragraph s k ≡ new = cc in
    let edits : added_after k.local.map (edit_at 0 (length k.events) (span_at Paragraph s.point)) ≡ edit_at 0 0 (span_at Paragraph s.point) ∷ [] = rw (h.0, h.1) refl in
    subst (IsPassed text (Second ∷ []) k) same ((s.point, h.0, edits), (refl, refl, refl), refl)

-- the second sees the span of the first
second-passed : (s : Sight) (text : Text) (k new : Configuration ReplacingResolver Unit) (more : Option Subresult) → replacing_resolves text (Second ∷ []) k
    → replacing_resolver s k Second ≡ done new more → IsPassed text [] k new
second-passed s text k new more h e =
    let same : replaced BlockQuote s (edits_made k) ≡ new = cc in
    let seen : edited k.local.map k.events ≡ span_at Paragraph h.0 = rw (h.1, h.2) refl in
    let edits : added_after [] (edit_at 0 (length (edited k.local.map k.events)) (span_at BlockQuote s.point)) ≡ edit_at 0 2 (span_at BlockQuote s.point) ∷ [] = rw seen refl in
    subst (IsPassed text [] k) same ((h.0, s.point, seen, edits), (refl, refl, refl), refl)

passed-by : (s : Sight) (text : Text) (r : ReplacingResolver) (rs : List ReplacingResolver) (k new : Configuration ReplacingResolver Unit) (more : Option Subresult) → replacing_resolves text (r ∷ rs) k
    → replacing_resolver s k r ≡ done new more → IsPassed text rs k new
passed-by s text First (Second ∷ []) k new more h e = first-passed s text k new more h e
passed-by s text First [] k new more h e = absurd h
passed-by s text First (First ∷ rs) k new more h e = absurd h
passed-by s text First (Second ∷ r ∷ rs) k new more h e = absurd h
passed-by s text Second [] k new more h e = second-passed s text k new more h e
passed-by s text Second (r ∷ rs) k new more h e = absurd h

-- with the edit of the second the list is a block quote
last-well : (p q : Point) (xs : List Event) (es : List Edit) → xs ≡ span_at Paragraph p → es ≡ edit_at 0 2 (span_at BlockQuote q) ∷ []
    → (AreDisjoint 0 es (length xs) × All (EndsBelow (length xs)) xs) × IsInShape (edited es xs) × ((p : Point) × (edited es xs ≡ span_at BlockQuote p))
last-well p q xs es a b =
    rw (a, b) (((omega arith, omega arith), no-links-below 2 (span_at Paragraph p) (refl, (refl, tt))), no-links-shape (span_at BlockQuote q) (refl, (refl, tt)) (span _ _ [] [] refl refl refl refl empty empty), (q, refl))

module _ (g : Given) where
  consumes_once : ConsumesOnce g (replacing_rules g)
  consumes_once text k choices name is h =
      at-call (λ s. (IsAsFar s.configuration k × ((n : Name) → s.answer ≢ Next n)) ⊎ ((k.waiting ≡ Byte) × IsAsFar s.configuration (consumed k) × ((n : Name) → s.answer ≢ Retry n)))
      text k k.waiting refl h.1 (λ ended. inl ((refl, refl, refl), (λ n e. absurd cc))) (λ byte waits less. inr (waits, (refl, refl, refl), (λ n e. absurd cc)))

  only_adds : OnlyAdds g (replacing_rules g)
  only_adds = record {
    events = λ text k choices name is h.
        at-call (λ s. map unlinked (take (length k.events) s.configuration.events) ≡ map unlinked k.events)
        text k k.waiting refl h.1 (λ ended. ap (map unlinked) (take-length k.events)) (λ byte waits less. ap (map unlinked) (take-length k.events));
    stack = λ text k choices name is h.
        let s = replacing_rules g in
        let new = (s.step (sight g text k) k name).configuration in
        subst (λ cs. All (λ (c : Choice). IfSome c.saved (λ saved. take (length saved.stack) new.stack ≡ take (length saved.stack) k.stack)) cs) (sym h.0.alone) (λ i c l. absurd (omega arith));
    choices = λ text k choices name is h.
        at-call (λ s. All (SavesEvents (length k.events)) s.choices) text k k.waiting refl h.1 (λ ended i c l. absurd (omega arith)) (λ byte waits less i c l. absurd (omega arith));
  }

  ends_when_read : EndsWhenRead g (replacing_rules g)
  ends_when_read = record { nok = λ text k is h. h; ok = λ text k is h. (h.1, h.0.closed) }

  fed-holds : (text : Text) (k : Configuration ReplacingResolver Unit) (choices : List Choice) (name : Name) (b : Bool) → nat_lt k.position (length text.seats) ≡ b → replacing_holds text k choices (Next name)
      → replacing_holds text (cond b (record { position = k.position; waiting = Byte; ended = k.ended; events = k.events; stack = k.stack; local = k.local })
      (record { position = k.position; waiting = End; ended = true; events = k.events; stack = k.stack; local = k.local })) choices (Retry name)
  fed-holds text k choices name true e h = (blank-on [] [] k _ choices h.0 refl refl refl h.0.registered_are, ltb-true k.position (length text.seats) e)
  fed-holds text k choices name false e h = (blank-on [] [] k _ choices h.0 refl refl refl h.0.registered_are, (refl, ltb-false k.position (length text.seats) e))

  longer-holds : (text : Text) (piece : Piece) (k : Configuration ReplacingResolver Unit) (choices : List Choice) (state : State) → k.ended ≡ false → replacing_holds text k choices state
      → replacing_holds (followed_by g text piece) k choices state
  longer-holds text piece k choices (Next name) fresh h = h
  longer-holds text piece k choices (Retry name) fresh h = (h.0, (waits-longer g text (followed_by g text piece) k.position k.ended k.waiting (extends g text piece) fresh h.1).0)
  longer-holds text piece k choices Ok fresh h = h
  longer-holds text piece k choices state fresh h = absurd h

  invariant_kept : KeepsInvariant g (replacing_rules g)
  invariant_kept = record {
    at_starts = λ p flag name is start. (record { alone = refl; closed = refl; eventless = refl; unedited = refl; registered_are = refl }, refl);
    unfed = λ text k choices name is h. h.1;
    waits = λ text k choices name is h e. subst (λ w. IsFed w k.position k.ended text) e h.1;
    by_feeding = λ text k choices name is h. fed-holds text k choices name (nat_lt k.position (length text.seats)) refl h;
    by_calls = λ text k choices name is h.
        at-call (λ s. replacing_holds text s.configuration (s.choices ++ choices) s.answer) text k k.waiting refl h.1
        (λ ended.
        (blank-on [] (First ∷ Second ∷ []) k _ choices h.0 refl refl refl (ap (λ rs. registered same_resolver Second (registered same_resolver First rs)) h.0.registered_are), ended))
        (λ byte waits less. (blank-on [] [] k _ choices h.0 refl refl refl h.0.registered_are, refl));
    by_ok = λ text k choice choices is h. absurd (let e : choice ∷ choices ≡ [] = h.0.alone in cc);
    by_nok = λ text k choice choices is h. absurd h;
    by_pieces = λ text piece k choices state is fits fresh h. longer-holds text piece k choices state fresh h;
  }

  cost_pays : CostPays g (replacing_rules g)
  cost_pays = record {
    for_calls = λ text k choices name is h.
        at-call (λ s. 1 + replacing_cost text s.configuration (s.choices ++ choices) s.answer ≤ length text.seats - k.position + 1) text k k.waiting refl h.1
        (λ ended. omega arith) (λ byte waits less. omega (arith, less));
    for_feeding = λ text k choices name is h.
        subst (λ p. length text.seats - p + 1 ≤ length text.seats - k.position + 1) (sym (fed-position text k)) (omega arith);
    for_ok = λ text k choice choices is h. absurd (let e : choice ∷ choices ≡ [] = h.0.alone in cc);
    for_nok = λ text k choice choices is h. absurd h;
  }

  resolvers_keep : ResolversKeep g (replacing_rules g)
  resolvers_keep = record {
    at_end = λ text k is formed h. subst (λ rs. replacing_resolves text rs (with_resolvers (taken k) [])) (sym h.0.registered_are) (h.0.eventless, h.0.unedited);
    by_resolvers = λ text r rs k new more is h e. passed-by (sight g text k) text r rs k new more h e;
    at_last = λ text k is h. last-well h.0 h.1 k.events k.local.map h.2 h.3;
  }

pub replacing-lawful : (g : Given) → IsLawful g (replacing_rules g)
replacing-lawful g = record {
  consumes_once = consumes_once g;
  only_adds = only_adds g;
  ends_when_read = ends_when_read g;
  invariant_kept = invariant_kept g;
  cost_pays = cost_pays g;
  resolvers_keep = resolvers_keep g;
}
