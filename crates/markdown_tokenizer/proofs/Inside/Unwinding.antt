-- Laws of choices that end.
use Rattle.markdown_tokenizer.proofs.Prelude.{◌≡◌, ◌∙◌, ◌≤◌, List, [], ◌∷◌, ◌++◌, Bool, true, false, Option, Some, None, ap, subst, refl, arith, reverse, reverse-append, point, IfSome, unwrap_or, Name, Event, AttemptKind, Attempt, Check, GoesOn, KeptChoice, Progress, AreNested, AreWithin, events_of, stack_of, continuation_of, ended_by, saved_for, progress_at, unwinding, unwound}
use Rattle.markdown_base.specs.declared.event.Name.{Name as SpanName}
use Rattle.markdown_tokenizer.specs.declared.waiting.GoesOn.TheVariants as goes_on
use Rattle.markdown_tokenizer.proofs.Inside.Fields.{nested-as}

-- what choices saved
module _ (P : Progress → Type 0) where
  abbrev pub GoesFrom : Progress → List KeptChoice → Progress → Type 0
  GoesFrom from kept_choices p = P p × AreNested P p.events_len p.stack_len kept_choices × ((p.events_len ≤ from.events_len) × (p.stack_len ≤ from.stack_len))

  from-saved : (from : Progress) (saved : Option Progress) (kept_choices : List KeptChoice) → P from → IfSome saved (λ p. (p.events_len ≤ from.events_len) × (p.stack_len ≤ from.stack_len) × P p)
      → AreNested P (events_of from.events_len saved) (stack_of from.stack_len saved) kept_choices → GoesFrom from kept_choices (unwrap_or saved from)
  from-saved from None kept_choices now h k = (now, k, (omega arith, omega arith))
  from-saved from (Some p) kept_choices now h k = (h.2, k, (h.0, h.1))

  pub from-one : (kind : AttemptKind) (ok nok : GoesOn) (saved : Option Progress) (kept_choices : List KeptChoice) (from : Progress) (b : Bool)
      → let choice : KeptChoice = record { kind = kind; ok = ok; nok = nok; saved = saved } in
      P from → AreNested P from.events_len from.stack_len (choice ∷ kept_choices) → GoesFrom from kept_choices (unwrap_or (saved_for choice b) from)
  from-one Attempt ok nok saved kept_choices from true now h =
      let front = elim saved as (λ (saved : Option Progress). AreNested P from.events_len from.stack_len (record { kind = Attempt; ok = ok; nok = nok; saved = saved } ∷ kept_choices)
      → AreNested P from.events_len from.stack_len kept_choices) [
        | None ↦ λ k. k.1
        | Some p ↦ λ k. nested-as P P p.events_len p.stack_len from.events_len from.stack_len kept_choices (λ q x y l. (omega arith, omega arith, l)) k.1
      ] in
      (now, front h, (omega arith, omega arith))
  from-one Check ok nok saved kept_choices from true now h = from-saved from saved kept_choices now h.0 h.1
  from-one _ ok nok saved kept_choices from false now h = from-saved from saved kept_choices now h.0 h.1

  pub from-all : (kept_choices : List KeptChoice) (continuation : GoesOn) (from : Progress) → P from → AreNested P from.events_len from.stack_len kept_choices
      → let u = unwound kept_choices continuation from in GoesFrom from u.kept_choices u.from
  from-all (choice ∷ kept_choices) goes_on.Ok from now h =
      let one = from-one choice.kind choice.ok choice.nok choice.saved kept_choices from true now h in
      let all = from-all kept_choices (continuation_of choice true) (unwrap_or (saved_for choice true) from) one.0 one.1 in
      (all.0, all.1, (omega (arith, all.2.0, one.2.0), omega (arith, all.2.1, one.2.1)))
  from-all (choice ∷ kept_choices) goes_on.Nok from now h =
      let one = from-one choice.kind choice.ok choice.nok choice.saved kept_choices from false now h in
      let all = from-all kept_choices (continuation_of choice false) (unwrap_or (saved_for choice false) from) one.0 one.1 in
      (all.0, all.1, (omega (arith, all.2.0, one.2.0), omega (arith, all.2.1, one.2.1)))
  from-all _ _ from now h = (now, h, (omega arith, omega arith))

-- a state goes on
pub unwound-next : (kept_choices : List KeptChoice) (continuation : GoesOn) (name : Name) (from : Progress) → continuation ≡ goes_on.Next name → unwinding kept_choices continuation from ≡ unwound kept_choices continuation from
unwound-next [] continuation name from e = refl
unwound-next (choice ∷ kept_choices) continuation name from e = rw e refl

-- the last choice ends
module _ (old new : List KeptChoice) (choice : KeptChoice) (put : old ≡ new ++ choice ∷ []) (b : Bool) where
  last-first : reverse old ≡ choice ∷ reverse new
  last-first = ap reverse put ∙ reverse-append new (choice ∷ [])

  -- and puts nothing back
  module _ (none : saved_for choice b ≡ None) where
    pub unwound-none : (continuation : GoesOn) (from : Progress) → continuation ≡ ended_by b → unwound (reverse old) continuation from ≡ unwound (reverse new) (continuation_of choice b) from
    unwound-none continuation from e = ap (λ (xs : List KeptChoice). unwound xs continuation from) last-first ∙ ap (λ (k : GoesOn). unwound (choice ∷ reverse new) k from) e
        ∙ (elim b as (λ (a : Bool). saved_for choice a ≡ None → unwound (choice ∷ reverse new) (ended_by a) from ≡ unwound (reverse new) (continuation_of choice a) from) [
          | true ↦ λ n. ap (λ (o : Option Progress). unwound (reverse new) (continuation_of choice true) (unwrap_or o from)) n
          | false ↦ λ n. ap (λ (o : Option Progress). unwound (reverse new) (continuation_of choice false) (unwrap_or o from)) n
        ] none)

    pub within-none : (events : List Event) (stack : List SpanName) → AreWithin events stack (reverse old) → AreWithin events stack (reverse new)
    within-none events stack h =
        let from = progress_at (point 1 1 0 0) None false events stack in
        let one = from-one (λ p. Unit {0}) choice.kind choice.ok choice.nok choice.saved (reverse new) from b tt (subst (AreWithin events stack) last-first h) in
        subst (λ (o : Option Progress). AreNested (λ p. Unit {0}) (unwrap_or o from).events_len (unwrap_or o from).stack_len (reverse new)) none one.1
