-- What a lawful machine keeps. Each law is about one call, one feeding, one settled choice, one piece added or one resolver. The six laws:
-- `ConsumesOnce`: a call consumes at most one byte. `OnlyAdds`: a call only adds events, and its choices save no fewer than were there.
-- `EndsWhenRead`: a reading ends in Ok only once all was read, with no span open. `KeepsInvariant`: the machine's invariant holds at the starts
-- and is kept. `CostPays`: the cost of a state and all choices that wait falls at each call. `ResolversKeep`: resolvers keep their own
-- invariant, and leave events that are in shape. `IsLawful`, at the end, is the six together.
use Rattle.std.specs.Prelude.{ℕ, ◌≡◌, ◌≢◌, ◌+◌, ◌≤◌, ◌⊎◌, List, [], ◌∷◌, ◌++◌, Bool, true, false, Option, IfSome, All, Contains, length, take}
use Rattle.markdown_base.specs.declared.event.Point.{Point}
use Rattle.markdown_base.specs.declared.state.Name.{Name}
use Rattle.markdown_base.specs.declared.state.State.{State}
use Rattle.markdown_base.specs.declared.state.State.TheVariants.{Next, Retry, Ok, Nok}
use Rattle.markdown_base.specs.Events.{HasFrontUpToLinkEnds}
use Rattle.markdown_tokenizer.specs.declared.waiting.Waits.TheVariants.{Nothing, Byte}
use Rattle.markdown_tokenizer.specs.Text.{Given, Text, Piece, IsText, FitsAfter, followed_by, empty_text}
use Rattle.markdown_tokenizer.specs.Configuration.{Configuration, Choice, Step, TokenizerValue, start_configuration}
use Rattle.markdown_tokenizer.specs.Sight.{sight, sight_of}
use Rattle.markdown_tokenizer.specs.Reading.{fed, settled_at}
use Rattle.markdown_tokenizer.specs.Rules.{Rules}
use Rattle.markdown_tokenizer.specs.declared.subtokenize.Subresult.{Subresult}
use Rattle.markdown_tokenizer.specs.Calls.{consumed, with_resolvers}
use Rattle.markdown_edits.specs.Edited.{edited}
use Rattle.markdown_tokenizer.specs.Resolving.{Resolved, done, taken, CanBeEdited, IsInShape}
use Rattle.markdown_tokenizer.specs.Engine.{IsWellFormed}

-- the tokenizer after a call: the step's configuration, its choices above the old ones, and one call more
abbrev pub stepped : {M R D : Type 0} → TokenizerValue M R D → Step R D → TokenizerValue M R D
stepped t s = record t { configuration = s.configuration; choices = s.choices ++ t.choices; calls = t.calls + 1 }

-- A call did this step
pub record DidStep {M R D : Type 0} (old new : TokenizerValue M R D) (s : Step R D) (answer : State) : Type 0 where
  pub answered : answer ≡ s.answer
  pub became : new ≡ stepped old s

-- as much was read, the same waits, and the end was fed or not, alike
abbrev pub IsAsFar : {R D : Type 0} → Configuration R D → Configuration R D → Type 0
IsAsFar a b = (a.position ≡ b.position) × (a.waiting ≡ b.waiting) × (a.ended ≡ b.ended)

-- a choice saved at least this many events, if it saved any
abbrev pub SavesEvents : ℕ → Choice → Type 0
SavesEvents n c = IfSome c.saved (λ saved. n ≤ saved.events)

module _ {M R D : Type 0} (rules : Given → Rules R D) (t : TokenizerValue M R D) where
  -- the step of a tokenizer's call of the state of this name
  abbrev pub step_of : Name → Step R D
  step_of name = (rules t.given).step (sight_of t) t.configuration name

  -- the invariant of resolvers holds before this one, and some after it, go over a tokenizer's events
  abbrev pub CanResolve : R → Type 0
  CanResolve r = (rest : List R) × (rules t.given).resolves t.text (r ∷ rest) t.configuration

  -- what this resolver makes of a tokenizer's events
  abbrev pub resolver_of : R → Resolved R D
  resolver_of r = (rules t.given).resolver (sight_of t) t.configuration r

module _ {R D : Type 0} (g : Given) (rules : Rules R D) where
  -- the property holds for each step of a state at which the invariant holds
  abbrev pub ForEachCall : (Text → Configuration R D → List Choice → Name → Step R D → Type 0) → Type 0
  ForEachCall P = (text : Text) (k : Configuration R D) (choices : List Choice) (name : Name)
      → IsText g text → rules.holds text k choices (Retry name) → P text k choices name (rules.step (sight g text k) k name)

  -- a call consumes at most one byte, and never the end: it returns Next only if it consumed one, and Retry only if it did not
  abbrev pub ConsumesOnce : Type 0
  ConsumesOnce = ForEachCall (λ text k choices name s.
      (IsAsFar s.configuration k × ((n : Name) → s.answer ≢ Next n))
      ⊎ ((k.waiting ≡ Byte) × IsAsFar s.configuration (consumed k) × ((n : Name) → s.answer ≢ Retry n)))

  -- a call keeps the events, but for the ends of their links, and adds its own after them; it keeps the part of the stack that a waiting
  -- choice saved; and the choices that it makes save no fewer events than there were before it
  pub record OnlyAdds : Type 0 where
    pub events : ForEachCall (λ text k choices name s. HasFrontUpToLinkEnds s.configuration.events k.events)
    pub stack : ForEachCall (λ text k choices name s.
        All (λ c. IfSome c.saved (λ saved. take (length saved.stack) s.configuration.stack ≡ take (length saved.stack) k.stack)) choices)
    pub choices : ForEachCall (λ text k choices name s. All (SavesEvents (length k.events)) s.choices)

  -- with no choice waiting the invariant never holds for Nok, and for Ok only once the end was fed, with each span ended
  pub record EndsWhenRead : Type 0 where
    pub nok : (text : Text) (k : Configuration R D) → IsText g text → rules.holds text k [] Nok → ⊥
    pub ok : (text : Text) (k : Configuration R D) → IsText g text → rules.holds text k [] Ok → (k.ended ≡ true) × (k.stack ≡ [])

  -- The invariant holds at each start, at every place of a document. Feeding, a call, the end of a choice, and a piece added before the end
  -- is fed keep it
  pub record KeepsInvariant : Type 0 where
    pub at_starts : (p : Point) (flag : Bool) (name : Name) → IsText g (empty_text p) → Contains rules.starts name
        → rules.holds (empty_text p) (start_configuration flag) [] (Next name)
    -- a byte, or the end, is fed if nothing waits, and a state is called if something does
    pub unfed : (text : Text) (k : Configuration R D) (choices : List Choice) (name : Name) → IsText g text
        → rules.holds text k choices (Next name) → k.waiting ≡ Nothing
    pub waits : (text : Text) (k : Configuration R D) (choices : List Choice) (name : Name) → IsText g text
        → rules.holds text k choices (Retry name) → k.waiting ≢ Nothing
    pub by_feeding : (text : Text) (k : Configuration R D) (choices : List Choice) (name : Name) → IsText g text
        → rules.holds text k choices (Next name) → rules.holds text (fed text k) choices (Retry name)
    pub by_calls : ForEachCall (λ text k choices name s. rules.holds text s.configuration (s.choices ++ choices) s.answer)
    pub by_ok : (text : Text) (k : Configuration R D) (choice : Choice) (choices : List Choice) → IsText g text
        → rules.holds text k (choice ∷ choices) Ok → rules.holds text (settled_at choice.kind choice.saved Ok k) choices choice.ok
    pub by_nok : (text : Text) (k : Configuration R D) (choice : Choice) (choices : List Choice) → IsText g text
        → rules.holds text k (choice ∷ choices) Nok → rules.holds text (settled_at choice.kind choice.saved Nok k) choices choice.nok
    -- more of the document is pushed, or passed, before the end is fed
    pub by_pieces : (text : Text) (piece : Piece) (k : Configuration R D) (choices : List Choice) (state : State) → IsText g text
        → FitsAfter g text piece → k.ended ≡ false → rules.holds text k choices state
        → rules.holds (followed_by g text piece) k choices state

  -- The cost of the current state and all waiting choices falls at each call. Feeding costs nothing, and neither does the end of a choice
  pub record CostPays : Type 0 where
    pub for_calls : ForEachCall (λ text k choices name s.
        1 + rules.cost text s.configuration (s.choices ++ choices) s.answer ≤ rules.cost text k choices (Retry name))
    pub for_feeding : (text : Text) (k : Configuration R D) (choices : List Choice) (name : Name) → IsText g text
        → rules.holds text k choices (Next name) → rules.cost text (fed text k) choices (Retry name) ≤ rules.cost text k choices (Next name)
    pub for_ok : (text : Text) (k : Configuration R D) (choice : Choice) (choices : List Choice) → IsText g text
        → rules.holds text k (choice ∷ choices) Ok
        → rules.cost text (settled_at choice.kind choice.saved Ok k) choices choice.ok ≤ rules.cost text k (choice ∷ choices) Ok
    pub for_nok : (text : Text) (k : Configuration R D) (choice : Choice) (choices : List Choice) → IsText g text
        → rules.holds text k (choice ∷ choices) Nok
        → rules.cost text (settled_at choice.kind choice.saved Nok k) choices choice.nok ≤ rules.cost text k (choice ∷ choices) Nok

  -- Once all was read, the invariant of resolvers holds for the registered ones, with the definitions and the list taken out. Each resolver
  -- keeps it for the ones that are left, and keeps the position and the stack. When none is left, the edits can be made, and leave the
  -- events in shape, and as the machine promises.
  pub record ResolversKeep : Type 0 where
    pub at_end : (text : Text) (k : Configuration R D) → IsText g text → IsWellFormed g k.events → rules.holds text k [] Ok
        → rules.resolves text k.local.resolvers (with_resolvers (taken k) [])
    pub by_resolvers : (text : Text) (r : R) (rs : List R) (k new : Configuration R D) (more : Option Subresult) → IsText g text
        → rules.resolves text (r ∷ rs) k → rules.resolver (sight g text k) k r ≡ done new more
        → rules.resolves text rs new × IsAsFar new k × (new.stack ≡ k.stack)
    pub at_last : (text : Text) (k : Configuration R D) → IsText g text → rules.resolves text [] k
        → CanBeEdited k × IsInShape (edited k.local.map k.events) × rules.ends text (edited k.local.map k.events)

  -- A lawful machine: what its rules keep on a document, law by law
  pub record IsLawful : Type 0 where
    pub consumes_once : ConsumesOnce
    pub only_adds : OnlyAdds
    pub ends_when_read : EndsWhenRead
    pub invariant_kept : KeepsInvariant
    pub cost_pays : CostPays
    pub resolvers_keep : ResolversKeep
