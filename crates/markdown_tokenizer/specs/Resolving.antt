-- What resolvers make of the configuration in which a reading ends.
use Rattle.std.specs.Prelude.{◌≡◌, List, [], ◌∷◌, ◌++◌, Bool, true, false, Option, Some, None, All, length}
use Rattle.markdown_base.specs.declared.event.Event.{Event}
use Rattle.markdown_base.specs.declared.message.Message.{Message}
use Rattle.markdown_base.specs.Events.{IsBalanced, EndsBelow}
use Rattle.markdown_tokenizer.specs.declared.subtokenize.Subresult.{Subresult}
use Rattle.markdown_tokenizer.specs.Text.{Given, Text}
use Rattle.markdown_tokenizer.specs.Configuration.{Configuration}
use Rattle.markdown_tokenizer.specs.Sight.{Sight, sight}
use Rattle.markdown_tokenizer.specs.Calls.{with_resolvers}
use Rattle.markdown_edits.specs.Edits.{AreDisjoint}
use Rattle.markdown_edits.specs.Edited.{edited}
use Rattle.markdown_edits.specs.Links.{AreMutual}

-- The result of a resolver: the configuration after it, with the definitions that it found, or a message with which the document is refused
pub data Resolved (R D : Type 0) : Type 0 where
  done : Configuration R D → Option Subresult → Resolved R D
  refused : Message → Resolved R D

-- definitions followed by more of them, of both kinds
abbrev pub with_more : Subresult → Option Subresult → Subresult
with_more sub None = sub
with_more sub (Some more) = record {
  done = sub.done;
  gfm_footnote_definitions = sub.gfm_footnote_definitions ++ more.gfm_footnote_definitions;
  definitions = sub.definitions ++ more.definitions;
}

module _ {R D : Type 0} where
  -- the definitions that states found are taken out
  abbrev pub taken : Configuration R D → Configuration R D
  taken k =
      let state = record k.local.tokenize_state { definitions = []; gfm_footnote_definitions = [] } in
      record k { local = record k.local { tokenize_state = state } }

  -- the definitions that states found
  abbrev pub found : Configuration R D → Subresult
  found k =
      let state = k.local.tokenize_state in
      record { done = false; gfm_footnote_definitions = state.gfm_footnote_definitions; definitions = state.definitions }

  -- the edits that wait are made, all at once
  abbrev pub edits_made : Configuration R D → Configuration R D
  edits_made k = record k { events = edited k.local.map k.events; local = record k.local { map = [] } }

  -- resolving changes no event: it is not asked for, or no resolver is registered and no edit waits
  abbrev pub LeavesEvents : Bool → Configuration R D → Type 0
  LeavesEvents false k = Unit {0}
  LeavesEvents true k = (k.local.resolvers ≡ []) × (k.local.map ≡ [])

  -- the edits that wait can be made: each ends before the next begins, and link ends are indices into the list
  abbrev pub CanBeEdited : Configuration R D → Type 0
  CanBeEdited k = AreDisjoint 0 k.local.map (length k.events) × All (EndsBelow (length k.events)) k.events

-- What resolvers leave: a balanced list, whose link ends are indices into it, and whose links are mutual
pub record IsInShape (events : List Event) : Type 0 where
  pub balanced : IsBalanced events
  pub inside : All (EndsBelow (length events)) events
  pub chained : AreMutual events

module _ {R D : Type 0} (resolver : Sight → Configuration R D → R → Resolved R D) (g : Given) (text : Text) where
  -- Resolvers one after another, each on what the one before it left. The definitions that they find come after the earlier ones; the first
  -- message ends it; when none is left, the edits are made.
  abbrev pub resolved_by : List R → Configuration R D → Subresult → Resolved R D
  resolved_by [] k sub = done (edits_made k) (Some sub)
  resolved_by (r ∷ rs) k sub =
      elim (resolver (sight g text k) k r) [
        | done new more ↦ resolved_by rs new (with_more sub more)
        | refused message ↦ refused message
      ]

  -- the result of resolving: the definitions and the registered resolvers are taken out, and these resolvers run
  abbrev pub resolving : Configuration R D → Resolved R D
  resolving k = resolved_by k.local.resolvers (with_resolvers (taken k) []) (found k)

  -- what is left of the configuration in which a reading ends, and what is returned. Without resolving, the definitions are taken out and
  -- returned, and all else stays.
  abbrev pub IsResolved : Bool → (k new : Configuration R D) → Subresult → Type 0
  IsResolved false k new sub = (new ≡ taken k) × (sub ≡ found k)
  IsResolved true k new sub = resolving k ≡ done new (Some sub)

  -- a resolver refuses the document with this message
  abbrev pub IsResolvingRefused : Bool → Configuration R D → Message → Type 0
  IsResolvingRefused false k m = ⊥
  IsResolvingRefused true k m = resolving k ≡ refused m
