-- The list with its children as a function of the list, the document and the rules. `subtokenize` promises a relation, `IsSubtokenized`, which
-- allows one list; here it is computed. So the rules of a resolver that calls `subtokenize` with another machine can say what it leaves.
use Rattle.std.specs.Prelude.{◌≡◌, ◌↔◌, ◌⊎◌, ℕ, ◌+◌, ◌-◌, ◌&&◌, nat_lt, Bool, true, false, List, [], ◌∷◌, flat_map, take, Option, Some, None, slice_get}
use denote.Enum.Bare.{sameb}
use Rattle.markdown_base.specs.contracts.event.Kind.{the_type as kinds}
use Rattle.markdown_base.specs.declared.configuration.Constructs.{Constructs}
use Rattle.markdown_base.specs.declared.event.Content.{Content}
use Rattle.markdown_base.specs.declared.event.Event.{Event}
use Rattle.markdown_base.specs.declared.event.Kind.{Kind}
use Rattle.markdown_base.specs.declared.event.Kind.TheVariants.{Enter, Exit}
use Rattle.markdown_base.specs.declared.event.Name.{Name as EventName}
use Rattle.markdown_base.specs.declared.event.Name.TheVariants.{BlankLineEnding, Definition, LineEnding, SpaceOrTab, Paragraph, ListItemPrefix}
use Rattle.markdown_base.specs.declared.message.Message.{Message}
use Rattle.markdown_base.specs.declared.state.Name.{Name}
use Rattle.markdown_base.specs.declared.state.State.TheVariants.{Next, Ok, Error}
use Rattle.markdown_base.specs.Events.{same_name}
use Rattle.markdown_tokenizer.specs.declared.subtokenize.Subresult.{Subresult}
use Rattle.markdown_tokenizer.specs.Text.{Given, Text}
use Rattle.markdown_tokenizer.specs.Configuration.{start_configuration}
use Rattle.markdown_tokenizer.specs.Rules.{Rules}
use Rattle.markdown_tokenizer.specs.Reading.{Reading, read}
use Rattle.markdown_tokenizer.specs.Resolving.{Resolved, done, refused, resolving}
use Rattle.markdown_edits.specs.SpanWalksInner.{mirror, run_len}
use Rattle.markdown_children.specs.Chains.{begins, fitting_starts}
use Rattle.markdown_children.specs.Children.{with_children}
use Rattle.markdown_children.specs.Reads.{Child, lists, start_at, text_from, IsChild, IsChildRefused, IsSubtokenized, IsSubtokenizeRefused}

-- where the longest run of blank lines, definitions and white space begins that ends with the event at an index
abbrev pub run_begin : List Event → ℕ → ℕ
run_begin events i = i + 1 - run_len (BlankLineEnding ∷ Definition ∷ LineEnding ∷ SpaceOrTab ∷ []) 0 (mirror (take (i + 1) events))

-- there is an event, of this kind and name
abbrev pub is_of : Kind → EventName → Option Event → Bool
is_of kind name None = false
is_of kind name (Some e) = sameb kinds e.kind kind && same_name e.name name

-- the event at an index is the first paragraph of a list item (`IsAtFirstParagraph`)
abbrev pub is_at_first_paragraph : Constructs → List Event → ℕ → Bool
is_at_first_paragraph on events i = on.gfm_task_list_item
    && (nat_lt 2 i && (is_of Enter Paragraph (slice_get events (i - 1)) && is_of Exit ListItemPrefix (slice_get events (run_begin events (i - 2) - 1))))

-- What reading gives: something, or a message; or it has no end within its cost, which no lawful machine allows
pub data Answer (A : Type 0) : Type 0 where
  gives : A → Answer A
  refuses : Message → Answer A
  endless : Answer A

-- one more in front; what comes first decides
abbrev pub with_first : {A : Type 0} → Answer A → Answer (List A) → Answer (List A)
with_first (gives x) (gives xs) = gives (x ∷ xs)
with_first (gives x) rest = rest
with_first (refuses m) rest = refuses m
with_first endless rest = endless

-- no chain fits
abbrev pub are_none : List ℕ → Bool
are_none [] = true
are_none (c ∷ cs) = false

module _ {R D : Type 0} (g : Given) (rules : Given → Rules R D) where
  -- what resolvers leave is a child
  abbrev pub child_of : Resolved R D → Answer Child
  child_of (done k (Some found)) = gives (record { events = k.events; found = found })
  child_of (done k None) = endless
  child_of (refused m) = refuses m

  -- what is left of a reading that ended
  abbrev pub left_of : Text → Option (Reading R D) → Answer Child
  left_of text None = endless
  left_of text (Some r) =
      elim r.answer [
        | Ok ↦ child_of (resolving (rules g).resolver g text r.configuration)
        | Error m ↦ refuses m
        | _ ↦ endless
      ]

  -- the chain that begins at c is read, from this start, within the cost of its text
  abbrev pub read_from : List Event → ℕ → Option Name → Answer Child
  read_from events c None = endless
  read_from events c (Some start) =
      let text = text_from g events c in
      let k = start_configuration (is_at_first_paragraph g.options.constructs events c) in
      left_of text (read g (rules g).step text ((rules g).cost text k [] (Next start)) k (Next start))

  -- the child of each of these chains
  abbrev pub children_at : List Event → List ℕ → Answer (List Child)
  children_at events [] = gives []
  children_at events (c ∷ cs) = with_first (read_from events c (start_at events c)) (children_at events cs)

  -- the list with these children, and what they found
  abbrev pub put_in : Option Content → List Event → Answer (List Child) → Answer (List Event × Subresult)
  put_in wanted events (gives children) = gives (
    with_children wanted events (lists children),
    record {
      done = are_none (fitting_starts wanted events);
      gfm_footnote_definitions = flat_map (λ (c : Child). c.found.gfm_footnote_definitions) children;
      definitions = flat_map (λ (c : Child). c.found.definitions) children;
    },
  )
  put_in wanted events (refuses m) = refuses m
  put_in wanted events endless = endless

  -- the list with the children of all chains that fit
  abbrev pub children_of : Option Content → List Event → Answer (List Event × Subresult)
  children_of wanted events = put_in wanted events (children_at events (fitting_starts wanted events))

  -- what `subtokenize` gives the function gives, and what it refuses the function refuses
  pub record AreChildrenOf (wanted : Option Content) (events : List Event) : Type 0 where
    pub list : (new : List Event) (sub : Subresult) → IsSubtokenized g rules wanted events new sub → children_of wanted events ≡ gives (new, sub)
    pub message : (m : Message) → IsSubtokenizeRefused g rules wanted events m → children_of wanted events ≡ refuses m

  -- each chain that fits has a child, or is refused: as the code of a machine reads it, if memory lasts
  abbrev pub EachIsRead : Option Content → List Event → Type 0
  EachIsRead wanted events = (c : ℕ) → begins wanted events c ≡ true
      → ((child : Child) × IsChild g rules events c child) ⊎ ((m : Message) × IsChildRefused g rules events c m)

  -- and then the other way round too
  pub record IsJustChildrenOf (wanted : Option Content) (events : List Event) : Type 0 where
    pub list : (new : List Event) (sub : Subresult) → (children_of wanted events ≡ gives (new, sub)) ↔ IsSubtokenized g rules wanted events new sub
    pub message : (m : Message) → (children_of wanted events ≡ refuses m) ↔ IsSubtokenizeRefused g rules wanted events m
