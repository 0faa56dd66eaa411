-- How many calls of states chains take to be read, and how many virtual bytes they have.
use Rattle.std.specs.Prelude.{◌≡◌, ℕ, ◌+◌, ◌-◌, ◌*◌, ◌^◌, ◌<◌, ◌≤◌, true, List, [], ◌∷◌, length, Option, Some, Contains}
use Rattle.std.specs.List.{sum_by}
use Rattle.markdown_base.specs.declared.event.Content.{Content}
use Rattle.markdown_base.specs.declared.event.Event.{Event}
use Rattle.markdown_base.specs.Events.{IsInOrder}
use Rattle.markdown_base.specs.Virtual.{virtual}
use Rattle.markdown_tokenizer.specs.declared.subtokenize.Subresult.{Subresult}
use Rattle.markdown_tokenizer.specs.Rules.{Rules}
use Rattle.markdown_tokenizer.specs.Text.{Given, IsDocument}
use Rattle.markdown_children.specs.Chains.{content_at, fits, fitting_starts}
use Rattle.markdown_children.specs.Reads.{AreChildren, Child, IsSubtokenized, text_from}
use Rattle.markdown_children.specs.Ready.{IsReady}
use Rattle.mdconstructs_machines.specs.Innermost.{AccountFor}

-- how many chains of a list fit
abbrev pub chain_count : Option Content → List Event → ℕ
chain_count wanted events = length (fitting_starts wanted events)

-- how many virtual bytes their texts have together
abbrev pub chain_bytes : Given → Option Content → List Event → ℕ
chain_bytes g wanted events = sum_by (λ c. length (text_from g events c).seats) (fitting_starts wanted events)

module _ {R D : Type 0} (g : Given) (rules : Given → Rules R D) where
  -- how many calls the readings of children make together; their chains begin at these indices
  abbrev pub calls_of : (events : List Event) (starts : List ℕ) (children : List Child) → AreChildren g rules events starts children → ℕ
  calls_of events [] children read = 0
  calls_of events (c ∷ cs) [] read = 0
  calls_of events (c ∷ cs) (child ∷ children) read = read.0.result.calls + calls_of events cs children read.1

  module _ (wanted : Option Content) (events new : List Event) (sub : Subresult) where
    -- how many calls are made where a list gets its children
    abbrev pub calls_in : IsSubtokenized g rules wanted events new sub → ℕ
    calls_in h = calls_of events (fitting_starts wanted events) h.children h.read

    -- these are at most so many for each virtual byte of the chains, and so many for each chain
    abbrev pub IsWithin : (a_byte a_chain : ℕ) → IsSubtokenized g rules wanted events new sub → Type 0
    IsWithin a_byte a_chain h = calls_in h ≤ a_byte * chain_bytes g wanted events + a_chain * chain_count wanted events

-- each chunk of a list that fits is of one of these contents
abbrev pub AreOf : List Content → Option Content → List Event → Type 0
AreOf contents wanted events = (k : ℕ) (c : Content) → fits wanted events k ≡ true → content_at events k ≡ Some c → Contains contents c

-- Whatever list of a document can be read, if its chains that fit are of these contents, and so many calls can be counted: those that the machine makes to
-- read all of them are at most so many for each virtual byte of their texts, and so many for each chain
abbrev pub ReadsWithin : {R D : Type 0} → (rules : Given → Rules R D) → (contents : List Content) → (a_byte a_chain : ℕ) → Type 0
ReadsWithin rules contents a_byte a_chain =
    (g : Given) (wanted : Option Content) (events new : List Event) (sub : Subresult) → IsDocument g → IsReady g.tab g.bytes wanted events → AreOf contents wanted events
    → a_byte * chain_bytes g wanted events + a_chain < 2 ^ 64 - 1 → (h : IsSubtokenized g rules wanted events new sub) → IsWithin g rules wanted events new sub a_byte a_chain h

-- The texts of all chains of a list have at most as many virtual bytes as the document, if the events of the list are in order: no byte is in two of them
abbrev pub ChainsAreApart : Type 0
ChainsAreApart = (g : Given) (wanted : Option Content) (events : List Event) → IsReady g.tab g.bytes wanted events → IsInOrder g.bytes events
    → chain_bytes g wanted events ≤ length (virtual g.tab g.bytes)

-- There are at most as many chains as the document has virtual bytes, if each of these is in exactly one innermost span: none of these is empty
abbrev pub ChainsAreFew : Type 0
ChainsAreFew = (g : Given) (wanted : Option Content) (events : List Event) → IsReady g.tab g.bytes wanted events → AccountFor events g.bytes (virtual g.tab g.bytes)
    → chain_count wanted events ≤ length (virtual g.tab g.bytes)
