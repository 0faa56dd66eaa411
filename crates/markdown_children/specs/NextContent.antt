-- When a list whose chains of one content were read is ready for the next content, though its children link chunks of their own.
--
-- A child's chunk stays a chunk if its two events stay side by side: no chunks may tear it.
use Rattle.std.specs.Prelude.{◌≡◌, ◌⊎◌, ℕ, ◌+◌, true, List, Option, Some, slice_get, All, Contains}
use Rattle.std.specs.List.{AllByRecursion, AllZip}
use Rattle.markdown_base.specs.declared.event.Content.{Content}
use Rattle.markdown_base.specs.declared.event.Event.{Event}
use Rattle.markdown_base.specs.declared.event.Kind.TheVariants.{Enter}
use Rattle.markdown_base.specs.Events.{is_void, IsVoidTight}
use Rattle.markdown_base.specs.Places.{stands_before, in_range}
use Rattle.markdown_base.specs.Virtual.{Seat, virtual}
use Rattle.markdown_edits.specs.Links.{next_of}
use Rattle.markdown_tokenizer.specs.Rules.{Rules}
use Rattle.markdown_tokenizer.specs.Text.{Given, Text, IsDocument}
use Rattle.markdown_tokenizer.specs.declared.subtokenize.Subresult.{Subresult}
use Rattle.markdown_children.specs.Chains.{begins, fits, fitting_starts}
use Rattle.markdown_children.specs.Children.{with_children}
use Rattle.markdown_children.specs.LawStatements.{NoneTorn}
use Rattle.markdown_children.specs.Ready.{IsReady, IsShownPlace, place_at}
use Rattle.markdown_children.specs.Reads.{text_from, Child, IsChild, IsSubtokenized}

-- if a list is ready for the next content too, and each child by itself is, the new list is, unless chunks tear a void span of their child
abbrev pub StaysReadyWithChains : ℕ → List ℕ → Option Content → List Event → Type 0
StaysReadyWithChains tab bytes wanted events = (next : Option Content) (children : List (List Event)) → IsReady tab bytes next events
    → AllByRecursion (IsReady tab bytes next) children → NoneTorn wanted events children → IsReady tab bytes next (with_children wanted events children)

-- between two chunks of a chain that fits are no events, or there is text too
abbrev pub HasTextInGaps : Option Content → List Event → Type 0
HasTextInGaps wanted events = (k d : ℕ) → fits wanted events k ≡ true → next_of events k ≡ Some d
    → (d ≡ k + 2) ⊎ (stands_before (place_at events (k + 1)) (place_at events d) ≡ true)

-- the void spans of a list of events hold bytes of the text alone: none goes over a gap
abbrev pub HoldsOnlyText : Given → Text → List Event → Type 0
HoldsOnlyText g text events = (n : ℕ) (e f : Event) → slice_get events n ≡ Some e → slice_get events (n + 1) ≡ Some f → e.kind ≡ Enter → is_void e.name ≡ true
    → (s : Seat) → Contains (virtual g.tab g.bytes) s → in_range e.point f.point s ≡ true → Contains text.seats s

-- The chains of the next content that a text is read as can be read: its events are ready by themselves, stand at places that are shown, and
-- its void spans are empty and go over no gap
pub record CanBeReadNext (g : Given) (next : Option Content) (text : Text) (events : List Event) : Type 0 where
  pub ready : IsReady g.tab g.bytes next events
  pub shown : All (λ (e : Event). IsShownPlace g.tab g.bytes e.point) events
  pub tight : IsVoidTight events
  pub whole : HoldsOnlyText g text events

module _ (g : Given) (wanted next : Option Content) (events : List Event) where
  -- each child can be read next
  abbrev pub ChildrenCanBeRead : List (List Event) → Type 0
  ChildrenCanBeRead children = AllZip (λ c child. CanBeReadNext g next (text_from g events c) child) (fitting_starts wanted events) children

  -- The new list is ready for the next content, and no chunks tear a void span
  pub record IsReadyNext (children : List (List Event)) : Type 0 where
    pub ready : IsReady g.tab g.bytes next (with_children wanted events children)
    pub none_torn : NoneTorn wanted events children

  -- so it is if the list is ready for both contents, has text where it has events between chunks, and each child can be read next
  abbrev pub GoesOn : Type 0
  GoesOn = IsDocument g → IsReady g.tab g.bytes wanted events → IsReady g.tab g.bytes next events → HasTextInGaps wanted events
      → (children : List (List Event)) → ChildrenCanBeRead children → IsReadyNext children

module _ {R D : Type 0} (g : Given) (rules : Given → Rules R D) (wanted next : Option Content) (events : List Event) where
  -- each child that the machine reads can be read next; what it promises of its final events (`ends`) may say so
  abbrev pub ReadsNext : Type 0
  ReadsNext = (c : ℕ) (child : Child) → begins wanted events c ≡ true → IsChild g rules events c child
      → CanBeReadNext g next (text_from g events c) child.events

  -- by such a machine's rules the new list is ready for the next content, and its void spans are empty if those of the list are
  abbrev pub GoesOnBy : Type 0
  GoesOnBy = IsDocument g → IsReady g.tab g.bytes wanted events → IsReady g.tab g.bytes next events → HasTextInGaps wanted events → ReadsNext
      → (new : List Event) (sub : Subresult) → IsSubtokenized g rules wanted events new sub
      → IsReady g.tab g.bytes next new × (IsVoidTight events → IsVoidTight new)
