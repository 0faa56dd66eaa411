-- What a machine reads of each text from the start of a content it reads of the text of each chain of it in a ready list.
use Rattle.mdinline_text_machine.proofs.Prelude.{AreAtPlaces, AreReadAtPlaces, Bool, IsChild, LeavesEvents, Ok, Reading, ◌≡◌, ℕ, List, [], ◌∷◌, true, Option, Some, refl, sym, ◌∙◌, ap, subst, length, map, option_and_then, AllByRecursion, range_with_len, every-all, Content, Event, Name, Next, TextStart, Given, Text, CanFollow, IsDocument, IsText, empty_text, start_configuration, EndsIn, Rules, text-on, content_at, some_fits, begins, fitting_starts, with_children, IsReady, place_at, start_name, pieces_of, text_of_chain, Child, lists, AreChildren, whole-from, begins-fits, chunks_can_be_read, chain_text, with_read, AreReadBy}
use Rattle.markdown_base.specs.declared.event.Content.TheVariants as content
use Rattle.markdown_base.specs.declared.event.Content.TheVariants.{Text as TextContent}
use Rattle.markdown_tokenizer.specs.declared.subtokenize.Subresult.{Subresult}
use Rattle.markdown_children.specs.Reads.{IsSubtokenized}
use Rattle.markdown_tokenizer.proofs.Positions.Order.{every-kept}
use Rattle.mdinline_text_machine.proofs.Texts.Ends.{ReadsTexts, ReadsTextsFrom}

-- what passes the filter of a content is that
pub is-content : (wanted : Content) (o : Option Content) → some_fits (Some wanted) o ≡ true → o ≡ Some wanted
is-content content.Flow (Some content.Flow) h = refl
is-content content.Content (Some content.Content) h = refl
is-content content.String (Some content.String) h = refl
is-content content.Text (Some content.Text) h = refl
is-content wanted o h = absurd (cc)

pub is-text-content : (o : Option Content) → some_fits (Some TextContent) o ≡ true → o ≡ Some TextContent
is-text-content = is-content TextContent

module _ (g : Given) (events : List Event) (document : IsDocument g) (wanted : Content) (ready : IsReady g.tab g.bytes (Some wanted) events) where
  abbrev pub Begins : ℕ → Type 0
  Begins c = begins (Some wanted) events c ≡ true

  -- the text of a chain is a text
  pub is-text : (c : ℕ) → Begins c → IsText g (chain_text g events c)
  is-text c b =
      let fit = begins-fits g.tab g.bytes (Some wanted) events ready c b in
      let whole = whole-from g.tab g.bytes (Some wanted) events ready c fit in
      let start = empty_text (place_at events c) in
      let place : IsText g start = record { document = document; starts = (ready.readable c fit).from.0; pieces = []; follow = tt; is = refl } in
      let can = subst (λ ks. CanFollow g start (pieces_of events ks)) whole.1 (chunks_can_be_read g.tab g.bytes g.options (Some wanted) events ready c b) in
      subst (λ ks. IsText g (text_of_chain g events ks)) (sym whole.1) (text-on g start (pieces_of events (c ∷ whole.0)) place can)

  -- the chains of the content begin at these indices
  pub all-begin : AllByRecursion Begins (fitting_starts (Some wanted) events)
  all-begin =
      let indices = range_with_len 0 (length events) in
      every-kept (λ k. Unit {0}) Begins (begins (Some wanted) events) (λ k u e. e) indices (every-all (λ k. Unit {0}) (λ k. tt) indices)

  module _ (start : Name) (starts : start_name wanted ≡ Some start) (rules : Given → Rules Unit Unit) where
    -- the reading of a chain is the reading of its text
    reads-text : (c : ℕ) (child : Child) (one : IsChild g rules events c child) → Begins c
        → EndsIn g (rules g).step (chain_text g events c) 0 (start_configuration one.read.flag) [] (Next start) one.result
    reads-text c child one begin =
        let read = one.read in
        let at = is-content wanted (content_at events c) (begins-fits g.tab g.bytes (Some wanted) events ready c begin) in
        let same : Some start ≡ Some read.start = sym starts ∙ sym (ap (option_and_then start_name) at) ∙ read.starts in
        let from : read.start ≡ start = cc in
        subst (λ (name : Name). EndsIn g (rules g).step (chain_text g events c) 0 (start_configuration read.flag) [] (Next name) one.result) from read.ends

    -- by the rules of a machine that reads texts so from that start
    pub children-events : (events_of : Text → List Event) → ReadsTextsFrom start g rules events_of → (cs : List ℕ) (children : List Child) → AllByRecursion Begins cs → AreChildren g rules events cs children
        → lists children ≡ map (λ c. events_of (chain_text g events c)) cs
    children-events events_of reads [] [] begin h = refl
    children-events events_of reads [] (child ∷ children) begin h = absurd h
    children-events events_of reads (c ∷ cs) [] begin h = absurd h
    children-events events_of reads (c ∷ cs) (child ∷ children) begin h =
        let one = h.0 in
        let is = one.child_events ∙ reads (chain_text g events c) (is-text c begin.0) one.read.flag one.result (reads-text c child one begin.0) one.well one.final child.found one.resolved in
        λ j. is j ∷ children-events events_of reads cs children begin.1 h.1 j

    -- the list with the events of each chain in place of its chunks
    pub chains-read-from : (events_of : Text → List Event) → ReadsTextsFrom start g rules events_of → (new : List Event) (sub : Subresult) → IsSubtokenized g rules (Some wanted) events new sub
        → new ≡ with_children (Some wanted) events (map (λ c. events_of (chain_text g events c)) (fitting_starts (Some wanted) events))
    chains-read-from events_of reads new sub h =
        h.events ∙ ap (with_children (Some wanted) events) (children-events events_of reads (fitting_starts (Some wanted) events) h.children all-begin h.read)

-- chains of text
module _ (g : Given) (events : List Event) (document : IsDocument g) (ready : IsReady g.tab g.bytes (Some TextContent) events) (rules : Given → Rules Unit Unit) where
  -- if nothing is left to resolve, the events of the chains stand at places
  module _ (unresolved : (text : Text) → IsText g text → (flag : Bool) (r : Reading Unit Unit) → EndsIn g (rules g).step text 0 (start_configuration flag) [] (Next TextStart) r → r.answer ≡ Ok
      → LeavesEvents true r.configuration) where
    children-stand : (cs : List ℕ) (children : List Child) → AllByRecursion (Begins g events document TextContent ready) cs → AreChildren g rules events cs children → AllByRecursion (AreAtPlaces g.tab g.bytes) (lists children)
    children-stand [] [] begin h = tt
    children-stand [] (child ∷ children) begin h = absurd h
    children-stand (c ∷ cs) [] begin h = absurd h
    children-stand (c ∷ cs) (child ∷ children) begin h =
        let one = h.0 in
        let read = reads-text g events document TextContent ready TextStart refl rules c child one begin.0 in
        (one.at_places (unresolved (chain_text g events c) (is-text g events document TextContent ready c begin.0) one.read.flag one.result read one.well), children-stand cs children begin.1 h.1)

    pub chains-stand : AreReadAtPlaces g events rules
    chains-stand new sub h old = h.at_places old (children-stand (fitting_starts (Some TextContent) events) h.children (all-begin g events document TextContent ready) h.read)

  pub chains-read : (events_of : Text → List Event) → ReadsTexts g rules events_of → AreReadBy g events rules (with_read g events (λ c. events_of (chain_text g events c)))
  chains-read events_of reads new sub h = chains-read-from g events document TextContent ready TextStart refl rules events_of reads new sub h
