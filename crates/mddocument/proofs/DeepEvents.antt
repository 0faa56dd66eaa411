-- What is read with the children of chains of text: it is refused nowhere where rules refuse nothing, its chains can be read, and the
-- definitions without states say what is read.
use Rattle.mddocument.proofs.Prelude.{Bool, Option, None, Some, whole_text, whole-is-text, arith, subst, sym, Content, TextContent, IsReady, inlines-refuse-nothing, inlines_rules, AreFlowInlines, IsSubtokenized, StartAmong, flow_events, read-as-data, read-as-texts, paragraph_texts, seat_events, Unmade, OfFault, NotReady, Memory, Failed, OfMessage, Result, Ok, Err, IsErrOf, IfErr, refl, ◌≡◌, ℕ, List, ⊎_elim, false, true, ap, ◌∙◌, ParseOptions, Event, Message, Name, start_configuration, IsRunRefused, Rules, Given, IsDocument, FlowStart, chain_of, text_of_chain, IsChildRefused, RulesRefuseNothing, none-refused, no-run-refused, Seat, document, virtual_bytes, Gives, GivesDeep, GivesUnready, HasRefusedChild, IsRefusedDeep, HasReadableChains, with_data, with_texts, data_events, paragraph_events, paragraphs_rules, IsReadAs, text_events, text_rules, HasChildren, AreFlowEvents, chains-read, reads-as-data, reads-items, paragraphs-by-blocks, text-by-blocks}
use Rattle.mdinline_machine.specs.InlineRules.{no_labels}
use Rattle.mddocument.proofs.FlowTexts.AllChildren.{all-children}
use Rattle.mddocument.proofs.FlowTexts.Whole.{inlines_by}
use Rattle.mddocument.proofs.FlowTexts.Textual.{each-ready, flow-textual, may-start-each}

-- what is not a message, not a failure before and not a list that cannot be read is want of memory
pub only-memory : {A : Type 0} (result : Result A Unmade) → ((m : Message) → ¬ IsErrOf result (OfFault (OfMessage m))) → ¬ IsErrOf result NotReady → ¬ IsErrOf result (OfFault Failed)
    → IfErr result (λ unmade. unmade ≡ OfFault Memory)
only-memory (Ok events) message ready cause = tt
only-memory (Err (OfFault Memory)) message ready cause = refl
only-memory (Err (OfFault Failed)) message ready cause = absurd (cause refl)
only-memory (Err (OfFault (OfMessage m))) message ready cause = absurd (message m refl)
only-memory (Err NotReady) message ready cause = absurd (ready refl)

module _ {R D : Type 0} (rules : Given → Rules R D) (nothing : RulesRefuseNothing rules) where
  no-child-refused : (g : Given) (events : List Event) (c : ℕ) (m : Message) → ¬ IsChildRefused g rules events c m
  no-child-refused g events c m h =
      none-refused rules nothing g (text_of_chain g events (chain_of events c)) true 0 (start_configuration h.read.flag) h.read.start h.result m h.read.ends h.message

  pub none-refused-deep : (start : Name) (options : ParseOptions) (bytes : List ℕ) (m : Message) → ¬ IsRefusedDeep rules start options bytes m
  none-refused-deep start options bytes m h =
      ⊎_elim (λ (run : IsRunRefused (document options bytes) rules false start m). no-run-refused rules nothing (document options bytes) false start m run)
      (λ (child : (flat : List Event) × Gives rules start options bytes flat × HasRefusedChild rules options bytes (Some TextContent) flat m). no-child-refused (document options bytes) child.0 child.2.1.chain m child.2.1.refused) h

  -- nor is any child of a list
  pub no-children-refused : (options : ParseOptions) (bytes : List ℕ) (wanted : Option Content) (old : List Event) (m : Message) → ¬ HasRefusedChild rules options bytes wanted old m
  no-children-refused options bytes wanted old m h = no-child-refused (document options bytes) old h.1.chain m h.1.refused

-- a run from the start of paragraphs has chains that can be read
pub all-ready : (rules : Given → Rules Unit Unit) → HasReadableChains rules FlowStart → (options : ParseOptions) (bytes : List ℕ) → IsDocument (document options bytes) → ¬ GivesUnready rules FlowStart options bytes
all-ready rules readable options bytes is h = h.2 (readable (document options bytes) h.0 h.1.0 is h.1.1)

-- a run returns the events that are defined without states
pub flat-events : {R D : Type 0} (rules : Given → Rules R D) (start : Name) (events_of : List ℕ → List Seat → List Event) → IsReadAs rules start events_of
    → (options : ParseOptions) (bytes : List ℕ) → IsDocument (document options bytes) → (events : List Event) → Gives rules start options bytes events
    → events ≡ events_of bytes (virtual_bytes options bytes)
flat-events rules start events_of reads options bytes is events h = reads (document options bytes) events h.0 is h.1

-- the children that the machine of paragraphs read are data, and those that the machine of texts read are the texts
pub with-data : (options : ParseOptions) (bytes : List ℕ) → IsDocument (document options bytes) → (events : List Event) → GivesDeep paragraphs_rules FlowStart options bytes events
    → events ≡ paragraph_texts (data_events bytes) bytes (virtual_bytes options bytes)
with-data options bytes is events h =
    chains-read (document options bytes) h.0 is h.2.0 paragraphs_rules (λ text. data_events bytes text.seats) (reads-as-data (document options bytes)) events h.2.1.0 h.2.1.1
    ∙ ap (with_data (document options bytes)) (flat-events paragraphs_rules FlowStart paragraph_events paragraphs-by-blocks options bytes is h.0 h.1)
    ∙ read-as-data (document options bytes) is

pub with-texts : (options : ParseOptions) (bytes : List ℕ) → IsDocument (document options bytes) → (events : List Event) → GivesDeep text_rules FlowStart options bytes events
    → events ≡ paragraph_texts (seat_events options.constructs bytes) bytes (virtual_bytes options bytes)
with-texts options bytes is events h =
    chains-read (document options bytes) h.0 is h.2.0 text_rules (text_events (document options bytes)) (reads-items (document options bytes)) events h.2.1.0 h.2.1.1
    ∙ ap (with_texts (document options bytes)) (flat-events text_rules FlowStart paragraph_events text-by-blocks options bytes is h.0 h.1)
    ∙ read-as-texts (document options bytes) is

-- what is read of leaf blocks, of which all chains are read by the machine of inline text
module _ (options : ParseOptions) (bytes : List ℕ) where
  -- no child is refused
  pub no-inline-refused : (defined : List ℕ → Bool) (wanted : Option Content) (old : List Event) (m : Message) → ¬ HasRefusedChild (inlines_rules defined) options bytes wanted old m
  no-inline-refused defined wanted old m h = no-children-refused (inlines_rules defined) (inlines-refuse-nothing defined) options bytes wanted old m h

  -- of leaf blocks, all chains of which are read at once
  module _ (is : IsDocument (document options bytes)) (flat : List Event) (are : AreFlowEvents options bytes flat) where
    abbrev g : Given
    g = document options bytes

    -- their chains can be read, and the machine of inline text may start with each
    pub all-chains-ready : IsReady options.tab_size bytes None flat
    all-chains-ready = subst (IsReady options.tab_size bytes None) (sym are) (each-ready g (whole_text g) (whole-is-text g is))

    pub all-may-start : (defined : List ℕ → Bool) → StartAmong (inlines_rules defined g).starts None flat
    all-may-start defined = subst (StartAmong (inlines_rules defined g).starts None) (sym are) (may-start-each (inlines_rules defined g).starts (0, omega arith, (cc)) (1, omega arith, (cc)) (flow_events options.constructs bytes (virtual_bytes options bytes)) (flow-textual g (whole_text g)))

    -- with their children they are inline text and strings, if no label is defined
    pub flow-inlines : (defined : List ℕ → Bool) → ((label : List ℕ) → defined label ≡ false) → (new : List Event) → HasChildren (inlines_rules defined) options bytes None flat new → AreFlowInlines options bytes new
    flow-inlines defined nothing new h =
        let none : defined ≡ no_labels = λ i label. nothing label i in
        let read = all-children defined g (whole_text g) (whole-is-text g is) new h.1.0 (subst (λ (xs : List Event). IsSubtokenized g (inlines_rules defined) None xs new h.1.0) are h.1.1) in
        read ∙ ap (λ d. inlines_by d g (whole_text g)) none
