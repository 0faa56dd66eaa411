-- What a run makes of a string; and chains of strings, which are read as strings, and leave other chains ready.
use Rattle.mdinline_machine.proofs.Prelude.{ℕ, ◌≡◌, Bool, List, Some, false, true, arith, refl, sym, ap, ◌∙◌, subst, AllByRecursion, String, Event, StringStart, IsBalanced, fitting_starts, lists, IsReady, lists-all, stays-ready, edited, Subresult, Configuration, IsRun, whole_text, HaveNoLinks, Given, IsDocument, chain_text, all-begin, chains-read-from, children-events, each-alone, ending, ReadsTextsFrom, whole-is-text, linking_edits, inlines_rules, ReadsChainsAsStrings, ReadsStrings, StaysReadyAfterStrings, string_events}
use Rattle.mdinline_machine.proofs.Counted.{ends-as-counted}
use Rattle.mdinline_machine.proofs.Resolved.{resolved-so}
use Rattle.mdinline_machine.proofs.StringReads.{strings-from-start}
use Rattle.mdinline_machine.proofs.StringRuns.{calm-same, string-alone, string-calm}

-- what is read of any string, once all is resolved
pub reads-strings-of : (defined : List ℕ → Bool) (g : Given) → ReadsTextsFrom StringStart g (inlines_rules defined) (string_events g)
reads-strings-of defined g text is flag r ends well final sub resolved =
    let read = (ends-as-counted defined g text flag StringStart (ending (string_events g text)) (strings-from-start defined g text flag) r ends).1 in
    let same = calm-same g (string_events g text) (string-calm g text) (string-alone g text) in
    (resolved-so defined g StringStart (1, omega arith, (cc)) text is flag r ends well final sub resolved).1 (subst (λ es. HaveNoLinks (edited (linking_edits g es) es)) (sym read) (subst HaveNoLinks (sym same) (string-alone g text)))
    ∙ ap (λ es. edited (linking_edits g es) es) read
    ∙ same

run-reads : (defined : List ℕ → Bool) (g : Given) (events : List Event) (sub : Subresult) → IsDocument g → (resolving : Bool) → IsRun g (inlines_rules defined) resolving StringStart events sub → events ≡ string_events g (whole_text g)
run-reads defined g events sub document true run =
    run.events ∙ reads-strings-of defined g (whole_text g) (whole-is-text g document) false run.result run.ends run.well run.final sub run.resolved
run-reads defined g events sub document false run =
    let text = whole_text g in
    let read = ends-as-counted defined g text false StringStart (ending (string_events g text)) (strings-from-start defined g text false) run.result run.ends in
    run.events ∙ ap (λ (k : Configuration Unit Unit). k.events) run.resolved.0 ∙ read.1

pub reads-strings : ReadsStrings
reads-strings defined g resolving events sub document run = run-reads defined g events sub document resolving run

pub chains-read-strings : ReadsChainsAsStrings
chains-read-strings defined g events new sub document ready h = chains-read-from g events document String ready StringStart refl (inlines_rules defined) (string_events g) (reads-strings-of defined g) new sub h

pub strings-stay-ready : StaysReadyAfterStrings
strings-stay-ready defined g events new sub next document ready other h =
    let starts = fitting_starts (Some String) events in
    let are = children-events g events document String ready StringStart refl (inlines_rules defined) (string_events g) (reads-strings-of defined g) starts h.children (all-begin g events document String ready) h.read in
    let balanced = lists-all g (inlines_rules defined) events IsBalanced (λ c child is. is.in_shape.balanced) starts h.children h.read in
    let alone = subst (AllByRecursion HaveNoLinks) (sym are) (each-alone (λ c. string_events g (chain_text g events c)) (λ c. string-alone g (chain_text g events c)) starts) in
    subst (IsReady g.tab g.bytes next) (sym h.events) (stays-ready g.tab g.bytes (Some String) events ready next (lists h.children) other balanced alone)
