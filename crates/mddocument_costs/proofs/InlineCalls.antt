-- Inline text and strings are read in linear time, whatever gaps their texts have.
use Rattle.mddocument_costs.proofs.Prelude.{Bool, List, Some, [], arith, length, refl, subst, suc, sym, true, zero, ℕ, ◌*◌, ◌+◌, ◌-◌, ◌<◌, ◌^◌, ◌≡◌, ◌≤◌, ◌∷◌, length-map, Contains, Content, Event, Seat, begins, content_at, text_from, Child, IsChild, IsDocument, Given, Option, IsReady, ReadsWithin}
use Rattle.markdown_base.specs.declared.configuration.Constructs.{Constructs}
use Rattle.markdown_base.specs.declared.event.Content.TheVariants.{String, Text as TextContent}
use Rattle.markdown_base.specs.declared.state.TheConstants.Name.{StringStart, TextStart}
use Rattle.mdinline_text_machine.specs.Parts.{bytes_of}
use Rattle.mdinline_machine.proofs.InlineMemory.{inlines-read}
use Rattle.mdinline_machine.proofs.InlinePrices.{looks_left}
use Rattle.mdinline_machine.proofs.InlineReads.{text_ending}
use Rattle.mdinline_machine.proofs.InlinesCounted.{calls-within as counted-within}
use Rattle.mdinline_machine.proofs.StringCalls.{string_budget, strings-within}
use Rattle.mdinline_machine.specs.InlineRules.{inlines_rules}
use Rattle.mdinline_machine.specs.StringEvents.{string_events}
use Rattle.mdinline_machine.proofs.TailLooks.{tail-looks-linear}
use Rattle.mddocument_costs.proofs.ChainCalls.{calls-within, content-of, is-text, only-one, reads-from}

-- looks for tails of links, one at each `]`, are linear together
looks-linear : (on : Constructs) (seats : List Seat) → looks_left on seats ≤ 236 * length seats
looks-linear on seats =
    let size : length (bytes_of seats) ≡ length seats = length-map seats (λ (s : Seat). s.byte) in
    omega (arith, tail-looks-linear on (bytes_of seats), size)

-- what is among two is one of them
by-two : {P : Type 0} (v w c : Content) → Contains (v ∷ w ∷ []) c → (c ≡ v → P) → (c ≡ w → P) → P
by-two v w c (zero, less, is) f g = f (sym is)
by-two v w c (suc zero, less, is) f g = g (sym is)
by-two v w c (suc (suc i), less, is) f g = absurd (omega (arith, less))

module _ (defined : List ℕ → Bool) (g : Given) (document : IsDocument g) (wanted : Option Content) (events : List Event) (ready : IsReady g.tab g.bytes wanted events)
    (c : ℕ) (child : Child) (begin : begins wanted events c ≡ true) (one : IsChild g (inlines_rules defined) events c child) where
  -- a chain of text takes at most so many calls
  text-calls : content_at events c ≡ Some TextContent → 374 * length (text_from g events c).seats + 4 < 2 ^ 64 - 1 → one.result.calls ≤ 374 * length (text_from g events c).seats + 4
  text-calls at few =
      let text = text_from g events c in
      let is = is-text g document wanted events ready c begin in
      let looks = looks-linear g.options.constructs text.seats in
      let ends = reads-from g document wanted events ready (inlines_rules defined) c child one TextContent TextStart at refl in
      let all = counted-within defined g text one.read.flag TextStart (text_ending defined g text) (inlines-read defined g text is one.read.flag) (omega (arith, few, looks)) one.result ends in
      omega (arith, all, looks)

  -- and one of strings so many
  string-calls : content_at events c ≡ Some String → 87 * length (text_from g events c).seats + 2 < 2 ^ 64 - 1 → one.result.calls ≤ 87 * length (text_from g events c).seats + 2
  string-calls at few =
      let text = text_from g events c in
      let ends = reads-from g document wanted events ready (inlines_rules defined) c child one String StringStart at refl in
      counted-within defined g text one.read.flag StringStart (record { events = string_events g text; spent = string_budget defined g text }) (strings-within defined g text one.read.flag) few one.result ends

pub texts-linear : (defined : List ℕ → Bool) → ReadsWithin (inlines_rules defined) (TextContent ∷ String ∷ []) 374 4
texts-linear defined g wanted events new sub document ready are few h =
    calls-within g document wanted events ready (inlines_rules defined) 374 4 (λ c child begin less one.
    let there = content-of g document wanted events ready c begin in
    by-two TextContent String there.0 (are c there.0 there.1 there.2)
    (λ is. text-calls defined g document wanted events ready c child begin one (subst (λ (w : Content). content_at events c ≡ Some w) is there.2) (omega (arith, few, less)))
    (λ is.
    let made = string-calls defined g document wanted events ready c child begin one (subst (λ (w : Content). content_at events c ≡ Some w) is there.2) (omega (arith, few, less)) in
    omega (arith, made))) new sub h

pub strings-linear : (defined : List ℕ → Bool) → ReadsWithin (inlines_rules defined) (String ∷ []) 87 2
strings-linear defined g wanted events new sub document ready are few h =
    calls-within g document wanted events ready (inlines_rules defined) 87 2 (λ c child begin less one.
    let there = content-of g document wanted events ready c begin in
    let is = only-one String there.0 (are c there.0 there.1 there.2) in
    string-calls defined g document wanted events ready c child begin one (subst (λ (w : Content). content_at events c ≡ Some w) is there.2) (omega (arith, few, less))) new sub h
