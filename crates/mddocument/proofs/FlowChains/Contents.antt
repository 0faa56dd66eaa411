-- Chains of one content: what begins one, and the state that it is read with.
use Rattle.mddocument.proofs.Prelude.{◌≡◌, ℕ, ◌∙◌, ap, sym, List, Option, Some, None, subst, none-some, option_and_then, Contains, IfSome, is_none, and_parts, Content, Event, Name, by_option, content_at, fits, StartAmong, start_name, previous_of}
use Rattle.mdinline_text_machine.proofs.Paragraphs.ChainEvents.{is-content}

when-some : (o : Option Name) (P : Name → Type 0) (name : Name) → IfSome o P → o ≡ Some name → P name
when-some None P name h e = absurd (cc)
when-some (Some n) P name h e = let same : n ≡ name = cc in subst P same h

-- a machine that may start with the state of a content may start with each chain of it
pub may-start : (content : Content) (starts : List Name) (events : List Event) → IfSome (start_name content) (λ start. Contains starts start) → StartAmong starts (Some content) events
may-start content starts events h c name begin is =
    let fit = and_parts (fits (Some content) events c) (is_none (previous_of events c)) begin in
    let at = is-content content (content_at events c) fit.0 in
    let start : start_name content ≡ Some name = rw at at is in
    when-some (start_name content) (λ start. Contains starts start) name h start

-- if all chunks are of the content, it may start with each chain
pub may-start-all : (content : Content) (starts : List Name) (events : List Event) → ((k : ℕ) (c : Content) → content_at events k ≡ Some c → c ≡ content) → IfSome (start_name content) (λ start. Contains starts start)
    → StartAmong starts None events
may-start-all content starts events only h c name begin is = by_option (content_at events c)
    (λ n. absurd (none-some name (sym (ap (option_and_then start_name) n) ∙ is)))
    (λ k at.
    let start : start_name content ≡ Some name = sym (ap (option_and_then start_name) (at ∙ ap Some (only c k at))) ∙ is in
    when-some (start_name content) (λ start. Contains starts start) name h start)
