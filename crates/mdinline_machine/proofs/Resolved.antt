-- Where a reading of inline text ends, one resolver is registered; and so links, images and emphasis are made.
use Rattle.mdinline_machine.proofs.Prelude.{ℕ, Bool, ◌≡◌, List, [], Some, false, true, refl, sym, ap, ◌∙◌, subst, arith, Contains, Name, Next, Ok, TextStart, edited, edited-same, Subresult, with_resolvers, Configuration, start_configuration, whole_text, HaveNoLinks, EndsIn, Reading, IsResolved, done, edits_made, found, resolved_by, taken, Given, IsText, Text, holds-at-end, whole-is-text, linking_edits, EndsLinked, inlines_rules, begins_inline, follows_inline, inline_starts, inlines, MakesLinks, inlines-lawful, goes-on}
use Rattle.mdinline_links.proofs.LinkEdits.{links-can-be-made}

-- where a reading ends, no event has a link; and resolving makes the edits of its events, if they leave it so
pub resolved-so : (defined : List ℕ → Bool) (g : Given) (start : Name) → Contains (inlines_rules defined g).starts start → (text : Text) → IsText g text → (flag : Bool) (r : Reading Unit Unit)
    → EndsIn g (inlines_rules defined g).step text 0 (start_configuration flag) [] (Next start) r → r.answer ≡ Ok
    → (final : Configuration Unit Unit) (sub : Subresult) → IsResolved (inlines_rules defined g).resolver g text true r.configuration final sub
    → let es = edited (linking_edits g r.configuration.events) r.configuration.events in HaveNoLinks r.configuration.events × (HaveNoLinks es → final.events ≡ es)
resolved-so defined g start among text is flag r ends well final sub resolved =
    let k = r.configuration in
    let holds = holds-at-end g (inlines_rules defined) (inlines-lawful defined g).invariant_kept start among text is flag r ends well in
    let known = goes-on (inlines defined) begins_inline follows_inline inline_starts tt linking_edits EndsLinked k [] _ refl holds.known in
    let begun = with_resolvers (taken k) [] in
    let es = edited (linking_edits g k.events) k.events in
    let put : Configuration Unit Unit = record begun { events = es } in
    let e : done (edits_made put) (Some (found k)) ≡ done final (Some sub) =
    sym (ap (λ (rs : List Unit). resolved_by (inlines_rules defined g).resolver g text rs begun (found k)) known.2) ∙ resolved in
    let last : edits_made put ≡ final = cc in
    (known.0, λ none. sym (ap (λ (q : Configuration Unit Unit). q.events) last) ∙ ap (λ ds. edited ds es) known.1 ∙ edited-same es none)

pub makes-links : MakesLinks
makes-links defined g events sub document run =
    let there = resolved-so defined g TextStart (0, omega arith, (cc)) (whole_text g) (whole-is-text g document) false run.result run.ends run.well run.final sub run.resolved in
    let made = links-can-be-made g.options.gfm_strikethrough_single_tilde g.bytes run.result.configuration.events run.well_formed.balanced there.0 in
    run.events ∙ there.1 (subst HaveNoLinks (sym made.1) made.3) ∙ made.1
