use Rattle.markdown_children.proofs.Prelude.{true, refl, sym, ◌∙◌, arith, option_map}
use Rattle.markdown_children.proofs.Ready.Decided.{of-ready-sound, ready-if}
use Rattle.markdown_children.proofs.Ready.Tests.{closes-balanced}
use Rattle.markdown_children.proofs.readiness.ready.Goals as goal

pub returns-then-not-branch : goal.returns-then-not-branch
returns-then-not-branch c = ((λ g. absurd (cc)), (λ r. sym (sym c.in_ok-closes.ensures ∙ c.if-not-branch.true) ∙ closes-balanced c.args.events.now r.balanced))

pub returns-then-not-are_sound : goal.returns-then-not-are_sound
returns-then-not-are_sound c = (
  (λ g. absurd (cc)),
  (λ r.
      let f = c.are_sound.ensures.some c.if-not-are_sound.true in
      let e = sym f.2 ∙ of-ready-sound c.args.tab_size c.args.bytes.now (option_map (λ f. f.now) c.args.filter) c.args.events.now (λ p. true) (λ p h. refl) r f.0 in
      absurd (cc)),
)

pub returns : goal.returns
returns c =
    ready-if c.args.tab_size (omega (arith, c.get-t.ensures.columns, c.get-t.ensures.least)) c.args.bytes.now (option_map (λ f. f.now) c.args.filter) c.args.events.now c.copied.result c.in_ok-starts.starts.tab_size c.in_ok-starts.starts.bytes.now c.copied.ensures (c.in_ok-starts.ensures.tab_size ∙ c.get-t.ensures.columns) c.in_ok-starts.ensures.bytes
    c.can_be_read.result (sym c.in_ok-closes.ensures ∙ c.if-not-branch.false) (c.are_sound.ensures.all c.if-not-are_sound.false) c.can_be_read.ensures.all c.can_be_read.ensures.some
