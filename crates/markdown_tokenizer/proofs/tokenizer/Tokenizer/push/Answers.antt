use Rattle.markdown_tokenizer.proofs.Prelude.{◌≡◌, ◌∙◌, ◌∷◌, [], refl, sym, ap, true, false, arith, false_from_ne_true, false≢true, pushed, extended, Text}
use Rattle.markdown_tokenizer.proofs.Readings.Turns.{stops-used-up}
use Rattle.markdown_tokenizer.proofs.Runs.Working.{holds-on}
use Rattle.markdown_tokenizer.proofs.Runs.Outcomes.{stops-answers}
use Rattle.markdown_tokenizer.proofs.Inside.Changes.{text-more}
use Rattle.markdown_tokenizer.proofs.tokenizer.Tokenizer.push.Goals as goal

pub run_states-requires : goal.run_states-requires
run_states-requires g c =
    let old = c.args.self.now in let given = old.given in
    let open_still : old.closed ≡ false = sym c.is_closed.ensures ∙ c.if-is_closed.false in
    let r = c.requires.range open_still in
    let fresh = false_from_ne_true old.configuration.ended (λ e. let f : true ≡ false = sym (c.shows_in_text.ensures.ended e) ∙ open_still in absurd cc) in
    rw (c.extend.ensures r.0 r.1 r.2 r.3) (record {
      text = text-more given old.text (pushed r.0 r.1) c.shows_in_text.ensures.text r.4;
      holds = λ rest can only.
          holds-on given (g.M.Machine.rules old.machine given) (g.met.M.Machine.lawful old.machine given).invariant_kept old.text (pushed r.0 r.1 ∷ rest) old.configuration old.choices c.args.state
          c.shows_in_text.ensures.text (r.4, can) fresh (c.requires.holds open_still);
      closed = open_still;
      reading = c.shows_in_text.ensures.reads open_still;
      waits = λ _ e. let f : true ≡ false = sym (c.shows_in_text.ensures.end e) ∙ open_still in absurd cc;
    })

pub returns-in-Ok-clause-ok : goal.returns-in-Ok-clause-ok
returns-in-Ok-clause-ok g c =
    let old = c.args.self.now in let u = c.run_states.new.self in let s = c.in-Ok.answer in let law = g.met.M.Machine.lawful old.machine old.given in
    let open_still : old.closed ≡ false = sym c.is_closed.ensures ∙ c.if-is_closed.false in
    let r = c.requires.range open_still in let ext = c.extend.ensures r.0 r.1 r.2 r.3 in
    let only = rw ext at c.in-Ok.ensures.same in let leads = rw ext at c.in-Ok.ensures.leads in let comes = rw ext at c.in-Ok.ensures.comes in let stays = rw ext at c.in-Ok.ensures.message in
    let sound = c.shows_in_text-in-Ok.ensures in let closed : u.closed ≡ false = only.closed ∙ open_still in
    let is = rw only.given at sound.text in let now = (leads [] tt (λ _. refl)).kept in
    record {
      given = only.given;
      machine = only.machine;
      open_still = closed;
      phase = sound.reads closed;
      text = λ f q f_is q_is. c.in-Ok.ensures.same.text ∙ ap (λ t. t.text) (c.extend.ensures f q f_is q_is);
      outcome = λ rest can. let k = leads rest can (λ e. absurd (false≢true e)) in record { kept = k.kept; same = k.same; paid = k.paid };
      stands = comes refl;
      used_up = stops-used-up old.given (g.M.Machine.rules old.machine old.given).step u.text u s refl c.in-Ok.ensures.stops;
      read = λ name e.
          let far = rw e at c.in-Ok.ensures.stops in let within = sound.within in
          (omega (arith, far.1, within), law.invariant_kept.unfed u.text u.configuration u.choices name is (rw e at now));
      counted = only.counted;
      at_places = sound.at_places (sound.reads closed);
      message = λ m e. let same = stays m e in (same.0, same.1 ∙ ap (λ (x : Text). extended old x) (sym only.text));
      answers = stops-answers old.given (g.M.Machine.rules old.machine old.given) law u s is now c.in-Ok.ensures.stops (λ e. absurd (false≢true (sym closed ∙ sound.ended e)));
    }
