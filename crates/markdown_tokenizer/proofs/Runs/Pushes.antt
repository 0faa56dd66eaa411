-- A range that is pushed in two parts is pushed at once.
use Rattle.markdown_tokenizer.proofs.Prelude.{◌≡◌, ℕ, ◌∷◌, ◌++◌, List, true, sym, ap, ◌∙◌, subst, arith, filter, Point, State, Seat, virtual, is_upto, Given, Text, Piece, IsText, FitsAfter, CanFollow, in_range, pushed, followed_by, followed_by_all, TokenizerValue, Rules, CanPush, ForPoints, IsPushed, LeadsOn, IsOneRange, LeavesOnly, None, refl, Bool, Phase, Configuration, Choice, Turns, turn, stand_of}
use Rattle.std.proofs.lemmas.List.{append_assoc}
use Rattle.std.proofs.lemmas.Option.{same_Some}
use Rattle.markdown_tokenizer.proofs.Positions.Standing.{place-of-point}
use Rattle.markdown_tokenizer.proofs.Positions.Cursors.{same-back, same-upto, upto-upto, range-continued}
use Rattle.markdown_tokenizer.proofs.Readings.Turns.{turns-on, one-stand}
use Rattle.markdown_tokenizer.proofs.Runs.Working.{leads-trans, turns-followed}

-- a push of a range leaves one tokenizer, and returns one state
pub pushed-one-way : {M R D : Type 0} (rules : Rules R D) (old new : TokenizerValue M R D) (from to : ℕ × ℕ) (state answer : State)
    → CanPush old.given old.text from to → IsPushed rules old from to state new answer → LeavesOnly rules old from to state new answer
pushed-one-way rules old new from to state answer can is other last also =
    let text : other.text ≡ new.text = also.text can.0 can.1 can.2 can.3 ∙ sym (is.text can.0 can.1 can.2 can.3) in
    let there = subst (λ (x : Text). Turns old.given rules.step x (stand_of old state) (stand_of other last)) text also.stands in
    let done = subst (λ (x : Text). turn old.given rules.step x other.configuration other.choices last other.calls ≡ None) text also.used_up in
    let same = one-stand old.given rules.step new.text there done is.stands is.used_up in (
      alike other new (also.given ∙ sym is.given) (also.machine ∙ sym is.machine) text (ap (λ s. s.configuration) same) (ap (λ s. s.choices) same)
          (ap (λ s. s.calls) same) (also.open_still ∙ sym is.open_still) (also.phase ∙ sym is.phase),
      ap (λ s. s.state) same,
    )
  where
    alike : {M R D : Type 0} (t u : TokenizerValue M R D) → t.given ≡ u.given → t.machine ≡ u.machine → t.text ≡ u.text → t.configuration ≡ u.configuration → t.choices ≡ u.choices
        → t.calls ≡ u.calls → t.closed ≡ u.closed → t.phase ≡ u.phase → t ≡ u
    alike {M} {R} {D} t u given machine text configuration choices calls closed phase =
        let same : made t.given t.machine t.text t.configuration t.choices t.calls t.closed t.phase ≡ made u.given u.machine u.text u.configuration u.choices u.calls u.closed u.phase
        = rw (given, machine, text, configuration, choices, calls, closed, phase) refl in
        same
      where
        made : {M R D : Type 0} → Given → M → Text → Configuration R D → List Choice → ℕ → Bool → Phase → TokenizerValue M R D
        made given machine text configuration choices calls closed phase =
            record { given = given; machine = machine; text = text; configuration = configuration; choices = choices; calls = calls; closed = closed; phase = phase }

pub one-range : (g : Given) (text : Text) (a b c d : Point) → IsText g text → FitsAfter g text (pushed a b)
    → FitsAfter g (followed_by g text (pushed a b)) (pushed c d) → IsOneRange g text a b c d
one-range g text a b e d is first second =
    let t = g.tab in let bytes = g.bytes in
    let upto : is_upto t bytes b d ≡ true = upto-upto t bytes b e d ((same-upto t bytes e b second.2).1) second.3 in
    let whole = range-continued t bytes a b e d (place-of-point t bytes is.document.tab.0 b first.1) first.3 upto (same-back t bytes e b second.2) in record {
      allowed = (first.0, second.1, first.2, upto-upto t bytes a b d first.3 upto);
      same = ap (λ (s : List Seat). record { start = text.start; seats = s; end = d })
          (append_assoc text.seats (filter (in_range a b) (virtual t bytes)) (filter (in_range e d) (virtual t bytes)) ∙ ap (λ (s : List Seat). text.seats ++ s) (sym whole));
    }

module _ {M R D : Type 0} (rules : Rules R D) (old mid new : TokenizerValue M R D) (a b c d : ℕ × ℕ) (first second third : State)
    (is : IsText old.given old.text) (can : CanPush old.given old.text a b) (one : IsPushed rules old a b first mid second)
    (next : CanPush mid.given mid.text c d) (two : IsPushed rules mid c d second new third) where
  -- the text after the first part
  abbrev half : Text
  half = followed_by old.given old.text (pushed can.0 can.1)

  half-is : mid.text ≡ half
  half-is = one.text can.0 can.1 can.2 can.3

  next-there : CanPush old.given half c d
  next-there = subst (λ t. CanPush old.given t c d) half-is (subst (λ q. CanPush q mid.text c d) one.given next)

  range : IsOneRange old.given old.text can.0 can.1 next-there.0 next-there.1
  range = one-range old.given old.text can.0 can.1 next-there.0 next-there.1 is can.4 next-there.4

  text-there : new.text ≡ followed_by old.given half (pushed next-there.0 next-there.1)
  text-there =
      let given = one.given in let text = half-is in let moved : ForPoints old.given c d (λ f t. new.text ≡ followed_by old.given half (pushed f t)) = rw (given, text) at two.text in
      moved next-there.0 next-there.1 next-there.2 next-there.3

  pub can-push-whole : CanPush old.given old.text a d
  can-push-whole = (can.0, next-there.1, can.2, next-there.3, range.allowed)

  pub pushed-whole : IsPushed rules old a d first new third
  pushed-whole = record {
    given = two.given ∙ one.given;
    machine = two.machine ∙ one.machine;
    open_still = two.open_still;
    phase = two.phase;
    text = λ f t f_is t_is.
        let from : f ≡ can.0 = same_Some _ _ (sym f_is ∙ can.2) in let to : t ≡ next-there.1 = same_Some _ _ (sym t_is ∙ next-there.3) in
        rw (from, to) (text-there ∙ range.same);
    outcome = λ rest follow.
        let piece : Piece = pushed next-there.0 next-there.1 in
        let text : new.text ≡ followed_by old.given mid.text piece = text-there ∙ ap (λ t. followed_by old.given t piece) (sym half-is) in
        let before = one.outcome (piece ∷ rest) (subst (λ t. FitsAfter old.given t piece) (sym half-is) next-there.4, subst (λ t. CanFollow old.given t rest) text follow) in
        let after = subst (λ (x : Given). CanFollow x new.text rest → LeadsOn x rules (followed_by_all x new.text rest) mid second new third) one.given (two.outcome rest) follow in
        leads-trans old.given rules (followed_by_all old.given new.text rest) old mid new first second third
        (subst (λ t. LeadsOn old.given rules (followed_by_all old.given t rest) old first mid second) (sym text) before) after;
    stands =
        let piece : Piece = pushed next-there.0 next-there.1 in
        let text : new.text ≡ followed_by old.given mid.text piece = text-there ∙ ap (λ t. followed_by old.given t piece) (sym half-is) in
        turns-on old.given rules.step new.text
        (subst (λ (x : Text). Turns old.given rules.step x (stand_of old first) (stand_of mid second)) (sym text)
        (turns-followed old.given rules.step mid.text piece one.stands))
        (subst (λ (x : Given). Turns x rules.step new.text (stand_of mid second) (stand_of new third)) one.given two.stands);
    used_up = subst (λ (x : Given). turn x rules.step new.text new.configuration new.choices third new.calls ≡ None) one.given two.used_up;
    read = two.read;
    answers = two.answers;
    counted = let x = one.counted in let y = two.counted in omega (arith, x, y);
    at_places = two.at_places;
    message = λ m e.
        let h = one.message m e in
        let k = two.message m h.0 in
        (k.0, k.1 ∙ ap (λ (t : TokenizerValue M R D). record t { text = new.text }) h.1);
  }
