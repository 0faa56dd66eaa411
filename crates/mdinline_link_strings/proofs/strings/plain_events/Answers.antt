use Rattle.std.proofs.Common.{◌≡◌, ◌∙◌, ◌+◌, ◌<◌, ◌≤◌, ◌++◌, [], ◌∷◌, ap, append_assoc, arith, drop, length, refl, sym, take}
use Rattle.std.proofs.lemmas.List.{drop_all}
use Rattle.std.proofs.Math.Seq.{take-add}
use Rattle.std.specs.Prelude.{slice_index_or}
use Rattle.markdown_base.specs.Presets.{default_parse_options}
use Rattle.mdinline_link_strings.proofs.Listed.{dropped, kept-at, no_event, read-at}
use Rattle.mdinline_link_strings.proofs.Outside.{Upto, upto-tail}
use Rattle.mdinline_link_strings.specs.Costs.{string_size_from}
use Rattle.mdinline_link_strings.specs.Strings.{in_string_after, with_strings_from}
use Rattle.mdinline_link_strings.proofs.strings.plain_events.Goals as goal

pub loop-next-init : goal.loop-next-init
loop-next-init g c = (λ on. refl, omega arith, omega arith, omega arith)

pub returns : goal.returns
returns g c =
    let es = c.args.events.now in
    let l = c.loop-next in
    let end = c.loop-next-test.false in
    let none : string_size_from c.args.tab c.args.bytes.now l.inside (drop (l.next + 2) es) ≡ 0 = ap (string_size_from c.args.tab c.args.bytes.now l.inside) (drop_all (l.next + 2) es (omega (arith, end))) in
    let paid = l.invariant.2 in
    record { plain = l.invariant.0; within = l.invariant.1; «data» = λ less. absurd (omega (arith, end, less)); size = l.invariant.3; linear = omega (arith, none, paid) }

pub returns-then-next-events : goal.returns-then-next-events
returns-then-next-events g c =
    let t = c.args.tab in
    let bytes = c.args.bytes.now in
    let es = c.args.events.now in
    let l = c.loop-next in
    let k = c.kept_events-kept.result in
    let here : Upto t bytes c.args.first es c.args.turns.now (l.next + k) l.inside c.kept_events-kept.new.turns =
    upto-tail t bytes c.args.first es c.args.turns.now l.next k (l.next + k) l.inside l.turns c.kept_events-kept.new.turns refl c.kept_events-kept.ensures.within
    (λ on. c.kept_events-kept.ensures.events on t bytes) (c.kept_events-kept.ensures.size t bytes) c.kept_events-kept.ensures.turns l.invariant in
    let end = c.if-next-events.true in
    let none : string_size_from t bytes l.inside (drop (l.next + k + 2) es) ≡ 0 = ap (string_size_from t bytes l.inside) (drop_all (l.next + k + 2) es (omega (arith, end))) in
    let paid = here.2 in
    record { plain = here.0; within = here.1; «data» = λ less. absurd (omega (arith, end, less)); size = here.3; linear = omega (arith, none, paid) }

pub bounds-events-next-then-is_string_data : goal.bounds-events-next-then-is_string_data
bounds-events-next-then-is_string_data g c =
    let at = c.loop-next.next + c.kept_events-kept.result in
    let two = (read-at default_parse_options.constructs c.args.tab c.args.bytes.now no_event c.loop-next.inside c.args.events.now at (at + 1) (at + 2) refl refl (sym c.is_string_data.ensures ∙ c.if-is_string_data.true)).two in
    omega (arith, two)

pub returns-then-not-is_plain_data : goal.returns-then-not-is_plain_data
returns-then-not-is_plain_data g c =
    let t = c.args.tab in
    let bytes = c.args.bytes.now in
    let es = c.args.events.now in
    let l = c.loop-next in
    let k = c.kept_events-kept.result in
    let at = l.next + k in
    let here : Upto t bytes c.args.first es c.args.turns.now at l.inside c.kept_events-kept.new.turns =
    upto-tail t bytes c.args.first es c.args.turns.now l.next k at l.inside l.turns c.kept_events-kept.new.turns refl c.kept_events-kept.ensures.within
    (λ on. c.kept_events-kept.ensures.events on t bytes) (c.kept_events-kept.ensures.size t bytes) c.kept_events-kept.ensures.turns l.invariant in
    let is = sym c.is_string_data.ensures ∙ c.if-is_string_data.true in
    let size = (read-at default_parse_options.constructs t bytes no_event l.inside es at (at + 1) (at + 2) refl refl is).size in
    let one = c.add_one.ensures in
    let paid = c.is_plain_data.ensures.turns in
    let so_far = here.2 in
    record { plain = here.0; within = here.1; «data» = λ less. is; size = here.3; linear = omega (arith, one, paid, size, so_far) }

pub loop-next-preserved : goal.loop-next-preserved
loop-next-preserved g c =
    let t = c.args.tab in
    let bytes = c.args.bytes.now in
    let es = c.args.events.now in
    let l = c.loop-next in
    let k = c.kept_events-kept.result in
    let at = l.next + k in
    let here : Upto t bytes c.args.first es c.args.turns.now at l.inside c.kept_events-kept.new.turns =
    upto-tail t bytes c.args.first es c.args.turns.now l.next k at l.inside l.turns c.kept_events-kept.new.turns refl c.kept_events-kept.ensures.within
    (λ on. c.kept_events-kept.ensures.events on t bytes) (c.kept_events-kept.ensures.size t bytes) c.kept_events-kept.ensures.turns l.invariant in
    let test : at < length es = c.if-next-events.false in
    let e = slice_index_or es at no_event in
    let front = take at es in
    let behind = drop (at + 1) es in
    let inside = c.in_string_after-inside.ensures in
    let is = sym c.is_string_data.ensures ∙ c.if-is_string_data.false in
    let one = c.add_one.ensures in
    let size = ap (λ b. string_size_from t bytes b behind) inside in
    let same = (kept-at default_parse_options.constructs t bytes no_event l.inside es at (at + 1) refl test is).size in
    let so_far = here.2 in
    let more = take-add at 1 es ∙ ap (λ xs. front ++ take 1 xs) (dropped es at (at + 1) no_event test refl) in (
      λ on.
          here.0 on ∙ ap (λ xs. front ++ xs) (kept-at on t bytes no_event l.inside es at (at + 1) refl test is).events
          ∙ sym (append_assoc front (e ∷ []) (with_strings_from on t bytes (in_string_after l.inside e) behind))
          ∙ ap (λ xs. xs ++ with_strings_from on t bytes (in_string_after l.inside e) behind) (sym more)
          ∙ ap (λ b. take (at + 1) es ++ with_strings_from on t bytes b behind) (sym inside),
      omega (arith, test),
      omega (arith, one, size, same, so_far),
      (let less = here.3 in omega (arith, size, same, less)),
    )

pub loop-next-preserved-then-is_string_data : goal.loop-next-preserved-then-is_string_data
loop-next-preserved-then-is_string_data g c =
    let t = c.args.tab in
    let bytes = c.args.bytes.now in
    let es = c.args.events.now in
    let l = c.loop-next in
    let k = c.kept_events-kept.result in
    let at = l.next + k in
    let here : Upto t bytes c.args.first es c.args.turns.now at l.inside c.kept_events-kept.new.turns =
    upto-tail t bytes c.args.first es c.args.turns.now l.next k at l.inside l.turns c.kept_events-kept.new.turns refl c.kept_events-kept.ensures.within
    (λ on. c.kept_events-kept.ensures.events on t bytes) (c.kept_events-kept.ensures.size t bytes) c.kept_events-kept.ensures.turns l.invariant in
    let is = sym c.is_string_data.ensures ∙ c.if-is_string_data.true in
    let e = slice_index_or es at no_event in
    let f = slice_index_or es (at + 1) no_event in
    let front = take at es in
    let behind = drop (at + 2) es in
    let one = c.add_one.ensures in
    let paid = c.is_plain_data.ensures.turns in
    let first = read-at default_parse_options.constructs t bytes no_event l.inside es at (at + 1) (at + 2) refl refl is in
    let size = first.size in
    let so_far = here.2 in
    let some : at < length es = c.if-next-events.false in
    let two : at + 2 ≤ length es = first.two in
    let both : drop at es ≡ e ∷ f ∷ behind = dropped es at (at + 1) no_event some refl ∙ ap (λ xs. e ∷ xs) (dropped es (at + 1) (at + 2) no_event (omega (arith, two)) (omega arith)) in
    let more = take-add at 2 es ∙ ap (λ xs. front ++ take 2 xs) both in (
      λ on.
          let rest = with_strings_from on t bytes l.inside behind in
          here.0 on
          ∙ ap (λ xs. front ++ xs)
          ((read-at on t bytes no_event l.inside es at (at + 1) (at + 2) refl refl is).events ∙ ap (λ xs. xs ++ rest) (c.is_plain_data.ensures.plain c.if-not-is_plain_data.false on))
          ∙ sym (append_assoc front (e ∷ f ∷ []) rest) ∙ ap (λ xs. xs ++ rest) (sym more),
      two,
      omega (arith, one, paid, size, so_far),
      (let less = here.3 in omega (arith, size, less)),
    )
