use Rattle.std.proofs.Common.{◌≡◌, ◌∙◌, ◌+◌, ◌-◌, ◌++◌, [], ◌∷◌, ap, append_assoc, arith, drop, length, refl, sym, take}
use Rattle.std.proofs.lemmas.List.{append-nil, drop_all}
use Rattle.std.specs.List.{between}
use Rattle.std.specs.Prelude.{slice_index_or}
use Rattle.mdinline_link_strings.proofs.Listed.{kept-at, no_event, read-at}
use Rattle.mdinline_link_strings.proofs.Stretches.{between-more, between-same}
use Rattle.mdinline_link_strings.specs.Costs.{string_size_from}
use Rattle.mdinline_link_strings.specs.Strings.{in_string_after, line_as_string, with_strings_from}
use Rattle.mdinline_link_strings.proofs.strings.put_strings_counted.Goals as goal

pub loop-next-init : goal.loop-next-init
loop-next-init g c = (ap (λ xs. xs ++ with_strings_from c.args.on.now c.args.tab c.args.bytes.now _ c.args.events.now) c.in_ok-out.ensures.items, omega arith, omega arith, omega arith)

pub bounds-events-next-then-is_string_data : goal.bounds-events-next-then-is_string_data
bounds-events-next-then-is_string_data g c =
    let two = (read-at c.args.on.now c.args.tab c.args.bytes.now no_event c.loop-next.inside c.args.events.now c.loop-next.next (c.loop-next.next + 1) (c.loop-next.next + 2) refl refl (sym c.is_string_data.ensures ∙ c.if-is_string_data.true)).two in
    omega (arith, two)

pub loop-next-preserved-then-is_string_data : goal.loop-next-preserved-then-is_string_data
loop-next-preserved-then-is_string_data g c =
    let on = c.args.on.now in
    let t = c.args.tab in
    let bytes = c.args.bytes.now in
    let es = c.args.events.now in
    let l = c.loop-next in
    let r = read-at on t bytes no_event l.inside es l.next (l.next + 1) (l.next + 2) refl refl (sym c.is_string_data.ensures ∙ c.if-is_string_data.true) in
    let line = line_as_string on t bytes (slice_index_or es l.next no_event).point (slice_index_or es (l.next + 1) no_event).point in
    let rest = with_strings_from on t bytes l.inside (drop (l.next + 2) es) in
    let kept = between l.from l.next es in
    let one = c.add_one.ensures in
    let paid = c.in_ok-read_line_counted.ensures.linear in
    let size = r.size in
    let so_far = l.invariant.3 in (
      ap (λ xs. xs ++ (between (l.next + 2) (l.next + 2) es ++ rest)) (c.in_ok-read_line_counted.ensures.events ∙ ap (λ xs. xs ++ line) c.in_ok-extend_from_slice.ensures.items)
          ∙ ap (λ xs. ((l.out.items ++ kept) ++ line) ++ (xs ++ rest)) (between-same es (l.next + 2) (l.next + 2) refl)
          ∙ append_assoc (l.out.items ++ kept) line rest
          ∙ append_assoc l.out.items kept (line ++ rest)
          ∙ ap (λ xs. l.out.items ++ (kept ++ xs)) (sym r.events)
          ∙ l.invariant.0,
      omega arith,
      r.two,
      omega (arith, one, paid, size, so_far),
    )

pub loop-next-preserved : goal.loop-next-preserved
loop-next-preserved g c =
    let on = c.args.on.now in
    let t = c.args.tab in
    let bytes = c.args.bytes.now in
    let es = c.args.events.now in
    let l = c.loop-next in
    let test = c.loop-next-test.true in
    let k = kept-at on t bytes no_event l.inside es l.next (l.next + 1) refl test (sym c.is_string_data.ensures ∙ c.if-is_string_data.false) in
    let e = slice_index_or es l.next no_event in
    let behind = drop (l.next + 1) es in
    let inside = c.in_string_after-inside.ensures in
    let one = c.add_one.ensures in
    let size = ap (λ b. string_size_from t bytes b behind) inside in
    let same = k.size in
    let so_far = l.invariant.3 in
    let up = l.invariant.1 in (
      ap (λ b. l.out.items ++ (between l.from (l.next + 1) es ++ with_strings_from on t bytes b behind)) inside
          ∙ ap (λ xs. l.out.items ++ (xs ++ with_strings_from on t bytes (in_string_after l.inside e) behind)) (between-more es l.from l.next (l.next + 1) no_event up test refl)
          ∙ ap (λ xs. l.out.items ++ xs) (append_assoc (between l.from l.next es) (e ∷ []) (with_strings_from on t bytes (in_string_after l.inside e) behind))
          ∙ ap (λ xs. l.out.items ++ (between l.from l.next es ++ xs)) (sym k.events)
          ∙ l.invariant.0,
      omega (arith, up),
      omega (arith, test),
      omega (arith, one, size, same, so_far),
    )

pub returns-clause-events : goal.returns-clause-events
returns-clause-events g c =
    let es = c.args.events.now in
    let l = c.loop-next in
    let end : l.next ≡ length es = let inside = l.invariant.2 in let past = c.loop-next-test.false in omega (arith, inside, past) in
    let none : drop l.next es ≡ [] = drop_all l.next es (omega (arith, end)) in
    c.in_ok-extend_from_slice-2.ensures.items
    ∙ ap (λ n. l.out.items ++ take (n - l.from) (drop l.from es)) (sym end)
    ∙ ap (λ xs. l.out.items ++ xs) (sym (append-nil (between l.from l.next es)))
    ∙ ap (λ xs. l.out.items ++ (between l.from l.next es ++ with_strings_from c.args.on.now c.args.tab c.args.bytes.now l.inside xs)) (sym none)
    ∙ l.invariant.0
