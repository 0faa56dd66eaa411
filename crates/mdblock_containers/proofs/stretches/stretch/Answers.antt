use Rattle.std.proofs.Common.{◌≡◌, ◌<◌, ◌+◌, ℕ, suc, Bool, List, ◌∷◌, ◌++◌, Vec, Global, length, drop, take, map, sym, ap, ◌∙◌, subst, arith, length-append}
use Rattle.std.specs.Prelude.{Option, Some, None}
use Rattle.std.proofs.lemmas.List.{drop_all, drop_more, length-map, take-map}
use Rattle.markdown_base.specs.declared.event.Content.TheVariants as content
use Rattle.markdown_base.specs.declared.event.Event.{Event}
use Rattle.markdown_base.specs.declared.event.Point.{Point}
use Rattle.markdown_base.specs.Virtual.{Seat, point}
use Rattle.markdown_base.proofs.Common.{every-take}
use Rattle.mdblock_leaf_blocks.specs.LeafBlocks.{bytes_of}
use Rattle.mdblock_leaf_blocks.specs.LeafEvents.{Mark}
use Rattle.mdblock_lines.specs.Containers.{Container}
use Rattle.mdblock_lines.specs.Lines.{line_bytes, place_after}
use Rattle.mdblock_containers.specs.declared.spans.RowAt.{RowAt}
use Rattle.mdblock_containers.specs.Costs.{HasSize, HaveSizes, columns_in}
use Rattle.mdblock_containers.specs.Parts.{with_chunk}
use Rattle.mdblock_containers.specs.Prefixes.{columns_of, going_on}
use Rattle.mdblock_containers.specs.SeatPlaces.{AreSeatsAt, events_of}
use Rattle.mdblock_containers.specs.Skeleton.{prefixes_marks}
use Rattle.mdblock_containers.specs.Stretches.{HasFurther, InStretch}
use Rattle.mdblock_containers.specs.Views.{open_of}
use Rattle.mdblock_containers.proofs.ColumnLemmas.{columns_more, few_columns}
use Rattle.mdblock_containers.proofs.StretchLemmas.{chunk_length, further_one, step_chunk, step_plain, stretch_last, stretch_nothing}
use Rattle.mdblock_containers.proofs.stretches.stretch.Goals.{then-at-gt0+in_ok-index+in_ok-place, else-at-gt0}
use Rattle.mdblock_containers.proofs.stretches.stretch.Goals as goal

some_same : {a b : ℕ} → Some a ≡ Some b → a ≡ b
some_same e = cc

-- the same state by equal values
same_state : (t : ℕ) (bytes : List ℕ) (stack : List Container) (is_held : Bool) (es new : List Event) (previous last : Option ℕ) (place at to : Point) (xs : List RowAt) (rest all : List Mark) → es ≡ new → previous ≡ last → place ≡ at
    → InStretch t bytes stack is_held new last at to xs rest all → InStretch t bytes stack is_held es previous place to xs rest all
same_state t bytes stack is_held es new previous last place at to xs rest all a b d w =
    subst (λ (e : List Event). InStretch t bytes stack is_held e previous place to xs rest all) (sym a)
    (subst (λ (o : Option ℕ). InStretch t bytes stack is_held new o place to xs rest all) (sym b) (subst (λ (p : Point). InStretch t bytes stack is_held new last p to xs rest all) (sym d) w))

pub first_of-front-requires : goal.first_of-front-requires
first_of-front-requires g c =
    let some : 0 < c.args.tab = omega (arith, c.get-tab_size.ensures.least, c.get-tab_size.ensures.columns) in
    let split : drop c.loop-at.at-index c.args.more.now ≡ c.at-item.result ∷ drop (c.loop-at.at-index + 1) c.args.more.now =
    drop_more c.args.more.now c.loop-at.at-index c.at-item.result c.loop-at-test.true ∙ ap (λ (x : RowAt). x ∷ drop (c.loop-at.at-index + 1) c.args.more.now) (sym c.at-item.is) in
    let one = further_one c.args.tab c.args.bytes.now some c.requires.limit (map open_of c.args.stack.now) c.at-item.result (drop (c.loop-at.at-index + 1) c.args.more.now) (subst (HasFurther c.args.tab c.args.bytes.now (map open_of c.args.stack.now)) split c.loop-at.invariant.further) in
    omega (arith, one.many, length-map c.args.stack.now open_of)

pub prefixes_at-requires : goal.prefixes_at-requires
prefixes_at-requires g c =
    let some : 0 < c.args.tab = omega (arith, c.get-tab_size.ensures.least, c.get-tab_size.ensures.columns) in
    let split : drop c.loop-at.at-index c.args.more.now ≡ c.at-item.result ∷ drop (c.loop-at.at-index + 1) c.args.more.now =
    drop_more c.args.more.now c.loop-at.at-index c.at-item.result c.loop-at-test.true ∙ ap (λ (x : RowAt). x ∷ drop (c.loop-at.at-index + 1) c.args.more.now) (sym c.at-item.is) in
    let one = further_one c.args.tab c.args.bytes.now some c.requires.limit (map open_of c.args.stack.now) c.at-item.result (drop (c.loop-at.at-index + 1) c.args.more.now) (subst (HasFurther c.args.tab c.args.bytes.now (map open_of c.args.stack.now)) split c.loop-at.invariant.further) in
    record {
      inside = one.inside;
      columns = one.columns;
      sizes = subst HaveSizes (sym (ap (map open_of) c.first_of-front.ensures ∙ sym (take-map open_of c.at-item.result.row.many c.args.stack.now))) (every-take HasSize c.at-item.result.row.many (map open_of c.args.stack.now) one.sizes);
    }

pub loop-at-preserved : goal.loop-at-preserved
loop-at-preserved g c =
    let t = c.args.tab in
    let bytes = c.args.bytes.now in
    let stack = map open_of c.args.stack.now in
    let x = c.at-item.result in
    let xs = drop (c.loop-at.at-index + 1) c.args.more.now in
    let some : 0 < c.args.tab = omega (arith, c.get-tab_size.ensures.least, c.get-tab_size.ensures.columns) in
    let split : drop c.loop-at.at-index c.args.more.now ≡ x ∷ xs = drop_more c.args.more.now c.loop-at.at-index x c.loop-at-test.true ∙ ap (λ (y : RowAt). y ∷ xs) (sym c.at-item.is) in
    let one = further_one t bytes some c.requires.limit stack x xs (subst (HasFurther t bytes stack) split c.loop-at.invariant.further) in
    let before = λ (is_held : Bool) (rest all : List Mark) (w : InStretch t bytes stack is_held c.args.events.now.items None c.args.from c.args.to c.args.more.now rest all).
    subst (λ (l : List RowAt). InStretch t bytes stack is_held c.loop-at.events.items c.loop-at.previous c.loop-at.place c.args.to l rest all) split (c.loop-at.invariant.state is_held rest all w) in
    let more : columns_in (take (c.loop-at.at-index + 1) c.args.more.now) ≡ columns_in (take c.loop-at.at-index c.args.more.now) + suc x.span.size =
    columns_more c.args.more.now c.loop-at.at-index x c.loop-at-test.true ∙ ap (λ (y : RowAt). columns_in (take c.loop-at.at-index c.args.more.now) + suc y.span.size) (sym c.at-item.is) in
    elim c.if-at-gt0.branch [
      | then-at-gt0+in_ok-index+in_ok-place w ↦
          let front : map open_of w.first_of-front.result.now ≡ take x.row.many stack = ap (map open_of) w.first_of-front.ensures ∙ sym (take-map open_of x.row.many c.args.stack.now) in
          let line = line_bytes t x.span.number 1 x.span.start (drop x.span.start bytes) in
          let mid = w.chunk.new.events.items in
          let write = λ (seats : List Seat) (a : AreSeatsAt t bytes (point x.span.number 1 x.span.start 0) seats) (b : line ≡ bytes_of seats).
          w.in_ok-place.ensures.marks seats a b ∙ (λ k. mid ++ events_of (prefixes_marks bytes (going_on (front k) x.span.number line) seats)) in
          let made : mid ≡ with_chunk content.Content c.loop-at.previous c.loop-at.place (point x.span.number 1 x.span.start 0) c.loop-at.events.items = w.in_ok-index.ensures.events ∙ ap (λ (p : Point). with_chunk content.Content c.loop-at.previous c.loop-at.place p c.loop-at.events.items) w.start_of.ensures in
          record {
            turns = omega (arith, c.loop-at.invariant.turns, c.add_one.ensures, w.turns-is, w.prefixes_at.ensures.turns, one.size, more);
            before = λ b e.
                let same : w.in_ok-index.index ≡ b = some_same (sym w.previous-is ∙ e) in
                let longer = ap (λ (l : List Event). length l) (ap (λ (v : Vec Event Global). v.items) w.events-is ∙ write one.seats one.seats_at one.seats_bytes) ∙ length-append mid _ in
                let size = ap (λ (l : List Event). length l) made ∙ chunk_length content.Content c.loop-at.previous c.loop-at.place (point x.span.number 1 x.span.start 0) c.loop-at.events.items in
                omega (arith, longer, size, same, w.in_ok-index.ensures.index);
            further = one.behind;
            state = λ is_held rest all v.
                same_state t bytes stack is_held _ w.prefixes_at.new.events.items _ (Some w.in_ok-index.index) _ w.in_ok-place.field-0.place c.args.to xs rest all (ap (λ (v : Vec Event Global). v.items) w.events-is) w.previous-is w.place-is
                (step_chunk t bytes some c.requires.limit stack is_held c.loop-at.events.items mid w.prefixes_at.new.events.items c.loop-at.previous w.in_ok-index.index c.loop-at.place c.args.to w.in_ok-place.field-0.place x xs rest all w.if-at-gt0.true w.in_ok-index.ensures.index made write
                (w.in_ok-place.ensures.place ∙ ap (place_after t bytes (point x.span.number 1 x.span.start 0)) (w.in_ok-place.ensures.columns ∙ (λ k. columns_of (going_on (front k) x.span.number line)))) (before is_held rest all v));
          }
      | else-at-gt0 w ↦ record {
        turns = omega (arith, c.loop-at.invariant.turns, c.add_one.ensures, w.turns-is, more);
        before = λ b e. let n = c.loop-at.invariant.before b (sym w.previous-is ∙ e) in let m = ap (λ (v : Vec Event Global). length v.items) w.events-is in omega (arith, n, m);
        further = one.behind;
        state = λ is_held rest all v.
            same_state t bytes stack is_held _ c.loop-at.events.items _ c.loop-at.previous _ c.loop-at.place c.args.to xs rest all (ap (λ (v : Vec Event Global). v.items) w.events-is) w.previous-is w.place-is
            (step_plain t bytes some c.requires.limit stack is_held c.loop-at.events.items c.loop-at.previous c.loop-at.place c.args.to x xs rest all (omega (arith, w.if-at-gt0.false)) (before is_held rest all v));
      }
    ]

pub returns-in_ok-chunk-clause-value : goal.returns-in_ok-chunk-clause-value
returns-in_ok-chunk-clause-value g c =
    let none = drop_all c.loop-at.at-index c.args.more.now (omega arith) in
    λ is_held rest all w.
    stretch_last c.args.tab c.args.bytes.now (omega (arith, c.get-tab_size.ensures.least, c.get-tab_size.ensures.columns)) c.requires.limit (map open_of c.args.stack.now) is_held c.loop-at.events.items c.chunk-then-place-to.new.events.items c.loop-at.previous c.in_ok-chunk.field-0
    c.loop-at.place c.args.to (drop c.loop-at.at-index c.args.more.now) rest all none c.if-place-to.true c.in_ok-chunk.ensures.index c.in_ok-chunk.ensures.events (c.loop-at.invariant.state is_held rest all w)

pub returns-else-place-to-clause-value : goal.returns-else-place-to-clause-value
returns-else-place-to-clause-value g c =
    let none = drop_all c.loop-at.at-index c.args.more.now (omega arith) in
    λ is_held rest all w.
    stretch_nothing c.args.tab c.args.bytes.now (omega (arith, c.get-tab_size.ensures.least, c.get-tab_size.ensures.columns)) c.requires.limit (map open_of c.args.stack.now) is_held c.loop-at.events.items c.loop-at.previous
    c.loop-at.place c.args.to (drop c.loop-at.at-index c.args.more.now) rest all none c.if-place-to.false (c.loop-at.invariant.state is_held rest all w)

pub returns-in_ok-chunk-clause-turns : goal.returns-in_ok-chunk-clause-turns
returns-in_ok-chunk-clause-turns g c = let few = few_columns c.args.more.now c.loop-at.at-index in omega (arith, c.loop-at.invariant.turns, few)

pub returns-in_err-chunk-clause-turns : goal.returns-in_err-chunk-clause-turns
returns-in_err-chunk-clause-turns g c = let few = few_columns c.args.more.now c.loop-at.at-index in omega (arith, c.loop-at.invariant.turns, few)

pub returns-else-place-to-clause-turns : goal.returns-else-place-to-clause-turns
returns-else-place-to-clause-turns g c = let few = few_columns c.args.more.now c.loop-at.at-index in omega (arith, c.loop-at.invariant.turns, few)

pub returns-in_err-index-clause-turns : goal.returns-in_err-index-clause-turns
returns-in_err-index-clause-turns g c =
    let more = columns_more c.args.more.now c.loop-at.at-index c.at-item.result c.loop-at-test.true in
    let few = few_columns c.args.more.now (c.loop-at.at-index + 1) in
    omega (arith, c.loop-at.invariant.turns, c.add_one.ensures, few, more)

pub returns-in_err-place-clause-turns : goal.returns-in_err-place-clause-turns
returns-in_err-place-clause-turns g c =
    let some : 0 < c.args.tab = omega (arith, c.get-tab_size.ensures.least, c.get-tab_size.ensures.columns) in
    let split : drop c.loop-at.at-index c.args.more.now ≡ c.at-item.result ∷ drop (c.loop-at.at-index + 1) c.args.more.now =
    drop_more c.args.more.now c.loop-at.at-index c.at-item.result c.loop-at-test.true ∙ ap (λ (x : RowAt). x ∷ drop (c.loop-at.at-index + 1) c.args.more.now) (sym c.at-item.is) in
    let one = further_one c.args.tab c.args.bytes.now some c.requires.limit (map open_of c.args.stack.now) c.at-item.result (drop (c.loop-at.at-index + 1) c.args.more.now) (subst (HasFurther c.args.tab c.args.bytes.now (map open_of c.args.stack.now)) split c.loop-at.invariant.further) in
    let more = columns_more c.args.more.now c.loop-at.at-index c.at-item.result c.loop-at-test.true ∙ ap (λ (y : RowAt). columns_in (take c.loop-at.at-index c.args.more.now) + suc y.span.size) (sym c.at-item.is) in
    let few = few_columns c.args.more.now (c.loop-at.at-index + 1) in
    omega (arith, c.loop-at.invariant.turns, c.add_one.ensures, c.prefixes_at.ensures.turns, one.size, few, more)
