use Rattle.mddocument.proofs.Prelude.{[], ◌≢◌, ◌≡◌, ◌+◌, ◌<◌, ◌≤◌, ◌∙◌, ap, arith, drop, get_or, length, refl, subst, sym, ℕ, List, drop_all, drop_more, IfOk-weaker, IfErr, IsErrOf, Result, Ok, Err, same_Some, ParseOptions, Point, Message, Fault, Memory, Failed, OfMessage, State, reads-holds, reads-pushed, reads-range, TokenizerValue, start_seen, given_by, empty_text, FollowFrom, IsRangeFrom, ByteRange, text-lawful, text_rules}
use Rattle.mddocument.proofs.RangeReads.{ReadsRanges, from_range, never-refused, ranges-flushed, gap-fits, gap-passed, pieces_from, place, place-at, ranges-first, reads-gap, reads-next, reads-no-gap}
use Rattle.mddocument.proofs.ranges.push_ranges.Goals as goal
use Rattle.mddocument.proofs.ranges.push_ranges.Goals.{then-range-end+in_ok-define_skip, else-range-end}

-- no range
abbrev none : ByteRange
none = record { from = 0; to = 0 }

-- the next range, and those behind it
next-range : (bytes : List ℕ) (end n : ℕ) (ranges : List ByteRange) → n < length ranges → FollowFrom bytes end (drop n ranges)
    → let range = get_or ranges n none in IsRangeFrom bytes end range × FollowFrom bytes range.to (drop (n + 1) ranges)
next-range bytes end n ranges h = subst (FollowFrom bytes end) (drop_more ranges n none h)

pub loop-range-init : goal.loop-range-init
loop-range-init c =
    let p = c.args.parse_state.now in
    let bytes = p.bytes.now in let options = p.options.now in let start = c.args.place.index in
    let tab = c.requires.document.tab.0 in
    let same : place options.tab_size bytes start ≡ c.args.place = same_Some (place options.tab_size bytes start) c.args.place (sym (place-at options.tab_size bytes (omega (arith, tab)) start c.requires.inside) ∙ c.requires.place) in
    record {
      follow = c.requires.ranges;
      line = ap (λ (q : Point). q.line) (sym same);
      reads = ranges-first options bytes text_rules p.machine.now start c.args.ranges.now c.requires.document c.requires.inside c.requires.ranges (text-lawful (given_by bytes options)).invariant_kept (1, omega arith, refl)
          (c.requires.new ∙ ap (λ (q : Point). start_seen (given_by bytes options) p.machine.now (empty_text q)) (sym same));
    }

pub define_skip-requires : goal.define_skip-requires
define_skip-requires c =
    let p = c.args.parse_state.now in
    let bytes = p.bytes.now in let options = p.options.now in let ranges = c.args.ranges.now in let n = c.loop-range.range-index in let end = c.loop-range.end in
    let range = get_or ranges n none in
    let rest = from_range options bytes range (pieces_from options bytes range.to (drop (n + 1) ranges)) in
    let one = (next-range bytes end n ranges c.loop-range-test.true c.loop-range.invariant.follow).0 in
    let tab = c.requires.document.tab.0 in
    gap-fits options bytes ranges (omega (arith, tab)) range.from (omega (arith, one.forward, one.inside)) c.in_line-gap.result c.in_line-gap.ensures rest
    (reads-gap options bytes ranges end range.from rest c.if-range-end.true (reads-next options bytes ranges end n ranges none c.loop-range-test.true c.loop-range.invariant.reads))

pub push-requires-clause-range : goal.push-requires-clause-range
push-requires-clause-range c = λ _.
    let p = c.args.parse_state.now in
    let bytes = p.bytes.now in let options = p.options.now in let ranges = c.args.ranges.now in let n = c.loop-range.range-index in let end = c.loop-range.end in
    let range = get_or ranges n none in
    let rest = from_range options bytes range (pieces_from options bytes range.to (drop (n + 1) ranges)) in
    let one = (next-range bytes end n ranges c.loop-range-test.true c.loop-range.invariant.follow).0 in
    let tab = c.requires.document.tab.0 in
    let next = reads-next options bytes ranges end n ranges none c.loop-range-test.true c.loop-range.invariant.reads in
    reads-range (omega (arith, tab)) (elim c.if-range-end.branch as (λ _. ReadsRanges options bytes text_rules p.machine.now c.args.place.index ranges rest c.if-range-end.tokenizer c.loop-range.state) [
      | then-range-end+in_ok-define_skip w ↦
          subst (λ (u : TokenizerValue _ _ _). ReadsRanges options bytes text_rules p.machine.now c.args.place.index ranges rest u c.loop-range.state) (sym w.tokenizer-is)
          (gap-passed options bytes ranges (omega (arith, tab)) range.from (omega (arith, one.forward, one.inside)) w.in_line-gap.result w.in_line-gap.ensures rest (reads-gap options bytes ranges end range.from rest w.if-range-end.true next) w.in_ok-define_skip.ensures.ok)
      | else-range-end w ↦
          subst (λ (u : TokenizerValue _ _ _). ReadsRanges options bytes text_rules p.machine.now c.args.place.index ranges rest u c.loop-range.state) (sym w.tokenizer-is)
          (reads-no-gap options bytes ranges end range.from rest w.if-range-end.false next)
    ])

pub push-requires-clause-holds : goal.push-requires-clause-holds
push-requires-clause-holds c = λ _.
    let p = c.args.parse_state.now in
    let bytes = p.bytes.now in let options = p.options.now in let ranges = c.args.ranges.now in let n = c.loop-range.range-index in let end = c.loop-range.end in
    let range = get_or ranges n none in
    let rest = from_range options bytes range (pieces_from options bytes range.to (drop (n + 1) ranges)) in
    let one = (next-range bytes end n ranges c.loop-range-test.true c.loop-range.invariant.follow).0 in
    let tab = c.requires.document.tab.0 in
    let next = reads-next options bytes ranges end n ranges none c.loop-range-test.true c.loop-range.invariant.reads in
    reads-holds (elim c.if-range-end.branch as (λ _. ReadsRanges options bytes text_rules p.machine.now c.args.place.index ranges rest c.if-range-end.tokenizer c.loop-range.state) [
      | then-range-end+in_ok-define_skip w ↦
          subst (λ (u : TokenizerValue _ _ _). ReadsRanges options bytes text_rules p.machine.now c.args.place.index ranges rest u c.loop-range.state) (sym w.tokenizer-is)
          (gap-passed options bytes ranges (omega (arith, tab)) range.from (omega (arith, one.forward, one.inside)) w.in_line-gap.result w.in_line-gap.ensures rest (reads-gap options bytes ranges end range.from rest w.if-range-end.true next) w.in_ok-define_skip.ensures.ok)
      | else-range-end w ↦
          subst (λ (u : TokenizerValue _ _ _). ReadsRanges options bytes text_rules p.machine.now c.args.place.index ranges rest u c.loop-range.state) (sym w.tokenizer-is)
          (reads-no-gap options bytes ranges end range.from rest w.if-range-end.false next)
    ])

pub loop-range-preserved : goal.loop-range-preserved
loop-range-preserved c =
    let p = c.args.parse_state.now in
    let bytes = p.bytes.now in let options = p.options.now in let ranges = c.args.ranges.now in let n = c.loop-range.range-index in let end = c.loop-range.end in
    let range = get_or ranges n none in
    let rest = from_range options bytes range (pieces_from options bytes range.to (drop (n + 1) ranges)) in
    let both = next-range bytes end n ranges c.loop-range-test.true c.loop-range.invariant.follow in
    let one = both.0 in
    let tab = c.requires.document.tab.0 in
    let next = reads-next options bytes ranges end n ranges none c.loop-range-test.true c.loop-range.invariant.reads in
    let here = elim c.if-range-end.branch as (λ _. ReadsRanges options bytes text_rules p.machine.now c.args.place.index ranges rest c.if-range-end.tokenizer c.loop-range.state) [
      | then-range-end+in_ok-define_skip w ↦
          subst (λ (u : TokenizerValue _ _ _). ReadsRanges options bytes text_rules p.machine.now c.args.place.index ranges rest u c.loop-range.state) (sym w.tokenizer-is)
          (gap-passed options bytes ranges (omega (arith, tab)) range.from (omega (arith, one.forward, one.inside)) w.in_line-gap.result w.in_line-gap.ensures rest (reads-gap options bytes ranges end range.from rest w.if-range-end.true next) w.in_ok-define_skip.ensures.ok)
      | else-range-end w ↦
          subst (λ (u : TokenizerValue _ _ _). ReadsRanges options bytes text_rules p.machine.now c.args.place.index ranges rest u c.loop-range.state) (sym w.tokenizer-is)
          (reads-no-gap options bytes ranges end range.from rest w.if-range-end.false next)
    ] in
    record { follow = both.1; line = c.counted-line.ensures; reads = reads-pushed (omega (arith, tab)) here c.in_ok-state.ensures.ok }

-- where the ranges are used up, no piece is left
all-read : {M : Type 0} (options : ParseOptions) (bytes : List ℕ) (m : M) (start : ℕ) (ranges : List ByteRange) (end n : ℕ) → length ranges ≤ n → {k : TokenizerValue M Unit Unit} {state : State}
    → ReadsRanges options bytes text_rules m start ranges (pieces_from options bytes end (drop n ranges)) k state → ReadsRanges options bytes text_rules m start ranges [] k state
all-read options bytes m start ranges end n past {k} {state} r = subst (λ (rs : List ByteRange). ReadsRanges options bytes text_rules m start ranges (pieces_from options bytes end rs) k state) (drop_all n ranges past) r

pub returns-clause-events : goal.returns-clause-events
returns-clause-events c =
    let p = c.args.parse_state.now in
    IfOk-weaker c.flush.result _ _ (λ sub f. (ranges-flushed p.options.now p.bytes.now p.machine.now c.args.place.index c.args.ranges.now c.requires.document c.requires.inside c.requires.ranges
    (all-read p.options.now p.bytes.now p.machine.now c.args.place.index c.args.ranges.now c.loop-range.end c.loop-range.range-index c.loop-range-test.false c.loop-range.invariant.reads) f).0) c.flush.ensures.ok

pub returns-clause-formed : goal.returns-clause-formed
returns-clause-formed c =
    let p = c.args.parse_state.now in
    IfOk-weaker c.flush.result _ _ (λ sub f. (ranges-flushed p.options.now p.bytes.now p.machine.now c.args.place.index c.args.ranges.now c.requires.document c.requires.inside c.requires.ranges
    (all-read p.options.now p.bytes.now p.machine.now c.args.place.index c.args.ranges.now c.loop-range.end c.loop-range.range-index c.loop-range-test.false c.loop-range.invariant.reads) f).1) c.flush.ensures.ok

-- what is no message and no failure before is want of memory
only-memory : {A : Type 0} (result : Result A Fault) → ((m : Message) → ¬ IsErrOf result (OfMessage m)) → IfErr result (λ fault. fault ≢ Failed) → IfErr result (λ fault. fault ≡ Memory)
only-memory (Ok a) message other = tt
only-memory (Err Memory) message other = refl
only-memory (Err Failed) message other = absurd (other refl)
only-memory (Err (OfMessage m)) message other = absurd (message m refl)

pub returns-clause-err : goal.returns-clause-err
returns-clause-err c =
    let p = c.args.parse_state.now in
    let left = all-read p.options.now p.bytes.now p.machine.now c.args.place.index c.args.ranges.now c.loop-range.end c.loop-range.range-index c.loop-range-test.false c.loop-range.invariant.reads in
    only-memory c.flush.result (λ m e. never-refused p.options.now p.bytes.now p.machine.now c.args.place.index c.args.ranges.now c.requires.document c.requires.inside c.requires.ranges left (c.flush.ensures.message m e)) (c.flush.ensures.err left.open_still)
