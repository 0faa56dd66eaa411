use Rattle.std.proofs.Common.{◌≡◌, ◌+◌, arith, ◌==◌, ◌-◌, ◌∷◌, [], ◌++◌, ◌∙◌, ap, cond, drop, length, map, rules, sym}
use Rattle.std.proofs.lemmas.Result.{on_ok_weaker}
use Rattle.std.specs.Prelude.{nat_lt}
use Rattle.mdinline_emphasis.specs.Searches.{as_run}
use Rattle.mdinline_links.proofs.Costs.{made-paid}
use Rattle.mdinline_links.proofs.Places.{paired-many, placed-front, placed-pairs}
use Rattle.mdinline_links.specs.declared.pieces.Fate.TheVariants.{Ends, Opens, Tail}
use Rattle.mdinline_links.specs.Laid.{piece_at, placed_at, with_fate}
use Rattle.mdinline_links.proofs.brackets.Pieces.make.Goals as goal

pub place_runs-requires : goal.place_runs-requires
place_runs-requires g c = record { many = c.requires.many ∙ sym (paired-many c.args.self.now.runs.items c.pair_behind.new.runs.items c.args.bracket.runs c.in_ok-pair_behind.ensures.pairs) }

pub returns-clause-made : goal.returns-clause-made
returns-clause-made g c =
    let old = c.args.self.now in
    let b = c.args.bracket in
    let n = b.runs in
    let paired_runs = c.pair_behind.new.runs.items in
    let h = c.in_ok-pair_behind.ensures.pairs in
    let long : c.len.result ≡ length old.pieces.items = search rules in
    let filled : nat_lt 1 c.saturating_sub-filled.result ≡ nat_lt 1 (length old.pieces.items - b.piece) = ap (nat_lt 1) (c.saturating_sub-filled.ensures ∙ ap (λ m. m - b.piece) long) in
    let tails = cond (nat_lt c.args.end c.args.tail) (piece_at c.args.end c.args.tail (Tail b.image) ∷ []) [] in
    let before = placed_at old.pieces.items (drop n old.owners.items) (drop n paired_runs) in
    on_ok_weaker c.push_some.result (λ ps. record {
      placed = drop n paired_runs;
      pairs = placed-pairs old.runs.items paired_runs n h;
      runs = ap (map as_run) (c.push_some.ensures.runs ∙ c.push.ensures.runs ∙ c.place_runs.ensures.runs) ∙ placed-front old.runs.items paired_runs n h;
      owners = c.push_some.ensures.owners ∙ c.push.ensures.owners ∙ c.place_runs.ensures.owners;
      brackets = c.push_some.ensures.brackets ∙ c.push.ensures.brackets ∙ c.place_runs.ensures.brackets;
      pieces =
          ps
          ∙ ap (λ qs. qs ++ tails) (c.in_ok-push.ensures.pieces ∙ ap (λ qs. qs ++ piece_at c.args.start c.args.end (Ends b.image (nat_lt 1 c.saturating_sub-filled.result) (c.args.end == c.args.tail)) ∷ [])
          (c.set_fate.ensures ∙ ap (with_fate b.piece (Opens b.image (nat_lt 1 c.saturating_sub-filled.result))) c.place_runs.ensures.pieces))
          ∙ ap (λ t. (with_fate b.piece (Opens b.image t) before ++ piece_at c.args.start c.args.end (Ends b.image t (c.args.end == c.args.tail)) ∷ []) ++ tails) filled;
    }) c.push_some.ensures.pieces

pub returns-clause-paid : goal.returns-clause-paid
returns-clause-paid g c =
    let turns = c.place_runs.ensures.turns in
    let runs = c.push_some.ensures.runs ∙ c.push.ensures.runs in
    let long = ap length runs in
    let placed : c.place_runs.new.turns + length c.push_some.new.self.runs.items ≡ c.pair_behind.new.turns + length c.args.self.now.runs.items =
    (let many = paired-many c.args.self.now.runs.items c.pair_behind.new.runs.items c.args.bracket.runs c.in_ok-pair_behind.ensures.pairs in omega (arith, turns, long, many)) in
    on_ok_weaker c.push_some.result (λ made. made-paid c.args.self.now c.push_some.new.self c.args.bracket c.args.start c.args.end c.args.tail made c.args.turns.now c.pair_behind.new.turns c.place_runs.new.turns c.pair_behind.ensures.linear placed)
    (returns-clause-made g c)
