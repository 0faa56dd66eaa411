use Rattle.markdown_base.proofs.Prelude.{◌≡◌, ◌<◌, ◌≤◌, ℕ, arith, subst}
use Rattle.markdown_base.proofs.ByteLemmas.{bytes-between}
use Rattle.markdown_base.proofs.Cuts.{cut_place, first_ordered, place_inside}
use Rattle.markdown_base.proofs.util.slice.Slice.from_position.Goals as goal

-- a number of columns that is got is above 0
some : {t n : ℕ} → n ≡ t → 1 ≤ n → 0 < t
some is least = subst (λ k. 0 < k) is least

pub spaces_before-requires : goal.spaces_before-requires
spaces_before-requires c =
    let start = c.args.position.now.start.now in
    record { tab = c.get-t.ensures.least; column = λ cut. let place = cut_place c.args.tab_size (some c.get-t.ensures.columns c.get-t.ensures.least) c.args.bytes.now start c.requires.start_is_place cut in omega (arith, place.across, place.reached.first); ordered = c.requires.ordered }

pub first_byte-from-requires : goal.first_byte-from-requires
first_byte-from-requires c =
    record { fits = omega (arith, (place_inside c.args.tab_size (some c.get-t.ensures.columns c.get-t.ensures.least) c.args.bytes.now c.args.position.now.start.now c.requires.start_is_place).0) }

pub first_byte-to-requires : goal.first_byte-to-requires
first_byte-to-requires c =
    record { fits = omega (arith, (place_inside c.args.tab_size (some c.get-t.ensures.columns c.get-t.ensures.least) c.args.bytes.now c.args.position.now.end.now c.requires.end_is_place).0) }

pub slice_bounds-result-end : goal.slice_bounds-result-end
slice_bounds-result-end c =
    omega (arith, (place_inside c.args.tab_size (some c.get-t.ensures.columns c.get-t.ensures.least) c.args.bytes.now c.args.position.now.end.now c.requires.end_is_place).1)

pub returns : goal.returns
returns c =
    let bytes = c.args.bytes.now in
    let start = c.args.position.now.start.now in
    let end = c.args.position.now.end.now in
    let is = c.get-t.ensures.columns in
    record {
      bytes = rw (c.first_byte-from.ensures, c.first_byte-to.ensures)
          (bytes-between bytes start end (first_ordered start end c.requires.ordered) (place_inside c.args.tab_size (some is c.get-t.ensures.least) bytes end c.requires.end_is_place).1);
      before = rw is at (c.spaces_before.ensures bytes (rw is c.requires.start_is_place) (rw is c.requires.end_is_place));
      after = c.spaces_after.ensures c.args.tab_size bytes (some is c.get-t.ensures.least) c.requires.start_is_place c.requires.end_is_place;
    }
