use Rattle.markdown_tokenizer.proofs.Prelude.{◌≡◌, ℕ, List, Some, true, sym, ◌∙◌, subst, false≢true, Point, point_at, denotes_same, is_upto, IsRangeFrom, FollowOn, after_any}
use Rattle.markdown_tokenizer.proofs.Positions.Cursors.{same-back, same-same}
use Rattle.markdown_tokenizer.proofs.ranges.end_after.Goals as goal

-- the points of a range are the points of its places
module _ (t : ℕ) (bytes : List ℕ) (p : Point) (from to : ℕ × ℕ) (first last : Point) (from_is : point_at t bytes from ≡ Some first) (to_is : point_at t bytes to ≡ Some last) (r : IsRangeFrom t bytes p from to) where
  range-is : (denotes_same t bytes first p ≡ true) × (is_upto t bytes first last ≡ true)
  range-is =
      let e : r.first ≡ first = cc in
      let f : r.last ≡ last = cc in
      subst (λ (q : Point). (denotes_same t bytes q p ≡ true) × (is_upto t bytes q last ≡ true)) e (r.begins, subst (λ (q : Point). is_upto t bytes r.first q ≡ true) f r.upto)

pub returns-then-not-denote_same-clause-none : goal.returns-then-not-denote_same-clause-none
returns-then-not-denote_same-clause-none c none rest h =
    let bytes = c.args.bytes.now in let tab = c.args.tab in let range = c.args.range in
    let p = after_any tab bytes c.args.end range.0 in
    let start = c.in-Some.start in let from = c.in-Some-point_at.from in
    false≢true (sym (sym c.denote_same.ensures ∙ c.if-not-denote_same.true) ∙ same-same tab bytes from p start
    (range-is tab bytes p range.1 range.2 from _ (sym c.point_at.ensures ∙ c.in-Some-point_at.is) (sym c.point_at-2.ensures ∙ c.in-Some-point_at-2.is) h.1).0
    (same-back tab bytes start p c.in-Some.ensures.start))

pub returns-then-not-is_up_to-clause-none : goal.returns-then-not-is_up_to-clause-none
returns-then-not-is_up_to-clause-none c none rest h =
    let bytes = c.args.bytes.now in let tab = c.args.tab in let range = c.args.range in
    let p = after_any tab bytes c.args.end range.0 in
    false≢true (sym (sym c.is_up_to.ensures ∙ c.if-not-is_up_to.true)
    ∙ (range-is tab bytes p range.1 range.2 _ _ (sym c.point_at.ensures ∙ c.in-Some-point_at.is) (sym c.point_at-2.ensures ∙ c.in-Some-point_at-2.is) h.1).1)

pub returns-clause-some : goal.returns-clause-some
returns-clause-some c rest =
    let bytes = c.args.bytes.now in let tab = c.args.tab in let range = c.args.range in
    let p = after_any tab bytes c.args.end range.0 in
    let start = c.in-Some.start in let from = c.in-Some-point_at.from in let to = c.in-Some-point_at-2.to in
    let to_is = sym c.point_at-2.ensures ∙ c.in-Some-point_at-2.is in
    let is_range : IsRangeFrom tab bytes p range.1 range.2 = record {
      first = from;
      last = to;
      from_is = sym c.point_at.ensures ∙ c.in-Some-point_at.is;
      to_is = to_is;
      begins = same-same tab bytes from start p (sym c.denote_same.ensures ∙ c.if-not-denote_same.false) c.in-Some.ensures.start;
      upto = sym c.is_up_to.ensures ∙ c.if-not-is_up_to.false;
    } in (
      (λ h. let e : h.1.last ≡ to = cc (h.1.to_is) in subst (λ (q : Point). FollowOn tab bytes q rest) e h.2),
      λ h. (c.in-Some.ensures.leads, is_range, h),
    )
