-- Lists of marks, made of spans over such virtual bytes that have such names, one behind another and one in another.
use Rattle.std.proofs.Common.{ℕ, List, [], ◌∷◌, ◌++◌, None}
use Rattle.std.specs.List.{AllByRecursion}
use Rattle.markdown_base.specs.declared.event.Kind.TheVariants.{Enter, Exit}
use Rattle.markdown_base.specs.declared.event.Name.{Name}
use Rattle.markdown_base.specs.declared.event.Name.TheVariants.{BlankLineEnding, LineEnding, SpaceOrTab}
use Rattle.markdown_base.specs.declared.event.Point.{Point}
use Rattle.markdown_base.specs.Virtual.{Seat, end_after}
use Rattle.mdconstructs_machines.specs.Spans.{event}
use Rattle.mdblock_leaf_blocks.specs.LeafEvents.{Mark, leaf_marks, span_marks, white}
use Rattle.markdown_base.specs.declared.event.Kind.{Kind}
use Rattle.mddocument.proofs.Walks.InnerTexts.{AnySeat}

pub record Walk (bytes : List ℕ) (Are : List Mark → Type 0) (May : Name → Type 0) (Q : Seat → Type 0) : Type 0 where
  pub none : Are []
  pub both : (xs ys : List Mark) → Are xs → Are ys → Are (xs ++ ys)
  pub over : (n : Name) (seats : List Seat) (inside : List Mark) → May n → AllByRecursion Q seats → Are inside → Are (span_marks bytes n seats inside)
  pub space : May SpaceOrTab
  pub line_ending : May LineEnding
  pub blank_ending : May BlankLineEnding

module _ {bytes : List ℕ} {Are : List Mark → Type 0} {May : Name → Type 0} {Q : Seat → Type 0} (w : Walk bytes Are May Q) where
  pub leafs : (n : Name) (seats : List Seat) → May n → AllByRecursion Q seats → Are (leaf_marks bytes n seats)
  leafs n seats m q = w.over n seats [] m q w.none

  pub whites : (seats : List Seat) → AllByRecursion Q seats → Are (white bytes seats)
  whites seats q = leafs SpaceOrTab seats w.space q

-- where virtual bytes do not matter, a span is of its marks
pub walk-of-marks : (bytes : List ℕ) (Are : List Mark → Type 0) (May : Name → Type 0) → Are [] → ((xs ys : List Mark) → Are xs → Are ys → Are (xs ++ ys))
    → ((k : Kind) (n : Name) (place : Point) → May n → Are ((event bytes k n place, None) ∷ [])) → May SpaceOrTab → May LineEnding → May BlankLineEnding → Walk bytes Are May AnySeat
walk-of-marks bytes Are May none both mark space line_ending blank_ending = record { none = none; both = both; over = over; space = space; line_ending = line_ending; blank_ending = blank_ending }
  where
    over : (n : Name) (seats : List Seat) (inside : List Mark) → May n → AllByRecursion AnySeat seats → Are inside → Are (span_marks bytes n seats inside)
    over n [] inside m q h = h
    over n (s ∷ ss) inside m q h = both (_ ∷ []) (inside ++ _ ∷ []) (mark Enter n s.point m) (both inside (_ ∷ []) h (mark Exit n (end_after s.end ss) m))
