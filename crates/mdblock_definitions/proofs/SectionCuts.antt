-- Sections of a part are lines of it, one behind another.
use Rattle.std.proofs.Common.{◌≡◌, ℕ, zero, suc, ◌+◌, ◌*◌, ◌^◌, ◌<◌, List, [], ◌∷◌, ◌++◌, append_assoc, length, drop, take, sym, ap, ◌∙◌, subst}
use Rattle.std.proofs.lemmas.List.{take-append-drop}
use Rattle.mdblock_lines.specs.Containers.{Container}
use Rattle.mdblock_containers.specs.declared.spans.RowAt.{RowAt}
use Rattle.mdblock_containers.specs.Parts.{open_behind}
use Rattle.mdblock_containers.specs.Rest.{AreLeft}
use Rattle.mdblock_containers.specs.Rows.{Row}
use Rattle.mdblock_containers.specs.Skeleton.{Part}
use Rattle.mdblock_containers.specs.Spans.{AreRowsIn, IsRowIn}
use Rattle.mdblock_containers.specs.Stretches.{AreFurther}
use Rattle.mdblock_containers.proofs.PartFacts.{next_few, next_outside}
use Rattle.mdblock_definitions.specs.Sectioned.{IsLater, IsSectionOf}

module _ (t : ℕ) (bytes : List ℕ) (some : 0 < t) (limit : t * length bytes + 1 < 2 ^ 64) (stack : List Container) where
  further-front : (n number start : ℕ) (xs : List RowAt) (rs : List Row) → AreFurther t bytes stack number start xs rs → AreFurther t bytes stack number start (take n xs) (take n rs)
  further-front zero number start xs rs are = tt
  further-front (suc n) number start [] [] are = tt
  further-front (suc n) number start [] (r ∷ rs) are = absurd are
  further-front (suc n) number start (x ∷ xs) [] are = absurd are
  further-front (suc n) number start (x ∷ xs) (r ∷ rs) are = (are.0, are.1, further-front n (suc number) x.span.next xs rs are.2)

  -- further lines of a part, and those that are left behind them
  pub record AreBoth (xs : List RowAt) (rs : List Row) (behind : List RowAt) (rest : List Row) : Type 0 where
    pub before : List Container
    pub left : AreLeft bytes t before (xs ++ behind) (rs ++ rest)
    pub further : AreFurther t bytes stack left.number left.start xs rs

  -- behind so many of them
  pub both-behind : (n : ℕ) (xs : List RowAt) (rs : List Row) (behind : List RowAt) (rest : List Row) → AreBoth xs rs behind rest → AreBoth (drop n xs) (drop n rs) behind rest
  both-behind zero xs rs behind rest b = b
  both-behind (suc n) [] [] behind rest b = b
  both-behind (suc n) [] (r ∷ rs) behind rest b = absurd b.further
  both-behind (suc n) (x ∷ xs) [] behind rest b = absurd b.further
  both-behind (suc n) (x ∷ xs) (r ∷ rs) behind rest b =
      both-behind n xs rs behind rest
      (record {
        before = open_behind b.before r;
        left = record {
          number = suc b.left.number;
          start = x.span.next;
          are = b.left.are.1;
          outside = next_outside t bytes some limit b.before x (xs ++ behind) r (rs ++ rest) b.left;
          few = next_few t bytes some limit b.before x (xs ++ behind) r (rs ++ rest) b.left;
        };
        further = b.further.2;
      })

  cut-rows : {A : Type 0} (n : ℕ) (xs behind : List A) → xs ++ behind ≡ take n xs ++ (drop n xs ++ behind)
  cut-rows n xs behind = ap (λ l. l ++ behind) (sym (take-append-drop n xs)) ∙ append_assoc (take n xs) (drop n xs) behind

  -- the first section
  pub first-section : (n : ℕ) (x : RowAt) (xs : List RowAt) (around p : Part) → IsSectionOf t bytes stack x xs around → p.first ≡ around.first → p.more ≡ take n around.more → IsSectionOf t bytes stack x (take n xs) p
  first-section n x xs around p s ef em =
      let left : AreLeft bytes t s.before (x ∷ (take n xs ++ (drop n xs ++ s.behind))) (p.first ∷ (p.more ++ (drop n around.more ++ s.rest))) =
      record {
        number = s.left.number;
        start = s.left.start;
        are = subst (λ (l : List RowAt). AreRowsIn t bytes s.before s.left.number s.left.start (x ∷ l) (p.first ∷ (p.more ++ (drop n around.more ++ s.rest)))) (cut-rows n xs s.behind)
            (subst (λ (l : List Row). AreRowsIn t bytes s.before s.left.number s.left.start (x ∷ (xs ++ s.behind)) l) rows s.left.are);
        outside = s.left.outside;
        few = s.left.few;
      } in
      record {
        before = s.before;
        behind = drop n xs ++ s.behind;
        rest = drop n around.more ++ s.rest;
        left = left;
        further = subst (λ (l : List Row). AreFurther t bytes stack (suc s.left.number) x.span.next (take n xs) l) (sym em) (further-front n (suc s.left.number) x.span.next xs around.more s.further);
      }
    where
      rows : around.first ∷ (around.more ++ s.rest) ≡ p.first ∷ (p.more ++ (drop n around.more ++ s.rest))
      rows = λ k. sym ef k ∷ ((cut-rows n around.more s.rest ∙ ap (λ l. l ++ (drop n around.more ++ s.rest)) (sym em)) k)

  -- a further one
  pub later-section : (n : ℕ) (x : RowAt) (xs : List RowAt) (r : Row) (rs : List Row) (behind : List RowAt) (rest : List Row) (p : Part) → AreBoth (x ∷ xs) (r ∷ rs) behind rest → p.first ≡ r → p.more ≡ take n rs → IsLater t bytes stack x (take n xs) p
  later-section n x xs r rs behind rest p b ef em =
      let left : AreLeft bytes t b.before (x ∷ (take n xs ++ (drop n xs ++ behind))) (p.first ∷ (p.more ++ (drop n rs ++ rest))) =
      record {
        number = b.left.number;
        start = b.left.start;
        are = subst (λ (l : List RowAt). AreRowsIn t bytes b.before b.left.number b.left.start (x ∷ l) (p.first ∷ (p.more ++ (drop n rs ++ rest)))) (cut-rows n xs behind)
            (subst (λ (l : List Row). AreRowsIn t bytes b.before b.left.number b.left.start (x ∷ (xs ++ behind)) l) rows b.left.are);
        outside = b.left.outside;
        few = b.left.few;
      } in
      record {
        is = record {
          before = b.before;
          behind = drop n xs ++ behind;
          rest = drop n rs ++ rest;
          left = left;
          further = subst (λ (l : List Row). AreFurther t bytes stack (suc b.left.number) x.span.next (take n xs) l) (sym em) (further-front n (suc b.left.number) x.span.next xs rs b.further.2);
        };
        row = subst (IsRowIn t bytes stack b.left.number b.left.start x) (sym ef) b.further.0;
        begun = ap (λ (q : Row). q.begun) ef ∙ b.further.1;
      }
    where
      rows : r ∷ (rs ++ rest) ≡ p.first ∷ (p.more ++ (drop n rs ++ rest))
      rows = λ k. sym ef k ∷ ((cut-rows n rs rest ∙ ap (λ l. l ++ (drop n rs ++ rest)) (sym em)) k)

  pub both-of : (x : RowAt) (xs : List RowAt) (p : Part) (s : IsSectionOf t bytes stack x xs p) → AreBoth xs p.more s.behind s.rest
  both-of x xs p s = record {
    before = open_behind s.before p.first;
    left = record {
      number = suc s.left.number;
      start = x.span.next;
      are = s.left.are.1;
      outside = next_outside t bytes some limit s.before x (xs ++ s.behind) p.first (p.more ++ s.rest) s.left;
      few = next_few t bytes some limit s.before x (xs ++ s.behind) p.first (p.more ++ s.rest) s.left;
    };
    further = s.further;
  }
