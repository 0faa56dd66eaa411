-- What is known before a line of a document: which containers are open there, and how many of them go on so far.
use Rattle.std.proofs.Common.{◌≡◌, ◌∙◌, ◌⊎◌, ℕ, suc, Bool, true, false, cond, List, [], ◌∷◌, ◌++◌, ap, append-nil, append_assoc, arith, inl, inr, length, length-append, refl, subst, sym}
use Rattle.std.proofs.lemmas.Bool.{false≢true}
use Rattle.std.proofs.lemmas.List.Sums.{fold-append}
use Rattle.std.specs.List.{AllByRecursion}
use Rattle.markdown_base.specs.declared.configuration.Constructs.{Constructs}
use Rattle.mdblock_leaf_blocks.specs.LeafBlocks.{Line}
use Rattle.mdblock_containers.proofs.FrameFacts.{lazy_is}
use Rattle.mdblock_containers.proofs.RowFacts.{BeganBefore}
use Rattle.mdblock_containers.proofs.RowReads.{old_behind}
use Rattle.mdblock_containers.proofs.RowSpans.{head_same}
use Rattle.mdblock_containers.specs.Parts.{open_behind}
use Rattle.mdblock_containers.specs.Rows.{Before, Row, closed, has_none, is_paragraph, nothing_known}
use Rattle.mdblock_definitions.proofs.KnownReads.{known-reads}
use Rattle.mdblock_definitions.proofs.KnownRows.{changed-stack}
use Rattle.mdblock_definitions.specs.Rows.{Known, known_after, row_of, rows, rows_from}
use Rattle.mdblock_definitions.specs.BlankLines.{containers_in}
use Rattle.mddocument_rules.proofs.NearQuotes.{AreNear, open-near}
use Rattle.mddocument_rules.specs.ListLaws.{still_open}

-- The last line is blank: as many containers go on behind it as went on with it
pub record IsBlankLast (b : Before) (before : List Row) : Type 0 where
  pub front : List Row
  pub blank : Row
  pub is_last : before ≡ front ++ blank ∷ []
  pub is_blank : blank.is_left_blank ≡ true
  pub depth : b.depth ≡ length blank.went_on
  pub none_open : b.leaf ≡ closed

-- all open containers go on so far, or the last line is blank
abbrev pub GoesOn : Before → List Row → Type 0
GoesOn b before = (b.depth ≡ length b.stack) ⊎ IsBlankLast b before

-- What is known behind these lines, before the line of this number
pub record IsBehind (before : List Row) (k : Known) (n : ℕ) : Type 0 where
  pub stack : k.before.stack ≡ still_open before
  pub old : AllByRecursion (BeganBefore n) k.before.stack
  pub depth : GoesOn k.before before
  pub number : n ≡ suc (length before)

-- ---- behind one line more
module _ (on : Constructs) (k : Known) (n : ℕ) (l : Line) where
  abbrev r : Row
  r = row_of on k n l

  goes-next : (before : List Row) → GoesOn k.before before → GoesOn (known_after on k r).before (before ++ r ∷ [])
  goes-next before h = by r.is_left_blank r.is_lazy refl refl h
    where
      by : (x y : Bool) → r.is_left_blank ≡ x → r.is_lazy ≡ y → GoesOn k.before before
          → GoesOn (cond x (record k.before { depth = length r.went_on; leaf = closed }) (cond y (record k.before { leaf = r.leaf }) (record { stack = containers_in r; depth = length (containers_in r); leaf = r.leaf }))) (before ++ r ∷ [])
      by true y ex ey h = inr (record { front = before; blank = r; is_last = refl; is_blank = ex; depth = refl; none_open = refl })
      by false true ex ey (inl e) = inl e
      by false true ex ey (inr b) = absurd (false≢true (sym (ap is_paragraph b.none_open) ∙ (lazy_is on k.before n l ey).1))
      by false false ex ey h = inl refl

  pub behind-next : (before : List Row) → IsBehind before k n → IsBehind (before ++ r ∷ []) (known_after on k r) (suc n)
  behind-next before h = record {
    stack = changed-stack on k n l ∙ ap (λ cs. open_behind cs r) h.stack ∙ sym (fold-append open_behind [] before (r ∷ []));
    old = old_behind on (known-reads on) k n l h.old;
    depth = goes-next before h.depth;
    number = let e = h.number in let more = length-append before (r ∷ []) in omega (arith, e, more);
  }

-- ---- any line

-- A line, read by what is known behind those before it
pub record IsReadBehind (on : Constructs) (before : List Row) (r : Row) : Type 0 where
  pub known : Known
  pub number : ℕ
  pub line : Line
  pub is : r ≡ row_of on known number line
  pub behind : IsBehind before known number
  pub near : AreNear on known.before.stack

module _ (on : Constructs) where
  reach : (done : List Row) (k : Known) (n : ℕ) (ls : List Line) → IsBehind done k n → AreNear on k.before.stack → (before : List Row) (r : Row) (rest : List Row) → rows_from on k n ls ≡ before ++ r ∷ rest → IsReadBehind on (done ++ before) r
  reach done k n [] h near [] r rest e = absurd (false≢true (sym (ap has_none e)))
  reach done k n [] h near (b ∷ before) r rest e = absurd (false≢true (sym (ap has_none e)))
  reach done k n (l ∷ ls) h near [] r rest e =
      let same = head_same (row_of on k n l) r (rows_from on (known_after on k (row_of on k n l)) (suc n) ls) rest e in
      subst (λ d. IsReadBehind on d r) (sym (append-nil done)) (record { known = k; number = n; line = l; is = sym same.0; behind = h; near = near })
  reach done k n (l ∷ ls) h near (b ∷ before) r rest e =
      let x = row_of on k n l in
      let same = head_same x b (rows_from on (known_after on k x) (suc n) ls) (before ++ r ∷ rest) e in
      let more = reach (done ++ x ∷ []) (known_after on k x) (suc n) ls (behind-next on k n l done h) (open-near on k n l near) before r rest same.1 in
      subst (λ d. IsReadBehind on d r) (append_assoc done (x ∷ []) before ∙ ap (λ y. done ++ y ∷ before) same.0) more

  -- before the first line
  pub first-behind : IsBehind [] (record { before = nothing_known on; text = [] }) 1
  first-behind = record { stack = refl; old = tt; depth = inl refl; number = refl }

  pub read-behind : (ls : List Line) (before : List Row) (r : Row) (rest : List Row) → rows on ls ≡ before ++ r ∷ rest → IsReadBehind on before r
  read-behind ls before r rest e = reach [] (record { before = nothing_known on; text = [] }) 1 ls first-behind tt before r rest e
