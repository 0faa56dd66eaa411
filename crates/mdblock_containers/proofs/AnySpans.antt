-- What is said of marks over virtual bytes and is kept by spans, whatever is in them.
use Rattle.std.proofs.Common.{ℕ, List, [], ◌∷◌, ◌++◌, refl}
use Rattle.markdown_base.specs.declared.event.Name.{Name}
use Rattle.markdown_base.specs.Virtual.{Seat}
use Rattle.mdconstructs_machines.proofs.Innermost.{span-more}
use Rattle.mdblock_leaf_blocks.proofs.Marks.MarkAccounts.{AreSpans, accounts-kept}
use Rattle.mdblock_leaf_blocks.proofs.Marks.MarkSpans.{IsKeptAround, no-spans, spans-around, spans-both}
use Rattle.mdblock_leaf_blocks.specs.LeafEvents.{Mark, leaf_marks}

-- What is said of marks over virtual bytes is kept by marks behind others, and by spans, alone and around others
pub record IsKeptByAnySpans (bytes : List ℕ) (P : List Mark → List Seat → Type 0) : Type 0 where
  pub none : P [] []
  pub both : (xs ys : List Mark) (a b : List Seat) → P xs a → P ys b → P (xs ++ ys) (a ++ b)
  pub alone : (n : Name) (ss : List Seat) → P (leaf_marks bytes n ss) ss
  pub around : IsKeptAround bytes P

module _ (bytes : List ℕ) where
  -- accounts of virtual bytes
  pub accounts-kept-by : IsKeptByAnySpans bytes (AreSpans bytes)
  accounts-kept-by = record {
    none = no-spans bytes (AreSpans bytes) (accounts-kept bytes);
    both = λ xs ys a b h k. spans-both bytes (AreSpans bytes) (accounts-kept bytes) h k;
    alone = alone;
    around = λ n ss inside void h. spans-around bytes (AreSpans bytes) (accounts-kept bytes) n ss inside void h;
  }
    where
      alone : (n : Name) (ss : List Seat) → AreSpans bytes (leaf_marks bytes n ss) ss
      alone n [] = no-spans bytes (AreSpans bytes) (accounts-kept bytes)
      alone n (s ∷ ss) = record { begins = refl; account = λ events more h. span-more bytes _ _ events s ss more refl refl refl refl h }
