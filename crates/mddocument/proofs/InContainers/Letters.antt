-- A document with letters in place of plain bytes is one too; and what is said of places holds of both alike: that a list is ready, and that it is well formed.
use Rattle.mddocument.proofs.Prelude.{◌≡◌, ℕ, suc, ◌<◌, Bool, true, false, cond, List, [], ◌∷◌, Option, length, refl, sym, ap, ◌∙◌, subst, arith, AllByRecursion, Contains, Content, Event, Point, IsPointOf, IsShown, Given, IsDocument, IsReady, IsShownPlace, IsWellFormed}
use Rattle.std.specs.Prelude.{◌==◌}
use Rattle.std.specs.List.{list_any}
use Rattle.markdown_base.specs.Virtual.{IsWithinLimit}
use Rattle.std.proofs.lemmas.List.Elements.{All-from_recursion, recursion_from_All}
use Rattle.mdblock_containers.proofs.LetterPlaces.{places_kept}
use Rattle.mdblock_containers.specs.Letters.{ArePlainFrom, letter, lettered_from, with_letters}

-- lists of events between documents that have the same places
module _ (t : ℕ) (a b : List ℕ) (points : (p : Point) → IsPointOf t a p → IsPointOf t b p) (shows : (p : Point) → IsShown a p → IsShown b p) where
  ready-moved : (wanted : Option Content) (events : List Event) → IsReady t a wanted events → IsReady t b wanted events
  ready-moved wanted events h =
      let place : (p : Point) → IsShownPlace t a p → IsShownPlace t b p = λ p k. (points p k.0, shows p k.1) in
      record {
        balanced = h.balanced;
        chunks = h.chunks;
        joined = h.joined;
        forward = h.forward;
        one_content = h.one_content;
        readable = λ k fit. let r = h.readable k fit in record { content = r.content; from = place _ r.from; to = place _ r.to; forward = r.forward };
        gaps = h.gaps;
      }

-- letters at these indices
module _ (at : List ℕ) where
  letter-below : (x : Bool) (b : ℕ) → b < 256 → cond x letter b < 256
  letter-below true b h = omega arith
  letter-below false b h = h

  all-below : (n : ℕ) (bs : List ℕ) → AllByRecursion (λ b. b < 256) bs → AllByRecursion (λ b. b < 256) (lettered_from n at bs)
  all-below n [] h = tt
  all-below n (b ∷ bs) h = (letter-below (list_any (λ i. i == n) at) b h.0, all-below (suc n) bs h.1)

  as-long : (n : ℕ) (bs : List ℕ) → length (lettered_from n at bs) ≡ length bs
  as-long n [] = refl
  as-long n (b ∷ bs) = ap suc (as-long (suc n) bs)

  pub lettered-limit : (t : ℕ) (bytes : List ℕ) → IsWithinLimit t bytes → IsWithinLimit t (with_letters at bytes)
  lettered-limit t bytes h = rw (as-long 0 bytes) h

  module _ (g : Given) (plain : ArePlainFrom 0 at g.bytes) where
    abbrev lettered : Given
    lettered = record g { bytes = with_letters at g.bytes }

    pub lettered-document : IsDocument g → IsDocument lettered
    lettered-document is = record {
      bytes = All-from_recursion (λ b. b < 256) (with_letters at g.bytes) (all-below 0 g.bytes (recursion_from_All (λ b. b < 256) g.bytes is.bytes));
      tab = is.tab;
      limit = lettered-limit g.tab g.bytes is.limit;
      one_size = is.one_size;
    }

    point-there : (p : Point) → IsPointOf g.tab g.bytes p → IsPointOf g.tab lettered.bytes p
    point-there p = subst (λ ps. Contains ps p) (sym (places_kept g.tab at g.bytes plain).all_points)

    point-back : (p : Point) → IsPointOf g.tab lettered.bytes p → IsPointOf g.tab g.bytes p
    point-back p = subst (λ ps. Contains ps p) (places_kept g.tab at g.bytes plain).all_points

    shown-there : (p : Point) → IsShown g.bytes p → IsShown lettered.bytes p
    shown-there p h = (places_kept g.tab at g.bytes plain).shown_at p ∙ h

    shown-back : (p : Point) → IsShown lettered.bytes p → IsShown g.bytes p
    shown-back p h = sym ((places_kept g.tab at g.bytes plain).shown_at p) ∙ h

    pub ready-there : (wanted : Option Content) (events : List Event) → IsReady g.tab g.bytes wanted events → IsReady g.tab lettered.bytes wanted events
    ready-there = ready-moved g.tab g.bytes lettered.bytes point-there shown-there

    pub ready-back : (wanted : Option Content) (events : List Event) → IsReady g.tab lettered.bytes wanted events → IsReady g.tab g.bytes wanted events
    ready-back = ready-moved g.tab lettered.bytes g.bytes point-back shown-back

    -- and so are lists that are well formed
    pub formed-there : (events : List Event) → IsWellFormed g events → IsWellFormed lettered events
    formed-there events h = record {
      balanced = h.balanced;
      void_tight = h.void_tight;
      at_places = λ i e within. point-there _ (h.at_places i e within);
      in_order = (h.in_order.0, λ i e within. shown-there _ (h.in_order.1 i e within));
    }

    pub formed-back : (events : List Event) → IsWellFormed lettered events → IsWellFormed g events
    formed-back events h = record {
      balanced = h.balanced;
      void_tight = h.void_tight;
      at_places = λ i e within. point-back _ (h.at_places i e within);
      in_order = (h.in_order.0, λ i e within. shown-back _ (h.in_order.1 i e within));
    }
