use Rattle.markdown_children.proofs.Prelude.{◌≡◌, ℕ, zero, suc, ◌<◌, ◌⊎◌, inl, inr, true, false, List, [], ◌∷◌, length, get_or, Option, Some, refl, sym, ◌∙◌, ap, subst, arith, ◌&&◌, is_none, Contains, none-some, same_Some, Content, Event, next_of, previous_of, chain_of, fits, begins, IsReady, LeadOnFrom, IsInChain, IsInOneChain, and_parts, ⊎_elim}
use Rattle.markdown_children.proofs.ChainOrder.Following.{by_option, fits_back, whole-from, follow_one_another}
use Rattle.markdown_children.proofs.ChainOrder.Spaced.{changes_are_apart}
use Rattle.markdown_children.proofs.laws.a_ready_list_has_ordered_chains.Goals as goal

-- an index is among others
abbrev IsAmong : ℕ → List ℕ → Type 0
IsAmong k [] = ⊥
IsAmong k (x ∷ xs) = (x ≡ k) ⊎ IsAmong k xs

to-contains : (k : ℕ) (xs : List ℕ) → IsAmong k xs → Contains xs k
to-contains k [] h = absurd h
to-contains k (x ∷ xs) (inl e) = (0, omega arith, e)
to-contains k (x ∷ xs) (inr h) = let r = to-contains k xs h in let l : r.0 < length xs = r.1 in (suc r.0, omega arith, r.2)

from-contains : (k : ℕ) (xs : List ℕ) (i : ℕ) → i < length xs → get_or xs i k ≡ k → IsAmong k xs
from-contains k [] i l e = absurd (omega arith)
from-contains k (x ∷ xs) zero l e = inl e
from-contains k (x ∷ xs) (suc i) l e = inr (from-contains k xs i (omega arith) e)

module _ (tab : ℕ) (bytes : List ℕ) (wanted : Option Content) (events : List Event) (ready : IsReady tab bytes wanted events) where
  -- what follows a chunk of a chain is in the chain
  among-next : (c : ℕ) (ks : List ℕ) (p k : ℕ) → LeadOnFrom events c ks → next_of events p ≡ Some k → IsAmong p (c ∷ ks) → IsAmong k ks
  among-next c [] p k lead e (inl s) = absurd (none-some k (sym lead ∙ ap (next_of events) s ∙ e))
  among-next c (d ∷ ks) p k lead e (inl s) = inl (let q : Some d ≡ Some k = sym lead.0 ∙ ap (next_of events) s ∙ e in cc)
  among-next c [] p k lead e (inr h) = absurd h
  among-next c (d ∷ ks) p k lead e (inr h) = inr (among-next d ks p k lead.2 e h)

  -- a chunk of a chain, but for the first, has one before it in the chain
  before : (c : ℕ) (ks : List ℕ) (k : ℕ) → LeadOnFrom events c ks → IsAmong k ks → (p : ℕ) × (previous_of events k ≡ Some p) × IsAmong p (c ∷ ks)
  before c [] k lead h = absurd h
  before c (d ∷ ks) k lead (inl s) = (c, ap (previous_of events) (sym s) ∙ (ready.joined c d).0 lead.0, inl refl)
  before c (d ∷ ks) k lead (inr h) = let r = before d ks k lead.2 h in (r.0, r.1, inr r.2)

  among : (k c : ℕ) → begins wanted events c ≡ true → IsInChain events k c → (ks : List ℕ) × (chain_of events c ≡ c ∷ ks) × LeadOnFrom events c ks × IsAmong k (c ∷ ks)
  among k c b h =
      let w = whole-from tab bytes wanted events ready c (and_parts (fits wanted events c) (is_none (previous_of events c)) b).0 in
      (w.0, w.1, w.2, subst (IsAmong k) w.1 (from-contains k (chain_of events c) h.0 h.1 h.2))

  in-chain : (k c : ℕ) (ks : List ℕ) → chain_of events c ≡ c ∷ ks → IsAmong k (c ∷ ks) → IsInChain events k c
  in-chain k c ks e h = subst (λ (xs : List ℕ). Contains xs k) (sym e) (to-contains k (c ∷ ks) h)

  one_chain : (f k : ℕ) → k < f → fits wanted events k ≡ true → IsInOneChain wanted events k
  one_chain zero k l h = absurd (omega arith)
  one_chain (suc f) k l h = by_option (previous_of events k)
      (λ e.
      let w = whole-from tab bytes wanted events ready k h in
      record {
        chain = k;
        begin = (λ j. h j && is_none (e j));
        member = in-chain k k w.0 w.1 (inl refl);
        only = λ c b m. let a = among k c b m in ⊎_elim (λ (s : c ≡ k). s) (λ (r : IsAmong k a.0). let p = before c a.0 k a.2 r in absurd (none-some p.0 (sym e ∙ p.1))) a.3;
      })
      (λ p e.
      let on : next_of events p ≡ Some k = (ready.joined p k).1 e in
      let rises = ready.forward p k on in
      let r = one_chain f p (omega arith) (fits_back tab bytes wanted events ready p k h on) in
      let a = among p r.chain r.begin r.member in
      record {
        chain = r.chain;
        begin = r.begin;
        member = in-chain k r.chain a.0 a.1 (inr (among-next r.chain a.0 p k a.2 on a.3));
        only = λ c d m.
            let b = among k c d m in
            r.only c d (in-chain p c b.0 b.1 (⊎_elim
            (λ (s : c ≡ k). absurd (let t : false ≡ true = sym (ap is_none (ap (previous_of events) s ∙ e)) ∙ (and_parts (fits wanted events c) (is_none (previous_of events c)) d).1 in cc))
            (λ (q : IsAmong k b.0). let y = before c b.0 k b.2 q in subst (λ (x : ℕ). IsAmong x (c ∷ b.0)) (same_Some y.0 p (sym y.1 ∙ e)) y.2)
            b.3));
      })

pub returns : goal.returns
returns c = λ tab bytes wanted events ready. record {
  follow = follow_one_another tab bytes wanted events ready;
  once = λ k h. one_chain tab bytes wanted events ready (suc k) k (omega arith) h;
  apart = λ children. changes_are_apart tab bytes wanted events children ready;
}
