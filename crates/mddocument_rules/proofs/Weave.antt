-- A list with children in place of its chains is a walk, if the list is one, and each child is where its chunks stand: a child goes on from chunk to
-- chunk with what is around it, and between two chunks stands what may stand anywhere.
use Rattle.mddocument_rules.proofs.Prelude.{◌≡◌, ◌∙◌, ℕ, suc, ◌+◌, List, [], ◌∷◌, ◌++◌, Option, Some, drop, length, sym, ap, subst, arith, AllByRecursion, between, slice_get, drop-at, Content, Event, Kind, Enter, Exit, Name, IsBalanced, relinked, next_of, every-all, Fits, chunk, fits_next, fitting_starts, IsReady}
use Rattle.markdown_edits.proofs.Edits.Passes.{woven-pass}
use Rattle.markdown_edits.specs.Woven.{AreApart, Change, Tagged, placed_end, placed_in, woven}
use Rattle.markdown_children.proofs.ChainOrder.Spaced.{changes_are_apart}
use Rattle.markdown_children.proofs.Parts.Kept.{after_changes, joined, part_after, split-at, untagged, untagged-olds, with_children_holds}
use Rattle.markdown_children.specs.Children.{child_changes, part_changes, with_children}
use Rattle.markdown_children.specs.LawStatements.{AreSpaced, LeadOnFrom}
use Rattle.markdown_children.specs.Parts.{Divided, divided_over}
use Rattle.mddocument_rules.proofs.Walk.{IfEnter, Stays, Walks, behind-balanced, behind-both, behind_all, behind_one, stays-behind, stays-first, walks-both, walks-split}

-- What is asked of an event; where chunks stand; and where what is between chunks may stand
module _ (P : List Name → Event → Type 0) (relinks : (around : List Name) (f : ℕ → Option ℕ) (e : Event) → P around e → P around (relinked f e))
    (Fit Ok : List Name → Type 0) where
  -- what a chain is read as: it stands where its chunk does
  pub record IsChild (es : List Event) : Type 0 where
    pub balanced : IsBalanced es
    pub walks : (around : List Name) → Fit around → Walks P around es
    pub stays : (around : List Name) → Fit around → Stays Ok around es

  walks-placed : (around : List Name) (ts us : List Tagged) → Walks P around (untagged us) → Walks P around (placed_in ts us)
  walks-placed around ts [] h = tt
  walks-placed around ts (u ∷ us) h = (enters u.event.kind h.0, walks-placed (behind_one u.event.kind u.event.name around) ts us h.1)
    where
      enters : (k : Kind) → IfEnter k (P around u.event) → IfEnter k (P around (relinked (placed_end ts u.identity) u.event))
      enters Enter h = relinks around (placed_end ts u.identity) u.event h
      enters Exit h = tt

  module _ (tab : ℕ) (bytes : List ℕ) (wanted : Option Content) (events : List Event) (ready : IsReady tab bytes wanted events)
      (fit : (k : ℕ) (at : Fits wanted events k) (around : List Name) → P around (chunk tab bytes wanted events ready k at).enter → Fit around)
      (gap : (k d : ℕ) → Fits wanted events k → next_of events k ≡ Some d → (around within : List Name) → Fit around → Walks P around (between (k + 2) d events) → Ok within → Walks P within (between (k + 2) d events)) where
    abbrev n : ℕ
    n = length events

    -- a chunk, and what is behind it
    at-chunk : (k : ℕ) → Fits wanted events k → (around : List Name) → Walks P around (drop k events) → Fit around × Walks P around (drop (k + 2) events)
    at-chunk k h around w =
        let c = chunk tab bytes wanted events ready k h in
        let one : suc k ≡ k + 1 = omega arith in
        let two : suc (suc k) ≡ k + 2 = omega arith in
        let is : drop k events ≡ c.enter ∷ c.exit ∷ drop (k + 2) events =
        drop-at events k c.enter c.enter_at ∙ ap (λ ys. c.enter ∷ ys) (drop-at events (suc k) c.exit (ap (slice_get events) one ∙ c.exit_at) ∙ ap (λ m. c.exit ∷ drop m events) two) in
        let there : Walks P around (c.enter ∷ c.exit ∷ drop (k + 2) events) = subst (Walks P around) is w in
        let enters : P around c.enter = subst (λ (x : Kind). IfEnter x (P around c.enter)) c.linked.enter there.0 in
        let behind : Walks P (c.enter.name ∷ around) (c.exit ∷ drop (k + 2) events) = subst (λ (x : Kind). Walks P (behind_one x c.enter.name around) (c.exit ∷ drop (k + 2) events)) c.linked.enter there.1 in
        let last : Walks P around (drop (k + 2) events) = subst (λ (x : Kind). Walks P (behind_one x c.exit.name (c.enter.name ∷ around)) (drop (k + 2) events)) c.ended.exits behind.1 in
        (fit k h around enters, last)

    abbrev Keeps : List Change → ℕ → Type 0
    Keeps ws i = (around : List Name) → Walks P around (drop i events) → Walks P around (after_changes events ws i)

    -- the parts of a child behind the chunk at k, and what is behind its chain
    through : (c j k : ℕ) (ks more : List ℕ) (ps : List (List Event)) (ws : List Change) → Fits wanted events k → LeadOnFrom events k ks → length ks ≡ length ps → AreSpaced (k + 2) (ks ++ more) n
        → ((m : ℕ) → AreSpaced m more n → Keeps ws m) → (around within : List Name) → Fit around → Walks P around (drop (k + 2) events) → Walks P within (joined ps) → Stays Ok within (joined ps)
        → behind_all within (joined ps) ≡ around → Walks P within (after_changes events (part_changes c j ks ps ++ ws) (k + 2))
    through c j k [] more [] ws h lead e sp keeps around within f w inside stays ends = keeps (k + 2) sp within (subst (λ a. Walks P a (drop (k + 2) events)) (sym ends) w)
    through c j k (d ∷ ks) more (p ∷ ps) ws h lead e sp keeps around within f w inside stays ends =
        let g = between (k + 2) d events in
        let balanced = (ready.gaps k d h lead.0).balanced in
        let both : Walks P around (g ++ drop d events) = subst (Walks P around) (split-at events (k + 2) d sp.0) w in
        let parts = walks-split P around g (drop d events) both in
        let next = fits_next tab bytes wanted events ready k d h lead.0 in
        let further = at-chunk d next around (subst (λ a. Walks P a (drop d events)) (behind-balanced balanced around) parts.1) in
        let here = walks-split P within p (joined ps) inside in
        let rest = after_changes events (part_changes c (j + length p) ks ps ++ ws) (d + 2) in
        let tail : Walks P (behind_all within p) rest =
        through c (j + length p) d ks more ps ws next lead.2 (omega arith) sp.1 keeps around (behind_all within p) f further.1 here.1 (stays-behind Ok within p (joined ps) stays) (sym (behind-both within p (joined ps)) ∙ ends) in
        let between-them : Walks P within g = gap k d h lead.0 around within f parts.0 (stays-first Ok within (joined (p ∷ ps)) stays) in
        let last : Walks P (behind_all within g) (p ++ rest) = subst (λ a. Walks P a (p ++ rest)) (sym (behind-balanced balanced within)) (walks-both P within p rest here.0 tail) in
        subst (Walks P within) (sym (part_after events c j (k + 2) d ks p ps ws sp.0)) (walks-both P within g (p ++ rest) between-them last)
    through c j k ks more ps ws h lead e sp keeps around within f w inside stays ends = absurd (omega arith)

    one-chain : (c i : ℕ) (ks more : List ℕ) (ps : List (List Event)) (ws : List Change) → Fits wanted events c → LeadOnFrom events c ks → length (c ∷ ks) ≡ length ps → IsChild (joined ps) → Unit {0}
        → AreSpaced i (c ∷ (ks ++ more)) n → ((m : ℕ) → AreSpaced m more n → Keeps ws m) → Keeps (part_changes c 0 (c ∷ ks) ps ++ ws) i
    one-chain c i ks more [] ws h lead e child t sp keeps around w = absurd (omega arith)
    one-chain c i ks more (p ∷ ps) ws h lead e child t sp keeps around w =
        let front = between i c events in
        let parts = walks-split P around front (drop c events) (subst (Walks P around) (split-at events i c sp.0) w) in
        let there = behind_all around front in
        let at = at-chunk c h there parts.1 in
        let here = walks-split P there p (joined ps) (child.walks there at.0) in
        let rest = after_changes events (part_changes c (0 + length p) ks ps ++ ws) (c + 2) in
        let tail : Walks P (behind_all there p) rest =
        through c (0 + length p) c ks more ps ws h lead (omega arith) sp.1 keeps there (behind_all there p) at.0 at.1 here.1 (stays-behind Ok there p (joined ps) (child.stays there at.0))
        (sym (behind-both there p (joined ps)) ∙ behind-balanced child.balanced there) in
        subst (Walks P around) (sym (part_after events c 0 i c ks p ps ws sp.0)) (walks-both P around front (p ++ rest) parts.0 (walks-both P there p rest here.0 tail))

    -- The list with children in place of its chains
    pub children-walk : (children : List (List Event)) → AllByRecursion IsChild children → Walks P [] events → Walks P [] (with_children wanted events children)
    children-walk children each w =
        let ws : List Change = child_changes wanted events children in
        let kept : Keeps ws 0 =
        with_children_holds tab bytes wanted events ready Keeps IsChild (λ ks ps. Unit {0}) (λ i around h. subst (Walks P around) (sym (untagged-olds i (drop i events))) h) one-chain children each
        (every-all (λ (d : Divided). Unit {0}) (λ d. tt) (divided_over events (fitting_starts wanted events) children)) in
        let z : n ≡ 0 + n = omega arith in
        let apart = subst (AreApart 0 ws) z (changes_are_apart tab bytes wanted events children ready).apart in
        walks-placed [] (woven ws 0 events) (woven ws 0 events) (subst (λ (ts : List Tagged). Walks P [] (untagged ts)) (sym (woven-pass ws 0 events apart)) (kept [] w))
