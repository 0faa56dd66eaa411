-- A list as it is written while edits are made in it.
use Rattle.markdown_children.proofs.Prelude.{◌≡◌, ℕ, ◌+◌, ◌≤◌, List, [], ◌∷◌, ◌++◌, refl, sym, ◌∙◌, ap, append-nil, append_assoc, between, Event, Edit, AreDisjoint, AreDisjoint-le, written, end_of}

pub end_of-append : (from : ℕ) (es fs : List Edit) → end_of from (es ++ fs) ≡ end_of (end_of from es) fs
end_of-append from [] fs = refl
end_of-append from (e ∷ es) fs = end_of-append (e.index + e.remove) es fs

-- further edits are written behind the others
pub written-append : (from : ℕ) (es fs : List Edit) (events : List Event) → written from (es ++ fs) events ≡ written from es events ++ written (end_of from es) fs events
written-append from [] fs events = refl
written-append from (e ∷ es) fs events =
    let front = between from e.index events in
    ap (λ l. front ++ (e.additions ++ l)) (written-append (e.index + e.remove) es fs events)
    ∙ ap (λ l. front ++ l) (sym (append_assoc e.additions (written (e.index + e.remove) es events) (written (end_of (e.index + e.remove) es) fs events)))
    ∙ sym (append_assoc front (e.additions ++ written (e.index + e.remove) es events) (written (end_of (e.index + e.remove) es) fs events))

-- the last edit of disjoint ones ends inside the list
pub end_of-within : (from n : ℕ) (es : List Edit) → AreDisjoint from es n → end_of from es ≤ n
end_of-within from n [] d = d
end_of-within from n (e ∷ es) d = end_of-within (e.index + e.remove) n es d.1

-- and an edit that is disjoint from those before it begins at or behind their end
pub next-behind : (from n : ℕ) (es : List Edit) (d : Edit) (fs : List Edit) → AreDisjoint from (es ++ d ∷ fs) n → (end_of from es ≤ d.index) × (d.index + d.remove ≤ n)
next-behind from n [] d fs h = (h.0, AreDisjoint-le fs (d.index + d.remove) n h.1)
next-behind from n (e ∷ es) d fs h = next-behind (e.index + e.remove) n es d fs h.1

-- one edit more
pub written-push : (from : ℕ) (es : List Edit) (d : Edit) (events : List Event) → written from (es ++ d ∷ []) events ≡ (written from es events ++ between (end_of from es) d.index events) ++ d.additions
written-push from es d events =
    let front = written from es events in
    let gap = between (end_of from es) d.index events in
    written-append from es (d ∷ []) events ∙ ap (λ l. front ++ (gap ++ l)) (append-nil d.additions) ∙ sym (append_assoc front gap d.additions)
