-- A start that registers the resolver and goes on with a state between items is read as that state is.
use Rattle.mdinline_machine.proofs.Prelude.{as_asked, ◌≡◌, [], ◌∷◌, Bool, true, false, refl, subst, length, nat_lt, Name, Next, Retry, Nothing, with_local, Configuration, Local, start_configuration, fed, Given, Text, row, write, counts, seen, IsAfter, after-call, Ending, leads-unfed, EndsWith, HasRow, Plays, between_items, leads-fed, leads-row, registers}

-- what states share at the start
abbrev pub start_local : Bool → Local Unit Unit
start_local flag = let k : Configuration Unit Unit = start_configuration flag in k.local

module _ (g : Given) (text : Text) (m : Plays g text) where
  -- by then one call was counted
  pub from-registering-in : (start name : Name) → ((k : Configuration Unit Unit) → HasRow g text m.step k start (row (write registers ∷ []) (Retry name))) → (es : Ending) → (flag : Bool)
      → ((local : Local Unit Unit) → IsAfter 1 (start_local flag) local → EndsWith g text m (between_items 0 Nothing false [] local) [] (Next name) es) → EndsWith g text m (start_configuration flag) [] (Next start) es
  from-registering-in start name has es flag between =
      let k : Configuration Unit Unit = start_configuration flag in
      let first = with_local k (counts k.local) in
      let k1 = with_local first (registers first) in
      let same : fed text k1 ≡ with_local (fed text k) k1.local = elim (nat_lt 0 (length text.seats)) as (λ b. seen b k1 ≡ with_local (seen b k) k1.local) [ true ↦ refl | false ↦ refl ] in
      let local_is : k1.local ≡ (registers (with_local (fed text k) (counts (fed text k).local))) =
      elim (nat_lt 0 (length text.seats)) as (λ b. k1.local ≡ registers (with_local (seen b k) (counts (seen b k).local))) [ true ↦ refl | false ↦ refl ] in
      let once = after-call k.local in
      let called : EndsWith g text m (fed text k1) [] (Retry name) es =
      leads-unfed as_asked g text m.step k1 [] name es (between k1.local (record { calls = once.calls; same = once.same })) in
      leads-fed g text m k [] start es
      (leads-row g text m (row (write registers ∷ []) (Retry name)) (fed text k) [] start es (has (fed text k))
      (subst (λ l. EndsWith g text m (with_local (fed text k) l) [] (Retry name) es) local_is (subst (λ k. EndsWith g text m k [] (Retry name) es) same called)))

  pub from-registering : (start name : Name) → ((k : Configuration Unit Unit) → HasRow g text m.step k start (row (write registers ∷ []) (Retry name))) → (es : Ending)
      → ((local : Local Unit Unit) → EndsWith g text m (between_items 0 Nothing false [] local) [] (Next name) es) → (flag : Bool) → EndsWith g text m (start_configuration flag) [] (Next start) es
  from-registering start name has es between flag = from-registering-in start name has es flag (λ local once. between local)
