-- Lemmas on the enters that are open after events, without regard to the events' links.
use Rattle.markdown_base.proofs.Prelude.{◌≡◌, ◌-◌, List, [], ◌∷◌, length, take, refl, sym, ap, ◌∙◌, take-map, map-append, length-map, map, Event, Kind, Enter, Exit, unlinked, open_after, open_events_from}

-- one event more
pub open_after-unlinked : (kind : Kind) (e : Event) (before : List Event) → open_after kind (unlinked e) (map unlinked before) ≡ map unlinked (open_after kind e before)
open_after-unlinked Enter e before = sym (map-append unlinked before (e ∷ []))
open_after-unlinked Exit e before = ap (λ n. take (n - 1) (map unlinked before)) (length-map before unlinked) ∙ take-map unlinked (length before - 1) before

-- and all of a list
pub open_events_from-unlinked : (before es : List Event) → open_events_from (map unlinked before) (map unlinked es) ≡ map unlinked (open_events_from before es)
open_events_from-unlinked before [] = refl
open_events_from-unlinked before (e ∷ es) = ap (λ xs. open_events_from xs (map unlinked es)) (open_after-unlinked e.kind e before) ∙ open_events_from-unlinked (open_after e.kind e before) es
