-- A list that is ready: "ab" in two chunks, linked as Text.
use Rattle.markdown_children.proofs.Prelude.{◌≡◌, ℕ, zero, suc, ◌+◌, true, List, [], ◌∷◌, Option, Some, None, refl, arith, Event, Enter, Exit, Data, point, IsReady, is_sound_at, can_be_read_at, is_place, and_parts, ◌&&◌, ◌<◌}
use Rattle.markdown_base.specs.declared.event.Content.TheVariants.{Text}
use Rattle.markdown_children.proofs.Ready.Decided.{ready-of}
use Rattle.markdown_children.proofs.Ready.Reached.{place-sound}

abbrev bytes : List ℕ
bytes = 97 ∷ 98 ∷ []

abbrev enter : ℕ → Option ℕ → Option ℕ → Event
enter i p n = record { kind = Enter; name = Data; point = point 1 (i + 1) i 0; link = Some (record { previous = p; next = n; content = Text }) }

abbrev exit : ℕ → Event
exit i = record { kind = Exit; name = Data; point = point 1 (i + 1) i 0; link = None }

abbrev two : List Event
two = enter 0 None (Some 2) ∷ exit 1 ∷ enter 1 (Some 0) None ∷ exit 2 ∷ []

-- each event passes the tests
passes : (k : ℕ) → k < 4 → (is_sound_at two k && can_be_read_at (is_place 4 bytes) (Some Text) two k) ≡ true
passes zero l = refl
passes (suc zero) l = refl
passes (suc (suc zero)) l = refl
passes (suc (suc (suc zero))) l = refl
passes (suc (suc (suc (suc k)))) l = absurd (omega arith)

-- so what the contracts require can be met
pub ready : IsReady 4 bytes (Some Text) two
ready =
    ready-of 4 bytes (Some Text) two (is_place 4 bytes) (place-sound 4 (omega arith) bytes) refl
    (λ k l. (and_parts (is_sound_at two k) (can_be_read_at (is_place 4 bytes) (Some Text) two k) (passes k l)).0)
    (λ k l. (and_parts (is_sound_at two k) (can_be_read_at (is_place 4 bytes) (Some Text) two k) (passes k l)).1)
