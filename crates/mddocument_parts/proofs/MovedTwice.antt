-- Events that are moved twice.
use Rattle.std.proofs.Common.{◌≡◌, ◌+◌, add_assoc, ℕ, List, [], ◌∷◌, Option, Some, None, map, refl, ap, ◌∙◌}
use Rattle.markdown_base.specs.declared.event.Event.{Event}
use Rattle.markdown_base.specs.declared.event.Link.{Link}
use Rattle.mddocument_parts.specs.Moved.{moved_event, moved_index, moved_link}

index-twice : (a b : ℕ) (o : Option ℕ) → moved_index a (moved_index b o) ≡ moved_index (b + a) o
index-twice a b None = refl
index-twice a b (Some i) = ap Some (add_assoc i b a)

link-twice : (a b : ℕ) (o : Option Link) → moved_link a (moved_link b o) ≡ moved_link (b + a) o
link-twice a b None = refl
link-twice a b (Some l) =
    ap (λ i. Some (record { previous = i; next = moved_index a (moved_index b l.next); content = l.content })) (index-twice a b l.previous)
    ∙ ap (λ i. Some (record { previous = moved_index (b + a) l.previous; next = i; content = l.content })) (index-twice a b l.next)

-- an event is moved twice
event-twice : (a b c i j k : ℕ) (e : Event) → moved_event a b c (moved_event i j k e) ≡ moved_event (i + a) (j + b) (k + c) e
event-twice a b c i j k e =
    ap (λ n. record { kind = e.kind; name = e.name; point = record { line = n; column = e.point.column; index = e.point.index + j + b; vs = e.point.vs }; link = moved_link c (moved_link k e.link) }) (add_assoc e.point.line i a)
    ∙ ap (λ n. record { kind = e.kind; name = e.name; point = record { line = e.point.line + (i + a); column = e.point.column; index = n; vs = e.point.vs }; link = moved_link c (moved_link k e.link) }) (add_assoc e.point.index j b)
    ∙ ap (λ l. record { kind = e.kind; name = e.name; point = record { line = e.point.line + (i + a); column = e.point.column; index = e.point.index + (j + b); vs = e.point.vs }; link = l }) (link-twice c k e.link)

pub events-twice : (a b c i j k : ℕ) (es : List Event) → map (moved_event a b c) (map (moved_event i j k) es) ≡ map (moved_event (i + a) (j + b) (k + c)) es
events-twice a b c i j k [] = refl
events-twice a b c i j k (e ∷ es) = ap (λ x. x ∷ map (moved_event a b c) (map (moved_event i j k) es)) (event-twice a b c i j k e) ∙ ap (λ xs. moved_event (i + a) (j + b) (k + c) e ∷ xs) (events-twice a b c i j k es)
