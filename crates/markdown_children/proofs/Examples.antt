-- The definitions on small lists, by computation.
use Rattle.markdown_children.proofs.Prelude.{◌≡◌, ℕ, List, [], ◌∷◌, length, map, Option, Some, None, refl, Content, String, Event, Enter, Exit, Link, BlockQuote, BlockQuotePrefix, Data, LineEnding, Paragraph, point, next_of, previous_of, chain_of, fitting_starts, parts, with_children}
use Rattle.markdown_base.specs.declared.event.Content.TheVariants.{Text}
use Rattle.markdown_base.specs.declared.event.Name.{Name}

abbrev enter : Name → ℕ → Option Link → Event
enter n i l = record { kind = Enter; name = n; point = point 1 1 i 0; link = l }

abbrev exit : Name → ℕ → Event
exit n i = record { kind = Exit; name = n; point = point 1 1 i 0; link = None }

abbrev joins : Content → Option ℕ → Option ℕ → Option Link
joins c p n = Some (record { previous = p; next = n; content = c })

-- three chunks that end at 2, 4 and 5
abbrev three : List Event
three =
    enter Data 0 (joins Text None (Some 2)) ∷ exit Data 2 ∷ enter Data 2 (joins Text (Some 0) (Some 4)) ∷ exit Data 4
    ∷ enter Data 4 (joins Text (Some 2) None) ∷ exit Data 5 ∷ []

three-chains : map (chain_of three) (fitting_starts (Some Text) three) ≡ (0 ∷ 2 ∷ 4 ∷ []) ∷ []
three-chains = refl

-- one span over all of them
three-children : with_children (Some Text) three ((enter Data 0 None ∷ exit Data 5 ∷ []) ∷ []) ≡ enter Data 0 None ∷ exit Data 5 ∷ []
three-children = refl

-- ends at 2, 2 and 3: five events, none, and one
abbrev six : Option Link → Option Link → List Event
six a b = enter Data 0 a ∷ exit Data 1 ∷ enter LineEnding 1 None ∷ exit LineEnding 2 ∷ enter Data 2 b ∷ exit Data 3 ∷ []

empty-part : map length (parts (point 1 1 2 0 ∷ point 1 1 2 0 ∷ point 1 1 3 0 ∷ []) (six None None)) ≡ 5 ∷ 0 ∷ 1 ∷ []
empty-part = refl

-- a quoted paragraph of two lines, and its child's first and fifth event linked to each other
abbrev quote : List Event
quote =
    enter BlockQuote 0 None ∷ enter BlockQuotePrefix 0 None ∷ exit BlockQuotePrefix 2 ∷ enter Paragraph 2 None
    ∷ enter Data 2 (joins Text None (Some 8)) ∷ exit Data 4 ∷ enter BlockQuotePrefix 4 None ∷ exit BlockQuotePrefix 6 ∷ enter Data 6 (joins Text (Some 4) None) ∷ exit Data 7
    ∷ exit Paragraph 7 ∷ exit BlockQuote 7 ∷ []

abbrev quoted : List Event
quoted = with_children (Some Text) quote ((enter Data 2 (joins String None (Some 4)) ∷ exit Data 3 ∷ enter LineEnding 3 None ∷ exit LineEnding 4 ∷ enter Data 6 (joins String (Some 0) None) ∷ exit Data 7 ∷ []) ∷ [])

quoted-length : length quoted ≡ 14
quoted-length = refl

quoted-next : next_of quoted 4 ≡ Some 10
quoted-next = refl

quoted-previous : previous_of quoted 10 ≡ Some 4
quoted-previous = refl

-- a chain that does not fit, around one that does
abbrev around : List Event
around =
    enter Data 0 (joins String None (Some 6)) ∷ exit Data 1 ∷ enter Data 1 (joins Text None (Some 4)) ∷ exit Data 3
    ∷ enter Data 3 (joins Text (Some 2) None) ∷ exit Data 4 ∷ enter Data 4 (joins String (Some 0) None) ∷ exit Data 5 ∷ []

abbrev wound : List Event
wound = with_children (Some Text) around ((enter Data 1 None ∷ exit Data 2 ∷ enter LineEnding 2 None ∷ exit LineEnding 3 ∷ enter Data 3 None ∷ exit Data 4 ∷ []) ∷ [])

wound-length : length wound ≡ 10
wound-length = refl

wound-next : next_of wound 0 ≡ Some 8
wound-next = refl

wound-previous : previous_of wound 8 ≡ Some 0
wound-previous = refl

-- without a filter both are read, in the order of their first chunks
both-chains : map (chain_of around) (fitting_starts None around) ≡ (0 ∷ 6 ∷ []) ∷ (2 ∷ 4 ∷ []) ∷ []
both-chains = refl
