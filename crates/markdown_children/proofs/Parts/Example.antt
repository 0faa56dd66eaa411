-- A list that goes on to the next content: "a", a line ending and "> b" in two chunks of text, with a quote's prefix between; and a child
-- that links two chunks of a string, one a line.
use Rattle.markdown_children.proofs.Prelude.{◌≡◌, ℕ, zero, suc, ◌<◌, ◌&&◌, true, false, List, [], ◌∷◌, Option, Some, None, refl, sym, ◌∙◌, ap, subst, arith, inr, same_Some, none-some, All, All-from_recursion, Contains, String, Event, Enter, Exit, BlockQuotePrefix, Data, Paragraph, Point, point, ParseOptions, IsReady, IsShownPlace, IsVoidTight, Given, and_parts, is_sound_at, can_be_read_at, is_place, place_at, stands_before, lit<, Content, Kind, Link, in_range, Seat, virtual, HasTextInGaps, HoldsOnlyText, ChildrenCanBeRead, text_from}
use Rattle.markdown_base.specs.declared.event.Content.TheVariants.{Text}
use Rattle.markdown_base.specs.declared.event.Name.{Name}
use Rattle.markdown_children.proofs.Parts.Tight.{tight-to}
use Rattle.markdown_children.proofs.Ready.Decided.{ready-of}
use Rattle.markdown_children.proofs.Ready.Reached.{place-sound}

abbrev bytes : List ℕ
bytes = 97 ∷ 10 ∷ 62 ∷ 32 ∷ 98 ∷ []

-- the places where events stand
abbrev first : Point
first = point 1 1 0 0

abbrev second : Point
second = point 2 1 2 0

abbrev behind : Point
behind = point 2 3 4 0

abbrev end : Point
end = point 2 4 5 0

abbrev event : Kind → Name → Point → Option Link → Event
event kind name p link = record { kind = kind; name = name; point = p; link = link }

abbrev joins : Content → Option ℕ → Option ℕ → Option Link
joins c p n = Some (record { previous = p; next = n; content = c })

abbrev list : List Event
list =
    event Enter Paragraph first None ∷ event Enter Data first (joins Text None (Some 5)) ∷ event Exit Data second None
    ∷ event Enter BlockQuotePrefix second None ∷ event Exit BlockQuotePrefix behind None
    ∷ event Enter Data behind (joins Text (Some 1) None) ∷ event Exit Data end None ∷ event Exit Paragraph end None ∷ []

abbrev child : List Event
child =
    event Enter Data first (joins String None (Some 2)) ∷ event Exit Data second None
    ∷ event Enter Data behind (joins String (Some 0) None) ∷ event Exit Data end None ∷ []

-- each event passes the tests
text-passes : (k : ℕ) → k < 8 → (is_sound_at list k && can_be_read_at (is_place 4 bytes) (Some Text) list k) ≡ true
text-passes zero l = refl
text-passes (suc zero) l = refl
text-passes (suc (suc zero)) l = refl
text-passes (suc (suc (suc zero))) l = refl
text-passes (suc (suc (suc (suc zero)))) l = refl
text-passes (suc (suc (suc (suc (suc zero))))) l = refl
text-passes (suc (suc (suc (suc (suc (suc zero)))))) l = refl
text-passes (suc (suc (suc (suc (suc (suc (suc zero))))))) l = refl
text-passes (suc (suc (suc (suc (suc (suc (suc (suc k)))))))) l = absurd (omega arith)

string-passes : (k : ℕ) → k < 8 → (is_sound_at list k && can_be_read_at (is_place 4 bytes) (Some String) list k) ≡ true
string-passes zero l = refl
string-passes (suc zero) l = refl
string-passes (suc (suc zero)) l = refl
string-passes (suc (suc (suc zero))) l = refl
string-passes (suc (suc (suc (suc zero)))) l = refl
string-passes (suc (suc (suc (suc (suc zero))))) l = refl
string-passes (suc (suc (suc (suc (suc (suc zero)))))) l = refl
string-passes (suc (suc (suc (suc (suc (suc (suc zero))))))) l = refl
string-passes (suc (suc (suc (suc (suc (suc (suc (suc k)))))))) l = absurd (omega arith)

child-passes : (k : ℕ) → k < 4 → (is_sound_at child k && can_be_read_at (is_place 4 bytes) (Some String) child k) ≡ true
child-passes zero l = refl
child-passes (suc zero) l = refl
child-passes (suc (suc zero)) l = refl
child-passes (suc (suc (suc zero))) l = refl
child-passes (suc (suc (suc (suc k)))) l = absurd (omega arith)

ready-text : IsReady 4 bytes (Some Text) list
ready-text = ready-of 4 bytes (Some Text) list (is_place 4 bytes) (place-sound 4 (omega arith) bytes) refl
    (λ k l. (and_parts (is_sound_at list k) (can_be_read_at (is_place 4 bytes) (Some Text) list k) (text-passes k l)).0)
    (λ k l. (and_parts (is_sound_at list k) (can_be_read_at (is_place 4 bytes) (Some Text) list k) (text-passes k l)).1)

ready-string : IsReady 4 bytes (Some String) list
ready-string = ready-of 4 bytes (Some String) list (is_place 4 bytes) (place-sound 4 (omega arith) bytes) refl
    (λ k l. (and_parts (is_sound_at list k) (can_be_read_at (is_place 4 bytes) (Some String) list k) (string-passes k l)).0)
    (λ k l. (and_parts (is_sound_at list k) (can_be_read_at (is_place 4 bytes) (Some String) list k) (string-passes k l)).1)

ready-child : IsReady 4 bytes (Some String) child
ready-child = ready-of 4 bytes (Some String) child (is_place 4 bytes) (place-sound 4 (omega arith) bytes) refl
    (λ k l. (and_parts (is_sound_at child k) (can_be_read_at (is_place 4 bytes) (Some String) child k) (child-passes k l)).0)
    (λ k l. (and_parts (is_sound_at child k) (can_be_read_at (is_place 4 bytes) (Some String) child k) (child-passes k l)).1)

-- the prefix has text
gaps : HasTextInGaps (Some Text) list
gaps zero d fit e = absurd (none-some d e)
gaps (suc zero) d fit e = let is : d ≡ 5 = same_Some d 5 (sym e) in inr (subst (λ i. stands_before (place_at list 2) (place_at list i) ≡ true) (sym is) refl)
gaps (suc (suc zero)) d fit e = absurd (none-some d e)
gaps (suc (suc (suc zero))) d fit e = absurd (none-some d e)
gaps (suc (suc (suc (suc zero)))) d fit e = absurd (none-some d e)
gaps (suc (suc (suc (suc (suc zero))))) d fit e = absurd (none-some d e)
gaps (suc (suc (suc (suc (suc (suc zero)))))) d fit e = absurd (none-some d e)
gaps (suc (suc (suc (suc (suc (suc (suc zero))))))) d fit e = absurd (none-some d e)
gaps (suc (suc (suc (suc (suc (suc (suc (suc k)))))))) d fit e = absurd (none-some d e)

-- the child's events stand at places that are shown
shown : All (λ (e : Event). IsShownPlace 4 bytes e.point) child
shown = All-from_recursion (λ (e : Event). IsShownPlace 4 bytes e.point) child
    (((0, lit< tt, refl), refl), (((4, lit< tt, refl), refl), (((8, lit< tt, refl), refl), (((10, lit< tt, refl), refl), tt))))

tight : IsVoidTight child
tight = tight-to child (
  (λ enter void. (event Exit Data second None, refl, refl, refl)),
  ((λ enter void. let no : Exit ≡ Enter = enter in absurd (cc)), ((λ enter void. (event Exit Data end None, refl, refl, refl)), ((λ enter void. let no : Exit ≡ Enter = enter in absurd (cc)), tt))),
)

module _ (options : ParseOptions) where
  abbrev g : Given
  g = record { bytes = bytes; options = options; tab = 4 }

  abbrev seats : List Seat
  seats = (text_from g list 1).seats

  -- the first span holds the first line, and the second one the last byte
  in-first : (s : Seat) → Contains (virtual 4 bytes) s → in_range first second s ≡ true → Contains seats s
  in-first s (zero, l, is) r = (0, lit< tt, is)
  in-first s (suc zero, l, is) r = (1, lit< tt, is)
  in-first s (suc (suc zero), l, is) r = let no : false ≡ true = ap (in_range first second) is ∙ r in absurd (cc)
  in-first s (suc (suc (suc zero)), l, is) r = let no : false ≡ true = ap (in_range first second) is ∙ r in absurd (cc)
  in-first s (suc (suc (suc (suc zero))), l, is) r = let no : false ≡ true = ap (in_range first second) is ∙ r in absurd (cc)
  in-first s (suc (suc (suc (suc (suc k)))), l, is) r = let m : suc (suc (suc (suc (suc k)))) < 5 = l in absurd (omega (arith, m))

  in-second : (s : Seat) → Contains (virtual 4 bytes) s → in_range behind end s ≡ true → Contains seats s
  in-second s (zero, l, is) r = let no : false ≡ true = ap (in_range behind end) is ∙ r in absurd (cc)
  in-second s (suc zero, l, is) r = let no : false ≡ true = ap (in_range behind end) is ∙ r in absurd (cc)
  in-second s (suc (suc zero), l, is) r = let no : false ≡ true = ap (in_range behind end) is ∙ r in absurd (cc)
  in-second s (suc (suc (suc zero)), l, is) r = let no : false ≡ true = ap (in_range behind end) is ∙ r in absurd (cc)
  in-second s (suc (suc (suc (suc zero))), l, is) r = (2, lit< tt, is)
  in-second s (suc (suc (suc (suc (suc k)))), l, is) r = let m : suc (suc (suc (suc (suc k)))) < 5 = l in absurd (omega (arith, m))

  whole : HoldsOnlyText g (text_from g list 1) child
  whole zero e f at_e at_f enter void s there r =
      in-first s there ((λ i. in_range ((same_Some (event Enter Data first (joins String None (Some 2))) e at_e i).point) ((same_Some (event Exit Data second None) f at_f i).point) s) ∙ r)
  whole (suc zero) e f at_e at_f enter void s there r = let no : Exit ≡ Enter = ap (λ (x : Event). x.kind) (same_Some (event Exit Data second None) e at_e) ∙ enter in absurd (cc)
  whole (suc (suc zero)) e f at_e at_f enter void s there r =
      in-second s there ((λ i. in_range ((same_Some (event Enter Data behind (joins String (Some 0) None)) e at_e i).point) ((same_Some (event Exit Data end None) f at_f i).point) s) ∙ r)
  whole (suc (suc (suc zero))) e f at_e at_f enter void s there r = let no : Exit ≡ Enter = ap (λ (x : Event). x.kind) (same_Some (event Exit Data end None) e at_e) ∙ enter in absurd (cc)
  whole (suc (suc (suc (suc n)))) e f at_e at_f enter void s there r = absurd (none-some e at_e)

  -- so what the laws ask for can be met
  pub can-be-read : ChildrenCanBeRead g (Some Text) (Some String) list (child ∷ [])
  can-be-read = (record { ready = ready-child; shown = shown; tight = tight; whole = whole }, tt)
