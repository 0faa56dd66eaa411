-- Delimiter runs and the markers of images among atoms; and the names that tell these, brackets, and `]` alone from all others.
use Rattle.std.proofs.lemmas.Bool.{or_parts}
use Rattle.mddocument.proofs.Prelude.{◌≡◌, ◌||◌, ℕ, Bool, true, false, List, [], ◌∷◌, AllByRecursion, Event, AttentionSequence, same_name, Seat, Atom, NoEnding, atom_seats, seats_of, is_delimiter}
use Rattle.markdown_base.specs.declared.event.Name.{Name}
use Rattle.markdown_base.specs.declared.event.Name.TheVariants.{LabelImage, LabelImageMarker, LabelLink, LabelMarker}

-- a name of a bracket, or of a `]` alone
abbrev pub is_label : Name → Bool
is_label name = (same_name name LabelLink || same_name name LabelImage) || same_name name LabelMarker

-- one of these, or of a delimiter run, or of the first marker of an image's bracket
abbrev pub is_special : Name → Bool
is_special name = same_name name AttentionSequence || (same_name name LabelImageMarker || is_label name)

pub special-run : (name : Name) → is_special name ≡ false → same_name name AttentionSequence ≡ false
special-run name h = (or_parts (same_name name AttentionSequence) (same_name name LabelImageMarker || is_label name) h).0

pub special-marker : (name : Name) → is_special name ≡ false → same_name name LabelImageMarker ≡ false
special-marker name h =
    (or_parts (same_name name LabelImageMarker) (is_label name) (or_parts (same_name name AttentionSequence) (same_name name LabelImageMarker || is_label name) h).1).0

pub special-label : (name : Name) → is_special name ≡ false → is_label name ≡ false
special-label name h =
    (or_parts (same_name name LabelImageMarker) (is_label name) (or_parts (same_name name AttentionSequence) (same_name name LabelImageMarker || is_label name) h).1).1

-- an event is of none of these
abbrev pub IsOther : Event → Type 0
IsOther e = is_special e.name ≡ false

-- an event is of no delimiter run, and of no first marker of an image's bracket
abbrev pub IsQuiet : Event → Type 0
IsQuiet e = (same_name e.name AttentionSequence ≡ false) × (same_name e.name LabelImageMarker ≡ false)

pub others-quiet : (es : List Event) → AllByRecursion IsOther es → AllByRecursion IsQuiet es
others-quiet [] h = tt
others-quiet (e ∷ es) h = ((special-run e.name h.0, special-marker e.name h.0), others-quiet es h.1)

abbrev pub AreDelimiters : List Seat → Type 0
AreDelimiters l = AllByRecursion (λ (s : Seat). is_delimiter s.byte ≡ true) l

-- an atom is a delimiter run
abbrev pub is_run : Atom → Bool
is_run a = same_name a.name AttentionSequence

-- it is the first marker of an image's bracket
abbrev pub is_image_marker : Atom → Bool
is_image_marker a = same_name a.name LabelImageMarker

-- virtual bytes do not begin with this byte
abbrev pub Stops : ℕ → List Seat → Type 0
Stops b [] = Unit {0}
Stops b (s ∷ ss) = b ≡ s.byte → ⊥

-- Runs among atoms hold delimiters, and are as long as can be; and no line ending is in the first marker of an image's bracket
abbrev pub AreWholeRuns : List Atom → Type 0
AreWholeRuns [] = Unit {0}
AreWholeRuns (a ∷ atoms) =
    (is_run a ≡ true → AreDelimiters (atom_seats a) × Stops a.first.byte (seats_of atoms)) × (is_image_marker a ≡ true → NoEnding (atom_seats a)) × AreWholeRuns atoms
