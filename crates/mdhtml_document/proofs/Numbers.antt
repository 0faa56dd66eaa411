-- What the code knows of calls and their notes, with one more call.
use Rattle.std.proofs.Common.{◌≡◌, ℕ, ◌<◌, ◌^◌, List, [], ◌∷◌, ◌++◌, length, map, ap, sym, ◌∙◌, IfSome, Option, None, Some, arith}
use Rattle.std.proofs.lemmas.List.{length-map}
use Rattle.std.specs.Global.{Global}
use Rattle.std.specs.Ordering.{is_eq, nat_cmp}
use Rattle.std.specs.Prelude.{Vec, bytes_eq, cond}
use Rattle.mdhtml_document.specs.declared.notes.Called.{Called}
use Rattle.mdhtml_document.specs.declared.notes.Numbered.{Numbered}
use Rattle.mdhtml_document.specs.Frames.{IsNumbered, call_at, last_known}
use Rattle.mdhtml_document.specs.Notes.{labels_of, last_call, next_call, notes_of}
use Rattle.mdhtml_document.proofs.Numbering.{few-repeats, more-calls, more-last, more-notes}

-- the labels of notes, as bytes
abbrev pub texts : List (Vec ℕ Global) → List (List ℕ)
texts labels = map (λ l. l.items) labels

-- those with one more call, by the last call of its label
abbrev pub texts_with : (last : Option Called) (label : List ℕ) → List (List ℕ) → List (List ℕ)
texts_with last label labels = elim last as (λ (_ : Option Called). List (List ℕ)) [ None ↦ labels ++ label ∷ [] | Some c ↦ labels ]

pub more-numbered : (old new : Numbered) (label : List ℕ) (at : ℕ) (n : Called) (calls : List (ℕ × List ℕ)) → IsNumbered old calls
    → n ≡ next_call (last_known old.last label) (length old.labels.items)
    → ((m : List ℕ) → last_known new.last m ≡ cond (bytes_eq m label) (Some n) (last_known old.last m))
    → texts new.labels.items ≡ texts_with (last_known old.last label) label (texts old.labels.items)
    → ((place : ℕ) → call_at new.calls place ≡ cond (is_eq (nat_cmp at place)) (Some n) (call_at old.calls place)) → IsNumbered new ((at, label) ∷ calls)
more-numbered old new label at n calls is next last labels places =
    let ls = labels_of calls in
    let n-is : n ≡ next_call (last_call label ls) (length (notes_of ls)) =
    next ∙ ap (λ o. next_call o (length old.labels.items)) (is.last label)
    ∙ ap (next_call (last_call label ls)) (sym (length-map old.labels.items (λ (l : Vec ℕ Global). l.items)) ∙ ap length is.labels)
    in
    record {
      last = λ m. more-last m label ls n (last_known old.last m) (last_known new.last m) n-is (is.last m) (last m);
      labels = labels ∙ ap (texts_with (last_known old.last label) label) is.labels ∙ more-notes label ls (last_known old.last label) (is.last label);
      calls = λ place. more-calls place at label calls n (call_at old.calls place) (call_at new.calls place) n-is (is.calls place) (places place);
    }

-- no label is called too often to be counted
few-by : (o : Option Called) (label : List ℕ) (labels : List (List ℕ)) → o ≡ last_call label labels → length labels < 2 ^ 63 → IfSome o (λ c. c.repeat < 2 ^ 63)
few-by None label labels is small = tt
few-by (Some c) label labels is small = let few = few-repeats label labels c (sym is) in omega (arith, few, small)

pub few-known : (n : Numbered) (calls : List (ℕ × List ℕ)) (label : List ℕ) → IsNumbered n calls → length calls < 2 ^ 63 → IfSome (last_known n.last label) (λ c. c.repeat < 2 ^ 63)
few-known n calls label is small =
    let same = length-map calls (λ (c : ℕ × List ℕ). c.1) in
    few-by (last_known n.last label) label (labels_of calls) (is.last label) (omega (arith, same, small))
