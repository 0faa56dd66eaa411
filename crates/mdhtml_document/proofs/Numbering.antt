-- Notes are numbered by their first calls: one more call.
use Rattle.std.proofs.Common.{◌≡◌, ℕ, suc, ◌≤◌, List, [], ◌∷◌, ◌++◌, length, ap, sym, refl, ◌∙◌, Option, None, Some, Less, Equal, Greater, arith}
use Rattle.std.proofs.lemmas.Bool.Decides.{nat_tests}
use Rattle.std.proofs.lemmas.Slice.Eq.{bytes_eq-Decides}
use Rattle.std.specs.Ordering.{is_eq, nat_cmp}
use Rattle.std.specs.Prelude.{◌==◌, ◌||◌, Bool, true, false, bytes_eq, cond, is_some, nat_lt}
use Rattle.mdhtml_document.specs.declared.notes.Called.{Called}
use Rattle.mdhtml_document.specs.Notes.{called_at, is_among, labels_of, last_call, next_call, notes_of}

is-eq-cmp : (k q : ℕ) → is_eq (nat_cmp k q) ≡ (q == k)
is-eq-cmp k q = by (nat_lt k q) (k == q) refl refl
  where
    by : (a b : Bool) → nat_lt k q ≡ a → (k == q) ≡ b → is_eq (cond a Less (cond b Equal Greater)) ≡ (q == k)
    by true b h e = grind (arith, nat_tests, h)
    by false true h e = grind (arith, nat_tests, e)
    by false false h e = grind (arith, nat_tests, e)

same : (l : List ℕ) → bytes_eq l l ≡ true
same l = (bytes_eq-Decides l l).1 refl

-- a label is among labels, if it has a last call
among-by : (c : Bool) (n : Called) (o : Option Called) (b : Bool) → b ≡ is_some o → (c || b) ≡ is_some (cond c (Some n) o)
among-by true n o b h = refl
among-by false n o b h = h

among-is : (label : List ℕ) (ls : List (List ℕ)) → is_among label ls ≡ is_some (last_call label ls)
among-is label [] = refl
among-is label (l ∷ ls) = among-by (bytes_eq label l) (next_call (last_call label ls) (length (notes_of ls))) (last_call label ls) (is_among label ls) (among-is label ls)

-- the labels of notes, with one more call
pub more-notes : (label : List ℕ) (ls : List (List ℕ)) (o : Option Called) → o ≡ last_call label ls
    → elim o as (λ (_ : Option Called). List (List ℕ)) [ None ↦ notes_of ls ++ label ∷ [] | Some c ↦ notes_of ls ] ≡ notes_of (label ∷ ls)
more-notes label ls None h = ap (λ b. cond b (notes_of ls) (notes_of ls ++ label ∷ [])) (sym (among-is label ls ∙ ap is_some (sym h)))
more-notes label ls (Some c) h = ap (λ b. cond b (notes_of ls) (notes_of ls ++ label ∷ [])) (sym (among-is label ls ∙ ap is_some (sym h)))

-- the last calls
last-by : (c : Bool) (m label : List ℕ) (ls : List (List ℕ)) (n : Called) (o : Option Called) → bytes_eq m label ≡ c → n ≡ next_call (last_call label ls) (length (notes_of ls)) → o ≡ last_call m ls
    → cond c (Some n) o ≡ cond c (Some (next_call (last_call m ls) (length (notes_of ls)))) (last_call m ls)
last-by true m label ls n o e is h = ap Some (is ∙ ap (λ x. next_call (last_call x ls) (length (notes_of ls))) (sym ((bytes_eq-Decides m label).0 e)))
last-by false m label ls n o e is h = h

pub more-last : (m label : List ℕ) (ls : List (List ℕ)) (n : Called) (o new : Option Called) → n ≡ next_call (last_call label ls) (length (notes_of ls)) → o ≡ last_call m ls
    → new ≡ cond (bytes_eq m label) (Some n) o → new ≡ last_call m (label ∷ ls)
more-last m label ls n o new is h added = added ∙ last-by (bytes_eq m label) m label ls n o refl is h

-- the calls
pub more-calls : (place at : ℕ) (label : List ℕ) (cs : List (ℕ × List ℕ)) (n : Called) (o new : Option Called) → n ≡ next_call (last_call label (labels_of cs)) (length (notes_of (labels_of cs)))
    → o ≡ called_at cs place → new ≡ cond (is_eq (nat_cmp at place)) (Some n) o → new ≡ called_at ((at, label) ∷ cs) place
more-calls place at label cs n o new is h added =
    let ls = labels_of cs in
    added ∙ ap (λ b. cond b (Some n) o) (is-eq-cmp at place)
    ∙ ap (λ x. cond (place == at) x o) (ap Some is ∙ sym (ap (λ b. cond b (Some (next_call (last_call label ls) (length (notes_of ls)))) (last_call label ls)) (same label)))
    ∙ ap (λ x. cond (place == at) (last_call label (label ∷ ls)) x) h

-- how often a note is called
few-by : (b : Bool) (n : ℕ) (o : Option Called) (ls : List (List ℕ)) (c : Called) → ((d : Called) → o ≡ Some d → d.repeat ≤ length ls) → cond b (Some (next_call o n)) o ≡ Some c → c.repeat ≤ suc (length ls)
few-by true n None ls c h e = let same = ap (λ (x : Option Called). elim x as (λ _. ℕ) [ None ↦ 0 | Some y ↦ y.repeat ]) e in omega (arith, same)
few-by true n (Some d) ls c h e =
    let same = ap (λ (x : Option Called). elim x as (λ _. ℕ) [ None ↦ 0 | Some y ↦ y.repeat ]) e in
    let most = h d refl in
    omega (arith, same, most)
few-by false n o ls c h e = let most = h c e in omega (arith, most)

pub few-repeats : (label : List ℕ) (ls : List (List ℕ)) (c : Called) → last_call label ls ≡ Some c → c.repeat ≤ length ls
few-repeats label [] c e = cc
few-repeats label (l ∷ ls) c e = few-by (bytes_eq label l) (length (notes_of ls)) (last_call label ls) ls c (few-repeats label ls) e
