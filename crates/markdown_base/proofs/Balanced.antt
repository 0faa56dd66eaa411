-- Balanced lists, by the stack of open names.
use denote.Enum.Bare.{same_true, true_same}
use Rattle.std.proofs.Common.{None, Option, Some, append_assoc}
use Rattle.markdown_base.specs.contracts.event.Name.{the_type}
use Rattle.markdown_base.specs.declared.event.Name.{Name}
use Rattle.markdown_base.specs.Events.{IsBalanced, empty, same_name, span}
use Rattle.markdown_base.specs.OpenNames.{names_after, names_after_all}
use Rattle.markdown_base.proofs.Prelude.{◌≡◌, Bool, true, false, cond, List, [], ◌∷◌, ◌++◌, refl, sym, ◌∙◌, ap, subst, Event, Kind, Enter, Exit}

pub names_after_all-append : (o : Option (List Name)) (xs ys : List Event) → names_after_all o (xs ++ ys) ≡ names_after_all (names_after_all o xs) ys
names_after_all-append None xs ys = refl
names_after_all-append (Some st) [] ys = refl
names_after_all-append (Some st) (e ∷ xs) ys = names_after_all-append (names_after e.kind e.name st) xs ys

-- no events open or close nothing
pub names-none : (o : Option (List Name)) → names_after_all o [] ≡ o
names-none None = refl
names-none (Some st) = refl

pub same_name-refl : (n : Name) → same_name n n ≡ true
same_name-refl n = true_same the_type n n refl

pub same_name-true : (m n : Name) → same_name m n ≡ true → m ≡ n
same_name-true m n e = same_true the_type tt m n e

-- a balanced list leaves every stack as it is
pub names_after_balanced : {xs : List Event} → IsBalanced xs → (st : List Name) → names_after_all (Some st) xs ≡ Some st
names_after_balanced empty st = refl
names_after_balanced (span e f xs ys {l} is en ex same b c) st =
    rw (is, en, names_after_all-append (Some (e.name ∷ st)) xs (f ∷ ys), names_after_balanced b (e.name ∷ st), ex, same)
    (ap (λ (t : Bool). names_after_all (cond t (Some st) None) ys) (same_name-refl e.name) ∙ names_after_balanced c st)

-- what is left of a balanced list while names are open: for each a balanced list and its exit, and then a balanced list
pub data Closes : List Name → List Event → Type 0 where
  all_closed : {l : List Event} → IsBalanced l → Closes [] l
  closing : {n : Name} {st : List Name} (f : Event) (xs ys : List Event) {l : List Event} → l ≡ xs ++ f ∷ ys → f.kind ≡ Exit → f.name ≡ n → IsBalanced xs → Closes st ys → Closes (n ∷ st) l

-- a whole span in front
prepend : (e f : Event) (xs ys : List Event) (st : List Name) → e.kind ≡ Enter → f.kind ≡ Exit → f.name ≡ e.name → IsBalanced xs → Closes st ys → Closes st (e ∷ (xs ++ f ∷ ys))
prepend e f xs ys [] en ex same b (all_closed c) = all_closed (span e f xs ys refl en ex same b c)
prepend e f xs ys (n ∷ st) en ex same b (closing g us vs is gx gn c d) =
    closing g (e ∷ (xs ++ f ∷ us)) vs
    (ap (λ (ts : List Event). e ∷ (xs ++ f ∷ ts)) is ∙ ap (λ (ts : List Event). e ∷ ts) (sym (append_assoc xs (f ∷ us) (g ∷ vs))))
    gx gn (span e f xs us refl en ex same b c) d

pub none_is_not_some : {A : Type 0} (a : A) (P : Type 0) → None ≡ Some a → P
none_is_not_some a P e = cc

module _ (e : Event) (es : List Event) (rest : (st : List Name) → names_after_all (Some st) es ≡ Some [] → Closes st es) where
  exit_case : (m : Name) (st : List Name) (t : Bool) → same_name m e.name ≡ t → e.kind ≡ Exit → names_after_all (cond t (Some st) None) es ≡ Some [] → Closes (m ∷ st) (e ∷ es)
  exit_case m st true same k h = closing e [] es refl k (sym (same_name-true m e.name same)) empty (rest st h)
  exit_case m st false same k h = none_is_not_some [] (Closes (m ∷ st) (e ∷ es)) h

  enter_case : (st : List Name) → e.kind ≡ Enter → Closes (e.name ∷ st) es → Closes st (e ∷ es)
  enter_case st k (closing f xs ys is ex same b c) = subst (λ (l : List Event). Closes st (e ∷ l)) (sym is) (prepend e f xs ys st k ex same b c)

  kind_case : (k : Kind) → e.kind ≡ k → (st : List Name) → names_after_all (names_after k e.name st) es ≡ Some [] → Closes st (e ∷ es)
  kind_case Enter k st h = enter_case st k (rest (e.name ∷ st) h)
  kind_case Exit k [] h = none_is_not_some [] (Closes [] (e ∷ es)) h
  kind_case Exit k (m ∷ st) h = exit_case m st (same_name m e.name) refl k h

pub closes_from_open : (es : List Event) (st : List Name) → names_after_all (Some st) es ≡ Some [] → Closes st es
closes_from_open [] [] e = all_closed empty
closes_from_open [] (n ∷ st) e = cc
closes_from_open (e ∷ es) st h = kind_case e es (closes_from_open es) e.kind refl st h

balanced_from_closes : (es : List Event) → Closes [] es → IsBalanced es
balanced_from_closes es (all_closed b) = b

-- a list that passes the test is balanced
pub balanced_from_open : (es : List Event) → names_after_all (Some []) es ≡ Some [] → IsBalanced es
balanced_from_open es h = balanced_from_closes es (closes_from_open es [] h)

-- ---- replacing

-- a balanced list taken out of a balanced list
pub IsBalanced-remove : (xs ys zs : List Event) → IsBalanced (xs ++ (ys ++ zs)) → IsBalanced ys → IsBalanced (xs ++ zs)
IsBalanced-remove xs ys zs b c = balanced_from_open (xs ++ zs)
    (names_after_all-append (Some []) xs zs ∙ sym (stays (names_after_all (Some []) xs)) ∙ sym (names_after_all-append (Some []) xs (ys ++ zs)) ∙ names_after_balanced b [])
  where
    stays : (o : Option (List Name)) → names_after_all o (ys ++ zs) ≡ names_after_all o zs
    stays None = refl
    stays (Some st) = names_after_all-append (Some st) ys zs ∙ ap (λ o. names_after_all o zs) (names_after_balanced c st)

-- an enter and its exit
pub IsBalanced-pair : (e f : Event) → e.kind ≡ Enter → f.kind ≡ Exit → f.name ≡ e.name → IsBalanced (e ∷ f ∷ [])
IsBalanced-pair e f en ex same = span e f [] [] refl en ex same empty empty

-- two balanced lists
pub IsBalanced-append : (xs ys : List Event) → IsBalanced xs → IsBalanced ys → IsBalanced (xs ++ ys)
IsBalanced-append xs ys b c = balanced_from_open (xs ++ ys)
    (names_after_all-append (Some []) xs ys ∙ ap (λ o. names_after_all o ys) (names_after_balanced b []) ∙ names_after_balanced c [])
