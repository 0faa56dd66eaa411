-- A machine whose table's tests look no further than the byte that waits looks no further either.
use Rattle.std.specs.List.{AllByRecursion}
use Rattle.mdconstructs_tables.proofs.Prelude.{◌≡◌, ◌∙◌, ◌==◌, List, [], ◌∷◌, Bool, true, false, cond, Some, refl, ap, Name, Given, Configuration, with_local, Rules, Sight, sight, Rows, row, when, Row, StateRows, Table, class_of, picked, named, step_of, step_at, table_step}
use Rattle.markdown_tokenizer.specs.Alike.{AreAlikeUpTo, LooksNoFurther}
use Rattle.markdown_tokenizer.proofs.Positions.Order.{every-back, every-front}
use Rattle.mdconstructs_tables.specs.Joined.{joined_rules}
use Rattle.mdconstructs_tables.specs.NoFurther.{IsAnsweredAlike, TestsLookNoFurther, tests, tests_of}

module _ {R D : Type 0} (g h : Given) (s : Sight) (k : Configuration R D) (alike : AreAlikeUpTo g h s.next) where
  picked-alike : (rows : Rows R D) → AllByRecursion IsAnsweredAlike (tests_of rows) → picked rows g s k ≡ picked rows h s k
  picked-alike (row acts answer) looks = refl
  picked-alike (when test one other) looks =
      let first = picked-alike one (every-front IsAnsweredAlike (tests_of one) (tests_of other) looks.1) in
      let second = picked-alike other (every-back IsAnsweredAlike (tests_of one) (tests_of other) looks.1) in
      ap (λ (b : Bool). cond b (picked one g s k) (picked other g s k)) (looks.0 g h s k alike)
      ∙ (elim (test h s k) as (λ b. cond b (picked one g s k) (picked other g s k) ≡ cond b (picked one h s k) (picked other h s k)) [ true ↦ first | false ↦ second ])

module _ {W R D : Type 0} (table : Table W R D) (looks : TestsLookNoFurther table) (g h : Given) (s : Sight) (k : Configuration R D) (alike : AreAlikeUpTo g h s.next) where
  named-alike : (states : List (StateRows W R D)) (name : Name)
      → AllByRecursion IsAnsweredAlike (tests states (class_of table.class s.previous) (class_of table.class s.current))
      → step_at table g (named states name) s k ≡ step_at table h (named states name) s k
  named-alike [] name each = refl
  named-alike (state ∷ states) name each =
      let b = class_of table.class s.previous in let w = class_of table.class s.current in
      let here = picked-alike g h s k alike (state.rows b w) (every-front IsAnsweredAlike (tests_of (state.rows b w)) (tests states b w) each) in
      let rest = named-alike states name (every-back IsAnsweredAlike (tests_of (state.rows b w)) (tests states b w) each) in
      elim (name.number == state.name.number) as (λ c. step_at table g (cond c (Some state) (named states name)) s k ≡ step_at table h (cond c (Some state) (named states name)) s k) [
        | true ↦ ap (λ (r : Row R D). step_of r s k) here
        | false ↦ rest
      ]

-- the steps of such a table are alike
pub steps-alike : {W R D : Type 0} (table : Table W R D) → TestsLookNoFurther table → (g h : Given) (s : Sight) (k : Configuration R D) (name : Name) → AreAlikeUpTo g h s.next
    → table_step table g s k name ≡ table_step table h s k name
steps-alike table looks g h s k name alike =
    named-alike table looks g h s (with_local k (table.first k.local)) alike table.states name (looks (class_of table.class s.previous) (class_of table.class s.current))

-- so are those of two machines in one
pub joined-looks : {R D : Type 0} (is_first : Name → Bool) (first second : Given → Rules R D) → LooksNoFurther first → LooksNoFurther second → LooksNoFurther (λ g. joined_rules is_first (first g) (second g))
joined-looks is_first first second one other g h text k name is alike =
    let s = sight g text k in
    ap (cond (is_first name) ((first g).step s k name)) (other g h text k name is alike)
    ∙ (elim (is_first name) as (λ b. cond b ((first g).step s k name) ((second h).step s k name) ≡ cond b ((first h).step s k name) ((second h).step s k name)) [ true ↦ one g h text k name is alike | false ↦ refl ])
