-- The rows of states of raw HTML, by the byte that waits.
use Rattle.markdown_base.proofs.Facts.Numbers.{unlike}
use Rattle.mdinline_constructs.proofs.Prelude.{◌≡◌, ℕ, ◌==◌, not, List, [], ◌∷◌, ◌++◌, Bool, true, false, cond, Option, Some, None, refl, sym, ap, ◌∙◌, eqb-true, HtmlTextData, Name, Retry, Nok, Configuration, Step, Sight, sight, Given, Text, row_step, Act, Rows, row, enter, when, class_of, passes, by-class, TextByte, text_byte, HasRow, HasRows, tested, html_rows, html_line_begins, is_following, sees, is_white}
use Rattle.mdinline_constructs.proofs.HtmlTexts.Pieces.{is_no_line_feed}
use Rattle.mdinline_constructs.proofs.HtmlTexts.Reads.{row_of}
use Rattle.mdinline_constructs.proofs.HtmlTexts.Walks.{Move, refused}

-- at any byte but a line feed
pub other-rows : {R D : Type 0} (ending others : Rows R D) (before : Option TextByte) (b : ℕ) → (b == 10) ≡ false → html_rows ending others before (Some (text_byte b)) ≡ others
other-rows ending others before b h =
    by-class (λ w. html_rows ending others before (Some w) ≡ others) b
    (λ e. absurd (let no : true ≡ false = sym e ∙ h in cc)) (λ e. refl) (λ e. refl) (λ e. refl) (λ e. refl) (λ e. refl) (λ e. refl) (λ n e. refl) (λ e. refl) (λ e. refl) (λ e. refl) (λ o e. refl) (λ o e. refl) (λ o n e. refl)

-- at a line feed, and at the end, where it stops
pub stopped-rows : (others : Rows Unit Unit) (before : Option TextByte) (o : Option ℕ) → passes is_no_line_feed o ≡ false → html_rows (row [] Nok) others before (class_of text_byte o) ≡ row [] Nok
stopped-rows others before None h = refl
stopped-rows others before (Some b) h = elim (b == 10) as (λ t. (b == 10) ≡ t → not t ≡ false → html_rows (row [] Nok) others before (Some (text_byte b)) ≡ row [] Nok) [
  | true ↦ λ e i. ap (λ c. html_rows (row [] Nok) others before (Some (text_byte c))) (eqb-true b 10 e)
  | false ↦ λ e i. absurd (cc)
] refl h

module _ (g : Given) (text : Text) (step : Sight → Configuration Unit Unit → Name → Step Unit Unit) where
  -- what is seen picks the rows
  pub at-seen : (name : Name) (rows : (previous current : Option TextByte) → Rows Unit Unit) (r : Rows Unit Unit) (k : Configuration Unit Unit) (o : Option ℕ) → HasRows g text step name rows → (sight g text k).current ≡ o
      → rows (class_of text_byte (sight g text k).previous) (class_of text_byte o) ≡ r → HasRow g text step k name r
  at-seen name rows r k o has waits is =
      has k ∙ ap (λ o. row_step g text k (rows (class_of text_byte (sight g text k).previous) (class_of text_byte o))) waits ∙ ap (row_step g text k) is

module _ (g : Given) (text : Text) (k : Configuration Unit Unit) where
  -- a test of the byte that waits picks one of two
  pub by-byte : (test : ℕ → Bool) (x y : Rows Unit Unit) (b : ℕ) (t : Bool) → (sight g text k).current ≡ Some b → test b ≡ t → row_step g text k (when (sees test) x y) ≡ row_step g text k (cond t x y)
  by-byte test x y b t waits is = tested g text (sees test) x y k t (ap (passes test) waits ∙ is)

  -- the rows of a move are those of one of two
  pub by-move : {S : Type 0} (name : S → Name) (test : ℕ → Bool) (one other : Move S) (others : Rows Unit Unit) (b : ℕ) → (sight g text k).current ≡ Some b
      → row_step g text k others ≡ row_step g text k (row_of name other)
      → row_step g text k (when (sees test) (row_of name one) others) ≡ row_step g text k (row_of name (cond (test b) one other))
  by-move name test one other others b waits rest =
      by-byte test (row_of name one) others b (test b) waits refl
      ∙ elim (test b) as (λ t. row_step g text k (cond t (row_of name one) others) ≡ row_step g text k (row_of name (cond t one other))) [ true ↦ refl | false ↦ rest ]

  -- the state that follows a line ending, by its number
  abbrev pub followed : List (Act Unit Unit) → List Name → ℕ → Rows Unit Unit
  followed acts [] n = row [] Nok
  followed acts (name ∷ names) n = cond (n == name.number) (row (acts ++ enter HtmlTextData ∷ []) (Retry name)) (followed acts names n)

  pub line-begun : (acts : List (Act Unit Unit)) (names : List Name) (n : ℕ) → k.local.tokenize_state.marker_b ≡ n
      → row_step g text k (html_line_begins acts names) ≡ row_step g text k (followed acts names n)
  line-begun acts [] n h = refl
  line-begun acts (name ∷ names) n h =
      tested g text (is_following name) (row (acts ++ enter HtmlTextData ∷ []) (Retry name)) (html_line_begins acts names) k (n == name.number) (ap (λ m. m == name.number) h)
      ∙ elim (n == name.number) as (λ t. row_step g text k (cond t (row (acts ++ enter HtmlTextData ∷ []) (Retry name)) (html_line_begins acts names))
      ≡ row_step g text k (cond t (row (acts ++ enter HtmlTextData ∷ []) (Retry name)) (followed acts names n))) [ true ↦ refl | false ↦ line-begun acts names n h ]

-- rows by tests of a byte, one after another, with what it does
abbrev pub Tests : Type 0 → Type 0
Tests S = List ((ℕ → Bool) × Move S)

module _ {S : Type 0} (name : S → Name) where
  abbrev pub rows_by : Tests S → Rows Unit Unit
  rows_by [] = row [] Nok
  rows_by ((test, move) ∷ cs) = when (sees test) (row_of name move) (rows_by cs)

abbrev pub move_by : {S : Type 0} → Tests S → ℕ → Move S
move_by [] b = refused
move_by ((test, move) ∷ cs) b = cond (test b) move (move_by cs b)

module _ (g : Given) (text : Text) {S : Type 0} (name : S → Name) (k : Configuration Unit Unit) (b : ℕ) (waits : (sight g text k).current ≡ Some b) where
  moves-by : (cs : Tests S) → row_step g text k (rows_by name cs) ≡ row_step g text k (row_of name (move_by cs b))
  moves-by [] = refl
  moves-by ((test, move) ∷ cs) = by-move g text k name test move (move_by cs b) (rows_by name cs) b waits (moves-by cs)

  -- so it does what the first test says that it passes
  pub at-cases : (ending : Rows Unit Unit) (cs : Tests S) (previous : Option TextByte) → (b == 10) ≡ false
      → row_step g text k (html_rows ending (rows_by name cs) previous (Some (text_byte b))) ≡ row_step g text k (row_of name (move_by cs b))
  at-cases ending cs previous plain = ap (row_step g text k) (other-rows ending (rows_by name cs) previous b plain) ∙ moves-by cs

module _ (g : Given) (text : Text) (step : Sight → Configuration Unit Unit → Name → Step Unit Unit) where
  -- white space is read by these rows
  abbrev pub ReadsWhite : Name → Rows Unit Unit → Type 0
  ReadsWhite name white = (k : Configuration Unit Unit) (b : ℕ) → (sight g text k).current ≡ Some b → is_white b ≡ true → HasRow g text step k name white

  -- so it is where a state looks for it, once the byte is no line feed
  pub white-first : (name : Name) (rows : (previous current : Option TextByte) → Rows Unit Unit) (white others : Rows Unit Unit) → HasRows g text step name rows
      → ((before : Option TextByte) (b : ℕ) → (b == 10) ≡ false → rows before (Some (text_byte b)) ≡ when (sees is_white) white others) → ReadsWhite name white
  white-first name rows white others has seen k b waits w =
      at-seen g text step name rows (when (sees is_white) white others) k (Some b) has waits (seen (class_of text_byte (sight g text k).previous) b (unlike is_white 10 refl b w))
      ∙ by-byte g text k is_white white others b true waits w
