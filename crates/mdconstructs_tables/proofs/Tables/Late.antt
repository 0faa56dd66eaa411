-- The laws of a machine whose choices end with Ok late, from the test of its table: it knows nothing more.
use Rattle.markdown_tokenizer.proofs.Readings.Plain as machines
use Rattle.mdconstructs_tables.proofs.Prelude.{List, [], ◌∷◌, Bool, Option, EndsWellFormed, Name, Given, Sight, Configuration, IsLawful, NothingResolves, finds_nothing, plain, Rows, row, when, Row, StateRows, Table, EachRow, AllKeepKnown, KeepsKnowledge, Plan, IsLate, WritesPlain, late_rules}
use Rattle.mdconstructs_tables.proofs.Tables.Plain.{table-keeps_plain}
use Rattle.mdconstructs_tables.proofs.Tables.Plans.{planned-calls}
pub use Rattle.mdconstructs_tables.proofs.Tables.Prices.{all-late}

module _ {W R D : Type 0} (table : Table W R D) (early : Name → Option W → Bool) (falling : Name → Bool) where
  abbrev knowing_nothing : Plan W R D
  knowing_nothing = record {
    table = table;
    early = early;
    falling = falling;
    knows = λ g text k choices state. Unit {0};
    resolver = λ g. finds_nothing;
    resolves = λ g. NothingResolves (EndsWellFormed g);
    ends = EndsWellFormed;
  }

  nothing-of : (g : Given) (s : Sight) (k : Configuration R D) (rows : Rows R D) → EachRow (λ (r : Row R D). Unit {0}) g s k rows
  nothing-of g s k (row acts answer) = tt
  nothing-of g s k (when test one other) = ((λ e. nothing-of g s k one), (λ e. nothing-of g s k other))

  nothing-of-all : (states : List (StateRows W R D)) → AllKeepKnown knowing_nothing states
  nothing-of-all [] = tt
  nothing-of-all (state ∷ states) = ((λ g text k choices b w is before here h. nothing-of g _ _ (state.rows b w)), nothing-of-all states)

  nothing-kept : KeepsKnowledge knowing_nothing
  nothing-kept = record {
    at_starts = λ g p flag is i name at. tt;
    by_byte = λ g text k choices name is within h. tt;
    by_end = λ g text k choices name is behind h. tt;
    by_rows = nothing-of-all table.states;
    by_ok = λ g text k choice choices is h. tt;
    by_nok = λ g text k choice choices is h. tt;
    by_pieces = λ g text piece k choices state is fits fresh h. tt;
  }

  pub late-lawful : (g : Given) → IsLate table early falling → WritesPlain table → IsLawful g (plain (late_rules table early falling g))
  late-lawful g is_late writes =
      let (once, adds, ends, kept, pays) = planned-calls knowing_nothing g is_late.fit (all-late table early falling g is_late) (late_rules table early falling g).holds
      (λ text k choices state h. record { holds = h.0; falls = h.1; known = tt }) (λ text k choices state h. (h.holds, h.falls)) nothing-kept in
      machines.plain-lawful g (late_rules table early falling g) (table-keeps_plain table g writes) once adds ends kept pays (λ text k is formed h. formed)
