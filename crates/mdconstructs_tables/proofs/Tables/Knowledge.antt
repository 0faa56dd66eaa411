-- The laws of a machine that knows more of its events and of what states share than its table says: its plan's.
use Rattle.mdconstructs_tables.proofs.Prelude.{◌≡◌, List, [], ◌∷◌, refl, subst, Event, Name, Bool, State, Given, Text, Configuration, Local, Choice, sight, IsAsFar, IsLawful, finds_nothing, never, every, StateRows, Table, IsFit, IsFitBy, LeavesShape, AllKeepKnowing, IsKnownThroughout, KnowsFalling, knowing_rules, Plan, AllKeepKnown, KeepsKnowledge}
use Rattle.mdconstructs_tables.proofs.Tables.Plans.{formed-lawful}
pub use Rattle.mdconstructs_tables.proofs.Tables.Plans.{picked-row}
use Rattle.mdconstructs_tables.proofs.Tables.Prices.{AreLate, all-fall, every-late}

module _ {W R D : Type 0} (table : Table W R D) (knows : List Event → Local R D → List Choice → State → Type 0) where
  module _ (promise : Given → Text → List Event → Type 0) (falling : Name → Bool) where
    abbrev knowing : Plan W R D
    knowing = record {
      table = table;
      early = never;
      falling = falling;
      knows = λ g text k choices state. knows k.events k.local choices state;
      resolver = λ g. finds_nothing;
      resolves = λ g. LeavesShape (promise g);
      ends = promise;
    }

    rows-keep : (states : List (StateRows W R D)) → AllKeepKnowing table knows states → AllKeepKnown knowing states
    rows-keep [] h = tt
    rows-keep (state ∷ states) h = ((λ g text k choices b w is before here there. h.0 g (sight g text k) k choices b w there.known), rows-keep states h.1)

    known-kept : IsKnownThroughout table knows promise → KeepsKnowledge knowing
    known-kept known = record {
      at_starts = λ g p flag is. known.at_starts flag;
      by_byte = λ g text k choices name is within h. known.by_feeding k.events k.local choices name h.known;
      by_end = λ g text k choices name is behind h. known.by_feeding k.events k.local choices name h.known;
      by_rows = rows-keep table.states known.by_rows;
      by_ok = λ g text k choice choices is h. known.by_ok k choice choices h.known;
      by_nok = λ g text k choice choices is h. known.by_nok k choice choices h.known;
      by_pieces = λ g text piece k choices state is fits fresh h. h.known;
    }

  -- if only some states' own costs fall, those are the ones that attempts go on with
  pub falling-lawful : {promise : Given → Text → List Event → Type 0} (falling : Name → Bool) (g : Given) (fit : IsFitBy table never falling) → AreLate table g never fit → KnowsFalling table knows falling
      → IsKnownThroughout table knows promise → IsLawful g (knowing_rules table knows promise g)
  falling-lawful {promise} falling g fit late falls known =
      formed-lawful (knowing promise falling) g fit late (knowing_rules table knows promise g).holds (λ text k choices state h. record { holds = h.holds; falls = falls k.events k.local choices state h.known; known = h.known })
      (λ text k choices state h. record { holds = h.holds; known = h.known }) (known-kept promise falling known) (record {
        at_end = λ text k is formed h. let there = known.at_end k formed.balanced h.known in (there.1, there.2, known.promised g text k formed h.known);
        by_resolvers = λ text r rs k new more is h e.
            let same : k ≡ new = cc in subst (λ (q : Configuration R D). LeavesShape (promise g) text rs q × IsAsFar q k × (q.stack ≡ k.stack)) same (h, (refl, refl, refl), refl);
        at_last = λ text k is h. h;
      })

  pub knowing-lawful : {promise : Given → Text → List Event → Type 0} (g : Given) → IsFit table → IsKnownThroughout table knows promise → IsLawful g (knowing_rules table knows promise g)
  knowing-lawful g fit known = falling-lawful every g fit (every-late table g fit) (λ events local choices state h. all-fall choices) known
