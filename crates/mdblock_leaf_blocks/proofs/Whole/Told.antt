-- What is read between two states, told by marks and by edits; and one after another.
use Rattle.mdblock_leaf_blocks.proofs.Prelude.{◌≡◌, ℕ, ◌+◌, List, [], ◌++◌, ◌⊎◌, length, map, drop, sym, ap, ◌∙◌, append_assoc, append-nil, length-append, Name, State, Next, Retry, Ok, FlowStart, Seat, Configuration, Given, Text, all_of, Leads, table_step, flow, AddsEdits, IsReadAs, KeepsEdits, Line, Mark, linked_from, ToldMark, as_it_is, before_edits, told_edits}
use Rattle.mdblock_leaf_blocks.proofs.Lines.Checks.{leads-on}
use Rattle.mdblock_leaf_blocks.proofs.Marks.MarkLists.{edits-append, kept-before, kept-edits, told-length, told-linked}

module _ (g : Given) (t : Text) where
  -- From one state to another these marks are told
  pub record ToldTo (k : Configuration Unit Unit) (from : State) (told : List ToldMark) (after : Configuration Unit Unit) (to : State) : Type 0 where
    pub calls : ℕ
    pub events_are : after.events ≡ k.events ++ linked_from (length k.events) (before_edits told)
    pub edits : after.local.map ≡ k.local.map ++ told_edits (length k.events) told
    pub resolvers : after.local.resolvers ≡ k.local.resolvers
    pub leads : Leads g (table_step flow g) t calls k from after to

  -- one after another
  pub told-on : (k a b : Configuration Unit Unit) (from mid to : State) (xs ys : List ToldMark) → ToldTo k from xs a mid → ToldTo a mid ys b to → ToldTo k from (xs ++ ys) b to
  told-on k a b from mid to xs ys one two =
      let many : length a.events ≡ length k.events + length xs = ap length one.events_are ∙ length-append k.events _ ∙ ap (λ n. length k.events + n) (told-length (length k.events) xs) in
      let first = linked_from (length k.events) (before_edits xs) in
      record {
        calls = one.calls + two.calls;
        events_are =
            two.events_are ∙ ap (λ es. es ++ linked_from (length a.events) (before_edits ys)) one.events_are ∙ ap (λ n. (k.events ++ first) ++ linked_from n (before_edits ys)) many
            ∙ append_assoc k.events first _ ∙ ap (λ l. k.events ++ l) (sym (told-linked (length k.events) xs ys));
        edits =
            two.edits ∙ ap (λ es. es ++ told_edits (length a.events) ys) one.edits ∙ ap (λ n. (k.local.map ++ told_edits (length k.events) xs) ++ told_edits n ys) many
            ∙ append_assoc k.local.map _ _ ∙ ap (λ l. k.local.map ++ l) (sym (edits-append (length k.events) xs ys));
        resolvers = two.resolvers ∙ one.resolvers;
        leads = leads-on g t one.calls two.calls k a b from mid to one.leads two.leads;
      }

  -- what is read as marks, and makes no edit
  pub told-read : (k : Configuration Unit Unit) (name : Name) (line rest : List Seat) (marks : List Mark) (to : State) → (h : IsReadAs g t KeepsEdits k name line rest marks to)
      → ToldTo k (Retry name) (map as_it_is marks) h.after to
  told-read k name line rest marks to h = record {
    calls = h.calls;
    events_are = h.events_are ∙ ap (λ ms. k.events ++ linked_from (length k.events) ms) (sym (kept-before marks));
    edits = h.local.edits ∙ sym (append-nil k.local.map) ∙ ap (λ l. k.local.map ++ l) (sym (kept-edits (length k.events) marks));
    resolvers = h.local.resolvers;
    leads = λ cs calls z e. h.leads cs calls z e;
  }

  -- and what is read as marks that edits rename
  pub told-named : (k : Configuration Unit Unit) (name : Name) (line rest : List Seat) (told : List ToldMark) (to : State)
      → (h : IsReadAs g t (AddsEdits (told_edits (length k.events) told)) k name line rest (before_edits told) to) → ToldTo k (Retry name) told h.after to
  told-named k name line rest told to h = record {
    calls = h.calls;
    events_are = h.events_are;
    edits = h.local.edits;
    resolvers = h.local.resolvers;
    leads = λ cs calls z e. h.leads cs calls z e;
  }

  -- nothing is told where a look went by
  pub told-none : (k a : Configuration Unit Unit) (from to : State) (calls : ℕ) → a.events ≡ k.events → KeepsEdits k.local a.local → Leads g (table_step flow g) t calls k from a to → ToldTo k from [] a to
  told-none k a from to calls same keeps leads = record {
    calls = calls;
    events_are = same ∙ sym (append-nil k.events);
    edits = keeps.edits ∙ sym (append-nil k.local.map);
    resolvers = keeps.resolvers;
    leads = leads;
  }

  -- From a state these marks are told, up to the beginning of these lines, or to the end of the text
  pub record IsTold (k : Configuration Unit Unit) (from : State) (told : List ToldMark) (more : List Line) : Type 0 where
    pub after : Configuration Unit Unit
    pub to : State
    pub told_to : ToldTo k from told after to
    pub ends : ((to ≡ Next FlowStart) × (drop after.position t.seats ≡ all_of more)) ⊎ ((to ≡ Ok) × (more ≡ []))

  pub then-told : (k a : Configuration Unit Unit) (from mid : State) (xs ys : List ToldMark) (more : List Line) → ToldTo k from xs a mid → IsTold a mid ys more → IsTold k from (xs ++ ys) more
  then-told k a from mid xs ys more one two = record { after = two.after; to = two.to; told_to = told-on k a two.after from mid two.to xs ys one two.told_to; ends = two.ends }
