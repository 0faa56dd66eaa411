use mathlib.Core.Path.{refl}
use mathlib.Core.List.{[], ◌∷◌}
use Prim.Native.Nat.{◌+◌, ◌<◌, ◌^◌}
use Rattle.markdown_tokenizer.proofs.Prelude.{Ura, named, Val, vptr, vstruct, vnil, SProp, ent, emp, via, fst∗, Fml, Memory, Routine, Calls, Loops, WpFn, Logic, Lfts, Shares, Fun, tables, WpFn-mono, ‵, raw, ◌$◌, ◌∵◌, !, qed, move, suffices, done, no_more, returns, enter, agg, alloc_all, pass_all, free_all, look_at, sets, yes, owns, shr_vals, shr_Tells, pure_i, types_at, on_entry, alive, Args, triple_of, entered, says, stay_none_ref, Stays, walk_of, Walks, ends_at, walked, Goes-none_ref, walk_Meets}
use contract.Running.{tables_of}
use denote.Builtin.{usize}
use denote.Plain.{uint_vals, uint_Tells}
use denote.Signature.{plain}
use denote.Triple.Walked.{stay_none, Goes-none}
use mir.Syntax.{w64}
use mir.Val.{vint}
use Rattle.markdown_tokenizer.specs.contracts.count.Calls.more.Key.{name as key}
use Rattle.markdown_tokenizer.specs.contracts.count.Calls.more as f
use Rattle.markdown_tokenizer.proofs.count.Calls.more.Statement as stated
use Rattle.markdown_tokenizer.proofs.count.Calls.more.Code as code
use Rattle.markdown_tokenizer.specs.contracts.count.Calls as trail

abbrev stayed : Stays (f.ended).signature.params (f.ended).kept
stayed = (stay_none_ref (0 ∷ []) tt (plain (λ _. trail.the_row)) yes, (stay_none (λ _. usize) yes, tt))

module _ {M : Type 1} {𝓤 : Ura M} (𝓛 : Logic 𝓤) (mem : Memory → SProp 𝓤) (run : Routine → Fun 𝓤) (C : Calls 𝓤 𝓛.H) (Λ : Loops 𝓤 𝓛.H) where
  open 𝓛 use {H}

  module _ (κs : Lfts 1) (qs : Shares 1) (a : Args f.signature κs) where
    abbrev before : Val
    before = vptr a.0.ref_ptr.0 a.0.ref_ptr.1

    abbrev count : Val
    count = vint w64 a.1.0

    abbrev bound : (walk_of 𝓛 f.ended stayed (f.clauses 𝓛 mem run)).Ghost
    bound = ((κs, qs, tt, a, (before ∷ [], (count ∷ [], tt))), tt)

    abbrev passed : Fml
    passed = owns (types_at f.signature.params κs) a (before ∷ [], (count ∷ [], tt))

    walk : a.1.0 < 2 ^ 64 → ent 𝓤 (on_entry 𝓛 f.signature κs qs a (before ∷ [], (count ∷ [], tt)))
        (WpFn 𝓤 H C Λ code.function (before ∷ count ∷ []) ((walk_of 𝓛 f.ended stayed (f.clauses 𝓛 mem run)).post bound))
    walk fits =
        qed 𝓛 (raw (alive 𝓛 f.signature κs qs) ∷ ‵ passed ∷ []) ∵ enter ! C Λ code.function (before ∷ count ∷ []) _ $
        alloc_all ! (λ l. pass_all ! refl ((tt, tt), ((tt, record { fits = fits }), tt)) $ sets ! (agg ! (no_more !)) refl (tt, tt) $
        returns ! (look_at ! 0 refl) $ free_all ! refl $
        suffices ! _ (ends_at 𝓛 f.ended stayed (f.clauses 𝓛 mem run) bound (vstruct vnil) (record { made = a.0.now.made + a.1.0 }) (tt, (tt, tt)) (tt, (tt, tt))) $
        says ! refl $ pure_i ! (trail.the_row.own_val (record { made = a.0.now.made + a.1.0 }) (vstruct vnil ∷ [])) ((λ vss. (tt, tt)), tt) ((tt, (refl, tt)), tt) $
        move ! (1 ∷ 2 ∷ 0 ∷ []) $ done !)

  walks : Walks 𝓛 f.ended stayed (WpFn 𝓤 H C Λ code.function) (f.clauses 𝓛 mem run)
  walks =
      walked 𝓛 f.ended stayed (f.clauses 𝓛 mem run) (WpFn 𝓤 H C Λ code.function) (λ κs. (shr_vals, (uint_vals w64, tt)))
      (λ κs. (shr_Tells (named 0) κs.0 trail.the_row, (uint_Tells w64, tt)))
      (λ κs qs bounds a g are. via 𝓤 _ (fst∗ 𝓤 _ (emp 𝓤)) (walk κs qs a are.1.0.1))

pub more_spec : {M : Type 1} → stated.statement M
unfolding tables_of
more_spec 𝓤 𝓛 𝓜 𝓡 wired =
    let 𝓣 = tables_of 𝓤 𝓛.H 𝓜 (tables 𝓤 𝓛.H 𝓜 𝓡 𝓡.env) in
    entered 𝓤 𝓛.H (triple_of 𝓛 f.signature (f.spec 𝓛 𝓜.mem 𝓡.returns))
    (tables 𝓤 𝓛.H 𝓜 𝓡 𝓡.env).C (tables 𝓤 𝓛.H 𝓜 𝓡 𝓡.env).Λ key code.function (code.unfolded 𝓤 𝓛.H 𝓜 𝓡 wired)
    (walk_Meets 𝓛 f.ended stayed (Goes-none_ref 𝓛 1 (0 ∷ []) tt (plain (λ _. trail.the_row)) yes, (Goes-none 𝓛 1 (λ _. usize) yes (λ κs x f. refl), tt)) (f.clauses 𝓛 𝓜.mem 𝓡.returns) (WpFn 𝓤 𝓛.H 𝓣.C 𝓣.Λ code.function)
    (WpFn-mono 𝓤 𝓛.H 𝓛.laws 𝓣 code.function) (walks 𝓛 𝓜.mem 𝓡.returns 𝓣.C 𝓣.Λ))
