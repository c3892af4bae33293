-- `into_loose` tests the pointer, and has the box where there is one.
use Rattle.std.proofs.Common.{◌≡◌, List, [], ◌∷◌, ◌++◌, refl, sym, subst, lit<}
use seplogic.Ra.Ura.{Ura}
use mir.Syntax.{Fn, Body, ty_ptr, ty_bool, assign, place, field, aggregate, rv_opd, op2, ptr_eq, copy, int, w8, w64, seq, cond, return}
use mir.Val.{Val, vptr, vcons, vnil}
use base.Logic.{SProp, ent, emp, id⊢}
use base.Fml.{ftrue}
use prog.Wp.{WpFn}
use types.Logic.{Logic}
use types.Kit.{‵, raw, ◌⊛◌, at_ret, ◌$◌, ◌∵◌, !, qed, by, move, keep, split, fsplit, fjoin, use0, use1, suffices}
use types.Run.{stop, fld, lit, of_opd, bin, no_more, and_then, first, branches, exec, returns, enter}
use types.ByLocal.{alloc_all, pass_all, free_all, look_at, get, get_in, sets, sets_last, env}
use types.Part.{agg, sub, whole}
use types.Match.{live}
use contract.Monad.{fact, fact_i}
use contract.Notation.{connectives}
use contract.Running.{tables}
use denote.Exit.{yes}
use denote.RattleType.{RattleType, owns}
use denote.Signature.{types_at, plain}
use denote.RawPtr.{Ptr, block_ptr, null_ptr, tests_null}
use denote.Steps.{nothing}
use denote.Param.{layout}
use denote.Triple.Clauses.{Ended, Clauses}
use denote.Triple.Walked.{Stays, stay_dropped, walk_of, Goes-dropped}
use Rattle.core.proofs.alloc.Calls.{handle_tells}
use Rattle.core.proofs.alloc.Shapes.{after}
use Rattle.core.proofs.cell.Inside.{Good}
use Rattle.core.proofs.option.Made.{Some-of, none_of}
use Rattle.core.specs.contracts.option.Option as option
use Rattle.core.specs.declared.option.Option.TheVariants.{None, Some}
use Rattle.std.specs.Prelude.{MatchOption, None as Nothing, Some as Just}
use Rattle.std.specs.contracts.alloc.Global as heap
use Rattle.std.proofs.alloc.Global.TheLaws as heap_laws
use Rattle.std.specs.contracts.impls.GlobalAllocator.TheImpl.{ghosts}
use Rattle.std_alloc.proofs.ResultValues.{and_tt}
use Rattle.std.proofs.raw_atomic.Walks.{proved_at, leaves}
use Rattle.l4_c_values.proofs.Handles.{Form, Handle, Unboxed, code_of, CodeMeets, handle_out}
use Rattle.l4_c_values.proofs.Holding.{one, either_held}
use Rattle.l4_c_values.proofs.Values.{both, al, loose_good, loose_in}

abbrev opened : Body
opened =
    seq (assign (place 6 []) (rv_opd (copy (place 3 []))))
    (seq (assign (place 7 []) (aggregate (copy (place 6 []) ∷ copy (place 2 []) ∷ [])))
    (assign (place 5 []) (aggregate (int w8 1 ∷ copy (place 7 []) ∷ []))))

module _ (F : Form) where
  abbrev Z : RattleType
  Z = heap.the_row

  abbrev Out : RattleType
  Out = option.the_row (Unboxed F)

  abbrev ended : Ended
  ended = record {
    signature = record { lifetimes = 0; outlives = []; params = plain (λ κs. Handle F) ∷ plain (λ κs. Z) ∷ []; result = plain (λ κs. Out) };
    kept = (yes, (yes, tt));
  }

  abbrev function : Fn
  function = code_of 2 (layout Out ∷ layout (Handle F) ∷ layout Z ∷ ty_ptr ∷ ty_bool ∷ layout Out ∷ ty_ptr ∷ layout (Unboxed F) ∷ [])
      (seq (assign (place 3 []) (rv_opd (copy (place 1 (field 0 ∷ [])))))
      (seq (assign (place 4 []) (op2 ptr_eq (copy (place 3 [])) (int w64 0)))
      (seq (cond (copy (place 4 [])) (assign (place 5 []) (aggregate (int w8 0 ∷ []))) opened)
      (seq (assign (place 0 []) (rv_opd (copy (place 5 [])))) return))))

  module _ {M : Type 1} {𝓤 : Ura M} (𝓛 : Logic 𝓤) where
    abbrev clauses : Clauses 𝓤 ended
    clauses κs a = record {
      ghost = Unit {0};
      requires = λ g. (connectives 𝓤).⊤ₛ;
      ensures = λ g r e. fact 𝓤 (MatchOption r (F.value a.0 ≡ Nothing) (λ loose. F.value a.0 ≡ Just loose.value));
    }

    pub makes_into_loose : CodeMeets 𝓛 ended clauses function
    makes_into_loose 𝓜 𝓡 k closed =
        let H = 𝓛.H in let 𝓣 = tables 𝓤 H 𝓜 𝓡 𝓡.env in let c : Clauses 𝓤 ended = clauses in let L = heap_laws.the_row_laws in
        let hs : Stays ended.signature.params ended.kept = (stay_dropped (plain (λ _. Handle F)) yes, (stay_dropped (plain (λ _. Z)) yes, tt)) in
        proved_at 𝓛 ended hs c 𝓜 𝓡 (Goes-dropped 𝓛 0 (plain (λ _. Handle F)) yes (λ κs x f. refl), (Goes-dropped 𝓛 0 (plain (λ _. Z)) yes (λ κs x f. refl), tt)) k function closed (λ z are.
        let d = z.0.3.0 in let p = F.hidden d in let held = F.value d in let a = z.0.3.1.0 in
        let Post : Val → SProp 𝓤 = (walk_of 𝓛 ended hs c).post z in let Run : List Val → SProp 𝓤 = λ ws. WpFn 𝓤 H 𝓣.C 𝓣.Λ function ws Post in
        qed 𝓛 ((‵ ftrue ⊛ ‵ (owns (types_at ended.signature.params z.0.0) z.0.3 z.0.4)) ∷ raw ((c z.0.0 z.0.3).requires z.1) ∷ []) ∵ split ! $ move ! (1 ∷ []) $ fsplit ! $
        handle_out F ! d z.0.4.0 (λ e. move ! (1 ∷ []) $ fsplit ! $ handle_tells (al F.Held Z L ghosts) ! a z.0.4.1.0 (λ h eh fits.
        -- [the allocator; nothing; what the handle held; ..]
        move ! (2 ∷ []) $
        suffices ! (Run (one p ∷ h ∷ [])) (subst (λ (us : List Val). ent 𝓤 (Run (one p ∷ h ∷ [])) (Run us)) (sym (λ i. e i ++ (eh i ++ []))) (id⊢ 𝓤 (Run (one p ∷ h ∷ [])))) $
        either_held F.Held ! p held
        (λ is is_none. suffices ! (Run (one null_ptr ∷ h ∷ [])) (subst (λ (q : Ptr). ent 𝓤 (Run (one null_ptr ∷ h ∷ [])) (Run (one q ∷ h ∷ []))) (sym is) (id⊢ 𝓤 (Run (one null_ptr ∷ h ∷ [])))) $
        enter ! 𝓣.C 𝓣.Λ function (one null_ptr ∷ h ∷ []) Post $ alloc_all ! (λ l. pass_all ! refl ((tt, (record { fits = lit< tt }, tt)), (fits, tt)) $ let Ev = env function.locals l in
        sets ! (of_opd ! (get_in ! (fld ! refl (stop !)) (sub ! 0 refl (whole !)))) refl (tt, record { fits = lit< tt }) $ sets ! (bin ! (get ! refl) (lit ! tt) tt) refl (tt, tt) $ first ! $ branches ! (get ! refl)
        (λ _. sets_last ! (agg ! (and_then ! (lit ! tt) (no_more !))) refl (tt, (record { fits = lit< tt }, tt)) $
        exec ! 𝓣.C 𝓣.Λ Ev (after 3 function.body) (at_ret Ev Post) $ sets ! (of_opd ! (get ! refl)) refl (tt, (record { fits = lit< tt }, tt)) $
        use0 𝓛 (raw (fact 𝓤 (held ≡ Nothing))) (fact_i 𝓤 (held ≡ Nothing) (emp 𝓤) is_none) $ use0 𝓛 (‵ (Out.own_val None (live 0 vnil ∷ []))) (none_of 𝓛 (Unboxed F)) $
        nothing ! $ nothing ! $ fjoin ! $ nothing ! $ fjoin ! $ nothing ! $
        returns ! (look_at ! 0 refl) $ free_all ! refl $ keep ! (0 ∷ 1 ∷ 2 ∷ 3 ∷ []) $ by ! (leaves 𝓛 ended hs c z (live 0 vnil) None (tt, (tt, tt)) (tt, (tt, tt)))) (λ wrong. absurd wrong)))
        (λ b o x is is_some t. suffices ! (Run (one (block_ptr b o) ∷ h ∷ [])) (subst (λ (q : Ptr). ent 𝓤 (Run (one (block_ptr b o) ∷ h ∷ [])) (Run (one q ∷ h ∷ []))) (sym is) (id⊢ 𝓤 (Run (one (block_ptr b o) ∷ h ∷ [])))) $
        let made : Val = both (vptr b o) h in let typed = loose_good F.Held Z L ghosts b o h fits in let v₁ : Val = live 1 (vcons made vnil) in let r : (Unboxed F).Denot = record { at = block_ptr b o; alloc = a; value = x } in
        let good : Good (layout Out) v₁ = (and_tt _ typed.0, (record { fits = lit< tt }, (typed.1, tt))) in
        enter ! 𝓣.C 𝓣.Λ function (one (block_ptr b o) ∷ h ∷ []) Post $ alloc_all ! (λ l. pass_all ! refl ((tt, (tt, tt)), (fits, tt)) $ let Ev = env function.locals l in
        sets ! (of_opd ! (get_in ! (fld ! refl (stop !)) (sub ! 0 refl (whole !)))) refl (tt, tt) $ sets ! (bin ! (get ! refl) (lit ! tt) (tests_null (block_ptr b o) t)) refl (tt, tt) $ first ! $ branches ! (get ! refl) (λ wrong. absurd wrong) (λ _.
        sets ! (of_opd ! (get ! refl)) refl (tt, tt) $ sets ! (agg ! (and_then ! (get ! refl) (and_then ! (get ! refl) (no_more !)))) refl typed $
        sets_last ! (agg ! (and_then ! (lit ! tt) (and_then ! (get ! refl) (no_more !)))) refl good $
        exec ! 𝓣.C 𝓣.Λ Ev (after 3 function.body) (at_ret Ev Post) $ sets ! (of_opd ! (get ! refl)) refl good $ loose_in F.Held Z L ghosts ! b o h a x $
        use1 𝓛 (‵ (Out.own_val (Some r) (v₁ ∷ []))) (Some-of 𝓛 (Unboxed F) r made) $ use0 𝓛 (raw (fact 𝓤 (held ≡ Just x))) (fact_i 𝓤 (held ≡ Just x) (emp 𝓤) is_some) $ move ! (1 ∷ 0 ∷ []) $
        nothing ! $ nothing ! $ fjoin ! $ nothing ! $ fjoin ! $ nothing ! $
        returns ! (look_at ! 0 refl) $ free_all ! refl $ keep ! (0 ∷ 1 ∷ 2 ∷ 3 ∷ []) $ by ! (leaves 𝓛 ended hs c z v₁ (Some r) (tt, (tt, tt)) (tt, (tt, tt)))))))))
