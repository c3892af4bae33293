-- `empty` makes a null pointer.
use Rattle.std.proofs.Common.{◌≡◌, [], ◌∷◌, refl, lit<}
use seplogic.Ra.Ura.{Ura}
use mir.Syntax.{Fn, assign, place, aggregate, int, w64, seq, return}
use base.Logic.{emp}
use base.Fml.{ftrue}
use types.Logic.{Logic}
use types.Kit.{‵, raw, ◌$◌, ◌∵◌, !, qed, by, drop, use0}
use types.Run.{lit, no_more, and_then, returns, enter}
use types.ByLocal.{alloc_all, pass_all, free_all, look_at, sets}
use types.Part.{agg}
use contract.Monad.{fact, fact_i}
use contract.Notation.{connectives}
use denote.Param.{layout}
use denote.RawPtr.{null_ptr}
use denote.Signature.{plain}
use denote.Steps.{nothing}
use denote.Triple.Clauses.{Ended, Clauses}
use denote.Triple.Entry.{on_entry}
use denote.Triple.Walked.{walk_of}
use Rattle.std.proofs.raw_atomic.Walks.{proved, leaves}
use Rattle.std.specs.Prelude.{None}
use Rattle.l4_c_values.proofs.Handles.{Form, Handle, code_of, CodeMeets, handle_in}
use Rattle.l4_c_values.proofs.Holding.{one}

module _ (F : Form) where
  abbrev ended : Ended
  ended = record { signature = record { lifetimes = 0; outlives = []; params = []; result = plain (λ κs. Handle F) }; kept = tt }

  abbrev function : Fn
  function = code_of 0 (layout (Handle F) ∷ []) (seq (assign (place 0 []) (aggregate (int w64 0 ∷ []))) return)

  module _ {M : Type 1} {𝓤 : Ura M} (𝓛 : Logic 𝓤) where
    abbrev clauses : Clauses 𝓤 ended
    clauses κs a = record { ghost = Unit {0}; requires = λ g. (connectives 𝓤).⊤ₛ; ensures = λ g r e. fact 𝓤 (F.value r ≡ None) }

    pub makes_empty : CodeMeets 𝓛 ended clauses function
    makes_empty 𝓜 𝓡 k closed =
        proved 𝓛 ended tt clauses 𝓜 𝓡 tt k function closed (λ κs. tt) (λ κs. tt) (λ κs qs bounds a g are.
        let y : (walk_of 𝓛 ended tt clauses).Ghost = ((κs, qs, bounds, a, tt), g) in
        qed 𝓛 (raw (on_entry 𝓛 ended.signature κs qs a tt) ∷ ‵ ftrue ∷ []) ∵ drop ! $ drop ! $
        enter ! _ _ _ _ _ $ alloc_all ! (λ l. pass_all ! refl tt $
        sets ! (agg ! (and_then ! (lit ! tt) (no_more !))) refl (tt, (record { fits = lit< tt }, tt)) $
        returns ! (look_at ! 0 refl) $ free_all ! refl $
        use0 𝓛 (raw (fact 𝓤 (F.value (F.make null_ptr None) ≡ None))) (fact_i 𝓤 (F.value (F.make null_ptr None) ≡ None) (emp 𝓤) (F.holds null_ptr None)) $
        nothing ! $ handle_in F ! null_ptr None $ nothing ! $ nothing ! $
        by ! (leaves 𝓛 ended tt clauses y (one null_ptr) (F.make null_ptr None) tt tt)))
