-- The states of a graph as text, one more each.
use Rattle.std.proofs.Common.{◌≡◌, ℕ, suc, ◌+◌, ◌-◌, ◌<◌, ◌≤◌, get_or, length, arith, List, [], ◌++◌, sym, ap, ◌∙◌, append_assoc, append-nil}
use Rattle.std.specs.Prelude.{slice_get, Some, Option, Result, Ok, Err, OnOk}
use Rattle.std.specs.Option.{option_map_or}
use Rattle.std.proofs.lemmas.Option.{slice_get_read}
use Rattle.l4_merges.specs.declared.graph.Seen.{Seen}
use Rattle.l4_orders.specs.declared.plans.Plan.{Plan}
use Rattle.l4_graphs.specs.Drawing.{node_text, nodes_below, nodes_text}

-- what was written, and what is left to write
abbrev pub AreWritten : Plan → List Seen → ℕ → List ℕ → List ℕ → Type 0
AreWritten plan seen done before out = out ++ nodes_below plan (length seen) seen (length seen - done) ≡ before ++ nodes_text plan seen

pub none_written : (plan : Plan) (seen : List Seen) (out : List ℕ) → AreWritten plan seen 0 out out
none_written plan seen out =
    let all : length seen - 0 ≡ length seen = omega arith in
    ap (λ (n : ℕ). out ++ nodes_below plan (length seen) seen n) all

pub node_written : (plan : Plan) (seen : List Seen) (done place count : ℕ) (one : Seen) (before out after : List ℕ) → count ≡ length seen → done < count → place + done + 1 ≡ count → one ≡ get_or seen place one
    → AreWritten plan seen done before out → after ≡ out ++ node_text plan count place one → AreWritten plan seen (done + 1) before after
node_written plan seen done place count one before out after all lt here is so_far added =
    let left : length seen - done ≡ suc place = omega (arith, all, here, lt) in
    let then_left : length seen - (done + 1) ≡ place = omega (arith, all, here, lt) in
    let found : slice_get seen place ≡ Some one = slice_get_read seen (length seen) place one refl_of (omega (arith, all, here)) is in
    ap (λ (n : ℕ). after ++ nodes_below plan (length seen) seen n) then_left
    ∙ ap (λ (t : List ℕ). t ++ nodes_below plan (length seen) seen place) (added ∙ ap (λ (n : ℕ). out ++ node_text plan n place one) all)
    ∙ append_assoc out (node_text plan (length seen) place one) (nodes_below plan (length seen) seen place)
    ∙ ap (λ (o : Option Seen). out ++ (option_map_or (node_text plan (length seen) place) o [] ++ nodes_below plan (length seen) seen place)) (sym found)
    ∙ ap (λ (n : ℕ). out ++ nodes_below plan (length seen) seen n) (sym left)
    ∙ so_far where
      refl_of : length seen ≡ length seen
      refl_of = λ i. length seen

pub all_written : (plan : Plan) (seen : List Seen) (done : ℕ) (before out : List ℕ) → length seen ≤ done → AreWritten plan seen done before out → out ≡ before ++ nodes_text plan seen
all_written plan seen done before out past so_far =
    let none : length seen - done ≡ 0 = omega (arith, past) in
    sym (append-nil out) ∙ ap (λ (n : ℕ). out ++ nodes_below plan (length seen) seen n) (sym none) ∙ so_far

-- an arrow, and then the states
pub started : {T E : Type 0} (r : Result T E) (out first state last nodes a b d after : List ℕ) → a ≡ out ++ first → b ≡ a ++ state → d ≡ b ++ last → OnOk r (after ≡ d ++ nodes)
    → OnOk r (after ≡ out ++ (first ++ state ++ last ++ nodes))
started (Ok x) out first state last nodes a b d after ea eb ed e =
    e ∙ ap (λ (l : List ℕ). l ++ nodes) (ed ∙ ap (λ (l : List ℕ). l ++ last) (eb ∙ ap (λ (l : List ℕ). l ++ state) ea ∙ append_assoc out first state) ∙ append_assoc out (first ++ state) last)
    ∙ append_assoc out (first ++ state ++ last) nodes
started (Err why) out first state last nodes a b d after ea eb ed e = tt
