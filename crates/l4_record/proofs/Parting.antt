-- The history as its two parts: the entries that were handed out, and those that are kept.
use Rattle.std.proofs.Common.{◌≡◌, ◌≤◌, ◌+◌, ℕ, List, [], None, ◌++◌, length, take, refl, sym, ap, ◌∙◌, subst, arith}
use Rattle.std.proofs.lemmas.List.{length-append, append-nil, take_all, drop_all, drop_at}
use Rattle.std.proofs.Math.Seq.{take-append_seam}
use Rattle.atomic_table.specs.Seated.{TableId}
use Rattle.l4_ipc.specs.Machine.{Machine}
use Rattle.l4_record.specs.declared.entries.Entry.{Entry}
use Rattle.l4_record.specs.History.{Follows, IsLegal}
use Rattle.l4_record.specs.Recording.{recording, IsKept}
use Rattle.l4_record.specs.Segments.{kept}
use Rattle.l4_record.specs.Sizes.{max_handed_out}

pub kept_is : (past now : List Entry) (kept_from : ℕ) → length past ≡ kept_from → kept kept_from (past ++ now) ≡ now
kept_is past now kept_from handed = drop_at past now kept_from handed

pub past_is : (past now : List Entry) (kept_from : ℕ) → length past ≡ kept_from → take kept_from (past ++ now) ≡ past
past_is past now kept_from handed = ap (λ (k : ℕ). take k (past ++ now)) (sym handed) ∙ take-append_seam past now

-- THE ENTRIES THAT ARE KEPT ARE HANDED OUT

module _ (frames : ℕ) (m : Machine) (past past' now now' : List Entry) (kept_from kept_from' : ℕ) (board : TableId) (shown : ℕ) (extended : past' ≡ past ++ now) (empty : now' ≡ []) (end : kept_from' ≡ kept_from + length now) (handed : length past ≡ kept_from) where
  all : past' ++ now' ≡ past ++ now
  all = ap (λ (h : List Entry). past' ++ h) empty ∙ append-nil past' ∙ extended

  pub now_handed : length past' ≡ kept_from'
  now_handed = let l = ap length extended in omega (arith, l, end, handed, length-append past now)

  whole : kept_from' ≡ length (past ++ now)
  whole = omega (arith, end, handed, length-append past now)

  pub handed_kept : IsKept (recording frames m (past ++ now) kept_from board shown) → kept_from' ≤ max_handed_out → IsKept (recording frames m (past' ++ now') kept_from' board shown)
  handed_kept k most =
      let w = whole in
      subst (λ (h : List Entry). IsKept (recording frames m h kept_from' board shown)) (sym all)
      (record {
        legal = k.legal;
        idle = k.idle;
        few = omega (arith, w);
        shown = k.shown;
        within = omega (arith, w);
        handed_out = most;
        base = record {
          base = m;
          earlier = subst (λ (h : List Entry). IsLegal frames h m) (sym (take_all kept_from' (past ++ now) (omega (arith, w)))) k.legal;
          idle = k.idle;
          since = subst (λ (h : List Entry). Follows m None h m) (sym (drop_all kept_from' (past ++ now) (omega (arith, w)))) refl;
        };
      })
