-- One more hold takes the first blank row of a plan's room. Assumes nothing.
use mathlib.Core.Path.{◌≡◌, refl, sym, ap, ◌∙◌}
use mathlib.Core.List.{List, [], ◌∷◌, ◌++◌, append_assoc}
use Prim.Native.Nat.{suc, ◌+◌, ◌-◌, ◌<◌}
use native.Mathlib.Omega.{arith}
use native.Mathlib.Numerals.{add-one}
use lib.ListN.{length, set, take, replicate, length-append, length-replicate}
use lib.Seq.{take-suc-set}
use Rattle.rows.specs.declared.HoldRow.{HoldRow}
use Rattle.plans.specs.declared.Plan.TheInside.{Inside}
use Rattle.plans.specs.Plans.{blank_row, plan_room}
use Rattle.plans.specs.Room.{used_rows, with_blanks, Padded, used_long}

-- a row set behind a list stands at the list's end
set_behind : (rows behind : List HoldRow) (x h : HoldRow) → set (rows ++ (x ∷ behind)) (length rows) h ≡ rows ++ (h ∷ behind)
set_behind [] behind x h = refl
set_behind (r ∷ rows) behind x h = ap {B = List HoldRow} (λ l. r ∷ l) (set_behind rows behind x h)

one_behind : (rows : List HoldRow) (h : HoldRow) → length rows < plan_room → set (with_blanks rows) (length rows) h ≡ with_blanks (rows ++ (h ∷ []))
one_behind rows h room =
    let left = plan_room - length (rows ++ (h ∷ [])) in
    let one_less : plan_room - length rows ≡ suc left = omega (arith, length-append rows (h ∷ [])) in
    ap (λ n. set (rows ++ replicate n blank_row) (length rows) h) one_less
    ∙ set_behind rows (replicate left blank_row) blank_row h
    ∙ sym (append_assoc rows (h ∷ []) (replicate left blank_row))

module _ (p : Inside) (h : HoldRow) (ok : Padded p) (room : p.count < plan_room) where
  used_more : take (p.count + 1) (set p.rows p.count h) ≡ used_rows p ++ (h ∷ [])
  used_more =
      let long = used_long p ok in
      let whole = ap length ok.blank_behind in
      let all_room = length-append (used_rows p) (replicate (plan_room - length (used_rows p)) blank_row) in
      let blanks = length-replicate (plan_room - length (used_rows p)) blank_row in
      ap (λ n. take n (set p.rows p.count h)) (add-one p.count) ∙ take-suc-set p.rows p.count h (omega arith)

  pub one_more : Padded (record { count = p.count + 1; rows = set p.rows p.count h })
  one_more =
      let long = used_long p ok in
      record {
        few = omega arith;
        blank_behind =
            ap (λ r. set r p.count h) ok.blank_behind
            ∙ ap (λ n. set (with_blanks (used_rows p)) n h) (sym long)
            ∙ one_behind (used_rows p) h (omega arith)
            ∙ ap with_blanks (sym used_more);
      }
