-- Laws of what one step does: nodes taken from a row, the line emptied, a row joined, ∃ over the concept of a number.
use mathlib.Core.Path.{◌≡◌, refl, sym, ◌∙◌}
use mathlib.Core.Bool.{Bool, true, false}
use mathlib.Core.List.{List}
use Prim.Native.Nat.{ℕ, suc, ◌+◌, ◌-◌, ◌*◌, ◌≤◌, ◌<◌}
use native.Mathlib.Omega.{arith}
use native.Mathlib.Numerals.{add-one}
use native.Mathlib.Decide.{ℕ_discrete}
use Rattle.std.specs.Prelude.{Some}
use lib.ListN.{length, get_or, set, length-set}
use lib.Seq.{get_or-set_same, get_or-set_other}
use Rattle.el.proofs.Tests.{Tells}
use Rattle.marks.proofs.Squares.{refuted}
use Rattle.concept_rows.specs.Rows.{row}
use Rattle.concept_rows.specs.Lent.{row_at}
use Rattle.layout.specs.declared.Layout.{Layout}
use Rattle.row_evaluation.specs.declared.rows.Form.TheVariants.{Top}
use Rattle.row_evaluation.specs.RowForms.{form_of, RowPut}
use Rattle.row_evaluation.proofs.RowForms.{form_row}
use Rattle.row_evaluation.specs.Cells.{cell, Holds, RowRoom}
use Rattle.row_evaluation.proofs.RowBytes.{place_is, place_inside, cell_first, cell_below, cell_one, cell_earlier}
use Rattle.witness_above.specs.Joining.{line, Taken, Met, Loses, rows_joined, Joined}
use Rattle.witness_above.specs.Left.{TopFound, Restricted, over_row, over_top}

-- the line
pub line_tells : {base n y : ℕ} {w : List ℕ} {z : Bool} → Tells z (Holds w base n (n + 1) y) → Tells z (Holds w base n (line n) y)
line_tells {n = n} tells = rw (add-one n) at tells

-- what the loops keep: the nodes before y are in the line
pub record LinedBefore (w : List ℕ) (base n x y : ℕ) : Type 0 where
  pub lined : (z : ℕ) → z < y → z ≤ n → Holds w base n x z → Holds w base n (line n) z

-- one node taken
pub taken_is : {base n x y : ℕ} {w : List ℕ} → RowRoom base n x w → y ≤ n → (at : ℕ) → at ≡ base + (x * (n + 1) + y) → Taken base n x y w (set w at 0)
taken_is {base} {n} {x} {y} {w} room h at e =
    let is : at ≡ cell base n x y = e ∙ place_is base n x y in
    let inside : at < length w = omega (arith, place_inside room h) in
    record {
      long = simp length-set;
      before = λ p l. get_or-set_other w at p 0 0 (λ o. omega (arith, cell_first base n x y));
      past = λ p l. get_or-set_other w at p 0 0 (λ o. omega (arith, cell_below base n x y h));
      gone = λ k. let z : get_or (set w at 0) (cell base n x y) 0 ≡ 0 = rw (← is) (get_or-set_same w at 0 0 inside) in omega (arith, k.is, z);
      other = λ z l d. get_or-set_other w at (cell base n x z) 0 0 (λ o. d (cell_one base n x z y (o ∙ is)));
    }

pub record MetBefore (base n x y : ℕ) (w v : List ℕ) : Type 0 where
  pub long : length v ≡ length w
  pub before : (p : ℕ) → p < cell base n x 0 → get_or v p 0 ≡ get_or w p 0
  pub past : (p : ℕ) → cell base n x n < p → get_or v p 0 ≡ get_or w p 0
  pub stays : (z : ℕ) → z ≤ n → Holds w base n x z → Holds w base n (line n) z → Holds v base n x z
  pub had : (z : ℕ) → z ≤ n → Holds v base n x z → Holds w base n x z
  pub lined : (z : ℕ) → z < y → z ≤ n → Holds v base n x z → Holds w base n (line n) z

module _ {base n x : ℕ} {w : List ℕ} where
  module _ {y : ℕ} {v : List ℕ} (x_in : x ≤ n) (met : MetBefore base n x y w v) {b : Bool} (tells : Tells b (Holds v base n (n + 1) y)) where
    line_same : (z : ℕ) → get_or v (cell base n (line n) z) 0 ≡ get_or w (cell base n (line n) z) 0
    line_same z = met.past (cell base n (line n) z) (omega (arith, cell_earlier base n (line n) x n (omega arith) (omega arith), cell_first base n (line n) z))

    pub met_kept : b ≡ true → MetBefore base n x (y + 1) w v
    met_kept e = record {
      long = met.long;
      before = met.before;
      past = met.past;
      stays = met.stays;
      had = met.had;
      lined = λ z h l k. elim (ℕ_discrete z y) [
        | yes q ↦ rw q (record { is = sym (line_same y) ∙ ((line_tells tells).sound e).is })
        | no q ↦ met.lined z (omega arith) l k
      ];
    }

    pub met_taken : b ≡ false → {u : List ℕ} → Taken base n x y v u → MetBefore base n x (y + 1) w u
    met_taken e {u} taken = record {
      long = taken.long ∙ met.long;
      before = λ p l. taken.before p l ∙ met.before p l;
      past = λ p l. taken.past p l ∙ met.past p l;
      stays = λ z l h k. elim (ℕ_discrete z y) [
        | yes q ↦ absurd (refuted (line_tells tells) e (record { is = line_same y ∙ (rw q at k).is }))
        | no q ↦ record { is = taken.other z l q ∙ (met.stays z l h k).is }
      ];
      had = λ z l h. elim (ℕ_discrete z y) [
        | yes q ↦ absurd (taken.gone (rw q at h))
        | no q ↦ met.had z l (record { is = sym (taken.other z l q) ∙ h.is })
      ];
      lined = λ z i l h. elim (ℕ_discrete z y) [
        | yes q ↦ absurd (taken.gone (rw q at h))
        | no q ↦ met.lined z (omega arith) l (record { is = sym (taken.other z l q) ∙ h.is })
      ];
    }

pub met_end : {base n x y : ℕ} {w v : List ℕ} → n < y → MetBefore base n x y w v → Met base n x w v
met_end h met = record { long = met.long; before = met.before; past = met.past; stays = met.stays; had = met.had; lined = λ z l k. met.lined z (omega arith) l k }

-- no node before y does
pub record NoneBefore (w : List ℕ) (L : Layout) (a y : ℕ) : Type 0 where
  pub none : (x : ℕ) → x < y → Loses w L a x → ⊥

-- the whole step
module _ {base n x e k m old : ℕ} {ys ps w v : List ℕ} (inside : x < length ps) (was : old ≡ get_or ps x 0) (met : Met base n x w v) where
  pub join_both : m ≡ k + 1 → (old ≡ 0 → ⊥) → {zs : List ℕ} → RowPut k (row 2 (old - 1) e) ys zs → Joined base n x e k ys zs ps (set ps x m) w v (k + 1)
  join_both is some put = record {
    rows = rows_joined {i = old - 1} (sym was ∙ one_more) put (get_or-set_same ps x m 0 inside ∙ is ∙ add-one k) (add-one k);
    numbers_long = simp length-set;
    others = λ z d. get_or-set_other ps x z m 0 d;
    met = met;
  }
    where
      one_more : old ≡ suc (old - 1)
      one_more = elim (ℕ_discrete old 0) [ yes z ↦ absurd (some z) | no z ↦ omega arith ]

-- the row of ⊤
pub top_found : {k i : ℕ} {ys : List ℕ} → i < k → Some Top ≡ form_of (row_at ys i) → TopFound k ys i
top_found {i = i} {ys = ys} h e = record { earlier = h; is_top = form_row (row_at ys i) (sym e) }

-- ∃ over the concept of a number
module _ {role number k : ℕ} {ys : List ℕ} where
  pub over_number : (number ≡ 0 → ⊥) → {zs : List ℕ} → RowPut k (row 3 role (number - 1)) ys zs → Restricted role number k ys zs k
  over_number some put = over_row {i = number - 1} (elim (ℕ_discrete number 0) [ yes z ↦ absurd (some z) | no z ↦ omega arith ]) put refl

  module _ (none : number ≡ 0) {i : ℕ} (found : TopFound k ys i) where
    pub over_old_top : {zs : List ℕ} → RowPut k (row 3 role i) ys zs → Restricted role number k ys zs k
    over_old_top put = over_top none found.earlier found.is_top put refl

-- the line emptied
pub record ClearedBefore (base n y : ℕ) (w v : List ℕ) : Type 0 where
  pub long : length v ≡ length w
  pub before : (p : ℕ) → p < cell base n (line n) 0 → get_or v p 0 ≡ get_or w p 0
  pub past : (p : ℕ) → cell base n (line n) n < p → get_or v p 0 ≡ get_or w p 0
  pub none : (z : ℕ) → z < y → z ≤ n → Holds v base n (line n) z → ⊥
