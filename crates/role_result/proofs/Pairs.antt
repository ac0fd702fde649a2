-- Pairs written column after column: what a column says of its rows so far, what the columns so far say, and that all of them are the bytes
-- of the role pairs.
--   lost_in                                      the roles lost under one, by those that serve for it in both releases
--   column_start, column_none, column_lost, column_kept, column_end        a column, row after row
--   columns_start, columns_more, columns_skip, columns_end                 the columns, one after the other
use mathlib.Core.Path.{◌≡◌, refl, sym, ap, ◌∙◌}
use mathlib.Core.Bool.{Bool, true, false, ◌&&◌, not}
use mathlib.Core.List.{List}
use Prim.Native.Nat.{ℕ, suc, ◌+◌, ◌-◌, ◌*◌, ◌≤◌, ◌<◌}
use native.Mathlib.Omega.{arith}
use native.Mathlib.Decide.{ℕ_discrete, dec_lt}
use borrow.Author.Tests.{ltb-true, lt-ltb, le-ltb, eq-eqb, ne_eqb}
use lib.Dec.{eqb, ltb}
use lib.ListN.{length, get_or, set, take, drop, length-set, length-drop}
use lib.Seq.{ext_get_or, get_or-set_same, get_or-set_other, get_or-take, get_or-drop, length-take-le}
use Rattle.el.specs.Lists.{pick}
use Rattle.el.specs.Signatures.{RoleWitness}
use Rattle.el.proofs.Tests.{Tells, tells_as, tells_true, tells_and, tells_not, and_left, and_right, and_both, which, not_both}
use Rattle.el.proofs.Demand3.{pair_byte_by}
use Rattle.release.specs.Files.{most_roles, content_of}
use Rattle.release.specs.Roles.{HasRole, NoRole, Without}
use Rattle.release.specs.Tables.{serves_at, ServingAt}
use Rattle.release.proofs.Linked.{tells_serves_at}
use Rattle.marks.specs.Memory.{Zeroed}
use Rattle.role_result.specs.declared.RoleComparison.{RoleComparison}
use Rattle.role_result.specs.Pairs.{over, is_chosen, BothRead, is_lost, lost_pair, LostUnder, ColumnWritten, ColumnsWritten, RolesReported}
use Rattle.role_result.proofs.Places.{place_within, same_place}

-- tests
untold : (b : Bool) → (b ≡ true → ⊥) → b ≡ false
untold true n = absurd (n refl)
untold false n = refl

not_told : (b : Bool) → b ≡ false → not b ≡ true
not_told b e = rw e refl

not_true : (b : Bool) → b ≡ true → not b ≡ true → ⊥
not_true true e f = not_both f refl
not_true false e f = not_both e refl

none_behind : (a b : Bool) → a && (b && false) ≡ false
none_behind true true = refl
none_behind true false = refl
none_behind false b = refl

none_between : (a b : Bool) → a && (false && b) ≡ false
none_between true b = refl
none_between false b = refl

next_other : (x k : ℕ) → (x ≡ k → ⊥) → ltb x (k + 1) ≡ ltb x k
next_other x k n = by_order (dec_lt x k)
  where
    by_order : Dec (x < k) → ltb x (k + 1) ≡ ltb x k
    by_order (yes h) = lt-ltb x (k + 1) (omega arith) ∙ sym (lt-ltb x k h)
    by_order (no h) = le-ltb x (k + 1) (omega (arith, n)) ∙ sym (le-ltb x k (omega arith))

-- the test of a cell by a row more, where that row's cell in the column s tells nothing
row_more : (r k z s : ℕ) (l : Bool) → (r ≡ k → z ≡ s → l ≡ false) → ltb r (k + 1) && (eqb z s && l) ≡ ltb r k && (eqb z s && l)
row_more r k z s l none = by_cell (ℕ_discrete r k) (ℕ_discrete z s)
  where
    by_cell : Dec (r ≡ k) → Dec (z ≡ s) → ltb r (k + 1) && (eqb z s && l) ≡ ltb r k && (eqb z s && l)
    by_cell (no n) d = rw (next_other r k n) refl
    by_cell (yes e) (yes f) = rw (none e f) (none_behind (ltb r (k + 1)) (eqb z s) ∙ sym (none_behind (ltb r k) (eqb z s)))
    by_cell (yes e) (no n) = rw (ne_eqb z s n) (none_between (ltb r (k + 1)) l ∙ sym (none_between (ltb r k) l))

module _ (c : RoleComparison) where
  abbrev m : ℕ
  m = c.signature.roles

  pub lost_in : {s a b new : ℕ} → ServingAt c.first.table.now s a → ServingAt c.second.table.now s b → Without a b new → LostUnder c s new
  unfolding is_lost
  lost_in {s} p q w = record {
    tells = λ r l. (
      λ h. let both = (w.first_alone r).0 h in
          and_both ((p.tells r l).0 both.0) (not_told (serves_at c.second.table.now r s) (untold (serves_at c.second.table.now r s) (λ e. both.1 ((q.tells r l).1 e)))),
      λ e. (w.first_alone r).1 (
        (p.tells r l).1 (and_left (serves_at c.first.table.now r s) (not (serves_at c.second.table.now r s)) e),
        λ h. not_true (serves_at c.second.table.now r s) ((q.tells r l).0 h) (and_right (serves_at c.first.table.now r s) (not (serves_at c.second.table.now r s)) e),
      ),
    );
  }

  pub chosen_small : (r : ℕ) → is_chosen c r ≡ true → r < m
  chosen_small r e = ltb-true r m (and_left (ltb r m) _ e)

  -- by a set of what is lost
  pub lost_none : {s set : ℕ} → LostUnder c s set → NoRole set → (r : ℕ) → r < most_roles → is_lost c r s ≡ false
  lost_none {s} w n r l = untold (is_lost c r s) (λ e. n.none r ((w.tells r l).1 e))

  pub lost_has : {s set r : ℕ} {b : Bool} → LostUnder c s set → Tells b (HasRole set r) → r < most_roles → b ≡ true → is_lost c r s ≡ true
  lost_has {r = r} w t l e = (w.tells r l).0 (t.sound e)

  pub has_not : {s set r : ℕ} {b : Bool} → LostUnder c s set → Tells b (HasRole set r) → r < most_roles → b ≡ false → is_lost c r s ≡ false
  has_not {s} {r = r} w t l e = untold (is_lost c r s) (λ h. not_both (t.complete ((w.tells r l).1 h)) e)

  -- a cell
  pub is_pair : (r s : ℕ) → is_chosen c r ≡ true → is_chosen c s ≡ true → is_lost c r s ≡ true → lost_pair c r s ≡ true
  unfolding lost_pair
  is_pair r s e f h = and_both e (and_both f h)

  pub not_lost : (r s : ℕ) → is_lost c r s ≡ false → lost_pair c r s ≡ false
  unfolding lost_pair
  not_lost r s h = rw h (none_behind (is_chosen c r) (is_chosen c s))

  pub lower_not_chosen : (r s : ℕ) → is_chosen c r ≡ false → lost_pair c r s ≡ false
  unfolding lost_pair
  lower_not_chosen r s h = rw h refl

  pub upper_not_chosen : (r s : ℕ) → is_chosen c s ≡ false → lost_pair c r s ≡ false
  unfolding lost_pair
  upper_not_chosen r s h = rw h (none_between (is_chosen c r) (is_lost c r s))

  -- a column
  pub column_start : {s : ℕ} {p : List ℕ} → ColumnWritten c s 0 p p
  column_start {s} {p} = record { long = refl; byte = λ r z r_in z_in. rw (le-ltb r 0 (omega arith)) refl; past = λ i l. refl }

  pub column_none : {s k : ℕ} {p : List ℕ} → ((r : ℕ) → r < m → lost_pair c r s ≡ false) → ColumnWritten c s k p p
  column_none {s} {k} {p} none = record { long = refl; byte = λ r z r_in z_in. by_column r z r_in (ℕ_discrete z s); past = λ i l. refl }
    where
      by_column : (r z : ℕ) → r < m → Dec (z ≡ s) → get_or p (r * m + z) 0 ≡ pick (ltb r k && (eqb z s && lost_pair c r z)) 1 (get_or p (r * m + z) 0)
      by_column r z l (yes e) = let h : lost_pair c r z ≡ false = rw e (none r l) in rw (h, none_behind (ltb r k) (eqb z s)) refl
      by_column r z l (no n) = rw (ne_eqb z s n, none_between (ltb r k) (lost_pair c r z)) refl

  pub column_lost : {s k : ℕ} {p q : List ℕ} → k < m → s < m → m * m ≤ length p → lost_pair c k s ≡ true → ColumnWritten c s k p q → ColumnWritten c s (k + 1) p (set q (k * m + s) 1)
  column_lost {s} {k} {p} {q} k_in s_in room lost w = record {
    long = length-set q (k * m + s) 1 ∙ w.long;
    byte = λ r z r_in z_in. by_cell r z r_in z_in (ℕ_discrete r k) (ℕ_discrete z s);
    past = λ i l. get_or-set_other q (k * m + s) i 1 0 (λ e. omega (arith, place_within {m = m} k_in s_in)) ∙ w.past i l;
  }
    where
      other : (r z : ℕ) → r < m → z < m → ((r ≡ k) × (z ≡ s) → ⊥)
          → get_or (set q (k * m + s) 1) (r * m + z) 0 ≡ pick (ltb r (k + 1) && (eqb z s && lost_pair c r z)) 1 (get_or p (r * m + z) 0)
      other r z r_in z_in n =
          get_or-set_other q (k * m + s) (r * m + z) 1 0 (λ e. n (same_place {m = m} {r = r} {q = k} {s = z} {z = s} z_in s_in e)) ∙
          (w.byte r z r_in z_in ∙ ap (λ (b : Bool). pick b 1 (get_or p (r * m + z) 0)) (sym (row_more r k z s (lost_pair c r z) (λ e f. absurd (n (e, f))))))

      by_cell : (r z : ℕ) → r < m → z < m → Dec (r ≡ k) → Dec (z ≡ s)
          → get_or (set q (k * m + s) 1) (r * m + z) 0 ≡ pick (ltb r (k + 1) && (eqb z s && lost_pair c r z)) 1 (get_or p (r * m + z) 0)
      by_cell r z r_in z_in (yes e) (yes f) =
          rw (e, f, lt-ltb k (k + 1) (omega arith), eq-eqb s s refl, lost) (get_or-set_same q (k * m + s) 1 0 (omega (arith, w.long, place_within {m = m} k_in s_in)))
      by_cell r z r_in z_in (no n) d = other r z r_in z_in (λ w. n w.0)
      by_cell r z r_in z_in (yes e) (no n) = other r z r_in z_in (λ w. n w.1)

  pub column_kept : {s k : ℕ} {p q : List ℕ} → lost_pair c k s ≡ false → ColumnWritten c s k p q → ColumnWritten c s (k + 1) p q
  column_kept {s} {k} {p} none w = record {
    long = w.long;
    byte = λ r z r_in z_in. w.byte r z r_in z_in ∙ ap (λ (b : Bool). pick b 1 (get_or p (r * m + z) 0)) (sym (row_more r k z s (lost_pair c r z) (λ e f. rw (e, f) none)));
    past = w.past;
  }

  -- the columns
  pub columns_start : {p q : List ℕ} → Zeroed (m * m) p q → ColumnsWritten c 0 p q
  columns_start z = record {
    long = z.long;
    byte = λ r s r_in s_in. z.zero (r * m + s) (place_within {m = m} r_in s_in) ∙ sym (rw (le-ltb s 0 (omega arith)) refl);
    past = z.past;
  }

  pub columns_more : {k : ℕ} {p q v : List ℕ} → ColumnsWritten c k p q → ColumnWritten c k m q v → ColumnsWritten c (k + 1) p v
  columns_more {k} {p} {q} {v} all one = record
      { long = one.long ∙ all.long; byte = λ r z r_in z_in. one.byte r z r_in z_in ∙ by_column r z r_in z_in (ℕ_discrete z k); past = λ i l. one.past i l ∙ all.past i l }
    where
      by_column : (r z : ℕ) → r < m → z < m → Dec (z ≡ k)
          → pick (ltb r m && (eqb z k && lost_pair c r z)) 1 (get_or q (r * m + z) 0) ≡ pick (ltb z (k + 1) && lost_pair c r z) 1 0
      by_column r z r_in z_in (yes e) =
          let before : get_or q (r * m + z) 0 ≡ 0 = all.byte r z r_in z_in ∙ rw (le-ltb z k (omega arith)) refl in
          rw (before, lt-ltb r m r_in, eq-eqb z k e, lt-ltb z (k + 1) (omega arith)) refl
      by_column r z r_in z_in (no n) = rw (lt-ltb r m r_in, ne_eqb z k n) (all.byte r z r_in z_in ∙ ap (λ (b : Bool). pick (b && lost_pair c r z) 1 0) (sym (next_other z k n)))

  pub columns_skip : {k : ℕ} {p q : List ℕ} → is_chosen c k ≡ false → ColumnsWritten c k p q → ColumnsWritten c (k + 1) p q
  columns_skip {k} {p} {q} none all = record { long = all.long; byte = λ r z r_in z_in. all.byte r z r_in z_in ∙ by_column r z (ℕ_discrete z k); past = all.past }
    where
      by_column : (r z : ℕ) → Dec (z ≡ k) → ◌≡◌ {A = ℕ} (pick (ltb z k && lost_pair c r z) 1 0) (pick (ltb z (k + 1) && lost_pair c r z) 1 0)
      by_column r z (yes e) = let h : lost_pair c r z ≡ false = rw e (upper_not_chosen r k none) in rw h (none_both (ltb z k) (ltb z (k + 1)))
        where
          none_both : (a b : Bool) → ◌≡◌ {A = ℕ} (pick (a && false) 1 0) (pick (b && false) 1 0)
          none_both true true = refl
          none_both true false = refl
          none_both false true = refl
          none_both false false = refl
      by_column r z (no n) = rw (next_other z k n) refl

  tells_lost : BothRead c → (r s : ℕ) → Tells (lost_pair c r s) (RoleWitness (over c) (content_of c.first.file.now) (content_of c.second.file.now) r s)
  unfolding lost_pair is_lost
  tells_lost read r s = tells_as
      (λ w. record { lower_chosen = w.0; upper_chosen = w.1.0; first = w.1.1.0; not_second = w.1.1.1 })
      (λ w. (w.lower_chosen, (w.upper_chosen, (w.first, w.not_second))))
      (tells_and (tells_true (is_chosen c r))
      (λ _. tells_and (tells_true (is_chosen c s)) (λ _. tells_and (tells_serves_at read.first r s) (λ _. tells_not (tells_serves_at read.second r s)))))

  pub columns_end : {k : ℕ} {p q : List ℕ} → BothRead c → m * m ≤ length p → m ≤ k → ColumnsWritten c k p q → RolesReported c p q
  columns_end {k} {p} {q} read room all_in w =
      let long : m * m ≤ length q = omega (arith, w.long) in
      record {
        bytes = record {
          long = length-take-le (m * m) q long;
          each = λ r s r_in s_in.
              let is : get_or (take (m * m) q) (r * m + s) 0 ≡ pick (lost_pair c r s) 1 0 = get_or-take (m * m) q (r * m + s) 0 (place_within {m = m} r_in s_in) ∙
              (w.byte r s r_in s_in ∙ rw (lt-ltb s k (omega arith)) refl) in
              rw is (pair_byte_by (lost_pair c r s) (tells_lost read r s));
        };
        past = ext_get_or 0 (drop (m * m) q) (drop (m * m) p) (length-drop (m * m) q ∙ (ap (λ (n : ℕ). n - m * m) w.long ∙ sym (length-drop (m * m) p)))
            (λ i l. get_or-drop (m * m) q i 0 ∙ (w.past (m * m + i) (omega arith) ∙ sym (get_or-drop (m * m) p i 0)));
      }
