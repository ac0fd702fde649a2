-- Looks at pairs, and passes over them: what each asks follows from what holds so far, and what it gives holds further on.
--   to_column, to_parts, ..                   what a look asks, by what is asked of the pair
--   column_looks, .., filler_looks            a look at a pair
--   pair_at, look_asks                        the pair of a number
--   passed_skip, passed_look                  a pass
--   traced, to_follow                         what following a pair asks
use mathlib.Core.Path.{◌≡◌, refl, sym, ap, subst, ◌∙◌}
use mathlib.Core.Bool.{Bool, true, false, ◌||◌, false≢true}
use mathlib.Core.Logic.{inl, inr}
use mathlib.Core.List.{List}
use Prim.Native.Nat.{ℕ, ◌+◌, ◌*◌, ◌/◌, ◌%◌, ◌≤◌, ◌<◌}
use native.Mathlib.Omega.{arith}
use native.Mathlib.Numerals.{add-one}
use native.Mathlib.Nat.{mod-lt, div-add-mod', mul-le-mul_right}
use native.Mathlib.Decide.{ℕ_discrete, dec_lt}
use lib.ListN.{length}
use Rattle.el.proofs.Tests.{which}
use Rattle.release.specs.Tables.{kind_at, count_at}
use Rattle.classification.proofs.AxiomRows.{ranges}
use Rattle.layout.specs.declared.Given.{Given}
use Rattle.witness_below.specs.declared.looking.Progress.{Progress}
use Rattle.release.specs.declared.ConceptName.{ConceptName}
use Rattle.row_evaluation.specs.declared.rows.Form.TheVariants.{Top, Name}
use Rattle.witness_below.specs.Cells.{pair_of, Value}
use Rattle.witness_below.specs.Finding.{ToColumn, ToParts, ToFiller, RoomFor, NoneLost, NameLost, JoinedColumn, PlainPair, Traced, ToFollow}
use Rattle.witness_below.specs.Looking.{progress, NodeMarked, ColumnLooked, PartsLooked, FillerLooked}
use Rattle.witness_below.specs.Tasks.{Stuck, todo, State, ToLook, Looked, Passed}
use Rattle.witness_below.proofs.Numbering.{pair_one}
use Rattle.witness_below.proofs.FewParts.{few_parts}
use Rattle.witness_below.proofs.Outcomes.{room_for, by_column, by_everything, by_parts, by_name, by_kind, by_filler}
use Rattle.witness_below.proofs.Steps.{went_then}

-- what a look asks
module _ {given : Given} {x y k : ℕ} {ys ps w : List ℕ} (look : ToLook given x y k ys ps w) where
  pub to_column : JoinedColumn given y → ToColumn given w x y
  to_column joined = record {
    shaped = ranges look.state.ready.second_world.release look.state.ready.second_world.names;
    cells = look.state.ready.cells;
    row = look.row;
    column = joined.is_name;
    kind = joined.kind;
  }

  pub room_one : RoomFor k 1 ys
  room_one = room_for look.state look.row look.column look.one (omega arith) (omega arith)

  module _ {kind : ℕ} (x_in : x < given.layout.names) (is : kind ≡ kind_at given.first.table.now x) where
    pub to_parts : kind ≡ 2 → ToParts given w x y
    to_parts e = record {
      shaped = ranges look.state.ready.first_world.release look.state.ready.first_world.names;
      cells = look.state.ready.cells;
      row = x_in;
      column = look.column;
      kind = sym is ∙ e;
    }

    pub parts_room : kind ≡ 2 → RoomFor k (count_at given.first.file.now given.first.table.now x) ys
    parts_room e =
        let few = few_parts look.state.ready.first_world.release look.state.ready.first_world.names x_in (sym is ∙ e) in
        room_for look.state look.row look.column look.one few.sixteen (omega (arith, few.names))

    pub to_filler : kind ≡ 4 → ToFiller given w x y
    to_filler e = record {
      cells = look.state.ready.cells;
      row = x_in;
      column = look.column;
      kind = sym is ∙ e;
    }

  -- a look
  pub column_looks : {v : List ℕ} {r : Bool} → JoinedColumn given y → ColumnLooked given x y w v r
      → Looked given x y k ys ys ps ps w v (progress k r)
  column_looks joined looked = by_column look.state look.row look.column look.one joined.is_name joined.kind looked

  pub everything_looks : {zs qs v : List ℕ} {r : Progress} → (JoinedColumn given y → ⊥) → given.layout.names ≤ x
      → NodeMarked given.layout x y Top k ys zs w v r × (length qs ≡ length ps) → Looked given x y k ys zs ps qs w v r
  everything_looks plain h marks = by_everything look.state look.row look.column look.one (λ i e. plain (record { is_name = i; kind = e })) (omega (arith, look.row))
      marks.1 marks.0

  pub parts_look : {zs qs v : List ℕ} {r : Progress} → (JoinedColumn given y → ⊥) → x < given.layout.names → kind_at given.first.table.now x ≡ 2
      → PartsLooked given x y k ys zs w v r × (length qs ≡ length ps) → Looked given x y k ys zs ps qs w v r
  parts_look plain x_in e looked = by_parts look.state look.row look.column look.one (λ i f. plain (record { is_name = i; kind = f })) x_in e
      looked.1 looked.0

  module _ (plain : PlainPair given x y) where
    plain_y : y < given.layout.names → kind_at given.second.table.now y ≡ 2 → ⊥
    plain_y h e = plain.plain (record { is_name = h; kind = e })

    pub name_looks : {r : ConceptName} {zs qs v : List ℕ} {o : Progress} → NameLost given w x y r.0 → NodeMarked given.layout x y (Name r) k ys zs w v o × (length qs ≡ length ps)
        → Looked given x y k ys zs ps qs w v o
    name_looks name marks = by_name look.state look.row look.column look.one plain_y name.is_name name.lost marks.1 marks.0

    module _ (none : NoneLost given w x y) where
      pub kind_looks : (kind_at given.first.table.now x ≡ 4 → ⊥) → Looked given x y k ys ys ps ps w w (progress k false)
      kind_looks d = by_kind look.state look.row look.column look.one plain_y plain.is_name plain.not_joined none d

      pub filler_looks : {zs v : List ℕ} {p : Progress} → kind_at given.first.table.now x ≡ 4 → FillerLooked given x y k ys zs w v p → Looked given x y k ys zs ps ps w v p
      filler_looks four looked = by_filler look.state look.row look.column look.one plain_y plain.is_name plain.not_joined none four looked

-- the pair of a number
pub record PairAt (n p x y : ℕ) : Type 0 where
  pub row : x ≤ n
  pub column : y ≤ n
  pub is : pair_of n x y ≡ p

pub pair_at : (n p : ℕ) → p < (n + 1) * (n + 1) → PairAt n p (p / (n + 1)) (p % (n + 1))
unfolding pair_of
pair_at n p h =
    let low : p % (n + 1) < n + 1 = mod-lt p {m = n + 1} (omega arith) in
    let whole : p / (n + 1) * (n + 1) + p % (n + 1) ≡ p = div-add-mod' p (n + 1) in
    record {
      row = elim (dec_lt n (p / (n + 1))) [
        | yes l ↦ absurd (omega (arith, mul-le-mul_right {m = n + 1} {n = p / (n + 1)} (n + 1) (omega arith)))
        | no l ↦ omega arith
      ];
      column = omega arith;
      is = rw (← add-one n) whole;
    }

pub look_asks : {given : Given} {k p x y v : ℕ} {ys ps w : List ℕ} → State given k ys ps w → PairAt given.layout.names p x y → Value w given.layout.marks p v → v ≡ 1 → ToLook given x y k ys ps w
look_asks state at value e = record { state = state; row = at.row; column = at.column; one = rw at.is (sym value.is ∙ e) }

-- a pass
or_left : (a b : Bool) → a || b ≡ false → a ≡ false
or_left true b h = h
or_left false b h = refl

or_right : (a b : Bool) → a || b ≡ false → b ≡ false
or_right true b h = absurd (false≢true (sym h))
or_right false b h = h

or_true : (a b : Bool) → a ≡ false → a || b ≡ true → b ≡ true
or_true true b e h = absurd (false≢true (sym e))
or_true false b e h = h

todo_most : {given : Given} {x y k : ℕ} {ys zs ps qs w v : List ℕ} {r : Progress} → Looked given x y k ys zs ps qs w v r → todo given.layout v ≤ todo given.layout w
todo_most {given} {r = r} looked = elim (which r.changed) [ inl e ↦ omega (arith, looked.fewer e) | inr e ↦ omega (arith, ap (todo given.layout) (looked.same e)) ]

module _ {given : Given} {k : ℕ} {ys ps w : List ℕ} where
  module _ {p j : ℕ} {b : Bool} {zs qs v : List ℕ} (passed : Passed given p k ys zs ps qs w v (progress j b)) where
    pub passed_skip : {kept : ℕ} → Value v given.layout.marks p kept → (kept ≡ 1 → ⊥) → Passed given (p + 1) k ys zs ps qs w v (progress j b)
    passed_skip value d = record {
      went = passed.went;
      fewer = passed.fewer;
      same = passed.same;
      settled = λ e q h. elim (ℕ_discrete q p) [
        | no z ↦ passed.settled e q (omega arith)
        | yes z ↦ record { at = λ x y x_in y_in is one. absurd (d (value.is ∙ rw (passed.same e, ← z, is) one)) }
      ];
    }

    pub passed_look : {x y : ℕ} {xs rs u : List ℕ} {o : Progress} → PairAt given.layout.names p x y → Looked given x y j zs xs qs rs v u o
        → Passed given (p + 1) k ys xs ps rs w u (progress o.rows (b || o.changed))
    passed_look {x} {y} {o = o} at looked = record {
      went = went_then passed.went looked.went;
      fewer = λ e. elim (which b) [
        | inl f ↦ omega (arith, passed.fewer f, todo_most looked)
        | inr f ↦ omega (arith, looked.fewer (or_true b o.changed f e), ap (todo given.layout) (passed.same f))
      ];
      same = λ e. looked.same (or_right b o.changed e) ∙ passed.same (or_left b o.changed e);
      settled = λ e q h. elim (ℕ_discrete q p) [
        | no z ↦ passed.settled (or_left b o.changed e) q (omega arith)
        | yes z ↦ record {
          at = λ i d i_in d_in is one.
              let same = pair_one given.layout.names i d x y d_in at.column (sym is ∙ z ∙ sym at.is) in
              subst (λ (m : List ℕ). Stuck given m i d) (passed.same (or_left b o.changed e)) (rw (same.0, same.1) (looked.stuck (or_right b o.changed e)));
        }
      ];
    }

-- looks at any pairs
module _ {given : Given} {k : ℕ} {ys ps w : List ℕ} where
  pub traced : State given k ys ps w → Traced given w
  traced state = record {
    first_shaped = ranges state.ready.first_world.release state.ready.first_world.names;
    second_shaped = ranges state.ready.second_world.release state.ready.second_world.names;
    cells = state.ready.cells;
  }

pub to_follow : {given : Given} {w : List ℕ} {p x y : ℕ} → Traced given w → PairAt given.layout.names p x y → ToFollow given w x y
to_follow told at = record { traced = told; row = at.row; column = at.column }
