-- Each outcome of a look keeps what holds of rows and memory, or no rule gives the pair.
--   some_open, room_for                     a pair without a row leaves room for rows
--   by_column, by_everything, by_parts, by_name, by_kind, by_filler     the outcomes
use mathlib.Core.Path.{◌≡◌, refl, sym, ◌∙◌}
use mathlib.Core.Bool.{Bool, true, false}
use mathlib.Core.List.{List}
use Prim.Native.Nat.{ℕ, suc, ◌+◌, ◌-◌, ◌*◌, ◌≤◌, ◌<◌}
use native.Mathlib.Omega.{arith}
use native.Mathlib.Numerals.{add-one}
use borrow.Author.Tests.{le-leb}
use lib.Dec.{leb}
use lib.ListN.{length, get_or}
use Rattle.el.specs.Signatures.{Signature}
use Rattle.el.proofs.BackwardMarks as el
use Rattle.concept_rows.specs.Rows.{WellFormed, is_top, is_name, is_some}
use Rattle.concept_rows.specs.Lent.{row_at}
use Rattle.concept_rows.proofs.Counting.{one_fewer}
use Rattle.release.specs.Files.{content_of}
use Rattle.release.specs.Tables.{kind_at, filler_at}
use Rattle.classification.proofs.AxiomRows.{ranges}
use Rattle.backward.specs.Backward.{column_at}
use Rattle.layout.specs.declared.Given.{Given}
use Rattle.witness_below.specs.Cells.{pair_of, value_at, cell_at}
use Rattle.witness_below.specs.Finding.{RoomFor, LostName, NoneLost}
use Rattle.witness_below.specs.Looking.{progress, NodeMarked, marked_again, marked_new, ColumnLooked, column_copied, column_asked, column_open, Chain}
use Rattle.witness_below.specs.Looking.{chain_first, chain_more, PartsLooked, parts_asked, part_asked, part_open, parts_none, parts_joined, FillerLooked, filler_top, filler_asked, filler_open}
use Rattle.witness_below.specs.Looking.{filler_marked}
use Rattle.witness_below.specs.declared.looking.Progress.{Progress}
use Rattle.release.specs.declared.ConceptName.{ConceptName}
use Rattle.row_evaluation.specs.declared.rows.Form.{Form}
use Rattle.row_evaluation.specs.declared.rows.Form.TheVariants.{Top, Name}
use Rattle.row_evaluation.specs.RowForms.{numbers_of}
use Rattle.witness_below.specs.Tasks.{Over, RowFor, RightReport, opens, State, Looked}
use Rattle.witness_below.proofs.Numbering.{pair_small}
use Rattle.witness_below.proofs.Meaning.{plain_column, partner_in, row_of_part, row_of_everything, row_of_none, row_of_name, row_of_role, chain_rows, row_of_parts}
use Rattle.witness_below.proofs.Unmarked.{stuck_column, stuck_parts, stuck_plain, other_kind, no_partner, partner_open}
use Rattle.witness_below.proofs.FewParts.{few_parts}
use Rattle.witness_below.proofs.Counted.{few_fits, few_small}
use Rattle.witness_below.proofs.Steps.{Grown, grown_none, grown_one, looked_none, looked_asked, looked_marked}

-- room
pub some_open : (w : List ℕ) (base n p : ℕ) → p < suc n * suc n → value_at w base p ≤ 1 → 0 < opens w base n
unfolding opens
some_open w base n p h l = omega (
  arith,
  one_fewer (λ q. leb (value_at w base q) 1) (λ q. false) (suc n * suc n)
      (λ i k e. absurd (let z : ◌≡◌ {A = Bool} false true = e in let o : ◌≡◌ {A = ℕ} 0 1 = cc in omega arith)) {i = p} h (le-leb (value_at w base p) 1 l) refl,
)

pub room_for : {given : Given} {x y k e : ℕ} {ys ps w : List ℕ} → State given k ys ps w → x ≤ given.layout.names → y ≤ given.layout.names → cell_at given.layout w x y ≡ 1 → e ≤ 16
    → e ≤ suc given.layout.names → RoomFor k e ys
room_for {given} {x} {y} {w = w} state x_in y_in one few fewer =
    let left = some_open w given.layout.marks given.layout.names (pair_of given.layout.names x y) (pair_small given.layout.names x y x_in y_in) (omega arith) in
    record { rows = omega (arith, state.rows, few_fits state.few left); small = omega (arith, few_small given.layout.few state.few) }

-- chains
record ChainKept (k : ℕ) (ys : List ℕ) (i : ℕ) (zs : List ℕ) (j : ℕ) : Type 0 where
  long : length zs ≡ length ys
  past : (p : ℕ) → 3 * j ≤ p → get_or zs p 0 ≡ get_or ys p 0
  more : k ≤ j
  few : j + 1 ≤ k + i

chain_kept : {given : Given} {w : List ℕ} {x y k : ℕ} {ys : List ℕ} {i : ℕ} {zs : List ℕ} {j m : ℕ} → Chain given w x y k ys i zs j m → ChainKept k ys i zs j
chain_kept (chain_first h kept) = record { long = refl; past = λ p h. refl; more = omega arith; few = omega arith }
chain_kept (chain_more chain some h kept put) =
    let before = chain_kept chain in
    record {
      long = put.long ∙ before.long;
      past = λ p l. put.past p (omega arith) ∙ before.past p (omega arith);
      more = omega (arith, before.more);
      few = omega (arith, before.few);
    }

module _ {given : Given} {x y k : ℕ} {ys ps w : List ℕ} (state : State given k ys ps w) (x_in : x ≤ given.layout.names) (y_in : y ≤ given.layout.names) (one : cell_at given.layout w x y ≡ 1) where
  pub by_column : {v : List ℕ} {r : Bool} → y < given.layout.names → kind_at given.second.table.now y ≡ 2 → ColumnLooked given x y w v r
      → Looked given x y k ys ys ps ps w v (progress k r)
  by_column h kind (column_copied {z = z} part z_in large put e) =
      let m = cell_at given.layout w x z - 2 in
      let is : cell_at given.layout w x z ≡ m + 2 = omega arith in
      rw e (looked_marked state x_in y_in one (grown_none given x y k ys w m (λ sig over right. row_of_part state.ready over right x_in h kind part z_in is)) refl (rw is at put))
  by_column h kind (column_asked {z = z} z_in zero put e) = rw e (looked_asked state (pair_small given.layout.names x z x_in (omega arith)) zero put refl)
  by_column h kind (column_open all same e) = rw (e, same) (looked_none state (stuck_column state.ready x_in y_in h kind all) refl)

  module _ (plain : y < given.layout.names → kind_at given.second.table.now y ≡ 2 → ⊥) where
    column : el.PlainColumn (content_of given.second.file.now) (column_at given.layout.names y)
    column = plain_column state.ready y_in plain

    -- by a row of ⊤ or of a name
    by_node : (f : Form) {zs qs v : List ℕ} {r : Progress} → ((sig : Signature) → Over sig given → WellFormed sig k (numbers_of f))
        → ((j : ℕ) (rows : List ℕ) (sig : Signature) → Over sig given → RightReport sig given j rows w → (m : ℕ) → m < j → row_at rows m ≡ numbers_of f → RowFor given j rows x y m)
        → length qs ≡ length ps
        → NodeMarked given.layout x y f k ys zs w v r → Looked given x y k ys zs ps qs w v r
    by_node f well row long (marked_again {m = m} there same put e) = rw (e, same)
        (looked_marked state x_in y_in one (grown_none given x y k ys w m (λ sig over right. row k ys sig over right m there.inside there.is)) long put)
    by_node f {zs} well row long (marked_new written put e) = rw e
        (looked_marked state x_in y_in one
        (grown_one given x y k ys zs w k written (λ sig over right. well sig over) (λ sig over right grown. row (k + 1) zs sig over grown k (omega arith) written.here)) long put)

    pub by_everything : {zs qs v : List ℕ} {r : Progress} → x ≡ given.layout.names → length qs ≡ length ps → NodeMarked given.layout x y Top k ys zs w v r → Looked given x y k ys zs ps qs w v r
    by_everything e long marks = by_node Top (λ sig over. is_top refl) (λ j rows sig over right m. row_of_everything state.ready over right x y column e) long marks

    pub by_name : {zs qs v : List ℕ} {b : ConceptName} {r : Progress} → b.0 < given.layout.names → LostName given w x y b.0 → length qs ≡ length ps
        → NodeMarked given.layout x y (Name b) k ys zs w v r → Looked given x y k ys zs ps qs w v r
    by_name {b = b} b_in lost long marks = by_node (Name b) (λ sig over. is_name refl (sym (over.name b.0 b_in) ∙ lost.chosen_name))
        (λ j rows sig over right m. row_of_name state.ready over right x_in y_in b_in lost) long marks

    module _ (x_name : x < given.layout.names) where
      pub by_parts : {zs qs v : List ℕ} {r : Progress} → kind_at given.first.table.now x ≡ 2 → length qs ≡ length ps → PartsLooked given x y k ys zs w v r
          → Looked given x y k ys zs ps qs w v r
      by_parts kind long (parts_asked (part_asked {z = z} z_in zero put f) same e) = rw (e, f, same) (looked_asked state (pair_small given.layout.names z y (omega arith) y_in) zero put long)
      by_parts kind long (parts_asked (part_open part is_open unchanged f) same e) = rw (e, f, unchanged, same)
          (looked_none state (stuck_parts state.ready x_in y_in plain x_name kind part is_open) long)
      by_parts kind long (parts_none none marks) = by_node Top (λ sig over. is_top refl) (λ j rows sig over right m. row_of_none state.ready over right x y column x_name kind none) long marks
      by_parts {zs} kind long (parts_joined {j = j} {m = m} chain put e) =
          let kept = chain_kept chain in
          let conjuncts = few_parts state.ready.first_world.release state.ready.first_world.names x_name kind in
          let grown : Grown given x y k ys zs w j m = record {
            long = kept.long;
            past = kept.past;
            more = kept.more;
            few = omega (arith, kept.few, conjuncts.sixteen);
            fewer = omega (arith, kept.few, conjuncts.names);
            rows = λ sig over right. (chain_rows state.ready over x_name y_in kind column right chain).0;
            row = λ sig over right. row_of_parts state.ready over x_name y_in kind column j zs m (chain_rows state.ready over x_name y_in kind column right chain).1;
          } in
          rw e (looked_marked state x_in y_in one grown long put)

      module _ (not_joined : kind_at given.first.table.now x ≡ 2 → ⊥) (none : NoneLost given w x y) where
        pub by_kind : (kind_at given.first.table.now x ≡ 4 → ⊥) → Looked given x y k ys ys ps ps w w (progress k false)
        by_kind d = looked_none state (stuck_plain state.ready x_in y_in plain x_name not_joined none.none (other_kind state.ready x_in y_in plain x_name d)) refl

        pub by_filler : {zs v : List ℕ} {o : Progress} → kind_at given.first.table.now x ≡ 4 → FillerLooked given x y k ys zs w v o → Looked given x y k ys zs ps ps w v o
        by_filler kind (filler_top found unchanged same e) = rw (e, unchanged, same)
            (looked_none state (stuck_plain state.ready x_in y_in plain x_name not_joined none.none (no_partner state.ready x_in y_in plain x_name found)) refl)
        by_filler kind (filler_asked {p = p} found zero put same e) = rw (e, same) (looked_asked state
            (pair_small given.layout.names (filler_at given.first.table.now x) p.over end_in (partner_in state.ready found.is)) zero put refl)
          where
            end_in : filler_at given.first.table.now x ≤ given.layout.names
            end_in = (ranges state.ready.first_world.release state.ready.first_world.names).filler x x_name (rw kind refl)
        by_filler kind (filler_open found is_open unchanged same e) =
            let end_in = (ranges state.ready.first_world.release state.ready.first_world.names).filler x x_name (rw kind refl) in
            rw (e, unchanged, same) (looked_none state
            (stuck_plain state.ready x_in y_in plain x_name not_joined none.none (partner_open state.ready x_in y_in plain x_name end_in found is_open)) refl)
        by_filler {zs} kind (filler_marked {p = p} {m = m} found kept written put e) =
            let end_in = (ranges state.ready.first_world.release state.ready.first_world.names).filler x x_name (rw kind refl) in
            rw e (looked_marked state x_in y_in one (grown_one given x y k ys zs w k written
            (λ sig over right. is_some refl (over.chosen_role x p.role.0 x_name found.edge)
            (right.lost (filler_at given.first.table.now x) p.over m end_in (partner_in state.ready found.is) kept).inside)
            (λ sig over right grown. rw add-one (row_of_role state.ready over right x_name y_in kind column found kept written
            (rw add-one at grown.formed)))) refl put)
