-- What holds of rows ys and memory w while a right report is written, where the two releases and names and edges of a signature are given.
--   Ready given w                       the inclusions of both releases are in the memory, and there is room for the pairs behind them
--   Over sig given                      the names and edges are those of the signature
--   RightReport sig given k ys w        k rows are written; that of each marked pair lies below its node by the first release, and not
--                                       below its column by the second
--   not_open given w                    the pairs that are marked or not asked for, as a test; but what is open with nothing is open with all
--   Stuck given w x y                   no rule gives the pair x, y from those
--   opens w base n, fresh w base n      how many pairs have no row yet, and how many of these are not asked for
--   State given k ys ps w               room for what is written, at most 15 rows and at most n + 1 for a mark
--   ToLook given x y k ys ps w          the pair x, y is asked for, and not marked
--   Went given k ys zs ps qs w v j      rows and memory after some steps
--   Looked given x y ..                 after a look at the pair x, y;  Passed given e ..: after looks at the pairs before e
--   Chased given ..                     after looks at any pairs: no more is left to do than before
--   Done given x ..                     the pair x, x is marked, or nothing is left to do
use Rattle.std.specs.Prelude.{◌≡◌, Bool, true, false, not, ◌&&◌, ◌⊎◌, List, ℕ, suc, ◌+◌, ◌*◌, ◌≤◌, ◌<◌, eqb, leb, length, get_or}
use Rattle.el.specs.Concepts.{Node, everything, named}
use Rattle.el.specs.Signatures.{Signature}
use Rattle.el.specs.Answers.{Test, Column, nothing, node}
use Rattle.el.specs.Terminologies.{Comparable}
use Rattle.el.proofs.BackwardMarks.{Backward}
use Rattle.concept_rows.specs.Lent.{row_at, rows_needed}
use Rattle.concept_rows.specs.Written.{Formed, Lost, passing}
use Rattle.release.specs.Files.{content_of}
use Rattle.release.specs.Entries.{node_number}
use Rattle.release.specs.Tables.{kind_at, role_at, serves_at}
use Rattle.marks.specs.Squares.{span}
use Rattle.classification.specs.Inclusions.{node_at, says}
use Rattle.layout.specs.declared.Layout.{Layout}
use Rattle.layout.specs.declared.Given.{Given}
use Rattle.layout.specs.Layouts.{first_square, second_square, chosen}
use Rattle.layout.specs.Tables.{HasEdge}
use Rattle.backward.specs.Backward.{column_at}
use Rattle.row_evaluation.specs.Worlds.{World}
use Rattle.witness_below.specs.declared.looking.Progress.{Progress}
use Rattle.witness_below.specs.Cells.{pair_of, value_at, cell_at, CellRoom}

pub record Ready (given : Given) (w : List ℕ) : Type 0 where
  pub first_world : World given.first.file.now given.first.table.now (first_square given.layout) w
  pub second_world : World given.second.file.now given.second.table.now (second_square given.layout) w
  pub first_apart : given.layout.first + span given.layout.names ≤ given.layout.marks
  pub second_apart : given.layout.second + span given.layout.names ≤ given.layout.marks
  pub cells : CellRoom given.layout w

pub record Over (sig : Signature) (given : Given) : Type 0 where
  pub name : (x : ℕ) → x < given.layout.names → (chosen given.layout given.chosen_names.now).has_name x ≡ sig.has_name x
  pub edge : (x r : ℕ) → x < given.layout.names → kind_at given.first.table.now x ≡ 4 → sig.has_role r ≡ true
      → serves_at given.first.table.now r (role_at given.first.table.now x) ≡ true → HasEdge given.edges.now x r
  pub chosen_role : (x r : ℕ) → x < given.layout.names → HasEdge given.edges.now x r → sig.has_role r ≡ true
  pub serves : (x r : ℕ) → x < given.layout.names → HasEdge given.edges.now x r → serves_at given.first.table.now r (role_at given.first.table.now x) ≡ true
  pub comparable : Comparable given.layout.names sig (content_of given.first.file.now) (content_of given.second.file.now)

abbrev pub RowFor : Given → ℕ → List ℕ → ℕ → ℕ → ℕ → Type 0
RowFor given k ys x y j = Lost (content_of given.first.file.now) (content_of given.second.file.now) (row_at ys) k (node_at given.layout.names x) (column_at given.layout.names y) j

pub record RightReport (sig : Signature) (given : Given) (k : ℕ) (ys w : List ℕ) : Type 0 where
  pub formed : Formed sig (row_at ys) k
  pub lost : (x y j : ℕ) → x ≤ given.layout.names → y ≤ given.layout.names → cell_at given.layout w x y ≡ j + 2 → RowFor given k ys x y j

-- the column ⊤ is never marked
abbrev pub is_open : Given → List ℕ → Node → ℕ → Bool
is_open given w x y = eqb (cell_at given.layout w (node_number given.layout.names x) y) 1

abbrev pub not_open : Given → List ℕ → Test Node Column
not_open given w x nothing = not (is_open given w x given.layout.names)
not_open given w x (node everything) = false
not_open given w x (node (named y)) = not (is_open given w x y) && not (is_open given w x given.layout.names)

abbrev pub Rule : Signature → Given → List ℕ → Node → Column → Type 0
Rule sig given w x y = Backward sig (content_of given.first.file.now) (content_of given.second.file.now) (says (first_square given.layout) w) (says (second_square given.layout) w)
    (not_open given w) x y

pub record Stuck (given : Given) (w : List ℕ) (x y : ℕ) : Type 0 where
  pub none : (sig : Signature) → Over sig given → Rule sig given w (node_at given.layout.names x) (column_at given.layout.names y) → ⊥

unfoldable pub opens : List ℕ → ℕ → ℕ → ℕ
opens w base n = passing (λ p. leb (value_at w base p) 1) (suc n * suc n)

unfoldable pub fresh : List ℕ → ℕ → ℕ → ℕ
fresh w base n = passing (λ p. eqb (value_at w base p) 0) (suc n * suc n)

unfoldable pub todo : Layout → List ℕ → ℕ
todo l w = opens w l.marks l.names + fresh w l.marks l.names

pub record Few (n k left : ℕ) : Type 0 where
  pub small : k + 15 * left ≤ 15 * (suc n * suc n)
  pub fits : k + suc n * left ≤ suc n * (suc n * suc n)

pub record State (given : Given) (k : ℕ) (ys ps w : List ℕ) : Type 0 where
  pub ready : Ready given w
  pub rows : 3 * rows_needed given.layout.names ≤ length ys
  pub numbers : given.layout.names < length ps
  pub few : Few given.layout.names k (opens w given.layout.marks given.layout.names)

pub record ToLook (given : Given) (x y k : ℕ) (ys ps w : List ℕ) : Type 0 where
  pub state : State given k ys ps w
  pub row : x ≤ given.layout.names
  pub column : y ≤ given.layout.names
  pub one : cell_at given.layout w x y ≡ 1

pub record Went (given : Given) (k : ℕ) (ys zs ps qs w v : List ℕ) (j : ℕ) : Type 0 where
  pub state : State given j zs qs v
  pub long : length v ≡ length w
  pub rows_long : length zs ≡ length ys
  pub numbers_long : length qs ≡ length ps
  pub before : (p : ℕ) → p < given.layout.marks → get_or v p 0 ≡ get_or w p 0
  pub beyond : (p : ℕ) → given.layout.marks + 3 * (suc given.layout.names * suc given.layout.names) ≤ p → get_or v p 0 ≡ get_or w p 0
  pub past : (p : ℕ) → 3 * j ≤ p → get_or zs p 0 ≡ get_or ys p 0
  pub more : k ≤ j
  pub asked : (p : ℕ) → 1 ≤ value_at w given.layout.marks p → 1 ≤ value_at v given.layout.marks p
  pub keeps : (sig : Signature) → Over sig given → RightReport sig given k ys w → RightReport sig given j zs v

pub record Looked (given : Given) (x y k : ℕ) (ys zs ps qs w v : List ℕ) (r : Progress) : Type 0 where
  pub went : Went given k ys zs ps qs w v r.rows
  pub fewer : r.changed ≡ true → todo given.layout v < todo given.layout w
  pub same : r.changed ≡ false → v ≡ w
  pub stuck : r.changed ≡ false → Stuck given w x y

-- a pair is not 1, or stuck
pub record Settled (given : Given) (w : List ℕ) (p : ℕ) : Type 0 where
  pub at : (x y : ℕ) → x ≤ given.layout.names → y ≤ given.layout.names → p ≡ pair_of given.layout.names x y → cell_at given.layout w x y ≡ 1 → Stuck given w x y

pub record Passed (given : Given) (e k : ℕ) (ys zs ps qs w v : List ℕ) (r : Progress) : Type 0 where
  pub went : Went given k ys zs ps qs w v r.rows
  pub fewer : r.changed ≡ true → todo given.layout v < todo given.layout w
  pub same : r.changed ≡ false → v ≡ w
  pub settled : r.changed ≡ false → (p : ℕ) → p < e → Settled given w p

pub record Chased (given : Given) (k : ℕ) (ys zs ps qs w v : List ℕ) (j : ℕ) : Type 0 where
  pub went : Went given k ys zs ps qs w v j
  pub less : todo given.layout v ≤ todo given.layout w

pub record Done (given : Given) (x k : ℕ) (ys zs ps qs w v : List ℕ) (j : ℕ) : Type 0 where
  pub went : Went given k ys zs ps qs w v j
  pub ends : (2 ≤ cell_at given.layout v x x) ⊎ ((p : ℕ) → p < suc given.layout.names * suc given.layout.names → Settled given v p)
