-- An accepted release and its inclusions, as the laws of rows use them.
--   not_defined            a name whose kind is not 2 is not defined by a conjunction: it is plain
--   part_not_defined       no conjunct of a defined conjunction is
--   marked_below, below_marked     a mark of the square is an inclusion of a node in a name
--   filler_node_lem            the filler of a restriction, by its number
use mathlib.Core.Path.{◌≡◌, sym, ap, ◌∙◌}
use mathlib.Core.Bool.{true, false}
use Prim.Native.Nat.{ℕ, ◌≤◌, ◌<◌}
use native.Mathlib.Omega.{arith}
use Rattle.el.specs.Lists.{In}
use Rattle.el.specs.Concepts.{name, named}
use Rattle.el.specs.Axioms.{Axiom, is_conjunction, filler_of}
use Rattle.el.specs.Derivability.{Derives}
use Rattle.el.specs.Terminologies.{Normalised}
use Rattle.el.proofs.PlainNodes.{Plain, plain_name}
use Rattle.release.specs.Files.{joins, restricts}
use Rattle.release.specs.Tables.{kind_at, filler_at, count_at, part_at}
use Rattle.release.proofs.Linked as linked
use Rattle.points.specs.declared.Classified.{Classified}
use Rattle.points.specs.Above.{file_in, table_in, Includes}
use Rattle.classification.specs.Inclusions.{node_at}
use Rattle.classification.proofs.Nodes.{at_name, at_number}
use Rattle.classification.proofs.AxiomRows as rows
use Rattle.question.specs.Evaluation.{World, content_in, node_point}

-- the axiom of the name x, by its row
abbrev pub Found : Classified → ℕ → Type 0
Found g x = rows.Found (file_in g) (table_in g) g.square.names x

module _ {g : Classified} (world : World g) where
  abbrev n : ℕ
  n = g.square.names

  pub normalised : Normalised (content_in g)
  normalised = linked.normalised (file_in g) world.release.accepted

  abbrev pub axiom_at_lem : (x : ℕ) → x < g.square.names → (kind_at (table_in g) x ≡ 0 → ⊥) → Found g x
  axiom_at_lem x h k = rows.find world.release world.names x h k

  abbrev pub row_of : {a : Axiom} → In (content_in g).axioms a → Found g a.left
  row_of a_in = rows.own world.release world.names a_in

  pub not_defined : (y : ℕ) → (kind_at (table_in g) y ≡ 2 → ⊥) → Plain (content_in g) (named y)
  not_defined y k = plain_name (record { none = λ a_in joins e. k (rw e at (rows.is_2 (row_of a_in) joins.is_conjunctive joins.is_defined)) })

  pub part_small : (y i : ℕ) → y < n → joins (kind_at (table_in g) y) ≡ true → i < count_at (file_in g) (table_in g) y → part_at (file_in g) (table_in g) y i < n
  part_small y i h j l = (rows.ranges world.release world.names).part y i h j l

  module _ {y : ℕ} (f : Found g y) (joint : is_conjunction f.it ≡ true) where
    pub part_not_defined : (i : ℕ) → i < count_at (file_in g) (table_in g) y → part_at (file_in g) (table_in g) y i < n → kind_at (table_in g) (part_at (file_in g) (table_in g) y i) ≡ 2 → ⊥
    part_not_defined i l h k =
        let g = axiom_at_lem (part_at (file_in g) (table_in g) y i) h (λ z. omega arith) in
        let d = rows.defined_conjunction g k in
        normalised.plain_parts f.member g.member (record { is_defined = d.1; is_conjunctive = d.0 }) (rw g.left (rows.part_in f joint i l))

  pub marked_below : (x y : ℕ) → x ≤ n → y < n → Includes g x y → Derives (content_in g) (node_point n x) (name y)
  marked_below x y h l m = rw (at_name n y l) at (world.inclusions.sound x y h (omega arith) m)

  pub below_marked : (x y : ℕ) → x ≤ n → y < n → Derives (content_in g) (node_point n x) (name y) → Includes g x y
  below_marked x y h l p = world.inclusions.complete x y h (omega arith) (rw (at_name n y l) p)

  pub filler_node_lem : {y : ℕ} (f : Found g y) → is_conjunction f.it ≡ false → node_at n (filler_at (table_in g) y) ≡ filler_of f.it
  filler_node_lem f k = ap (node_at n) (sym (rows.filler_is f k)) ∙ at_number n (filler_of f.it) ((rows.formed world.release world.names).filler_in f.member)

  pub filler_small : (y : ℕ) → y < n → restricts (kind_at (table_in g) y) ≡ true → filler_at (table_in g) y ≤ n
  filler_small y h k = (rows.ranges world.release world.names).filler y h k
