-- An accepted release and its inclusions, as the laws of rows use them.
--   marked_below, below_marked     a mark of the square is an inclusion of a node in a name
--   filler_node_lem            the filler of a restriction, by its number
--   world_after                the same where only bytes behind the square have changed
use mathlib.Core.Path.{◌≡◌, sym, ap, ◌∙◌}
use mathlib.Core.Bool.{true, false}
use mathlib.Core.List.{List}
use Prim.Native.Nat.{ℕ, ◌+◌, ◌≤◌, ◌<◌}
use native.Mathlib.Omega.{arith}
use lib.ListN.{length, get_or}
use Rattle.el.specs.Lists.{In}
use Rattle.el.specs.Concepts.{name, named}
use Rattle.el.specs.Axioms.{Axiom, is_conjunction, filler_of}
use Rattle.el.specs.Derivability.{Derives}
use Rattle.el.specs.Terminologies.{Normalised}
use Rattle.el.proofs.PlainNodes.{Plain, plain_name}
use Rattle.release.specs.Files.{axioms_of, joins, restricts, content_of}
use Rattle.release.specs.Tables.{kind_at, filler_at, count_at, part_at}
use Rattle.release.proofs.Linked as linked
use Rattle.release.specs.declared.table.Table.{Table}
use Rattle.marks.specs.declared.Square.{Square}
use Rattle.marks.specs.Squares.{span, place, Marked}
use Rattle.marks.proofs.Squares.{place_below}
use Rattle.classification.specs.Inclusions.{node_at}
use Rattle.classification.proofs.Nodes.{at_name, at_number}
use Rattle.classification.proofs.AxiomRows as rows
use Rattle.row_evaluation.specs.Worlds.{World, node_point}

module _ {s : List ℕ} {t : Table} {q : Square} {w : List ℕ} (world : World s t q w) where
  abbrev n : ℕ
  n = q.names

  abbrev pub axiom_row : {a : Axiom} → In (axioms_of s) a → rows.Found s t q.names a.left
  axiom_row a_in = rows.own world.release world.names a_in

  pub marked_below : (x y : ℕ) → x ≤ n → y < n → Marked q w x y → Derives (content_of s) (node_point n x) (name y)
  marked_below x y h l m = rw (at_name n y l) at (world.inclusions.sound x y h (omega arith) m)

  pub below_marked : (x y : ℕ) → x ≤ n → y < n → Derives (content_of s) (node_point n x) (name y) → Marked q w x y
  below_marked x y h l p = world.inclusions.complete x y h (omega arith) (rw (at_name n y l) p)

  pub filler_node_lem : {y : ℕ} (f : rows.Found s t q.names y) → is_conjunction f.it ≡ false → node_at n (filler_at t y) ≡ filler_of f.it
  filler_node_lem f k = ap (node_at n) (sym (rows.filler_is f k)) ∙ at_number n (filler_of f.it) ((rows.formed world.release world.names).filler_in f.member)

  pub filler_small : (y : ℕ) → y < n → restricts (kind_at t y) ≡ true → filler_at t y ≤ n
  filler_small y h k = (rows.ranges world.release world.names).filler y h k

  -- for what lies above
  pub terminology : Normalised (content_of s)
  terminology = linked.normalised s world.release.accepted

  abbrev pub axiom_at_lem : (x : ℕ) → x < q.names → (kind_at t x ≡ 0 → ⊥) → rows.Found s t q.names x
  axiom_at_lem x h k = rows.find world.release world.names x h k

  pub not_defined : (y : ℕ) → (kind_at t y ≡ 2 → ⊥) → Plain (content_of s) (named y)
  not_defined y k = plain_name (record { none = λ a_in joins e. k (rw e at (rows.is_2 (axiom_row a_in) joins.is_conjunctive joins.is_defined)) })

  pub part_small : (y i : ℕ) → y < n → joins (kind_at t y) ≡ true → i < count_at s t y → part_at s t y i < n
  part_small y i h j l = (rows.ranges world.release world.names).part y i h j l

  module _ {y : ℕ} (f : rows.Found s t q.names y) (joint : is_conjunction f.it ≡ true) where
    pub part_not_defined : (i : ℕ) → i < count_at s t y → part_at s t y i < n → kind_at t (part_at s t y i) ≡ 2 → ⊥
    part_not_defined i l h k =
        let g = axiom_at_lem (part_at s t y i) h (λ z. omega arith) in
        let d = rows.defined_conjunction g k in
        terminology.plain_parts f.member g.member (record { is_defined = d.1; is_conjunctive = d.0 }) (rw g.left (rows.part_in f joint i l))

-- where only bytes behind the square have changed
pub world_after : {s : List ℕ} {t : Table} {q : Square} {base : ℕ} {w v : List ℕ} → q.base + span q.names ≤ base → length v ≡ length w
    → ((p : ℕ) → p < base → get_or v p 0 ≡ get_or w p 0) → World s t q w → World s t q v
world_after {q = q} {base = base} {w = w} {v = v} apart long before world = record {
  release = world.release;
  names = world.names;
  room = record { small = world.room.small; fits = omega (arith, world.room.fits) };
  inclusions = record {
    sound = λ x y h l m. world.inclusions.sound x y h l (record { is = rw (← same_byte x y h l) m.is });
    complete = λ x y h l p. let m = world.inclusions.complete x y h l p in record { is = rw (same_byte x y h l) m.is };
  };
}
  where
    same_byte : (x y : ℕ) → x ≤ q.names → y ≤ q.names → get_or v (place q x y) 0 ≡ get_or w (place q x y) 0
    same_byte x y h l = before (place q x y) (omega (arith, place_below q x y h l))
