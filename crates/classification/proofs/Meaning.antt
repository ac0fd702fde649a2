-- What the square holds when no row has anything left to mark: the inclusions.
--   classified       what classifying gives
--   inclusions_stay  a change elsewhere leaves them
--   table_by         such a square is a Table, from which forward and backward marks are computed
use mathlib.Core.Path.{◌≡◌, refl}
use mathlib.Core.Bool.{true}
use mathlib.Core.List.{List}
use mathlib.Core.Logic.{inl, inr}
use Prim.Native.Nat.{ℕ, suc, ◌≤◌}
use native.Mathlib.Omega.{arith}
use Rattle.el.specs.Concepts.{Node}
use Rattle.el.specs.Terminologies.{IsNode}
use Rattle.el.proofs.Derivations.{◌▹◌}
use Rattle.el.proofs.Classification.{Included, includes_sound, includes_complete, InclusionTable}
use Rattle.release.specs.Files.{names_of, content_of}
use Rattle.release.specs.Tables.{Release}
use Rattle.release.specs.Entries.{node_number}
use Rattle.release.proofs.Checks.{header_sound}
use Rattle.release.proofs.Linked.{no_header_fault}
use Rattle.release.specs.declared.table.Table.{Table}
use Rattle.marks.specs.declared.Square.{Square}
use Rattle.marks.specs.Squares.{Marked, Apart, Frame}
use Rattle.marks.specs.Passes.{Closed, Below, AllGood}
use Rattle.marks.proofs.Squares.{frame_marked, marked_frame}
use Rattle.marks.proofs.Passes.{grows_frame, grows_good, unmarked_good}
use Rattle.classification.specs.Inclusions.{node_at, says, Unclassified, Inclusions, Classified}
use Rattle.classification.specs.Steps.{Step, Row, Settled, Setting}
use Rattle.classification.proofs.Nodes.{at_node, number_at, at_number, number_small, said, marked}
use Rattle.classification.proofs.AxiomRows.{formed, ranges}
use Rattle.classification.proofs.Settled.{rows_settled}
use Rattle.classification.proofs.Bridge.{step_includes, rows_closed}

abbrev Means : List ℕ → ℕ → ℕ → ℕ → Type 0
Means s n x y = Included (content_of s) (node_at n x) (node_at n y)

-- good marks, said of nodes
good_says : (s : List ℕ) (q : Square) (w : List ℕ) → AllGood q (Means s q.names) w → (a b : Node) → IsNode q.names a → IsNode q.names b → says q w a b ≡ true → Included (content_of s) a b
good_says s q w g a b i j h = rw (at_number q.names a i, at_number q.names b j)
    at (g.good (node_number q.names a) (node_number q.names b) (number_small q.names a i) (number_small q.names b j) (marked a b refl refl h))

pub setting : {s : List ℕ} {t : Table} {q : Square} {w : List ℕ} → Unclassified s t q w → Setting s t q w
setting {s} u = record {
  shaped = ranges u.release u.names;
  room = u.area.room;
  area = u.area;
  few = omega (arith, u.names, (header_sound s (no_header_fault s u.release.accepted)).names);
}

module _ {s : List ℕ} {t : Table} {q : Square} (r : Release s t) (names : q.names ≡ names_of s) where
  step_sound : (w : List ℕ) (x y : ℕ) → AllGood q (Means s q.names) w → x ≤ q.names → y ≤ q.names → Step s t q w x y → Means s q.names x y
  step_sound w x y g h l o = elim (step_includes r names h l o) [
    | inl i ↦ includes_sound (formed r names) (says q w) (good_says s q w g) (node_at q.names x) (node_at q.names y) (at_node q.names x h) (at_node q.names y l) i
    | inr i ↦ g.good x i.it h i.inside i.first ▹ g.good i.it y i.inside l i.second
  ]

  rows_complete : (v : List ℕ) → Below (Row s t q) (suc q.names) v → (x y : ℕ) → x ≤ q.names → y ≤ q.names → Means s q.names x y → Marked q v x y
  rows_complete v rows x y h l p = marked (node_at q.names x) (node_at q.names y) (number_at q.names x h) (number_at q.names y l)
      (includes_complete (formed r names) (says q v) (λ a b i j k. rows_closed r names rows a b i k) (node_at q.names x) (node_at q.names y) (at_node q.names x h)
      (at_node q.names y l) p)

pub classified : {s : List ℕ} {t : Table} {q : Square} {w v : List ℕ} → Unclassified s t q w → Closed (Step s t q) q (Below (Settled s t q) (suc q.names)) w v → Classified s q w v
classified {v = v} u c = record {
  frame = grows_frame c.grows;
  inclusions = record {
    sound = (grows_good (λ z x y g k h l o. step_sound u.release u.names z x y k h l o) (unmarked_good u.unmarked) c.grows).good;
    complete = rows_complete u.release u.names v (rows_settled (setting u).shaped c.done);
  };
}

-- a square apart from the one that changed keeps them
pub inclusions_stay : {s : List ℕ} {p q : Square} {w v : List ℕ} → Frame q w v → Apart p q → Inclusions s p w → Inclusions s p v
inclusions_stay f apart m = record { sound = λ x y h l k. m.sound x y h l (marked_frame f apart h l k); complete = λ x y h l k. frame_marked f apart h l (m.complete x y h l k) }

-- the square as a table over the nodes
module _ {s : List ℕ} {q : Square} {w : List ℕ} (m : Inclusions s q w) where
  pub says_sound : {a b : Node} → IsNode q.names a → IsNode q.names b → says q w a b ≡ true → Included (content_of s) a b
  says_sound {a} {b} i j h = good_says s q w (record { good = m.sound }) a b i j h

  pub says_complete : {a b : Node} → IsNode q.names a → IsNode q.names b → Included (content_of s) a b → says q w a b ≡ true
  says_complete {a} {b} i j p = said a b refl refl
      (m.complete (node_number q.names a) (node_number q.names b) (number_small q.names a i) (number_small q.names b j)
      (rw (at_number q.names a i, at_number q.names b j) p))

  abbrev pub table_by : {n : ℕ} → n ≡ q.names → InclusionTable n (content_of s)
  table_by e = record { says = says q w; sound = λ i j h. says_sound (rw e at i) (rw e at j) h; complete = λ i j p. says_complete (rw e at i) (rw e at j) p }
