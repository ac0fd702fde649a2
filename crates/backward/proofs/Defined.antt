-- The definitions of a release by its table: kind 2 is a conjunction, kind 4 a restriction.
--   joins_2, not_joined, not_2      a name is defined by a conjunction exactly where its kind is 2
--   fills_filled, filled_by         it is defined by a restriction for which a role serves exactly where its row says so
use mathlib.Core.Path.{◌≡◌}
use mathlib.Core.List.{List}
use Prim.Native.Nat.{ℕ, ◌<◌}
use native.Mathlib.Omega.{arith}
use Rattle.el.specs.Lists.{In}
use Rattle.el.specs.Axioms.{Axiom}
use Rattle.el.specs.Terminologies.{Joins}
use Rattle.el.proofs.Derivations.{Fills}
use Rattle.el.proofs.Terminologies.{NotJoined}
use Rattle.el.proofs.PlainNodes.{Plain, plain_name}
use Rattle.release.specs.declared.table.Table.{Table}
use Rattle.release.specs.Files.{names_of, axioms_of, content_of}
use Rattle.release.specs.Tables.{kind_at, role_at, Release}
use Rattle.release.proofs.Linked.{tells_serves_at}
use Rattle.classification.specs.Inclusions.{node_at}
use Rattle.classification.proofs.Nodes.{at_name}
use Rattle.classification.proofs.AxiomRows.{Found, defined_conjunction, defined_restriction, is_2, is_4, role_is, formed, own, find}
use Rattle.backward.specs.Rules.{Filled}

module _ {s : List ℕ} {t : Table} {n : ℕ} (r : Release s t) (names : n ≡ names_of s) where
  pub joins_2 : {a : Axiom} → In (axioms_of s) a → Joins a → kind_at t a.left ≡ 2
  joins_2 a_in joins = is_2 (own r names a_in) joins.is_conjunctive joins.is_defined

  pub found_2 : (x : ℕ) → x < n → kind_at t x ≡ 2 → Found s t n x
  found_2 x l e = find r names x l (λ z. omega arith)

  pub found_4 : (x : ℕ) → x < n → kind_at t x ≡ 4 → Found s t n x
  found_4 x l e = find r names x l (λ z. omega arith)

  pub not_joined : {x : ℕ} → (kind_at t x ≡ 2 → ⊥) → NotJoined (content_of s) x
  not_joined k = record { none = λ a_in joins e. k (rw e at (joins_2 a_in joins)) }

  pub not_2 : {x : ℕ} → x < n → NotJoined (content_of s) x → kind_at t x ≡ 2 → ⊥
  not_2 {x} l k e = let f = found_2 x l e in let d = defined_conjunction f e in k.none f.member (record { is_defined = d.1; is_conjunctive = d.0 }) f.left

  pub plain_node_at : {x : ℕ} → x < n → (kind_at t x ≡ 2 → ⊥) → Plain (content_of s) (node_at n x)
  plain_node_at {x} l k = rw (at_name n x l) (plain_name (not_joined k))

  pub fills_filled : {q : ℕ} {a : Axiom} → In (axioms_of s) a → Fills (content_of s) q a → Filled t n a.left q
  fills_filled a_in fills = let f = own r names a_in in record
      { is_name = (formed r names).left_in a_in; kind = is_4 f fills.is_restriction fills.is_defined; role = rw (role_is f fills.is_restriction) ((tells_serves_at r _ _).complete fills.role) }

  pub filled_by : {x q : ℕ} → Filled t n x q → (f : Found s t n x) → Fills (content_of s) q f.it
  filled_by {x} {q} h f = let d = defined_restriction f h.kind in record { is_defined = d.1; is_restriction = d.0; role = rw (role_is f d.0) at ((tells_serves_at r q (role_at t x)).sound h.role) }
