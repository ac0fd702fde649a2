-- The roles of the edge of a name, one after the other.
--   role_before, roles_all     a role of the edge before the next one found, and where none is found, was found before
--   edge_kind, edge_end        what the axiom of a name with an edge is
--   ServingTo, serving_none, serving_more, serving_all      the roles that serve for those found so far
use mathlib.Core.Path.{◌≡◌}
use mathlib.Core.Bool.{true}
use mathlib.Core.Logic.{inl, inr}
use Prim.Native.Nat.{ℕ, ◌+◌, ◌≤◌, ◌<◌}
use native.Mathlib.Omega.{arith}
use native.Mathlib.Decide.{ℕ_discrete, dec_lt}
use Rattle.release.specs.Files.{restricts, most_roles}
use Rattle.release.specs.Roles.{HasRole, Joined}
use Rattle.release.specs.Tables.{kind_at, filler_at, serves_at, ServingAt}
use Rattle.release.proofs.RoleSets.{empty}
use Rattle.marks.specs.Squares.{First, Nowhere}
use Rattle.layout.specs.declared.Given.{Given}
use Rattle.layout.specs.Tables.{HasEdge}
use Rattle.witness_above.specs.Left.{Edge}
use Rattle.witness_above.specs.Reach.{ServesEdge, Serving}

module _ (G : Given) (x : ℕ) {from : ℕ} where
  pub role_before : {r : ℕ} → First (HasEdge G.edges.now x) (λ q. HasEdge G.edges.now x q → ⊥) 31 from r → (q : ℕ) → q < r → HasEdge G.edges.now x q → q < from
  role_before next q h edge = elim (dec_lt q from) [ yes l ↦ l | no n ↦ absurd (next.before q (omega arith) h edge) ]

  pub roles_all : Nowhere (λ q. HasEdge G.edges.now x q → ⊥) 31 from → {q : ℕ} → Edge G x q → q < from
  roles_all past {q} edge = elim (dec_lt q from) [
    | yes l ↦ l
    | no n ↦ absurd (past.each q (omega arith) (omega (arith, G.edges_found.few x q edge.is_name edge.with_role)) edge.with_role)
  ]

pub edge_kind : {G : Given} {x r : ℕ} → Edge G x r → restricts (kind_at G.first.table.now x) ≡ true
edge_kind {G} {x} {r} edge = G.edges_found.restriction x r edge.is_name edge.with_role

pub edge_end : {G : Given} {x r : ℕ} → Edge G x r → filler_at G.first.table.now x ≤ G.layout.names
edge_end {G} {x} edge = G.first_rowed.filler x edge.is_name (edge_kind edge)

-- the roles that serve
pub record ServingTo (G : Given) (c from set : ℕ) : Type 0 where
  pub sound : (q : ℕ) → q < most_roles → HasRole set q → ServesEdge G c q
  pub complete : (q r : ℕ) → q < most_roles → r < from → HasEdge G.edges.now c r → serves_at G.second.table.now q r ≡ true → HasRole set q

pub serving_none : {G : Given} {c : ℕ} → ServingTo G c 0 0
serving_none = record { sound = λ q l h. absurd (empty.none q h); complete = λ q r l h. absurd (omega arith) }

module _ {G : Given} {c from set : ℕ} (so_far : ServingTo G c from set) where
  pub serving_more : {r under new : ℕ} → First (HasEdge G.edges.now c) (λ q. HasEdge G.edges.now c q → ⊥) 31 from r → ServingAt G.second.table.now r under → Joined set under new
      → ServingTo G c (r + 1) new
  serving_more {r} next serving joined = record {
    sound = λ q l h. elim ((joined.either q).0 h) [
      | inl old ↦ so_far.sound q l old
      | inr new ↦ record { role = r; edge = next.there; serves = (serving.tells q l).0 new }
    ];
    complete = λ q s l h edge serves. elim (ℕ_discrete s r) [
      | yes e ↦ (joined.either q).1 (inr ((serving.tells q l).1 (rw e at serves)))
      | no n ↦ (joined.either q).1 (inl (so_far.complete q s l (role_before G c next s (omega arith) edge) edge serves))
    ];
  }

  pub serving_all : c < G.layout.names → Nowhere (λ q. HasEdge G.edges.now c q → ⊥) 31 from → Serving G c set
  serving_all c_in past = record {
    tells = λ q l. (
      so_far.sound q l,
      λ s. so_far.complete q s.role l (roles_all G c past (record { is_name = c_in; with_role = s.edge })) s.edge s.serves,
    );
  }
