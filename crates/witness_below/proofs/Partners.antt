-- A role of the edge of a name, and the column that the filler of the name is asked for with by it.
--   free_partner            nothing, by a role that does not serve
--   each_serves             where there is no such role, each role of the edge serves
--   filler_partner          the filler of y then
--   no_edge, over_top       the edge has no role, or that filler is ⊤
use mathlib.Core.Path.{◌≡◌, refl}
use Prim.Native.Nat.{ℕ, ◌≤◌, ◌<◌}
use native.Mathlib.Omega.{arith}
use native.Mathlib.Decide.{ℕ_discrete}
use Rattle.release.specs.Roles.{HasRole, Without}
use Rattle.release.specs.Tables.{filler_at}
use Rattle.release.specs.declared.RoleIndex.{RoleIndex}
use Rattle.marks.specs.Squares.{bit, First, Nowhere}
use Rattle.layout.specs.declared.Given.{Given}
use Rattle.layout.specs.Tables.{edges_at, HasEdge}
use Rattle.backward.specs.Rules.{Filled, Serving}
use Rattle.witness_below.specs.Finding.{partner_filler, partner_nothing, PartnerOf, NoPartner}

module _ {given : Given} {x y set free : ℕ} (serving : Serving given x y set) (without : Without (edges_at given.edges.now x) set free) where
  pub free_partner : {role : RoleIndex} → First (HasRole free) (λ r. HasRole free r → ⊥) 31 0 role.0 → PartnerOf given x y (record { role = role; over = given.layout.names })
  free_partner {role} next =
      let alone = (without.first_alone role.0).0 next.there in
      record {
        edge = alone.0;
        is = partner_nothing (λ filled. alone.1 ((serving.tells role.0).1 (alone.0, filled))) refl;
        all_served = λ l. absurd (omega arith);
      }

  module _ (x_in : x < given.layout.names) (none : Nowhere (λ r. HasRole free r → ⊥) 31 0) where
    each_serves : (r : ℕ) → HasEdge given.edges.now x r → HasRole set r
    each_serves r edge = elim (ℕ_discrete (bit set r) 1) [
      | yes e ↦ record { is = e }
      | no n ↦ absurd (none.each r (omega arith) (omega (arith, given.edges_found.few x r x_in edge)) ((without.first_alone r).1 (edge, λ has. n has.is)))
    ]

    served : (r : ℕ) → HasEdge given.edges.now x r → Filled given.second.table.now given.layout.names y r
    served r edge = ((serving.tells r).0 (each_serves r edge)).1

    pub filler_partner : {role : RoleIndex} {over : ℕ} → First (HasRole set) (λ r. HasRole set r → ⊥) 31 0 role.0 → over ≡ filler_at given.second.table.now y → over < given.layout.names
        → PartnerOf given x y (record { role = role; over = over })
    filler_partner {role} next is small =
        let both = (serving.tells role.0).0 next.there in
        record { edge = both.0; is = partner_filler both.1 is small; all_served = λ l. served }

    pub no_edge : Nowhere (λ r. HasRole set r → ⊥) 31 0 → NoPartner given x y
    no_edge none_serves = record { top = λ r edge. absurd (none_serves.each r (omega arith) (omega (arith, given.edges_found.few x r x_in edge)) (each_serves r edge)) }

    pub over_top : {over : ℕ} → over ≡ filler_at given.second.table.now y → given.layout.names ≤ over → NoPartner given x y
    over_top is large = record { top = λ r edge. record { filled = served r edge; top = omega arith } }
