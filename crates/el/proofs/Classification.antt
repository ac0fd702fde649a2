-- The inclusions between the nodes of a terminology. A table that holds only derivable ones and is closed under five rules
-- holds them all.
--   Link t m x r a      x ⊑ ∃r.B by the axiom A ⊑ ∃s.B, where m marks x ⊑ A and s lies under r by t
--   Includes t m x y    one of the five rules gives x ⊑ y from the inclusions m
--   Inclusions n t      marks on pairs of nodes that are derivable and closed under the rules; some_inclusions: there are such
--   InclusionTable n t  a table of all inclusions between nodes; table_of: any marks that are good and closed are one
--   linked, links       a node lies below ∃r.d exactly by a link to a filler below d
use mathlib.Core.Path.{◌≡◌, refl}
use mathlib.Core.Logic.{◌⊎◌, inl, inr}
use mathlib.Core.Bool.{Bool, true, false}
use Prim.Native.Nat.{ℕ}
use Rattle.el.specs.Lists.{In, Every}
use Rattle.el.specs.Concepts.{Concept, some, Node, everything, named, concept_of}
use Rattle.el.specs.Axioms.{Axiom, right_of, is_conjunction, parts_of, role_of, filler_of, RolePair, Terminology}
use Rattle.el.specs.Derivability.{Under, same_role, listed, through, Derives, same, to_top, under}
use Rattle.el.specs.Interpretations.{Interpretation, Sat}
use Rattle.el.specs.Answers.{Test, is_link, is_join, is_fill, includes}
use Rattle.el.specs.Terminologies.{Joins, IsNode, name_node, Formed}
use Rattle.el.proofs.Lists.{Some}
use Rattle.el.proofs.Tests.{Tells, tells_as, tells_true, tells_false, tells_and, tells_or, tells_any, tells_all, which}
use Rattle.el.proofs.Roles.{tells_under}
use Rattle.el.proofs.Derivations.{◌▹◌, Fills, Restricts, fills_by, right_conjunction, right_restriction, to_part, from_parts, to_filler, from_filler}
use Rattle.el.proofs.Soundness.{sound}
use Rattle.el.proofs.CanonicalModel.{Within, Edge, written, implied, names_hold, hold_names, inversion}
use Rattle.el.proofs.Nodes.{tells_node, node_axis}
use Rattle.el.proofs.Saturation.{Closed, Keeps, Marks, saturated}

pub record Link (t : Terminology) (m : Test Node Node) (x : Node) (r : ℕ) (a : Axiom) : Type 0 where
  pub above : m x (named a.left) ≡ true
  pub is_restriction : is_conjunction a ≡ false
  pub role : Under t.roles (role_of a) r

pub link_restricts : {t : Terminology} {m : Test Node Node} {x : Node} {r : ℕ} {a : Axiom} → Link t m x r a → Restricts t a r (concept_of (filler_of a))
link_restricts link = record { is_restriction = link.is_restriction; role = link.role; filler = refl }

pub link_wider : {t : Terminology} {m : Test Node Node} {x : Node} {r s : ℕ} {a : Axiom} → Under t.roles r s → Link t m x r a → Link t m x s a
link_wider u link = record { above = link.above; is_restriction = link.is_restriction; role = through link.role u }

pub data Includes (t : Terminology) (m : Test Node Node) (x y : Node) : Type 0 where
  the_same : x ≡ y → Includes t m x y
  to_everything : y ≡ everything → Includes t m x y
  by_part : {a : Axiom} {z : ℕ} → In t.axioms a → m x (named a.left) ≡ true → In (parts_of a) z → named z ≡ y → Includes t m x y
  by_parts : {a : Axiom} → In t.axioms a → named a.left ≡ y → Joins a → Every (parts_of a) (λ z. m x (named z) ≡ true) → Includes t m x y
  by_filler : {a b : Axiom} {r : ℕ} → In t.axioms a → named a.left ≡ y → Fills t r a → In t.axioms b → Link t m x r b → m (filler_of b) (filler_of a) ≡ true → Includes t m x y

-- the tests of specs/Answers tell of these
pub tells_link : (t : Terminology) (m : Test Node Node) (x : Node) (r : ℕ) (a : Axiom) → Tells (is_link t m x r a) (Link t m x r a)
tells_link t m x r a = tells_as (λ w. record { above = w.0; is_restriction = w.1.0; role = w.1.1 }) (λ l. (l.above, (l.is_restriction, l.role)))
    (tells_and (tells_true (m x (named a.left))) (λ _. tells_and (tells_false (is_conjunction a)) (λ _. tells_under t.roles (role_of a) r)))

pub tells_joins : (a : Axiom) → Tells (is_join a) (Joins a)
tells_joins a = tells_as (λ w. record { is_defined = w.0; is_conjunctive = w.1 }) (λ j. (j.is_defined, j.is_conjunctive)) (tells_and (tells_true a.defined) (λ _. tells_true (is_conjunction a)))

pub tells_fills : (t : Terminology) (r : ℕ) (a : Axiom) → Tells (is_fill t r a) (Fills t r a)
tells_fills t r a = tells_as (λ w. record { is_defined = w.0; is_restriction = w.1.0; role = w.1.1 }) (λ f. (f.is_defined, (f.is_restriction, f.role)))
    (tells_and (tells_true a.defined) (λ _. tells_and (tells_false (is_conjunction a)) (λ _. tells_under t.roles r (role_of a))))

pub tells_includes : (t : Terminology) (m : Test Node Node) (x y : Node) → Tells (includes t m x y) (Includes t m x y)
tells_includes t m x y = tells_as there back (tells_or (tells_node x y) (tells_or (tells_node y everything) (tells_or
    (tells_any _ t.axioms (λ a h. tells_and (tells_true (m x (named a.left))) (λ _. tells_any _ (parts_of a) (λ z i. tells_node (named z) y))))
    (tells_or
    (tells_any _ t.axioms (λ a h. tells_and (tells_node (named a.left) y) (λ _. tells_and (tells_joins a) (λ _. tells_all _ (parts_of a) (λ z i. tells_true (m x (named z)))))))
    (tells_any _ t.axioms (λ a h. tells_and (tells_node (named a.left) y)
    (λ _. tells_any _ t.axioms (λ b k. tells_and (tells_fills t (role_of b) a)
    (λ _. tells_and (tells_link t m x (role_of b) b) (λ _. tells_true (m (filler_of b) (filler_of a))))))))))))
  where
    Cases : Type 0
    Cases = (x ≡ y)
        ⊎ ((y ≡ everything)
        ⊎ (Some t.axioms (λ a. (m x (named a.left) ≡ true) × Some (parts_of a) (λ z. named z ≡ y))
        ⊎ (Some t.axioms (λ a. (named a.left ≡ y) × (Joins a × Every (parts_of a) (λ z. m x (named z) ≡ true)))
        ⊎ Some t.axioms (λ a. (named a.left ≡ y) × Some t.axioms (λ b. Fills t (role_of b) a × (Link t m x (role_of b) b × (m (filler_of b) (filler_of a) ≡ true)))))))

    there : Cases → Includes t m x y
    there (inl e) = the_same e
    there (inr (inl e)) = to_everything e
    there (inr (inr (inl s))) = by_part s.member s.holds.0 s.holds.1.member s.holds.1.holds
    there (inr (inr (inr (inl s)))) = by_parts s.member s.holds.0 s.holds.1.0 s.holds.1.1
    there (inr (inr (inr (inr s)))) = let b = s.holds.1 in by_filler s.member s.holds.0 b.holds.0 b.member b.holds.1.0 b.holds.1.1

    back : Includes t m x y → Cases
    back (the_same e) = inl e
    back (to_everything e) = inr (inl e)
    back (by_part {a = a} {z = z} a_in above z_in z_is_y) = inr (inr (inl (record { it = a; member = a_in; holds = (above, record { it = z; member = z_in; holds = z_is_y }) })))
    back (by_parts {a = a} a_in a_is_y joins all_above) = inr (inr (inr (inl (record { it = a; member = a_in; holds = (a_is_y, (joins, all_above)) }))))
    back (by_filler {a = a} {b = b} a_in a_is_y fills b_in link marked) =
        let own_link : Link t m x (role_of b) b = record { above = link.above; is_restriction = link.is_restriction; role = same_role } in
        inr (inr (inr (inr (record { it = a; member = a_in; holds = (a_is_y, record { it = b; member = b_in; holds = (fills_by link.role fills, (own_link, marked)) }) }))))

-- the nodes as a model, by any marks m
record Spot (n : ℕ) : Type 0 where
  at : Node
  is : IsNode n at

abbrev finite : ℕ → Terminology → Test Node Node → Interpretation
finite n t m = record { Point = Spot n; ext = λ x a. m x.at (named a) ≡ true; edge = λ r x y. Some t.axioms (λ b. Link t m x.at r b × (filler_of b ≡ y.at)) }

abbrev pub Included : Terminology → Node → Node → Type 0
Included t x y = Derives t (concept_of x) (concept_of y)

abbrev pub Inclusions : ℕ → Terminology → Type 0
Inclusions n t = Marks (IsNode n) (IsNode n) (Included t) (Includes t)

module _ {n : ℕ} {t : Terminology} (formed : Formed n t) where
  pub left_node : {a : Axiom} → In t.axioms a → IsNode n (named a.left)
  left_node a_in = name_node (formed.left_in a_in)

  pub part_node : {a : Axiom} {z : ℕ} → In t.axioms a → In (parts_of a) z → IsNode n (named z)
  part_node a_in z_in = name_node (formed.parts_in a_in z_in)

  -- the rules are sound
  pub includes_sound : Keeps (IsNode n) (IsNode n) (Included t) (Includes t)
  includes_sound m good x y x_in y_in (the_same e) = rw e same
  includes_sound m good x y x_in y_in (to_everything e) = rw e to_top
  includes_sound m good x y x_in y_in (by_part a_in above z_in z_is_y) = rw (← z_is_y) (good x _ x_in (left_node a_in) above ▹ to_part a_in z_in)
  includes_sound m good x y x_in y_in (by_parts a_in a_is_y joins all_above) = rw (← a_is_y) (from_parts a_in joins (λ z z_in. good x (named z) x_in (part_node a_in z_in) (all_above.at z z_in)))
  includes_sound m good x y x_in y_in (by_filler a_in a_is_y fills b_in link marked) = rw (← a_is_y)
      (good x _ x_in (left_node b_in) link.above ▹ to_filler b_in (link_restricts link) ▹ from_filler a_in fills
      (good _ _ (formed.filler_in b_in) (formed.filler_in a_in) marked))

  abbrev pub some_inclusions : Inclusions n t
  some_inclusions = saturated (node_axis n) (node_axis n) (Included t) (Includes t) (includes t) (tells_includes t) includes_sound

  -- and complete
  module _ (m : Test Node Node) (closed : Closed (IsNode n) (IsNode n) (Includes t) m) where
    node_holds : (x : Spot n) (y : Node) → m x.at y ≡ true → Sat (finite n t m) x (concept_of y)
    node_holds x everything marked = tt
    node_holds x (named y) marked = marked

    holds_node : (x : Spot n) (y : Node) → IsNode n y → Sat (finite n t m) x (concept_of y) → m x.at y ≡ true
    holds_node x everything y_in s = closed x.at everything x.is y_in (to_everything refl)
    holds_node x (named y) y_in s = s

    itself_holds : (x : Spot n) → Sat (finite n t m) x (concept_of x.at)
    itself_holds x = node_holds x x.at (closed x.at x.at x.is x.is (the_same refl))

    finite_down : {a : Axiom} → In t.axioms a → (x : Spot n) → m x.at (named a.left) ≡ true → Sat (finite n t m) x (right_of a)
    finite_down {a} a_in x above = elim (which (is_conjunction a)) [
      | inl k ↦ rw (right_conjunction a k) (names_hold (finite n t m) x (parts_of a) (λ z z_in. closed x.at (named z) x.is (part_node a_in z_in) (by_part a_in above z_in refl)))
      | inr k ↦ (
          let y : Spot n = record { at = filler_of a; is = formed.filler_in a_in } in
          let link : Link t m x.at (role_of a) a = record { above = above; is_restriction = k; role = same_role } in
          rw (right_restriction a k) (y, record { it = a; member = a_in; holds = (link, refl) }, itself_holds y))
    ]

    finite_up : {a : Axiom} → In t.axioms a → a.defined ≡ true → (x : Spot n) → Sat (finite n t m) x (right_of a) → m x.at (named a.left) ≡ true
    finite_up {a} a_in d x s = closed x.at (named a.left) x.is (left_node a_in) (elim (which (is_conjunction a)) [
      | inl k ↦ by_parts a_in refl (record { is_defined = d; is_conjunctive = k }) (record { at = hold_names (finite n t m) x (parts_of a) (rw (right_conjunction a k) at s) })
      | inr k ↦ (
          let h : Sat (finite n t m) x (some (role_of a) (concept_of (filler_of a))) = rw (right_restriction a k) at s in
          let b = h.1 in
          by_filler a_in refl (record { is_defined = d; is_restriction = k; role = same_role }) b.member b.holds.0 (rw b.holds.1 (holds_node h.0 (filler_of a) (formed.filler_in a_in) h.2)))
    ])

    finite_wider : {p : RolePair} → In t.roles p → (x y : Spot n) → (finite n t m).edge p.lower x y → (finite n t m).edge p.upper x y
    finite_wider h x y b = record { it = b.it; member = b.member; holds = (link_wider (listed h) b.holds.0, b.holds.1) }

    pub includes_complete : (x y : Node) → IsNode n x → IsNode n y → Included t x y → m x y ≡ true
    includes_complete x y x_in y_in p =
        let point : Spot n = record { at = x; is = x_in } in
        holds_node point y y_in (sound p (record { down = finite_down; up = finite_up; wider = finite_wider }) point (itself_holds point))

pub record InclusionTable (n : ℕ) (t : Terminology) : Type 0 where
  pub says : Node → Node → Bool
  pub sound : {x y : Node} → IsNode n x → IsNode n y → says x y ≡ true → Included t x y
  pub complete : {x y : Node} → IsNode n x → IsNode n y → Included t x y → says x y ≡ true

abbrev pub table_of : {n : ℕ} {t : Terminology} → Formed n t → Inclusions n t → InclusionTable n t
table_of formed marks = record { says = marks.mark; sound = λ x_in y_in h. marks.good _ _ x_in y_in h; complete = λ x_in y_in p. includes_complete formed marks.mark marks.closed _ _ x_in y_in p }

abbrev pub some_table : {n : ℕ} {t : Terminology} → Formed n t → InclusionTable n t
some_table formed = table_of formed (some_inclusions formed)

-- a node below ∃r.d
not_within : (y : Node) {r : ℕ} {d : Concept} → Within (concept_of y) (some r d) → ⊥
not_within everything w = elim w [ ]
not_within (named y) w = elim w [ ]

module _ {n : ℕ} {t : Terminology} (formed : Formed n t) (table : InclusionTable n t) where
  pub linked : {r : ℕ} {y : Node} {d : Concept} {b : Axiom} → IsNode n y → In t.axioms b → Link t table.says y r b → Derives t (concept_of (filler_of b)) d → Derives t (concept_of y) (some r d)
  linked y_in b_in link p = table.sound y_in (left_node formed b_in) link.above ▹ to_filler b_in (link_restricts link) ▹ under p

  pub links : {r : ℕ} {y : Node} {d : Concept} → IsNode n y → Derives t (concept_of y) (some r d) → Some t.axioms (λ b. Link t table.says y r b × Derives t (concept_of (filler_of b)) d)
  links {r} {y} {d} y_in p = let s = inversion p in by_edge s.to s.by_edge s.then
    where
      by_edge : (e : Concept) → Edge t r (concept_of y) e → Derives t e d → Some t.axioms (λ b. Link t table.says y r b × Derives t (concept_of (filler_of b)) d)
      by_edge e (written w u) p = absurd (not_within y w)
      by_edge e (implied {a = a} a_in restricts above) p = record {
        it = a;
        member = a_in;
        holds = (
          record { above = table.complete y_in (left_node formed a_in) above; is_restriction = restricts.is_restriction; role = restricts.role },
          rw restricts.filler p,
        );
      }
