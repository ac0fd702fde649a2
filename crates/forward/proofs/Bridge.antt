-- The rules over the tables are the rule Forward over the axioms.
--   own_forward       what a node loses by itself is lost by the rule, by the squares as tests on nodes
--   rows_closed       where no row has anything left to mark, the test is closed under the rule
use mathlib.Core.Path.{◌≡◌, refl, sym, ◌∙◌}
use mathlib.Core.Bool.{true, false}
use mathlib.Core.List.{List}
use mathlib.Core.Logic.{inl, inr}
use Prim.Native.Nat.{ℕ, suc, ◌≤◌, ◌<◌}
use native.Mathlib.Omega.{arith}
use Rattle.el.specs.Lists.{In}
use Rattle.el.specs.Concepts.{Node, named}
use Rattle.el.specs.Axioms.{Axiom, is_conjunction, role_of, filler_of}
use Rattle.el.specs.Terminologies.{IsNode}
use Rattle.el.specs.Derivability.{Under}
use Rattle.el.proofs.Tests.{which, not_both}
use Rattle.el.proofs.Classification.{Link, link_wider}
use Rattle.el.proofs.ForwardMarks.{Forward}
use Rattle.el.proofs.ForwardMarks as el
use Rattle.release.specs.Files.{axioms_of, content_of, most_roles}
use Rattle.release.proofs.Linked.{tells_serves_at, role_small}
use Rattle.release.specs.Tables.{role_at, filler_at, serves_at}
use Rattle.release.specs.Entries.{node_number}
use Rattle.marks.specs.Squares.{Marked}
use Rattle.marks.specs.Passes.{Below}
use Rattle.classification.specs.Inclusions.{node_at, says}
use Rattle.classification.proofs.Nodes.{number_at, number_small, said, marked}
use Rattle.classification.proofs.AxiomRows.{Found, is_restriction, restriction_restricts, role_is, filler_is, formed, own, restricted}
use Rattle.layout.specs.declared.Layout.{Layout}
use Rattle.layout.specs.declared.Given.{Given}
use Rattle.layout.specs.declared.edges.Position.TheVariants.{Above}
use Rattle.layout.specs.Layouts.{first_square, second_square, mark_square, chosen}
use Rattle.layout.specs.Searches.{SomeBelow}
use Rattle.layout.specs.Findings.{EdgeChosen, Handed}
use Rattle.layout.specs.Comparing.{Comparing}
use Rattle.layout.proofs.Findings.{name_handed}
use Rattle.layout.proofs.Comparing.{chosen_below}
use Rattle.forward.specs.Rules.{Partner, Own, by_name, by_edge, Row}

module _ {g s t : List ℕ} {given : Given} {w : List ℕ} (handed : Handed Above g given) (c : Comparing s t given w) (v : List ℕ) where
  abbrev l : Layout
  l = given.layout

  abbrev n : ℕ
  n = l.names

  abbrev Rule : Node → Node → Type 0
  Rule x y = Forward (chosen l g) (content_of s) (content_of t) (says (first_square l) v) (says (second_square l) v) (says (mark_square l) v) x y

  not_said : {x y : ℕ} (p q : Node) → node_number n p ≡ x → node_number n q ≡ y → (Marked (second_square l) v x y → ⊥) → says (second_square l) v p q ≡ false
  not_said p q e f k = elim (which (says (second_square l) v p q)) [ inl z ↦ absurd (k (marked p q e f z)) | inr z ↦ z ]

  -- what is lost by itself is lost by the rule
  module _ {x y : ℕ} (x_in : x ≤ n) (y_in : y ≤ n) where
    all_marked : {e r : ℕ} (f : Found s given.first.table.now n e) → is_conjunction f.it ≡ false
        → (SomeBelow (Partner given v (filler_at given.first.table.now e) y r) n → ⊥) → (o : Axiom) → In (axioms_of t) o
        → Link (content_of t) (says (second_square l) v) (node_at n y) r o → says (mark_square l) v (filler_of f.it) (filler_of o) ≡ true
    all_marked {e} f i none o o_in link =
        let p = own c.second_release c.second_names o_in in
        elim (which (says (mark_square l) v (filler_of f.it) (filler_of o))) [
          | inl z ↦ z
          | inr z ↦ absurd (none (record {
            it = o.left;
            below = (formed c.second_release c.second_names).left_in o_in;
            holds = record {
              serves = record {
                is_restriction = restriction_restricts p link.is_restriction;
                role = rw (role_is p link.is_restriction) ((tells_serves_at c.second_release _ _).complete link.role);
                free = λ m. not_both (said (filler_of f.it) (filler_of o) (filler_is f i) (filler_is p link.is_restriction) m) z;
              };
              second = marked (node_at n y) (named o.left) (number_at n y y_in) refl link.above;
            };
          }))
        ]

    -- x lies above itself
    pub own_forward : Marked (first_square l) v x x → Own given v x y → Rule (node_at n x) (node_at n y)
    own_forward itself (by_name p) = el.by_name (sym (name_handed handed x) ∙ p.chosen_name) (said (node_at n x) (named x) (number_at n x x_in) refl itself)
        (not_said (node_at n y) (named x) (number_at n y y_in) refl p.not_second)
    own_forward itself (by_edge e) =
        let name = e.lost.edge.is_name in
        let edge = handed.found.sound x e.role name e.lost.edge.with_role in
        let f = restricted c.first_release c.first_names x name edge.is_restriction in
        let i = is_restriction f edge.is_restriction in
        let under : Under (content_of s).roles (role_of f.it) e.role = rw (role_is f i) at ((tells_serves_at c.first_release (role_at given.first.table.now x) e.role).sound edge.role.lies) in
        let link : Link (content_of s) (says (first_square l) v) (node_at n x) e.role f.it = record
        { above = said (node_at n x) (named f.it.left) (number_at n x x_in) f.left itself; is_restriction = i; role = under } in
        el.by_role f.member link edge.role.in_signature (record { at = all_marked f i e.lost.no_partner })

  -- and rows with nothing left to mark are closed
  module _ (rows : Below (Row given) (suc n) v) (x y : Node) (x_in : IsNode n x) (y_in : IsNode n y) where
    marked_by : {d : ℕ} → d < n → says (first_square l) v x (named d) ≡ true → Own given v d (node_number n y) → says (mark_square l) v x y ≡ true
    marked_by {d} d_in above own =
        let lost = ((rows.at d (omega arith)).cells.at (node_number n y) (omega (arith, number_small n y y_in))).marked own in
        said x y refl refl ((((rows.at (node_number n x) (omega (arith, number_small n x x_in))).above.at d (omega arith)).within (marked x (named d) refl refl above)).marked
        (node_number n y) (number_small n y y_in) lost)

    -- what is a partner for a role is one for the roles that it serves for
    no_partner : {e q r : ℕ} (f : Found s given.first.table.now n e) → is_conjunction f.it ≡ false → serves_at given.second.table.now q r ≡ true
        → ((d : Axiom) → In (axioms_of t) d → Link (content_of t) (says (second_square l) v) y r d → says (mark_square l) v (filler_of f.it) (filler_of d) ≡ true)
        → SomeBelow (Partner given v (filler_at given.first.table.now e) (node_number n y) q) n → ⊥
    no_partner {e} {q} {r} f k serves every p =
        let found = p.holds in
        let d = restricted c.second_release c.second_names p.it p.below found.serves.is_restriction in
        let i = is_restriction d found.serves.is_restriction in
        let under : Under (content_of t).roles (role_of d.it) q = rw (role_is d i) at ((tells_serves_at c.second_release (role_at given.second.table.now p.it) q).sound found.serves.role) in
        let link : Link (content_of t) (says (second_square l) v) y q d.it = record { above = said y (named d.it.left) refl d.left found.second; is_restriction = i; role = under } in
        let wider = link_wider ((tells_serves_at c.second_release q r).sound serves) link in
        found.serves.free (marked (filler_of f.it) (filler_of d.it) (filler_is f k) (filler_is d i) (every d.it d.member wider))

    pub rows_closed : Rule x y → says (mark_square l) v x y ≡ true
    rows_closed (el.by_name {b = d} over above not_above) = marked_by (chosen_below l g d over) above
        (by_name (record { is_name = chosen_below l g d over; chosen_name = name_handed handed d ∙ over; not_second = λ m. not_both (said y (named d) refl refl m) not_above }))
    rows_closed (el.by_role {a = o} {r = r} o_in link over every) =
        let f = own c.first_release c.first_names o_in in
        let k = link.is_restriction in
        let o_name = (formed c.first_release c.first_names).left_in o_in in
        let small : role_at given.first.table.now o.left < most_roles = rw (role_is f k) (role_small s c.first_release.accepted o_in k) in
        let lies : serves_at given.first.table.now (role_at given.first.table.now o.left) r ≡ true = rw (role_is f k) ((tells_serves_at c.first_release (role_of o) r).complete link.role) in
        let edge : EdgeChosen Above g given.first.table.now n l.roles o.left r = record
        { is_restriction = restriction_restricts f k; small = small; role = record { in_signature = over; lies = lies } } in
        let standing = handed.found.complete t c.second_release o.left r o_name edge in
        marked_by o_name link.above (by_edge (record {
          role = standing.role;
          lost = record {
            edge = record { is_name = o_name; with_role = standing.has };
            no_partner = no_partner f k standing.stands every.at;
          };
        }))
