-- Where nothing is left to take, the pair of a reported name is lost.
--   world_table       the inclusions of a release as a table of el
--   edge_opened       what is found of a name with an edge
--   left_lost         a left witness: its own byte is not 1
use mathlib.Core.Path.{◌≡◌, refl, ◌∙◌}
use mathlib.Core.Bool.{true, not}
use mathlib.Core.List.{List}
use Prim.Native.Nat.{ℕ, ◌<◌}
use borrow.Author.Tests.{eqb-true, eq-eqb}
use lib.Dec.{eqb}
use lib.ListN.{get_or}
use Rattle.el.specs.Lists.{In}
use Rattle.el.specs.Concepts.{Node, named}
use Rattle.el.specs.Axioms.{Axiom, filler_of}
use Rattle.el.specs.Derivability.{through}
use Rattle.el.specs.Signatures.{LeftWitness}
use Rattle.el.specs.Answers.{Test}
use Rattle.el.proofs.Lists.{Some}
use Rattle.el.proofs.Tests.{tells_false, not_both}
use Rattle.el.specs.Terminologies.{IsNode, Comparable}
use Rattle.el.proofs.Classification.{Link, InclusionTable}
use Rattle.concept_rows.proofs.LeftRows.{Quiet, quiet_closed, left_found}
use Rattle.release.specs.Files.{axioms_of, content_of}
use Rattle.release.specs.Tables.{role_at}
use Rattle.release.proofs.Linked.{tells_serves_at, role_small}
use Rattle.release.specs.Entries.{node_number}
use Rattle.release.specs.declared.table.Table.{Table}
use Rattle.marks.specs.declared.Square.{Square}
use Rattle.classification.specs.Inclusions.{says}
use Rattle.classification.proofs.Nodes.{said, marked, at_number, number_small}
use Rattle.classification.proofs.AxiomRows as rows
use Rattle.layout.specs.declared.Given.{Given}
use Rattle.layout.specs.Layouts.{first_square, second_square, chosen}
use Rattle.layout.specs.declared.edges.Position.TheVariants.{Above}
use Rattle.layout.specs.Findings.{Handed}
use Rattle.layout.proofs.Findings.{name_handed}
use Rattle.row_evaluation.specs.Cells.{cell, Holds}
use Rattle.row_evaluation.specs.Worlds.{World}
use Rattle.row_evaluation.proofs.Worlds.{axiom_row}
use Rattle.witness_above.specs.Left.{FirstWorld, SecondWorld, Edge, RoleOpened}
use Rattle.witness_above.specs.Passes.{Chosen, NameQuiet, EdgeQuiet}

abbrev pub world_table : {s : List ℕ} {t : Table} {q : Square} {w : List ℕ} → World s t q w → InclusionTable q.names (content_of s)
world_table {q = q} {w = w} world = record {
  says = says q w;
  sound = λ {x} {y} x_in y_in h. rw (at_number q.names x x_in, at_number q.names y y_in) at (world.inclusions.sound (node_number q.names x) (node_number q.names y)
      (number_small q.names x x_in) (number_small q.names y y_in) (marked x y refl refl h));
  complete = λ {x} {y} x_in y_in p. said x y refl refl (world.inclusions.complete (node_number q.names x) (node_number q.names y) (number_small q.names x x_in)
      (number_small q.names y y_in) (rw (at_number q.names x x_in, at_number q.names y y_in) p));
}

pub edge_opened : {G : Given} {g : List ℕ} {x r : ℕ} → Handed Above g G → Edge G x r → RoleOpened G (chosen G.layout g) x r
edge_opened {x = x} {r = r} handed edge =
    let found = handed.found.sound x r edge.is_name edge.with_role in
    record { chosen = found.role.in_signature; serves = found.role.lies }

abbrev kept : ℕ → ℕ → List ℕ → Test Node Node
kept n base v x y = eqb (get_or v (cell base n (node_number n x) (node_number n y)) 0) 1

module _ {G : Given} {g s t v : List ℕ} (one : FirstWorld s G v) (two : SecondWorld t G v) (handed : Handed Above g G)
    (given : Comparable G.layout.names (chosen G.layout g) (content_of s) (content_of t))
    (names_quiet : (x : ℕ) → x < G.layout.names → Chosen G x → NameQuiet G v x)
    (edges_quiet : (x r : ℕ) → Edge G x r → EdgeQuiet G v x r) where
  by_role : {c : Axiom} {r : ℕ} {x y : Node} → In (axioms_of s) c → Link (content_of s) (says (first_square G.layout) v) x r c → (chosen G.layout g).has_role r ≡ true
      → IsNode G.layout.names x → IsNode G.layout.names y → kept G.layout.names G.layout.marks v x y ≡ true
      → Some (axioms_of t) (λ d. Link (content_of t) (says (second_square G.layout) v) y r d × (kept G.layout.names G.layout.marks v (filler_of c) (filler_of d) ≡ true))
  by_role {c} {r} {x} {y} c_in link link_chosen x_in y_in h =
      let f : rows.Found s G.first.table.now G.layout.names c.left = axiom_row one c_in in
      let left_in : c.left < G.layout.names = (rows.formed one.release one.names).left_in c_in in
      let is_restriction = link.is_restriction in
      let kind = rows.restriction_restricts f is_restriction in
      -- an edge with a role under r by the second release stands for that with r
      let standing = handed.found.complete t two.release c.left r left_in (record {
        is_restriction = kind;
        small = rw (rows.role_is f is_restriction) (role_small s one.release.accepted c_in is_restriction);
        role = record {
          in_signature = link_chosen;
          lies = (tells_serves_at one.release (role_at G.first.table.now c.left) r).complete (rw (rows.role_is f is_restriction) link.role);
        };
      }) in
      let there : Edge G c.left standing.role = record { is_name = left_in; with_role = standing.has } in
      let reaches = (edges_quiet c.left standing.role there).lined (node_number G.layout.names x) (node_number G.layout.names y) (number_small G.layout.names x x_in)
      (number_small G.layout.names y y_in) (marked x (named c.left) refl refl link.above) (record { is = eqb-true _ 1 h }) in
      let d = rows.restricted two.release two.names reaches.by reaches.is_name reaches.successor.is_restriction in
      let d_restriction = rows.is_restriction d reaches.successor.is_restriction in
      let byte : get_or v (cell G.layout.marks G.layout.names (node_number G.layout.names (filler_of c)) (node_number G.layout.names (filler_of d.it)))
      0 ≡ 1 = rw (rows.filler_is f is_restriction, rows.filler_is d d_restriction) reaches.successor.below.is in
      record {
        it = d.it;
        member = d.member;
        holds = (
          record {
            above = rw d.left (said y (named reaches.by) refl refl reaches.above);
            is_restriction = d_restriction;
            role = through (rw (rows.role_is d d_restriction) at ((tells_serves_at two.release (role_at G.second.table.now reaches.by) standing.role).sound reaches.successor.role))
                ((tells_serves_at two.release standing.role r).sound standing.stands);
          },
          eq-eqb _ 1 byte,
        );
      }

  pub left_lost : {x : ℕ} → x < G.layout.names → LeftWitness (chosen G.layout g) (content_of s) (content_of t) x → Holds v G.layout.marks G.layout.names x x → ⊥
  left_lost {x} x_in witness held =
      let quiet : Quiet given (world_table one) (world_table two) (kept G.layout.names G.layout.marks v) = record {
        by_name = λ {b = c} {x = z} {y} is_chosen z_in y_in above h. said y (named c) refl refl
            ((names_quiet c (given.names_in c is_chosen) (name_handed handed c ∙ is_chosen)).lined (node_number G.layout.names z) (node_number G.layout.names y)
            (number_small G.layout.names z z_in) (number_small G.layout.names y y_in) (marked z (named c) refl refl above) (record { is = eqb-true _ 1 h }));
        by_role = λ {a = c} {r} {x = z} {y} c_in link is_chosen z_in y_in h. by_role c_in link is_chosen z_in y_in h;
      } in
      let found = left_found given (world_table one) (world_table two) (λ x y. not (kept G.layout.names G.layout.marks v x y))
      (quiet_closed given (world_table one) (world_table two) (kept G.layout.names G.layout.marks v) quiet) x_in witness in
      not_both (eq-eqb _ 1 held.is) ((tells_false (kept G.layout.names G.layout.marks v (named x) (named x))).sound found)
