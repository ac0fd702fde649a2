-- The rules over the table are the rules over the axioms.
--   step_includes        a step is a rule of Includes, by the marks as a test, or goes through a node: so steps are sound
--   rows_closed          where no row has anything left to mark, the test is closed under Includes: so it is complete
use mathlib.Core.Path.{◌≡◌, refl, sym, ap, ◌∙◌}
use mathlib.Core.Bool.{true}
use mathlib.Core.List.{List}
use mathlib.Core.Logic.{◌⊎◌, inl, inr}
use Prim.Native.Nat.{ℕ, suc, ◌≤◌, ◌<◌}
use native.Mathlib.Omega.{arith}
use Rattle.el.specs.Concepts.{Node, named}
use Rattle.el.specs.Axioms.{role_of, filler_of}
use Rattle.el.specs.Derivability.{same_role}
use Rattle.el.specs.Derivability.{through as through_roles}
use Rattle.el.specs.Terminologies.{IsNode}
use Rattle.el.proofs.Derivations.{has_part}
use Rattle.el.proofs.Derivations as el
use Rattle.el.proofs.Classification.{Link, Includes, the_same, to_everything, by_part, by_parts, by_filler}
use Rattle.release.specs.Files.{names_of, content_of}
use Rattle.release.specs.Tables.{count_at, part_at, Release}
use Rattle.release.specs.Entries.{node_number}
use Rattle.release.proofs.Linked.{tells_serves_at}
use Rattle.release.specs.declared.table.Table.{Table}
use Rattle.marks.specs.declared.Square.{Square}
use Rattle.marks.specs.Squares.{Marked}
use Rattle.marks.specs.Passes.{Below}
use Rattle.classification.specs.Inclusions.{node_at, says}
use Rattle.classification.specs.Steps.{PartMarked, Gathers, Fills, Step, to_itself, to_top, to_part, to_gathered, to_filled, through, Row}
use Rattle.classification.proofs.Nodes.{at_top, at_name, number_at, number_small, said, marked}
use Rattle.classification.proofs.AxiomRows.{is_conjunctive, is_restriction, conjunction_joins, restriction_restricts, defined_conjunction, defined_restriction, is_2, is_4}
use Rattle.classification.proofs.AxiomRows.{role_is, name_is, filler_is, part_in, part_at_lem, formed, own, find, joined, restricted}

-- by a node between
pub record Through (q : Square) (w : List ℕ) (x y : ℕ) : Type 0 where
  pub it : ℕ
  pub inside : it ≤ q.names
  pub first : Marked q w x it
  pub second : Marked q w it y

-- a step is a rule, or goes through a node
module _ {s : List ℕ} {t : Table} {q : Square} (r : Release s t) (names : q.names ≡ names_of s) where
  module _ {w : List ℕ} {x y : ℕ} (h : x ≤ q.names) (l : y ≤ q.names) where
    pub step_includes : Step s t q w x y → Includes (content_of s) (says q w) (node_at q.names x) (node_at q.names y) ⊎ Through q w x y
    step_includes (to_itself e) = inl (the_same (ap (node_at q.names) (sym e)))
    step_includes (to_top e) = inl (to_everything (at_top q.names y e))
    step_includes (to_part b i bn j m c e) =
        let f = joined r names b bn j in
        let p = part_in f (is_conjunctive f j) i c in
        let yn : y < q.names = rw e ((formed r names).parts_in f.member p) in
        inl (by_part f.member (said (node_at q.names x) (named f.it.left) (number_at q.names x h) f.left m) p (ap named (sym e) ∙ sym (at_name q.names y yn)))
    step_includes (to_gathered yn g) =
        let f = find r names y yn (λ z. omega (arith, g.kind)) in
        let k = defined_conjunction f g.kind in
        inl (by_parts f.member (name_is f yn) (record { is_defined = k.1; is_conjunctive = k.0 })
        (record {
          at = λ z i. let p = part_at_lem f k.0 i in said (node_at q.names x) (named z) (number_at q.names x h) refl
              (rw p.is at (g.parts.at p.at p.inside).is);
        }))
    step_includes (to_filled b bn j m yn g) =
        let f = find r names y yn (λ z. omega (arith, g.kind)) in
        let k = defined_restriction f g.kind in
        let c = restricted r names b bn j in
        let i = is_restriction c j in
        let fills : el.Fills (content_of s) (role_of c.it) f.it = record
        { is_defined = k.1; is_restriction = k.0; role = (tells_serves_at r (role_of c.it) (role_of f.it)).sound (rw (← role_is c i, ← role_is f k.0) g.role) } in
        let link : Link (content_of s) (says q w) (node_at q.names x) (role_of c.it) c.it = record
        { above = said (node_at q.names x) (named c.it.left) (number_at q.names x h) c.left m; is_restriction = i; role = same_role } in
        inl (by_filler f.member (name_is f yn) fills c.member link (said (filler_of c.it) (filler_of f.it) (filler_is c i) (filler_is f k.0) g.filler))
    step_includes (through c cn m k) = inr (record { it = c; inside = cn; first = m; second = k })

  -- and rows with nothing left to mark are closed
  module _ {v : List ℕ} (rows : Below (Row s t q) (suc q.names) v) (a b : Node) (i : IsNode q.names a) where
    row_of : Row s t q (node_number q.names a) v
    row_of = rows.at (node_number q.names a) (omega (arith, number_small q.names a i))

    pub rows_closed : Includes (content_of s) (says q v) a b → says q v a b ≡ true
    rows_closed (the_same e) = said a b refl (ap (node_number q.names) (sym e)) row_of.seeded.itself
    rows_closed (to_everything e) = said a b refl (ap (node_number q.names) e) row_of.seeded.top
    rows_closed (by_part {a = p} {z = z} k m j e) =
        let f = own r names k in
        let c = has_part p j in
        let o = part_at_lem f c j in
        let d = (row_of.looked.at p.left ((formed r names).left_in k)).spread.parts (conjunction_joins f c) (marked a (named p.left) refl refl m) in
        said a b refl (ap (node_number q.names) (sym e)) (rw o.is at (d.at o.at o.inside).is)
    rows_closed (by_parts {a = p} k e j every) =
        let f = own r names k in
        let parts : Below (PartMarked s t q (node_number q.names a) p.left) (count_at s t p.left) v = record
        { at = λ z l. record { is = marked a (named (part_at s t p.left z)) refl refl (every.at (part_at s t p.left z) (part_in f j.is_conjunctive z l)) } } in
        let g : Gathers s t q (node_number q.names a) p.left v = record { kind = is_2 f j.is_conjunctive j.is_defined; parts = parts } in
        said a b refl (ap (node_number q.names) (sym e)) ((row_of.looked.at p.left ((formed r names).left_in k)).gathered g)
    rows_closed (by_filler {a = p} {b = c} k e j l link m) =
        let f = own r names k in
        let o = own r names l in
        let g : Fills t q c.left p.left v = record {
          kind = is_4 f j.is_restriction j.is_defined;
          role = rw (role_is o link.is_restriction, role_is f j.is_restriction) ((tells_serves_at r _ _).complete (through_roles link.role j.role));
          filler = marked (filler_of c) (filler_of p) (filler_is o link.is_restriction) (filler_is f j.is_restriction) m;
        } in
        let d = (row_of.looked.at c.left ((formed r names).left_in l)).spread.fillers (restriction_restricts o link.is_restriction) (marked a (named c.left) refl refl link.above) in
        said a b refl (ap (node_number q.names) (sym e)) ((d.at p.left ((formed r names).left_in k)).marked g)
