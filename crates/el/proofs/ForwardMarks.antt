-- What lies above a node by one terminology and not above a node by another, over a signature.
--   LostAbove sig t u x y                       some signature concept lies above x by t and not above y by u
--   Forward sig t u in_t in_u f x y             a rule gives that from the marks f; in_t and in_u are the inclusions of t and u
--   ForwardMarks sig first_table second_table   marks that are right and closed under the rule; some_forward_marks: there are such
--   above_kept                                  where such marks leave x, y free, nothing that lies above x by t is lost for y by u
use mathlib.Core.Path.{◌≡◌, refl}
use mathlib.Core.Logic.{◌⊎◌, inl, inr}
use mathlib.Core.Bool.{true, false}
use mathlib.Core.List.{List, [], ◌∷◌}
use Prim.Native.Nat.{ℕ}
use Rattle.el.specs.Lists.{In, first, later, Every}
use Rattle.el.specs.Concepts.{Concept, top, name, both, some, Node, named, concept_of}
use Rattle.el.specs.Axioms.{Axiom, role_of, filler_of, Terminology}
use Rattle.el.specs.Derivability.{Derives, to_top, one, other, meet}
use Rattle.el.specs.Signatures.{Signature, is_over}
use Rattle.el.specs.Answers.{Test, below, roles_above, forward}
use Rattle.el.specs.Terminologies.{IsNode, name_node, NamesBelow, Comparable}
use Rattle.el.proofs.Lists.{each, Some, either}
use Rattle.el.proofs.Tests.{Tells, decided, tells_as, tells_true, tells_false, tells_and, tells_or, tells_if, tells_any, tells_all, and_left, and_right, and_both, which, not_both}
use Rattle.el.proofs.Roles.{in_above}
use Rattle.el.proofs.Derivations.{◌▹◌}
use Rattle.el.proofs.Nodes.{in_below, node_axis}
use Rattle.el.proofs.Saturation.{Closed, Keeps, Marks, saturated}
use Rattle.el.proofs.Classification.{Link, tells_link, InclusionTable, linked, links}

pub record LostAbove (sig : Signature) (t u : Terminology) (x y : Node) : Type 0 where
  pub it : Concept
  pub over : is_over sig it ≡ true
  pub by_first : Derives t (concept_of x) it
  pub not_second : Derives u (concept_of y) it → ⊥

-- a name; or ∃r over a concept above one filler of x and above no filler of y
pub data Forward (sig : Signature) (t u : Terminology) (in_t in_u f : Test Node Node) (x y : Node) : Type 0 where
  by_name : {b : ℕ} → sig.has_name b ≡ true → in_t x (named b) ≡ true → in_u y (named b) ≡ false → Forward sig t u in_t in_u f x y
  by_role : {a : Axiom} {r : ℕ} → In t.axioms a → Link t in_t x r a → sig.has_role r ≡ true → Every u.axioms (λ b. Link u in_u y r b → f (filler_of a) (filler_of b) ≡ true)
      → Forward sig t u in_t in_u f x y

abbrev pub ForwardMarks : {n : ℕ} (sig : Signature) {t u : Terminology} → InclusionTable n t → InclusionTable n u → Type 0
ForwardMarks {n} sig {t} {u} first_table second_table = Marks (IsNode n) (IsNode n) (LostAbove sig t u) (Forward sig t u first_table.says second_table.says)

link_decided : (t : Terminology) (m : Test Node Node) (x : Node) (r : ℕ) (b : Axiom) → Dec (Link t m x r b)
link_decided t m x r b = decided (tells_link t m x r b)

pub tells_forward : {n : ℕ} (sig : Signature) → NamesBelow n sig → (t u : Terminology) (in_t in_u f : Test Node Node) (x y : Node)
    → Tells (forward n sig t u in_t in_u f x y) (Forward sig t u in_t in_u f x y)
tells_forward {n} sig names_in t u in_t in_u f x y = tells_as there back (tells_or
    (tells_any _ (below n) (λ b h. tells_and (tells_true (sig.has_name b)) (λ _. tells_and (tells_true (in_t x (named b))) (λ _. tells_false (in_u y (named b))))))
    (tells_any _ t.axioms (λ a h. tells_any _ (roles_above t.roles (role_of a))
    (λ r i. tells_and (tells_link t in_t x r a)
    (λ _. tells_and (tells_true (sig.has_role r)) (λ _. tells_all _ u.axioms (λ b k. tells_if (tells_link u in_u y r b) (tells_true (f (filler_of a) (filler_of b))))))))))
  where
    Cases : Type 0
    Cases = Some (below n) (λ b. (sig.has_name b ≡ true) × ((in_t x (named b) ≡ true) × (in_u y (named b) ≡ false)))
        ⊎ Some t.axioms (λ a. Some (roles_above t.roles (role_of a))
        (λ r. Link t in_t x r a × ((sig.has_role r ≡ true) × Every u.axioms (λ b. Link u in_u y r b → f (filler_of a) (filler_of b) ≡ true))))

    there : Cases → Forward sig t u in_t in_u f x y
    there (inl s) = by_name s.holds.0 s.holds.1.0 s.holds.1.1
    there (inr s) = let r = s.holds in by_role s.member r.holds.0 r.holds.1.0 r.holds.1.1

    back : Forward sig t u in_t in_u f x y → Cases
    back (by_name {b = b} o h k) = inl (record { it = b; member = in_below n (names_in b o); holds = (o, (h, k)) })
    back (by_role {a = a} {r = r} h l o k) = inr (record { it = a; member = h; holds = record { it = r; member = in_above l.role; holds = (l, (o, k)) } })

-- a concept above x by t, and by u above no filler of the axioms bs that has L
record AboveNone (sig : Signature) (t u : Terminology) (x : Node) (L : Axiom → Type 0) (bs : List Axiom) : Type 0 where
  it : Concept
  over : is_over sig it ≡ true
  by_first : Derives t (concept_of x) it
  none : (b : Axiom) → In bs b → L b → Derives u (concept_of (filler_of b)) it → ⊥

above_none : (sig : Signature) (t u : Terminology) (x : Node) (L : Axiom → Type 0) → ((b : Axiom) → Dec (L b)) → (bs : List Axiom)
    → ((b : Axiom) → In bs b → L b → LostAbove sig t u x (filler_of b)) → AboveNone sig t u x L bs
above_none sig t u x L d [] f = record { it = top; over = refl; by_first = to_top; none = λ b h. elim h [ ] }
above_none sig t u x L d (b ∷ bs) f = with_head (d b) (above_none sig t u x L d bs (λ c h. f c (later h)))
  where
    with_head : Dec (L b) → AboveNone sig t u x L bs → AboveNone sig t u x L (b ∷ bs)
    with_head (yes l) r = let a = f b first l in record {
      it = both a.it r.it;
      over = and_both a.over r.over;
      by_first = meet a.by_first r.by_first;
      none = each (λ c. L c → Derives u (concept_of (filler_of c)) (both a.it r.it) → ⊥) (λ l p. a.not_second (p ▹ one)) (λ c h l p. r.none c h l (p ▹ other));
    }
    with_head (no k) r = record { it = r.it; over = r.over; by_first = r.by_first; none = each (λ c. L c → Derives u (concept_of (filler_of c)) r.it → ⊥) (λ l. absurd (k l)) r.none }

module _ {n : ℕ} {sig : Signature} {t u : Terminology} (given : Comparable n sig t u) (first_table : InclusionTable n t) (second_table : InclusionTable n u) where
  abbrev in_t : Test Node Node
  in_t = first_table.says

  abbrev in_u : Test Node Node
  in_u = second_table.says

  pub forward_sound : Keeps (IsNode n) (IsNode n) (LostAbove sig t u) (Forward sig t u in_t in_u)
  forward_sound f good x y x_in y_in (by_name {b = b} over above_x not_above_y) = record {
    it = name b;
    over = over;
    by_first = first_table.sound x_in (name_node (given.names_in b over)) above_x;
    not_second = λ p. not_both (second_table.complete y_in (name_node (given.names_in b over)) p) not_above_y;
  }
  forward_sound f good x y x_in y_in (by_role {a = a} {r = r} a_in link over all_marked) =
      let c = above_none sig t u (filler_of a) (Link u in_u y r) (link_decided u in_u y r) u.axioms
      (λ b b_in l. good (filler_of a) (filler_of b) (given.first_formed.filler_in a_in) (given.second_formed.filler_in b_in) (all_marked.at b b_in l)) in
      record {
        it = some r c.it;
        over = and_both over c.over;
        by_first = linked given.first_formed first_table x_in a_in link c.by_first;
        not_second = λ p. let s = links given.second_formed second_table y_in p in c.none s.it s.member s.holds.0 s.holds.1;
      }

  abbrev pub some_forward_marks : ForwardMarks sig first_table second_table
  some_forward_marks = saturated (node_axis n) (node_axis n) (LostAbove sig t u) (Forward sig t u in_t in_u) (forward n sig t u in_t in_u)
      (tells_forward sig given.names_in t u in_t in_u) forward_sound

  -- for any closed marks
  module _ (f : Test Node Node) (closed : Closed (IsNode n) (IsNode n) (Forward sig t u in_t in_u) f) where
    -- b is a link of y whose filler leaves that of a free; or, if b is a link, the two are marked
    free_or_marked : (y : Node) (r : ℕ) (a b : Axiom) → (Link u in_u y r b × (f (filler_of a) (filler_of b) ≡ false)) ⊎ (Link u in_u y r b → f (filler_of a) (filler_of b) ≡ true)
    free_or_marked y r a b = elim (which (f (filler_of a) (filler_of b))) [
      | inl marked ↦ inr (λ link. marked)
      | inr free ↦ elim (link_decided u in_u y r b) [ yes link ↦ inl (link, free) | no none ↦ inr (λ link. absurd (none link)) ]
    ]

    pub above_kept : (d : Concept) → is_over sig d ≡ true → (x y : Node) → IsNode n x → IsNode n y → f x y ≡ false → Derives t (concept_of x) d → Derives u (concept_of y) d
    above_kept top over x y x_in y_in free p = to_top
    above_kept (name b) over x y x_in y_in free p =
        let b_in : IsNode n (named b) = name_node (given.names_in b over) in
        elim (which (in_u y (named b))) [
          | inl h ↦ second_table.sound y_in b_in h
          | inr h ↦ absurd (not_both (closed x y x_in y_in (by_name over (first_table.complete x_in b_in p) h)) free)
        ]
    above_kept (both c d) over x y x_in y_in free p = meet (above_kept c (and_left (is_over sig c) _ over) x y x_in y_in free (p ▹ one))
        (above_kept d (and_right (is_over sig c) _ over) x y x_in y_in free (p ▹ other))
    above_kept (some r d) over x y x_in y_in free p =
        let s = links given.first_formed first_table x_in p in
        let a = s.it in
        elim (either (free_or_marked y r a) u.axioms) [
          | inl w ↦ linked given.second_formed second_table y_in w.member w.holds.0
              (above_kept d (and_right (sig.has_role r) _ over) (filler_of a) (filler_of w.it) (given.first_formed.filler_in s.member) (given.second_formed.filler_in w.member)
              w.holds.1 s.holds.1)
          | inr all_marked ↦ absurd (not_both (closed x y x_in y_in (by_role s.member s.holds.0 (and_left (sig.has_role r) _ over) (record { at = all_marked }))) free)
        ]
