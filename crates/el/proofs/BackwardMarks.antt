-- What lies below a node by one terminology and not below a node by another, over a signature.
--   Below t c y                                  c lies below the column y; below nothing, no concept does
--   LostBelow sig t u x y                        some signature concept lies below x by t and not below y by u
--   partner_is, partner_below, below_partner     for a plain y, ∃r.c lies below y exactly if c lies below partner u r y
--   Backward sig t u in_t in_u f x y             a rule gives LostBelow from the marks f; in_t and in_u are the inclusions of t and u
--   BackwardMarks sig first_table second_table   marks that are right and closed under the rule; some_backward_marks: there are such
--   below_kept                                   where such marks leave x, y free, nothing that lies below x by t is lost for y by u
use mathlib.Core.Path.{◌≡◌, refl, ap}
use mathlib.Core.Logic.{◌⊎◌, inl, inr}
use mathlib.Core.Bool.{Bool, true, false, ◌&&◌, false≢true}
use mathlib.Core.List.{List, [], ◌∷◌}
use Prim.Native.Nat.{ℕ}
use Rattle.el.specs.Lists.{In, first, later, pick, Every}
use Rattle.el.specs.Concepts.{Concept, top, name, both, some, Node, everything, named, concept_of}
use Rattle.el.specs.Axioms.{Axiom, parts_of, role_of, filler_of, Terminology}
use Rattle.el.specs.Derivability.{Derives, to_top, one, other}
use Rattle.el.specs.Signatures.{Signature, is_over}
use Rattle.el.specs.Answers.{Test, below, Column, nothing, node, same_column, roles_under, is_fill, is_plain_column, name_under, partner_in, partner, backward}
use Rattle.el.specs.Terminologies.{Joins, Normalised, IsNode, name_node, Formed, NamesBelow, Comparable}
use Rattle.el.proofs.Lists.{each, Some, either}
use Rattle.el.proofs.Tests.{Tells, tells_as, tells_true, tells_false, tells_and, tells_or, tells_any, tells_all, never, always, and_left, and_right, and_both, which, which_not, not_both}
use Rattle.el.proofs.Roles.{in_under}
use Rattle.el.proofs.Derivations.{◌▹◌, Fills}
use Rattle.el.proofs.Nodes.{IsColumn, no_column, node_column, in_below, tells_node, tells_column, node_axis, column_axis}
use Rattle.el.proofs.Saturation.{Closed, Keeps, Marks, saturated}
use Rattle.el.proofs.Classification.{tells_joins, tells_fills, InclusionTable, part_node}
use Rattle.el.proofs.PlainNodes.{Plain, tells_plain, is_everything, is_joined, is_plain_lem, kind, to_part_of, from_parts_of, from_filler_of, FilledBy, part_plain}
use Rattle.el.proofs.PlainNodes.{top_below_plain, both_below_plain, some_below_plain}

abbrev pub Below : Terminology → Concept → Column → Type 0
Below t c nothing = ⊥
Below t c (node y) = Derives t c (concept_of y)

pub record LostBelow (sig : Signature) (t u : Terminology) (x : Node) (y : Column) : Type 0 where
  pub it : Concept
  pub over : is_over sig it ≡ true
  pub by_first : Derives t it (concept_of x)
  pub not_second : Below u it y → ⊥

pub data PlainColumn (t : Terminology) : Column → Type 0 where
  plain_nothing : PlainColumn t nothing
  plain_node : {y : Node} → Plain t y → PlainColumn t (node y)

-- y a conjunction by u: lost below a part of it. Else, x ⊤: ⊤ itself; x a conjunction by t: lost for each part; else by a
-- name, or by ∃r over what is lost below y's partner
pub data Backward (sig : Signature) (t u : Terminology) (in_t in_u : Test Node Node) (f : Test Node Column) (x : Node) (y : Column) : Type 0 where
  of_part : {b : Axiom} {z : ℕ} → In u.axioms b → node (named b.left) ≡ y → Joins b → In (parts_of b) z → f x (node (named z)) ≡ true → Backward sig t u in_t in_u f x y
  of_everything : PlainColumn u y → x ≡ everything → Backward sig t u in_t in_u f x y
  of_parts : {a : Axiom} → PlainColumn u y → In t.axioms a → named a.left ≡ x → Joins a → Every (parts_of a) (λ z. f (named z) y ≡ true) → Backward sig t u in_t in_u f x y
  of_name : {b : ℕ} → PlainColumn u y → Plain t x → sig.has_name b ≡ true → in_t (named b) x ≡ true → name_under in_u b y ≡ false → Backward sig t u in_t in_u f x y
  of_role : {a : Axiom} {r : ℕ} → PlainColumn u y → Plain t x → In t.axioms a → named a.left ≡ x → Fills t r a → sig.has_role r ≡ true → f (filler_of a) (partner u r y) ≡ true
      → Backward sig t u in_t in_u f x y

abbrev pub BackwardMarks : {n : ℕ} (sig : Signature) {t u : Terminology} → InclusionTable n t → InclusionTable n u → Type 0
BackwardMarks {n} sig {t} {u} first_table second_table = Marks (IsNode n) (IsColumn n) (LostBelow sig t u) (Backward sig t u first_table.says second_table.says)

-- the partner of a column: the filler of an axiom among al that fills it, else nothing
pub data PartnerAmong (t : Terminology) (al : List Axiom) (r : ℕ) (y p : Column) : Type 0 where
  filler : {b : Axiom} → In al b → node (named b.left) ≡ y → Fills t r b → p ≡ node (filler_of b) → PartnerAmong t al r y p
  none : ((b : Axiom) → In al b → node (named b.left) ≡ y → Fills t r b → ⊥) → p ≡ nothing → PartnerAmong t al r y p

partner_among : (t : Terminology) (al : List Axiom) (r : ℕ) (y : Column) → PartnerAmong t al r y (partner_in t al r y)
partner_among t [] r y = none (λ b h e f. elim h [ ]) refl
partner_among t (b ∷ bs) r y = by_test (same_column (node (named b.left)) y && is_fill t r b) (tells_and (tells_column (node (named b.left)) y) (λ _. tells_fills t r b)) (partner_among t bs r y)
  where
    by_test : (v : Bool) → Tells v ((node (named b.left) ≡ y) × Fills t r b) → PartnerAmong t bs r y (partner_in t bs r y)
        → PartnerAmong t (b ∷ bs) r y (pick v (node (filler_of b)) (partner_in t bs r y))
    by_test true s q = let w = s.sound refl in filler first w.0 w.1 refl
    by_test false s (filler h e f q) = filler (later h) e f q
    by_test false s (none k q) = none (each (λ c. node (named c.left) ≡ y → Fills t r c → ⊥) (λ e f. false≢true (s.complete (e, f))) k) q

abbrev pub Partner : Terminology → ℕ → Column → Column → Type 0
Partner t r y p = PartnerAmong t t.axioms r y p

pub partner_is : (t : Terminology) (r : ℕ) (y : Column) → Partner t r y (partner t r y)
partner_is t r y = partner_among t t.axioms r y

module _ (t : Terminology) (r : ℕ) (c : Concept) where
  pub partner_below : (y : Column) → Below t c (partner t r y) → Below t (some r c) y
  partner_below y p = elim (partner_is t r y) [
    | filler h e f q ↦ rw (← e) (from_filler_of h refl f (rw q at p))
    | none k q ↦ absurd (rw q at p)
  ]

  pub below_partner : Normalised t → (y : Column) → PlainColumn t y → Below t (some r c) y → Below t c (partner t r y)
  below_partner terms nothing plain_nothing p = absurd p
  below_partner terms (node z) (plain_node k) p = by_partner ((some_below_plain terms k).0 p) (partner_is t r (node z))
    where
      by_partner : Some t.axioms (FilledBy t r c z) → Partner t r (node z) (partner t r (node z)) → Below t c (partner t r (node z))
      by_partner s (none k q) = absurd (k s.it s.member (ap node s.holds.0) s.holds.1.0)
      by_partner s (filler {b = b} h e f q) =
          let same_axiom : s.it ≡ b = terms.one_axiom s.member h (cc) in
          rw (q, ← same_axiom) s.holds.1.1

-- the tests of specs/Answers tell of the rule
tells_plain_column : (t : Terminology) (y : Column) → Tells (is_plain_column t y) (PlainColumn t y)
tells_plain_column t nothing = always plain_nothing
tells_plain_column t (node y) = tells_as (λ k. plain_node k) node_plain (tells_plain t y)
  where
    node_plain : PlainColumn t (node y) → Plain t y
    node_plain (plain_node k) = k

pub tells_backward : {n : ℕ} (sig : Signature) → NamesBelow n sig → (t u : Terminology) (in_t in_u : Test Node Node) (f : Test Node Column) (x : Node) (y : Column)
    → Tells (backward n sig t u in_t in_u f x y) (Backward sig t u in_t in_u f x y)
tells_backward {n} sig names_in t u in_t in_u f x y = tells_as there back (tells_or
    (tells_any _ u.axioms (λ b h. tells_and (tells_column (node (named b.left)) y) (λ _. tells_and (tells_joins b) (λ _. tells_any _ (parts_of b) (λ z i. tells_true (f x (node (named z))))))))
    (tells_and (tells_plain_column u y) (λ _. tells_or (tells_node x everything) (tells_or
    (tells_any _ t.axioms (λ a h. tells_and (tells_node (named a.left) x) (λ _. tells_and (tells_joins a) (λ _. tells_all _ (parts_of a) (λ z i. tells_true (f (named z) y))))))
    (tells_and (tells_plain t x) (λ _. tells_or
    (tells_any _ (below n) (λ b h. tells_and (tells_true (sig.has_name b)) (λ _. tells_and (tells_true (in_t (named b) x)) (λ _. tells_false (name_under in_u b y)))))
    (tells_any _ t.axioms (λ a h. tells_and (tells_node (named a.left) x)
    (λ _. tells_any _ (roles_under t.roles (role_of a))
    (λ r i. tells_and (tells_fills t r a) (λ _. tells_and (tells_true (sig.has_role r)) (λ _. tells_true (f (filler_of a) (partner u r y))))))))))))))
  where
    PlainCases : Type 0
    PlainCases = Some (below n) (λ b. (sig.has_name b ≡ true) × ((in_t (named b) x ≡ true) × (name_under in_u b y ≡ false)))
        ⊎ Some t.axioms (λ a. (named a.left ≡ x) × Some (roles_under t.roles (role_of a)) (λ r. Fills t r a × ((sig.has_role r ≡ true) × (f (filler_of a) (partner u r y) ≡ true))))

    Cases : Type 0
    Cases = Some u.axioms (λ b. (node (named b.left) ≡ y) × (Joins b × Some (parts_of b) (λ z. f x (node (named z)) ≡ true)))
        ⊎ (PlainColumn u y × ((x ≡ everything)
        ⊎ (Some t.axioms (λ a. (named a.left ≡ x) × (Joins a × Every (parts_of a) (λ z. f (named z) y ≡ true)))
        ⊎ (Plain t x × PlainCases))))

    there_plain : PlainColumn u y → Plain t x → PlainCases → Backward sig t u in_t in_u f x y
    there_plain q k (inl s) = of_name q k s.holds.0 s.holds.1.0 s.holds.1.1
    there_plain q k (inr s) = let r = s.holds.1 in of_role q k s.member s.holds.0 r.holds.0 r.holds.1.0 r.holds.1.1

    there : Cases → Backward sig t u in_t in_u f x y
    there (inl s) = of_part s.member s.holds.0 s.holds.1.0 s.holds.1.1.member s.holds.1.1.holds
    there (inr w) = elim w.1 [
      | inl e ↦ of_everything w.0 e
      | inr v ↦ elim v [ inl s ↦ of_parts w.0 s.member s.holds.0 s.holds.1.0 s.holds.1.1 | inr k ↦ there_plain w.0 k.0 k.1 ]
    ]

    back : Backward sig t u in_t in_u f x y → Cases
    back (of_part {b = b} {z = z} h e j i k) = inl (record { it = b; member = h; holds = (e, (j, record { it = z; member = i; holds = k })) })
    back (of_everything q e) = inr (q, inl e)
    back (of_parts {a = a} q h e j k) = inr (q, inr (inl (record { it = a; member = h; holds = (e, (j, k)) })))
    back (of_name {b = b} q p o h k) = inr (q, inr (inr (p, inl (record { it = b; member = in_below n (names_in b o); holds = (o, (h, k)) }))))
    back (of_role {a = a} {r = r} q p h e fills o k) = inr
        (q, inr (inr (p, inr (record { it = a; member = h; holds = (e, record { it = r; member = in_under fills.role; holds = (fills, (o, k)) }) }))))

partner_column : {n : ℕ} {t : Terminology} → Formed n t → (r : ℕ) (y : Column) → IsColumn n (partner t r y)
partner_column {t = t} formed r y = elim (partner_is t r y) [ filler g e f q ↦ rw q (node_column (formed.filler_in g)) | none k q ↦ rw q no_column ]

module _ {n : ℕ} {sig : Signature} {t u : Terminology} (given : Comparable n sig t u) (first_table : InclusionTable n t) (second_table : InclusionTable n u) where
  abbrev in_t : Test Node Node
  in_t = first_table.says

  abbrev in_u : Test Node Node
  in_u = second_table.says

  tells_name_under : {b : ℕ} → sig.has_name b ≡ true → (y : Column) → IsColumn n y → Tells (name_under in_u b y) (Below u (name b) y)
  tells_name_under over nothing no_column = never (λ p. p)
  tells_name_under {b} over (node y) (node_column y_in) = record
      { sound = λ h. second_table.sound (name_node (given.names_in b over)) y_in h; complete = λ p. second_table.complete (name_node (given.names_in b over)) y_in p }

  -- ⊤ is lost below a plain column, and so is a conjunction of what is lost
  top_lost : (y : Column) → PlainColumn u y → Below u top y → ⊥
  top_lost nothing plain_nothing p = p
  top_lost (node y) (plain_node k) p = top_below_plain given.second_terms k p

  both_lost : (c d : Concept) (y : Column) → PlainColumn u y → (Below u c y → ⊥) → (Below u d y → ⊥) → Below u (both c d) y → ⊥
  both_lost c d nothing plain_nothing f g p = p
  both_lost c d (node y) (plain_node k) f g p = elim ((both_below_plain given.second_terms k).0 p) [ inl q ↦ f q | inr q ↦ g q ]

  -- a concept below each of xs by t, and not below y by u
  record BelowAll (xs : List ℕ) (y : Column) : Type 0 where
    it : Concept
    over : is_over sig it ≡ true
    by_first : (z : ℕ) → In xs z → Derives t it (name z)
    not_second : Below u it y → ⊥

  below_all : (y : Column) → PlainColumn u y → (xs : List ℕ) → ((z : ℕ) → In xs z → LostBelow sig t u (named z) y) → BelowAll xs y
  below_all y y_plain [] lost = record { it = top; over = refl; by_first = λ z h. elim h [ ]; not_second = top_lost y y_plain }
  below_all y y_plain (x ∷ xs) lost = let a = lost x first in let b = below_all y y_plain xs (λ z h. lost z (later h)) in record {
    it = both a.it b.it;
    over = and_both a.over b.over;
    by_first = each (λ z. Derives t (both a.it b.it) (name z)) (one ▹ a.by_first) (λ z h. other ▹ b.by_first z h);
    not_second = both_lost a.it b.it y y_plain a.not_second b.not_second;
  }

  pub backward_sound : Keeps (IsNode n) (IsColumn n) (LostBelow sig t u) (Backward sig t u in_t in_u)
  backward_sound f good x y x_in y_in (of_part {z = z} b_in b_is_y joins z_in marked) =
      let c = good x (node (named z)) x_in (node_column (part_node given.second_formed b_in z_in)) marked in
      record { it = c.it; over = c.over; by_first = c.by_first; not_second = λ p. c.not_second (to_part_of b_in refl z_in (rw (← b_is_y) at p)) }
  backward_sound f good x y x_in y_in (of_everything y_plain e) = record { it = top; over = refl; by_first = rw e to_top; not_second = top_lost y y_plain }
  backward_sound f good x y x_in y_in (of_parts {a = a} y_plain a_in a_is_x joins all_marked) =
      let c = below_all y y_plain (parts_of a) (λ z z_in. good (named z) y (part_node given.first_formed a_in z_in) y_in (all_marked.at z z_in)) in
      record { it = c.it; over = c.over; by_first = from_parts_of a_in a_is_x joins c.by_first; not_second = c.not_second }
  backward_sound f good x y x_in y_in (of_name {b = b} y_plain x_plain over below_x not_below_y) = record {
    it = name b;
    over = over;
    by_first = first_table.sound (name_node (given.names_in b over)) x_in below_x;
    not_second = λ p. not_both ((tells_name_under over y y_in).complete p) not_below_y;
  }
  backward_sound f good x y x_in y_in (of_role {a = a} {r = r} y_plain x_plain a_in a_is_x fills over marked) =
      let c = good (filler_of a) (partner u r y) (given.first_formed.filler_in a_in) (partner_column given.second_formed r y) marked in
      record {
        it = some r c.it;
        over = and_both over c.over;
        by_first = from_filler_of a_in a_is_x fills c.by_first;
        not_second = λ p. c.not_second (below_partner u r c.it given.second_terms y y_plain p);
      }

  abbrev pub some_backward_marks : BackwardMarks sig first_table second_table
  some_backward_marks = saturated (node_axis n) (column_axis n) (LostBelow sig t u) (Backward sig t u in_t in_u) (backward n sig t u in_t in_u)
      (tells_backward sig given.names_in t u in_t in_u) backward_sound

  -- for any closed marks
  module _ (f : Test Node Column) (closed : Closed (IsNode n) (IsColumn n) (Backward sig t u in_t in_u) f) where
    abbrev Kept : Concept → Node → Column → Type 0
    Kept c x y = IsNode n x → IsColumn n y → f x y ≡ false → Derives t c (concept_of x) → Below u c y

    -- what is kept for plain nodes is kept for all: x by its parts, then y by its parts
    module _ (c : Concept) (plain_kept : (x : Node) (y : Column) → Plain t x → PlainColumn u y → Kept c x y) where
      kept_plain_column : (x : Node) (y : Column) → PlainColumn u y → Kept c x y
      kept_plain_column x y y_plain x_in y_in free p = elim (kind t x) [
        | is_everything e ↦ absurd (not_both (closed x y x_in y_in (of_everything y_plain e)) free)
        | is_joined {a = a} a_in a_is_x joins ↦ elim (either (λ z. which_not (f (named z) y)) (parts_of a)) [
          | inl s ↦ plain_kept (named s.it) y (part_plain given.first_terms a_in s.member) y_plain (part_node given.first_formed a_in s.member) y_in s.holds
              (to_part_of a_in a_is_x s.member p)
          | inr all_marked ↦ absurd (not_both (closed x y x_in y_in (of_parts y_plain a_in a_is_x joins (record { at = all_marked }))) free)
        ]
        | is_plain_lem x_plain ↦ plain_kept x y x_plain y_plain x_in y_in free p
      ]

      kept_all : (x : Node) (y : Column) → Kept c x y
      kept_all x nothing x_in y_in free p = kept_plain_column x nothing plain_nothing x_in y_in free p
      kept_all x (node y) x_in y_in free p = elim (kind u y) [
        | is_everything e ↦ rw e to_top
        | is_joined {a = b} b_in b_is_y joins ↦ elim (either (λ z. which (f x (node (named z)))) (parts_of b)) [
          | inl s ↦ absurd (not_both (closed x (node y) x_in y_in (of_part b_in (ap node b_is_y) joins s.member s.holds)) free)
          | inr all_free ↦ from_parts_of b_in b_is_y joins
              (λ z z_in. kept_plain_column x (node (named z)) (plain_node (part_plain given.second_terms b_in z_in)) x_in
              (node_column (part_node given.second_formed b_in z_in)) (all_free z z_in) p)
        ]
        | is_plain_lem y_plain ↦ kept_plain_column x (node y) (plain_node y_plain) x_in y_in free p
      ]

    below_first : {c d : Concept} (y : Column) → Derives u c d → Below u d y → Below u c y
    below_first nothing p q = q
    below_first (node y) p q = p ▹ q

    -- by the form of c
    kept_plain : (c : Concept) → is_over sig c ≡ true → (x : Node) (y : Column) → Plain t x → PlainColumn u y → Kept c x y
    kept_plain top over x y x_plain y_plain x_in y_in free p = absurd (top_below_plain given.first_terms x_plain p)
    kept_plain (name b) over x y x_plain y_plain x_in y_in free p = elim (which (name_under in_u b y)) [
      | inl h ↦ (tells_name_under over y y_in).sound h
      | inr h ↦ absurd (not_both (closed x y x_in y_in (of_name y_plain x_plain over (first_table.complete (name_node (given.names_in b over)) x_in p) h)) free)
    ]
    kept_plain (both c d) over x y x_plain y_plain x_in y_in free p = elim ((both_below_plain given.first_terms x_plain).0 p) [
      | inl q ↦ below_first y one (kept_plain c (and_left (is_over sig c) _ over) x y x_plain y_plain x_in y_in free q)
      | inr q ↦ below_first y other (kept_plain d (and_right (is_over sig c) _ over) x y x_plain y_plain x_in y_in free q)
    ]
    kept_plain (some r c) over x y x_plain y_plain x_in y_in free p =
        let s = (some_below_plain given.first_terms x_plain).0 p in
        let a = s.it in
        elim (which (f (filler_of a) (partner u r y))) [
          | inl h ↦ absurd (not_both (closed x y x_in y_in (of_role y_plain x_plain s.member s.holds.0 s.holds.1.0 (and_left (sig.has_role r) _ over) h)) free)
          | inr h ↦ partner_below u r c y (kept_all c (kept_plain c (and_right (sig.has_role r) _ over)) (filler_of a) (partner u r y) (given.first_formed.filler_in s.member)
              (partner_column given.second_formed r y) h s.holds.1.1)
        ]

    pub below_kept : (c : Concept) → is_over sig c ≡ true → (x : Node) (y : Column) → IsNode n x → IsColumn n y → f x y ≡ false → Derives t c (concept_of x) → Below u c y
    below_kept c over x y = kept_all c (kept_plain c over) x y
