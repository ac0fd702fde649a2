-- Two terminologies compared over a signature: each name and each role pair has one byte, and none is reported exactly where
-- they are equal.
--   KeptAbove sig t u a, KeptBelow sig t u a      no signature concept above (below) the name a by t is lost by u
--   left_kept, right_kept                         so it is where forward (backward) marks leave a free
--   left_exact, right_exact                       and where they do not, there is a witness: the marks tell of witnesses
--   the_byte                                      the byte of a name, by any tables and marks that are right and closed
--   witness_or_kept_above, witness_or_kept_below  a name has a witness, or all is kept
--   KeptRoles sig t u                             no pair of chosen roles, one under the other by t, is lost by u
--   the_pair_byte, one_pair_byte                  the byte of a role pair, and the only one
--   all_kept                                      where all names and role pairs are kept, so is every inclusion over the signature
--   demand3                                       demand 3 of specs/Comparison
use mathlib.Core.Path.{◌≡◌, refl, ap₂, sym, ◌∙◌}
use mathlib.Core.Logic.{◌⊎◌, inl, inr, ◌↔◌}
use mathlib.Core.Bool.{Bool, true, false, false≢true}
use Prim.Native.Nat.{ℕ, zero, suc, ◌≤◌, ◌<◌}
use native.Mathlib.Omega.{arith}
use Rattle.el.specs.Lists.{pick}
use Rattle.el.specs.Concepts.{Concept, top, name, both, some, named}
use Rattle.el.specs.Axioms.{Terminology}
use Rattle.el.specs.Derivability.{Under, Derives, to_top, one, other, meet, widen}
use Rattle.el.specs.Signatures.{Signature, is_over, LeftWitness, RightWitness, RoleWitness, EqualOver}
use Rattle.el.specs.Comparison.{on_left, on_right, IsByte, IsPairByte, ReportsNoName, ReportsNoPair, ReportsNone, Demand3}
use Rattle.el.specs.Answers.{node, byte_of, is_lost_pair, pair_byte}
use Rattle.el.specs.Terminologies.{Normalised, name_node, RolesBelow, Comparable}
use Rattle.el.proofs.Tests.{Tells, tells_as, tells_true, tells_and, tells_not, and_left, and_right, and_both, which, not_both}
use Rattle.el.proofs.Roles.{tells_under, under_decided}
use Rattle.el.proofs.Derivations.{◌▹◌, widened}
use Rattle.el.proofs.Terminologies.{top_below_some, both_below_some, some_below_some}
use Rattle.el.proofs.Nodes.{node_column, turned}
use Rattle.el.proofs.Classification.{InclusionTable, some_table}
use Rattle.el.proofs.ForwardMarks.{ForwardMarks, some_forward_marks, above_kept}
use Rattle.el.proofs.BackwardMarks.{BackwardMarks, some_backward_marks, below_kept}

pub record KeptAbove (sig : Signature) (t u : Terminology) (a : ℕ) : Type 0 where
  pub keeps : (d : Concept) → is_over sig d ≡ true → Derives t (name a) d → Derives u (name a) d

pub record KeptBelow (sig : Signature) (t u : Terminology) (a : ℕ) : Type 0 where
  pub keeps : (c : Concept) → is_over sig c ≡ true → Derives t c (name a) → Derives u c (name a)

pub record KeptRoles (sig : Signature) (t u : Terminology) : Type 0 where
  pub keeps : (r s : ℕ) → sig.has_role r ≡ true → sig.has_role s ≡ true → Under t.roles r s → Under u.roles r s

-- bytes
pub byte_left : (l r : Bool) → on_left (byte_of l r) ≡ l
byte_left true true = refl
byte_left true false = refl
byte_left false true = refl
byte_left false false = refl

pub byte_right : (l r : Bool) → on_right (byte_of l r) ≡ r
byte_right true true = refl
byte_right true false = refl
byte_right false true = refl
byte_right false false = refl

pub byte_small : (l r : Bool) → byte_of l r ≤ 3
byte_small true true = omega arith
byte_small true false = omega arith
byte_small false true = omega arith
byte_small false false = omega arith

byte_from_sides : (b : ℕ) → b ≤ 3 → b ≡ byte_of (on_left b) (on_right b)
byte_from_sides zero h = refl
byte_from_sides (suc zero) h = refl
byte_from_sides (suc (suc zero)) h = refl
byte_from_sides (suc (suc (suc zero))) h = refl
byte_from_sides (suc (suc (suc (suc b)))) h = absurd (omega arith)

same_test : (a b : Bool) → (a ≡ true → b ≡ true) → (b ≡ true → a ≡ true) → a ≡ b
same_test true b f h = sym (f refl)
same_test false true f h = h refl
same_test false false f h = refl

pub one_byte : {sig : Signature} {t u : Terminology} {a b c : ℕ} → IsByte sig t u a b → IsByte sig t u a c → b ≡ c
one_byte {sig} {a = a} {b = b} {c = c} p q = elim (which (sig.has_name a)) [
  | inl h ↦ byte_from_sides b p.small
      ∙ ap₂ byte_of (same_test (on_left b) (on_left c) (λ z. (q.left h).1 ((p.left h).0 z)) (λ z. (p.left h).1 ((q.left h).0 z)))
      (same_test (on_right b) (on_right c) (λ z. (q.right h).1 ((p.right h).0 z)) (λ z. (p.right h).1 ((q.right h).0 z)))
      ∙ sym (byte_from_sides c q.small)
  | inr h ↦ p.outside h ∙ sym (q.outside h)
]

-- by any tables and marks that are right and closed
module _ {n : ℕ} {sig : Signature} {t u : Terminology} (given : Comparable n sig t u) (first_table : InclusionTable n t) (second_table : InclusionTable n u) where
  pub left_kept : (f : ForwardMarks sig first_table second_table) (a : ℕ) → a < n → f.mark (named a) (named a) ≡ false → KeptAbove sig t u a
  left_kept f a a_in free = record { keeps = λ d over p. above_kept given first_table second_table f.mark f.closed d over (named a) (named a) (name_node a_in) (name_node a_in) free p }

  pub right_kept : (g : BackwardMarks sig first_table second_table) (a : ℕ) → a < n → g.mark (named a) (node (named a)) ≡ false → KeptBelow sig t u a
  right_kept g a a_in free = record {
    keeps = λ c over p. below_kept given first_table second_table g.mark g.closed c over (named a) (node (named a)) (name_node a_in)
        (node_column (name_node a_in)) free p;
  }

  pub left_exact : (f : ForwardMarks sig first_table second_table) (a : ℕ) → a < n → (f.mark (named a) (named a) ≡ true) ↔ LeftWitness sig t u a
  left_exact f a a_in = (
    λ h. let w = f.good (named a) (named a) (name_node a_in) (name_node a_in) h in record { above = w.it; over = w.over; first = w.by_first; not_second = w.not_second },
    λ w. elim (which (f.mark (named a) (named a))) [ inl h ↦ h | inr h ↦ absurd (w.not_second ((left_kept f a a_in h).keeps w.above w.over w.first)) ],
  )

  pub right_exact : (g : BackwardMarks sig first_table second_table) (a : ℕ) → a < n → (g.mark (named a) (node (named a)) ≡ true) ↔ RightWitness sig t u a
  right_exact g a a_in = (
    λ h. let w = g.good (named a) (node (named a)) (name_node a_in) (node_column (name_node a_in)) h in record { below = w.it; over = w.over; first = w.by_first; not_second = w.not_second },
    λ w. elim (which (g.mark (named a) (node (named a)))) [ inl h ↦ h | inr h ↦ absurd (w.not_second ((right_kept g a a_in h).keeps w.below w.over w.first)) ],
  )

  pub the_byte : (f : ForwardMarks sig first_table second_table) (g : BackwardMarks sig first_table second_table) (a : ℕ) → a < n
      → IsByte sig t u a (pick (sig.has_name a) (byte_of (f.mark (named a) (named a)) (g.mark (named a) (node (named a)))) 0)
  the_byte f g a a_in = elim (which (sig.has_name a)) [
    | inl chosen ↦ record {
      outside = λ z. absurd (not_both chosen z);
      small = rw chosen (byte_small (f.mark (named a) (named a)) (g.mark (named a) (node (named a))));
      left = λ z. rw (chosen, byte_left (f.mark (named a) (named a)) (g.mark (named a) (node (named a)))) (left_exact f a a_in);
      right = λ z. rw (chosen, byte_right (f.mark (named a) (named a)) (g.mark (named a) (node (named a)))) (right_exact g a a_in);
    }
    | inr outside ↦ record { outside = λ z. rw outside; small = rw outside (omega arith); left = λ z. absurd (not_both z outside); right = λ z. absurd (not_both z outside) }
  ]

-- such tables and marks there are
module _ {n : ℕ} {sig : Signature} {t u : Terminology} (given : Comparable n sig t u) where
  abbrev pub first_table : InclusionTable n t
  first_table = some_table given.first_formed

  abbrev pub second_table : InclusionTable n u
  second_table = some_table given.second_formed

  abbrev pub forth : ForwardMarks sig first_table second_table
  forth = some_forward_marks given first_table second_table

  abbrev pub back : BackwardMarks sig first_table second_table
  back = some_backward_marks given first_table second_table

  pub witness_or_kept_above : (a : ℕ) → a < n → LeftWitness sig t u a ⊎ KeptAbove sig t u a
  witness_or_kept_above a a_in = elim (which (forth.mark (named a) (named a))) [
    | inl h ↦ inl ((left_exact given first_table second_table forth a a_in).0 h)
    | inr h ↦ inr (left_kept given first_table second_table forth a a_in h)
  ]

  pub witness_or_kept_below : (a : ℕ) → a < n → RightWitness sig t u a ⊎ KeptBelow sig t u a
  witness_or_kept_below a a_in = elim (which (back.mark (named a) (node (named a)))) [
    | inl h ↦ inl ((right_exact given first_table second_table back a a_in).0 h)
    | inr h ↦ inr (right_kept given first_table second_table back a a_in h)
  ]

-- role pairs
pub tells_lost_pair : (sig : Signature) (t u : Terminology) (r s : ℕ) → Tells (is_lost_pair sig t u r s) (RoleWitness sig t u r s)
tells_lost_pair sig t u r s = tells_as
    (λ w. record { lower_chosen = w.0; upper_chosen = w.1.0; first = w.1.1.0; not_second = w.1.1.1 })
    (λ w. (w.lower_chosen, (w.upper_chosen, (w.first, w.not_second))))
    (tells_and (tells_true (sig.has_role r)) (λ _. tells_and (tells_true (sig.has_role s)) (λ _. tells_and (tells_under t.roles r s) (λ _. tells_not (tells_under u.roles r s)))))

pub pair_byte_by : {sig : Signature} {t u : Terminology} {r s : ℕ} (b : Bool) → Tells b (RoleWitness sig t u r s) → IsPairByte sig t u r s (pick b 1 0)
pair_byte_by true tells = record { small = omega arith; reported = (λ e. tells.sound refl, λ w. refl) }
pair_byte_by false tells = record { small = omega arith; reported = (λ e. absurd (omega arith), λ w. absurd (false≢true (tells.complete w))) }

pub the_pair_byte : (sig : Signature) (t u : Terminology) (r s : ℕ) → IsPairByte sig t u r s (pair_byte sig t u r s)
the_pair_byte sig t u r s = pair_byte_by (is_lost_pair sig t u r s) (tells_lost_pair sig t u r s)

pub one_pair_byte : {sig : Signature} {t u : Terminology} {r s b c : ℕ} → IsPairByte sig t u r s b → IsPairByte sig t u r s c → b ≡ c
one_pair_byte {b = b} {c = c} p q = by_value b c p.small q.small (λ e. q.reported.1 (p.reported.0 e)) (λ e. p.reported.1 (q.reported.0 e))
  where
    by_value : (b c : ℕ) → b ≤ 1 → c ≤ 1 → (b ≡ 1 → c ≡ 1) → (c ≡ 1 → b ≡ 1) → b ≡ c
    by_value zero zero h k f g = refl
    by_value zero (suc c) h k f g = absurd (omega (arith, g (omega arith)))
    by_value (suc b) zero h k f g = absurd (omega (arith, f (omega arith)))
    by_value (suc b) (suc c) h k f g = omega arith

pub witness_or_kept_pair : (sig : Signature) (t u : Terminology) (r s : ℕ) → sig.has_role r ≡ true → sig.has_role s ≡ true → Under t.roles r s → RoleWitness sig t u r s ⊎ Under u.roles r s
witness_or_kept_pair sig t u r s r_chosen s_chosen p = elim (under_decided u.roles r s) [
  | yes q ↦ inr q
  | no k ↦ inl (record { lower_chosen = r_chosen; upper_chosen = s_chosen; first = p; not_second = k })
]

-- "Skipped releases obey the same law for each role pair"
pub pair_skipped : {sig : Signature} {t u v : Terminology} {r s : ℕ} → RoleWitness sig t v r s → RoleWitness sig t u r s ⊎ RoleWitness sig u v r s
pair_skipped {sig} {t} {u} {r = r} {s = s} w = elim (witness_or_kept_pair sig t u r s w.lower_chosen w.upper_chosen w.first) [
  | inl x ↦ inl x
  | inr q ↦ inr (record { lower_chosen = w.lower_chosen; upper_chosen = w.upper_chosen; first = q; not_second = w.not_second })
]

-- where all names and role pairs are kept, so is every inclusion
module _ (sig : Signature) {t u : Terminology} (first_terms : Normalised t) (roles : KeptRoles sig t u) (above : (a : ℕ) → sig.has_name a ≡ true → KeptAbove sig t u a)
    (below : (a : ℕ) → sig.has_name a ≡ true → KeptBelow sig t u a) where
  some_kept : (r : ℕ) (d : Concept) → is_over sig (some r d) ≡ true → ((c : Concept) → is_over sig c ≡ true → Derives t c d → Derives u c d) → (c : Concept) → is_over sig c ≡ true
      → Derives t c (some r d) → Derives u c (some r d)
  some_kept r d d_over keep top c_over p = absurd (top_below_some first_terms p)
  some_kept r d d_over keep (name b) c_over p = (above b c_over).keeps (some r d) d_over p
  some_kept r d d_over keep (both c e) c_over p = elim ((both_below_some first_terms).0 p) [
    | inl q ↦ one ▹ some_kept r d d_over keep c (and_left (is_over sig c) _ c_over) q
    | inr q ↦ other ▹ some_kept r d d_over keep e (and_right (is_over sig c) _ c_over) q
  ]
  some_kept r d d_over keep (some s c) c_over p =
      let w = (some_below_some first_terms).0 p in
      let role = roles.keeps s r (and_left (sig.has_role s) _ c_over) (and_left (sig.has_role r) _ d_over) w.0 in
      widened role (keep c (and_right (sig.has_role s) _ c_over) w.1)

  pub all_kept : (d : Concept) → is_over sig d ≡ true → (c : Concept) → is_over sig c ≡ true → Derives t c d → Derives u c d
  all_kept top d_over c c_over p = to_top
  all_kept (name a) d_over c c_over p = (below a d_over).keeps c c_over p
  all_kept (both d e) d_over c c_over p = meet (all_kept d (and_left (is_over sig d) _ d_over) c c_over (p ▹ one)) (all_kept e (and_right (is_over sig d) _ d_over) c c_over (p ▹ other))
  all_kept (some r d) d_over c c_over p = some_kept r d d_over (all_kept d (and_right (sig.has_role r) _ d_over)) c c_over p

-- equal: no name is reported, and no role pair, since ∃r.⊤ ⊑ ∃s.⊤ is derivable only where r lies under s
equal_no_name : {sig : Signature} {t u : Terminology} (n : ℕ) → EqualOver sig t u → ReportsNoName n sig t u
equal_no_name n e a a_in = record {
  outside = λ over. refl;
  small = omega arith;
  left = λ over. (λ k. absurd (false≢true k), λ w. absurd (w.not_second ((e.alike (name a) w.above over w.over).0 w.first)));
  right = λ over. (λ k. absurd (false≢true k), λ w. absurd (w.not_second ((e.alike w.below (name a) w.over over).0 w.first)));
}

pub equal_roles : {sig : Signature} {t u : Terminology} → Normalised u → EqualOver sig t u → KeptRoles sig t u
equal_roles second_terms e = record {
  keeps = λ r s r_chosen s_chosen p. ((some_below_some second_terms).0 ((e.alike (some r top) (some s top) (and_both r_chosen refl) (and_both s_chosen refl)).0 (widen p))).0;
}

kept_no_pair : {sig : Signature} {t u : Terminology} (m : ℕ) → KeptRoles sig t u → ReportsNoPair m sig t u
kept_no_pair m kept r s r_in s_in = record {
  small = omega arith;
  reported = (λ k. absurd (omega arith), λ w. absurd (w.not_second (kept.keeps r s w.lower_chosen w.upper_chosen w.first)));
}

equal_turned : {sig : Signature} {t u : Terminology} → EqualOver sig t u → EqualOver sig u t
equal_turned e = record { alike = λ c d c_over d_over. ((e.alike c d c_over d_over).1, (e.alike c d c_over d_over).0) }

module _ {n m : ℕ} {sig : Signature} {t u : Terminology} (given : Comparable n sig t u) (roles_in : RolesBelow m sig) where
  pub equal_reports_none : EqualOver sig t u → ReportsNone n m sig t u
  equal_reports_none e = record { no_name = equal_no_name n e; no_pair = kept_no_pair m (equal_roles given.second_terms e) }

  pub no_pair_kept : ReportsNoPair m sig t u → KeptRoles sig t u
  no_pair_kept reports = record {
    keeps = λ r s r_chosen s_chosen p. elim (witness_or_kept_pair sig t u r s r_chosen s_chosen p) [
      | inl w ↦ absurd (omega (arith, (reports r s (roles_in r r_chosen) (roles_in s s_chosen)).reported.1 w))
      | inr q ↦ q
    ];
  }

  pub none_reported_kept : ReportsNone n m sig t u → (c d : Concept) → is_over sig c ≡ true → is_over sig d ≡ true → Derives t c d → Derives u c d
  none_reported_kept reports c d c_over d_over p = all_kept sig given.first_terms (no_pair_kept reports.no_pair)
      (λ a over. elim (witness_or_kept_above given a (given.names_in a over)) [ inl w ↦ absurd (false≢true (((reports.no_name a (given.names_in a over)).left over).1 w)) | inr k ↦ k ])
      (λ a over. elim (witness_or_kept_below given a (given.names_in a over)) [ inl w ↦ absurd (false≢true (((reports.no_name a (given.names_in a over)).right over).1 w)) | inr k ↦ k ])
      d d_over c c_over p

pub demand3 : {n m : ℕ} {sig : Signature} {t u : Terminology} → Comparable n sig t u → RolesBelow m sig → Demand3 n m sig t u
demand3 {sig = sig} {t = t} {u = u} given roles_in = record {
  some_byte = λ a a_in. record { byte = _; is_byte = the_byte given (first_table given) (second_table given) (forth given) (back given) a a_in };
  one_byte = λ a b c p q. one_byte p q;
  some_pair_byte = λ r s r_in s_in. record { byte = _; is_byte = the_pair_byte sig t u r s };
  one_pair_byte = λ r s b c p q. one_pair_byte p q;
  equal = (
    λ e. (equal_reports_none given roles_in e, equal_reports_none (turned given) roles_in (equal_turned e)),
    λ w. record { alike = λ c d c_over d_over. (none_reported_kept given roles_in w.0 c d c_over d_over, none_reported_kept (turned given) roles_in w.1 c d c_over d_over) },
  );
}
