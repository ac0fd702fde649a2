-- A session's start: the version, the refusals in their order, and the comparison of the files given.
--   Begins s t c      the files s and t have version 1 and the counts c
use mathlib.Core.Path.{◌≡◌, refl, sym, ap, ap₂, subst, ◌∙◌}
use mathlib.Core.Bool.{Bool, true, false, ◌&&◌, not, true≢false, false≢true}
use mathlib.Core.List.{List, ◌++◌}
use Prim.Native.Nat.{ℕ, zero, suc, ◌+◌, ◌≤◌, ◌<◌}
use native.Mathlib.Omega.{arith}
use native.Mathlib.Decide.{ℕ_discrete}
use borrow.Author.Tests.{le-leb, lt-leb, eq-eqb, ne_eqb, eqb-true, not-false}
use lib.Dec.{eqb, ltb}
use lib.ListN.{length, take, drop, replicate, length-replicate}
use lib.Seq.{take_at}
use Rattle.std.specs.Prelude.{Result, Ok, Err, IfOk}
use Rattle.el.specs.Lists.{pick, all}
use Rattle.release.specs.Files.{mark, starts_with, is_version, version_of, most_names, most_roles, names_of, roles_of, axioms_of, fault}
use Rattle.release.specs.Readings.{checked, counts_in}
use Rattle.release.specs.Refusals.{Numbers, file_refusal, told, answer}
use Rattle.release.specs.declared.Counts.{Counts}
use Rattle.release.specs.declared.refusals.FileRefusal.{FileRefusal}
use Rattle.release.proofs.Numbers.{is_width}
use Rattle.release.specs.Versions.{said_version}
use Rattle.release.proofs.Headers.{says_it}
use Rattle.release.proofs.Checks.{header_sound}
use Rattle.release.proofs.Limits.{few_counts}
use Rattle.release.proofs.Linked.{no_header_fault}
use Rattle.release.proofs.Refusing.{is_refused, is_accepted}
use Rattle.signature.specs.Bytes.{is_bit, signature_fault, signature_refusal}
use Rattle.signature.specs.declared.SignatureRefusal.{SignatureRefusal}
use Rattle.output.specs.Places.{Put}
use Rattle.output.proofs.Puts.{put_at_start}
use Rattle.meanings.specs.Comparing.{work_length, refused, same_counts, agreed, and_then, Says}
use Rattle.meanings.specs.Refusals.{compare_refusal}
use Rattle.meanings.specs.declared.Compared.{Compared}
use Rattle.meanings.specs.declared.refusals.CompareRefusal.{CompareRefusal}
use Rattle.meanings.specs.declared.refusals.CompareRefusal.TheVariants.{Signature}
use Rattle.meanings.proofs.Judging.{same_counts_lem}
use Rattle.splicing.specs.Places.{most_bytes, IsFile}
use Rattle.splicing.proofs.Splices.{file_short}
use Rattle.splicing.proofs.Filed.{pairs_1, few_names, few_roles_of}
use Rattle.editing.specs.declared.held.HeldFile.{HeldFile}
use Rattle.editing.specs.declared.Session.{Session}
use Rattle.editing.specs.declared.refusals.EditRefusal.{EditRefusal}
use Rattle.editing.specs.declared.refusals.EditRefusal.TheVariants.{Comparison}
use Rattle.editing.specs.Refusals.{edit_refusal}
use Rattle.editing.specs.Sessions.{signature_room, result_room, text_of, holding, blank, file_on, with_result, names_in, roles_in, signature_in, is_session, Current}
use Rattle.editing.specs.Steps.{first_named}
use Rattle.editing.specs.Starting.{other_version, start_fault, checked_as1, start_refusals, started, counts_of}
use Rattle.editing.specs.Judging.{Comparable, Compares, Opens}
use Rattle.editing.proofs.Sessions.{Whole, is_session_lem}
use Rattle.editing.proofs.Finishing.{squares_fit, answer_first, holding_text}
use Rattle.editing.proofs.After.{Start, start_as}

-- the version
module _ (s : List ℕ) where
  pub says_other : {v : ℕ} → v ≡ said_version s → (v ≡ 0 → ⊥) → not (eqb v 1) ≡ other_version s
  unfolding other_version
  says_other {v} e n = rw (← e, ne_eqb v 0 n) refl

  pub says_no_other : {v : ℕ} → v ≡ said_version s → v ≡ 0 → not (eqb v 0) ≡ other_version s
  unfolding other_version
  says_no_other e z = rw (← e, z) refl

  pub as_3 : {b : Bool} → b ≡ other_version s → b ≡ true → Err (record { number = 3; side = 1 }) ≡ checked_as1 s
  unfolding checked_as1 start_fault
  as_3 e h = let o : other_version s ≡ true = sym e ∙ h in sym (simp o)

  pub as_ever : {b : Bool} → b ≡ other_version s → b ≡ false → (r : Result Counts FileRefusal) → told file_refusal r ≡ checked s → told file_refusal r ≡ checked_as1 s
  unfolding checked_as1 start_fault checked
  as_ever e h r i = let o : other_version s ≡ false = sym e ∙ h in i ∙ sym (simp o)

  -- no fault: an accepted release of version 1
  none_file : start_fault s ≡ 0 → IsFile s
  unfolding start_fault other_version
  none_file h = by_other (other_version s) refl h
    where
      by_value : (v : ℕ) → not (eqb v 0) && not (eqb v 1) ≡ false → is_version v ≡ true → v ≡ 1
      by_value v a b = elim (ℕ_discrete v 1) [
        | yes e ↦ e
        | no n ↦ elim (ℕ_discrete v 0) [
          | yes z ↦ absurd (false≢true (rw z at b))
          | no k ↦ absurd (true≢false (rw (ne_eqb v 0 k, ne_eqb v 1 n) at a))
        ]
      ]

      by_other : (b : Bool) → other_version s ≡ b → ◌≡◌ {A = ℕ} (pick b 3 (fault s)) 0 → IsFile s
      by_other true e z = absurd (omega arith)
      by_other false e z =
          let head = header_sound s (no_header_fault s z) in
          let long : 8 ≤ length s = omega (arith, head.long, (is_width s).some) in
          let said : said_version s ≡ version_of s = sym (says_it s long head.marked refl) in
          record { accepted = z; version = by_value (version_of s) (rw said at e) head.version }

  pub limited : (r : Result Counts FileRefusal) → told file_refusal r ≡ checked_as1 s → IfOk r (λ c. (c.names ≤ most_names) × (c.roles ≤ most_roles))
  unfolding checked_as1
  limited (Ok c) e =
      let v = is_accepted 1 (start_fault s) (counts_in s) c e in
      rw v.1 (few_counts s (none_file v.0).accepted)
  limited (Err e) h = tt

-- the refusals in their order: those that the releases decide, then the signature's and 32
module _ (s t g : List ℕ) (w : ℕ) where
  abbrev lasts : Result Compared Numbers
  lasts = pick (not (eqb (signature_fault (names_of s) (roles_of s) g) 0)) (refused (signature_fault (names_of s) (roles_of s) g) 0)
      (pick (ltb w (work_length (names_of s))) (refused 32 0) (Ok (counts_of s)))

  named_by : (j k : ℕ) → start_fault s ≡ j → start_fault t ≡ k
      → first_named (start_refusals s t g w) (Ok (counts_of s)) ≡ and_then (agreed (answer 1 j (counts_in s)) (answer 1 k (counts_in t))) (λ c. lasts)
  unfolding start_refusals agreed same_counts
  named_by (suc j) k e f = let z : eqb (start_fault s) 0 ≡ false = ne_eqb (start_fault s) 0 (λ y. omega (arith, e, y)) in rw (z, e)
  named_by zero (suc k) e f =
      let y : eqb (start_fault s) 0 ≡ true = eq-eqb (start_fault s) 0 e in
      let z : eqb (start_fault t) 0 ≡ false = ne_eqb (start_fault t) 0 (λ x. omega (arith, f, x)) in
      rw (y, z, f)
  named_by zero zero e f =
      let y : eqb (start_fault s) 0 ≡ true = eq-eqb (start_fault s) 0 e in
      let z : eqb (start_fault t) 0 ≡ true = eq-eqb (start_fault t) 0 f in
      simp (y, z) (by_same (eqb (names_of s) (names_of t) && eqb (roles_of s) (roles_of t)))
    where
      by_same : (b : Bool) → pick (not b) (refused 16 0) lasts ≡ and_then (pick b (Ok (counts_of s)) (refused 16 0)) (λ c. lasts)
      by_same true = refl
      by_same false = refl

  named : first_named (start_refusals s t g w) (Ok (counts_of s)) ≡ and_then (agreed (checked_as1 s) (checked_as1 t)) (λ c. lasts)
  unfolding checked_as1
  named = named_by (start_fault s) (start_fault t) refl refl

-- a start that is refused before the comparison
opens_not : (s t g w : List ℕ) (q : Session) (k : EditRefusal) → Err (edit_refusal k) ≡ first_named (start_refusals s t g (length w)) (Ok (counts_of s)) → Opens s t g q w w (Err k)
opens_not s t g w q k h = record { answer = h; refused_work = λ _. refl; accepted = λ z. absurd (cc); cleared = λ z. absurd (cc) }

pub open_refused : (s t g w : List ℕ) (q : Session) (k : CompareRefusal) → Err (compare_refusal k) ≡ agreed (checked_as1 s) (checked_as1 t) → Opens s t g q w w (Err (Comparison k))
open_refused s t g w q k h = opens_not s t g w q (Comparison k) (sym (named s t g (length w) ∙ rw (← h) refl))

-- releases that agree
pub record Begins (s t : List ℕ) (c : Compared) : Type 0 where
  pub first : IsFile s
  pub second : IsFile t
  pub names : c.names ≡ names_of s
  pub roles : c.roles ≡ roles_of s
  pub same_names : names_of t ≡ names_of s
  pub same_roles : roles_of t ≡ roles_of s

pub begins : (s t : List ℕ) (c : Compared) → Ok c ≡ agreed (checked_as1 s) (checked_as1 t) → Begins s t c
unfolding checked_as1 agreed
begins s t c h = by_faults (start_fault s) (start_fault t) refl refl h
  where
    by_faults : (j k : ℕ) → start_fault s ≡ j → start_fault t ≡ k → Ok c ≡ agreed (answer 1 j (counts_in s)) (answer 1 k (counts_in t)) → Begins s t c
    by_faults (suc j) k e f z = absurd (cc)
    by_faults zero (suc k) e f z = absurd (cc)
    by_faults zero zero e f z =
        let v = same_counts_lem (counts_in s) (counts_in t) c (sym z) in
        record { first = none_file s e; second = none_file t f; names = sym v.counts_names; roles = sym v.counts_roles; same_names = sym v.names; same_roles = sym v.roles }

module _ (s t g : List ℕ) {c : Compared} (agree : Ok c ≡ agreed (checked_as1 s) (checked_as1 t)) where
  abbrev both : Begins s t c
  both = begins s t c agree

  few : (names_of s ≤ 127) × (roles_of s ≤ 32)
  few = (few_names s both.first.accepted both.first.version, few_roles_of s both.first.accepted both.first.version)

  follows : {x : Result Compared Numbers} (w : ℕ) → lasts s t g w ≡ x → first_named (start_refusals s t g w) (Ok (counts_of s)) ≡ x
  follows w e = named s t g w ∙ rw (← agree) e

  module _ {n m : ℕ} (names : n ≡ c.names) (roles : m ≡ c.roles) where
    pub open_signature : (w : List ℕ) (q : Session) (k : SignatureRefusal) → Err (signature_refusal k) ≡ answer 0 (signature_fault n m g) (tt {0})
        → Opens s t g q w w (Err (Comparison (Signature k)))
    open_signature w q k h =
        let r = is_refused 0 (signature_fault (names_of s) (roles_of s) g) (tt {0}) (signature_refusal k) (rw (names ∙ both.names, roles ∙ both.roles) at h) in
        let z : eqb (signature_fault (names_of s) (roles_of s) g) 0 ≡ false = ne_eqb (signature_fault (names_of s) (roles_of s) g) 0 (λ y. omega (arith, r.1, y)) in
        opens_not s t g w q (Comparison (Signature k)) (sym (follows (length w) (rw z (ap Err (sym r.0)))))

    module _ (read : Ok (tt {0}) ≡ answer 0 (signature_fault n m g) (tt {0})) where
      signed : signature_fault (names_of s) (roles_of s) g ≡ 0
      signed = (is_accepted 0 (signature_fault (names_of s) (roles_of s) g) (tt {0}) (tt {0}) (rw (names ∙ both.names, roles ∙ both.roles) at read)).0

      sized : length g ≡ names_of s + roles_of s
      unfolding signature_fault
      sized = by_length (eqb (length g) (names_of s + roles_of s)) (pick (all is_bit g) 0 18) refl signed
        where
          by_length : (q : Bool) (j : ℕ) → eqb (length g) (names_of s + roles_of s) ≡ q → ◌≡◌ {A = ℕ} (pick q j 17) 0 → length g ≡ names_of s + roles_of s
          by_length true j i z = eqb-true (length g) (names_of s + roles_of s) i
          by_length false j i z = absurd (omega arith)

      pub fits : (length s ≤ most_bytes) × ((length t ≤ most_bytes) × (length g ≤ signature_room))
      fits = (file_short s both.first, (file_short t both.second, omega (arith, sized, few.0, few.1)))

      abbrev longer : List ℕ
      longer = g ++ drop (length g) (replicate signature_room 0)

      -- the session started can be edited, and its result is current where its bytes are those of comparing s and t
      module _ (bs : List ℕ) where
        abbrev with_bytes : Session
        with_bytes = with_result bs (started s t g)

        names_kept : names_in with_bytes ≡ names_of s
        unfolding with_result started
        names_kept = ap names_of (holding_text s blank)

        roles_kept : roles_in with_bytes ≡ roles_of s
        unfolding with_result started
        roles_kept = ap roles_of (holding_text s blank)

        signature_kept : signature_in with_bytes ≡ g
        unfolding with_result started
        signature_kept =
            ap₂ (λ (i j : ℕ). take (i + j) longer) names_kept roles_kept ∙ take_at g (drop (length g) (replicate signature_room 0)) (names_of s + roles_of s) sized

        started_whole : Whole with_bytes
        unfolding with_result started holding
        started_whole = record {
          first = record { fits = file_short s both.first; file = subst IsFile (sym (holding_text s blank)) both.first };
          second = record { fits = file_short t both.second; file = subst IsFile (sym (holding_text t blank)) both.second };
          names = names_kept ∙ sym (ap names_of (holding_text t blank) ∙ both.same_names);
          roles = roles_kept ∙ sym (ap roles_of (holding_text t blank) ∙ both.same_roles);
          signature = ap₂ (λ (i j : ℕ). signature_fault i j (signature_in with_bytes)) names_kept roles_kept ∙ (ap (signature_fault (names_of s) (roles_of s)) signature_kept ∙ signed);
        }

        started_current : Start (names_of s) (roles_of s) g (axioms_of s) (axioms_of t) bs → Current with_bytes
        unfolding with_result started file_on
        started_current are = record {
          bytes = start_as bs (sym names_kept) (sym roles_kept) (sym signature_kept) (sym (ap axioms_of (holding_text s blank))) (sym (ap axioms_of (holding_text t blank))) are;
        }

      module _ {y : Session} (is : y ≡ started s t g) where
        pub open_comparable : Comparable y c
        unfolding started
        open_comparable = rw is (record {
          names = both.names ∙ sym (ap names_of (holding_text s blank));
          roles = both.roles ∙ sym (ap roles_of (holding_text s blank));
          few = omega (arith, both.names, both.roles, few.0, few.1);
        })

        module _ {w v : List ℕ} {q : Session} {r : Result Compared CompareRefusal} (compares : Compares y q w v r) where
          abbrev comparing : Compares (started s t g) q w v r
          comparing = subst (λ (x : Session). Compares x q w v r) is compares

          says : Says s t g (replicate result_room 0) q.result comparing.roles_lent comparing.role_result w v r
          unfolding started
          says =
              let on : List ℕ → List ℕ → List ℕ → Type 0 = λ x y z. Says x y z (replicate result_room 0) q.result comparing.roles_lent comparing.role_result w v r in
              let one = subst (λ (x : List ℕ). on x (text_of (holding t blank)) (take (names_of x + roles_of x) longer)) (holding_text s blank) comparing.says in
              let two = subst (λ (y : List ℕ). on s y (take (names_of s + roles_of s) longer)) (holding_text t blank) one in
              subst (on s t) (take_at g (drop (length g) (replicate signature_room 0)) (names_of s + roles_of s) sized) two

          told_is : told compare_refusal r ≡ first_named (start_refusals s t g (length w)) (Ok (counts_of s))
          told_is =
              let z : eqb (signature_fault (names_of s) (roles_of s) g) 0 ≡ true = eq-eqb (signature_fault (names_of s) (roles_of s) g) 0 signed in
              let room : names_of s ≤ length {A = ℕ} (replicate result_room 0) = omega (arith, few.0, length-replicate {A = ℕ} result_room 0) in
              let answer = answer_first (names_of s) (roles_of s) g (length {A = ℕ} (replicate result_room 0)) (length comparing.roles_lent) (length w) signed room
              (squares_fit few.1 comparing.enough) s t refl both.same_names refl both.same_roles false
              both.first.accepted both.second.accepted in
              says.answer ∙ answer ∙ sym (follows (length w) (rw z refl))

          pub open_short : {k : CompareRefusal} → r ≡ Err k → Opens s t g q w v (Err (Comparison k))
          open_short i = record {
            answer = sym (ap (told compare_refusal) i) ∙ told_is;
            refused_work = λ _. says.refused_work i;
            accepted = λ z. absurd (cc);
            cleared = λ z. absurd (cc);
          }

          pub open_done : {d : Compared} → r ≡ Ok d → Opens s t g q w v (Ok d)
          open_done i = record {
            answer = sym (ap (told compare_refusal) i) ∙ told_is;
            refused_work = λ z. absurd (cc);
            accepted = λ _.
                let res = says.accepted i in
                record {
                  session = comparing.kept;
                  past = res.past;
                  valid = ap is_session comparing.kept ∙ is_session_lem (with_result q.result (started s t g)) (started_whole q.result);
                  current = subst Current (sym comparing.kept) (started_current q.result (rw (pairs_1 s both.first.version, pairs_1 t both.second.version) at res.bytes));
                };
            cleared = λ _. (says.accepted i).work;
          }

-- the session of two files and a signature
pub started_is : (s t g : List ℕ) {f1 f2 : HeldFile} {chosen : List ℕ} {end : ℕ} → f1 ≡ holding s blank → f2 ≡ holding t blank → Put (replicate signature_room 0) 0 g chosen end
    → length g ≤ signature_room → record { first = f1; second = f2; signature = chosen; result = replicate result_room 0 } ≡ started s t g
unfolding started
started_is s t g e1 e2 put room =
    let e3 = put_at_start put (omega (arith, length-replicate {A = ℕ} signature_room 0)) in
    rw (e1, e2, e3) refl
