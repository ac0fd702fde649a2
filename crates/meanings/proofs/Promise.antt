-- From the answer of a comparison and what comparing gives to what the call promises.
--   Agree, agree, few_counts          what is known of two releases that agree
--   known                             what is known of an accepted comparison;  split: of a value that follows another
--   both_given                        what comparing asks of releases that were read, and what filling a sheet asks
--   not_read, not_lent, given, compares   the promise, where it is refused and where it is not
use mathlib.Core.Path.{◌≡◌, refl, sym, ap₂, ◌∙◌}
use mathlib.Core.List.{List, [], ◌∷◌, ◌++◌}
use Prim.Native.Nat.{ℕ, zero, suc, ◌+◌, ◌*◌, ◌≤◌, ◌<◌}
use native.Mathlib.Omega.{arith}
use lib.ListN.{length, get_or, take, drop, replicate, length-take, length-drop}
use lib.Seq.{ext_get_or, get_or-take, get_or-drop}
use Rattle.std.specs.Prelude.{Result, Ok, Err}
use Rattle.el.specs.Comparison.{AreBytes, ArePairBytes}
use Rattle.release.specs.Files.{names_of, roles_of, most_names, most_roles, fault, content_of}
use Rattle.release.specs.Readings.{checked, counts_in}
use Rattle.release.specs.Refusals.{Numbers, answer}
use Rattle.release.proofs.Limits as limits
use Rattle.signature.specs.Bytes.{signature_of}
use Rattle.signature.specs.declared.lent.LentSignature.{LentSignature}
use Rattle.marks.specs.Memory.{size}
use Rattle.comparison.specs.Compared as C
use Rattle.comparison.specs.declared.Releases.{Releases}
use Rattle.role_result.specs.declared.RoleComparison.{RoleComparison}
use Rattle.role_result.specs.Pairs.{BothRead as RolesRead, RolesReported}
use Rattle.meanings.specs.declared.Compared.{Compared}
use Rattle.meanings.specs.declared.refusals.CompareRefusal.{CompareRefusal}
use Rattle.meanings.specs.Comparing.{work_length, agreed, lent, and_then, judged, comparison, Outcome, Says}
use Rattle.meanings.specs.Reading.{AreRead}
use Rattle.meanings.specs.Refusals.{compare_refusal}
use Rattle.meanings.proofs.Judging.{same_counts_lem, LentEnough, lent_enough}

-- memory that is 0 at its start, and as before after that
pub cleared : (k : ℕ) (v w : List ℕ) → length v ≡ length w → k ≤ length w → ((i : ℕ) → i < k → get_or v i 0 ≡ 0) → ((i : ℕ) → k ≤ i → get_or v i 0 ≡ get_or w i 0) → v ≡ replicate k 0 ++ drop k w
cleared zero v w e h z p = ext_get_or 0 v w e (λ i l. p i (omega arith))
cleared (suc k) [] w e h z p = absurd (omega arith)
cleared (suc k) (x ∷ v) [] e h z p = absurd (omega arith)
cleared (suc k) (x ∷ v) (y ∷ w) e h z p = ap₂ ◌∷◌ (z 0 (omega arith)) (cleared k v w (omega arith) (omega arith) (λ i l. z (suc i) (omega arith)) (λ i l. p (suc i) (omega arith)))

-- two releases that agree
pub record Agree (s t : List ℕ) (c : Compared) : Type 0 where
  pub first : fault s ≡ 0
  pub second : fault t ≡ 0
  pub first_names : c.names ≡ names_of s
  pub second_names : c.names ≡ names_of t
  pub first_roles : c.roles ≡ roles_of s
  pub second_roles : c.roles ≡ roles_of t

pub agree : (s t : List ℕ) (c : Compared) → agreed (checked s) (checked t) ≡ Ok c → Agree s t c
unfolding agreed checked
agree s t c h = by_faults (fault s) (fault t) refl refl h
  where
    by_faults : (x y : ℕ) → fault s ≡ x → fault t ≡ y → agreed (answer 1 x (counts_in s)) (answer 1 y (counts_in t)) ≡ Ok c → Agree s t c
    by_faults (suc x) y e f z = absurd (cc)
    by_faults zero (suc y) e f z = absurd (cc)
    by_faults zero zero e f z =
        let v = same_counts_lem _ _ c z in
        record {
          first = e;
          second = f;
          first_names = sym v.counts_names;
          second_names = sym v.counts_names ∙ v.names;
          first_roles = sym v.counts_roles;
          second_roles = sym v.counts_roles ∙ v.roles;
        }

-- they have few names and roles
pub few_counts : {s t : List ℕ} {c : Compared} → Agree s t c → (c.names ≤ most_names) × (c.roles ≤ most_roles)
few_counts {s} k = let h = limits.few_counts s k.first in (omega (arith, k.first_names, h.0), omega (arith, k.first_roles, h.1))

-- what is told of a value that follows another
pub split : {follows : Compared → Result Compared Numbers} {c : Compared} (r : Result Compared Numbers) → and_then r follows ≡ Ok c → (d : Compared) × (r ≡ Ok d) × (follows d ≡ Ok c)
split (Ok d) h = (d, refl, h)
split (Err k) h = absurd (cc)

-- what is known of an accepted comparison
pub known : (s t g : List ℕ) (o p w : ℕ) (c : Compared) → comparison s t g o p w ≡ Ok c → Agree s t c × LentEnough g o p w c
unfolding judged
known s t g o p w c h =
    let z = split (agreed (checked s) (checked t)) h in
    let e = lent_enough g o p w z.0 c z.2 in
    rw (← e.0) (agree s t z.0 z.1, e.1)

-- releases that were read, and work memory that is enough: what comparing them asks, and filling the rows of a sheet
module _ {s t : List ℕ} {c : Compared} {r : Releases} (read : AreRead s t c r) where
  pub both_agree : Agree s t c
  both_agree = agree s t c (sym read.counts)

  pub both_given : {w : List ℕ} → work_length c.names ≤ length w → C.BothGiven r w
  unfolding size
  both_given lends = record {
    first = rw read.first_file read.first;
    second = rw read.second_file read.second;
    first_names = rw read.first_file (read.names ∙ both_agree.first_names);
    second_names = rw read.second_file (read.names ∙ both_agree.second_names);
    room = rw read.names lends;
  }

  pub roles_read : {x : RoleComparison} → x.first ≡ r.first → x.second ≡ r.second → RolesRead x
  roles_read first second = record { first = rw (first, read.first_file) read.first; second = rw (second, read.second_file) read.second }

module _ {s t : List ℕ} (g o p w : List ℕ) where
  refuses : {e : CompareRefusal} → Err (compare_refusal e) ≡ comparison s t g (length o) (length p) (length w) → Says s t g o o p p w w (Err e)
  refuses is = record { answer = is; refused_result = λ z. refl; refused_roles = λ z. refl; refused_work = λ z. refl; accepted = λ z. absurd (cc) }

  pub not_read : {e : CompareRefusal} → Err (compare_refusal e) ≡ agreed (checked s) (checked t) → Says s t g o o p p w w (Err e)
  unfolding judged
  not_read is = refuses (rw (← is, judged) refl)

  module _ {c : Compared} {r : Releases} (read : AreRead s t c r) where
    pub not_lent : {e : CompareRefusal} → Err (compare_refusal e) ≡ lent g (length o) (length p) (length w) c → Says s t g o o p p w w (Err e)
    unfolding judged
    not_lent is = refuses (rw (← read.counts, judged) is)

    module _ {d : Compared} (lends : Ok d ≡ lent g (length o) (length p) (length w) c) where
      enough : LentEnough g (length o) (length p) (length w) c
      enough = (lent_enough g (length o) (length p) (length w) c d (sym lends)).1

      pub names_in_bounds : r.names ≤ length o
      names_in_bounds = rw read.names enough.result

      pub given : C.Given g r w
      given = record { both = both_given read enough.work; signature = rw (read.names, read.roles) enough.signature }

      -- what the role result asks
      module _ (l : LentSignature) (is : C.IsLent g r l) where
        pub role_room : l.roles * l.roles ≤ length p
        role_room = rw (is.roles, read.roles) enough.role_result

      -- lists by their elements
      module _ (q v : List ℕ) (long_q : length q ≡ length o) (long_v : length v ≡ length w) (done : C.Compared g r o q w v)
          {x : RoleComparison} {z : List ℕ} (is : C.IsLent g r x.signature) (first : x.first ≡ r.first) (second : x.second ≡ r.second) (pairs : RolesReported x p z) where
        bytes_are : AreBytes c.names (signature_of c.names c.roles g) (content_of s) (content_of t) (take c.names q)
        bytes_are = record {
          long = simp length-take (omega (arith, enough.result));
          each = λ a l. rw (get_or-take c.names q a 0 l) (rw (read.names, read.roles, read.first_file, read.second_file) at (done.reported.byte a (rw read.names l)));
        }

        rest_is : drop c.names q ≡ drop c.names o
        rest_is = ext_get_or 0 _ _ (simp (length-drop, long_q)) (λ i l. get_or-drop c.names q i 0 ∙ (done.reported.rest (c.names + i) (omega (arith, read.names)) ∙ sym (get_or-drop c.names o i 0)))

        roles_is : x.signature.roles ≡ c.roles
        roles_is = is.roles ∙ read.roles

        pairs_are : ArePairBytes c.roles (signature_of c.names c.roles g) (content_of s) (content_of t) (take (c.roles * c.roles) z)
        pairs_are = rw (roles_is, is.bytes, is.names, read.names, first, second, read.first_file, read.second_file) at pairs.bytes

        outcome : Outcome s t g o q p z w v
        unfolding size
        outcome =
            let k = both_agree read in
            let work_is = cleared (work_length c.names) v w long_v enough.work (rw read.names at done.zero) (rw read.names at done.past) in
            record {
              bytes = rw (k.first_names, k.first_roles) at bytes_are;
              past = rw k.first_names at rest_is;
              role_bytes = rw (k.first_names, k.first_roles) at pairs_are;
              role_past = rw (roles_is, k.first_roles) at pairs.past;
              work = rw k.first_names at work_is;
            }

        pub compares : Says s t g o q p z w v (Ok d)
        unfolding judged
        compares = record {
          answer = rw (← read.counts, judged) lends;
          refused_result = λ z. absurd (cc);
          refused_roles = λ z. absurd (cc);
          refused_work = λ z. absurd (cc);
          accepted = λ _. outcome;
        }
