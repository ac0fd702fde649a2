-- The whole file: what is known after the header and after the pairs, and the answer in each case.
use mathlib.Core.Path.{◌≡◌, refl, sym, ◌∙◌}
use mathlib.Core.Bool.{Bool, true, false, not, true≢false}
use mathlib.Core.List.{List}
use Prim.Native.Nat.{ℕ, ◌≤◌, ◌<◌}
use native.Mathlib.Omega.{arith}
use borrow.Author.Tests.{ltb-false}
use lib.Dec.{ltb}
use lib.ListN.{length, get_or}
use Rattle.el.specs.Lists.{pick}
use Rattle.el.proofs.Tests.{Tells}
use Rattle.std.specs.Prelude.{Result, Ok, Err}
use Rattle.release.specs.declared.Counts.{Counts}
use Rattle.release.specs.declared.refusals.FileRefusal.{FileRefusal}
use Rattle.release.specs.declared.refusals.FileRefusal.TheVariants.{DefinedConjunct}
use Rattle.release.specs.declared.roles.RoleTable.{RoleTable}
use Rattle.release.specs.declared.table.Table.{Table}
use Rattle.release.specs.Files.{mark, starts_with, is_version, version_of, width_of, names_of, roles_of, count_of, header_length, pair_count, pairs_place, first_place, most_names}
use Rattle.release.specs.Files.{most_names_of, most_roles}
use Rattle.release.specs.Files.{header_fault, least_pair, pairs_fault, pairs_of, axioms_fault, axioms_of, conjunct_defined, fault}
use Rattle.release.specs.Readings.{counts_in, checked}
use Rattle.release.specs.Refusals.{file_refusal, answer}
use Rattle.release.specs.Roles.{RolesOf}
use Rattle.release.specs.Tables.{kind_at, PairsReady, PairsRead, Ready, AxiomsRead, Shaped, SomePartDefined, Blank, ReleaseRead, Release}
use Rattle.release.proofs.Refusing.{accepts, first_some, is_refused, is_accepted, passes_on}
use Rattle.release.proofs.Numbers.{limit_within}
use Rattle.release.proofs.Sound.{passed}
use Rattle.release.proofs.Decoding.{shaped}
use Rattle.release.proofs.RolePairs.{first_within}
use Rattle.release.proofs.Versions.{header_far, few_pairs}
use Rattle.release.proofs.NormalForm.{defined_parts}

-- a header without fault
pub record Header (s : List ℕ) : Type 0 where
  pub marked : starts_with mark s ≡ true
  pub version : is_version (version_of s) ≡ true
  pub long : header_length (width_of s) false ≤ length s
  pub whole : pairs_place s ≤ length s
  pub names_by_width : names_of s ≤ most_names_of (width_of s)
  pub names : names_of s ≤ most_names
  pub roles : roles_of s ≤ most_roles
  pub count : count_of s ≤ names_of s

not_false : (b : Bool) → not b ≡ false → b ≡ true
not_false true h = refl
not_false false h = absurd (true≢false h)

pub header_sound : (s : List ℕ) → header_fault s ≡ 0 → Header s
unfolding header_fault
header_sound s h =
    let a = passed (ltb (length s) (header_length 1 false)) 0 _ h in
    let b = passed (not (starts_with mark s)) 1 _ a.1 in
    let c = passed (not (is_version (version_of s))) 2 _ b.1 in
    let d = passed (ltb (length s) (pairs_place s)) 0 _ c.1 in
    let e = passed (ltb (most_names_of (width_of s)) (names_of s)) 3 _ d.1 in
    let f = passed (ltb most_roles (roles_of s)) 4 _ e.1 in
    let g = passed (ltb (names_of s) (count_of s)) 5 _ f.1 in
    let few : names_of s ≤ most_names_of (width_of s) = ltb-false _ _ e.0 in
    record {
      marked = not_false _ b.0;
      version = not_false _ c.0;
      long = omega (arith, ltb-false _ _ d.0, header_far s);
      whole = ltb-false _ _ d.0;
      names_by_width = few;
      names = omega (arith, few, limit_within (width_of s));
      roles = ltb-false _ _ f.0;
      count = ltb-false _ _ g.0;
    }

-- the answers
module _ (s : List ℕ) where
  -- a part's first refusal is that of the whole file
  refused_by : {A : Type 0} {t : Table} (f : ℕ) (a : A) (e : FileRefusal) → Err (file_refusal e) ≡ answer 1 f a → (0 < f → fault s ≡ f) → ReleaseRead s t (Err e)
  unfolding checked
  refused_by f a e is whole =
      let z = is_refused 1 f a (file_refusal e) is in
      record {
        answer = passes_on 1 f (fault s) a (counts_in s) (file_refusal e) is whole;
        decoded = λ w. absurd (omega (arith, whole z.1, z.1, w));
        roles = λ w. absurd (omega (arith, whole z.1, z.1, w));
      }

  pub refuses_header : {t : Table} (e : FileRefusal) → Err (file_refusal e) ≡ answer 1 (header_fault s) (counts_in s) → ReleaseRead s t (Err e)
  unfolding fault
  refuses_header e is = refused_by (header_fault s) (counts_in s) e is (λ some. first_some (header_fault s) _ some)

  -- behind a header that was accepted, with the counts that it gave
  module _ {c : Counts} (told : Ok c ≡ answer 1 (header_fault s) (counts_in s)) where
    no_fault : header_fault s ≡ 0
    no_fault = (is_accepted 1 (header_fault s) (counts_in s) c told).0

    counts_same : c ≡ counts_in s
    counts_same = (is_accepted 1 (header_fault s) (counts_in s) c told).1

    header : Header s
    header = header_sound s no_fault

    pub pairs_ready : PairsReady c.roles s
    pairs_ready = let is : PairsReady (roles_of s) s = record { long = header.whole; few = header.roles } in rw counts_same is

    abbrev pair_number : ℕ
    pair_number = pairs_fault (roles_of s) (pair_count s) least_pair s (pairs_place s)

    pub refuses_pairs : {t : Table} {roles : RoleTable} (e : FileRefusal) → PairsRead c.roles s roles (Err e) → ReleaseRead s t (Err e)
    unfolding fault
    refuses_pairs {roles = roles} e given =
        let read : PairsRead (roles_of s) s roles (Err e) = rw counts_same at given in
        refused_by pair_number tt e read.fault (λ some. rw (fault, no_fault) (first_some pair_number _ some))

    -- behind pairs that were accepted
    module _ {roles : RoleTable} (listed : PairsRead c.roles s roles (Ok tt)) where
      pairs_read : PairsRead (roles_of s) s roles (Ok tt)
      pairs_read = rw counts_same at listed

      no_pair : pair_number ≡ 0
      no_pair = (is_accepted 1 pair_number tt tt pairs_read.fault).0

      long : first_place s ≤ length s
      long = first_within (roles_of s) s header.whole no_pair

      pub ready : {t : Table} (known : RoleTable) → Blank t → get_or s 10 0 ≤ 255 → Ready c.names c.roles c.axioms s (record { rows = t.rows; roles = known })
      unfolding kind_at
      ready {t} known b small =
          let is : Ready (names_of s) (roles_of s) (count_of s) s (record { rows = t.rows; roles = known }) = record {
            long = long;
            few_pairs = few_pairs s small;
            names = header.names;
            roles = header.roles;
            count = header.count;
            blank = λ x l. b.blank x (omega (arith, header.names));
          } in
          rw counts_same is

      abbrev axiom_number : ℕ
      axiom_number = axioms_fault (width_of s) (names_of s) (roles_of s) (count_of s) 0 s (first_place s)

      abbrev HasRead : Table → Table → Result Unit FileRefusal → Type 0
      HasRead = AxiomsRead (names_of s) (roles_of s) (count_of s) s

      pub refuses_axioms : {old t : Table} (e : FileRefusal) → AxiomsRead c.names c.roles c.axioms s old t (Err e) → ReleaseRead s t (Err e)
      unfolding fault
      refuses_axioms {old} {t} e given =
          let read : HasRead old t (Err e) = rw counts_same at given in refused_by axiom_number tt e read.fault (λ some. rw (fault, no_fault, no_pair) (first_some axiom_number _ some))

      module _ {old t : Table} (given : AxiomsRead c.names c.roles c.axioms s old t (Ok tt)) where
        read : HasRead old t (Ok tt)
        read = rw counts_same at given

        none : axiom_number ≡ 0
        none = (is_accepted 1 axiom_number tt tt read.fault).0

        is_shaped : Shaped (names_of s) s t
        is_shaped = shaped (roles_of s) (read.decoded none) none header.roles long

        pub read_shaped : Shaped c.names s t
        read_shaped = rw counts_same is_shaped

        conjunct : (b : Bool) → Tells b (SomePartDefined c.names s t) → b ≡ conjunct_defined (axioms_of s)
        conjunct b tells = defined_parts (roles_of s) (read.decoded none) none b (rw counts_same at tells)

        last : fault s ≡ pick (conjunct_defined (axioms_of s)) 15 0
        unfolding fault
        last = rw (fault, no_fault, no_pair, none)

        pub refuses_15 : (b : Bool) → Tells b (SomePartDefined c.names s t) → b ≡ true → ReleaseRead s t (Err DefinedConjunct)
        refuses_15 b tells e = refused_by {A = Unit {0}} 15 tt DefinedConjunct refl (λ some. last ∙ rw (← conjunct b tells, e))

        -- the axioms were read into a table with the roles of the pairs
        module _ (kept : old.roles ≡ roles) where
          known : RolesOf (pairs_of s) t.roles
          known = rw (read.roles, kept) (pairs_read.roles no_pair)

          whole : conjunct_defined (axioms_of s) ≡ false → ReleaseRead s t (Ok (counts_in s))
          unfolding checked
          whole e = let z : fault s ≡ 0 = last ∙ rw e in record { answer = accepts 1 (fault s) (counts_in s) z; decoded = λ w. read.decoded none; roles = λ w. known }

          pub accepts_file : (b : Bool) → Tells b (SomePartDefined c.names s t) → b ≡ false → ReleaseRead s t (Ok c)
          accepts_file b tells e = rw counts_same (whole (sym (conjunct b tells) ∙ e))

-- what a release that was read is
module _ {s : List ℕ} {t : Table} where
  pub is_release : {c : Counts} → ReleaseRead s t (Ok c) → Release s t
  unfolding checked
  is_release {c} read = let z = is_accepted 1 (fault s) (counts_in s) c read.answer in record { accepted = z.0; decoded = read.decoded z.0; roles = read.roles z.0 }

  pub counts_are : {c : Counts} → ReleaseRead s t (Ok c) → c ≡ counts_in s
  unfolding checked
  counts_are {c} read = (is_accepted 1 (fault s) (counts_in s) c read.answer).1
