-- What rewriting answers and leaves, and the pieces of a whole file.
use mathlib.Core.Path.{◌≡◌, refl, sym, ◌∙◌}
use mathlib.Core.Bool.{Bool, true, false, false≢true}
use mathlib.Core.List.{List, ◌++◌}
use Prim.Native.Nat.{ℕ, zero, suc, ◌≤◌, ◌<◌}
use native.Mathlib.Omega.{arith}
use native.Mathlib.Decide.{dec_lt}
use borrow.Author.Tests.{lt-ltb, le-ltb, ne_eqb}
use lib.Dec.{eqb}
use lib.ListN.{length}
use Rattle.std.specs.Prelude.{Result, Ok, Err}
use Rattle.el.specs.Lists.{pick}
use Rattle.el.proofs.Tests.{not_both}
use Rattle.release.specs.declared.Counts.{Counts}
use Rattle.release.specs.Files.{version_of, is_version, most_names_of, names_of, roles_of, count_of, first_place, axioms_of, fault}
use Rattle.release.specs.Readings.{counts_in, checked}
use Rattle.release.specs.Refusals.{Numbers, answer}
use Rattle.release.specs.Versions.{width, has_pairs, said_version}
use Rattle.release.specs.declared.number.Version.{Version}
use Rattle.release.specs.declared.number.Version.TheVariants.{One, Two, Three}
use Rattle.release.proofs.Headers.{says_it}
use Rattle.release.proofs.Numbers.{is_width}
use Rattle.release.proofs.Versions.{plain_version, version_listing}
use Rattle.release.proofs.Checks.{header_sound}
use Rattle.release.proofs.Linked.{no_header_fault}
use Rattle.release.proofs.Refusing.{is_refused, is_accepted}
use Rattle.rewriting.specs.Bytes.{axioms_bytes, header_of}
use Rattle.rewriting.specs.Rewriting.{rewritten, refusal, answer_accepted, source_fault, answer_to, Rewritable, Rewrites, RewritesAs}
use Rattle.output.specs.Places.{Put}
use Rattle.output.specs.Written.{fitted}
use Rattle.output.proofs.Written.{fits, lacks, unchanged, put_written}
use Rattle.rewriting.proofs.Pieces.{header_pieces}
use Rattle.rewriting.proofs.Lengths.{count_length}

-- the pieces of a file: its header and its axioms
pub release_pieces : (w : ℕ) (s : List ℕ) {counts : Counts} → counts ≡ counts_in s → header_of w counts.names counts.roles counts.axioms ++ axioms_bytes w (axioms_of s) ≡ rewritten w s
unfolding rewritten
release_pieces w s is = rw is (rw (count_length (count_of s) s (first_place s)) at (header_pieces w (names_of s) (roles_of s) (axioms_of s)))

-- a file that says another version than 3
pub source_as : (s : List ℕ) → eqb (said_version s) 3 ≡ false → source_fault s ≡ fault s
unfolding source_fault
source_as s other = rw other refl

pub rewritable : (s : List ℕ) → eqb (said_version s) 3 ≡ false → fault s ≡ 0 → Rewritable s
rewritable s other ok =
    let head = header_sound s (no_header_fault s ok) in
    let said : said_version s ≡ version_of s = sym (says_it s (omega (arith, head.long, (is_width s).some)) head.marked refl) in
    let not_3 : eqb (version_of s) 3 ≡ false = rw said at other in
    record { accepted = ok; plain = plain_version s (by_value (version_of s) not_3 head.version) }
  where
    by_value : (v : ℕ) → eqb v 3 ≡ false → is_version v ≡ true → v < 3
    by_value v e h = by_order (dec_lt v 3)
      where
        by_order : Dec (v < 3) → v < 3
        by_order (yes l) = l
        by_order (no n) = absurd (false≢true (rw (ne_eqb v 1 (λ z. omega arith), ne_eqb v 2 (λ z. omega arith), e) at h))

pub source_rewritable : (s : List ℕ) → source_fault s ≡ 0 → Rewritable s
unfolding source_fault
source_rewritable s h = by_test (eqb (said_version s) 3) refl h
  where
    by_test : (b : Bool) → eqb (said_version s) 3 ≡ b → ◌≡◌ {A = ℕ} (pick b 3 (fault s)) 0 → Rewritable s
    by_test true e z = absurd (omega arith)
    by_test false e z = rewritable s e z

pub source_none : (s : List ℕ) → Rewritable s → source_fault s ≡ 0
unfolding source_fault
source_none s ok =
    let head = header_sound s (no_header_fault s ok.accepted) in
    let said : said_version s ≡ version_of s = sym (says_it s (omega (arith, head.long, (is_width s).some)) head.marked refl) in
    let other : eqb (said_version s) 3 ≡ false = ne_eqb _ _ (λ e. not_both (version_listing s Three (sym (sym said ∙ e))) ok.plain) in
    rw other ok.accepted

-- a release is written in a version that lists no pairs
pub as_version : (s : List ℕ) {o q : List ℕ} {answer : Result ℕ Numbers} (v : Version) → has_pairs v ≡ false → Rewrites (width v) s o q answer → RewritesAs v s o q answer
as_version s One e done = done
as_version s Two e done = done
as_version s Three e done = absurd (false≢true (sym e))

pub not_written : (s o : List ℕ) (v : Version) → has_pairs v ≡ true → RewritesAs v s o o (refusal 3 0)
not_written s o One e = absurd (false≢true e)
not_written s o Two e = absurd (false≢true e)
not_written s o Three e = (refl, refl)

-- an accepted release
module _ (w : ℕ) (s o : List ℕ) (ok : source_fault s ≡ 0) where
  answer_of_accepted : answer_to w s o ≡ answer_accepted w s o
  unfolding answer_to
  answer_of_accepted = rw ok

  pub refuses_40 : most_names_of w < names_of s → Rewrites w s o o (refusal 40 1)
  unfolding answer_accepted
  refuses_40 h = unchanged _ (answer_of_accepted ∙ rw (lt-ltb (most_names_of w) (names_of s) h)) refl

  module _ (few : names_of s ≤ most_names_of w) (long : ℕ) (is : long ≡ length (rewritten w s)) where
    answer_fitted : answer_to w s o ≡ fitted (record { number = 41; side = 0 }) (rewritten w s) o
    unfolding answer_accepted
    answer_fitted = answer_of_accepted ∙ rw (le-ltb (most_names_of w) (names_of s) few)

    pub refuses_41 : length o < long → Rewrites w s o o (refusal 41 0)
    refuses_41 h = unchanged _ (answer_fitted ∙ lacks _ (rewritten w s) o (omega arith)) refl

    pub writes : long ≤ length o → {q : List ℕ} {next : ℕ} → Put o 0 (rewritten w s) q next → Rewrites w s o q (Ok long)
    writes h put = put_written long is h put (answer_fitted ∙ fits _ (rewritten w s) o (omega arith)) refl

-- a release that is refused itself
pub refused_by_lem : (f : ℕ) (w : ℕ) (s o : List ℕ) (r : Numbers) → source_fault s ≡ f → answer 1 f (counts_in s) ≡ Err r → Rewrites w s o o (Err r)
unfolding answer_to
refused_by_lem zero w s o r e h = absurd (omega (arith, (is_refused 1 0 (counts_in s) r (sym h)).1))
refused_by_lem (suc f) w s o r e h = let z = is_refused 1 (suc f) (counts_in s) r (sym h) in unchanged r (rw (e, z.0)) refl

pub release_refused : (w : ℕ) (s o : List ℕ) (n : Numbers) → eqb (said_version s) 3 ≡ false → Err n ≡ checked s → Rewrites w s o o (Err n)
unfolding checked
release_refused w s o n other h = refused_by_lem (fault s) w s o n (source_as s other) (sym h)

-- one that says version 3
pub pairs_refused : (w : ℕ) (s o : List ℕ) → eqb (said_version s) 3 ≡ true → Rewrites w s o o (refusal 3 1)
unfolding answer_to source_fault
pairs_refused w s o e = unchanged _ (rw e refl) refl

-- an accepted one
pub accepted : (s : List ℕ) (c : Counts) → Ok c ≡ checked s → (fault s ≡ 0) × (c ≡ counts_in s)
unfolding checked
accepted s c h = is_accepted 1 (fault s) (counts_in s) c h
