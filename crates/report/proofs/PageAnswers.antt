-- What is answered how long a page is, and what writing it.
--   by_bytes, too_long              whether bytes can be a result
--   few_reported                    a result reports no more names than there can be
--   length_told, no_length          the length by the lines that r reported names take; bytes that are no result have no page
--   length_exact                    the length told is that of the page
--   length_short, written_short     a length that is answered is at most that of the longest page, of 1,023 names reported
--   page_refused                    what refuses the length refuses the page
--   page_lacks, page_fits           whether there is room for the page
use mathlib.Core.Path.{◌≡◌, refl, ap}
use mathlib.Core.Bool.{Bool, true, false}
use mathlib.Core.List.{List}
use Prim.Native.Nat.{ℕ, ◌+◌, ◌*◌, ◌/◌, ◌%◌, ◌≤◌, ◌<◌, min}
use native.Mathlib.Omega.{arith}
use lib.Dec.{leb}
use lib.ListN.{length}
use Rattle.std.specs.List.{list_all}
use Rattle.std.specs.Prelude.{Ok, Err}
use Rattle.std.proofs.lemmas.Bool.{leb-true, le-leb, lt-leb}
use Rattle.el.specs.Comparison.{is_reported}
use Rattle.el.specs.Lists.{pick, count}
use Rattle.el.proofs.Tests.{and_left}
use Rattle.release.specs.Files.{most_names}
use Rattle.branches.proofs.Counts.{count_few}
use Rattle.output.specs.Written.{fitted}
use Rattle.output.proofs.Written.{fits, lacks, fitted_length}
use Rattle.report.specs.Pages.{page, page_length}
use Rattle.report.specs.PagesWritten.{is_result, length_answer, page_answer}
use Rattle.report.specs.declared.refusals.PageRefusal.{PageRefusal}
use Rattle.report.specs.declared.refusals.PageRefusal.TheVariants.{NoResult, ShortOutput}
use Rattle.report.proofs.PageLengths.{page_long}

abbrev pub longest_page : ℕ
longest_page = 16645

module _ (bs : List ℕ) where
  result_short : is_result bs ≡ true → length bs ≤ most_names
  unfolding is_result
  result_short h = leb-true (length bs) most_names (and_left (leb (length bs) most_names) (list_all (λ b. leb b 3) bs) h)

  -- the length is tested, and then the bytes
  pub by_bytes : length bs ≤ most_names → is_result bs ≡ list_all (λ b. leb b 3) bs
  unfolding is_result
  by_bytes h = rw (le-leb (length bs) most_names h) refl

  pub too_long : most_names < length bs → is_result bs ≡ false
  unfolding is_result
  too_long h = rw (lt-leb (length bs) most_names h) refl

  pub few_reported : is_result bs ≡ true → count is_reported bs ≤ most_names
  few_reported h = omega (arith, result_short h, count_few is_reported bs)

  pub length_told : is_result bs ≡ true → (r l : ℕ) → r ≡ count is_reported bs → l ≡ r / 4 + min 1 (r % 4) → Ok (65 * l + l / 50) ≡ length_answer bs
  unfolding length_answer page_length
  length_told h r l counted lines =
      let short = result_short h in
      let long : length (page bs) ≡ page_length (count is_reported bs) = page_long bs (omega arith) in
      let same : 65 * l + l / 50 ≡ length (page bs) = omega (arith, long, counted, lines) in
      rw (h, same) refl

  pub no_length : is_result bs ≡ false → Err NoResult ≡ length_answer bs
  unfolding length_answer
  no_length h = rw h refl

  -- by the answer how long the page is
  by_refusal : (t : Bool) → is_result bs ≡ t → (e : PageRefusal) → Err e ≡ length_answer bs → (is_result bs ≡ false) × (NoResult ≡ e)
  unfolding length_answer
  by_refusal true h e told = let z : Err e ≡ Ok (length (page bs)) = rw h at told in absurd (cc)
  by_refusal false h e told = let z : Err e ≡ Err NoResult = rw h at told in (h, cc)

  by_length : (t : Bool) → is_result bs ≡ t → (k : ℕ) → Ok k ≡ length_answer bs → (is_result bs ≡ true) × (k ≡ length (page bs))
  unfolding length_answer
  by_length true h k told = let z : Ok k ≡ Ok (length (page bs)) = rw h at told in (h, cc)
  by_length false h k told = let z : Ok k ≡ Err NoResult = rw h at told in absurd (cc)

  pub length_exact : (k : ℕ) → Ok k ≡ length_answer bs → k ≡ length (page bs)
  length_exact k told = (by_length (is_result bs) refl k told).1

  short_page : is_result bs ≡ true → length (page bs) ≤ longest_page
  unfolding page_length
  short_page h =
      let short = result_short h in
      let few = few_reported h in
      let long : length (page bs) ≡ page_length (count is_reported bs) = page_long bs (omega arith) in
      omega (arith, few, long)

  pub length_short : (k : ℕ) → Ok k ≡ length_answer bs → k ≤ longest_page
  length_short k told = let made = by_length (is_result bs) refl k told in omega (arith, short_page made.0, made.1)

  module _ (o : List ℕ) where
    pub page_refused : (e : PageRefusal) → Err e ≡ length_answer bs → page_answer bs o ≡ Err e
    unfolding page_answer
    page_refused e told = let refused = by_refusal (is_result bs) refl e told in rw refused.0 (ap Err refused.1)

    pub page_lacks : (k : ℕ) → Ok k ≡ length_answer bs → length o < k → page_answer bs o ≡ Err ShortOutput
    unfolding page_answer
    page_lacks k told few = let made = by_length (is_result bs) refl k told in rw made.0 (lacks ShortOutput (page bs) o (omega (arith, made.1)))

    pub page_fits : (k : ℕ) → Ok k ≡ length_answer bs → k ≤ length o → page_answer bs o ≡ Ok (length (page bs))
    unfolding page_answer
    page_fits k told room = let made = by_length (is_result bs) refl k told in rw made.0 (fits ShortOutput (page bs) o (omega (arith, made.1)))

    pub written_short : (k : ℕ) → Ok k ≡ page_answer bs o → k ≤ longest_page
    unfolding page_answer
    written_short k told = by_test (is_result bs) refl told
      where
        by_test : (t : Bool) → is_result bs ≡ t → Ok k ≡ pick t (fitted ShortOutput (page bs) o) (Err NoResult) → k ≤ longest_page
        by_test true e h = omega (arith, short_page e, (fitted_length ShortOutput (page bs) o k h).0)
        by_test false e h = absurd (cc)
