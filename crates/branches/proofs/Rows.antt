-- One row: from what a comparison in prepared memory gives to the row of a sheet.
--   result_lent, names_lent, bytes_told     what finding a row asks; its bytes are those that are computed
--   part_inside, given_part, row_is       the signature of a row is a part of all of them, and its row is the sheet's
--   rows_more, rows_filled                one row more, and all of them
use mathlib.Core.Path.{◌≡◌, refl, sym, ap, ◌∙◌}
use mathlib.Core.Bool.{Bool, true, false}
use mathlib.Core.List.{List}
use Prim.Native.Nat.{ℕ, ◌+◌, ◌-◌, ◌*◌, ◌≤◌, ◌<◌}
use native.Mathlib.Nat.{min-le_left, mul-le-mul, mul-le-mul_right, suc-mul}
use native.Mathlib.Omega.{arith}
use borrow.Author.Tests.{eqb-true, eq-eqb, ltb-true}
use lib.Dec.{eqb, ltb}
use lib.ListN.{length, take, drop, get_or, set, length-take, length-drop}
use native.Mathlib.Decide.{ℕ_discrete}
use lib.Seq.{ext_get_or, get_or-take, length-take-le}
use Rattle.std.proofs.lemmas.List.{get_or-set_same, get_or-set_other}
use Rattle.el.specs.Answers.{comparison_bytes}
use Rattle.el.specs.Lists.{pick, all}
use Rattle.el.specs.Terminologies.{Comparable}
use Rattle.el.proofs.Lists.{all_drop, all_take}
use Rattle.el.proofs.Tests.{and_left}
use Rattle.el.proofs.Answers.{comparison_bytes_lem}
use Rattle.el.proofs.Demand3.{one_byte}
use Rattle.release.specs.Files.{content_of, most_names, most_roles}
use Rattle.release.proofs.Linked.{formed, normalised}
use Rattle.release.proofs.Limits.{few_counts}
use Rattle.signature.specs.Bytes.{is_bit, wrong_byte, wrong_length, signature_fault, signature_of}
use Rattle.marks.specs.Memory.{size, Zeroed}
use Rattle.comparison.specs.declared.Releases.{Releases}
use Rattle.comparison.specs.Compared.{Given, Reported, Prepared}
use Rattle.comparison.proofs.Pipeline.{signature_long, both_in}
use Rattle.branches.specs.declared.row.Row.{Row}
use Rattle.branches.specs.Filling.{RowAt, Fits, RowsFilled}
use Rattle.branches.specs.Rows.{RowOf}
use Rattle.branches.specs.Sheets.{most_branches, signature_at, no_row}

-- the result that a row is told of is as long as there can be names
pub result_lent : {g : List ℕ} {r : Releases} {o p : List ℕ} → Reported g r o p → length o ≡ most_names → r.names ≤ length p
result_lent {r = r} told long = omega (arith, told.long, r.few, long)

module _ {g : List ℕ} {r : Releases} {w : List ℕ} (given : Given g r w) where
  pub names_lent : r.names ≤ length g
  names_lent = omega (arith, signature_long r.names r.roles g given.signature)

  comparable : Comparable r.names (signature_of r.names r.roles g) (content_of r.first.file.now) (content_of r.second.file.now)
  comparable = record {
    names_in = λ x h. ltb-true x r.names (and_left (ltb x r.names) _ h);
    first_formed = rw given.both.first_names (formed r.first.file.now given.both.first.accepted);
    second_formed = rw given.both.second_names (formed r.second.file.now given.both.second.accepted);
    first_terms = normalised r.first.file.now given.both.first.accepted;
    second_terms = normalised r.second.file.now given.both.second.accepted;
  }

  pub bytes_told : {o p : List ℕ} → r.names ≤ length p → Reported g r o p
      → take r.names p ≡ comparison_bytes r.names (signature_of r.names r.roles g) (content_of r.first.file.now) (content_of r.second.file.now)
  bytes_told {p = p} l told =
      let are = comparison_bytes_lem comparable in
      let long : length (take r.names p) ≡ r.names = length-take-le r.names p l in
      ext_get_or 0 (take r.names p) _ (long ∙ sym are.long) (λ i h. let k : i < r.names = omega arith in get_or-take r.names p i 0 k ∙ one_byte (told.byte i k) (are.each i k))

pub take_few : (k : ℕ) (p : List ℕ) → k ≤ most_names → length (take k p) ≤ most_names
take_few k p h = omega (arith, length-take k p, min-le_left k (length p))

-- one signature of many
pub part_room : (n m q i : ℕ) → i < q → i * (n + m) + (n + m) ≤ q * (n + m)
part_room n m q i l = omega (arith, mul-le-mul_right (n + m) l, suc-mul i (n + m))

pub one_signature : (n m q : ℕ) (gs : List ℕ) (i : ℕ) → i < q → signature_fault (q * (n + m)) 0 gs ≡ 0 → signature_fault n m (signature_at n m gs i) ≡ 0
unfolding signature_fault
one_signature n m q gs i l h = by_tests (eqb (length gs) (q * (n + m) + 0)) (all is_bit gs) refl refl h
  where
    by_tests : (x y : Bool) → eqb (length gs) (q * (n + m) + 0) ≡ x → all is_bit gs ≡ y → pick x (pick y 0 wrong_byte) wrong_length ≡ 0 → signature_fault n m (signature_at n m gs i) ≡ 0
    by_tests false y e f z = absurd (omega arith)
    by_tests true false e f z = absurd (omega arith)
    by_tests true true e f z =
        let long : length gs ≡ q * (n + m) + 0 = eqb-true _ _ e in
        let rest : length (drop (i * (n + m)) gs) ≡ length gs - i * (n + m) = length-drop (i * (n + m)) gs in
        let part : length (signature_at n m gs i) ≡ n + m = length-take-le (n + m) (drop (i * (n + m)) gs) (omega (arith, part_room n m q i l)) in
        simp (signature_fault, eq-eqb _ _ part, all_take is_bit (n + m) (drop (i * (n + m)) gs) (all_drop is_bit (i * (n + m)) gs f))

-- the row of a signature
module _ {r : Releases} {gs : List ℕ} {ys : List Row} {w : List ℕ} (fits : Fits r gs ys w) where
  pub long_small : r.names + r.roles ≤ most_names + most_roles
  long_small = let h = few_counts r.first.file.now fits.both.first.accepted in omega (arith, h.0, h.1, fits.both.first_names, fits.roles)

  module _ (i : ℕ) (l : i < length ys) where
    pub start_small : i * (r.names + r.roles) ≤ most_branches * (most_names + most_roles)
    start_small = let early : i ≤ most_branches = omega (arith, fits.few) in mul-le-mul early long_small

    pub part_inside : i * (r.names + r.roles) + (r.names + r.roles) ≤ length gs
    part_inside = omega (arith, part_room r.names r.roles (length ys) i l, signature_long (length ys * (r.names + r.roles)) 0 gs fits.signatures)

    -- the part that begins at the place i * (n + m) and ends n + m bytes later
    abbrev part : List ℕ
    part = take (i * (r.names + r.roles) + (r.names + r.roles) - i * (r.names + r.roles)) (drop (i * (r.names + r.roles)) gs)

    part_is : part ≡ signature_at r.names r.roles gs i
    part_is =
        let d : i * (r.names + r.roles) + (r.names + r.roles) - i * (r.names + r.roles) ≡ r.names + r.roles = omega arith in
        ap (λ (z : ℕ). take z (drop (i * (r.names + r.roles)) gs)) d

    pub given_part : {v : List ℕ} → length v ≡ length w → Given part r v
    given_part same = record { both = both_in same fits.both; signature = rw part_is (one_signature r.names r.roles (length ys) gs i l fits.signatures) }

    pub row_is : {rule : ℕ} {v : Row}
        → RowOf rule (take r.names part) (comparison_bytes r.names (signature_of r.names r.roles part) (content_of r.first.file.now) (content_of r.second.file.now)) v
        → RowAt rule r.first.file.now r.second.file.now gs i v
    row_is h = record { is = rw (part_is, fits.both.first_names, fits.roles) at h }

-- one row more
pub rows_more : (IsAt : ℕ → Row → Type 0) (ys : List Row) (i : ℕ) (v : Row) → i < length ys → ((k : ℕ) → k < i → IsAt k (get_or ys k no_row)) → IsAt i v
    → (k : ℕ) → k < i + 1 → IsAt k (get_or (set ys i v) k no_row)
rows_more IsAt ys i v inside before is k h = by_place (ℕ_discrete k i)
  where
    by_place : Dec (k ≡ i) → IsAt k (get_or (set ys i v) k no_row)
    by_place (yes e) = rw (e, get_or-set_same ys i v no_row inside) is
    by_place (no e) = rw (get_or-set_other ys i k v no_row e) (before k (omega arith))

-- all rows: the memory was left as it was prepared, and then set to 0
pub rows_filled : {rule : ℕ} {r : Releases} {gs : List ℕ} {ys zs : List Row} {w w1 u v : List ℕ} {k : ℕ} → Prepared r w w1 → length zs ≡ length ys
    → ((i : ℕ) → i < length ys → RowAt rule r.first.file.now r.second.file.now gs i (get_or zs i no_row))
    → u ≡ w1 → k ≡ 4 * size r.names → Zeroed k u v → RowsFilled rule r gs ys zs w v
rows_filled {r = r} {k = k} ready long each same all cleared =
    let zeroed : Zeroed (4 * size r.names) _ _ = rw (all, same) at cleared in
    record {
      long = long;
      each = each;
      zeroed = record { long = zeroed.long ∙ ready.long; zero = zeroed.zero; past = λ i h. zeroed.past i h ∙ ready.past i h };
    }
