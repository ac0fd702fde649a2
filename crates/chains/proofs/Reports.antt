-- Reports of accepted comparisons, across one release or many.
--   accepted_input       what an accepted comparison was given: accepted releases with the same counts, and an accepted signature
--   across_all, across   the law for any number of steps, and for two
use mathlib.Core.Path.{◌≡◌, sym, ap, ◌∙◌}
use mathlib.Core.Logic.{◌⊎◌, inl, inr}
use mathlib.Core.Bool.{true, false≢true}
use mathlib.Core.List.{List, [], ◌∷◌}
use Prim.Native.Nat.{ℕ, ◌*◌, ◌<◌}
use lib.ListN.{take}
use Rattle.el.specs.Comparison.{on_left, on_right}
use Rattle.release.specs.Files.{names_of, roles_of}
use Rattle.release.specs.Refusals.{told}
use Rattle.demands.specs.Inputs.{Accepted}
use Rattle.meanings.specs.Refusals.{compare_refusal}
use Rattle.meanings.proofs.Promise.{known}
use Rattle.chains.specs.Chains.{last_from, Steps, end, step}
use Rattle.chains.specs.Reports.{Report, byte_in, pair_in, IsEmpty, Across, AcrossAll}
use native.Mathlib.Omega.{arith}
use Rattle.chains.proofs.Chains.{no_step, some_weaker}
use Rattle.chains.proofs.Told.{BytesTold, chosen_below, left_told, right_told, left_steps, right_steps, PairsTold, PairTold, pair_steps, no_side, no_pair}

pub accepted_input : {g s t : List ℕ} → Report g s t → Accepted s t g
accepted_input {g} {s} {t} r =
    let found = known s t g _ _ _ r.counts (sym r.call.says.answer ∙ ap (told compare_refusal) r.accepted) in
    let both = found.0 in
    record {
      first = both.first;
      second = both.second;
      names = sym both.first_names ∙ both.second_names;
      roles = sym both.first_roles ∙ both.second_roles;
      signature = rw (both.first_names, both.first_roles) at found.1.signature;
    }

abbrev pub bytes_told : (g s t : List ℕ) → Report g s t → BytesTold g s t
bytes_told g s t r = record { accepted = accepted_input r; bytes = take (names_of s) r.call.result; are = (r.call.says.accepted r.accepted).bytes }

abbrev pub pairs_told : (g s t : List ℕ) → Report g s t → PairsTold g s t
pairs_told g s t r = record {
  accepted = accepted_input r;
  bytes = take (roles_of s * roles_of s) r.call.role_result;
  are = (r.call.says.accepted r.accepted).role_bytes;
}

module _ {g : List ℕ} (a : ℕ) (x y : List ℕ) (r : Report g x y) where
  left_not_empty : on_left (byte_in r a) ≡ true → IsEmpty r → ⊥
  left_not_empty h none = let w = left_told (bytes_told g x y r) a h in false≢true (sym (ap on_left (none.no_name a (chosen_below (bytes_told g x y r) a w.0))) ∙ h)

  right_not_empty : on_right (byte_in r a) ≡ true → IsEmpty r → ⊥
  right_not_empty h none = let w = right_told (bytes_told g x y r) a h in false≢true (sym (ap on_right (none.no_name a (chosen_below (bytes_told g x y r) a w.0))) ∙ h)

module _ {g : List ℕ} (i j : ℕ) (x y : List ℕ) (r : Report g x y) where
  pair_not_empty : PairTold (pairs_told g x y r) i j → IsEmpty r → ⊥
  pair_not_empty p none = omega (arith, p.told, none.no_pair i j p.lower p.upper)

pub across_all : {g s : List ℕ} {ts : List (List ℕ)} (steps : Steps (Report g) s ts) (over : Report g s (last_from s ts)) → AcrossAll steps over
across_all {g} {s} {ts} steps over =
    let all = bytes_told g s (last_from s ts) over in
    let pairs = pairs_told g s (last_from s ts) over in
    record {
      left = λ a. left_steps (bytes_told g) a steps all;
      right = λ a. right_steps (bytes_told g) a steps all;
      pair = λ i j i_in j_in h. some_weaker (λ x y r p. p.told) steps (pair_steps (pairs_told g) i j steps pairs i_in j_in h);
      empty = λ none. record {
        no_name = λ a l. no_side (byte_in over a) (all.are.each a l).small
            (λ h. no_step (left_not_empty a) steps (left_steps (bytes_told g) a steps all h) none)
            (λ h. no_step (right_not_empty a) steps (right_steps (bytes_told g) a steps all h) none);
        no_pair = λ i j i_in j_in. no_pair (pair_in over i j) (pairs.are.each i j i_in j_in).small
            (λ h. no_step (pair_not_empty i j) steps (pair_steps (pairs_told g) i j steps pairs i_in j_in h) none);
      };
    }

one_of : {A B : Type 0} → A ⊎ (B ⊎ ⊥) → A ⊎ B
one_of (inl x) = inl x
one_of (inr (inl y)) = inr y
one_of (inr (inr z)) = absurd z

pub across : {g s t u : List ℕ} (one : Report g s t) (two : Report g t u) (over : Report g s u) → Across one two over
across {g} {s} {t} {u} one two over =
    let steps : Steps (Report g) s (t ∷ u ∷ []) = step one (step two end) in
    let all = across_all steps over in
    record { left = λ a h. one_of (all.left a h); right = λ a h. one_of (all.right a h); pair = λ i j k l h. one_of (all.pair i j k l h); empty = λ e f. all.empty (e, (f, tt)) }
