-- By each rule there is just one share. To the nearest, of two different numbers the greater is too far, or both are exactly a half away, next
-- to each other, and only one of them is even.
--   ruled                    the number of a rule is one of a rule
--   share_divided            the share rounded down, by whether a name is chosen
--   one_share, one_row       by each rule there is just one share, and of the same bytes just one row
use mathlib.Core.Path.{◌≡◌, refl, sym, ◌∙◌}
use mathlib.Core.Bool.{true}
use mathlib.Core.List.{List}
use mathlib.Core.Logic.{⊎_elim, inl, inr}
use Prim.Native.Nat.{ℕ, zero, suc, ◌+◌, ◌*◌, ◌/◌, ◌%◌, ◌≤◌, ◌<◌}
use native.Mathlib.Nat.{mod-lt, mul-le-mul_right}
use native.Mathlib.Omega.{arith}
use borrow.Author.Tests.{eqb-true, eq-eqb, ne_eqb}
use lib.Dec.{eqb}
use Rattle.std.proofs.lemmas.Bool.{cases_lt}
use Rattle.std.proofs.lemmas.Nat.{div-add-mod'}
use Rattle.std.specs.Option.{SomeIff, unwrap_or}
use Rattle.std.specs.Prelude.{Option, Some, None}
use Rattle.el.specs.Lists.{count}
use Rattle.el.specs.Comparison.{is_reported}
use Rattle.el.proofs.Tests.{which}
use Rattle.branches.specs.declared.rounding.Rounding.{Rounding}
use Rattle.branches.specs.declared.rounding.Rounding.TheVariants.{Down, ToNearest}
use Rattle.branches.specs.declared.row.Row.{Row}
use Rattle.branches.specs.Rows.{is_chosen, RowOf}
use Rattle.branches.specs.Shares.{rule_number, is_rule, share_down, distance, IsNearest, OneShare}

pub ruled : (k : Rounding) {rule : ℕ} → rule_number k ≡ rule → is_rule rule ≡ true
ruled Down e = rw (← e) refl
ruled ToNearest e = rw (← e) refl

-- rounded down
pub share_divided : (r c : ℕ) (d : Option ℕ) → SomeIff d (0 < c) (r * 1000 / c) → unwrap_or d 0 ≡ share_down r c
unfolding share_down
share_divided r c None h = let none : c ≡ 0 = omega arith in simp (share_down, eq-eqb c 0 none)
share_divided r c (Some q) (some, e) = simp (share_down, ne_eqb c 0 (λ z. omega arith)) e

-- to the nearest
none_below : (r c s t : ℕ) → 0 < c → IsNearest r c s → IsNearest r c t → s < t → ⊥
none_below r c s t some first second h =
    let far : suc s * c ≤ t * c = mul-le-mul_right c h in
    let near_s = first.near some in
    let near_t = second.near some in
    let half_s : 2 * distance (s * c) (r * 1000) ≡ c = omega arith in
    let half_t : 2 * distance (t * c) (r * 1000) ≡ c = omega arith in
    let even_s = first.even some half_s in
    let even_t = second.even some half_t in
    let gap : suc (suc s) ≤ t = omega arith in
    let further : suc (suc s) * c ≤ t * c = mul-le-mul_right c gap in
    omega arith

one_nearest : (r c s t : ℕ) → IsNearest r c s → IsNearest r c t → s ≡ t
one_nearest r zero s t first second = first.none_chosen refl ∙ sym (second.none_chosen refl)
one_nearest r (suc c) s t first second = ⊎_elim (λ below. absurd (none_below r (suc c) s t (omega arith) first second below)) not_below (cases_lt s t)
  where
    not_below : t ≤ s → s ≡ t
    not_below h = ⊎_elim (λ below. absurd (none_below r (suc c) t s (omega arith) second first below)) (λ k. omega arith) (cases_lt t s)

record Near (r c : ℕ) : Type 0 where
  pub share : ℕ
  pub is : IsNearest r c share

-- by the whole part, and by whether the rest is below a half, above it, or a half beside an even or an odd whole part
near_divided : (r c whole rest : ℕ) → 0 < c → rest < c → whole * c + rest ≡ r * 1000 → Near r c
near_divided r c whole rest some small e = ⊎_elim below (λ reached. ⊎_elim above (half reached) (cases_lt c (2 * rest))) (cases_lt (2 * rest) c)
  where
    near : (s : ℕ) → 2 * distance (s * c) (r * 1000) ≤ c → (2 * distance (s * c) (r * 1000) ≡ c → s % 2 ≡ 0) → Near r c
    near s within evenly = record { share = s; is = record { none_chosen = λ z. absurd (omega arith); near = λ _. within; even = λ _. evenly } }

    below : 2 * rest < c → Near r c
    below h = near whole (omega arith) (λ z. absurd (omega arith))

    above : c < 2 * rest → Near r c
    above h = near (whole + 1) (omega arith) (λ z. absurd (omega arith))

    half : c ≤ 2 * rest → 2 * rest ≤ c → Near r c
    half h k = ⊎_elim (λ odd. near (whole + 1) (omega arith) (λ _. omega arith)) (λ even. near whole (omega arith) (λ _. omega arith)) (cases_lt 0 (whole % 2))

nearest : (r c : ℕ) → Near r c
nearest r zero = record { share = 0; is = record { none_chosen = λ _. refl; near = λ z. absurd (omega arith); even = λ z. absurd (omega arith) } }
nearest r (suc c) = near_divided r (suc c) (r * 1000 / suc c) (r * 1000 % suc c) (omega arith) (mod-lt (r * 1000) (omega arith)) (div-add-mod' (r * 1000) (suc c))

-- by each rule
down : (r c : ℕ) → OneShare 1 r c
down r c = record { share = share_down r c; is = record { down = λ _. refl; to_nearest = λ e. absurd (omega arith) }; only = λ s h. h.down refl }

to_nearest : (r c : ℕ) → OneShare 2 r c
to_nearest r c =
    let n = nearest r c in
    record {
      share = n.share;
      is = record { down = λ e. absurd (omega arith); to_nearest = λ _. n.is };
      only = λ s h. one_nearest r c s n.share (h.to_nearest refl) n.is;
    }

pub one_share : (rule r c : ℕ) → is_rule rule ≡ true → OneShare rule r c
one_share rule r c h = elim (which (eqb rule 1)) [
  | inl e ↦ (rw (eqb-true rule 1 e) (down r c))
  | inr e ↦ (rw (eqb-true rule 2 (rw e at h)) (to_nearest r c))
]

-- so two rows of the same bytes are the same
pub one_row : {rule : ℕ} {g bs : List ℕ} {r u : Row} → is_rule rule ≡ true → RowOf rule g bs r → RowOf rule g bs u → r ≡ u
one_row {rule} {g} {bs} {r} {u} h first second =
    let one = one_share rule (count is_reported bs) (count is_chosen g) h in
    let share = one.only r.share first.share ∙ sym (one.only u.share second.share) in
    rw (first.chosen ∙ sym second.chosen, first.left ∙ sym second.left, first.right ∙ sym second.right, share) refl
