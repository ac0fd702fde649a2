-- What stands in an accepted file where the code reads.
--   AllStand c s p     each of the c axioms from place p on stands in the file s
use mathlib.Core.Path.{refl, ◌≡◌, ap}
use mathlib.Core.List.{List}
use Prim.Native.Nat.{ℕ, suc, ◌+◌, ◌-◌, ◌*◌, ◌≤◌, ◌<◌}
use native.Mathlib.Omega.{arith}
use lib.ListN.{length, get_or}
use Rattle.release.specs.Files.{width_of, count_of, first_place, axiom_length, fault}
use Rattle.release.specs.declared.Counts.{Counts}
use Rattle.release.specs.Readings.{counts_in}
use Rattle.release.specs.Tables.{Stands, here, there}
use Rattle.release.proofs.Sound.{tail_within}
use Rattle.release.proofs.Checks.{header_sound}
use Rattle.rewriting.specs.Rewriting.{Rewritable}
use Rattle.release.proofs.Linked.{sound_at, axiom_kind, no_header_fault}
use Rattle.release.specs.declared.number.Version.{Version}
use Rattle.release.specs.declared.number.Version.TheVariants.{One, Two, Three}
use Rattle.release.specs.Versions.{width}
use Rattle.rewriting.specs.Stands.{TailStands, AxiomStands}

-- the first of k names
module _ (w k p end : ℕ) (more : 0 < k) (inside : p + w * k ≤ end) where
  counted : (j : ℕ) → k ≡ suc j → (p + w ≤ end) × (p + w + w * j ≤ end)
  counted j e =
      let l : p + w * suc j ≤ end = rw e at inside in
      (omega arith, omega arith)

  pub others_inside : (j : ℕ) → k ≡ suc j → p + w + w * j ≤ end
  others_inside j e = (counted j e).1

-- an axiom
module _ (w : ℕ) (s : List ℕ) (p : ℕ) where
  pub tail_stands : AxiomStands w s p → TailStands w (get_or s (p + w) 0) s (p + w + 1)
  tail_stands stands = record { inside = omega (arith, stands.inside) }

pub record AllStand (c : ℕ) (s : List ℕ) (p : ℕ) : Type 0 where
  pub each : {q : ℕ} → Stands c s p q → AxiomStands (width_of s) s q

pub all_stand : (s : List ℕ) → Rewritable s → AllStand (count_of s) s (first_place s)
all_stand s ok = record {
  each = λ {q} i.
      let sound = sound_at s ok.accepted i in
      let t = tail_within _ _ _ _ s (q + width_of s + 1) sound.tail in
      record { kind = axiom_kind (width_of s) s q sound.tail; inside = omega (arith, t.0) };
}

module _ (c : ℕ) (s : List ℕ) (p j : ℕ) (more : c ≡ suc j) (all : AllStand c s p) (w : ℕ) (e : w ≡ width_of s) where
  pub first_stands : AxiomStands w s p
  first_stands = rw e (all.each (rw more here))

  pub others_stand : AllStand j s (p + axiom_length w s p)
  others_stand = rw e (record { each = λ i. all.each (rw more (there i)) })

-- the header
pub has_version : (s : List ℕ) → fault s ≡ 0 → 3 < length s
has_version s ok = omega (arith, (header_sound s (no_header_fault s ok)).long)

-- a version's width
pub width_few : (v : Version) → width v ≤ 2
width_few One = omega arith
width_few Two = omega arith
width_few Three = omega arith

pub width_wide : (v : Version) → (width v ≡ 1 → ⊥) → width v ≡ 2
width_wide One n = absurd (n refl)
width_wide Two n = refl
width_wide Three n = refl

-- the number of axioms, as the header says it; where some are left, one more is
pub axioms_counted : (s : List ℕ) {c : Counts} → c ≡ counts_in s → c.axioms ≡ count_of s
axioms_counted s e = ap (λ (a : Counts). a.axioms) e

pub one_left : {n c k : ℕ} → n ≡ c → k < n → c - k ≡ suc (c - (k + 1))
one_left e h = omega arith
