-- What is derivable holds in every model.
--   sound             a derivation keeps a point of a model in the concept
--   derives_entails   derivable inclusions are entailed; under_entails: and so is a role under another. The converses are in
--                     CanonicalModel
use Prim.Native.Nat.{ℕ}
use Rattle.el.specs.Concepts.{Concept}
use Rattle.el.specs.Axioms.{Terminology}
use Rattle.el.specs.Derivability.{Under, Derives, same, to_top, one, other, meet, under, chain, stated, defined, widen}
use Rattle.el.specs.Interpretations.{Interpretation, Sat, Model, Entails, EntailsRole}
use Rattle.el.proofs.Roles.{wider_under}

pub under_entails : {t : Terminology} {r s : ℕ} → Under t.roles r s → EntailsRole t r s
under_entails u i m x y e = wider_under (λ r. i.edge r x y) (λ p h. m.wider h x y) u e

pub sound : {t : Terminology} {c d : Concept} → Derives t c d → {i : Interpretation} → Model t i → (x : i.Point) → Sat i x c → Sat i x d
sound same m x s = s
sound to_top m x s = tt
sound one m x s = s.0
sound other m x s = s.1
sound (meet p q) m x s = (sound p m x s, sound q m x s)
sound (under p) m x s = (s.0, s.1, sound p m s.0 s.2)
sound (chain p q) m x s = sound q m x (sound p m x s)
sound (stated h) m x s = m.down h x s
sound (defined h e) m x s = m.up h e x s
sound (widen u) m x s = (s.0, under_entails u _ m x s.0 s.1, s.2)

pub derives_entails : {t : Terminology} {c d : Concept} → Derives t c d → Entails t c d
derives_entails p i m x s = sound p m x s
