-- Showing an axiom: "a part of whichever release holds it, from its name byte to its last byte".
--   place_in side s x           where the axiom of the name x stands in the accepted file s, which is the release on that side
--   shown_place s t side x       which of the two files the part is in, where it starts and how long it is
--   Shown first second side x p   p is that part: its bytes, and its place in memory
use Rattle.std.specs.Prelude.{◌≡◌, ◌&&◌, List, ℕ, zero, suc, ◌+◌, eqb, take, drop}
use Rattle.std.specs.Borrow.{Bor}
use Rattle.el.specs.Lists.{pick}
use Rattle.release.specs.Files.{number, width_of, count_of, first_place, axiom_length, accepted}
use Rattle.release.specs.declared.show.Place.{Place}

-- empty, at the start of the first file
abbrev pub nowhere : Place
nowhere = record { side = 1; start = 0; length = 0 }

-- the axiom of x among c axioms from place p on, in the file on the given side
unfoldable pub place_from : ℕ → ℕ → List ℕ → ℕ → ℕ → Place
place_from side zero s p x = nowhere
place_from side (suc c) s p x = pick (eqb (number (width_of s) s p) x) (record { side = side; start = p; length = axiom_length (width_of s) s p })
    (place_from side c s (p + axiom_length (width_of s) s p) x)

abbrev pub place_in : ℕ → List ℕ → ℕ → Place
place_in side s x = place_from side (count_of s) s (first_place s) x

unfoldable pub shown_place : List ℕ → List ℕ → ℕ → ℕ → Place
shown_place s t side x = pick (accepted s && accepted t) (pick (eqb side 1) (place_in 1 s x) (pick (eqb side 2) (place_in 2 t x) nowhere)) nowhere

-- the file that holds the part
abbrev pub holder : {X : Type 0} → X → X → Place → X
holder first second place = pick (eqb place.side 2) second first

pub record Shown (first second : Bor (List ℕ)) (side x : ℕ) (p : Bor (List ℕ)) : Type 0 where
  pub bytes : p.now ≡ take (shown_place first.now second.now side x).length (drop (shown_place first.now second.now side x).start (holder first second (shown_place first.now second.now side x)).now)
  -- a pointer is a block of memory and a place in it
  pub block : p.ref_ptr.0 ≡ (holder first second (shown_place first.now second.now side x)).ref_ptr.0
  pub place : p.ref_ptr.1 ≡ (holder first second (shown_place first.now second.now side x)).ref_ptr.1 + (shown_place first.now second.now side x).start
