-- Axioms by their left names, which rise in a file.
--   lower x al       the axioms among al of names below x;  upper x al: those of the other names
--   has x al         the name x has an axiom among al
--   inserted a al    al with the axiom a at its place
--   withdrawn x al   al without the axiom of x
use Rattle.std.specs.Prelude.{Bool, List, [], ◌∷◌, ◌++◌, ℕ, suc, eqb, ltb, leb}
use Rattle.el.specs.Lists.{pick, any}
use Rattle.el.specs.Axioms.{Axiom}

unfoldable pub lower : ℕ → List Axiom → List Axiom
lower x [] = []
lower x (a ∷ al) = pick (ltb a.left x) (a ∷ lower x al) (lower x al)

unfoldable pub upper : ℕ → List Axiom → List Axiom
upper x [] = []
upper x (a ∷ al) = pick (leb x a.left) (a ∷ upper x al) (upper x al)

unfoldable pub has : ℕ → List Axiom → Bool
has x al = any (λ a. eqb a.left x) al

unfoldable pub inserted : Axiom → List Axiom → List Axiom
inserted a al = lower a.left al ++ (a ∷ upper a.left al)

unfoldable pub withdrawn : ℕ → List Axiom → List Axiom
withdrawn x al = lower x al ++ upper (suc x) al
