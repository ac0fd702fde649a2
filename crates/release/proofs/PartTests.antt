-- The conjuncts of a name asked one after the other: by `any` for one of which a test holds, by `all` whether it holds of each.
use mathlib.Core.Path.{◌≡◌, refl, sym, ap, ◌∙◌, subst}
use mathlib.Core.Bool.{Bool, true, false}
use mathlib.Core.List.{List, [], ◌∷◌}
use Prim.Native.Nat.{ℕ, zero, suc, ◌+◌, ◌<◌}
use native.Mathlib.Omega.{arith}
use lib.ListN.{length, get_or}
use denote.Param.Members.{Mut, Called}
use Rattle.std.specs.Prelude.{Option, MatchOption, MatchBool}
use Rattle.std.specs.List.{FoldsTo, HoldsAt, AllWithin}
use Rattle.std.specs.Iterator.{Yields, YieldsThen, CallableAtEachTurn, AlwaysYields}
use Rattle.std.proofs.lemmas.Iterator.{YieldsList, cases_from_any, cases_from_all}
use Rattle.el.proofs.Tests.{Tells, always, never}
use Rattle.release.specs.Tables.{count_at, part_at}
use Rattle.release.specs.Parts.{PartsOf, PartGiven, SomePart, EachPart}
use Rattle.release.specs.declared.parts.Parts.{Parts}
use Rattle.release.specs.declared.table.Table.{Table}
use Rattle.release.proofs.PartWalks.{part_is, part_among, walk_on, all_given}

-- where calls leave the closure as it is, it is the same after each run
stays : {F : Type 0} (R : F → ℕ → F → Type 0) {f : F} → ((y : ℕ) (q : F) → R f y q → q ≡ f) → (xs : List ℕ) (q : F) → FoldsTo R f xs q → q ≡ f
stays R still [] q c = sym c
stays {F} R {f} still (y ∷ ys) q c = stays R still ys q (subst (λ e. FoldsTo R e ys q) (still y c.0 c.1) c.2)

module _ (s : List ℕ) (t : Table) (x : ℕ) where
  -- k conjuncts from i on; all of them
  abbrev parts_from : ℕ → ℕ → List ℕ
  parts_from zero i = []
  parts_from (suc k) i = part_at s t x i ∷ parts_from k (i + 1)

  how_many : (k i : ℕ) → length (parts_from k i) ≡ k
  how_many zero i = refl
  how_many (suc k) i = omega (arith, how_many k (i + 1))

  one_at : (k i j d : ℕ) → j < k → get_or (parts_from k i) j d ≡ part_at s t x (i + j)
  one_at zero i j d h = absurd (omega arith)
  one_at (suc k) i zero d h = let e : i + 0 ≡ i = omega arith in rw e refl
  one_at (suc k) i (suc j) d h = let e : i + suc j ≡ i + 1 + j = omega arith in rw e (one_at k (i + 1) j d (omega arith))

  abbrev all_parts : List ℕ
  all_parts = parts_from (count_at s t x) 0

  -- a test that holds at a place of the list holds of the conjunct there, and the other way round
  to_list : (P : ℕ → Type 0) (i : ℕ) → i < count_at s t x → P (part_at s t x i) → P (get_or all_parts i 0)
  to_list P i h z = let e : part_at s t x (0 + i) ≡ part_at s t x i = ap (part_at s t x) (omega arith) in subst P (sym (one_at (count_at s t x) 0 i 0 h ∙ e)) z

  of_list : (P : ℕ → Type 0) (i : ℕ) → i < count_at s t x → P (get_or all_parts i 0) → P (part_at s t x i)
  of_list P i h z = let e : part_at s t x (0 + i) ≡ part_at s t x i = ap (part_at s t x) (omega arith) in subst P (one_at (count_at s t x) 0 i 0 h ∙ e) z

  some_told : (P : ℕ → Type 0) (r : Bool) → MatchBool r ((k : ℕ) × (k < length all_parts) × HoldsAt P all_parts k) (AllWithin (λ y. P y → ⊥) all_parts 0 (length all_parts))
      → Tells r (SomePart s t x P)
  some_told P true h = let l : h.0 < count_at s t x = omega (arith, h.1, how_many (count_at s t x) 0) in always (record { index = h.0; among = l; holds = of_list P h.0 l (h.2 0) })
  some_told P false h = never (λ z. h z.index 0 (omega arith) (omega (arith, z.among, how_many (count_at s t x) 0)) (to_list P z.index z.among z.holds))

  each_told : (P : ℕ → Type 0) (r : Bool) → MatchBool r (AllWithin P all_parts 0 (length all_parts)) ((k : ℕ) × (k < length all_parts) × HoldsAt (λ y. P y → ⊥) all_parts k)
      → Tells r (EachPart s t x P)
  each_told P true h = always (record { at = λ i l. of_list P i l (h i 0 (omega arith) (omega (arith, l, how_many (count_at s t x) 0))) })
  each_told P false h = let l : h.0 < count_at s t x = omega (arith, h.1, how_many (count_at s t x) 0) in never (λ z. h.2 0 (to_list P h.0 l (z.at h.0 l)))

module _ {s : List ℕ} {t : Table} {x : ℕ} where
  given_from : (k i : ℕ) {p : Parts} → PartsOf s t x i p → i + k ≡ count_at s t x → AlwaysYields PartGiven (λ y. y) p (parts_from s t x k i)
  given_from zero i h e = λ y q g. absurd (omega (arith, part_among h g))
  given_from (suc k) i h e = ((λ q g. absurd (omega (arith, all_given h g))), λ y q g. (part_is h g, given_from k (i + 1) (walk_on h g) (omega arith)))

  list_given : {p : Parts} → PartsOf s t x 0 p → YieldsList PartGiven (λ y. y) p (all_parts s t x)
  list_given h = record { runs = given_from (count_at s t x) 0 h (omega arith) }

  -- what `any` and `all` tell (`ensures.ran`), where P is what the closure's answer tells of
  module _ (P : ℕ → Type 0) {F : Type 0} {g : Mut F (ℕ × Unit {0}) Bool} {p u : Parts} {f : F} {r : Bool} where
    pub tells_some : PartsOf s t x 0 p
        → (xs : List ℕ) × (o : Option ℕ) × (j : F) × YieldsThen PartGiven p xs o u × FoldsTo (λ e y q. Called g e (y, tt) false q) f xs j
        × MatchOption o (r ≡ false) (λ y. (r ≡ true) × ((h : F) × Called g j (y, tt) true h))
        → ((y : ℕ) (q : F) → Called g f (y, tt) true q → P y) → ((y : ℕ) (q : F) → Called g f (y, tt) false q → (q ≡ f) × (P y → ⊥)) → Tells r (SomePart s t x P)
    tells_some h ran holds fails = some_told s t x P r (cases_from_any u f r P (λ y. P y → ⊥) ran (list_given h) holds fails)

    pub tells_each : PartsOf s t x 0 p
        → (xs : List ℕ) × (o : Option ℕ) × (j : F) × YieldsThen PartGiven p xs o u × FoldsTo (λ e y q. Called g e (y, tt) true q) f xs j
        × MatchOption o (r ≡ true) (λ y. (r ≡ false) × ((h : F) × Called g j (y, tt) false h))
        → ((y : ℕ) (q : F) → Called g f (y, tt) true q → (q ≡ f) × P y) → ((y : ℕ) (q : F) → Called g f (y, tt) false q → P y → ⊥) → Tells r (EachPart s t x P)
    tells_each h ran holds fails = each_told s t x P r (cases_from_all u f r P (λ y. P y → ⊥) ran (list_given h) holds fails)

  led_on : (xs : List ℕ) (i : ℕ) {p q : Parts} → PartsOf s t x i p → Yields PartGiven p xs q → PartsOf s t x (i + length xs) q
  led_on [] i {p} {q} h y = let e : i + 0 ≡ i = omega arith in rw e (subst (PartsOf s t x i) y h)
  led_on (z ∷ zs) i {p} {q} h y = let e : i + suc (length zs) ≡ i + 1 + length zs = omega arith in rw e (led_on zs (i + 1) (walk_on h y.1) y.2)

  -- what `any` and `all` ask of the closure: that it may be called at each conjunct
  pub callable : {F : Type 0} {R : F → ℕ → F → Type 0} {Q : F → ℕ → Type 0} {f : F} {p : Parts} → PartsOf s t x 0 p
      → ((y : ℕ) (q : F) → R f y q → q ≡ f) → ((i y : ℕ) → i < count_at s t x → y ≡ part_at s t x i → Q f y) → CallableAtEachTurn PartGiven R Q p f
  callable {F} {R} {Q} {f} {p} h still may = record {
    at = λ xs b q y u z c e. let w = led_on xs 0 h z in subst (λ k. Q k y) (sym (stays R still xs q c)) (may _ y (part_among w e) (part_is w e));
  }
