-- The practice release of a seed with n names and m roles, in the order of its draws: all kinds, the pool, the axioms.
--   kinds m k s                      the kinds that k names draw, 0 meaning none
--   pool_from x kinds                the names not of kind 2, rising, where x is the first name
--   has_axiom size kind              a name of this kind has an axiom, where the pool has so many names
--   axiom_from n m pool x kind s     the axiom of the name x, which makes two draws
--   axioms_for n m pool x kinds s    the axioms of the names from x on
--   practice_file seed n m           the file
use Rattle.std.specs.Prelude.{Bool, ◌&&◌, ◌||◌, List, [], ◌∷◌, ◌++◌, ℕ, zero, suc, ◌+◌, eqb, ltb, leb, min, length, take, drop}
use Rattle.el.specs.Lists.{pick}
use Rattle.el.specs.Concepts.{Node, everything, named}
use Rattle.el.specs.Axioms.{Axiom, Right, conjunction, restriction}
use Rattle.release.specs.Files.{joins, restricts, defines}
use Rattle.rewriting.specs.Bytes.{release_bytes}
use Rattle.practice.specs.Draws.{next, drawn, after_draws}

-- a kind from 5; with no roles, 3 and 4 become 0
unfoldable pub kind_from : ℕ → ℕ → ℕ
kind_from m s = pick (eqb m 0 && leb 3 (drawn s 5)) 0 (drawn s 5)

unfoldable pub kinds : ℕ → ℕ → ℕ → List ℕ
kinds m zero s = []
kinds m (suc k) s = kind_from m (next s) ∷ kinds m k (next s)

unfoldable pub pool_from : ℕ → List ℕ → List ℕ
pool_from x [] = []
pool_from x (kind ∷ later) = pick (eqb kind 2) (pool_from (suc x) later) (x ∷ pool_from (suc x) later)

-- names in rising order
unfoldable pub insert : ℕ → List ℕ → List ℕ
insert x [] = x ∷ []
insert x (y ∷ ys) = pick (leb x y) (x ∷ y ∷ ys) (y ∷ insert x ys)

unfoldable pub rising : List ℕ → List ℕ
rising [] = []
rising (x ∷ xs) = insert x (rising xs)

-- k names of the pool on from a start, round the end
unfoldable pub on_from : List ℕ → ℕ → ℕ → List ℕ
on_from pool start k = take k (drop start (pool ++ pool))

-- k - 1 from the smaller of 4 and the pool's size, then a start in the pool
unfoldable pub part_count : ℕ → ℕ → ℕ
part_count size s = suc (drawn (next s) (min 4 size))

unfoldable pub conjunction_from : List ℕ → ℕ → Right
conjunction_from pool s = conjunction (rising (on_from pool (drawn (next (next s)) (length pool)) (part_count (length pool) s)))

-- a role from m, then a filler from n + 1, the last being ⊤
unfoldable pub filler_from : ℕ → ℕ → Node
filler_from n b = pick (eqb b n) everything (named b)

unfoldable pub restriction_from : ℕ → ℕ → ℕ → Right
restriction_from n m s = restriction (drawn (next s) m) (filler_from n (drawn (next (next s)) (n + 1)))

unfoldable pub right_from : ℕ → ℕ → List ℕ → ℕ → ℕ → Right
right_from n m pool kind s = pick (joins kind) (conjunction_from pool s) (restriction_from n m s)

unfoldable pub axiom_from : ℕ → ℕ → List ℕ → ℕ → ℕ → ℕ → Axiom
axiom_from n m pool x kind s = record { left = x; defined = defines kind; right = right_from n m pool kind s }

-- kind 0 has no axiom, nor have kinds 1 and 2 with an empty pool: no draw then
unfoldable pub has_axiom : ℕ → ℕ → Bool
has_axiom size kind = restricts kind || (joins kind && ltb 0 size)

unfoldable pub axioms_for : ℕ → ℕ → List ℕ → ℕ → List ℕ → ℕ → List Axiom
axioms_for n m pool x [] s = []
axioms_for n m pool x (kind ∷ later) s =
    pick (has_axiom (length pool) kind) (axiom_from n m pool x kind s ∷ axioms_for n m pool (suc x) later (next (next s))) (axioms_for n m pool (suc x) later s)

-- the whole release
unfoldable pub practice_pool : ℕ → ℕ → ℕ → List ℕ
practice_pool seed n m = pool_from 0 (kinds m n seed)

unfoldable pub practice_axioms : ℕ → ℕ → ℕ → List Axiom
practice_axioms seed n m = axioms_for n m (practice_pool seed n m) 0 (kinds m n seed) (after_draws n seed)

unfoldable pub practice_file : ℕ → ℕ → ℕ → List ℕ
practice_file seed n m = release_bytes 1 n m (practice_axioms seed n m)
