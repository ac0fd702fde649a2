-- The answers, computed: the bytes of a comparison, and whether an inclusion is derivable. Pairs are marked by a rule,
-- round by round, until a round adds none. That these are the answers of Comparison and Derivability is proved in proofs/.
--   is_under ps r s                 the role r lies under s by the pairs ps
--   inclusions n t                 the marked pairs of nodes x, y with x ⊑ y
--   comparison_bytes n sig t u      the bytes of a comparison
--   pair_bytes m sig t u            its bytes of role pairs
--   is_included n t c d             c ⊑ d is derivable from t
use Rattle.std.specs.Prelude.{Bool, true, false, ◌&&◌, ◌||◌, not, List, [], ◌∷◌, ◌++◌, map, ℕ, zero, suc, eqb, length}
use Rattle.el.specs.Lists.{pick, any, all}
use Rattle.el.specs.Concepts.{Concept, top, name, both, some, Node, everything, named}
use Rattle.el.specs.Axioms.{Axiom, is_conjunction, parts_of, role_of, filler_of, RolePair, Terminology}
use Rattle.el.specs.Signatures.{Signature}

-- nodes: the names below n, and ⊤
abbrev pub below : ℕ → List ℕ
below zero = []
below (suc n) = n ∷ below n

abbrev pub nodes : ℕ → List Node
nodes n = everything ∷ map named (below n)

abbrev pub same_node : Node → Node → Bool
same_node everything everything = true
same_node everything (named y) = false
same_node (named x) everything = false
same_node (named x) (named y) = eqb x y

-- columns: the nodes, and nothing, below which no concept lies
pub data Column : Type 0 where
  nothing : Column
  node : Node → Column

abbrev pub columns : ℕ → List Column
columns n = nothing ∷ map node (nodes n)

abbrev pub same_column : Column → Column → Bool
same_column nothing nothing = true
same_column nothing (node y) = false
same_column (node x) nothing = false
same_column (node x) (node y) = same_node x y

-- a rule tests a pair by the marks so far
abbrev pub Test : Type 0 → Type 0 → Type 0
Test X Y = X → Y → Bool

abbrev pub Rule : Type 0 → Type 0 → Type 0
Rule X Y = Test X Y → Test X Y

abbrev pub pairs : {X Y : Type 0} → List X → List Y → List (X × Y)
pairs [] ys = []
pairs (x ∷ xs) ys = map (λ y. (x, y)) ys ++ pairs xs ys

abbrev pub chosen : {X : Type 0} → (X → Bool) → List X → List X
chosen p [] = []
chosen p (x ∷ xs) = pick (p x) (x ∷ chosen p xs) (chosen p xs)

module _ {X Y : Type 0} (same_x : Test X X) (same_y : Test Y Y) where
  -- marks are kept as the list of the marked pairs
  abbrev pub marked : List (X × Y) → Test X Y
  marked l x y = any (λ p. same_x x p.0 && same_y y p.1) l

  -- what a round adds; rounds until one adds none (as many as there are pairs are enough)
  abbrev pub added : Rule X Y → List (X × Y) → List (X × Y) → List (X × Y)
  added rule cells l = chosen (λ p. not (marked l p.0 p.1) && rule (marked l) p.0 p.1) cells

  abbrev pub saturate : ℕ → Rule X Y → List (X × Y) → List (X × Y) → List (X × Y)
  saturate zero rule cells l = l
  saturate (suc k) rule cells l = elim (added rule cells l) [ [] ↦ l | p ∷ ps ↦ saturate k rule cells ((p ∷ ps) ++ l) ]

  abbrev pub marks : List X → List Y → Rule X Y → List (X × Y)
  marks xs ys rule = saturate (length (pairs xs ys)) rule (pairs xs ys) []

-- the role r lies under s: by the other pairs, or by the first pair once, before and after it by the other pairs
abbrev pub is_under : List RolePair → ℕ → ℕ → Bool
is_under [] r s = eqb r s
is_under (p ∷ ps) r s = is_under ps r s || (is_under ps r p.lower && is_under ps p.upper s)

-- the roles that can lie above r by the pairs, and under it
abbrev pub roles_above : List RolePair → ℕ → List ℕ
roles_above ps r = r ∷ map (λ (p : RolePair). p.upper) ps

abbrev pub roles_under : List RolePair → ℕ → List ℕ
roles_under ps r = r ∷ map (λ (p : RolePair). p.lower) ps

-- x ⊑ ∃r.B by the axiom A ⊑ ∃s.B of t, m the inclusions of nodes
abbrev pub is_link : Terminology → Test Node Node → Node → ℕ → Axiom → Bool
is_link t m x r a = m x (named a.left) && (not (is_conjunction a) && is_under t.roles (role_of a) r)

-- A ≡ B1 ⊓ .. ⊓ Bk
abbrev pub is_join : Axiom → Bool
is_join a = a.defined && is_conjunction a

-- A ≡ ∃s.B, and r lies under s
abbrev pub is_fill : Terminology → ℕ → Axiom → Bool
is_fill t r a = a.defined && (not (is_conjunction a) && is_under t.roles r (role_of a))

-- the axiom a is y's
abbrev pub is_of : Node → Axiom → Bool
is_of y a = same_node (named a.left) y

-- x ⊑ y: the same; ⊤; a part of what is above x; a conjunction, all its parts above x; y ≡ ∃r.B with x ⊑ ∃r.C and C ⊑ B
abbrev pub includes : Terminology → Rule Node Node
includes t m x y =
    same_node x y
    || (same_node y everything
    || (any (λ a. m x (named a.left) && any (λ z. same_node (named z) y) (parts_of a)) t.axioms
    || (any (λ a. is_of y a && (is_join a && all (λ z. m x (named z)) (parts_of a))) t.axioms
    || any (λ a. is_of y a && any (λ b. is_fill t (role_of b) a && (is_link t m x (role_of b) b && m (filler_of b) (filler_of a))) t.axioms) t.axioms)))

abbrev pub inclusions : ℕ → Terminology → List (Node × Node)
inclusions n t = marks same_node same_node (nodes n) (nodes n) (includes t)

-- some signature concept is above x by t and not above y by u: a name; or ∃r over one that is above the filler of a link
-- of x and above no filler of a link of y. in_t and in_u are the inclusions by t and by u
abbrev pub forward : ℕ → Signature → Terminology → Terminology → Test Node Node → Test Node Node → Rule Node Node
forward n sig t u in_t in_u f x y =
    any (λ b. sig.has_name b && (in_t x (named b) && not (in_u y (named b)))) (below n)
    || any (λ a. any (λ r. is_link t in_t x r a && (sig.has_role r && all (λ b. not (is_link u in_u y r b) || f (filler_of a) (filler_of b)) u.axioms)) (roles_above t.roles (role_of a))) t.axioms

-- neither ⊤ nor a conjunction by its definition
abbrev pub is_plain : Terminology → Node → Bool
is_plain t everything = false
is_plain t (named x) = not (any (λ a. is_of (named x) a && is_join a) t.axioms)

abbrev pub is_plain_column : Terminology → Column → Bool
is_plain_column t nothing = true
is_plain_column t (node y) = is_plain t y

-- the name b is below the column
abbrev pub name_under : Test Node Node → ℕ → Column → Bool
name_under m b nothing = false
name_under m b (node y) = m (named b) y

-- what C has to lie below for ∃r.C to lie below a plain y: the filler of y ≡ ∃s.B with r under s; else nothing
abbrev pub partner_in : Terminology → List Axiom → ℕ → Column → Column
partner_in t [] r y = nothing
partner_in t (b ∷ bs) r y = pick (same_column (node (named b.left)) y && is_fill t r b) (node (filler_of b)) (partner_in t bs r y)

abbrev pub partner : Terminology → ℕ → Column → Column
partner t r y = partner_in t t.axioms r y

-- some signature concept is below x by t and not below y by u. If y is a conjunction: one that is not below some part. If y
-- is plain: ⊤ below ⊤; for a conjunction x, one for each part; for a plain x, a name, or ∃r over one that is below the
-- filler of x and not below y's partner
abbrev pub backward : ℕ → Signature → Terminology → Terminology → Test Node Node → Test Node Node → Rule Node Column
backward n sig t u in_t in_u f x y =
    any (λ b. same_column (node (named b.left)) y && (is_join b && any (λ z. f x (node (named z))) (parts_of b))) u.axioms
    || (is_plain_column u y && (same_node x everything
    || (any (λ a. is_of x a && (is_join a && all (λ z. f (named z) y) (parts_of a))) t.axioms
    || (is_plain t x && (any (λ b. sig.has_name b && (in_t (named b) x && not (name_under in_u b y))) (below n)
    || any (λ a. is_of x a && any (λ r. is_fill t r a && (sig.has_role r && f (filler_of a) (partner u r y))) (roles_under t.roles (role_of a))) t.axioms)))))

-- the marks of a comparison, in_t and in_u the marked inclusions
abbrev pub forward_marks : ℕ → Signature → Terminology → Terminology → List (Node × Node) → List (Node × Node) → List (Node × Node)
forward_marks n sig t u in_t in_u = marks same_node same_node (nodes n) (nodes n) (forward n sig t u (marked same_node same_node in_t) (marked same_node same_node in_u))

abbrev pub backward_marks : ℕ → Signature → Terminology → Terminology → List (Node × Node) → List (Node × Node) → List (Node × Column)
backward_marks n sig t u in_t in_u = marks same_node same_column (nodes n) (columns n) (backward n sig t u (marked same_node same_node in_t) (marked same_node same_node in_u))

-- a byte: 1 for a left witness, 2 for a right one, 3 for both
abbrev pub byte_of : Bool → Bool → ℕ
byte_of false false = 0
byte_of true false = 1
byte_of false true = 2
byte_of true true = 3

-- f 0, .., f (n - 1)
abbrev pub listed : (ℕ → ℕ) → ℕ → List ℕ
listed f zero = []
listed f (suc n) = f 0 ∷ listed (λ a. f (suc a)) n

abbrev pub bytes_of : ℕ → Signature → List (Node × Node) → List (Node × Column) → List ℕ
bytes_of n sig l r = listed (λ a. pick (sig.has_name a) (byte_of (marked same_node same_node l (named a) (named a)) (marked same_node same_column r (named a) (node (named a)))) 0) n

abbrev pub comparison_bytes : ℕ → Signature → Terminology → Terminology → List ℕ
comparison_bytes n sig t u = bytes_of n sig (forward_marks n sig t u (inclusions n t) (inclusions n u)) (backward_marks n sig t u (inclusions n t) (inclusions n u))

-- f 0 0, .., f 0 (m - 1), and so on, k rows
abbrev pub tabled : (ℕ → ℕ → ℕ) → ℕ → ℕ → List ℕ
tabled f m zero = []
tabled f m (suc k) = listed (f 0) m ++ tabled (λ r. f (suc r)) m k

-- the role pairs: both chosen, one under the other by t and not by u
abbrev pub is_lost_pair : Signature → Terminology → Terminology → ℕ → ℕ → Bool
is_lost_pair sig t u r s = sig.has_role r && (sig.has_role s && (is_under t.roles r s && not (is_under u.roles r s)))

abbrev pub pair_byte : Signature → Terminology → Terminology → ℕ → ℕ → ℕ
pair_byte sig t u r s = pick (is_lost_pair sig t u r s) 1 0

abbrev pub pair_bytes : ℕ → Signature → Terminology → Terminology → List ℕ
pair_bytes m sig t u = tabled (pair_byte sig t u) m m

-- questions, m the inclusions of nodes: a node below a concept
abbrev pub node_below : Terminology → Test Node Node → Node → Concept → Bool
node_below t m x top = true
node_below t m x (name b) = m x (named b)
node_below t m x (both c d) = node_below t m x c && node_below t m x d
node_below t m x (some r d) = any (λ b. is_link t m x r b && node_below t m (filler_of b) d) t.axioms

-- a concept below a node, where p tells it of the plain nodes
abbrev pub by_plain : Terminology → (Node → Bool) → Node → Bool
by_plain t p y = same_node y everything || (any (λ a. is_of y a && (is_join a && all (λ z. p (named z)) (parts_of a))) t.axioms || (is_plain t y && p y))

abbrev pub below_plain : Terminology → Test Node Node → Concept → Node → Bool
below_plain t m top y = false
below_plain t m (name b) y = m (named b) y
below_plain t m (both c d) y = below_plain t m c y || below_plain t m d y
below_plain t m (some r c) y = any (λ a. is_of y a && (is_fill t r a && by_plain t (below_plain t m c) (filler_of a))) t.axioms

-- a concept below ∃r.d, where p tells what is below d
abbrev pub below_some : Terminology → Test Node Node → ℕ → Concept → (Concept → Bool) → Concept → Bool
below_some t m r d p top = false
below_some t m r d p (name b) = node_below t m (named b) (some r d)
below_some t m r d p (both c e) = below_some t m r d p c || below_some t m r d p e
below_some t m r d p (some q c) = is_under t.roles q r && p c

-- c below d, for any two
abbrev pub below_by : Terminology → Test Node Node → Concept → Concept → Bool
below_by t m top c = true
below_by t m (name b) c = by_plain t (below_plain t m c) (named b)
below_by t m (both d e) c = below_by t m d c && below_by t m e c
below_by t m (some r d) c = below_some t m r d (below_by t m d) c

abbrev pub is_included : ℕ → Terminology → Concept → Concept → Bool
is_included n t c d = below_by t (marked same_node same_node (inclusions n t)) d c
