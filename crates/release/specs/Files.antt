-- The release file, versions 1 to 3: its refusals 1 to 15 and 49 in their order, and what an accepted file says.
--   fault s          the number of the first refusal that the file s meets, or 0: s is accepted
--   names_of s        n, the number of concept names;  roles_of s: m, of roles;  count_of s: a, of axioms
--   axioms_of s       the axioms of an accepted file;  pairs_of s: its role pairs;  content_of s: both, the terminology that the file says
-- A place is a number of bytes from the file's start. The versions differ in the width w of a name, the bytes that a name's number
-- takes, and in whether role pairs stand before the axioms. Each number is written once: the limits, the mark, a refusal's number.
use Rattle.std.specs.Prelude.{Bool, true, false, ◌&&◌, ◌||◌, not, List, [], ◌∷◌, ℕ, zero, suc, ◌+◌, ◌*◌, ◌≤◌, eqb, ltb, leb, length, get_or}
use Rattle.el.specs.Lists.{pick, any}
use Rattle.el.specs.Concepts.{Node, everything, named}
use Rattle.el.specs.Axioms.{Axiom, Right, conjunction, restriction, is_conjunction, parts_of, RolePair, Terminology}

-- limits: names of any release, and of one whose names have the width w; roles; conjuncts of one axiom
abbrev pub most_names : ℕ
most_names = 1023

abbrev pub most_names_of : ℕ → ℕ
most_names_of w = pick (eqb w 1) 127 most_names

abbrev pub most_roles : ℕ
most_roles = 32

abbrev pub most_conjuncts : ℕ
most_conjuncts = 16

-- the mark ELT; the number that is ⊤ as a filler
abbrev pub mark : List ℕ
mark = 0x45 ∷ 0x4C ∷ 0x54 ∷ []

abbrev pub top_number : ℕ → ℕ
top_number w = pick (eqb w 1) 255 65535

-- a width that a name can have
pub record IsWidth (w : ℕ) : Type 0 where
  pub some : 1 ≤ w
  pub few : w ≤ 2

-- the number of w bytes at place p, low byte first; k such numbers one after the other
unfoldable pub number : ℕ → List ℕ → ℕ → ℕ
number zero s p = 0
number (suc w) s p = get_or s p 0 + 256 * number w s (p + 1)

unfoldable pub numbers : ℕ → ℕ → List ℕ → ℕ → List ℕ
numbers w zero s p = []
numbers w (suc k) s p = number w s p ∷ numbers w k s (p + w)

-- the header: mark, version (16 bits), n (a name's width), m (a byte), a (a name's width); in version 3 also p (a byte)
abbrev pub starts_with : List ℕ → List ℕ → Bool
starts_with [] s = true
starts_with (x ∷ xs) [] = false
starts_with (x ∷ xs) (y ∷ s) = eqb y x && starts_with xs s

abbrev pub version_of : List ℕ → ℕ
version_of s = number 2 s 3

abbrev pub is_version : ℕ → Bool
is_version v = eqb v 1 || eqb v 2 || eqb v 3

-- the version's low byte tells the width, 1 in version 1, else 2, and whether the file lists role pairs
unfoldable pub width_of : List ℕ → ℕ
width_of s = pick (eqb (get_or s 3 0) 1) 1 2

unfoldable pub lists_pairs : List ℕ → Bool
lists_pairs s = eqb (get_or s 3 0) 3

unfoldable pub names_of : List ℕ → ℕ
names_of s = number (width_of s) s 5

unfoldable pub roles_of : List ℕ → ℕ
roles_of s = get_or s (5 + width_of s) 0

unfoldable pub count_of : List ℕ → ℕ
count_of s = number (width_of s) s (6 + width_of s)

abbrev pub header_length : ℕ → Bool → ℕ
header_length w paired = pick paired 7 6 + 2 * w

-- p, the number of role pairs; the place of the first of them, behind the header; the place of the first axiom, behind the pairs
unfoldable pub pair_count : List ℕ → ℕ
pair_count s = pick (lists_pairs s) (get_or s (header_length 2 false) 0) 0

unfoldable pub pairs_place : List ℕ → ℕ
pairs_place s = header_length (width_of s) (lists_pairs s)

unfoldable pub first_place : List ℕ → ℕ
first_place s = pairs_place s + 2 * pair_count s

-- the file ends before the last of w bytes at place p
abbrev pub ends : ℕ → List ℕ → ℕ → Bool
ends w s p = ltb (length s) (p + w)

unfoldable pub header_fault : List ℕ → ℕ
header_fault s = pick (ltb (length s) (header_length 1 false)) 1
    (pick (not (starts_with mark s)) 2 (pick (not (is_version (version_of s))) 3
    (pick (ltb (length s) (pairs_place s)) 1 (pick (ltb (most_names_of (width_of s)) (names_of s)) 4 (pick (ltb most_roles (roles_of s)) 5 (pick (ltb (names_of s) (count_of s)) 6 0))))))

-- the first of two refusals' numbers
abbrev pub first_of : ℕ → ℕ → ℕ
first_of zero k = k
first_of (suc j) k = suc j

-- a role at place p, a byte (7, 11), and what is met behind it
abbrev pub role_fault : ℕ → List ℕ → ℕ → ℕ → ℕ
role_fault m s p rest = pick (ends 1 s p) 7 (pick (leb m (get_or s p 0)) 11 rest)

-- the role pair at place p; k of them one after the other
abbrev pub pair_at : List ℕ → ℕ → RolePair
pair_at s p = record { lower = get_or s p 0; upper = get_or s (p + 1) 0 }

unfoldable pub pairs_from : ℕ → List ℕ → ℕ → List RolePair
pairs_from zero s p = []
pairs_from (suc k) s p = pair_at s p ∷ pairs_from k s (p + 2)

-- pairs rise by the lower role, then by the upper: the least pair that there can be, the least after a pair, and whether one pair stands
-- before another
abbrev pub least_pair : RolePair
least_pair = record { lower = 0; upper = 0 }

abbrev pub after : RolePair → RolePair
after q = record { lower = q.lower; upper = suc q.upper }

abbrev pub precedes : RolePair → RolePair → Bool
precedes q r = ltb q.lower r.lower || eqb q.lower r.lower && ltb q.upper r.upper

-- k pairs from place p on, each at least `least`, the least after the pair before: 49 behind what its roles meet
unfoldable pub pair_fault : ℕ → RolePair → List ℕ → ℕ → ℕ
pair_fault m least s p = role_fault m s p (role_fault m s (p + 1) (pick (precedes (pair_at s p) least) 49 0))

unfoldable pub pairs_fault : ℕ → ℕ → RolePair → List ℕ → ℕ → ℕ
pairs_fault m zero least s p = 0
pairs_fault m (suc k) least s p = first_of (pair_fault m least s p) (pairs_fault m k (after (pair_at s p)) s (p + 2))

-- k names from place p on, each at least `least`, one more than the name before: 7, 9, 13
unfoldable pub parts_fault : ℕ → ℕ → ℕ → ℕ → List ℕ → ℕ → ℕ
parts_fault w n zero least s p = 0
parts_fault w n (suc k) least s p = pick (ends w s p) 7 (pick (leb n (number w s p)) 9 (pick (ltb (number w s p) least) 13 (parts_fault w n k (suc (number w s p)) s (p + w))))

-- the tail of kinds 1 and 2: k, a byte (7, 12), then k names; k may be 0, and the conjunction is ⊤
unfoldable pub conjunction_fault : ℕ → ℕ → List ℕ → ℕ → ℕ
conjunction_fault w n s p = pick (ends 1 s p) 7 (pick (ltb most_conjuncts (get_or s p 0)) 12 (parts_fault w n (get_or s p 0) 0 s (p + 1)))

-- the tail of kinds 3 and 4: a role, a byte (7, 11), and a filler (7, 9)
abbrev pub is_filler : ℕ → ℕ → ℕ → Bool
is_filler w n b = ltb b n || eqb b (top_number w)

unfoldable pub restriction_fault : ℕ → ℕ → ℕ → List ℕ → ℕ → ℕ
restriction_fault w n m s p = role_fault m s p (pick (ends w s (p + 1)) 7 (pick (is_filler w n (number w s (p + 1))) 0 9))

-- the kinds: 1 A ⊑ B1 ⊓ .. ⊓ Bk, 2 A ≡ the same, 3 A ⊑ ∃r.B, 4 A ≡ ∃r.B
abbrev pub joins : ℕ → Bool
joins kind = eqb kind 1 || eqb kind 2

abbrev pub restricts : ℕ → Bool
restricts kind = eqb kind 3 || eqb kind 4

abbrev pub defines : ℕ → Bool
defines kind = eqb kind 2 || eqb kind 4

-- the kind of an axiom
abbrev pub kind_of : Axiom → ℕ
kind_of a = pick (is_conjunction a) (pick a.defined 2 1) (pick a.defined 4 3)

unfoldable pub tail_fault : ℕ → ℕ → ℕ → ℕ → List ℕ → ℕ → ℕ
tail_fault w n m kind s p = pick (joins kind) (conjunction_fault w n s p) (pick (restricts kind) (restriction_fault w n m s p) 8)

-- an axiom at place p: the left name (7, 9, 10), the kind, a byte (7, 8), the tail
unfoldable pub axiom_fault : ℕ → ℕ → ℕ → ℕ → List ℕ → ℕ → ℕ
axiom_fault w n m least s p = pick (ends w s p) 7 (pick (leb n (number w s p)) 9 (pick (ltb (number w s p) least) 10 (pick (ends 1 s (p + w)) 7 (tail_fault w n m (get_or s (p + w) 0) s (p + w + 1)))))

-- its length, and the axiom that it is
abbrev pub tail_length : ℕ → ℕ → List ℕ → ℕ → ℕ
tail_length w kind s p = 1 + pick (joins kind) (w * get_or s p 0) w

abbrev pub axiom_length : ℕ → List ℕ → ℕ → ℕ
axiom_length w s p = w + 1 + tail_length w (get_or s (p + w) 0) s (p + w + 1)

abbrev pub filler_node : ℕ → ℕ → Node
filler_node w b = pick (eqb b (top_number w)) everything (named b)

-- the right side of the kind given, whose tail stands at place p
abbrev pub right_at : ℕ → ℕ → List ℕ → ℕ → Right
right_at w kind s p = pick (joins kind) (conjunction (numbers w (get_or s p 0) s (p + 1))) (restriction (get_or s p 0) (filler_node w (number w s (p + 1))))

unfoldable pub axiom_at : ℕ → List ℕ → ℕ → Axiom
axiom_at w s p = record {
  left = number w s p;
  defined = defines (get_or s (p + w) 0);
  right = right_at w (get_or s (p + w) 0) s (p + w + 1);
}

-- c axioms from place p on, left names at least `least`; then the file ends: 14
unfoldable pub axioms_fault : ℕ → ℕ → ℕ → ℕ → ℕ → List ℕ → ℕ → ℕ
axioms_fault w n m zero least s p = pick (ltb p (length s)) 14 0
axioms_fault w n m (suc c) least s p = first_of (axiom_fault w n m least s p) (axioms_fault w n m c (suc (number w s p)) s (p + axiom_length w s p))

unfoldable pub axioms_from : ℕ → List ℕ → ℕ → List Axiom
axioms_from zero s p = []
axioms_from (suc c) s p = axiom_at (width_of s) s p ∷ axioms_from c s (p + axiom_length (width_of s) s p)

abbrev pub axioms_of : List ℕ → List Axiom
axioms_of s = axioms_from (count_of s) s (first_place s)

unfoldable pub pairs_of : List ℕ → List RolePair
pairs_of s = pairs_from (pair_count s) s (pairs_place s)

-- what an accepted file says
abbrev pub content_of : List ℕ → Terminology
content_of s = record { axioms = axioms_of s; roles = pairs_of s }

-- 15: a conjunct that is itself a left name of kind 2
abbrev pub defines_conjunction : ℕ → Axiom → Bool
defines_conjunction x a = eqb a.left x && (a.defined && is_conjunction a)

unfoldable pub conjunct_defined : List Axiom → Bool
conjunct_defined al = any (λ a. any (λ x. any (defines_conjunction x) al) (parts_of a)) al

-- the whole file
unfoldable pub fault : List ℕ → ℕ
fault s = first_of (header_fault s) (first_of (pairs_fault (roles_of s) (pair_count s) least_pair s (pairs_place s))
    (first_of (axioms_fault (width_of s) (names_of s) (roles_of s) (count_of s) 0 s (first_place s)) (pick (conjunct_defined (axioms_of s)) 15 0)))

abbrev pub accepted : List ℕ → Bool
accepted s = eqb (fault s) 0
