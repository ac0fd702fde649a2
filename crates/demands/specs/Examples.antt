-- The worked examples P1 to P10, some of them in both versions of the file without role pairs, and examples of our own of names that mean
-- everything and of role pairs, in one table: files, signatures and concepts as bytes, with what is to come out.
--   Holds e        the input of the example e is accepted, and its outcome is the one written
--   examples       the table
use Rattle.std.specs.Prelude.{List, [], ◌∷◌, ℕ}
use Rattle.el.specs.Comparison.{AreBytes, ArePairBytes}
use Rattle.release.specs.Files.{names_of, roles_of, content_of}
use Rattle.demands.specs.Inputs.{chosen, Accepted, AcceptedQuestion, concept_in}
use Rattle.demands.specs.Lying.{Lies}

pub data Example : Type 0 where
  compared : (first second signature result : List ℕ) → Example
  roles_compared : (first second signature result role_result : List ℕ) → Example
  asked : (release below above : List ℕ) (answer : ℕ) → Example

pub record Compared (s t g r : List ℕ) : Type 0 where
  pub accepted : Accepted s t g
  pub bytes : AreBytes (names_of s) (chosen s g) (content_of s) (content_of t) r

pub record RolesCompared (s t g r p : List ℕ) : Type 0 where
  pub compared : Compared s t g r
  pub pairs : ArePairBytes (roles_of s) (chosen s g) (content_of s) (content_of t) p

pub record Asked (s c d : List ℕ) (v : ℕ) : Type 0 where
  pub accepted : AcceptedQuestion s c d
  pub answer : Lies (content_of s) (concept_in s c) (concept_in s d) v

abbrev pub Holds : Example → Type 0
Holds (compared s t g r) = Compared s t g r
Holds (roles_compared s t g r p) = RolesCompared s t g r p
Holds (asked s c d v) = Asked s c d v

-- the files: ELT, version, n, m, the count of axioms, in version 3 the count of role pairs and the pairs, the axioms; those of version 2
-- end in `_wide`
-- A ≡ B1 ⊓ B2; A ≡ B1 ⊓ B'
abbrev conjunction_1 : List ℕ
conjunction_1 = 0x45 ∷ 0x4C ∷ 0x54 ∷ 1 ∷ 0 ∷ 4 ∷ 0 ∷ 1 ∷ 0 ∷ 2 ∷ 2 ∷ 1 ∷ 2 ∷ []

abbrev conjunction_2 : List ℕ
conjunction_2 = 0x45 ∷ 0x4C ∷ 0x54 ∷ 1 ∷ 0 ∷ 4 ∷ 0 ∷ 1 ∷ 0 ∷ 2 ∷ 2 ∷ 1 ∷ 3 ∷ []

abbrev conjunction_1_wide : List ℕ
conjunction_1_wide = 0x45 ∷ 0x4C ∷ 0x54 ∷ 2 ∷ 0 ∷ 4 ∷ 0 ∷ 0 ∷ 1 ∷ 0 ∷ 0 ∷ 0 ∷ 2 ∷ 2 ∷ 1 ∷ 0 ∷ 2 ∷ 0 ∷ []

-- A ⊑ ∃r.X, X ⊑ A ⊓ B; A ⊑ X ⊓ Y, X ⊑ ∃r.A, Y ⊑ ∃r.B
abbrev jointly_1 : List ℕ
jointly_1 = 0x45 ∷ 0x4C ∷ 0x54 ∷ 1 ∷ 0 ∷ 4 ∷ 1 ∷ 2 ∷ 0 ∷ 3 ∷ 0 ∷ 2 ∷ 2 ∷ 1 ∷ 2 ∷ 0 ∷ 1 ∷ []

abbrev jointly_2 : List ℕ
jointly_2 = 0x45 ∷ 0x4C ∷ 0x54 ∷ 1 ∷ 0 ∷ 4 ∷ 1 ∷ 3 ∷ 0 ∷ 1 ∷ 2 ∷ 2 ∷ 3 ∷ 2 ∷ 3 ∷ 0 ∷ 0 ∷ 3 ∷ 3 ∷ 0 ∷ 1 ∷ []

-- A ⊑ ∃r.A; A ⊑ ∃r.X, X ⊑ A; A ⊑ ∃r.X, X ⊑ ∃r.⊤
abbrev circle_1 : List ℕ
circle_1 = 0x45 ∷ 0x4C ∷ 0x54 ∷ 1 ∷ 0 ∷ 2 ∷ 1 ∷ 1 ∷ 0 ∷ 3 ∷ 0 ∷ 0 ∷ []

abbrev circle_2 : List ℕ
circle_2 = 0x45 ∷ 0x4C ∷ 0x54 ∷ 1 ∷ 0 ∷ 2 ∷ 1 ∷ 2 ∷ 0 ∷ 3 ∷ 0 ∷ 1 ∷ 1 ∷ 1 ∷ 1 ∷ 0 ∷ []

abbrev chain_2 : List ℕ
chain_2 = 0x45 ∷ 0x4C ∷ 0x54 ∷ 1 ∷ 0 ∷ 2 ∷ 1 ∷ 2 ∷ 0 ∷ 3 ∷ 0 ∷ 1 ∷ 1 ∷ 3 ∷ 0 ∷ 255 ∷ []

abbrev chain_2_wide : List ℕ
chain_2_wide = 0x45 ∷ 0x4C ∷ 0x54 ∷ 2 ∷ 0 ∷ 2 ∷ 0 ∷ 1 ∷ 2 ∷ 0 ∷ 0 ∷ 0 ∷ 3 ∷ 0 ∷ 1 ∷ 0 ∷ 1 ∷ 0 ∷ 3 ∷ 0 ∷ 255 ∷ 255 ∷ []

-- A ≡ ∃r.X, X ≡ ∃s.X; A ⊑ ∃r.X, X ≡ ∃s.X
abbrev endless_1 : List ℕ
endless_1 = 0x45 ∷ 0x4C ∷ 0x54 ∷ 1 ∷ 0 ∷ 2 ∷ 2 ∷ 2 ∷ 0 ∷ 4 ∷ 0 ∷ 1 ∷ 1 ∷ 4 ∷ 1 ∷ 1 ∷ []

abbrev endless_2 : List ℕ
endless_2 = 0x45 ∷ 0x4C ∷ 0x54 ∷ 1 ∷ 0 ∷ 2 ∷ 2 ∷ 2 ∷ 0 ∷ 3 ∷ 0 ∷ 1 ∷ 1 ∷ 4 ∷ 1 ∷ 1 ∷ []

-- A ≡ ∃r.⊤
abbrev anything : List ℕ
anything = 0x45 ∷ 0x4C ∷ 0x54 ∷ 1 ∷ 0 ∷ 1 ∷ 1 ∷ 1 ∷ 0 ∷ 4 ∷ 0 ∷ 255 ∷ []

-- A ≡ ⊤; no axiom
abbrev any_entry : List ℕ
any_entry = 0x45 ∷ 0x4C ∷ 0x54 ∷ 1 ∷ 0 ∷ 2 ∷ 0 ∷ 1 ∷ 0 ∷ 2 ∷ 0 ∷ []

abbrev no_axiom : List ℕ
no_axiom = 0x45 ∷ 0x4C ∷ 0x54 ∷ 1 ∷ 0 ∷ 2 ∷ 0 ∷ 0 ∷ []

-- A ≡ ∃r.T, T ≡ ⊤; A ≡ ∃r.⊤
abbrev named_filler : List ℕ
named_filler = 0x45 ∷ 0x4C ∷ 0x54 ∷ 1 ∷ 0 ∷ 2 ∷ 1 ∷ 2 ∷ 0 ∷ 4 ∷ 0 ∷ 1 ∷ 1 ∷ 2 ∷ 0 ∷ []

abbrev top_filler : List ℕ
top_filler = 0x45 ∷ 0x4C ∷ 0x54 ∷ 1 ∷ 0 ∷ 2 ∷ 1 ∷ 1 ∷ 0 ∷ 4 ∷ 0 ∷ 255 ∷ []

-- A ⊑ ∃r.B, where r lies under s; where no role lies under another
abbrev escorted : List ℕ
escorted = 0x45 ∷ 0x4C ∷ 0x54 ∷ 3 ∷ 0 ∷ 2 ∷ 0 ∷ 2 ∷ 1 ∷ 0 ∷ 1 ∷ 0 ∷ 1 ∷ 0 ∷ 0 ∷ 3 ∷ 0 ∷ 1 ∷ 0 ∷ []

abbrev no_pair : List ℕ
no_pair = 0x45 ∷ 0x4C ∷ 0x54 ∷ 2 ∷ 0 ∷ 2 ∷ 0 ∷ 2 ∷ 1 ∷ 0 ∷ 0 ∷ 0 ∷ 3 ∷ 0 ∷ 1 ∷ 0 ∷ []

-- A ⊑ ∃s.B, where r lies under s
abbrev accompanied : List ℕ
accompanied = 0x45 ∷ 0x4C ∷ 0x54 ∷ 3 ∷ 0 ∷ 2 ∷ 0 ∷ 2 ∷ 1 ∷ 0 ∷ 1 ∷ 0 ∷ 1 ∷ 0 ∷ 0 ∷ 3 ∷ 1 ∷ 1 ∷ 0 ∷ []

-- no axiom and three roles: in a circle; r and s, and s and t under each other; none under another
abbrev role_circle : List ℕ
role_circle = 0x45 ∷ 0x4C ∷ 0x54 ∷ 3 ∷ 0 ∷ 1 ∷ 0 ∷ 3 ∷ 0 ∷ 0 ∷ 3 ∷ 0 ∷ 1 ∷ 1 ∷ 2 ∷ 2 ∷ 0 ∷ []

abbrev equal_roles : List ℕ
equal_roles = 0x45 ∷ 0x4C ∷ 0x54 ∷ 3 ∷ 0 ∷ 1 ∷ 0 ∷ 3 ∷ 0 ∷ 0 ∷ 4 ∷ 0 ∷ 1 ∷ 1 ∷ 0 ∷ 1 ∷ 2 ∷ 2 ∷ 1 ∷ []

abbrev apart : List ℕ
apart = 0x45 ∷ 0x4C ∷ 0x54 ∷ 1 ∷ 0 ∷ 1 ∷ 3 ∷ 0 ∷ []

-- A ≡ ∃t.⊤, where r lies under s and s under t; where none lies under another; where r lies under s and under t
abbrev role_chain : List ℕ
role_chain = 0x45 ∷ 0x4C ∷ 0x54 ∷ 3 ∷ 0 ∷ 1 ∷ 0 ∷ 3 ∷ 1 ∷ 0 ∷ 2 ∷ 0 ∷ 1 ∷ 1 ∷ 2 ∷ 0 ∷ 0 ∷ 4 ∷ 2 ∷ 255 ∷ 255 ∷ []

abbrev no_chain : List ℕ
no_chain = 0x45 ∷ 0x4C ∷ 0x54 ∷ 1 ∷ 0 ∷ 1 ∷ 3 ∷ 1 ∷ 0 ∷ 4 ∷ 2 ∷ 255 ∷ []

abbrev role_fork : List ℕ
role_fork = 0x45 ∷ 0x4C ∷ 0x54 ∷ 3 ∷ 0 ∷ 1 ∷ 0 ∷ 3 ∷ 1 ∷ 0 ∷ 2 ∷ 0 ∷ 1 ∷ 0 ∷ 2 ∷ 0 ∷ 0 ∷ 4 ∷ 2 ∷ 255 ∷ 255 ∷ []

abbrev pub examples : List Example
examples =
    -- P1, P2
    compared conjunction_1 conjunction_2 (1 ∷ 1 ∷ 1 ∷ 0 ∷ []) (3 ∷ 0 ∷ 2 ∷ 0 ∷ [])
    ∷ compared conjunction_2 conjunction_1 (1 ∷ 1 ∷ 1 ∷ 0 ∷ []) (0 ∷ 0 ∷ 0 ∷ 0 ∷ [])
    -- P1 with the first file in version 2, and its two versions against each other
    ∷ compared conjunction_1_wide conjunction_2 (1 ∷ 1 ∷ 1 ∷ 0 ∷ []) (3 ∷ 0 ∷ 2 ∷ 0 ∷ [])
    ∷ compared conjunction_1 conjunction_1_wide (1 ∷ 1 ∷ 1 ∷ 0 ∷ []) (0 ∷ 0 ∷ 0 ∷ 0 ∷ [])
    -- P3, P4
    ∷ compared jointly_1 jointly_2 (1 ∷ 1 ∷ 0 ∷ 0 ∷ 1 ∷ []) (1 ∷ 0 ∷ 0 ∷ 0 ∷ [])
    ∷ compared jointly_2 jointly_1 (1 ∷ 1 ∷ 0 ∷ 0 ∷ 1 ∷ []) (0 ∷ 0 ∷ 0 ∷ 0 ∷ [])
    -- P5, each order
    ∷ compared circle_1 circle_2 (1 ∷ 0 ∷ 1 ∷ []) (0 ∷ 0 ∷ [])
    ∷ compared circle_2 circle_1 (1 ∷ 0 ∷ 1 ∷ []) (0 ∷ 0 ∷ [])
    -- P6, P7
    ∷ compared circle_1 chain_2 (1 ∷ 0 ∷ 1 ∷ []) (1 ∷ 0 ∷ [])
    ∷ compared circle_1 chain_2 (1 ∷ 0 ∷ 0 ∷ []) (0 ∷ 0 ∷ [])
    -- P6 with the second file in version 2, and its two versions against each other
    ∷ compared circle_1 chain_2_wide (1 ∷ 0 ∷ 1 ∷ []) (1 ∷ 0 ∷ [])
    ∷ compared chain_2_wide chain_2 (1 ∷ 1 ∷ 1 ∷ []) (0 ∷ 0 ∷ [])
    -- P8, each order; P9
    ∷ compared endless_1 endless_2 (1 ∷ 0 ∷ 1 ∷ 1 ∷ []) (0 ∷ 0 ∷ [])
    ∷ compared endless_2 endless_1 (1 ∷ 0 ∷ 1 ∷ 1 ∷ []) (0 ∷ 0 ∷ [])
    ∷ compared endless_1 endless_2 (1 ∷ 1 ∷ 1 ∷ 1 ∷ []) (2 ∷ 0 ∷ [])
    -- P10: ∃r.A and A, A and ∃r.A
    ∷ asked anything (3 ∷ 0 ∷ 1 ∷ 0 ∷ []) (1 ∷ 0 ∷ []) 1
    ∷ asked anything (1 ∷ 0 ∷ []) (3 ∷ 0 ∷ 1 ∷ 0 ∷ []) 2
    -- our own: a name that means everything against one left undefined, each order; ⊤ and it lie below each other
    ∷ compared any_entry no_axiom (1 ∷ 1 ∷ []) (2 ∷ 1 ∷ [])
    ∷ compared no_axiom any_entry (1 ∷ 1 ∷ []) (0 ∷ 0 ∷ [])
    ∷ asked any_entry (0 ∷ []) (1 ∷ 0 ∷ []) 3
    -- our own: such a name as a filler, each order
    ∷ compared named_filler top_filler (1 ∷ 0 ∷ 1 ∷ []) (0 ∷ 0 ∷ [])
    ∷ compared top_filler named_filler (1 ∷ 0 ∷ 1 ∷ []) (0 ∷ 0 ∷ [])
    -- our own: a role pair that is lost, with its roles chosen and not; that is won; A below ∃s.B by it; ∃r.B and ∃s.B
    ∷ roles_compared escorted no_pair (1 ∷ 1 ∷ 1 ∷ 1 ∷ []) (1 ∷ 0 ∷ []) (0 ∷ 1 ∷ 0 ∷ 0 ∷ [])
    ∷ roles_compared escorted no_pair (1 ∷ 1 ∷ 1 ∷ 0 ∷ []) (0 ∷ 0 ∷ []) (0 ∷ 0 ∷ 0 ∷ 0 ∷ [])
    -- over r and s alone no name has lost anything, but the pair has
    ∷ roles_compared escorted no_pair (0 ∷ 0 ∷ 1 ∷ 1 ∷ []) (0 ∷ 0 ∷ []) (0 ∷ 1 ∷ 0 ∷ 0 ∷ [])
    ∷ roles_compared no_pair escorted (1 ∷ 1 ∷ 1 ∷ 1 ∷ []) (0 ∷ 0 ∷ []) (0 ∷ 0 ∷ 0 ∷ 0 ∷ [])
    ∷ asked escorted (1 ∷ 0 ∷ 0 ∷ []) (3 ∷ 1 ∷ 1 ∷ 1 ∷ 0 ∷ []) 1
    ∷ asked escorted (3 ∷ 0 ∷ 1 ∷ 1 ∷ 0 ∷ []) (3 ∷ 1 ∷ 1 ∷ 1 ∷ 0 ∷ []) 1
    -- our own: A ⊑ ∃r.B against A ⊑ ∃s.B, r under s by both: ∃r.B is lost, each order; over s alone nothing is
    ∷ roles_compared escorted accompanied (1 ∷ 1 ∷ 1 ∷ 1 ∷ []) (1 ∷ 0 ∷ []) (0 ∷ 0 ∷ 0 ∷ 0 ∷ [])
    ∷ roles_compared accompanied escorted (1 ∷ 1 ∷ 1 ∷ 1 ∷ []) (0 ∷ 0 ∷ []) (0 ∷ 0 ∷ 0 ∷ 0 ∷ [])
    ∷ roles_compared escorted accompanied (1 ∷ 1 ∷ 0 ∷ 1 ∷ []) (0 ∷ 0 ∷ []) (0 ∷ 0 ∷ 0 ∷ 0 ∷ [])
    -- our own: a circle of roles makes them equal, each order; against roles that lie apart
    ∷ roles_compared role_circle equal_roles (1 ∷ 1 ∷ 1 ∷ 1 ∷ []) (0 ∷ []) (0 ∷ 0 ∷ 0 ∷ 0 ∷ 0 ∷ 0 ∷ 0 ∷ 0 ∷ 0 ∷ [])
    ∷ roles_compared equal_roles role_circle (1 ∷ 1 ∷ 1 ∷ 1 ∷ []) (0 ∷ []) (0 ∷ 0 ∷ 0 ∷ 0 ∷ 0 ∷ 0 ∷ 0 ∷ 0 ∷ 0 ∷ [])
    ∷ roles_compared role_circle apart (1 ∷ 1 ∷ 1 ∷ 1 ∷ []) (0 ∷ []) (0 ∷ 1 ∷ 1 ∷ 1 ∷ 0 ∷ 1 ∷ 1 ∷ 1 ∷ 0 ∷ [])
    ∷ asked role_circle (3 ∷ 2 ∷ 0 ∷ []) (3 ∷ 1 ∷ 0 ∷ []) 3
    -- our own: of a chain r, s, t whose middle is not chosen r under t is lost
    ∷ roles_compared role_chain no_chain (1 ∷ 1 ∷ 0 ∷ 1 ∷ []) (2 ∷ []) (0 ∷ 0 ∷ 1 ∷ 0 ∷ 0 ∷ 0 ∷ 0 ∷ 0 ∷ 0 ∷ [])
    -- our own: a chain of role pairs, each order; ∃r.⊤ below A by it
    ∷ roles_compared role_chain role_fork (1 ∷ 1 ∷ 1 ∷ 1 ∷ []) (2 ∷ []) (0 ∷ 0 ∷ 0 ∷ 0 ∷ 0 ∷ 1 ∷ 0 ∷ 0 ∷ 0 ∷ [])
    ∷ roles_compared role_fork role_chain (1 ∷ 1 ∷ 1 ∷ 1 ∷ []) (0 ∷ []) (0 ∷ 0 ∷ 0 ∷ 0 ∷ 0 ∷ 0 ∷ 0 ∷ 0 ∷ 0 ∷ [])
    ∷ asked role_chain (3 ∷ 0 ∷ 0 ∷ []) (1 ∷ 0 ∷ 0 ∷ []) 1
    ∷ []
