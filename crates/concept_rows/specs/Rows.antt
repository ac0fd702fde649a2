-- A concept written as rows, each of which may use earlier ones, any number of times. Rows count from 0.
--   Row                   three numbers: the kind, and what it uses
--   Rows                  the row at each place
--   WellFormed sig i r    r may stand at place i: "0 is ⊤; 1 and a name; 2 and two earlier rows; 3, a role and an earlier row", unused
--                         numbers 0, over the signature
--   concept_of_row rows i   the concept of row i. Where rows are well formed, each row is made of the concepts of earlier rows
--                         (row-concept of proofs/Rows); what else it is of ill-formed rows matters to nothing
--   Differs t u side a c  c shows a difference of the name a: above a by t and not by u (side 1), or below a so (side 2)
--   Shows sig t u side a rows i     row i does, of a chosen name, over rows that are well formed, used or not
--   ReportedOn sig t u side a         the name is reported on that side
-- Not here: the numbers in which rows are lent (Lent).
use Rattle.std.specs.Prelude.{◌≡◌, true, ℕ, zero, suc, ◌≤◌, ◌<◌}
use Rattle.el.specs.Concepts.{Concept, top, name, both, some}
use Rattle.el.specs.Axioms.{Terminology}
use Rattle.el.specs.Derivability.{Derives}
use Rattle.el.specs.Signatures.{Signature, LeftWitness, RightWitness}

pub record Row : Type 0 where
  pub kind : ℕ
  pub one : ℕ
  pub other : ℕ

abbrev pub Rows : Type 0
Rows = ℕ → Row

abbrev pub row : ℕ → ℕ → ℕ → Row
row k a b = record { kind = k; one = a; other = b }

pub data WellFormed (sig : Signature) (i : ℕ) (r : Row) : Type 0 where
  is_top : r ≡ row 0 0 0 → WellFormed sig i r
  is_name : {b : ℕ} → r ≡ row 1 b 0 → sig.has_name b ≡ true → WellFormed sig i r
  is_both : {j k : ℕ} → r ≡ row 2 j k → j < i → k < i → WellFormed sig i r
  is_some : {q j : ℕ} → r ≡ row 3 q j → sig.has_role q ≡ true → j < i → WellFormed sig i r

-- by the kind, given the concepts of other rows
abbrev pub by_kind : ℕ → ℕ → ℕ → (ℕ → Concept) → Concept
by_kind zero a b f = top
by_kind (suc zero) a b f = name a
by_kind (suc (suc zero)) a b f = both (f a) (f b)
by_kind (suc (suc (suc k))) a b f = some a (f b)

abbrev pub made : Row → (ℕ → Concept) → Concept
made r f = by_kind r.kind r.one r.other f

-- what row i is if no more than k rows are followed; row i and the rows before it are i + 1
unfoldable pub followed : ℕ → Rows → ℕ → Concept
followed zero rows i = top
followed (suc k) rows i = made (rows i) (followed k rows)

abbrev pub concept_of_row : Rows → ℕ → Concept
concept_of_row rows i = followed (suc i) rows i

pub data Differs (t u : Terminology) (side a : ℕ) (c : Concept) : Type 0 where
  above : side ≡ 1 → Derives t (name a) c → (Derives u (name a) c → ⊥) → Differs t u side a c
  below : side ≡ 2 → Derives t c (name a) → (Derives u c (name a) → ⊥) → Differs t u side a c

pub record Shows (sig : Signature) (t u : Terminology) (side a : ℕ) (rows : Rows) (i : ℕ) : Type 0 where
  pub chosen : sig.has_name a ≡ true
  pub formed : (j : ℕ) → j ≤ i → WellFormed sig j (rows j)
  pub differs : Differs t u side a (concept_of_row rows i)

pub data ReportedOn (sig : Signature) (t u : Terminology) (side a : ℕ) : Type 0 where
  is_left : side ≡ 1 → sig.has_name a ≡ true → LeftWitness sig t u a → ReportedOn sig t u side a
  is_right : side ≡ 2 → sig.has_name a ≡ true → RightWitness sig t u a → ReportedOn sig t u side a
