-- A role, a role pair and an axiom's numbers, and what reading one answers by what the file says, with the numbers of docs/FORMAT.md.
--   role_reading m s p              reading the role at place p;  pair_reading m least s p: the pair, which does not stand before `least`
--   entry_of w n left kind s tail   the numbers of the axiom with this left name and kind, whose tail stands at place `tail`
--   reading_at w n m least s p      reading an axiom at place p: "it with the next place, or else the refusal"
use Rattle.std.specs.Prelude.{List, ℕ, ◌+◌, get_or, Result}
use Rattle.el.specs.Lists.{pick}
use Rattle.el.specs.Axioms.{RolePair}
use Rattle.el.specs.Concepts.{Node, everything, named}
use Rattle.release.specs.Files.{role_fault, pair_fault, number, joins, tail_fault, tail_length, axiom_fault, axiom_length, filler_node}
use Rattle.release.specs.Kinds.{kind_number, kind_of_byte}
use Rattle.release.specs.Refusals.{Numbers, answer}
use Rattle.release.specs.declared.RoleIndex.{RoleIndex}
use Rattle.release.specs.declared.axiom.Cursor.{Cursor}
use Rattle.release.specs.declared.axiom.Entry.{Entry}
use Rattle.release.specs.declared.kinds.Kind.{Kind}
use Rattle.release.specs.declared.roles.RolePair as pair

unfoldable pub role_reading : ℕ → List ℕ → ℕ → Result RoleIndex Numbers
role_reading m s p = answer 1 (role_fault m s p 0) (record { 0 = get_or s p 0 })

unfoldable pub pair_reading : ℕ → RolePair → List ℕ → ℕ → Result pair.RolePair Numbers
pair_reading m least s p = answer 1 (pair_fault m least s p) (record { lower = record { 0 = get_or s p 0 }; upper = record { 0 = get_or s (p + 1) 0 } })

-- the number of a node in a table with n names: ⊤ is n
abbrev pub node_number : ℕ → Node → ℕ
node_number n everything = n
node_number n (named x) = x

-- an axiom's numbers: left name, kind, role and filler (0 for conjunctions), the place of its tail
unfoldable pub entry_of : ℕ → ℕ → ℕ → Kind → List ℕ → ℕ → Entry
entry_of w n left kind s tail = pick (joins (kind_number kind)) (record { left = record { 0 = left }; kind = kind; role = record { 0 = 0 }; filler = 0; tail = tail })
    (record { left = record { 0 = left }; kind = kind; role = record { 0 = get_or s tail 0 }; filler = node_number n (filler_node w (number w s (tail + 1))); tail = tail })

-- the axiom with the next place where there is no fault, else the refusal
unfoldable pub reading : ℕ → Entry → ℕ → Result (Entry × Cursor) Numbers
reading f e next = answer 1 f (e, record { at = next })

unfoldable pub tail_reading : ℕ → ℕ → ℕ → ℕ → Kind → List ℕ → ℕ → Result (Entry × Cursor) Numbers
tail_reading w n m left kind s tail = reading (tail_fault w n m (kind_number kind) s tail) (entry_of w n left kind s tail) (tail + tail_length w (kind_number kind) s tail)

unfoldable pub reading_at : ℕ → ℕ → ℕ → ℕ → List ℕ → ℕ → Result (Entry × Cursor) Numbers
reading_at w n m least s p = reading (axiom_fault w n m least s p) (entry_of w n (number w s p) (kind_of_byte (get_or s (p + w) 0)) s (p + w + 1)) (p + axiom_length w s p)
