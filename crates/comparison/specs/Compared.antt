-- What a comparison asks and gives: signature bytes g, releases r, the memory w, the result o.
--   forward_layout r, backward_layout r     where the marks are read and written: four squares lie one after the other
--   IsLent g r l                  l is the lent signature of the bytes g, for releases r
--   Handable g r                  the tables and the signature are as marks are put by them
--   PutBy p g r l h               h is what marks are put by: the releases, what is handed on of the signature, by the position p of the
--                                 roles found, and a layout of the four squares
--   BothGiven r w                 accepted releases with their tables, and memory for four squares
--   Given g r w                   and an accepted signature
--   BothIncluded r w v            the memory w became v: the first two squares hold the inclusions of the releases, the others are 0, and
--                                 later bytes are as before
--   SecondTurned r w v            the memory w became v: the second square is turned behind its rows, and all else is as before
--   Ready r v                     so it is in v, and the first two squares are filled: all that signatures share
--   BackwardReady r v             the first two squares are filled, and nothing is marked in the last one: what backward marks ask
--   Prepared r w v                the memory w became v, which is ready; later bytes are as before
--   AllMarked g r w v             the memory w became v: the last two squares hold forward marks and backward marks, and all else is as
--                                 before
--   ZeroedBetween a b w v         the memory w became v: 0 from the place a to the place b, and all else is as before
--   Reported g r o p              the result o became p: the bytes of the names, later ones as before
--   Marking g r o p w v           so it is, and the memory changed in the last two squares alone
--   Compared g r o p w v          so it is, and the memory w became v: 0 as far as the four squares go, later bytes as before
--   ComparedAgain g r o p w v     so it is, and the memory is as it was
use Rattle.std.specs.Prelude.{◌≡◌, List, ℕ, ◌+◌, ◌*◌, ◌≤◌, ◌<◌, length, get_or, take}
use Rattle.el.specs.Comparison.{IsByte}
use Rattle.release.specs.Files.{names_of, content_of}
use Rattle.release.specs.Tables.{Release}
use Rattle.signature.specs.Bytes.{signature_fault, signature_of}
use Rattle.signature.specs.declared.lent.LentSignature.{LentSignature}
use Rattle.marks.specs.declared.Square.{Square}
use Rattle.marks.specs.Squares.{span, behind, Unmarked}
use Rattle.marks.specs.Inclusions.{Turned}
use Rattle.marks.specs.Memory.{size}
use Rattle.classification.specs.Inclusions.{Inclusions}
use Rattle.layout.specs.declared.Layout.{Layout}
use Rattle.layout.specs.declared.Given as layout
use Rattle.layout.specs.declared.edges.Position.{Position}
use Rattle.layout.specs.Tables.{Rowed}
use Rattle.layout.specs.Findings.{Found}
use Rattle.comparison.specs.declared.Releases.{Releases}
use Rattle.forward.specs.Forward.{ForwardMarked}
use Rattle.backward.specs.Backward.{BackwardMarked}

abbrev pub forward_layout : Releases → Layout
forward_layout r = record { names = r.names; roles = r.roles; first = 0; second = size r.names; marks = 2 * size r.names; few = r.few }

abbrev pub backward_layout : Releases → Layout
backward_layout r = record { names = r.names; roles = r.roles; first = 0; second = size r.names; marks = 3 * size r.names; few = r.few }

abbrev pub square_at : ℕ → ℕ → Square
square_at n base = record { base = base; names = n }

pub record IsLent (g : List ℕ) (r : Releases) (l : LentSignature) : Type 0 where
  pub bytes : l.bytes.now ≡ g
  pub names : l.names ≡ r.names
  pub roles : l.roles ≡ r.roles

pub record Handable (g : List ℕ) (r : Releases) : Type 0 where
  pub first : Rowed r.names r.first.table.now
  pub second : Rowed r.names r.second.table.now
  pub signature : signature_fault r.names r.roles g ≡ 0

pub record PutBy (p : Position) (g : List ℕ) (r : Releases) (l : Layout) (h : layout.Given) : Type 0 where
  pub names : h.chosen_names.now ≡ take r.names g
  pub found : Found p g r.first.table.now r.second.table.now r.names r.roles h.edges.now
  pub first : h.first ≡ r.first
  pub second : h.second ≡ r.second
  pub layout : h.layout ≡ l

pub record BothGiven (r : Releases) (w : List ℕ) : Type 0 where
  pub first : Release r.first.file.now r.first.table.now
  pub second : Release r.second.file.now r.second.table.now
  pub first_names : r.names ≡ names_of r.first.file.now
  pub second_names : r.names ≡ names_of r.second.file.now
  pub room : 4 * size r.names ≤ length w

pub record Given (g : List ℕ) (r : Releases) (w : List ℕ) : Type 0 where
  pub both : BothGiven r w
  pub signature : signature_fault r.names r.roles g ≡ 0

pub record BothIncluded (r : Releases) (w v : List ℕ) : Type 0 where
  pub long : length v ≡ length w
  pub past : (i : ℕ) → 4 * size r.names ≤ i → get_or v i 0 ≡ get_or w i 0
  pub first : Inclusions r.first.file.now (square_at r.names 0) v
  pub second : Inclusions r.second.file.now (square_at r.names (size r.names)) v
  pub zero : (i : ℕ) → 2 * size r.names ≤ i → i < 4 * size r.names → get_or v i 0 ≡ 0

-- in memory lent for it
pub record SecondTurned (r : Releases) (w v : List ℕ) : Type 0 where
  pub long : length v ≡ length w
  pub before : (i : ℕ) → i < size r.names + span r.names → get_or v i 0 ≡ get_or w i 0
  pub past : (i : ℕ) → 2 * size r.names ≤ i → get_or v i 0 ≡ get_or w i 0
  pub turned : 1 ≤ r.names → Turned (square_at r.names (size r.names)) v (behind (square_at r.names (size r.names)) 1) v

pub record Ready (r : Releases) (v : List ℕ) : Type 0 where
  pub first : Inclusions r.first.file.now (square_at r.names 0) v
  pub second : Inclusions r.second.file.now (square_at r.names (size r.names)) v
  pub turned : 1 ≤ r.names → Turned (square_at r.names (size r.names)) v (behind (square_at r.names (size r.names)) 1) v
  pub zero : (i : ℕ) → 2 * size r.names ≤ i → i < 4 * size r.names → get_or v i 0 ≡ 0

pub record BackwardReady (r : Releases) (v : List ℕ) : Type 0 where
  pub first : Inclusions r.first.file.now (square_at r.names 0) v
  pub second : Inclusions r.second.file.now (square_at r.names (size r.names)) v
  pub free : Unmarked (square_at r.names (3 * size r.names)) v

pub record Prepared (r : Releases) (w v : List ℕ) : Type 0 where
  pub long : length v ≡ length w
  pub past : (i : ℕ) → 4 * size r.names ≤ i → get_or v i 0 ≡ get_or w i 0
  pub ready : Ready r v

pub record AllMarked (g : List ℕ) (r : Releases) (w v : List ℕ) : Type 0 where
  pub long : length v ≡ length w
  pub before : (i : ℕ) → i < 2 * size r.names → get_or v i 0 ≡ get_or w i 0
  pub past : (i : ℕ) → 4 * size r.names ≤ i → get_or v i 0 ≡ get_or w i 0
  pub forward : ForwardMarked g r.first.file.now r.second.file.now (forward_layout r) v
  pub backward : BackwardMarked g r.first.file.now r.second.file.now (backward_layout r) v

pub record ZeroedBetween (a b : ℕ) (w v : List ℕ) : Type 0 where
  pub long : length v ≡ length w
  pub before : (i : ℕ) → i < a → get_or v i 0 ≡ get_or w i 0
  pub zero : (i : ℕ) → a ≤ i → i < b → get_or v i 0 ≡ 0
  pub past : (i : ℕ) → b ≤ i → get_or v i 0 ≡ get_or w i 0

pub record Reported (g : List ℕ) (r : Releases) (o p : List ℕ) : Type 0 where
  pub long : length p ≡ length o
  pub byte : (a : ℕ) → a < r.names → IsByte (signature_of r.names r.roles g) (content_of r.first.file.now) (content_of r.second.file.now) a (get_or p a 0)
  pub rest : (i : ℕ) → r.names ≤ i → get_or p i 0 ≡ get_or o i 0

pub record Marking (g : List ℕ) (r : Releases) (o p w v : List ℕ) : Type 0 where
  pub reported : Reported g r o p
  pub long : length v ≡ length w
  pub before : (i : ℕ) → i < 2 * size r.names → get_or v i 0 ≡ get_or w i 0
  pub past : (i : ℕ) → 4 * size r.names ≤ i → get_or v i 0 ≡ get_or w i 0

pub record Compared (g : List ℕ) (r : Releases) (o p w v : List ℕ) : Type 0 where
  pub reported : Reported g r o p
  pub zero : (i : ℕ) → i < 4 * size r.names → get_or v i 0 ≡ 0
  pub past : (i : ℕ) → 4 * size r.names ≤ i → get_or v i 0 ≡ get_or w i 0

pub record ComparedAgain (g : List ℕ) (r : Releases) (o p w v : List ℕ) : Type 0 where
  pub reported : Reported g r o p
  pub same : v ≡ w
