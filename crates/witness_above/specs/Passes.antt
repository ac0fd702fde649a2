-- Passes over all names, until one writes nothing.
--   Chosen G x                the name x is in the signature
--   NameQuiet, EdgeQuiet      nothing is left to take by the name x, by its edge with the role r
--   ToGo                      what the functions ask
--   Opened sig G o s t        what is given is of the signature, and the pairs held at the start are closed under its edges
--   Went                      turns were made: the rows keep what they are for all releases and signatures that this is given of
--   Passed .. e ..            so it is for the names before e, and if nothing was written while the pair asked for is held, nothing is left to
--                             take by these
--   Done                      of passes from no row on: the pair asked for is lost, or nothing is left to take
use Rattle.std.specs.Prelude.{◌≡◌, true, List, ℕ, ◌≤◌, ◌<◌, length}
use Rattle.el.specs.Signatures.{Signature}
use Rattle.release.specs.Files.{content_of}
use Rattle.release.specs.Tables.{filler_at}
use Rattle.marks.specs.Squares.{Marked}
use Rattle.layout.specs.declared.Given.{Given}
use Rattle.layout.specs.Layouts.{first_square, second_square, chosen}
use Rattle.layout.specs.Tables.{HasEdge}
use Rattle.row_evaluation.specs.Cells.{Holds}
use Rattle.row_evaluation.specs.Below.{Reaches}
use Rattle.witness_above.specs.Left.{State, LeftProgress, Laid, second_rows, FirstWorld, SecondWorld, Turned, Edge, RoleOpened, LeadsOn}

abbrev pub Chosen : Given → ℕ → Type 0
Chosen G x = (chosen G.layout G.chosen_names.now).has_name x ≡ true

pub record NameQuiet (G : Given) (w : List ℕ) (x : ℕ) : Type 0 where
  pub lined : (z y : ℕ) → z ≤ G.layout.names → y ≤ G.layout.names → Marked (first_square G.layout) w z x → Holds w G.layout.marks G.layout.names z y
      → Marked (second_square G.layout) w y x

pub record EdgeQuiet (G : Given) (w : List ℕ) (x r : ℕ) : Type 0 where
  pub lined : (z y : ℕ) → z ≤ G.layout.names → y ≤ G.layout.names → Marked (first_square G.layout) w z x → Holds w G.layout.marks G.layout.names z y
      → Reaches (second_rows G) w (filler_at G.first.table.now x) r y

pub record ToGo (G : Given) (asked k : ℕ) (ys ps w : List ℕ) : Type 0 where
  pub asked_in : asked ≤ G.layout.names
  pub state : State G.layout k ys ps w
  pub laid : Laid G w

-- what noticing a change of the row of a filler asks
pub record ToNotice (n x : ℕ) (ps seen : List ℕ) : Type 0 where
  pub numbers : n < length ps
  pub notes : n ≤ length seen
  pub name : x < n

pub record Opened (sig : Signature) (G : Given) (o s t : List ℕ) : Type 0 where
  pub chosen : (x : ℕ) → Chosen G x → sig.has_name x ≡ true
  pub role : (x r : ℕ) → Edge G x r → RoleOpened G sig x r
  pub leads : (x r : ℕ) → Edge G x r → LeadsOn G o s t x r

pub record Went (G : Given) (asked k : ℕ) (ys zs ps qs w v : List ℕ) (j : ℕ) : Type 0 where
  pub turned : Turned G.layout asked k ys zs ps qs w v j
  pub keeps : (o : List ℕ) (sig : Signature) (s t : List ℕ) → FirstWorld s G w → SecondWorld t G w → Opened sig G o s t
      → LeftProgress sig (content_of s) (content_of t) G.layout asked k ys ps o w → LeftProgress sig (content_of s) (content_of t) G.layout asked j zs qs o v

pub record Passed (G : Given) (asked e k : ℕ) (ys zs ps qs w v : List ℕ) (j : ℕ) : Type 0 where
  pub went : Went G asked k ys zs ps qs w v j
  pub names_quiet : Holds w G.layout.marks G.layout.names asked asked → j ≡ k → (x : ℕ) → x < e → Chosen G x → NameQuiet G w x
  pub edges_quiet : Holds w G.layout.marks G.layout.names asked asked → j ≡ k → (x r : ℕ) → x < e → HasEdge G.edges.now x r → EdgeQuiet G w x r

pub record Done (G : Given) (asked : ℕ) (ys zs ps qs w v : List ℕ) (j : ℕ) : Type 0 where
  pub went : Went G asked 0 ys zs ps qs w v j
  pub names_quiet : Holds v G.layout.marks G.layout.names asked asked → (x : ℕ) → x < G.layout.names → Chosen G x → NameQuiet G v x
  pub edges_quiet : Holds v G.layout.marks G.layout.names asked asked → (x r : ℕ) → Edge G x r → EdgeQuiet G v x r
