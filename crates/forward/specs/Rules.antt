-- The rules of forward marks, over what a comparison is given: the tables of the two releases, the squares in the memory w, and what is
-- handed on of a signature, the bytes of its names and the edges found. Rows and columns are nodes: the names below n, then ⊤.
--   Beneath l w                 w has the second release's inclusions turned, too: row c has what lies below c
--   Setting given w             all that the functions ask;  Named given w: what those ask that mark names
--   NameLost given w x y        x is a signature name, and not above y by the second release
--   Serves b q w z r c          the role of the restriction of c in the table b serves for r, and its filler is not marked in row z
--   Partner given w z y r c     so it is, and y lies below c by the second release: c gives y an edge
--   NextSuccessor b r c from o  o is the first successor of c by the role r in the table b, from `from` on, if there is one
--   Edge given x r              the axiom of x gives an edge by the first release with the signature role r, its own role or one above it
--   RoleLost given w x r y      the edge of x with r has no partner;  EdgeLost given w x y: so it is for one of its roles
--   Own given w x y             x, y is lost by what x itself is: by its name, or by its edge
--   FromAbove l w x y           x, y is lost since c, y is marked, and x lies below c by the first release
--   Follows given w x y         x, y is lost by the edge of x, or by what lies above x;  Followed given w v: w became v by such marks
--   Step given w x y            a rule allows the mark x, y: it is lost by x itself, or by what lies above x
--   JoinedBelow l w c i j       the line j is i, with what lies below c by the second release
--   Partnered given w z r k     what is in the line k lies below a name that serves;  Kept given w z r k: that is all that does
--   RowFull q x w               row x is marked with all nodes
--   NextOpen given w x from o   o is the first role of the edge of x from `from` on by which something can be left to mark, if there is one
--   LeftOpen q w x k y          the cell x, y is not marked, and y is not in the line k
--   NextMissing q w x k from o  o is the first such column of row x from `from` on, if there is one
--   ByName given x w            nothing is left to mark by the name x;  ByRole given x r w: by its edge with r;  ByEdge given x w: by its edge
--   EdgeCell given x r y w      nothing is left to mark there by its edge with r
--   Looked given x w            by both
--   Cell given x y w            nothing is left to mark there by x itself
--   Taken l x c w               if x lies below c by the first release, row x has the marks of row c
--   Row given x w               nothing is left to mark in row x
-- Not here: what the rules mean (proofs/Meaning).
use Rattle.std.specs.Prelude.{◌≡◌, Bool, true, false, List, ◌⊎◌, ℕ, suc, ◌+◌, ◌*◌, ◌≤◌, ◌<◌, Option}
use Rattle.std.specs.Option.{MatchOption}
use Rattle.release.specs.declared.RoleIndex.{RoleIndex}
use Rattle.release.specs.declared.table.Table.{Table}
use Rattle.release.specs.Files.{restricts}
use Rattle.release.specs.Tables.{kind_at, role_at, filler_at, serves_at, HasSuccessor}
use Rattle.marks.specs.declared.Square.{Square}
use Rattle.marks.specs.Squares.{span, behind, Room, Marked, Apart, Frame, Within, First, Nowhere, Next}
use Rattle.marks.specs.Passes.{Grows, Below}
use Rattle.marks.specs.Lines.{Has}
use Rattle.marks.specs.Inclusions.{Turned}
use Rattle.marks.proofs.Squares.{frame_room, frame_marked, marked_frame}
use Rattle.marks.proofs.Passes.{grows_frame}
use Rattle.layout.specs.declared.Layout.{Layout}
use Rattle.layout.specs.declared.Given.{Given}
use Rattle.layout.specs.Searches.{SomeBelow}
use Rattle.layout.specs.Layouts as layout
use Rattle.layout.proofs.Layouts.{second_apart, below_apart, setting_stays as places_stay}
use Rattle.layout.specs.Tables.{HasEdge}
use Rattle.layout.specs.Layouts.{first_square, second_square, below_square, mark_square, chosen}

-- what is asked of the turned inclusions: they are there, and marks change neither them nor the others
pub record Beneath (l : Layout) (w : List ℕ) : Type 0 where
  pub room : Room (below_square l) w
  pub turned : Turned (second_square l) w (below_square l) w
  pub apart : l.second + 2 * span l.names ≤ l.marks

-- what the functions ask; where there is no name there need be no room for the turned inclusions
pub record Setting (given : Given) (w : List ℕ) : Type 0 where
  pub places : layout.Setting given w
  pub below : 1 ≤ given.layout.names → Beneath given.layout w

-- what those ask that mark names
pub record Named (given : Given) (w : List ℕ) : Type 0 where
  pub marks : Room (mark_square given.layout) w
  pub below : 1 ≤ given.layout.names → Beneath given.layout w

-- all stay where marks are put; these laws stand here, since an impl's law may cite specs/ of its crate, and not its proofs/
pub beneath_stays : {l : Layout} {w v : List ℕ} → Frame (mark_square l) w v → Beneath l w → Beneath l v
unfolding behind
beneath_stays {l} f s = record {
  room = frame_room f s.room;
  turned = record {
    to = λ x y h i m. frame_marked f (below_apart l s.apart) i h (s.turned.to x y h i (marked_frame f (second_apart l s.apart) h i m));
    from = λ x y h i m. frame_marked f (second_apart l s.apart) h i (s.turned.from x y h i (marked_frame f (below_apart l s.apart) i h m));
  };
  apart = s.apart;
}

pub setting_stays : {Rule : List ℕ → ℕ → ℕ → Type 0} {given : Given} {w v : List ℕ} → Grows Rule (mark_square given.layout) w v → Setting given w → Setting given v
setting_stays grows s = record { places = places_stay grows s.places; below = λ h. beneath_stays (grows_frame grows) (s.below h) }

pub record NameLost (given : Given) (w : List ℕ) (x y : ℕ) : Type 0 where
  pub is_name : x < given.layout.names
  pub chosen_name : (chosen given.layout given.chosen_names.now).has_name x ≡ true
  pub not_second : Marked (second_square given.layout) w y x → ⊥

pub record Serves (b : Table) (q : Square) (w : List ℕ) (z r c : ℕ) : Type 0 where
  pub is_restriction : restricts (kind_at b c) ≡ true
  pub role : serves_at b (role_at b c) r ≡ true
  pub free : Marked q w z (filler_at b c) → ⊥

pub record Partner (given : Given) (w : List ℕ) (z y r c : ℕ) : Type 0 where
  pub serves : Serves given.second.table.now (mark_square given.layout) w z r c
  pub second : Marked (second_square given.layout) w y c

-- the node that an edge ends at; a name has one axiom, so one at most
pub record FirstSuccessor (b : Table) (r c from z : ℕ) : Type 0 where
  pub after : from ≤ z
  pub before : (d : ℕ) → from ≤ d → d < z → HasSuccessor b c r d → ⊥
  pub successor : HasSuccessor b c r z

pub record NoSuccessor (b : Table) (r c from : ℕ) : Type 0 where
  pub none : (d : ℕ) → from ≤ d → HasSuccessor b c r d → ⊥

abbrev pub NextSuccessor : Table → ℕ → ℕ → ℕ → Option ℕ → Type 0
NextSuccessor b r c from o = MatchOption o (NoSuccessor b r c from) (FirstSuccessor b r c from)

pub record Edge (given : Given) (x r : ℕ) : Type 0 where
  pub is_name : x < given.layout.names
  pub with_role : HasEdge given.edges.now x r

pub record RoleLost (given : Given) (w : List ℕ) (x r y : ℕ) : Type 0 where
  pub edge : Edge given x r
  pub no_partner : SomeBelow (Partner given w (filler_at given.first.table.now x) y r) given.layout.names → ⊥

pub record EdgeLost (given : Given) (w : List ℕ) (x y : ℕ) : Type 0 where
  pub role : ℕ
  pub lost : RoleLost given w x role y

pub data Own (given : Given) (w : List ℕ) (x y : ℕ) : Type 0 where
  by_name : NameLost given w x y → Own given w x y
  by_edge : EdgeLost given w x y → Own given w x y

-- marks put between the test and the mark change no inclusion, if the two squares are apart
pub record FromAbove (l : Layout) (w : List ℕ) (x y : ℕ) : Type 0 where
  pub it : ℕ
  pub inside : it ≤ l.names
  pub first : Apart (first_square l) (mark_square l) → Marked (first_square l) w x it
  pub lost : Marked (mark_square l) w it y

pub data Follows (given : Given) (w : List ℕ) (x y : ℕ) : Type 0 where
  from_edge : EdgeLost given w x y → Follows given w x y
  from_above : FromAbove given.layout w x y → Follows given w x y

abbrev pub Followed : Given → List ℕ → List ℕ → Type 0
Followed given w v = Grows (Follows given) (mark_square given.layout) w v

pub data Step (given : Given) (w : List ℕ) (x y : ℕ) : Type 0 where
  by_itself : Own given w x y → Step given w x y
  by_above : FromAbove given.layout w x y → Step given w x y

-- stands here for the same reason
pub follows_step : {given : Given} {w : List ℕ} {x y : ℕ} → Follows given w x y → Step given w x y
follows_step (from_edge e) = by_itself (by_edge e)
follows_step (from_above f) = by_above f

-- lines of nodes
pub record JoinedBelow (l : Layout) (w : List ℕ) (c : ℕ) (i j : List ℕ) : Type 0 where
  pub stays : (y : ℕ) → Has i y → Has j y
  pub has : (y : ℕ) → y ≤ l.names → Marked (second_square l) w y c → Has j y
  pub only : (y : ℕ) → y ≤ l.names → Has j y → Has i y ⊎ Marked (second_square l) w y c

pub record Partnered (given : Given) (w : List ℕ) (z r : ℕ) (k : List ℕ) : Type 0 where
  pub partner : (y : ℕ) → y ≤ given.layout.names → Has k y → SomeBelow (Partner given w z y r) given.layout.names

pub record Kept (given : Given) (w : List ℕ) (z r : ℕ) (k : List ℕ) : Type 0 where
  pub has : (y c : ℕ) → y ≤ given.layout.names → c < given.layout.names → Partner given w z y r c → Has k y
  pub only : Partnered given w z r k

pub record LeftOpen (q : Square) (w : List ℕ) (x : ℕ) (k : List ℕ) (y : ℕ) : Type 0 where
  pub not_marked : Marked q w x y → ⊥
  pub not_there : Has k y → ⊥

pub record RowFull (q : Square) (x : ℕ) (w : List ℕ) : Type 0 where
  pub marked : (y : ℕ) → y ≤ q.names → Marked q w x y

abbrev pub NextMissing : Square → List ℕ → ℕ → List ℕ → ℕ → Option ℕ → Type 0
NextMissing q w x k from o = Next (LeftOpen q w x k) (λ y. Has k y ⊎ Marked q w x y) q.names from o

pub record ByName (given : Given) (x : ℕ) (w : List ℕ) : Type 0 where
  pub marked : (y : ℕ) → y ≤ given.layout.names → NameLost given w x y → Marked (mark_square given.layout) w x y

pub record ByRole (given : Given) (x r : ℕ) (w : List ℕ) : Type 0 where
  pub marked : (y : ℕ) → y ≤ given.layout.names → RoleLost given w x r y → Marked (mark_square given.layout) w x y

pub record ByEdge (given : Given) (x : ℕ) (w : List ℕ) : Type 0 where
  pub marked : (y : ℕ) → y ≤ given.layout.names → EdgeLost given w x y → Marked (mark_square given.layout) w x y

abbrev pub NextOpen : Given → List ℕ → ℕ → ℕ → Option RoleIndex → Type 0
NextOpen given w x from o = MatchOption o (Nowhere (λ r. ByRole given x r w) 31 from) (λ role. First (HasEdge given.edges.now x) (λ r. ByRole given x r w) 31 from role.0)

pub record EdgeCell (given : Given) (x r y : ℕ) (w : List ℕ) : Type 0 where
  pub marked : RoleLost given w x r y → Marked (mark_square given.layout) w x y

pub record RowLost (given : Given) (x r : ℕ) (w v : List ℕ) (b : Bool) : Type 0 where
  pub grows : Grows (Follows given) (mark_square given.layout) w v
  pub same : b ≡ false → v ≡ w
  pub done : b ≡ false → ByRole given x r v

pub record Looked (given : Given) (x : ℕ) (w : List ℕ) : Type 0 where
  pub name : ByName given x w
  pub edge : ByEdge given x w

pub record Cell (given : Given) (x y : ℕ) (w : List ℕ) : Type 0 where
  pub marked : Own given w x y → Marked (mark_square given.layout) w x y

pub record Taken (l : Layout) (x c : ℕ) (w : List ℕ) : Type 0 where
  pub within : Marked (first_square l) w x c → Within (mark_square l) c x w

pub record Row (given : Given) (x : ℕ) (w : List ℕ) : Type 0 where
  pub cells : Below (Cell given x) (suc given.layout.names) w
  pub above : Below (Taken given.layout x) (suc given.layout.names) w
