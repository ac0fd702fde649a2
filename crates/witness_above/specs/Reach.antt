-- The pairs of nodes that the pair asked for leads to: from x, y with an edge x -r-> X by the first release to X, Y for each edge y -r-> Y by
-- the second. A byte for each pair: 0; 2 where it is noted; 1 where it is noted and so is all that it leads to. Behind the line a row for each
-- name c: a byte for each node y, 1 where the edge by c was followed from y.
--   edge_row n c, last_row n     the number of such a row among the rows of bytes; the last there can be
--   Noted w base n x y           the byte of the pair is not 0;  New: nor is it 1
--   Noting base n w v            the memory w became v: some bytes of pairs that were 0 are 2
--   ServesEdge G c q             by the second release the role q serves for a role of the edge of the name c
--   Serving G c set              the set has the roles that do, of those that have a bit
--   LeadsBy G w set y d          by the second release y has an edge with a role of the set, by the name d
--   LeadsTo G w c y d            it has one with a role that serves for a role of the edge of c, by the name d
--   SomeEdge G c                 the edge of the name c has a role
--   EdgeOf G w x c               by the first release x has an edge with a role of the signature, by the name c
--   Leading G w x y c d          the pair x, y leads to the fillers of the names c and d
--   ToReach G w                  what the functions ask: squares of both releases, and bytes behind them
--   ByEdge G w c y               what the edge by c leads to from y is noted;  Followed: so it is where the bytes say so
--   BytesCleared from end w v    the bytes from a place up to another are 0, and all else is as before
--   EdgesCleared base n w v      the bytes say so of no edge
--   Grown G w v                  some pairs are noted, and what is said to be followed is
--   Expanded G x y e w v         what it leads to is noted, for c before e
--   Closing G w                  what a pair with byte 1 leads to is noted
--   Swept G D w v r              pairs that D holds of were expanded; r: there were new ones among them
--   Reached G asked w v          the pair asked for has byte 1, and with a pair all that it leads to
use Rattle.std.specs.Prelude.{◌≡◌, ◌↔◌, Bool, true, false, ◌⊎◌, List, ℕ, ◌+◌, ◌≤◌, ◌<◌, length, get_or}
use Rattle.release.specs.Files.{restricts, most_roles}
use Rattle.release.specs.Roles.{HasRole, NoRole}
use Rattle.release.specs.Tables.{kind_at, role_at, filler_at, serves_at}
use Rattle.marks.specs.Squares.{Marked}
use Rattle.layout.specs.declared.Given.{Given}
use Rattle.layout.specs.Layouts.{first_square, second_square}
use Rattle.layout.specs.Tables.{edges_at, HasEdge}
use Rattle.row_evaluation.specs.Cells.{cell, Holds, RowRoom}
use Rattle.witness_above.specs.Joining.{line}
use Rattle.witness_above.specs.Left.{held, Laid}

abbrev pub edge_row : ℕ → ℕ → ℕ
edge_row n c = n + 2 + c

abbrev pub last_row : ℕ → ℕ
last_row n = n + 1 + n

pub record Noted (w : List ℕ) (base n x y : ℕ) : Type 0 where
  pub not_zero : get_or w (cell base n x y) 0 ≡ 0 → ⊥

pub record New (w : List ℕ) (base n x y : ℕ) : Type 0 where
  pub noted : Noted w base n x y
  pub not_one : Holds w base n x y → ⊥

pub record Noting (base n : ℕ) (w v : List ℕ) : Type 0 where
  pub long : length v ≡ length w
  pub before : (p : ℕ) → p < base → get_or v p 0 ≡ get_or w p 0
  pub past : (p : ℕ) → cell base n (line n) 0 ≤ p → get_or v p 0 ≡ get_or w p 0
  pub byte : (p : ℕ) → (get_or v p 0 ≡ get_or w p 0) ⊎ ((get_or w p 0 ≡ 0) × (get_or v p 0 ≡ 2))

pub record NotedPair (base n x y : ℕ) (w v : List ℕ) : Type 0 where
  pub noting : Noting base n w v
  pub noted : Noted v base n x y

-- the byte of a pair is 1, and all else is as before
pub record Settled (base n x y : ℕ) (w v : List ℕ) : Type 0 where
  pub long : length v ≡ length w
  pub here : Holds v base n x y
  pub other : (p : ℕ) → (p ≡ cell base n x y → ⊥) → get_or v p 0 ≡ get_or w p 0

pub record ServesEdge (G : Given) (c q : ℕ) : Type 0 where
  pub role : ℕ
  pub edge : HasEdge G.edges.now c role
  pub serves : serves_at G.second.table.now q role ≡ true

pub record Serving (G : Given) (c set : ℕ) : Type 0 where
  pub tells : (q : ℕ) → q < most_roles → HasRole set q ↔ ServesEdge G c q

pub record LeadsBy (G : Given) (w : List ℕ) (set y d : ℕ) : Type 0 where
  pub is_restriction : restricts (kind_at G.second.table.now d) ≡ true
  pub role : HasRole set (role_at G.second.table.now d)
  pub above : Marked (second_square G.layout) w y d

pub record LeadsTo (G : Given) (w : List ℕ) (c y d : ℕ) : Type 0 where
  pub is_restriction : restricts (kind_at G.second.table.now d) ≡ true
  pub small : role_at G.second.table.now d < most_roles
  pub role : ServesEdge G c (role_at G.second.table.now d)
  pub above : Marked (second_square G.layout) w y d

pub record RowNoted (G : Given) (set x y e : ℕ) (w v : List ℕ) : Type 0 where
  pub noting : Noting G.layout.marks G.layout.names w v
  pub each : (d : ℕ) → d < e → LeadsBy G w set y d → Noted v G.layout.marks G.layout.names x (filler_at G.second.table.now d)

abbrev pub SomeEdge : Given → ℕ → Type 0
SomeEdge G c = NoRole (edges_at G.edges.now c) → ⊥

pub record EdgeOf (G : Given) (w : List ℕ) (x c : ℕ) : Type 0 where
  pub edge : SomeEdge G c
  pub above : Marked (first_square G.layout) w x c

pub record Leading (G : Given) (w : List ℕ) (x y c d : ℕ) : Type 0 where
  pub from : EdgeOf G w x c
  pub is_name : d < G.layout.names
  pub to : LeadsTo G w c y d

pub record ToReach (G : Given) (w : List ℕ) : Type 0 where
  pub laid : Laid G w
  pub bytes : RowRoom G.layout.marks G.layout.names (line G.layout.names) w
  pub edges : RowRoom G.layout.marks G.layout.names (last_row G.layout.names) w

pub record ByEdge (G : Given) (w : List ℕ) (c y : ℕ) : Type 0 where
  pub is_restriction : restricts (kind_at G.first.table.now c) ≡ true
  pub each : (d : ℕ) → d < G.layout.names → LeadsTo G w c y d → Noted w G.layout.marks G.layout.names (filler_at G.first.table.now c)
      (filler_at G.second.table.now d)

pub record Followed (G : Given) (w : List ℕ) : Type 0 where
  pub each : (c y : ℕ) → c < G.layout.names → y ≤ G.layout.names → Holds w G.layout.marks G.layout.names (edge_row G.layout.names c) y → ByEdge G w c y

pub record BytesCleared (from end : ℕ) (w v : List ℕ) : Type 0 where
  pub long : length v ≡ length w
  pub before : (p : ℕ) → p < from → get_or v p 0 ≡ get_or w p 0
  pub past : (p : ℕ) → end ≤ p → get_or v p 0 ≡ get_or w p 0
  pub zero : (p : ℕ) → from ≤ p → p < end → get_or v p 0 ≡ 0

pub record EdgesCleared (base n : ℕ) (w v : List ℕ) : Type 0 where
  pub long : length v ≡ length w
  pub before : (p : ℕ) → p < cell base n (edge_row n 0) 0 → get_or v p 0 ≡ get_or w p 0
  pub past : (p : ℕ) → cell base n (edge_row n n) 0 ≤ p → get_or v p 0 ≡ get_or w p 0
  pub none : (c y : ℕ) → c < n → y ≤ n → Holds v base n (edge_row n c) y → ⊥

-- from the first byte of the line on, only bytes of edges change
pub record Grown (G : Given) (w v : List ℕ) : Type 0 where
  pub long : length v ≡ length w
  pub before : (p : ℕ) → p < G.layout.marks → get_or v p 0 ≡ get_or w p 0
  pub past : (p : ℕ) → cell G.layout.marks G.layout.names (edge_row G.layout.names G.layout.names) 0 ≤ p → get_or v p 0 ≡ get_or w p 0
  pub byte : (p : ℕ) → p < cell G.layout.marks G.layout.names (line G.layout.names) 0 → (get_or v p 0 ≡ get_or w p 0) ⊎ ((get_or w p 0 ≡ 0) × (get_or v p 0 ≡ 2))
  pub followed : Followed G w → Followed G v

pub record EdgeFollowed (G : Given) (c y : ℕ) (w v : List ℕ) : Type 0 where
  pub grown : Grown G w v
  pub by_edge : ByEdge G v c y

pub record Expanded (G : Given) (x y e : ℕ) (w v : List ℕ) : Type 0 where
  pub grown : Grown G w v
  pub each : (c d : ℕ) → c < e → Leading G w x y c d → Noted v G.layout.marks G.layout.names (filler_at G.first.table.now c) (filler_at G.second.table.now d)

pub record Closing (G : Given) (w : List ℕ) : Type 0 where
  pub each : (x y c d : ℕ) → x ≤ G.layout.names → y ≤ G.layout.names → c < G.layout.names → Holds w G.layout.marks G.layout.names x y → Leading G w x y c d
      → Noted w G.layout.marks G.layout.names (filler_at G.first.table.now c) (filler_at G.second.table.now d)

pub record Swept (G : Given) (D : ℕ → ℕ → Type 0) (w v : List ℕ) (r : Bool) : Type 0 where
  pub long : length v ≡ length w
  pub before : (p : ℕ) → p < G.layout.marks → get_or v p 0 ≡ get_or w p 0
  pub past : (p : ℕ) → cell G.layout.marks G.layout.names (edge_row G.layout.names G.layout.names) 0 ≤ p → get_or v p 0 ≡ get_or w p 0
  pub noted : (x y : ℕ) → x ≤ G.layout.names → y ≤ G.layout.names → Noted w G.layout.marks G.layout.names x y → Noted v G.layout.marks G.layout.names x y
  pub followed : Followed G w → Followed G v
  pub closing : Closing G w → Closing G v
  pub least : held w G.layout.marks G.layout.names ≤ held v G.layout.marks G.layout.names
  pub more : r ≡ true → held w G.layout.marks G.layout.names < held v G.layout.marks G.layout.names
  pub same : r ≡ false → v ≡ w
  pub none : r ≡ false → (x y : ℕ) → x ≤ G.layout.names → y ≤ G.layout.names → D x y → New w G.layout.marks G.layout.names x y → ⊥

-- all pairs that are noted have byte 1
pub record Settling (G : Given) (w v : List ℕ) : Type 0 where
  pub long : length v ≡ length w
  pub before : (p : ℕ) → p < G.layout.marks → get_or v p 0 ≡ get_or w p 0
  pub past : (p : ℕ) → cell G.layout.marks G.layout.names (edge_row G.layout.names G.layout.names) 0 ≤ p → get_or v p 0 ≡ get_or w p 0
  pub noted : (x y : ℕ) → x ≤ G.layout.names → y ≤ G.layout.names → Noted w G.layout.marks G.layout.names x y → Noted v G.layout.marks G.layout.names x y
  pub followed : Followed G w → Followed G v
  pub closing : Closing G w → Closing G v
  pub none : (x y : ℕ) → x ≤ G.layout.names → y ≤ G.layout.names → New v G.layout.marks G.layout.names x y → ⊥

-- no pair is noted
pub record Blank (base n : ℕ) (w : List ℕ) : Type 0 where
  pub zero : (p : ℕ) → base ≤ p → p < cell base n (line n) 0 → get_or w p 0 ≡ 0

pub record Reached (G : Given) (asked : ℕ) (w v : List ℕ) : Type 0 where
  pub long : length v ≡ length w
  pub before : (p : ℕ) → p < G.layout.marks → get_or v p 0 ≡ get_or w p 0
  pub past : (p : ℕ) → cell G.layout.marks G.layout.names (edge_row G.layout.names G.layout.names) 0 ≤ p → get_or v p 0 ≡ get_or w p 0
  pub asked_held : Holds v G.layout.marks G.layout.names asked asked
  pub closed : (x y c d : ℕ) → x ≤ G.layout.names → y ≤ G.layout.names → c < G.layout.names → Holds v G.layout.marks G.layout.names x y → Leading G v x y c d
      → Holds v G.layout.marks G.layout.names (filler_at G.first.table.now c) (filler_at G.second.table.now d)
