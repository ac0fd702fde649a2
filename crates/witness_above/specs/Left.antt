-- The rows of a left report as they are written.
--   row_of n ps, Lost n base o w     the number of each node; a pair of nodes that is held in the memory o, at the start, is lost where its byte is not
--                                   1 in w
--   Line u n base o w x c           of the nodes held for x at the start the line has each that lies below the concept c by the second release
--   LeftReport                      what the rows are (LeftRows), while the pair asked for is held
--   LastAbove sig t u n x k ys      the last of k rows lies above the node x by the first release and not by the second
--   LeftProgress                    the rows are a LeftReport; or, once the pair asked for is lost, the last of them shows the difference
--   held w base n                   for how many pairs of nodes nothing is lost yet
--   State L k ys ps w               room for what is written, three rows at most for each pair that something is lost for
--   Joins .. a e ys                 row e may be joined to the concept of each node that lies below the name a by the first release
--   OthersJoined                    so it was, to that of all nodes but the one asked for
--   JoinedAll                       so it was, to that of all nodes; or the pair asked for is lost by row e, which is the last
--   TopFound, Restricted            the row of ⊤; ∃ over the concept of a number, written as row r
--   Laid G w                        the squares of both releases are before the bytes of the pairs
--   second_rows G                   by what the line is filled: the second release, and the bytes of the pairs as rows
--   Turned                          after turns
--   FirstWorld s G w, SecondWorld t G w      a release that has the first table given, and its inclusions; and one that has the second
--   Edge G x r                      the name x has an edge by the first release, with the role r of the signature
--   LeadsOn G o s t c r             the pairs held at the start are closed under the edge of the name c with the role r
use Rattle.std.specs.Prelude.{◌≡◌, List, ℕ, suc, ◌+◌, ◌*◌, ◌≤◌, ◌<◌, eqb, length, get_or, true}
use Rattle.el.specs.Concepts.{Concept, name, Node, concept_of}
use Rattle.el.specs.Axioms.{Terminology}
use Rattle.el.specs.Derivability.{Derives}
use Rattle.el.specs.Signatures.{Signature}
use Rattle.el.specs.Terminologies.{IsNode}
use Rattle.concept_rows.specs.Rows.{row, concept_of_row}
use Rattle.concept_rows.specs.Lent.{row_at, rows_needed}
use Rattle.concept_rows.specs.Written.{Formed, Agree, passing, LeftRows}
use Rattle.release.specs.Entries.{node_number}
use Rattle.release.specs.Files.{most_names, restricts, content_of}
use Rattle.release.specs.Tables.{kind_at, role_at, filler_at, serves_at}
use Rattle.marks.specs.Squares.{span, Room, Marked}
use Rattle.classification.specs.Inclusions.{node_at}
use Rattle.layout.specs.declared.Layout.{Layout}
use Rattle.layout.specs.declared.Given.{Given}
use Rattle.layout.specs.Layouts.{first_square, second_square}
use Rattle.layout.specs.Tables.{HasEdge}
use Rattle.row_evaluation.specs.declared.Evaluation.{Evaluation}
use Rattle.row_evaluation.specs.Cells.{cell, Holds, RowRoom}
use Rattle.row_evaluation.specs.Worlds.{World, node_point}
use Rattle.row_evaluation.specs.Below.{Reaches}
use Rattle.row_evaluation.specs.RowForms.{most, RowPut}
use Rattle.witness_above.specs.Joining.{line, Loses}

abbrev pub row_of : ℕ → List ℕ → Node → ℕ
row_of n ps z = get_or ps (node_number n z) 0

abbrev pub Lost : ℕ → ℕ → List ℕ → List ℕ → Node → Node → Type 0
Lost n base o w x y = Holds o base n (node_number n x) (node_number n y) × (Holds w base n (node_number n x) (node_number n y) → ⊥)

pub record Line (u : Terminology) (n base : ℕ) (o w : List ℕ) (x : ℕ) (c : Concept) : Type 0 where
  pub has : (y : Node) → IsNode n y → Holds o base n x (node_number n y) → Derives u (concept_of y) c → Holds w base n (line n) (node_number n y)

unfoldable pub held : List ℕ → ℕ → ℕ → ℕ
held w base n = passing (λ p. eqb (get_or w (base + p) 0) 1) (suc n * suc n)

pub record State (L : Layout) (k : ℕ) (ys ps w : List ℕ) : Type 0 where
  pub rows : 3 * rows_needed L.names ≤ length ys
  pub few : L.names ≤ most_names
  pub numbers : L.names < length ps
  pub bytes : RowRoom L.marks L.names (line L.names) w
  pub bound : k + 3 * held w L.marks L.names ≤ 3 * (suc L.names * suc L.names)

pub record LeftReport (sig : Signature) (t u : Terminology) (L : Layout) (k : ℕ) (ys ps o w : List ℕ) : Type 0 where
  pub rows : LeftRows sig t u L.names (row_at ys) k (row_of L.names ps) (Lost L.names L.marks o w)

pub record LastAbove (sig : Signature) (t u : Terminology) (n x k : ℕ) (ys : List ℕ) : Type 0 where
  pub formed : Formed sig (row_at ys) k
  pub last : ℕ
  pub is_last : k ≡ suc last
  pub first : Derives t (concept_of (node_at n x)) (concept_of_row (row_at ys) last)
  pub second : Derives u (concept_of (node_at n x)) (concept_of_row (row_at ys) last) → ⊥

pub record LeftProgress (sig : Signature) (t u : Terminology) (L : Layout) (asked k : ℕ) (ys ps o w : List ℕ) : Type 0 where
  pub at_start : Holds o L.marks L.names asked asked
  pub going : Holds w L.marks L.names asked asked → LeftReport sig t u L k ys ps o w
  pub shown : (Holds w L.marks L.names asked asked → ⊥) → LastAbove sig t u L.names asked k ys

pub record Joins (sig : Signature) (t u : Terminology) (L : Layout) (o w : List ℕ) (a e : ℕ) (ys : List ℕ) : Type 0 where
  pub first : (x : ℕ) → x ≤ L.names → Marked (first_square L) w x a → Derives t (concept_of (node_at L.names x)) (concept_of_row (row_at ys) e)
  pub second : (x : ℕ) → x ≤ L.names → Marked (first_square L) w x a → Line u L.names L.marks o w x (concept_of_row (row_at ys) e)

-- where all is kept
pub record Places (L : Layout) (asked a : ℕ) (w : List ℕ) : Type 0 where
  pub asked_in : asked ≤ L.names
  pub held : Holds w L.marks L.names asked asked
  pub room : Room (first_square L) w
  pub apart : L.first + span L.names ≤ L.marks
  pub name : a ≤ L.names

pub record ToJoinOthers (L : Layout) (asked a e k : ℕ) (ys ps w : List ℕ) : Type 0 where
  pub places : Places L asked a w
  pub state : State L k ys ps w
  pub earlier : e < k

-- the last row, e, is to be joined; x is a node that loses something by it
pub record ToJoinAll (L : Layout) (asked a x e : ℕ) (ys ps w : List ℕ) : Type 0 where
  pub places : Places L asked a w
  pub rows : 3 * rows_needed L.names ≤ length ys
  pub few : L.names ≤ most_names
  pub numbers : L.names < length ps
  pub bytes : RowRoom L.marks L.names (line L.names) w
  pub bound : suc e + 3 * held w L.marks L.names ≤ 2 + 3 * (suc L.names * suc L.names)
  pub node : x ≤ L.names
  pub loses : Loses w L a x

pub record OthersJoined (L : Layout) (asked a e k : ℕ) (ys zs ps qs w v : List ℕ) (j : ℕ) : Type 0 where
  pub state : State L j zs qs v
  pub long : length v ≡ length w
  pub rows_long : length zs ≡ length ys
  pub numbers_long : length qs ≡ length ps
  pub before : (p : ℕ) → p < L.marks → get_or v p 0 ≡ get_or w p 0
  pub line_on : (p : ℕ) → cell L.marks L.names (line L.names) 0 ≤ p → get_or v p 0 ≡ get_or w p 0
  pub more : k ≤ j
  pub agree : Agree (row_at ys) (row_at zs) k
  pub past : (p : ℕ) → 3 * j ≤ p → get_or zs p 0 ≡ get_or ys p 0
  pub weigh : j + 3 * held v L.marks L.names ≤ k + 3 * held w L.marks L.names
  pub still : Holds v L.marks L.names asked asked
  pub keeps : (o : List ℕ) (sig : Signature) (t u : Terminology) → LeftReport sig t u L k ys ps o w → Joins sig t u L o w a e ys
      → LeftReport sig t u L j zs qs o v

pub record JoinedAll (L : Layout) (asked a e : ℕ) (ys zs ps qs w v : List ℕ) (j : ℕ) : Type 0 where
  pub state : State L j zs qs v
  pub long : length v ≡ length w
  pub rows_long : length zs ≡ length ys
  pub numbers_long : length qs ≡ length ps
  pub before : (p : ℕ) → p < L.marks → get_or v p 0 ≡ get_or w p 0
  pub line_on : (p : ℕ) → cell L.marks L.names (line L.names) 0 ≤ p → get_or v p 0 ≡ get_or w p 0
  pub more : suc e ≤ j
  pub agree : Agree (row_at ys) (row_at zs) (suc e)
  pub past : (p : ℕ) → 3 * j ≤ p → get_or zs p 0 ≡ get_or ys p 0
  pub weigh : j + 3 * held v L.marks L.names + 2 ≤ suc e + 3 * held w L.marks L.names
  pub keeps : (o : List ℕ) (sig : Signature) (t u : Terminology) → Holds o L.marks L.names asked asked → LeftReport sig t u L (suc e) ys ps o w → Joins sig t u L o w a e ys
      → LeftProgress sig t u L asked j zs qs o v

-- r is a row of ⊤
pub record TopFound (k : ℕ) (ys : List ℕ) (r : ℕ) : Type 0 where
  pub earlier : r < k
  pub is_top : row_at ys r ≡ row 0 0 0

pub record ToRestrict (number k : ℕ) (ys : List ℕ) : Type 0 where
  pub rows : 3 * (k + 2) ≤ length ys
  pub few : k + 2 ≤ most
  pub small_number : number ≤ most

pub data Restricted (role number k : ℕ) (ys zs : List ℕ) (r : ℕ) : Type 0 where
  over_row : {i : ℕ} → number ≡ suc i → RowPut k (row 3 role i) ys zs → r ≡ k → Restricted role number k ys zs r
  over_top : {i : ℕ} → number ≡ 0 → i < k → row_at ys i ≡ row 0 0 0 → RowPut k (row 3 role i) ys zs → r ≡ k → Restricted role number k ys zs r
  over_new_top : {xs : List ℕ} → number ≡ 0 → RowPut k (row 0 0 0) ys xs → RowPut (k + 1) (row 3 role k) xs zs → r ≡ k + 1 → Restricted role number k ys zs r

-- the line is empty, and all else is as before
pub record LineCleared (base n : ℕ) (w v : List ℕ) : Type 0 where
  pub long : length v ≡ length w
  pub before : (p : ℕ) → p < cell base n (line n) 0 → get_or v p 0 ≡ get_or w p 0
  pub past : (p : ℕ) → cell base n (line n) n < p → get_or v p 0 ≡ get_or w p 0
  pub none : (y : ℕ) → y ≤ n → Holds v base n (line n) y → ⊥

-- the squares of both releases are in the memory, before the bytes of the pairs
pub record Laid (G : Given) (w : List ℕ) : Type 0 where
  pub first_room : Room (first_square G.layout) w
  pub second_room : Room (second_square G.layout) w
  pub first_apart : G.layout.first + span G.layout.names ≤ G.layout.marks
  pub second_apart : G.layout.second + span G.layout.names ≤ G.layout.marks

abbrev pub second_rows : Given → Evaluation
second_rows G = record { terminology = G.second; square = second_square G.layout; base = G.layout.marks }

abbrev pub FirstWorld : List ℕ → Given → List ℕ → Type 0
FirstWorld s G w = World s G.first.table.now (first_square G.layout) w

abbrev pub SecondWorld : List ℕ → Given → List ℕ → Type 0
SecondWorld t G w = World t G.second.table.now (second_square G.layout) w

-- what a turn for a name asks: of what the squares hold nothing is said
pub record ToTurn (G : Given) (asked k a : ℕ) (ys ps w : List ℕ) : Type 0 where
  pub asked_in : asked ≤ G.layout.names
  pub held : Holds w G.layout.marks G.layout.names asked asked
  pub state : State G.layout k ys ps w
  pub laid : Laid G w
  pub name : a < G.layout.names

-- after a turn
pub record Turned (L : Layout) (asked k : ℕ) (ys zs ps qs w v : List ℕ) (j : ℕ) : Type 0 where
  pub state : State L j zs qs v
  pub long : length v ≡ length w
  pub rows_long : length zs ≡ length ys
  pub numbers_long : length qs ≡ length ps
  pub before : (p : ℕ) → p < L.marks → get_or v p 0 ≡ get_or w p 0
  pub beyond : (p : ℕ) → cell L.marks L.names (line L.names) L.names < p → get_or v p 0 ≡ get_or w p 0
  pub more : k ≤ j
  pub agree : Agree (row_at ys) (row_at zs) k
  pub past : (p : ℕ) → 3 * j ≤ p → get_or zs p 0 ≡ get_or ys p 0
  pub weigh : j + 3 * held v L.marks L.names ≤ k + 3 * held w L.marks L.names
  pub same_bytes : j ≡ k → (p : ℕ) → p < cell L.marks L.names (line L.names) 0 → get_or v p 0 ≡ get_or w p 0

pub record NameTurned (G : Given) (asked k x : ℕ) (ys zs ps qs w v : List ℕ) (j : ℕ) : Type 0 where
  pub turned : Turned G.layout asked k ys zs ps qs w v j
  pub keeps : (o : List ℕ) (sig : Signature) (s t : List ℕ) → FirstWorld s G w → SecondWorld t G w → sig.has_name x ≡ true
      → LeftProgress sig (content_of s) (content_of t) G.layout asked k ys ps o w → LeftProgress sig (content_of s) (content_of t) G.layout asked j zs qs o v
  pub quiet : j ≡ k → (z y : ℕ) → z ≤ G.layout.names → y ≤ G.layout.names → Marked (first_square G.layout) w z x → Holds w G.layout.marks G.layout.names z y
      → Marked (second_square G.layout) w y x

-- the name x has an edge by the first release
pub record Edge (G : Given) (x r : ℕ) : Type 0 where
  pub is_name : x < G.layout.names
  pub with_role : HasEdge G.edges.now x r

-- that role is of the signature, and that of the axiom serves for it
pub record RoleOpened (G : Given) (sig : Signature) (x r : ℕ) : Type 0 where
  pub chosen : sig.has_role r ≡ true
  pub serves : serves_at G.first.table.now (role_at G.first.table.now x) r ≡ true

-- with the edge of the name c, and the edges by the second release with a role that serves
pub record LeadsOn (G : Given) (o s t : List ℕ) (c r : ℕ) : Type 0 where
  pub on : (d x y : ℕ) → d < G.layout.names → x ≤ G.layout.names → y ≤ G.layout.names → Holds o G.layout.marks G.layout.names x y
      → Derives (content_of s) (node_point G.layout.names x) (name c) → restricts (kind_at G.second.table.now d) ≡ true
      → serves_at G.second.table.now (role_at G.second.table.now d) r ≡ true → Derives (content_of t) (node_point G.layout.names y) (name d)
      → Holds o G.layout.marks G.layout.names (filler_at G.first.table.now c) (filler_at G.second.table.now d)

pub record EdgeTurned (G : Given) (asked k x r : ℕ) (ys zs ps qs w v : List ℕ) (j : ℕ) : Type 0 where
  pub turned : Turned G.layout asked k ys zs ps qs w v j
  pub keeps : (o : List ℕ) (sig : Signature) (s t : List ℕ) → FirstWorld s G w → SecondWorld t G w → RoleOpened G sig x r → LeadsOn G o s t x r
      → LeftProgress sig (content_of s) (content_of t) G.layout asked k ys ps o w → LeftProgress sig (content_of s) (content_of t) G.layout asked j zs qs o v
  pub quiet : j ≡ k → (z y : ℕ) → z ≤ G.layout.names → y ≤ G.layout.names → Marked (first_square G.layout) w z x → Holds w G.layout.marks G.layout.names z y
      → Reaches (second_rows G) w (filler_at G.first.table.now x) r y
