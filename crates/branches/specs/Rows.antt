-- A row of a sheet: what one branch is told of a comparison over its signature.
--   RowOf rule g bs r         r is the row, by the rule of that number, of the names' signature bytes g and result bytes bs
--   IsRow rule s t g r        r is the row of comparing the releases s and t over the signature g, by the bytes that Compare tells
use Rattle.std.specs.Prelude.{◌≡◌, Bool, List, ℕ, eqb, take}
use Rattle.el.specs.Lists.{count}
use Rattle.el.specs.Comparison.{on_left, on_right, is_reported, AreBytes}
use Rattle.release.specs.Files.{names_of, content_of}
use Rattle.demands.specs.Inputs.{chosen}
use Rattle.branches.specs.declared.row.Row.{Row}
use Rattle.branches.specs.Shares.{IsShare}

abbrev pub is_chosen : ℕ → Bool
is_chosen b = eqb b 1

-- a name reported on both sides is one name in the share
pub record RowOf (rule : ℕ) (g bs : List ℕ) (r : Row) : Type 0 where
  pub chosen : r.chosen ≡ count is_chosen g
  pub left : r.left ≡ count on_left bs
  pub right : r.right ≡ count on_right bs
  pub share : IsShare rule (count is_reported bs) (count is_chosen g) r.share

pub record IsRow (rule : ℕ) (s t g : List ℕ) (r : Row) : Type 0 where
  pub bytes : List ℕ
  pub are_bytes : AreBytes (names_of s) (chosen s g) (content_of s) (content_of t) bytes
  pub is : RowOf rule (take (names_of s) g) bytes r
