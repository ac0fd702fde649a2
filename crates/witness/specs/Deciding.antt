-- The steps of a check, once nothing is refused: releases r, signature bytes g, rows ys, and the memory w, which becomes v.
--   ToDecide, Decided              whether the last of well-formed rows shows the difference that x asks for, over any signature that has its
--                                  name
--   ToCheck                        what checking rows asks
--   ToCheckCleared, CheckAnswered    in memory that is 0 as far as it is needed: whether the name a is chosen, the side is 1 or 2, there is a row,
--                                  all are well formed, and the last shows the difference
--   RowsChecked                    that in any memory, which is 0 at the end as far as it is needed
use Rattle.std.specs.Prelude.{◌≡◌, Bool, true, List, ℕ, suc, ◌*◌, ◌≤◌, ◌<◌, length, get_or}
use Rattle.el.specs.Signatures.{Signature}
use Rattle.el.specs.Terminologies.{NamesBelow}
use Rattle.el.proofs.Tests.{Tells}
use Rattle.concept_rows.specs.Rows.{Shows}
use Rattle.concept_rows.specs.Lent.{row_at, row_count}
use Rattle.concept_rows.specs.Written.{Formed}
use Rattle.release.specs.Files.{content_of}
use Rattle.row_evaluation.specs.RowForms.{RowIn}
use Rattle.comparison.specs.Compared.{BothGiven, Given}
use Rattle.comparison.specs.declared.Releases.{Releases}
use Rattle.meanings.specs.Comparing.{work_length}
use Rattle.witness.specs.declared.asked.Asked.{Asked}
use Rattle.witness.specs.Asked.{side_number, LastShowsBy}
use Rattle.witness.specs.Lent.{check_length}

pub record ToDecide (r : Releases) (ys w : List ℕ) (last : ℕ) (x : Asked) : Type 0 where
  pub both : BothGiven r w
  pub rows : 3 * suc last ≤ length ys
  pub fit : (i : ℕ) → i < suc last → RowIn r.names i (row_at ys i)
  pub room : check_length r.names (suc last) ≤ length w
  pub zero : (p : ℕ) → work_length r.names ≤ p → p < check_length r.names (suc last) → get_or w p 0 ≡ 0
  pub name : x.name.0 < r.names

pub record Decided (r : Releases) (ys w v : List ℕ) (last : ℕ) (x : Asked) (yes : Bool) : Type 0 where
  pub long : length v ≡ length w
  pub past : (p : ℕ) → check_length r.names (suc last) ≤ p → get_or v p 0 ≡ get_or w p 0
  pub answer : (sig : Signature) → NamesBelow r.names sig → Formed sig (row_at ys) (suc last) → sig.has_name x.name.0 ≡ true
      → Tells yes (Shows sig (content_of r.first.file.now) (content_of r.second.file.now) (side_number x.side) x.name.0 (row_at ys) last)

pub record ToCheck (g : List ℕ) (r : Releases) (ys w : List ℕ) : Type 0 where
  pub given : Given g r w
  pub room : check_length r.names (row_count ys) ≤ length w

pub record ToCheckCleared (g : List ℕ) (r : Releases) (ys w : List ℕ) : Type 0 where
  pub check : ToCheck g r ys w
  pub zero : (p : ℕ) → p < check_length r.names (row_count ys) → get_or w p 0 ≡ 0

pub record CheckAnswered (g : List ℕ) (r : Releases) (side a : ℕ) (ys w v : List ℕ) (yes : Bool) : Type 0 where
  pub long : length v ≡ length w
  pub past : (p : ℕ) → check_length r.names (row_count ys) ≤ p → get_or v p 0 ≡ get_or w p 0
  pub shows : Tells yes (LastShowsBy g r side a ys (row_count ys))

pub record RowsChecked (g : List ℕ) (r : Releases) (side a : ℕ) (ys w v : List ℕ) (yes : Bool) : Type 0 where
  pub answered : CheckAnswered g r side a ys w v yes
  pub zero : (p : ℕ) → p < check_length r.names (row_count ys) → get_or v p 0 ≡ 0
