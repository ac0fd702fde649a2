-- A row put: what it holds, and every other row as before.
use mathlib.Core.Path.{◌≡◌, refl, ◌∙◌}
use Prim.Native.Nat.{◌<◌}
use lib.ListN.{length, get_or, set, replicate, get_or-replicate}
use lib.Seq.{get_or-set_same, get_or-set_other}
use Rattle.std.specs.Prelude.{Some}
use Rattle.release.specs.declared.axiom.Entry.{Entry}
use Rattle.release.specs.declared.table.Row as table
use Rattle.release.specs.declared.table.Table.{Table}
use Rattle.release.specs.Tables.{blank_row, kind_at, role_at, filler_at, tail_at, Row, SameRow, Put, Blank}
use Rattle.release.specs.Files.{most_names, most_roles}

-- the row of an axiom's numbers
abbrev pub row_of : Entry → table.Row
row_of e = record { kind = Some e.kind; role = e.role; filler = e.filler; tail = e.tail }

pub row_put : (t : Table) (e : Entry) → e.left.0 < length t.rows → Put e t (record { rows = set t.rows e.left.0 (row_of e); roles = t.roles })
unfolding kind_at role_at filler_at tail_at
row_put t e room =
    let same : get_or (set t.rows e.left.0 (row_of e)) e.left.0 blank_row ≡ row_of e = get_or-set_same t.rows e.left.0 (row_of e) blank_row room in
    record {
      roles = refl;
      row = record { kind = rw same; role = rw (same, role_at); filler = rw (same, filler_at); tail = rw (same, tail_at) };
      other = λ y d. let kept : get_or (set t.rows e.left.0 (row_of e)) y blank_row ≡ get_or t.rows y blank_row = get_or-set_other t.rows e.left.0 y (row_of e) blank_row d in
          record { kind = rw kept; role = rw (kept, role_at); filler = rw (kept, filler_at); tail = rw (kept, tail_at) };
    }

-- a row that stays
pub row_kept : (t u : Table) (e : Entry) → SameRow t u e.left.0 → Row t e → Row u e
row_kept t u e s h = record { kind = s.kind ∙ h.kind; role = s.role ∙ h.role; filler = s.filler ∙ h.filler; tail = s.tail ∙ h.tail }

-- a new table is blank
pub blank_table : Blank (record { rows = replicate most_names blank_row; roles = record { 0 = replicate most_roles (record { 0 = 0 }) } })
unfolding kind_at
blank_table = record { blank = λ x l. rw (get_or-replicate most_names x blank_row blank_row l) }
