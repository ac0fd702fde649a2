-- Rows as they are lent, by their form.
--   most                  the greatest number that can be lent
--   form_of r             the form that the numbers r of a row say, if they say one
--   numbers_of f          the numbers of a row of the form f;  row_of: the same, of a struct of numbers
--   Narrow f              they can be lent
--   FormIn n i f          what a row i of the form f uses is there: a name below n, rows below i
--   RowIn n i r           the numbers r say a form, and that of it
--   RowPut i r ys zs      the rows ys became zs: row i is r, and all else is as before
-- Not here: rows that keep to a signature (Forms).
use Rattle.std.specs.Prelude.{◌≡◌, List, ℕ, zero, suc, ◌+◌, ◌*◌, ◌≤◌, ◌<◌, ltb, length, get_or, Option, Some, None}
use Rattle.el.specs.Lists.{pick}
use Rattle.concept_rows.specs.Rows.{Row, row}
use Rattle.concept_rows.specs.Lent.{row_at}
use Rattle.row_evaluation.specs.declared.rows.Form.{Form}
use Rattle.row_evaluation.specs.declared.rows.Form.TheVariants.{Top, Name, Conjunction, Restriction}
use Rattle.row_evaluation.specs.declared.rows.Numbers.{Numbers}

abbrev pub most : ℕ
most = 4294967295

-- by the kind and the two others; a role's number is a byte
abbrev pub form_by : ℕ → ℕ → ℕ → Option Form
form_by zero zero zero = Some Top
form_by zero zero (suc b) = None
form_by zero (suc a) b = None
form_by (suc zero) a zero = Some (Name (record { 0 = a }))
form_by (suc zero) a (suc b) = None
form_by (suc (suc zero)) a b = Some (Conjunction a b)
form_by (suc (suc (suc zero))) a b = pick (ltb a 256) (Some (Restriction (record { 0 = a }) b)) None
form_by (suc (suc (suc (suc k)))) a b = None

unfoldable pub form_of : Row → Option Form
form_of r = form_by r.kind r.one r.other

abbrev pub numbers_of : Form → Row
numbers_of Top = row 0 0 0
numbers_of (Name b) = row 1 b.0 0
numbers_of (Conjunction j k) = row 2 j k
numbers_of (Restriction r j) = row 3 r.0 j

abbrev pub row_of : Numbers → Row
row_of n = row n.kind n.one n.other

abbrev pub Narrow : Form → Type 0
Narrow Top = Unit {0}
Narrow (Name b) = b.0 ≤ most
Narrow (Conjunction j k) = (j ≤ most) × (k ≤ most)
Narrow (Restriction r j) = j ≤ most

abbrev pub FormIn : ℕ → ℕ → Form → Type 0
FormIn n i Top = Unit {0}
FormIn n i (Name b) = b.0 < n
FormIn n i (Conjunction j k) = (j < i) × (k < i)
FormIn n i (Restriction r j) = j < i

pub record RowIn (n i : ℕ) (r : Row) : Type 0 where
  pub form : Form
  pub is : form_of r ≡ Some form
  pub inside : FormIn n i form

pub record RowPut (i : ℕ) (r : Row) (ys zs : List ℕ) : Type 0 where
  pub long : length zs ≡ length ys
  pub here : row_at zs i ≡ r
  pub other : (j : ℕ) → (j ≡ i → ⊥) → row_at zs j ≡ row_at ys j
  pub past : (p : ℕ) → 3 * i + 3 ≤ p → get_or zs p 0 ≡ get_or ys p 0
