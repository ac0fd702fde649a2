-- Rows as they are lent, by their form.
--   read_as                          the form by the numbers read is that of the row
--   top_form, name_form, role_form, no_role, no_form      the form by numbers, kind by kind
--   form_row                         numbers that say a form are the numbers of it
--   FormOver sig i f                 a row i of the form f is well formed
--   tells_formed, never_formed       whether a row is well formed, by its form;  formed_in: what a well-formed row uses is there
use mathlib.Core.Path.{◌≡◌, refl, sym, ap, ◌∙◌}
use mathlib.Core.Bool.{Bool, true, false}
use mathlib.Core.Logic.{inl, inr}
use mathlib.Core.List.{List}
use Prim.Native.Nat.{ℕ, zero, suc, ◌+◌, ◌*◌, ◌≤◌, ◌<◌}
use native.Mathlib.Omega.{arith}
use borrow.Author.Tests.{ltb-true, lt-ltb}
use lib.Dec.{eqb, ltb}
use lib.ListN.{get_or}
use Rattle.std.specs.Prelude.{Option, Some, None}
use Rattle.std.specs.Bool.{then_some}
use Rattle.std.proofs.lemmas.Bool.{ne_eqb}
use Rattle.el.specs.Lists.{pick}
use Rattle.el.specs.Signatures.{Signature}
use Rattle.el.specs.Terminologies.{NamesBelow, RolesBelow}
use Rattle.el.proofs.Tests.{Tells, tells_as, never, which}
use Rattle.concept_rows.specs.Rows.{Row, row, WellFormed, is_top, is_name, is_both, is_some}
use Rattle.concept_rows.specs.Lent.{row_at}
use Rattle.row_evaluation.specs.declared.rows.Form.{Form}
use Rattle.row_evaluation.specs.declared.rows.Form.TheVariants.{Top, Name, Conjunction, Restriction}
use Rattle.row_evaluation.specs.RowForms.{form_by, form_of, numbers_of, FormIn, RowIn}

-- by the numbers read
module _ (ys : List ℕ) (i : ℕ) {k a b : ℕ} (p : get_or ys (3 * i) 0 ≡ k) (q : a ≡ get_or ys (3 * i + 1) 0) (o : b ≡ get_or ys (3 * i + 2) 0) where
  pub read_as : {f : Option Form} → f ≡ form_by k a b → f ≡ form_of (row_at ys i)
  unfolding form_of row_at
  read_as e = e ∙ rw (← p, q, o) refl

pub top_form : (a b : ℕ) {yes : Bool} → (a ≡ 0 → yes ≡ eqb b 0) → ((a ≡ 0 → ⊥) → yes ≡ false) → then_some yes Top ≡ form_by 0 a b
top_form zero zero e f = rw (e refl) refl
top_form zero (suc b) e f = let no : eqb (suc b) 0 ≡ false = ne_eqb (suc b) 0 (λ z. omega arith) in rw (e refl, no) refl
top_form (suc a) b e f = rw (f (λ z. omega arith)) refl

pub name_form : (a b : ℕ) → then_some (eqb b 0) (Name (record { 0 = a })) ≡ form_by 1 a b
name_form a zero = refl
name_form a (suc b) = let no : eqb (suc b) 0 ≡ false = ne_eqb (suc b) 0 (λ z. omega arith) in rw no refl

pub role_form : {a q : ℕ} (b : ℕ) → q ≡ a → q < 256 → Some (Restriction (record { 0 = q }) b) ≡ form_by 3 a b
role_form {a} b e h = let small : ltb a 256 ≡ true = lt-ltb a 256 (omega arith) in rw (small, e) refl

pub no_role : {a : ℕ} (b : ℕ) → 255 < a → None ≡ form_by 3 a b
no_role {a} b h = elim (which (ltb a 256)) [ inl e ↦ absurd (omega (arith, ltb-true a 256 e)) | inr e ↦ rw e refl ]

pub no_form : (k a b : ℕ) → 3 < k → None ≡ form_by k a b
no_form zero a b h = absurd (omega arith)
no_form (suc zero) a b h = absurd (omega arith)
no_form (suc (suc zero)) a b h = absurd (omega arith)
no_form (suc (suc (suc zero))) a b h = absurd (omega arith)
no_form (suc (suc (suc (suc k)))) a b h = refl

-- numbers that say a form
some_form : {r : Row} {f g : Form} → r ≡ numbers_of g → Some g ≡ Some f → r ≡ numbers_of f
some_form e z = e ∙ ap numbers_of (cc z)

no_some : {A : Type 0} {f : Form} → None ≡ Some f → A
no_some z = let w : ◌≡◌ {A = ℕ} 0 1 = cc z in absurd (omega arith)

by_numbers : (k a b : ℕ) {f : Form} → form_by k a b ≡ Some f → row k a b ≡ numbers_of f
by_numbers zero zero zero z = some_form refl z
by_numbers zero zero (suc b) z = no_some z
by_numbers zero (suc a) b z = no_some z
by_numbers (suc zero) a zero z = some_form refl z
by_numbers (suc zero) a (suc b) z = no_some z
by_numbers (suc (suc zero)) a b z = some_form refl z
by_numbers (suc (suc (suc zero))) a b {f} z = by_test (ltb a 256) z
  where
    by_test : (t : Bool) → pick t (Some (Restriction (record { 0 = a }) b)) None ≡ Some f → row 3 a b ≡ numbers_of f
    by_test true z = some_form refl z
    by_test false z = no_some z
by_numbers (suc (suc (suc (suc k)))) a b z = no_some z

pub form_row : (r : Row) {f : Form} → form_of r ≡ Some f → r ≡ numbers_of f
unfolding form_of
form_row r z = by_numbers r.kind r.one r.other z

-- well-formed rows
abbrev pub FormOver : Signature → ℕ → Form → Type 0
FormOver sig i Top = Unit {0}
FormOver sig i (Name b) = sig.has_name b.0 ≡ true
FormOver sig i (Conjunction j k) = (j < i) × (k < i)
FormOver sig i (Restriction r j) = (j < i) × (sig.has_role r.0 ≡ true)

record FormedAs (sig : Signature) (i : ℕ) (r : Row) : Type 0 where
  form : Form
  is : form_of r ≡ Some form
  over : FormOver sig i form

module _ {sig : Signature} {i : ℕ} {r : Row} where
  over_formed : (f : Form) → r ≡ numbers_of f → FormOver sig i f → WellFormed sig i r
  over_formed Top e o = is_top e
  over_formed (Name b) e o = is_name e o
  over_formed (Conjunction j k) e o = is_both e o.0 o.1
  over_formed (Restriction q j) e o = is_some e o.1 o.0

  module _ (few : RolesBelow 256 sig) where
    formed_as : WellFormed sig i r → FormedAs sig i r
    unfolding form_of
    formed_as (is_top e) = record { form = Top; is = rw e refl; over = tt }
    formed_as (is_name {b = b} e o) = record { form = Name (record { 0 = b }); is = rw e refl; over = o }
    formed_as (is_both {j = j} {k = k} e p q) = record { form = Conjunction j k; is = rw e refl; over = (p, q) }
    formed_as (is_some {q = q} {j = j} e o p) = let small : ltb q 256 ≡ true = lt-ltb q 256 (few q o) in
        record { form = Restriction (record { 0 = q }) j; is = rw (e, small) refl; over = (p, o) }

    pub tells_formed : {f g : Form} {b : Bool} → Some f ≡ form_of r → f ≡ g → Tells b (FormOver sig i g) → Tells b (WellFormed sig i r)
    tells_formed {f} {g} e z tells = tells_as (λ o. over_formed g (rw z at (form_row r (sym e))) o)
        (λ w. let a = formed_as w in let same : a.form ≡ g = cc (sym a.is ∙ sym e, z) in rw same at a.over) tells

    pub never_formed : None ≡ form_of r → Tells false (WellFormed sig i r)
    never_formed e = never (λ w. no_some (e ∙ (formed_as w).is))

    pub formed_in : {n : ℕ} → NamesBelow n sig → WellFormed sig i r → RowIn n i r
    formed_in {n} names_in w = let a = formed_as w in record { form = a.form; is = a.is; inside = by_form a.form a.over }
      where
        by_form : (f : Form) → FormOver sig i f → FormIn n i f
        by_form Top o = tt
        by_form (Name b) o = names_in b.0 o
        by_form (Conjunction j k) o = o
        by_form (Restriction q j) o = o.0

-- the tests of its numbers
pub tells_equal : {b c : Bool} → b ≡ c → Tells b (c ≡ true)
tells_equal e = record { sound = λ z. sym e ∙ z; complete = λ z. e ∙ z }

pub both_less : {a b i : ℕ} → a < i → Tells (ltb b i) ((a < i) × (b < i))
both_less {a} {b} {i} h = record { sound = λ e. (h, ltb-true b i e); complete = λ p. lt-ltb b i p.1 }

pub not_less : {a i : ℕ} {P : Type 0} → i ≤ a → Tells (ltb a i) ((a < i) × P)
not_less {a} {i} h = record { sound = λ e. absurd (omega (arith, ltb-true a i e)); complete = λ p. absurd (omega (arith, p.0)) }

pub less_and : {a i : ℕ} {b c : Bool} → a < i → b ≡ c → Tells b ((a < i) × (c ≡ true))
less_and h e = tells_as (λ z. (h, z)) (λ p. p.1) (tells_equal e)

-- what is there by the form read
pub form_inside : {n i : ℕ} {r : Row} {f : Form} → RowIn n i r → Some f ≡ form_of r → FormIn n i f
form_inside {n} {i} fits e = let same : fits.form ≡ _ = cc (sym fits.is ∙ sym e) in rw same at fits.inside

pub form_there : {A : Type 0} {n i : ℕ} {r : Row} → RowIn n i r → None ≡ form_of r → A
form_there fits e = no_some (e ∙ fits.is)
