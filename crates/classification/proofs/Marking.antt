-- Laws of marking by the rules: what a function is given, and what each of its turns and exits has done.
--   .._stays, .._at, pair                 what is asked holds after marks are put, too, and at other cells
--   part_pass, gather_pass, fill_pass     a mark put by a rule is a pass
--   .._grows                              the same where only the growth is asked, for new marks that are dealt with
--   restriction_of, over_of               what new marks ask of restrictions, from the tests made on them
--   gathered_.., filled_.., axiom_..      what is left to mark by conjuncts, by fillers, by an axiom
--   needed, passed_over                   a row that lacks the first conjunct of a conjunction, or ⊤ where there is none, is not gathered in
-- Not here: the other laws of passes for any rule (crate marks).
use mathlib.Core.Path.{◌≡◌, refl, sym, ◌∙◌}
use mathlib.Core.Bool.{Bool, true, false, ◌||◌, false≢true}
use mathlib.Core.List.{List}
use Prim.Native.Nat.{ℕ, suc, ◌≤◌, ◌<◌}
use native.Mathlib.Omega.{arith}
use Rattle.std.specs.Prelude.{Option, Some, None, unwrap_or}
use Rattle.el.proofs.Tests.{Tells, tells_as}
use Rattle.release.specs.Files.{joins, restricts}
use Rattle.release.specs.Roles.{HasRole}
use Rattle.release.specs.Parts.{PartsOf, PartGiven}
use Rattle.release.specs.Tables.{kind_at, role_at, filler_at, ServingAt, count_at, part_at, HasRow, Conjunctive, Shaped}
use Rattle.release.proofs.Faults.{restricts_not_joins}
use Rattle.release.proofs.PartWalks.{part_is, part_among}
use Rattle.release.specs.declared.parts.Parts.{Parts}
use Rattle.release.specs.declared.table.Table.{Table}
use Rattle.marks.specs.declared.Square.{Square}
use Rattle.marks.specs.Squares.{Marked, Put}
use Rattle.marks.specs.Passes.{Grows, Pass, Below, Due, FromRow}
use Rattle.marks.specs.Inclusions.{Taking}
use Rattle.marks.proofs.Squares.{frame_area}
use Rattle.marks.proofs.Passes.{room_stays, grows_frame, marks_stay, pass_none, pass_as, pass_both, pass_by, grows_as, put_pass, put_grows, due_not, due_as}
use Rattle.classification.specs.Steps.{PartMarked, Gathers, Needed, Fills, Step, to_itself, to_top, to_part, to_gathered, to_filled, through, Gathered, Seeds, GatheredAt, FilledAt}
use Rattle.classification.specs.Steps.{AxiomSettled, Setting, SeededSetting, InRow, Source, DefinedRestriction, FilledBy, Pair, Restriction, Over}

not_both : {A : Type 0} (k : ℕ) → joins k ≡ true → restricts k ≡ true → A
not_both k j r = absurd (false≢true (sym (restricts_not_joins k r) ∙ j))

pub joined : {kind k : ℕ} → kind ≡ k → kind ≡ 2 → joins k ≡ true
joined e two = rw (← e, two) refl

pub shaped_row : {n : ℕ} {s : List ℕ} {t : Table} {x : ℕ} → Shaped n s t → x < n → HasRow x
shaped_row h l = record { row = omega (arith, h.rows) }

-- what is asked
module _ {s : List ℕ} {t : Table} {q : Square} where
  pub setting_stays : {w v : List ℕ} → Grows (Step s t q) q w v → Setting s t q w → Setting s t q v
  setting_stays g h = record { shaped = h.shaped; room = room_stays g h.room; area = frame_area (grows_frame g) h.area; few = h.few }

  pub source_stays : {w v : List ℕ} {x b : ℕ} → Grows (Step s t q) q w v → Source s t q w x b → Source s t q v x b
  source_stays g h = record { in_row = record { setting = setting_stays g h.in_row.setting; row = h.in_row.row; name = h.in_row.name }; marked = marks_stay g h.marked }

  pub in_top_row : {w : List ℕ} {b : ℕ} → Setting s t q w → b < q.names → InRow s t q w q.names b
  in_top_row h l = record { setting = h; row = omega arith; name = l }

module _ {s : List ℕ} {t : Table} {q : Square} {w : List ℕ} {x b : ℕ} (h : InRow s t q w x b) where
  pub name_row : HasRow b
  name_row = shaped_row h.setting.shaped h.name

  pub conjunctive : joins (kind_at t b) ≡ true → Conjunctive q.names s t b
  conjunctive j = record { shaped = h.setting.shaped; is_name = h.name; is_conjunctive = j }

  pub part_small : {i y : ℕ} → joins (kind_at t b) ≡ true → i < count_at s t b → y ≡ part_at s t b i → y ≤ q.names
  part_small {i} j l e = omega (arith, e, h.setting.shaped.part b i h.name j l)

-- a definition, for a whole column
module _ {s : List ℕ} {t : Table} {q : Square} {w : List ℕ} {y : ℕ} (h : Setting s t q w) (l : y < q.names) where
  pub defined_restriction : {role set f : ℕ} → kind_at t y ≡ 4 → role ≡ role_at t y → ServingAt t role set → f ≡ filler_at t y → DefinedRestriction t y set f
  defined_restriction k e serving i = let at : ServingAt t (role_at t y) _ = rw e at serving in record { kind = k; serving = at.all (h.shaped.role y l (rw k refl)); filler = i }

  pub pair : {b set f : ℕ} → b < q.names → restricts (kind_at t b) ≡ true → DefinedRestriction t y set f → Pair t q w b y set f
  pair i k d = record { rows = h.shaped.rows; room = h.room; roles = h.shaped.role; fillers = h.shaped.filler; left = i; is_restriction = k; right = l; defined = d }

-- conjuncts and fillers of a marked name
module _ {s : List ℕ} {t : Table} {q : Square} {w v : List ℕ} {x b : ℕ} {r : Bool} (h : Source s t q w x b) where
  pub part_pass : {i y : ℕ} → joins (kind_at t b) ≡ true → i < count_at s t b → y ≡ part_at s t b i → Put q x y w v r → Pass (Step s t q) q (PartMarked s t q x b i) w v r
  part_pass {i} j l e p = pass_as (λ m. record { is = rw (← e) m }) (put_pass p (to_part b i h.in_row.name j h.marked l e))

  pub fill_pass : {y : ℕ} → restricts (kind_at t b) ≡ true → y < q.names → Fills t q b y w → Put q x y w v r → Pass (Step s t q) q (λ u. Marked q u x y) w v r
  fill_pass k l f p = put_pass p (to_filled b h.in_row.name k h.marked l f)

-- the fillers of two names
module _ {t : Table} {q : Square} {w : List ℕ} {b y set f : ℕ} (h : Pair t q w b y set f) where
  pub fillers_small : {under : ℕ} → under ≡ filler_at t b → (under ≤ q.names) × (f ≤ q.names)
  fillers_small e =
      let z : restricts (kind_at t y) ≡ true = rw h.defined.kind refl in
      (rw e (h.fillers b h.left h.is_restriction), rw h.defined.filler (h.fillers y h.right z))

pub not_due : {t : Table} {q : Square} {w : List ℕ} {b y set f role : ℕ} → DefinedRestriction t y set f → role ≡ role_at t b → (HasRole set role → ⊥) → Due false (Fills t q b y w) (Marked q w b y)
not_due d e n = due_not (λ g. n ((d.serving _).1 (rw e g.role)))

pub due_fill : {t : Table} {q : Square} {w : List ℕ} {b y set f role under : ℕ} {a : Bool} → DefinedRestriction t y set f → role ≡ role_at t b → HasRole set role → under ≡ filler_at t b
    → Tells a (Marked q w under f) → Due a (Fills t q b y w) (Marked q w b y)
due_fill d e has i m = due_as (tells_as (λ z. record { kind = d.kind; role = rw (← e) ((d.serving _).0 has); filler = rw (← i, ← d.filler) z }) (λ z. rw (i, d.filler) z.filler) m)

-- a defined conjunction in a row
module _ {s : List ℕ} {t : Table} {q : Square} {w : List ℕ} {x b : ℕ} where
  pub gathered_there : Marked q w x b → Pass (Step s t q) q (Gathered s t q x b) w w false
  gathered_there m = pass_none (record { marked = λ g. m })

  pub gather_pass : {v : List ℕ} {r : Bool} → InRow s t q w x b → Gathers s t q x b w → Put q x b w v r → Pass (Step s t q) q (Gathered s t q x b) w v r
  gather_pass h g p = pass_as (λ m. record { marked = λ z. m }) (put_pass p (to_gathered h.name g))

  pub gathered_not : (Gathers s t q x b w → ⊥) → Pass (Step s t q) q (Gathered s t q x b) w w false
  gathered_not g = pass_none (record { marked = λ z. absurd (g z) })

-- what a row needs in which it is gathered
module _ {s : List ℕ} {t : Table} {q : Square} {y : ℕ} (h : Conjunctive q.names s t y) where
  pub needed : {p : Parts} {z : ℕ} (o : Option ℕ) (u : Parts) → PartsOf s t y 0 p → PartGiven p o u → z ≡ unwrap_or o q.names → Needed s t q y z
  needed (Some part) u walk given e =
      let first = e ∙ part_is walk given in
      let among = part_among walk given in
      record { column = omega (arith, first, h.shaped.part y 0 h.is_name h.is_conjunctive among); marked = λ x w top g. rw first (g.parts.at 0 among).is }
  needed None u walk given e = record { column = omega (arith, e); marked = λ x w top g. rw e top }

pub passed_over : {s : List ℕ} {t : Table} {q : Square} {w : List ℕ} {x y z : ℕ} → Needed s t q y z → Marked q w x q.names → (Marked q w x z → ⊥) → GatheredAt s t q y x w
passed_over {w = w} {x = x} needs top lacks = record { marked = λ g. absurd (lacks (needs.marked x w top g)) }

-- a row
pub seeds : {q : Square} {w u v : List ℕ} {x : ℕ} {a b : Bool} → Put q x x w u a → Put q x q.names u v b → Seeds q x w v (a || b)
seeds {x = x} p o = record {
  pass = λ s t. pass_both (λ d m. record { itself = d; top = m }) (put_pass p (to_itself refl)) (put_pass o (to_top refl));
  itself = o.extends.stays x x p.there;
}

pub in_row_at : {s : List ℕ} {t : Table} {q : Square} {w : List ℕ} {x b z : ℕ} → InRow s t q w x b → z < q.names → InRow s t q w x z
in_row_at h l = record { setting = h.setting; row = h.row; name = l }

-- a new mark dealt with: what is asked stays, and a mark put by a rule is growth
module _ {s : List ℕ} {t : Table} {q : Square} {w v : List ℕ} (g : Grows (Step s t q) q w v) where
  pub in_row_stays : {x b : ℕ} → InRow s t q w x b → InRow s t q v x b
  in_row_stays h = record { setting = setting_stays g h.setting; row = h.row; name = h.name }

  pub over_stays : {b y : ℕ} → Over s t q w b y → Over s t q v b y
  over_stays h = record { setting = setting_stays g h.setting; name = h.name; itself = marks_stay g h.itself; is_restriction = h.is_restriction; marked = marks_stay g h.marked; column = h.column }

  pub restriction_stays : {x b : ℕ} → Restriction s t q w x b → Restriction s t q v x b
  restriction_stays h = record { setting = setting_stays g h.setting; name = h.name; itself = marks_stay g h.itself; is_restriction = h.is_restriction; filler = h.filler }

  pub seeded_stays : SeededSetting s t q w → SeededSetting s t q v
  seeded_stays h = record { setting = setting_stays g h.setting; seeded = record { at = λ x l. let m = h.seeded.at x l in record { itself = marks_stay g m.itself; top = marks_stay g m.top } } }

-- new marks dealt with
pub gather_grows : {s : List ℕ} {t : Table} {q : Square} {w v : List ℕ} {r : Bool} {x y : ℕ} → InRow s t q w x y → Gathers s t q x y w → Put q x y w v r → Grows (Step s t q) q w v
gather_grows h g p = put_grows p (to_gathered h.name g)

pub restriction_of : {s : List ℕ} {t : Table} {q : Square} {w : List ℕ} {x b filler : ℕ} → Setting s t q w → b < q.names → filler ≡ filler_at t b → filler ≡ x
    → restricts (kind_at t b) ≡ true → Marked q w b b → Restriction s t q w x b
restriction_of h l e f r m = record { setting = h; name = l; itself = m; is_restriction = r; filler = sym e ∙ f }

pub filler_small : {s : List ℕ} {t : Table} {q : Square} {w : List ℕ} {x b : ℕ} → Restriction s t q w x b → x ≤ q.names
filler_small {b = b} h = omega (arith, h.filler, h.setting.shaped.filler b h.name h.is_restriction)

pub over_of : {s : List ℕ} {t : Table} {q : Square} {w : List ℕ} {x b y : ℕ} → Restriction s t q w x b → Marked q w x y → y ≤ q.names → Over s t q w b y
over_of h m l = record { setting = h.setting; name = h.name; itself = h.itself; is_restriction = h.is_restriction; marked = rw h.filler m; column = l }

pub over_grows : {s : List ℕ} {t : Table} {q : Square} {w v : List ℕ} {b y z role : ℕ} {r : Bool} → Over s t q w b y → z < q.names → role ≡ role_at t b
    → FilledBy t z role y → Put q b z w v r → Grows (Step s t q) q w v
over_grows h l i d p =
    put_grows p (to_filled _ h.name h.is_restriction h.itself l (record { kind = d.kind; role = rw (← i) d.role; filler = rw (← d.filler) h.marked }))

-- a row handed on to another one, in which its node is marked
pub row_grows : {s : List ℕ} {t : Table} {q : Square} {w v : List ℕ} {x c : ℕ} → Marked q w x c → c ≤ q.names → Grows (FromRow q c x) q w v → Grows (Step s t q) q w v
row_grows {c = c} m h g = grows_as (λ u y z k i j f. through c h (rw f.row (marks_stay k m)) f.marked) g

pub handed_down : {q : Square} {w v : List ℕ} {x c : ℕ} → Marked q w x c → c ≤ q.names → Grows (FromRow q c x) q w v → Grows (Taking q q) q w v
handed_down {c = c} m h g = grows_as (λ u y z k i j f. record { it = c; inside = h; above = rw f.row (marks_stay k m); marked = f.marked }) g

taking_step : {s : List ℕ} {t : Table} {q : Square} {w : List ℕ} {x y : ℕ} → Taking q q w x y → Step s t q w x y
taking_step k = through k.it k.inside k.above k.marked

pub taking_grows : {s : List ℕ} {t : Table} {q : Square} {w v : List ℕ} → Grows (Taking q q) q w v → Grows (Step s t q) q w v
taking_grows g = grows_as (λ u x y k i j f. taking_step f) g

pub taking_pass : {s : List ℕ} {t : Table} {q : Square} {D : List ℕ → Type 0} {w v : List ℕ} {r : Bool} → Pass (Taking q q) q D w v r → Pass (Step s t q) q D w v r
taking_pass p = pass_by (λ u x y k i j f. taking_step f) p

-- columns
pub seeded_source : {s : List ℕ} {t : Table} {q : Square} {w : List ℕ} {x : ℕ} → SeededSetting s t q w → x < q.names → Source s t q w x x
seeded_source {x = x} h l = record { in_row = record { setting = h.setting; row = omega arith; name = l }; marked = (h.seeded.at x (omega arith)).itself }

pub gathered_at : {s : List ℕ} {t : Table} {q : Square} {w v : List ℕ} {x y : ℕ} {r : Bool} → Pass (Step s t q) q (Gathered s t q x y) w v r → Pass (Step s t q) q (GatheredAt s t q y x) w v r
gathered_at p = pass_as (λ g. record { marked = g.marked }) p

pub filled_not : {t : Table} {q : Square} {w : List ℕ} {y b : ℕ} {r : Bool} → r ≡ restricts (kind_at t b) → r ≡ false → FilledAt t q y b w
filled_not e f = record { marked = λ k. absurd (false≢true (sym f ∙ e ∙ k)) }

pub filled_none : {t : Table} {q : Square} {w : List ℕ} {y b : ℕ} {r : Bool} → Due r (Fills t q b y w) (Marked q w b y) → r ≡ false → FilledAt t q y b w
filled_none d e = record { marked = λ k. d.settled e }

pub filled_at : {s : List ℕ} {t : Table} {q : Square} {w v : List ℕ} {y b : ℕ} {r : Bool} → Pass (Step s t q) q (λ u. Marked q u b y) w v r → Pass (Step s t q) q (FilledAt t q y b) w v r
filled_at p = pass_as (λ m. record { marked = λ k f. m }) p

-- an axiom, by its kind
not_filled : {t : Table} {q : Square} {w : List ℕ} {x : ℕ} → (kind_at t x ≡ 4 → ⊥) → Below (FilledAt t q x) q.names w
not_filled n = record { at = λ b l. record { marked = λ k f. absurd (n f.kind) } }

module _ {s : List ℕ} {t : Table} {q : Square} {w : List ℕ} {x : ℕ} where
  not_gathered : (kind_at t x ≡ 2 → ⊥) → Below (GatheredAt s t q x) (suc q.names) w
  not_gathered n = record { at = λ y l. record { marked = λ g. absurd (n g.kind) } }

  pub axiom_gathered : {kind : ℕ} → kind ≡ kind_at t x → kind ≡ 2 → Below (GatheredAt s t q x) (suc q.names) w → Below (PartMarked s t q x x) (count_at s t x) w → AxiomSettled s t q x w
  axiom_gathered e two g p = record { parts = λ j. p; gathered = g; filled = not_filled (λ k. omega arith) }

  -- an axiom that gives nothing, and none
  pub axiom_idle : {kind : ℕ} → kind ≡ kind_at t x → kind ≡ 3 → AxiomSettled s t q x w
  axiom_idle e three =
      let k : kind_at t x ≡ 3 = sym e ∙ three in
      record { parts = λ j. absurd (false≢true (rw k at j)); gathered = not_gathered (λ z. omega arith); filled = not_filled (λ z. omega arith) }

  pub axiom_absent : 0 ≡ kind_at t x → AxiomSettled s t q x w
  axiom_absent e = record { parts = λ j. absurd (false≢true (rw (← e) at j)); gathered = not_gathered (λ z. omega arith); filled = not_filled (λ z. omega arith) }
