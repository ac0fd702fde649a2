-- The calls as C and Rust see them, by one convention: a call returns 0, or number × 256 + side of the refusal; what it answers it writes to
-- lent numbers, which a refusal leaves as they were.
--   Returns o x y r           a call that comes to o, numbers that it answers or a refusal, returns r, and the lent numbers, x before,
--                             hold y after it
--   check_outcome a, ..        what a call comes to, by what is told of the call in Rattle
--   CheckReturns, AskReturns, ShowReturns, CompareReturns, SheetReturns, RewriteReturns, ReportReturns, WorkLengthReturns
--                             the promises: those of the calls in Rattle, and the numbers that stand for their answers
use Rattle.std.specs.Prelude.{◌≡◌, Bool, true, false, List, [], ◌∷◌, ◌++◌, ℕ, ◌+◌, ◌*◌, ◌^◌, ◌≤◌, ◌<◌, ◌||◌, eqb, leb, length, drop, Result, Ok, Err}
use Rattle.el.specs.Lists.{pick}
use Rattle.release.specs.Files.{most_names, most_roles}
use Rattle.release.specs.Readings.{checked}
use Rattle.release.specs.Refusals.{Numbers, told}
use Rattle.release.specs.Shown.{shown_place}
use Rattle.release.specs.declared.Counts.{Counts}
use Rattle.release.specs.declared.show.Place.{Place}
use Rattle.meanings.specs.Comparing.{work_length, Says}
use Rattle.meanings.specs.Comparing.{refused as comparison_refused}
use Rattle.meanings.specs.Refusals.{compare_refusal}
use Rattle.meanings.specs.declared.Compared.{Compared}
use Rattle.meanings.specs.declared.refusals.CompareRefusal.{CompareRefusal}
use Rattle.branches.specs.Sheets as branches
use Rattle.branches.specs.Refusals.{sheet_refusal}
use Rattle.branches.specs.declared.refusals.SheetRefusal.{SheetRefusal}
use Rattle.branches.specs.declared.row.Row.{Row}
use Rattle.question.specs.Asking.{AskedAs}
use Rattle.question.specs.Refusals.{ask_refusal}
use Rattle.question.specs.Positions.{answer_number, position_number}
use Rattle.question.specs.declared.position.Position.{Position}
use Rattle.question.specs.declared.refusals.AskRefusal.{AskRefusal}
use Rattle.rewriting.specs.Rewriting.{refusal, Rewrites}
use Rattle.report.specs.Written.{report_text}
use Rattle.exported.specs.declared.refusals.NumberRefusal.{NumberRefusal}
use Rattle.exported.specs.declared.refusals.NumberRefusal.TheVariants.{NoVersion, ManyNames}

abbrev pub refusal_code : Numbers → ℕ
refusal_code k = k.number * 256 + k.side

-- the convention
abbrev pub code_of : {A : Type 0} → Result A Numbers → ℕ
code_of (Ok a) = 0
code_of (Err k) = refusal_code k

abbrev pub lent_after : {A : Type 0} → Result A Numbers → A → A
lent_after (Ok a) before = a
lent_after (Err k) before = before

pub record Returns {A : Type 0} (outcome : Result A Numbers) (before after : A) (r : ℕ) : Type 0 where
  pub code : r ≡ code_of outcome
  pub lent : after ≡ lent_after outcome before

-- a refusal that concerns neither release
abbrev pub refused_with : {A : Type 0} → ℕ → Result A Numbers
refused_with number = Err (record { number = number; side = 0 })

abbrev pub number_refusal : NumberRefusal → Numbers
number_refusal NoVersion = record { number = 3; side = 0 }
number_refusal ManyNames = record { number = 4; side = 0 }

-- a lent number has 32 bits
abbrev pub Fits32 : ℕ → Type 0
Fits32 x = x < 2 ^ 32

-- a check: the counts of names, roles and axioms
abbrev pub check_outcome : Result Counts Numbers → Result (List ℕ) Numbers
check_outcome (Ok c) = Ok (c.names ∷ c.roles ∷ c.axioms ∷ [])
check_outcome (Err k) = Err k

abbrev pub CheckReturns : List ℕ → List ℕ → List ℕ → ℕ → Type 0
CheckReturns s before after r = Returns (check_outcome (checked s)) before after r

-- what is answered yes or no: 1 or 0
abbrev pub yes_or_no : Result Bool Numbers → Result ℕ Numbers
yes_or_no (Ok value) = Ok (answer_number value)
yes_or_no (Err k) = Err k

-- a question
abbrev pub ask_outcome : Result Position Numbers → Result ℕ Numbers
ask_outcome (Ok position) = Ok (position_number position)
ask_outcome (Err k) = Err k

pub record AskReturns (s c d : List ℕ) (before after : ℕ) (w w2 : List ℕ) (r : ℕ) : Type 0 where
  pub answer : Result Position AskRefusal
  pub says : AskedAs s c d w w2 answer
  pub returns : Returns (ask_outcome (told ask_refusal answer)) before after r

-- an axiom shown: the side that holds it, where it starts and how long it is
abbrev pub place_numbers : Place → List ℕ
place_numbers p = p.side ∷ p.start ∷ p.length ∷ []

abbrev pub ShowReturns : List ℕ → List ℕ → ℕ → ℕ → List ℕ → List ℕ → ℕ → Type 0
ShowReturns s t side x before after r = Returns (Ok (place_numbers (shown_place s t side x))) before after r

-- a comparison and a sheet: no number is lent
pub record CompareReturns (s t g o o2 p p2 w w2 : List ℕ) (r : ℕ) : Type 0 where
  pub answer : Result Compared CompareRefusal
  pub says : Says s t g o o2 p p2 w w2 answer
  pub code : r ≡ code_of (told compare_refusal answer)

pub record SheetReturns (s t gs : List ℕ) (q rule : ℕ) (ys zs : List Row) (w w2 : List ℕ) (r : ℕ) : Type 0 where
  pub answer : Result Compared SheetRefusal
  pub says : branches.Says s t gs q rule ys zs w w2 answer
  pub code : r ≡ code_of (told sheet_refusal answer)

-- rewriting: the length of the file written. A wanted version that is neither 1 nor 2 is refused 3 with side 0, before all else
abbrev pub is_written : ℕ → Bool
is_written wanted = eqb wanted 1 || eqb wanted 2

pub record RewriteReturns (wanted : ℕ) (s o o2 : List ℕ) (before after r : ℕ) : Type 0 where
  pub answer : Result ℕ Numbers
  pub version : is_written wanted ≡ true → Rewrites wanted s o o2 answer
  pub no_version : is_written wanted ≡ false → (answer ≡ refusal 3 0) × (o2 ≡ o)
  pub returns : Returns answer before after r

-- the report of a comparison whose result has as many bytes as there can be names: the length of the text. An output shorter than the
-- longest report, 1,023 names with a line each, is refused 33 with side 0, before all else
abbrev pub longest_report : ℕ
longest_report = 6202

abbrev pub report_outcome : Result Compared Numbers → List ℕ → Result ℕ Numbers
report_outcome (Ok c) result = Ok (length (report_text c.names c.roles result))
report_outcome (Err k) result = Err k

-- the output afterwards: the text at its start and the rest as it was, or unchanged
abbrev pub report_after : Result Compared Numbers → List ℕ → List ℕ → List ℕ
report_after (Ok c) result o = report_text c.names c.roles result ++ drop (length (report_text c.names c.roles result)) o
report_after (Err k) result o = o

-- a comparison of which this is told
pub record Compares (s t g lent result w w2 : List ℕ) (outcome : Result Compared Numbers) : Type 0 where
  pub answer : Result Compared CompareRefusal
  pub roles_lent : List ℕ
  pub role_result : List ℕ
  pub roles_long : length roles_lent ≡ most_roles * most_roles
  pub says : Says s t g lent result roles_lent role_result w w2 answer
  pub told_of : told compare_refusal answer ≡ outcome

pub record ReportReturns (s t g o o2 : List ℕ) (before after : ℕ) (w w2 : List ℕ) (r : ℕ) : Type 0 where
  pub lent : List ℕ
  pub result : List ℕ
  pub answer : Result Compared Numbers
  pub names : length lent ≡ most_names
  pub room : longest_report ≤ length o → Compares s t g lent result w w2 answer
  pub no_room : length o < longest_report → (answer ≡ comparison_refused 33 0) × (w2 ≡ w)
  pub output : o2 ≡ report_after answer result o
  pub returns : Returns (report_outcome answer result) before after r

-- the work memory of n names: more names than there can be are refused 4 with side 0
abbrev pub work_outcome : ℕ → Result ℕ Numbers
work_outcome n = pick (leb n most_names) (Ok (work_length n)) (refused_with 4)

abbrev pub WorkLengthReturns : ℕ → ℕ → ℕ → ℕ → Type 0
WorkLengthReturns n before after r = Returns (work_outcome n) before after r
