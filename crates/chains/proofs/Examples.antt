-- The example of a change taken back, by the answers that crate el computes: tested by computing, and so true of the definitions.
use mathlib.Core.Path.{◌≡◌, refl, sym, ap, ◌∙◌}
use mathlib.Core.Bool.{true}
use mathlib.Core.List.{List, [], ◌∷◌, ◌++◌, append-nil}
use Prim.Native.Nat.{ℕ, ◌*◌}
use native.Mathlib.Omega.{arith}
use lib.ListN.{length, replicate, length-replicate, drop_of_length-le}
use lib.Seq.{take_all}
use Rattle.std.specs.Prelude.{Ok}
use Rattle.release.specs.Files.{number, numbers, width_of, names_of, roles_of, count_of, content_of, lists_pairs, pair_count, pairs_place, first_place, pairs_of, pairs_from}
use Rattle.release.specs.Files.{pair_fault, pairs_fault, fault, header_fault, parts_fault, conjunction_fault, tail_fault, axiom_fault}
use Rattle.release.specs.Files.{axiom_at, axioms_fault, axioms_from, conjunct_defined}
use Rattle.signature.specs.Bytes.{signature_fault}
use Rattle.el.specs.Comparison.{ArePairBytes}
use Rattle.el.specs.Answers.{pair_bytes}
use Rattle.el.proofs.Answers.{pair_bytes_lem, only_bytes}
use Rattle.demands.specs.Inputs.{chosen}
use Rattle.demands.specs.Examples as demands
use Rattle.demands.specs.Examples.{Example, compared}
use Rattle.demands.proofs.Examples.{passes, passes_holds}
use Rattle.meanings.specs.declared.Compared.{Compared}
use Rattle.meanings.specs.Comparing.{work_length, Outcome}
use Rattle.meanings.specs.Demand3.{Enough, Compares}
use Rattle.meanings.proofs.Demand3.{not_refused}
use Rattle.chains.specs.Examples.{first, second, third, every_name, OnlyReport, TakenBack}

abbrev first_step : Example
first_step = compared first second every_name (3 ∷ 0 ∷ 2 ∷ 0 ∷ 0 ∷ 0 ∷ [])

abbrev second_step : Example
second_step = compared second third every_name (3 ∷ 0 ∷ 0 ∷ 2 ∷ 1 ∷ 2 ∷ [])

abbrev both_steps : Example
both_steps = compared first third every_name (0 ∷ 0 ∷ 0 ∷ 0 ∷ 1 ∷ 2 ∷ [])

pass : (passes first_step ≡ true) × ((passes second_step ≡ true) × (passes both_steps ≡ true))
unfolding number numbers width_of names_of roles_of count_of lists_pairs pair_count pairs_place first_place pairs_of pairs_from pair_fault pairs_fault fault header_fault
    parts_fault conjunction_fault tail_fault axiom_fault axiom_at axioms_fault axioms_from
    conjunct_defined signature_fault
pass = (refl, (refl, refl))

-- such a comparison lends memory that is 0 and just enough, and a result that holds the bytes already
module _ {s t g bs : List ℕ} (c : demands.Compared s t g bs) where
  abbrev counts : Compared
  counts = record { names = names_of s; roles = roles_of s }

  abbrev work : List ℕ
  work = replicate (work_length (names_of s)) 0

  -- the role result holds its bytes already
  abbrev pairs : List ℕ
  pairs = pair_bytes (roles_of s) (chosen s g) (content_of s) (content_of t)

  pairs_are : ArePairBytes (roles_of s) (chosen s g) (content_of s) (content_of t) pairs
  pairs_are = pair_bytes_lem (roles_of s) (chosen s g) (content_of s) (content_of t)

  enough : Enough s (length bs) (length pairs) (length work)
  enough = record { result = omega (arith, c.bytes.long); role_result = omega (arith, pairs_are.long); work = rw (length-replicate {A = ℕ} (work_length (names_of s)) 0) (omega arith) }

  outcome : Outcome s t g bs bs pairs pairs work work
  outcome = record {
    bytes = rw (take_all (names_of s) bs (omega (arith, c.bytes.long))) c.bytes;
    past = refl;
    role_bytes = rw (take_all (roles_of s * roles_of s) pairs (omega (arith, pairs_are.long))) pairs_are;
    role_past = refl;
    work = sym (ap (λ (rest : List ℕ). work ++ rest) (drop_of_length-le work (omega (arith, length-replicate {A = ℕ} (work_length (names_of s)) 0))) ∙ append-nil work);
  }

  call : Compares s t g bs pairs work
  call = record {
    answer = Ok counts;
    result = bs;
    role_result = pairs;
    memory = work;
    says = record {
      answer = sym (not_refused (length bs) (length pairs) (length work) c.accepted enough);
      refused_result = λ z. refl;
      refused_roles = λ z. refl;
      refused_work = λ z. refl;
      accepted = λ z. outcome;
    };
  }

  only_report : OnlyReport g s t bs
  unfolding call
  only_report = record {
    some = record { result_lent = bs; roles_lent = pairs; work_lent = work; call = call; counts = counts; accepted = refl };
    only = λ r. only_bytes (r.call.says.accepted r.accepted).bytes c.bytes;
  }

pub taken_back : TakenBack
taken_back = record { one = only_report (passes_holds first_step pass.0); two = only_report (passes_holds second_step pass.1.0); across = only_report (passes_holds both_steps pass.1.1) }
