-- Calls with memory enough: what is accepted step by step is accepted across.
--   accepted_across, accepted_chain     input
--   not_refused_across                  where each step of a chain is accepted, a comparison across with memory enough is
--   three_calls                         three calls of accepted input
use mathlib.Core.Path.{◌∙◌}
use mathlib.Core.List.{List}
use Prim.Native.Nat.{ℕ}
use lib.ListN.{length}
use Rattle.demands.specs.Inputs.{Accepted}
use Rattle.meanings.specs.Demand3.{Enough, Compares}
use Rattle.meanings.proofs.Demand3.{accepted_answer}
use Rattle.chains.specs.Chains.{last_from, Steps, end, step}
use Rattle.chains.specs.Reports.{Report}
use Rattle.chains.specs.Calls.{IsAccepted, report_of, ThreeCalls}
use Rattle.chains.proofs.Reports.{accepted_input, across}

pub accepted_across : {s t u g : List ℕ} → Accepted s t g → Accepted t u g → Accepted s u g
accepted_across p q = record { first = p.first; second = q.second; names = p.names ∙ q.names; roles = p.roles ∙ q.roles; signature = p.signature }

pub accepted_chain : {g s t : List ℕ} {us : List (List ℕ)} → Accepted s t g → Steps (Report g) t us → Accepted s (last_from t us) g
accepted_chain given end = given
accepted_chain given (step r rs) = accepted_chain (accepted_across given (accepted_input r)) rs

pub not_refused_across : {g s t : List ℕ} {us : List (List ℕ)} → Report g s t → Steps (Report g) t us → {o p w : List ℕ} → Enough s (length o) (length p) (length w)
    → (over : Compares s (last_from t us) g o p w) → IsAccepted over
not_refused_across r rs enough over = accepted_answer (accepted_chain (accepted_input r) rs) enough over

module _ {s t u g o p w o' p' w' o'' p'' w'' : List ℕ} (first : Accepted s t g) (second : Accepted t u g) where
  pub three_calls : Enough s (length o) (length p) (length w) → Enough t (length o') (length p') (length w') → Enough s (length o'') (length p'') (length w'')
      → (one : Compares s t g o p w) (two : Compares t u g o' p' w') (over : Compares s u g o'' p'' w'') → ThreeCalls one two over
  three_calls enough enough' enough'' one two over =
      let x = accepted_answer first enough one in
      let y = accepted_answer second enough' two in
      let z = accepted_answer (accepted_across first second) enough'' over in
      record { one_accepted = x; two_accepted = y; across_accepted = z; skips = across (report_of one x) (report_of two y) (report_of over z) }
