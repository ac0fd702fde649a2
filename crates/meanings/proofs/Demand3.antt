-- Demand 3 of the call's own promise.
--   no_pair_reported             a first release without role pairs: its comparison reports no role pair
--   not_refused                  accepted releases with the same counts, an accepted signature and enough memory: not refused
--   demand3                      compared in both orders, with any memory that is enough: neither is refused, each gives every
--                                name and every role pair its byte, and the releases are equal over the signature exactly when no byte is other than 0
use mathlib.Core.Path.{◌≡◌, sym, subst, ◌∙◌}
use mathlib.Core.Logic.{◌↔◌}
use mathlib.Core.List.{List, []}
use Prim.Native.Nat.{ℕ, ◌+◌, ◌*◌, ◌<◌}
use borrow.Author.Tests.{eq-eqb, le-leb}
use lib.ListN.{length, get_or, take}
use Rattle.el.specs.Axioms.{Terminology}
use Rattle.el.specs.Signatures.{Signature}
use Rattle.el.specs.Comparison.{IsByte, AreBytes, ReportsNoName, IsPairByte, ArePairBytes, ReportsNoPair}
use Rattle.el.proofs.Demand3.{one_byte, one_pair_byte}
use Rattle.el.proofs.NoPairs.{reports_no_pair}
use Rattle.release.specs.Files.{names_of, roles_of, pairs_of, content_of}
use Rattle.demands.specs.Inputs.{Accepted, chosen}
use Rattle.demands.proofs.Files as Files
use Rattle.std.specs.Prelude.{Ok}
use Rattle.meanings.proofs.Judging.{told_value}
use Rattle.meanings.specs.Refusals.{compare_refusal}
use Rattle.release.specs.Readings.{checked}
use Rattle.meanings.specs.Comparing.{agreed, same_counts, lent, judged, comparison, Outcome}
use Rattle.meanings.specs.Demand3.{Enough, Compares, NoPairReported, NothingReported, Demand3}

pub turned : {s t g : List ℕ} → Accepted s t g → Accepted t s g
turned given = record { first = given.second; second = given.first; names = sym given.names; roles = sym given.roles; signature = rw (given.names, given.roles) at given.signature }

pub not_refused : {s t g : List ℕ} (o p w : ℕ) → Accepted s t g → Enough s o p w → comparison s t g o p w ≡ Ok (record { names = names_of s; roles = roles_of s })
unfolding checked agreed same_counts lent judged
not_refused {s} {t} o p w given enough = simp (
  checked,
  given.first,
  given.second,
  agreed,
  same_counts,
  lent,
  judged,
  eq-eqb _ _ given.names,
  eq-eqb _ _ given.roles,
  eq-eqb _ _ given.signature,
  le-leb _ _
      enough.result,
  le-leb _ _ enough.role_result,
  le-leb _ _ enough.work,
)

pub accepted_answer : {s t g o p w : List ℕ} → Accepted s t g → Enough s (length o) (length p) (length w) → (c : Compares s t g o p w)
    → c.answer ≡ Ok (record { names = names_of s; roles = roles_of s })
accepted_answer {o = o} {p = p} {w = w} given enough c = told_value compare_refusal c.answer _ (c.says.answer ∙ not_refused (length o) (length p) (length w) given enough)

pub result_of : {s t g o p w : List ℕ} → Accepted s t g → Enough s (length o) (length p) (length w) → (c : Compares s t g o p w)
    → Outcome s t g o c.result p c.role_result w c.memory
result_of given enough c = c.says.accepted (accepted_answer given enough c)

none_reported : {n : ℕ} {sig : Signature} {t u : Terminology} {bs : List ℕ} → AreBytes n sig t u bs → ReportsNoName n sig t u ↔ ((a : ℕ) → a < n → get_or bs a 0 ≡ 0)
none_reported {sig = sig} {t = t} {u = u} {bs = bs} are = (
  λ none a l. one_byte (are.each a l) (none a l),
  λ zero a l. subst (λ (b : ℕ). IsByte sig t u a b) (zero a l) (are.each a l),
)

no_pair : {m : ℕ} {sig : Signature} {t u : Terminology} {bs : List ℕ} → ArePairBytes m sig t u bs
    → ReportsNoPair m sig t u ↔ ((r s : ℕ) → r < m → s < m → get_or bs (r * m + s) 0 ≡ 0)
no_pair {sig = sig} {t = t} {u = u} {bs = bs} are = (
  λ none r s r_in s_in. one_pair_byte (are.each r s r_in s_in) (none r s r_in s_in),
  λ zero r s r_in s_in. subst (λ (b : ℕ). IsPairByte sig t u r s b) (zero r s r_in s_in) (are.each r s r_in s_in),
)

pub no_pair_reported : {s t g o p w : List ℕ} → Accepted s t g → Enough s (length o) (length p) (length w) → pairs_of s ≡ [] → (c : Compares s t g o p w)
    → NoPairReported (roles_of s) c.role_result
no_pair_reported {s} {t} {g} given enough none c = (no_pair (result_of given enough c).role_bytes).0 (reports_no_pair (roles_of s) (chosen s g) (content_of s) (content_of t) none)

pub demand3 : (s t g : List ℕ) {o p w o' p' w' : List ℕ} → Accepted s t g → Enough s (length o) (length p) (length w) → Enough s (length o') (length p') (length w')
    → (forth : Compares s t g o p w) (back : Compares t s g o' p' w') → Demand3 s t g forth back
demand3 s t g {o} {p} {w} {o'} {p'} {w'} given enough enough' forth back =
    let enough_back : Enough t (length o') (length p') (length w') = record
    { result = rw given.names at enough'.result; role_result = rw given.roles at enough'.role_result; work = rw given.names at enough'.work } in
    let forth_outcome = result_of given enough forth in
    let back_outcome = result_of (turned given) enough_back back in
    let forth_are = forth_outcome.bytes in
    let back_there = back_outcome.bytes in
    let forth_pairs_are = forth_outcome.role_bytes in
    let back_pairs_there = back_outcome.role_bytes in
    let back_pairs_are : ArePairBytes (roles_of s) (chosen s g) (content_of t) (content_of s) (take (roles_of s * roles_of s) back.role_result) =
    rw (← given.names, ← given.roles) at back_pairs_there in
    let back_are : AreBytes (names_of s) (chosen s g) (content_of t) (content_of s) (take (names_of s) back.result) = rw (← given.names, ← given.roles) at back_there in
    let theory = (Files.demand3 given).equal in
    record {
      forth_accepted = accepted_answer given enough forth;
      back_accepted = rw (given.names, given.roles) (accepted_answer (turned given) enough_back back);
      forth_bytes = forth_are;
      back_bytes = back_are;
      forth_pairs = forth_pairs_are;
      back_pairs = back_pairs_are;
      equal = (
        λ e. let none = theory.0 e in (
          record { no_name = (none_reported forth_are).0 none.0.no_name; no_pair = (no_pair forth_pairs_are).0 none.0.no_pair },
          record { no_name = (none_reported back_are).0 none.1.no_name; no_pair = (no_pair back_pairs_are).0 none.1.no_pair },
        ),
        λ none. theory.1 (
          record { no_name = (none_reported forth_are).1 none.0.no_name; no_pair = (no_pair forth_pairs_are).1 none.0.no_pair },
          record { no_name = (none_reported back_are).1 none.1.no_name; no_pair = (no_pair back_pairs_are).1 none.1.no_pair },
        ),
      );
    }
