-- A whole written in pieces, one after the other: what is left is kept beside what stands.
--   Rest o p whole q next rest     of the bytes `whole` at place p of the output o there is still `rest` to put, at place `next`
--                                  of the output q
--   Begins rest s t                the bytes `rest` are s and then t
use mathlib.Core.Path.{◌≡◌, sym, subst}
use mathlib.Core.List.{List, [], ◌++◌}
use Prim.Native.Nat.{ℕ, ◌≤◌}
use native.Mathlib.Omega.{arith}
use lib.ListN.{length}
use Rattle.output.specs.Places.{last_place, Put}
use Rattle.output.proofs.Puts.{put_none, put_as, put_then}

pub record Begins (rest s t : List ℕ) : Type 0 where
  pub is : rest ≡ s ++ t

pub record Rest (o : List ℕ) (p : ℕ) (whole q : List ℕ) (next : ℕ) (rest : List ℕ) : Type 0 where
  pub counted : next ≤ last_place
  pub short : length q ≤ last_place
  pub finish : (out : List ℕ) (end : ℕ) → Put q next rest out end → Put o p whole out end

module _ {o : List ℕ} {p : ℕ} {whole : List ℕ} where
  pub rest_whole : p ≤ last_place → length o ≤ last_place → Rest o p whole o p whole
  rest_whole small short = record { counted = small; short = short; finish = λ out end put. put }

  -- the rest begins with the piece s, which is put: then t is left
  pub piece_put : {rest s t q r : List ℕ} {next then : ℕ} → Begins rest s t → Rest o p whole q next rest → Put q next s r then → Rest o p whole r then t
  piece_put {rest} {s} {t} {q} {r} {next} begins left put =
      let split : Rest o p whole q next (s ++ t) = subst (λ (x : List ℕ). Rest o p whole q next x) begins.is left in
      record {
        counted = omega (arith, put.after);
        short = put.short;
        finish = λ out end more. split.finish out end (put_then put more);
      }

  pub last_put : {rest q r : List ℕ} {next end : ℕ} → Rest o p whole q next rest → Put q next rest r end → Put o p whole r end
  last_put {rest} {q} {r} {next} {end} left put = left.finish r end put

  pub nothing_left : {rest q : List ℕ} {next : ℕ} → rest ≡ [] → Rest o p whole q next rest → Put o p whole q next
  nothing_left {rest} {q} {next} e left = left.finish q next (put_as (sym e) (put_none left.counted left.short))
