-- Two steps, the second of which brings back a side's axioms: what the session is then.
--   back_session     the session before, with the old file put over the one between
use mathlib.Core.Path.{◌≡◌, refl, sym, ap, ap₂, subst, ◌∙◌}
use mathlib.Core.Bool.{Bool, true, false}
use mathlib.Core.Logic.{◌⊎◌, inl, inr}
use mathlib.Core.List.{List, ◌++◌}
use Prim.Native.Nat.{ℕ}
use lib.Dec.{eqb}
use lib.ListN.{take, drop, take-append-drop}
use Rattle.el.specs.Lists.{pick}
use Rattle.el.specs.Axioms.{Axiom}
use Rattle.el.proofs.Answers.{only_bytes}
use Rattle.rewriting.specs.Bytes.{release_bytes}
use Rattle.editing.specs.declared.held.HeldFile.{HeldFile}
use Rattle.editing.specs.declared.Session.{Session}
use Rattle.editing.specs.Sessions.{holding, on_side, file_on, with_file, with_result, names_in, roles_in, axioms_on, result_in, Current}
use Rattle.editing.specs.Steps.{Edited}
use Rattle.editing.proofs.After.{Follows, follows, start_as, file_there, file_twice}

-- one of two, chosen twice by the same side
once : (side : ℕ) (x y z : List Axiom) → (on_side side x (on_side side y z) ≡ on_side side x z) × (on_side side (on_side side x y) z ≡ on_side side x z)
once side x y z = by_test (eqb side 1)
  where
    by_test : (b : Bool) → (pick b x (pick b y z) ≡ pick b x z) × (pick b (pick b x y) z ≡ pick b x z)
    by_test true = (refl, refl)
    by_test false = (refl, refl)

-- the sides' axioms by the side of a step
side_axioms : (side : ℕ) (s : Session) → (side ≡ 1) ⊎ (side ≡ 2) → (on_side side (axioms_on side s) (axioms_on 1 s) ≡ axioms_on 1 s) × (on_side side (axioms_on 2 s) (axioms_on side s) ≡ axioms_on 2 s)
side_axioms side s (inl e) = rw e (refl, refl)
side_axioms side s (inr e) = rw e (refl, refl)

-- files and the result do not touch each other
pub file_beside : (side : ℕ) (bs : List ℕ) (s : Session) → file_on side (with_result bs s) ≡ file_on side s
unfolding file_on with_result
file_beside side bs s = refl

result_beside : (side : ℕ) (f : HeldFile) (bs : List ℕ) (s : Session) → with_file side f (with_result bs s) ≡ with_result bs (with_file side f s)
unfolding with_file with_result
result_beside side f bs s = refl

module _ (side : ℕ) (s t u : Session) (is : (side ≡ 1) ⊎ (side ≡ 2)) (current : Current s) {bl cl : List Axiom} (there : Edited side bl s t) (back : Edited side cl t u)
    (same : cl ≡ axioms_on side s) where
  between : Follows side bl s t
  between = follows is there

  after : Follows side cl t u
  after = follows is back

  ones : axioms_on 1 u ≡ axioms_on 1 s
  ones = after.one ∙ (ap₂ (on_side side) same between.one ∙ ((once side (axioms_on side s) bl (axioms_on 1 s)).0 ∙ (side_axioms side s is).0))

  twos : axioms_on 2 u ≡ axioms_on 2 s
  twos = after.two ∙ (ap₂ (on_side side) between.two same ∙ ((once side (axioms_on 2 s) bl (axioms_on side s)).1 ∙ (side_axioms side s is).1))

  -- the result: its bytes are determined, and the later ones are as they were
  same_bytes : take (names_in s) u.result ≡ result_in s
  same_bytes =
      only_bytes
      (start_as u.result (after.names ∙ between.names) (after.roles ∙ between.roles) (after.signature ∙ between.signature) ones twos back.current.bytes)
      current.bytes

  same_past : drop (names_in s) u.result ≡ drop (names_in s) s.result
  same_past =
      let e : drop (names_in s) u.result ≡ drop (names_in s) t.result = subst (λ (n : ℕ). drop n u.result ≡ drop n t.result) between.names back.past in
      e ∙ there.past

  same_result : u.result ≡ s.result
  same_result =
      sym (take-append-drop (names_in s) u.result)
      ∙ (ap₂ (λ (x y : List ℕ). x ++ y) same_bytes same_past ∙ take-append-drop (names_in s) s.result)

  -- the files
  abbrev middle : HeldFile
  middle = holding (release_bytes 1 (names_in s) (roles_in s) bl) (file_on side s)

  abbrev again : HeldFile
  again = holding (release_bytes 1 (names_in s) (roles_in s) (axioms_on side s)) middle

  file_is : file_on side t ≡ middle
  file_is = ap (file_on side) there.session ∙ (file_beside side t.result _ ∙ file_there side s _)

  new_is : release_bytes 1 (names_in t) (roles_in t) cl ≡ release_bytes 1 (names_in s) (roles_in s) (axioms_on side s)
  new_is = ap₂ (λ (n m : ℕ). release_bytes 1 n m cl) between.names between.roles ∙ ap (release_bytes 1 (names_in s) (roles_in s)) same

  back_file : with_file side (holding (release_bytes 1 (names_in t) (roles_in t) cl) (file_on side t)) t ≡ with_result t.result (with_file side again s)
  back_file =
      ap (λ (g : HeldFile). with_file side g t) (ap₂ holding new_is file_is)
      ∙ (ap (with_file side again) there.session
      ∙ (result_beside side again t.result (with_file side middle s)
      ∙ ap (with_result t.result) (file_twice side s again middle)))

  pub back_session : u ≡ with_result s.result (with_file side (holding (release_bytes 1 (names_in s) (roles_in s) (axioms_on side s))
      (holding (release_bytes 1 (names_in s) (roles_in s) bl) (file_on side s))) s)
  unfolding with_result
  back_session = back.session ∙ (ap (with_result u.result) back_file ∙ ap (λ (b : List ℕ). with_result b (with_file side again s)) same_result)
