-- A session that can be edited: what its test says of its files and its signature, and what its comparison promises.
--   Whole s           the files and the signature of a session that is not refused with 46
use mathlib.Core.Path.{◌≡◌, refl, sym, ap, ap₂, ◌∙◌}
use mathlib.Core.Bool.{Bool, true, false, ◌&&◌}
use mathlib.Core.Logic.{◌⊎◌, inl, inr}
use mathlib.Core.List.{List}
use Prim.Native.Nat.{ℕ, ◌+◌, ◌*◌, ◌≤◌}
use native.Mathlib.Omega.{arith}
use borrow.Author.Tests.{leb-true, le-leb, eqb-true, eq-eqb, ne_eqb}
use lib.Dec.{eqb, leb}
use lib.ListN.{length, take}
use Rattle.std.specs.Prelude.{Result, Ok, Err}
use Rattle.el.proofs.Tests.{and_left, and_right}
use Rattle.release.specs.Files.{most_roles, version_of, names_of, roles_of, accepted, fault}
use Rattle.release.specs.Readings.{counts_in}
use Rattle.release.specs.Refusals.{Numbers, answer}
use Rattle.release.specs.declared.Counts.{Counts}
use Rattle.release.proofs.Refusing.{is_refused, is_accepted}
use Rattle.signature.specs.Bytes.{signature_fault}
use Rattle.meanings.specs.Comparing.{Says}
use Rattle.meanings.specs.declared.Compared.{Compared}
use Rattle.meanings.specs.declared.refusals.CompareRefusal.{CompareRefusal}
use Rattle.splicing.specs.Places.{most_bytes}
use Rattle.splicing.proofs.Filed.{few_names, few_roles_of}
use Rattle.editing.specs.declared.held.HeldFile.{HeldFile}
use Rattle.editing.specs.declared.Session.{Session}
use Rattle.editing.specs.Sessions.{text_of, with_result, names_in, roles_in, signature_in, is_held, is_session}
use Rattle.editing.specs.Steps.{counted}
use Rattle.editing.specs.Judging.{Holds, Comparable, Compares}

-- a held file
module _ (f : HeldFile) where
  pub held_true : is_held f ≡ true → Holds f
  unfolding is_held
  held_true h =
      let rest = and_right (leb f.length most_bytes) (accepted (text_of f) && eqb (version_of (text_of f)) 1) h in
      record {
        fits = leb-true _ _ (and_left (leb f.length most_bytes) (accepted (text_of f) && eqb (version_of (text_of f)) 1) h);
        file = record {
          accepted = eqb-true (fault (text_of f)) 0 (and_left (accepted (text_of f)) (eqb (version_of (text_of f)) 1) rest);
          version = eqb-true (version_of (text_of f)) 1 (and_right (accepted (text_of f)) (eqb (version_of (text_of f)) 1) rest);
        };
      }

  pub true_held : Holds f → is_held f ≡ true
  unfolding is_held
  true_held h =
      let a : accepted (text_of f) ≡ true = eq-eqb (fault (text_of f)) 0 h.file.accepted in
      let v : eqb (version_of (text_of f)) 1 ≡ true = eq-eqb (version_of (text_of f)) 1 h.file.version in
      simp (le-leb f.length most_bytes h.fits, a, v)

-- a session
pub record Whole (s : Session) : Type 0 where
  pub first : Holds s.first
  pub second : Holds s.second
  pub names : names_in s ≡ names_of (text_of s.second)
  pub roles : roles_in s ≡ roles_of (text_of s.second)
  pub signature : signature_fault (names_in s) (roles_in s) (signature_in s) ≡ 0

module _ (s : Session) where
  abbrev same_names : Bool
  same_names = eqb (names_in s) (names_of (text_of s.second))

  abbrev same_roles : Bool
  same_roles = eqb (roles_in s) (roles_of (text_of s.second))

  abbrev signed : Bool
  signed = eqb (signature_fault (names_in s) (roles_in s) (signature_in s)) 0

  pub whole : is_session s ≡ true → Whole s
  unfolding is_session
  whole h =
      let h2 = and_right (is_held s.first) (is_held s.second && (same_names && (same_roles && signed))) h in
      let h3 = and_right (is_held s.second) (same_names && (same_roles && signed)) h2 in
      let h4 = and_right same_names (same_roles && signed) h3 in
      record {
        first = held_true s.first (and_left (is_held s.first) (is_held s.second && (same_names && (same_roles && signed))) h);
        second = held_true s.second (and_left (is_held s.second) (same_names && (same_roles && signed)) h2);
        names = eqb-true (names_in s) (names_of (text_of s.second)) (and_left same_names (same_roles && signed) h3);
        roles = eqb-true (roles_in s) (roles_of (text_of s.second)) (and_left same_roles signed h4);
        signature = eqb-true (signature_fault (names_in s) (roles_in s) (signature_in s)) 0 (and_right same_roles signed h4);
      }

  pub is_session_lem : Whole s → is_session s ≡ true
  unfolding is_session
  is_session_lem h =
      let n : same_names ≡ true = eq-eqb (names_in s) (names_of (text_of s.second)) h.names in
      let m : same_roles ≡ true = eq-eqb (roles_in s) (roles_of (text_of s.second)) h.roles in
      let g : signed ≡ true = eq-eqb (signature_fault (names_in s) (roles_in s) (signature_in s)) 0 h.signature in
      simp (true_held s.first h.first, true_held s.second h.second, n, m, g)

  -- by the counts of its files
  pub first_not : is_held s.first ≡ false → is_session s ≡ false
  unfolding is_session
  first_not h = simp h

  module _ {x : Counts} (first : (is_held s.first ≡ true) × (x ≡ counts_in (text_of s.first))) where
    x_names : x.names ≡ names_in s
    x_names = ap (λ (c : Counts). c.names) first.1

    x_roles : x.roles ≡ roles_in s
    x_roles = ap (λ (c : Counts). c.roles) first.1

    pub few : (x.names ≤ 127) × (x.roles ≤ 32)
    few =
        let file = (held_true s.first first.0).file in
        (omega (arith, x_names, few_names (text_of s.first) file.accepted file.version), omega (arith, x_roles, few_roles_of (text_of s.first) file.accepted file.version))

    pub second_not : is_held s.second ≡ false → is_session s ≡ false
    unfolding is_session
    second_not h = simp (first.0, h)

    module _ {y : Counts} (second : (is_held s.second ≡ true) × (y ≡ counts_in (text_of s.second))) where
      y_names : y.names ≡ names_of (text_of s.second)
      y_names = ap (λ (c : Counts). c.names) second.1

      y_roles : y.roles ≡ roles_of (text_of s.second)
      y_roles = ap (λ (c : Counts). c.roles) second.1

      pub counts_differ : (x.names ≡ y.names → ⊥) ⊎ ((x.names ≡ y.names) × (x.roles ≡ y.roles → ⊥)) → is_session s ≡ false
      unfolding is_session
      counts_differ (inl d) =
          let n : same_names ≡ false = ne_eqb (names_in s) (names_of (text_of s.second)) (λ e. d (x_names ∙ e ∙ sym y_names)) in
          simp (first.0, second.0, n)
      counts_differ (inr (e, d)) =
          let n : same_names ≡ true = eq-eqb (names_in s) (names_of (text_of s.second)) (sym x_names ∙ e ∙ y_names) in
          let m : same_roles ≡ false = ne_eqb (roles_in s) (roles_of (text_of s.second)) (λ i. d (x_roles ∙ i ∙ sym y_roles)) in
          simp (first.0, second.0, n, m)

      module _ (names : x.names ≡ y.names) (roles : x.roles ≡ y.roles) where
        n : same_names ≡ true
        n = eq-eqb (names_in s) (names_of (text_of s.second)) (sym x_names ∙ names ∙ y_names)

        m : same_roles ≡ true
        m = eq-eqb (roles_in s) (roles_of (text_of s.second)) (sym x_roles ∙ roles ∙ y_roles)

        fault_is : signature_fault x.names x.roles (take (x.names + x.roles) s.signature) ≡ signature_fault (names_in s) (roles_in s) (signature_in s)
        fault_is = ap₂ (λ (i j : ℕ). signature_fault i j (take (i + j) s.signature)) x_names x_roles

        pub signature_not : (k : Numbers) → Err k ≡ answer 0 (signature_fault x.names x.roles (take (x.names + x.roles) s.signature)) (tt {0}) → is_session s ≡ false
        unfolding is_session
        signature_not k h =
            let r = is_refused 0 (signature_fault x.names x.roles (take (x.names + x.roles) s.signature)) (tt {0}) k h in
            let z : signed ≡ false = ne_eqb (signature_fault (names_in s) (roles_in s) (signature_in s)) 0 (λ e. omega (arith, r.1, fault_is, e)) in
            simp (first.0, second.0, n, m, z)

        pub session_yes : Ok (tt {0}) ≡ answer 0 (signature_fault x.names x.roles (take (x.names + x.roles) s.signature)) (tt {0})
            → (is_session s ≡ true) × ◌≡◌ {A = Compared} (record { names = x.names; roles = x.roles }) (counted s)
        unfolding is_session
        session_yes h =
            let r = is_accepted 0 (signature_fault x.names x.roles (take (x.names + x.roles) s.signature)) (tt {0}) (tt {0}) h in
            let z : signed ≡ true = eq-eqb (signature_fault (names_in s) (roles_in s) (signature_in s)) 0 (sym fault_is ∙ r.0) in
            (simp (first.0, second.0, n, m, z), ap₂ (λ (i j : ℕ). record { names = i; roles = j }) x_names x_roles)

  -- its comparison
  pub compared : {c : Compared} {x y g bytes p q w v : List ℕ} {r : Result Compared CompareRefusal} {k : ℕ} → Comparable s c → x ≡ text_of s.first → y ≡ text_of s.second → k ≡ c.names + c.roles
      → g ≡ take k s.signature → most_roles * most_roles ≤ length p → Says x y g s.result bytes p q w v r → Compares s (with_result bytes s) w v r
  unfolding with_result
  compared {c} {x} {y} {g} {bytes} {p} {q} {w} {v} {r} h e f i j enough says =
      let chosen : g ≡ signature_in s = j ∙ ap (λ (l : ℕ). take l s.signature) (i ∙ ap₂ (λ (n m : ℕ). n + m) h.names h.roles) in
      record { roles_lent = p; role_result = q; enough = enough; says = rw (e, f, chosen) at says; kept = refl }
