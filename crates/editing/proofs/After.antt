-- A session after an edit: it can be edited again, and only the axioms on the side are others.
--   Follows side al s t     t has the axioms al on a side, and else what s has
--   following               so it is where the file of axioms that meet no 15 is put into a session that can be edited
--   edited, follows         an accepted step's outcome, with that, is what the step promises, and the promise tells it
use mathlib.Core.Path.{◌≡◌, refl, sym, ap, ap₂, subst, ◌∙◌}
use mathlib.Core.Bool.{Bool, true, false}
use mathlib.Core.Logic.{◌⊎◌, inl, inr}
use mathlib.Core.List.{List}
use Prim.Native.Nat.{ℕ, ◌+◌}
use lib.Dec.{eqb}
use lib.ListN.{take}
use Rattle.el.specs.Lists.{pick}
use Rattle.el.specs.Axioms.{Axiom}
use Rattle.el.specs.Comparison.{AreBytes}
use Rattle.el.specs.NoPairs.{without}
use Rattle.release.specs.Files.{names_of, roles_of, axioms_of, conjunct_defined}
use Rattle.signature.specs.Bytes.{signature_fault, signature_of}
use Rattle.rewriting.specs.Bytes.{release_bytes}
use Rattle.splicing.specs.Places.{IsFile}
use Rattle.splicing.proofs.Filed.{Filed}
use Rattle.editing.specs.declared.held.HeldFile.{HeldFile}
use Rattle.editing.specs.declared.Session.{Session}
use Rattle.editing.specs.Sessions.{text_of, holding, on_side, file_on, with_file, with_result, names_in, roles_in, axioms_on, signature_in, is_session}
use Rattle.editing.specs.Steps.{Edited}
use Rattle.editing.specs.Judging.{Holds}
use Rattle.editing.proofs.Sessions.{Whole, is_session_lem}
use Rattle.editing.proofs.Finishing.{holding_text, Outcome}

pub record Follows (side : ℕ) (al : List Axiom) (s t : Session) : Type 0 where
  pub valid : is_session t ≡ true
  pub names : names_in t ≡ names_in s
  pub roles : roles_in t ≡ roles_in s
  pub signature : signature_in t ≡ signature_in s
  pub axioms : axioms_on side t ≡ al
  pub one : axioms_on 1 t ≡ on_side side al (axioms_on 1 s)
  pub two : axioms_on 2 t ≡ on_side side (axioms_on 2 s) al

module _ (s : Session) (whole : Whole s) (al : List Axiom) (filed : Filed (names_in s) (roles_in s) al (release_bytes 1 (names_in s) (roles_in s) al)) (plain : conjunct_defined al ≡ false) where
  abbrev file : List ℕ
  file = release_bytes 1 (names_in s) (roles_in s) al

  file_held : (f : HeldFile) → Holds (holding file f)
  unfolding holding
  file_held f =
      let is_file : IsFile file = record { accepted = filed.fault_is ∙ rw plain; version = filed.version } in
      record { fits = filed.short; file = subst IsFile (sym (holding_text file f)) is_file }

  module _ (bs : List ℕ) where
    on_first : Follows 1 al s (with_result bs (with_file 1 (holding file (file_on 1 s)) s))
    unfolding with_result with_file file_on
    on_first =
        let is = holding_text file s.first in
        let n : names_of (text_of (holding file s.first)) ≡ names_in s = ap names_of is ∙ filed.names in
        let m : roles_of (text_of (holding file s.first)) ≡ roles_in s = ap roles_of is ∙ filed.roles in
        let t : Session = with_result bs (with_file 1 (holding file (file_on 1 s)) s) in
        let signed : signature_fault (names_in t) (roles_in t) (take (names_in t + roles_in t) s.signature) ≡ 0 = rw (n, m) whole.signature in
        record {
          valid = is_session_lem t (record { first = file_held s.first; second = whole.second; names = n ∙ whole.names; roles = m ∙ whole.roles; signature = signed });
          names = n;
          roles = m;
          signature = ap₂ (λ (x y : ℕ). take (x + y) s.signature) n m;
          axioms = ap axioms_of is ∙ filed.axioms;
          one = ap axioms_of is ∙ filed.axioms;
          two = refl;
        }

    on_second : Follows 2 al s (with_result bs (with_file 2 (holding file (file_on 2 s)) s))
    unfolding with_result with_file file_on
    on_second =
        let is = holding_text file s.second in
        let t : Session = with_result bs (with_file 2 (holding file (file_on 2 s)) s) in
        record {
          valid = is_session_lem t (record {
            first = whole.first;
            second = file_held s.second;
            names = sym (ap names_of is ∙ filed.names);
            roles = sym (ap roles_of is ∙ filed.roles);
            signature = whole.signature;
          });
          names = refl;
          roles = refl;
          signature = refl;
          axioms = ap axioms_of is ∙ filed.axioms;
          one = refl;
          two = ap axioms_of is ∙ filed.axioms;
        }

    pub following : (side : ℕ) → (side ≡ 1) ⊎ (side ≡ 2) → Follows side al s (with_result bs (with_file side (holding file (file_on side s)) s))
    following side (inl e) = rw e on_first
    following side (inr e) = rw e on_second

-- the bytes b start with those of comparing the axioms x with y, for n names, m roles and the signature g
abbrev pub Start : ℕ → ℕ → List ℕ → List Axiom → List Axiom → List ℕ → Type 0
Start n m g x y b = AreBytes n (signature_of n m g) (without x) (without y) (take n b)

pub start_as : {n m i j : ℕ} {g h : List ℕ} {x y z w : List Axiom} (b : List ℕ) → n ≡ i → m ≡ j → g ≡ h → x ≡ z → y ≡ w → Start n m g x y b → Start i j h z w b
start_as {n} {m} {i} {j} {g} {h} {x} {y} {z} {w} b e f k p q are =
    subst (λ (a : ℕ). Start a j h z w b) e
    (subst (λ (a : ℕ). Start n a h z w b) f
    (subst (λ (a : List ℕ). Start n m a z w b) k
    (subst (λ (a : List Axiom). Start n m g a w b) p
    (subst (λ (a : List Axiom). Start n m g x a b) q are))))

module _ {side : ℕ} {al : List Axiom} {s t : Session} where
  pub edited : Outcome side al s t → Follows side al s t → Edited side al s t
  edited o f = record {
    session = o.session;
    past = o.past;
    valid = f.valid;
    names = f.names;
    roles = f.roles;
    axioms = f.axioms;
    current = record { bytes = start_as t.result (sym f.names) (sym f.roles) (sym f.signature) (sym f.one) (sym f.two) o.bytes };
  }

  pub follows : (side ≡ 1) ⊎ (side ≡ 2) → Edited side al s t → Follows side al s t
  unfolding with_result with_file file_on
  follows is e =
      let chosen : t.signature ≡ s.signature = ap (λ (x : Session). x.signature) e.session in
      let sides = by_side side is e.session e.axioms in
      record {
        valid = e.valid;
        names = e.names;
        roles = e.roles;
        signature = ap₂ take (ap₂ (λ (x y : ℕ). x + y) e.names e.roles) chosen;
        axioms = e.axioms;
        one = sides.0;
        two = sides.1;
      }
    where
      by_side : (x : ℕ) → (x ≡ 1) ⊎ (x ≡ 2) → t ≡ with_result t.result (with_file x (holding (release_bytes 1 (names_in s) (roles_in s) al) (file_on x s)) s) → axioms_on x t ≡ al
          → (axioms_on 1 t ≡ on_side x al (axioms_on 1 s)) ×
          (axioms_on 2 t ≡ on_side x (axioms_on 2 s) al)
      by_side x (inl i) h k = rw i (rw i at k, ap (λ (y : Session). axioms_of (text_of y.second)) (rw i at h))
      by_side x (inr i) h k = rw i (ap (λ (y : Session). axioms_of (text_of y.first)) (rw i at h), rw i at k)

-- the files of a session, put and taken
module _ (side : ℕ) (s : Session) where
  pub file_there : (f : HeldFile) → file_on side (with_file side f s) ≡ f
  unfolding file_on with_file
  file_there f = go (eqb side 1)
    where
      go : (b : Bool) → pick b (pick b f s.first) (pick b s.second f) ≡ f
      go true = refl
      go false = refl

  pub file_twice : (f g : HeldFile) → with_file side f (with_file side g s) ≡ with_file side f s
  unfolding with_file
  file_twice f g = go (eqb side 1)
    where
      go : (b : Bool) → ◌≡◌ {A = Session} (record { first = pick b f (pick b g s.first); second = pick b (pick b s.second g) f; signature = s.signature; result = s.result })
          (record { first = pick b f s.first; second = pick b s.second f; signature = s.signature; result = s.result })
      go true = refl
      go false = refl

  pub file_again : with_file side (file_on side s) s ≡ s
  unfolding with_file file_on
  file_again = go (eqb side 1)
    where
      go : (b : Bool) → ◌≡◌ {A = Session} (record {
        first = pick b (pick b s.first s.second) s.first;
        second = pick b s.second (pick b s.first s.second);
        signature =
            s.signature;
        result = s.result;
      }) s
      go true = refl
      go false = refl
