-- The steps: which refusal each test tells, and what the comparison at the end promises.
--   Edits side s          there is such a side, and the session can be edited
--   tried_refused, tried  a step in place, refused before its comparison, and by what that ended with
--   finishes              the end of a step, on either side
--   add_accepted, withdraw_accepted   what makes a step not refused
use mathlib.Core.Path.{◌≡◌, refl, sym, ap, ap₂, subst, ◌∙◌}
use mathlib.Core.Bool.{Bool, true, false, ◌&&◌, ◌||◌}
use mathlib.Core.Logic.{◌⊎◌, inl, inr}
use mathlib.Core.List.{List}
use Prim.Native.Nat.{ℕ, ◌≤◌, ◌<◌}
use native.Mathlib.Omega.{arith}
use borrow.Author.Tests.{le-leb, lt-leb, le-ltb, eq-eqb, ne_eqb, eqb-true, not-false}
use lib.Dec.{eqb, ltb}
use lib.ListN.{length}
use Rattle.std.specs.Prelude.{Result, Ok, Err}
use Rattle.el.specs.Lists.{pick}
use Rattle.el.specs.Axioms.{Axiom}
use Rattle.el.proofs.Tests.{and_left, and_right, and_both}
use Rattle.release.specs.Files.{names_of, roles_of, axioms_of, conjunct_defined}
use Rattle.release.specs.Refusals.{Numbers, told, answer}
use Rattle.release.specs.declared.ConceptName.{ConceptName}
use Rattle.release.proofs.Linked.{no_conjunct_defined}
use Rattle.release.proofs.Refusing.{is_refused, is_accepted}
use Rattle.rewriting.specs.Bytes.{release_bytes}
use Rattle.meanings.specs.Comparing.{work_length, refused}
use Rattle.meanings.specs.Refusals.{compare_refusal}
use Rattle.meanings.specs.declared.Compared.{Compared}
use Rattle.meanings.specs.declared.refusals.CompareRefusal.{CompareRefusal}
use Rattle.splicing.specs.Axioms.{has, inserted, withdrawn}
use Rattle.splicing.specs.Places.{IsFile, text_fault, axiom_in, name_in, file_of, file_with, file_without}
use Rattle.splicing.proofs.Filed.{Filed, few_names, few_roles_of, still_plain}
use Rattle.splicing.proofs.Rising.{left_small}
use Rattle.splicing.proofs.Splices.{rising, text_source, filed_with, filed_without}
use Rattle.editing.specs.declared.held.HeldFile.{HeldFile}
use Rattle.editing.specs.declared.Session.{Session}
use Rattle.editing.specs.declared.refusals.EditRefusal.{EditRefusal}
use Rattle.editing.specs.declared.refusals.EditRefusal.TheVariants.{Comparison}
use Rattle.editing.specs.declared.sides.Side.{Side}
use Rattle.editing.specs.declared.sides.Side.TheVariants.{First, Second}
use Rattle.editing.specs.Refusals.{side_number, edit_refusal}
use Rattle.editing.specs.Sessions.{result_room, text_of, holding, is_side, file_on, with_file, names_in, roles_in, axioms_on, is_session}
use Rattle.editing.specs.Steps.{Refusals, refusal, first_named, add_refusals, withdraw_refusals, counted, Edited}
use Rattle.editing.specs.Judging.{Editable, Holds, Adds, Withdraws, Comparable, Compares, Tries}
use Rattle.editing.proofs.Sessions.{Whole, whole}
use Rattle.editing.proofs.Finishing.{Finishes, finishes_1, finishes_2, holding_text}
use Rattle.editing.proofs.After.{Follows, following, edited}

pub record Edits (side : ℕ) (s : Session) : Type 0 where
  pub side_is : is_side side ≡ true
  pub valid : is_session s ≡ true

pub edits : (side : ℕ) (s : Session) → is_side side && is_session s ≡ true → Edits side s
edits side s h = record { side_is = and_left (is_side side) (is_session s) h; valid = and_right (is_side side) (is_session s) h }

-- what the test of a session and a side gives
module _ {side : ℕ} {s : Session} {d : Side} {c : Compared} (h : Editable side s d c) where
  pub editable : Edits side s
  editable = record { side_is = by_side d (sym h.number); valid = h.valid }
    where
      by_side : (e : Side) → side ≡ side_number e → is_side side ≡ true
      by_side First i = rw i
      by_side Second i = rw i

  pub names_are : c.names ≡ names_in s
  names_are = ap (λ (e : Compared). e.names) h.is

  pub roles_are : c.roles ≡ roles_in s
  roles_are = ap (λ (e : Compared). e.roles) h.is

  pub file_is : {f : HeldFile} → f ≡ file_on (side_number d) s → f ≡ file_on side s
  file_is e = e ∙ ap (λ (k : ℕ). file_on k s) h.number

  pub session_is : (f : HeldFile) {t : Session} → t ≡ with_file (side_number d) f s → t ≡ with_file side f s
  session_is f e = e ∙ ap (λ (k : ℕ). with_file k f s) h.number

-- the side of a session that can be edited
pub record OnSide (side : ℕ) (s : Session) : Type 0 where
  pub holds : Holds (file_on side s)
  pub names : names_of (text_of (file_on side s)) ≡ names_in s
  pub roles : roles_of (text_of (file_on side s)) ≡ roles_in s

either_side : (side : ℕ) → is_side side ≡ true → (side ≡ 1) ⊎ (side ≡ 2)
either_side side h = by_test (eqb side 1) refl h
  where
    by_test : (b : Bool) → eqb side 1 ≡ b → b || eqb side 2 ≡ true → (side ≡ 1) ⊎ (side ≡ 2)
    by_test true i z = inl (eqb-true side 1 i)
    by_test false i z = inr (eqb-true side 2 z)

side_of : (side : ℕ) (s : Session) → (side ≡ 1) ⊎ (side ≡ 2) → Whole s → OnSide side s
unfolding file_on
side_of side s (inl e) h = rw e (record { holds = h.first; names = refl; roles = refl })
side_of side s (inr e) h = rw e (record { holds = h.second; names = sym h.names; roles = sym h.roles })

module _ {side : ℕ} {s : Session} (h : Edits side s) where
  pub which : (side ≡ 1) ⊎ (side ≡ 2)
  which = either_side side h.side_is

  pub valid : is_side side && is_session s ≡ true
  valid = and_both h.side_is h.valid

  pub all_held : Whole s
  all_held = whole s h.valid

  pub side_held : OnSide side s
  side_held = side_of side s which all_held

  pub few_names_in : names_in s ≤ 127
  few_names_in = few_names (text_of s.first) all_held.first.file.accepted all_held.first.file.version

  pub few_roles_in : roles_in s ≤ 32
  few_roles_in = few_roles_of (text_of s.first) all_held.first.file.accepted all_held.first.file.version

  pub held_file : {f : HeldFile} → f ≡ file_on side s → IsFile (text_of f)
  held_file e = rw e side_held.holds.file

  module _ (al : List Axiom) where
    abbrev file : List ℕ
    file = release_bytes 1 (names_in s) (roles_in s) al

    pub side_file : file_of (text_of (file_on side s)) al ≡ file
    unfolding file_of
    side_file = ap₂ (λ (n m : ℕ). release_bytes 1 n m al) side_held.names side_held.roles

    pub side_filed : Filed (names_of (text_of (file_on side s))) (roles_of (text_of (file_on side s))) al (file_of (text_of (file_on side s)) al)
        → Filed (names_in s) (roles_in s) al file
    side_filed k = rw (side_held.names, side_held.roles) at (subst (Filed (names_of (text_of (file_on side s))) (roles_of (text_of (file_on side s))) al) side_file k)

    module _ (filed : Filed (names_in s) (roles_in s) al file) where
      abbrev between : Session
      between = with_file side (holding file (file_on side s)) s

      pub comparable : {c : Compared} → c.names ≡ names_in s → c.roles ≡ roles_in s → Comparable between c
      unfolding with_file file_on
      comparable {c} e f = by_side (eqb side 1)
        where
          by_side : (b : Bool) → Comparable (record {
            first = pick b (holding file (pick b s.first s.second)) s.first;
            second = pick b s.second (holding file (pick b s.first s.second));
            signature = s.signature;
            result = s.result;
          }) c
          by_side true =
              let is = holding_text file s.first in
              record { names = e ∙ sym (ap names_of is ∙ filed.names); roles = f ∙ sym (ap roles_of is ∙ filed.roles); few = omega (arith, e, f, few_names_in, few_roles_in) }
          by_side false = record { names = e; roles = f; few = omega (arith, e, f, few_names_in, few_roles_in) }

      module _ (long : length s.result ≡ result_room) {t : Session} {w v : List ℕ} {r : Result Compared CompareRefusal} where
        finishes : Compares between t w v r → Finishes side al s t w v r
        finishes = by_side side which
          where
            by_side : (x : ℕ) → (x ≡ 1) ⊎ (x ≡ 2) → Compares (with_file x (holding file (file_on x s)) s) t w v r → Finishes x al s t w v r
            by_side x (inl e) k = rw e (finishes_1 s all_held long al filed (rw e at k))
            by_side x (inr e) k = rw e (finishes_2 s all_held long al filed (rw e at k))

        -- with its refusals before 15, which are not met
        module _ (refusals : Refusals)
            (named : first_named refusals (Ok (counted s)) ≡ pick (conjunct_defined al) (refused 15 side) (pick (ltb (length w) (work_length (names_in s))) (refused 32 0) (Ok (counted s))))
            (compares : Compares between t w v r) where
          abbrev end : Finishes side al s t w v r
          end = finishes compares

          plain : {c : Compared} → r ≡ Ok c → conjunct_defined al ≡ false
          plain {c} i = by_test (conjunct_defined al) refl (sym (ap (told compare_refusal) i) ∙ end.answer)
            where
              by_test : (b : Bool) → conjunct_defined al ≡ b → Ok c ≡ pick b (refused 15 side) (pick (ltb (length w) (work_length (names_in s))) (refused 32 0) (Ok (counted s)))
                  → conjunct_defined al ≡ false
              by_test true e z = absurd (cc)
              by_test false e z = e

          step_edits : {c : Compared} → r ≡ Ok c → Edited side al s t
          step_edits i =
              let outcome = end.accepted i in
              edited outcome (subst (Follows side al s) (sym outcome.session) (following s all_held al filed (plain i) t.result side which))

          pub tried_short : {k : CompareRefusal} → r ≡ Err k → Tries refusals side al s t w v (Err (Comparison k))
          tried_short i = record {
            answer = sym (ap (told compare_refusal) i) ∙ end.answer ∙ sym named;
            refused_work = λ _. end.refused_work i;
            accepted = λ z. absurd (cc);
            cleared = λ z. absurd (cc);
          }

          pub tried : {c : Compared} → r ≡ Ok c → Tries refusals side al s t w v (Ok c)
          tried i = record {
            answer = sym (ap (told compare_refusal) i) ∙ end.answer ∙ sym named;
            refused_work = λ z. absurd (cc);
            accepted = λ _. step_edits i;
            cleared = λ _. end.cleared i;
          }

-- a step refused before its comparison
pub tried_refused : (refusals : Refusals) (side : ℕ) (al : List Axiom) (s t : Session) (w : List ℕ) {k : EditRefusal} → Err (edit_refusal k) ≡ first_named refusals (Ok (counted s))
    → Tries refusals side al s t w w (Err k)
tried_refused refusals side al s t w h = record { answer = h; refused_work = λ _. refl; accepted = λ z. absurd (cc); cleared = λ z. absurd (cc) }

-- the last conditions of a step with the axioms al on the side, and k work bytes
abbrev ends : ℕ → Session → List Axiom → ℕ → Result Compared Numbers
ends side s al k = pick (conjunct_defined al) (refused 15 side) (pick (ltb k (work_length (names_in s))) (refused 32 0) (Ok (counted s)))

-- not refused: the first condition does not hold, and the others name nothing
pub passed : {c : Compared} (b : Bool) (k : Numbers) (rest : Result Compared Numbers) → pick b (Err k) rest ≡ Ok c → (b ≡ false) × (rest ≡ Ok c)
passed true k rest h = absurd (cc)
passed false k rest h = (refl, h)

-- adding
module _ (side : ℕ) (text : List ℕ) (w : ℕ) (s : Session) where
  abbrev added : List Axiom
  added = inserted (axiom_in text) (axioms_on side s)

  abbrev adding : Result Compared Numbers
  adding = first_named (add_refusals side text w s) (Ok (counted s))

  pub add_46 : is_side side && is_session s ≡ false → Err (refusal 46 0) ≡ adding
  unfolding add_refusals
  add_46 e = sym (simp e)

  module _ (h : Edits side s) where
    pub add_fault : {n m : ℕ} (k : Numbers) → n ≡ names_in s → m ≡ roles_in s → Err k ≡ answer 1 (text_fault n m text) (name_in text) → {x : Numbers}
        → x ≡ record { number = k.number; side = side } → Err x ≡ adding
    unfolding add_refusals
    add_fault {n} {m} k e f i {x} j =
        let r = is_refused 1 (text_fault (names_in s) (roles_in s) text) (name_in text) k (rw (e, f) at i) in
        let z : eqb (text_fault (names_in s) (roles_in s) text) 0 ≡ false = ne_eqb (text_fault (names_in s) (roles_in s) text) 0 (λ y. omega (arith, r.1, y)) in
        let same : x ≡ refusal (text_fault (names_in s) (roles_in s) text) side = j ∙ ap (λ (a : Numbers). record { number = a.number; side = side }) r.0 in
        rw same (sym (simp (valid h, z)))

    module _ {n m : ℕ} {x : ConceptName} (e : n ≡ names_in s) (f : m ≡ roles_in s) (read : Ok x ≡ answer 1 (text_fault n m text) (name_in text)) where
      met : (text_fault (names_in s) (roles_in s) text ≡ 0) × (x ≡ name_in text)
      met = is_accepted 1 (text_fault (names_in s) (roles_in s) text) (name_in text) x (rw (e, f) at read)

      passes : eqb (text_fault (names_in s) (roles_in s) text) 0 ≡ true
      passes = eq-eqb (text_fault (names_in s) (roles_in s) text) 0 met.0

      pub name_small : x.0 ≤ 255
      name_small = rw met.1 (omega (arith, few_names_in h, left_small (text_source (names_in s) (roles_in s) text met.0)))

      module _ {g : HeldFile} (held : g ≡ file_on side s) {b : Bool} (looked : b ≡ has x.0 (axioms_of (text_of g))) where
        has_is : b ≡ has (axiom_in text).left (axioms_on side s)
        has_is = looked ∙ ap₂ (λ (y : ConceptName) (f : HeldFile). has y.0 (axioms_of (text_of f))) met.1 held

        pub add_47 : b ≡ true → {k : Numbers} → k ≡ refusal 47 side → Err k ≡ adding
        unfolding add_refusals
        add_47 i j =
            let z : has (axiom_in text).left (axioms_on side s) ≡ true = sym has_is ∙ i in
            rw j (sym (simp (valid h, passes, z)))

        module _ (i : b ≡ false) where
          free : has (axiom_in text).left (axioms_on side s) ≡ false
          free = sym has_is ∙ i

          ok : text_fault (names_of (text_of (file_on side s))) (roles_of (text_of (file_on side s))) text ≡ 0
          ok = rw ((side_held h).names, (side_held h).roles) met.0

          pub add_asks : Adds g text
          add_asks = subst (λ (f : HeldFile). Adds f text) (sym held) (record { holds = (side_held h).holds; accepted = ok; free = free })

          add_filed : Filed (names_in s) (roles_in s) added (release_bytes 1 (names_in s) (roles_in s) added)
          add_filed = side_filed h added (filed_with text (side_held h).holds.file ok free)

          add_named : adding ≡ ends side s added w
          unfolding add_refusals
          add_named = simp (valid h, passes, free)

          module _ {changed : HeldFile} {y : Session} (put : changed ≡ holding (file_with (text_of g) text) g) (is : y ≡ with_file side changed s) where
            add_session : y ≡ with_file side (holding (release_bytes 1 (names_in s) (roles_in s) added) (file_on side s)) s
            add_session = is ∙ ap (λ (x : HeldFile). with_file side x s)
                (put ∙ ap (λ (x : HeldFile). holding (file_with (text_of x) text) x) held ∙ ap (λ (x : List ℕ). holding x (file_on side s)) (side_file h added))

            pub add_comparable : {c : Compared} → c.names ≡ names_in s → c.roles ≡ roles_in s → Comparable y c
            add_comparable {c} i j = subst (λ (x : Session). Comparable x c) (sym add_session) (comparable h added add_filed i j)

            module _ (long : length s.result ≡ result_room) {t : Session} {u v : List ℕ} (enough : w ≡ length u) {r : Result Compared CompareRefusal} (compares : Compares y t u v r) where
              pub add_short : {k : CompareRefusal} → r ≡ Err k → Tries (add_refusals side text w s) side added s t u v (Err (Comparison k))
              add_short i = tried_short h added add_filed long (add_refusals side text w s) (add_named ∙ ap (ends side s added) enough)
                  (subst (λ (x : Session). Compares x t u v r) add_session compares) i

              pub add_done : {c : Compared} → r ≡ Ok c → Tries (add_refusals side text w s) side added s t u v (Ok c)
              add_done i = tried h added add_filed long (add_refusals side text w s) (add_named ∙ ap (ends side s added) enough) (subst (λ (x : Session). Compares x t u v r) add_session compares) i

-- withdrawing
module _ (side x w : ℕ) (s : Session) where
  abbrev left : List Axiom
  left = withdrawn x (axioms_on side s)

  abbrev withdrawing : Result Compared Numbers
  withdrawing = first_named (withdraw_refusals side x w s) (Ok (counted s))

  pub withdraw_46 : is_side side && is_session s ≡ false → Err (refusal 46 0) ≡ withdrawing
  unfolding withdraw_refusals
  withdraw_46 e = sym (simp e)

  module _ (h : Edits side s) where
    pub withdraw_9 : names_in s ≤ x → {k : Numbers} → k ≡ refusal 9 side → Err k ≡ withdrawing
    unfolding withdraw_refusals
    withdraw_9 l j = rw j (sym (simp (valid h, le-leb (names_in s) x l)))

    module _ (small : x < names_in s) where
      pub few_x : x ≤ 255
      few_x = omega (arith, few_names_in h)

      module _ {g : HeldFile} (held : g ≡ file_on side s) {b : Bool} (looked : b ≡ has x (axioms_of (text_of g))) where
        taken_is : b ≡ has x (axioms_on side s)
        taken_is = looked ∙ ap (λ (f : HeldFile). has x (axioms_of (text_of f))) held

        pub withdraw_48 : b ≡ false → {k : Numbers} → k ≡ refusal 48 side → Err k ≡ withdrawing
        unfolding withdraw_refusals
        withdraw_48 i j =
            let z : has x (axioms_on side s) ≡ false = sym taken_is ∙ i in
            rw j (sym (simp (valid h, lt-leb (names_in s) x small, z)))

        module _ (i : b ≡ true) where
          taken : has x (axioms_on side s) ≡ true
          taken = sym taken_is ∙ i

          pub withdraw_asks : Withdraws g x
          withdraw_asks = subst (λ (f : HeldFile). Withdraws f x) (sym held) (record { holds = (side_held h).holds; taken = taken })

          left_filed : Filed (names_in s) (roles_in s) left (release_bytes 1 (names_in s) (roles_in s) left)
          left_filed = side_filed h left (filed_without x (side_held h).holds.file)

          left_plain : conjunct_defined left ≡ false
          left_plain = let file = (side_held h).holds.file in still_plain x (rising (text_of (file_on side s)) file) (no_conjunct_defined (text_of (file_on side s)) file.accepted)

          withdraw_named : withdrawing ≡ ends side s left w
          unfolding withdraw_refusals
          withdraw_named = simp (valid h, lt-leb (names_in s) x small, taken, left_plain)

          module _ {changed : HeldFile} {y : Session} (put : changed ≡ holding (file_without (text_of g) x) g) (is : y ≡ with_file side changed s) where
            withdraw_session : y ≡ with_file side (holding (release_bytes 1 (names_in s) (roles_in s) left) (file_on side s)) s
            withdraw_session = is ∙ ap (λ (z : HeldFile). with_file side z s)
                (put ∙ ap (λ (z : HeldFile). holding (file_without (text_of z) x) z) held ∙ ap (λ (z : List ℕ). holding z (file_on side s)) (side_file h left))

            pub withdraw_comparable : {c : Compared} → c.names ≡ names_in s → c.roles ≡ roles_in s → Comparable y c
            withdraw_comparable {c} i j = subst (λ (z : Session). Comparable z c) (sym withdraw_session) (comparable h left left_filed i j)

            module _ (long : length s.result ≡ result_room) {t : Session} {u v : List ℕ} (enough : w ≡ length u) {r : Result Compared CompareRefusal} (compares : Compares y t u v r) where
              pub withdraw_short : {k : CompareRefusal} → r ≡ Err k → Tries (withdraw_refusals side x w s) side left s t u v (Err (Comparison k))
              withdraw_short i =
                  tried_short h left left_filed long (withdraw_refusals side x w s) (withdraw_named ∙ ap (ends side s left) enough)
                  (subst (λ (z : Session). Compares z t u v r) withdraw_session compares) i

              pub withdraw_done : {c : Compared} → r ≡ Ok c → Tries (withdraw_refusals side x w s) side left s t u v (Ok c)
              withdraw_done i =
                  tried h left left_filed long (withdraw_refusals side x w s) (withdraw_named ∙ ap (ends side s left) enough) (subst (λ (z : Session). Compares z t u v r) withdraw_session compares) i

-- what is told of a step that is not refused
pub record Added (side : ℕ) (text : List ℕ) (s : Session) : Type 0 where
  pub valid : is_side side && is_session s ≡ true
  pub met : text_fault (names_in s) (roles_in s) text ≡ 0
  pub free : has (axiom_in text).left (axioms_on side s) ≡ false
  pub plain : conjunct_defined (inserted (axiom_in text) (axioms_on side s)) ≡ false

pub add_told : (side : ℕ) (text : List ℕ) (w : ℕ) (s : Session) {c : Compared} → first_named (add_refusals side text w s) (Ok (counted s)) ≡ Ok c → Added side text s
unfolding add_refusals
add_told side text w s h =
    let a = passed _ _ _ h in
    let b = passed _ _ _ a.1 in
    let d = passed _ _ _ b.1 in
    let e = passed _ _ _ d.1 in
    record { valid = not-false _ a.0; met = eqb-true _ 0 (not-false _ b.0); free = d.0; plain = e.0 }

-- and with what it is not refused
pub add_accepted : (side : ℕ) (text : List ℕ) (w : ℕ) (s : Session) → Added side text s → work_length (names_in s) ≤ w
    → first_named (add_refusals side text w s) (Ok (counted s)) ≡ Ok (counted s)
unfolding add_refusals
add_accepted side text w s h enough =
    let passes : eqb (text_fault (names_in s) (roles_in s) text) 0 ≡ true = eq-eqb (text_fault (names_in s) (roles_in s) text) 0 h.met in
    simp (h.valid, passes, h.free, h.plain, le-ltb w (work_length (names_in s)) enough)

pub withdraw_accepted : (side x w : ℕ) (s : Session) → is_side side && is_session s ≡ true → x < names_in s → has x (axioms_on side s) ≡ true → work_length (names_in s) ≤ w
    → first_named (withdraw_refusals side x w s) (Ok (counted s)) ≡ Ok (counted s)
unfolding withdraw_refusals
withdraw_accepted side x w s valid small taken enough = simp (valid, lt-leb (names_in s) x small, taken, le-ltb w (work_length (names_in s)) enough)
